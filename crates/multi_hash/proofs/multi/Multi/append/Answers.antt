use Rattle.std.proofs.Common.{◌≡◌, ◌≢◌, ◌+◌, ◌*◌, ◌<◌, ◌≤◌, ◌++◌, ℕ, List, length, map, take, drop, get_or, refl, sym, ap, ◌∙◌}
use Rattle.std.proofs.Common.{arith, subst, []}
use Rattle.std.proofs.lemmas.List.{get_or-map}
use Rattle.bcodes.specs.Ranges.{load_limit}
use Rattle.bcodes.specs.Value.{CodeList, MultiValue, weight}
use Rattle.flip_walk.specs.Patterns.{times}
use Rattle.row_lists.specs.Put.{put_on}
use Rattle.multi_hash.specs.Inside.{map_at, lists_in, AreMaps, IsMulti}
use Rattle.multi_hash.specs.Room.{lists_under, marks, AreUndoable, IsRoomy}
use Rattle.multi_hash.proofs.MultiLemmas.{IsGrown, apart_lists, maps_placed, multi_added, multi_undone}
use Rattle.multi_hash.proofs.StoreLemmas.{written}
use Rattle.multi_hash.proofs.multi.Multi.append.Goals as goal

pub put_all-requires-clause-apart : goal.put_all-requires-clause-apart
put_all-requires-clause-apart g c =
    let i = c.self.inside in
    let new : List (List ℕ) = c.args.codes.now.codes in
    let n : ℕ = c.len.result in
    let lists : List ℕ = c.deref-in-Ok.result.now in
    let count : n ≡ length new = c.len.ensures.value in
    let all : c.len-nhash.result ≡ length c.store.new.maps = omega (
      arith,
      c.len-nhash.ensures,
      c.deref_mut.ensures.len,
      c.deref_mut.ensures.value,
      c.in-Ok.ensures.undo.count,
    ) in
    let some : 1 ≤ c.len-nhash.result = omega (
      arith,
      all,
      c.in-Ok.ensures.undo.count,
      ap length c.deref_mut.ensures.value,
      c.self.invariant.nhash_least,
    ) in
    let roomy : (j : ℕ) → j < c.len-nhash.result
    → IsRoomy j i.b c.store.new.maps new (lists_under lists n j) c.store.new.buckets = λ j low.
    subst (λ (l : List ℕ). IsRoomy j i.b c.store.new.maps new (lists_under l n j) c.store.new.buckets)
    (sym c.deref-in-Ok.ensures.value)
    (subst (λ (k : ℕ). IsRoomy j i.b c.store.new.maps new (lists_under c.in-Ok.room.lists.items k j) c.store.new.buckets)
    (sym count) (c.in-Ok.ensures.roomy j (omega (arith, all, c.in-Ok.ensures.undo.count)))) in
    apart_lists i.b c.in-Ok.room.keys n c.len-nhash.result i.storage.codes new c.store.new.maps c.store.new.buckets
    c.store.new.buckets lists count all some c.in-Ok.ensures.maps roomy

pub invariant_of-self : goal.invariant_of-self
invariant_of-self g c =
    let i = c.self.inside in
    let new : List (List ℕ) = c.args.codes.now.codes in
    let n : ℕ = c.len.result in
    let lists : List ℕ = c.deref-in-Ok.result.now in
    let count : n ≡ length new = c.len.ensures.value in
    let all : c.len-nhash.result ≡ length c.store.new.maps = omega (
      arith,
      c.len-nhash.ensures,
      c.deref_mut.ensures.len,
      c.deref_mut.ensures.value,
      c.in-Ok.ensures.undo.count,
    ) in
    let some : 1 ≤ c.len-nhash.result = omega (
      arith,
      all,
      c.in-Ok.ensures.undo.count,
      ap length c.deref_mut.ensures.value,
      c.self.invariant.nhash_least,
    ) in
    let roomy : (j : ℕ) → j < c.len-nhash.result
    → IsRoomy j i.b c.store.new.maps new (lists_under lists n j) c.store.new.buckets = λ j low.
    subst (λ (l : List ℕ). IsRoomy j i.b c.store.new.maps new (lists_under l n j) c.store.new.buckets)
    (sym c.deref-in-Ok.ensures.value)
    (subst (λ (k : ℕ). IsRoomy j i.b c.store.new.maps new (lists_under c.in-Ok.room.lists.items k j) c.store.new.buckets)
    (sym count) (c.in-Ok.ensures.roomy j (omega (arith, all, c.in-Ok.ensures.undo.count)))) in
    let old : List (List ℕ) = i.storage.codes in
    let after = c.store.new.maps in
    let q = c.put_all.new.buckets in
    let keys : ℕ = c.in-Ok.room.keys in
    let first : c.count-first.result ≡ length old = c.count-first.ensures in
    let rows : (j l : ℕ) → j < c.len-nhash.result
    → ((k : ℕ) → k < c.len-nhash.result → k ≢ j → times l (lists_under lists n k) ≡ 0)
    → lists_in q l ≡ lists_in c.store.new.buckets l ++ put_on l (lists_under lists n j) (marks (length old) n) = λ j l low
    alone. c.put_all.ensures.rows j l low alone
    ∙ ap (λ (f : ℕ). lists_in c.store.new.buckets l ++ put_on l (lists_under lists n j) (marks f n)) first in
    let maps : AreMaps i.b keys (λ j. old ++ new) (λ j. old ++ new) after (lists_in q)
    = maps_placed i.b keys n c.len-nhash.result old new after c.store.new.buckets q lists count all some
    c.in-Ok.ensures.maps roomy rows in
    let grown : IsGrown (length old) (length new) c.len-nhash.result i.buckets c.store.new.buckets q = record {
      rows = c.in-Ok.ensures.undo.rows;
      places = λ m l h. c.put_all.ensures.places m l (omega (arith, h, first, count));
      short = λ l. omega (
        arith,
        c.put_all.ensures.short l,
        ap (λ (k : ℕ). c.len-nhash.result * k) count,
      );
      lists = c.put_all.ensures.lists;
      size = c.put_all.ensures.size;
    } in
    let nhash_is : c.len-nhash.result ≡ length i.maps.items = omega (
      arith,
      all,
      c.in-Ok.ensures.undo.count,
      ap length c.deref_mut.ensures.value,
    ) in
    let load : weight i.storage.dim c.len-nhash.result (length old + length new) 0 ≤ load_limit
    = subst (λ (m : ℕ). weight i.storage.dim m (length old + length new) 0 ≤ load_limit) (sym nhash_is)
    (subst (λ (v : MultiValue). weight v.dim v.nhash (length v.codes + length new) 0 ≤ load_limit)
    (sym c.self.view_is) c.requires.load) in
    let stored : record i.storage { codes = old ++ new } ≡ c.store.new.storage = sym c.in-Ok.ensures.stored in
    let whole : after ≡ take i.maps.len (after ++ drop (length after) i.maps.items)
    = sym (written i.maps.len after i.maps.items (omega (
      arith,
      c.in-Ok.ensures.undo.count,
      ap length c.deref_mut.ensures.value,
      c.deref_mut.ensures.len,
    ))) in
    subst (λ (v : CodeList). IsMulti v.dim i.b i.nflip keys v.codes
    (take i.maps.len (after ++ drop (length after) i.maps.items)) q) stored
    (subst (λ (ms : List (List (ℕ × ℕ))). IsMulti i.storage.dim i.b i.nflip keys (old ++ new) ms q) whole
    (multi_added i.storage.dim i.b i.nflip i.keys keys c.len-nhash.result old new i.maps.items after i.buckets
    c.store.new.buckets q c.self.invariant nhash_is (omega (arith, all, nhash_is)) c.in-Ok.ensures.shared
    (omega (
      arith,
      c.in-Ok.ensures.keys,
      ap (λ (m : ℕ). m * length new) nhash_is,
      ap (λ (ms : List (List (ℕ × ℕ))). length ms * length new) c.deref_mut.ensures.value,
    )) grown maps load))

pub invariant_of-self-in-Err : goal.invariant_of-self-in-Err
invariant_of-self-in-Err g c =
    let i = c.self.inside in
    let before : List (List (ℕ × ℕ)) = i.maps.items in
    let mid : List (List (ℕ × ℕ)) = c.store.new.maps in
    let after : List (List (ℕ × ℕ)) = c.keep_first.new.maps in
    let many : length mid ≡ i.maps.len = omega (
      arith,
      c.in-Err.ensures.undo.count,
      ap length c.deref_mut.ensures.value,
      c.deref_mut.ensures.len,
    ) in
    let mid_items : List (List (ℕ × ℕ)) = take i.maps.len (mid ++ drop (length mid) before) in
    let whole : mid_items ≡ mid = written i.maps.len mid before many in
    let mid_is : c.deref_mut-in-Err.result.now ≡ mid = c.deref_mut-in-Err.ensures.value ∙ whole in
    let same : length after ≡ length mid = c.keep_first.ensures.count ∙ ap length mid_is in
    let counts : c.deref-in-Err.result.now ≡ map length before = c.deref-in-Err.ensures.value ∙ c.in_ok-counts.ensures
    ∙ ap (λ (ms : List (List (ℕ × ℕ))). map length ms) c.deref.ensures.value in
    let undo : AreUndoable before mid i.buckets c.store.new.buckets
    = subst (λ (ms : List (List (ℕ × ℕ))). AreUndoable ms mid i.buckets c.store.new.buckets) c.deref_mut.ensures.value
    c.in-Err.ensures.undo in
    let back : (j : ℕ) → j < length mid → map_at after j ≡ take (length (map_at before j)) (map_at mid j) = λ j low.
    c.keep_first.ensures.kept j (omega (arith, low, ap length mid_is))
    ∙ ap (λ (ms : List (List (ℕ × ℕ))). take (get_or c.deref-in-Err.result.now j 0) (map_at ms j)) mid_is
    ∙ ap (λ (n : ℕ). take n (map_at mid j)) (ap (λ (ns : List ℕ). get_or ns j 0) counts
    ∙ get_or-map length before j [] 0 (omega (arith, low, undo.count))) in
    let kept : c.store.new.storage ≡ i.storage = c.in-Err.ensures.kept in
    let last : take i.maps.len (after ++ drop (length after) mid_items) ≡ after
    = written i.maps.len after mid_items (omega (arith, same, many)) in
    subst (λ (v : CodeList). IsMulti v.dim i.b i.nflip i.keys v.codes
    (take i.maps.len (after ++ drop (length after) mid_items)) c.store.new.buckets) (sym kept)
    (subst (λ (ms : List (List (ℕ × ℕ))). IsMulti i.storage.dim i.b i.nflip i.keys i.storage.codes ms
    c.store.new.buckets) (sym last)
    (multi_undone i.storage.dim i.b i.nflip i.keys i.storage.codes before mid after i.buckets c.store.new.buckets
    c.self.invariant undo same back))
