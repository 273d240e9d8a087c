use Rattle.std.proofs.Common.{◌≡◌, ◌≢◌, ◌+◌, ◌-◌, ◌*◌, ◌<◌, ◌^◌, ◌≤◌, ◌++◌, [], inl, inr, ℕ, List, length, map, max, set}
use Rattle.std.proofs.Common.{ap, sym, ◌∙◌, arith, subst, refl, length-append}
use Rattle.std.proofs.lemmas.List.{length-map, length-set}
use Rattle.std.proofs.Math.Nat.{mul-le-mul_right}
use Rattle.std.proofs.lemmas.Bool.{cases_lt}
use Rattle.std.specs.List.{All}
use Rattle.std.proofs.lemmas.List.Elements.{All-nil, All-append, All-weaker}
use Rattle.code_pool.specs.Lists.{list_at}
use Rattle.key_buckets.proofs.RoomLemmas.{numbers_in}
use Rattle.flip_walk.specs.Patterns.{times}
use Rattle.key_buckets.specs.Keys.{key_in, IsNumbering}
use Rattle.key_buckets.specs.Room.{lists_most, IsRoomed, IsUndoable}
use Rattle.row_lists.specs.Room.{HasRoomFor}
use Rattle.multi_hash.specs.Inside.{map_at, lists_in, AreMaps, IsShared}
use Rattle.multi_hash.specs.Room.{lists_under, up_to, IsRoomy, AreUndoable}
use Rattle.multi_hash.proofs.MapsLemmas.{tells}
use Rattle.multi_hash.proofs.StoreLemmas.{under_old, under_new, numbering_of, undoable_none, undoable_more, maps_more}
use Rattle.multi_hash.proofs.StoreLemmas.{roomy_own, roomy_kept, maps_first, maps_last, one_more}
use Rattle.multi_hash.proofs.room.open_all.Goals as goal

none_yet : (n : ℕ) → 0 ≡ 0 * n
none_yet n = omega arith

pub loop-i-init : goal.loop-i-init
loop-i-init g c = record {
  maps_are = λ old m. maps_first c.args.b c.args.keys (old ++ c.args.codes.now.codes) old c.args.maps.now
      (lists_in c.args.buckets.now) m;
  roomy = λ j h. absurd (omega arith);
  known = subst (All (λ k. k < c.args.keys)) (sym c.in_ok-lists.ensures.items) (All-nil (λ k. k < c.args.keys));
  whole = ap length c.in_ok-lists.ensures.items ∙ none_yet (length c.args.codes.now.codes);
  shared = c.requires.shared;
  keys = omega arith;
  undo = undoable_none c.args.maps.now c.args.buckets.now;
}

pub make_room_under-requires-clause-numbering : goal.make_room_under-requires-clause-numbering
make_room_under-requires-clause-numbering g c =
    let old = c.requires.maps.0 in
    let i : ℕ = c.loop-i.i in
    let m = c.loop-i.invariant.maps_are old c.requires.maps.1 in
    let few : length (map_at c.loop-i.maps i) ≤ c.loop-i.used = m.few i in
    numbering_of c.args.b c.loop-i.used (up_to i (old ++ c.args.codes.now.codes) old) (λ j. old) c.loop-i.maps
    (lists_in c.loop-i.buckets) i (c.loop-i.used - c.len-in-loop-i.result + length (map_at c.loop-i.maps i))
    (omega (arith, few, c.len-in-loop-i.ensures.value, ap length c.table.ensures)) m

pub make_room_under-requires-clause-used : goal.make_room_under-requires-clause-used
make_room_under-requires-clause-used g c =
    let old = c.requires.maps.0 in
    let i : ℕ = c.loop-i.i in
    let m = c.loop-i.invariant.maps_are old c.requires.maps.1 in
    let few : length (map_at c.loop-i.maps i) ≤ c.loop-i.used = m.few i in
    omega (arith, few, c.loop-i.invariant.shared.used_most, c.len-in-loop-i.ensures.value, ap length c.table.ensures)

pub make_room_under-requires-clause-few : goal.make_room_under-requires-clause-few
make_room_under-requires-clause-few g c =
    let old = c.requires.maps.0 in
    let i : ℕ = c.loop-i.i in
    let n : ℕ = length c.args.codes.now.codes in
    let m = c.loop-i.invariant.maps_are old c.requires.maps.1 in
    let few : length (map_at c.loop-i.maps i) ≤ c.loop-i.used = m.few i in
    let up : i + 1 ≤ length c.args.maps.now = omega (arith, c.loop-i.invariant.undo.count) in
    omega (
      arith,
      few,
      c.loop-i.invariant.keys,
      c.len-in-loop-i.ensures.value,
      ap length c.table.ensures,
      ap length (c.deref.ensures.value ∙ c.in_ok-map_keys.ensures),
      length-map c.args.codes.now.codes (key_in i c.args.b),
      mul-le-mul_right n up,
      one_more i n,
      c.requires.few,
    )

pub loop-i-preserved : goal.loop-i-preserved
loop-i-preserved g c =
    let i : ℕ = c.loop-i.i in
    let b : ℕ = c.args.b in
    let new : List (List ℕ) = c.args.codes.now.codes in
    let n : ℕ = length new in
    let before : List (List (ℕ × ℕ)) = c.loop-i.maps in
    let after : List (List (ℕ × ℕ)) = c.make_room_under.new.maps in
    let es : List (ℕ × ℕ) = map_at after i in
    let p = c.loop-i.buckets in
    let q = c.make_room_under.new.buckets in
    let ks : List ℕ = c.deref.result.now in
    let own : List ℕ = c.in_ok-own.own.items in
    let lists : List ℕ = c.loop-i.lists.items in
    let others : ℕ = c.loop-i.used - c.len-in-loop-i.result in
    let here : i < length before = omega (arith, c.loop-i.invariant.undo.count) in
    let first = c.loop-i.invariant.maps_are c.requires.maps.0 c.requires.maps.1 in
    let few : length (map_at before i) ≤ c.loop-i.used = first.few i in
    let count : others + length (map_at before i) ≡ c.loop-i.used
    = omega (arith, few, c.len-in-loop-i.ensures.value, ap length c.table.ensures) in
    let are : ks ≡ map (key_in i b) new = c.deref.ensures.value ∙ c.in_ok-map_keys.ensures in
    let r : IsRoomed others (map_at before i) es ks (length ks) own = c.in_ok-own.ensures.roomed in
    let u : IsUndoable others (map_at before i) es p q = c.in_ok-own.ensures.undo in
    let room : HasRoomFor own q = c.in_ok-own.ensures.room in
    let spare : (l : ℕ) → times l own ≡ 0 → (list_at p l).spare ≤ (list_at q l).spare = c.in_ok-own.ensures.spare in
    let set_is : set before i es ≡ after = sym c.in_ok-own.ensures.maps in
    let used_is : others + length es ≡ others + c.len-in-loop-i-2.result
    = omega (arith, c.len-in-loop-i-2.ensures.value, ap length c.table-in-loop-i.ensures) in
    let longer : c.extend_from_slice.new.self.items ≡ lists ++ own
    = c.in_ok-extend_from_slice.ensures.items ∙ ap (λ (l : List ℕ). lists ++ l) c.deref-in-loop-i.ensures.value in
    let many : length own ≡ n = r.count ∙ ap length are ∙ length-map new (key_in i b) in
    let up : i + 1 ≤ length c.args.maps.now = omega (arith, c.loop-i.invariant.undo.count) in
    record {
      maps_are = λ old m.
          subst (λ (k : ℕ). AreMaps b k (up_to (i + 1) (old ++ new) old) (λ j. old) after (lists_in q)) used_is
          (subst (λ (ms : List (List (ℕ × ℕ))). AreMaps b (others + length es) (up_to (i + 1) (old ++ new) old)
          (λ j. old) ms (lists_in q)) set_is
          (maps_more b c.loop-i.used i others old new before p q es ks own here (c.loop-i.invariant.maps_are old m) count
          are r u room spare));
      roomy = λ j low. subst (λ (ms : List (List (ℕ × ℕ))). IsRoomy j b ms new
          (lists_under c.extend_from_slice.new.self.items n j) q) set_is
          (subst (λ (l : List ℕ). IsRoomy j b (set before i es) new (lists_under l n j) q) (sym longer)
          (elim (tells j i) [
            | inl e ↦ subst (λ (k : ℕ). IsRoomy k b (set before i es) new (lists_under (lists ++ own) n k) q) (sym e)
                (subst (λ (l : List ℕ). IsRoomy i b (set before i es) new l q)
                (sym (under_new lists own n i c.loop-i.invariant.whole many))
                (roomy_own b c.loop-i.used i others c.requires.maps.0 new before p q es ks own here first count are r u
                room spare))
            | inr ne ↦
                let less : j < i = below i j low ne in
                subst (λ (l : List ℕ). IsRoomy j b (set before i es) new l q)
                (sym (under_old lists own n j (within i j n (length lists) less c.loop-i.invariant.whole)))
                (roomy_kept b c.loop-i.used i others c.requires.maps.0 new before p q es ks own here first count are r u
                room spare j (lists_under lists n j) ne (c.loop-i.invariant.roomy j less))
          ]));
      known = subst (All (λ k. k < others + c.len-in-loop-i-2.result)) (sym longer)
          (All-append (λ k. k < others + c.len-in-loop-i-2.result) lists own
          (All-weaker (λ k. k < c.loop-i.used) (λ k. k < others + c.len-in-loop-i-2.result)
          (λ k h. omega (arith, h, count, used_is, u.least)) lists c.loop-i.invariant.known)
          (numbers_in others (map_at before i) es ks own (others + c.len-in-loop-i-2.result) r
          (omega (arith, used_is))));
      whole = omega (
        arith,
        ap length longer,
        length-append lists own,
        c.loop-i.invariant.whole,
        many,
        one_more i n,
      );
      shared = record {
        size = u.size ∙ c.loop-i.invariant.shared.size;
        used_most = omega (arith, used_is, u.keys_most);
        lists_few = omega (arith, u.lists_few, c.loop-i.invariant.shared.lists_few);
      };
      keys = omega (
        arith,
        used_is,
        count,
        r.most,
        ap length are,
        length-map new (key_in i b),
        one_more i n,
        c.loop-i.invariant.keys,
      );
      undo = subst (λ (ms : List (List (ℕ × ℕ))). AreUndoable c.args.maps.now ms c.args.buckets.now q) set_is
          (undoable_more c.args.maps.now before c.args.buckets.now p q i others es here c.loop-i.invariant.undo u);
    }
  where
    below : (i j : ℕ) → j < i + 1 → j ≢ i → j < i
    below i j h ne = elim (cases_lt j i) [ inl l ↦ l | inr l ↦ absurd (ne (omega arith)) ]

    within : (i j n long : ℕ) → j < i → long ≡ i * n → (j + 1) * n ≤ long
    within i j n long h e = let up : j + 1 ≤ i = omega arith in omega (arith, mul-le-mul_right n up, e)
