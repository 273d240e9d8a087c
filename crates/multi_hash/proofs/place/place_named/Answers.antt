use Rattle.std.proofs.Common.{◌≡◌, ◌+◌, ℕ, List, length, map, set, ap, sym, arith, subst}
use Rattle.key_buckets.specs.Keys.{key_in}
use Rattle.key_buckets.specs.Room.{IsRoomed, IsUndoable, keys_named}
use Rattle.multi_hash.specs.Inside.{map_at}
use Rattle.multi_hash.specs.Partly.{IsPartly}
use Rattle.multi_hash.proofs.PlaceLemmas.{partly_more}
use Rattle.multi_hash.proofs.place.place_named.Goals as goal

pub returns-clause-partly : goal.returns-clause-partly
returns-clause-partly g c =
    let dim : ℕ = c.args.storage.now.dim in
    let b : ℕ = c.args.b in
    let i : ℕ = c.args.i in
    let used : ℕ = c.args.used in
    let codes : List (List ℕ) = c.args.storage.now.codes in
    let before : List (List (ℕ × ℕ)) = c.args.maps.now in
    let after : List (List (ℕ × ℕ)) = c.make_named_room_under.new.maps in
    let es : List (ℕ × ℕ) = map_at after i in
    let p = c.args.buckets.now in
    let r = c.make_named_room_under.new.buckets in
    let q = c.put.new.buckets in
    let ks : List ℕ = keys_named c.args.keys.now c.args.numbers.now in
    let are : ks ≡ map (key_in i b) codes = c.requires.keys in
    let own : List ℕ = c.deref.result.now in
    let roomed : IsRoomed used (map_at before i) es ks (length ks) own
    = subst (IsRoomed used (map_at before i) es ks (length ks)) (sym c.deref.ensures.value)
    c.in_ok-lists.ensures.roomed in
    let u : IsUndoable used (map_at before i) es p r = c.in_ok-lists.ensures.undo in
    let set_is : set before i es ≡ after = sym c.in_ok-lists.ensures.maps in
    let used_is : used + length es ≡ used + c.len.result = omega (arith, c.len.ensures.value, ap length c.table.ensures) in
    subst (λ (k : ℕ). IsPartly dim b (i + 1) k codes after q) used_is
    (subst (λ (ms : List (List (ℕ × ℕ))). IsPartly dim b (i + 1) (used + length es) codes ms q) set_is
    (partly_more dim b i used codes before p c.requires.partly c.requires.next r q es ks own are roomed u
    c.put.ensures.rows c.put.ensures.lists c.put.ensures.size))
