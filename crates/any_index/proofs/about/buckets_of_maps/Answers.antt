use Rattle.std.proofs.Common.{◌≡◌, ℕ, ◌+◌, List, [], ◌∷◌, ◌++◌, length, map, sym, ap, ◌∙◌, arith}
use Rattle.std.specs.List.{range_with_len}
use Rattle.std.proofs.lemmas.List.FromFn.{map-range_with_len_more}
use Rattle.multi_hash.specs.Maps.{map_keys}
use Rattle.any_index.proofs.about.buckets_of_maps.Goals as goal

pub loop-map-preserved : goal.loop-map-preserved
loop-map-preserved c =
    let f : ℕ → ℕ = λ i. length (map_keys c.args.index.now i) in
    let m = c.loop-map.map in
    let more : map f (range_with_len 0 (m + 1)) ≡ map f (range_with_len 0 m) ++ f m ∷ [] =
    map-range_with_len_more f 0 m m (omega arith) in
    c.in_ok-push.ensures.items
    ∙ ap (λ (xs : List ℕ). xs ++ c.buckets.result ∷ []) c.loop-map.invariant
    ∙ ap (λ (x : ℕ). map f (range_with_len 0 m) ++ x ∷ []) c.buckets.ensures
    ∙ sym more
