use Rattle.std.proofs.Common.{◌≡◌, ◌<◌, ℕ, List, length, get_or, ap, ◌∙◌, sym, arith, subst, nat_eq}
use Rattle.std.specs.List.{IsDistinct, position}
use Rattle.std.specs.Map.{keys_of}
use Rattle.bcodes.specs.Value.{MultiValue}
use Rattle.multi_hash.specs.Inside.{map_at}
use Rattle.multi_hash.specs.Maps.{labels_at, map_keys, positions_at}
use Rattle.multi_hash.proofs.ViewLemmas.{keys_are, keys_count, place_key, place_known, place_labels, place_count}
use Rattle.multi_hash.proofs.multi.Multi.find.Goals as goal

pub returns-clause-place : goal.returns-clause-place
returns-clause-place g c =
    let i = c.self.inside in
    let m : ℕ = c.args.map in
    let low : m < length i.maps.items
    = omega (arith, c.requires, ap (λ (v : MultiValue). v.nhash) c.self.view_is) in
    let table : c.table.result.now ≡ map_at i.maps.items m = c.table.ensures
    ∙ ap (λ ms. map_at ms m) c.deref.ensures.value in
    c.place.ensures
    ∙ ap (λ (es : List (ℕ × ℕ)). position (nat_eq c.args.key) (keys_of es)) table
    ∙ ap (position (nat_eq c.args.key))
    (keys_are i.storage.dim i.b i.nflip i.keys i.storage.codes i.maps.items i.buckets c.self.invariant m low)
    ∙ ap (λ (v : MultiValue). position (nat_eq c.args.key) (map_keys v m)) c.self.view_is
