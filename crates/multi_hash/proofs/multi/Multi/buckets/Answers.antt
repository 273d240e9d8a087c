use Rattle.std.proofs.Common.{◌≡◌, ◌<◌, ℕ, length, ap, ◌∙◌, sym, arith}
use Rattle.bcodes.specs.Value.{MultiValue}
use Rattle.multi_hash.specs.Inside.{map_at}
use Rattle.multi_hash.specs.Maps.{map_keys}
use Rattle.multi_hash.proofs.ViewLemmas.{keys_count}
use Rattle.multi_hash.proofs.multi.Multi.buckets.Goals as goal

pub returns : goal.returns
returns g c =
    let i = c.self.inside in
    let low : c.args.map < length i.maps.items
    = omega (arith, c.requires, ap (λ (v : MultiValue). v.nhash) c.self.view_is) in
    c.len.ensures.value
    ∙ ap length c.table.ensures
    ∙ ap (λ ms. length (map_at ms c.args.map)) c.deref.ensures.value
    ∙ keys_count i.storage.dim i.b i.nflip i.keys i.storage.codes i.maps.items i.buckets c.self.invariant c.args.map low
    ∙ ap (λ (v : MultiValue). length (map_keys v c.args.map)) c.self.view_is
