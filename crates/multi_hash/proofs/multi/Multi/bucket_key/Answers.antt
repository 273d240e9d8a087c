use Rattle.std.proofs.Common.{◌≡◌, ◌<◌, ℕ, List, length, get_or, ap, ◌∙◌, sym, arith, subst, nat_eq}
use Rattle.std.specs.List.{IsDistinct}
use Rattle.std.specs.Map.{keys_of}
use Rattle.bcodes.specs.Value.{MultiValue}
use Rattle.multi_hash.specs.Inside.{map_at}
use Rattle.multi_hash.specs.Maps.{labels_at, map_keys, positions_at}
use Rattle.multi_hash.proofs.ViewLemmas.{keys_are, keys_count, place_key, place_known, place_labels, place_count}
use Rattle.multi_hash.proofs.multi.Multi.bucket_key.Goals as goal

pub bucket-requires : goal.bucket-requires
bucket-requires g c =
    let i = c.self.inside in
    let m : ℕ = c.args.map in
    let low : m < length i.maps.items
    = omega (arith, c.requires.exists, ap (λ (v : MultiValue). v.nhash) c.self.view_is) in
    let table : c.table.result.now ≡ map_at i.maps.items m = c.table.ensures
    ∙ ap (λ ms. map_at ms m) c.deref.ensures.value in
    let inside : c.args.i < length (map_at i.maps.items m) = omega (
      arith,
      c.requires.within,
      keys_count i.storage.dim i.b i.nflip i.keys i.storage.codes i.maps.items i.buckets c.self.invariant m low,
      ap (λ (v : MultiValue). length (map_keys v m)) c.self.view_is,
    ) in
    omega (arith, inside, ap length table)

pub returns : goal.returns
returns g c =
    let i = c.self.inside in
    let m : ℕ = c.args.map in
    let low : m < length i.maps.items
    = omega (arith, c.requires.exists, ap (λ (v : MultiValue). v.nhash) c.self.view_is) in
    let table : c.table.result.now ≡ map_at i.maps.items m = c.table.ensures
    ∙ ap (λ ms. map_at ms m) c.deref.ensures.value in
    let inside : c.args.i < length (map_at i.maps.items m) = omega (
      arith,
      c.requires.within,
      keys_count i.storage.dim i.b i.nflip i.keys i.storage.codes i.maps.items i.buckets c.self.invariant m low,
      ap (λ (v : MultiValue). length (map_keys v m)) c.self.view_is,
    ) in
    let distinct : IsDistinct nat_eq (keys_of (map_at i.maps.items m))
    = subst (λ (es : List (ℕ × ℕ)). IsDistinct nat_eq (keys_of es)) table c.bucket.ensures.distinct in
    let entry : c.bucket.result ≡ get_or (map_at i.maps.items m) c.args.i (0, 0) = c.bucket.ensures.entry
    ∙ ap (λ (es : List (ℕ × ℕ)). get_or es c.args.i (0, 0)) table in
    place_key i.storage.dim i.b i.nflip i.keys i.storage.codes i.maps.items i.buckets c.self.invariant m c.args.i
    c.bucket.result low distinct inside entry
    ∙ ap (λ (v : MultiValue). get_or (map_keys v m) c.args.i 0) c.self.view_is
