use Rattle.std.proofs.Common.{◌<◌, length, ap, ◌∙◌, arith}
use Rattle.bcodes.specs.Value.{HashValue}
use Rattle.hash_index.specs.Keys.{bucket_at, hash_keys}
use Rattle.hash_index.proofs.NearLemmas.{keys_count, bucket_rows, bucket_known}
use Rattle.hash_index.proofs.hash.Hash.bucket_len.Goals as goal

pub len-requires : goal.len-requires
len-requires g c =
    let i = c.self.inside in
    let low : c.args.i < length i.table
    = omega (
      arith,
      c.requires,
      keys_count i.dim.bits i.b i.nflip i.table i.order i.buckets c.self.invariant,
      ap (λ (v : HashValue). length (hash_keys v)) c.self.view_is,
    ) in
    bucket_known i.dim.bits i.b i.nflip i.table i.order i.buckets c.self.invariant c.bucket.ensures.distinct
    c.args.i c.bucket.result low c.bucket.ensures.entry

pub returns : goal.returns
returns g c =
    let i = c.self.inside in
    let low : c.args.i < length i.table
    = omega (
      arith,
      c.requires,
      keys_count i.dim.bits i.b i.nflip i.table i.order i.buckets c.self.invariant,
      ap (λ (v : HashValue). length (hash_keys v)) c.self.view_is,
    ) in
    c.len.ensures.value
    ∙ ap length (bucket_rows i.dim.bits i.b i.nflip i.table i.order i.buckets c.self.invariant
    c.bucket.ensures.distinct c.args.i c.bucket.result low c.bucket.ensures.entry)
    ∙ ap (λ (v : HashValue). length (bucket_at v c.args.i)) c.self.view_is
