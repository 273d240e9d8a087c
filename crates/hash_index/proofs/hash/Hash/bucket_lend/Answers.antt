use Rattle.std.proofs.Common.{◌≡◌, ◌/◌, ◌<◌, ℕ, List, length, ap, ◌∙◌, arith, subst, sym}
use Rattle.bcodes.specs.Value.{Row, HashValue}
use Rattle.code_pool.specs.Lists.{IsRun}
use Rattle.hash_index.specs.Keys.{bucket_at, hash_keys}
use Rattle.row_lists.specs.Rows.{lists_in}
use Rattle.hash_index.proofs.NearLemmas.{keys_count, bucket_rows, bucket_known}
use Rattle.hash_index.proofs.hash.Hash.bucket_lend.Goals as goal

pub lend-requires-clause-exists : goal.lend-requires-clause-exists
lend-requires-clause-exists g c =
    let i = c.self.inside in
    let low : c.args.i < length i.table
    = omega (
      arith,
      c.requires.exists,
      keys_count i.dim.bits i.b i.nflip i.table i.order i.buckets c.self.invariant,
      ap (λ (v : HashValue). length (hash_keys v)) c.self.view_is,
    ) in
    bucket_known i.dim.bits i.b i.nflip i.table i.order i.buckets c.self.invariant c.bucket.ensures.distinct
    c.args.i c.bucket.result low c.bucket.ensures.entry

pub lend-requires-clause-within : goal.lend-requires-clause-within
lend-requires-clause-within g c =
    let i = c.self.inside in
    let low : c.args.i < length i.table
    = omega (
      arith,
      c.requires.exists,
      keys_count i.dim.bits i.b i.nflip i.table i.order i.buckets c.self.invariant,
      ap (λ (v : HashValue). length (hash_keys v)) c.self.view_is,
    ) in
    let rows : lists_in i.buckets c.bucket.result.1 ≡ bucket_at c.args.self.now c.args.i
    = bucket_rows i.dim.bits i.b i.nflip i.table i.order i.buckets c.self.invariant c.bucket.ensures.distinct
    c.args.i c.bucket.result low c.bucket.ensures.entry
    ∙ ap (λ (v : HashValue). bucket_at v c.args.i) c.self.view_is in
    subst (λ (rs : List Row). c.args.from < length rs) (sym rows) c.requires.within

pub returns-clause-run : goal.returns-clause-run
returns-clause-run g c =
    let i = c.self.inside in
    let low : c.args.i < length i.table
    = omega (
      arith,
      c.requires.exists,
      keys_count i.dim.bits i.b i.nflip i.table i.order i.buckets c.self.invariant,
      ap (λ (v : HashValue). length (hash_keys v)) c.self.view_is,
    ) in
    let rows : lists_in i.buckets c.bucket.result.1 ≡ bucket_at c.args.self.now c.args.i
    = bucket_rows i.dim.bits i.b i.nflip i.table i.order i.buckets c.self.invariant c.bucket.ensures.distinct
    c.args.i c.bucket.result low c.bucket.ensures.entry
    ∙ ap (λ (v : HashValue). bucket_at v c.args.i) c.self.view_is in
    let size : i.buckets.code_size ≡ c.args.self.now.dim / 8 = c.self.invariant.size
    ∙ ap (λ (v : HashValue). v.dim / 8) c.self.view_is in
    subst (λ (rs : List Row). IsRun rs c.args.from
    (c.args.self.now.dim / 8) c.lend.result.labels.now c.lend.result.codes.now) rows
    (subst (λ (n : ℕ). IsRun (lists_in i.buckets c.bucket.result.1) c.args.from n c.lend.result.labels.now
    c.lend.result.codes.now) size c.lend.ensures.run)
