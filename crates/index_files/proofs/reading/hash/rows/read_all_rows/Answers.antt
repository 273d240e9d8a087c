use Rattle.std.proofs.Common.{◌≡◌, ℕ, ◌+◌, ◌/◌, length, refl, sym, ap, subst, ◌∙◌}
use Rattle.std.proofs.Common.{arith, rules}
use Rattle.std.specs.Prelude.{sum}
use Rattle.std.proofs.lemmas.Result.{err_from_is_err_and}
use Rattle.file_parts.specs.Format.{run}
use Rattle.file_parts.specs.Feeding.{place}
use Rattle.index_files.specs.HashFormat.{KeySize, all_rows, bucket_at, buckets_in}
use Rattle.index_files.specs.HashReading.{GainsRows}
use Rattle.index_files.proofs.HashReading.{bucket_fails, bucket_load, bucket_read, buckets_done, gains_more, gains_none}
use Rattle.index_files.proofs.HashReading.{gains_rows, keeps_same, rows_start}
use Rattle.index_files.proofs.HashRunReading.{bucket_is, from, from_all, from_next, from_none, next_at, passed_total}
use Rattle.index_files.proofs.HashRunReading.{sizes, sizes_next, sizes_none}
use Rattle.index_files.proofs.LoadLemmas.{keeps_then, told_kept}
use Rattle.index_files.proofs.reading.hash.rows.read_all_rows.Goals as goal

pub loop-init : goal.loop-init
loop-init g c =
    let p = c.args.packing in
    let run = c.args.run.now in
    let hash = c.args.hash.now in
    let none : length hash.rows ≡ 0 = ap length c.requires.none in
    record {
      dim = c.in_ok-gathered.ensures.dim ∙ c.dim.ensures.value;
      b = c.in_ok-gathered.ensures.b ∙ c.b.ensures;
      bytes = ap (λ r. r.bytes) c.new-bits.ensures;
      at = ap (λ r. r.at) c.new-bits.ensures ∙ omega arith;
      gains =
          subst (λ n. GainsRows c.args.role p.total n hash hash) (sym none)
          (gains_none c.args.role p.total hash);
      total = omega (arith, none, passed_total run p.b p.width p.count p.total c.requires.passes);
      so_far = λ told. rows_start c.args.role (hash.dim / 8) p.total p.b hash.rows
          (from run p.b p.width p.count 0) (buckets_in run p.b p.width p.count)
          (place g.H.Shelf.contents c.args.feed.now) c.requires.none (from_all run p.b p.width p.count);
      same_shelf = refl;
      files = keeps_same _;
      reading = refl;
      count_stays = refl;
    }

pub read_bucket-requires-clause-load : goal.read_bucket-requires-clause-load
read_bucket-requires-clause-load g c =
    let p = c.args.packing in
    let inv = c.loop.invariant in
    let run = c.args.run.now in
    let bucket = bucket_is run p.b p.width c.loop.counter c.next_bucket-bucket.result.key
    c.next_bucket-bucket.result.size c.loop.bits.bytes c.loop.bits.at inv.bytes inv.at
    c.next_bucket-bucket.ensures.key c.next_bucket-bucket.ensures.size in
    bucket_load c.args.hash.now.dim c.loop.hash.dim (length c.loop.hash.rows)
    c.next_bucket-bucket.result.size
    (sum (sizes run p.b p.width p.count (c.loop.counter + 1))) p.total
    (ap (λ v. v.dim) inv.gains.gains.settings) c.requires.load
    (omega (
      arith,
      inv.total,
      sizes_next run p.b p.width p.count c.loop.counter c.loop-test.true,
      ap (λ (k : KeySize). k.size) bucket,
    ))

pub returns-in_err-read_bucket-clause-gives : goal.returns-in_err-read_bucket-clause-gives
returns-in_err-read_bucket-clause-gives g c = λ told. (
    let p = c.args.packing in
    let inv = c.loop.invariant in
    let run_bytes = c.args.run.now in
    let hash = c.args.hash.now in
    let at = place g.H.Shelf.contents c.loop.feed in
    let bucket = bucket_is run_bytes p.b p.width c.loop.counter c.next_bucket-bucket.result.key
    c.next_bucket-bucket.result.size c.loop.bits.bytes c.loop.bits.at inv.bytes inv.at
    c.next_bucket-bucket.ensures.key c.next_bucket-bucket.ensures.size in
    let dim : c.loop.hash.dim ≡ hash.dim = ap (λ v. v.dim) inv.gains.gains.settings in
    let b : c.loop.hash.b ≡ p.b = ap (λ v. v.b) inv.gains.gains.settings ∙ c.requires.b in
    let fails = rw (dim, b, bucket) at (c.in_err-read_bucket.ensures.gives (told_kept _ _ inv.files told)) in
    let so_far = rw (from_next run_bytes p.b p.width p.count c.loop.counter c.loop-test.true) at (inv.so_far told) in
    let r = err_from_is_err_and c.from_residual-in_err-read_bucket.result
    c.from_residual-in_err-read_bucket.ensures.1 in
    rw (r.1, r.2) (bucket_fails c.args.role (hash.dim / 8) p.total p.b c.in_err-read_bucket.field-0.0
    c.loop.hash.rows
    (bucket_at run_bytes p.b p.width c.loop.counter) (from run_bytes p.b p.width p.count (c.loop.counter + 1)) at
    (run (all_rows c.args.role (hash.dim / 8) p.total p.b (buckets_in run_bytes p.b p.width p.count))
    (place g.H.Shelf.contents c.args.feed.now)) fails so_far))

pub loop-preserved : goal.loop-preserved
loop-preserved g c =
    let p = c.args.packing in
    let inv = c.loop.invariant in
    let run_bytes = c.args.run.now in
    let hash = c.args.hash.now in
    let at = place g.H.Shelf.contents c.loop.feed in
    let to = place g.H.Shelf.contents c.read_bucket.new.feed in
    let i : ℕ = c.loop.counter in
    let size : ℕ = c.next_bucket-bucket.result.size in
    let old = c.loop.hash in
    let new = c.read_bucket.new.hash in
    let bucket = bucket_is run_bytes p.b p.width i c.next_bucket-bucket.result.key size
    c.loop.bits.bytes c.loop.bits.at inv.bytes inv.at
    c.next_bucket-bucket.ensures.key c.next_bucket-bucket.ensures.size in
    let dim : c.loop.hash.dim ≡ hash.dim = ap (λ v. v.dim) inv.gains.gains.settings in
    let b : c.loop.hash.b ≡ p.b = ap (λ v. v.b) inv.gains.gains.settings ∙ c.requires.b in
    let more = c.in_ok-read_bucket.ensures.gains in
    let count : length new.rows ≡ length old.rows + size = gains_rows c.args.role p.total size old new more in
    let moved = c.next_bucket-bucket.ensures.moved in
    record {
      dim = c.in_ok-read_bucket.ensures.dim;
      b = c.in_ok-read_bucket.ensures.b;
      bytes = ap (λ r. r.bytes) moved ∙ inv.bytes;
      at = ap (λ r. r.at) moved ∙ ap (λ (n : ℕ). n + p.b + p.width) inv.at ∙ next_at p.b p.width i;
      gains = subst (λ n. GainsRows c.args.role p.total n hash new) (sym count)
          (gains_more c.args.role p.total (length old.rows) size hash old new inv.gains more);
      total = omega (
        arith,
        inv.total,
        count,
        sizes_next run_bytes p.b p.width p.count i c.loop-test.true,
        ap (λ (k : KeySize). k.size) bucket,
      );
      so_far = λ told. (
          let reads = rw (dim, b, bucket) at (c.in_ok-read_bucket.ensures.gives (told_kept _ _ inv.files told)) in
          let so_far = rw (from_next run_bytes p.b p.width p.count i c.loop-test.true) at (inv.so_far told) in
          bucket_read c.args.role (hash.dim / 8) p.total p.b old.rows new.rows
          (bucket_at run_bytes p.b p.width i) (from run_bytes p.b p.width p.count (i + 1)) at to
          (run (all_rows c.args.role (hash.dim / 8) p.total p.b (buckets_in run_bytes p.b p.width p.count))
          (place g.H.Shelf.contents c.args.feed.now)) reads so_far);
      same_shelf = c.in_ok-read_bucket.ensures.shelf.same_shelf ∙ inv.same_shelf;
      files = keeps_then _ _ _ inv.files c.in_ok-read_bucket.ensures.shelf.files;
      reading = c.in_ok-read_bucket.ensures.shelf.reading ∙ inv.reading;
      count_stays = search rules;
    }

pub returns-clause-gives : goal.returns-clause-gives
returns-clause-gives g c = λ told. (
    let p = c.args.packing in
    let inv = c.loop.invariant in
    let run_bytes = c.args.run.now in
    let hash = c.args.hash.now in
    let so_far = rw (from_none run_bytes p.b p.width p.count c.loop.counter c.loop-test.false) at (inv.so_far told) in
    (buckets_done c.args.role (hash.dim / 8) p.total p.b
    c.loop.hash.rows (place g.H.Shelf.contents c.loop.feed)
    (run (all_rows c.args.role (hash.dim / 8) p.total p.b (buckets_in run_bytes p.b p.width p.count))
    (place g.H.Shelf.contents c.args.feed.now)) so_far))

pub returns-clause-gains : goal.returns-clause-gains
returns-clause-gains g c =
    let p = c.args.packing in
    let inv = c.loop.invariant in
    let none = sizes_none c.args.run.now p.b p.width p.count c.loop.counter c.loop-test.false in
    let all : length c.loop.hash.rows ≡ p.total = omega (arith, inv.total, none) in
    subst (λ n. GainsRows c.args.role p.total n c.args.hash.now c.loop.hash) all inv.gains
