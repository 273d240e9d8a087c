use Rattle.std.proofs.Common.{◌+◌, ◌/◌, ℕ, List, ◌∙◌}
use Rattle.std.proofs.lemmas.Result.{err_from_is_err_and}
use Rattle.file_parts.specs.declared.reason.Reason.TheVariants as reason
use Rattle.file_parts.specs.Feeding.{place}
use Rattle.file_parts.specs.Fields.{must_be, number}
use Rattle.file_parts.specs.Format.{run}
use Rattle.index_files.specs.Canon.{position_width}
use Rattle.index_files.specs.HashFormat.{bucket_count_checks}
use Rattle.index_files.specs.MapReading.{map_bits, run_field}
use Rattle.index_files.specs.MultiFormat.{map_fields}
use Rattle.index_files.proofs.LoadLemmas.{told_kept}
use Rattle.index_files.proofs.MultiReading.{same_error}
use Rattle.index_files.proofs.MultiParts.{from_count, from_size, map_is, then_fails, then_read}
use Rattle.index_files.proofs.reading.multi.map.read_map.Goals as goal

pub returns-in_err-width-clause-gives : goal.returns-in_err-width-clause-gives
returns-in_err-width-clause-gives g c = λ told. (
    let codes : List (List ℕ) = c.args.storage.now.codes in
    let b : ℕ = c.args.b in
    let i : ℕ = c.args.number in
    let n : ℕ = c.count-count.result in
    let p0 = place g.H.Shelf.contents c.args.feed.now in
    let r = err_from_is_err_and c.from_residual.result c.from_residual.ensures.1 in
    rw (r.1, r.2) (then_fails c.in_err-width.field-0.0 (map_fields codes b i)
    (number 4 (must_be (position_width n) reason.Bits)) (λ w. from_count codes b i n w) p0 p0
    (map_is codes b i n p0 c.count-count.ensures) (c.in_err-width.ensures.gives told)))

pub returns-in_err-buckets-clause-gives : goal.returns-in_err-buckets-clause-gives
returns-in_err-buckets-clause-gives g c = λ told. (
    let codes : List (List ℕ) = c.args.storage.now.codes in
    let b : ℕ = c.args.b in
    let i : ℕ = c.args.number in
    let n : ℕ = c.count-count.result in
    let w : ℕ = c.in_ok-width.width in
    let p0 = place g.H.Shelf.contents c.args.feed.now in
    let p1 = place g.H.Shelf.contents c.read_width.new.feed in
    let s1 = then_read (map_fields codes b i) (number 4 (must_be (position_width n) reason.Bits))
    (λ w. from_count codes b i n w) p0 p0 p1 w (map_is codes b i n p0 c.count-count.ensures)
    (c.in_ok-width.ensures.gives told) in
    let told1 = told_kept _ _ c.in_ok-width.ensures.shelf.files told in
    let r = err_from_is_err_and c.from_residual-in_err-buckets.result c.from_residual-in_err-buckets.ensures.1 in
    rw (r.1, r.2) (then_fails c.in_err-buckets.field-0.0 (map_fields codes b i)
    (number 8 (bucket_count_checks n)) (λ m. from_size codes b i n w m) p0 p1 s1
    (c.in_err-buckets.ensures.gives told1)))

pub returns-in_err-size-clause-gives : goal.returns-in_err-size-clause-gives
returns-in_err-size-clause-gives g c = λ told. (
    let codes : List (List ℕ) = c.args.storage.now.codes in
    let b : ℕ = c.args.b in
    let i : ℕ = c.args.number in
    let n : ℕ = c.count-count.result in
    let w : ℕ = c.in_ok-width.width in
    let m : ℕ = c.in_ok-buckets.buckets in
    let p0 = place g.H.Shelf.contents c.args.feed.now in
    let p1 = place g.H.Shelf.contents c.read_width.new.feed in
    let p2 = place g.H.Shelf.contents c.read_bucket_count.new.feed in
    let s1 = then_read (map_fields codes b i) (number 4 (must_be (position_width n) reason.Bits))
    (λ w. from_count codes b i n w) p0 p0 p1 w (map_is codes b i n p0 c.count-count.ensures)
    (c.in_ok-width.ensures.gives told) in
    let told1 = told_kept _ _ c.in_ok-width.ensures.shelf.files told in
    let s2 = then_read (map_fields codes b i) (number 8 (bucket_count_checks n)) (λ m. from_size codes b i n w m)
    p0 p1 p2 m s1 (c.in_ok-buckets.ensures.gives told1) in
    let told2 = told_kept _ _ c.in_ok-buckets.ensures.shelf.files told1 in
    let r = err_from_is_err_and c.from_residual-in_err-size.result c.from_residual-in_err-size.ensures.1 in
    rw (r.1, r.2) (then_fails c.in_err-size.field-0.0 (map_fields codes b i)
    (number 8 (must_be ((map_bits n b w m + 7) / 8) reason.VectorSize)) (λ s. run_field codes i b w m s) p0 p2 s2
    (c.in_err-size.ensures.gives told2)))

pub returns-in_err-read_run-clause-gives : goal.returns-in_err-read_run-clause-gives
returns-in_err-read_run-clause-gives g c = λ told. (
    let codes : List (List ℕ) = c.args.storage.now.codes in
    let b : ℕ = c.args.b in
    let i : ℕ = c.args.number in
    let n : ℕ = c.count-count.result in
    let w : ℕ = c.in_ok-width.width in
    let m : ℕ = c.in_ok-buckets.buckets in
    let s : ℕ = c.in_ok-size.size in
    let p0 = place g.H.Shelf.contents c.args.feed.now in
    let p1 = place g.H.Shelf.contents c.read_width.new.feed in
    let p2 = place g.H.Shelf.contents c.read_bucket_count.new.feed in
    let p3 = place g.H.Shelf.contents c.read_run_size.new.feed in
    let s1 = then_read (map_fields codes b i) (number 4 (must_be (position_width n) reason.Bits))
    (λ w. from_count codes b i n w) p0 p0 p1 w (map_is codes b i n p0 c.count-count.ensures)
    (c.in_ok-width.ensures.gives told) in
    let told1 = told_kept _ _ c.in_ok-width.ensures.shelf.files told in
    let s2 = then_read (map_fields codes b i) (number 8 (bucket_count_checks n)) (λ m. from_size codes b i n w m)
    p0 p1 p2 m s1 (c.in_ok-buckets.ensures.gives told1) in
    let told2 = told_kept _ _ c.in_ok-buckets.ensures.shelf.files told1 in
    let s3 = then_read (map_fields codes b i) (number 8 (must_be ((map_bits n b w m + 7) / 8) reason.VectorSize))
    (λ s. run_field codes i b w m s) p0 p2 p3 s s2 (c.in_ok-size.ensures.gives told2) in
    let told3 = told_kept _ _ c.in_ok-size.ensures.shelf.files told2 in
    let r = err_from_is_err_and c.from_residual-in_err-read_run.result c.from_residual-in_err-read_run.ensures.1 in
    rw (r.1, r.2) (same_error c.in_err-read_run.field-0.0 (run (run_field codes i b w m s) p3)
    (run (map_fields codes b i) p0) s3 (c.in_err-read_run.ensures.gives told3)))

pub returns-clause-gives : goal.returns-clause-gives
returns-clause-gives g c = λ told. (
    let codes : List (List ℕ) = c.args.storage.now.codes in
    let b : ℕ = c.args.b in
    let i : ℕ = c.args.number in
    let n : ℕ = c.count-count.result in
    let w : ℕ = c.in_ok-width.width in
    let m : ℕ = c.in_ok-buckets.buckets in
    let s : ℕ = c.in_ok-size.size in
    let p0 = place g.H.Shelf.contents c.args.feed.now in
    let p1 = place g.H.Shelf.contents c.read_width.new.feed in
    let p2 = place g.H.Shelf.contents c.read_bucket_count.new.feed in
    let p3 = place g.H.Shelf.contents c.read_run_size.new.feed in
    let s1 = then_read (map_fields codes b i) (number 4 (must_be (position_width n) reason.Bits))
    (λ w. from_count codes b i n w) p0 p0 p1 w (map_is codes b i n p0 c.count-count.ensures)
    (c.in_ok-width.ensures.gives told) in
    let told1 = told_kept _ _ c.in_ok-width.ensures.shelf.files told in
    let s2 = then_read (map_fields codes b i) (number 8 (bucket_count_checks n)) (λ m. from_size codes b i n w m)
    p0 p1 p2 m s1 (c.in_ok-buckets.ensures.gives told1) in
    let told2 = told_kept _ _ c.in_ok-buckets.ensures.shelf.files told1 in
    let s3 = then_read (map_fields codes b i) (number 8 (must_be ((map_bits n b w m + 7) / 8) reason.VectorSize))
    (λ s. run_field codes i b w m s) p0 p2 p3 s s2 (c.in_ok-size.ensures.gives told2) in
    let told3 = told_kept _ _ c.in_ok-size.ensures.shelf.files told2 in
    s3 ∙ c.in_ok-read_run.ensures.gives told3)
