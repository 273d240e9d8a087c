use Rattle.std.proofs.Common.{◌≡◌, ◌/◌, ◌∙◌, rules, arith}
use Rattle.std.proofs.lemmas.Result.{err_from_is_err_and}
use Rattle.file_parts.specs.Feeding.{place}
use Rattle.file_parts.specs.Heads.{view_head}
use Rattle.index_files.proofs.HashReading.{buckets_fail}
use Rattle.index_files.proofs.LoadLemmas.{keeps_then, told_kept}
use Rattle.index_files.proofs.reading.hash.read_rest.Goals as goal

pub returns-in_err-read_buckets-clause-gives : goal.returns-in_err-read_buckets-clause-gives
returns-in_err-read_buckets-clause-gives g c = λ told. (
    let first = c.in_ok-b.ensures.shelf.files in
    let then = keeps_then _ _ _ first c.in_ok-nflip.ensures.shelf.files in
    let r = err_from_is_err_and c.from_residual-in_err-read_buckets.result
    c.from_residual-in_err-read_buckets.ensures.1 in
    rw (r.1, r.2) (buckets_fail c.args.role (view_head c.args.head) (place g.H.Shelf.contents c.args.feed.now)
    c.in_err-read_buckets.field-0.0 c.in_ok-b.b c.in_ok-nflip.nflip (place g.H.Shelf.contents c.read_b.new.feed)
    (place g.H.Shelf.contents c.read_nflip.new.feed) (c.in_ok-b.ensures.gives told)
    (c.in_ok-nflip.ensures.gives (told_kept _ _ first told))
    (rw c.in_ok-hash.ensures at (c.in_err-read_buckets.ensures.gives (told_kept _ _ then told)))))

pub returns-in_err-read_buckets-clause-shelf : goal.returns-in_err-read_buckets-clause-shelf
returns-in_err-read_buckets-clause-shelf g c = record {
  same_shelf = c.in_err-read_buckets.ensures.shelf.same_shelf ∙ c.in_ok-nflip.ensures.shelf.same_shelf
      ∙ c.in_ok-b.ensures.shelf.same_shelf;
  files = keeps_then _ _ _ (keeps_then _ _ _ c.in_ok-b.ensures.shelf.files c.in_ok-nflip.ensures.shelf.files)
      c.in_err-read_buckets.ensures.shelf.files;
  reading = c.in_err-read_buckets.ensures.shelf.reading ∙ c.in_ok-nflip.ensures.shelf.reading
      ∙ c.in_ok-b.ensures.shelf.reading;
  cause = search rules;
}
