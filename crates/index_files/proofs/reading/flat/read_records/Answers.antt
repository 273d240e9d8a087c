use Rattle.std.proofs.Common.{◌≡◌, ℕ, ◌*◌, ◌/◌, ◌<◌, Ok, length, sym, subst, ap, ◌∙◌}
use Rattle.std.proofs.Math.Nat.{mul-div_cancel}
use Rattle.std.proofs.lemmas.Result.{err_from_is_err_and}
use Rattle.bcodes.specs.Chunks.{chunks_of}
use Rattle.file_parts.specs.Feeding.{GivesError, place}
use Rattle.file_parts.specs.Fields.{bytes_field, no_check, repeated}
use Rattle.file_parts.specs.Format.{run}
use Rattle.index_files.proofs.reading.flat.read_records.Goals as goal

as-many : (n w len : ℕ) → 0 < w → len ≡ n * w → len / w ≡ n
as-many n w len some whole = ap (λ (k : ℕ). k / w) whole ∙ mul-div_cancel n some

pub records-requires-clause-whole : goal.records-requires-clause-whole
records-requires-clause-whole g c =
    ap (λ (k : ℕ). k * c.args.size) (as-many c.args.n c.args.size _ c.requires.size c.requires.whole)
    ∙ sym c.requires.whole

pub returns-clause-gives : goal.returns-clause-gives
returns-clause-gives g c = λ told.
    let w : ℕ = c.args.size in
    subst (λ (k : ℕ). run (repeated k (bytes_field w no_check)) (place g.H.Shelf.contents c.args.feed.now)
    ≡ Ok (chunks_of w k c.records.new.into, place g.H.Shelf.contents c.records.new.self))
    (as-many c.args.n w _ c.requires.size c.requires.whole) (c.in_ok-records.ensures.gives told)

pub returns-in_err-records-clause-gives : goal.returns-in_err-records-clause-gives
returns-in_err-records-clause-gives g c = λ told. (
    let w : ℕ = c.args.size in
    let r = err_from_is_err_and c.from_residual.result c.from_residual.ensures.1 in
    rw (r.1, r.2) (subst
    (λ (k : ℕ). GivesError c.in_err-records.field-0.0
    (run (repeated k (bytes_field w no_check)) (place g.H.Shelf.contents c.args.feed.now)))
    (as-many c.args.n w _ c.requires.size c.requires.whole) (c.in_err-records.ensures.gives told)))
