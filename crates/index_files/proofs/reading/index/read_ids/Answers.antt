use Rattle.std.proofs.Common.{rules, ◌≡◌, ℕ, ◌+◌, ◌-◌, List, ◌∷◌, [], ◌++◌, length, Ok, ap}
use Rattle.std.proofs.Common.{◌∙◌, arith, length-append}
use Rattle.std.proofs.lemmas.Result.{err_from_is_err_and}
use Rattle.std.specs.Prelude.{FitsSigned}
use Rattle.std.specs.Int.{w64, cast_signed, cast_unsigned}
use Rattle.std.proofs.lemmas.Int.{to_z-of_z}
use Rattle.file_parts.specs.Format.{run}
use Rattle.file_parts.specs.Fields.{any_signed, repeated}
use Rattle.file_parts.specs.Feeding.{place}
use Rattle.file_parts.proofs.Repeats.{goes_on, ends}
use Rattle.index_files.proofs.LoadLemmas.{keeps_then, told_kept}
use Rattle.index_files.proofs.reading.index.read_ids.Goals as goal

pub loop-preserved : goal.loop-preserved
loop-preserved g c =
    let inv = c.loop.invariant in
    let fits : FitsSigned w64 c.in_ok-id.id = search rules in
    let whole : cast_signed w64 (cast_unsigned w64 c.in_ok-id.id)
    ≡ c.in_ok-id.id = to_z-of_z w64 c.in_ok-id.id fits in
    record {
      count =
          ap length c.in_ok-push.ensures.items ∙ length-append c.loop.ids.items _
          ∙ ap (λ (n : ℕ). n + 1) inv.count;
      so_far = λ told. (
          rw (c.in_ok-push.ensures.items, whole) (goes_on (any_signed 8) c.loop.ids.items c.args.count c.loop.counter
          (place g.H.Shelf.contents c.loop.feed) (place g.H.Shelf.contents c.i64.new.self) c.in_ok-id.id
          (run (repeated c.args.count (any_signed 8)) (place g.H.Shelf.contents c.args.feed.now)) c.loop-test.true
          (c.in_ok-id.ensures.gives (told_kept _ _ inv.files told)) (inv.so_far told)));
      same_shelf = c.in_ok-id.ensures.shelf.same_shelf ∙ inv.same_shelf;
      files = keeps_then _ _ _ inv.files c.in_ok-id.ensures.shelf.files;
      reading = c.in_ok-id.ensures.shelf.reading ∙ inv.reading;
      count_stays = search rules;
    }

pub returns-in_err-id-clause-gives : goal.returns-in_err-id-clause-gives
returns-in_err-id-clause-gives g c = λ told. (
    let inv = c.loop.invariant in
    let total = run (repeated c.args.count (any_signed 8)) (place g.H.Shelf.contents c.args.feed.now) in
    let r = err_from_is_err_and c.from_residual.result c.from_residual.ensures.1 in
    rw (r.1, r.2) (ends (any_signed 8) c.in_err-id.field-0.0 c.loop.ids.items c.args.count c.loop.counter
    (place g.H.Shelf.contents c.loop.feed) total c.loop-test.true
    (c.in_err-id.ensures.gives (told_kept _ _ inv.files told)) (inv.so_far told)))
