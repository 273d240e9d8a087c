use Rattle.std.proofs.Common.{rules, ◌≡◌, ℕ, ◌+◌, ◌-◌, List, ◌∷◌, [], ◌++◌, length, Ok, ap}
use Rattle.std.proofs.Common.{◌∙◌, arith, length-append}
use Rattle.std.proofs.lemmas.Result.{err_from_is_err_and}
use Rattle.file_parts.specs.Format.{run}
use Rattle.file_parts.specs.Fields.{any_number, repeated}
use Rattle.file_parts.specs.Feeding.{place}
use Rattle.file_parts.proofs.Repeats.{goes_on, ends, is_done}
use Rattle.index_files.proofs.LoadLemmas.{keeps_then, told_kept}
use Rattle.index_files.proofs.reading.ivf.direct.read_entries.Goals as goal

pub loop-preserved : goal.loop-preserved
loop-preserved g c =
    let inv = c.loop.invariant in
    let items = c.in_ok-push.ensures.items ∙ ap (λ (xs : List ℕ). xs ++ c.in_ok-entry.entry ∷ []) c.make_room.ensures in
    record {
      count =
          ap length items ∙ length-append c.loop.entries.items _
          ∙ ap (λ (n : ℕ). n + 1) inv.count;
      so_far = λ told. (
          rw items (goes_on (any_number 8) c.loop.entries.items c.args.count c.loop.counter
          (place g.H.Shelf.contents c.loop.feed) (place g.H.Shelf.contents c.u64.new.self) c.in_ok-entry.entry
          (run (repeated c.args.count (any_number 8)) (place g.H.Shelf.contents c.args.feed.now)) c.loop-test.true
          (c.in_ok-entry.ensures.gives (told_kept _ _ inv.files told)) (inv.so_far told)));
      same_shelf = c.in_ok-entry.ensures.shelf.same_shelf ∙ inv.same_shelf;
      files = keeps_then _ _ _ inv.files c.in_ok-entry.ensures.shelf.files;
      reading = c.in_ok-entry.ensures.shelf.reading ∙ inv.reading;
      count_stays = search rules;
    }

pub returns-in_err-entry-clause-gives : goal.returns-in_err-entry-clause-gives
returns-in_err-entry-clause-gives g c = λ told. (
    let inv = c.loop.invariant in
    let total = run (repeated c.args.count (any_number 8)) (place g.H.Shelf.contents c.args.feed.now) in
    let r = err_from_is_err_and c.from_residual.result c.from_residual.ensures.1 in
    rw (r.1, r.2) (ends (any_number 8) c.in_err-entry.field-0.0 c.loop.entries.items c.args.count c.loop.counter
    (place g.H.Shelf.contents c.loop.feed) total c.loop-test.true
    (c.in_err-entry.ensures.gives (told_kept _ _ inv.files told)) (inv.so_far told)))

pub returns-clause-gives : goal.returns-clause-gives
returns-clause-gives g c = λ told.
    let inv = c.loop.invariant in
    is_done (any_number 8) c.loop.entries.items c.args.count c.loop.counter (place g.H.Shelf.contents c.loop.feed)
    (run (repeated c.args.count (any_number 8)) (place g.H.Shelf.contents c.args.feed.now)) c.loop-test.false
    (inv.so_far told)
