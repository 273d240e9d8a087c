use Rattle.std.proofs.Common.{rules, ◌≡◌, ℕ, ◌+◌, ◌-◌, List, ◌∷◌, [], ◌++◌, length, Ok, ap, sym, subst}
use Rattle.std.proofs.Common.{◌∙◌, arith, refl, length-append}
use Rattle.std.proofs.lemmas.Result.{err_from_is_err_and}
use Rattle.file_parts.specs.Format.{run}
use Rattle.file_parts.specs.Feeding.{place}
use Rattle.index_files.specs.IvfFormat.{ListSize, rows_in, sparse_sizes}
use Rattle.index_files.specs.IvfSteps.{AreFilled}
use Rattle.index_files.proofs.IvfReading.{error_is, filled-push, filled-within, next-more, next-none, pair-done}
use Rattle.index_files.proofs.IvfReading.{pair-more, pair-stops, rows-push, IsNext}
use Rattle.index_files.proofs.LoadLemmas.{keeps_then, told_kept}
use Rattle.index_files.proofs.reading.ivf.sizes.read_pairs.Goals as goal

pub loop-done-init : goal.loop-done-init
loop-done-init g c =
    let none = c.new-sizes.ensures.items in
    let pairs : ℕ = c.args.pairs in
    let whole : pairs - 0 ≡ pairs = omega arith in
    let p = place g.H.Shelf.contents c.args.feed.now in
    record {
      count = ap length none;
      rows = ap rows_in none;
      within = omega arith;
      whole = λ le. sym (c.requires.none (omega (arith, le)));
      next = subst (IsNext 0) (sym none) next-none;
      next_most = omega arith;
      filled = subst (AreFilled 0 0) (sym none) tt;
      so_far = λ told. (
          ap (λ (n : ℕ). run (sparse_sizes c.args.nlist c.args.total n c.new-sizes.result.items) p) whole
          ∙ ap (λ (ps : List ListSize). run (sparse_sizes c.args.nlist c.args.total pairs ps) p) none);
      same_shelf = refl;
      files = search rules;
      reading = refl;
      count_stays = refl;
    }

pub loop-done-preserved : goal.loop-done-preserved
loop-done-preserved g c =
    let inv = c.loop-done.invariant in
    let i : ℕ = c.loop-done.done in
    let pair : ListSize = c.in_ok-pair.pair in
    let ok = c.in_ok-pair.ensures in
    let before : List ListSize = c.loop-done.sizes.items in
    let items = c.in_ok-push.ensures.items ∙ ap (λ (ps : List ListSize). ps ++ pair ∷ []) c.make_room.ensures in
    record {
      count = ap length items ∙ length-append before (pair ∷ []) ∙ ap (λ (n : ℕ). n + 1) inv.count;
      rows =
          ap rows_in items ∙ rows-push before pair ∙ ap (λ (n : ℕ). n + pair.size) inv.rows
          ∙ ap (λ (n : ℕ). c.loop-done.rows + n) (sym c.size.ensures);
      within = omega (arith, ok.within, c.size.ensures);
      whole = λ le. (
          let last = ok.last (omega (arith, le, c.loop-done-test.true)) in
          omega (arith, last, c.size.ensures));
      next = subst (λ (n : ℕ). IsNext n c.push.new.self.items) (ap (λ (n : ℕ). n + 1) (sym c.list-next.ensures))
          (subst (IsNext (pair.list + 1)) (sym items) (next-more c.loop-done.next before pair inv.next ok.least));
      next_most = omega (arith, ok.below, c.list-next.ensures);
      filled = subst (λ (n : ℕ). AreFilled 0 n c.push.new.self.items) (ap (λ (n : ℕ). n + 1) (sym c.list-next.ensures))
          (subst (AreFilled 0 (pair.list + 1)) (sym items)
          (filled-push 0 c.loop-done.next before pair (omega arith) ok.least ok.some inv.filled));
      so_far = λ told. (
          rw items (sym (pair-more c.args.nlist c.args.total c.args.pairs i before
          (place g.H.Shelf.contents c.loop-done.feed) (place g.H.Shelf.contents c.read_pair.new.feed) pair
          c.loop-done-test.true
          (ok.gives before inv.count inv.rows inv.next (told_kept _ _ inv.files told))) ∙ inv.so_far told));
      same_shelf = ok.shelf.same_shelf ∙ inv.same_shelf;
      files = keeps_then _ _ _ inv.files ok.shelf.files;
      reading = ok.shelf.reading ∙ inv.reading;
      count_stays = search rules;
    }

pub returns-in_err-pair-clause-gives : goal.returns-in_err-pair-clause-gives
returns-in_err-pair-clause-gives g c = λ told. (
    let inv = c.loop-done.invariant in
    let i : ℕ = c.loop-done.done in
    let r = err_from_is_err_and c.from_residual.result c.from_residual.ensures.1 in
    rw (r.1, r.2) (error_is c.in_err-pair.field-0.0 _ _ (pair-stops c.args.nlist c.args.total c.args.pairs i
    c.loop-done.sizes.items (place g.H.Shelf.contents c.loop-done.feed) c.in_err-pair.field-0.0 c.loop-done-test.true
    (c.in_err-pair.ensures.gives c.loop-done.sizes.items inv.count inv.rows inv.next (told_kept _ _ inv.files told)))
    (inv.so_far told)))

pub returns-clause-gives : goal.returns-clause-gives
returns-clause-gives g c = λ told.
    let inv = c.loop-done.invariant in
    sym (inv.so_far told) ∙ pair-done c.args.nlist c.args.total c.args.pairs c.loop-done.done c.loop-done.sizes.items
    (place g.H.Shelf.contents c.loop-done.feed) c.loop-done-test.false

pub returns-clause-filled : goal.returns-clause-filled
returns-clause-filled g c =
    let inv = c.loop-done.invariant in
    filled-within 0 c.loop-done.next c.args.nlist c.loop-done.sizes.items inv.next_most inv.filled
