use Rattle.std.proofs.Common.{rules, ◌≡◌, ℕ, ◌+◌, ◌-◌, List, ◌∷◌, [], ◌++◌, length, Ok, ap, sym, subst}
use Rattle.std.proofs.Common.{◌∙◌, arith, refl}
use Rattle.std.specs.Prelude.{count_by, nat_lt}
use Rattle.std.proofs.lemmas.Result.{err_from_is_err_and}
use Rattle.file_parts.specs.Format.{run}
use Rattle.file_parts.specs.Feeding.{place}
use Rattle.index_files.specs.IvfFormat.{ListSize}
use Rattle.index_files.specs.IvfSteps.{filled_sizes}
use Rattle.index_files.proofs.IvfReading.{AreNoted, error_is, full-done, full-more, full-stops, noted-count}
use Rattle.index_files.proofs.IvfReading.{noted-filled}
use Rattle.index_files.proofs.IvfReading.{noted-more, noted-none, noted-rows, noted-few}
use Rattle.index_files.proofs.LoadLemmas.{keeps_then, told_kept}
use Rattle.index_files.proofs.reading.ivf.sizes.read_full_sizes.Goals as goal

pub loop-list-init : goal.loop-list-init
loop-list-init g c =
    let none = c.new-sizes.ensures.items in
    let nlist : ℕ = c.args.nlist in
    let whole : nlist - 0 ≡ nlist = omega arith in
    let p = place g.H.Shelf.contents c.args.feed.now in
    record {
      few = omega (arith, ap length none);
      within = omega arith;
      whole = λ le. absurd (omega (arith, le, c.requires.least));
      so_far = (
        [],
        subst (λ (ps : List ListSize). AreNoted 0 0 ps []) (sym none) noted-none,
        λ told. ap (λ (n : ℕ). run (filled_sizes nlist c.args.total n []) p) whole,
      );
      same_shelf = refl;
      files = search rules;
      reading = refl;
      count_stays = refl;
    }

pub loop-list-preserved : goal.loop-list-preserved
loop-list-preserved g c =
    let inv = c.loop-list.invariant in
    let i : ℕ = c.loop-list.list in
    let (before, noted, so_far) = inv.so_far in
    let size : ℕ = c.in_ok-size.size in
    let kept : List ListSize = c.loop-list.sizes.items in
    let known : count_by (nat_lt 0) before ≡ c.len.result =
    omega (arith, noted-count i c.loop-list.rows kept before noted, c.len.ensures, c.loop-list.sizes.ok.0) in
    let now = noted-more i c.loop-list.rows size kept c.note_size.new.sizes.items before noted
    c.in_ok-note_size.ensures in
    record {
      few = noted-few (i + 1) (c.loop-list.rows + size) c.note_size.new.sizes.items (before ++ size ∷ []) now;
      within = c.in_ok-size.ensures.within;
      whole = λ le. c.in_ok-size.ensures.last (omega (arith, le, c.loop-list-test.true));
      so_far = (
        before ++ size ∷ [],
        now,
        λ told. (
            sym (full-more c.args.nlist c.args.total i size before (place g.H.Shelf.contents c.loop-list.feed)
            (place g.H.Shelf.contents c.read_full_size.new.feed) c.loop-list-test.true
            (c.in_ok-size.ensures.gives before noted.count known noted.sum_is (told_kept _ _ inv.files told)))
            ∙ so_far told),
      );
      same_shelf = c.in_ok-size.ensures.shelf.same_shelf ∙ inv.same_shelf;
      files = keeps_then _ _ _ inv.files c.in_ok-size.ensures.shelf.files;
      reading = c.in_ok-size.ensures.shelf.reading ∙ inv.reading;
      count_stays = search rules;
    }

pub returns-in_err-size-clause-gives : goal.returns-in_err-size-clause-gives
returns-in_err-size-clause-gives g c = λ told. (
    let inv = c.loop-list.invariant in
    let i : ℕ = c.loop-list.list in
    let (before, noted, so_far) = inv.so_far in
    let r = err_from_is_err_and c.from_residual.result c.from_residual.ensures.1 in
    let known : count_by (nat_lt 0) before ≡ c.len.result =
    omega (
      arith,
      noted-count i c.loop-list.rows c.loop-list.sizes.items before noted,
      c.len.ensures,
      c.loop-list.sizes.ok.0,
    ) in
    rw (r.1, r.2) (error_is c.in_err-size.field-0.0 _ _ (full-stops c.args.nlist c.args.total i before
    (place g.H.Shelf.contents c.loop-list.feed) c.in_err-size.field-0.0 c.loop-list-test.true
    (c.in_err-size.ensures.gives before noted.count known noted.sum_is (told_kept _ _ inv.files told)))
    (so_far told)))

pub returns-clause-gives : goal.returns-clause-gives
returns-clause-gives g c = λ told.
    let inv = c.loop-list.invariant in
    let (before, noted, so_far) = inv.so_far in
    sym (so_far told) ∙ full-done c.args.nlist c.args.total c.loop-list.list c.loop-list.rows c.loop-list.sizes.items
    before
    (place g.H.Shelf.contents c.loop-list.feed) c.loop-list-test.false noted

pub returns-clause-filled : goal.returns-clause-filled
returns-clause-filled g c =
    let inv = c.loop-list.invariant in
    let (before, noted, so_far) = inv.so_far in
    let end : c.loop-list.list ≡ c.args.nlist = omega (arith, c.loop-list-test.false, c.loop-list.auto.list-end) in
    noted-filled c.args.nlist c.loop-list.rows c.loop-list.sizes.items before
    (subst (λ (n : ℕ). AreNoted n c.loop-list.rows c.loop-list.sizes.items before) end noted)

pub returns-clause-total : goal.returns-clause-total
returns-clause-total g c =
    let inv = c.loop-list.invariant in
    let (before, noted, so_far) = inv.so_far in
    noted-rows c.loop-list.list c.loop-list.rows c.loop-list.sizes.items before noted ∙ inv.whole c.loop-list-test.false
