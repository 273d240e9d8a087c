use Rattle.std.proofs.Common.{rules, ◌≡◌, ℕ, ◌+◌, ◌-◌, List, ◌∷◌, [], ◌++◌, length, None, Ok, suc, ℤ, ap, sym}
use Rattle.std.proofs.Common.{◌∙◌, arith, subst, length-append}
use Rattle.std.proofs.lemmas.Result.{err_from_is_err_and}
use Rattle.std.specs.Prelude.{FitsSigned}
use Rattle.std.specs.List.{range_with_len}
use Rattle.std.specs.Int.{w64, cast_signed, cast_unsigned}
use Rattle.std.proofs.lemmas.Int.{to_z-of_z}
use Rattle.file_parts.specs.Format.{first_refusal, run}
use Rattle.file_parts.specs.Fields.{each}
use Rattle.file_parts.specs.Feeding.{place}
use Rattle.file_parts.proofs.Repeats.{with_front}
use Rattle.index_files.specs.IvfFormat.{list_id, list_id_checks}
use Rattle.index_files.specs.IvfSteps.{ArePassed}
use Rattle.index_files.proofs.IvfReading.{each-more, each-stops, passed-push}
use Rattle.index_files.proofs.LoadLemmas.{keeps_then, told_kept}
use Rattle.index_files.proofs.reading.ivf.ids.read_list_ids.Goals as goal

pub loop-offset-preserved : goal.loop-offset-preserved
loop-offset-preserved g c =
    let inv = c.loop-offset.invariant in
    let fits : FitsSigned w64 c.in_ok-id.id = search rules in
    let whole : cast_signed w64 (cast_unsigned w64 c.in_ok-id.id)
    ≡ c.in_ok-id.id = to_z-of_z w64 c.in_ok-id.id fits in
    let items = c.in_ok-push.ensures.items
    ∙ ap (λ (xs : List ℤ). xs ++ cast_signed w64 (cast_unsigned w64 c.in_ok-id.id) ∷ []) c.make_room.ensures in
    let rules_now = c.args.checks.now in
    let f = list_id rules_now.role rules_now.count rules_now.direct c.args.list in
    let i : ℕ = c.loop-offset.offset in
    let at : i ≡ 0 + length c.loop-offset.ids.items = omega (arith, inv.count) in
    let more : range_with_len i (c.args.n - i) ≡ i ∷ range_with_len (i + 1) (c.args.n - (i + 1)) =
    (let k : c.args.n - i ≡ suc (c.args.n - (i + 1)) = omega (arith, c.loop-offset-test.true) in
    ap (range_with_len i) k) in
    record {
      count = ap length items ∙ length-append c.loop-offset.ids.items _ ∙ ap (λ (n : ℕ). n + 1) inv.count;
      passed = rw (items, whole) (passed-push rules_now c.args.list 0 c.loop-offset.ids.items c.in_ok-id.id inv.passed (
        fits,
        subst (λ o. first_refusal (list_id_checks rules_now.role rules_now.count rules_now.direct c.args.list o
            c.in_ok-id.id) ≡ None) at c.in_ok-id.ensures.passed,
        tt,
      ));
      so_far = λ told. (
          rw (items, whole) (each-more c.loop-offset.ids.items i (range_with_len (i + 1) (c.args.n - (i + 1))) f
          (place g.H.Shelf.contents c.loop-offset.feed) (place g.H.Shelf.contents c.read_id.new.feed) c.in_ok-id.id
          (run (each (range_with_len 0 c.args.n) f) (place g.H.Shelf.contents c.args.feed.now))
          (c.in_ok-id.ensures.gives (told_kept _ _ inv.files told))
          (subst (λ (xs : List ℕ). with_front c.loop-offset.ids.items
          (run (each xs f) (place g.H.Shelf.contents c.loop-offset.feed))
          ≡ run (each (range_with_len 0 c.args.n) f) (place g.H.Shelf.contents c.args.feed.now)) more
          (inv.so_far told))));
      same_shelf = c.in_ok-id.ensures.shelf.same_shelf ∙ inv.same_shelf;
      files = keeps_then _ _ _ inv.files c.in_ok-id.ensures.shelf.files;
      reading = c.in_ok-id.ensures.shelf.reading ∙ inv.reading;
      count_stays = search rules;
    }

pub returns-in_err-id-clause-gives : goal.returns-in_err-id-clause-gives
returns-in_err-id-clause-gives g c = λ told. (
    let inv = c.loop-offset.invariant in
    let rules_now = c.args.checks.now in
    let f = list_id rules_now.role rules_now.count rules_now.direct c.args.list in
    let i : ℕ = c.loop-offset.offset in
    let total = run (each (range_with_len 0 c.args.n) f) (place g.H.Shelf.contents c.args.feed.now) in
    let more : range_with_len i (c.args.n - i) ≡ i ∷ range_with_len (i + 1) (c.args.n - (i + 1)) =
    (let k : c.args.n - i ≡ suc (c.args.n - (i + 1)) = omega (arith, c.loop-offset-test.true) in
    ap (range_with_len i) k) in
    let r = err_from_is_err_and c.from_residual.result c.from_residual.ensures.1 in
    rw (r.1, r.2) (each-stops c.loop-offset.ids.items i (range_with_len (i + 1) (c.args.n - (i + 1))) f
    (place g.H.Shelf.contents c.loop-offset.feed) c.in_err-id.field-0.0 total
    (c.in_err-id.ensures.gives (told_kept _ _ inv.files told))
    (subst (λ (xs : List ℕ). with_front c.loop-offset.ids.items
    (run (each xs f) (place g.H.Shelf.contents c.loop-offset.feed)) ≡ total) more (inv.so_far told))))
