use Rattle.std.proofs.Common.{rules, ◌≡◌, ℕ, ℤ, ◌+◌, ◌∷◌, [], length, ap, refl, false}
use Rattle.std.proofs.Common.{◌∙◌, length-append, ◌&&◌}
use Rattle.std.proofs.lemmas.Result.{err_from_is_err_and}
use Rattle.std.proofs.lemmas.List.Elements.{All-nil, All-cons, All-append}
use Rattle.std.specs.Prelude.{FitsSigned}
use Rattle.std.specs.Int.{w64, cast_signed, cast_unsigned}
use Rattle.std.proofs.lemmas.Int.{to_z-of_z}
use Rattle.file_parts.specs.Format.{run}
use Rattle.file_parts.specs.Fields.{repeated}
use Rattle.file_parts.specs.Feeding.{place}
use Rattle.file_parts.proofs.Repeats.{goes_on, ends}
use Rattle.index_files.specs.FlatFormat.{is_inside, is_no_place}
use Rattle.index_files.specs.HashFormat.{bucket_id}
use Rattle.index_files.proofs.HashReading.{keeps_same, none_read}
use Rattle.index_files.proofs.LoadLemmas.{keeps_then, told_kept}
use Rattle.index_files.proofs.reading.hash.rows.read_ids.Goals as goal

pub loop-init : goal.loop-init
loop-init g c = record {
  count = ap length c.clear.ensures.items;
  pass = rw c.clear.ensures.items (All-nil (λ id. (is_inside c.args.role && is_no_place c.args.total id) ≡ false));
  so_far = λ told. (
      rw c.clear.ensures.items (none_read (bucket_id c.args.role c.args.total) c.args.count
      (place g.H.Shelf.contents c.args.feed.now)));
  same_shelf = refl;
  files = keeps_same _;
  reading = refl;
  count_stays = refl;
}

pub loop-preserved : goal.loop-preserved
loop-preserved g c =
    let inv = c.loop.invariant in
    let f = bucket_id c.args.role c.args.total in
    let fits : FitsSigned w64 c.in_ok-id.id = search rules in
    let whole : cast_signed w64 (cast_unsigned w64 c.in_ok-id.id)
    ≡ c.in_ok-id.id = to_z-of_z w64 c.in_ok-id.id fits in
    let P : ℤ → Type 0 = λ id. (is_inside c.args.role && is_no_place c.args.total id) ≡ false in
    record {
      count =
          ap length c.in_ok-push.ensures.items ∙ length-append c.loop.ids.items _
          ∙ ap (λ (n : ℕ). n + 1) inv.count;
      pass = rw (c.in_ok-push.ensures.items, whole) (All-append P c.loop.ids.items (c.in_ok-id.id ∷ []) inv.pass
          (All-cons P c.in_ok-id.id [] c.in_ok-id.ensures.pass (All-nil P)));
      so_far = λ told. (
          rw (c.in_ok-push.ensures.items, whole) (goes_on f c.loop.ids.items c.args.count c.loop.counter
          (place g.H.Shelf.contents c.loop.feed) (place g.H.Shelf.contents c.read_id.new.feed) c.in_ok-id.id
          (run (repeated c.args.count f) (place g.H.Shelf.contents c.args.feed.now)) c.loop-test.true
          (c.in_ok-id.ensures.gives (told_kept _ _ inv.files told)) (inv.so_far told)));
      same_shelf = c.in_ok-id.ensures.shelf.same_shelf ∙ inv.same_shelf;
      files = keeps_then _ _ _ inv.files c.in_ok-id.ensures.shelf.files;
      reading = c.in_ok-id.ensures.shelf.reading ∙ inv.reading;
      count_stays = search rules;
    }

pub returns-in_err-id-clause-gives : goal.returns-in_err-id-clause-gives
returns-in_err-id-clause-gives g c = λ told. (
    let inv = c.loop.invariant in
    let f = bucket_id c.args.role c.args.total in
    let total = run (repeated c.args.count f) (place g.H.Shelf.contents c.args.feed.now) in
    let r = err_from_is_err_and c.from_residual.result c.from_residual.ensures.1 in
    rw (r.1, r.2) (ends f c.in_err-id.field-0.0 c.loop.ids.items c.args.count c.loop.counter
    (place g.H.Shelf.contents c.loop.feed) total c.loop-test.true
    (c.in_err-id.ensures.gives (told_kept _ _ inv.files told)) (inv.so_far told)))
