use Rattle.std.proofs.Common.{rules, ◌≡◌, ℤ, pos, nat_abs, get_or, refl}
use Rattle.std.proofs.Common.{to_z, of_z, w64, FitsSigned}
use Rattle.std.proofs.lemmas.Int.{to_z-of_z}
use Rattle.ivf_index.proofs.PlaceLemmas.{run_more}
use Rattle.ivf_index.proofs.label_places.note_run.Goals as goal

pub loop-i-preserved : goal.loop-i-preserved
loop-i-preserved c =
    let a : ℤ = get_or c.args.labels.now c.loop-i.i (pos 0) in
    let fits : FitsSigned w64 a = search rules in
    let same : to_z w64 (of_z w64 a) ≡ a = to_z-of_z w64 a fits in
    let noted = c.if-not-note.ensures.yes refl in
    run_more c.args.list c.args.from c.loop-i.i (nat_abs a) c.entry_at.result c.args.labels.now c.args.places.now
    c.loop-i.places c.note.new.places c.loop-i.invariant c.loop-i-test.true
    (rw same at noted.0) (rw same at noted.1) (rw same at noted.2) c.entry_at.ensures
