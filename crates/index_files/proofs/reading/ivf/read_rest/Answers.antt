use Rattle.std.proofs.Common.{rules, ℕ, ◌≡◌, ◌≤◌, ◌<◌, List, Ok, length, ap, sym, subst, ◌∙◌, arith}
use Rattle.std.proofs.lemmas.Result.{err_from_is_err_and}
use Rattle.bcodes.specs.Ranges.{load_limit}
use Rattle.bcodes.specs.Value.{Ivf, IvfValue, weight}
use Rattle.file_parts.specs.Feeding.{GivesError, place}
use Rattle.file_parts.specs.Format.{run}
use Rattle.file_parts.specs.Heads.{view_head}
use Rattle.index_files.specs.IvfSteps.{ivf_lists}
use Rattle.index_files.specs.Laws.{FitsRole}
use Rattle.index_files.proofs.IvfReading.{both_weigh, direct_fits, quantizer_held}
use Rattle.index_files.proofs.LoadLemmas.{told_kept}
use Rattle.index_files.proofs.reading.ivf.read_rest.Goals as goal

pub returns-clause-gives : goal.returns-clause-gives
returns-clause-gives g c = λ told. (
    let role = c.args.role in
    let head = view_head c.args.head in
    let start = place g.H.Shelf.contents c.args.feed.now in
    let end = place g.H.Shelf.contents c.read_lists.new.feed in
    let made : IvfValue = record c.read_lists.new.ivf { direct = c.in_ok-direct.direct } in
    let one = subst (λ (v : IvfValue). run (ivf_lists role head v.nlist v.nprobe v.centroids) start ≡ Ok (made, end))
    c.set_nprobe.ensures (c.in_ok-direct.ensures.gives told) in
    let two = subst (λ (n : ℕ). run (ivf_lists role head n c.args.nprobe c.args.ivf.centroids) start ≡ Ok (made, end))
    (ap (λ (v : IvfValue). v.nlist) c.requires.empty) one in
    subst (λ (v : IvfValue). run (ivf_lists role head c.args.nlist c.args.nprobe c.args.ivf.centroids) start
    ≡ Ok (v, end)) (sym c.in_ok-ivf.ensures.ok) two)

pub returns-clause-fits : goal.returns-clause-fits
returns-clause-fits g c =
    subst (λ (v : IvfValue). FitsRole c.args.role (Ivf v)) (sym c.in_ok-ivf.ensures.ok)
    (direct_fits c.args.role c.read_lists.new.ivf c.in_ok-direct.direct c.in_ok-direct.ensures.fits)

pub returns-in_err-direct-clause-gives : goal.returns-in_err-direct-clause-gives
returns-in_err-direct-clause-gives g c = λ told. (
    let role = c.args.role in
    let head = view_head c.args.head in
    let start = place g.H.Shelf.contents c.args.feed.now in
    let e = c.in_err-direct.field-0.0 in
    let one = subst (λ (v : IvfValue). GivesError e (run (ivf_lists role head v.nlist v.nprobe v.centroids) start))
    c.set_nprobe.ensures (c.in_err-direct.ensures.gives told) in
    let r = err_from_is_err_and c.from_residual.result c.from_residual.ensures.1 in
    rw (r.1, r.2)
    (subst (λ (n : ℕ). GivesError e (run (ivf_lists role head n c.args.nprobe c.args.ivf.centroids) start))
    (ap (λ (v : IvfValue). v.nlist) c.requires.empty) one))

pub read_lists-requires-clause-load : goal.read_lists-requires-clause-load
read_lists-requires-clause-load g c =
    let head = c.args.head in
    let held = ap (λ (v : IvfValue). v.centroids) c.set_nprobe.ensures in
    subst (λ (cs : List (List ℕ)). weight head.dim 0 head.count (length cs) ≤ load_limit) (sym held)
    (both_weigh head.dim head.count (length c.args.ivf.centroids) c.requires.quantizer.load)

pub read_lists-requires-clause-trained : goal.read_lists-requires-clause-trained
read_lists-requires-clause-trained g c = λ some.
    let head = c.args.head in
    let held = ap (λ (v : IvfValue). length v.centroids) c.set_nprobe.ensures in
    let same = ap (λ (v : IvfValue). v.nlist) (c.set_nprobe.ensures) in
    let all = ap (λ (v : IvfValue). v.nlist) c.requires.empty in
    let most = quantizer_held head.dim c.args.nlist head.count (length c.args.ivf.centroids) head.flag
    c.requires.quantizer.takes_count some in
    omega (arith, most, held, same, all)
