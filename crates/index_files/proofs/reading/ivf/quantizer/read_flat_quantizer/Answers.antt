use Rattle.std.proofs.Common.{ℕ, ◌≤◌, sym, subst}
use Rattle.bcodes.specs.Ranges.{load_limit}
use Rattle.bcodes.specs.Value.{weight}
use Rattle.file_parts.specs.declared.role.Role.TheVariants.{Quantizer}
use Rattle.index_files.proofs.IvfReading.{quantizer_load}
use Rattle.index_files.proofs.reading.ivf.quantizer.read_flat_quantizer.Goals as goal

pub read_centroids-requires-clause-load : goal.read_centroids-requires-clause-load
read_centroids-requires-clause-load g c =
    let inner = c.in_ok-inner.inner in
    let head = c.args.head in
    subst (λ (d : ℕ). weight d 0 0 inner.count ≤ load_limit) (sym c.dim_of.ensures)
    (quantizer_load (Quantizer head.dim c.args.nlist head.count head.flag) inner.dim inner.count
    c.in_ok-inner.ensures.fits.load)
