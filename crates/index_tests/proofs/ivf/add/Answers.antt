use Rattle.std.proofs.Common.{◌≡◌, ◌+◌, ◌<◌, ◌≤◌, ℕ, length, arith}
use Rattle.bcodes.specs.Ranges.{load_limit}
use Rattle.bcodes.specs.Value.{weight}
use Rattle.ivf_index.proofs.AddLemmas.{load_after}
use Rattle.index_tests.proofs.ivf.add.Goals as goal

-- few codes of 8 bits are within the load limit
light : (d rows more held : ℕ) → d ≡ 8 → rows < 100 → more < 100 → held ≡ 2
    → weight d 0 (rows + more) held ≤ load_limit
light d rows more held e few little two = rw (e, two) (omega arith)

pub add_all-requires-clause-load : goal.add_all-requires-clause-load
add_all-requires-clause-load g c =
    let v = c.args.index.now in
    let cs = c.in_ok-codes.codes.codes in
    let same : length c.args.labels.now ≡ length cs = omega (arith, c.len.ensures.value) in
    let dim : v.dim ≡ 8 = omega (arith, c.dim.ensures.value, c.bits.ensures) in
    let rows : length v.rows < 100 = omega (arith, c.count.ensures) in
    let more : length cs < 100 = omega (arith, c.len-2.ensures.value) in
    let held : length v.centroids ≡ 2 = omega (arith, c.held.ensures.value) in
    rw (load_after v c.args.labels.now cs same)
    (light v.dim (length v.rows) (length cs) (length v.centroids) dim rows more held)
