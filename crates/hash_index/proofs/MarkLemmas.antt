-- A close row is probed.
use Rattle.std.proofs.Common.{◌≡◌, ℕ, ◌+◌, ◌-◌, ◌*◌, ◌<◌, ◌≤◌, true, List, length, arith}
use Rattle.std.proofs.lemmas.Bool.{le-leb}
use Rattle.bcodes.specs.Bits.{dist, dist_between}
use Rattle.bcodes.specs.Value.{Row, HashValue, IsLegalHash, IsRow}
use Rattle.bcodes.specs.Answers.{is_probed_hash}
use Rattle.bcodes.proofs.BitLemmas.{differing-le_part}

-- few differing bits in all are few among the first
pub close_is_probed : (v : HashValue) (q : List ℕ) (row : Row) → IsLegalHash v → IsRow v.dim row
    → dist row.code q < v.nflip + 1 → is_probed_hash v q row ≡ true
close_is_probed v q row legal is less =
    let within : v.b - 0 ≤ 8 * length row.code = omega (arith, is.code.size, legal.b_within, legal.dim.whole_bytes) in
    le-leb (dist_between row.code q 0 v.b) v.nflip
    (omega (arith, differing-le_part row.code q 0 (v.b - 0) (8 * length row.code) within))
