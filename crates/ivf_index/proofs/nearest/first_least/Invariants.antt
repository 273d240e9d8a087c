use Rattle.std.proofs.Common.{◌<◌, ◌≤◌, ℕ, get_or}
use Rattle.ivf_index.proofs.nearest.first_least.Given as goal

abbrev pub invariant-loop-i : goal.invariant-loop-i
invariant-loop-i l = record {
  within : l.first < l.i;
  least : (i : ℕ) → i < l.i → get_or l.numbers l.first 0 ≤ get_or l.numbers i 0;
  before : (i : ℕ) → i < l.first → get_or l.numbers l.first 0 < get_or l.numbers i 0;
}
