use Rattle.std.proofs.Common.{◌≡◌, ◌<◌, length, map, min, take, vec_len}
use Rattle.std.specs.List.{All}
use Rattle.code_pool.specs.Lists.{run_rows}
use Rattle.ivf_index.specs.Near.{nearest_by}
use Rattle.ivf_index.proofs.nearest.nearest_lists.Given as goal

abbrev pub invariant-loop-i : goal.invariant-loop-i
invariant-loop-i g l = record {
  nearest : l.numbers.items ≡ map (nearest_by l.quantizer.codes) (take l.i l.codes.codes);
  room : vec_len l.distances ≡ min (length l.quantizer.codes) run_rows;
  below : All (λ n. n < length l.quantizer.codes) l.numbers.items;
}
