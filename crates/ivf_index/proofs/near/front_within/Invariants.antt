use Rattle.std.proofs.Common.{◌≡◌, ◌-◌, ◌≤◌, ◌++◌, length, take, drop}
use Rattle.ivf_index.specs.Near.{count_in, front_by}
use Rattle.ivf_index.proofs.near.front_within.Given as goal

abbrev pub invariant-loop-n : goal.invariant-loop-n
invariant-loop-n g l = record {
  within : l.n ≤ length l.lists;
  front : front_by (count_in l.pool) l.fn.max_codes l.lists ≡ take l.n l.lists ++ front_by (count_in l.pool) l.wanted
      (drop l.n l.lists);
}

abbrev pub decreases-loop-n : goal.decreases-loop-n
decreases-loop-n g l = length l.lists - l.n
