use Rattle.std.proofs.Common.{◌≡◌, ◌-◌, ◌≤◌}
use Rattle.index_tests.proofs.building.built.Given as goal

abbrev pub invariant-loop-alloc : goal.invariant-loop-alloc
invariant-loop-alloc l = record {
  whole : l.building.whole ≡ record {
    dim = l.fn.codes.dim;
    nhash = l.fn.nhash;
    b = l.fn.b;
    nflip = 0;
    codes = l.fn.codes.codes;
  };
  made : l.building.made ≤ l.fn.nhash;
}

abbrev pub decreases-loop-alloc : goal.decreases-loop-alloc
decreases-loop-alloc l = l.fn.nhash - l.building.made
