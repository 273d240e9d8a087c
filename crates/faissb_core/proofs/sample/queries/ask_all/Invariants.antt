use Rattle.std.proofs.Common.{◌≡◌, ◌*◌, ◌^◌, ◌≤◌}
use Rattle.faissb_core.specs.Machine.Sample.{tallied, sample_queries}
use Rattle.faissb_core.proofs.sample.queries.ask_all.Given as goal

abbrev pub invariant-loop-j : goal.invariant-loop-j
invariant-loop-j g l = record {
  tally : l.tally ≡ tallied (g.I.BinaryIndex.value l.index) (sample_queries l.seed l.count l.j);
  hits : l.tally.hits ≤ l.j * 2 ^ 64;
  looked : l.tally.looked ≤ l.j * 2 ^ 64;
  exact : l.tally.exact ≤ l.j;
}
