use Rattle.bcodes.specs.Answers.{paired}
use Rattle.row_lists.specs.Put.{IsPut}
use Rattle.row_lists.proofs.put.put_all.Given as goal

abbrev pub invariant-loop-i : goal.invariant-loop-i
invariant-loop-i g l = record {
  put : IsPut l.initial.order l.initial.lists l.numbers (paired l.labels l.codes.codes) l.i l.order l.lists;
}
