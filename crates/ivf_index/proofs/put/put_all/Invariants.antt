use Rattle.bcodes.specs.Answers.{paired}
use Rattle.std.proofs.Common.{◌-◌, length}
use Rattle.row_lists.specs.Put.{IsPut}
use Rattle.ivf_index.specs.Direct.{HasRoomOf, entries_of}
use Rattle.ivf_index.specs.Entries.{IsMapped}
use Rattle.ivf_index.proofs.put.put_all.Given as goal

abbrev pub invariant-loop-i : goal.invariant-loop-i
invariant-loop-i g l = record {
  put : IsPut l.initial.order l.initial.lists l.numbers (paired l.labels l.codes.codes) l.i l.order l.lists;
  direct : IsMapped l.initial.lists l.numbers l.i (entries_of l.initial.direct) (entries_of l.direct);
  direct_room : HasRoomOf (length l.numbers - l.i) l.direct;
}
