use Rattle.std.proofs.Common.{length, ap, arith}
use Rattle.ivf_index.proofs.nearest.nearest_lists.Goals as goal

pub nearest_list-nearest-requires-clause-written : goal.nearest_list-nearest-requires-clause-written
nearest_list-nearest-requires-clause-written g c = omega (
  arith,
  c.loop-i.invariant.room,
  c.deref_mut.ensures.len,
  ap length c.deref_mut.ensures.value,
)
