use Rattle.std.proofs.Common.{◌≡◌, ℕ, ◌+◌, ◌<◌, ◌≤◌, length}
use Rattle.code_pool.specs.Lists.{PoolLists, list_at}
use Rattle.part_tests.proofs.pool.fill.Given as goal

-- after n pushes onto list 0
pub record IsFilled (old new : PoolLists) (n : ℕ) : Type 0 where
  pub one : 0 < length new.lists
  pub size : new.code_size ≡ 1
  pub room : (list_at old 0).spare ≤ (list_at new 0).spare + n
  pub rows : length (list_at new 0).rows ≡ length (list_at old 0).rows + n

abbrev pub invariant-loop-label : goal.invariant-loop-label
invariant-loop-label l = IsFilled l.initial.pool l.pool l.label
