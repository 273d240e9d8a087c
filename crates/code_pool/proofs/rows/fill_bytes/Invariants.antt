use Rattle.std.proofs.Common.{◌≡◌, ◌-◌, ◌≤◌, ◌++◌, length, replicate}
use Rattle.std.specs.Prelude.{vec_capacity}
use Rattle.code_pool.proofs.rows.fill_bytes.Given as goal

abbrev pub invariant-loop-bytes : goal.invariant-loop-bytes
invariant-loop-bytes l = record {
  least : length l.initial.bytes.items ≤ length l.bytes.items;
  most : length l.bytes.items ≤ l.n;
  room : l.n ≤ vec_capacity l.bytes;
  items : l.bytes.items
      ≡ l.initial.bytes.items ++ replicate (length l.bytes.items - length l.initial.bytes.items) 0;
}

abbrev pub decreases-loop-bytes : goal.decreases-loop-bytes
decreases-loop-bytes l = l.n - length l.bytes.items
