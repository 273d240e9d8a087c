-- How a Hash is kept.
use Rattle.std.specs.Prelude.{◌≡◌, ℕ, ◌/◌, ◌≤◌, List, length}
use Rattle.bcodes.specs.Ranges.{load_limit}
use Rattle.bcodes.specs.Value.{Row, weight}
use Rattle.code_pool.specs.Lists.{PoolLists}
use Rattle.key_buckets.specs.Room.{lists_most}
use Rattle.row_lists.specs.Rows.{order_in, lists_in, weave}
use Rattle.hash_index.specs.Table.{IsTable}

-- the rows in their order
abbrev pub rows_in_order : PoolLists → PoolLists → List Row
rows_in_order order buckets = weave (order_in order) (lists_in buckets)

pub record IsHash (dim b nflip : ℕ) (es : List (ℕ × ℕ)) (order buckets : PoolLists) : Type 0 where
  pub b_least : 1 ≤ b
  pub b_most : b ≤ 64
  pub b_within : b ≤ dim
  pub flips_most : nflip ≤ b
  pub order_one : length order.lists ≡ 1
  pub order_size : order.code_size ≡ 0
  pub size : buckets.code_size ≡ dim / 8
  pub table : IsTable b es (order_in order) (lists_in buckets) (rows_in_order order buckets)
  pub keys_few : length es ≤ length (rows_in_order order buckets)
  pub keys_most : length es ≤ length buckets.lists
  pub lists_few : length buckets.lists ≤ lists_most
  pub load : weight dim 1 (length (rows_in_order order buckets)) 0 ≤ load_limit
