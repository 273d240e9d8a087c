-- How an IVF is kept.
use Rattle.std.specs.Prelude.{◌≡◌, ℕ, ◌/◌, ◌^◌, ◌<◌, ◌≤◌, List, length}
use Rattle.std.specs.declared.option.Option.{Option}
use Rattle.std.specs.List.{All}
use Rattle.bcodes.specs.Ranges.{load_limit}
use Rattle.bcodes.specs.Value.{CodeList, ListRow, weight}
use Rattle.code_pool.specs.Lists.{PoolLists}
use Rattle.row_lists.specs.Rows.{order_in, lists_in, weave}
use Rattle.ivf_index.specs.Table.{IsTable, put_rows}
use Rattle.ivf_index.specs.Direct.{IsDirectOf}

-- the rows in their order
abbrev pub rows_in_order : PoolLists → PoolLists → List ListRow
rows_in_order order lists = put_rows (order_in order) (weave (order_in order) (lists_in lists))

pub record IsIvf (dim lists_most probes codes_most : ℕ) (entries : Option (List ℕ)) (quantizer : CodeList)
    (order_pool list_pool : PoolLists) : Type 0 where
  pub nlist_least : 1 ≤ lists_most
  pub nlist_most : lists_most ≤ 4194304
  pub nprobe_least : 1 ≤ probes
  pub nprobe_most : probes < 2 ^ 63
  pub max_codes : codes_most < 2 ^ 63
  pub quantizer_dim : quantizer.dim ≡ dim
  pub held : length quantizer.codes ≤ lists_most
  pub order_one : length order_pool.lists ≡ 1
  pub order_size : order_pool.code_size ≡ 0
  pub lists : length list_pool.lists ≡ lists_most
  pub size : list_pool.code_size ≡ dim / 8
  pub table : IsTable (order_in order_pool) (lists_in list_pool) (rows_in_order order_pool list_pool)
  pub numbers : All (λ n. n < lists_most) (order_in order_pool)
  pub filled : 0 < length (rows_in_order order_pool list_pool) → length quantizer.codes ≡ lists_most
  pub direct : IsDirectOf entries lists_most (lists_in list_pool) (rows_in_order order_pool list_pool)
  pub load : weight dim 0 (length (rows_in_order order_pool list_pool)) (length quantizer.codes) ≤ load_limit
