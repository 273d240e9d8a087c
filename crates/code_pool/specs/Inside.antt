-- What a pool and its rows keep inside.
use Rattle.std.specs.Prelude.{◌≡◌, ℕ, ◌+◌, ◌-◌, ◌*◌, ◌<◌, ◌≤◌, ℤ, FitsSigned, List, length, map, drop}
use Rattle.std.specs.Prelude.{slice_index_or}
use Rattle.std.specs.Int.{w64}
use Rattle.std.specs.List.{All, range_with_len}
use Rattle.bcodes.specs.Value.{Row}
use Rattle.code_pool.specs.Lists.{SizedRows, PoolList, PoolLists, RowWalk, no_row}
use Rattle.code_pool.specs.Chains.{Held, BlockChains, IsAhead, chain_at, list_of, place_of}

-- labels and their codes
pub record IsRows (code_size : ℕ) (labels : List ℤ) (codes : List ℕ) : Type 0 where
  pub whole : length codes ≡ length labels * code_size
  pub fit : All (FitsSigned w64) labels

-- the rows of a list among all rows
abbrev pub rows_of : List Row → Held → List Row
rows_of rows h = map (λ k. slice_index_or rows (place_of h.blocks k) no_row) (range_with_len 0 h.len)

-- a list, by its blocks among all rows
abbrev pub list_in : List Row → Held → PoolList
list_in rows h = record { rows = rows_of rows h; spare = 4 * length h.blocks - h.len }

-- the lists of a pool, by all rows and the chains of blocks
abbrev pub pool_in : SizedRows → BlockChains → PoolLists
pool_in r b = record {
  code_size = r.code_size;
  lists = map (list_in r.rows) (drop 1 b.chains);
  free = length
      (chain_at b 0).blocks;
}

-- rows for all blocks, and blocks for the rows of each list
pub record IsPool (r : SizedRows) (b : BlockChains) : Type 0 where
  pub size : r.code_size ≤ 8192
  pub chains : 0 < length b.chains
  pub rows : 4 * b.all ≤ length r.rows
  pub most : length r.rows ≤ 17179869176
  pub lens : (c : ℕ) → (chain_at b c).len ≤ 4 * length (chain_at b c).blocks
  pub free_len : (chain_at b 0).len ≡ 0

-- a walk, by all rows and the chains of blocks
abbrev pub walk_in : SizedRows → BlockChains → ℕ → ℕ → RowWalk
walk_in r b list at = record { code_size = r.code_size; rows = rows_of r.rows (list_of b list); at = at }

-- the list is one of a pool, and what is known ahead are blocks of it
pub record IsWalk (r : SizedRows) (b : BlockChains) (list first n : ℕ) (numbers : List ℕ) : Type 0 where
  pub pool : IsPool r b
  pub exists : list + 1 < length b.chains
  pub ahead : IsAhead (list_of b list).blocks first n numbers
