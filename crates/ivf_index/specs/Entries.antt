-- The entries of rows that are added.
use Rattle.std.specs.Prelude.{◌≡◌, ℕ, ◌+◌, ◌<◌, List, length, take, slice_index}
use Rattle.std.specs.declared.option.Option.{Option}
use Rattle.code_pool.specs.Lists.{PoolLists, list_at}
use Rattle.flip_walk.specs.Patterns.{times}
use Rattle.ivf_index.specs.Direct.{entry, extended}

-- the first n rows will stand at these places, behind the rows that are there and those before them
pub record ArePlaces (p : PoolLists) (numbers : List ℕ) (n : ℕ) (places : List ℕ) : Type 0 where
  pub count : length places ≡ n
  pub each : (i : ℕ) → i < n
      → slice_index places i ≡ entry (slice_index numbers i)
      (length (list_at p (slice_index numbers i)).rows + times (slice_index numbers i) (take i numbers))

-- a direct map has the places of the first n rows behind what it had
pub record IsMapped (p : PoolLists) (numbers : List ℕ) (n : ℕ) (before after : Option (List ℕ)) : Type 0 where
  pub places : List ℕ
  pub are : ArePlaces p numbers n places
  pub entries : after ≡ extended before places
