-- Flags of the rows that stay.
use Rattle.std.specs.Prelude.{◌≡◌, ℕ, ◌+◌, ◌-◌, ◌<◌, ◌≤◌, Bool, false, List, length, take, drop, slice_index}
use Rattle.std.specs.Prelude.{slice_index_or}
use Rattle.bcodes.specs.Value.{Row}
use Rattle.code_pool.specs.Lists.{no_row}
use Rattle.flip_walk.specs.Patterns.{times}
use Rattle.id_select.specs.Removal.{stays}
use Rattle.id_select.specs.declared.selector.Selector.{Selector}

-- a row stays where its label is not chosen
abbrev pub row_stays : Selector → Row → Bool
row_stays s row = stays s row.label

-- each list has its flags from its start on, in the order of its rows
pub record AreListFlags (s : Selector) (lists : ℕ → List Row) (flags : List Bool) (starts : List ℕ) : Type 0 where
  pub within : (l : ℕ) → l < length starts → slice_index starts l + length (lists l) ≤ length flags
  pub each : (l j : ℕ) → l < length starts → j < length (lists l)
      → slice_index_or flags (slice_index starts l + j) false ≡ row_stays s (slice_index_or (lists l) j no_row)

-- Rows on the lists of these numbers have flags of their own, each the flag of its place on its list, and
-- the next flag of each list stands behind those of its rows.
pub record AreOrderFlags (flags : List Bool) (starts numbers next : List ℕ) (found : List Bool) : Type 0 where
  pub count : length found ≡ length numbers
  pub each : (i : ℕ) → i < length numbers → let l = slice_index numbers i in
      slice_index_or found i false
      ≡ slice_index_or flags (slice_index starts l + times l (take i numbers)) false
  pub ends : (l : ℕ) → l < length starts → slice_index next l ≡ slice_index starts l + times l numbers

-- the n flags that end at a place
abbrev pub flags_to : List Bool → ℕ → ℕ → List Bool
flags_to flags end n = take n (drop (end - n) flags)
