-- Positions that were met.
use Rattle.std.specs.Prelude.{◌≡◌, ℕ, ◌*◌, ◌/◌, ◌%◌, ◌^◌, ◌<◌, ◌≤◌, List, [], ◌∷◌, ◌++◌, length, map, cond, nat_eq}
use Rattle.std.specs.Prelude.{nat_lt}
use Rattle.std.specs.Prelude.{pos, Bool, false, Option, None, Some, slice_index, slice_index_or, is_some}
use Rattle.std.specs.Int.{bit_at}
use Rattle.bcodes.specs.Value.{Row}
use Rattle.std.specs.List.{range_with_len, count_by, All}
use Rattle.flip_walk.specs.Patterns.{times}

-- the positions met, each when it is met first, after those of `done`
abbrev pub first_met : List ℕ → List ℕ → List ℕ
first_met done [] = done
first_met done (p ∷ ps) = cond (nat_eq (times p done) 0) (first_met (done ++ p ∷ []) ps) (first_met done ps)

-- bit i of a page of 64 words
abbrev pub is_set : List ℕ → ℕ → Bool
is_set page i = nat_eq (bit_at (slice_index page (i / 64)) (i % 64)) 1

-- the same of the page at a place, where there is one
abbrev pub is_set_on : List (List ℕ) → Option ℕ → ℕ → Bool
is_set_on pages None i = false
is_set_on pages (Some p) i = is_set (slice_index_or pages p []) i

-- the bit of a position, in pages of 4096 bits
abbrev pub is_marked : List (Option ℕ) → List (List ℕ) → ℕ → Bool
is_marked places pages i = is_set_on pages (slice_index_or places (i / 4096) None) (i % 4096)

-- for each of n positions, whether its bit is set
abbrev pub marks_of : ℕ → List (Option ℕ) → List (List ℕ) → List Bool
marks_of n places pages = map (is_marked places pages) (range_with_len 0 n)

-- `places` has the page of each run of 4096 positions, where it has one; no page belongs to two runs, and there is
-- room for a page a run
pub record IsPaged (places : List (Option ℕ)) (pages : List (List ℕ)) (room : ℕ) : Type 0 where
  pub few : length places ≤ 2 ^ 20
  pub whole : All (λ page. length page ≡ 64) pages
  pub below : (s p : ℕ) → slice_index_or places s None ≡ Some p → p < length pages
  pub apart : (s t p : ℕ) → slice_index_or places s None ≡ Some p → slice_index_or places t None ≡ Some p → s ≡ t
  pub counted : count_by is_some places ≡ length pages
  pub enough : length places ≤ room

-- the pages are those of n positions
pub record AreMarks (n : ℕ) (places : List (Option ℕ)) (pages : List (List ℕ)) (room : ℕ) : Type 0 where
  pub covered : n ≤ 4096 * length places
  pub paged : IsPaged places pages room

-- a position is among those met
abbrev pub is_met : List ℕ → ℕ → Bool
is_met met i = nat_lt 0 (times i met)

-- `seen` says of each of n positions whether it was met
pub record IsSeen (n : ℕ) (met : List ℕ) (seen : List Bool) : Type 0 where
  pub count : length seen ≡ n
  pub each : (i : ℕ) → i < n → slice_index_or seen i false ≡ is_met met i

-- the row at a position
abbrev pub row_at : List (List ℕ) → ℕ → Row
row_at codes p = record { label = pos p; code = slice_index_or codes p [] }
