-- The lists that a query looks into, by the centroids and by how many rows each list has.
use Rattle.std.specs.Prelude.{◌≡◌, ℕ, zero, suc, ◌-◌, ◌<◌, ◌≤◌, ◌==◌, if◌then◌else◌, ℤ, pos, nat_abs, List, [], ◌∷◌}
use Rattle.std.specs.Prelude.{map, length, slice_index_or}
use Rattle.bcodes.specs.Value.{numbered}
use Rattle.bcodes.specs.Answers.{ranked_rows}
use Rattle.code_pool.specs.Lists.{PoolLists, list_at}

-- the label is one of the first n numbers
pub record IsNumber (n : ℕ) (label : ℤ) : Type 0 where
  pub below : nat_abs label < n
  pub is : label ≡ pos (nat_abs label)

-- the numbers of all centroids, by distance and then by number
abbrev pub lists_by : List (List ℕ) → List ℕ → List ℕ
lists_by centroids q = map (λ h. nat_abs h.label) (ranked_rows q (numbered 0 centroids))

-- the number of the nearest centroid
abbrev pub nearest_by : List (List ℕ) → List ℕ → ℕ
nearest_by centroids x = slice_index_or (lists_by centroids x) 0 0

-- how many rows a list has
abbrev pub count_in : PoolLists → ℕ → ℕ
count_in p l = length (list_at p l).rows

-- the shortest front of some lists that has `wanted` rows, or all of them where there are not that many
abbrev pub front_by : (ℕ → ℕ) → ℕ → List ℕ → List ℕ
front_by count wanted [] = []
front_by count zero (n ∷ lists) = []
front_by count (suc wanted) (n ∷ lists) = n ∷ front_by count (suc wanted - count n) lists

-- the same, where 0 is no limit
abbrev pub near_by : (ℕ → ℕ) → ℕ → List ℕ → List ℕ
near_by count limit first = if limit == 0 then first else front_by count limit first

-- the first of the least of the first n numbers stands at a place
pub record IsFirstLeast (numbers : List ℕ) (n place value : ℕ) : Type 0 where
  pub within : place < n
  pub is : value ≡ slice_index_or numbers place 0
  pub least : (i : ℕ) → i < n → value ≤ slice_index_or numbers i 0
  pub first : (i : ℕ) → i < place → value < slice_index_or numbers i 0
