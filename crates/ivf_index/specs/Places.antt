-- How the places of rows are noted under their labels.
use Rattle.std.specs.Prelude.{◌≡◌, ℕ, ℤ, pos, ◌+◌, ◌<◌, ◌⊎◌, List, length, map, take, slice_index, slice_index_or}
use Rattle.std.specs.List.{count_by}
use Rattle.std.specs.Ordering.{int_eq}
use Rattle.bcodes.specs.Value.{Row}
use Rattle.code_pool.specs.Lists.{no_row}
use Rattle.ivf_index.specs.Direct.{IsPlaced, entry}

-- no label is p
abbrev pub IsAbsent : ℕ → List ℤ → Type 0
IsAbsent p labels = count_by (int_eq (pos p)) labels ≡ 0

abbrev pub labels_on : (ℕ → List Row) → ℕ → List ℤ
labels_on lists l = map (λ (row : Row). row.label) (lists l)

-- of the first n rows of a run each is noted, and the other places stay
abbrev pub IsRunNoted : ℕ → ℕ → List ℤ → ℕ → List ℕ → List ℕ → Type 0
IsRunNoted list from labels n before after =
    (p : ℕ) → p < length before → ((slice_index after p ≡ slice_index before p) × IsAbsent p (take n labels))
    ⊎ ((i : ℕ) × (i < n) × (i < length labels) × (slice_index_or labels i (pos 0) ≡ pos p)
    × (slice_index after p ≡ entry list (from + i)))

-- of the first n rows of a list each is noted, and the other places stay
abbrev pub IsListNoted : (ℕ → List Row) → ℕ → ℕ → ℕ → List ℕ → List ℕ → Type 0
IsListNoted lists nlist list n before after =
    (p : ℕ) → p < length before
    → ((slice_index after p ≡ slice_index before p) × IsAbsent p (take n (labels_on lists list))) ⊎ IsPlaced lists
    nlist p (slice_index after p)

-- of the first n lists each row is noted, and the other places are `none`
abbrev pub AreNoted : (ℕ → List Row) → ℕ → ℕ → ℕ → List ℕ → Type 0
AreNoted lists nlist n none places =
    (p : ℕ) → p < length places
    → ((slice_index places p ≡ none) × ((l : ℕ) → l < n → IsAbsent p (labels_on lists l))) ⊎ IsPlaced lists nlist
    p (slice_index places p)

-- a row has a label that is none of the numbers below count
abbrev pub IsOutside : (ℕ → List Row) → ℕ → Type 0
IsOutside lists count =
    (l : ℕ) × (o : ℕ) × (o < length (lists l))
    × ((m : ℕ) → m < count → pos m ≡ (slice_index_or (lists l) o no_row).label → ⊥)

-- one of the numbers below count is no label
abbrev pub IsMissing : (ℕ → List Row) → ℕ → Type 0
IsMissing lists count = (p : ℕ) × (p < count) × ((l : ℕ) → IsAbsent p (labels_on lists l))

abbrev pub HasGap : (ℕ → List Row) → ℕ → Type 0
HasGap lists count = IsOutside lists count ⊎ IsMissing lists count
