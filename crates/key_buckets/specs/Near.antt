-- The lists of the buckets that a query looks into.
use Rattle.std.specs.Prelude.{ℕ, List, [], ◌∷◌, ◌++◌, length, map, min, Bool, nat_le, if◌then◌else◌}
use Rattle.std.specs.Prelude.{bit_xor, count_ones, Option, None, Some}
use Rattle.std.specs.List.{filter}
use Rattle.flip_walk.specs.Patterns.{flips}
use Rattle.key_buckets.specs.Keys.{list_of}

-- a key differs from the query's in at most nflip bits
abbrev pub is_near : ℕ → ℕ → ℕ → Bool
is_near query_key nflip k = nat_le (count_ones (bit_xor query_key k)) nflip

abbrev pub as_list : Option ℕ → List ℕ
as_list None = []
as_list (Some l) = l ∷ []

-- the lists of the keys that have one
abbrev pub lists_of : List (ℕ × ℕ) → List ℕ → List ℕ
lists_of es [] = []
lists_of es (k ∷ ks) = as_list (list_of es k) ++ lists_of es ks

-- the lists of the keys that differ from the query's by patterns
abbrev pub flipped_lists : List (ℕ × ℕ) → ℕ → List ℕ → List ℕ
flipped_lists es query_key patterns = lists_of es (map (bit_xor query_key) patterns)

-- the lists of the keys that are near
abbrev pub lists_by_key : List (ℕ × ℕ) → ℕ → ℕ → List ℕ
lists_by_key es nflip query_key = map (λ e. e.1) (filter (λ e. is_near query_key nflip e.0) es)

-- the same lists, in the order in which they are found
abbrev pub near_lists : List (ℕ × ℕ) → ℕ → ℕ → ℕ → List ℕ
near_lists es b nflip query_key =
    let by_flips = flipped_lists es query_key (flips b nflip) in
    if nat_le (length (flips b nflip)) (length es) then by_flips else lists_by_key es nflip query_key

-- how many keys or buckets are looked at
abbrev pub looks_at : List (ℕ × ℕ) → ℕ → ℕ → ℕ
looks_at es b nflip = min (length (flips b nflip)) (length es)
