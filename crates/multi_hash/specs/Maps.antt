-- The keys of codes under each map, the positions under a key, and what a query looks at.
use Rattle.std.specs.Prelude.{ℕ, zero, suc, ◌+◌, ◌*◌, ◌==◌, ℤ, pos, min}
use Rattle.std.specs.Prelude.{List, [], length, map, slice_index, slice_index_or}
use Rattle.std.specs.List.{filter, range_with_len}
use Rattle.bcodes.specs.Bits.{key}
use Rattle.bcodes.specs.Value.{MultiValue}
use Rattle.flip_walk.specs.Patterns.{flips}
use Rattle.key_buckets.specs.Keys.{firsts}

-- all positions, in order
abbrev pub all_positions : MultiValue → List ℕ
all_positions v = range_with_len 0 (length v.codes)

-- the key of the code at a position under map i
unfoldable pub map_key : MultiValue → ℕ → ℕ → ℕ
map_key v i p = key (slice_index_or v.codes p []) (i * v.b) v.b

-- the keys of map i, in order of first appearance
unfoldable pub map_keys : MultiValue → ℕ → List ℕ
map_keys v i = firsts (map (map_key v i) (all_positions v))

-- the positions under a key of map i, ascending
unfoldable pub positions : MultiValue → ℕ → ℕ → List ℕ
positions v i k = filter (λ p. map_key v i p == k) (all_positions v)

-- the positions of a bucket of map i, by its place in order of first appearance
abbrev pub positions_at : MultiValue → ℕ → ℕ → List ℕ
positions_at v i place = positions v i (slice_index (map_keys v i) place)

-- the same as labels
abbrev pub labels_at : MultiValue → ℕ → ℕ → List ℤ
labels_at v i place = map pos (positions_at v i place)

-- how many keys or buckets of the first n maps a query looks at
abbrev pub looks_below : MultiValue → ℕ → ℕ
looks_below v zero = 0
looks_below v (suc i) = looks_below v i + min (length (flips v.b v.nflip)) (length (map_keys v i))

-- of all maps
abbrev pub looks : MultiValue → ℕ
looks v = looks_below v v.nhash
