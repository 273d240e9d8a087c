-- The keys of rows, and the rows under a key.
use Rattle.std.specs.Prelude.{◌≡◌, ℕ, List, length, map, min, nat_eq, slice_index}
use Rattle.std.specs.List.{All, filter}
use Rattle.bcodes.specs.Bits.{key}
use Rattle.bcodes.specs.Value.{Row, HashValue}
use Rattle.flip_walk.specs.Patterns.{flips}
use Rattle.key_buckets.specs.Keys.{firsts}

-- the key of a row
abbrev pub key_of : ℕ → Row → ℕ
key_of b row = key row.code 0 b

-- codes that all have one key
abbrev pub HaveKey : ℕ → ℕ → List (List ℕ) → Type 0
HaveKey b k codes = All (λ code. key code 0 b ≡ k) codes

-- the keys of the rows, in order of first appearance
abbrev pub hash_keys : HashValue → List ℕ
hash_keys v = firsts (map (key_of v.b) v.rows)

-- the rows under a key, in order of addition
abbrev pub bucket : HashValue → ℕ → List Row
bucket v k = filter (λ row. nat_eq k (key_of v.b row)) v.rows

-- the rows of a bucket, by its place in order of first appearance
abbrev pub bucket_at : HashValue → ℕ → List Row
bucket_at v i = bucket v (slice_index (hash_keys v) i)

-- how many keys or buckets a query looks at
abbrev pub looks : HashValue → ℕ
looks v = min (length (flips v.b v.nflip)) (length (hash_keys v))
