-- How a MultiHash is kept.
use Rattle.std.specs.Prelude.{◌≡◌, ℕ, ◌*◌, ◌<◌, ◌≤◌, List, [], length, map, slice_index_or, Some}
use Rattle.std.specs.List.{All}
use Rattle.std.specs.Map.{keys_of}
use Rattle.bcodes.specs.Ranges.{load_limit}
use Rattle.bcodes.specs.Value.{IsPlace, Row, numbered, weight}
use Rattle.code_pool.specs.Lists.{PoolLists, list_at}
use Rattle.flip_walk.specs.Patterns.{under}
use Rattle.key_buckets.specs.Keys.{firsts, key_in, list_of}
use Rattle.key_buckets.specs.Room.{lists_most}

-- a row as its bucket shows it: its position alone
abbrev pub mark_of : Row → Row
mark_of row = record { label = row.label; code = [] }

-- the key of a row under map i
abbrev pub row_key : ℕ → ℕ → Row → ℕ
row_key i b row = key_in i b row.code

-- the table of map i
abbrev pub map_at : List (List (ℕ × ℕ)) → ℕ → List (ℕ × ℕ)
map_at maps i = slice_index_or maps i []

-- the rows of each list
abbrev pub lists_in : PoolLists → ℕ → List Row
lists_in p l = (list_at p l).rows

-- map i has the keys of the codes that are held, and its buckets show those that are placed
pub record IsMap (i b : ℕ) (held placed : List (List ℕ)) (es : List (ℕ × ℕ)) (lists : ℕ → List Row) : Type 0 where
  pub known : All (λ code. (l : ℕ) × (list_of es (key_in i b code) ≡ Some l)) held
  pub keys : keys_of es ≡ firsts (map (key_in i b) held)
  pub parts : (k l : ℕ) → list_of es k ≡ Some l → lists l ≡ map mark_of (under (row_key i b) (numbered 0 placed) k)

-- the same for each map; the lists of the keys are below `used`, and no two keys share one
pub record AreMaps (b used : ℕ) (held placed : ℕ → List (List ℕ)) (maps : List (List (ℕ × ℕ)))
    (lists : ℕ → List Row) : Type 0 where
  pub each : (i : ℕ) → i < length maps → IsMap i b (held i) (placed i) (map_at maps i) lists
  pub below : (i k l : ℕ) → list_of (map_at maps i) k ≡ Some l → l < used
  pub apart : (i j k m l : ℕ) → list_of (map_at maps i) k ≡ Some l → list_of (map_at maps j) m ≡ Some l
      → (i ≡ j) × (k ≡ m)
  pub unused : (l : ℕ) → used ≤ l → lists l ≡ []
  pub few : (i : ℕ) → length (map_at maps i) ≤ used

-- a row's label is one of the positions below n
abbrev pub IsPosition : ℕ → Row → Type 0
IsPosition n row = IsPlace n row.label

-- the pool has positions alone, and lists for the keys
pub record IsShared (used : ℕ) (p : PoolLists) : Type 0 where
  pub size : p.code_size ≡ 0
  pub used_most : used ≤ length p.lists
  pub lists_few : length p.lists ≤ lists_most

pub record IsMulti (dim b nflip used : ℕ) (codes : List (List ℕ)) (maps : List (List (ℕ × ℕ)))
    (buckets : PoolLists) : Type 0 where
  pub nhash_least : 1 ≤ length maps
  pub nhash_most : length maps ≤ 1024
  pub b_least : 1 ≤ b
  pub b_most : b ≤ 64
  pub within : length maps * b ≤ dim
  pub flips_most : nflip ≤ b
  pub maps_are : AreMaps b used (λ i. codes) (λ i. codes) maps (lists_in buckets)
  pub shared : IsShared used buckets
  pub places : (l : ℕ) → All (IsPosition (length codes)) (lists_in buckets l)
  pub short : (l : ℕ) → length (lists_in buckets l) ≤ length maps * length codes
  pub used_few : used ≤ length maps * length codes
  pub load : weight dim (length maps) (length codes) 0 ≤ load_limit
