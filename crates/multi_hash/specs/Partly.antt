-- A MultiHash whose maps are made one after the other.
use Rattle.std.specs.Prelude.{ℕ, ◌*◌, ◌≤◌, List, [], length}
use Rattle.std.specs.List.{All}
use Rattle.bcodes.specs.Ranges.{load_limit}
use Rattle.bcodes.specs.Value.{MultiValue, weight}
use Rattle.code_pool.specs.Lists.{PoolLists}
use Rattle.multi_hash.specs.Inside.{AreMaps, IsPosition, IsShared, lists_in}
use Rattle.multi_hash.specs.Room.{up_to}

-- the MultiHash that is made, without flips yet, and how many of its maps are made
pub record PartlyMade : Type 0 where
  pub whole : MultiValue
  pub made : ℕ

-- the first n maps are those of the codes, and the others have no key
pub record IsPartly (dim b n used : ℕ) (codes : List (List ℕ)) (maps : List (List (ℕ × ℕ)))
    (buckets : PoolLists) : Type 0 where
  pub nhash_least : 1 ≤ length maps
  pub nhash_most : length maps ≤ 1024
  pub b_least : 1 ≤ b
  pub b_most : b ≤ 64
  pub within : length maps * b ≤ dim
  pub made_most : n ≤ length maps
  pub maps_are : AreMaps b used (up_to n codes []) (up_to n codes []) maps (lists_in buckets)
  pub shared : IsShared used buckets
  pub places : (l : ℕ) → All (IsPosition (length codes)) (lists_in buckets l)
  pub short : (l : ℕ) → length (lists_in buckets l) ≤ n * length codes
  pub used_few : used ≤ n * length codes
  pub load : weight dim (length maps) (length codes) 0 ≤ load_limit
