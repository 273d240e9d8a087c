-- Room for rows that are to be added.
use Rattle.std.specs.Prelude.{◌≡◌, ℕ, ◌+◌, ◌<◌, ◌≤◌, ◌⊎◌, ◌++◌, List, [], ◌∷◌, length, map, take, max, cond, nat_eq, Some, None}
use Rattle.std.specs.Prelude.{slice_index, slice_index_or, Option}
use Rattle.std.specs.List.{list_any}
use Rattle.std.specs.Map.{keys_of}
use Rattle.code_pool.specs.Lists.{PoolLists, list_at}
use Rattle.key_buckets.specs.Keys.{firsts, list_of, IsNumbering}

-- no index has more keys, since each of them weighs 64 with each of its rows
abbrev pub lists_most : ℕ
lists_most = 16777216

-- a key has a list, which is a further one where the key is new, and the other keys keep theirs
pub record IsOpened (others : ℕ) (old new : List (ℕ × ℕ)) (k l : ℕ) : Type 0 where
  pub numbering : IsNumbering (others + length new) new
  pub found : list_of new k ≡ Some l
  pub kept : (q m : ℕ) → list_of old q ≡ Some m → list_of new q ≡ Some m
  pub fresh : (q m : ℕ) → list_of new q ≡ Some m → (list_of old q ≡ Some m) ⊎ (others + length old ≤ m)
  pub keys : keys_of new ≡ cond (list_any (nat_eq k) (keys_of old)) (keys_of old) (keys_of old ++ k ∷ [])
  pub prefix : take (length old) new ≡ old
  pub least : length old ≤ length new
  pub most : length new ≤ length old + 1

-- The first n keys have the lists of these numbers. New keys are in order of first appearance, on further lists.
pub record IsRoomed (others : ℕ) (old new : List (ℕ × ℕ)) (keys : List ℕ) (n : ℕ) (numbers : List ℕ) : Type 0 where
  pub numbering : IsNumbering (others + length new) new
  pub count : length numbers ≡ n
  pub found : (j : ℕ) → j < n → list_of new (slice_index keys j) ≡ Some (slice_index numbers j)
  pub kept : (q m : ℕ) → list_of old q ≡ Some m → list_of new q ≡ Some m
  pub fresh : (q m : ℕ) → list_of new q ≡ Some m → (list_of old q ≡ Some m) ⊎ (others + length old ≤ m)
  pub firsts : (ks : List ℕ) → keys_of old ≡ firsts ks → keys_of new ≡ firsts (ks ++ take n keys)
  pub most : length new ≤ length old + n

-- new keys can be taken out again: no row has moved
pub record IsUndoable (others : ℕ) (old new : List (ℕ × ℕ)) (before after : PoolLists) : Type 0 where
  pub prefix : take (length old) new ≡ old
  pub least : length old ≤ length new
  pub size : after.code_size ≡ before.code_size
  pub rows : (l : ℕ) → (list_at after l).rows ≡ (list_at before l).rows
  pub keys_most : others + length new ≤ length after.lists
  pub lists_least : length before.lists ≤ length after.lists
  pub lists_few : length after.lists ≤ max (length before.lists) lists_most

-- the keys that numbers name
abbrev pub keys_named : List ℕ → List ℕ → List ℕ
keys_named keys numbers = map (λ n. slice_index keys n) numbers

-- the keys at the places that have a list have this list
abbrev pub AreOpened : List ℕ → List (Option ℕ) → List (ℕ × ℕ) → Type 0
AreOpened keys opened es = (n l : ℕ) → slice_index_or opened n None ≡ Some l → list_of es (slice_index keys n) ≡ Some l
