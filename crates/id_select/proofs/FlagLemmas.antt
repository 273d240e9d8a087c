-- Items that are kept by flags.
use Rattle.std.proofs.Common.{◌≡◌, ℕ, suc, ◌+◌, ◌≤◌, ℤ, pos, Bool, true, false, cond, List, [], ◌∷◌, length, map, refl, ap, arith}
use Rattle.std.specs.List.{filter, items_where_true}
use Rattle.bcodes.specs.Value.{Row, numbered, labels_from}
use Rattle.bcodes.specs.Answers.{paired}
use Rattle.id_select.specs.Removal.{codes_left, stays}
use Rattle.id_select.specs.declared.selector.Selector.{Selector}

module _ {X : Type 0} where
  filter_step : (p : X → Bool) (b : Bool) (x : X) (xs : List X) → items_where_true (map p xs) xs ≡ filter p xs
      → items_where_true (b ∷ map p xs) (x ∷ xs) ≡ cond b (x ∷ filter p xs) (filter p xs)
  filter_step p true x xs e = ap (λ (ys : List X). x ∷ ys) e
  filter_step p false x xs e = e

  -- flags that a test gives keep what passes it
  pub kept_filter : (p : X → Bool) (xs : List X) → items_where_true (map p xs) xs ≡ filter p xs
  kept_filter p [] = refl
  kept_filter p (x ∷ xs) = filter_step p (p x) x xs (kept_filter p xs)

  pub length-kept : (bs : List Bool) (xs : List X) → length (items_where_true bs xs) ≤ length xs
  length-kept [] xs = omega arith
  length-kept (b ∷ bs) [] = omega arith
  length-kept (true ∷ bs) (x ∷ xs) = omega (arith, length-kept bs xs)
  length-kept (false ∷ bs) (x ∷ xs) = omega (arith, length-kept bs xs)

module _ {X Y : Type 0} where
  pub map-kept : (f : X → Y) (bs : List Bool) (xs : List X)
      → map f (items_where_true bs xs) ≡ items_where_true bs (map f xs)
  map-kept f [] xs = refl
  map-kept f (b ∷ bs) [] = refl
  map-kept f (true ∷ bs) (x ∷ xs) = ap (λ (ys : List Y). f x ∷ ys) (map-kept f bs xs)
  map-kept f (false ∷ bs) (x ∷ xs) = map-kept f bs xs

  -- flags keep as many of two lists of one length
  pub length-kept_alike : (bs : List Bool) (xs : List X) (ys : List Y) → length xs ≡ length ys
      → length (items_where_true bs xs) ≡ length (items_where_true bs ys)
  length-kept_alike [] xs ys e = refl
  length-kept_alike (b ∷ bs) [] [] e = refl
  length-kept_alike (b ∷ bs) [] (y ∷ ys) e = absurd (omega arith)
  length-kept_alike (b ∷ bs) (x ∷ xs) [] e = absurd (omega arith)
  length-kept_alike (true ∷ bs) (x ∷ xs) (y ∷ ys) e = ap suc (length-kept_alike bs xs ys (omega arith))
  length-kept_alike (false ∷ bs) (x ∷ xs) (y ∷ ys) e = length-kept_alike bs xs ys (omega arith)

-- ---- the codes of the rows that stay

codes_step : (b : Bool) (row : Row) (rows : List Row) (bs : List Bool) (cs : List (List ℕ))
    → items_where_true bs cs ≡ map (λ (r : Row). r.code) rows
    → items_where_true (b ∷ bs) (row.code ∷ cs) ≡ map (λ (r : Row). r.code) (cond b (row ∷ rows) rows)
codes_step true row rows bs cs e = ap (λ (ds : List (List ℕ)). row.code ∷ ds) e
codes_step false row rows bs cs e = e

-- by flags of their positions
pub kept_numbered : (s : Selector) (i : ℕ) (cs : List (List ℕ))
    → items_where_true (map (stays s) (labels_from i (length cs))) cs ≡ codes_left s (numbered i cs)
kept_numbered s i [] = refl
kept_numbered s i (c ∷ cs) =
    codes_step (stays s (pos i)) (record { label = pos i; code = c })
    (filter (λ (row : Row). stays s row.label) (numbered (i + 1) cs))
    (map (stays s) (labels_from (i + 1) (length cs))) cs (kept_numbered s (i + 1) cs)

-- by flags of their labels
pub kept_paired : (s : Selector) (ls : List ℤ) (cs : List (List ℕ))
    → items_where_true (map (stays s) ls) cs ≡ codes_left s (paired ls cs)
kept_paired s [] [] = refl
kept_paired s [] (c ∷ cs) = refl
kept_paired s (l ∷ ls) [] = refl
kept_paired s (l ∷ ls) (c ∷ cs) =
    codes_step (stays s l) (record { label = l; code = c })
    (filter (λ (row : Row). stays s row.label) (paired ls cs)) (map (stays s) ls) cs (kept_paired s ls cs)
