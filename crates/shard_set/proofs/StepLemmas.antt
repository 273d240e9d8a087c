-- Lemmas on a loop that asks one shard after the other.
use Rattle.std.proofs.Common.{◌≡◌, ℕ, ◌+◌, ◌<◌, ◌≤◌, List, [], ◌∷◌, ◌++◌, length}
use Rattle.std.proofs.Common.{get_or, map, take, sum_by, sym, ap, ◌∙◌, arith, subst}
use Rattle.std.specs.List.{All}
use Rattle.std.proofs.lemmas.List.{get_or-map, length-map, map_more, take-map}
use Rattle.std.proofs.lemmas.List.Sums.{sum_by_push, sum_by-take-le}
use Rattle.bcodes.specs.Value.{IndexValue}

-- the shards so far, once one more was asked
pub turn : {X : Type 0} (f : X → IndexValue) (xs : List X) (i : ℕ) (x : X) → i < length xs → x ≡ get_or xs i x
    → map f (take (i + 1) xs) ≡ map f (take i xs) ++ f x ∷ []
turn f xs i x low is = map_more f xs i x low ∙ ap (λ (v : IndexValue). map f (take i xs) ++ v ∷ []) (ap f (sym is))

pub at_turn : {X : Type 0} (P : IndexValue → Type 0) (f : X → IndexValue) (xs : List X) (i : ℕ) (x : X)
    → i < length xs
    → x ≡ get_or xs i x → All P (map f xs) → P (f x)
at_turn P f xs i x low is all = subst P (get_or-map f xs i x (f x) low ∙ ap f (sym is))
    (all i (f x) (omega (arith, low, length-map xs f)))

pub sum_turn : {X : Type 0} (n : IndexValue → ℕ) (f : X → IndexValue) (xs : List X) (i : ℕ) (x : X)
    → i < length xs
    → x ≡ get_or xs i x → sum_by n (map f (take (i + 1) xs)) ≡ sum_by n (map f (take i xs)) + n (f x)
sum_turn n f xs i x low is = ap (sum_by n) (turn f xs i x low is) ∙ sum_by_push n (map f (take i xs)) (f x)

pub sum_within : {X : Type 0} (n : IndexValue → ℕ) (f : X → IndexValue) (xs : List X) (i : ℕ) (x : X)
    → i < length xs
    → x ≡ get_or xs i x → sum_by n (map f (take i xs)) + n (f x) ≤ sum_by n (map f xs)
sum_within n f xs i x low is = omega (
  arith,
  sum_turn n f xs i x low is,
  ap (sum_by n) (take-map f (i + 1) xs),
  sum_by-take-le n (map f xs) (i + 1),
)
