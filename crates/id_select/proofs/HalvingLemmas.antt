-- A search by halving in ascending ids.
use Rattle.std.proofs.Common.{◌≡◌, ℕ, ◌+◌, ◌≤◌, ◌<◌, ℤ, ◌≤ℤ◌, ◌<ℤ◌, true, false, List, length, get_or, sym, ap, ◌∙◌}
use Rattle.std.proofs.Common.{arith, true≢false, Ordering, inl, inr, nat_lt, Ok, Err, Result, is_ok}
use Rattle.std.specs.List.{AllAdjacentBelow, list_any}
use Rattle.std.specs.List.Sorted.{IsBinarySearchResult, IsSorted, IsSearchInRange}
use Rattle.std.specs.Ordering.{int_cmp, int_eq, is_lt, ordering_index}
use Rattle.std.specs.Cmp.{int_cmp_is, int_ranks}
use Rattle.std.specs.declared.cmp.Ordering.TheVariants.{Less, Equal, Greater}
use Rattle.std.proofs.lemmas.Bool.Decides.{Decides-int_eq, Decides-ltb, not_from_Decides}
use Rattle.std.proofs.lemmas.Cmp.{by_ranked}
use Rattle.std.proofs.lemmas.Int.{ints}
use Rattle.std.proofs.lemmas.List.Folds.{list_any_at, list_any_none}
use Rattle.bcodes.proofs.OrderLemmas.{either}
use Rattle.std.proofs.lemmas.List.Sorted.{IsNonDecreasingBy-from_all_adjacent}

not_less : (y z : ℤ) → is_lt (int_cmp z y) ≡ false → y ≤ℤ z
not_less y z h =
    by_ranked (z <ℤ y) (z ≡ y) (y <ℤ z) (int_cmp z y) (int_ranks z y)
    (λ e p. absurd (true≢false (sym (ap is_lt e) ∙ h)))
    (λ e p. omega (arith, ints))
    (λ e p. omega (arith, ints))

from_least : (a b : Ordering) → a ≡ Less → ordering_index a ≤ ordering_index b
from_least a b e = rw e (omega arith)

to_most : (a b : Ordering) → b ≡ Greater → ordering_index a ≤ ordering_index b
to_most Less b e = rw e (omega arith)
to_most Equal b e = rw e (omega arith)
to_most Greater b e = rw e (omega arith)

at_equal : (a b : Ordering) → a ≡ Equal → b ≡ Equal → ordering_index a ≤ ordering_index b
at_equal a b e f = rw (e, f) (omega arith)

-- a greater id stands no earlier
index_rises : (x y z : ℤ) → y ≤ℤ z → ordering_index (int_cmp y x) ≤ ordering_index (int_cmp z x)
index_rises x y z h =
    by_ranked (y <ℤ x) (y ≡ x) (x <ℤ y) (int_cmp y x) (int_ranks y x)
    (λ e p. from_least (int_cmp y x) (int_cmp z x) e)
    (λ e p. by_ranked (z <ℤ x) (z ≡ x) (x <ℤ z) (int_cmp z x) (int_ranks z x)
    (λ f q. absurd (omega (arith, ints)))
    (λ f q. at_equal (int_cmp y x) (int_cmp z x) e f)
    (λ f q. to_most (int_cmp y x) (int_cmp z x) f))
    (λ e p. by_ranked (z <ℤ x) (z ≡ x) (x <ℤ z) (int_cmp z x) (int_ranks z x)
    (λ f q. absurd (omega (arith, ints)))
    (λ f q. absurd (omega (arith, ints)))
    (λ f q. to_most (int_cmp y x) (int_cmp z x) f))

less≢equal : Less ≡ Equal → ⊥
less≢equal e = cc

greater≢equal : Greater ≡ Equal → ⊥
greater≢equal e = cc

is_equal : (x y : ℤ) → int_cmp y x ≡ Equal → int_eq x y ≡ true
is_equal x y e =
    by_ranked (y <ℤ x) (y ≡ x) (x <ℤ y) (int_cmp y x) (int_ranks y x)
    (λ f p. absurd (less≢equal (sym f ∙ e)))
    (λ f p. (Decides-int_eq x y).1 (sym p))
    (λ f p. absurd (greater≢equal (sym f ∙ e)))

is_other : (x y : ℤ) → (int_cmp y x ≡ Equal → ⊥) → int_eq x y ≡ false
is_other x y h =
    elim (either (int_eq x y)) [
      | inl e ↦ let same : x ≡ y = (Decides-int_eq x y).0 e in absurd (h (sym (int_cmp_is y x Equal (sym same))))
      | inr e ↦ e
    ]

adjacent : (xs : List ℤ) (x : ℤ) → IsSorted int_cmp xs
    → AllAdjacentBelow (λ y z. ordering_index (int_cmp y x) ≤ ordering_index (int_cmp z x)) xs (length xs)
adjacent xs x sorted = λ k d low.
    index_rises x (get_or xs k d) (get_or xs (k + 1) d)
    (not_less (get_or xs k d) (get_or xs (k + 1) d) (sorted k d (omega arith) low))

-- what a search finds
pub found : (xs : List ℤ) (x : ℤ) (r : Result ℕ ℕ) → IsBinarySearchResult (λ y. int_cmp y x) xs r
    → IsSearchInRange r (length xs) → IsSorted int_cmp xs → is_ok r ≡ list_any (int_eq x) xs
found xs x (Ok i) at range sorted = sym (list_any_at (int_eq x) xs i x range (is_equal x (get_or xs i x) (at x)))
found xs x (Err i) at range sorted =
    let apart = at (IsNonDecreasingBy-from_all_adjacent (λ y. ordering_index (int_cmp y x)) xs (adjacent xs x sorted)) in
    sym (list_any_none (int_eq x) xs (λ k d low. elim (either (nat_lt k i)) [
      | inl e ↦
          let before : k < i = (Decides-ltb k i).0 e in
          is_other x (get_or xs k d) (λ same. less≢equal (sym (apart.0 k d (omega arith) before) ∙ same))
      | inr e ↦
          let behind : k < i → ⊥ = not_from_Decides (nat_lt k i) (Decides-ltb k i) e in
          is_other x (get_or xs k d) (λ same. greater≢equal (sym (apart.1 k d (omega arith) low) ∙ same))
    ]))
