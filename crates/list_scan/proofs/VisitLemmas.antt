-- What a query is answered whose lists hold the rows that it meets.
use Rattle.std.proofs.Common.{◌≡◌, ℕ, ◌+◌, nat_lt, List, length, take, sym, ap, ◌∙◌, arith}
use Rattle.std.specs.List.{filter}
use Rattle.std.specs.List.Sorted.{IsPermutation}
use Rattle.std.proofs.lemmas.List.Sorted.{IsPermutation-map, length_permutation}
use Rattle.bcodes.specs.declared.hit.Hit.{Hit}
use Rattle.bcodes.specs.Hits.{in_order}
use Rattle.bcodes.specs.Value.{Row, Inner, IndexValue, Bare}
use Rattle.bcodes.specs.Answers.{best, within, hits, looked, hit_of, probed_rows_inner, fixed_of}
use Rattle.bcodes.proofs.OrderLemmas.{in_order-permutation, filter-in_order}
use Rattle.list_scan.specs.Visited.{first, below, hits_on}

-- the answers of an index, by the rows of some lists
pub record IsVisit (v : IndexValue) (q : List ℕ) (rows : List Row) : Type 0 where
  pub best_is : (k : ℕ) → first k (hits_on q rows) ≡ best v q k
  pub within_is : (radius : ℕ) → in_order (below radius (hits_on q rows)) ≡ within v q radius
  pub looked_is : looked v q ≡ length rows + fixed_of v

module _ (m : Inner) (q : List ℕ) (rows : List Row) (met : IsPermutation rows (probed_rows_inner m q)) where
  ranked : in_order (hits_on q rows) ≡ in_order (hits_on q (probed_rows_inner m q))
  ranked = sym (in_order-permutation _ _ (IsPermutation-map (hit_of q) _ _ met))

  best_of : (k : ℕ) → first k (hits_on q rows) ≡ best (Bare m) q k
  unfolding best hits
  best_of k = ap (take k) ranked

  within_of : (radius : ℕ) → in_order (below radius (hits_on q rows)) ≡ within (Bare m) q radius
  unfolding within hits
  within_of radius =
      sym (filter-in_order (λ (h : Hit). nat_lt h.distance radius) (hits_on q rows))
      ∙ ap (filter (λ (h : Hit). nat_lt h.distance radius)) ranked

  looked_of : looked (Bare m) q ≡ length rows + fixed_of (Bare m)
  unfolding looked
  looked_of = omega (arith, length_permutation _ _ met)

  pub visit : IsVisit (Bare m) q rows
  visit = record { best_is = best_of; within_is = within_of; looked_is = looked_of }
