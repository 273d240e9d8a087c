-- Lemmas on marks.
use Rattle.std.proofs.Common.{◌≡◌, ℕ, suc, ◌-◌, ◌≤◌, ◌||◌, Bool, nat_eq, nat_le, List, [], ◌∷◌, length, refl, sym, ap}
use Rattle.std.proofs.Common.{◌∙◌, arith, inl, inr}
use Rattle.std.specs.List.{filter, list_all}
use Rattle.std.proofs.lemmas.List.{length-map}
use Rattle.std.proofs.lemmas.Bool.{ne_eqb, eq-eqb}
use Rattle.std.proofs.lemmas.Bool.Decides.{eqb_tells}
use Rattle.bcodes.specs.declared.hit.Hit.{Hit}
use Rattle.bcodes.specs.Value.{Inner, Flat, Ivf, Hash, Multi, IndexValue, inner_of, numbered, row_of, count_of_inner}
use Rattle.bcodes.specs.Answers.{best, looked, probed_rows, probed_rows_inner, is_probed_ivf, is_probed_hash}
use Rattle.bcodes.specs.Answers.{is_probed_multi}
use Rattle.bcodes.specs.Marks.{AreNumbers, probes_all, probes_all_inner, range_mark, search_mark, is_full_below}
use Rattle.bcodes.proofs.NumberedLemmas.{length-numbered}
use Rattle.bcodes.proofs.LegalLemmas.{length-filter-le}
use Rattle.bcodes.proofs.OrderLemmas.{either}

eq-suc : (m n : ℕ) → nat_eq m n ≡ nat_eq (suc m) (suc n)
eq-suc m n =
    elim (eqb_tells m n) [
      | inl e ↦ e.0 ∙ sym (eq-eqb (suc m) (suc n) (ap suc e.1))
      | inr e ↦ e.0 ∙ sym (ne_eqb (suc m) (suc n) (λ same. e.1 (omega arith)))
    ]

-- all pass where a filter keeps as many
all_kept : {X : Type 0} (p : X → Bool) (xs : List X) → list_all p xs ≡ nat_eq (length (filter p xs)) (length xs)
all_kept p [] = refl
all_kept p (x ∷ xs) =
    elim (either (p x)) [
      | inl h ↦ rw h (all_kept p xs ∙ eq-suc (length (filter p xs)) (length xs))
      | inr h ↦ rw h (sym (ne_eqb (length (filter p xs)) (suc (length xs)) (λ e. few e (length-filter-le p xs))))
    ]
  where
    few : length (filter p xs) ≡ suc (length xs) → length (filter p xs) ≤ length xs → ⊥
    few e h = omega arith

probes_all_inner_is : (v : Inner) (q : List ℕ)
    → probes_all_inner v q ≡ nat_eq (length (probed_rows_inner v q)) (count_of_inner v)
probes_all_inner_is (Flat v) q = sym (eq-eqb (length (numbered 0 v.codes)) (length v.codes) (length-numbered 0 v.codes))
probes_all_inner_is (Ivf v) q =
    all_kept (is_probed_ivf v q) v.rows
    ∙ ap (λ n. nat_eq n (length v.rows)) (sym (length-map (filter (is_probed_ivf v q) v.rows) row_of))
probes_all_inner_is (Hash v) q = all_kept (is_probed_hash v q) v.rows
probes_all_inner_is (Multi v) q =
    all_kept (is_probed_multi v q) (numbered 0 v.codes)
    ∙ ap (λ n. nat_eq (length (filter (is_probed_multi v q) (numbered 0 v.codes))) n) (length-numbered 0 v.codes)

-- whether all rows were probed, by the numbers
pub probes_all_is : (v : IndexValue) (q : List ℕ) (l f c b : ℕ) → AreNumbers v q l f c b
    → probes_all v q ≡ nat_eq (l - f) c
unfolding looked
probes_all_is v q l f c b n =
    let probed : l - f ≡ length (probed_rows v q) = omega (arith, n.lent, n.fixed) in
    rw (probed, n.count) (probes_all_inner_is (inner_of v) q)

pub range_mark_is : (v : IndexValue) (q : List ℕ) (l f c b radius : ℕ) → AreNumbers v q l f c b
    → range_mark v q radius ≡ (nat_eq (l - f) c || nat_le radius b)
range_mark_is v q l f c b radius n = rw (probes_all_is v q l f c b n, n.bound) refl

pub search_mark_is : (v : IndexValue) (q : List ℕ) (l f c b k : ℕ) (hs : List Hit) → AreNumbers v q l f c b
    → hs ≡ best v q k
    → search_mark v q k ≡ (nat_eq (l - f) c || is_full_below hs k b)
search_mark_is v q l f c b k hs n e = rw (probes_all_is v q l f c b n, n.bound, ← e) refl
