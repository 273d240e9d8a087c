-- The test of labels that are the numbers below their count, each once.
use Rattle.std.proofs.Common.{◌≡◌, ℕ, zero, suc, ◌+◌, ◌<◌, ℤ, pos}
use Rattle.std.proofs.Common.{Bool, true, false, List, length, get_or}
use Rattle.std.proofs.Common.{◌==◌, refl, sym, ap, ◌∙◌, subst, arith, zero-add}
use Rattle.std.specs.List.{count_by}
use Rattle.std.specs.Ordering.{int_eq}
use Rattle.std.proofs.lemmas.Bool.{eqb-true, eq-eqb}
use Rattle.std.proofs.lemmas.List.Sums.{AllPass-from_list_all, list_all-from_AllPass}
use Rattle.bcodes.specs.Value.{IsNumbering}
use Rattle.bcodes.specs.Value.{labels_from}
use Rattle.bcodes.specs.Settings.{is_numbering}
use Rattle.bcodes.proofs.NumberedLemmas.{length-labels_from}

get_label : (i n k : ℕ) (d : ℤ) → k < n → get_or (labels_from i n) k d ≡ pos (i + k)
get_label i zero k d low = absurd (omega arith)
get_label i (suc n) zero d low = ap pos (omega arith)
get_label i (suc n) (suc k) d low = get_label (i + 1) n k d (omega arith) ∙ ap pos (omega arith)

pub numbering_tested : (labels : List ℤ) → is_numbering labels ≡ true → IsNumbering labels
numbering_tested labels test n low =
    let all = AllPass-from_list_all (λ a. count_by (int_eq a) labels == 1) (labels_from 0 (length labels)) test in
    let at : get_or (labels_from 0 (length labels)) n (pos 0) ≡ pos n = get_label 0 (length labels) n (pos 0) low
    ∙ ap pos (zero-add n) in
    let long : n < length (labels_from 0 (length labels)) = omega (arith, length-labels_from 0 (length labels)) in
    eqb-true (count_by (int_eq (pos n)) labels) 1
    (subst (λ (a : ℤ). (count_by (int_eq a) labels == 1) ≡ true) at (all n (pos 0) long))

pub numbering_passes : (labels : List ℤ) → IsNumbering labels → is_numbering labels ≡ true
numbering_passes labels numbers =
    list_all-from_AllPass (λ a. count_by (int_eq a) labels == 1) (labels_from 0 (length labels)) (λ k d low.
    let small : k < length labels = omega (arith, low, length-labels_from 0 (length labels)) in
    let at : get_or (labels_from 0 (length labels)) k d ≡ pos k = get_label 0 (length labels) k d small
    ∙ ap pos (zero-add k) in
    subst (λ (a : ℤ). (count_by (int_eq a) labels == 1) ≡ true) (sym at)
    (eq-eqb (count_by (int_eq (pos k)) labels) 1 (numbers k small)))

otherwise : (test : Bool) → (test ≡ true → ⊥) → test ≡ false
otherwise true never = absurd (never refl)
otherwise false never = refl

pub not_numbering : (labels : List ℤ) → ¬ IsNumbering labels → is_numbering labels ≡ false
not_numbering labels other = otherwise (is_numbering labels) (λ yes. other (numbering_tested labels yes))
