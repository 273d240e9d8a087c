-- Lemmas on what was found.
use Rattle.std.proofs.Common.{◌≡◌, ℕ, zero, suc, ◌/◌, Bool, false, nat_abs, List, [], ◌∷◌, length}
use Rattle.std.proofs.Common.{take}
use Rattle.std.proofs.Common.{replicate, refl, sym, ap, ◌∙◌, subst, cond}
use Rattle.std.specs.List.{All, filter}
use Rattle.std.proofs.lemmas.List.{length-replicate}
use Rattle.std.proofs.lemmas.List.Elements.{All-head, All-tail}
use Rattle.bcodes.specs.declared.hit.Hit.{Hit}
use Rattle.bcodes.specs.Value.{IsLegalMulti, MultiValue, Row, numbered}
use Rattle.list_scan.specs.Visited.{first, hits_on}
use Rattle.growing_probe.specs.declared.found.Found.{Found}
use Rattle.growing_probe.specs.Met.{is_seen, met_rows, IsFound}
use Rattle.growing_probe.proofs.RowLemmas.{All-rows}

pub own_number : (v : MultiValue) (q : List ℕ) (k : ℕ) (found : Found) → IsFound v q k found
    → IsFound v q found.best.k found
own_number v q k found h = subst (λ (n : ℕ). IsFound v q n found) (sym h.k) h

pub first_number : (v : MultiValue) (q : List ℕ) (j k : ℕ) (found : Found) → j ≡ k → IsFound v q j found
    → IsFound v q k found
first_number v q j k found e h = subst (λ (n : ℕ). IsFound v q n found) e h

pub same_query : (v : MultiValue) (q r : List ℕ) (k : ℕ) (found : Found) → q ≡ r → IsFound v q k found
    → IsFound v r k found
same_query v q r k found e h = subst (λ (s : List ℕ). IsFound v s k found) e h

-- ---- before the first round

pub none_seen : (n p : ℕ) → is_seen (replicate n false) p ≡ false
none_seen zero p = refl
none_seen (suc n) zero = refl
none_seen (suc n) (suc p) = none_seen n p

none_pass : (t : Row → Bool) (rows : List Row) → All (λ row. t row ≡ false) rows → filter t rows ≡ []
none_pass t [] h = refl
none_pass t (row ∷ rows) h =
    ap (λ (b : Bool). cond b (row ∷ filter t rows) (filter t rows)) (All-head (λ row. t row ≡ false) row rows h)
    ∙ none_pass t rows (All-tail (λ row. t row ≡ false) row rows h)

none_met : (codes : List (List ℕ)) (n : ℕ) → met_rows codes (replicate n false) ≡ []
none_met codes n =
    none_pass (λ row. is_seen (replicate n false) (nat_abs row.label)) (numbered 0 codes)
    (All-rows (λ row. is_seen (replicate n false) (nat_abs row.label) ≡ false) codes (λ p low. none_seen n p))

take_none : (k : ℕ) → ◌≡◌ {A = List Hit} [] (take k [])
take_none zero = refl
take_none (suc k) = refl

pub found_none : (v : MultiValue) (q : List ℕ) (k : ℕ) → IsLegalMulti v → length q ≡ v.dim / 8
    → IsFound v q k (record {
      seen = replicate (length v.codes) false;
      met = 0;
      best = record { items = []; k = k; most = length v.codes; bits = v.dim };
    })
found_none v q k legal size = record {
  legal = legal;
  size = size;
  positions = length-replicate (length v.codes) false;
  met = sym (ap length (none_met v.codes (length v.codes)));
  kept = take_none k ∙ ap (λ (rows : List Row). first k (hits_on q rows)) (sym (none_met v.codes (length v.codes)));
  k = refl;
  most = refl;
  bits = refl;
}
