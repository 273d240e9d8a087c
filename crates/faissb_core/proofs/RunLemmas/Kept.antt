-- What is kept of a long line.
use Rattle.std.proofs.Common.{◌≡◌, ℕ, zero, suc, ◌+◌, ◌-◌, ◌≤◌, min, List, [], ◌∷◌, ◌++◌, length, take, refl, sym, ◌∙◌}
use Rattle.std.proofs.Common.{ap, subst, arith}
use Rattle.std.proofs.Math.Seq.{take-append-add}
use Rattle.std.proofs.lemmas.List.{take_min}

-- room for k more
pub extend_kept : (n room k : ℕ) (line part : List ℕ) → length line ≤ n → room ≡ n - length line
    → k ≡ min (length part) room → line ++ take k part ≡ take n (line ++ part)
extend_kept n room k line part fits is least =
    let whole : n ≡ length line + room = omega arith in
    let same : min room (length part) ≡ k = omega arith in
    let taken : take k part
    ≡ take room part = subst (λ (m : ℕ). take m part ≡ take room part) same (take_min room part) in
    ap (λ (l : List ℕ). line ++ l) taken ∙ sym (take-append-add line part room)
    ∙ ap (λ (m : ℕ). take m (line ++ part)) (sym whole)

-- to keep of what was kept is to keep of all
pub keep-keep : (n : ℕ) (xs ys : List ℕ) → take n (take n xs ++ ys) ≡ take n (xs ++ ys)
keep-keep zero xs ys = refl
keep-keep (suc n) [] ys = refl
keep-keep (suc n) (x ∷ xs) ys = ap (λ (l : List ℕ). x ∷ l) (keep-keep n xs ys)
