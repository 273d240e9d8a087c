use Rattle.std.proofs.Common.{◌≡◌, ℕ, zero, suc, ◌+◌, ◌*◌, ◌/◌, ◌≤◌, ◌++◌, ℤ, pos, List, [], ◌∷◌}
use Rattle.std.proofs.Common.{length, take, refl, sym, ap, ◌∙◌, arith, subst}
use Rattle.bcodes.specs.Ranges.{load_limit}
use Rattle.bcodes.specs.Value.{Bare, IndexValue, Multi, MultiValue, labels_from, load_of, weight}
use Rattle.bcodes.proofs.NumberedLemmas.{length-labels_from}
use Rattle.multi_hash.proofs.MultiLemmas.{after_add_multi}
use Rattle.index_tests.proofs.multi.added.Goals as goal

-- the labels of at most four codes
few_labels : (n : ℕ) → n ≤ 4 → take n (pos 0 ∷ pos 1 ∷ pos 2 ∷ pos 3 ∷ []) ≡ labels_from 0 n
few_labels zero few = refl
few_labels (suc zero) few = refl
few_labels (suc (suc zero)) few = refl
few_labels (suc (suc (suc zero))) few = refl
few_labels (suc (suc (suc (suc zero)))) few = refl
few_labels (suc (suc (suc (suc (suc n))))) few = absurd (omega arith)

-- a few codes are within the load limit
light : (d maps n : ℕ) → d ≤ 65536 → maps ≤ 1024 → n ≤ 4 → weight d maps n 0 ≤ load_limit
light d maps n small narrow few =
    let most : n * (d / 8 + 16 + 64 * maps) ≤ 4 * (d / 8 + 16 + 64 * maps) = grind arith in
    omega (arith, most)

pub add_all-requires-clause-positions : goal.add_all-requires-clause-positions
add_all-requires-clause-positions c =
    let n : ℕ = length c.args.codes.now.codes in
    let none : length c.in_ok-index.index.codes ≡ 0
    = ap (λ (v : MultiValue). length v.codes) c.in_ok-index.ensures in
    λ e. ap (λ (m : ℕ). take m (pos 0 ∷ pos 1 ∷ pos 2 ∷ pos 3 ∷ [])) c.len.ensures.value
    ∙ few_labels n c.requires.few ∙ ap (λ (m : ℕ). labels_from m n) (sym none)

pub add_all-requires-clause-load : goal.add_all-requires-clause-load
add_all-requires-clause-load c =
    let v : MultiValue = c.in_ok-index.index in
    let codes : List (List ℕ) = c.args.codes.now.codes in
    let labels : List ℤ = take c.len.result (pos 0 ∷ pos 1 ∷ pos 2 ∷ pos 3 ∷ []) in
    let made = c.in_ok-index.ensures in
    let count : length labels ≡ length codes
    = ap (λ (m : ℕ). length (take m (pos 0 ∷ pos 1 ∷ pos 2 ∷ pos 3 ∷ []))) c.len.ensures.value
    ∙ ap length (few_labels (length codes) c.requires.few) ∙ length-labels_from 0 (length codes) in
    let small : v.dim ≤ 65536
    = omega (arith, ap (λ (w : MultiValue). w.dim) made, c.dim.ensures.value, c.dim.ensures.range.at_most) in
    let narrow : v.nhash ≤ 1024 = omega (arith, ap (λ (w : MultiValue). w.nhash) made, c.requires.nhash_most) in
    subst (λ (w : IndexValue). load_of w ≤ load_limit) (sym (after_add_multi v labels codes count))
    (subst (λ (cs : List (List ℕ)). weight v.dim v.nhash (length (cs ++ codes)) 0 ≤ load_limit)
    (sym (ap (λ (w : MultiValue). w.codes) made)) (light v.dim v.nhash (length codes) small narrow c.requires.few))
