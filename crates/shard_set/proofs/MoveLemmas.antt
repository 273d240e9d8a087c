-- Lemmas on labels that are moved in place.
use Rattle.std.proofs.Common.{◌≡◌, ℕ, zero, suc, ◌+◌, ◌-◌, ◌^◌, ◌<◌, ℤ, pos, ◌+ℤ◌}
use Rattle.std.proofs.Common.{FitsSigned, w64, to_z, of_z}
use Rattle.std.proofs.Common.{List, [], ◌∷◌, ◌++◌, length, get_or, set, take, drop, map, refl, sym, ap}
use Rattle.std.proofs.Common.{◌∙◌, arith}
use Rattle.std.specs.List.{All}
use Rattle.std.proofs.lemmas.Int.{ints, to_z-of_z}
use Rattle.std.proofs.lemmas.List.{get_or_default}
use Rattle.std.proofs.lemmas.List.Edits.{map_over_more}
use Rattle.bcodes.specs.declared.hit.Hit.{Hit}
use Rattle.bcodes.specs.Hits.{no_hit}
use Rattle.bcodes.specs.Value.{IsPlace}
use Rattle.shard_set.specs.Joined.{moved_hit}

-- what a label becomes
label_moved : (x : ℤ) (before : ℕ) → before < 2 ^ 31 → IsPlace (2 ^ 31 - before) x
    → to_z w64 (of_z w64 (to_z w64 (of_z w64 x) +ℤ to_z w64 before)) ≡ x +ℤ pos before
label_moved x before few p =
    let least = p.least in
    let most = p.most in
    let fits : FitsSigned w64 x = search (arith, ints) in
    let sum_fits : FitsSigned w64 (x +ℤ pos before) = search (arith, ints) in
    let small : to_z w64 before ≡ pos before = omega (arith, ints) in
    rw (to_z-of_z w64 x fits, small, to_z-of_z w64 (x +ℤ pos before) sum_fits) refl

get-half : (f : Hit → Hit) (old : List Hit) (i : ℕ) (d : Hit)
    → get_or (map f (take i old) ++ drop i old) i d ≡ get_or old i d
get-half f [] zero d = refl
get-half f [] (suc i) d = refl
get-half f (h ∷ old) zero d = refl
get-half f (h ∷ old) (suc i) d = get-half f old i d

-- the step of a loop that moves one label after the other
pub move_more : (old now new : List Hit) (i before : ℕ) → i < length old → before < 2 ^ 31
    → All (λ (h : Hit). IsPlace (2 ^ 31 - before) h.label) old
    → now ≡ map (moved_hit before) (take i old) ++ drop i old
    → new ≡ set now i (record {
      distance = (get_or now i no_hit).distance;
      label = to_z w64 (of_z w64 (to_z w64 (of_z w64 (get_or now i no_hit).label) +ℤ to_z w64 before));
    })
    → new ≡ map (moved_hit before) (take (i + 1) old) ++ drop (i + 1) old
move_more old now new i before low few places is done =
    let h : Hit = get_or now i no_hit in
    let there : (d : Hit) → get_or now i d ≡ get_or old i d = λ d.
    ap (λ (l : List Hit). get_or l i d) is ∙ get-half (moved_hit before) old i d in
    let place : IsPlace (2 ^ 31 - before) h.label = rw (there no_hit) (places i no_hit low) in
    let label = label_moved h.label before few place in
    let at : h ≡ get_or now i h = there no_hit ∙ get_or_default old i no_hit h low ∙ sym (there h) in
    done ∙ ap (λ (x : ℤ). set now i (record { distance = h.distance; label = x })) label
    ∙ map_over_more (moved_hit before) old now i h low is at
