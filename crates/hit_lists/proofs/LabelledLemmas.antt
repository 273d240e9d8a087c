-- Lemmas on labels with their distances.
use Rattle.std.proofs.Common.{◌≡◌, ℕ, zero, suc, ◌+◌, ◌<◌, ◌≤◌, min, ◌⊎◌, inl, inr, ℤ, pos, Bool, List, [], ◌∷◌, ◌++◌}
use Rattle.std.proofs.Common.{length, ◌-◌, get_or, take, drop, false, nat_lt, refl, sym, ap, ◌∙◌, arith, append_assoc}
use Rattle.std.proofs.Common.{length-take, length-drop, length-append}
use Rattle.std.specs.List.{All, filter}
use Rattle.std.proofs.Math.Seq.{take-add}
use Rattle.std.proofs.lemmas.Bool.Decides.{nat_tests}
use Rattle.std.proofs.lemmas.List.{append-nil, take_more, take_all}
use Rattle.std.proofs.lemmas.List.Elements.{filter-append}
use Rattle.bcodes.specs.declared.hit.Hit.{Hit}
use Rattle.bcodes.specs.Hits.{in_order, no_hit}
use Rattle.bcodes.proofs.OrderLemmas.{best_append, best-best, best_more, length-in_order}
use Rattle.hit_lists.specs.Labelled.{hits_of}

length-hits_of : (ls : List ℤ) (ds : List ℕ) → length ls ≡ length ds → length (hits_of ls ds) ≡ length ls
length-hits_of [] ds e = refl
length-hits_of (l ∷ ls) [] e = absurd (omega arith)
length-hits_of (l ∷ ls) (d ∷ ds) e = ap suc (length-hits_of ls ds (omega arith))

get-hits_of : (ls : List ℤ) (ds : List ℕ) (i : ℕ) (h : Hit) → length ls ≡ length ds → i < length ls
    → get_or (hits_of ls ds) i h ≡ record { distance = get_or ds i 0; label = get_or ls i (pos 0) }
get-hits_of [] ds i h e low = absurd (omega arith)
get-hits_of (l ∷ ls) [] i h e low = absurd (omega arith)
get-hits_of (l ∷ ls) (d ∷ ds) zero h e low = refl
get-hits_of (l ∷ ls) (d ∷ ds) (suc i) h e low = get-hits_of ls ds i h (omega arith) (omega arith)

-- one more hit
hits_of-more : (ls : List ℤ) (ds : List ℕ) (i : ℕ) (h : Hit) → length ls ≡ length ds → i < length ls
    → h ≡ record { distance = get_or ds i 0; label = get_or ls i (pos 0) }
    → take (i + 1) (hits_of ls ds) ≡ take i (hits_of ls ds) ++ h ∷ []
hits_of-more ls ds i h same low this =
    let inside : i < length (hits_of ls ds) = omega (arith, length-hits_of ls ds same) in
    take_more (hits_of ls ds) i h inside ∙ ap (λ (g : Hit). take i (hits_of ls ds) ++ g ∷ [])
    (get-hits_of ls ds i h same low ∙ sym this)

-- and the first k with it
pub offered_more : (k : ℕ) (before kept after : List Hit) (ls : List ℤ) (ds : List ℕ) (i : ℕ) (h : Hit)
    → length ls ≡ length ds → i < length ls → h ≡ record { distance = get_or ds i 0; label = get_or ls i (pos 0) }
    → kept ≡ take k (in_order (before ++ take i (hits_of ls ds))) → after ≡ take k (in_order (h ∷ kept))
    → after ≡ take k (in_order (before ++ take (i + 1) (hits_of ls ds)))
offered_more k before kept after ls ds i h same low this so_far is =
    best_more k (before ++ take i (hits_of ls ds)) kept after h so_far is
    ∙ ap (λ (hs : List Hit). take k (in_order hs)) (append_assoc before (take i (hits_of ls ds)) (h ∷ [])
    ∙ ap (λ (hs : List Hit). before ++ hs) (sym (hits_of-more ls ds i h same low this)))

pub offered_none : (k : ℕ) (before : List Hit) (ls : List ℤ) (ds : List ℕ) → in_order before ≡ before
    → length before ≤ k → before ≡ take k (in_order (before ++ take 0 (hits_of ls ds)))
offered_none k before ls ds ordered few = sym (ap (λ (hs : List Hit). take k (in_order hs)) (append-nil before)
    ∙ ap (take k) ordered ∙ take_all k before few)

pub offered_all : (k : ℕ) (before after : List Hit) (ls : List ℤ) (ds : List ℕ) (i : ℕ) → length ls ≡ length ds
    → length ls ≤ i → after ≡ take k (in_order (before ++ take i (hits_of ls ds)))
    → after ≡ take k (in_order (before ++ hits_of ls ds))
offered_all k before after ls ds i same all so_far =
    so_far ∙ ap (λ (hs : List Hit). take k (in_order (before ++ hs)))
    (take_all i (hits_of ls ds) (omega (arith, length-hits_of ls ds same)))

pub room_more : (k len after n i most : ℕ) → after ≡ min k (suc len) → i < n → (len + n ≤ most + i) ⊎ (len ≡ k)
    → (after + n ≤ most + (i + 1)) ⊎ (after ≡ k)
room_more k len after n i most e low (inl p) = inl (omega arith)
room_more k len after n i most e low (inr p) = inr (omega arith)

pub room_at_first : (k len n most : ℕ) → (len + n ≤ most) ⊎ (len ≡ k) → (len + n ≤ most + 0) ⊎ (len ≡ k)
room_at_first k len n most (inl p) = inl (omega arith)
room_at_first k len n most (inr p) = inr p

pub length_kept : (k : ℕ) (kept after : List Hit) (h : Hit) → after ≡ take k (in_order (h ∷ kept)) → length after ≡ min
    k (suc (length kept))
length_kept k kept after h is = ap length is ∙ length-take k (in_order (h ∷ kept))
    ∙ ap (min k) (length-in_order (h ∷ kept))

-- one more hit, where it passes
pub passed_more : (p : Hit → Bool) (before kept after : List Hit) (ls : List ℤ) (ds : List ℕ) (i : ℕ) (h : Hit)
    → length ls ≡ length ds → i < length ls → h ≡ record { distance = get_or ds i 0; label = get_or ls i (pos 0) }
    → kept ≡ before ++ filter p (take i (hits_of ls ds)) → after ≡ kept ++ filter p (h ∷ [])
    → after ≡ before ++ filter p (take (i + 1) (hits_of ls ds))
passed_more p before kept after ls ds i h same low this so_far is =
    is ∙ ap (λ (hs : List Hit). hs ++ filter p (h ∷ [])) so_far
    ∙ append_assoc before (filter p (take i (hits_of ls ds))) (filter p (h ∷ []))
    ∙ ap (λ (hs : List Hit). before ++ hs) (sym (filter-append p (take i (hits_of ls ds)) (h ∷ []))
    ∙ ap (filter p) (sym (hits_of-more ls ds i h same low this)))

pub passed_all : (p : Hit → Bool) (before after : List Hit) (ls : List ℤ) (ds : List ℕ) (i : ℕ) → length ls ≡ length ds
    → length ls ≤ i → after ≡ before ++ filter p (take i (hits_of ls ds)) → after ≡ before ++ filter p (hits_of ls ds)
passed_all p before after ls ds i same all so_far = so_far ∙ ap (λ (hs : List Hit). before ++ filter p hs)
    (take_all i (hits_of ls ds) (omega (arith, length-hits_of ls ds same)))

-- ---- a run of labels

hits_of-front : (ls : List ℤ) (ds : List ℕ) (n : ℕ) → hits_of (take n ls) (take n ds) ≡ take n (hits_of ls ds)
hits_of-front ls ds zero = refl
hits_of-front [] ds (suc n) = refl
hits_of-front (l ∷ ls) [] (suc n) = refl
hits_of-front (l ∷ ls) (d ∷ ds) (suc n) = ap (λ (hs : List Hit). record { distance = d; label = l } ∷ hs)
    (hits_of-front ls ds n)

hits_of-none : (ls : List ℤ) → hits_of ls [] ≡ []
hits_of-none [] = refl
hits_of-none (l ∷ ls) = refl

hits_of-drop : (ls : List ℤ) (ds : List ℕ) (at : ℕ) → hits_of (drop at ls) (drop at ds) ≡ drop at (hits_of ls ds)
hits_of-drop ls ds zero = refl
hits_of-drop [] ds (suc at) = refl
hits_of-drop (l ∷ ls) [] (suc at) = hits_of-none (drop at ls)
hits_of-drop (l ∷ ls) (d ∷ ds) (suc at) = hits_of-drop ls ds at

-- the hits up to the end of a run
hits_of-run : (ls : List ℤ) (ds : List ℕ) (at end : ℕ) → at ≤ end
    → take end (hits_of ls ds) ≡ take at (hits_of ls ds) ++ hits_of (take (end - at) (drop at ls))
    (take (end - at) (drop at ds))
hits_of-run ls ds at end le =
    let n : end ≡ at + (end - at) = omega arith in
    ap (λ (k : ℕ). take k (hits_of ls ds)) n ∙ take-add at (end - at) (hits_of ls ds)
    ∙ ap (λ (hs : List Hit). take at (hits_of ls ds) ++ hs)
    (sym (hits_of-front (drop at ls) (drop at ds) (end - at) ∙ ap (take (end - at)) (hits_of-drop ls ds at)))

-- the first k with one more run
pub offered_run : (k : ℕ) (before kept after : List Hit) (ls : List ℤ) (ds : List ℕ) (at end : ℕ) → at ≤ end
    → kept ≡ take k (in_order (before ++ take at (hits_of ls ds)))
    → after ≡ take k (in_order (kept ++ hits_of (take (end - at) (drop at ls)) (take (end - at) (drop at ds))))
    → after ≡ take k (in_order (before ++ take end (hits_of ls ds)))
offered_run k before kept after ls ds at end le so_far is =
    let more = hits_of (take (end - at) (drop at ls)) (take (end - at) (drop at ds)) in
    let same : take k (in_order kept) ≡ take k (in_order (before ++ take at (hits_of ls ds))) =
    ap (λ (l : List Hit). take k (in_order l)) so_far ∙ best-best k (before ++ take at (hits_of ls ds)) in
    is ∙ best_append k kept (before ++ take at (hits_of ls ds)) more same
    ∙ ap (λ (hs : List Hit). take k (in_order hs))
    (append_assoc before (take at (hits_of ls ds)) more ∙ ap (λ (hs : List Hit). before ++ hs)
    (sym (hits_of-run ls ds at end le)))

pub length-run : {X : Type 0} → (xs : List X) (at end : ℕ) → at ≤ end → end ≤ length xs
    → length (take (end - at) (drop at xs)) ≡ end - at
length-run xs at end le fits = omega (arith, length-take (end - at) (drop at xs), length-drop at xs)

length-offered : (k : ℕ) (kept after more : List Hit) → after ≡ take k (in_order (kept ++ more)) → length after ≡ min
    k (length kept + length more)
length-offered k kept after more is =
    ap length is ∙ length-take k (in_order (kept ++ more)) ∙ ap (min k) (length-in_order (kept ++ more)
    ∙ length-append kept more)

room_kept : (k len after n at end most : ℕ) → after ≡ min k (len + (end - at)) → at ≤ end
    → (len + n ≤ most + at) ⊎ (len ≡ k) → (after + n ≤ most + end) ⊎ (after ≡ k)
room_kept k len after n at end most e le (inl p) = inl (omega arith)
room_kept k len after n at end most e le (inr p) = inr (omega arith)

pub room_after : (k : ℕ) (kept after : List Hit) (ls : List ℤ) (ds : List ℕ) (n at end most : ℕ) → length ls ≡ length ds
    → at ≤ end → end ≤ length ls
    → after ≡ take k (in_order (kept ++ hits_of (take (end - at) (drop at ls)) (take (end - at) (drop at ds))))
    → (length kept + n ≤ most + at) ⊎ (length kept ≡ k) → (length after + n ≤ most + end) ⊎ (length after ≡ k)
room_after k kept after ls ds n at end most same le fits is room =
    let more = hits_of (take (end - at) (drop at ls)) (take (end - at) (drop at ds)) in
    let labels : length (take (end - at) (drop at ls)) ≡ end - at = length-run ls at end le fits in
    let distances : length (take (end - at) (drop at ds)) ≡ end - at = length-run ds at end le (omega arith) in
    let long : length more ≡ end - at = length-hits_of (take (end - at) (drop at ls)) (take (end - at) (drop at ds))
    (labels ∙ sym distances) ∙ labels in
    room_kept k (length kept) (length after) n at end most (length-offered k kept after more is
    ∙ ap (λ (m : ℕ). min k (length kept + m)) long) le room

pub room_before : (k len n at end most : ℕ) → at ≤ end → end ≤ n → (len + n ≤ most + at) ⊎ (len ≡ k)
    → (len + (end - at) ≤ most) ⊎ (len ≡ k)
room_before k len n at end most le fits (inl p) = inl (omega arith)
room_before k len n at end most le fits (inr p) = inr p

-- those of one more run that pass
pub passed_run : (p : Hit → Bool) (before kept after : List Hit) (ls : List ℤ) (ds : List ℕ) (at end : ℕ) → at ≤ end
    → kept ≡ before ++ filter p (take at (hits_of ls ds))
    → after ≡ kept ++ filter p (hits_of (take (end - at) (drop at ls)) (take (end - at) (drop at ds)))
    → after ≡ before ++ filter p (take end (hits_of ls ds))
passed_run p before kept after ls ds at end le so_far is =
    let more = hits_of (take (end - at) (drop at ls)) (take (end - at) (drop at ds)) in
    is ∙ ap (λ (hs : List Hit). hs ++ filter p more) so_far ∙ append_assoc before (filter p (take at (hits_of ls ds)))
    (filter p more)
    ∙ ap (λ (hs : List Hit). before ++ hs)
    (sym (filter-append p (take at (hits_of ls ds)) more) ∙ ap (filter p) (sym (hits_of-run ls ds at end le)))

-- no hit is nearer than the least of their distances
pub far : (bound least : ℕ) (ls : List ℤ) (ds : List ℕ) (t : ℕ) → length ls ≡ length ds → All (λ d. least ≤ d) ds
    → bound ≤ least → t < length (hits_of ls ds)
    → bound ≤ (get_or (hits_of ls ds) t no_hit).distance
far bound least ls ds t same above le low =
    let inside : t < length ls = omega (arith, length-hits_of ls ds same) in
    let here : least ≤ get_or ds t 0 = above t 0 (omega arith) in
    rw (get-hits_of ls ds t no_hit same inside) (omega arith)

none_pass : (p : Hit → Bool) (hs : List Hit) → ((t : ℕ) → t < length hs → p (get_or hs t no_hit) ≡ false)
    → filter p hs ≡ []
none_pass p [] none = refl
none_pass p (h ∷ hs) none = rw (none 0 (omega arith)) (none_pass p hs (λ t low. none (suc t) (omega arith)))

-- where the least distance is not below the radius, no hit is
pub none_below : (radius least : ℕ) (before : List Hit) (ls : List ℤ) (ds : List ℕ) → length ls ≡ length ds
    → All (λ d. least ≤ d) ds → radius ≤ least
    → before ≡ before ++ filter (λ h. nat_lt h.distance radius) (hits_of ls ds)
none_below radius least before ls ds same above le =
    let at_least : (t : ℕ) → t < length (hits_of ls ds) → radius ≤ (get_or (hits_of ls ds) t no_hit).distance = λ t low.
    far radius least ls ds t same above le low in
    sym (ap (λ (hs : List Hit). before ++ hs) (none_pass (λ h. nat_lt h.distance radius) (hits_of ls ds)
    (λ t low. let past = at_least t low in grind (arith, nat_tests))) ∙ append-nil before)
