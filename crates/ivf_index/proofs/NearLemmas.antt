-- Lemmas on near lists.
use Rattle.std.proofs.Common.{◌≡◌, ℕ, zero, suc, ◌+◌, ◌-◌, ◌<◌, ◌≤◌}
use Rattle.std.proofs.Common.{nat_abs, ℤ, pos, inl, inr, List, [], ◌∷◌, ◌++◌, length, take, drop, map, get_or}
use Rattle.std.proofs.Common.{refl, sym, ap, ◌∙◌, subst, arith, length-take, append_assoc, append-nil}
use Rattle.std.proofs.Common.{rules, FitsSigned, w64, to_z, of_z}
use Rattle.std.proofs.lemmas.Int.{to_z-of_z}
use Rattle.std.specs.List.{All}
use Rattle.std.proofs.lemmas.List.{map-append, take-map, take_more, length-map, get_or-map, get_or-take}
use Rattle.std.proofs.lemmas.List.Elements.{All-nil, All-cons, All-head, All-tail, All-take, All-map, All-weaker}
use Rattle.std.proofs.Math.Seq.{drop-cons}
use Rattle.bcodes.specs.declared.hit.Hit.{Hit}
use Rattle.bcodes.specs.Hits.{is_above, insert_hit, in_order}
use Rattle.bcodes.specs.Value.{CodeList, Bare, Flat, numbered}
use Rattle.bcodes.specs.Answers.{best, hit_of, ranked_rows}
use Rattle.bcodes.proofs.OrderLemmas.{either, length-in_order}
use Rattle.bcodes.proofs.RankedLemmas.{All-in_order}
use Rattle.bcodes.proofs.FormLemmas.{best_flat}
use Rattle.bcodes.proofs.NumberedLemmas.{length-numbered}
use Rattle.ivf_index.specs.Near.{IsNumber, lists_by, nearest_by, front_by}

-- the number of a hit on a centroid
abbrev pub number : Hit → ℕ
number h = nat_abs h.label

-- the labels of hits on centroids are their numbers
numbers_below : (q : List ℕ) (i n : ℕ) (cs : List (List ℕ)) → i + length cs ≤ n
    → All (λ h. IsNumber n h.label) (map (hit_of q) (numbered i cs))
numbers_below q i n [] h = All-nil (λ h. IsNumber n h.label)
numbers_below q i n (c ∷ cs) h =
    let this : IsNumber n (pos i) = record { below = omega arith; is = refl } in
    All-cons (λ h. IsNumber n h.label) (hit_of q (record { label = pos i; code = c }))
    (map (hit_of q) (numbered (i + 1) cs)) this (numbers_below q (i + 1) n cs (omega arith))

pub ranked_are : (q : List ℕ) (cs : List (List ℕ))
    → All (λ h. IsNumber (length cs) h.label) (ranked_rows q (numbered 0 cs))
ranked_are q cs = All-in_order (λ h. IsNumber (length cs) h.label) (map (hit_of q) (numbered 0 cs))
    (numbers_below q 0 (length cs) cs (omega arith))

wider : (m n : ℕ) (label : ℤ) → m ≤ n → IsNumber m label → IsNumber n label
wider m n label h is = record { below = omega (arith, is.below); is = is.is }

-- so are those of the answer of a search among the centroids
pub found_are : (v : CodeList) (q : List ℕ) (k : ℕ) (hits : List Hit) → hits ≡ best (Bare (Flat v)) q k
    → All (λ h. IsNumber (length v.codes) h.label) hits
found_are v q k hits e =
    subst (All (λ h. IsNumber (length v.codes) h.label)) (sym (e ∙ best_flat v q k))
    (All-take (λ h. IsNumber (length v.codes) h.label) k (ranked_rows q (numbered 0 v.codes))
    (ranked_are q v.codes))

pub found_small : (v : CodeList) (q : List ℕ) (k : ℕ) (hits : List Hit) → length v.codes ≤ 4194304
    → hits ≡ best (Bare (Flat v)) q k → All (λ h. IsNumber 4194304 h.label) hits
found_small v q k hits few e =
    All-weaker (λ h. IsNumber (length v.codes) h.label) (λ h. IsNumber 4194304 h.label)
    (λ h. wider (length v.codes) 4194304 h.label few) hits (found_are v q k hits e)

pub numbers_found : (v : CodeList) (q : List ℕ) (k : ℕ) (hits : List Hit) → hits ≡ best (Bare (Flat v)) q k
    → map number hits ≡ take k (lists_by v.codes q)
numbers_found v q k hits e = ap (map number) (e ∙ best_flat v q k)
    ∙ sym (take-map number k (ranked_rows q (numbered 0 v.codes)))

pub numbers_known : (v : CodeList) (q : List ℕ) (k : ℕ) (hits : List Hit) → hits ≡ best (Bare (Flat v)) q k
    → All (λ n. n < length v.codes) (map number hits)
numbers_known v q k hits e =
    All-map (λ n. n < length v.codes) number hits
    (All-weaker (λ h. IsNumber (length v.codes) h.label) (λ h. number h < length v.codes) (λ h is. is.below) hits
    (found_are v q k hits e))

-- the first hit is the nearest centroid
pub length-found : (v : CodeList) (q : List ℕ) (hits : List Hit) → 1 ≤ length v.codes
    → hits ≡ best (Bare (Flat v)) q 1 → 1 ≤ length hits
length-found v q hits some e =
    omega (
      arith,
      ap length (e ∙ best_flat v q 1),
      length-take 1 (ranked_rows q (numbered 0 v.codes)),
      length-in_order (map (hit_of q) (numbered 0 v.codes)),
      length-map (numbered 0 v.codes) (hit_of q),
      length-numbered 0 v.codes,
    )

pub nearest_found : (v : CodeList) (q : List ℕ) (hits : List Hit) (d : Hit) → 1 ≤ length v.codes
    → hits ≡ best (Bare (Flat v)) q 1 → number (get_or hits 0 d) ≡ nearest_by v.codes q
nearest_found v q hits d some e =
    let all : List Hit = ranked_rows q (numbered 0 v.codes) in
    let long : 0 < length all = omega (
      arith,
      length-in_order (map (hit_of q) (numbered 0 v.codes)),
      length-map (numbered 0 v.codes) (hit_of q),
      length-numbered 0 v.codes,
    ) in
    ap (λ (hs : List Hit). number (get_or hs 0 d)) (e ∙ best_flat v q 1)
    ∙ ap number (get_or-take 1 all 0 d (omega arith)) ∙ sym (get_or-map number all 0 d 0 long)

-- ---- the front of lists

front_step : (count : ℕ → ℕ) (wanted n : ℕ) (ls : List ℕ) → 0 < wanted
    → front_by count wanted (n ∷ ls) ≡ n ∷ front_by count (wanted - count n) ls
front_step count zero n ls h = absurd (omega arith)
front_step count (suc wanted) n ls h = refl

pub front_none : (count : ℕ → ℕ) (ls : List ℕ) → front_by count 0 ls ≡ []
front_none count [] = refl
front_none count (n ∷ ls) = refl

-- one more list is taken
pub front_more : (count : ℕ → ℕ) (limit wanted left i : ℕ) (ls : List ℕ)
    → front_by count limit ls ≡ take i ls ++ front_by count wanted (drop i ls) → 0 < wanted → i < length ls
    → left ≡ wanted - count (get_or ls i 0)
    → front_by count limit ls ≡ take (i + 1) ls ++ front_by count left (drop (i + 1) ls)
front_more count limit wanted left i ls so some h e =
    let next : suc i ≡ i + 1 = omega arith in
    let n : ℕ = get_or ls i 0 in
    so
    ∙ ap (λ (rest : List ℕ). take i ls ++ rest)
    (ap (front_by count wanted) (drop-cons ls i 0 h) ∙ front_step count wanted n (drop (suc i) ls) some
    ∙ ap (λ (m : ℕ). n ∷ front_by count (wanted - count n) (drop m ls)) next
    ∙ ap (λ (m : ℕ). n ∷ front_by count m (drop (i + 1) ls)) (sym e))
    ∙ sym (append_assoc (take i ls) (n ∷ []) (front_by count left (drop (i + 1) ls)))
    ∙ ap (λ (front : List ℕ). front ++ front_by count left (drop (i + 1) ls)) (sym (take_more ls i 0 h))

drop_all : (i : ℕ) (ls : List ℕ) → length ls ≤ i → drop i ls ≡ []
drop_all zero [] h = refl
drop_all (suc i) [] h = refl
drop_all zero (l ∷ ls) h = absurd (omega arith)
drop_all (suc i) (l ∷ ls) h = drop_all i ls (omega arith)

pub front_end : (count : ℕ → ℕ) (limit wanted i : ℕ) (ls : List ℕ)
    → front_by count limit ls ≡ take i ls ++ front_by count wanted (drop i ls) → length ls ≤ i
    → take i ls ≡ front_by count limit ls
front_end count limit wanted i ls so h =
    sym (so ∙ ap (λ (rest : List ℕ). take i ls ++ front_by count wanted rest) (drop_all i ls h) ∙ append-nil (take i ls))

pub front_full : (count : ℕ → ℕ) (limit wanted i : ℕ) (ls : List ℕ)
    → front_by count limit ls ≡ take i ls ++ front_by count wanted (drop i ls) → wanted ≡ 0
    → take i ls ≡ front_by count limit ls
front_full count limit wanted i ls so e =
    sym (so ∙ ap (λ (w : ℕ). take i ls ++ front_by count w (drop i ls)) e
    ∙ ap (λ (rest : List ℕ). take i ls ++ rest) (front_none count (drop i ls)) ∙ append-nil (take i ls))

-- ---- the nearest of several codes

pub nearest_more : (cs : List (List ℕ)) (codes : List (List ℕ)) (numbers : List ℕ) (i n : ℕ)
    → numbers ≡ map (nearest_by cs) (take i codes) → i < length codes → n ≡ nearest_by cs (get_or codes i [])
    → numbers ++ n ∷ [] ≡ map (nearest_by cs) (take (i + 1) codes)
nearest_more cs codes numbers i n so h e =
    ap (λ (ns : List ℕ). ns ++ n ∷ []) so
    ∙ ap (λ (m : ℕ). map (nearest_by cs) (take i codes) ++ m ∷ []) e
    ∙ sym (ap (map (nearest_by cs)) (take_more codes i [] h)
    ∙ map-append (nearest_by cs) (take i codes) (get_or codes i [] ∷ []))

-- ---- a number as a signed one

fits_number : (n : ℕ) → n < 4194304 → FitsSigned w64 (pos n)
fits_number n h = search rules

pub signed_is : (x : ℤ) → IsNumber 4194304 x → to_z w64 (of_z w64 x) ≡ x
signed_is x h = to_z-of_z w64 x (subst (FitsSigned w64) (sym h.is) (fits_number (nat_abs x) h.below))

pub numbers_more : (hits : List Hit) (numbers : List ℕ) (i n : ℕ) (d : Hit) → numbers ≡ map number (take i hits)
    → i < length hits → n ≡ number (get_or hits i d) → numbers ++ n ∷ [] ≡ map number (take (i + 1) hits)
numbers_more hits numbers i n d so h e =
    ap (λ (ns : List ℕ). ns ++ n ∷ []) so
    ∙ ap (λ (m : ℕ). map number (take i hits) ++ m ∷ []) e
    ∙ sym (ap (map number) (take_more hits i d h) ∙ map-append number (take i hits) (get_or hits i d ∷ []))
