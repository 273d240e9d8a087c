-- Lemmas on the merge of two lists of hits in order.
use Rattle.std.proofs.Common.{◌≡◌, ℕ, zero, suc, ◌+◌, ◌-◌, ◌<◌, true, false, List, [], ◌∷◌}
use Rattle.std.proofs.Common.{◌++◌, length, get_or, take, drop}
use Rattle.std.proofs.Common.{refl, sym, ap, ◌∙◌, arith, inl, inr, append_assoc, nat_lt}
use Rattle.std.proofs.Common.{true≢false, Bool, Some}
use Rattle.std.proofs.lemmas.List.{drop-drop, length-drop, take_all}
use Rattle.std.proofs.lemmas.List.Sorted.{IsPermutation-append_comm}
use Rattle.std.specs.declared.cmp.Ordering.{Ordering}
use Rattle.std.specs.declared.cmp.Ordering.TheVariants.{Less, Equal, Greater}
use Rattle.std.specs.Ordering.{int_cmp, is_gt, is_le, is_some_and, nat_cmp, ordering_then, partial_ordering_then}
use Rattle.std.proofs.lemmas.Bool.Decides.{nat_tests}
use Rattle.bcodes.specs.declared.hit.Hit.{Hit}
use Rattle.bcodes.specs.Hits.{hit_cmp, is_above, insert_hit, in_order}
use Rattle.bcodes.proofs.OrderLemmas.{either, is_above-flip, is_above-trans, insert-none_below, in_order-permutation}
use Rattle.bcodes.proofs.OrderLemmas.{Ascends, NoneBelow, in_order-ascends, settled}
use Rattle.shard_set.specs.Merged.{IsNext}

-- ---- the hit that comes first

none_below-trans : (g h : Hit) (l : List Hit) → is_above g h ≡ false → NoneBelow h l → NoneBelow g l
none_below-trans g h [] f n = tt
none_below-trans g h (x ∷ l) f n = (is_above-trans g h x f n.0, none_below-trans g h l f n.1)

none_below-append : (h : Hit) (xs ys : List Hit) → NoneBelow h xs → NoneBelow h ys → NoneBelow h (xs ++ ys)
none_below-append h [] ys n m = m
none_below-append h (x ∷ xs) ys n m = (n.0, none_below-append h xs ys n.1 m)

none_below-insert : (g h : Hit) (l : List Hit) → is_above g h ≡ false → NoneBelow g l
    → NoneBelow g (insert_hit h l)
none_below-insert g h [] f n = (f, tt)
none_below-insert g h (x ∷ l) f n =
    elim (either (is_above h x)) [
      | inl p ↦ rw p (n.0, none_below-insert g h l f n.1)
      | inr p ↦ rw p (f, n)
    ]

none_below-in_order : (h : Hit) (l : List Hit) → NoneBelow h l → NoneBelow h (in_order l)
none_below-in_order h [] n = tt
none_below-in_order h (x ∷ l) n = none_below-insert h x (in_order l) n.0 (none_below-in_order h l n.1)

is_next : (x : Hit) (xs ys : List Hit) → NoneBelow x xs → NoneBelow x ys → IsNext (x ∷ xs) ys
is_next x xs ys n m = record {
  some = omega arith;
  first = λ h. insert-none_below x (in_order (xs ++ ys))
      (none_below-in_order x (xs ++ ys) (none_below-append x xs ys n m));
}

-- of two lists in order, the one whose first hit is not above that of the other
pub next_of_two : (xs ys : List Hit) (x y : Hit) → in_order xs ≡ xs → in_order ys ≡ ys
    → true ≡ nat_lt 0 (length xs)
    → true ≡ nat_lt 0 (length ys) → x ≡ get_or xs 0 x → y ≡ get_or ys 0 y → is_above x y ≡ false
    → IsNext xs ys
next_of_two [] ys x y e f some more is js low = absurd (true≢false some)
next_of_two (g ∷ xs) [] x y e f some more is js low = absurd (true≢false more)
next_of_two (g ∷ xs) (h ∷ ys) x y e f some more is js low =
    let below : is_above g h ≡ false = ap (λ (a : Hit). is_above a h) (sym is) ∙ ap (is_above x) (sym js)
    ∙ low in
    is_next g xs (h ∷ ys) (settled (g ∷ xs) e).0 (below, none_below-trans g h ys below (settled (h ∷ ys) f).0)

none_told : (n : ℕ) → false ≡ nat_lt 0 (suc n) → ⊥
none_told n e = grind (arith, nat_tests)

-- or the one that alone has hits
pub next_of_one : (xs ys : List Hit) → in_order xs ≡ xs → false ≡ nat_lt 0 (length ys)
    → 0 < length xs + length ys
    → IsNext xs ys
next_of_one [] [] e none some = absurd (omega arith)
next_of_one (x ∷ xs) [] e none some = is_next x xs [] (settled (x ∷ xs) e).0 tt
next_of_one xs (y ∷ ys) e none some = absurd (none_told (length ys) none)

-- ---- hits that are taken in turn

-- which list comes first does not matter
pub in_order-append_comm : (xs ys : List Hit) → in_order (xs ++ ys) ≡ in_order (ys ++ xs)
in_order-append_comm xs ys = in_order-permutation (ys ++ xs) (xs ++ ys) (IsPermutation-append_comm ys xs)

taken_left : (done xs ys all : List Hit) (x : Hit) → done ++ in_order (xs ++ ys) ≡ all → IsNext xs ys
    → x ≡ get_or xs 0 x → (done ++ x ∷ []) ++ in_order (drop 1 xs ++ ys) ≡ all
taken_left done xs ys all x e next is =
    append_assoc done (x ∷ []) (in_order (drop 1 xs ++ ys))
    ∙ ap (λ (h : Hit). done ++ h ∷ in_order (drop 1 xs ++ ys)) is
    ∙ ap (λ (l : List Hit). done ++ l) (sym (next.first x)) ∙ e

taken_right : (done xs ys all : List Hit) (y : Hit) → done ++ in_order (xs ++ ys) ≡ all → IsNext ys xs
    → y ≡ get_or ys 0 y → (done ++ y ∷ []) ++ in_order (xs ++ drop 1 ys) ≡ all
taken_right done xs ys all y e next is =
    ap (λ (l : List Hit). (done ++ y ∷ []) ++ l) (in_order-append_comm xs (drop 1 ys))
    ∙ taken_left done ys xs all y (ap (λ (l : List Hit). done ++ l) (in_order-append_comm ys xs) ∙ e) next is

-- what a slice from i on is
pub rest_of : (xs : List Hit) (i : ℕ) → take (length xs - i) (drop i xs) ≡ drop i xs
rest_of xs i = take_all (length xs - i) (drop i xs) (omega (arith, length-drop i xs))

ascends-drop : (i : ℕ) (xs : List Hit) → Ascends xs → Ascends (drop i xs)
ascends-drop zero xs s = s
ascends-drop (suc i) [] s = tt
ascends-drop (suc i) (x ∷ xs) s = ascends-drop i xs s.1

pub in_order-drop : (xs : List Hit) (i : ℕ) → in_order xs ≡ xs → in_order (drop i xs) ≡ drop i xs
in_order-drop xs i e = in_order-ascends (drop i xs) (ascends-drop i xs (settled xs e))

pub next_within : (xs ys : List Hit) (i : ℕ) → IsNext (drop i xs) ys → i < length xs
next_within xs ys i next = omega (arith, next.some, length-drop i xs)

drop_next : (xs : List Hit) (i : ℕ) → drop 1 (drop i xs) ≡ drop (i + 1) xs
drop_next xs i = drop-drop 1 i xs

first_dropped : (xs : List Hit) (i : ℕ) (d : Hit) → i < length xs
    → get_or xs i d ≡ get_or (drop i xs) 0 (get_or xs i d)
first_dropped [] i d h = absurd (omega arith)
first_dropped (x ∷ xs) zero d h = refl
first_dropped (x ∷ xs) (suc i) d h = first_dropped xs i d (omega arith)

pub next_left : (done left right all : List Hit) (l r : ℕ) (d : Hit)
    → done ++ in_order (drop l left ++ drop r right) ≡ all
    → IsNext (drop l left) (drop r right)
    → (done ++ get_or left l d ∷ []) ++ in_order (drop (l + 1) left ++ drop r right) ≡ all
next_left done left right all l r d e next =
    ap (λ (rest : List Hit). (done ++ get_or left l d ∷ []) ++ in_order (rest ++ drop r right))
    (sym (drop_next left l))
    ∙ taken_left done (drop l left) (drop r right) all (get_or left l d) e next
    (first_dropped left l d (next_within left (drop r right) l next))

pub next_right : (done left right all : List Hit) (l r : ℕ) (d : Hit)
    → done ++ in_order (drop l left ++ drop r right) ≡ all
    → IsNext (drop r right) (drop l left)
    → (done ++ get_or right r d ∷ []) ++ in_order (drop l left ++ drop (r + 1) right) ≡ all
next_right done left right all l r d e next =
    ap (λ (rest : List Hit). (done ++ get_or right r d ∷ []) ++ in_order (drop l left ++ rest))
    (sym (drop_next right r))
    ∙ taken_right done (drop l left) (drop r right) all (get_or right r d) e next
    (first_dropped right r d (next_within right (drop l left) r next))

-- ---- what a comparison tells

compared : (o p : Ordering) → partial_ordering_then (Some o) (Some p) ≡ Some (ordering_then o p)
compared Less p = refl
compared Equal p = refl
compared Greater p = refl

-- whether one hit is at most another, by the derived comparison
abbrev pub is_at_most : Hit → Hit → Bool
is_at_most a b = is_some_and is_le (partial_ordering_then (Some (nat_cmp a.distance b.distance))
    (Some (int_cmp a.label b.label)))

at_most : (a b : Hit) → is_at_most a b ≡ is_le (hit_cmp a b)
at_most a b = ap (is_some_and is_le) (compared (nat_cmp a.distance b.distance) (int_cmp a.label b.label))

le_told : (o : Ordering) → is_le o ≡ true → is_gt o ≡ false
le_told Less e = refl
le_told Equal e = refl
le_told Greater e = absurd (true≢false (sym e))

gt_told : (o : Ordering) → is_le o ≡ false → is_gt o ≡ true
gt_told Less e = absurd (true≢false e)
gt_told Equal e = absurd (true≢false e)
gt_told Greater e = refl

pub at_most_told : (a b : Hit) → is_at_most a b ≡ true → is_above a b ≡ false
unfolding is_above
at_most_told a b e = le_told (hit_cmp a b) (sym (at_most a b) ∙ e)

pub above_told : (a b : Hit) → is_at_most a b ≡ false → is_above b a ≡ false
unfolding is_above
above_told a b e = is_above-flip a b (gt_told (hit_cmp a b) (sym (at_most a b) ∙ e))
