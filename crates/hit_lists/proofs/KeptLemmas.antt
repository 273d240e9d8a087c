-- Lemmas on the first k hits, as a table without order keeps them.
use Rattle.std.proofs.Common.{◌≡◌, ℕ, zero, suc, ◌-◌, ◌<◌, ◌≤◌, ◌⊎◌, inl, inr, false, List, [], ◌∷◌, ◌++◌, length}
use Rattle.std.proofs.Common.{get_or, set, take, refl, sym, ap, ◌∙◌, arith, get_or-set_same, get_or-set_other}
use Rattle.std.proofs.Common.{length-set, append_assoc}
use Rattle.std.specs.declared.cmp.Ordering.{Ordering}
use Rattle.std.specs.declared.cmp.Ordering.TheVariants.{Less, Equal, Greater}
use Rattle.std.specs.Ordering.{nat_cmp, int_cmp, is_gt, ordering_then, MatchOrdering}
use Rattle.std.specs.Cmp.{ranks}
use Rattle.std.proofs.lemmas.Bool.{cases_Bool, cases_eq}
use Rattle.std.proofs.lemmas.List.{append-nil, take_all}
use Rattle.bcodes.specs.declared.hit.Hit.{Hit}
use Rattle.bcodes.specs.Hits.{no_hit, is_above, insert_hit, in_order}
use Rattle.bcodes.proofs.OrderLemmas.{is_above-tie, Ascends, Ascends-in_order, in_order-in_order}
use Rattle.bcodes.proofs.OrderLemmas.{in_order-push, in_order-set, insert-none_below, length-in_order, best_append}

-- no hit of the list is above x
abbrev pub NoneAbove : Hit → List Hit → Type 0
NoneAbove x [] = Unit {0}
NoneAbove x (g ∷ gs) = (is_above g x ≡ false) × NoneAbove x gs

none_above-get : (x : Hit) (l : List Hit) → ((t : ℕ) → t < length l → is_above (get_or l t no_hit) x ≡ false)
    → NoneAbove x l
none_above-get x [] f = tt
none_above-get x (g ∷ gs) f = (f 0 (omega arith), none_above-get x gs (λ t h. f (suc t) (omega arith)))

none_above-insert : (x h : Hit) (l : List Hit) → is_above h x ≡ false → NoneAbove x l → NoneAbove x (insert_hit h l)
none_above-insert x h [] f n = (f, tt)
none_above-insert x h (g ∷ gs) f n =
    elim (cases_Bool (is_above h g)) [
      | inl p ↦ rw p (n.0, none_above-insert x h gs f n.1)
      | inr p ↦ rw p (f, n)
    ]

none_above-in_order : (x : Hit) (l : List Hit) → NoneAbove x l → NoneAbove x (in_order l)
none_above-in_order x [] n = tt
none_above-in_order x (g ∷ gs) n = none_above-insert x g (in_order gs) n.0 (none_above-in_order x gs n.1)

-- a hit that none is above comes last, and is cut
last_cut : (x : Hit) (l : List Hit) → Ascends l → NoneAbove x l → take (length l) (insert_hit x l) ≡ l
last_cut x [] s n = refl
last_cut x (g ∷ gs) s n =
    elim (cases_Bool (is_above x g)) [
      | inl p ↦ rw p (ap (λ (l : List Hit). g ∷ l) (last_cut x gs s.1 n.1))
      | inr p ↦ rw p
          (let same : x ≡ g = is_above-tie x g p n.0 in
          let tail : take (length gs) (g ∷ gs) ≡ gs = ap (take (length gs)) (sym (insert-none_below g gs s.0))
          ∙ ap (λ (y : Hit). take (length gs) (insert_hit y gs)) (sym same) ∙ last_cut x gs s.1 n.1 in
          ap (λ (y : Hit). y ∷ take (length gs) (g ∷ gs)) same ∙ ap (λ (l : List Hit). g ∷ l) tail)
    ]

offered : (h : Hit) (hits : List Hit) → in_order (h ∷ in_order hits) ≡ insert_hit h (in_order hits)
offered h hits = ap (insert_hit h) (in_order-in_order hits)

-- a hit that none of k kept hits is above is dropped
pub kept_same : (k : ℕ) (hits : List Hit) (h : Hit) → length hits ≡ k
    → ((t : ℕ) → t < length hits → is_above (get_or hits t no_hit) h ≡ false) → in_order hits ≡ take k
    (in_order (h ∷ in_order hits))
kept_same k hits h e below =
    sym
    (ap (take k) (offered h hits)
    ∙ ap (λ (n : ℕ). take n (insert_hit h (in_order hits))) (sym (length-in_order hits ∙ e))
    ∙ last_cut h (in_order hits) (Ascends-in_order hits) (none_above-in_order h hits (none_above-get h hits below)))

-- a hit that is not above the last of k kept hits takes its place
pub kept_replaced : (k : ℕ) (hits : List Hit) (o : ℕ) (h : Hit) → length hits ≡ k → o < length hits
    → ((t : ℕ) → t < length hits → is_above (get_or hits t no_hit) (get_or hits o no_hit) ≡ false)
    → is_above h (get_or hits o no_hit) ≡ false → in_order (set hits o h) ≡ take k (in_order (h ∷ in_order hits))
kept_replaced k hits o h e low last below =
    let x = get_or hits o no_hit in
    let long : length (set hits o h) ≡ length hits = length-set hits o h in
    let others : (t : ℕ) → t < length (set hits o h) → is_above (get_or (set hits o h) t no_hit) x ≡ false = λ t lo.
    elim (cases_eq t o) [
      | inl p ↦ ap (λ (k : ℕ). is_above (get_or (set hits o h) k no_hit) x) p ∙ ap (λ (g : Hit). is_above g x)
          (get_or-set_same hits o h no_hit low) ∙ below
      | inr p ↦ ap (λ (g : Hit). is_above g x) (get_or-set_other hits o t h no_hit p) ∙ last t (omega arith)
    ] in
    sym
    (ap (take k) (offered h hits ∙ sym (in_order-set hits o h no_hit low))
    ∙ ap (λ (n : ℕ). take n (insert_hit x (in_order (set hits o h)))) (sym (length-in_order (set hits o h) ∙ long ∙ e))
    ∙ last_cut x (in_order (set hits o h)) (Ascends-in_order (set hits o h))
    (none_above-in_order x (set hits o h) (none_above-get x (set hits o h) others)))

-- a hit joins fewer than k
pub kept_added : (k : ℕ) (hits : List Hit) (h : Hit) → length hits < k → in_order (hits ++ h ∷ []) ≡ take k
    (in_order (h ∷ in_order hits))
kept_added k hits h few =
    in_order-push hits h ∙ sym (offered h hits)
    ∙ sym (take_all k (in_order (h ∷ in_order hits)) (let n = length-in_order (h ∷ in_order hits) in
    let m = length-in_order hits in omega arith))

-- hits that no kept hit is above are dropped
pub kept_all : (k : ℕ) (hits more : List Hit) → length hits ≡ k
    → ((s t : ℕ) → s < length hits → t < length more → is_above (get_or hits s no_hit) (get_or more t no_hit) ≡ false)
    → in_order hits ≡ take k (in_order (in_order hits ++ more))
kept_all k hits [] e below =
    sym
    (ap (λ (l : List Hit). take k (in_order l)) (append-nil (in_order hits)) ∙ ap (take k) (in_order-in_order hits)
    ∙ take_all k (in_order hits) (let n = length-in_order hits in omega arith))
kept_all k hits (h ∷ more) e below =
    let kept = in_order hits in
    let dropped : take k (in_order (kept ++ h ∷ [])) ≡ take k (in_order kept) =
    ap (take k) (in_order-push kept h) ∙ sym (kept_same k hits h e (λ s low. below s 0 low (omega arith)))
    ∙ sym (ap (take k) (in_order-in_order hits) ∙ take_all k kept (let n = length-in_order hits in omega arith)) in
    kept_all k hits more e (λ s t low high. below s (suc t) low (omega arith))
    ∙ sym (best_append k (kept ++ h ∷ []) kept more dropped)
    ∙ ap (λ (l : List Hit). take k (in_order l)) (append_assoc kept (h ∷ []) more)

-- ---- the distance of the last hit

abbrev AllWithin : ℕ → List Hit → Type 0
AllWithin d [] = Unit {0}
AllWithin d (g ∷ gs) = (g.distance ≤ d) × AllWithin d gs

abbrev SomeAt : ℕ → List Hit → Type 0
SomeAt d [] = ⊥
SomeAt d (g ∷ gs) = (g.distance ≡ d) ⊎ SomeAt d gs

within-get : (d : ℕ) (l : List Hit) → ((t : ℕ) → t < length l → (get_or l t no_hit).distance ≤ d) → AllWithin d l
within-get d [] f = tt
within-get d (g ∷ gs) f = (f 0 (omega arith), within-get d gs (λ t h. f (suc t) (omega arith)))

within-insert : (d : ℕ) (h : Hit) (l : List Hit) → h.distance ≤ d → AllWithin d l → AllWithin d (insert_hit h l)
within-insert d h [] f n = (f, tt)
within-insert d h (g ∷ gs) f n =
    elim (cases_Bool (is_above h g)) [
      | inl p ↦ rw p (n.0, within-insert d h gs f n.1)
      | inr p ↦ rw p (f, n)
    ]

within-in_order : (d : ℕ) (l : List Hit) → AllWithin d l → AllWithin d (in_order l)
within-in_order d [] n = tt
within-in_order d (g ∷ gs) n = within-insert d g (in_order gs) n.0 (within-in_order d gs n.1)

some-get : (d : ℕ) (l : List Hit) (t : ℕ) → t < length l → (get_or l t no_hit).distance ≡ d → SomeAt d l
some-get d [] t lo e = absurd (omega arith)
some-get d (g ∷ gs) zero lo e = inl e
some-get d (g ∷ gs) (suc t) lo e = inr (some-get d gs t (omega arith) e)

some-insert : (d : ℕ) (h : Hit) (l : List Hit) → (h.distance ≡ d) ⊎ SomeAt d l → SomeAt d (insert_hit h l)
some-insert d h [] s = s
some-insert d h (g ∷ gs) s =
    elim (cases_Bool (is_above h g)) [
      | inl p ↦ rw p (elim s [
        | inl e ↦ inr (some-insert d h gs (inl e))
        | inr r ↦ elim r [ inl e ↦ inl e | inr q ↦ inr (some-insert d h gs (inr q)) ]
      ])
      | inr p ↦ rw p s
    ]

some-in_order : (d : ℕ) (l : List Hit) → SomeAt d l → SomeAt d (in_order l)
some-in_order d [] s = s
some-in_order d (g ∷ gs) s = some-insert d g (in_order gs)
    (elim s [ inl e ↦ inl e | inr r ↦ inr (some-in_order d gs r) ])

rises : (a b : ℕ) (o p : Ordering) → MatchOrdering o (a < b) (a ≡ b) (b < a) → is_gt (ordering_then o p) ≡ false → a ≤ b
rises a b Less p m h = omega arith
rises a b Equal p m h = omega arith
rises a b Greater p m h = cc

not_below : (a b : Hit) → is_above a b ≡ false → a.distance ≤ b.distance
unfolding is_above
not_below a b h = rises a.distance b.distance (nat_cmp a.distance b.distance) (int_cmp a.label b.label)
    (ranks a.distance b.distance) h

last_of : (d n : ℕ) (l : List Hit) → length l ≡ suc n → Ascends l → AllWithin d l → SomeAt d l
    → (get_or l n no_hit).distance ≡ d
last_of d n [] e s a some = absurd some
last_of d zero (x ∷ []) e s a (inl h) = h
last_of d zero (x ∷ []) e s a (inr h) = absurd h
last_of d (suc n) (x ∷ []) e s a some = absurd (omega arith)
last_of d zero (x ∷ y ∷ ys) e s a some = absurd (omega arith)
last_of d (suc n) (x ∷ y ∷ ys) e s a (inl h) =
    let up : x.distance ≤ y.distance = not_below x y s.0.0 in
    last_of d n (y ∷ ys) (omega arith) s.1 a.1 (inl (let k : y.distance ≤ d = a.1.0 in omega arith))
last_of d (suc n) (x ∷ y ∷ ys) e s a (inr r) = last_of d n (y ∷ ys) (omega arith) s.1 a.1 r

-- where no kept hit is past d, and one is at d, the last is
pub last_at : (k d : ℕ) (hits : List Hit) (t : ℕ) → length hits ≡ k
    → ((s : ℕ) → s < length hits → (get_or hits s no_hit).distance ≤ d) → t < length hits
    → (get_or hits t no_hit).distance ≡ d
    → (get_or (in_order hits) (k - 1) no_hit).distance ≡ d
last_at k d hits t e within low at =
    last_of d (k - 1) (in_order hits) (let n = length-in_order hits in omega arith) (Ascends-in_order hits)
    (within-in_order d hits (within-get d hits within)) (some-in_order d hits (some-get d hits t low at))
