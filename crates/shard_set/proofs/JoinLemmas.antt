-- The answer of some shards with one more.
use Rattle.std.proofs.Common.{◌≡◌, ℕ, ◌+◌, ◌≤◌, ℤ, pos, ◌+ℤ◌, ◌<ℤ◌, Bool, false, List}
use Rattle.std.proofs.Common.{[], ◌∷◌, ◌++◌, length}
use Rattle.std.proofs.Common.{take, map, nat_lt, refl, sym, ap, ◌∙◌, arith, inl, inr, append_assoc, true≢false}
use Rattle.std.specs.declared.cmp.Ordering.{Ordering}
use Rattle.std.specs.declared.cmp.Ordering.TheVariants.{Less, Equal, Greater}
use Rattle.std.specs.Ordering.{nat_cmp, int_cmp, is_gt, ordering_then, MatchOrdering}
use Rattle.std.specs.Cmp.{int_cmp_is, int_ranks}
use Rattle.std.specs.List.{filter}
use Rattle.std.proofs.lemmas.Int.{ints}
use Rattle.std.proofs.lemmas.List.{append-nil, map-append, take-map, take_all, length-append, length-take, length-map}
use Rattle.std.proofs.lemmas.List.Elements.{filter-append}
use Rattle.std.proofs.lemmas.List.Sums.{sum_by-cons}
use Rattle.std.proofs.lemmas.List.Sorted.{IsPermutation-append}
use Rattle.bcodes.specs.declared.hit.Hit.{Hit}
use Rattle.bcodes.specs.Hits.{is_above, insert_hit, in_order}
use Rattle.bcodes.specs.Settings.{needs_ids}
use Rattle.bcodes.specs.Value.{Row, IndexValue, Bare, IdMap, count_of}
use Rattle.bcodes.specs.Answers.{best, within, hits, hit_of, looked, probed_rows}
use Rattle.bcodes.proofs.LegalLemmas.{length-filter-le, looked-le}
use Rattle.bcodes.proofs.OrderLemmas.{either, best_append, best-best, filter-in_order, in_order-in_order, in_order-take}
use Rattle.bcodes.proofs.OrderLemmas.{in_order-permutation, in_order_permutes, length-in_order}
use Rattle.shard_set.specs.Joined.{moved, moved_hit, joined_rows, joined_hits, joined_best, joined_within, joined_count}
use Rattle.shard_set.proofs.MergeLemmas.{in_order-append_comm}

-- ---- labels that move together keep their order

rank_moved : (x y : ℤ) (n : ℕ) (o : Ordering) → MatchOrdering o (x <ℤ y) (x ≡ y) (y <ℤ x)
    → MatchOrdering o ((x +ℤ pos n) <ℤ (y +ℤ pos n)) ((x +ℤ pos n) ≡ (y +ℤ pos n))
    ((y +ℤ pos n) <ℤ (x +ℤ pos n))
rank_moved x y n Less m = omega (arith, ints)
rank_moved x y n Equal m = ap (λ (z : ℤ). z +ℤ pos n) m
rank_moved x y n Greater m = omega (arith, ints)

cmp_moved : (x y : ℤ) (n : ℕ) → int_cmp (x +ℤ pos n) (y +ℤ pos n) ≡ int_cmp x y
cmp_moved x y n = sym (int_cmp_is (x +ℤ pos n) (y +ℤ pos n) (int_cmp x y)
    (rank_moved x y n (int_cmp x y) (int_ranks x y)))

is_above-moved : (n : ℕ) (a b : Hit) → is_above (moved_hit n a) (moved_hit n b) ≡ is_above a b
unfolding is_above
is_above-moved n a b = ap (λ (o : Ordering). is_gt (ordering_then (nat_cmp a.distance b.distance) o))
    (cmp_moved a.label b.label n)

insert-moved : (n : ℕ) (h : Hit) (l : List Hit)
    → insert_hit (moved_hit n h) (map (moved_hit n) l) ≡ map (moved_hit n) (insert_hit h l)
insert-moved n h [] = refl
insert-moved n h (g ∷ gs) =
    elim (either (is_above h g)) [
      | inl p ↦ rw (is_above-moved n h g, p) (ap (λ (l : List Hit). moved_hit n g ∷ l) (insert-moved n h gs))
      | inr p ↦ rw (is_above-moved n h g, p) refl
    ]

in_order-moved : (n : ℕ) (l : List Hit) → in_order (map (moved_hit n) l) ≡ map (moved_hit n) (in_order l)
in_order-moved n [] = refl
in_order-moved n (h ∷ l) = ap (insert_hit (moved_hit n h)) (in_order-moved n l) ∙ insert-moved n h (in_order l)

pub moved_in_order : (n : ℕ) (l : List Hit) → in_order l ≡ l
    → in_order (map (moved_hit n) l) ≡ map (moved_hit n) l
moved_in_order n l e = in_order-moved n l ∙ ap (map (moved_hit n)) e

filter-moved : (n radius : ℕ) (l : List Hit) → filter (λ (h : Hit). nat_lt h.distance radius) (map (moved_hit n) l)
    ≡ map (moved_hit n) (filter (λ (h : Hit). nat_lt h.distance radius) l)
filter-moved n radius [] = refl
filter-moved n radius (h ∷ l) =
    elim (either (nat_lt h.distance radius)) [
      | inl p ↦ rw p (ap (λ (l : List Hit). moved_hit n h ∷ l) (filter-moved n radius l))
      | inr p ↦ rw p (filter-moved n radius l)
    ]

-- ---- the rows of one more shard

moved_label : (x : ℤ) (m n : ℕ) → (x +ℤ pos n) +ℤ pos m ≡ x +ℤ pos (m + n)
moved_label x m n = omega (arith, ints)

moved_twice : (m n : ℕ) (rows : List Row) → map (moved m) (map (moved n) rows) ≡ map (moved (m + n)) rows
moved_twice m n [] = refl
moved_twice m n (row ∷ rows) =
    ap (λ (x : ℤ). record { label = x; code = row.code } ∷ map (moved m) (map (moved n) rows))
    (moved_label row.label m n)
    ∙ ap (λ (rs : List Row). moved (m + n) row ∷ rs) (moved_twice m n rows)

label_stays : (x : ℤ) → x +ℤ pos 0 ≡ x
label_stays x = omega (arith, ints)

moved_none : (rows : List Row) → map (moved 0) rows ≡ rows
moved_none [] = refl
moved_none (row ∷ rows) =
    ap (λ (x : ℤ). record { label = x; code = row.code } ∷ map (moved 0) rows) (label_stays row.label)
    ∙ ap (λ (rs : List Row). row ∷ rs) (moved_none rows)

joined_rows-push : (vs : List IndexValue) (v : IndexValue) (q : List ℕ)
    → joined_rows (vs ++ v ∷ []) q ≡ joined_rows vs q ++ map (moved (joined_count vs)) (probed_rows v q)
joined_rows-push [] v q = append-nil (probed_rows v q) ∙ sym (moved_none (probed_rows v q))
joined_rows-push (w ∷ vs) v q =
    ap (λ (rs : List Row). probed_rows w q ++ map (moved (count_of w)) rs) (joined_rows-push vs v q)
    ∙ ap (λ (rs : List Row). probed_rows w q ++ rs)
    (map-append (moved (count_of w)) (joined_rows vs q) (map (moved (joined_count vs)) (probed_rows v q))
    ∙ ap (λ (rs : List Row). map (moved (count_of w)) (joined_rows vs q) ++ rs)
    (moved_twice (count_of w) (joined_count vs) (probed_rows v q)
    ∙ ap (λ (n : ℕ). map (moved n) (probed_rows v q)) (sym (sum_by-cons count_of w vs))))
    ∙ sym (append_assoc (probed_rows w q) (map (moved (count_of w)) (joined_rows vs q))
    (map (moved (joined_count (w ∷ vs))) (probed_rows v q)))

hits_moved : (q : List ℕ) (n : ℕ) (rows : List Row)
    → map (hit_of q) (map (moved n) rows) ≡ map (moved_hit n) (map (hit_of q) rows)
hits_moved q n [] = refl
hits_moved q n (row ∷ rows) = ap (λ (hs : List Hit). moved_hit n (hit_of q row) ∷ hs) (hits_moved q n rows)

-- the hits of some shards and those of one more, out of order
abbrev plain : List IndexValue → List ℕ → List Hit
plain vs q = map (hit_of q) (joined_rows vs q)

plain-push : (vs : List IndexValue) (v : IndexValue) (q : List ℕ)
    → plain vs q ++ map (moved_hit (joined_count vs)) (map (hit_of q) (probed_rows v q)) ≡ plain (vs ++ v ∷ []) q
plain-push vs v q =
    ap (λ (hs : List Hit). plain vs q ++ hs) (sym (hits_moved q (joined_count vs) (probed_rows v q)))
    ∙ sym (map-append (hit_of q) (joined_rows vs q) (map (moved (joined_count vs)) (probed_rows v q)))
    ∙ ap (map (hit_of q)) (sym (joined_rows-push vs v q))

-- ---- the answers of one more shard

-- the first k of all stand among the first k of each part
best_parts : (k : ℕ) (xs ys : List Hit)
    → take k (in_order (take k (in_order xs) ++ take k (in_order ys))) ≡ take k (in_order (xs ++ ys))
best_parts k xs ys =
    best_append k (take k (in_order xs)) xs (take k (in_order ys)) (best-best k xs)
    ∙ ap (take k) (in_order-append_comm xs (take k (in_order ys)))
    ∙ best_append k (take k (in_order ys)) ys xs (best-best k ys)
    ∙ ap (take k) (in_order-append_comm ys xs)

whole_parts : (xs ys : List Hit) → in_order (in_order xs ++ in_order ys) ≡ in_order (xs ++ ys)
whole_parts xs ys = in_order-permutation (xs ++ ys) (in_order xs ++ in_order ys)
    (IsPermutation-append xs (in_order xs) ys (in_order ys) (in_order_permutes xs) (in_order_permutes ys))

best_bare : (v : IndexValue) (q : List ℕ) (k : ℕ) → needs_ids v ≡ false
    → best v q k ≡ take k (in_order (map (hit_of q) (probed_rows v q)))
unfolding best hits
best_bare (Bare v) q k bare = refl
best_bare (IdMap name v ids) q k bare = absurd (true≢false bare)

within_bare : (v : IndexValue) (q : List ℕ) (radius : ℕ) → needs_ids v ≡ false
    → within v q radius ≡ filter (λ (h : Hit). nat_lt h.distance radius)
    (in_order (map (hit_of q) (probed_rows v q)))
unfolding within hits
within_bare (Bare v) q radius bare = refl
within_bare (IdMap name v ids) q radius bare = absurd (true≢false bare)

pub joined_best-push : (vs : List IndexValue) (v : IndexValue) (q : List ℕ) (k : ℕ) → needs_ids v ≡ false
    → take k (in_order (joined_best vs q k ++ map (moved_hit (joined_count vs)) (best v q k)))
    ≡ joined_best (vs ++ v ∷ []) q k
unfolding joined_best joined_hits
joined_best-push vs v q k bare =
    let n = joined_count vs in
    let found : List Hit = map (hit_of q) (probed_rows v q) in
    let answer : map (moved_hit n) (best v q k) ≡ take k (in_order (map (moved_hit n) found)) =
    ap (map (moved_hit n)) (best_bare v q k bare) ∙ sym (take-map (moved_hit n) k (in_order found))
    ∙ ap (take k) (sym (in_order-moved n found)) in
    ap (λ (hs : List Hit). take k (in_order (take k (in_order (plain vs q)) ++ hs))) answer
    ∙ best_parts k (plain vs q) (map (moved_hit n) found)
    ∙ ap (λ (hs : List Hit). take k (in_order hs)) (plain-push vs v q)

pub joined_within-push : (vs : List IndexValue) (v : IndexValue) (q : List ℕ) (radius : ℕ) → needs_ids v ≡ false
    → in_order (joined_within vs q radius ++ map (moved_hit (joined_count vs)) (within v q radius))
    ≡ joined_within (vs ++ v ∷ []) q radius
unfolding joined_within joined_hits
joined_within-push vs v q radius bare =
    let n = joined_count vs in
    let near : Hit → Bool = λ (h : Hit). nat_lt h.distance radius in
    let found : List Hit = map (hit_of q) (probed_rows v q) in
    let answer : map (moved_hit n) (within v q radius) ≡ in_order (filter near (map (moved_hit n) found)) =
    ap (map (moved_hit n)) (within_bare v q radius bare) ∙ sym (filter-moved n radius (in_order found))
    ∙ ap (filter near) (sym (in_order-moved n found)) ∙ filter-in_order near (map (moved_hit n) found) in
    ap (λ (hs : List Hit). in_order (filter near (in_order (plain vs q)) ++ hs)) answer
    ∙ ap (λ (hs : List Hit). in_order (hs ++ in_order (filter near (map (moved_hit n) found))))
    (filter-in_order near (plain vs q))
    ∙ whole_parts (filter near (plain vs q)) (filter near (map (moved_hit n) found))
    ∙ ap in_order (sym (filter-append near (plain vs q) (map (moved_hit n) found)))
    ∙ sym (filter-in_order near (plain vs q ++ map (moved_hit n) found))
    ∙ ap (λ (hs : List Hit). filter near (in_order hs)) (plain-push vs v q)

-- ---- answers are in order

pub joined_best_in_order : (vs : List IndexValue) (q : List ℕ) (k : ℕ)
    → in_order (joined_best vs q k) ≡ joined_best vs q k
unfolding joined_best joined_hits
joined_best_in_order vs q k = in_order-take k (plain vs q)

pub joined_within_in_order : (vs : List IndexValue) (q : List ℕ) (radius : ℕ)
    → in_order (joined_within vs q radius) ≡ joined_within vs q radius
unfolding joined_within joined_hits
joined_within_in_order vs q radius =
    let near : Hit → Bool = λ (h : Hit). nat_lt h.distance radius in
    ap in_order (filter-in_order near (plain vs q)) ∙ in_order-in_order (filter near (plain vs q))
    ∙ sym (filter-in_order near (plain vs q))

pub best_in_order : (v : IndexValue) (q : List ℕ) (k : ℕ) → needs_ids v ≡ false
    → in_order (best v q k) ≡ best v q k
best_in_order v q k bare =
    ap in_order (best_bare v q k bare) ∙ in_order-take k (map (hit_of q) (probed_rows v q))
    ∙ sym (best_bare v q k bare)

pub within_in_order : (v : IndexValue) (q : List ℕ) (radius : ℕ) → needs_ids v ≡ false
    → in_order (within v q radius) ≡ within v q radius
within_in_order v q radius bare =
    let near : Hit → Bool = λ (h : Hit). nat_lt h.distance radius in
    let found : List Hit = map (hit_of q) (probed_rows v q) in
    ap in_order (within_bare v q radius bare ∙ filter-in_order near found) ∙ in_order-in_order (filter near found)
    ∙ sym (within_bare v q radius bare ∙ filter-in_order near found)

pub length-joined_best : (vs : List IndexValue) (q : List ℕ) (k : ℕ) → length (joined_best vs q k) ≤ k
unfolding joined_best
length-joined_best vs q k = omega (arith, length-take k (joined_hits vs q))

probed-le : (v : IndexValue) (q : List ℕ) → length (probed_rows v q) ≤ count_of v
unfolding looked
probed-le v q = omega (arith, looked-le v q)

joined_rows-le : (vs : List IndexValue) (q : List ℕ) → length (joined_rows vs q) ≤ joined_count vs
joined_rows-le [] q = omega arith
joined_rows-le (v ∷ vs) q =
    let here = probed-le v q in
    let rest = joined_rows-le vs q in
    let parts = length-append (probed_rows v q) (map (moved (count_of v)) (joined_rows vs q)) in
    let same = length-map (joined_rows vs q) (moved (count_of v)) in
    omega (arith, here, rest, parts, same, sum_by-cons count_of v vs)

length-joined_within : (vs : List IndexValue) (q : List ℕ) (radius : ℕ)
    → length (joined_within vs q radius) ≤ joined_count vs
unfolding joined_within joined_hits
length-joined_within vs q radius = omega (
  arith,
  length-filter-le (λ (h : Hit). nat_lt h.distance radius) (in_order (plain vs q)),
  length-in_order (plain vs q),
  length-map (joined_rows vs q) (hit_of q),
  joined_rows-le vs q,
)

-- all hits of some shards with one more, which are within any number that the codes are within
pub joined_within-most : (vs : List IndexValue) (v : IndexValue) (q : List ℕ) (radius most : ℕ)
    → needs_ids v ≡ false
    → joined_count (vs ++ v ∷ []) ≤ most
    → take most (in_order (joined_within vs q radius ++ map (moved_hit (joined_count vs)) (within v q radius)))
    ≡ joined_within (vs ++ v ∷ []) q radius
joined_within-most vs v q radius most bare few =
    ap (take most) (joined_within-push vs v q radius bare)
    ∙ take_all most (joined_within (vs ++ v ∷ []) q radius)
    (omega (arith, few, length-joined_within (vs ++ v ∷ []) q radius))

pub joined_best_none : (q : List ℕ) (k : ℕ) → [] ≡ joined_best [] q k
unfolding joined_best joined_hits
joined_best_none q k = sym (take_all k [] (omega arith))

pub joined_within_none : (q : List ℕ) (radius : ℕ) → [] ≡ joined_within [] q radius
unfolding joined_within joined_hits
joined_within_none q radius = refl
