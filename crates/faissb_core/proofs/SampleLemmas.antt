-- Lemmas on the run of `sample`.
use Rattle.std.proofs.Common.{◌≡◌, ℕ, ℤ, suc, zero, ◌+◌, ◌*◌, ◌%◌, ◌^◌, ◌<◌, ◌≤◌, List, [], ◌∷◌, ◌++◌, map, length, cond, Bool, true, false, ◌||◌}
use Rattle.std.proofs.Common.{refl, ap, ◌∙◌, sym, arith}
use Rattle.std.proofs.Math.Nat.{add-mod-mod}
use Rattle.std.specs.List.{range_with_len, sum_by}
use Rattle.std.proofs.lemmas.List.{map-append}
use Rattle.std.proofs.lemmas.List.FromFn.{length-map-range_with_len, map-range_with_len_more}
use Rattle.std.proofs.lemmas.List.Sums.{sum_by-cons, sum_by_push}
use Rattle.bcodes.specs.Ranges.{load_limit}
use Rattle.bcodes.specs.Value.{IndexValue, count_of, labels_from, load_of}
use Rattle.bcodes.specs.Answers.{after_add, within, looked}
use Rattle.bcodes.proofs.FormLemmas.{codes-paired}
use Rattle.bcodes.proofs.NumberedLemmas.{length-labels_from}
use Rattle.bcodes.specs.Marks.{probes_all, range_mark}
use Rattle.faissb_core.specs.declared.sample.tally.Tally.{Tally}
use Rattle.faissb_core.specs.Machine.Sample.{codes_from, sample_code, sample_query, sample_queries, sample_value, sample_index, sample_tally, tallied}

-- a sum of which a part has wrapped
pub state_is : (seed x : ℕ) → (seed + x % 2 ^ 64) % 2 ^ 64 ≡ (seed + x) % 2 ^ 64
state_is seed x = add-mod-mod seed x (2 ^ 64)

-- the position of a query
pub position_is_small : (j count : ℕ) → j < 64 → count ≤ 1000000 → j * count ≤ 63000000
position_is_small j count low few = grind (arith)

-- ---- codes, piece by piece

pub range-append : (from m n : ℕ) → range_with_len from (m + n) ≡ range_with_len from m ++ range_with_len (from + m) n
range-append from zero n =
    let on : from + 0 ≡ from = omega arith in
    let none : 0 + n ≡ n = omega arith in
    rw (on, none) refl
range-append from (suc m) n =
    let on : from + suc m ≡ from + 1 + m = omega arith in
    let more : suc m + n ≡ suc (m + n) = omega arith in
    rw (on, more) (ap (λ (is : List ℕ). from ∷ is) (range-append (from + 1) m n))

pub codes-append : (seed held n : ℕ) → codes_from seed 0 (held + n) ≡ codes_from seed 0 held ++ codes_from seed held n
unfolding codes_from
codes-append seed held n =
    let on : 0 + held ≡ held = omega arith in
    ap (λ (is : List ℕ). map (sample_code seed) is) (range-append 0 held n)
    ∙ rw on (map-append (sample_code seed) (range_with_len 0 held) (range_with_len held n))

pub codes-none : (seed from : ℕ) → codes_from seed from 0 ≡ []
unfolding codes_from
codes-none seed from = refl

pub codes-more : (seed from n j : ℕ) → from + n ≡ j → codes_from seed from (n + 1) ≡ codes_from seed from n ++ sample_code seed j ∷ []
unfolding codes_from
codes-more seed from n j at = map-range_with_len_more (sample_code seed) from n j at

-- an index that holds some codes, after more were added
pub index-append : (held more : List (List ℕ)) (labels : List ℤ) → length labels ≡ length more
    → after_add (sample_value held) labels more ≡ sample_value (held ++ more)
unfolding after_add
index-append held more labels same = ap (λ (cs : List (List ℕ)). sample_value (held ++ cs)) (codes-paired labels more same)

pub index-more : (seed held n : ℕ) (labels : List ℤ) → length labels ≡ length (codes_from seed held n)
    → after_add (sample_index seed held) labels (codes_from seed held n) ≡ sample_index seed (held + n)
index-more seed held n labels same =
    index-append (codes_from seed 0 held) (codes_from seed held n) labels same
    ∙ ap (λ (cs : List (List ℕ)). sample_value cs) (sym (codes-append seed held n))

pub codes-length : (seed from n : ℕ) → length (codes_from seed from n) ≡ n
unfolding codes_from
codes-length seed from n = length-map-range_with_len (sample_code seed) from n

-- a million codes are within the limit on the load
pub index-light : (seed count : ℕ) → count ≤ 1000000 → load_of (sample_index seed count) ≤ load_limit
index-light seed count few = omega (arith, codes-length seed 0 count)

-- the same where codes were added without labels
pub index-added : (seed held n : ℕ) (v : IndexValue) (more : List (List ℕ)) → v ≡ sample_index seed held
    → more ≡ codes_from seed held n
    → after_add v (labels_from (count_of v) (length more)) more ≡ sample_index seed (held + n)
index-added seed held n v more is made =
    rw (is, made) (index-more seed held n
    (labels_from (count_of (sample_index seed held)) (length (codes_from seed held n)))
    (length-labels_from (count_of (sample_index seed held)) (length (codes_from seed held n))))

pub added-light : (seed held n : ℕ) (v : IndexValue) (more : List (List ℕ)) → v ≡ sample_index seed held
    → more ≡ codes_from seed held n → held + n ≤ 1000000
    → load_of (after_add v (labels_from (count_of v) (length more)) more) ≤ load_limit
added-light seed held n v more is made few =
    rw (index-added seed held n v more is made) (index-light seed (held + n) few)

-- ---- queries, one by one

pub queries-none : (seed count : ℕ) → sample_queries seed count 0 ≡ []
unfolding sample_queries
queries-none seed count = refl

pub queries-more : (seed count n : ℕ) → sample_queries seed count (n + 1) ≡ sample_queries seed count n ++ sample_query seed count n ∷ []
unfolding sample_queries
queries-more seed count n = map-range_with_len_more (sample_query seed count) 0 n n (omega arith)

pub bit-le : (b : Bool) → cond b 1 0 ≤ 1
bit-le true = omega arith
bit-le false = omega arith

-- one more query
pub tallied-push : (v : IndexValue) (queries : List (List ℕ)) (q : List ℕ) (sum one : Tally) → sum ≡ tallied v queries
    → one.hits ≡ length (within v q 8) → one.looked ≡ looked v q → one.exact ≡ cond (range_mark v q 8) 1 0
    → record { hits = sum.hits + one.hits; looked = sum.looked + one.looked; exact = sum.exact + one.exact }
    ≡ tallied v (queries ++ q ∷ [])
tallied-push v queries q sum one so_far hits looks exact =
    let of_hits : List ℕ → ℕ = λ (x : List ℕ). length (within v x 8) in
    let of_looked : List ℕ → ℕ = λ (x : List ℕ). looked v x in
    let of_exact : List ℕ → ℕ = λ (x : List ℕ). cond (range_mark v x 8) 1 0 in
    let all_hits : sum.hits + one.hits ≡ sum_by of_hits (queries ++ q ∷ [])
    = ap (λ (t : Tally). t.hits + one.hits) so_far ∙ ap (λ (n : ℕ). sum_by of_hits queries + n) hits
    ∙ sym (sum_by_push of_hits queries q) in
    let all_looked : sum.looked + one.looked ≡ sum_by of_looked (queries ++ q ∷ [])
    = ap (λ (t : Tally). t.looked + one.looked) so_far ∙ ap (λ (n : ℕ). sum_by of_looked queries + n) looks
    ∙ sym (sum_by_push of_looked queries q) in
    let all_exact : sum.exact + one.exact ≡ sum_by of_exact (queries ++ q ∷ [])
    = ap (λ (t : Tally). t.exact + one.exact) so_far ∙ ap (λ (n : ℕ). sum_by of_exact queries + n) exact
    ∙ sym (sum_by_push of_exact queries q) in
    rw (all_hits, all_looked, all_exact) refl

pub tallied-more : (v : IndexValue) (seed count n : ℕ) (sum one : Tally)
    → sum ≡ tallied v (sample_queries seed count n) → one.hits ≡ length (within v (sample_query seed count n) 8)
    → one.looked ≡ looked v (sample_query seed count n)
    → one.exact ≡ cond (range_mark v (sample_query seed count n) 8) 1 0
    → record { hits = sum.hits + one.hits; looked = sum.looked + one.looked; exact = sum.exact + one.exact }
    ≡ tallied v (sample_queries seed count (n + 1))
tallied-more v seed count n sum one so_far hits looks exact =
    tallied-push v (sample_queries seed count n) (sample_query seed count n) sum one so_far hits looks exact
    ∙ ap (λ (qs : List (List ℕ)). tallied v qs) (sym (queries-more seed count n))

pub tallied-none : (v : IndexValue) (seed count : ℕ) → record { hits = 0; looked = 0; exact = 0 } ≡ tallied v (sample_queries seed count 0)
tallied-none v seed count = rw (queries-none seed count) refl

-- ---- every answer is exact

sum_by-one : {X : Type 0} (f : X → ℕ) → (xs : List X) → ((x : X) → f x ≡ 1) → sum_by f xs ≡ length xs
sum_by-one f [] one = refl
sum_by-one f (x ∷ xs) one = sum_by-cons f x xs ∙ omega (arith, one x, sum_by-one f xs one)

queries-length : (seed count n : ℕ) → length (sample_queries seed count n) ≡ n
unfolding sample_queries
queries-length seed count n = length-map-range_with_len (sample_query seed count) 0 n

or_true : (b : Bool) → (b || true) ≡ true
or_true true = refl
or_true false = refl

marked : (held : List (List ℕ)) (q : List ℕ) → range_mark (sample_value held) q 8 ≡ true
marked held q = or_true (probes_all (sample_value held) q)

pub all_exact : (held queries : List (List ℕ)) → (tallied (sample_value held) queries).exact ≡ length queries
all_exact held queries = sum_by-one (λ (q : List ℕ). cond (range_mark (sample_value held) q 8) 1 0) queries
    (λ q. ap (λ (b : Bool). cond b 1 0) (marked held q))

pub sample_exact : (seed count : ℕ) → (sample_tally seed count).exact ≡ 64
sample_exact seed count = all_exact (codes_from seed 0 count) (sample_queries seed count 64) ∙ queries-length seed count 64
