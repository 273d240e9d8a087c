-- What is met with so many flips, and when the answer is certain.
use Rattle.std.proofs.Common.{◌≡◌, ℕ, zero, suc, ◌+◌, ◌-◌, ◌*◌, ◌<◌, ◌≤◌, Bool, true}
use Rattle.std.proofs.Common.{false, ◌||◌, nat_abs, nat_eq, nat_le}
use Rattle.std.proofs.Common.{nat_lt, List, [], length, map, take, get_or, refl, sym, ap, ◌∙◌, arith}
use Rattle.std.proofs.Common.{inl, inr, true≢false}
use Rattle.std.specs.List.{filter, list_any, range_with_len}
use Rattle.std.proofs.lemmas.Bool.{cases_lt, le-leb}
use Rattle.std.proofs.lemmas.Bool.Decides.{nat_tests}
use Rattle.std.proofs.lemmas.List.Sums.{list_all-from_AllPass}
use Rattle.bcodes.specs.Bits.{dist_between}
use Rattle.bcodes.specs.Hits.{in_order}
use Rattle.bcodes.specs.Value.{Row, MultiValue, Multi, Bare, IsLegalMulti, numbered}
use Rattle.bcodes.specs.Answers.{best, hit_of, hits, is_probed_multi, looked, scan_best, some_chunk_near}
use Rattle.bcodes.specs.Marks.{is_full_below, search_mark}
use Rattle.bcodes.proofs.BitLemmas.{differing-le}
use Rattle.bcodes.proofs.MarkLemmas.{search_mark_is}
use Rattle.bcodes.proofs.MarkedLemmas.{marked_best}
use Rattle.bcodes.proofs.PigeonholeLemmas.{chunk_is}
use Rattle.multi_hash.specs.Seen.{row_at}
use Rattle.growing_probe.specs.declared.found.Found.{Found}
use Rattle.growing_probe.specs.Grown.{flipped, grown}
use Rattle.growing_probe.specs.Met.{some_chunk_at, is_seen, met_rows, chunk_dist, IsFound}
use Rattle.growing_probe.proofs.AnyLemmas.{any_either, any_more, any_none}
use Rattle.growing_probe.proofs.GrownLemmas.{grown_is}
use Rattle.growing_probe.proofs.RowLemmas.{All-rows, filter_same}

-- ---- chunks that differ in few bits

-- some chunk of the code at a position differs from the query in fewer bits
abbrev pub is_within : MultiValue → List ℕ → ℕ → ℕ → Bool
is_within v q flips p = list_any (λ i. nat_lt (chunk_dist v q i p) flips) (range_with_len 0 v.nhash)

pub within_none : (v : MultiValue) (q : List ℕ) (p : ℕ) → is_within v q 0 p ≡ false
within_none v q p = any_none (λ i. nat_lt (chunk_dist v q i p) 0) (λ i. none (chunk_dist v q i p))
    (range_with_len 0 v.nhash)
  where
    none : (n : ℕ) → nat_lt n 0 ≡ false
    none n = grind (arith, nat_tests)

pub within_more : (v : MultiValue) (q : List ℕ) (flips p : ℕ)
    → (is_within v q flips p || some_chunk_at v q flips v.nhash p) ≡ is_within v q (flips + 1) p
within_more v q flips p =
    any_either (λ i. nat_lt (chunk_dist v q i p) flips) (λ i. nat_eq (chunk_dist v q i p) flips)
    (λ i. nat_lt (chunk_dist v q i p) (flips + 1)) (λ i. one_more (chunk_dist v q i p) flips)
    (range_with_len 0 v.nhash)
  where
    one_more : (n flips : ℕ) → (nat_lt n flips || nat_eq n flips) ≡ nat_lt n (flips + 1)
    one_more n flips = grind (arith, nat_tests)

chunks_within : (x q : List ℕ) (b flips n : ℕ)
    → list_any (λ i. nat_lt (dist_between x q (i * b) (i * b + b)) (flips + 1)) (range_with_len 0 n)
    ≡ some_chunk_near x q b flips n
chunks_within x q b flips zero = refl
chunks_within x q b flips (suc n) =
    let test : ℕ → Bool = λ i. nat_lt (dist_between x q (i * b) (i * b + b)) (flips + 1) in
    let next : suc n ≡ n + 1 = omega arith in
    ap (λ (m : ℕ). list_any test (range_with_len 0 m)) next ∙ any_more test n
    ∙ ap (λ (s : Bool). s || test n) (chunks_within x q b flips n)
    ∙ ap (λ (s : Bool). some_chunk_near x q b flips n || s) (at_most (dist_between x q (n * b) (n * b + b)) flips)
  where
    at_most : (m flips : ℕ) → nat_lt m (flips + 1) ≡ nat_le m flips
    at_most m flips = grind (arith, nat_tests)

-- so a position is met by its rounds where its row is probed
pub within_probed : (v : MultiValue) (q : List ℕ) (flips p : ℕ)
    → is_within v q (flips + 1) p ≡ is_probed_multi (record v { nflip = flips }) q (row_at v.codes p)
within_probed v q flips p = chunks_within (get_or v.codes p []) q v.b flips v.nhash

-- ---- all bits flipped

last_chunk : (x q : List ℕ) (b n : ℕ) → 1 ≤ n → some_chunk_near x q b b n ≡ true
last_chunk x q b zero h = absurd (omega arith)
last_chunk x q b (suc n) h =
    ap (λ (s : Bool). some_chunk_near x q b b n || s)
    (le-leb (dist_between x q (n * b) (n * b + b)) b (omega (arith, chunk_is x q n b, differing-le x q (n * b) b)))
    ∙ or_true (some_chunk_near x q b b n)
  where
    or_true : (s : Bool) → (s || true) ≡ true
    or_true true = refl
    or_true false = refl

pub last_mark : (v : MultiValue) (q : List ℕ) (k : ℕ) → IsLegalMulti v
    → search_mark (flipped v v.b) q k ≡ true
last_mark v q k legal =
    let test : Row → Bool = is_probed_multi (record v { nflip = v.b }) q in
    ap (λ (s : Bool). s || is_full_below (best (flipped v v.b) q k) k (v.nhash * (v.b + 1)))
    (list_all-from_AllPass test (numbered 0 v.codes)
    (λ i d low. last_chunk (get_or (numbered 0 v.codes) i d).code q v.b v.nhash legal.nhash_least))

-- ---- the answer

pub legal_flipped : (v : MultiValue) (flips : ℕ) → IsLegalMulti v → flips ≤ v.b
    → IsLegalMulti (record v { nflip = flips })
legal_flipped v flips legal low = record {
  dim = legal.dim;
  nhash_least = legal.nhash_least;
  nhash_most = legal.nhash_most;
  b_least = legal.b_least;
  b_most = legal.b_most;
  within = legal.within;
  nflip = low;
  codes = legal.codes;
  load = legal.load;
}

scan_same : (v : MultiValue) (flips : ℕ) (q : List ℕ) (k : ℕ)
    → scan_best (flipped v flips) q k ≡ scan_best (Bare (Multi v)) q k
unfolding scan_best
scan_same v flips q k = refl

pub certain_best : (v : MultiValue) (flips : ℕ) (q : List ℕ) (k : ℕ) → IsLegalMulti v → flips ≤ v.b
    → search_mark (flipped v flips) q k ≡ true → best (flipped v flips) q k ≡ scan_best (Bare (Multi v)) q k
certain_best v flips q k legal low mark =
    marked_best (flipped v flips) q k (legal_flipped v flips legal low) mark ∙ scan_same v flips q k

module _ (v : MultiValue) (q : List ℕ) (k flips : ℕ) (found : Found) (h : IsFound v q k found)
    (met : (p : ℕ) → p < length v.codes
    → is_seen found.seen p ≡ is_probed_multi (record v { nflip = flips }) q (row_at v.codes p)) where
  rows_are : met_rows v.codes found.seen
      ≡ filter (is_probed_multi (record v { nflip = flips }) q) (numbered 0 v.codes)
  rows_are =
      filter_same (λ row. is_seen found.seen (nat_abs row.label)) (is_probed_multi (record v { nflip = flips }) q)
      (numbered 0 v.codes)
      (All-rows (λ row. is_seen found.seen (nat_abs row.label) ≡ is_probed_multi (record v { nflip = flips }) q row)
      v.codes met)

  pub best_is : found.best.items ≡ best (flipped v flips) q k
  unfolding best hits
  best_is = h.kept ∙ ap (λ (rows : List Row). take k (in_order (map (hit_of q) rows))) rows_are

  pub looked_is : found.met ≡ looked (flipped v flips) q
  unfolding looked
  looked_is = omega (arith, h.met, ap length rows_are)

  pub mark_is : search_mark (flipped v flips) q k
      ≡ (nat_eq found.met (length v.codes) || is_full_below found.best.items k (v.nhash * (flips + 1)))
  mark_is =
      let all : found.met - 0 ≡ found.met = omega arith in
      search_mark_is (flipped v flips) q found.met 0 (length v.codes) (v.nhash * (flips + 1)) k found.best.items
      (record { lent = looked_is; fixed = refl; count = refl; bound = refl }) best_is
      ∙ ap (λ (n : ℕ). nat_eq n (length v.codes) || is_full_below found.best.items k (v.nhash * (flips + 1))) all

-- ---- a round

module _ (v : MultiValue) (q : List ℕ) (k flips : ℕ) (found : Found) (h : IsFound v q k found)
    (within : (p : ℕ) → p < length v.codes → is_seen found.seen p ≡ is_within v q (flips + 1) p)
    (certain : Bool)
    (test : certain ≡ (nat_eq found.met (length v.codes) || is_full_below found.best.items k (v.nhash * (flips + 1))))
    (before : (i : ℕ) → i < flips → search_mark (flipped v i) q k ≡ false) where
  pub round_mark : search_mark (flipped v flips) q k ≡ certain
  round_mark =
      mark_is v q k flips found h (λ p low. within p low ∙ within_probed v q flips p) ∙ sym test

  pub round_more : certain ≡ false → (i : ℕ) → i < flips + 1 → search_mark (flipped v i) q k ≡ false
  round_more e i low =
      elim (cases_lt i flips) [
        | inl less ↦ before i less
        | inr last ↦ let same : i ≡ flips = omega arith in
            ap (λ (n : ℕ). search_mark (flipped v n) q k) same ∙ round_mark ∙ e
      ]

  pub round_last : certain ≡ true → flips ≤ v.b → grown v q k ≡ flips
  round_last e most = grown_is v q k flips most before (round_mark ∙ e)

  -- the round with all bits flipped is the last
  pub round_end : certain ≡ false → flips ≡ v.b → ⊥
  round_end e same =
      true≢false (sym (last_mark v q k h.legal) ∙ ap (λ (n : ℕ). search_mark (flipped v n) q k) (sym same)
      ∙ round_mark ∙ e)
