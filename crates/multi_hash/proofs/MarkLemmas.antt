-- Lemmas on marks in pages of words.
use Rattle.std.proofs.Common.{◌≡◌, ℕ, zero, suc, ◌+◌, ◌*◌, ◌/◌, ◌%◌, ◌^◌, ◌<◌, ◌≤◌, ◌⊎◌, inl, inr, ◌≢◌, Bool, true}
use Rattle.std.proofs.Common.{false}
use Rattle.std.proofs.Common.{nat_eq, cond, Option, Some, None, List, [], ◌∷◌, ◌++◌, length, map, get_or, set}
use Rattle.std.proofs.Common.{replicate}
use Rattle.std.proofs.Common.{refl, sym, ap, ◌∙◌, arith, zero-add, bit_or, get_or-set_same, get_or-set_other, is_some}
use Rattle.std.specs.Int.{bit_at, w64}
use Rattle.std.specs.List.{range_with_len, count_by}
use Rattle.std.proofs.lemmas.Nat.Bits.{bit_at-zero, bit_at_set_same, bit_at_set_other}
use Rattle.std.proofs.lemmas.Bool.{ne_eqb, eq-eqb}
use Rattle.std.proofs.lemmas.Bool.Decides.{eqb_tells}
use Rattle.std.proofs.lemmas.List.{length-replicate, get_or_append_left, get_or_push, length_push, length-set}
use Rattle.std.proofs.lemmas.List.FromFn.{length-map-range_with_len, get_or-map-range_with_len}
use Rattle.std.proofs.lemmas.List.Sums.{sum_by-set, count_by-le-length}
use Rattle.std.proofs.lemmas.List.Folds.{sum_by-replicate}
use Rattle.std.proofs.lemmas.List.Elements.{All-push, All-set}
use Rattle.multi_hash.specs.Seen.{is_set, is_set_on, is_marked, marks_of, IsPaged, AreMarks}

-- ---- lists of truth values

pub map_same : (f g : ℕ → Bool) (a n : ℕ) → ((j : ℕ) → g j ≡ f j)
    → map g (range_with_len a n) ≡ map f (range_with_len a n)
map_same f g a zero h = refl
map_same f g a (suc n) h =
    ap (λ (t : Bool). t ∷ map g (range_with_len (a + 1) n)) (h a)
    ∙ ap (λ (ts : List Bool). f a ∷ ts) (map_same f g (a + 1) n h)

map_after : (f g : ℕ → Bool) (a n : ℕ) → ((j : ℕ) → a ≤ j → g j ≡ f j)
    → map g (range_with_len a n) ≡ map f (range_with_len a n)
map_after f g a zero h = refl
map_after f g a (suc n) h =
    ap (λ (t : Bool). t ∷ map g (range_with_len (a + 1) n)) (h a (omega arith))
    ∙ ap (λ (ts : List Bool). f a ∷ ts) (map_after f g (a + 1) n (λ j l. h j (omega arith)))

map_set : (f g : ℕ → Bool) (a n k : ℕ) → k < n → g (a + k) ≡ true → ((j : ℕ) → (j ≡ a + k → ⊥) → g j ≡ f j)
    → map g (range_with_len a n) ≡ set (map f (range_with_len a n)) k true
map_set f g a zero k h e others = absurd (omega arith)
map_set f g a (suc n) zero h e others =
    let at : a + 0 ≡ a = omega arith in
    ap (λ (t : Bool). t ∷ map g (range_with_len (a + 1) n)) (ap g (sym at) ∙ e)
    ∙ ap (λ (ts : List Bool). true ∷ ts) (map_after f g (a + 1) n (λ j l. others j (λ s. omega arith)))
map_set f g a (suc n) (suc k) h e others =
    let at : (a + 1) + k ≡ a + suc k = omega arith in
    ap (λ (t : Bool). t ∷ map g (range_with_len (a + 1) n)) (others a (λ s. omega arith))
    ∙ ap (λ (ts : List Bool). f a ∷ ts) (map_set f g (a + 1) n k (omega arith) (ap g at ∙ e)
    (λ j ne. others j (λ s. ne (omega arith))))

all_false : (f : ℕ → Bool) (a n : ℕ) → ((j : ℕ) → f j ≡ false) → map f (range_with_len a n) ≡ replicate n false
all_false f a zero h = refl
all_false f a (suc n) h =
    ap (λ (t : Bool). t ∷ map f (range_with_len (a + 1) n)) (h a)
    ∙ ap (λ (ts : List Bool). false ∷ ts) (all_false f (a + 1) n h)

-- ---- no pages

nothing : (p : ℕ) → None ≡ Some p → ⊥
nothing p e = cc

some_is : (m n : ℕ) → Some m ≡ Some n → m ≡ n
some_is m n e = cc

tells : (m n : ℕ) → (m ≡ n) ⊎ (m ≢ n)
tells m n = elim (eqb_tells m n) [ inl e ↦ inl e.1 | inr e ↦ inr e.1 ]

no_place : (m s : ℕ) → get_or {A = Option ℕ} (replicate m None) s None ≡ None
no_place zero s = refl
no_place (suc m) zero = refl
no_place (suc m) (suc s) = no_place m s

pub marks_none : (n m : ℕ) (pages : List (List ℕ)) → marks_of n (replicate m None) pages ≡ replicate n false
marks_none n m pages = all_false (is_marked (replicate m None) pages) 0 n
    (λ j. ap (λ (o : Option ℕ). is_set_on pages o (j % 4096)) (no_place m (j / 4096)))

none_counted : (m : ℕ) → count_by {X = Option ℕ} is_some (replicate m None) ≡ 0
none_counted m = sum_by-replicate (λ (o : Option ℕ). cond {A = ℕ} (is_some o) 1 0) m None ∙ omega arith

-- no position has a page yet
pub pages_none : (n m room : ℕ) → n ≤ 4096 * m → m ≤ 2 ^ 20 → m ≤ room → AreMarks n (replicate m None) [] room
pages_none n m room covered few enough =
    let long : length (replicate {A = Option ℕ} m None) ≡ m = length-replicate m None in
    record {
      covered = omega (arith, long);
      paged = record {
        few = omega (arith, long);
        whole = λ k d h. absurd (omega arith);
        below = λ s p e. absurd (nothing p (sym (no_place m s) ∙ e));
        apart = λ s t p e f. absurd (nothing p (sym (no_place m s) ∙ e));
        counted = none_counted m;
        enough = omega (arith, long);
      };
    }

-- ---- reading

pub length-marks : (n : ℕ) (places : List (Option ℕ)) (pages : List (List ℕ)) → length (marks_of n places pages) ≡ n
length-marks n places pages = length-map-range_with_len (is_marked places pages) 0 n

pub mark_at : (n : ℕ) (places : List (Option ℕ)) (pages : List (List ℕ)) (i : ℕ) (d : Bool) → i < n
    → get_or (marks_of n places pages) i d ≡ is_marked places pages i
mark_at n places pages i d h = get_or-map-range_with_len (is_marked places pages) 0 n i i d h (omega arith)

-- ---- a page for a run

-- where a place is free there are fewer pages than runs
pub free_place : (places : List (Option ℕ)) (pages : List (List ℕ)) (room run : ℕ) → IsPaged places pages room
    → run < length places → get_or places run None ≡ None → length pages < length places
free_place places pages room run paged within free =
    let test : Option ℕ → ℕ = λ o. cond {A = ℕ} (is_some o) 1 0 in
    let none : test (get_or places run None) ≡ 0 = ap test free in
    omega (
      arith,
      paged.counted,
      none,
      sum_by-set test places run (Some 0) None within,
      count_by-le-length is_some (set places run (Some 0)),
      length-set places run (Some 0),
    )

zero_word : (n k : ℕ) → get_or {A = ℕ} (replicate n 0) k 0 ≡ 0
zero_word zero k = refl
zero_word (suc n) zero = refl
zero_word (suc n) (suc k) = zero_word n k

zeros_clear : (i : ℕ) → is_set (replicate 64 0) i ≡ false
zeros_clear i = ne_eqb (bit_at (get_or (replicate 64 0) (i / 64) 0) (i % 64)) 1
    (λ f. omega (arith, f, ap (λ (w : ℕ). bit_at w (i % 64)) (zero_word 64 (i / 64)), bit_at-zero (i % 64)))

module _ (places : List (Option ℕ)) (pages : List (List ℕ)) (room run : ℕ) (paged : IsPaged places pages room)
    (within : run < length places) (free : get_or places run None ≡ None) where
  new_places : List (Option ℕ)
  new_places = set places run (Some (length pages))

  new_pages : List (List ℕ)
  new_pages = pages ++ replicate 64 0 ∷ []

  here : get_or new_places run None ≡ Some (length pages)
  unfolding new_places
  here = get_or-set_same places run (Some (length pages)) None within

  elsewhere : (s : ℕ) → s ≢ run → get_or new_places s None ≡ get_or places s None
  unfolding new_places
  elsewhere s ne = get_or-set_other places run s (Some (length pages)) None ne

  new_page : get_or new_pages (length pages) [] ≡ replicate 64 0
  unfolding new_pages
  new_page = get_or_push pages (replicate 64 0) [] (length pages) refl

  old_page : (p : ℕ) → p < length pages → get_or new_pages p [] ≡ get_or pages p []
  unfolding new_pages
  old_page p h = get_or_append_left pages (replicate 64 0 ∷ []) [] p h

  long : length new_pages ≡ length pages + 1
  unfolding new_pages
  long = length_push pages (replicate 64 0)

  old_set : (o : Option ℕ) (i : ℕ) → ((p : ℕ) → o ≡ Some p → p < length pages)
      → is_set_on new_pages o i ≡ is_set_on pages o i
  old_set None i low = refl
  old_set (Some p) i low = ap (λ (page : List ℕ). is_set page i) (old_page p (low p refl))

  same_at : (i : ℕ) → (i / 4096 ≡ run) ⊎ (i / 4096 ≢ run) → is_marked new_places new_pages i ≡ is_marked places pages i
  same_at i (inl e) =
      ap (λ (s : ℕ). is_set_on new_pages (get_or new_places s None) (i % 4096)) e
      ∙ ap (λ (o : Option ℕ). is_set_on new_pages o (i % 4096)) here
      ∙ ap (λ (page : List ℕ). is_set page (i % 4096)) new_page
      ∙ zeros_clear (i % 4096)
      ∙ sym (ap (λ (s : ℕ). is_set_on pages (get_or places s None) (i % 4096)) e
      ∙ ap (λ (o : Option ℕ). is_set_on pages o (i % 4096)) free)
  same_at i (inr ne) =
      ap (λ (o : Option ℕ). is_set_on new_pages o (i % 4096)) (elsewhere (i / 4096) ne)
      ∙ old_set (get_or places (i / 4096) None) (i % 4096) (λ p e. paged.below (i / 4096) p e)

  pub page_same : (i : ℕ) → is_marked (set places run (Some (length pages))) (pages ++ replicate 64 0 ∷ []) i
      ≡ is_marked places pages i
  unfolding new_places new_pages
  page_same i = same_at i (tells (i / 4096) run)

  below : (s p : ℕ) → (s ≡ run) ⊎ (s ≢ run) → get_or new_places s None ≡ Some p → p < length pages + 1
  below s p (inl at) e = omega (
    arith,
    some_is (length pages) p
        (sym here ∙ ap (λ (t : ℕ). get_or new_places t None) (sym at) ∙ e),
  )
  below s p (inr ne) e = omega (arith, paged.below s p (sym (elsewhere s ne) ∙ e))

  apart : (s t p : ℕ) → (s ≡ run) ⊎ (s ≢ run) → (t ≡ run) ⊎ (t ≢ run) → get_or new_places s None ≡ Some p
      → get_or new_places t None ≡ Some p → s ≡ t
  apart s t p (inl a) (inl b) e f = omega (arith, a, b)
  apart s t p (inl a) (inr b) e f = absurd (omega (
    arith,
    some_is (length pages) p (sym here ∙ ap (λ (t : ℕ). get_or new_places t None) (sym a) ∙ e),
    paged.below t p (sym (elsewhere t b) ∙ f),
  ))
  apart s t p (inr a) (inl b) e f = absurd (omega (
    arith,
    some_is (length pages) p (sym here ∙ ap (λ (t : ℕ). get_or new_places t None) (sym b) ∙ f),
    paged.below s p (sym (elsewhere s a) ∙ e),
  ))
  apart s t p (inr a) (inr b) e f = paged.apart s t p (sym (elsewhere s a) ∙ e) (sym (elsewhere t b) ∙ f)

  counted : count_by is_some new_places ≡ length pages + 1
  unfolding new_places
  counted =
      let test : Option ℕ → ℕ = λ o. cond {A = ℕ} (is_some o) 1 0 in
      let none : test (get_or places run None) ≡ 0 = ap test free in
      omega (arith, paged.counted, none, sum_by-set test places run (Some (length pages)) None within)

  pub page_made : IsPaged (set places run (Some (length pages))) (pages ++ replicate 64 0 ∷ []) room
  unfolding new_places new_pages
  page_made =
      let runs : length (set places run (Some (length pages))) ≡ length places = length-set places run
      (Some (length pages)) in
      record {
        few = omega (arith, runs, paged.few);
        whole = All-push (λ (page : List ℕ). length page ≡ 64) pages (replicate 64 0) paged.whole
            (length-replicate {A = ℕ} 64 0);
        below = λ s p e. omega (arith, below s p (tells s run) e, long);
        apart = λ s t p e f. apart s t p (tells s run) (tells t run) e f;
        counted = omega (arith, counted, long);
        enough = omega (arith, runs, paged.enough);
      }

-- ---- a bit more on a page

module _ (places : List (Option ℕ)) (pages : List (List ℕ)) (room run p : ℕ) (paged : IsPaged places pages room)
    (here : get_or places run None ≡ Some p) (page : List ℕ) (words : length page ≡ 64) where
  low : p < length pages
  low = paged.below run p here

  pub page_written : IsPaged places (set pages p page) room
  page_written =
      let same : length (set pages p page) ≡ length pages = length-set pages p page in
      record {
        few = paged.few;
        whole = All-set (λ (page : List ℕ). length page ≡ 64) pages p page words paged.whole;
        below = λ s p e. omega (arith, paged.below s p e, same);
        apart = paged.apart;
        counted = paged.counted ∙ sym same;
        enough = paged.enough;
      }

  other_page : (o : Option ℕ) (i : ℕ) → ((r : ℕ) → o ≡ Some r → r ≢ p)
      → is_set_on (set pages p page) o i ≡ is_set_on pages o i
  other_page None i ne = refl
  other_page (Some r) i ne = ap (λ (page : List ℕ). is_set page i) (get_or-set_other pages p r page [] (ne r refl))

  same_page : (i : ℕ) → i / 4096 ≡ run → is_marked places (set pages p page) i ≡ is_set page (i % 4096)
  same_page i e =
      ap (λ (s : ℕ). is_set_on (set pages p page) (get_or places s None) (i % 4096)) e
      ∙ ap (λ (o : Option ℕ). is_set_on (set pages p page) o (i % 4096)) here
      ∙ ap (λ (page : List ℕ). is_set page (i % 4096)) (get_or-set_same pages p page [] low)

  -- what was marked on the page before
  pub was_on : (i : ℕ) → i / 4096 ≡ run → is_marked places pages i ≡ is_set (get_or pages p []) (i % 4096)
  was_on i e =
      ap (λ (s : ℕ). is_set_on pages (get_or places s None) (i % 4096)) e
      ∙ ap (λ (o : Option ℕ). is_set_on pages o (i % 4096)) here

  other_at : (i j : ℕ) → i / 4096 ≡ run → ((k : ℕ) → k ≢ i % 4096 → is_set page k ≡ is_set (get_or pages p []) k)
      → j ≢ i → (j / 4096 ≡ run) ⊎ (j / 4096 ≢ run) → is_marked places (set pages p page) j ≡ is_marked places pages j
  other_at i j at others ne (inl e) = same_page j e
      ∙ others (j % 4096) (λ f. ne (omega (arith, at, e, f))) ∙ sym (was_on j e)
  other_at i j at others ne (inr far) = other_page (get_or places (j / 4096) None) (j % 4096)
      (λ r e same. far (paged.apart (j / 4096) run p (e ∙ ap Some same) here))

  pub marks_more : (n i : ℕ) → i < n → i / 4096 ≡ run → is_set page (i % 4096) ≡ true
      → ((k : ℕ) → k ≢ i % 4096 → is_set page k ≡ is_set (get_or pages p []) k)
      → marks_of n places (set pages p page) ≡ set (marks_of n places pages) i true
  marks_more n i h at on others =
      map_set (is_marked places pages) (is_marked places (set pages p page)) 0 n i h
      (same_page (0 + i) (omega (arith, at)) ∙ ap (λ (k : ℕ). is_set page (k % 4096)) (zero-add i) ∙ on)
      (λ j ne. other_at i j at others (λ e. ne (omega arith)) (tells (j / 4096) run))

-- ---- a bit of a page

-- the page with bit i set
abbrev with_bit : List ℕ → ℕ → List ℕ
with_bit page i = set page (i / 64) (bit_or (get_or page (i / 64) 0) (1 * 2 ^ (i % 64) % 18446744073709551616))

pub bit_set : (page : List ℕ) (i : ℕ) → i < 4096 → length page ≡ 64 → is_set (with_bit page i) i ≡ true
bit_set page i small whole =
    let low : i % 64 < 64 = omega arith in
    let within : i / 64 < length page = omega (arith, whole) in
    let word : ℕ = bit_or (get_or page (i / 64) 0) (1 * 2 ^ (i % 64) % 18446744073709551616) in
    eq-eqb (bit_at (get_or (set page (i / 64) word) (i / 64) 0) (i % 64)) 1
    (ap (λ (w : ℕ). bit_at w (i % 64)) (get_or-set_same page (i / 64) word 0 within)
    ∙ bit_at_set_same w64 (get_or page (i / 64) 0) (i % 64) low)

bit_other : (page : List ℕ) (i j : ℕ) → i < 4096 → length page ≡ 64 → j ≢ i → (j / 64 ≡ i / 64) ⊎ (j / 64 ≢ i / 64)
    → is_set (with_bit page i) j ≡ is_set page j
bit_other page i j small whole ne (inl e) =
    let low : i % 64 < 64 = omega arith in
    let within : i / 64 < length page = omega (arith, whole) in
    let word : ℕ = bit_or (get_or page (i / 64) 0) (1 * 2 ^ (i % 64) % 18446744073709551616) in
    let other : j % 64 ≢ i % 64 = λ s. ne (omega (arith, e, s)) in
    ap (λ (m : ℕ). nat_eq (bit_at (get_or (set page (i / 64) word) m 0) (j % 64)) 1) e
    ∙ ap (λ (w : ℕ). nat_eq (bit_at w (j % 64)) 1) (get_or-set_same page (i / 64) word 0 within)
    ∙ ap (λ (b : ℕ). nat_eq b 1) (bit_at_set_other w64 (get_or page (i / 64) 0) (i % 64) low (j % 64) other)
    ∙ ap (λ (m : ℕ). nat_eq (bit_at (get_or page m 0) (j % 64)) 1) (sym e)
bit_other page i j small whole ne (inr far) =
    ap (λ (w : ℕ). nat_eq (bit_at w (j % 64)) 1) (get_or-set_other page (i / 64) (j / 64)
    (bit_or (get_or page (i / 64) 0) (1 * 2 ^ (i % 64) % 18446744073709551616)) 0 far)

pub bit_kept : (page : List ℕ) (i : ℕ) → i < 4096 → length page ≡ 64 → (j : ℕ) → j ≢ i
    → is_set (with_bit page i) j ≡ is_set page j
bit_kept page i small whole j ne = bit_other page i j small whole ne (tells (j / 64) (i / 64))
