-- Lemmas on positions that are put into buckets.
use Rattle.std.proofs.Common.{◌≡◌, ◌≢◌, ℕ, zero, suc, ◌+◌, ◌-◌, ◌*◌, ◌<◌, ◌≤◌, ◌⊎◌, inl, inr, Bool, true, false, cond}
use Rattle.std.proofs.Common.{nat_eq, nat_lt, pos, List, [], ◌∷◌, ◌++◌, length, take, drop, get_or, refl, sym, ap, ◌∙◌}
use Rattle.std.proofs.Common.{subst, arith, append-nil, add-zero, length-append}
use Rattle.std.specs.List.{All}
use Rattle.std.proofs.lemmas.List.Elements.{All-nil, All-cons, All-head, All-tail, All-append, All-weaker}
use Rattle.std.proofs.lemmas.Bool.{ne_eqb, eq-eqb, lt-ltb, le-ltb, cases_lt}
use Rattle.std.proofs.lemmas.Bool.Decides.{eqb_tells}
use Rattle.std.proofs.lemmas.Int.{ints}
use Rattle.bcodes.specs.Value.{Row}
use Rattle.code_pool.specs.Lists.{PoolLists, PoolList, list_at}
use Rattle.flip_walk.specs.Patterns.{times}
use Rattle.row_lists.specs.Put.{put_on}
use Rattle.row_lists.specs.Room.{HasRoomFor}
use Rattle.row_lists.specs.Put.{IsPushed}
use Rattle.row_lists.proofs.PutLemmas.{pushed_other, put_on-none}
use Rattle.row_lists.proofs.RoomLemmas.{times-here}
use Rattle.multi_hash.specs.Inside.{IsPosition, lists_in}
use Rattle.multi_hash.specs.Room.{lists_under, marks, AreApart}
use Rattle.multi_hash.proofs.MapsLemmas.{tells}

pub length-marks : (p n : ℕ) → length (marks p n) ≡ n
length-marks p zero = refl
length-marks p (suc n) = ap suc (length-marks (p + 1) n)

pub get-marks : (p n i : ℕ) (d : Row) → i < n → get_or (marks p n) i d ≡ record { label = pos (p + i); code = [] }
get-marks p zero i d h = absurd (omega arith)
get-marks p (suc n) zero d h = ap (λ (m : ℕ). record { label = pos m; code = [] }) (sym (add-zero p))
get-marks p (suc n) (suc i) d h =
    get-marks (p + 1) n i d (omega arith)
    ∙ ap (λ (m : ℕ). record { label = pos m; code = [] }) (omega arith)

-- a list that is no number of the pushed rows keeps its room
pub spare_pushed : (p q : PoolLists) (ns : List ℕ) (i : ℕ) (row : Row) → IsPushed p q (get_or ns i 0) row
    → i < length ns → (k : ℕ) → times k ns ≡ 0 → (list_at p k).spare ≤ (list_at q k).spare
spare_pushed p q ns i row h here k none =
    elim (tells k (get_or ns i 0)) [
      | inl e ↦ absurd (omega (arith, ap (λ (l : ℕ). times l ns) e, times-here ns i here, none))
      | inr ne ↦ omega (arith, ap (λ (x : PoolList). x.spare) (pushed_other p q (get_or ns i 0) k row h ne))
    ]

-- at most all rows are put on a list
pub length-put_on : (l : ℕ) (ns : List ℕ) (rows : List Row) → length (put_on l ns rows) ≤ length rows
length-put_on l [] rows = omega arith
length-put_on l (n ∷ ns) [] = omega arith
length-put_on l (n ∷ ns) (row ∷ rows) = step (nat_eq l n) (length-put_on l ns rows)
  where
    step : (t : Bool) → length (put_on l ns rows) ≤ length rows
        → length (cond t (row ∷ put_on l ns rows) (put_on l ns rows)) ≤ suc (length rows)
    step true h = omega arith
    step false h = omega arith

All-put_on : (P : Row → Type 0) (l : ℕ) (ns : List ℕ) (rows : List Row) → All P rows → All P (put_on l ns rows)
All-put_on P l [] rows h = All-nil P
All-put_on P l (n ∷ ns) [] h = All-nil P
All-put_on P l (n ∷ ns) (row ∷ rows) h =
    step (nat_eq l n) (All-head P row rows h) (All-put_on P l ns rows (All-tail P row rows h))
  where
    step : (t : Bool) → P row → All P (put_on l ns rows) → All P (cond t (row ∷ put_on l ns rows) (put_on l ns rows))
    step true p h = All-cons P row (put_on l ns rows) p h
    step false p h = h

All-marks : (n p m : ℕ) → p + m ≤ n → All (IsPosition n) (marks p m)
All-marks n p zero h = All-nil (IsPosition n)
All-marks n p (suc m) h =
    All-cons (IsPosition n) (record { label = pos p; code = [] }) (marks (p + 1) m)
    (record { least = omega (arith, ints); most = omega (arith, ints) }) (All-marks n (p + 1) m (omega arith))

pub places_put : (n l first count : ℕ) (ns : List ℕ) (before after : List Row) → first + count ≤ n
    → after ≡ before ++ put_on l ns (marks first count) → All (IsPosition n) before → All (IsPosition n) after
places_put n l first count ns before after h e all =
    subst (All (IsPosition n)) (sym e) (All-append (IsPosition n) before (put_on l ns (marks first count)) all
    (All-put_on (IsPosition n) l ns (marks first count) (All-marks n first count h)))

pub length-put : (l first count : ℕ) (ns : List ℕ) (before after : List Row)
    → after ≡ before ++ put_on l ns (marks first count) → length after ≤ length before + count
length-put l first count ns before after e = omega (
  arith,
  ap length e ∙ length-append before (put_on l ns (marks first count)),
  length-put_on l ns (marks first count),
  length-marks first count,
)

-- ---- one map after the other

-- the rows of a list that one map alone may have, after the first i maps
abbrev pub put_so_far : (l : ℕ) (k i : ℕ) (ns : List ℕ) (before new : List Row) → List Row
put_so_far l k i ns before new = before ++ cond (nat_lt k i) (put_on l ns new) []

module _ (l k i : ℕ) (lists : List ℕ) (n first : ℕ) (before mid after : List Row)
    (so_far : mid ≡ put_so_far l k i (lists_under lists n k) before (marks first n))
    (this : after ≡ mid ++ put_on l (lists_under lists n i) (marks first n)) where
  pub put_own : k ≡ i → after ≡ put_so_far l k (i + 1) (lists_under lists n k) before (marks first n)
  put_own e =
      let rows : List Row = put_on l (lists_under lists n k) (marks first n) in
      this
      ∙ ap (λ (rs : List Row). rs ++ put_on l (lists_under lists n i) (marks first n)) (so_far
      ∙ ap (λ (t : Bool). before ++ cond t rows []) (le-ltb k i (omega arith)) ∙ append-nil before)
      ∙ ap (λ (j : ℕ). before ++ put_on l (lists_under lists n j) (marks first n)) (sym e)
      ∙ sym (ap (λ (t : Bool). before ++ cond t rows []) (lt-ltb k (i + 1) (omega arith)))

  pub put_other : k ≢ i → times l (lists_under lists n i) ≡ 0
      → after ≡ put_so_far l k (i + 1) (lists_under lists n k) before (marks first n)
  put_other ne none =
      let rows : List Row = put_on l (lists_under lists n k) (marks first n) in
      this
      ∙ ap (λ (rs : List Row). mid ++ rs) (put_on-none l (lists_under lists n i) (marks first n) none)
      ∙ append-nil mid ∙ so_far
      ∙ elim (cases_lt k i) [
        | inl low ↦ ap (λ (t : Bool). before ++ cond t rows []) (lt-ltb k i low)
            ∙ sym (ap (λ (t : Bool). before ++ cond t rows []) (lt-ltb k (i + 1) (omega arith)))
        | inr high ↦ ap (λ (t : Bool). before ++ cond t rows []) (le-ltb k i high)
            ∙ sym (ap (λ (t : Bool). before ++ cond t rows []) (le-ltb k (i + 1) (above high)))
      ]
    where
      above : i ≤ k → i + 1 ≤ k
      above h = elim (cases_lt i k) [ inl l ↦ omega arith | inr l ↦ absurd (ne (omega arith)) ]

-- the maps behind keep their room
pub room_behind : (p q : PoolLists) (lists : List ℕ) (nhash n i j : ℕ) → i < nhash → j < nhash → j ≢ i
    → AreApart lists nhash n
    → ((l : ℕ) → times l (lists_under lists n i) ≡ 0 → (list_at p l).spare ≤ (list_at q l).spare)
    → HasRoomFor (lists_under lists n j) p → HasRoomFor (lists_under lists n j) q
room_behind p q lists nhash n i j h k ne apart spare room l =
    elim (cases_lt 0 (times l (lists_under lists n j))) [
      | inl some ↦ omega (arith, room l, spare l (apart j i l k h (λ e. ne (sym e)) some))
      | inr none ↦ omega arith
    ]
