-- Lemmas on the flags of the rows that stay.
use Rattle.std.proofs.Common.{◌≡◌, ℕ, ◌+◌, ◌<◌, ◌≤◌, ℤ, pos, negsuc, nat_abs, Bool, false, cond, nat_eq}
use Rattle.std.proofs.Common.{inl, inr, List, [], ◌∷◌, ◌++◌, length, map, take, drop, get_or, set, refl, sym, ap, ◌∙◌, arith, subst}
use Rattle.std.proofs.Common.{length-append, get_or-set_same, get_or-set_other, append_assoc}
use Rattle.std.specs.Prelude.{unsigned_abs}
use Rattle.std.specs.List.{All}
use Rattle.std.proofs.Math.Seq.{get_or-append_seam, take-add, take-append_seam}
use Rattle.std.proofs.lemmas.Bool.{cases_eq, cases_lt, eq-eqb, ne_eqb}
use Rattle.std.proofs.lemmas.List.{drop-map, get_or-append-add, get_or-drop, get_or-map, get_or-take, get_or_append_left}
use Rattle.std.proofs.lemmas.List.{length-map, take-append-drop, take-append-le, take-map}
use Rattle.bcodes.specs.Value.{Row}
use Rattle.code_pool.specs.Lists.{IsPart, label_of, no_row}
use Rattle.flip_walk.specs.Patterns.{times}
use Rattle.flip_walk.proofs.OnceLemmas.{times-append}
use Rattle.row_lists.proofs.RoomLemmas.{times-push}
use Rattle.id_select.specs.Removal.{stays}
use Rattle.id_select.specs.declared.selector.Selector.{Selector}
use Rattle.ivf_index.specs.Flags.{AreListFlags, AreOrderFlags, row_stays}

pub map-map : {X Y Z : Type 0} (g : Y → Z) (f : X → Y) (xs : List X) → map g (map f xs) ≡ map (λ x. g (f x)) xs
map-map g f [] = refl
map-map {X} {Y} {Z} g f (x ∷ xs) = ap (λ (zs : List Z). g (f x) ∷ zs) (map-map g f xs)

-- a part of labels, by the rows that have them
pub part_of : {Y : Type 0} (f : ℤ → Y) (rows : List Row) (at : ℕ) (labels : List ℤ) → IsPart (map label_of rows) at labels
    → map f labels ≡ take (length labels) (drop at (map (λ (row : Row). f row.label) rows))
part_of {Y} f rows at labels part =
    ap (map f) (part.labels ∙ ap (take (length labels)) (drop-map label_of at rows)
    ∙ take-map label_of (length labels) (drop at rows))
    ∙ map-map f label_of (take (length labels) (drop at rows))
    ∙ sym (take-map (λ (row : Row). f row.label) (length labels) (drop at rows))
    ∙ ap (take (length labels)) (sym (drop-map (λ (row : Row). f row.label) at rows))

-- ---- the flags of lists

-- the flags of the first rows of a list, and of some more
pub flags_more : (s : Selector) (rows : List Row) (at n : ℕ) (before now : List Bool) (labels : List ℤ)
    → IsPart (map label_of rows) at labels → n ≡ at + length labels
    → now ≡ before ++ map (row_stays s) (take at rows)
    → now ++ map (stays s) labels ≡ before ++ map (row_stays s) (take n rows)
flags_more s rows at n before now labels part past is =
    let all : List Bool = map (row_stays s) rows in
    let front : take at all ≡ map (row_stays s) (take at rows) = take-map (row_stays s) at rows in
    ap (λ (bs : List Bool). bs ++ map (stays s) labels) (is ∙ ap (λ (bs : List Bool). before ++ bs) (sym front))
    ∙ append_assoc before (take at all) (map (stays s) labels)
    ∙ ap (λ (bs : List Bool). before ++ (take at all ++ bs)) (part_of (stays s) rows at labels part)
    ∙ ap (λ (bs : List Bool). before ++ bs) (sym (take-add at (length labels) all)
    ∙ ap (λ (k : ℕ). take k all) (sym past) ∙ take-map (row_stays s) n rows)

-- the flags of one list more
module _ (s : Selector) (lists : ℕ → List Row) (flags : List Bool) (starts : List ℕ)
    (h : AreListFlags s lists flags starts) where
  abbrev pub own : List Bool
  own = map (row_stays s) (lists (length starts))

  last_start : get_or (starts ++ length flags ∷ []) (length starts) 0 ≡ length flags
  last_start = get_or-append_seam starts (length flags) [] 0

  within_more : (l : ℕ) → l < length (starts ++ length flags ∷ [])
      → get_or (starts ++ length flags ∷ []) l 0 + length (lists l) ≤ length (flags ++ own)
  within_more l low = elim (cases_lt l (length starts)) [
    | inl old ↦
        omega (
          arith,
          get_or_append_left starts (length flags ∷ []) 0 l old,
          h.within l old,
          length-append flags own,
        )
    | inr new ↦
        let here : l ≡ length starts = omega (arith, low, length-append starts (length flags ∷ [])) in
        subst (λ (k : ℕ). get_or (starts ++ length flags ∷ []) k 0 + length (lists k) ≤ length (flags ++ own)) (sym here)
        (omega (arith, last_start, length-append flags own, length-map (lists (length starts)) (row_stays s)))
  ]

  each_more : (l j : ℕ) → l < length (starts ++ length flags ∷ []) → j < length (lists l)
      → get_or (flags ++ own) (get_or (starts ++ length flags ∷ []) l 0 + j) false
      ≡ row_stays s (get_or (lists l) j no_row)
  each_more l j low inside = elim (cases_lt l (length starts)) [
    | inl old ↦
        let start : get_or (starts ++ length flags ∷ []) l 0 ≡ get_or starts l 0 =
        get_or_append_left starts (length flags ∷ []) 0 l old in
        ap (λ (k : ℕ). get_or (flags ++ own) (k + j) false) start
        ∙ get_or_append_left flags own false (get_or starts l 0 + j) (omega (arith, h.within l old, inside))
        ∙ h.each l j old inside
    | inr new ↦
        let here : l ≡ length starts = omega (arith, low, length-append starts (length flags ∷ [])) in
        let there : j < length (lists (length starts)) = subst (λ (k : ℕ). j < length (lists k)) here inside in
        subst (λ (k : ℕ). get_or (flags ++ own) (get_or (starts ++ length flags ∷ []) k 0 + j) false
        ≡ row_stays s (get_or (lists k) j no_row)) (sym here)
        (ap (λ (k : ℕ). get_or (flags ++ own) (k + j) false) last_start ∙ get_or-append-add flags own j false
        ∙ get_or-map (row_stays s) (lists (length starts)) j no_row false there)
  ]

  pub list_flags_more : AreListFlags s lists (flags ++ own) (starts ++ length flags ∷ [])
  list_flags_more = record { within = within_more; each = each_more }

-- ---- the flags in the order of addition

pub order_flags_none : (flags : List Bool) (starts : List ℕ) → AreOrderFlags flags starts [] starts []
order_flags_none flags starts = record {
  count = refl;
  each = λ i low. absurd (omega arith);
  ends = λ l low. omega arith;
}

-- a row more
module _ (flags : List Bool) (starts numbers next : List ℕ) (found : List Bool) (n : ℕ)
    (h : AreOrderFlags flags starts numbers next found) (inside : n < length starts)
    (same : length starts ≡ length next) where
  abbrev pub flag : Bool
  flag = get_or flags (get_or next n 0) false

  each_one : (i : ℕ) → i < length (numbers ++ n ∷ [])
      → get_or (found ++ flag ∷ []) i false
      ≡ get_or flags (get_or starts (get_or (numbers ++ n ∷ []) i 0) 0
      + times (get_or (numbers ++ n ∷ []) i 0) (take i (numbers ++ n ∷ []))) false
  each_one i low = elim (cases_lt i (length numbers)) [
    | inl old ↦
        let number : get_or (numbers ++ n ∷ []) i 0 ≡ get_or numbers i 0 =
        get_or_append_left numbers (n ∷ []) 0 i old in
        let before : take i (numbers ++ n ∷ []) ≡ take i numbers =
        take-append-le i numbers (n ∷ []) (omega arith) in
        get_or_append_left found (flag ∷ []) false i (omega (arith, h.count)) ∙ h.each i old
        ∙ ap (λ (k : ℕ). get_or flags (get_or starts k 0 + times k (take i numbers)) false) (sym number)
        ∙ ap (λ (ks : List ℕ). get_or flags (get_or starts (get_or (numbers ++ n ∷ []) i 0) 0
        + times (get_or (numbers ++ n ∷ []) i 0) ks) false) (sym before)
    | inr new ↦
        let here : i ≡ length numbers = omega (arith, low, length-append numbers (n ∷ [])) in
        let number : get_or (numbers ++ n ∷ []) (length numbers) 0 ≡ n = get_or-append_seam numbers n [] 0 in
        let before : take (length numbers) (numbers ++ n ∷ []) ≡ numbers = take-append_seam numbers (n ∷ []) in
        subst (λ (k : ℕ). get_or (found ++ flag ∷ []) k false
        ≡ get_or flags (get_or starts (get_or (numbers ++ n ∷ []) k 0) 0
        + times (get_or (numbers ++ n ∷ []) k 0) (take k (numbers ++ n ∷ []))) false) (sym here)
        (ap (λ (k : ℕ). get_or (found ++ flag ∷ []) k false) (sym h.count) ∙ get_or-append_seam found flag [] false
        ∙ ap (λ (k : ℕ). get_or flags k false) (h.ends n inside)
        ∙ ap (λ (k : ℕ). get_or flags (get_or starts k 0 + times k numbers) false) (sym number)
        ∙ ap (λ (ks : List ℕ). get_or flags (get_or starts (get_or (numbers ++ n ∷ []) (length numbers) 0) 0
        + times (get_or (numbers ++ n ∷ []) (length numbers) 0) ks) false) (sym before))
  ]

  ends_one : (l : ℕ) → l < length starts
      → get_or (set next n (get_or next n 0 + 1)) l 0 ≡ get_or starts l 0 + times l (numbers ++ n ∷ [])
  ends_one l low = elim (cases_eq l n) [
    | inl here ↦
        let counted : cond {A = ℕ} (nat_eq n n) 1 0 ≡ 1 = ap (λ (t : Bool). cond {A = ℕ} t 1 0) (eq-eqb n n refl) in
        subst (λ (k : ℕ). get_or (set next n (get_or next n 0 + 1)) k 0
        ≡ get_or starts k 0 + times k (numbers ++ n ∷ [])) (sym here)
        (omega (
          arith,
          get_or-set_same next n (get_or next n 0 + 1) 0 (omega arith),
          h.ends n inside,
          times-push n n numbers,
          counted,
        ))
    | inr other ↦
        let counted : cond {A = ℕ} (nat_eq n l) 1 0 ≡ 0 = ap (λ (t : Bool). cond {A = ℕ} t 1 0)
        (ne_eqb n l (λ e. other (sym e))) in
        omega (
          arith,
          get_or-set_other next n l (get_or next n 0 + 1) 0 other,
          h.ends l low,
          times-push l n numbers,
          counted,
        )
  ]

  pub order_flags_more : AreOrderFlags flags starts (numbers ++ n ∷ []) (set next n (get_or next n 0 + 1))
      (found ++ get_or flags (get_or next n 0) false ∷ [])
  order_flags_more = record {
    count = omega (arith, length-append found (flag ∷ []), length-append numbers (n ∷ []), h.count);
    each = each_one;
    ends = ends_one;
  }

pub abs_is : (z : ℤ) → unsigned_abs z ≡ nat_abs z
abs_is (pos n) = refl
abs_is (negsuc n) = refl

-- one number less is still to come
pub room_less : (l n room : ℕ) (next rest : List ℕ) → n < length next
    → get_or next l 0 + times l (n ∷ rest) ≤ room → get_or (set next n (get_or next n 0 + 1)) l 0 + times l rest ≤ room
room_less l n room next rest inside h = elim (cases_eq l n) [
  | inl here ↦
      let counted : cond {A = ℕ} (nat_eq n n) 1 0 ≡ 1 = ap (λ (t : Bool). cond {A = ℕ} t 1 0) (eq-eqb n n refl) in
      subst (λ (k : ℕ). get_or (set next n (get_or next n 0 + 1)) k 0 + times k rest ≤ room) (sym here)
      (let k : get_or next n 0 + times n (n ∷ rest) ≤ room =
      subst (λ (m : ℕ). get_or next m 0 + times m (n ∷ rest) ≤ room) here h in
      omega (arith, get_or-set_same next n (get_or next n 0 + 1) 0 inside, k, counted))
  | inr other ↦
      let counted : cond {A = ℕ} (nat_eq n l) 1 0 ≡ 0 = ap (λ (t : Bool). cond {A = ℕ} t 1 0)
      (ne_eqb n l (λ e. other (sym e))) in
      omega (arith, get_or-set_other next n l (get_or next n 0 + 1) 0 other, h, counted)
]

-- a part of some numbers comes no oftener than all
pub times-take-le : (l n : ℕ) (xs : List ℕ) → times l (take n xs) ≤ times l xs
times-take-le l n xs =
    omega (
      arith,
      ap (times l) (take-append-drop n xs),
      times-append l (take n xs) (drop n xs),
    )

pub times-part : (l at n : ℕ) (xs : List ℕ) → times l (take at xs) + times l (take n (drop at xs)) ≤ times l xs
times-part l at n xs =
    omega (
      arith,
      times-take-le l (at + n) xs,
      ap (times l) (take-add at n xs),
      times-append l (take at xs) (take n (drop at xs)),
    )

-- numbers below n, by the rows that have them as labels
pub known_part : (n : ℕ) (rows : List Row) (at : ℕ) (labels : List ℤ) → IsPart (map label_of rows) at labels
    → All (λ l. l < n) (map (λ (row : Row). nat_abs row.label) rows) → All (λ (z : ℤ). nat_abs z < n) labels
known_part n rows at labels part known = λ k d low.
    let all : List ℕ = map (λ (row : Row). nat_abs row.label) rows in
    let inside : at + k < length all = omega (
      arith,
      low,
      part.within,
      length-map rows label_of,
      length-map rows (λ (row : Row). nat_abs row.label),
    ) in
    let is : nat_abs (get_or labels k d) ≡ get_or all (at + k) 0 =
    sym (get_or-map nat_abs labels k d 0 low)
    ∙ ap (λ (ns : List ℕ). get_or ns k 0) (part_of nat_abs rows at labels part)
    ∙ get_or-take (length labels) (drop at all) k 0 low ∙ get_or-drop at all k 0 in
    rw is (known (at + k) 0 inside)
