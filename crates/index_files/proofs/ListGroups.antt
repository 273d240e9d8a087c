-- Rows that stand list by list are found again on their lists.
use Rattle.std.proofs.Common.{◌≡◌, ℕ, zero, suc, ◌+◌, ◌<◌, ◌≤◌, true, eqb, ltb, List, []}
use Rattle.std.proofs.Common.{◌∷◌, length, map, All, refl, sym, ap, subst, ◌∙◌, inl, inr, arith}
use Rattle.std.specs.Prelude.{nat_lt}
use Rattle.std.specs.List.{filter, flat_map, range_with_len}
use Rattle.std.proofs.lemmas.Bool.{cases_eq, eq-eqb, ne_eqb, lt-ltb}
use Rattle.std.proofs.lemmas.List.{append-nil}
use Rattle.std.proofs.lemmas.List.Elements.{filter-append, All-head, All-tail}
use Rattle.bcodes.specs.Value.{ListRow}
use Rattle.index_files.specs.Parts.{Each}
use Rattle.index_files.specs.Groups.{concat}
use Rattle.index_files.specs.IvfFormat.{ListSize}
use Rattle.index_files.proofs.Each.{Pairs}

-- the rows of a list
abbrev pub rows_at : List ListRow → ℕ → List ListRow
rows_at rows list = filter (λ row. eqb list row.list) rows

abbrev pub AreOn : ℕ → List ListRow → Type 0
AreOn list rows = All (λ row. row.list ≡ list) rows

-- lists that are not empty, by number, from `least` on and below the limit
abbrev pub Rising : ℕ → ℕ → List ListSize → Type 0
Rising least limit [] = Unit {0}
Rising least limit (p ∷ ps) = (least ≤ p.list) × (p.list < limit) × (0 < p.size) × Rising (p.list + 1) limit ps

-- these are the rows of a list
pub record AreRows (p : ListSize) (rows : List ListRow) : Type 0 where
  pub count : length rows ≡ p.size
  pub on : AreOn p.list rows

pub at-own : (list : ℕ) (rows : List ListRow) → AreOn list rows → rows_at rows list ≡ rows
at-own list [] h = refl
at-own list (row ∷ rows) h =
    let e = eq-eqb list row.list (sym (All-head (λ (r : ListRow). r.list ≡ list) row rows h)) in
    rw e (ap (λ (rs : List ListRow). row ∷ rs)
    (at-own list rows (All-tail (λ (r : ListRow). r.list ≡ list) row rows h)))

pub at-other : (list other : ℕ) (rows : List ListRow) → AreOn list rows → (list ≡ other → ⊥)
    → rows_at rows other ≡ []
at-other list other [] h differ = refl
at-other list other (row ∷ rows) h differ =
    let is : row.list ≡ list = All-head (λ (r : ListRow). r.list ≡ list) row rows h in
    let e = ne_eqb other row.list (λ k. differ (sym is ∙ sym k)) in
    rw e (at-other list other rows (All-tail (λ (r : ListRow). r.list ≡ list) row rows h) differ)

-- no row stands on a list before the first
pub below : (least limit list : ℕ) (ps : List ListSize) (rss : List (List ListRow)) → Rising least limit ps
    → Pairs AreRows ps rss → list < least → rows_at (concat rss) list ≡ []
below least limit list [] [] up h lt = refl
below least limit list [] (rs ∷ rss) up h lt = absurd h
below least limit list (p ∷ ps) [] up h lt = absurd h
below least limit list (p ∷ ps) (rs ∷ rss) (from, _, _, up) (own, h) lt =
    let first = at-other p.list list rs own.on (λ e. omega (arith, e, from, lt)) in
    let rest = below (p.list + 1) limit list ps rss up h (omega (arith, from, lt)) in
    filter-append (λ row. eqb list row.list) rs (concat rss) ∙ rw (first, rest) refl

-- from `least` on, the lists hold these rows alone
abbrev pub Agree : List ListRow → ℕ → List (List ListRow) → Type 0
Agree whole least rss = (list : ℕ) → least ≤ list → rows_at whole list ≡ rows_at (concat rss) list

pub agree-tail : (whole : List ListRow) (least : ℕ) (p : ListSize) (rs : List ListRow) (rss : List (List ListRow))
    → Agree whole least (rs ∷ rss) → AreRows p rs → least ≤ p.list → Agree whole (p.list + 1) rss
agree-tail whole least p rs rss h own le list from =
    let first = at-other p.list list rs own.on (λ e. omega (arith, e, from)) in
    h list (omega (arith, le, from)) ∙ filter-append (λ row. eqb list row.list) rs (concat rss) ∙ rw first refl

-- each list's rows are its own
abbrev pub IsOwn : List ListRow → ListSize → List ListRow → Type 0
IsOwn whole p rs = rows_at whole p.list ≡ rs

pub own-rows : (whole : List ListRow) (least limit : ℕ) (ps : List ListSize) (rss : List (List ListRow))
    → Rising least limit ps → Pairs AreRows ps rss → Agree whole least rss → Pairs (IsOwn whole) ps rss
own-rows whole least limit [] [] up h agree = tt
own-rows whole least limit [] (rs ∷ rss) up h agree = absurd h
own-rows whole least limit (p ∷ ps) [] up h agree = absurd h
own-rows whole least limit (p ∷ ps) (rs ∷ rss) (from, _, _, up) (own, h) agree =
    let rest = below (p.list + 1) limit p.list ps rss up h (omega arith) in
    let here : rows_at whole p.list ≡ rs =
    agree p.list from ∙ filter-append (λ row. eqb p.list row.list) rs (concat rss)
    ∙ rw (at-own p.list rs own.on, rest) (append-nil rs) in
    (here, own-rows whole (p.list + 1) limit ps rss up h (agree-tail whole least p rs rss agree own from))

-- the numbers of the lists
abbrev pub numbers_of : List ListSize → List ℕ
numbers_of ps = map (λ p. p.list) ps

-- the lists that are not empty are these
pub filled-is : (whole : List ListRow) (n least : ℕ) (ps : List ListSize) (rss : List (List ListRow))
    → Rising least (least + n) ps → Pairs AreRows ps rss → Agree whole least rss
    → filter (λ list. nat_lt 0 (length (rows_at whole list))) (range_with_len least n) ≡ numbers_of ps
filled-is whole zero least [] [] up h agree = refl
filled-is whole zero least [] (rs ∷ rss) up h agree = absurd h
filled-is whole zero least (p ∷ ps) rss (from, to, _, up) h agree = absurd (omega (arith, from, to))
filled-is whole (suc n) least [] (rs ∷ rss) up h agree = absurd h
filled-is whole (suc n) least [] [] up h agree =
    let none : rows_at whole least ≡ [] = agree least (omega arith) in
    rw none (filled-is whole n (least + 1) [] [] tt tt (λ list le. agree list (omega (arith, le))))
filled-is whole (suc n) least (p ∷ ps) [] up h agree = absurd h
filled-is whole (suc n) least (p ∷ ps) (rs ∷ rss) (from, to, some, up) (own, h) agree =
    let move : least + suc n ≡ (least + 1) + n = omega arith in
    elim (cases_eq least p.list) [
      | inl e ↦
          let all = own-rows whole least (least + suc n) (p ∷ ps) (rs ∷ rss) (from, to, some, up) (own, h) agree in
          let here : rows_at whole least ≡ rs = rw e all.0 in
          let is : ltb 0 (length rs) ≡ true = lt-ltb 0 (length rs) (omega (arith, own.count, some)) in
          let next : p.list + 1 ≡ least + 1 = omega (arith, e) in
          let ih = filled-is whole n (least + 1) ps rss
          (subst (λ l. Rising l ((least + 1) + n) ps) next (subst (λ l. Rising (p.list + 1) l ps) move up)) h
          (subst (λ l. Agree whole l rss) next (agree-tail whole least p rs rss agree own from)) in
          rw (here, is, ih) (ap (λ l. l ∷ numbers_of ps) e)
      | inr ne ↦
          let lt : least + 1 ≤ p.list = omega (arith, from, ne) in
          let none : rows_at whole least ≡ [] =
          agree least (omega arith) ∙ below (least + 1) (least + suc n) least (p ∷ ps) (rs ∷ rss) (
            lt,
            to,
            some,
            up,
          ) (own, h) (omega arith) in
          rw none (filled-is whole n (least + 1) (p ∷ ps) (rs ∷ rss) (
            lt,
            subst (λ l. p.list < l) move to,
            some,
            subst (λ l. Rising (p.list + 1) l ps) move up,
          ) (own, h) (λ list le. agree list (omega (arith, le))))
    ]

-- the rows, list by list
pub together : (whole : List ListRow) (ps : List ListSize) (rss : List (List ListRow)) → Pairs (IsOwn whole) ps rss
    → flat_map (rows_at whole) (numbers_of ps) ≡ concat rss
together whole [] [] h = refl
together whole [] (rs ∷ rss) h = absurd h
together whole (p ∷ ps) [] h = absurd h
together whole (p ∷ ps) (rs ∷ rss) (own, h) = rw (own, together whole ps rss h) refl

-- parts of the rows of each list
pub own-parts : (P : List ListRow → List ℕ → Type 0) (whole : List ListRow) (ps : List ListSize)
    (rss : List (List ListRow)) (bytes : List ℕ) → Pairs (IsOwn whole) ps rss → Each P rss bytes
    → Each (λ list. P (rows_at whole list)) (numbers_of ps) bytes
own-parts P whole [] [] bytes h each = each
own-parts P whole [] (rs ∷ rss) bytes h each = absurd h
own-parts P whole (p ∷ ps) [] bytes h each = absurd h
own-parts P whole (p ∷ ps) (rs ∷ rss) bytes (own, h) (front, back, parts, one, others) =
    (front, back, parts, rw own one, own-parts P whole ps rss back h others)
