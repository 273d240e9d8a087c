-- Labels that are the numbers below their count, and what a direct map says of them.
use Rattle.std.proofs.Common.{◌≡◌, ◌⊎◌, inl, inr, ℕ, zero, suc, ◌+◌, ◌^◌, ◌<◌, ◌≤◌, ℤ}
use Rattle.std.proofs.Common.{pos, true, false, cond, List, [], ◌∷◌, ◌++◌, length, map, All, refl, sym, ap}
use Rattle.std.proofs.Common.{subst, ◌∙◌, append_assoc, arith}
use Rattle.std.specs.Prelude.{count_by, slice_index}
use Rattle.std.specs.Ordering.{int_eq}
use Rattle.std.proofs.lemmas.Bool.{cases_Bool, cases_eq}
use Rattle.std.proofs.lemmas.Bool.Decides.{Decides-int_eq}
use Rattle.std.proofs.lemmas.List.{length-append, map-append}
use Rattle.std.proofs.lemmas.List.Sums.{sum_by-cons, sum_by-append}
use Rattle.std.proofs.lemmas.List.Elements.{All-nil, All-cons, All-head, All-tail}
use Rattle.bcodes.specs.Value.{ListRow, IvfValue, IsNumbering}
use Rattle.index_files.specs.Groups.{concat, list_with, rows_before, on_list, entry_of}
use Rattle.ivf_index.specs.Direct.{entry}
use Rattle.index_files.specs.IvfFormat.{ListSize}
use Rattle.index_files.proofs.Each.{Pairs}
use Rattle.index_files.proofs.ListGroups.{rows_at, Rising, AreOn, AreRows, IsOwn}

-- how many of the labels are k
abbrev pub label_count : ℕ → List ℤ → ℕ
label_count k zs = count_by (int_eq (pos k)) zs

abbrev pub labels : List ListRow → List ℤ
labels rows = map (λ row. row.label) rows

int-same : (k : ℕ) (z : ℤ) → z ≡ pos k → int_eq (pos k) z ≡ true
int-same k z e = (Decides-int_eq (pos k) z).1 (sym e)

pos-is : (i k : ℕ) → pos i ≡ pos k → i ≡ k
pos-is i k e = cc

int-other : (k i : ℕ) → (i ≡ k → ⊥) → int_eq (pos k) (pos i) ≡ false
int-other k i ne = elim (cases_Bool (int_eq (pos k) (pos i))) [
  | inl e ↦
      absurd (ne (sym (pos-is k i ((Decides-int_eq (pos k) (pos i)).0 e))))
  | inr e ↦ e
]

pub count-cons : (k : ℕ) (z : ℤ) (zs : List ℤ)
    → label_count k (z ∷ zs) ≡ cond (int_eq (pos k) z) 1 0 + label_count k zs
count-cons k z zs = sum_by-cons (λ y. cond (int_eq (pos k) y) 1 0) z zs

pub count-same : (k : ℕ) (z : ℤ) (zs : List ℤ) → z ≡ pos k
    → label_count k (z ∷ zs) ≡ suc (label_count k zs)
count-same k z zs e = count-cons k z zs ∙ (let h = int-same k z e in rw h (omega arith))

pub count-other : (k i : ℕ) (zs : List ℤ) → (i ≡ k → ⊥)
    → label_count k (pos i ∷ zs) ≡ label_count k zs
count-other k i zs ne = count-cons k (pos i) zs ∙ (let h = int-other k i ne in rw h (omega arith))

pub count-append : (k : ℕ) (xs ys : List ℤ) → label_count k (xs ++ ys) ≡ label_count k xs + label_count k ys
count-append k xs ys = sum_by-append (λ y. cond (int_eq (pos k) y) 1 0) xs ys

count-rest : (k : ℕ) (z : ℤ) (zs : List ℤ) → label_count k zs ≤ label_count k (z ∷ zs)
count-rest k z zs = omega (arith, count-cons k z zs)

-- ---- how many labels are below n

abbrev below_count : ℕ → List ℤ → ℕ
below_count zero zs = 0
below_count (suc n) zs = below_count n zs + label_count n zs

below-nil : (n : ℕ) → below_count n [] ≡ 0
below-nil zero = refl
below-nil (suc n) = omega (arith, below-nil n)

below-past : (n k : ℕ) (zs : List ℤ) → n ≤ k → below_count n (pos k ∷ zs) ≡ below_count n zs
below-past zero k zs le = refl
below-past (suc n) k zs le = omega (
  arith,
  below-past n k zs (omega (arith, le)),
  count-other n k zs (λ e. omega (arith, e, le)),
)

below-one : (n k : ℕ) (zs : List ℤ) → k < n → below_count n (pos k ∷ zs) ≡ suc (below_count n zs)
below-one zero k zs lt = absurd (omega (arith, lt))
below-one (suc n) k zs lt =
    elim (cases_eq k n) [
      | inl e ↦ omega (arith, below-past n k zs (omega (arith, e)), count-same n (pos k) zs (ap pos e))
      | inr ne ↦ omega (arith, below-one n k zs (omega (arith, lt, ne)), count-other n k zs ne)
    ]

-- a label that is one of the numbers below n
pub record IsBelow (n : ℕ) (z : ℤ) : Type 0 where
  pub place : ℕ
  pub is : z ≡ pos place
  pub less : place < n

pub below-all : (n : ℕ) (zs : List ℤ) → All (IsBelow n) zs → below_count n zs ≡ length zs
below-all n [] h = below-nil n
below-all n (z ∷ zs) h =
    let one = All-head (IsBelow n) z zs h in
    let ih = below-all n zs (All-tail (IsBelow n) z zs h) in
    ap (λ (y : ℤ). below_count n (y ∷ zs)) one.is ∙ below-one n one.place zs one.less ∙ ap suc ih

below-most : (n : ℕ) (zs : List ℤ) → ((k : ℕ) → label_count k zs ≤ 1) → below_count n zs ≤ n
below-most zero zs h = omega arith
below-most (suc n) zs h = omega (arith, below-most n zs h, h n)

each-once : (n : ℕ) (zs : List ℤ) → ((k : ℕ) → label_count k zs ≤ 1) → below_count n zs ≡ n
    → (k : ℕ) → k < n → label_count k zs ≡ 1
each-once zero zs h e k lt = absurd (omega (arith, lt))
each-once (suc n) zs h e k lt =
    elim (cases_eq k n) [
      | inl is ↦ rw is (omega (arith, e, below-most n zs h, h n))
      | inr ne ↦ each-once n zs h (omega (arith, e, below-most n zs h, h n)) k (omega (arith, lt, ne))
    ]

-- labels below their count of which none comes twice are each of these numbers once
pub numbering-found : (zs : List ℤ) → All (IsBelow (length zs)) zs → ((k : ℕ) → label_count k zs ≤ 1)
    → IsNumbering zs
numbering-found zs h once = each-once (length zs) zs once (below-all (length zs) zs h)

-- ---- and the other way round

pub below-each : (n : ℕ) (zs : List ℤ) → ((k : ℕ) → k < n → label_count k zs ≡ 1)
    → below_count n zs ≡ n
below-each zero zs h = refl
below-each (suc n) zs h = omega (arith, below-each n zs (λ k lt. h k (omega (arith, lt))), h n (omega arith))

below-cons : (n : ℕ) (z : ℤ) (zs : List ℤ)
    → (IsBelow n z × (below_count n (z ∷ zs) ≡ suc (below_count n zs)))
    ⊎ (below_count n (z ∷ zs) ≡ below_count n zs)
below-cons zero z zs = inr refl
below-cons (suc n) z zs =
    elim (cases_Bool (int_eq (pos n) z)) [
      | inl e ↦
          let is : pos n ≡ z = (Decides-int_eq (pos n) z).0 e in
          let past : below_count n (z ∷ zs) ≡ below_count n zs =
          subst (λ y. below_count n (y ∷ zs) ≡ below_count n zs) is (below-past n n zs (omega arith)) in
          inl (record { place = n; is = sym is; less = omega arith }, omega (arith, past, count-same n z zs (sym is)))
      | inr e ↦
          let none : label_count n (z ∷ zs) ≡ label_count n zs = count-cons n z zs ∙ rw e (omega arith) in
          elim (below-cons n z zs) [
            | inl h ↦ inl (
              record { place = h.0.place; is = h.0.is; less = omega (arith, h.0.less) },
              omega (arith, h.1, none),
            )
            | inr h ↦ inr (omega (arith, h, none))
          ]
    ]

below-length : (n : ℕ) (zs : List ℤ) → below_count n zs ≤ length zs
below-length n [] = omega (arith, below-nil n)
below-length n (z ∷ zs) = elim (below-cons n z zs) [
  | inl h ↦ omega (arith, h.1, below-length n zs)
  | inr h ↦ omega (arith, h, below-length n zs)
]

all-below : (n : ℕ) (zs : List ℤ) → below_count n zs ≡ length zs → All (IsBelow n) zs
all-below n [] e = All-nil (IsBelow n)
all-below n (z ∷ zs) e =
    elim (below-cons n z zs) [
      | inl h ↦ All-cons (IsBelow n) z zs h.0 (all-below n zs (omega (arith, h.1, e)))
      | inr h ↦ absurd (omega (arith, h, e, below-length n zs))
    ]

-- labels that are the numbers below their count are below it
pub numbering-again : (zs : List ℤ) → IsNumbering zs → All (IsBelow (length zs)) zs
numbering-again zs h = all-below (length zs) zs (below-each (length zs) zs h)

-- ---- the entry of a row

list-skip : (k : ℕ) (front : List ListRow) (row : ListRow) (rest : List ListRow)
    → label_count k (labels front) ≡ 0 → row.label ≡ pos k
    → list_with k (front ++ row ∷ rest) ≡ row.list
list-skip k [] row rest none e = (let h = int-same k row.label e in rw h refl)
list-skip k (r ∷ front) row rest none e =
    elim (cases_Bool (int_eq (pos k) r.label)) [
      | inl h ↦ absurd (let c = count-same k r.label (labels front) (sym ((Decides-int_eq (pos k) r.label).0 h)) in
          omega (arith, c, none))
      | inr h ↦ (let c : label_count k (labels front) ≡ 0 =
          omega (arith, count-rest k r.label (labels front), none) in rw h (list-skip k front row rest c e))
    ]

before-skip : (k : ℕ) (front : List ListRow) (row : ListRow) (rest : List ListRow)
    → label_count k (labels front) ≡ 0 → row.label ≡ pos k
    → rows_before k (front ++ row ∷ rest) ≡ length front
before-skip k [] row rest none e = (let h = int-same k row.label e in rw h refl)
before-skip k (r ∷ front) row rest none e =
    elim (cases_Bool (int_eq (pos k) r.label)) [
      | inl h ↦ absurd (let c = count-same k r.label (labels front) (sym ((Decides-int_eq (pos k) r.label).0 h)) in
          omega (arith, c, none))
      | inr h ↦ (let c : label_count k (labels front) ≡ 0 =
          omega (arith, count-rest k r.label (labels front), none) in
          rw h (omega (arith, before-skip k front row rest c e)))
    ]

-- the rows that come first have other labels than one that comes once
first-none : (k : ℕ) (front : List ListRow) (row : ListRow) (rest : List ListRow) → row.label ≡ pos k
    → label_count k (labels (front ++ row ∷ rest)) ≤ 1 → label_count k (labels front) ≡ 0
first-none k front row rest e once =
    let all : label_count k (labels (front ++ row ∷ rest))
    ≡ label_count k (labels front) + label_count k (labels (row ∷ rest)) =
    ap (label_count k) (map-append (λ (r : ListRow). r.label) front (row ∷ rest))
    ∙ count-append k (labels front) (labels (row ∷ rest)) in
    omega (arith, all, once, count-same k row.label (labels rest) e)

-- each row's entry is its list and its place there
abbrev pub Known : IvfValue → ℕ → ℕ → ℕ → List ListRow → Type 0
Known v n list offset [] = Unit {0}
Known v n list offset (row ∷ rows) = ((k : ℕ) → k < n → row.label ≡ pos k
    → entry_of v k ≡ entry list offset) × Known v n list (offset + 1) rows

module _ (v : IvfValue) (n : ℕ) (once : (k : ℕ) → k < n → label_count k (labels v.rows) ≤ 1) where
  pub known-on : (list : ℕ) (front pre rows rest : List ListRow) → v.rows ≡ front ++ ((pre ++ rows) ++ rest)
      → rows_at v.rows list ≡ pre ++ rows → AreOn list rows → Known v n list (length pre) rows
  unfolding entry_of on_list
  known-on list front pre [] rest whole own on = tt
  known-on list front pre (row ∷ rows) rest whole own on =
      let here : row.list ≡ list = All-head (λ (r : ListRow). r.list ≡ list) row rows on in
      let split : v.rows ≡ (front ++ pre) ++ (row ∷ (rows ++ rest)) =
      whole ∙ ap (λ (xs : List ListRow). front ++ xs) (append_assoc pre (row ∷ rows) rest)
      ∙ sym (append_assoc front pre (row ∷ (rows ++ rest))) in
      let push : pre ++ (row ∷ rows) ≡ (pre ++ row ∷ []) ++ rows = sym (append_assoc pre (row ∷ []) rows) in
      let next : Known v n list (length (pre ++ row ∷ [])) rows =
      known-on list front (pre ++ row ∷ []) rows rest (whole
      ∙ ap (λ (xs : List ListRow). front ++ (xs ++ rest)) push) (own ∙ push)
      (All-tail (λ (r : ListRow). r.list ≡ list) row rows on) in
      let len : length (pre ++ row ∷ []) ≡ length pre + 1 = omega (arith, length-append pre (row ∷ [])) in (
        (λ k lt e. (
            let clear = first-none k (front ++ pre) row (rows ++ rest) e
            (subst (λ (rs : List ListRow). label_count k (labels rs) ≤ 1) split (once k lt)) in
            let parts : label_count k (labels (front ++ pre))
            ≡ label_count k (labels front) + label_count k (labels pre) =
            ap (label_count k) (map-append (λ (r : ListRow). r.label) front pre)
            ∙ count-append k (labels front) (labels pre) in
            let on_it : list_with k v.rows ≡ list =
            ap (list_with k) split ∙ list-skip k (front ++ pre) row (rows ++ rest) clear e ∙ here in
            let at_it : rows_before k (rows_at v.rows list) ≡ length pre =
            ap (rows_before k) own ∙ before-skip k pre row rows (omega (arith, clear, parts)) e in
            ap (λ l. entry l (rows_before k (rows_at v.rows l))) on_it ∙ ap (entry list) at_it)),
        subst (λ o. Known v n list o rows) len next,
      )

  pub known-all : (front : List ListRow) (ps : List ListSize) (rss : List (List ListRow))
      → v.rows ≡ front ++ concat rss → Pairs (IsOwn v.rows) ps rss → Pairs AreRows ps rss
      → Pairs (λ p rs. Known v n p.list 0 rs) ps rss
  known-all front [] [] whole own h = tt
  known-all front [] (rs ∷ rss) whole own h = absurd h
  known-all front (p ∷ ps) [] whole own h = absurd h
  known-all front (p ∷ ps) (rs ∷ rss) whole (own, owns) (are, h) = (
    known-on p.list front [] rs (concat rss) whole own are.on,
    known-all (front ++ rs) ps rss (whole ∙ sym (append_assoc front rs (concat rss))) owns h,
  )

-- ---- entries that name their rows

-- each row's label is below n, and the entry there is its list and its place
abbrev pub Names : List ℕ → ℕ → ℕ → ℕ → List ListRow → Type 0
Names entries n list offset [] = Unit {0}
Names entries n list offset (row ∷ rows) =
    ((k : ℕ) × (row.label ≡ pos k) × (k < n) × (slice_index entries k ≡ entry list offset))
    × Names entries n list (offset + 1) rows

-- the same of rows in order, whose entries go up
abbrev pub Climb : List ℕ → ℕ → ℕ → List ListRow → Type 0
Climb entries n least [] = Unit {0}
Climb entries n least (row ∷ rows) = (k : ℕ) × (row.label ≡ pos k) × (k < n)
    × (least ≤ slice_index entries k) × Climb entries n (slice_index entries k + 1) rows

climb-from : (entries : List ℕ) (n least more : ℕ) (rows : List ListRow) → Climb entries n more rows
    → least ≤ more → Climb entries n least rows
climb-from entries n least more [] h le = tt
climb-from entries n least more (row ∷ rows) (k, e, lt, from, rest) le = (k, e, lt, omega (arith, from, le), rest)

climb-on : (entries : List ℕ) (n list offset least : ℕ) (rows rest : List ListRow)
    → Names entries n list offset rows → Climb entries n (entry list (offset + length rows)) rest
    → least ≤ entry list offset → Climb entries n least (rows ++ rest)
climb-on entries n list offset least [] rest h more le =
    climb-from entries n least (entry list (offset + 0)) rest more (omega (arith, le))
climb-on entries n list offset least (row ∷ rows) rest ((k, e, lt, is), h) more le =
    let move : entry list (offset + length (row ∷ rows)) ≡ entry list ((offset + 1) + length rows)
    = omega arith in (
      k,
      e,
      lt,
      omega (arith, is, le),
      climb-on entries n list (offset + 1) (slice_index entries k + 1) rows rest h
          (subst (λ l. Climb entries n l rest) move more) (omega (arith, is)),
    )

pub climb-all : (entries : List ℕ) (n least limit : ℕ) (ps : List ListSize) (rss : List (List ListRow))
    → Rising least limit ps → Pairs AreRows ps rss
    → Pairs (λ p rs. Names entries n p.list 0 rs × (length rs ≤ 2 ^ 32)) ps rss
    → Climb entries n (entry least 0) (concat rss)
climb-all entries n least limit [] [] up are h = tt
climb-all entries n least limit [] (rs ∷ rss) up are h = absurd h
climb-all entries n least limit (p ∷ ps) [] up are h = absurd h
climb-all entries n least limit (p ∷ ps) (rs ∷ rss) (from, to, some, up) (own, are) ((names, small), h) =
    let rest = climb-all entries n (p.list + 1) limit ps rss up are h in
    let next : entry p.list (0 + length rs) ≤ entry (p.list + 1) 0 = omega (arith, small) in
    climb-on entries n p.list 0 (entry least 0) rs (concat rss) names
    (climb-from entries n (entry p.list (0 + length rs)) (entry (p.list + 1) 0) (concat rss) rest next)
    (omega (arith, from))

climb-none : (entries : List ℕ) (n least k : ℕ) (rows : List ListRow) → Climb entries n least rows
    → slice_index entries k < least → label_count k (labels rows) ≡ 0
climb-none entries n least k [] h lt = refl
climb-none entries n least k (row ∷ rows) (i, e, less, from, rest) lt =
    let ih = climb-none entries n (slice_index entries i + 1) k rows rest (omega (arith, from, lt)) in
    elim (cases_eq i k) [
      | inl same ↦ absurd (let h : slice_index entries i ≡ slice_index entries k =
          ap (slice_index entries) same in omega (arith, h, from, lt))
      | inr ne ↦ ap (λ (z : ℤ). label_count k (z ∷ labels rows)) e ∙ count-other k i (labels rows) ne ∙ ih
    ]

pub climb-once : (entries : List ℕ) (n least k : ℕ) (rows : List ListRow) → Climb entries n least rows
    → label_count k (labels rows) ≤ 1
climb-once entries n least k [] h = omega arith
climb-once entries n least k (row ∷ rows) (i, e, less, from, rest) =
    elim (cases_eq i k) [
      | inl same ↦
          let none = climb-none entries n (slice_index entries i + 1) k rows rest
          (let h : slice_index entries i ≡ slice_index entries k = ap (slice_index entries) same in
          omega (arith, h)) in
          omega (arith, count-same k row.label (labels rows) (e ∙ ap pos same), none)
      | inr ne ↦
          let other : label_count k (labels (row ∷ rows)) ≡ label_count k (labels rows) =
          ap (λ (z : ℤ). label_count k (z ∷ labels rows)) e ∙ count-other k i (labels rows) ne in
          omega (arith, other, climb-once entries n (slice_index entries i + 1) k rows rest)
    ]

pub climb-below : (entries : List ℕ) (n least : ℕ) (rows : List ListRow) → Climb entries n least rows
    → All (IsBelow n) (labels rows)
climb-below entries n least [] h = All-nil (IsBelow n)
climb-below entries n least (row ∷ rows) (i, e, less, from, rest) =
    All-cons (IsBelow n) row.label (labels rows) (record { place = i; is = e; less = less })
    (climb-below entries n (slice_index entries i + 1) rows rest)
