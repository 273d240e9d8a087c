-- The sizes of lists that are read are those that are spelled, and the other way round.
use Rattle.std.proofs.Common.{◌≡◌, inl, inr, ℕ, zero, suc, ◌+◌, ◌/◌, ◌<◌, ◌≤◌, Bool, true}
use Rattle.std.proofs.Common.{false, leb, ltb, eqb, not, ◌||◌, ◌&&◌, cond, List, [], ◌∷◌, ◌++◌}
use Rattle.std.proofs.Common.{length, map, None, refl, sym, ap, subst, ◌∙◌, append_assoc, arith}
use Rattle.std.specs.Prelude.{count_by, nat_lt, sum}
use Rattle.std.specs.List.{list_any, range_with_len}
use Rattle.std.proofs.lemmas.Bool.{cases_eq, eqb-true, eqb-false, eq-eqb, lt-ltb, le-ltb, leb-false, lt-leb, or_parts}
use Rattle.std.proofs.lemmas.Bool.{or_from, not-false, not_from_true, ne_eqb}
use Rattle.std.proofs.lemmas.List.Sums.{sum_by_push, sum_by-append, sum_by-cons}
use Rattle.std.proofs.lemmas.List.{append-nil}
use Rattle.bcodes.specs.Value.{ListRow}
use Rattle.file_parts.specs.Format.{Spells, first_refusal}
use Rattle.file_parts.specs.Fields.{number_of}
use Rattle.file_parts.proofs.Reading.{one_check, two_checks}
use Rattle.index_files.specs.Parts.{◌▸◌, Each, Number}
use Rattle.index_files.specs.IvfFormat.{ListSize, rows_in, full_size_checks, full_sizes, numbered_sizes, list_checks}
use Rattle.index_files.specs.IvfFormat.{sparse_size_checks, sparse_sizes}
use Rattle.index_files.proofs.Heads.{pass_one, pass_two}
use Rattle.index_files.proofs.Each.{Pairs}
use Rattle.index_files.proofs.ListGroups.{rows_at, Rising, AreRows, below, Agree, agree-tail, own-rows}

sum-push : (xs : List ℕ) (s : ℕ) → sum (xs ++ s ∷ []) ≡ sum xs + s
sum-push xs s = sum_by_push (λ x. x) xs s

sum-le : (xs ys : List ℕ) → sum xs ≤ sum (xs ++ ys)
sum-le xs ys = omega (arith, sum_by-append (λ (x : ℕ). x) xs ys)

-- ---- all sizes

pub record FullFound (nlist total n : ℕ) (before ss bytes : List ℕ) : Type 0 where
  pub more : List ℕ
  pub all : ss ≡ before ++ more
  pub count : length more ≡ n
  pub parts : Each (Number 8) more bytes
  pub total_is : 0 < n → sum ss ≡ total
  pub filled : 0 < n → nlist / 2 < count_by (nat_lt 0) ss

push-is : {X : Type 0} (before more : List X) (s : X) → (before ++ s ∷ []) ++ more ≡ before ++ (s ∷ more)
push-is before more s = append_assoc before (s ∷ []) more

pub full-found : (nlist total n : ℕ) (before bytes ss : List ℕ)
    → Spells (full_sizes nlist total n before) bytes ss → FullFound nlist total n before ss bytes
unfolding full_sizes
full-found nlist total zero before bytes ss (none, is) =
    record {
      more = [];
      all = sym is ∙ sym (append-nil before);
      count = refl;
      parts = none;
      total_is =
          λ h. absurd (omega (arith, h));
      filled = λ h. absurd (omega (arith, h));
    }
full-found nlist total (suc zero) before bytes ss (front, back, parts, len, pass, (none, is)) =
    let s = number_of 8 front in
    let last = or_parts _ _ (two_checks _ _ _ _ pass).1 in
    let sum-is : sum (before ++ s ∷ []) ≡ total = eqb-true _ _ (not-false _ last.0) in
    record {
      more = s ∷ [];
      all = sym is;
      count = refl;
      parts = (front, back, parts, record { size = len; reads = refl }, none);
      total_is = λ h. ap sum (sym is) ∙ sum-is;
      filled = λ h. subst (λ xs. nlist / 2 < count_by (nat_lt 0) xs) is (leb-false _ _ last.1);
    }
full-found nlist total (suc (suc n)) before bytes ss (front, back, parts, len, pass, more) =
    let s = number_of 8 front in
    let ih = full-found nlist total (suc n) (before ++ s ∷ []) back ss more in
    record {
      more = s ∷ ih.more;
      all = ih.all ∙ push-is before ih.more s;
      count = ap suc ih.count;
      parts = (front, back, parts, record { size = len; reads = refl }, ih.parts);
      total_is = λ h. ih.total_is (omega arith);
      filled = λ h. ih.filled (omega arith);
    }

pub full-again : (nlist total : ℕ) (more before bytes : List ℕ) → Each (Number 8) more bytes
    → sum (before ++ more) ≡ total → nlist / 2 < count_by (nat_lt 0) (before ++ more)
    → Spells (full_sizes nlist total (length more) before) bytes (before ++ more)
unfolding full_sizes
full-again nlist total [] before bytes none total_is filled = (none, sym (append-nil before))
full-again nlist total (s ∷ []) before bytes (front, back, parts, num, none) total_is filled =
    let c0 = le-ltb total (sum (before ++ s ∷ [])) (omega (arith, total_is)) in
    let c1 = or_from _ _ (not_from_true _ (eq-eqb (sum (before ++ s ∷ [])) total total_is)) (lt-leb _ _ filled) in
    let ok : first_refusal (full_size_checks nlist total 0 before s) ≡ None = rw (c0, c1) refl in (
      front,
      back,
      parts,
      num.size,
      subst (λ k. first_refusal (full_size_checks nlist total 0 before k) ≡ None)
          (sym num.reads) ok,
      rw num.reads (none, refl),
    )
full-again nlist total (s ∷ t ∷ more) before bytes (front, back, parts, num, others) total_is filled =
    let e = push-is before (t ∷ more) s in
    let ih = full-again nlist total (t ∷ more) (before ++ s ∷ []) back others (ap sum e ∙ total_is)
    (subst (λ xs. nlist / 2 < count_by (nat_lt 0) xs) (sym e) filled) in
    let le : sum (before ++ s ∷ []) ≤ total =
    omega (arith, sum-le (before ++ s ∷ []) (t ∷ more), ap sum e, total_is) in
    let c0 = le-ltb total (sum (before ++ s ∷ [])) le in
    let ok : first_refusal (full_size_checks nlist total (suc (length more)) before s) ≡ None =
    (let c1 = ne_eqb (suc (length more)) 0 (omega arith) in rw (c0, c1) refl) in (
      front,
      back,
      parts,
      num.size,
      subst (λ k. first_refusal
          (full_size_checks nlist total (suc (length more)) before k) ≡ None) (sym num.reads) ok,
      rw num.reads (subst (λ xs. Spells (full_sizes nlist total (suc (length more)) (before ++ s ∷ [])) back xs)
          e ih),
    )

-- sizes by their place as lists that are not empty

sum-cons : (s : ℕ) (ss : List ℕ) → sum (s ∷ ss) ≡ s + sum ss
sum-cons s ss = sum_by-cons (λ x. x) s ss

rows-cons : (p : ListSize) (ps : List ListSize) → rows_in (p ∷ ps) ≡ p.size + rows_in ps
rows-cons p ps = sum_by-cons (λ p. p.size) p ps

count-cons : (s : ℕ) (ss : List ℕ) → count_by (nat_lt 0) (s ∷ ss)
    ≡ cond (nat_lt 0 s) 1 0 + count_by (nat_lt 0) ss
count-cons s ss = sum_by-cons (λ x. cond (nat_lt 0 x) 1 0) s ss

pub rising-from : (least more limit : ℕ) (ps : List ListSize) → Rising more limit ps → least ≤ more
    → Rising least limit ps
rising-from least more limit [] h le = tt
rising-from least more limit (p ∷ ps) (from, to, some, up) le = (omega (arith, from, le), to, some, up)

count-none : (s : ℕ) (ss : List ℕ) → s ≡ 0 → count_by (nat_lt 0) (s ∷ ss) ≡ count_by (nat_lt 0) ss
count-none s ss e = count-cons s ss ∙ (let k = le-ltb 0 s (omega (arith, e)) in rw k (omega arith))

count-one : (s : ℕ) (ss : List ℕ) → 0 < s → count_by (nat_lt 0) (s ∷ ss) ≡ suc (count_by (nat_lt 0) ss)
count-one s ss e = count-cons s ss ∙ (let k = lt-ltb 0 s e in rw k (omega arith))

pub record Numbered (i : ℕ) (ss : List ℕ) : Type 0 where
  pub rising : Rising i (i + length ss) (numbered_sizes i ss)
  pub total : rows_in (numbered_sizes i ss) ≡ sum ss
  pub count : length (numbered_sizes i ss) ≡ count_by (nat_lt 0) ss

pub numbered : (i : ℕ) (ss : List ℕ) → Numbered i ss
numbered i [] = record { rising = tt; total = refl; count = refl }
numbered i (s ∷ ss) =
    let ih = numbered (i + 1) ss in
    let move : (i + 1) + length ss ≡ i + length (s ∷ ss) = omega arith in
    let up = subst (λ l. Rising (i + 1) l (numbered_sizes (i + 1) ss)) move ih.rising in
    elim (cases_eq s 0) [
      | inl e ↦
          let is : eqb s 0 ≡ true = eq-eqb s 0 e in
          record {
            rising = rw is (rising-from i (i + 1) (i + length (s ∷ ss)) (numbered_sizes (i + 1) ss) up (omega arith));
            total = rw is (omega (arith, ih.total, sum-cons s ss, e));
            count = rw is (ih.count ∙ sym (count-none s ss e));
          }
      | inr ne ↦
          let is : eqb s 0 ≡ false = ne_eqb s 0 ne in
          let some : 0 < s = omega (arith, ne) in
          let p : ListSize = record { list = i; size = s } in
          record {
            rising = rw is (omega arith, omega arith, some, up);
            total = rw is (omega (arith, ih.total, sum-cons s ss, rows-cons p (numbered_sizes (i + 1) ss)));
            count = rw is (ap suc ih.count ∙ sym (count-one s ss some));
          }
    ]

-- each size is that of its list
pub sizes-are : (whole : List ListRow) (i : ℕ) (ss : List ℕ) (rss : List (List ListRow))
    → Pairs AreRows (numbered_sizes i ss) rss → Agree whole i rss
    → ss ≡ map (λ list. length (rows_at whole list)) (range_with_len i (length ss))
sizes-are whole i [] rss h agree = refl
sizes-are whole i (s ∷ ss) rss h agree =
    elim (cases_eq s 0) [
      | inl e ↦
          let is : eqb s 0 ≡ true = eq-eqb s 0 e in
          let pairs : Pairs AreRows (numbered_sizes (i + 1) ss) rss = rw is at h in
          let n = numbered (i + 1) ss in
          let none : rows_at whole i ≡ [] = agree i (omega arith)
          ∙ below (i + 1) ((i + 1) + length ss) i (numbered_sizes (i + 1) ss) rss n.rising pairs
          (omega arith) in
          let ih = sizes-are whole (i + 1) ss rss pairs (λ list le. agree list (omega (arith, le))) in
          rw none (ap (λ (x : ℕ). x ∷ ss) e ∙ ap (λ (xs : List ℕ). 0 ∷ xs) ih)
      | inr ne ↦
          let is : eqb s 0 ≡ false = ne_eqb s 0 ne in
          first (sizes-are whole (i + 1) ss) rss ne (rw is at h) agree
    ]
  where
    first : ((rss : List (List ListRow)) → Pairs AreRows (numbered_sizes (i + 1) ss) rss → Agree whole (i + 1) rss
        → ss ≡ map (λ list. length (rows_at whole list)) (range_with_len (i + 1) (length ss)))
        → (rss : List (List ListRow)) → (s ≡ 0 → ⊥)
        → Pairs AreRows (record { list = i; size = s } ∷ numbered_sizes (i + 1) ss) rss → Agree whole i rss
        → s ∷ ss ≡ length (rows_at whole i) ∷ map (λ list. length (rows_at whole list))
        (range_with_len (i + 1) (length ss))
    first tail [] ne h agree = absurd h
    first tail (rs ∷ rss) ne (own, h) agree =
        let p : ListSize = record { list = i; size = s } in
        let n = numbered (i + 1) ss in
        let all = own-rows whole i ((i + 1) + length ss) (p ∷ numbered_sizes (i + 1) ss) (rs ∷ rss) (
          omega arith,
          omega arith,
          omega (arith, ne),
          n.rising,
        ) (own, h) agree in
        let here : length (rows_at whole i) ≡ s = ap length all.0 ∙ own.count in
        let ih = tail rss h (agree-tail whole i p rs rss agree own (omega arith)) in
        rw here (ap (λ (xs : List ℕ). s ∷ xs) ih)

-- ---- the sizes of lists that are not empty

abbrev pub PairPart : ListSize → List ℕ → Type 0
PairPart p = Number 8 p.list ▸ Number 8 p.size

-- no number of a list before is as great
abbrev Above : ℕ → List ListSize → Type 0
Above least before = (list : ℕ) → list_any (λ p. leb list p.list) before ≡ false → least ≤ list

any-push : (test : ListSize → Bool) (ps : List ListSize) (p : ListSize) → list_any test (ps ++ p ∷ []) ≡ false
    → (list_any test ps ≡ false) × (test p ≡ false)
any-push test [] p h = (refl, (or_parts _ _ h).0)
any-push test (q ∷ ps) p h =
    let k = or_parts _ _ h in
    let ih = any-push test ps p k.1 in
    (or_from _ _ k.0 ih.0, ih.1)

any-both : (test : ListSize → Bool) (ps : List ListSize) (p : ListSize) → list_any test ps ≡ false
    → test p ≡ false → list_any test (ps ++ p ∷ []) ≡ false
any-both test [] p h k = or_from _ _ k refl
any-both test (q ∷ ps) p h k = (let l = or_parts _ _ h in or_from _ _ l.0 (any-both test ps p l.1 k))

pub record SparseFound (nlist total n least : ℕ) (before ps : List ListSize) (bytes : List ℕ) : Type 0 where
  pub more : List ListSize
  pub all : ps ≡ before ++ more
  pub count : length more ≡ n
  pub rising : Rising least nlist more
  pub parts : Each PairPart more bytes
  pub total_is : 0 < n → rows_in ps ≡ total

rows-push : (ps : List ListSize) (p : ListSize) → rows_in (ps ++ p ∷ []) ≡ rows_in ps + p.size
rows-push ps p = sum_by_push (λ p. p.size) ps p

zero-or : (s : ℕ) → eqb s 0 ≡ false → 0 < s
zero-or s e = (let ne = eqb-false s 0 e in omega (arith, ne))

and-false : (a b : Bool) → a ≡ true → (a && b) ≡ false → b ≡ false
and-false true b e h = h
and-false false b e h = absurd cc

pub sparse-found : (nlist total n least : ℕ) (before : List ListSize) (bytes : List ℕ) (ps : List ListSize)
    → Above least before → Spells (sparse_sizes nlist total n before) bytes ps
    → SparseFound nlist total n least before ps bytes
unfolding sparse_sizes
sparse-found nlist total zero least before bytes ps above (none, is) =
    record {
      more = [];
      all = sym is ∙ sym (append-nil before);
      count = refl;
      rising = tt;
      parts = none;
      total_is =
          λ h. absurd (omega (arith, h));
    }
sparse-found nlist total (suc n) least before bytes ps above (f0, b0, p0, l0, c0, (f1, b1, p1, l1, c1, more)) =
    let list = number_of 8 f0 in
    let size = number_of 8 f1 in
    let p : ListSize = record { list = list; size = size } in
    let ok = or_parts _ _ (one_check _ _ c0) in
    let from : least ≤ list = above list ok.1 in
    let to : list < nlist = leb-false _ _ ok.0 in
    let checks = two_checks _ _ _ _ c1 in
    let some : 0 < size = zero-or size (or_parts _ _ checks.0).0 in
    let next : Above (list + 1) (before ++ p ∷ []) =
    λ other h. (let k = leb-false _ _ (any-push (λ p. leb other p.list) before p h).1 in omega (arith, k)) in
    let ih = sparse-found nlist total n (list + 1) (before ++ p ∷ []) b1 ps next more in
    record {
      more = p ∷ ih.more;
      all = ih.all ∙ push-is before ih.more p;
      count = ap suc ih.count;
      rising = (from, to, some, ih.rising);
      parts = (
        f0 ++ f1,
        b1,
        p0 ∙ ap (λ (b : List ℕ). f0 ++ b) p1 ∙ sym (append_assoc f0 f1 b1),
        (f0, f1, refl, record { size = l0; reads = refl }, record { size = l1; reads = refl }),
        ih.parts,
      );
      total_is = λ h. (elim (cases_eq n 0) [
        | inl e ↦
            let last : not (eqb (rows_in before + size) total) ≡ false =
            and-false (eqb n 0) _ (eq-eqb n 0 e) checks.1 in
            let sum-is : rows_in before + size ≡ total = eqb-true _ _ (not-false _ last) in
            ends p ih.more (ih.count ∙ e) ih.all ∙ rows-push before p ∙ sum-is
        | inr ne ↦ ih.total_is (omega (arith, ne))
      ]);
    }
  where
    ends : (p : ListSize) (more : List ListSize) → length more ≡ 0 → ps ≡ (before ++ p ∷ []) ++ more
        → rows_in ps ≡ rows_in (before ++ p ∷ [])
    ends p [] e h = ap rows_in h ∙ ap rows_in (append-nil (before ++ p ∷ []))
    ends p (q ∷ qs) e h = absurd (omega (arith, e))

-- each number from `least` on is above those before
abbrev Clear : ℕ → List ListSize → Type 0
Clear least before = (list : ℕ) → least ≤ list → list_any (λ p. leb list p.list) before ≡ false

pub sparse-again : (nlist total least : ℕ) (more before : List ListSize) (bytes : List ℕ) → Clear least before
    → Rising least nlist more → rows_in (before ++ more) ≡ total → Each PairPart more bytes
    → Spells (sparse_sizes nlist total (length more) before) bytes (before ++ more)
unfolding sparse_sizes
sparse-again nlist total least [] before bytes clear up total_is none = (none, sym (append-nil before))
sparse-again nlist total least (p ∷ more) before bytes clear (from, to, some, up) total_is (
  f,
  b,
  parts,
  (f0, f1, parts1, num, siz),
  others,
) =
    let e = push-is before more p in
    let next : Clear (p.list + 1) (before ++ p ∷ []) =
    λ list le. any-both (λ q. leb list q.list) before p (clear list (omega (arith, from, le)))
    (lt-leb list p.list (omega (arith, le))) in
    let ih = sparse-again nlist total (p.list + 1) more (before ++ p ∷ []) b next up (ap rows_in e
    ∙ total_is) others in
    let sums : rows_in before + (p.size + rows_in more) ≡ total =
    omega (arith, sum_by-append (λ (q : ListSize). q.size) before (p ∷ more), rows-cons p more, total_is) in
    let c0 : first_refusal (list_checks nlist before p.list) ≡ None =
    pass_one _ _ (or_from _ _ (lt-leb nlist p.list to) (clear p.list from)) in
    let c1 : (eqb p.size 0 || ltb total (rows_in before + p.size)) ≡ false =
    or_from _ _ (ne_eqb p.size 0 (omega (arith, some))) (le-ltb _ _ (omega (arith, sums))) in
    let c2 = last more (rows_in before + p.size) (omega (arith, sums)) in
    let ok : first_refusal (sparse_size_checks total (length more) before p.size) ≡ None = pass_two _ _ _ _ c1 c2 in
    let whole : bytes ≡ f0 ++ (f1 ++ b) =
    parts ∙ ap (λ (t : List ℕ). t ++ b) parts1 ∙ append_assoc f0 f1 b in (
      f0,
      f1 ++ b,
      whole,
      num.size,
      subst (λ k. first_refusal (list_checks nlist before k) ≡ None) (sym num.reads) c0,
      (
        f1,
        b,
        refl,
        siz.size,
        subst (λ k. first_refusal (sparse_size_checks total (length more) before k) ≡ None) (sym siz.reads) ok,
        rw (num.reads, siz.reads) (subst (λ ps. Spells
            (sparse_sizes nlist total (length more) (before ++ p ∷ [])) b ps) e ih),
      ),
    )
  where
    last : (more : List ListSize) (k : ℕ) → k + rows_in more ≡ total
        → (eqb (length more) 0 && not (eqb k total)) ≡ false
    last [] k h = not_from_true _ (eq-eqb k total (omega (arith, h)))
    last (q ∷ qs) k h = (let e = ne_eqb (suc (length qs)) 0 (omega arith) in rw e refl)
