-- Reading the fields of an IVF.
use Rattle.std.proofs.Common.{◌≡◌, ◌⊎◌, ℕ, zero, suc, ◌+◌, ◌-◌, ◌*◌, ◌/◌, ◌^◌, ◌<◌}
use Rattle.std.proofs.Common.{◌≤◌, ℤ, Bool, true, false, eqb, ltb, leb, not, ◌||◌, ◌&&◌, cond, List, []}
use Rattle.std.proofs.Common.{◌∷◌, ◌++◌, get_or, length, map, take, drop, All, Option, Some, None, is_some, Result, Ok}
use Rattle.std.proofs.Common.{Err, inl, inr, refl, sym, ap, subst, ◌∙◌, append_assoc, arith, mul-le-mul_right}
use Rattle.std.specs.Prelude.{FitsSigned, count_by, nat_le, nat_lt, sum}
use Rattle.std.specs.Int.{w64}
use Rattle.std.specs.List.{flat_map, list_any, range_with_len, zip}
use Rattle.std.proofs.lemmas.Bool.{and_parts, cases_Bool, cases_eq, eqb-true, eq-eqb, ne_eqb, lt-ltb, le-ltb}
use Rattle.std.proofs.lemmas.Bool.{leb-true, leb-false}
use Rattle.std.proofs.Math.Seq.{drop-append_seam, take-add}
use Rattle.std.proofs.lemmas.List.{append-nil, length-append, length-map, length-take-le, map-append, drop_more}
use Rattle.std.proofs.lemmas.List.{take-append-drop}
use Rattle.std.proofs.lemmas.List.{take_more}
use Rattle.std.proofs.lemmas.Grind.{flat_map-append}
use Rattle.std.proofs.lemmas.List.Elements.{All-nil, All-cons, All-head, All-tail}
use Rattle.std.proofs.lemmas.List.Sums.{sum_by-append, sum_by-cons, sum_by_push}
use Rattle.bcodes.specs.Answers.{paired}
use Rattle.bcodes.specs.Chunks.{chunks_of}
use Rattle.bcodes.specs.Ranges.{load_limit}
use Rattle.bcodes.specs.Value.{CodeList, HasBytes, IsNumbering, IsPlace, Ivf, IvfValue, ListRow, Row, row_of, weight}
use Rattle.file_parts.specs.declared.file_fault.FileFault.{FileFault}
use Rattle.file_parts.specs.declared.part_error.PartError.{PartError}
use Rattle.file_parts.specs.declared.part_error.PartError.TheVariants as part
use Rattle.file_parts.specs.declared.head.Head.{Head}
use Rattle.file_parts.specs.declared.role.Role.{Role}
use Rattle.file_parts.specs.declared.role.Role.TheVariants.{Outermost, Within, Quantizer}
use Rattle.file_parts.specs.Format.{Check, Format, Place, done, ◌>>=◌, first_refusal, on_pass, run, after}
use Rattle.file_parts.specs.Fields.{any_signed, bytes_field, each, no_check, number, repeated, rows_beside, signed}
use Rattle.file_parts.specs.Fields.{signed_of, takes_count}
use Rattle.file_parts.specs.Feeding.{GivesError}
use Rattle.file_parts.specs.Heads.{IsHead}
use Rattle.index_files.specs.Laws.{FitsRole, IsBodyRole}
use Rattle.file_parts.proofs.Reading.{◌>>>◌, okay, ok-is, run_then, two_checks}
use Rattle.file_parts.proofs.Repeats.{with_front}
use Rattle.ivf_index.specs.Table.{put_row}
use Rattle.index_files.specs.FlatFormat.{is_inside}
use Rattle.index_files.specs.Groups.{concat}
use Rattle.index_files.specs.IvfFormat.{ListSize, full_size_checks, full_sizes, list_rows, numbered_sizes, rows_in}
use Rattle.index_files.specs.IvfFormat.{list_id, rows_on, sparse_sizes}
use Rattle.index_files.specs.IvfSteps.{AreFilled, AreListRows, ArePassed, IdRules, filled_sizes, list_pair, row_lists}
use Rattle.index_files.proofs.Each.{Pairs, pairs-map}
use Rattle.index_files.proofs.ListGroups.{AreRows, Rising}
use Rattle.index_files.proofs.Sizes.{numbered}
use Rattle.index_files.proofs.ListRows.{Ids, RowsRead}
use Rattle.index_files.proofs.IvfFacts.{all-names, all-places, total-length}
use Rattle.index_files.proofs.Numbering.{Climb, IsBelow, climb-all, climb-below, climb-once, labels, numbering-found}

-- ---- one field more

-- a signed number that is tried by checks
pub signed_gives : (w : ℕ) (checks : ℤ → List Check) (p q : Place) (z : ℤ)
    → run (any_signed w) p ≡ Ok (z, q)
    → run (signed w checks) p ≡ on_pass p.at (first_refusal (checks z)) (Ok (z, q))
signed_gives w checks p q z e =
    elim (cases_Bool (ltb (length p.bytes) w)) [
      | inl h ↦ absurd (let k = rw h at e in cc)
      | inr h ↦
          let k : okay (signed_of w (take w p.bytes), after w p) ≡ Ok (z, q) = rw h at e in
          let b : signed_of w (take w p.bytes) ≡ z = ap (λ (x : ℤ × Place). x.0) (ok-is _ _ k) in
          let r : after w p ≡ q = ap (λ (x : ℤ × Place). x.1) (ok-is _ _ k) in
          rw (h, b, r) refl
    ]

-- what follows is read where the first part ended
pub step : {A B : Type 0} (f : Format A) (k : A → Format B) (p q : Place) (x : A) → run f p ≡ Ok (x, q)
    → run (f >>= k) p ≡ run (k x) q
step f k p q x h = run_then f k p ∙ ap (λ r. r >>> (λ y. run (k y.0) y.1)) h

-- the fault of the first part is that of the whole
pub stops : {A B : Type 0} (f : Format A) (k : A → Format B) (p : Place) (e : PartError)
    → GivesError e (run f p) → GivesError e (run (f >>= k) p)
stops f k p (part.Bad b) h = run_then f k p ∙ ap (λ r. r >>> (λ y. run (k y.0) y.1)) h
stops f k p part.Failed h = tt
stops f k p part.Memory h = tt

pub error_is : {Y : Type 0} (e : PartError) (a b : Result Y FileFault) → GivesError e a → a ≡ b → GivesError e b
error_is e a b h same = subst (GivesError e) same h

-- the fault of what follows is that of the whole
pub stops_later : {A B : Type 0} (f : Format A) (k : A → Format B) (p q : Place) (x : A) (e : PartError)
    → run f p ≡ Ok (x, q) → GivesError e (run (k x) q) → GivesError e (run (f >>= k) p)
stops_later f k p q x e h stop = error_is e _ _ stop (sym (step f k p q x h))

-- codes as the header of a quantizer lets them be
pub quantizer_load : (role : Role) (d n : ℕ) → (rows_beside role + n) * (d / 8 + 16) ≤ load_limit
    → weight d 0 0 n ≤ load_limit
quantizer_load role d n le =
    let less : n * (d / 8 + 16) ≤ (rows_beside role + n) * (d / 8 + 16) = grind arith in
    let same : weight d 0 0 n ≡ n * (d / 8 + 16) = grind arith in
    omega (arith, le, less, same)

-- ---- lists by their numbers

pub rising-of : (least limit : ℕ) (ps : List ListSize) → AreFilled least limit ps → Rising least limit ps
rising-of least limit [] h = tt
rising-of least limit (p ∷ ps) (from, to, some, h) = (from, to, some, rising-of (p.list + 1) limit ps h)

pub filled-of : (least limit : ℕ) (ps : List ListSize) → Rising least limit ps → AreFilled least limit ps
filled-of least limit [] h = tt
filled-of least limit (p ∷ ps) (from, to, some, h) = (from, to, some, filled-of (p.list + 1) limit ps h)

pub filled-within : (least limit most : ℕ) (ps : List ListSize) → limit ≤ most → AreFilled least limit ps
    → AreFilled least most ps
filled-within least limit most [] le h = tt
filled-within least limit most (p ∷ ps) le (from, to, some, h) =
    (from, omega (arith, to, le), some, filled-within (p.list + 1) limit most ps le h)

-- one list more
pub filled-push : (least next : ℕ) (ps : List ListSize) (p : ListSize) → least ≤ next → next ≤ p.list → 0 < p.size
    → AreFilled least next ps → AreFilled least (p.list + 1) (ps ++ p ∷ [])
filled-push least next [] p le from some h = (omega (arith, le, from), omega arith, some, tt)
filled-push least next (q ∷ ps) p le from some (least_q, to, some_q, h) = (
  least_q,
  omega (arith, to, from),
  some_q,
  filled-push (q.list + 1) next ps p (omega (arith, to)) from some h,
)

-- of lists from `least` on, the one at a place
pub filled-at : (least limit : ℕ) (ps : List ListSize) (p : ListSize) (rest : List ListSize)
    → AreFilled least limit (ps ++ p ∷ rest) → (p.list < limit) × (0 < p.size)
filled-at least limit [] p rest (from, to, some, h) = (to, some)
filled-at least limit (q ∷ ps) p rest (from, to, some, h) = filled-at (q.list + 1) limit ps p rest h

pub rows-push : (ps : List ListSize) (p : ListSize) → rows_in (ps ++ p ∷ []) ≡ rows_in ps + p.size
rows-push ps p = sum_by_push (λ (p : ListSize). p.size) ps p

-- ---- the sizes of all lists

-- sizes that were read, of which those of lists that are not empty are kept
pub record AreNoted (list rows : ℕ) (kept : List ListSize) (before : List ℕ) : Type 0 where
  pub count : length before ≡ list
  pub kept_is : numbered_sizes 0 before ≡ kept
  pub sum_is : sum before ≡ rows

numbered-push : (i : ℕ) (before : List ℕ) (s : ℕ)
    → numbered_sizes i (before ++ s ∷ [])
    ≡ numbered_sizes i before ++ numbered_sizes (i + length before) (s ∷ [])
numbered-push i [] s = (let e : i + 0 ≡ i = omega arith in
    ap (λ (n : ℕ). numbered_sizes n (s ∷ [])) (sym e))
numbered-push i (t ∷ before) s =
    let move : (i + 1) + length before ≡ i + length (t ∷ before) = omega arith in
    let ih : numbered_sizes (i + 1) (before ++ s ∷ [])
    ≡ numbered_sizes (i + 1) before ++ numbered_sizes (i + length (t ∷ before)) (s ∷ []) =
    numbered-push (i + 1) before s
    ∙ ap (λ (n : ℕ). numbered_sizes (i + 1) before ++ numbered_sizes n (s ∷ [])) move in
    elim (cases_Bool (eqb t 0)) [
      | inl e ↦ rw e ih
      | inr e ↦ rw e (ap (λ (ps : List ListSize). record { list = i; size = t } ∷ ps) ih)
    ]

-- one size more
pub noted-more : (list rows size : ℕ) (kept after : List ListSize) (before : List ℕ)
    → AreNoted list rows kept before
    → after ≡ cond (eqb size 0) kept (kept ++ record { list = list; size = size } ∷ [])
    → AreNoted (list + 1) (rows + size) after (before ++ size ∷ [])
noted-more list rows size kept after before h is =
    record {
      count = length-append before (size ∷ []) ∙ ap (λ (n : ℕ). n + 1) h.count;
      kept_is = numbered-push 0 before size
          ∙ ap (λ (ps : List ListSize). ps ++ numbered_sizes (0 + length before) (size ∷ [])) h.kept_is
          ∙ ap (λ (n : ℕ). kept ++ numbered_sizes n (size ∷ [])) at ∙ one ∙ sym is;
      sum_is = sum_by_push (λ (x : ℕ). x) before size ∙ ap (λ (n : ℕ). n + size) h.sum_is;
    }
  where
    at : 0 + length before ≡ list
    at = omega (arith, h.count)

    one : kept ++ numbered_sizes list (size ∷ [])
        ≡ cond (eqb size 0) kept (kept ++ record { list = list; size = size } ∷ [])
    one = elim (cases_Bool (eqb size 0)) [ inl e ↦ rw e (append-nil kept) | inr e ↦ rw e refl ]

pub noted-none : AreNoted 0 0 [] []
noted-none = record { count = refl; kept_is = refl; sum_is = refl }

-- how many lists are not empty
pub noted-count : (list rows : ℕ) (kept : List ListSize) (before : List ℕ) → AreNoted list rows kept before
    → count_by (nat_lt 0) before ≡ length kept
noted-count list rows kept before h =
    (let n = numbered 0 before in sym n.count ∙ ap length h.kept_is)

count-le : (ss : List ℕ) → count_by (nat_lt 0) ss ≤ length ss
count-le [] = omega arith
count-le (s ∷ ss) =
    let one : cond (nat_lt 0 s) 1 0 ≤ 1 = elim (cases_Bool (ltb 0 s)) [
      | inl e ↦ rw e (omega arith)
      | inr e ↦ rw e (omega arith)
    ] in
    omega (arith, sum_by-cons (λ (x : ℕ). cond (nat_lt 0 x) 1 0) s ss, count-le ss, one)

pub noted-few : (list rows : ℕ) (kept : List ListSize) (before : List ℕ) → AreNoted list rows kept before
    → length kept ≤ list
noted-few list rows kept before h =
    omega (arith, noted-count list rows kept before h, count-le before, h.count)

-- all sizes were read
pub noted-filled : (nlist rows : ℕ) (kept : List ListSize) (before : List ℕ) → AreNoted nlist rows kept before
    → AreFilled 0 nlist kept
noted-filled nlist rows kept before h =
    let n = numbered 0 before in
    let limit : 0 + length before ≡ nlist = omega (arith, h.count) in
    subst (λ (ps : List ListSize). AreFilled 0 nlist ps) h.kept_is
    (filled-of 0 nlist (numbered_sizes 0 before)
    (subst (λ l. Rising 0 l (numbered_sizes 0 before)) limit n.rising))

pub noted-rows : (list rows : ℕ) (kept : List ListSize) (before : List ℕ) → AreNoted list rows kept before
    → rows_in kept ≡ rows
noted-rows list rows kept before h =
    (let n = numbered 0 before in sym (ap rows_in h.kept_is) ∙ n.total ∙ h.sum_is)

pub full-more : (nlist total list size : ℕ) (before : List ℕ) (p q : Place) → list < nlist
    → run (number 8 (full_size_checks nlist total (nlist - (list + 1)) before)) p ≡ Ok (size, q)
    → run (filled_sizes nlist total (nlist - list) before) p
    ≡ run (filled_sizes nlist total (nlist - (list + 1)) (before ++ size ∷ [])) q
unfolding full_sizes
full-more nlist total list size before p q lt h =
    let n : nlist - list ≡ suc (nlist - (list + 1)) = omega arith in
    ap (λ m. run (filled_sizes nlist total m before) p) n
    ∙ step (number 8 (full_size_checks nlist total (nlist - (list + 1)) before))
    (λ s. filled_sizes nlist total (nlist - (list + 1)) (before ++ s ∷ [])) p q size h

pub full-stops : (nlist total list : ℕ) (before : List ℕ) (p : Place) (e : PartError) → list < nlist
    → GivesError e (run (number 8 (full_size_checks nlist total (nlist - (list + 1)) before)) p)
    → GivesError e (run (filled_sizes nlist total (nlist - list) before) p)
unfolding full_sizes
full-stops nlist total list before p e lt h =
    let n : nlist - list ≡ suc (nlist - (list + 1)) = omega arith in
    error_is e _ _ (stops (number 8 (full_size_checks nlist total (nlist - (list + 1)) before))
    (λ s. filled_sizes nlist total (nlist - (list + 1)) (before ++ s ∷ [])) p e h)
    (ap (λ m. run (filled_sizes nlist total m before) p) (sym n))

pub full-done : (nlist total list rows : ℕ) (kept : List ListSize) (before : List ℕ) (p : Place) → nlist ≤ list
    → AreNoted list rows kept before
    → run (filled_sizes nlist total (nlist - list) before) p ≡ Ok (kept, p)
unfolding full_sizes
full-done nlist total list rows kept before p le h =
    let n : nlist - list ≡ 0 = omega arith in
    ap (λ m. run (filled_sizes nlist total m before) p) n
    ∙ ap (λ (ps : List ListSize). okay (ps, p)) h.kept_is

-- ---- the sizes of lists that are not empty

-- no number from `next` on is among those before, and each below it is at most one of these
abbrev pub IsNext : ℕ → List ListSize → Type 0
IsNext next before = (list : ℕ) → list_any (λ p. nat_le list p.list) before ≡ nat_lt list next

any-push : (test : ListSize → Bool) (ps : List ListSize) (p : ListSize)
    → list_any test (ps ++ p ∷ []) ≡ (list_any test ps || test p)
any-push test [] p = elim (cases_Bool (test p)) [ inl e ↦ rw e refl | inr e ↦ rw e refl ]
any-push test (q ∷ ps) p =
    let ih = any-push test ps p in
    elim (cases_Bool (test q)) [ inl e ↦ rw e refl | inr e ↦ rw (e, ih) refl ]

pub next-none : IsNext 0 []
next-none list = sym (le-ltb list 0 (omega arith))

pub next-more : (next : ℕ) (before : List ListSize) (p : ListSize) → IsNext next before → next ≤ p.list
    → IsNext (p.list + 1) (before ++ p ∷ [])
next-more next before p h le list =
    any-push (λ q. leb list q.list) before p ∙ ap (λ (b : Bool). b || leb list p.list) (h list)
    ∙ elim (cases_Bool (leb list p.list)) [
      | inl e ↦
          let m = leb-true list p.list e in
          let k : ltb list (p.list + 1) ≡ true = lt-ltb list (p.list + 1) (omega (arith, m)) in
          rw (e, k) (or-true (ltb list next))
      | inr e ↦
          let m = leb-false list p.list e in
          let a : ltb list next ≡ false = le-ltb list next (omega (arith, m, le)) in
          let k : ltb list (p.list + 1) ≡ false = le-ltb list (p.list + 1) (omega (arith, m)) in
          rw (e, a, k) refl
    ]
  where
    or-true : (b : Bool) → (b || true) ≡ true
    or-true true = refl
    or-true false = refl

pub pair-more : (nlist total pairs i : ℕ) (before : List ListSize) (p q : Place) (pair : ListSize) → i < pairs
    → run (list_pair nlist total (pairs - (i + 1)) before) p ≡ Ok (pair, q)
    → run (sparse_sizes nlist total (pairs - i) before) p
    ≡ run (sparse_sizes nlist total (pairs - (i + 1)) (before ++ pair ∷ [])) q
unfolding sparse_sizes
pair-more nlist total pairs i before p q pair lt h =
    let n : pairs - i ≡ suc (pairs - (i + 1)) = omega arith in
    ap (λ m. run (sparse_sizes nlist total m before) p) n
    ∙ step (list_pair nlist total (pairs - (i + 1)) before)
    (λ r. sparse_sizes nlist total (pairs - (i + 1)) (before ++ r ∷ [])) p q pair h

pub pair-stops : (nlist total pairs i : ℕ) (before : List ListSize) (p : Place) (e : PartError) → i < pairs
    → GivesError e (run (list_pair nlist total (pairs - (i + 1)) before) p)
    → GivesError e (run (sparse_sizes nlist total (pairs - i) before) p)
unfolding sparse_sizes
pair-stops nlist total pairs i before p e lt h =
    let n : pairs - i ≡ suc (pairs - (i + 1)) = omega arith in
    error_is e _ _ (stops (list_pair nlist total (pairs - (i + 1)) before)
    (λ r. sparse_sizes nlist total (pairs - (i + 1)) (before ++ r ∷ [])) p e h)
    (ap (λ m. run (sparse_sizes nlist total m before) p) (sym n))

pub pair-done : (nlist total pairs i : ℕ) (before : List ListSize) (p : Place) → pairs ≤ i
    → run (sparse_sizes nlist total (pairs - i) before) p ≡ Ok (before, p)
unfolding sparse_sizes
pair-done nlist total pairs i before p le =
    (let n : pairs - i ≡ 0 = omega arith in ap (λ m. run (sparse_sizes nlist total m before) p) n)

-- ---- a format for each of some elements

regroup : {A : Type 0} (front : List A) (x : A) (read : Result (List A × Place) FileFault)
    → with_front front (read >>> λ y. Ok (x ∷ y.0, y.1)) ≡ with_front (front ++ x ∷ []) read
regroup {A = A} front x (Ok y) = ap (λ (xs : List A). okay (xs, y.1)) (sym (append_assoc front (x ∷ []) y.0))
regroup front x (Err e) = refl

each-one : {X A : Type 0} (x : X) (xs : List X) (f : X → Format A) (p q : Place) (y : A) → run (f x) p ≡ Ok (y, q)
    → run (each (x ∷ xs) f) p ≡ run (each xs f) q >>> λ ys. Ok (y ∷ ys.0, ys.1)
each-one x xs f p q y h =
    step (f x) (λ y. each xs f >>= λ ys. done (y ∷ ys)) p q y h
    ∙ run_then (each xs f) (λ ys. done (y ∷ ys)) q

-- one element more was read
pub each-more : {X A : Type 0} (front : List A) (x : X) (xs : List X) (f : X → Format A) (p q : Place) (y : A)
    (total : Result (List A × Place) FileFault) → run (f x) p ≡ Ok (y, q)
    → with_front front (run (each (x ∷ xs) f) p) ≡ total
    → with_front (front ++ y ∷ []) (run (each xs f) q) ≡ total
each-more front x xs f p q y total h so_far =
    sym (regroup front y (run (each xs f) q)) ∙ ap (with_front front) (sym (each-one x xs f p q y h)) ∙ so_far

pub each-stops : {X A : Type 0} (front : List A) (x : X) (xs : List X) (f : X → Format A) (p : Place) (e : PartError)
    (total : Result (List A × Place) FileFault) → GivesError e (run (f x) p)
    → with_front front (run (each (x ∷ xs) f) p) ≡ total → GivesError e total
each-stops front x xs f p (part.Bad b) total h so_far =
    sym so_far ∙ ap (with_front front) (stops (f x) (λ y. each xs f >>= λ ys. done (y ∷ ys)) p (part.Bad b) h)
each-stops front x xs f p part.Failed total h so_far = tt
each-stops front x xs f p part.Memory total h so_far = tt

-- ---- ids

pub passed-push : (rules : IdRules) (list offset : ℕ) (ids : List ℤ) (id : ℤ) → ArePassed rules list offset ids
    → ArePassed rules list (offset + length ids) (id ∷ []) → ArePassed rules list offset (ids ++ id ∷ [])
passed-push rules list offset [] id h one =
    (let e : offset + 0 ≡ offset = omega arith in subst (λ o. ArePassed rules list o (id ∷ [])) e one)
passed-push rules list offset (z ∷ ids) id (fits, ok, h) one =
    let e : offset + length (z ∷ ids) ≡ (offset + 1) + length ids = omega arith in (
      fits,
      ok,
      passed-push rules list (offset + 1) ids id h (subst (λ o. ArePassed rules list o (id ∷ [])) e one),
    )

-- ---- the rows of a list

-- codes and ids as rows
pub rows-are : (list : ℕ) (ids : List ℤ) (cs : List (List ℕ)) → length ids ≡ length cs
    → map (put_row list) (paired ids cs) ≡ rows_on list cs ids
rows-are list [] [] e = refl
rows-are list (z ∷ ids) [] e = absurd (omega (arith, e))
rows-are list [] (c ∷ cs) e = absurd (omega (arith, e))
rows-are list (z ∷ ids) (c ∷ cs) e =
    ap (λ (rows : List ListRow). record { label = z; code = c; list = list } ∷ rows)
    (rows-are list ids cs (omega (arith, e)))

-- the rows behind those that there were
pub rows-added : (list : ℕ) (old new : List ListRow) (ids : List ℤ) (cs : List (List ℕ)) → length ids ≡ length cs
    → new ≡ old ++ map (put_row list) (paired ids cs) → drop (length old) new ≡ rows_on list cs ids
rows-added list old new ids cs same is =
    ap (drop (length old)) is ∙ drop-append_seam old (map (put_row list) (paired ids cs)) ∙ rows-are list ids cs same

-- rows of codes and ids in two parts
pub paired-append : (ys zs : List ℤ) (cs ds : List (List ℕ)) → length ys ≡ length cs
    → paired (ys ++ zs) (cs ++ ds) ≡ paired ys cs ++ paired zs ds
paired-append [] zs [] ds e = refl
paired-append (y ∷ ys) zs [] ds e = absurd (omega (arith, e))
paired-append [] zs (c ∷ cs) ds e = absurd (omega (arith, e))
paired-append (y ∷ ys) zs (c ∷ cs) ds e =
    ap (λ (rows : List Row). record { label = y; code = c } ∷ rows) (paired-append ys zs cs ds (omega (arith, e)))

-- rows that are made of codes and ids
rows-labels : (list : ℕ) (cs : List (List ℕ)) (ids : List ℤ) → length ids ≡ length cs
    → map (λ row. row.label) (rows_on list cs ids) ≡ ids
rows-labels list [] [] e = refl
rows-labels list [] (z ∷ ids) e = absurd (omega (arith, e))
rows-labels list (c ∷ cs) [] e = absurd (omega (arith, e))
rows-labels list (c ∷ cs) (z ∷ ids) e = ap (λ (zs : List ℤ). z ∷ zs) (rows-labels list cs ids (omega (arith, e)))

rows-count : (list : ℕ) (cs : List (List ℕ)) (ids : List ℤ) → length ids ≡ length cs
    → length (rows_on list cs ids) ≡ length cs
rows-count list [] [] e = refl
rows-count list [] (z ∷ ids) e = absurd (omega (arith, e))
rows-count list (c ∷ cs) [] e = absurd (omega (arith, e))
rows-count list (c ∷ cs) (z ∷ ids) e = ap suc (rows-count list cs ids (omega (arith, e)))

rows-list : (list : ℕ) (cs : List (List ℕ)) (ids : List ℤ) → All (λ row. row.list ≡ list) (rows_on list cs ids)
rows-list list [] ids = All-nil (λ (row : ListRow). row.list ≡ list)
rows-list list (c ∷ cs) [] = All-nil (λ (row : ListRow). row.list ≡ list)
rows-list list (c ∷ cs) (z ∷ ids) =
    All-cons (λ (row : ListRow). row.list ≡ list) (record { label = z; code = c; list = list }) (rows_on list cs ids)
    refl
    (rows-list list cs ids)

rows-code : (size list : ℕ) (cs : List (List ℕ)) (ids : List ℤ) → All (HasBytes size) cs
    → All (λ row. HasBytes size row.code) (rows_on list cs ids)
rows-code size list [] ids h = All-nil (λ (row : ListRow). HasBytes size row.code)
rows-code size list (c ∷ cs) [] h = All-nil (λ (row : ListRow). HasBytes size row.code)
rows-code size list (c ∷ cs) (z ∷ ids) h =
    All-cons (λ (row : ListRow). HasBytes size row.code) (record { label = z; code = c; list = list })
    (rows_on list cs ids) (All-head (HasBytes size) c cs h) (rows-code size list cs ids (All-tail (HasBytes size) c
    cs h))

pub list-rows : (rules : IdRules) (size : ℕ) (p : ListSize) (cs : List (List ℕ)) (ids : List ℤ)
    → length cs ≡ p.size → length ids ≡ p.size → All (HasBytes size) cs → ArePassed rules p.list 0 ids
    → AreListRows rules size p (rows_on p.list cs ids)
list-rows rules size p cs ids codes_are ids_are bytes passed =
    let same : length ids ≡ length cs = ids_are ∙ sym codes_are in
    record {
      count = rows-count p.list cs ids same ∙ codes_are;
      on = rows-list p.list cs ids;
      code = rows-code size p.list cs ids bytes;
      passed = subst (ArePassed rules p.list 0) (sym (rows-labels p.list cs ids same)) passed;
    }

-- what was read of a list, in two steps
pub list-read : (rules : IdRules) (size : ℕ) (p : ListSize) (cs : List (List ℕ)) (ids : List ℤ) (a b c : Place)
    → run (repeated p.size (bytes_field size no_check)) a ≡ Ok (cs, b)
    → run (each (range_with_len 0 p.size) (list_id rules.role rules.count rules.direct p.list)) b ≡ Ok (ids, c)
    → run (list_rows rules.role size rules.count rules.direct p) a ≡ Ok (rows_on p.list cs ids, c)
unfolding list_rows
list-read rules size p cs ids a b c codes_read ids_read =
    let ids_format = each (range_with_len 0 p.size) (list_id rules.role rules.count rules.direct p.list) in
    step (repeated p.size (bytes_field size no_check)) (λ cs. ids_format >>= λ ids. done (rows_on p.list cs ids)) a b cs
    codes_read ∙ step ids_format (λ ids. done (rows_on p.list cs ids)) b c ids ids_read

pub list-stops : (rules : IdRules) (size : ℕ) (p : ListSize) (a : Place) (e : PartError)
    → GivesError e (run (repeated p.size (bytes_field size no_check)) a)
    → GivesError e (run (list_rows rules.role size rules.count rules.direct p) a)
unfolding list_rows
list-stops rules size p a e h =
    let ids_format = each (range_with_len 0 p.size) (list_id rules.role rules.count rules.direct p.list) in
    stops (repeated p.size (bytes_field size no_check)) (λ cs. ids_format >>= λ ids. done (rows_on p.list cs ids)) a e h

pub list-ids-stop : (rules : IdRules) (size : ℕ) (p : ListSize) (cs : List (List ℕ)) (a b : Place) (e : PartError)
    → run (repeated p.size (bytes_field size no_check)) a ≡ Ok (cs, b)
    → GivesError e (run (each (range_with_len 0 p.size) (list_id rules.role rules.count rules.direct p.list)) b)
    → GivesError e (run (list_rows rules.role size rules.count rules.direct p) a)
unfolding list_rows
list-ids-stop rules size p cs a b e codes_read h =
    let ids_format = each (range_with_len 0 p.size) (list_id rules.role rules.count rules.direct p.list) in
    error_is e _ _ (stops ids_format (λ ids. done (rows_on p.list cs ids)) b e h)
    (sym (step (repeated p.size (bytes_field size no_check)) (λ cs. ids_format >>= λ ids. done (rows_on p.list cs ids))
    a b cs codes_read))

-- the rows that an index gained, where its codes have so many bits
pub rows-put : (list d n : ℕ) (old new : IvfValue) (ids : List ℤ) (codes : List ℕ) → old.dim ≡ d → length ids ≡ n
    → new ≡ record old { rows = old.rows ++ map (put_row list) (paired ids (chunks_of (old.dim / 8) (length ids) codes)) }
    → new.rows ≡ old.rows ++ map (put_row list) (paired ids (chunks_of (d / 8) n codes))
rows-put list d n old new ids codes dim count is =
    ap (λ (v : IvfValue). v.rows) is
    ∙ ap (λ (m : ℕ). old.rows ++ map (put_row list) (paired ids (chunks_of (m / 8) (length ids) codes))) dim
    ∙ ap (λ (m : ℕ). old.rows ++ map (put_row list) (paired ids (chunks_of (d / 8) m codes))) count

-- an index whose rows or centroids alone are others
pub rows-kept : (a b new : IvfValue) (rows : List ListRow) → b ≡ record a { rows = b.rows }
    → new ≡ record b { rows = rows } → new ≡ record a { rows = new.rows }
rows-kept a b new rows kept is =
    let same : new.rows ≡ rows = ap (λ (v : IvfValue). v.rows) is in
    is ∙ ap (λ (v : IvfValue). record v { rows = rows }) kept
    ∙ ap (λ (rs : List ListRow). record a { rows = rs }) (sym same)

pub centroids-kept : (a b new : IvfValue) (cs : List (List ℕ)) → b ≡ record a { centroids = b.centroids }
    → new ≡ record b { centroids = cs } → new ≡ record a { centroids = new.centroids }
centroids-kept a b new cs kept is =
    let same : new.centroids ≡ cs = ap (λ (v : IvfValue). v.centroids) is in
    is ∙ ap (λ (v : IvfValue). record v { centroids = cs }) kept
    ∙ ap (λ (ds : List (List ℕ)). record a { centroids = ds }) (sym same)

-- ---- the rows of all lists

abbrev rows_format : IdRules → ℕ → ListSize → Format (List ListRow)
rows_format rules size p = list_rows rules.role size rules.count rules.direct p

front-twice : {A : Type 0} (front xs : List A) (read : Result (List A × Place) FileFault)
    → with_front front (with_front xs read) ≡ with_front (front ++ xs) read
front-twice {A = A} front xs (Ok y) = ap (λ (zs : List A). okay (zs, y.1)) (sym (append_assoc front xs y.0))
front-twice front xs (Err e) = refl

lists-more : (rules : IdRules) (size : ℕ) (p : ListSize) (ps : List ListSize) (a b : Place) (rows : List ListRow)
    → run (rows_format rules size p) a ≡ Ok (rows, b)
    → run (row_lists rules size (p ∷ ps)) a ≡ with_front rows (run (row_lists rules size ps) b)
lists-more rules size p ps a b rows h =
    run_then (each (p ∷ ps) (rows_format rules size)) (λ lists. done (concat lists)) a
    ∙ ap (λ (r : Result (List (List ListRow) × Place) FileFault). r >>> joined)
    (each-one p ps (rows_format rules size) a b rows h)
    ∙ go (run (each ps (rows_format rules size)) b)
    ∙ ap (with_front rows) (sym (run_then (each ps (rows_format rules size)) (λ lists. done (concat lists)) b))
  where
    joined : List (List ListRow) × Place → Result (List ListRow × Place) FileFault
    joined x = okay (concat x.0, x.1)

    behind : List (List ListRow) × Place → Result (List (List ListRow) × Place) FileFault
    behind x = okay (rows ∷ x.0, x.1)

    go : (r : Result (List (List ListRow) × Place) FileFault)
        → (r >>> behind) >>> joined ≡ with_front rows (r >>> joined)
    go (Ok y) = refl
    go (Err e) = refl

-- the rows of one list more were read
pub rows-more : (front rows : List ListRow) (rules : IdRules) (size : ℕ) (p : ListSize) (ps : List ListSize)
    (a b : Place) (total : Result (List ListRow × Place) FileFault)
    → run (list_rows rules.role size rules.count rules.direct p) a ≡ Ok (rows, b)
    → with_front front (run (row_lists rules size (p ∷ ps)) a) ≡ total
    → with_front (front ++ rows) (run (row_lists rules size ps) b) ≡ total
rows-more front rows rules size p ps a b total h so_far =
    sym (front-twice front rows (run (row_lists rules size ps) b))
    ∙ ap (with_front front) (sym (lists-more rules size p ps a b rows h)) ∙ so_far

pub rows-stop : (front : List ListRow) (rules : IdRules) (size : ℕ) (p : ListSize) (ps : List ListSize) (a : Place)
    (e : PartError) (total : Result (List ListRow × Place) FileFault)
    → GivesError e (run (list_rows rules.role size rules.count rules.direct p) a)
    → with_front front (run (row_lists rules size (p ∷ ps)) a) ≡ total → GivesError e total
rows-stop front rules size p ps a (part.Bad b) total h so_far =
    sym so_far ∙ ap (with_front front) (stops (each (p ∷ ps) (rows_format rules size)) (λ lists. done (concat lists)) a
    (part.Bad b) (stops (rows_format rules size p)
    (λ y. each ps (rows_format rules size) >>= λ ys. done (y ∷ ys)) a (part.Bad b) h))
rows-stop front rules size p ps a part.Failed total h so_far = tt
rows-stop front rules size p ps a part.Memory total h so_far = tt

pub rows-done : (front : List ListRow) (rules : IdRules) (size : ℕ) (a : Place)
    (total : Result (List ListRow × Place) FileFault)
    → with_front front (run (row_lists rules size []) a) ≡ total → total ≡ Ok (front, a)
rows-done front rules size a total so_far =
    sym so_far ∙ ap (λ (rows : List ListRow). okay (rows, a)) (append-nil front)

-- lists that were read, with one more
pub pairs-push : {X A : Type 0} (Q : X → A → Type 0) (xs : List X) (ys : List A) (x : X) (y : A) → Pairs Q xs ys
    → Q x y → Pairs Q (xs ++ x ∷ []) (ys ++ y ∷ [])
pairs-push Q [] [] x y h q = (q, tt)
pairs-push Q [] (z ∷ ys) x y h q = absurd h
pairs-push Q (w ∷ xs) [] x y h q = absurd h
pairs-push Q (w ∷ xs) (z ∷ ys) x y (one, h) q = (one, pairs-push Q xs ys x y h q)

pub concat-push : (rss : List (List ListRow)) (rows : List ListRow) → concat (rss ++ rows ∷ []) ≡ concat rss ++ rows
concat-push [] rows = append-nil rows
concat-push (rs ∷ rss) rows =
    ap (λ (xs : List ListRow). rs ++ xs) (concat-push rss rows) ∙ sym (append_assoc rs (concat rss) rows)

-- ---- what the rows are

module _ (rules : IdRules) (size : ℕ) where
  ids-of : (list offset : ℕ) (rows : List ListRow) → ArePassed rules list offset (map (λ row. row.label) rows)
      → Ids rules.role rules.count rules.direct list offset rows
  ids-of list offset [] h = tt
  ids-of list offset (row ∷ rows) (fits, ok, h) =
      let checks = two_checks _ _ _ _ ok in
      (record { fits = fits; place = checks.0; own = checks.1 }, ids-of list (offset + 1) rows h)

  read-of : (p : ListSize) (rows : List ListRow) → AreListRows rules size p rows
      → RowsRead rules.role rules.count rules.direct size p rows
  read-of p rows h =
      record { are = record { count = h.count; on = h.on }; code = h.code; ids = ids-of p.list 0 rows h.passed }

  module _ (ps : List ListSize) (rss : List (List ListRow)) (h : Pairs (AreListRows rules size) ps rss) where
    reads : Pairs (RowsRead rules.role rules.count rules.direct size) ps rss
    reads = pairs-map (AreListRows rules size) (RowsRead rules.role rules.count rules.direct size) read-of ps rss h

    are : Pairs AreRows ps rss
    are = pairs-map (RowsRead rules.role rules.count rules.direct size) AreRows (λ p rs r. r.are) ps rss reads

    pub read-count : length (concat rss) ≡ rows_in ps
    read-count = total-length ps rss are

    pub read-places : (is_inside rules.role || is_some rules.direct) ≡ true
        → All (λ row. IsPlace rules.count row.label) (map row_of (concat rss))
    read-places bounded = all-places rules.role rules.count rules.direct bounded size ps rss reads

    pub read-numbering : (nlist : ℕ) → AreFilled 0 nlist ps → rows_in ps ≡ rules.count → rules.count ≤ 2 ^ 32
        → is_some rules.direct ≡ true → IsNumbering (map (λ row. row.label) (concat rss))
    read-numbering nlist filled all few is = go rules.direct refl is
      where
        go : (direct : Option (List ℕ)) → rules.direct ≡ direct → is_some direct ≡ true
            → IsNumbering (labels (concat rss))
        go None e is = absurd cc
        go (Some es) e is =
            let names = all-names rules.role rules.count es size ps rss (omega (arith, all, few))
            (subst (λ (o : Option (List ℕ)). Pairs (RowsRead rules.role rules.count o size) ps rss) e reads) in
            let climb : Climb es rules.count 0 (concat rss) =
            climb-all es rules.count 0 nlist ps rss (rising-of 0 nlist ps filled) are names in
            let len : length (labels (concat rss)) ≡ rules.count =
            length-map (concat rss) (λ (r : ListRow). r.label) ∙ read-count ∙ all in
            numbering-found (labels (concat rss)) (subst (λ n. All (IsBelow n) (labels (concat rss))) (sym len)
            (climb-below es rules.count 0 (concat rss) climb))
            (λ k. climb-once es rules.count 0 k (concat rss) climb)

-- ---- the loads

pub less_weight : (d few many centroids most : ℕ) → few ≤ many → weight d 0 many centroids ≤ most
    → weight d 0 few centroids ≤ most
less_weight d few many centroids most le load =
    let less : few * (d / 8 + 16 + 64 * 0) ≤ many * (d / 8 + 16 + 64 * 0) = mul-le-mul_right (d / 8 + 16 + 64 * 0) le in
    omega (arith, load, less)

-- rows that weigh no more than an index may are few
pub few_rows : (d rows centroids : ℕ) → weight d 0 rows centroids ≤ load_limit → rows < 2 ^ 32
few_rows d rows centroids load =
    let less : rows * 16 ≤ rows * (d / 8 + 16 + 64 * 0) = grind arith in
    omega (arith, load, less)

-- ---- a list among those that are read

pub record IsAt (nlist : ℕ) (sizes : List ListSize) (i : ℕ) (p : ListSize) : Type 0 where
  pub split : drop i sizes ≡ p ∷ drop (i + 1) sizes
  pub front : take (i + 1) sizes ≡ take i sizes ++ p ∷ []
  pub below : p.list < nlist
  pub some : 0 < p.size
  pub within : rows_in (take i sizes) + p.size ≤ rows_in sizes

pub at-place : (nlist : ℕ) (sizes : List ListSize) (i : ℕ) (p : ListSize) → AreFilled 0 nlist sizes
    → i < length sizes → p ≡ get_or sizes i p → IsAt nlist sizes i p
at-place nlist sizes i p filled lt is =
    let split : drop i sizes ≡ p ∷ drop (i + 1) sizes =
    drop_more sizes i p lt ∙ ap (λ (q : ListSize). q ∷ drop (i + 1) sizes) (sym is) in
    let all : sizes ≡ take i sizes ++ p ∷ drop (i + 1) sizes =
    sym (take-append-drop i sizes) ∙ ap (λ (ps : List ListSize). take i sizes ++ ps) split in
    let known = filled-at 0 nlist (take i sizes) p (drop (i + 1) sizes)
    (subst (λ (ps : List ListSize). AreFilled 0 nlist ps) all filled) in
    record {
      split = split;
      front = take_more sizes i p lt ∙ ap (λ (q : ListSize). take i sizes ++ q ∷ []) (sym is);
      below = known.0;
      some = known.1;
      within = omega (
        arith,
        ap rows_in all,
        sum_by-append (λ (q : ListSize). q.size) (take i sizes) (p ∷ drop (i + 1) sizes),
        sum_by-cons (λ (q : ListSize). q.size) p (drop (i + 1) sizes),
      );
    }

pub as-pair : (list size : ℕ) (p : ListSize) → list ≡ p.list → size ≡ p.size
    → record { list = list; size = size } ≡ p
as-pair list size p l s = ap (λ (x : ℕ). made x size) l ∙ ap (λ (x : ℕ). made p.list x) s
  where
    made : ℕ → ℕ → ListSize
    made a b = record { list = a; size = b }

pub front-none : {A : Type 0} (r : Result (List A × Place) FileFault) → with_front [] r ≡ r
front-none (Ok y) = refl
front-none (Err e) = refl

-- ---- the whole

-- a value is made of what a format gives
abbrev pub giving : {A B : Type 0} → Format A → (A → B) → Format B
giving f g = f >>= λ x. done (g x)

mapped : {A B C : Type 0} (f : Format A) (g : A → B) (h : B → C) (p : Place)
    → run (giving f (λ x. h (g x))) p ≡ run (giving f g) p >>> (λ y. Ok (h y.0, y.1))
mapped {A = A} {B = B} {C = C} f g h p =
    run_then f (λ x. done (h (g x))) p ∙ go (run f p) ∙ ap after_it (sym (run_then f (λ x. done (g x)) p))
  where
    after_it : Result (B × Place) FileFault → Result (C × Place) FileFault
    after_it r = r >>> (λ y. Ok (h y.0, y.1))

    go : (r : Result (A × Place) FileFault)
        → r >>> (λ x. run (done (h (g x.0))) x.1) ≡ after_it (r >>> (λ x. run (done (g x.0)) x.1))
    go (Ok x) = refl
    go (Err e) = refl

pub mapped_ok : {A B C : Type 0} (f : Format A) (g : A → B) (h : B → C) (p q : Place) (y : B)
    → run (giving f g) p ≡ Ok (y, q) → run (giving f (λ x. h (g x))) p ≡ Ok (h y, q)
mapped_ok {B = B} f g h p q y e =
    mapped f g h p ∙ ap (λ (r : Result (B × Place) FileFault). r >>> (λ y. Ok (h y.0, y.1))) e

pub mapped_stops : {A B C : Type 0} (f : Format A) (g : A → B) (h : B → C) (p : Place) (e : PartError)
    → GivesError e (run (giving f g) p) → GivesError e (run (giving f (λ x. h (g x))) p)
mapped_stops {B = B} f g h p (part.Bad b) e =
    mapped f g h p ∙ ap (λ (r : Result (B × Place) FileFault). r >>> (λ y. Ok (h y.0, y.1))) e
mapped_stops f g h p part.Failed e = tt
mapped_stops f g h p part.Memory e = tt

pub lists_fit : (role : Role) (head : Head) (v : IvfValue) → IsBodyRole role → IsHead role head → v.dim ≡ head.dim
    → length v.rows ≡ head.count
    → (is_inside role ≡ true → All (λ row. IsPlace head.count row.label) (map row_of v.rows))
    → FitsRole role (Ivf v)
lists_fit Outermost head v body h dim count places = tt
lists_fit (Within d n) head v body h dim count places =
    let same : head.count ≡ n = eqb-true _ _ h.takes_count in
    record {
      same_dim = dim ∙ eqb-true _ _ h.takes_dim;
      same_count = count ∙ same;
      labels = subst (λ m. All (λ row. IsPlace m row.label) (map row_of v.rows)) same (places refl);
    }
lists_fit (Quantizer d nlist rows flag) head v body h dim count places = absurd body

pub direct_fits : (role : Role) (v : IvfValue) (direct : Bool) → FitsRole role (Ivf v)
    → FitsRole role (Ivf (record v { direct = direct }))
direct_fits Outermost v direct h = tt
direct_fits (Within d n) v direct h =
    record { same_dim = h.same_dim; same_count = h.same_count; labels = h.labels }
direct_fits (Quantizer d nlist rows flag) v direct h = absurd h

-- a quantizer that is held whole where there are rows
pub quantizer_held : (d nlist rows n : ℕ) (flag : Bool) → takes_count (Quantizer d nlist rows flag) n ≡ true
    → 0 < rows → nlist ≤ n
quantizer_held d nlist rows n flag takes some = go flag (and_parts _ _ takes).1
  where
    go : (flag : Bool) → (eqb n nlist || (not flag && eqb rows 0)) ≡ true → nlist ≤ n
    go true e = elim (cases_Bool (eqb n nlist)) [
      | inl h ↦ omega (arith, eqb-true n nlist h)
      | inr h ↦ absurd (let k = rw h at e in cc)
    ]
    go false e = elim (cases_Bool (eqb n nlist)) [
      | inl h ↦ omega (arith, eqb-true n nlist h)
      | inr h ↦ (let none : eqb rows 0 ≡ true = rw h at e in absurd (omega (arith, eqb-true rows 0 none, some)))
    ]

pub both_weigh : (d rows n : ℕ) → (rows + n) * (d / 8 + 16) ≤ load_limit → weight d 0 rows n ≤ load_limit
both_weigh d rows n le =
    let same : (rows + n) * (d / 8 + 16) ≡ rows * (d / 8 + 16) + n * (d / 8 + 16) = grind arith in
    omega (arith, le, same)
