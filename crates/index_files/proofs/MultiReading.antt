-- Reading a MultiHash: its fields one after the other, and the checks of a packed run.
use Rattle.std.proofs.Common.{◌≡◌, inl, inr, ℕ, zero, suc, ◌+◌, ◌-◌, ◌*◌, ◌<◌, ◌≤◌, Bool, true, false}
use Rattle.std.proofs.Common.{cond, eqb, ltb, leb, not, ◌||◌, List, [], ◌∷◌, ◌++◌, length, get_or, replicate}
use Rattle.std.proofs.Common.{Option, Some, None, Result, Ok, Err, refl, sym, ap, subst, ◌∙◌, append_assoc, arith}
use Rattle.std.specs.Prelude.{is_some, nat_eq}
use Rattle.std.specs.List.{list_any, range_with_len}
use Rattle.std.proofs.lemmas.Bool.{cases_Bool, eq-eqb, ne_eqb, le-leb, lt-leb, le-ltb, lt-ltb}
use Rattle.std.proofs.lemmas.List.{append-nil, length-append}
use Rattle.bcodes.specs.Bits.{key}
use Rattle.bit_strings.specs.States.{Reading}
use Rattle.file_parts.specs.declared.file_fault.FileFault.{FileFault}
use Rattle.file_parts.specs.declared.part_error.PartError.{PartError}
use Rattle.file_parts.specs.declared.part_error.PartError.TheVariants as error
use Rattle.file_parts.specs.declared.reason.Reason.{Reason}
use Rattle.file_parts.specs.declared.reason.Reason.TheVariants as reason
use Rattle.file_parts.specs.Feeding.{GivesError}
use Rattle.file_parts.specs.Fields.{each}
use Rattle.file_parts.specs.Format.{Check, ◌⇒◌, Refusal, Format, done, ◌>>=◌, Place, first_refusal, run}
use Rattle.file_parts.proofs.Reading.{◌>>>◌, run_then}
use Rattle.file_parts.proofs.Repeats.{with_front}
use Rattle.flip_walk.specs.Patterns.{times}
use Rattle.key_buckets.specs.Keys.{list_of}
use Rattle.multi_hash.specs.Seen.{IsSeen}
use Rattle.multi_hash.proofs.SeenLemmas.{seen_none}
use Rattle.index_files.specs.HashFormat.{has_padding}
use Rattle.index_files.specs.MapReading.{IsLeft, KeyedCodes, Refuses}
use Rattle.index_files.specs.MultiFormat.{map_run_checks, numbers_in, position_checks}

-- ---- one field and then others

-- what follows a format that was read
pub step_read : {A B : Type 0} (f : Format A) (k : A → Format B) (p q : Place) (x : A) → run f p ≡ Ok (x, q)
    → run (f >>= k) p ≡ run (k x) q
step_read f k p q x e = run_then f k p ∙ ap (λ r. r >>> (λ y. run (k y.0) y.1)) e

-- nothing follows a format that failed
pub step_fails : {A B : Type 0} (e : PartError) (f : Format A) (k : A → Format B) (p : Place)
    → GivesError e (run f p) → GivesError e (run (f >>= k) p)
step_fails (error.Bad b) f k p h = run_then f k p ∙ ap (λ r. r >>> (λ y. run (k y.0) y.1)) h
step_fails error.Failed f k p h = tt
step_fails error.Memory f k p h = tt

pub same_error : {A : Type 0} (e : PartError) (r s : Result A FileFault) → s ≡ r → GivesError e r → GivesError e s
same_error (error.Bad b) r s is h = is ∙ h
same_error error.Failed r s is h = tt
same_error error.Memory r s is h = tt

-- ---- a format for each number

each_more : {X A : Type 0} (x : X) (xs : List X) (f : X → Format A) (p : Place)
    → run (each (x ∷ xs) f) p ≡ run (f x) p >>> (λ y. run (each xs f) y.1 >>> (λ z. Ok (y.0 ∷ z.0, z.1)))
each_more {A = A} x xs f p = run_then (f x) (λ y. each xs f >>= λ ys. done (y ∷ ys)) p ∙ go (run (f x) p)
  where
    go : (r : Result (A × Place) FileFault)
        → r >>> (λ y. run (each xs f >>= λ ys. done (y.0 ∷ ys)) y.1)
        ≡ r >>> (λ y. run (each xs f) y.1 >>> (λ z. Ok (y.0 ∷ z.0, z.1)))
    go (Ok y) = run_then (each xs f) (λ ys. done (y.0 ∷ ys)) y.1
    go (Err e) = refl

regroup : {A : Type 0} (front : List A) (x : A) (read : Result (List A × Place) FileFault)
    → with_front front (read >>> λ y. Ok (x ∷ y.0, y.1)) ≡ with_front (front ++ x ∷ []) read
regroup {A = A} front x (Ok y) = ap (λ (xs : List A). Ok (xs, y.1)) (simp append_assoc)
regroup front x (Err e) = refl

pub each_goes_on : {A : Type 0} (f : ℕ → Format A) (front : List A) (count i : ℕ) (p q : Place) (x : A)
    (total : Result (List A × Place) FileFault) → i < count → run (f i) p ≡ Ok (x, q)
    → with_front front (run (each (range_with_len i (count - i)) f) p) ≡ total
    → with_front (front ++ x ∷ []) (run (each (range_with_len (i + 1) (count - (i + 1))) f) q) ≡ total
each_goes_on f front count i p q x total lt h so_far =
    let k : count - i ≡ suc (count - (i + 1)) = omega arith in
    let one : with_front front (run (each (range_with_len i (count - i)) f) p)
    ≡ with_front (front ++ x ∷ []) (run (each (range_with_len (i + 1) (count - (i + 1))) f) q) = rw (
      k,
      each_more i (range_with_len (i + 1) (count - (i + 1))) f p,
      h,
    ) (regroup front x (run (each (range_with_len (i + 1) (count - (i + 1))) f) q)) in
    sym one ∙ so_far

pub each_ends : {A : Type 0} (f : ℕ → Format A) (e : PartError) (front : List A) (count i : ℕ) (p : Place)
    (total : Result (List A × Place) FileFault) → i < count → GivesError e (run (f i) p)
    → with_front front (run (each (range_with_len i (count - i)) f) p) ≡ total → GivesError e total
each_ends f (error.Bad b) front count i p total lt h so_far =
    let k : count - i ≡ suc (count - (i + 1)) = omega arith in
    let one : with_front front (run (each (range_with_len i (count - i)) f) p)
    ≡ Err b = rw (k, each_more i (range_with_len (i + 1) (count - (i + 1))) f p, h) refl in
    sym so_far ∙ one
each_ends f error.Failed front count i p total lt h so_far = tt
each_ends f error.Memory front count i p total lt h so_far = tt

pub each_done : {A : Type 0} (f : ℕ → Format A) (front : List A) (count i : ℕ) (p : Place)
    (total : Result (List A × Place) FileFault) → count ≤ i
    → with_front front (run (each (range_with_len i (count - i)) f) p) ≡ total → total ≡ Ok (front, p)
each_done {A = A} f front count i p total le so_far =
    let k : count - i ≡ 0 = omega arith in
    let one : with_front front (run (each (range_with_len i (count - i)) f) p)
    ≡ Ok (front, p) = rw k (ap (λ (xs : List A). Ok (xs, p)) (append-nil front)) in
    sym so_far ∙ one

pub replicate_more : {A : Type 0} (x : A) (n : ℕ) → replicate (n + 1) x ≡ replicate n x ++ x ∷ []
replicate_more x zero = refl
replicate_more {A = A} x (suc n) =
    let e : suc n + 1 ≡ suc (n + 1) = omega arith in
    ap (λ (k : ℕ). replicate k x) e ∙ ap (λ (xs : List A). x ∷ xs) (replicate_more x n)

-- ---- checks in a row

-- the refusal of a field at its own place
abbrev pub plain : Reason → Refusal
plain why = record { reason = why; back = 0 }

refused : (b : Bool) (why : Reason) (cs : List Check) → b ≡ true
    → first_refusal ((b ⇒ why) ∷ cs) ≡ Some (plain why)
refused true why cs e = refl
refused false why cs e = absurd cc

passed : (b : Bool) (why : Reason) (cs : List Check) → b ≡ false
    → first_refusal ((b ⇒ why) ∷ cs) ≡ first_refusal cs
passed true why cs e = absurd cc
passed false why cs e = refl

front_refuses : (xs ys : List Check) (r : Refusal) → first_refusal xs ≡ Some r
    → first_refusal (xs ++ ys) ≡ Some r
front_refuses [] ys r e = absurd cc
front_refuses (c ∷ cs) ys r e =
    elim (cases_Bool c.refused) [
      | inl t ↦ (let h : Some c.refusal ≡ Some r = rw t at e in rw t h)
      | inr f ↦ (let h : first_refusal cs ≡ Some r = rw f at e in rw f (front_refuses cs ys r h))
    ]

front_passes : (xs ys : List Check) → first_refusal xs ≡ None → first_refusal (xs ++ ys) ≡ first_refusal ys
front_passes [] ys e = refl
front_passes (c ∷ cs) ys e =
    elim (cases_Bool c.refused) [
      | inl t ↦ absurd (let h : Some c.refusal ≡ None = rw t at e in cc)
      | inr f ↦ (let h : first_refusal cs ≡ None = rw f at e in rw f (front_passes cs ys h))
    ]

-- a fault of this reason at the field
pub refuses : (at : ℕ) (answer : Option Refusal) (why : Reason) → answer ≡ Some (plain why)
    → Refuses at answer (error.Bad (record { at = at; reason = why }))
refuses at answer why e =
    let here : at ≡ at - 0 = omega arith in
    (plain why, e, ap (λ (n : ℕ). fault n) here)
  where
    fault : ℕ → FileFault
    fault n = record { at = n; reason = why }

pub refuses_by : (at : ℕ) (answer : Option Refusal) (why : Reason) (e : PartError)
    → e ≡ error.Bad (record { at = at; reason = why }) → answer ≡ Some (plain why) → Refuses at answer e
refuses_by at answer why e is h = subst (Refuses at answer) (sym is) (refuses at answer why h)

pub refuses_same : (at : ℕ) (a c : Option Refusal) (e : PartError) → a ≡ c → Refuses at a e → Refuses at c e
refuses_same at a c e is h = subst (λ (o : Option Refusal). Refuses at o e) is h

pub refuses_front : (at : ℕ) (xs ys : List Check) (e : PartError) → Refuses at (first_refusal xs) e
    → Refuses at (first_refusal (xs ++ ys)) e
refuses_front at xs ys (error.Bad b) (r, is, same) = (r, front_refuses xs ys r is, same)
refuses_front at xs ys error.Failed h = h
refuses_front at xs ys error.Memory h = tt

-- ---- positions

any_times : (p : ℕ) (met : List ℕ) → list_any (λ m. eqb m p) met ≡ ltb 0 (times p met)
any_times p [] = refl
any_times p (m ∷ met) =
    elim (cases_Bool (eqb m p)) [
      | inl t ↦ rw t (sym (lt-ltb 0 (1 + times p met) (omega arith)))
      | inr f ↦ rw f (any_times p met ∙ (let z : times p met ≡ 0 + times p met = omega arith in ap (ltb 0) z))
    ]

-- a position that was not fresh, and one that was
pub not_fresh : (x r : Bool) → r ≡ not x → r ≡ false → x ≡ true
not_fresh true r e f = refl
not_fresh false r e f = absurd cc

pub is_fresh : (x r : Bool) → r ≡ not x → r ≡ true → x ≡ false
is_fresh true r e f = absurd cc
is_fresh false r e f = refl

-- the marks say which positions were met
any_met : (n : ℕ) (met : List ℕ) (marks : List Bool) (p : ℕ) → IsSeen n met marks → p < n
    → list_any (λ m. eqb m p) met ≡ get_or marks p false
any_met n met marks p s lt = any_times p met ∙ sym (s.each p lt)

module _ (codes : List (List ℕ)) (i b k : ℕ) where
  abbrev tried : List ℕ → List ℕ → Option Refusal
  tried met ps = first_refusal (position_checks codes i b k met ps)

  abbrev key_at : ℕ → ℕ
  key_at p = key (get_or codes p []) (i * b) b

  or_true : (a c : Bool) → c ≡ true → (a || c) ≡ true
  or_true true c e = refl
  or_true false c e = e

  or_false : (a c : Bool) → a ≡ false → c ≡ false → (a || c) ≡ false
  or_false true c e f = absurd cc
  or_false false c e f = f

  pub too_high : (met : List ℕ) (p : ℕ) → length codes ≤ p → tried met (p ∷ []) ≡ Some (plain reason.Positions)
  too_high met p le =
      let t : leb (length codes) p ≡ true = le-leb (length codes) p le in
      rw t refl

  pub met_before : (met : List ℕ) (marks : List Bool) (p : ℕ) → IsSeen (length codes) met marks → p < length codes
      → get_or marks p false ≡ true → tried met (p ∷ []) ≡ Some (plain reason.Positions)
  met_before met marks p s lt e =
      refused (leb (length codes) p || list_any (λ m. eqb m p) met) reason.Positions
      ((not (eqb (key_at p) k) ⇒ reason.WrongBucket) ∷ [])
      (or_true (leb (length codes) p) _ (any_met (length codes) met marks p s lt ∙ e))

  fresh : (met : List ℕ) (marks : List Bool) (p : ℕ) → IsSeen (length codes) met marks → p < length codes
      → get_or marks p false ≡ false
      → tried met (p ∷ []) ≡ first_refusal ((not (eqb (key_at p) k) ⇒ reason.WrongBucket) ∷ [])
  fresh met marks p s lt e =
      passed (leb (length codes) p || list_any (λ m. eqb m p) met) reason.Positions
      ((not (eqb (key_at p) k) ⇒ reason.WrongBucket) ∷ [])
      (or_false (leb (length codes) p) _ (lt-leb (length codes) p lt) (any_met (length codes) met marks p s lt ∙ e))

  pub under_other : (met : List ℕ) (marks : List Bool) (p : ℕ) → IsSeen (length codes) met marks → p < length codes
      → get_or marks p false ≡ false → (key_at p ≡ k → ⊥) → tried met (p ∷ []) ≡ Some (plain reason.WrongBucket)
  under_other met marks p s lt e ne =
      fresh met marks p s lt e
      ∙ refused (not (eqb (key_at p) k)) reason.WrongBucket [] (ap not (ne_eqb (key_at p) k ne))

  pub is_under : (met : List ℕ) (marks : List Bool) (p : ℕ) → IsSeen (length codes) met marks → p < length codes
      → get_or marks p false ≡ false → key_at p ≡ k → tried met (p ∷ []) ≡ None
  is_under met marks p s lt e is =
      fresh met marks p s lt e
      ∙ passed (not (eqb (key_at p) k)) reason.WrongBucket [] (ap not (eq-eqb (key_at p) k is))

  positions_append : (met xs ys : List ℕ) → position_checks codes i b k met (xs ++ ys)
      ≡ position_checks codes i b k met xs ++ position_checks codes i b k (met ++ xs) ys
  positions_append met [] ys = ap (λ (m : List ℕ). position_checks codes i b k m ys) (sym (append-nil met))
  positions_append met (x ∷ xs) ys =
      ap (λ (cs : List Check). (leb (length codes) x || list_any (λ m. eqb m x) met ⇒ reason.Positions)
      ∷ (not (eqb (key_at x) k) ⇒ reason.WrongBucket) ∷ cs)
      (positions_append (met ++ x ∷ []) xs ys
      ∙ ap (λ (m : List ℕ). position_checks codes i b k (met ++ x ∷ []) xs ++ position_checks codes i b k m ys)
      (append_assoc met (x ∷ []) xs))

  -- positions that pass, and then one more
  pub more_pass : (met xs : List ℕ) (p : ℕ) → tried met xs ≡ None → tried (met ++ xs) (p ∷ []) ≡ None
      → tried met (xs ++ p ∷ []) ≡ None
  more_pass met xs p h one =
      ap first_refusal (positions_append met xs (p ∷ []))
      ∙ front_passes (position_checks codes i b k met xs) (position_checks codes i b k (met ++ xs) (p ∷ [])) h ∙ one

  -- positions that pass, one that does not, and others
  pub more_refuses : (at : ℕ) (met xs ys : List ℕ) (p : ℕ) (e : PartError) → tried met xs ≡ None
      → Refuses at (tried (met ++ xs) (p ∷ [])) e → Refuses at (tried met (xs ++ p ∷ ys)) e
  more_refuses at met xs ys p e h one =
      let cs = position_checks codes i b k (met ++ xs) (p ∷ []) in
      let ds = position_checks codes i b k ((met ++ xs) ++ p ∷ []) ys in
      let same : first_refusal (cs ++ ds) ≡ tried met (xs ++ p ∷ ys) =
      sym (ap first_refusal (positions_append met xs (p ∷ ys))
      ∙ front_passes (position_checks codes i b k met xs) (position_checks codes i b k (met ++ xs) (p ∷ ys)) h) in
      refuses_same at (first_refusal (cs ++ ds)) (tried met (xs ++ p ∷ ys)) e same (refuses_front at cs ds e one)

-- ---- numbers in a run

pub numbers_more : (run : List ℕ) (from n t : ℕ)
    → numbers_in run from n (t + 1) ≡ numbers_in run from n t ++ key run (from + t * n) n ∷ []
numbers_more run from n zero =
    let z : from + 0 * n ≡ from = omega arith in
    ap (λ (f : ℕ). key run f n ∷ []) (sym z)
numbers_more run from n (suc t) =
    let one : suc t + 1 ≡ suc (t + 1) = omega arith in
    let next : (from + n) + t * n ≡ from + suc t * n = grind arith in
    ap (numbers_in run from n) one
    ∙ ap (λ (xs : List ℕ). key run from n ∷ xs) (numbers_more run (from + n) n t)
    ∙ ap (λ (f : ℕ). (key run from n ∷ numbers_in run (from + n) n t) ++ key run f n ∷ []) next

pub numbers_split : (run : List ℕ) (from n t m : ℕ)
    → numbers_in run from n (t + suc m)
    ≡ numbers_in run from n t ++ key run (from + t * n) n ∷ numbers_in run (from + (t + 1) * n) n m
numbers_split run from n zero m =
    let z : from + 0 * n ≡ from = omega arith in
    let s : 0 + suc m ≡ suc m = omega arith in
    let next : from + n ≡ from + (0 + 1) * n = omega arith in
    ap (numbers_in run from n) s
    ∙ ap (λ (f : ℕ). key run f n ∷ numbers_in run (from + n) n m) (sym z)
    ∙ ap (λ (f : ℕ). key run (from + 0 * n) n ∷ numbers_in run f n m) next
numbers_split run from n (suc t) m =
    let one : suc t + suc m ≡ suc (t + suc m) = omega arith in
    let here : (from + n) + t * n ≡ from + suc t * n = grind arith in
    let next : (from + n) + (t + 1) * n ≡ from + (suc t + 1) * n = grind arith in
    ap (numbers_in run from n) one
    ∙ ap (λ (xs : List ℕ). key run from n ∷ xs) (numbers_split run (from + n) n t m)
    ∙ ap (λ (f : ℕ). (key run from n ∷ numbers_in run (from + n) n t) ++ key run f n
    ∷ numbers_in run ((from + n) + (t + 1) * n) n m) here
    ∙ ap (λ (f : ℕ). (key run from n ∷ numbers_in run (from + n) n t) ++ key run (from + suc t * n) n
    ∷ numbers_in run f n m) next

-- ---- a bucket

none_is : (o : Option ℕ) → is_some o ≡ false → o ≡ None
none_is None e = refl
none_is (Some x) e = absurd cc

module _ (c : KeyedCodes) (width : ℕ) (r : Reading) (m left : ℕ) (table : List (ℕ × ℕ)) (marks : List Bool)
    (answer : Option Refusal) (h : IsLeft c width r (suc m) left table marks answer) where
  abbrev wanted : ℕ
  wanted = key r.bytes r.at c.b

  abbrev size : ℕ
  size = key r.bytes (r.at + c.b) width

  abbrev ps : List ℕ
  ps = numbers_in r.bytes (r.at + c.b + width) width size

  abbrev own : List Check
  own = position_checks c.codes c.number c.b wanted h.met ps

  abbrev rest : List Check
  rest = map_run_checks c.codes c.number c.b width r.bytes m (r.at + c.b + width + size * width) (wanted ∷ h.seen)
      (h.met ++ ps)

  abbrev from_sizes : List Check
  from_sizes = (ltb (length c.codes) (length h.met + size) ⇒ reason.ListSizes) ∷ own ++ rest

  abbrev from_empty : List Check
  from_empty = (eqb size 0 ⇒ reason.EmptyBucket) ∷ from_sizes

  bucket_is : answer ≡ first_refusal ((list_any (λ j. eqb j wanted) h.seen ⇒ reason.DuplicateKey) ∷ from_empty)
  unfolding map_run_checks
  bucket_is = sym h.same

  pub is_duplicate : is_some (list_of table wanted) ≡ true → answer ≡ Some (plain reason.DuplicateKey)
  is_duplicate e =
      bucket_is ∙ refused (list_any (λ j. eqb j wanted) h.seen) reason.DuplicateKey from_empty
      (sym (h.keys wanted) ∙ e)

  no_duplicate : is_some (list_of table wanted) ≡ false → answer ≡ first_refusal from_empty
  no_duplicate e =
      bucket_is ∙ passed (list_any (λ j. eqb j wanted) h.seen) reason.DuplicateKey from_empty
      (sym (h.keys wanted) ∙ e)

  pub is_empty : is_some (list_of table wanted) ≡ false → size ≡ 0 → answer ≡ Some (plain reason.EmptyBucket)
  is_empty e none = no_duplicate e ∙ refused (eqb size 0) reason.EmptyBucket from_sizes (eq-eqb size 0 none)

  no_empty : is_some (list_of table wanted) ≡ false → (size ≡ 0 → ⊥) → answer ≡ first_refusal from_sizes
  no_empty e some = no_duplicate e ∙ passed (eqb size 0) reason.EmptyBucket from_sizes (ne_eqb size 0 some)

  pub is_long : is_some (list_of table wanted) ≡ false → (size ≡ 0 → ⊥) → left < size
      → answer ≡ Some (plain reason.ListSizes)
  is_long e some long =
      no_empty e some
      ∙ refused (ltb (length c.codes) (length h.met + size)) reason.ListSizes (own ++ rest)
      (lt-ltb (length c.codes) (length h.met + size) (omega (arith, h.others, long)))

  no_long : is_some (list_of table wanted) ≡ false → (size ≡ 0 → ⊥) → size ≤ left
      → answer ≡ first_refusal (own ++ rest)
  no_long e some fits =
      no_empty e some
      ∙ passed (ltb (length c.codes) (length h.met + size)) reason.ListSizes (own ++ rest)
      (le-ltb (length c.codes) (length h.met + size) (omega (arith, h.others, fits)))

  pub own_refuses : (at : ℕ) (e : PartError) → is_some (list_of table wanted) ≡ false → (size ≡ 0 → ⊥)
      → size ≤ left → Refuses at (first_refusal own) e → Refuses at answer e
  own_refuses at e new some fits refuse =
      refuses_same at (first_refusal (own ++ rest)) answer e (sym (no_long new some fits))
      (refuses_front at own rest e refuse)

  table_more : (after : List (ℕ × ℕ)) (list : ℕ)
      → ((k : ℕ) → list_of after k ≡ cond (nat_eq wanted k) (Some list) (list_of table k)) → (k : ℕ)
      → is_some (list_of after k) ≡ list_any (λ j. eqb j k) (wanted ∷ h.seen)
  table_more after list lists k =
      elim (cases_Bool (eqb wanted k)) [
        | inl t ↦ ap is_some (lists k) ∙ rw t refl
        | inr f ↦ ap is_some (lists k) ∙ rw f (h.keys k)
      ]

  pub next_left : (after : List (ℕ × ℕ)) (list : ℕ) (seen_marks : List Bool) (q : Reading)
      → is_some (list_of table wanted) ≡ false → (size ≡ 0 → ⊥) → size ≤ left
      → first_refusal own ≡ None → IsSeen (length c.codes) (h.met ++ ps) seen_marks
      → ((k : ℕ) → list_of after k ≡ cond (nat_eq wanted k) (Some list) (list_of table k))
      → q.bytes ≡ r.bytes → q.at ≡ r.at + c.b + width + size * width
      → IsLeft c width q m (left - size) after seen_marks answer
  next_left after list seen_marks q new some fits pass seen_are lists same_bytes at_is = record {
    seen = wanted ∷ h.seen;
    met = h.met ++ ps;
    keys = table_more after list lists;
    marked = seen_are;
    others = omega (
      arith,
      length-append h.met ps,
      length_numbers r.bytes width size (r.at + c.b + width),
      h.others,
      fits,
    );
    same =
        ap (λ (bs : List ℕ). first_refusal (map_run_checks c.codes c.number c.b width bs m q.at (wanted ∷ h.seen)
        (h.met ++ ps))) same_bytes
        ∙ ap (λ (a : ℕ). first_refusal (map_run_checks c.codes c.number c.b width r.bytes m a (wanted ∷ h.seen)
        (h.met ++ ps))) at_is
        ∙ sym (no_long new some fits ∙ front_passes own rest pass);
  }
    where
      length_numbers : (run : List ℕ) (n k from : ℕ) → length (numbers_in run from n k) ≡ k
      length_numbers run n zero from = refl
      length_numbers run n (suc k) from = ap suc (length_numbers run n k (from + n))

-- the same where the numbers are those that were read: k is the key, s the size, and q stands behind them
module _ (c : KeyedCodes) (width : ℕ) (r : Reading) (m left : ℕ) (table : List (ℕ × ℕ)) (marks : List Bool)
    (answer : Option Refusal) (h : IsLeft c width r (suc m) left table marks answer) (k s : ℕ) (q : Reading)
    (k_is : k ≡ key r.bytes r.at c.b) (s_is : s ≡ key r.bytes (r.at + c.b) width)
    (q_is : q ≡ record { bytes = r.bytes; at = r.at + c.b + width }) where
  abbrev places : List ℕ
  places = numbers_in q.bytes q.at width s

  abbrev those : List ℕ
  those = ps c width r m left table marks answer h

  abbrev checks : ℕ → List ℕ → List Check
  checks x xs = position_checks c.codes c.number c.b x h.met xs

  table_at : (t : Bool) → is_some (list_of table k) ≡ t → is_some (list_of table (key r.bytes r.at c.b)) ≡ t
  table_at t e = ap (λ (x : ℕ). is_some (list_of table x)) (sym k_is) ∙ e

  some_at : (s ≡ 0 → ⊥) → key r.bytes (r.at + c.b) width ≡ 0 → ⊥
  some_at some e = some (s_is ∙ e)

  places_are : places ≡ those
  places_are =
      ap (λ (x : ℕ). numbers_in q.bytes q.at width x) s_is
      ∙ ap (λ (x : Reading). numbers_in x.bytes x.at width (key r.bytes (r.at + c.b) width)) q_is

  own_is : first_refusal (checks k places) ≡ first_refusal (checks (key r.bytes r.at c.b) those)
  own_is =
      ap (λ (x : ℕ). first_refusal (checks x places)) k_is
      ∙ ap (λ (xs : List ℕ). first_refusal (checks (key r.bytes r.at c.b) xs)) places_are

  pub read_duplicate : is_some (list_of table k) ≡ true → answer ≡ Some (plain reason.DuplicateKey)
  read_duplicate e = is_duplicate c width r m left table marks answer h (table_at true e)

  pub read_empty : is_some (list_of table k) ≡ false → s ≡ 0 → answer ≡ Some (plain reason.EmptyBucket)
  read_empty e none = is_empty c width r m left table marks answer h (table_at false e) (sym s_is ∙ none)

  pub read_long : is_some (list_of table k) ≡ false → (s ≡ 0 → ⊥) → left < s
      → answer ≡ Some (plain reason.ListSizes)
  read_long e some long =
      is_long c width r m left table marks answer h (table_at false e) (some_at some) (omega (arith, long, s_is))

  pub read_refuses : (at : ℕ) (e : PartError) → is_some (list_of table k) ≡ false → (s ≡ 0 → ⊥) → s ≤ left
      → Refuses at (first_refusal (checks k places)) e → Refuses at answer e
  read_refuses at e new some fits refuse =
      own_refuses c width r m left table marks answer h at e (table_at false new) (some_at some)
      (omega (arith, fits, s_is))
      (refuses_same at (first_refusal (checks k places)) (first_refusal (checks (key r.bytes r.at c.b) those)) e
      own_is refuse)

  pub read_next : (after : List (ℕ × ℕ)) (list : ℕ) (seen_marks : List Bool) (z : Reading)
      → is_some (list_of table k) ≡ false → (s ≡ 0 → ⊥) → s ≤ left
      → first_refusal (checks k places) ≡ None → IsSeen (length c.codes) (h.met ++ places) seen_marks
      → ((x : ℕ) → list_of after x ≡ cond (nat_eq k x) (Some list) (list_of table x))
      → z.bytes ≡ q.bytes → z.at ≡ q.at + s * width → IsLeft c width z m (left - s) after seen_marks answer
  read_next after list seen_marks z new some fits pass seen_are lists same_bytes at_is =
      let z_at : z.at ≡ r.at + c.b + width + key r.bytes (r.at + c.b) width * width = at_is
      ∙ ap (λ (x : ℕ). q.at + x * width) s_is
      ∙ ap (λ (x : Reading). x.at + key r.bytes (r.at + c.b) width * width) q_is in
      subst (λ (x : ℕ). IsLeft c width z m (left - x) after seen_marks answer) (sym s_is)
      (next_left c width r m left table marks answer h after list seen_marks z (table_at false new) (some_at some)
      (omega (arith, fits, s_is)) (sym own_is ∙ pass)
      (subst (λ (xs : List ℕ). IsSeen (length c.codes) (h.met ++ xs) seen_marks) places_are seen_are)
      (λ x. lists x ∙ ap (λ (y : ℕ). cond (nat_eq y x) (Some list) (list_of table x)) k_is)
      (same_bytes ∙ ap (λ (x : Reading). x.bytes) q_is) z_at)

-- ---- a run

-- before the first bucket
pub first_left : (c : KeyedCodes) (width buckets : ℕ) (run : List ℕ)
    → IsLeft c width (record { bytes = run; at = 0 }) buckets (length c.codes) [] (replicate (length c.codes) false)
    (first_refusal (map_run_checks c.codes c.number c.b width run buckets 0 [] []))
first_left c width buckets run = record {
  seen = [];
  met = [];
  keys = λ k. refl;
  marked = seen_none (length c.codes);
  others = omega arith;
  same = refl;
}

module _ (c : KeyedCodes) (width : ℕ) (r : Reading) (left : ℕ) (table : List (ℕ × ℕ)) (marks : List Bool)
    (answer : Option Refusal) (h : IsLeft c width r 0 left table marks answer) where
  end_is : answer ≡ first_refusal ((not (eqb (length h.met) (length c.codes)) ⇒ reason.ListSizes)
      ∷ (has_padding r.bytes r.at ⇒ reason.Padding) ∷ [])
  unfolding map_run_checks
  end_is = sym h.same

  -- behind the last bucket
  pub some_left : 0 < left → answer ≡ Some (plain reason.ListSizes)
  some_left some =
      end_is
      ∙ refused (not (eqb (length h.met) (length c.codes))) reason.ListSizes
      ((has_padding r.bytes r.at ⇒ reason.Padding) ∷ [])
      (ap not (ne_eqb (length h.met) (length c.codes) (λ e. omega (arith, h.others, some, e))))

  none_left : left ≡ 0 → answer ≡ first_refusal ((has_padding r.bytes r.at ⇒ reason.Padding) ∷ [])
  none_left none =
      end_is
      ∙ passed (not (eqb (length h.met) (length c.codes))) reason.ListSizes
      ((has_padding r.bytes r.at ⇒ reason.Padding) ∷ [])
      (ap not (eq-eqb (length h.met) (length c.codes) (omega (arith, h.others, none))))

  pub is_padded : left ≡ 0 → has_padding r.bytes r.at ≡ true → answer ≡ Some (plain reason.Padding)
  is_padded none e = none_left none ∙ refused (has_padding r.bytes r.at) reason.Padding [] e

  pub run_passes : left ≡ 0 → has_padding r.bytes r.at ≡ false → answer ≡ None
  run_passes none e = none_left none ∙ passed (has_padding r.bytes r.at) reason.Padding [] e

-- ---- the bits of a run

-- where a reader stands behind a bucket
pub place_left : (at b width s left q : ℕ) → q ≡ at + b + width + s * width → s ≤ left
    → q + (left - s) * width ≡ at + (b + width) + left * width
place_left at b width s left q e le =
    let all : left ≡ (left - s) + s = omega (arith, le) in
    let k : ((left - s) + s) * width ≡ (left - s) * width + s * width = grind arith in
    omega (arith, e, k, ap (λ (x : ℕ). x * width) all)

-- what is left behind a bucket
pub bucket_left : (at q left rest width m head most : ℕ) → at + (suc m * head + left * width) ≤ most
    → q + rest * width ≡ at + head + left * width → q + (m * head + rest * width) ≤ most
bucket_left at q left rest width m head most h e =
    let k : suc m * head ≡ head + m * head = grind arith in
    omega (arith, h, k, e)
