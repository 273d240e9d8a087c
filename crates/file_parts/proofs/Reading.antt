-- What reading a format gives: the fields that pass, or the first fault.
use Rattle.std.proofs.Common.{◌≡◌, ℕ, ◌<◌, ◌≤◌, ◌⊎◌, Bool, true, false, cond, ltb, eqb, not}
use Rattle.std.proofs.Common.{◌&&◌, ◌||◌, List, [], ◌∷◌, ◌++◌, length, take, Option, Some, None}
use Rattle.std.proofs.Common.{Result, Ok, Err, refl, sym, ap, subst, ◌∙◌, inl, inr, append_assoc, arith}
use Rattle.std.proofs.lemmas.Bool.{ltb-false, ltb-true, lt-ltb, le-ltb, eqb-true, eqb-false, ne_eqb, cases_Bool}
use Rattle.std.proofs.lemmas.List.{take_at, drop_at, take-append-drop, length-append, length-take, append-nil}
use Rattle.std.proofs.lemmas.List.{nil_from_length}
use Rattle.file_parts.specs.declared.file_fault.FileFault.{FileFault}
use Rattle.file_parts.specs.declared.reason.Reason.TheVariants.{Trailing}
use Rattle.file_parts.specs.Format.{Refusal, Check, first_refusal, Format, done, field, ◌>>=◌, Passes, fault_at}
use Rattle.file_parts.specs.Format.{Fails, FirstFault, Spells, Place, on_pass, after, forward, run, short_at, ended}
use Rattle.file_parts.specs.Format.{read, IsDecided}

infixl 10 ◌>>>◌
abbrev pub ◌>>>◌ : {A B : Type 0} → Result A FileFault → (A → Result B FileFault) → Result B FileFault
(Ok x) >>> f = f x
(Err e) >>> f = Err e

cond-then : {A B : Type 0} (b : Bool) (e : FileFault) (r : Result A FileFault) (f : A → Result B FileFault)
    → cond b (Err e) (r >>> f) ≡ (cond b (Err e) r) >>> f
cond-then true e r f = refl
cond-then false e r f = refl

on_pass-then : {A B : Type 0} (at : ℕ) (o : Option Refusal) (r : Result A FileFault) (f : A → Result B FileFault)
    → on_pass at o (r >>> f) ≡ on_pass at o r >>> f
on_pass-then at None r f = refl
on_pass-then at (Some x) r f = refl

-- one format after another
pub run_then : {A B : Type 0} (format : Format A) (f : A → Format B) (p : Place)
    → run (format >>= f) p ≡ run format p >>> (λ x. run (f x.0) x.1)
run_then {A = A} {B = B} (done x) f p = refl
run_then {A = A} {B = B} (field width checks next) f p =
    let k : A × Place → Result (B × Place) FileFault = λ x. run (f x.0) x.1 in
    let o = first_refusal (checks (take width p.bytes)) in
    let r = run (next (take width p.bytes)) (after width p) in
    let short = ltb (length p.bytes) width in
    ap (λ (x : Result (B × Place) FileFault). cond short (Err (short_at p.at)) (on_pass p.at o x))
    (run_then (next (take width p.bytes)) f (after width p))
    ∙ ap (λ (x : Result (B × Place) FileFault). cond short (Err (short_at p.at)) x) (on_pass-then p.at o r k)
    ∙ cond-then short (short_at p.at) (on_pass p.at o r) k

abbrev pub place : ℕ → List ℕ → Place
place at bytes = record { at = at; bytes = bytes }

place-is : (a b : ℕ) (xs : List ℕ) → a ≡ b → place a xs ≡ place b xs
place-is a b xs e = ap (λ (n : ℕ). place n xs) e

-- a field that passes is read
pub field-passes : {A : Type 0} (width : ℕ) (checks : List ℕ → List Check) (next : List ℕ → Format A) (at : ℕ)
    (front rest : List ℕ) → length front ≡ width → first_refusal (checks front) ≡ None
    → run (field width checks next) (place at (front ++ rest)) ≡ run (next front) (place (forward at width) rest)
field-passes width checks next at front rest len pass =
    let long : ltb (length (front ++ rest)) width ≡ false = le-ltb _ _ (omega (arith, length-append front rest)) in
    rw (long, take_at front rest width len, drop_at front rest width len, pass) refl

-- reading goes on behind the fields that passed
pub run-passes : {A : Type 0} (format : Format A) (at : ℕ) (front rest : List ℕ) (next : Format A)
    → at ≤ 18446744073709551615 → Passes format front next
    → run format (place at (front ++ rest)) ≡ run next (place (forward at (length front)) rest)
run-passes (done x) at front rest next le (none, is) = rw (
  none,
  is,
) (ap (λ (p : Place). Ok (x, p)) (place-is at (forward at 0) rest (omega arith)))
run-passes (field width checks next) at front rest after_it le (inl (none, is)) = rw (
  none,
  is,
) (ap (λ (p : Place). run (field width checks next) p) (place-is at (forward at 0) rest (omega arith)))
run-passes (field width checks next) at front rest after_it le (inr (one, others, parts, len, pass, more)) =
    let ih = run-passes (next one) (forward at width) others rest after_it (omega arith) more in
    let total : forward (forward at width) (length others)
    ≡ forward at (length (one ++ others)) = omega (arith, length-append one others) in
    rw (parts, append_assoc one others rest) (field-passes width checks next at one (others ++ rest) len pass ∙ ih
    ∙ ap (λ (p : Place). run after_it p) (place-is _ _ rest total))

abbrev Met : {X : Type 0} → Bool → FileFault → ℕ → Option Refusal → Result X FileFault
    → Result X FileFault → Type 0
Met b e at o r y = ((b ≡ true) × (y ≡ Err e))
    ⊎ (((refusal : Refusal) × (b ≡ false) × (o ≡ Some refusal) × (y ≡ Err (fault_at at refusal)))
    ⊎ ((b ≡ false) × (o ≡ None) × (y ≡ r)))

met : {X : Type 0} (b : Bool) (e : FileFault) (at : ℕ) (o : Option Refusal) (r y : Result X FileFault)
    → cond b (Err e) (on_pass at o r) ≡ y → Met b e at o r y
met true e at o r y h = inl (refl, sym h)
met false e at None r y h = inr (inr (refl, refl, sym h))
met false e at (Some f) r y h = inr (inl (f, refl, refl, sym h))

-- what was read, and where it stood
pub record Reads {A : Type 0} (format : Format A) (p : Place) (x : A) (q : Place) : Type 0 where
  pub front : List ℕ
  pub parts : p.bytes ≡ front ++ q.bytes
  pub at : q.at ≡ forward p.at (length front)
  pub passes : Passes format front (done x)

pub record Stops {A : Type 0} (format : Format A) (p : Place) (e : FileFault) : Type 0 where
  pub front : List ℕ
  pub rest : List ℕ
  pub next : Format A
  pub parts : p.bytes ≡ front ++ rest
  pub passes : Passes format front next
  pub fails : Fails next (forward p.at (length front)) rest e

abbrev pub okay : {X : Type 0} → X → Result X FileFault
okay x = Ok x

abbrev fault : {X : Type 0} → FileFault → Result X FileFault
fault e = Err e

pub ok-is : {X : Type 0} (x y : X) → okay x ≡ okay y → x ≡ y
ok-is x y e = cc

pub err-is : {X : Type 0} (e f : FileFault) → fault {X = X} e ≡ fault f → e ≡ f
err-is e f h = cc

min-stays : (at : ℕ) → at ≤ 18446744073709551615 → at ≡ forward at 0
min-stays at le = omega arith

pub run-ok : {A : Type 0} (format : Format A) (p : Place) (x : A) (q : Place) → p.at ≤ 18446744073709551615
    → run format p ≡ Ok (x, q) → Reads format p x q
run-ok {A = A} (done y) p x q le e =
    let h = ok-is (y, p) (x, q) e in
    let same : y ≡ x = ap (λ (r : A × Place). r.0) h in
    let here : p ≡ q = ap (λ (r : A × Place). r.1) h in
    record {
      front = [];
      parts = ap (λ (r : Place). r.bytes) here;
      at = sym (ap (λ (r : Place). r.at) here)
          ∙ min-stays p.at le;
      passes = (refl, ap (λ (z : A). done z) (sym same));
    }
run-ok {A = A} (field width checks next) p x q le e =
    elim (met (ltb (length p.bytes) width) (short_at p.at) p.at (first_refusal (checks (take width p.bytes)))
    (run (next (take width p.bytes)) (after width p)) (Ok (x, q)) e) [
      | inl h ↦ absurd (let k = h.1 in cc)
      | inr (inl h) ↦ absurd (let k = h.3 in cc)
      | inr (inr h) ↦
          let long : width ≤ length p.bytes = ltb-false _ _ h.0 in
          let ih = run-ok (next (take width p.bytes)) (after width p) x q (omega arith) (sym h.2) in
          let len : length (take width p.bytes) ≡ width = omega (arith, length-take width p.bytes) in
          let parts : p.bytes ≡ (take width p.bytes ++ ih.front) ++ q.bytes = sym (take-append-drop width p.bytes)
          ∙ ap (λ (t : List ℕ). take width p.bytes ++ t) ih.parts
          ∙ sym (append_assoc (take width p.bytes) ih.front q.bytes) in
          record {
            front = take width p.bytes ++ ih.front;
            parts = parts;
            at = omega (arith, ih.at, len, length-append (take width p.bytes) ih.front);
            passes = inr (take width p.bytes, ih.front, refl, len, h.1, ih.passes);
          }
    ]

pub run-err : {A : Type 0} (format : Format A) (p : Place) (e : FileFault) → p.at ≤ 18446744073709551615
    → run format p ≡ Err e → Stops format p e
run-err (done y) p e le h = absurd cc
run-err {A = A} (field width checks next) p e le is =
    elim (met (ltb (length p.bytes) width) (short_at p.at) p.at (first_refusal (checks (take width p.bytes)))
    (run (next (take width p.bytes)) (after width p)) (Err e) is) [
      | inl h ↦
          let k : e ≡ short_at p.at = err-is e (short_at p.at) h.1 in
          let at : forward p.at 0 ≡ p.at = omega (arith, le) in
          record {
            front = [];
            rest = p.bytes;
            next = field width checks next;
            parts = refl;
            passes = inl (refl, refl);
            fails = rw at (inl (ltb-true _ _ h.0, k));
          }
      | inr (inl h) ↦
          let k : e ≡ fault_at p.at h.0 = err-is e (fault_at p.at h.0) h.3 in
          let at : forward p.at 0 ≡ p.at = omega (arith, le) in
          record {
            front = [];
            rest = p.bytes;
            next = field width checks next;
            parts = refl;
            passes = inl (refl, refl);
            fails = rw at (inr (h.0, ltb-false _ _ h.1, h.2, k));
          }
      | inr (inr h) ↦
          let long : width ≤ length p.bytes = ltb-false _ _ h.0 in
          let ih = run-err (next (take width p.bytes)) (after width p) e (omega arith) (sym h.2) in
          let len : length (take width p.bytes) ≡ width = omega (arith, length-take width p.bytes) in
          let parts : p.bytes ≡ (take width p.bytes ++ ih.front) ++ ih.rest = sym (take-append-drop width p.bytes)
          ∙ ap (λ (t : List ℕ). take width p.bytes ++ t) ih.parts
          ∙ sym (append_assoc (take width p.bytes) ih.front ih.rest) in
          let at : forward p.at (length (take width p.bytes ++ ih.front))
          ≡ forward (forward p.at width) (length ih.front) = omega (
            arith,
            len,
            length-append (take width p.bytes) ih.front,
          ) in
          record {
            front = take width p.bytes ++ ih.front;
            rest = ih.rest;
            next = ih.next;
            parts = parts;
            passes = inr (take width p.bytes, ih.front, refl, len, h.1, ih.passes);
            fails = rw at ih.fails;
          }
    ]

end-ok : {A : Type 0} (y : A) (q : Place) (x : A) → ended (Ok (y, q)) ≡ Ok x → (y ≡ x) × (q.bytes ≡ [])
end-ok y q x e =
    elim (cases_Bool (eqb (length q.bytes) 0)) [
      | inl is ↦
          let none : length q.bytes ≡ 0 = eqb-true _ _ is in
          (ok-is y x (rw is at e), nil_from_length q.bytes none)
      | inr is ↦ absurd (let h = rw is at e in cc)
    ]

end-err : {A : Type 0} (y : A) (q : Place) (e : FileFault) → ended (Ok (y, q)) ≡ Err e
    → (0 < length q.bytes) × (e ≡ record { at = q.at; reason = Trailing })
end-err {A = A} y q e h =
    elim (cases_Bool (eqb (length q.bytes) 0)) [
      | inl is ↦ absurd (let k = rw is at h in cc)
      | inr is ↦
          let some : length q.bytes ≡ 0 → ⊥ = eqb-false _ _ is in
          (omega (arith, some), sym (err-is {X = A} (record { at = q.at; reason = Trailing }) e (rw is at h)))
    ]

-- a whole file is one whose fields pass
pub spells-passes : {A : Type 0} (format : Format A) (bytes : List ℕ) (x : A) → Spells format bytes x
    → Passes format bytes (done x)
spells-passes (done y) bytes x (none, is) = (none, ap (λ z. done z) (sym is))
spells-passes (field width checks next) bytes x (front, back, parts, len, pass, more) = inr (
  front,
  back,
  parts,
  len,
  pass,
  spells-passes (next front) back x more,
)

done-is : {A : Type 0} (x y : A) → done x ≡ done y → x ≡ y
done-is x y e = cc

pub passes-spells : {A : Type 0} (format : Format A) (bytes : List ℕ) (x : A) → Passes format bytes (done x)
    → Spells format bytes x
passes-spells (done y) bytes x (none, is) = (none, done-is y x (sym is))
passes-spells (field width checks next) bytes x (inl (none, is)) = absurd cc
passes-spells (field width checks next) bytes x (inr (front, back, parts, len, pass, more)) = (
  front,
  back,
  parts,
  len,
  pass,
  passes-spells (next front) back x more,
)

-- what a format spells is read
pub read-spells : {A : Type 0} (format : Format A) (bytes : List ℕ) (x : A) → Spells format bytes x
    → read format bytes ≡ Ok x
read-spells format bytes x h =
    let all : bytes ++ [] ≡ bytes = append-nil bytes in
    ap (λ (b : List ℕ). ended (run format (place 0 b))) (sym all)
    ∙ ap ended (run-passes format 0 bytes [] (done x) (omega arith) (spells-passes format bytes x h))

-- what is read is spelled so
pub spells-read : {A : Type 0} (format : Format A) (bytes : List ℕ) (x : A) → read format bytes ≡ Ok x
    → Spells format bytes x
spells-read {A = A} format bytes x h = go (run format (place 0 bytes)) refl h
  where
    go : (r : Result (A × Place) FileFault) → run format (place 0 bytes) ≡ r → ended r ≡ Ok x
        → Spells format bytes x
    go (Err e) is h = absurd cc
    go (Ok y) is h =
        let k = end-ok y.0 y.1 x h in
        let t = run-ok format (place 0 bytes) y.0 y.1 (omega arith) is in
        let all : bytes ≡ t.front = t.parts ∙ ap (λ (z : List ℕ). t.front ++ z) k.1 ∙ append-nil t.front in
        passes-spells format bytes x
        (subst (λ (b : List ℕ). Passes format b (done x)) (sym all)
        (subst (λ (z : A). Passes format t.front (done z)) k.0 t.passes))

-- the first fault is read
pub read-fault : {A : Type 0} (format : Format A) (bytes : List ℕ) (e : FileFault) → FirstFault format bytes e
    → read format bytes ≡ Err e
read-fault {A = A} format bytes e f =
    ap (λ (b : List ℕ). ended (run format (place 0 b))) f.parts
    ∙ ap ended (run-passes format 0 f.passed f.rest f.next (omega arith) f.passes) ∙ go f.next f.fails
  where
    go : (next : Format A) → Fails next (forward 0 (length f.passed)) f.rest e
        → ended (run next (place (forward 0 (length f.passed)) f.rest)) ≡ Err e
    go (done x) (some, is) =
        let no : eqb (length f.rest) 0 ≡ false = ne_eqb _ _ (omega (arith, some)) in
        rw (no, is) refl
    go (field width checks next) (inl (short, is)) =
        let k : ltb (length f.rest) width ≡ true = lt-ltb _ _ short in
        rw (k, is) refl
    go (field width checks next) (inr (r, long, refused, is)) =
        let k : ltb (length f.rest) width ≡ false = le-ltb _ _ long in
        rw (k, refused, is) refl

-- what is answered is the first fault
pub fault-read : {A : Type 0} (format : Format A) (bytes : List ℕ) (e : FileFault) → read format bytes ≡ Err e
    → FirstFault format bytes e
fault-read {A = A} format bytes e h = go (run format (place 0 bytes)) refl h
  where
    go : (r : Result (A × Place) FileFault) → run format (place 0 bytes) ≡ r → ended r ≡ Err e
        → FirstFault format bytes e
    go (Err d) is h =
        let t = run-err format (place 0 bytes) d (omega arith) is in
        let same : d ≡ e = err-is {X = A} d e h in
        record {
          passed = t.front;
          rest = t.rest;
          next = t.next;
          parts = t.parts;
          passes = t.passes;
          fails = subst (λ (d : FileFault). Fails t.next (forward 0 (length t.front)) t.rest d) same t.fails;
        }
    go (Ok y) is h =
        let k = end-err y.0 y.1 e h in
        let t = run-ok format (place 0 bytes) y.0 y.1 (omega arith) is in
        let at : y.1.at ≡ forward 0 (length t.front) = t.at in
        record {
          passed = t.front;
          rest = y.1.bytes;
          next = done y.0;
          parts = t.parts;
          passes = t.passes;
          fails = (k.0, rw at at k.1);
        }

-- exactly one value and no fault, or no value and exactly one fault
pub read-decided : {A : Type 0} (format : Format A) (bytes : List ℕ)
    → IsDecided (Spells format bytes) (FirstFault format bytes)
read-decided {A = A} format bytes = go (read format bytes) refl
  where
    go : (r : Result A FileFault) → read format bytes ≡ r
        → IsDecided (Spells format bytes) (FirstFault format bytes)
    go (Ok x) is = inl (record {
      value = x;
      stands = spells-read format bytes x is;
      only = λ y h. ok-is y x (sym (read-spells format bytes y h) ∙ is);
      faultless = λ e h. (let k = read-fault format bytes e h in cc);
    })
    go (Err d) is = inr (record {
      fault = d;
      faulty = fault-read format bytes d is;
      only = λ e h. err-is {X = A} e d (sym (read-fault format bytes e h) ∙ is);
      worthless = λ y h. (let k = read-spells format bytes y h in cc);
    })

-- ---- spellings of one format after another

pub spells-join : {A B : Type 0} (format : Format A) (f : A → Format B) (front back : List ℕ) (x : A) (y : B)
    → Spells format front x → Spells (f x) back y → Spells (format >>= f) (front ++ back) y
spells-join (done z) f front back x y (none, is) more = rw none (subst (λ z. Spells (f z) back y) (sym is) more)
spells-join (field width checks next) f front back x y (one, others, parts, len, pass, first) more = (
  one,
  others ++ back,
  rw parts (append_assoc one others back),
  len,
  pass,
  spells-join (next one) f others back x y first more,
)

pub record Split {A B : Type 0} (format : Format A) (f : A → Format B) (bytes : List ℕ) (y : B) : Type 0 where
  pub value : A
  pub front : List ℕ
  pub back : List ℕ
  pub parts : bytes ≡ front ++ back
  pub first : Spells format front value
  pub more : Spells (f value) back y

pub spells-split : {A B : Type 0} (format : Format A) (f : A → Format B) (bytes : List ℕ) (y : B)
    → Spells (format >>= f) bytes y → Split format f bytes y
spells-split (done z) f bytes y h = record {
  value = z;
  front = [];
  back = bytes;
  parts = refl;
  first = (refl, refl);
  more = h;
}
spells-split (field width checks next) f bytes y (one, others, parts, len, pass, more) =
    let ih = spells-split (next one) f others y more in
    record {
      value = ih.value;
      front = one ++ ih.front;
      back = ih.back;
      parts = parts
          ∙ ap (λ (t : List ℕ). one ++ t) ih.parts
          ∙ sym (append_assoc one ih.front ih.back);
      first = (one, ih.front, refl, len, pass, ih.first);
      more = ih.more;
    }

-- ---- checks

pub one_check : (b : Bool) (r : Refusal) → first_refusal (record { refused = b; refusal = r } ∷ []) ≡ None
    → b ≡ false
one_check true r e = absurd cc
one_check false r e = refl

pub two_checks : (b : Bool) (r : Refusal) (c : Bool) (s : Refusal)
    → first_refusal (record { refused = b; refusal = r } ∷ record { refused = c; refusal = s } ∷ []) ≡ None
    → (b ≡ false) × (c ≡ false)
two_checks true r c s e = absurd cc
two_checks false r true s e = absurd cc
two_checks false r false s e = (refl, refl)

pub neither : (a b : Bool) → (a || b) ≡ false → (a ≡ false) × (b ≡ false)
neither true b e = absurd cc
neither false b e = (refl, e)

pub both : (a b : Bool) → (a && b) ≡ true → (a ≡ true) × (b ≡ true)
both true b e = (refl, e)
both false b e = absurd cc

pub not_false : (a : Bool) → not a ≡ false → a ≡ true
not_false true e = refl
not_false false e = absurd cc
