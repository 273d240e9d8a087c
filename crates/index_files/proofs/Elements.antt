-- Elements that are read one after the other are spelled so, and the other way round.
use Rattle.std.proofs.Common.{◌≡◌, ℕ, zero, suc, ◌^◌, ◌<◌, List, [], ◌∷◌, ◌++◌, length, take}
use Rattle.std.proofs.Common.{drop, All, refl, sym, ap, subst, ◌∙◌}
use Rattle.std.proofs.lemmas.List.{append-nil, take_at, drop_at}
use Rattle.std.proofs.lemmas.List.Elements.{All-nil, All-cons, All-head, All-tail, All-take, All-drop, All-same}
use Rattle.file_parts.specs.Format.{Format, done, ◌>>=◌, Spells}
use Rattle.file_parts.specs.Fields.{repeated}
use Rattle.file_parts.proofs.Reading.{spells-split, spells-join}
use Rattle.index_files.specs.Parts.{Each}

abbrev pub IsBytes : List ℕ → Type 0
IsBytes bytes = All (λ x. x < 2 ^ 8) bytes

pub front-bytes : (bytes front back : List ℕ) → bytes ≡ front ++ back → IsBytes bytes → IsBytes front
front-bytes bytes front back e h =
    All-same (λ x. x < 2 ^ 8) front (take (length front) bytes)
    (sym (ap (take (length front)) e ∙ take_at front back (length front) refl))
    (All-take (λ x. x < 2 ^ 8) (length front) bytes h)

pub back-bytes : (bytes front back : List ℕ) → bytes ≡ front ++ back → IsBytes bytes → IsBytes back
back-bytes bytes front back e h =
    All-same (λ x. x < 2 ^ 8) back (drop (length front) bytes)
    (sym (ap (drop (length front)) e ∙ drop_at front back (length front) refl))
    (All-drop (λ x. x < 2 ^ 8) (length front) bytes h)

pub record AreRead {A : Type 0} (P : A → List ℕ → Type 0) (Q : A → Type 0) (n : ℕ) (xs : List A)
    (bytes : List ℕ) : Type 0 where
  pub count : length xs ≡ n
  pub each : All Q xs
  pub parts : Each P xs bytes

module _ {A : Type 0} (f : Format A) (P : A → List ℕ → Type 0) (Q : A → Type 0) where
  pub repeated-found : ((bytes : List ℕ) (x : A) → IsBytes bytes → Spells f bytes x → P x bytes × Q x)
      → (n : ℕ) (bytes : List ℕ) (xs : List A) → IsBytes bytes → Spells (repeated n f) bytes xs
      → AreRead P Q n xs bytes
  repeated-found each zero bytes xs fits (none, is) =
      subst (λ (ys : List A). AreRead P Q 0 ys bytes) is (record { count = refl; each = All-nil Q; parts = none })
  repeated-found each (suc n) bytes xs fits h =
      let s = spells-split f (λ x. repeated n f >>= λ ys. done (x ∷ ys)) bytes xs h in
      let t = spells-split (repeated n f) (λ ys. done (s.value ∷ ys)) s.back xs s.more in
      let one = each s.front s.value (front-bytes bytes s.front s.back s.parts fits) s.first in
      let at_end : s.back ≡ t.front = t.parts ∙ ap (λ (b : List ℕ). t.front ++ b) t.more.0
      ∙ append-nil t.front in
      let ih = repeated-found each n t.front t.value
      (front-bytes s.back t.front t.back t.parts (back-bytes bytes s.front s.back s.parts fits)) t.first in
      let others : Each P t.value s.back = subst (Each P t.value) (sym at_end) ih.parts in
      subst (λ (ys : List A). AreRead P Q (suc n) ys bytes) t.more.1
      (record {
        count = ap suc ih.count;
        each = All-cons Q s.value t.value one.1 ih.each;
        parts =
            (s.front, s.back, s.parts, one.0, others);
      })

  pub repeated-again : ((bytes : List ℕ) (x : A) → P x bytes → Q x → Spells f bytes x)
      → (xs : List A) (bytes : List ℕ) → All Q xs → Each P xs bytes
      → Spells (repeated (length xs) f) bytes xs
  repeated-again each [] bytes q none = (none, refl)
  repeated-again each (x ∷ xs) bytes q (front, back, parts, one, others) =
      let first = each front x one (All-head Q x xs q) in
      let rest = repeated-again each xs back (All-tail Q x xs q) others in
      let whole : Spells (repeated (length xs) f >>= λ ys. done (x ∷ ys)) (back ++ []) (x ∷ xs) =
      spells-join (repeated (length xs) f) (λ ys. done (x ∷ ys)) back [] xs (x ∷ xs) rest (refl, refl) in
      let all : Spells (repeated (length xs) f >>= λ ys. done (x ∷ ys)) back (x ∷ xs) =
      subst (λ (b : List ℕ). Spells (repeated (length xs) f >>= λ ys. done (x ∷ ys)) b (x ∷ xs))
      (append-nil back) whole in
      rw parts (spells-join f (λ y. repeated (length xs) f >>= λ ys. done (y ∷ ys)) front back x
      (x ∷ xs) first all)
