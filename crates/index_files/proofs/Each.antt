-- A format for each element of a list: what is read, one after the other, is spelled so, and the other way round.
use Rattle.std.proofs.Common.{◌≡◌, ℕ, suc, List, [], ◌∷◌, ◌++◌, length, map, refl, sym, ap, subst}
use Rattle.std.proofs.Common.{◌∙◌}
use Rattle.std.proofs.lemmas.List.{append-nil}
use Rattle.file_parts.specs.Format.{Format, done, ◌>>=◌, Spells}
use Rattle.file_parts.specs.Fields.{each}
use Rattle.file_parts.proofs.Reading.{spells-split, spells-join}
use Rattle.index_files.specs.Parts.{◌▸◌, Each}
use Rattle.index_files.proofs.Elements.{IsBytes, front-bytes, back-bytes}

-- x and y at each place
abbrev pub Pairs : {X A : Type 0} → (X → A → Type 0) → List X → List A → Type 0
Pairs Q [] [] = Unit {0}
Pairs Q [] (y ∷ ys) = ⊥
Pairs Q (x ∷ xs) [] = ⊥
Pairs Q (x ∷ xs) (y ∷ ys) = Q x y × Pairs Q xs ys

-- for each place the part P x y, one after the other
abbrev pub EachOf : {X A : Type 0} → (X → A → List ℕ → Type 0) → List X → List A → List ℕ → Type 0
EachOf P [] [] bytes = bytes ≡ []
EachOf P [] (y ∷ ys) bytes = ⊥
EachOf P (x ∷ xs) [] bytes = ⊥
EachOf P (x ∷ xs) (y ∷ ys) bytes = ◌▸◌ (P x y) (EachOf P xs ys) bytes

module _ {X A : Type 0} (f : X → Format A) (P : X → A → List ℕ → Type 0) where
  pub each-found : ((x : X) (bytes : List ℕ) (y : A) → IsBytes bytes → Spells (f x) bytes y → P x y bytes)
      → (xs : List X) (bytes : List ℕ) (ys : List A) → IsBytes bytes → Spells (each xs f) bytes ys
      → EachOf P xs ys bytes
  each-found one [] bytes ys fits (none, is) = subst (λ (ys : List A). EachOf P [] ys bytes) is none
  each-found one (x ∷ xs) bytes ys fits h =
      let s = spells-split (f x) (λ y. each xs f >>= λ ys. done (y ∷ ys)) bytes ys h in
      let t = spells-split (each xs f) (λ ys. done (s.value ∷ ys)) s.back ys s.more in
      let first = one x s.front s.value (front-bytes bytes s.front s.back s.parts fits) s.first in
      let at_end : s.back ≡ t.front = t.parts ∙ ap (λ (b : List ℕ). t.front ++ b) t.more.0
      ∙ append-nil t.front in
      let rest = each-found one xs t.front t.value
      (front-bytes s.back t.front t.back t.parts (back-bytes bytes s.front s.back s.parts fits)) t.first in
      subst (λ (ys : List A). EachOf P (x ∷ xs) ys bytes) t.more.1 (
        s.front,
        s.back,
        s.parts,
        first,
        subst (EachOf P xs t.value) (sym at_end) rest,
      )

  pub each-again : ((x : X) (bytes : List ℕ) (y : A) → P x y bytes → Spells (f x) bytes y)
      → (xs : List X) (ys : List A) (bytes : List ℕ) → EachOf P xs ys bytes → Spells (each xs f) bytes ys
  each-again one [] [] bytes none = (none, refl)
  each-again one [] (y ∷ ys) bytes h = absurd h
  each-again one (x ∷ xs) [] bytes h = absurd h
  each-again one (x ∷ xs) (y ∷ ys) bytes (front, back, parts, first, others) =
      let rest = each-again one xs ys back others in
      let whole : Spells (each xs f >>= λ ys. done (y ∷ ys)) (back ++ []) (y ∷ ys) =
      spells-join (each xs f) (λ ys. done (y ∷ ys)) back [] ys (y ∷ ys) rest (refl, refl) in
      let all : Spells (each xs f >>= λ ys. done (y ∷ ys)) back (y ∷ ys) =
      subst (λ (b : List ℕ). Spells (each xs f >>= λ ys. done (y ∷ ys)) b (y ∷ ys))
      (append-nil back) whole in
      rw parts (spells-join (f x) (λ z. each xs f >>= λ ys. done (z ∷ ys)) front back y (y ∷ ys)
      (one x front y first) all)

-- facts and parts apart
module _ {X A : Type 0} (Q : X → A → Type 0) (P : A → List ℕ → Type 0) where
  pub facts-of : (xs : List X) (ys : List A) (bytes : List ℕ) → EachOf (λ x y b. Q x y × P y b) xs ys bytes
      → Pairs Q xs ys
  facts-of [] [] bytes h = tt
  facts-of [] (y ∷ ys) bytes h = absurd h
  facts-of (x ∷ xs) [] bytes h = absurd h
  facts-of (x ∷ xs) (y ∷ ys) bytes (front, back, parts, one, others) = (one.0, facts-of xs ys back others)

  pub parts-of : (xs : List X) (ys : List A) (bytes : List ℕ) → EachOf (λ x y b. Q x y × P y b) xs ys bytes
      → Each P ys bytes
  parts-of [] [] bytes h = h
  parts-of [] (y ∷ ys) bytes h = absurd h
  parts-of (x ∷ xs) [] bytes h = absurd h
  parts-of (x ∷ xs) (y ∷ ys) bytes (front, back, parts, one, others) =
      (front, back, parts, one.1, parts-of xs ys back others)

  pub both-of : (xs : List X) (ys : List A) (bytes : List ℕ) → Pairs Q xs ys → Each P ys bytes
      → EachOf (λ x y b. Q x y × P y b) xs ys bytes
  both-of [] [] bytes q h = h
  both-of [] (y ∷ ys) bytes q h = absurd q
  both-of (x ∷ xs) [] bytes q h = absurd q
  both-of (x ∷ xs) (y ∷ ys) bytes q (front, back, parts, one, others) =
      (front, back, parts, (q.0, one), both-of xs ys back q.1 others)

pub pairs-length : {X A : Type 0} (Q : X → A → Type 0) (xs : List X) (ys : List A) → Pairs Q xs ys
    → length xs ≡ length ys
pairs-length Q [] [] h = refl
pairs-length Q [] (y ∷ ys) h = absurd h
pairs-length Q (x ∷ xs) [] h = absurd h
pairs-length Q (x ∷ xs) (y ∷ ys) h = ap suc (pairs-length Q xs ys h.1)

pub pairs-map : {X A : Type 0} (Q R : X → A → Type 0) → ((x : X) (y : A) → Q x y → R x y)
    → (xs : List X) (ys : List A) → Pairs Q xs ys → Pairs R xs ys
pairs-map Q R f [] [] h = tt
pairs-map Q R f [] (y ∷ ys) h = absurd h
pairs-map Q R f (x ∷ xs) [] h = absurd h
pairs-map Q R f (x ∷ xs) (y ∷ ys) h = (f x y h.0, pairs-map Q R f xs ys h.1)

-- parts of elements that are given by others
module _ {X Y : Type 0} (P : Y → List ℕ → Type 0) (g : X → Y) where
  pub each-map : (xs : List X) (bytes : List ℕ) → Each (λ x. P (g x)) xs bytes → Each P (map g xs) bytes
  each-map [] bytes h = h
  each-map (x ∷ xs) bytes (front, back, parts, one, others) = (front, back, parts, one, each-map xs back others)

  pub each-unmap : (xs : List X) (bytes : List ℕ) → Each P (map g xs) bytes → Each (λ x. P (g x)) xs bytes
  each-unmap [] bytes h = h
  each-unmap (x ∷ xs) bytes (front, back, parts, one, others) = (front, back, parts, one, each-unmap xs back others)
