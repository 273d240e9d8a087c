-- Lemmas on ids and the words behind them.
use Rattle.std.proofs.Common.{◌≡◌, ◌≢◌, ℕ, suc, ◌+◌, List, [], ◌∷◌, ◌++◌, length, drop, take_while, All, Bool, true, false}
use Rattle.std.proofs.Common.{not, ◌&&◌, eqb, cond, Option, Some, None, is_some, unwrap_or, refl, sym, ap, ◌∙◌, arith}
use Rattle.std.specs.List.{list_all}
use Rattle.std.specs.Option.{option_map, option_and_then}
use Rattle.std.proofs.Common.{ℤ, append-nil}
use Rattle.std.proofs.Math.Seq.{drop-append-add}
use Rattle.std.proofs.lemmas.Bool.Decides.{nat_tests}
use Rattle.std.proofs.lemmas.List.Sums.{take_while-cons}
use Rattle.std.specs.List.{All}
use Rattle.std.proofs.lemmas.Bool.{eqb-true}
use Rattle.faissb_core.specs.Language.Words.{Word, IdWord, words_of, word, id, id_before}
use Rattle.faissb_core.specs.Language.Words.{id_and_word}
use Rattle.faissb_core.specs.Language.Grammar.{each_word, ids_in, pairs_in}

-- ---- the first colon

no_colon : (b : ℕ) → b ≢ 58 → not (eqb b 58) ≡ true
no_colon b other = grind (arith, nat_tests)

front_all : (word : Word) → All (λ b. b ≢ 58) word → take_while (λ b. not (eqb b 58)) word ≡ word
front_all [] plain = refl
front_all (b ∷ word) plain =
    take_while-cons (λ b. not (eqb b 58)) b word
    ∙ ap (λ (test : Bool). cond test (b ∷ take_while (λ b. not (eqb b 58)) word) []) (no_colon b (plain 0 0 (omega arith)))
    ∙ ap (λ (w : Word). b ∷ w) (front_all word (λ k d low. plain (suc k) d (omega arith)))

front_is : (front more : Word) → All (λ b. b ≢ 58) front
    → take_while (λ b. not (eqb b 58)) (front ++ 58 ∷ more) ≡ front
front_is [] more plain = refl
front_is (b ∷ front) more plain =
    take_while-cons (λ b. not (eqb b 58)) b (front ++ 58 ∷ more)
    ∙ ap (λ (test : Bool). cond test (b ∷ take_while (λ b. not (eqb b 58)) (front ++ 58 ∷ more)) [])
    (no_colon b (plain 0 0 (omega arith)))
    ∙ ap (λ (w : Word). b ∷ w) (front_is front more (λ k d low. plain (suc k) d (omega arith)))

behind_end : (word : Word) → drop (length word + 1) word ≡ []
behind_end word = ap (λ (w : Word). drop (length word + 1) w) (sym (append-nil word)) ∙ drop-append-add word [] 1

-- a word without one has no id
pub no_id : (word : Word) → All (λ b. b ≢ 58) word → id_and_word word ≡ None
no_id word plain = rw (front_all word plain) (rw (behind_end word) refl)

-- what stands before the first and behind it
pub id_behind : (word front more : Word) → All (λ b. b ≢ 58) front → word ≡ front ++ 58 ∷ more
    → id_and_word word ≡ id_before more (id front)
id_behind word front more plain is =
    ap id_and_word is
    ∙ rw (front_is front more plain) (ap (λ (w : Word). id_before w (id front)) (drop-append-add front (58 ∷ more) 1))

none_left : (n : ℕ) → eqb (suc n) 0 ≡ true → ⊥
none_left n is = let same : suc n ≡ 0 = eqb-true (suc n) 0 is in omega arith

pub id_before-some : (more : Word) (i : Option ℤ) → eqb (length more) 0 ≡ false
    → id_before more i ≡ option_map (λ i. record { id = i; word = more }) i
id_before-some [] i some = absurd cc
id_before-some (b ∷ more) i some = refl

pub id_before-none : (more : Word) (i : Option ℤ) → eqb (length more) 0 ≡ true → id_before more i ≡ None
id_before-none [] i none = refl
id_before-none (b ∷ more) i none = absurd (none_left (length more) none)

pub no_id_before : (more : Word) → id_before more None ≡ None
no_id_before [] = refl
no_id_before (b ∷ more) = refl

-- ---- words of which each writes something

both_some : {A : Type 0} (first : Option A) (rest : Option (List A))
    → is_some (option_and_then (λ a. option_map (λ more. a ∷ more) rest) first) ≡ (is_some first && is_some rest)
both_some (Some a) (Some more) = refl
both_some (Some a) None = refl
both_some None rest = refl

some_each : {A : Type 0} (reads : Word → Option A) (words : List Word)
    → is_some (each_word reads words) ≡ list_all (λ w. is_some (reads w)) words
some_each reads [] = refl
some_each reads (w ∷ words) = both_some (reads w) (each_word reads words)
    ∙ ap (λ (test : Bool). is_some (reads w) && test) (some_each reads words)

pub some_pairs : (words : List ℕ)
    → is_some (each_word id_and_word (words_of words)) ≡ list_all (λ w. is_some (id_and_word w)) (words_of words)
some_pairs words = some_each id_and_word (words_of words)

pub some_ids : (words : List ℕ)
    → is_some (each_word id (words_of words)) ≡ list_all (λ w. is_some (id w)) (words_of words)
some_ids words = some_each id (words_of words)

unwrapped : {A : Type 0} (found : Option (List A)) → is_some found ≡ true → found ≡ Some (unwrap_or found [])
unwrapped (Some xs) is = refl
unwrapped None is = absurd cc

pub pairs_are : (words : List ℕ) → list_all (λ w. is_some (id_and_word w)) (words_of words) ≡ true
    → Some (pairs_in words) ≡ each_word id_and_word (words_of words)
pairs_are words are = sym (unwrapped (each_word id_and_word (words_of words)) (some_pairs words ∙ are))

none_is : {A : Type 0} (found : Option (List A)) → is_some found ≡ false → found ≡ None
none_is (Some xs) is = absurd cc
none_is None is = refl

pub pairs_are_not : (words : List ℕ) → list_all (λ w. is_some (id_and_word w)) (words_of words) ≡ false
    → None ≡ each_word id_and_word (words_of words)
pairs_are_not words are = sym (none_is (each_word id_and_word (words_of words)) (some_pairs words ∙ are))

pub ids_are : (words : List ℕ) → list_all (λ w. is_some (id w)) (words_of words) ≡ true
    → Some (ids_in words) ≡ each_word id (words_of words)
ids_are words are = sym (unwrapped (each_word id (words_of words)) (some_ids words ∙ are))

pub ids_are_not : (words : List ℕ) → list_all (λ w. is_some (id w)) (words_of words) ≡ false
    → None ≡ each_word id (words_of words)
ids_are_not words are = sym (none_is (each_word id (words_of words)) (some_ids words ∙ are))

-- the first id, and those behind it
pub record IsFirstId (text : List ℕ) (i : Option ℤ) (words : List Word) : Type 0 where
  pub some : is_some i ≡ true
  pub rest : is_some (each_word id words) ≡ true
  pub ids : (n : ℤ) → i ≡ Some n → ids_in text ≡ n ∷ unwrap_or (each_word id words) []

-- the first pair, and those behind it
pub record IsFirstPair (text : List ℕ) (pair : Option IdWord) (words : List Word) : Type 0 where
  pub some : is_some pair ≡ true
  pub rest : is_some (each_word id_and_word words) ≡ true
  pub pairs : (p : IdWord) → pair ≡ Some p → pairs_in text ≡ p ∷ unwrap_or (each_word id_and_word words) []

first_is : {A : Type 0} (first : Option A) (rest : Option (List A))
    → is_some (option_and_then (λ a. option_map (λ more. a ∷ more) rest) first) ≡ true
    → (is_some first ≡ true) × (is_some rest ≡ true) × ((p : A) → first ≡ Some p
    → unwrap_or (option_and_then (λ a. option_map (λ more. a ∷ more) rest) first) [] ≡ p ∷ unwrap_or rest [])
first_is (Some a) (Some more) is = (refl, refl, λ p same. ap (λ x. x ∷ more) (cc))
first_is (Some a) None is = absurd cc
first_is None rest is = absurd cc

pub first_id : (text word : List ℕ) (words : List Word) → words_of text ≡ word ∷ words
    → is_some (each_word id (words_of text)) ≡ true → IsFirstId text (id word) words
first_id text word words are is =
    let first = first_is (id word) (each_word id words) (rw are at is) in
    record {
      some = first.0;
      rest = first.1;
      ids = λ n same. ap (λ ws. unwrap_or (each_word id ws) []) are ∙ first.2 n same;
    }

pub first_pair : (text word : List ℕ) (words : List Word) → words_of text ≡ word ∷ words
    → is_some (each_word id_and_word (words_of text)) ≡ true → IsFirstPair text (id_and_word word) words
first_pair text word words are is =
    let first = first_is (id_and_word word) (each_word id_and_word words) (rw are at is) in
    record {
      some = first.0;
      rest = first.1;
      pairs = λ p same. ap (λ ws. unwrap_or (each_word id_and_word ws) []) are ∙ first.2 p same;
    }
