-- The lines of bytes that go on, and those of them that a line feed ends.
use Rattle.std.proofs.Common.{◌≡◌, ◌≢◌, ℕ, ◌+◌, List, [], ◌∷◌, ◌++◌, Bool, true, false, cond, eqb, length, take, refl}
use Rattle.std.proofs.Common.{sym, ◌∙◌, ap, subst, inl, inr, arith}
use Rattle.std.proofs.lemmas.List.{append-nil, take_at}
use Rattle.std.proofs.lemmas.List.Recursion.{is_count_by}
use Rattle.std.proofs.lemmas.Bool.Decides.{nat_tests}
use Rattle.std.proofs.lemmas.Bool.{cases_eq}
use Rattle.std.specs.List.{AllByRecursion as ByRecursion, onto_first}
use Rattle.faissb_core.specs.Language.Lines.{lines}
use Rattle.faissb_core.specs.Runs.ScriptRun.{line_feeds}

-- b in front of the first line, if there is one
abbrev onto_any : ℕ → List (List ℕ) → List (List ℕ)
onto_any b [] = []
onto_any b (line ∷ more) = (b ∷ line) ∷ more

-- those of the lines that a line feed ends
abbrev pub ended_lines : List ℕ → List (List ℕ)
ended_lines [] = []
ended_lines (b ∷ bytes) = cond (eqb b 10) ([] ∷ ended_lines bytes) (onto_any b (ended_lines bytes))

-- without a line feed
abbrev pub IsPart : List ℕ → Type 0
IsPart raw = ByRecursion (λ b. b ≢ 10) raw

pub plain_test : (b : ℕ) → b ≢ 10 → eqb b 10 ≡ false
plain_test b ne = grind (arith, nat_tests)

pub IsPart-push : (raw : List ℕ) (b : ℕ) → IsPart raw → b ≢ 10 → IsPart (raw ++ b ∷ [])
IsPart-push [] b part ne = (ne, tt)
IsPart-push (x ∷ raw) b part ne = (part.0, IsPart-push raw b part.1 ne)

-- b belongs to the last part where no line has ended
abbrev onto_rest : ℕ → List (List ℕ) → List ℕ → List ℕ
onto_rest b [] rest = b ∷ rest
onto_rest b (line ∷ more) rest = rest

-- the bytes behind the last line feed
abbrev pub unended : List ℕ → List ℕ
unended [] = []
unended (b ∷ bytes) = cond (eqb b 10) (unended bytes) (onto_rest b (ended_lines bytes) (unended bytes))

-- a line feed ends the line
ended_lines-ended : (raw bytes : List ℕ) → IsPart raw → ended_lines (raw ++ 10 ∷ bytes) ≡ raw ∷ ended_lines bytes
ended_lines-ended [] bytes part = refl
ended_lines-ended (b ∷ raw) bytes part =
    ap (λ (v : Bool). cond v ([] ∷ ended_lines (raw ++ 10 ∷ bytes)) (onto_any b (ended_lines (raw ++ 10 ∷ bytes))))
    (plain_test b part.0)
    ∙ ap (λ (ls : List (List ℕ)). onto_any b ls) (ended_lines-ended raw bytes part.1)

unended-ended : (raw bytes : List ℕ) → IsPart raw → unended (raw ++ 10 ∷ bytes) ≡ unended bytes
unended-ended [] bytes part = refl
unended-ended (b ∷ raw) bytes part =
    ap (λ (v : Bool). cond v (unended (raw ++ 10 ∷ bytes))
    (onto_rest b (ended_lines (raw ++ 10 ∷ bytes)) (unended (raw ++ 10 ∷ bytes)))) (plain_test b part.0)
    ∙ ap (λ (ls : List (List ℕ)). onto_rest b ls (unended (raw ++ 10 ∷ bytes))) (ended_lines-ended raw bytes part.1)
    ∙ unended-ended raw bytes part.1

pub lines-ended : (raw bytes : List ℕ) → IsPart raw → lines (raw ++ 10 ∷ bytes) ≡ raw ∷ lines bytes
lines-ended [] bytes part = refl
lines-ended (b ∷ raw) bytes part =
    ap (λ (v : Bool). cond v ([] ∷ lines (raw ++ 10 ∷ bytes)) (onto_first b (lines (raw ++ 10 ∷ bytes))))
    (plain_test b part.0)
    ∙ ap (λ (ls : List (List ℕ)). onto_first b ls) (lines-ended raw bytes part.1)

-- without a line feed no line ends
ended_lines-part : (raw : List ℕ) → IsPart raw → ended_lines raw ≡ []
ended_lines-part [] part = refl
ended_lines-part (b ∷ raw) part =
    ap (λ (v : Bool). cond v ([] ∷ ended_lines raw) (onto_any b (ended_lines raw))) (plain_test b part.0)
    ∙ ap (λ (ls : List (List ℕ)). onto_any b ls) (ended_lines-part raw part.1)

unended-part : (raw : List ℕ) → IsPart raw → unended raw ≡ raw
unended-part [] part = refl
unended-part (b ∷ raw) part =
    ap (λ (v : Bool). cond v (unended raw) (onto_rest b (ended_lines raw) (unended raw))) (plain_test b part.0)
    ∙ ap (λ (ls : List (List ℕ)). onto_rest b ls (unended raw)) (ended_lines-part raw part.1)
    ∙ ap (λ (l : List ℕ). b ∷ l) (unended-part raw part.1)

-- a last line without a line feed
pub lines-part : (b : ℕ) (raw : List ℕ) → IsPart (b ∷ raw) → lines (b ∷ raw) ≡ (b ∷ raw) ∷ []
lines-part b [] part = ap (λ (v : Bool). cond v ([] ∷ []) ((b ∷ []) ∷ [])) (plain_test b part.0)
lines-part b (d ∷ raw) part =
    ap (λ (v : Bool). cond v ([] ∷ lines (d ∷ raw)) (onto_first b (lines (d ∷ raw)))) (plain_test b part.0)
    ∙ ap (λ (ls : List (List ℕ)). onto_first b ls) (lines-part d raw part.1)

pub IsPart-unended : (xs : List ℕ) → IsPart (unended xs)
IsPart-unended [] = tt
IsPart-unended (b ∷ xs) = elim (cases_eq b 10) [
  | inl feeds ↦ subst (λ n. IsPart (unended (n ∷ xs))) (sym feeds) (IsPart-unended xs)
  | inr other ↦ subst (λ v. IsPart (cond v (unended xs) (onto_rest b (ended_lines xs) (unended xs))))
      (sym (plain_test b other)) (onto_part b (ended_lines xs) (unended xs) other (IsPart-unended xs))
]
  where
    onto_part : (b : ℕ) (ended : List (List ℕ)) (rest : List ℕ) → b ≢ 10 → IsPart rest → IsPart (onto_rest b ended rest)
    onto_part b [] rest other part = (other, part)
    onto_part b (line ∷ more) rest other part = part

-- the lines that have ended, and then those of what is left
onto_first-append : (b : ℕ) (ended : List (List ℕ)) (rest ys : List ℕ) → eqb b 10 ≡ false
    → onto_first b (ended ++ lines (rest ++ ys)) ≡ onto_any b ended ++ lines (onto_rest b ended rest ++ ys)
onto_first-append b [] rest ys test = sym
    (ap (λ (v : Bool). cond v ([] ∷ lines (rest ++ ys)) (onto_first b (lines (rest ++ ys)))) test)
onto_first-append b (line ∷ more) rest ys test = refl

pub lines-append : (xs ys : List ℕ) → lines (xs ++ ys) ≡ ended_lines xs ++ lines (unended xs ++ ys)
lines-append [] ys = refl
lines-append (b ∷ xs) ys = elim (cases_eq b 10) [
  | inl feeds ↦
      subst (λ n. lines (n ∷ (xs ++ ys)) ≡ ended_lines (n ∷ xs) ++ lines (unended (n ∷ xs) ++ ys)) (sym feeds)
      (ap (λ (ls : List (List ℕ)). [] ∷ ls) (lines-append xs ys))
  | inr other ↦
      let test : eqb b 10 ≡ false = plain_test b other in
      ap (λ (v : Bool). cond v ([] ∷ lines (xs ++ ys)) (onto_first b (lines (xs ++ ys)))) test
      ∙ ap (λ (ls : List (List ℕ)). onto_first b ls) (lines-append xs ys)
      ∙ onto_first-append b (ended_lines xs) (unended xs) ys test
      ∙ sym (ap (λ (v : Bool). cond v ([] ∷ ended_lines xs) (onto_any b (ended_lines xs)) ++ lines
      (cond v (unended xs) (onto_rest b (ended_lines xs) (unended xs)) ++ ys)) test)
]

-- more bytes behind a line that has begun
module _ (raw : List ℕ) (part : IsPart raw) where
  pub ended-line : (bytes : List ℕ)
      → (ended_lines (raw ++ 10 ∷ bytes) ≡ raw ∷ ended_lines bytes) × (unended (raw ++ 10 ∷ bytes) ≡ unended bytes)
  ended-line bytes = (ended_lines-ended raw bytes part, unended-ended raw bytes part)

  pub ended-part : (ended_lines raw ≡ []) × (unended raw ≡ raw)
  ended-part = (ended_lines-part raw part, unended-part raw part)

-- there are as many of them as line feeds
length-onto_any : (b : ℕ) (ended : List (List ℕ)) → length (onto_any b ended) ≡ length ended
length-onto_any b [] = refl
length-onto_any b (line ∷ more) = refl

length-ended_step : (b : ℕ) (bytes : List ℕ)
    → length (ended_lines (b ∷ bytes)) ≡ cond (eqb b 10) (1 + length (ended_lines bytes)) (length (ended_lines bytes))
length-ended_step b bytes = elim (eqb b 10) as
    (λ v. length (cond v ([] ∷ ended_lines bytes) (onto_any b (ended_lines bytes)))
    ≡ cond v (1 + length (ended_lines bytes)) (length (ended_lines bytes))) [
      | true ↦ omega arith
      | false ↦ length-onto_any b (ended_lines bytes)
    ]

pub length-ended_lines : (bytes : List ℕ) → length (ended_lines bytes) ≡ line_feeds bytes
length-ended_lines bytes = is_count_by (λ l. length (ended_lines l)) (λ b. eqb b 10) refl length-ended_step bytes

-- they come first
pub take-ended_lines : (bytes : List ℕ) → take (line_feeds bytes) (lines bytes) ≡ ended_lines bytes
take-ended_lines bytes =
    ap (λ (ls : List (List ℕ)). take (line_feeds bytes) ls)
    (ap (λ (l : List ℕ). lines l) (sym (append-nil bytes)) ∙ lines-append bytes [])
    ∙ take_at (ended_lines bytes) (lines (unended bytes ++ [])) (line_feeds bytes) (length-ended_lines bytes)
