-- Lemmas on the words of a line.
use Rattle.std.proofs.Common.{◌≡◌, ◌≢◌, ℕ, List, [], ◌∷◌, ◌++◌, All, eqb, false, refl, arith}
use Rattle.std.proofs.lemmas.Bool.Decides.{nat_tests}
use Rattle.std.proofs.lemmas.List.Splits.{slice_split_none, slice_split_at}
use Rattle.faissb_core.specs.Language.Words.{words_of}

other : (b separator : ℕ) → b ≢ separator → eqb b separator ≡ false
other b separator ne = grind (arith, nat_tests)

-- one word alone
pub words_of_last : (word : List ℕ) → All (λ b. b ≢ 32) word → words_of word ≡ word ∷ []
words_of_last word plain = slice_split_none (λ b. eqb b 32) word (λ k d low. other _ 32 (plain k d low))

-- a word before a space
pub words_of_first : (text word more : List ℕ) → All (λ b. b ≢ 32) word → text ≡ word ++ 32 ∷ more
    → words_of text ≡ word ∷ words_of more
words_of_first text word more plain is = rw is
    (slice_split_at (λ b. eqb b 32) word 32 more (λ k d low. other _ 32 (plain k d low)) refl)
