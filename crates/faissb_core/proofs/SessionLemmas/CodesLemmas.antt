-- Codes that are read word by word.
use Rattle.std.proofs.Common.{◌≡◌, ℕ, suc, Option, Some, None, Ok, Err, List, [], ◌∷◌, ◌++◌, length, map, ℤ, Bor, refl, sym}
use Rattle.std.proofs.Common.{ap, ◌∙◌}
use Rattle.std.proofs.lemmas.List.{append_assoc, append-nil}
use Rattle.faissb_core.specs.declared.language.id_words.IdWords.{IdWords}
use Rattle.faissb_core.specs.declared.language.ids.Ids.{Ids}
use Rattle.faissb_core.specs.declared.reply.refusal.Refusal.{Refusal}
use Rattle.faissb_core.specs.Language.Words.{Word, IdWord, words_of}
use Rattle.faissb_core.specs.Language.Grammar.{ids_in, pairs_in}
use Rattle.faissb_core.specs.Machine.Checked.{Checked, ◌>>=◌}
use Rattle.faissb_core.specs.Machine.State.{code_of, codes_of}

-- the words that are left
abbrev pub words_left : Option (Bor (List ℕ)) → List Word
words_left None = []
words_left (Some text) = words_of text.now

-- the bytes that are left, and one more where there may be a word
abbrev pub text_left : Option (Bor (List ℕ)) → ℕ
text_left None = 0
text_left (Some text) = suc (length text.now)

-- the pairs that are left, and the bytes of their text
abbrev pub pairs_left : Option IdWords → List IdWord
pairs_left None = []
pairs_left (Some words) = pairs_in words.text.now

abbrev pub pairs_text_left : Option IdWords → ℕ
pairs_text_left None = 0
pairs_text_left (Some words) = suc (length words.text.now)

-- the ids that are left, and the bytes of their text
abbrev pub ids_left : Option Ids → List ℤ
ids_left None = []
ids_left (Some words) = ids_in words.text.now

abbrev pub ids_text_left : Option Ids → ℕ
ids_text_left None = 0
ids_text_left (Some words) = suc (length words.text.now)

-- codes behind others
abbrev pub behind : List (List ℕ) → Checked (List (List ℕ)) → Checked (List (List ℕ))
behind first (Ok more) = Ok (first ++ more)
behind first (Err refusal) = Err refusal

behind-more : (first : List (List ℕ)) (code : List ℕ) (rest : Checked (List (List ℕ)))
    → behind first (rest >>= (λ more. Ok (code ∷ more))) ≡ behind (first ++ code ∷ []) rest
behind-more first code (Ok more) = ap Ok (sym (append_assoc first (code ∷ []) more))
behind-more first code (Err refusal) = refl

-- one word more
pub codes_step : (all : Checked (List (List ℕ))) (first : List (List ℕ)) (size : ℕ) (left : List Word)
    (word code : List ℕ) (words : List Word)
    → all ≡ behind first (codes_of size left) → left ≡ word ∷ words → code_of size word ≡ Ok code
    → all ≡ behind (first ++ code ∷ []) (codes_of size words)
codes_step all first size left word code words so_far is read =
    so_far ∙ ap (λ ws. behind first (codes_of size ws)) is
    ∙ ap (λ (c : Checked (List ℕ)). behind first (c >>= (λ y. codes_of size words >>= (λ ys. Ok (y ∷ ys))))) read
    ∙ behind-more first code (codes_of size words)

-- a word that writes no code
pub codes_refused : (all : Checked (List (List ℕ))) (first : List (List ℕ)) (size : ℕ) (left : List Word)
    (word : List ℕ) (words : List Word) (refusal : Refusal)
    → all ≡ behind first (codes_of size left) → left ≡ word ∷ words → code_of size word ≡ Err refusal → all ≡ Err refusal
codes_refused all first size left word words refusal so_far is read =
    so_far ∙ ap (λ ws. behind first (codes_of size ws)) is
    ∙ ap (λ (c : Checked (List ℕ)). behind first (c >>= (λ y. codes_of size words >>= (λ ys. Ok (y ∷ ys))))) read

-- no word is left
pub codes_end : (all : Checked (List (List ℕ))) (first : List (List ℕ)) → all ≡ behind first (Ok []) → all ≡ Ok first
codes_end all first so_far = so_far ∙ ap Ok (append-nil first)

-- one id more
pub ids_step : (all first : List ℤ) (left : List IdWord) (pair : IdWord) (pairs : List IdWord)
    → all ≡ first ++ map (λ (p : IdWord). p.id) left → left ≡ pair ∷ pairs
    → all ≡ (first ++ pair.id ∷ []) ++ map (λ (p : IdWord). p.id) pairs
ids_step all first left pair pairs so_far is =
    so_far ∙ ap (λ (ps : List IdWord). first ++ map (λ (p : IdWord). p.id) ps) is
    ∙ sym (append_assoc first (pair.id ∷ []) (map (λ (p : IdWord). p.id) pairs))

-- one of some ids more
pub id_step : (all first left : List ℤ) (id : ℤ) (more : List ℤ) → all ≡ first ++ left → left ≡ id ∷ more
    → all ≡ (first ++ id ∷ []) ++ more
id_step all first left id more so_far is =
    so_far ∙ ap (λ (l : List ℤ). first ++ l) is ∙ sym (append_assoc first (id ∷ []) more)

pub ids_end : (all first : List ℤ) → all ≡ first ++ [] → all ≡ first
ids_end all first so_far = so_far ∙ append-nil first
