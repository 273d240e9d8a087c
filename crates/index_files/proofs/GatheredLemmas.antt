-- Lemmas on the rows of a bucket that are gathered.
use Rattle.std.proofs.Common.{◌≡◌, ◌+◌, ◌*◌, ℕ, suc, ℤ, List, [], ◌∷◌, ◌++◌, length, ap, subst, sym, ◌∙◌, arith}
use Rattle.std.proofs.Common.{length-append}
use Rattle.std.proofs.Math.Nat.{suc-mul}
use Rattle.std.proofs.lemmas.List.Elements.{All-push}
use Rattle.std.proofs.lemmas.List.{length-map}
use Rattle.bcodes.specs.Answers.{paired}
use Rattle.bcodes.specs.Bits.{key}
use Rattle.bcodes.specs.Chunks.{chunks_of}
use Rattle.bcodes.specs.Value.{Row}
use Rattle.bcodes.proofs.ChunkLemmas.{chunks_of-push, length-chunks_of}
use Rattle.bcodes.proofs.FormLemmas.{codes-paired}
use Rattle.hash_index.specs.Keys.{HaveKey}
use Rattle.index_files.proofs.IvfReading.{paired-append}

pub length-gathered : (size : ℕ) (ids : List ℤ) (codes : List ℕ)
    → length (paired ids (chunks_of size (length ids) codes)) ≡ length ids
length-gathered size ids codes =
    let cs : List (List ℕ) = chunks_of size (length ids) codes in
    let many : length cs ≡ length ids = length-chunks_of size (length ids) codes in
    sym (length-map (paired ids cs) (λ (row : Row). row.code)) ∙ ap length (codes-paired ids cs (sym many)) ∙ many

module _ (size : ℕ) (ids : List ℤ) (codes code : List ℕ) (id : ℤ) (whole : length codes ≡ length ids * size)
    (one : length code ≡ size) where
  longer : length (ids ++ id ∷ []) ≡ suc (length ids)
  longer = omega (arith, length-append ids (id ∷ []))

  -- the codes with one more
  pub codes_gathered : chunks_of size (length (ids ++ id ∷ [])) (codes ++ code)
      ≡ chunks_of size (length ids) codes ++ code ∷ []
  codes_gathered = ap (λ (n : ℕ). chunks_of size n (codes ++ code)) longer
      ∙ chunks_of-push size (length ids) codes code whole one

  pub codes_whole : length (codes ++ code) ≡ length (ids ++ id ∷ []) * size
  codes_whole = length-append codes code ∙ ap (λ (n : ℕ). n + length code) whole
      ∙ ap (λ (n : ℕ). length ids * size + n) one ∙ next ∙ sym (ap (λ (n : ℕ). n * size) longer)
    where
      next : length ids * size + size ≡ suc (length ids) * size
      next = sym (suc-mul (length ids) size)

  pub rows_gathered : paired (ids ++ id ∷ []) (chunks_of size (length (ids ++ id ∷ [])) (codes ++ code))
      ≡ paired ids (chunks_of size (length ids) codes) ++ record { label = id; code = code } ∷ []
  rows_gathered = ap (λ (cs : List (List ℕ)). paired (ids ++ id ∷ []) cs) codes_gathered
      ∙ paired-append ids (id ∷ []) (chunks_of size (length ids) codes) (code ∷ [])
      (sym (length-chunks_of size (length ids) codes))

  pub keys_gathered : (b k : ℕ) → HaveKey b k (chunks_of size (length ids) codes) → key code 0 b ≡ k
      → HaveKey b k (chunks_of size (length (ids ++ id ∷ [])) (codes ++ code))
  keys_gathered b k all here = subst (λ (cs : List (List ℕ)). HaveKey b k cs) (sym codes_gathered)
      (All-push (λ (c : List ℕ). key c 0 b ≡ k) (chunks_of size (length ids) codes) code all here)
