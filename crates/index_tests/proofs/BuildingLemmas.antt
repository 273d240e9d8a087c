-- Lemmas on keys, each of which has its place for its number.
use Rattle.std.proofs.Common.{◌≡◌, ℕ, zero, suc, ◌+◌, ◌<◌, List, [], ◌∷◌, ◌++◌, length, get_or, map, slice_index}
use Rattle.std.proofs.Common.{refl, sym, ap, ◌∙◌, arith}
use Rattle.std.specs.List.{All, range_with_len}
use Rattle.std.proofs.lemmas.List.FromFn.{fill_by_all, get_or-range_with_len, length-range_with_len}

range_more : (a n m : ℕ) → a + n ≡ m → range_with_len a (n + 1) ≡ range_with_len a n ++ m ∷ []
range_more a zero m e = ap (λ (k : ℕ). k ∷ []) (omega arith)
range_more a (suc n) m e =
    let h : suc n + 1 ≡ suc (n + 1) = omega arith in
    let f : (a + 1) + n ≡ m = omega arith in
    ap (range_with_len a) h ∙ ap (λ (ks : List ℕ). a ∷ ks) (range_more (a + 1) n m f)

-- one number more
pub numbers_more : (numbers : List ℕ) (n : ℕ) → numbers ≡ range_with_len 0 n
    → numbers ++ n ∷ [] ≡ range_with_len 0 (n + 1)
numbers_more numbers n e = ap (λ (ks : List ℕ). ks ++ n ∷ []) e ∙ sym (range_more 0 n n (omega arith))

-- the numbers of all keys
pub all_known : (keys numbers : List ℕ) (n : ℕ) → numbers ≡ range_with_len 0 n → n ≡ length keys
    → All (λ k. k < length keys) numbers
all_known keys numbers n e all k d here =
    let below : k < n = omega (arith, ap length e, length-range_with_len 0 n) in
    let at = ap (λ (ks : List ℕ). get_or ks k d) e ∙ get_or-range_with_len 0 n k d below in
    omega (arith, at)

pub all_named : (keys numbers : List ℕ) (n : ℕ) → numbers ≡ range_with_len 0 n → n ≡ length keys
    → map (λ k. slice_index keys k) numbers ≡ keys
all_named keys numbers n e all =
    ap (map (λ k. slice_index keys k)) e
    ∙ sym (fill_by_all (λ k. slice_index keys k) keys n 0 (sym all) (λ k here. refl))
