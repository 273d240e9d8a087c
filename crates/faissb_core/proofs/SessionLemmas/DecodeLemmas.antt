-- A word that is decoded pair by pair.
use Rattle.std.proofs.Common.{◌≡◌, ℕ, ◌+◌, ◌*◌, ◌%◌, ◌<◌, ◌≤◌, max, Option, Some, None, is_some}
use Rattle.std.proofs.Common.{unwrap_or, Result, Ok, Err, List, [], ◌∷◌, ◌++◌, length, take, get_or, set, Bool}
use Rattle.std.proofs.Common.{true, false, nat_lt, refl, sym, ap, ◌∙◌, subst, arith, length-set}
use Rattle.std.proofs.Common.{append_assoc}
use Rattle.std.specs.Bool.{MatchBool}
use Rattle.std.specs.List.{AllPass}
use Rattle.std.proofs.lemmas.Bool.Decides.{nat_tests}
use Rattle.std.specs.Result.{result_ok}
use Rattle.std.proofs.lemmas.List.{take_more, take_more_set, take_all}
use Rattle.hex.specs.declared.error.FromHexError.{FromHexError}
use Rattle.hex.specs.Hex.{decode_pairs, decode_sized, hex_digit_value, is_hex_digit, pair_value}
use Rattle.hex.specs.Hex.{◌>>=◌}
use Rattle.hex.proofs.HexLemmas.{decode_sized-ok, decode_sized-twice, decode_of-even, decode_of-ok}
use Rattle.faissb_core.specs.declared.reply.refusal.Refusal.TheVariants.{Code}
use Rattle.faissb_core.specs.Machine.Checked.{given◌else◌}
use Rattle.faissb_core.specs.Machine.State.{code_of}

-- the value of a digit, or 255
abbrev pub digit_of : ℕ → ℕ
digit_of b = unwrap_or (hex_digit_value b) 255

some_is : (o : Option ℕ) → unwrap_or o 255 < 16 → o ≡ Some (unwrap_or o 255)
some_is (Some v) low = refl
some_is None low = absurd (omega arith)

small : (b v : ℕ) → hex_digit_value b ≡ Some v → v < 16
small b v h = grind (arith)

low_is : (o : Option ℕ) → is_some o ≡ true → ((v : ℕ) → o ≡ Some v → v < 16) → unwrap_or o 255 < 16
low_is (Some v) is low = low v refl
low_is None is low = absurd cc

digit_low : (b : ℕ) → is_hex_digit b ≡ true → digit_of b < 16
digit_low b is = low_is (hex_digit_value b) is (small b)

bind_ok : {A B : Type 0} (r : Result A FromHexError) (f : A → Result B FromHexError) (y : B) → (r >>= f) ≡ Ok y
    → (x : A) × (r ≡ Ok x) × (f x ≡ Ok y)
bind_ok (Ok x) f y h = (x, refl, h)
bind_ok (Err e) f y h = absurd cc

pair_is : (a b i h l : ℕ) → hex_digit_value a ≡ Some h → hex_digit_value b ≡ Some l → pair_value a b i ≡ Ok (h * 16 + l)
pair_is a b i h l ha hb = rw (ha, hb) refl

-- one pair more
pairs_more : (i : ℕ) (xs bytes : List ℕ) (a b h l : ℕ) → decode_pairs i xs ≡ Ok bytes → hex_digit_value a ≡ Some h
    → hex_digit_value b ≡ Some l
    → decode_pairs i (xs ++ a ∷ b ∷ []) ≡ Ok (bytes ++ (h * 16 + l) ∷ [])
unfolding decode_pairs
pairs_more i [] bytes a b h l is ha hb =
    let none : [] ≡ bytes = cc in
    rw (pair_is a b i h l ha hb) (ap (λ (bs : List ℕ). Ok (bs ++ (h * 16 + l) ∷ [])) none)
pairs_more i (x ∷ []) bytes a b h l is ha hb = absurd cc
pairs_more i (x ∷ y ∷ rest) bytes a b h l is ha hb =
    let p0 = bind_ok (pair_value x y i) _ bytes is in
    let p1 = bind_ok (decode_pairs (i + 2) rest) _ bytes p0.2 in
    let more = pairs_more (i + 2) rest p1.0 a b h l p1.1 ha hb in
    let both : p0.0 ∷ p1.0 ≡ bytes = cc (p1.2) in
    rw (p0.1, more) (ap (λ (bs : List ℕ). Ok (bs ++ (h * 16 + l) ∷ [])) both)

-- the first i pairs were decoded, as far as the greatest value of a digit tells
pub record IsDecoded (word code : List ℕ) (i greatest : ℕ) : Type 0 where
  pub good : greatest < 16 → decode_pairs 0 (take (2 * i) word) ≡ Ok (take i code)
  pub bad : 16 ≤ greatest → AllPass is_hex_digit word → ⊥
  pub len : length word ≡ 2 * length code

pub decoded_start : (word code : List ℕ) → length word ≡ 2 * length code → IsDecoded word code 0 0
unfolding decode_pairs
decoded_start word code len = record { good = λ low. refl; bad = λ high all. omega arith; len = len }

two_more : (word : List ℕ) (i : ℕ) → 2 * i + 1 < length word
    → take (2 * (i + 1)) word ≡ take (2 * i) word ++ get_or word (2 * i) 0 ∷ get_or word (2 * i + 1) 0 ∷ []
two_more word i within =
    let on : 2 * (i + 1) ≡ (2 * i + 1) + 1 = omega arith in
    ap (λ (n : ℕ). take n word) on ∙ take_more word (2 * i + 1) 0 within
    ∙ ap (λ (l : List ℕ). l ++ get_or word (2 * i + 1) 0 ∷ []) (take_more word (2 * i) 0 (omega arith))
    ∙ append_assoc (take (2 * i) word) (get_or word (2 * i) 0 ∷ []) (get_or word (2 * i + 1) 0 ∷ [])

pub decoded_more : (word code : List ℕ) (i greatest high low byte next : ℕ) → IsDecoded word code i greatest
    → i < length code
    → high ≡ digit_of (get_or word (2 * i) 0) → low ≡ digit_of (get_or word (2 * i + 1) 0)
    → byte ≡ high % 16 * 16 + low % 16 → next ≡ max (max greatest high) low
    → IsDecoded word (set code i byte) (i + 1) next
decoded_more word code i greatest high low byte next so_far within high_is low_is byte_is next_is = record {
  good = λ small_next.
      let high_low : digit_of (get_or word (2 * i) 0) < 16 = omega (arith, high_is, next_is) in
      let low_low : digit_of (get_or word (2 * i + 1) 0) < 16 = omega (arith, low_is, next_is) in
      let step = pairs_more 0 (take (2 * i) word) (take i code) _ _ _ _ (so_far.good (omega (arith, next_is)))
      (some_is _ high_low) (some_is _ low_low) in
      let value : digit_of (get_or word (2 * i) 0) * 16 + digit_of (get_or word (2 * i + 1) 0)
      ≡ byte = omega (arith, high_is, low_is, byte_is) in
      ap (λ (l : List ℕ). decode_pairs 0 l) (two_more word i (omega (arith, so_far.len))) ∙ step
      ∙ ap (λ (v : ℕ). Ok (take i code ++ v ∷ [])) value ∙ ap Ok (sym (take_more_set code i byte within));
  bad = λ large all.
      let first = digit_low (get_or word (2 * i) 0) (all (2 * i) 0 (omega (arith, so_far.len))) in
      let second = digit_low (get_or word (2 * i + 1) 0) (all (2 * i + 1) 0 (omega (arith, so_far.len))) in
      so_far.bad (omega (arith, first, second, high_is, low_is, next_is)) all;
  len = so_far.len ∙ ap (λ (n : ℕ). 2 * n) (sym (length-set code i byte));
}

refused : (d : Result (List ℕ) FromHexError) → ((bytes : List ℕ) → d ≡ Ok bytes → ⊥)
    → (given result_ok d else Code) ≡ Err Code
refused (Ok bytes) never = absurd (never bytes refl)
refused (Err e) never = refl

-- all pairs were decoded
decoded_good : (word code : List ℕ) (n greatest : ℕ) → IsDecoded word code n greatest → n ≡ length code
    → greatest < 16 → code_of n word ≡ Ok code
decoded_good word code n greatest done all low =
    let whole : take (2 * n) word ≡ word = take_all (2 * n) word (omega (arith, done.len)) in
    let bytes : take n code ≡ code = take_all n code (omega (arith, all)) in
    let decoded : decode_sized word n ≡ Ok code =
    decode_sized-twice word n (omega (arith, done.len)) ∙ decode_of-even word (omega (arith, done.len))
    ∙ ap (λ (l : List ℕ). decode_pairs 0 l) (sym whole) ∙ done.good low ∙ ap Ok bytes in
    rw decoded refl

-- some byte was no digit
decoded_bad : (word code : List ℕ) (n greatest : ℕ) → IsDecoded word code n greatest → n ≡ length code
    → 16 ≤ greatest → code_of n word ≡ Err Code
decoded_bad word code n greatest done all high =
    refused (decode_sized word n)
    (λ bytes is. done.bad high (decode_of-ok word bytes (sym (decode_sized-twice word n (omega (arith, done.len)))
    ∙ is)).1)

below : (n m : ℕ) → true ≡ nat_lt n m → n < m
below n m h = grind (arith, nat_tests)

at_least : (n m : ℕ) → false ≡ nat_lt n m → m ≤ n
at_least n m h = grind (arith, nat_tests)

by_test : (word code : List ℕ) (n greatest : ℕ) (test : Bool) → test ≡ nat_lt greatest 16
    → IsDecoded word code n greatest → n ≡ length code
    → MatchBool test (code_of n word ≡ Ok code) (code_of n word ≡ Err Code)
by_test word code n greatest true is done all = decoded_good word code n greatest done all (below greatest 16 is)
by_test word code n greatest false is done all = decoded_bad word code n greatest done all (at_least greatest 16 is)

-- all pairs were looked at
pub all_decoded : (word code : List ℕ) (n i greatest : ℕ) → IsDecoded word code i greatest → i ≡ n → n ≡ length code
    → MatchBool (nat_lt greatest 16) (code_of n word ≡ Ok code) (code_of n word ≡ Err Code)
all_decoded word code n i greatest done same all = by_test word code n greatest (nat_lt greatest 16) refl
    (subst (λ m. IsDecoded word code m greatest) same done) all

-- a word of another size
pub other_size : (word : List ℕ) (n : ℕ) → (length word ≡ 2 * n → ⊥) → code_of n word ≡ Err Code
other_size word n other = refused (decode_sized word n) (λ bytes is. other (decode_sized-ok word n bytes is))
