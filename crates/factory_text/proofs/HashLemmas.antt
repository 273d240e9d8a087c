-- Lemmas on the numbers of Hash and MultiHash, which an `x` parts.
use Rattle.std.proofs.Common.{◌≡◌, ◌≢◌, ℕ, ◌<◌, List, [], ◌∷◌, ◌++◌, length, Bool, true, false, eqb, cond, All, Err}
use Rattle.std.proofs.Common.{refl, arith, sym, ◌∙◌, ap}
use Rattle.std.specs.Prelude.{◌&&◌}
use Rattle.std.specs.Char.{is_ascii_digit}
use Rattle.std.specs.List.{join_with_byte}
use Rattle.std.proofs.lemmas.Bool.Decides.{nat_tests}
use Rattle.std.proofs.lemmas.List.Splits.{slice_split_none, slice_split_at, length-slice_split}
use Rattle.std.proofs.lemmas.List.Splits.{join_with_byte-slice_split}
use Rattle.std.proofs.lemmas.List.Sums.{AllPass-from_list_all}
use Rattle.factory_text.specs.declared.spec_error.SpecError.TheVariants.{Unknown}
use Rattle.factory_text.specs.Numerals.{is_numeral}
use Rattle.factory_text.specs.Reading.{hash_kind, hash_parts, parted_by_x}

-- no digit is an `x`
no_x : (b : ℕ) → is_ascii_digit b ≡ true → b ≢ 120
no_x b is = grind (arith, nat_tests)

pub digits_without_x : (digits : List ℕ) → is_numeral digits ≡ true → All (λ b. b ≢ 120) digits
digits_without_x [] is = cc
digits_without_x (d ∷ digits) is =
    λ k e low. no_x _ (AllPass-from_list_all is_ascii_digit (d ∷ digits) is k e low)

other : (b : ℕ) → b ≢ 120 → eqb b 120 ≡ false
other b ne = grind (arith, nat_tests)

-- a text without an `x`
one_part : (text : List ℕ) → All (λ b. b ≢ 120) text → parted_by_x text ≡ text ∷ []
one_part text plain = slice_split_none (λ b. eqb b 120) text (λ k e low. other _ (plain k e low))

pub hash_of_one : (text : List ℕ) → All (λ b. b ≢ 120) text → hash_kind text ≡ hash_parts (text ∷ [])
hash_of_one text plain = ap hash_parts (one_part text plain)

-- a list of parts of which the second is no numeral
cond_same : {A : Type 0} (b : Bool) (x : A) → cond b x x ≡ x
cond_same true x = refl
cond_same false x = refl

last_fails : {A : Type 0} (a b : Bool) (x y : A) → b ≡ false → cond (a && (b && true)) x y ≡ y
last_fails true true x y is = absurd (cc)
last_fails true false x y is = refl
last_fails false b x y is = refl

not_read : (maps bits : List ℕ) (parts : List (List ℕ)) → 0 < length parts → join_with_byte 120 parts ≡ bits
    → is_numeral bits ≡ false → hash_parts (maps ∷ parts) ≡ Err Unknown
not_read maps bits [] some joined bad = absurd (omega arith)
not_read maps bits (part ∷ []) some joined bad =
    let none : is_numeral part ≡ false = ap is_numeral joined ∙ bad in
    last_fails (is_numeral maps) (is_numeral part) _ (Err Unknown) none
not_read maps bits (part ∷ more ∷ parts) some joined bad = cond_same _ (Err Unknown)

two_by : (maps bits : List ℕ) (b : Bool) → is_numeral bits ≡ b
    → hash_parts (maps ∷ parted_by_x bits) ≡ hash_parts (maps ∷ bits ∷ [])
two_by maps bits true is = ap (λ parts. hash_parts (maps ∷ parts)) (one_part bits (digits_without_x bits is))
two_by maps bits false is =
    not_read maps bits (parted_by_x bits) (omega (arith, length-slice_split (λ b. eqb b 120) bits))
    (join_with_byte-slice_split 120 bits) is
    ∙ sym (not_read maps bits (bits ∷ []) (omega arith) refl is)

-- a text with an `x`
pub hash_of_two : (text maps bits : List ℕ) → All (λ b. b ≢ 120) maps → text ≡ maps ++ 120 ∷ bits
    → hash_kind text ≡ hash_parts (maps ∷ bits ∷ [])
hash_of_two text maps bits plain is =
    let parts : parted_by_x text ≡ maps ∷ parted_by_x bits
    = rw is (slice_split_at (λ b. eqb b 120) maps 120 bits (λ k e low. other _ (plain k e low)) refl) in
    ap hash_parts parts ∙ two_by maps bits (is_numeral bits) refl
