-- Lemmas on the numbers of factory texts.
use Rattle.std.proofs.Common.{◌≡◌, ℕ, ◌+◌, ◌-◌, ◌*◌, ◌^◌, ◌<◌, ◌≤◌, List, [], ◌∷◌, length, take, get_or, Bool, true, false}
use Rattle.std.specs.Prelude.{codes, nat_lt, ◌||◌}
use Rattle.factory_text.specs.declared.spec_error.SpecError.TheVariants.{Number}
use Rattle.std.proofs.Common.{Ok, Err, IfOk, cond, nat_le, min, refl, arith, rules, lit<, sym, ◌∙◌, suc, zero}
use Rattle.std.specs.Char.{digit_value, is_ascii_digit}
use Rattle.std.specs.Int.{IsInRange}
use Rattle.std.specs.Fmt.{decimal}
use Rattle.std.specs.List.{list_all}
use Rattle.std.specs.Str.Parse.{digits_value}
use Rattle.std.proofs.lemmas.Bool.{and_parts}
use Rattle.std.proofs.lemmas.Bool.Decides.{nat_tests}
use Rattle.std.proofs.lemmas.Fmt.{decimal-digits_value, digits_decimal, digits_value-decimal, first_decimal, decimal_nonempty, decimal_digit}
use Rattle.std.proofs.lemmas.Int.Digits.{digits_value_more}
use Rattle.std.proofs.lemmas.List.Sums.{AllPass-from_list_all}
use Rattle.std.proofs.lemmas.Str.{digit_value_digit}
use Rattle.std.proofs.lemmas.Str.Parse.{IsNumeralModel, IsDigitsTest, numerals_by_value}
use Rattle.factory_text.specs.Numerals.{begins, is_numeral}
use Rattle.factory_text.specs.Reading.{number}

-- a digit lies from 48 to 57
record IsDigitByte (b : ℕ) : Type 0 where
  least : 48 ≤ b
  most : b ≤ 57
  worth : digit_value b + 48 ≡ b

digit_byte : (b : ℕ) → is_ascii_digit b ≡ true → IsDigitByte b
digit_byte b is =
    let p = and_parts (nat_le 48 b) (nat_le b 57) is in
    record {
      least = search (arith, nat_tests);
      most = search (arith, nat_tests);
      worth = digit_value_digit b (search (arith, nat_tests));
    }

-- one more digit of a number that stops at a limit
pub record IsDigitStep (digits : List ℕ) (i n : ℕ) : Type 0 where
  pub is_digit : 48 ≤ get_or digits i 0
  pub value : min (min (n * 10) (2 ^ 32 - 1) + (get_or digits i 0 - 48)) (2 ^ 32 - 1)
      ≡ min (digits_value 10 (take (i + 1) digits)) (2 ^ 32 - 1)

pub one_digit : (digits : List ℕ) (i n : ℕ) → list_all is_ascii_digit digits ≡ true → i < length digits
    → n ≡ min (digits_value 10 (take i digits)) (2 ^ 32 - 1) → IsDigitStep digits i n
one_digit digits i n all here so_far =
    let digit = digit_byte (get_or digits i 0) (AllPass-from_list_all is_ascii_digit digits all i 0 here) in
    record {
      is_digit = omega arith;
      value = omega (arith, digits_value_more 10 digits i here, digit.worth);
    }

-- a text of digits, by the test
digits_test : IsDigitsTest (λ ds. list_all is_ascii_digit ds ≡ true)
digits_test = search (rules, nat_tests)

own : IsNumeralModel (λ ds. list_all is_ascii_digit ds ≡ true) (digits_value 10)
own = numerals_by_value _ digits_test

-- the digits of a numeral
are_digits : (digits : List ℕ) → is_numeral digits ≡ true → list_all is_ascii_digit digits ≡ true
are_digits [] is = refl
are_digits (d ∷ digits) is = is

some_digits : (digits : List ℕ) → is_numeral digits ≡ true → 0 < length digits
some_digits [] is = cc
some_digits (d ∷ digits) is = omega arith

pub is_numeral-from : (digits : List ℕ) → list_all is_ascii_digit digits ≡ true → 0 < length digits
    → is_numeral digits ≡ true
is_numeral-from [] is some = absurd (omega arith)
is_numeral-from (d ∷ digits) is some = is

-- a text that does not begin with a zero
no_zero : (digits : List ℕ) → begins (codes "0") digits ≡ false → get_or digits 0 0 ≡ 48 → 0 < length digits
    → length digits ≡ 1
no_zero [] plain is some = absurd (omega arith)
no_zero (d ∷ digits) plain is some = absurd (grind (arith, nat_tests))

not_zero : (digits : List ℕ) → 48 < get_or digits 0 0 → begins (codes "0") digits ≡ false
not_zero [] more = refl
not_zero (d ∷ digits) more = grind (arith, nat_tests)

positive : (digits : List ℕ) (n : ℕ) → decimal n ≡ digits → begins (codes "0") digits ≡ false
    → 1 ≤ n
positive digits zero same plain =
    let written : digits ≡ 48 ∷ [] = sym same ∙ decimal_digit 0 (lit< tt) in
    let bad : begins (codes "0") (48 ∷ []) ≡ false = rw written at plain in
    absurd (cc)
positive digits (suc n) same plain = omega arith

-- a number that is read is written by the same digits
number_by : (most : ℕ) (digits : List ℕ) (zeros high : Bool) → begins (codes "0") digits ≡ zeros
    → nat_lt most (digits_value 10 digits) ≡ high → is_numeral digits ≡ true → most < 2 ^ 64
    → IfOk (cond (zeros || high) (Err Number) (Ok (digits_value 10 digits)))
    (λ n. (digits ≡ decimal n) × IsInRange 1 most n)
number_by most digits true high plain above is limit = tt
number_by most digits false true plain above is limit = tt
number_by most digits false false plain above is limit =
    let low : digits_value 10 digits ≤ most = search (arith, nat_tests) in
    let same : decimal (digits_value 10 digits) ≡ digits
    = decimal-digits_value own digits (are_digits digits is) (some_digits digits is)
    (λ h. no_zero digits plain h (some_digits digits is)) (omega arith) in
    (sym same, (positive digits (digits_value 10 digits) same plain, low))

pub number_read : (most : ℕ) (digits : List ℕ) → is_numeral digits ≡ true → most < 2 ^ 64
    → IfOk (number most digits) (λ n. (digits ≡ decimal n) × IsInRange 1 most n)
number_read most digits is limit = number_by most digits (begins (codes "0") digits)
    (nat_lt most (digits_value 10 digits)) refl refl is limit

-- and the digits of a number read as it
pub decimal_numeral : (n : ℕ) → n < 2 ^ 64 → is_numeral (decimal n) ≡ true
decimal_numeral n small = is_numeral-from (decimal n) (digits_decimal own n small) (decimal_nonempty n small)

pub number_written : (most n : ℕ) → IsInRange 1 most n → most < 2 ^ 64 → number most (decimal n) ≡ Ok n
number_written most n range limit =
    let small : n < 2 ^ 64 = omega arith in
    let plain : begins (codes "0") (decimal n) ≡ false
    = not_zero (decimal n) (first_decimal n (omega arith) small) in
    let value : digits_value 10 (decimal n) ≡ n = digits_value-decimal own n small in
    let low : nat_lt most n ≡ false = search (arith, nat_tests) in
    rw (plain, value, low) refl
