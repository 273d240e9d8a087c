-- Lemmas on the digits of a number.
use Rattle.std.proofs.Common.{◌≡◌, ℕ, ◌+◌, ◌-◌, ◌*◌, ◌^◌, ◌<◌, ◌≤◌, List, length, take, get_or, true, nat_le, arith}
use Rattle.std.proofs.Common.{lit<, add-one, pow-suc}
use Rattle.std.specs.Char.{digit_value, is_ascii_digit}
use Rattle.std.specs.List.{list_all}
use Rattle.std.specs.Str.Parse.{digits_value}
use Rattle.std.proofs.lemmas.Bool.{and_parts}
use Rattle.std.proofs.lemmas.Bool.Decides.{nat_tests}
use Rattle.std.proofs.lemmas.Int.Digits.{digits_value_more}
use Rattle.std.proofs.lemmas.List.Sums.{AllPass-from_list_all}
use Rattle.std.proofs.lemmas.Str.{digit_value_digit}
use Rattle.std.proofs.Math.Nat.{pow-le-pow_right, lt_of_lt_of_le}

-- a digit lies from 48 to 57
record IsDigitByte (b : ℕ) : Type 0 where
  least : 48 ≤ b
  most : b ≤ 57
  worth : digit_value b + 48 ≡ b

digit_byte : (b : ℕ) → is_ascii_digit b ≡ true → IsDigitByte b
digit_byte b is =
    let p = and_parts (nat_le 48 b) (nat_le b 57) is in
    record {
      least = search (arith, nat_tests);
      most = search (arith, nat_tests);
      worth = digit_value_digit b
          (search (arith, nat_tests));
    }

-- one more digit of a number
pub record IsDigitStep (digits : List ℕ) (i n : ℕ) : Type 0 where
  pub is_digit : 48 ≤ get_or digits i 0
  pub room : n * 10 + (get_or digits i 0 - 48) < 2 ^ 64
  pub value : n * 10 + (get_or digits i 0 - 48) ≡ digits_value 10 (take (i + 1) digits)
  pub small : n * 10 + (get_or digits i 0 - 48) < 10 ^ (i + 1)

pub one_digit : (digits : List ℕ) (i n : ℕ) → list_all is_ascii_digit digits ≡ true → length digits ≤ 19
    → i < length digits → n ≡ digits_value 10 (take i digits) → n < 10 ^ i → IsDigitStep digits i n
one_digit digits i n all few here so_far low =
    let digit = digit_byte (get_or digits i 0) (AllPass-from_list_all is_ascii_digit digits all i 0 here) in
    let next : 10 ^ (i + 1) ≡ 10 ^ i * 10 = rw add-one (pow-suc 10 i) in
    let small : n * 10 + (get_or digits i 0 - 48) < 10 ^ (i + 1) = omega (arith, next) in
    let most : 10 ^ (i + 1) ≤ 10 ^ 19 = pow-le-pow_right (lit< tt) {i = i + 1} {j = 19} (omega arith) in
    record {
      is_digit = omega arith;
      room = lt_of_lt_of_le small (omega (arith, most));
      value = omega (arith, digits_value_more 10 digits i here, digit.worth);
      small = small;
    }
