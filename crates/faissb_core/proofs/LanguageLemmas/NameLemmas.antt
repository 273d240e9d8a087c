-- A name of a file is a text of ASCII.
use Rattle.std.proofs.Common.{◌≡◌, ℕ, ◌<◌, Bool, true, false, not, ◌&&◌, ◌||◌, nat_le, List, [], ◌∷◌, length, refl, arith}
use Rattle.std.specs.Prelude.{◌==◌}
use Rattle.std.specs.Char.{is_ascii_alphanumeric}
use Rattle.std.specs.List.{list_all}
use Rattle.std.specs.Str.{IsAscii, IsUtf8}
use Rattle.std.proofs.lemmas.Bool.{and_parts}
use Rattle.std.proofs.lemmas.Bool.Decides.{nat_tests}
use Rattle.std.proofs.lemmas.Str.{IsUtf8-from_ascii}
use Rattle.std.proofs.lemmas.Str.Ascii.{IsAscii-nil, IsAscii-cons}
use Rattle.faissb_core.specs.Language.Words.{Word, is_name_byte, is_name}

byte_is_ascii : (b : ℕ) → is_name_byte b ≡ true → b < 128
byte_is_ascii b is = grind (arith, nat_tests)

bytes_are_ascii : (bytes : List ℕ) → list_all is_name_byte bytes ≡ true → IsAscii bytes
bytes_are_ascii [] are = IsAscii-nil
bytes_are_ascii (b ∷ bytes) are =
    let p = and_parts (is_name_byte b) (list_all is_name_byte bytes) are in
    IsAscii-cons b bytes (byte_is_ascii b p.0) (bytes_are_ascii bytes p.1)

the_second : (a b c : Bool) → (a && b && c) ≡ true → b ≡ true
the_second true true c is = refl
the_second true false c is = absurd cc
the_second false b c is = absurd cc

pub name_is_utf8 : (word : Word) → is_name word ≡ true → IsUtf8 word
name_is_utf8 [] is = absurd cc
name_is_utf8 (b ∷ bytes) is = IsUtf8-from_ascii (b ∷ bytes) (bytes_are_ascii (b ∷ bytes)
    (the_second (not (b == 46)) (list_all is_name_byte (b ∷ bytes)) (nat_le (length (b ∷ bytes)) 64) is))
