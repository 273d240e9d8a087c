-- The words of a line, and what a word may write.
use Rattle.std.specs.Prelude.{ℕ, zero, suc, ◌+◌, ◌^◌, ℤ, pos, negsuc, ◌==◌, ◌&&◌, ◌||◌, not, Bool, true, false}
use Rattle.std.specs.Prelude.{nat_le, nat_lt, if◌then◌else◌, List, [], ◌∷◌, length, take_while, drop, codes}
use Rattle.std.specs.Prelude.{Option, None, Some}
use Rattle.std.specs.Char.{is_ascii_alphanumeric, is_ascii_digit, is_ascii_graphic}
use Rattle.std.specs.List.{list_all, slice_split}
use Rattle.std.specs.Option.{option_map, option_and_then}
use Rattle.std.specs.Str.{bytes_eq}
use Rattle.std.specs.Str.Parse.{digits_value}

abbrev pub Word : Type 0
Word = List ℕ

-- words are parted by one space each
abbrev pub words_of : List ℕ → List Word
words_of line = slice_split (λ b. b == 32) line

-- a word is one or more graphic characters of ASCII, the bytes 33 to 126
abbrev pub is_word : Word → Bool
is_word [] = false
is_word (b ∷ bytes) = list_all is_ascii_graphic (b ∷ bytes)

-- any word
abbrev pub word : Word → Option Word
word w = Some w

-- a digit from 1 to 9 and at most 18 further digits
abbrev pub is_positive_number : Word → Bool
is_positive_number [] = false
is_positive_number (b ∷ digits) = nat_lt 48 b && list_all is_ascii_digit (b ∷ digits) && nat_le (length digits) 18

-- a number: 0, or one without a leading 0
abbrev pub number : Word → Option ℕ
number w = if bytes_eq w (codes "0") || is_positive_number w then Some (digits_value 10 w) else None

-- a number from `least` to `most`
abbrev pub if_within : ℕ → ℕ → ℕ → Option ℕ
if_within least most n = if nat_le least n && nat_le n most then Some n else None

abbrev pub number_within : ℕ → ℕ → Word → Option ℕ
number_within least most w = option_and_then (if_within least most) (number w)

-- an id: a number, or one but 0 behind a `-`, of 64 bits with its sign
abbrev pub positive_id : ℕ → Option ℤ
positive_id n = if nat_lt n (2 ^ 63) then Some (pos n) else None

abbrev pub negative_id : ℕ → Option ℤ
negative_id zero = None
negative_id (suc n) = if nat_lt n (2 ^ 63) then Some (negsuc n) else None

abbrev pub id : Word → Option ℤ
id [] = None
id (b ∷ bytes) =
    if b == 45 then option_and_then negative_id (number bytes) else option_and_then positive_id (number (b ∷ bytes))

-- an id, and the word of a code
pub record IdWord : Type 0 where
  pub id : ℤ
  pub word : Word

abbrev pub id_before : Word → Option ℤ → Option IdWord
id_before [] i = None
id_before (b ∷ bytes) i = option_map (λ i. record { id = i; word = b ∷ bytes }) i

-- an id and a word that is not empty, with the first `:` between them
abbrev pub id_and_word : Word → Option IdWord
id_and_word w = let front = take_while (λ b. not (b == 58)) w in id_before (drop (length front + 1) w) (id front)

-- a name of a file: letters, digits, `.`, `_` and `-`, at most 64 of them, and not `.` first
abbrev pub is_name_byte : ℕ → Bool
is_name_byte b = is_ascii_alphanumeric b || b == 46 || b == 95 || b == 45

abbrev pub is_name : Word → Bool
is_name [] = false
is_name (b ∷ bytes) = not (b == 46) && list_all is_name_byte (b ∷ bytes) && nat_le (length (b ∷ bytes)) 64

abbrev pub name : Word → Option Word
name w = if is_name w then Some w else None

-- `on` or `off`
abbrev pub switch : Word → Option Bool
switch w = if bytes_eq w (codes "on") then Some true else if bytes_eq w (codes "off") then Some false else None
