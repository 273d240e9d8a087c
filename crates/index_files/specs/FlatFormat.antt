-- The fields of a Flat, and what the kinds share.
use Rattle.std.specs.Prelude.{ℕ, ◌*◌, ◌/◌, ℤ, pos, Bool, true, false, not, ◌||◌, List, int_lt}
use Rattle.std.specs.Int.{is_negative}
use Rattle.bcodes.specs.Value.{CodeList}
use Rattle.file_parts.specs.declared.reason.Reason.TheVariants as reason
use Rattle.file_parts.specs.declared.role.Role.{Role}
use Rattle.file_parts.specs.declared.role.Role.TheVariants.{Within}
use Rattle.file_parts.specs.Format.{Format, done, ◌>>=◌}
use Rattle.file_parts.specs.Fields.{no_check, must_be, bytes_field, number, repeated, HeadValue, header}
use Rattle.index_files.specs.Letters.{is_flat, letters}

abbrev pub flat_value : ℕ → List (List ℕ) → CodeList
flat_value dim codes = record { dim = dim; codes = codes }

unfoldable pub code_bytes_field : HeadValue → Format ℕ
code_bytes_field head = number 8 (must_be (head.count * (head.dim / 8)) reason.VectorSize)

-- what follows the header
abbrev pub flat_codes : HeadValue → Format CodeList
flat_codes head = do
  byte_count ← code_bytes_field head
  codes ← repeated head.count (bytes_field (head.dim / 8) no_check)
  done (flat_value head.dim codes)

unfoldable pub flat_body : Role → Format CodeList
flat_body role = header role >>= flat_codes

-- a Flat with its letters, as a storage or a quantizer
unfoldable pub flat_inside : Role → Format CodeList
flat_inside role = do
  start ← letters is_flat
  flat_body role

-- ---- ids

-- an index inside an IDMap, where ids are places
abbrev pub is_inside : Role → Bool
is_inside (Within dim count) = true
is_inside _ = false

-- z is not one of the numbers below count
abbrev pub is_no_place : ℕ → ℤ → Bool
is_no_place count z = is_negative z || not (int_lt z (pos count))
