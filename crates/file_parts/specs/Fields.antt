-- The fields of a file and a header.
use Rattle.std.specs.Prelude.{ℕ, zero, suc, ◌+◌, ◌*◌, ◌/◌, ◌^◌, ℤ, Bool, true, not, ◌&&◌}
use Rattle.std.specs.Prelude.{◌||◌, List}
use Rattle.std.specs.Prelude.{[], ◌∷◌, nat_lt, nat_le, ◌==◌}
use Rattle.std.specs.Int.{w32, w64, cast_signed, cast_unsigned}
use Rattle.byteorder.specs.Endian.{little_bytes, little_number}
use Rattle.bcodes.specs.Ranges.{is_dim, load_limit}
use Rattle.file_parts.specs.declared.reason.Reason.{Reason}
use Rattle.file_parts.specs.declared.reason.Reason.TheVariants as reason
use Rattle.file_parts.specs.declared.role.Role.{Role}
use Rattle.file_parts.specs.declared.role.Role.TheVariants.{Outermost, Within, Quantizer}
use Rattle.file_parts.specs.Format.{Check, ◌⇒◌, Format, done, field, ◌>>=◌}

abbrev pub no_check : {X : Type 0} → X → List Check
no_check x = []

-- only this number passes
abbrev pub must_be : ℕ → Reason → ℕ → List Check
must_be wanted reason n = (not (n == wanted) ⇒ reason) ∷ []

-- no greater number passes
abbrev pub at_most : ℕ → Reason → ℕ → List Check
at_most most reason n = (nat_lt most n ⇒ reason) ∷ []

-- n is not one of the numbers from `least` to `most`
abbrev pub is_out : ℕ → ℕ → ℕ → Bool
is_out least most n = nat_lt n least || nat_lt most n

-- only these numbers pass
abbrev pub in_range : ℕ → ℕ → ℕ → List Check
in_range least most n = (is_out least most n ⇒ reason.Number) ∷ []

-- so many bytes
abbrev pub bytes_field : ℕ → (List ℕ → List Check) → Format (List ℕ)
bytes_field width checks = field width checks (λ bytes. done bytes)

-- the number in w bytes, the lowest first
unfoldable pub number_of : ℕ → List ℕ → ℕ
number_of w bytes = little_number w bytes

-- the same in two's complement of 64 bits
unfoldable pub signed_of : ℕ → List ℕ → ℤ
signed_of w bytes = cast_signed w64 (little_number w bytes)

-- the number in four bytes, the lowest first, in two's complement of 32 bits
unfoldable pub int_of : List ℕ → ℤ
int_of bytes = cast_signed w32 (little_number 4 bytes)

-- the lowest w bytes of a number, the lowest first
unfoldable pub number_bytes : ℕ → ℕ → List ℕ
number_bytes w n = little_bytes w n

-- those of a signed number, in two's complement of 64 bits
unfoldable pub signed_bytes : ℕ → ℤ → List ℕ
signed_bytes w z = little_bytes w (cast_unsigned w64 z)

-- the four bytes of a signed number, the lowest first, in two's complement of 32 bits
unfoldable pub int_bytes : ℤ → List ℕ
int_bytes z = little_bytes 4 (cast_unsigned w32 z)

-- A number field. A negative one reads as one from the middle of the range on.
abbrev pub number : ℕ → (ℕ → List Check) → Format ℕ
number w checks = field w (λ bytes. checks (number_of w bytes)) (λ bytes. done (number_of w bytes))

-- any number
abbrev pub any_number : ℕ → Format ℕ
any_number w = number w no_check

abbrev pub signed : ℕ → (ℤ → List Check) → Format ℤ
signed w checks = field w (λ bytes. checks (signed_of w bytes)) (λ bytes. done (signed_of w bytes))

abbrev pub any_signed : ℕ → Format ℤ
any_signed w = signed w no_check

-- any signed number of 32 bits
abbrev pub any_int : Format ℤ
any_int = field 4 no_check (λ bytes. done (int_of bytes))

-- a format for each x, one after the other
abbrev pub each : {X A : Type 0} → List X → (X → Format A) → Format (List A)
each [] format = done []
each (x ∷ xs) format = do
  y ← format x
  ys ← each xs format
  done (y ∷ ys)

-- so many of one format
abbrev pub repeated : {A : Type 0} → ℕ → Format A → Format (List A)
repeated zero format = done []
repeated (suc n) format = do
  x ← format
  xs ← repeated n format
  done (x ∷ xs)

abbrev pub takes_dim : Role → ℕ → Bool
takes_dim Outermost d = true
takes_dim (Within dim count) d = d == dim
takes_dim (Quantizer dim nlist rows flag) d = d == dim

abbrev pub takes_count : Role → ℕ → Bool
takes_count Outermost n = true
takes_count (Within dim count) n = n == count
takes_count (Quantizer dim nlist rows flag) n = nat_le n nlist && (n == nlist || (not flag && rows == 0))

-- the rows that count for the load beside those of the header
abbrev pub rows_beside : Role → ℕ
rows_beside Outermost = 0
rows_beside (Within dim count) = 0
rows_beside (Quantizer dim nlist rows flag) = rows

pub record HeadValue : Type 0 where
  pub dim : ℕ
  pub count : ℕ
  pub flag : Bool

abbrev pub dim_checks : Role → ℕ → List Check
dim_checks role d = (not (is_dim d) || not (takes_dim role d) ⇒ reason.Dim) ∷ []

unfoldable pub dim_field : Role → Format ℕ
dim_field role = number 4 (dim_checks role)

unfoldable pub code_size_field : ℕ → Format ℕ
code_size_field d = number 4 (must_be (d / 8) reason.CodeSize)

abbrev pub count_checks : Role → ℕ → ℕ → List Check
count_checks role d n =
    (nat_le (2 ^ 63) n || not (takes_count role n) ⇒ reason.Count)
    ∷ (nat_lt load_limit ((rows_beside role + n) * (d / 8 + 16)) ⇒ reason.Load)
    ∷ []

unfoldable pub count_field : Role → ℕ → Format ℕ
count_field role d = number 8 (count_checks role d)

unfoldable pub flag_field : Format ℕ
flag_field = number 1 (at_most 1 reason.Flag)

unfoldable pub metric_field : Format ℕ
metric_field = number 4 (at_most 1 reason.Metric)

abbrev pub head_value : ℕ → ℕ → ℕ → HeadValue
head_value d n flag = record { dim = d; count = n; flag = flag == 1 }

unfoldable pub header : Role → Format HeadValue
header role = do
  d ← dim_field role
  size ← code_size_field d
  n ← count_field role d
  flag ← flag_field
  metric ← metric_field
  done (head_value d n flag)
