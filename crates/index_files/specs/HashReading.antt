-- What the reader of a Hash says of its parts.
use Rattle.std.specs.Prelude.{◌≡◌, ◌≤◌, ◌<◌, ℕ, ◌+◌, ◌*◌, ◌/◌, ◌^◌, ℤ, false, ◌&&◌, List, ◌++◌, length, map, Option, Some, None}
use Rattle.std.specs.List.{All}
use Rattle.bcodes.specs.Value.{Row, HashValue}
use Rattle.file_parts.specs.declared.reason.Reason.{Reason}
use Rattle.file_parts.specs.declared.role.Role.{Role}
use Rattle.file_parts.specs.Format.{Refusal, Format, done, ◌>>=◌}
use Rattle.index_files.specs.FlatFormat.{is_inside, is_no_place}
use Rattle.index_files.specs.HashFormat.{KeySize}
use Rattle.index_files.specs.declared.reading.hash.bucket.Bucket.{Bucket}
use Rattle.index_files.specs.declared.reading.hash.packing.Packing.{Packing}

-- a bucket as the format has it
abbrev pub key_size : Bucket → KeySize
key_size bucket = record { key = bucket.key; size = bucket.size }

-- the refusal of a field for a reason, at its first byte
abbrev pub refusal_for : Option Reason → Option Refusal
refusal_for None = None
refusal_for (Some reason) = Some (record { reason = reason; back = 0 })

-- the numbers are in their ranges
pub record IsPacking (p : Packing) : Type 0 where
  pub b_least : 1 ≤ p.b
  pub b_most : p.b ≤ 64
  pub width : p.width ≤ 31
  pub count : p.count ≤ p.total
  pub total : p.total < 2 ^ 24

-- the bytes of a packed run
abbrev pub run_bytes : Packing → ℕ
run_bytes p = ((p.b + p.width) * p.count + 7) / 8

-- rows behind others
unfoldable pub behind_rows : List Row → Format (List Row) → Format (List Row)
behind_rows rows format = format >>= λ more. done (rows ++ more)

-- ids that pass the check of an id
abbrev pub PassIds : Role → ℕ → List ℤ → Type 0
PassIds role total ids = All (λ id. (is_inside role && is_no_place total id) ≡ false) ids

-- a Hash has rows under these ids behind those that it had
pub record Gains (ids : List ℤ) (old new : HashValue) : Type 0 where
  pub settings : new ≡ record old { rows = new.rows }
  pub labels : map (λ row. row.label) new.rows ≡ map (λ row. row.label) old.rows ++ ids

-- a Hash has so many rows, whose ids passed if those before did, behind those that it had
pub record GainsRows (role : Role) (total n : ℕ) (old new : HashValue) : Type 0 where
  pub ids : List ℤ
  pub count : length ids ≡ n
  pub pass : PassIds role total ids
  pub gains : Gains ids old new

-- rows of a bucket for a Hash of codes of so many bits and keys of b bits, and the code that was read last
pub record GatheredRows : Type 0 where
  pub dim : ℕ
  pub b : ℕ
  pub key : ℕ
  pub code : List ℕ
  pub rows : List Row

-- a Hash with gathered rows behind those that it has
abbrev pub joined : GatheredRows → HashValue → HashValue
joined gathered hash = record hash { rows = hash.rows ++ gathered.rows }
