-- A packed run of a map while it is tried by its checks.
use Rattle.std.specs.Prelude.{◌≡◌, ℕ, ◌+◌, ◌*◌, ◌==◌, Bool, List, [], length, Option, Some, is_some}
use Rattle.std.specs.List.{list_any}
use Rattle.bit_strings.specs.States.{Reading}
use Rattle.file_parts.specs.declared.part_error.PartError.{PartError}
use Rattle.file_parts.specs.declared.part_error.PartError.TheVariants as error
use Rattle.file_parts.specs.Format.{Refusal, Format, done, field, fault_at, first_refusal}
use Rattle.key_buckets.specs.Keys.{list_of}
use Rattle.multi_hash.specs.Seen.{IsSeen}
use Rattle.index_files.specs.MultiFormat.{map_run_checks}

-- the bits of a packed run of so many buckets, which hold `count` positions
abbrev pub map_bits : ℕ → ℕ → ℕ → ℕ → ℕ
map_bits count b width buckets = (b + width) * buckets + count * width

-- the packed run of map i, of which nothing is kept
abbrev pub run_field : List (List ℕ) → ℕ → ℕ → ℕ → ℕ → ℕ → Format (Unit {0})
run_field codes i b width buckets size =
    field size (λ run. map_run_checks codes i b width run buckets 0 [] []) (λ run. done tt)

-- codes with their keys of b bits under the map of a number
pub record KeyedCodes : Type 0 where
  pub codes : List (List ℕ)
  pub number : ℕ
  pub b : ℕ

-- An error says what the checks of a field at this offset answer, unless memory ran out.
abbrev pub Refuses : ℕ → Option Refusal → PartError → Type 0
Refuses at answer (error.Bad fault) = (r : Refusal) × (answer ≡ Some r) × (fault ≡ fault_at at r)
Refuses at answer error.Failed = ⊥
Refuses at answer error.Memory = Unit {0}

-- So many buckets are left, from where a reader stands, after those whose keys a table has and whose positions are
-- marked, and their checks answer this. So many positions are not marked.
pub record IsLeft (c : KeyedCodes) (width : ℕ) (reader : Reading) (buckets left : ℕ) (table : List (ℕ × ℕ))
    (marks : List Bool) (answer : Option Refusal) : Type 0 where
  pub seen : List ℕ
  pub met : List ℕ
  pub keys : (k : ℕ) → is_some (list_of table k) ≡ list_any (λ j. j == k) seen
  pub marked : IsSeen (length c.codes) met marks
  pub others : length met + left ≡ length c.codes
  pub same : first_refusal (map_run_checks c.codes c.number c.b width reader.bytes buckets reader.at seen met) ≡ answer
