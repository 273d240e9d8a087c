-- The counts that stand before the elements of vectors.
use Rattle.std.specs.Prelude.{ℕ}
use Rattle.file_parts.specs.declared.reason.Reason.TheVariants as reason
use Rattle.file_parts.specs.Format.{Format}
use Rattle.file_parts.specs.Fields.{must_be, number}

-- the count of a vector, which the fields before it tell
unfoldable pub known_count : ℕ → Format ℕ
known_count n = number 8 (must_be n reason.VectorSize)
