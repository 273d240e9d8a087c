-- The letters with which an index begins.
use Rattle.std.specs.Prelude.{ℕ, Bool, true, false, not, ◌&&◌, ◌||◌, List, [], ◌∷◌, codes}
use Rattle.std.specs.Prelude.{if◌then◌else◌}
use Rattle.std.specs.Str.{bytes_eq}
use Rattle.bcodes.specs.declared.map_name.MapName.TheVariants.{Map, Map2}
use Rattle.file_parts.specs.declared.reason.Reason.TheVariants as reason
use Rattle.file_parts.specs.Format.{Check, ◌⇒◌, Format, done, field}
use Rattle.index_files.specs.declared.kind_name.KindName.TheVariants as named
use Rattle.index_files.specs.declared.reading.start.Wanted.{Wanted}
use Rattle.index_files.specs.declared.reading.start.Wanted.TheVariants as wanted
use Rattle.index_files.specs.declared.start.Start.{Start}
use Rattle.index_files.specs.declared.start.Start.TheVariants.{Plain, Mapped, NotRead, Unknown}

abbrev pub start_of : List ℕ → Start
start_of letters =
    if bytes_eq letters (codes "IBxF") then Plain named.Flat
    else if bytes_eq letters (codes "IBwF") then Plain named.Ivf
    else if bytes_eq letters (codes "IBHh") then Plain named.Hash
    else if bytes_eq letters (codes "IBHm") then Plain named.Multi
    else if bytes_eq letters (codes "IBMp") then Mapped Map
    else if bytes_eq letters (codes "IBM2") then Mapped Map2
    else if bytes_eq letters (codes "IBHf") || bytes_eq letters (codes "IBFf") then NotRead
    else Unknown

-- the letters of an index, one that is never read among them
abbrev pub is_known : Start → Bool
is_known Unknown = false
is_known _ = true

-- an index of one of the four kinds, plain or in an IDMap
abbrev pub is_index : Start → Bool
is_index (Plain kind) = true
is_index (Mapped name) = true
is_index _ = false

-- an index of one of the four kinds
abbrev pub is_plain : Start → Bool
is_plain (Plain kind) = true
is_plain _ = false

-- a Flat
abbrev pub is_flat : Start → Bool
is_flat (Plain named.Flat) = true
is_flat _ = false

-- what may stand in a place
abbrev pub is_wanted : Wanted → Start → Bool
is_wanted wanted.Index = is_index
is_wanted wanted.Plain = is_plain
is_wanted wanted.Flat = is_flat

abbrev pub start_checks : (Start → Bool) → Start → List Check
start_checks expected s =
    (not (expected s) && is_known s ⇒ reason.LeftOut)
    ∷ (not (expected s) ⇒ reason.Fourcc)
    ∷ []

-- four letters, of which only some are expected
unfoldable pub letters : (Start → Bool) → Format Start
letters expected = field 4 (λ b. start_checks expected (start_of b)) (λ b. done (start_of b))
