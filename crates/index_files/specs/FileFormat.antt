-- The fields of a whole file, each with its checks in order.
use Rattle.std.specs.Prelude.{ℕ, ℤ, List, []}
use Rattle.bcodes.specs.declared.map_name.MapName.{MapName}
use Rattle.bcodes.specs.Value.{Inner, Flat, Ivf, Hash, Multi, IndexValue, Bare, IdMap}
use Rattle.file_parts.specs.declared.role.Role.{Role}
use Rattle.file_parts.specs.declared.role.Role.TheVariants.{Outermost, Within}
use Rattle.file_parts.specs.Format.{Format, done, ◌>>=◌}
use Rattle.file_parts.specs.Fields.{any_signed, repeated, HeadValue, header}
use Rattle.index_files.specs.declared.kind_name.KindName.{KindName}
use Rattle.index_files.specs.declared.kind_name.KindName.TheVariants as named
use Rattle.index_files.specs.declared.start.Start.{Start}
use Rattle.index_files.specs.declared.start.Start.TheVariants.{Plain, Mapped}
use Rattle.index_files.specs.Counts.{known_count}
use Rattle.index_files.specs.Letters.{is_index, is_plain, letters}
use Rattle.index_files.specs.FlatFormat.{flat_value, flat_body}
use Rattle.index_files.specs.IvfFormat.{ivf_body}
use Rattle.index_files.specs.HashFormat.{hash_body}
use Rattle.index_files.specs.MultiFormat.{multi_body}

-- what follows the letters of a kind
unfoldable pub body : KindName → Role → Format Inner
body named.Flat role = flat_body role >>= λ v. done (Flat v)
body named.Ivf role = ivf_body role >>= λ v. done (Ivf v)
body named.Hash role = hash_body role >>= λ v. done (Hash v)
body named.Multi role = multi_body role >>= λ v. done (Multi v)

-- the outer ids, with their count
abbrev pub outer_ids : ℕ → Format (List ℤ)
outer_ids count = do
  size ← known_count count
  repeated count (any_signed 8)

abbrev pub map_ids : MapName → ℕ → Inner → Format IndexValue
map_ids name count v = outer_ids count >>= λ ids. done (IdMap name v ids)

unfoldable pub map_body : MapName → KindName → ℕ → ℕ → Format IndexValue
map_body name kind dim count = body kind (Within dim count) >>= map_ids name count

-- letters that are not expected do not pass, so nothing is read after them
abbrev pub nothing_more : Format IndexValue
nothing_more = done (Bare (Flat (flat_value 0 [])))

abbrev pub inside : MapName → HeadValue → Start → Format IndexValue
inside name h (Plain kind) = map_body name kind h.dim h.count
inside name h _ = nothing_more

abbrev pub map_start : MapName → HeadValue → Format IndexValue
map_start name h = letters is_plain >>= inside name h

abbrev pub index : Start → Format IndexValue
index (Plain kind) = body kind Outermost >>= λ v. done (Bare v)
index (Mapped name) = header Outermost >>= map_start name
index _ = nothing_more

-- a file of an index
unfoldable pub file : Format IndexValue
file = letters is_index >>= index
