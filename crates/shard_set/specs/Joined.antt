-- Several indexes as one: the codes of each stand behind those of the ones before it.
use Rattle.std.specs.Prelude.{ℕ, ◌==◌, ◌&&◌, ◌+ℤ◌, pos, Bool, true, false, nat_lt, List, [], ◌∷◌}
use Rattle.std.specs.Prelude.{◌++◌, map, take}
use Rattle.std.specs.Prelude.{sum_by, Option, None, Some}
use Rattle.std.specs.List.{filter, flat_map, list_all}
use Rattle.bcodes.specs.declared.hit.Hit.{Hit}
use Rattle.bcodes.specs.Value.{Row, Inner, Flat, Ivf, Hash, Multi, IndexValue, Bare, inner_of, rows_of, count_of}
use Rattle.bcodes.specs.Answers.{ranked_rows, probed_rows, looked}

-- two plain Flat, or two plain MultiHash, that differ in their codes at most
abbrev pub is_alike_inner : Inner → Inner → Bool
is_alike_inner (Flat v) (Flat w) = v.dim == w.dim
is_alike_inner (Multi v) (Multi w) = (v.dim == w.dim) && (v.nhash == w.nhash) && (v.b == w.b) && (v.nflip == w.nflip)
is_alike_inner v w = false

abbrev pub is_alike : IndexValue → IndexValue → Bool
is_alike (Bare v) (Bare w) = is_alike_inner v w
is_alike v w = false

-- each is alike to the first, so the first is a plain Flat or a plain MultiHash too
abbrev pub are_alike : List IndexValue → Bool
are_alike [] = true
are_alike (v ∷ vs) = list_all (is_alike v) (v ∷ vs)

-- other codes in place of those of a Flat or a MultiHash
abbrev pub with_codes_inner : List (List ℕ) → Inner → Inner
with_codes_inner codes (Flat v) = Flat (record v { codes = codes })
with_codes_inner codes (Ivf v) = Ivf v
with_codes_inner codes (Hash v) = Hash v
with_codes_inner codes (Multi v) = Multi (record v { codes = codes })

abbrev pub codes_of : IndexValue → List (List ℕ)
codes_of v = map (λ row. row.code) (rows_of v)

-- one index of the first one's form with all codes, those of one after the other; nothing where there is no index
unfoldable pub joined : List IndexValue → Option IndexValue
joined [] = None
joined (v ∷ vs) = Some (Bare (with_codes_inner (flat_map codes_of (v ∷ vs)) (inner_of v)))

-- a label behind so many rows
abbrev pub moved : ℕ → Row → Row
moved before row = record { label = row.label +ℤ pos before; code = row.code }

abbrev pub moved_hit : ℕ → Hit → Hit
moved_hit before h = record { distance = h.distance; label = h.label +ℤ pos before }

-- the rows that a query meets in each, with labels behind the rows of those before it
abbrev pub joined_rows : List IndexValue → List ℕ → List Row
joined_rows [] q = []
joined_rows (v ∷ vs) q = probed_rows v q ++ map (moved (count_of v)) (joined_rows vs q)

-- these rows as hits, in order
unfoldable pub joined_hits : List IndexValue → List ℕ → List Hit
joined_hits vs q = ranked_rows q (joined_rows vs q)

-- the answer of a search
unfoldable pub joined_best : List IndexValue → List ℕ → ℕ → List Hit
joined_best vs q k = take k (joined_hits vs q)

-- the answer of a range search
unfoldable pub joined_within : List IndexValue → List ℕ → ℕ → List Hit
joined_within vs q radius = filter (λ h. nat_lt h.distance radius) (joined_hits vs q)

-- how many codes a query compares in all
abbrev pub joined_looked : List IndexValue → List ℕ → ℕ
joined_looked vs q = sum_by (λ v. looked v q) vs

abbrev pub joined_count : List IndexValue → ℕ
joined_count vs = sum_by count_of vs
