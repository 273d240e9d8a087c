-- The rows that a selector chooses, and the index without them.
use Rattle.std.specs.Prelude.{◌≡◌, ℕ, ℤ, ◌&&◌, Bool, not, int_le, int_lt, List, map, Option, None, Some, if◌then◌else◌}
use Rattle.std.specs.List.{filter, list_any}
use Rattle.std.specs.Ordering.{int_eq}
use Rattle.bcodes.specs.Value.{Row, CodeList, Inner, Flat, Ivf, Hash, Multi, IndexValue, Bare, IdMap, numbered}
use Rattle.bcodes.specs.Answers.{paired}
use Rattle.id_select.specs.declared.selector.Selector.{Selector}
use Rattle.id_select.specs.declared.selector.Selector.TheVariants.{Listed, AllBut, Between}

-- these ids, all but these, or those from the first on and below the second
abbrev pub is_chosen : Selector → ℤ → Bool
is_chosen (Listed ids) id = list_any (int_eq id) ids
is_chosen (AllBut ids) id = not (list_any (int_eq id) ids)
is_chosen (Between from to) id = int_le from id && int_lt id to

-- the second chooses the ids that the first does
abbrev pub ChoosesAs : Selector → Selector → Type 0
ChoosesAs s t = (id : ℤ) → is_chosen t id ≡ is_chosen s id

abbrev pub stays : Selector → ℤ → Bool
stays s id = not (is_chosen s id)

-- the Flat that an index is, if it is a plain one
abbrev pub flat_in_inner : Inner → Option CodeList
flat_in_inner (Flat v) = Some v
flat_in_inner (Ivf v) = None
flat_in_inner (Hash v) = None
flat_in_inner (Multi v) = None

abbrev pub flat_in : IndexValue → Option CodeList
flat_in (Bare v) = flat_in_inner v
flat_in (IdMap name v ids) = None

-- the codes of the rows that stay
abbrev pub codes_left : Selector → List Row → List (List ℕ)
codes_left s rows = map (λ row. row.code) (filter (λ row. stays s row.label) rows)

-- The index without the chosen rows: a plain Flat, a plain IVF without a direct map, or a Flat under outer ids.
-- No other index removes rows. The codes of a Flat that stay take the positions 0, 1, 2 and so on.
unfoldable pub removed : Selector → IndexValue → Option IndexValue
removed s (Bare (Flat v)) = Some (Bare (Flat (record v { codes = codes_left s (numbered 0 v.codes) })))
removed s (Bare (Ivf v)) =
    if v.direct then None else Some (Bare (Ivf (record v { rows = filter (λ row. stays s row.label) v.rows })))
removed s (IdMap name (Flat v) ids) =
    Some (IdMap name (Flat (record v { codes = codes_left s (paired ids v.codes) })) (filter (stays s) ids))
removed s v = None
