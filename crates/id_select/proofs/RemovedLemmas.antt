-- What a removal leaves.
use Rattle.std.proofs.Common.{◌≡◌, ℤ, Bool, not, false, List, map, Option, None, Some, if◌then◌else◌, refl, ap, ◌∙◌, sym}
use Rattle.std.specs.List.{filter}
use Rattle.bcodes.specs.declared.map_name.MapName.{MapName}
use Rattle.bcodes.specs.Value.{CodeList, IvfValue, Flat, Ivf, Hash, Multi, IndexValue, Bare, IdMap, numbered}
use Rattle.bcodes.specs.Answers.{paired}
use Rattle.id_select.specs.Removal.{ChoosesAs, codes_left, is_chosen, removed, stays}
use Rattle.id_select.specs.declared.selector.Selector.{Selector}

pub removed_flat : (s : Selector) (v : CodeList)
    → removed s (Bare (Flat v)) ≡ Some (Bare (Flat (record v { codes = codes_left s (numbered 0 v.codes) })))
unfolding removed
removed_flat s v = refl

pub removed_ivf : (s : Selector) (v : IvfValue) → v.direct ≡ false
    → removed s (Bare (Ivf v))
    ≡ Some (Bare (Ivf (record v { rows = filter (λ row. stays s row.label) v.rows })))
unfolding removed
removed_ivf s v h = rw h refl

pub removed_map : (s : Selector) (name : MapName) (v : CodeList) (ids : List ℤ)
    → removed s (IdMap name (Flat v) ids)
    ≡ Some (IdMap name (Flat (record v { codes = codes_left s (paired ids v.codes) })) (filter (stays s) ids))
unfolding removed
removed_map s name v ids = refl

-- ---- the same by what is chosen

removed_by : (ℤ → Bool) → IndexValue → Option IndexValue
removed_by chosen (Bare (Flat v)) = Some (Bare (Flat (record v {
  codes = map (λ row. row.code) (filter (λ row. not (chosen row.label)) (numbered 0 v.codes));
})))
removed_by chosen (Bare (Ivf v)) =
    if v.direct then None
    else Some (Bare (Ivf (record v { rows = filter (λ row. not (chosen row.label)) v.rows })))
removed_by chosen (Bare (Hash v)) = None
removed_by chosen (Bare (Multi v)) = None
removed_by chosen (IdMap name (Flat v) ids) = Some (IdMap name (Flat (record v {
  codes = map (λ row. row.code) (filter (λ row. not (chosen row.label)) (paired ids v.codes));
})) (filter (λ id. not (chosen id)) ids))
removed_by chosen (IdMap name (Ivf v) ids) = None
removed_by chosen (IdMap name (Hash v) ids) = None
removed_by chosen (IdMap name (Multi v) ids) = None

removed_is : (s : Selector) (v : IndexValue) → removed s v ≡ removed_by (is_chosen s) v
unfolding removed removed_by
removed_is s (Bare (Flat v)) = refl
removed_is s (Bare (Ivf v)) = refl
removed_is s (Bare (Hash v)) = refl
removed_is s (Bare (Multi v)) = refl
removed_is s (IdMap name (Flat v) ids) = refl
removed_is s (IdMap name (Ivf v) ids) = refl
removed_is s (IdMap name (Hash v) ids) = refl
removed_is s (IdMap name (Multi v) ids) = refl

-- selectors that choose the same remove the same
pub removed_as : (s t : Selector) (v : IndexValue) → ChoosesAs s t → removed t v ≡ removed s v
removed_as s t v same =
    removed_is t v ∙ ap (λ (chosen : ℤ → Bool). removed_by chosen v) (λ i id. same id i) ∙ sym (removed_is s v)
