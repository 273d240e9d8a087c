-- Lemmas on codes that leave a Flat under outer ids.
use Rattle.std.proofs.Common.{◌≡◌, ℕ, ◌≤◌, ℤ, FitsSigned, w64, Bool, true≢false, List, length, map, Some, IsSome, refl, sym, ap}
use Rattle.std.proofs.Common.{◌∙◌, arith, subst}
use Rattle.std.specs.List.{filter, items_where_true}
use Rattle.std.proofs.lemmas.List.Elements.{All-filter}
use Rattle.bcodes.specs.declared.map_name.MapName.{MapName}
use Rattle.bcodes.specs.Value.{CodeList, Flat, Ivf, Hash, Multi, IndexValue, Bare, IdMap, inner_of}
use Rattle.bcodes.proofs.LegalLemmas.{length-filter-le}
use Rattle.id_select.proofs.FlagLemmas.{kept_filter, kept_paired, length-kept_alike}
use Rattle.id_select.proofs.RemovedLemmas.{removed_map}
use Rattle.id_select.specs.Removal.{flat_in, flat_in_inner, removed, stays}
use Rattle.id_select.specs.declared.selector.Selector.{Selector}
use Rattle.id_map.specs.Inside.{IsMapped}
use Rattle.id_map.specs.Mapped.{MappedValue}
use Rattle.id_map.proofs.RowLemmas.{All-numbered}
use Rattle.id_map.proofs.SettingLemmas.{seen}

-- the Flat inside
pub flat_inside : (name : MapName) (v : IndexValue) (ids : List ℤ) (m : MappedValue) → IsMapped v ids
    → seen name v ids ≡ m → IsSome (flat_in_inner m.inner) → IsSome (flat_in v)
flat_inside name (Bare v) ids m kept is h = subst (λ (n : MappedValue). IsSome (flat_in_inner n.inner)) (sym is) h
flat_inside name (IdMap n v old) ids m kept is h = absurd (true≢false kept.bare)

-- what is left of the value inside and of the ids
pub record IsLeft (s : Selector) (name : MapName) (v w : IndexValue) (ids left : List ℤ) : Type 0 where
  pub kept : IsMapped w left
  pub fewer : length left ≤ length ids
  pub is : removed s (IdMap name (inner_of v) ids) ≡ Some (IdMap name (inner_of w) left)

-- what keeping codes by flags makes of a value
abbrev pub Keeps : IndexValue → IndexValue → List Bool → Type 0
Keeps v w flags = (u : CodeList) → flat_in v ≡ Some u
    → w ≡ Bare (Flat (record u { codes = items_where_true flags u.codes }))

left_flat : (s : Selector) (name : MapName) (u : CodeList) (ids : List ℤ) (codes : List (List ℕ))
    → IsMapped (Bare (Flat u)) ids → codes ≡ items_where_true (map (stays s) ids) u.codes
    → IsLeft s name (Bare (Flat u)) (Bare (Flat (record u { codes = codes }))) ids (filter (stays s) ids)
left_flat s name u ids codes kept is =
    let flags : List Bool = map (stays s) ids in
    let same : length (filter (stays s) ids) ≡ length codes =
    ap length (sym (kept_filter (stays s) ids)) ∙ length-kept_alike flags ids u.codes kept.count ∙ ap length (sym is) in
    record {
      kept = record {
        bare = refl;
        count = same;
        fit = All-filter (stays s) (FitsSigned w64) ids kept.fit;
        labels = All-numbered 0 (length codes) codes (omega arith);
      };
      fewer = length-filter-le (stays s) ids;
      is = removed_map s name u ids
          ∙ ap (λ (cs : List (List ℕ)). Some (IdMap name (Flat (record u { codes = cs })) (filter (stays s) ids)))
          (sym (is ∙ kept_paired s ids u.codes));
    }

pub is_left : (s : Selector) (name : MapName) (v w : IndexValue) (ids left : List ℤ) (flags : List Bool)
    → IsMapped v ids → IsSome (flat_in v) → flags ≡ map (stays s) ids → Keeps v w flags
    → left ≡ filter (stays s) ids → IsLeft s name v w ids left
is_left s name (Bare (Flat u)) w ids left flags kept some is keeps rest =
    rw (keeps u refl, rest)
    (left_flat s name u ids (items_where_true flags u.codes) kept
    (ap (λ (bs : List Bool). items_where_true bs u.codes) is))
is_left s name (Bare (Ivf u)) w ids left flags kept some is keeps rest = absurd (true≢false (sym some))
is_left s name (Bare (Hash u)) w ids left flags kept some is keeps rest = absurd (true≢false (sym some))
is_left s name (Bare (Multi u)) w ids left flags kept some is keeps rest = absurd (true≢false (sym some))
is_left s name (IdMap n u old) w ids left flags kept some is keeps rest = absurd (true≢false kept.bare)
