-- What a removal leaves of a legal index is legal.
use Rattle.std.proofs.Common.{◌≡◌, ℕ, ◌+◌, ◌*◌, ◌/◌, ◌<◌, ◌≤◌, ℤ, FitsSigned, w64, Bool, false, true≢false, inl, inr, List, [], length}
use Rattle.std.proofs.Common.{map, Some, sym, ◌∙◌, arith, subst}
use Rattle.std.specs.List.{All, filter, items_where_true}
use Rattle.std.proofs.lemmas.Grind.{get_or_picked}
use Rattle.std.proofs.lemmas.Int.{ints}
use Rattle.std.proofs.lemmas.List.Elements.{All-filter}
use Rattle.bcodes.proofs.LegalLemmas.{length-filter-le}
use Rattle.bcodes.proofs.OrderLemmas.{either}
use Rattle.bcodes.specs.Ranges.{load_limit}
use Rattle.bcodes.specs.Value.{Row, ListRow, CodeList, IvfValue, Flat, Ivf, Hash, Multi, IndexValue, Bare, IdMap}
use Rattle.bcodes.specs.Value.{IsCode, IsListRow, IsPlace, IsLegal, IsLegalFlat, IsLegalIvf, IsLegalMap, labels_from, numbered, weight}
use Rattle.bcodes.specs.Answers.{paired}
use Rattle.bcodes.proofs.NumberedLemmas.{length-numbered, get-numbered}
use Rattle.id_select.proofs.FlagLemmas.{kept_filter, kept_numbered, kept_paired, length-kept, length-kept_alike}
use Rattle.id_select.proofs.RemovedLemmas.{removed_ivf}
use Rattle.id_select.specs.Removal.{codes_left, removed, stays}
use Rattle.id_select.specs.declared.selector.Selector.{Selector}

module _ {X : Type 0} where
  pub All-kept : (P : X → Type 0) (bs : List Bool) (xs : List X) → All P xs → All P (items_where_true bs xs)
  All-kept P bs xs h = λ k d low.
      let picked = get_or_picked bs xs k d low in
      subst P (sym picked.1.2) (h picked.1.0 d picked.1.1)

lighter : (d maps m n c : ℕ) → m ≤ n → weight d maps n c ≤ load_limit → weight d maps m c ≤ load_limit
lighter d maps m n c less h =
    let k : m * (d / 8 + 16 + 64 * maps) ≤ n * (d / 8 + 16 + 64 * maps) = grind arith in
    omega arith

-- a Flat with fewer of its codes
fewer_codes : (v : CodeList) (cs : List (List ℕ)) → IsLegalFlat v → All (IsCode v.dim) cs → length cs ≤ length v.codes
    → IsLegalFlat (record v { codes = cs })
fewer_codes v cs legal codes less = record {
  dim = legal.dim;
  codes = codes;
  load = lighter v.dim 0 (length cs) (length v.codes) 0 less legal.load;
}

legal_flat : (s : Selector) (v : CodeList) → IsLegalFlat v
    → IsLegalFlat (record v { codes = codes_left s (numbered 0 v.codes) })
legal_flat s v legal =
    let flags : List Bool = map (stays s) (labels_from 0 (length v.codes)) in
    rw (← kept_numbered s 0 v.codes)
    (fewer_codes v (items_where_true flags v.codes) legal (All-kept (IsCode v.dim) flags v.codes legal.codes)
    (length-kept flags v.codes))

legal_ivf : (s : Selector) (v : IvfValue) → v.direct ≡ false → IsLegalIvf v
    → IsLegalIvf (record v { rows = filter (λ (row : ListRow). stays s row.label) v.rows })
legal_ivf s v none legal =
    let left : List ListRow = filter (λ (row : ListRow). stays s row.label) v.rows in
    let less : length left ≤ length v.rows = length-filter-le (λ (row : ListRow). stays s row.label) v.rows in
    record {
      dim = legal.dim;
      nlist_least = legal.nlist_least;
      nlist_most = legal.nlist_most;
      nprobe_least = legal.nprobe_least;
      nprobe_most = legal.nprobe_most;
      max_codes = legal.max_codes;
      centroids = legal.centroids;
      held = legal.held;
      rows = All-filter (λ (row : ListRow). stays s row.label) (IsListRow v.dim v.nlist) v.rows legal.rows;
      filled = λ some. legal.filled (omega arith);
      direct = λ on. absurd (true≢false (sym on ∙ none));
      load = lighter v.dim 0 (length left) (length v.rows) (length v.centroids) less legal.load;
    }

places : (i n : ℕ) (cs : List (List ℕ)) → i + length cs ≤ n → All (λ (row : Row). IsPlace n row.label) (numbered i cs)
places i n cs h = λ k d low.
    let here : k < length cs = omega (arith, low, length-numbered i cs) in
    subst (λ (row : Row). IsPlace n row.label) (sym (get-numbered i cs k d [] here))
    (record { least = omega (arith, ints); most = omega (arith, ints, here, h) })

legal_map : (s : Selector) (v : CodeList) (ids : List ℤ) → IsLegalMap (Flat v) ids
    → IsLegalMap (Flat (record v { codes = codes_left s (paired ids v.codes) })) (filter (stays s) ids)
legal_map s v ids legal =
    let flags : List Bool = map (stays s) ids in
    let kept : List (List ℕ) = items_where_true flags v.codes in
    rw (← kept_paired s ids v.codes, ← kept_filter (stays s) ids)
    (record {
      inner = fewer_codes v kept legal.inner (All-kept (IsCode v.dim) flags v.codes legal.inner.codes)
          (length-kept flags v.codes);
      ids = All-kept (FitsSigned w64) flags ids legal.ids;
      count = length-kept_alike flags ids v.codes legal.count;
      labels = places 0 (length kept) kept (omega arith);
    })

some_is : (v w : IndexValue) → Some v ≡ Some w → v ≡ w
some_is v w e = cc

pub removed_legal : (s : Selector) (v w : IndexValue) → IsLegal v → removed s v ≡ Some w → IsLegal w
unfolding removed
removed_legal s (Bare (Flat v)) w legal e = subst IsLegal (some_is _ w e) (legal_flat s v legal)
removed_legal s (Bare (Ivf v)) w legal e =
    elim (either v.direct) [
      | inl on ↦ let none = rw on at e in cc
      | inr off ↦ subst IsLegal (some_is _ w (sym (removed_ivf s v off) ∙ e)) (legal_ivf s v off legal)
    ]
removed_legal s (Bare (Hash v)) w legal e = cc
removed_legal s (Bare (Multi v)) w legal e = cc
removed_legal s (IdMap name (Flat v) ids) w legal e = subst IsLegal (some_is _ w e) (legal_map s v ids legal)
removed_legal s (IdMap name (Ivf v) ids) w legal e = cc
removed_legal s (IdMap name (Hash v) ids) w legal e = cc
removed_legal s (IdMap name (Multi v) ids) w legal e = cc
