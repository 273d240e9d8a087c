-- Lemmas on codes that are kept.
use Rattle.std.proofs.Common.{◌≡◌, ℕ, ◌+◌, ◌*◌, ◌/◌, ◌≤◌, Bool, true, false, List, [], ◌∷◌, length, map, set, Some, refl, sym, ap, ◌∙◌, arith}
use Rattle.std.proofs.lemmas.List.{length-map, length-set}
use Rattle.std.specs.List.{items_where_true}
use Rattle.bcodes.specs.Ranges.{load_limit}
use Rattle.bcodes.specs.Value.{Row, CodeList, Bare, Flat, labels_from, numbered, weight}
use Rattle.bcodes.proofs.NumberedLemmas.{length-labels_from}
use Rattle.code_pool.specs.Lists.{PoolLists, PoolList, kept, list_at, with_kept, with_list}
use Rattle.code_pool.specs.Positions.{with_positions}
use Rattle.id_select.proofs.FlagLemmas.{kept_numbered, length-kept}
use Rattle.id_select.proofs.RemovedLemmas.{removed_flat}
use Rattle.id_select.specs.Removal.{removed, stays}
use Rattle.id_select.specs.declared.selector.Selector.{Selector}
use Rattle.flat_index.specs.Inside.{IsFlat, codes_in}
use Rattle.flat_index.proofs.AddLemmas.{codes-numbered, list_at-with_list}

-- a part of each row that is kept
pub map-kept_rows : {Y : Type 0} (f : Row → Y) (rows : List Row) (flags : List Bool)
    → map f (kept rows flags) ≡ items_where_true flags (map f rows)
map-kept_rows f [] [] = refl
map-kept_rows f [] (b ∷ flags) = refl
map-kept_rows f (row ∷ rows) [] = refl
map-kept_rows {Y} f (row ∷ rows) (true ∷ flags) = ap (λ (ys : List Y). f row ∷ ys) (map-kept_rows f rows flags)
map-kept_rows f (row ∷ rows) (false ∷ flags) = map-kept_rows f rows flags

-- what stays is a Flat of the codes that are kept
pub record IsKept (d : ℕ) (old new : PoolLists) (flags : List Bool) : Type 0 where
  pub flat : IsFlat d new
  pub codes : codes_in new ≡ items_where_true flags (codes_in old)

lighter : (d m n : ℕ) → m ≤ n → weight d 0 n 0 ≤ load_limit → weight d 0 m 0 ≤ load_limit
lighter d m n less h =
    let k : m * (d / 8 + 16 + 64 * 0) ≤ n * (d / 8 + 16 + 64 * 0) = grind arith in
    omega arith

pub flat_kept : (d : ℕ) (old kept_pool new : PoolLists) (flags : List Bool) → IsFlat d old
    → kept_pool.lists ≡ set old.lists 0 (with_kept (list_at old 0) flags)
    → kept_pool.code_size ≡ old.code_size
    → new ≡ with_list kept_pool 0 (with_positions (list_at kept_pool 0)) → IsKept d old new flags
flat_kept d old kept_pool new flags flat lists size is =
    let codes : List (List ℕ) = map (λ (row : Row). row.code) (kept (list_at old 0).rows flags) in
    let one : length kept_pool.lists ≡ 1 = ap (λ (ls : List PoolList). length ls) lists
    ∙ length-set old.lists 0 (with_kept (list_at old 0) flags) ∙ flat.one in
    let there : list_at kept_pool 0 ≡ with_kept (list_at old 0) flags =
    ap (λ (ls : List PoolList). list_at (record old { lists = ls }) 0) lists
    ∙ list_at-with_list old (with_kept (list_at old 0) flags) (omega (arith, flat.one)) in
    let rows : (list_at new 0).rows ≡ numbered 0 codes =
    ap (λ (p : PoolLists). (list_at p 0).rows) is
    ∙ ap (λ (l : PoolList). l.rows) (list_at-with_list kept_pool (with_positions (list_at kept_pool 0)) (omega (arith, one)))
    ∙ ap (λ (l : PoolList). (with_positions l).rows) there in
    let inside : codes_in new ≡ codes = ap (map (λ (row : Row). row.code)) rows ∙ codes-numbered 0 codes in
    let kept_is : codes ≡ items_where_true flags (codes_in old) =
    map-kept_rows (λ (row : Row). row.code) (list_at old 0).rows flags in
    record {
      flat = record {
        one = ap (λ (p : PoolLists). length p.lists) is
            ∙ length-set kept_pool.lists 0 (with_positions (list_at kept_pool 0)) ∙ one;
        size = ap (λ (p : PoolLists). p.code_size) is ∙ size ∙ flat.size;
        placed = rows ∙ ap (numbered 0) (sym inside);
        load = rw (inside ∙ kept_is)
            (lighter d (length (items_where_true flags (codes_in old))) (length (codes_in old))
            (length-kept flags (codes_in old)) flat.load);
      };
      codes = inside ∙ kept_is;
    }

-- flags of the positions that are not chosen
pub record AreFlags (s : Selector) (v : CodeList) (flags : List Bool) : Type 0 where
  pub count : length flags ≡ length v.codes
  pub fewer : length (items_where_true flags v.codes) ≤ length v.codes
  pub removed_is : removed s (Bare (Flat v)) ≡ Some (Bare (Flat (record v { codes = items_where_true flags v.codes })))

pub are_flags : (s : Selector) (v : CodeList) (flags : List Bool) (count : ℕ) → count ≡ length v.codes
    → flags ≡ map (stays s) (labels_from 0 count) → AreFlags s v flags
are_flags s v flags count all is =
    let positions : flags ≡ map (stays s) (labels_from 0 (length v.codes)) =
    is ∙ ap (λ (n : ℕ). map (stays s) (labels_from 0 n)) all in
    record {
      count = omega (
        arith,
        ap (λ (bs : List Bool). length bs) is,
        length-map (labels_from 0 count) (stays s),
        length-labels_from 0 count,
      );
      fewer = length-kept flags v.codes;
      removed_is = removed_flat s v
          ∙ ap (λ (cs : List (List ℕ)). Some (Bare (Flat (record v { codes = cs }))))
          (sym (kept_numbered s 0 v.codes) ∙ ap (λ (bs : List Bool). items_where_true bs v.codes) (sym positions));
    }
