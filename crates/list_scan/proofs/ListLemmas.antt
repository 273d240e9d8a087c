-- Lemmas on a scan over the runs of lists.
use Rattle.std.proofs.Common.{◌≡◌, ℕ, zero, suc, ◌+◌, ◌*◌, ◌<◌, ◌≤◌, Bool, nat_lt, ℤ, List, [], ◌∷◌, ◌++◌}
use Rattle.std.proofs.Common.{length, get_or, take, drop, map, sym, ap, ◌∙◌, arith, length-take, length-append}
use Rattle.std.proofs.Common.{append_assoc, append-nil}
use Rattle.std.specs.List.{filter, flat_map}
use Rattle.std.proofs.lemmas.List.{length-map, map-append, take_all, take_more}
use Rattle.std.proofs.lemmas.List.Elements.{filter-append}
use Rattle.std.proofs.lemmas.Grind.{flat_map-append}
use Rattle.std.proofs.Math.Seq.{take-add}
use Rattle.bcodes.specs.declared.hit.Hit.{Hit}
use Rattle.bcodes.specs.Hits.{in_order}
use Rattle.bcodes.specs.Value.{Row}
use Rattle.bcodes.specs.Answers.{hit_of}
use Rattle.bcodes.proofs.OrderLemmas.{best_append, best-best, length-in_order}
use Rattle.code_pool.specs.Lists.{rows_in, IsRun, PoolLists, list_at}
use Rattle.code_pool.proofs.RowLemmas.{length-rows_in}
use Rattle.list_scan.specs.Visited.{rows_at}

-- the rows behind those before
pub rows_more : (rows : List Row) (at size : ℕ) (ls : List ℤ) (bs : List ℕ) → IsRun rows at size ls bs
    → take at rows ++ rows_in size ls bs ≡ take (at + length ls) rows
rows_more rows at size ls bs run = ap (λ (rs : List Row). take at rows ++ rs) run.rows
    ∙ sym (take-add at (length ls) rows)

hits_more : (q : List ℕ) (before rows more all : List Row) (hits : List Hit) → before ++ more ≡ all
    → (hits ++ map (hit_of q) before) ++ map (hit_of q) more ≡ hits ++ map (hit_of q) all
hits_more q before rows more all hits e =
    append_assoc hits (map (hit_of q) before) (map (hit_of q) more)
    ∙ ap (λ (hs : List Hit). hits ++ hs) (sym (map-append (hit_of q) before more) ∙ ap (map (hit_of q)) e)

-- a part of a run, as a run of its rows
pub part_run : (ls ms : List ℤ) (bs cs : List ℕ) (size at n : ℕ) → length ms ≡ n → length cs ≡ n * size
    → rows_in size ms cs ≡ take n (drop at (rows_in size ls bs)) → 1 ≤ n → n ≤ 65536 → at + n ≤ length ls
    → IsRun (rows_in size ls bs) at size ms cs
part_run ls ms bs cs size at n count bytes rows some most within = record {
  some = omega arith;
  most = omega arith;
  within = omega (arith, length-rows_in size ls bs);
  size = bytes ∙ ap (λ (k : ℕ). k * size) (sym count);
  rows = rows ∙ ap (λ (k : ℕ). take k (drop at (rows_in size ls bs))) (sym count);
}

-- all rows of a run, once its parts are behind
pub all_rows : (ls : List ℤ) (bs : List ℕ) (size at : ℕ) → length ls ≤ at
    → take at (rows_in size ls bs) ≡ rows_in size ls bs
all_rows ls bs size at h = take_all at (rows_in size ls bs) (omega (arith, length-rows_in size ls bs))

-- the first k of the hits so far, with those of one more run
pub best_run : (k : ℕ) (q : List ℕ) (hits kept after : List Hit) (rows : List Row) (at size : ℕ) (ls : List ℤ)
    (bs : List ℕ) → IsRun rows at size ls bs
    → kept ≡ take k (in_order (hits ++ map (hit_of q) (take at rows)))
    → after ≡ take k (in_order (kept ++ map (hit_of q) (rows_in size ls bs)))
    → after ≡ take k (in_order (hits ++ map (hit_of q) (take (at + length ls) rows)))
best_run k q hits kept after rows at size ls bs run is more =
    let so_far : List Hit = hits ++ map (hit_of q) (take at rows) in
    more
    ∙ best_append k kept so_far (map (hit_of q) (rows_in size ls bs)) (ap (λ (l : List Hit). take k (in_order l)) is
    ∙ best-best k so_far)
    ∙ ap (λ (hs : List Hit). take k (in_order hs))
    (hits_more q (take at rows) rows (rows_in size ls bs) (take (at + length ls) rows) hits
    (rows_more rows at size ls bs run))

pub best_more : (k : ℕ) (q : List ℕ) (hits : List Hit) (rows : List Row) (at next size : ℕ) (ls : List ℤ) (bs : List ℕ)
    → IsRun rows at size ls bs → next ≡ at + length ls
    → take k (in_order ((hits ++ map (hit_of q) (take at rows)) ++ map (hit_of q) (rows_in size ls bs)))
    ≡ take k (in_order (hits ++ map (hit_of q) (take next rows)))
best_more k q hits rows at next size ls bs run is =
    ap (λ (hs : List Hit). take k (in_order hs))
    (hits_more q (take at rows) rows (rows_in size ls bs) (take (at + length ls) rows) hits
    (rows_more rows at size ls bs run))
    ∙ ap (λ (n : ℕ). take k (in_order (hits ++ map (hit_of q) (take n rows)))) (sym is)

-- no more hits are kept than were offered
pub length_more : (k : ℕ) (q : List ℕ) (kept after : List Hit) (size : ℕ) (ls : List ℤ) (bs : List ℕ)
    → after ≡ take k (in_order (kept ++ map (hit_of q) (rows_in size ls bs))) → length after ≤ length kept + length ls
length_more k q kept after size ls bs is =
    omega (
      arith,
      ap length is,
      length-take k (in_order (kept ++ map (hit_of q) (rows_in size ls bs))),
      length-in_order (kept ++ map (hit_of q) (rows_in size ls bs)),
      length-append kept (map (hit_of q) (rows_in size ls bs)),
      length-map (rows_in size ls bs) (hit_of q),
      length-rows_in size ls bs,
    )

-- the found hits with those of one more run
pub below_run : (radius : ℕ) (q : List ℕ) (before found after : List Hit) (rows : List Row) (at size : ℕ)
    (ls : List ℤ) (bs : List ℕ) → IsRun rows at size ls bs
    → found ≡ before ++ filter (λ (h : Hit). nat_lt h.distance radius) (map (hit_of q) (take at rows))
    → after ≡ found ++ filter (λ (h : Hit). nat_lt h.distance radius) (map (hit_of q) (rows_in size ls bs))
    → after ≡ before ++ filter (λ (h : Hit). nat_lt h.distance radius) (map (hit_of q) (take (at + length ls) rows))
below_run radius q before found after rows at size ls bs run is more =
    let p : Hit → Bool = λ h. nat_lt h.distance radius in
    more
    ∙ ap (λ (hs : List Hit). hs ++ filter p (map (hit_of q) (rows_in size ls bs))) is
    ∙ append_assoc before (filter p (map (hit_of q) (take at rows))) (filter p (map (hit_of q) (rows_in size ls bs)))
    ∙ ap (λ (hs : List Hit). before ++ hs)
    (sym (filter-append p (map (hit_of q) (take at rows)) (map (hit_of q) (rows_in size ls bs)))
    ∙ ap (filter p) (sym (map-append (hit_of q) (take at rows) (rows_in size ls bs))
    ∙ ap (map (hit_of q)) (rows_more rows at size ls bs run)))

-- ---- one list after the other

pub rows_at-more : (p : PoolLists) (lists : List ℕ) (i : ℕ) → i < length lists
    → rows_at p (take (i + 1) lists) ≡ rows_at p (take i lists) ++ (list_at p (get_or lists i 0)).rows
rows_at-more p lists i h =
    let f : ℕ → List Row = λ l. (list_at p l).rows in
    ap (flat_map f) (take_more lists i 0 h) ∙ flat_map-append f (take i lists) (get_or lists i 0 ∷ [])
    ∙ ap (λ (rs : List Row). flat_map f (take i lists) ++ rs) (append-nil (f (get_or lists i 0)))

pub best_list : (k : ℕ) (q : List ℕ) (p : PoolLists) (lists : List ℕ) (i : ℕ) (hits : List Hit) → i < length lists
    → take k (in_order ((hits ++ map (hit_of q) (rows_at p (take i lists))) ++ map (hit_of q)
    (list_at p (get_or lists i 0)).rows))
    ≡ take k (in_order (hits ++ map (hit_of q) (rows_at p (take (i + 1) lists))))
best_list k q p lists i hits h =
    ap (λ (hs : List Hit). take k (in_order hs))
    (hits_more q (rows_at p (take i lists)) [] (list_at p (get_or lists i 0)).rows
    (rows_at p (take (i + 1) lists)) hits (sym (rows_at-more p lists i h)))

pub below_list : (radius : ℕ) (q : List ℕ) (before : List Hit) (p : PoolLists) (lists : List ℕ) (i : ℕ) → i < length lists
    → (before ++ filter (λ (h : Hit). nat_lt h.distance radius) (map (hit_of q) (rows_at p (take i lists)))) ++ filter
    (λ (h : Hit). nat_lt h.distance radius) (map (hit_of q) (list_at p (get_or lists i 0)).rows)
    ≡ before ++ filter (λ (h : Hit). nat_lt h.distance radius) (map (hit_of q) (rows_at p (take (i + 1) lists)))
below_list radius q before p lists i h =
    let f : Hit → Bool = λ h. nat_lt h.distance radius in
    let done : List Row = rows_at p (take i lists) in
    let rows : List Row = (list_at p (get_or lists i 0)).rows in
    append_assoc before (filter f (map (hit_of q) done)) (filter f (map (hit_of q) rows))
    ∙ ap (λ (hs : List Hit). before ++ hs)
    (sym (filter-append f (map (hit_of q) done) (map (hit_of q) rows))
    ∙ ap (filter f) (sym (map-append (hit_of q) done rows) ∙ ap (map (hit_of q)) (sym (rows_at-more p lists i h))))

-- how many rows were met
pub length-rows_at : (p : PoolLists) (lists : List ℕ) (i : ℕ) → i < length lists
    → length (rows_at p (take (i + 1) lists)) ≡ length (rows_at p (take i lists)) + length
    (list_at p (get_or lists i 0)).rows
length-rows_at p lists i h = ap length (rows_at-more p lists i h)
    ∙ length-append (rows_at p (take i lists)) (list_at p (get_or lists i 0)).rows

-- the first lists have no more rows than all
pub rows_at-le : (p : PoolLists) (lists : List ℕ) (i : ℕ) → length (rows_at p (take i lists)) ≤ length (rows_at p lists)
rows_at-le p [] zero = omega arith
rows_at-le p [] (suc i) = omega arith
rows_at-le p (l ∷ lists) zero = omega arith
rows_at-le p (l ∷ lists) (suc i) =
    omega (
      arith,
      rows_at-le p lists i,
      length-append (list_at p l).rows (rows_at p (take i lists)),
      length-append (list_at p l).rows (rows_at p lists),
    )

-- once all lists were met
pub take_lists : (lists : List ℕ) (i : ℕ) → length lists ≤ i → take i lists ≡ lists
take_lists lists i h = take_all i lists h
