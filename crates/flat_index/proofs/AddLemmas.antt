-- Lemmas on adding codes to list 0.
use Rattle.std.proofs.Common.{◌≡◌, ℕ, ◌+◌, ◌*◌, ◌/◌, ◌<◌, ◌≤◌, ℤ, pos, List, [], ◌∷◌, ◌++◌, length, get_or, take, map}
use Rattle.std.proofs.Common.{refl, sym, ap, ◌∙◌, arith, get_or-set_same, append_assoc, length-append}
use Rattle.std.proofs.lemmas.List.{take_more, map-append, length-map}
use Rattle.bcodes.specs.Ranges.{load_limit}
use Rattle.bcodes.specs.Value.{Row, CodeList, Bare, Flat, numbered, weight, load_of}
use Rattle.bcodes.specs.Answers.{after_add}
use Rattle.bcodes.proofs.NumberedLemmas.{get-numbered, length-numbered, numbered-append}
use Rattle.bcodes.proofs.FormLemmas.{after_add_flat}
use Rattle.code_pool.specs.Lists.{PoolLists, PoolList, IsReserved, list_at, with_list, no_list}
use Rattle.flat_index.specs.Inside.{IsFlat, codes_in}

-- the list that was put in place of list 0
pub list_at-with_list : (p : PoolLists) (list : PoolList) → 0 < length p.lists → list_at (with_list p 0 list) 0 ≡ list
list_at-with_list p list h = get_or-set_same p.lists 0 list no_list h

-- the rows after one more push
pub rows_more : (old now new : List Row) (count i : ℕ) (cs : List (List ℕ)) (row : Row) → i < length cs
    → now ≡ old ++ take i (numbered count cs) → row ≡ record { label = pos (count + i); code = get_or cs i [] }
    → new ≡ now ++ row ∷ [] → new ≡ old ++ take (i + 1) (numbered count cs)
rows_more old now new count i cs row here so_far this is =
    let inside : i < length (numbered count cs) = omega (arith, length-numbered count cs) in
    is ∙ ap (λ (rs : List Row). rs ++ row ∷ []) so_far ∙ append_assoc old (take i (numbered count cs)) (row ∷ [])
    ∙ ap (λ (rs : List Row). old ++ rs)
    (ap (λ (r : Row). take i (numbered count cs) ++ r ∷ []) (this ∙ sym (get-numbered count cs i row [] here))
    ∙ sym (take_more (numbered count cs) i row inside))

-- the codes of codes under positions
pub codes-numbered : (i : ℕ) (cs : List (List ℕ)) → map (λ (row : Row). row.code) (numbered i cs) ≡ cs
codes-numbered i [] = refl
codes-numbered i (c ∷ cs) = ap (λ (ds : List (List ℕ)). c ∷ ds) (codes-numbered (i + 1) cs)

-- the codes after an add
pub codes_added : (old new : PoolLists) (count : ℕ) (cs : List (List ℕ))
    → (list_at new 0).rows ≡ (list_at old 0).rows ++ numbered count cs → codes_in new ≡ codes_in old ++ cs
codes_added old new count cs h =
    ap (map (λ (row : Row). row.code)) h
    ∙ map-append (λ (row : Row). row.code) (list_at old 0).rows (numbered count cs)
    ∙ ap (λ (ds : List (List ℕ)). codes_in old ++ ds) (codes-numbered count cs)

-- after an add each code stands under its position
pub placed_added : (d : ℕ) (old new : PoolLists) (count : ℕ) (cs : List (List ℕ)) → IsFlat d old
    → count ≡ length (list_at old 0).rows → (list_at new 0).rows ≡ (list_at old 0).rows ++ numbered count cs
    → (list_at new 0).rows ≡ numbered 0 (codes_in new)
placed_added d old new count cs flat e h =
    let long : count ≡ 0 + length (codes_in old) = omega
    (arith, length-map (list_at old 0).rows (λ (row : Row). row.code)) in
    h ∙ ap (λ (rs : List Row). rs ++ numbered count cs) flat.placed
    ∙ ap (λ (n : ℕ). numbered 0 (codes_in old) ++ numbered n cs) long
    ∙ sym (numbered-append 0 (codes_in old) cs) ∙ ap (numbered 0) (sym (codes_added old new count cs h))

-- the load limit bounds the number of rows
pub light : (d n : ℕ) → weight d 0 n 0 ≤ load_limit → n ≤ 67108864
light d n h =
    let k : n * 16 ≤ n * (d / 8 + 16 + 64 * 0) = grind arith in
    omega arith

-- the load after an add
pub load_added : (v seen : CodeList) (ls : List ℤ) (cs : List (List ℕ)) → v ≡ seen → length ls ≡ length cs
    → load_of (after_add (Bare (Flat seen)) ls cs) ≤ load_limit
    → weight v.dim 0 (length (v.codes ++ cs)) 0 ≤ load_limit
load_added v seen ls cs is same h = rw is (rw (after_add_flat seen ls cs same) at h)

-- how many rows a load within the limit allows
pub few_added : (v seen : CodeList) (ls : List ℤ) (cs : List (List ℕ)) → v ≡ seen → length ls ≡ length cs
    → load_of (after_add (Bare (Flat seen)) ls cs) ≤ load_limit → length v.codes + length cs ≤ 67108864
few_added v seen ls cs is same h = omega
    (arith, light v.dim (length (v.codes ++ cs)) (load_added v seen ls cs is same h), length-append v.codes cs)

-- the load after an append, seen from inside
pub load_inside : (v seen : CodeList) (n : ℕ) (cs : List (List ℕ)) → v ≡ seen → length cs ≡ n
    → weight seen.dim 0 (length seen.codes + n) 0 ≤ load_limit
    → weight v.dim 0 (length (v.codes ++ cs)) 0 ≤ load_limit
load_inside v seen n cs is long h = rw (length-append v.codes cs, long, is) h

-- how many rows that load allows
pub few_inside : (v seen : CodeList) (n : ℕ) → v ≡ seen → weight seen.dim 0 (length seen.codes + n) 0 ≤ load_limit
    → length v.codes + n ≤ 67108864
few_inside v seen n is h = light v.dim (length v.codes + n) (rw is h)

-- what a reserve and an append leave
pub record IsAdded (old new : PoolLists) (count : ℕ) (cs : List (List ℕ)) : Type 0 where
  pub rows : (list_at new 0).rows ≡ (list_at old 0).rows ++ numbered count cs
  pub lists : length new.lists ≡ length old.lists
  pub size : new.code_size ≡ old.code_size

-- a reserve and an append leave the old rows, the new ones behind them, and the rest
pub added : (old reserved new : PoolLists) (count n : ℕ) (cs : List (List ℕ)) → IsReserved old reserved 0 n
    → (list_at new 0).rows ≡ (list_at reserved 0).rows ++ numbered count cs → length new.lists ≡ length reserved.lists
    → new.code_size ≡ reserved.code_size → IsAdded old new count cs
added old reserved new count n cs is rows lists size = record {
  rows = rows ∙ ap (λ (rs : List Row). rs ++ numbered count cs) (is.rows 0);
  lists = lists ∙ is.lists;
  size = size ∙ is.code_size;
}

-- what an add leaves is a Flat index
pub flat_added : (d : ℕ) (old new : PoolLists) (count : ℕ) (cs : List (List ℕ)) → IsFlat d old
    → count ≡ length (list_at old 0).rows → IsAdded old new count cs
    → weight d 0 (length (codes_in old ++ cs)) 0 ≤ load_limit → IsFlat d new
flat_added d old new count cs flat e a load = record {
  one = a.lists ∙ flat.one;
  size = a.size ∙ flat.size;
  placed = placed_added d old new count cs flat e a.rows;
  load = rw (codes_added old new count cs a.rows) load;
}
