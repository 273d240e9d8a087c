-- Lemmas on labels and the bytes of codes as rows.
use Rattle.std.proofs.Common.{◌≡◌, ℕ, zero, suc, ◌+◌, ◌-◌, ◌*◌, ◌/◌, ◌<◌, ◌≤◌, ◌^◌, ℤ, pos, FitsSigned, w64, get_or}
use Rattle.std.proofs.Common.{List, [], ◌∷◌, ◌++◌, length, take, drop, set, map, refl, sym, ap, ◌∙◌, arith, length-drop}
use Rattle.std.proofs.Common.{length-take, length-append, replicate}
use Rattle.std.proofs.lemmas.List.{length-replicate, take_at, drop_at, get_or_default, get_or-take, get_or-drop}
use Rattle.std.proofs.lemmas.List.{take-append-le, drop-append-le, take_all, take-take, drop-take, drop-drop}
use Rattle.std.proofs.Math.Nat.{mul-le-mul_right, mul-div-le}
use Rattle.bcodes.specs.Value.{Row, HasBytes}
use Rattle.code_pool.specs.Lists.{rows_in, label_of, code_in, no_row, IsPoolRow}

pub length-rows_in : (size : ℕ) (ls : List ℤ) (bs : List ℕ) → length (rows_in size ls bs) ≡ length ls
unfolding rows_in
length-rows_in size [] bs = refl
length-rows_in size (l ∷ ls) bs = ap suc (length-rows_in size ls (drop size bs))

pub map-rows_in : (size : ℕ) (ls : List ℤ) (bs : List ℕ) → map label_of (rows_in size ls bs) ≡ ls
unfolding rows_in
map-rows_in size [] bs = refl
map-rows_in size (l ∷ ls) bs = ap (λ (ms : List ℤ). l ∷ ms) (map-rows_in size ls (drop size bs))

-- one more label and one more code are one more row
pub rows_in-push : (size : ℕ) (ls : List ℤ) (bs : List ℕ) (l : ℤ) (code : List ℕ) → length bs ≡ length ls * size
    → length code ≡ size
    → rows_in size (ls ++ l ∷ []) (bs ++ code) ≡ rows_in size ls bs ++ (record { label = l; code = code }) ∷ []
unfolding rows_in
rows_in-push size [] [] l code h k = ap (λ (c : List ℕ). (record { label = l; code = c }) ∷ [])
    (take_all size code (omega arith))
rows_in-push size [] (b ∷ bs) l code h k = absurd (omega arith)
rows_in-push size (m ∷ ls) bs l code h k =
    let fits : size ≤ length bs = grind arith in
    let left : length (drop size bs) ≡ length ls * size = grind (arith, length-drop) in
    rw (take-append-le size bs code fits, drop-append-le size bs code fits)
    (ap (λ (rs : List Row). (record { label = m; code = take size bs }) ∷ rs)
    (rows_in-push size ls (drop size bs) l code left k))

drop-rows_in : (size from : ℕ) (ls : List ℤ) (bs : List ℕ)
    → drop from (rows_in size ls bs) ≡ rows_in size (drop from ls) (drop (from * size) bs)
unfolding rows_in
drop-rows_in size zero ls bs = let z : 0 * size ≡ 0 = omega arith in rw z refl
drop-rows_in size (suc from) [] bs = refl
drop-rows_in size (suc from) (l ∷ ls) bs =
    drop-rows_in size from ls (drop size bs)
    ∙ ap (rows_in size (drop from ls)) (drop-drop (from * size) size bs ∙ ap (λ (k : ℕ). drop k bs) (grind arith))

take-rows_in : (size n : ℕ) (ls : List ℤ) (bs : List ℕ)
    → take n (rows_in size ls bs) ≡ rows_in size (take n ls) (take (n * size) bs)
unfolding rows_in
take-rows_in size zero ls bs = refl
take-rows_in size (suc n) [] bs = refl
take-rows_in size (suc n) (l ∷ ls) bs =
    let e : suc n * size ≡ size + n * size = grind arith in
    rw (e, take-take size (size + n * size) bs (omega arith), drop-take size (n * size) bs)
    (ap (λ (rs : List Row). (record { label = l; code = take size bs }) ∷ rs) (take-rows_in size n ls (drop size bs)))

-- n rows from `from` on, by their labels and codes
pub run_rows : (size from n : ℕ) (ls : List ℤ) (bs : List ℕ) → length bs ≡ length ls * size → from + n ≤ length ls
    → (length (take n (drop from ls)) ≡ n) × (length (take (n * size) (drop (from * size) bs)) ≡ n * size)
    × (rows_in size (take n (drop from ls)) (take (n * size) (drop (from * size) bs))
    ≡ take n (drop from (rows_in size ls bs)))
run_rows size from n ls bs whole within =
    let ends : (from + n) * size ≤ length ls * size = mul-le-mul_right size within in
    let apart : (from + n) * size ≡ from * size + n * size = grind arith in (
      omega (arith, length-take n (drop from ls), length-drop from ls),
      omega (arith, length-take (n * size) (drop (from * size) bs), length-drop (from * size) bs),
      rw (drop-rows_in size from ls bs, take-rows_in size n (drop from ls) (drop (from * size) bs)) refl,
    )

-- one more row in place of one
pub rows_in-write : (size at : ℕ) (ls : List ℤ) (bs : List ℕ) (l : ℤ) (code : List ℕ) → length bs ≡ length ls * size
    → at < length ls → length code ≡ size
    → rows_in size (set ls at l) (take (at * size) bs ++ (code ++ drop (at * size + size) bs))
    ≡ set (rows_in size ls bs) at (record { label = l; code = code })
unfolding rows_in
rows_in-write size at [] bs l code whole h k = absurd (omega arith)
rows_in-write size zero (m ∷ ls) bs l code whole h k =
    let z : 0 * size ≡ 0 = omega arith in
    let s : 0 + size ≡ size = omega arith in
    rw (z, s, take_at code (drop size bs) size k, drop_at code (drop size bs) size k) refl
rows_in-write size (suc at) (m ∷ ls) bs l code whole h k =
    let e : suc at * size ≡ size + at * size = grind arith in
    let f : size + at * size + size ≡ size + (at * size + size) = omega arith in
    let left : length (drop size bs) ≡ length ls * size = grind (arith, length-drop) in
    let low : (at + 1) * size ≤ length ls * size = mul-le-mul_right size (omega arith) in
    let apart : (at + 1) * size ≡ at * size + size = grind arith in
    let fits : size + at * size ≤ length bs = omega (arith, length-drop size bs) in
    let whole_front : length (take (size + at * size) bs) ≡ size + at * size = omega
    (arith, length-take (size + at * size) bs) in
    let front : take size (take (size + at * size) bs ++ (code ++ drop (size + (at * size + size)) bs)) ≡ take size bs =
    take-append-le size _ _ (omega arith) ∙ take-take size (size + at * size) bs (omega arith) in
    let rest : drop size (take (size + at * size) bs ++ (code ++ drop (size + (at * size + size)) bs))
    ≡ take (at * size) (drop size bs) ++ (code ++ drop (at * size + size) (drop size bs)) =
    drop-append-le size _ _ (omega arith) ∙ ap (λ (xs : List ℕ). xs ++ (code ++ drop (size + (at * size + size)) bs))
    (drop-take size (at * size) bs)
    ∙ ap (λ (xs : List ℕ). take (at * size) (drop size bs) ++ (code ++ xs))
    (sym (drop-drop (at * size + size) size bs)) in
    rw (e, f, front, rest)
    (ap (λ (rs : List Row). record { label = m; code = take size bs } ∷ rs)
    (rows_in-write size at ls (drop size bs) l code left (omega arith) k))

-- more labels and codes leave the rows that there were
pub rows_in-more : (size : ℕ) (ls ms : List ℤ) (bs cs : List ℕ) → length bs ≡ length ls * size
    → take (length (rows_in size ls bs)) (rows_in size (ls ++ ms) (bs ++ cs)) ≡ rows_in size ls bs
unfolding rows_in
rows_in-more size [] ms bs cs whole = refl
rows_in-more size (l ∷ ls) ms bs cs whole =
    let fits : size ≤ length bs = grind arith in
    let left : length (drop size bs) ≡ length ls * size = grind (arith, length-drop) in
    rw (take-append-le size bs cs fits, drop-append-le size bs cs fits)
    (ap (λ (rs : List Row). record { label = l; code = take size bs } ∷ rs)
    (rows_in-more size ls ms (drop size bs) cs left))

-- entries up to n rows, from those of some rows
pub fill_size : (n l size : ℕ) → l ≤ n → (n - l) * size + l * size ≡ n * size
fill_size n l size h =
    let e : n - l + l ≡ n = omega arith in
    let f : (n - l + l) * size ≡ (n - l) * size + l * size = grind arith in
    sym f ∙ ap (λ (k : ℕ). k * size) e

-- the row at a place
pub get-rows_in : (size : ℕ) (ls : List ℤ) (bs : List ℕ) (i : ℕ) (d : Row) → i < length ls
    → get_or (rows_in size ls bs) i d ≡ record { label = get_or ls i (pos 0); code = take size (drop (i * size) bs) }
unfolding rows_in
get-rows_in size [] bs i d h = absurd (omega arith)
get-rows_in size (l ∷ ls) bs zero d h = let z : 0 * size ≡ 0 = omega arith in rw z refl
get-rows_in size (l ∷ ls) bs (suc i) d h =
    get-rows_in size ls (drop size bs) i d (omega arith)
    ∙ ap (λ (c : List ℕ). record { label = get_or ls i (pos 0); code = take size c }) (drop-drop (i * size) size bs
    ∙ ap (λ (k : ℕ). drop k bs) (grind arith))

-- the code of the row at a place, by any number that is the code size
pub code_in_is : (size part i : ℕ) (ls : List ℤ) (bs : List ℕ) → part ≡ size → i < length ls
    → take (i * part + part - i * part) (drop (i * part) bs) ≡ code_in size ls bs i
code_in_is size part i ls bs e h =
    let apart : i * size + size - i * size ≡ size = omega arith in
    ap (λ (n : ℕ). take (i * n + n - i * n) (drop (i * n) bs)) e
    ∙ ap (λ (n : ℕ). take n (drop (i * size) bs)) apart
    ∙ sym (ap (λ (row : Row). row.code) (get-rows_in size ls bs i no_row h))

-- one label alone
pub one_label : (ls : List ℤ) (i : ℕ) (d : ℤ) → i < length ls → take 1 (drop i ls) ≡ get_or ls i d ∷ []
one_label [] i d h = absurd (omega arith)
one_label (l ∷ ls) zero d h = refl
one_label (l ∷ ls) (suc i) d h = one_label ls i d (omega arith)

HasBytes-take : (size : ℕ) (bs : List ℕ) → size ≤ length bs → ((i : ℕ) → get_or bs i 0 < 2 ^ 8)
    → HasBytes size (take size bs)
HasBytes-take size bs fits small = record {
  size = omega (arith, length-take size bs);
  bytes = λ k e low.
      let here : k < size = omega (arith, length-take size bs) in
      let inside : k < length bs = omega arith in
      rw (get_or-take size bs k e here, get_or_default bs k e 0 inside) (small k);
}

-- labels of 64 bits and bytes are rows of a pool
pub IsPoolRow-rows_in : (size : ℕ) (ls : List ℤ) (bs : List ℕ) → length bs ≡ length ls * size
    → ((i : ℕ) → get_or bs i 0 < 2 ^ 8) → ((i : ℕ) → i < length ls → FitsSigned w64 (get_or ls i (pos 0)))
    → (k : ℕ) (d : Row) → k < length (rows_in size ls bs) → IsPoolRow size (get_or (rows_in size ls bs) k d)
unfolding rows_in
IsPoolRow-rows_in size [] bs whole small fits k d low = absurd (omega arith)
IsPoolRow-rows_in size (l ∷ ls) bs whole small fits zero d low =
    let enough : size ≤ length bs = grind arith in
    record { label = fits 0 (omega arith); code = HasBytes-take size bs enough small }
IsPoolRow-rows_in size (l ∷ ls) bs whole small fits (suc k) d low =
    let left : length (drop size bs) ≡ length ls * size = grind (arith, length-drop) in
    IsPoolRow-rows_in size ls (drop size bs) left (λ i. rw (get_or-drop size bs i 0) (small (size + i)))
    (λ i h. fits (suc i) (omega arith)) k d (omega arith)

-- one more code in the room that there is
pub room_for_one : (size spare capacity bytes : ℕ) → 0 < spare → bytes + spare * size ≤ capacity
    → (bytes + size) + (spare - 1) * size ≤ capacity
room_for_one size zero capacity bytes h fits = absurd (omega arith)
room_for_one size (suc spare) capacity bytes h fits =
    let e : suc spare - 1 ≡ spare = omega arith in
    let f : suc spare * size ≡ size + spare * size = grind arith in
    rw e (omega arith)

-- the bytes of the codes, after one is written
pub written_size : (size at rows : ℕ) (bs code : List ℕ) → length bs ≡ rows * size → at < rows → length code ≡ size
    → length (take (at * size) bs ++ (code ++ drop (at * size + size) bs)) ≡ rows * size
written_size size at rows bs code whole h k =
    let low : (at + 1) * size ≤ rows * size = mul-le-mul_right size (omega arith) in
    let apart : (at + 1) * size ≡ at * size + size = grind arith in
    omega (
      arith,
      length-append (take (at * size) bs) (code ++ drop (at * size + size) bs),
      length-append code (drop (at * size + size) bs),
      length-take (at * size) bs,
      length-drop (at * size + size) bs,
    )

pub filled_length : (n : ℕ) (xs ys zs : List ℤ) (e : ℤ) → ys ≡ xs → length xs ≤ n
    → zs ≡ ys ++ replicate (n - length ys) e → length zs ≡ n
filled_length n xs ys zs e same low is =
    ap (λ (ws : List ℤ). length ws) is ∙ length-append ys (replicate (n - length ys) e)
    ∙ omega (arith, length-replicate (n - length ys) e, ap (λ (ws : List ℤ). length ws) same)

code_at_length : (size at rows : ℕ) (bs : List ℕ) → length bs ≡ rows * size → at < rows
    → length (take size (drop (at * size) bs)) ≡ size
code_at_length size at rows bs whole h =
    let low : (at + 1) * size ≤ rows * size = mul-le-mul_right size (omega arith) in
    let apart : (at + 1) * size ≡ at * size + size = grind arith in
    omega (arith, length-take size (drop (at * size) bs), length-drop (at * size) bs)

-- a row copied to another place
pub rows_in-copy : (size from to : ℕ) (ls : List ℤ) (bs : List ℕ) (l : ℤ) → length bs ≡ length ls * size
    → from < length ls → to < length ls → l ≡ get_or ls from (pos 0)
    → rows_in size (set ls to l)
    (take (to * size) bs ++ (take size (drop (from * size) bs) ++ drop (to * size + size) bs))
    ≡ set (rows_in size ls bs) to (get_or (rows_in size ls bs) from no_row)
rows_in-copy size from to ls bs l whole f t is =
    rows_in-write size to ls bs l (take size (drop (from * size) bs)) whole t
    (code_at_length size from (length ls) bs whole f)
    ∙ ap (set (rows_in size ls bs) to)
    (ap (λ (z : ℤ). record { label = z; code = take size (drop (from * size) bs) }) is
    ∙ sym (get-rows_in size ls bs from no_row f))

pub copied_size : (size from to rows : ℕ) (bs : List ℕ) → length bs ≡ rows * size → from < rows → to < rows
    → length (take (to * size) bs ++ (take size (drop (from * size) bs) ++ drop (to * size + size) bs)) ≡ rows * size
copied_size size from to rows bs whole f t = written_size size to rows bs (take size (drop (from * size) bs)) whole t
    (code_at_length size from rows bs whole f)

-- some neighbouring rows of others, by any number that is the code size
pub part_inside : (from n labels bytes : ℕ) → from + n ≤ labels
    → from * (bytes / labels) + n * (bytes / labels) ≤ bytes
part_inside from n labels bytes within =
    let size = bytes / labels in
    let ends : (from + n) * (bytes / labels) ≤ labels * (bytes / labels) = mul-le-mul_right (bytes / labels) within in
    let apart : (from + n) * (bytes / labels) ≡ from * (bytes / labels) + n * (bytes / labels) = grind arith in
    omega (arith, mul-div-le bytes labels)

pub part_rows : (size part from n : ℕ) (ls : List ℤ) (bs : List ℕ) → length bs ≡ length ls * size → part ≡ size
    → from + n ≤ length ls
    → (length (take (from * part + n * part - from * part) (drop (from * part) bs)) ≡ n * size)
    × (rows_in size (take (from + n - from) (drop from ls))
    (take (from * part + n * part - from * part) (drop (from * part) bs)) ≡ take n (drop from (rows_in size ls bs)))
part_rows size part from n ls bs whole same within =
    let r = run_rows size from n ls bs whole within in
    let few : from + n - from ≡ n = omega arith in
    let bytes : from * size + n * size - from * size ≡ n * size = omega arith in
    rw (same, few, bytes) (r.1, r.2)
