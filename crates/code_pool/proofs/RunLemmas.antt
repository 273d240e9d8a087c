-- Lemmas on runs of rows that are appended to a list.
use Rattle.std.proofs.Common.{◌≡◌, ℕ, zero, suc, ◌+◌, ◌-◌, ◌*◌, ◌/◌, ◌<◌, ◌≤◌, ℤ, get_or, set, List, [], ◌∷◌}
use Rattle.std.proofs.Common.{◌++◌, length, take, drop, refl, sym, ap, ◌∙◌, subst, arith, append_assoc, append-nil}
use Rattle.std.proofs.Common.{length-append, length-drop, length-take}
use Rattle.std.proofs.lemmas.List.{drop_at, drop-drop, length-set, set-get_or, set-set, take_at, take-append-drop}
use Rattle.std.proofs.lemmas.List.{drop-take, get_or-set_same, take-take, take_more}
use Rattle.std.proofs.lemmas.List.Elements.{All-append, All-drop, All-take}
use Rattle.std.proofs.Math.Nat.{mul-le-mul_right}
use Rattle.std.specs.List.{All}
use Rattle.bcodes.specs.Value.{Row}
use Rattle.code_pool.specs.Chains.{Held, BlockChains, IsApart, IsStretch, chain_at, empty_chain, place_of, with_chain}
use Rattle.code_pool.specs.Inside.{IsPool, pool_in}
use Rattle.code_pool.specs.Lists.{PoolList, PoolLists, SizedRows, list_at, no_list, rows_in, with_list}
use Rattle.code_pool.specs.Lists.{with_rows, with_run}
use Rattle.code_pool.proofs.PoolLemmas.{chain_inside, list_at-same, list_spare, pool_pushed}
use Rattle.code_pool.proofs.RowLemmas.{rows_in-write}

-- ---- entries of a table, written from a place on

abbrev pub put : {X : Type 0} → List X → ℕ → List X → List X
put xs at ys = take at xs ++ (ys ++ drop (at + length ys) xs)

pub put-none : {X : Type 0} (xs : List X) (at : ℕ) → put xs at [] ≡ xs
put-none xs at =
    let z : at + 0 ≡ at = omega arith in
    rw z (take-append-drop at xs)

pub put-one : {X : Type 0} (xs : List X) (at : ℕ) (x : X) → at < length xs → put xs at (x ∷ []) ≡ set xs at x
put-one [] at x h = absurd (omega arith)
put-one (y ∷ xs) zero x h = refl
put-one {X = X} (y ∷ xs) (suc at) x h =
    let e : suc at + 1 ≡ suc (at + 1) = omega arith in
    rw e (ap (λ (zs : List X). y ∷ zs) (put-one xs at x (omega arith)))

-- some behind others
pub put-put : {X : Type 0} (xs : List X) (at : ℕ) (ys zs : List X) → at + length ys ≤ length xs
    → put (put xs at ys) (at + length ys) zs ≡ put xs at (ys ++ zs)
put-put {X = X} xs at ys zs low =
    let front : length (take at xs ++ ys) ≡ at + length ys =
    omega (arith, length-append (take at xs) ys, length-take at xs) in
    let split : take at xs ++ (ys ++ drop (at + length ys) xs) ≡ take at xs ++ ys ++ drop (at + length ys) xs = sym
    (append_assoc (take at xs) ys (drop (at + length ys) xs)) in
    let left : take (at + length ys) (take at xs ++ (ys ++ drop (at + length ys) xs)) ≡ take at xs ++ ys =
    ap (take (at + length ys)) split ∙ take_at (take at xs ++ ys) (drop (at + length ys) xs) (at + length ys) front in
    let right : drop (at + length ys + length zs) (take at xs ++ (ys ++ drop (at + length ys) xs))
    ≡ drop (at + length (ys ++ zs)) xs =
    sym (drop-drop (length zs) (at + length ys) (take at xs ++ (ys ++ drop (at + length ys) xs)))
    ∙ ap (λ (ws : List X). drop (length zs) (drop (at + length ys) ws)) split
    ∙ ap (drop (length zs)) (drop_at (take at xs ++ ys) (drop (at + length ys) xs) (at + length ys) front)
    ∙ drop-drop (length zs) (at + length ys) xs
    ∙ ap (λ (k : ℕ). drop k xs) (omega (arith, length-append ys zs)) in
    rw (left, right)
    (append_assoc (take at xs) ys (zs ++ drop (at + length (ys ++ zs)) xs)
    ∙ ap (λ (ws : List X). take at xs ++ ws) (sym (append_assoc ys zs (drop (at + length (ys ++ zs)) xs))))

-- one and those behind it
pub put-more : {X : Type 0} (xs : List X) (at : ℕ) (y : X) (ys : List X) → at < length xs
    → put (set xs at y) (at + 1) ys ≡ put xs at (y ∷ ys)
put-more {X = X} xs at y ys h =
    ap (λ (ws : List X). put ws (at + 1) ys) (sym (put-one xs at y h)) ∙ put-put xs at (y ∷ []) ys (omega arith)

pub length-put : {X : Type 0} (xs : List X) (at : ℕ) (ys : List X) → at + length ys ≤ length xs
    → length (put xs at ys) ≡ length xs
length-put xs at ys low = omega (
  arith,
  length-append (take at xs) (ys ++ drop (at + length ys) xs),
  length-append ys (drop (at + length ys) xs),
  length-take at xs,
  length-drop (at + length ys) xs,
)

pub All-put : {X : Type 0} (P : X → Type 0) (xs : List X) (at : ℕ) (ys : List X) → All P xs → All P ys
    → All P (put xs at ys)
All-put P xs at ys all new =
    All-append P (take at xs) (ys ++ drop (at + length ys) xs) (All-take P at xs all)
    (All-append P ys (drop (at + length ys) xs) new (All-drop P (at + length ys) xs all))

-- the next of those that are written one by one
pub put-next : {X : Type 0} (xs : List X) (at i : ℕ) (ys : List X) (d : X) → i < length ys → at + length ys ≤ length xs
    → set (put xs at (take i ys)) (at + i) (get_or ys i d) ≡ put xs at (take (i + 1) ys)
put-next {X = X} xs at i ys d here low =
    let front : length (take i ys) ≡ i = omega (arith, length-take i ys) in
    let size : length (put xs at (take i ys)) ≡ length xs = length-put xs at (take i ys) (omega arith) in
    sym (put-one (put xs at (take i ys)) (at + i) (get_or ys i d) (omega arith))
    ∙ ap (λ (k : ℕ). put (put xs at (take i ys)) (at + k) (get_or ys i d ∷ [])) (sym front)
    ∙ put-put xs at (take i ys) (get_or ys i d ∷ []) (omega arith)
    ∙ ap (put xs at) (sym (take_more ys i d here))

-- ---- rows, by their labels and codes

-- codes written from a row on stay within the codes
pub bytes_fit : (size at n labels bytes new : ℕ) → bytes ≡ labels * size → new ≡ n * size → at + n ≤ labels
    → at * size + new ≤ bytes
bytes_fit size at n labels bytes new whole part within =
    let ends : (at + n) * size ≤ labels * size = mul-le-mul_right size within in
    let apart : (at + n) * size ≡ at * size + n * size = grind arith in
    omega arith

-- labels and codes written from a row on are rows written from there on
pub rows_in-run : (size at : ℕ) (ls : List ℤ) (bs : List ℕ) (ms : List ℤ) (cs : List ℕ) → length bs ≡ length ls * size
    → length cs ≡ length ms * size → at + length ms ≤ length ls
    → rows_in size (put ls at ms) (put bs (at * size) cs) ≡ with_run (rows_in size ls bs) at (rows_in size ms cs)
unfolding rows_in with_run
rows_in-run size at ls bs [] [] whole part within =
    ap (λ (ks : List ℤ). rows_in size ks (put bs (at * size) [])) (put-none ls at)
    ∙ ap (rows_in size ls) (put-none bs (at * size))
rows_in-run size at ls bs [] (c ∷ cs) whole part within = absurd (omega arith)
rows_in-run size at ls bs (m ∷ ms) cs whole part within =
    let fits : size ≤ length cs = grind arith in
    let first : length (take size cs) ≡ size = omega (arith, length-take size cs) in
    let left : length (drop size cs) ≡ length ms * size = grind (arith, length-drop) in
    let here : at < length ls = omega arith in
    let next : (at + 1) * size ≡ at * size + size = grind arith in
    let low : at * size + length (take size cs) ≤ length bs =
    bytes_fit size at 1 (length ls) (length bs) (length (take size cs)) whole (first ∙ omega arith) (omega arith) in
    let one : put bs (at * size) (take size cs) ≡ take (at * size) bs ++ (take size cs ++ drop (at * size + size) bs) =
    ap (λ (k : ℕ). take (at * size) bs ++ (take size cs ++ drop (at * size + k) bs)) first in
    let row : rows_in size (set ls at m) (put bs (at * size) (take size cs))
    ≡ set (rows_in size ls bs) at (record { label = m; code = take size cs }) =
    ap (rows_in size (set ls at m)) one ∙ rows_in-write size at ls bs m (take size cs) whole here first in
    let step = rows_in-run size (at + 1) (set ls at m) (put bs (at * size) (take size cs)) ms (drop size cs)
    (length-put bs (at * size) (take size cs) low ∙ whole ∙ ap (λ (k : ℕ). k * size) (sym (length-set ls at m)))
    left (omega (arith, length-set ls at m)) in
    let codes : put (put bs (at * size) (take size cs)) ((at + 1) * size) (drop size cs) ≡ put bs (at * size) cs =
    ap (λ (k : ℕ). put (put bs (at * size) (take size cs)) k (drop size cs))
    (next ∙ ap (λ (k : ℕ). at * size + k) (sym first))
    ∙ put-put bs (at * size) (take size cs) (drop size cs) low
    ∙ ap (put bs (at * size)) (take-append-drop size cs) in
    ap (λ (ks : List ℤ). rows_in size ks (put bs (at * size) cs)) (sym (put-more ls at m ms here))
    ∙ ap (rows_in size (put (set ls at m) (at + 1) ms)) (sym codes)
    ∙ step
    ∙ ap (λ (rs : List Row). with_run rs (at + 1) (rows_in size ms (drop size cs))) row

-- ---- the rows of a list

chain_blocks : (cs : List Held) (c len d : ℕ)
    → (get_or (set cs c (record { blocks = (get_or cs c empty_chain).blocks; len = len })) d empty_chain).blocks
    ≡ (get_or cs d empty_chain).blocks
chain_blocks [] c len d = refl
chain_blocks (h ∷ cs) zero len zero = refl
chain_blocks (h ∷ cs) zero len (suc d) = refl
chain_blocks (h ∷ cs) (suc c) len zero = refl
chain_blocks (h ∷ cs) (suc c) len (suc d) = chain_blocks cs c len d

-- another number of rows of a list
pub apart-counted : (b : BlockChains) (c len : ℕ) → IsApart b
    → IsApart (with_chain b c (record { blocks = (chain_at b c).blocks; len = len }))
apart-counted b c len apart = record {
  within = λ d i. rw (chain_blocks b.chains c len d) (apart.within d i);
  one = λ d e i j. rw (chain_blocks b.chains c len d, chain_blocks b.chains c len e) (apart.one d e i j);
}

with_rows-rows : (l : PoolList) (rows more : List Row) → with_rows (with_rows l rows) more ≡ with_rows l (rows ++ more)
with_rows-rows l rows more =
    let spare : l.spare - length rows - length more ≡ l.spare - length (rows ++ more) = omega
    (arith, length-append rows more) in
    ap (λ (n : ℕ). record { rows = l.rows ++ rows ++ more; spare = n }) spare
    ∙ ap (λ (rs : List Row). record { rows = rs; spare = l.spare - length (rows ++ more) })
    (append_assoc l.rows rows more)

-- rows of a list behind others
pub with_rows-more : (p : PoolLists) (i : ℕ) (rows more : List Row) → i < length p.lists
    → with_list (with_list p i (with_rows (list_at p i) rows)) i
    (with_rows (list_at (with_list p i (with_rows (list_at p i) rows)) i) more)
    ≡ with_list p i (with_rows (list_at p i) (rows ++ more))
with_rows-more p i rows more here =
    let l : PoolList = with_rows (list_at p i) rows in
    ap (λ (m : PoolList). with_list (with_list p i (with_rows (list_at p i) rows)) i (with_rows m more))
    (list_at-same p i (with_rows (list_at p i) rows) here)
    ∙ ap (λ (ls : List PoolList). record p { lists = ls })
    (set-set p.lists i (with_rows (list_at p i) rows) (with_rows (with_rows (list_at p i) rows) more))
    ∙ ap (with_list p i) (with_rows-rows (list_at p i) rows more)

-- no rows
pub run_none : (p : PoolLists) (i : ℕ) → with_list p i (with_rows (list_at p i) []) ≡ p
run_none p i =
    let spare : (list_at p i).spare - 0 ≡ (list_at p i).spare = omega arith in
    ap (λ (rs : List Row). with_list p i (record { rows = rs; spare = (list_at p i).spare - 0 }))
    (append-nil (list_at p i).rows)
    ∙ ap (λ (n : ℕ). with_list p i (record { rows = (list_at p i).rows; spare = n })) spare
    ∙ ap (λ (ls : List PoolList). record p { lists = ls }) (set-get_or p.lists i no_list)

-- where the next rows of a list go there are rows
pub run_inside : (r : SizedRows) (b : BlockChains) (p : PoolLists) (i at n : ℕ) → IsPool r b → IsApart b
    → pool_in r b ≡ p → i < length p.lists → 1 ≤ n → n ≤ (list_at p i).spare
    → IsStretch (chain_at b (i + 1)).blocks (chain_at b (i + 1)).len at n → at + n ≤ length r.rows
run_inside r b p i at n v apart is here some room beside =
    let h = chain_at b (i + 1) in
    let last = h.len + (n - 1) in
    let slot : (h.len + (n - 1)) / 4 < length h.blocks = omega (arith, list_spare r b p i is here) in
    let block : get_or h.blocks ((h.len + (n - 1)) / 4) 0 < b.all = apart.within (i + 1) ((h.len + (n - 1)) / 4) slot in
    let e = beside.each (n - 1) (omega arith) in
    omega (arith, v.rows)

-- rows of a list that are written where its next rows go
pub pool_run : (r s : SizedRows) (b : BlockChains) (p : PoolLists) (i at : ℕ) (rows : List Row) → IsPool r b → IsApart b
    → pool_in r b ≡ p → i < length p.lists → length rows ≤ (list_at p i).spare
    → IsStretch (chain_at b (i + 1)).blocks (chain_at b (i + 1)).len at (length rows)
    → s ≡ record r { rows = with_run r.rows at rows }
    → IsPool s (with_chain b (i + 1)
    (record { blocks = (chain_at b (i + 1)).blocks; len = (chain_at b (i + 1)).len + length rows }))
    × (pool_in s (with_chain b (i + 1)
    (record { blocks = (chain_at b (i + 1)).blocks; len = (chain_at b (i + 1)).len + length rows }))
    ≡ with_list p i (with_rows (list_at p i) rows))
unfolding with_run
pool_run r s b p i at [] v apart is here room beside new =
    let h = chain_at b (i + 1) in
    let none : (chain_at b (i + 1)).len + 0 ≡ (chain_at b (i + 1)).len = omega arith in
    let stay : with_chain b (i + 1) (record { blocks = (chain_at b (i + 1)).blocks; len = (chain_at b (i + 1)).len + 0 })
    ≡ b = ap (λ (n : ℕ). with_chain b (i + 1) (record { blocks = (chain_at b (i + 1)).blocks; len = n })) none
    ∙ ap (λ (cs : List Held). record b { chains = cs }) (set-get_or b.chains (i + 1) empty_chain) in
    let old : s ≡ r = new in (
      rw old (subst (IsPool r) (sym stay) v),
      rw old (ap (pool_in r) stay ∙ is ∙ sym (run_none p i)),
    )
pool_run r s b p i at (row ∷ rows) v apart is here room beside new =
    let h = chain_at b (i + 1) in
    let inside = chain_inside r b p i is here in
    let first : SizedRows = record r { rows = set r.rows at row } in
    let g : Held = record { blocks = (chain_at b (i + 1)).blocks; len = (chain_at b (i + 1)).len + 1 } in
    let c : BlockChains = with_chain b (i + 1) g in
    let q : PoolLists = with_list p i (with_rows (list_at p i) (row ∷ [])) in
    let zero_is : (chain_at b (i + 1)).len + 0 ≡ (chain_at b (i + 1)).len = omega arith in
    let place : place_of h.blocks h.len ≡ at + 0 = rw zero_is at (beside.each 0 (omega arith)) in
    let one = pool_pushed r first b p i at row v apart is here (omega arith) (sym (place ∙ omega arith)) refl in
    let chain : chain_at c (i + 1) ≡ g = get_or-set_same b.chains (i + 1) g empty_chain inside in
    let list : list_at q i ≡ with_rows (list_at p i) (row ∷ []) = list_at-same p i _ here in
    let behind : IsStretch g.blocks g.len (at + 1) (length rows) = record {
      each = λ k low.
          let e : (chain_at b (i + 1)).len + 1 + k ≡ (chain_at b (i + 1)).len + (k + 1) = omega arith in
          rw e (beside.each (k + 1) (omega arith) ∙ omega arith);
    } in
    let rest = pool_run first s c q i (at + 1) rows one.0 (apart-counted b (i + 1) _ apart) one.1
    (omega (arith, length-set p.lists i (with_rows (list_at p i) (row ∷ []))))
    (omega (arith, ap (λ (l : PoolList). l.spare) list)) (rw chain behind) new in
    let held : record { blocks = (chain_at c (i + 1)).blocks; len = (chain_at c (i + 1)).len + length rows }
    ≡ record { blocks = (chain_at b (i + 1)).blocks; len = (chain_at b (i + 1)).len + length (row ∷ rows) } =
    ap (λ (x : Held). record { blocks = x.blocks; len = x.len + length rows }) chain
    ∙ ap (λ (n : ℕ). record { blocks = (chain_at b (i + 1)).blocks; len = n }) (omega arith) in
    let all : with_chain c (i + 1)
    (record { blocks = (chain_at c (i + 1)).blocks; len = (chain_at c (i + 1)).len + length rows })
    ≡ with_chain b (i + 1)
    (record { blocks = (chain_at b (i + 1)).blocks; len = (chain_at b (i + 1)).len + length (row ∷ rows) }) =
    ap (with_chain c (i + 1)) held ∙ ap (λ (cs : List Held). record b { chains = cs }) (set-set b.chains (i + 1) g _) in (
      subst (IsPool s) all rest.0,
      ap (pool_in s) (sym all) ∙ rest.1 ∙ with_rows-more p i (row ∷ []) rows here,
    )

-- the first rows, and some behind them
pub take_apart : (n m : ℕ) (rows : List Row) → take n rows ++ take m (drop n rows) ≡ take (n + m) rows
take_apart n m rows =
    ap (λ (rs : List Row). rs ++ take m (drop n rows)) (sym (take-take n (n + m) rows (omega arith)))
    ∙ ap (λ (rs : List Row). take n (take (n + m) rows) ++ rs) (sym (drop-take n m rows))
    ∙ take-append-drop n (take (n + m) rows)
