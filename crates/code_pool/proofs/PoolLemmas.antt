-- Lemmas on a pool as its rows and blocks.
use Rattle.std.proofs.Common.{◌≡◌, ◌≢◌, ℕ, zero, suc, ◌+◌, ◌-◌, ◌*◌, ◌/◌, ◌%◌, ◌<◌, ◌≤◌, inl, inr, ℤ, get_or, set}
use Rattle.std.proofs.Common.{List, [], ◌∷◌, ◌++◌, length, take, drop, map, refl, sym, ap, ◌∙◌, subst, arith, sum_by}
use Rattle.std.specs.List.{All, range_with_len}
use Rattle.std.proofs.lemmas.List.{set-set, set-get_or, take_all, take-map, length-take, length-append}
use Rattle.std.proofs.lemmas.List.{get_or_append_left, get_or-map, get_or-drop, get_or-take, get_or_default}
use Rattle.std.proofs.lemmas.List.{get_or-set_same, get_or-set_other, get_or_past, length-map, length-set}
use Rattle.std.proofs.lemmas.List.{length-drop, same_lists}
use Rattle.std.proofs.lemmas.List.FromFn.{length-map-range_with_len, get_or-map-range_with_len, length-range_with_len}
use Rattle.std.proofs.lemmas.List.FromFn.{map-range_with_len_more}
use Rattle.std.proofs.lemmas.List.Sums.{sum_by-cons}
use Rattle.std.proofs.lemmas.Bool.{cases_eq, cases_lt}
use Rattle.bcodes.specs.Value.{Row}
use Rattle.code_pool.specs.Lists.{PoolList, SizedRows, PoolLists, list_at, with_list, with_copy, with_row, with_spare}
use Rattle.code_pool.specs.Lists.{without_spare, cut_to, taken, given, blocks_of, no_list, no_row, row_at, rows_in}
use Rattle.code_pool.specs.Lists.{RowWalk, label_of, IsPart, IsPoolRow, IsRun}
use Rattle.code_pool.specs.Chains.{Held, BlockChains, IsApart, IsStretch, chain_at, count_of, empty_chain, with_chain}
use Rattle.code_pool.specs.Chains.{with_moved, with_new, and_block, but_last, last_of, place_of}
use Rattle.code_pool.specs.Inside.{IsPool, rows_of, list_in, pool_in, walk_in}
use Rattle.code_pool.proofs.LinkLemmas.{map-same}

pub length-rows_of : (rows : List Row) (h : Held) → length (rows_of rows h) ≡ h.len
length-rows_of rows h = length-map-range_with_len _ 0 h.len

-- row k of a list
pub get-rows_of : (rows : List Row) (h : Held) (k : ℕ) (d : Row) → k < h.len
    → get_or (rows_of rows h) k d ≡ get_or rows (place_of h.blocks k) no_row
get-rows_of rows h k d low = get_or-map-range_with_len
    (λ (j : ℕ). get_or rows (place_of h.blocks j) no_row) 0 h.len k k d low (omega arith)

-- the rows of a list, where those that it has are the same
pub rows_of-same : (rows news : List Row) (h g : Held) → g.len ≡ h.len
    → ((k : ℕ) → k < h.len → get_or news (place_of g.blocks k) no_row ≡ get_or rows (place_of h.blocks k) no_row)
    → rows_of news g ≡ rows_of rows h
rows_of-same rows news h g len same =
    same_lists (rows_of news g) (rows_of rows h) (length-rows_of news g ∙ len ∙ sym (length-rows_of rows h)) (λ k d low.
    let here : k < h.len = omega (arith, length-rows_of news g) in
    get-rows_of news g k d (omega arith) ∙ same k here ∙ sym (get-rows_of rows h k d here))

-- the list of a number, as the pool's callers see it
pub list_in-pool : (r : SizedRows) (b : BlockChains) (i : ℕ) → i + 1 < length b.chains
    → list_at (pool_in r b) i ≡ list_in r.rows (chain_at b (i + 1))
list_in-pool r b i here =
    let e : 1 + i ≡ i + 1 = omega arith in
    get_or-map (list_in r.rows) (drop 1 b.chains) i empty_chain no_list (omega (arith, length-drop 1 b.chains))
    ∙ ap (list_in r.rows) (get_or-drop 1 b.chains i empty_chain ∙ ap (λ (k : ℕ). get_or b.chains k empty_chain) e)

pub length-pool : (r : SizedRows) (b : BlockChains) → length (pool_in r b).lists ≡ length b.chains - 1
length-pool r b = length-map (drop 1 b.chains) (list_in r.rows) ∙ length-drop 1 b.chains

-- a list is there as a chain
pub chain_inside : (r : SizedRows) (b : BlockChains) (p : PoolLists) (i : ℕ) → pool_in r b ≡ p → i < length p.lists
    → i + 1 < length b.chains
chain_inside r b p i is here = omega (arith, here, ap (λ (q : PoolLists). length q.lists) is, length-pool r b)

-- the list of a number, by the chain
pub list_is : (r : SizedRows) (b : BlockChains) (p : PoolLists) (i : ℕ) → pool_in r b ≡ p → i < length p.lists
    → list_at p i ≡ list_in r.rows (chain_at b (i + 1))
list_is r b p i is here = ap (λ (q : PoolLists). list_at q i) (sym is) ∙ list_in-pool r b i (chain_inside r b p i is here)

-- how many rows it has
pub list_len : (r : SizedRows) (b : BlockChains) (p : PoolLists) (i : ℕ) → pool_in r b ≡ p → i < length p.lists
    → length (list_at p i).rows ≡ (chain_at b (i + 1)).len
list_len r b p i is here = ap (λ (l : PoolList). length l.rows) (list_is r b p i is here)
    ∙ length-rows_of r.rows (chain_at b (i + 1))

pub list_spare : (r : SizedRows) (b : BlockChains) (p : PoolLists) (i : ℕ) → pool_in r b ≡ p → i < length p.lists
    → (list_at p i).spare ≡ 4 * length (chain_at b (i + 1)).blocks - (chain_at b (i + 1)).len
list_spare r b p i is here = ap (λ (l : PoolList). l.spare) (list_is r b p i is here)

-- one list of several changes
lists-changed : (f g : Held → PoolList) (cs : List Held) (i : ℕ) (h : Held)
    → ((k : ℕ) → k ≢ i → k + 1 < length cs → f (get_or cs (k + 1) empty_chain) ≡ g (get_or cs (k + 1) empty_chain))
    → map f (drop 1 (set cs (i + 1) h)) ≡ set (map g (drop 1 cs)) i (f h)
lists-changed f g [] i h same = refl
lists-changed f g (c ∷ cs) i h same =
    let next : i + 1 ≡ suc i = omega arith in
    let one : drop 1 (set (c ∷ cs) (i + 1) h) ≡ set cs i h = ap (λ (k : ℕ). drop 1 (set (c ∷ cs) k h)) next in
    ap (map f) one ∙
    same_lists (map f (set cs i h)) (set (map g cs) i (f h)) (length-map (set cs i h) f ∙ length-set cs i h
    ∙ sym (length-set (map g cs) i (f h) ∙ length-map cs g)) (λ k d low.
    let size : length (map f (set cs i h)) ≡ length cs = length-map (set cs i h) f ∙ length-set cs i h in
    let here : k < length cs = omega arith in
    elim (cases_eq k i) [
      | inl q ↦ rw q (get_or-map f (set cs i h) i empty_chain d (rw length-set (omega arith))
          ∙ ap f (get_or-set_same cs i h empty_chain (omega arith))
          ∙ sym (get_or-set_same (map g cs) i (f h) d (omega (arith, length-map cs g))))
      | inr q ↦
          let up : k + 1 ≡ suc k = omega arith in
          let s : f (get_or cs k empty_chain) ≡ g (get_or cs k empty_chain) = rw up at (same k q (omega arith)) in
          get_or-map f (set cs i h) k empty_chain d (rw length-set here)
          ∙ ap f (get_or-set_other cs i k h empty_chain q) ∙ s
          ∙ sym (get_or-set_other (map g cs) i k (f h) d q ∙ get_or-map g cs k empty_chain d here)
    ])

drop_one-set : (cs : List Held) (h : Held) → drop 1 (set cs 0 h) ≡ drop 1 cs
drop_one-set [] h = refl
drop_one-set (c ∷ cs) h = refl

-- a pool where the chain of one list and some rows have changed
pub pool_changed : (r s : SizedRows) (b : BlockChains) (p : PoolLists) (i : ℕ) (h : Held) → pool_in r b ≡ p
    → i < length p.lists → s.code_size ≡ r.code_size
    → ((k : ℕ) → k ≢ i → k + 1 < length b.chains
    → list_in s.rows (chain_at b (k + 1)) ≡ list_in r.rows (chain_at b (k + 1)))
    → pool_in s (with_chain b (i + 1) h) ≡ with_list p i (list_in s.rows h)
pool_changed r s b p i h is here size same =
    let inside = chain_inside r b p i is here in
    let lists : map (list_in s.rows) (drop 1 (set b.chains (i + 1) h))
    ≡ set (map (list_in r.rows) (drop 1 b.chains)) i (list_in s.rows h) = lists-changed (list_in s.rows)
    (list_in r.rows) b.chains i h same in
    let free : get_or (set b.chains (i + 1) h) 0 empty_chain ≡ get_or b.chains 0 empty_chain =
    get_or-set_other b.chains (i + 1) 0 h empty_chain (λ q. absurd (omega arith)) in
    let whole : pool_in s (with_chain b (i + 1) h) ≡ with_list (pool_in r b) i (list_in s.rows h) =
    ap (λ (n : ℕ). record {
      code_size = n;
      lists = map (list_in s.rows)
          (drop 1 (set b.chains (i + 1) h));
      free = length (get_or (set b.chains (i + 1) h) 0 empty_chain).blocks;
    })
    size
    ∙ ap (λ (ls : List PoolList). record {
      code_size = r.code_size;
      lists = ls;
      free = length
          (get_or (set b.chains (i + 1) h) 0 empty_chain).blocks;
    }) lists
    ∙ ap (λ (c : Held). record {
      code_size = r.code_size;
      lists = set (map (list_in r.rows) (drop 1 b.chains)) i
          (list_in s.rows h);
      free = length c.blocks;
    }) free in
    whole ∙ ap (λ (q : PoolLists). with_list q i (list_in s.rows h)) is

-- two places of rows are one only in one block
place_apart : (a b j k : ℕ) → 4 * a + j % 4 ≡ 4 * b + k % 4 → (a ≡ b) × (j % 4 ≡ k % 4)
place_apart a b j k e = (omega arith, omega arith)

-- where the rows of a list stand there are rows
pub place_inside : (r : SizedRows) (b : BlockChains) → IsPool r b → IsApart b → (c k : ℕ) → k < (chain_at b c).len
    → (k / 4 < length (chain_at b c).blocks) × (place_of (chain_at b c).blocks k < length r.rows)
place_inside r b v apart c k low =
    let lens : (chain_at b c).len ≤ 4 * length (chain_at b c).blocks = v.lens c in
    let at : k / 4 < length (chain_at b c).blocks = omega arith in
    let block : get_or (chain_at b c).blocks (k / 4) 0 < b.all = apart.within c (k / 4) at in
    (at, omega (arith, v.rows))

-- the rows of a list are a pool's
pub rows_legal : (r : SizedRows) (b : BlockChains) (p : PoolLists) (i : ℕ) → IsPool r b → IsApart b
    → All (IsPoolRow r.code_size) r.rows → pool_in r b ≡ p → All (IsPoolRow p.code_size) (list_at p i).rows
rows_legal r b p i v apart legal is =
    let chains : 0 < length b.chains = v.chains in
    let at : All (IsPoolRow r.code_size) (list_at (pool_in r b) i).rows =
    elim (cases_lt i (length (pool_in r b).lists)) [
      | inl q ↦
          let inside = chain_inside r b (pool_in r b) i refl q in
          let c = chain_at b (i + 1) in
          let l = list_in-pool r b i inside in
          rw l (λ k d low.
          let here : k < (chain_at b (i + 1)).len = omega (arith, length-rows_of r.rows (chain_at b (i + 1))) in
          rw (get-rows_of r.rows (chain_at b (i + 1)) k d here)
          (legal _ no_row (place_inside r b v apart (i + 1) k here).1))
      | inr q ↦
          let past : list_at (pool_in r b) i ≡ no_list = get_or_past (pool_in r b).lists i no_list q in
          rw past (λ k d low. absurd (omega arith))
    ] in
    subst (λ (q : PoolLists). All (IsPoolRow q.code_size) (list_at q i).rows) is at

-- fewer rows of a list
pub rows_of-cut : (rows : List Row) (h : Held) (len : ℕ) → len ≤ h.len
    → rows_of rows (record { blocks = h.blocks; len = len }) ≡ take len (rows_of rows h)
rows_of-cut rows h len low =
    same_lists (rows_of rows (record { blocks = h.blocks; len = len })) (take len (rows_of rows h))
    (length-rows_of rows (record { blocks = h.blocks; len = len })
    ∙ omega (arith, length-take len (rows_of rows h), length-rows_of rows h)) (λ k d here.
    let in_it : k < len = omega (arith, length-rows_of rows (record { blocks = h.blocks; len = len })) in
    get-rows_of rows (record { blocks = h.blocks; len = len }) k d in_it
    ∙ sym (get_or-take len (rows_of rows h) k d in_it ∙ get-rows_of rows h k d (omega arith)))

pub list_cut : (r : SizedRows) (b : BlockChains) (p : PoolLists) (i len : ℕ) → IsPool r b → pool_in r b ≡ p
    → i < length p.lists → len ≤ length (list_at p i).rows
    → pool_in r (with_chain b (i + 1) (record { blocks = (chain_at b (i + 1)).blocks; len = len }))
    ≡ with_list p i (cut_to (list_at p i) len)
list_cut r b p i len v is here low =
    let h = chain_at b (i + 1) in
    let count = list_len r b p i is here in
    let lens : h.len ≤ 4 * length h.blocks = v.lens (i + 1) in
    let spare : 4 * length h.blocks - len ≡ (4 * length h.blocks - h.len) + (length (rows_of r.rows h) - len) = omega
    (arith, length-rows_of r.rows h) in
    let same : list_in r.rows (record { blocks = h.blocks; len = len }) ≡ cut_to (list_in r.rows h) len =
    ap (λ (rs : List Row). record { rows = rs; spare = 4 * length h.blocks - len })
    (rows_of-cut r.rows h len (omega arith))
    ∙ ap (λ (s : ℕ). record { rows = take len (rows_of r.rows h); spare = s }) spare in
    pool_changed r r b p i (record { blocks = h.blocks; len = len }) is here refl (λ k q g. refl)
    ∙ ap (with_list p i) (same ∙ ap (λ (l : PoolList). cut_to l len) (sym (list_is r b p i is here)))

-- a pool after a change of one chain is one
pub pool_kept : (r s : SizedRows) (b : BlockChains) (c : ℕ) (h : Held) → IsPool r b → s.code_size ≡ r.code_size
    → length r.rows ≤ length s.rows → length s.rows ≤ 17179869176 → h.len ≤ 4 * length h.blocks → (c ≡ 0 → h.len ≡ 0)
    → IsPool s (with_chain b c h)
pool_kept r s b c h v size more most lens none = record {
  most = most;
  size = rw size v.size;
  chains = rw length-set v.chains;
  rows = omega (arith, v.rows);
  lens = λ d. elim (cases_eq d c) [
    | inl q ↦ rw q (elim (cases_lt c (length b.chains)) [
      | inl g ↦ rw (get_or-set_same b.chains c h empty_chain g) lens
      | inr g ↦ let past : get_or (set b.chains c h) c empty_chain ≡ empty_chain = get_or_past
          (set b.chains c h) c empty_chain (rw length-set g) in rw past (omega arith)
    ])
    | inr q ↦ rw (get_or-set_other b.chains c d h empty_chain q) (v.lens d)
  ];
  free_len = elim (cases_eq 0 c) [
    | inl q ↦ rw (← q) (ap (λ (x : Held). x.len) (get_or-set_same b.chains 0 h empty_chain v.chains) ∙ none (sym q))
    | inr q ↦ rw (get_or-set_other b.chains c 0 h empty_chain q) v.free_len
  ];
}

-- the rows of a list by blocks that begin alike
pub rows_of-blocks : (rows : List Row) (h g : Held) → g.len ≡ h.len
    → ((j : ℕ) → 4 * j < h.len → get_or g.blocks j 0 ≡ get_or h.blocks j 0) → rows_of rows g ≡ rows_of rows h
rows_of-blocks rows h g len same = rows_of-same rows rows h g len (λ k low.
    ap (λ (x : ℕ). get_or rows (4 * x + k % 4) no_row) (same (k / 4) (omega arith)))

pub list_in-more : (rows : List Row) (h : Held) (more : List ℕ) → h.len ≤ 4 * length h.blocks
    → list_in rows (record { blocks = h.blocks ++ more; len = h.len })
    ≡ record (list_in rows h) { spare = (list_in rows h).spare + 4 * length more }
list_in-more rows h more lens =
    let same = rows_of-blocks rows h (record { blocks = h.blocks ++ more; len = h.len }) refl
    (λ j low. get_or_append_left h.blocks more 0 j (omega arith)) in
    let spare : 4 * length (h.blocks ++ more) - h.len ≡ 4 * length h.blocks - h.len + 4 * length more = omega
    (arith, length-append h.blocks more) in
    ap (λ (rs : List Row). record { rows = rs; spare = 4 * length (h.blocks ++ more) - h.len }) same
    ∙ ap (λ (s : ℕ). record { rows = rows_of rows h; spare = s }) spare

pub list_in-less : (rows : List Row) (h : Held) → h.len + 4 ≤ 4 * length h.blocks
    → list_in rows (but_last h) ≡ record (list_in rows h) { spare = (list_in rows h).spare - 4 }
list_in-less rows h lens =
    let n = length h.blocks - 1 in
    let same = rows_of-blocks rows h (but_last h) refl
    (λ j low. get_or-take (length h.blocks - 1) h.blocks j 0 (omega arith)) in
    let spare : 4 * length (take (length h.blocks - 1) h.blocks) - h.len ≡ 4 * length h.blocks - h.len - 4 = omega
    (arith, length-take (length h.blocks - 1) h.blocks) in
    ap (λ (rs : List Row). record { rows = rs; spare = 4 * length (take (length h.blocks - 1) h.blocks) - h.len })
    same ∙ ap (λ (s : ℕ). record { rows = rows_of rows h; spare = s }) spare

-- another chain of free blocks
pub pool_freed : (r : SizedRows) (b : BlockChains) (h : Held) → 0 < length b.chains
    → pool_in r (with_chain b 0 h) ≡ record (pool_in r b) { free = length h.blocks }
pool_freed r b h some =
    ap (λ (cs : List Held). record {
      code_size = r.code_size;
      lists = map (list_in r.rows) cs;
      free = length
          (get_or (set b.chains 0 h) 0 empty_chain).blocks;
    }) (drop_one-set b.chains h)
    ∙ ap (λ (c : Held). record {
      code_size = r.code_size;
      lists = map (list_in r.rows)
          (drop 1 b.chains);
      free = length c.blocks;
    }) (get_or-set_same b.chains 0 h empty_chain some)

-- a free block goes to a list
pub pool_taken : (r : SizedRows) (b : BlockChains) (p : PoolLists) (i : ℕ) → IsPool r b → pool_in r b ≡ p
    → i < length p.lists → 0 < p.free
    → IsPool r (with_moved b 0 (i + 1)) × (pool_in r (with_moved b 0 (i + 1)) ≡ taken p i 1)
pool_taken r b p i v is here some =
    let inside = chain_inside r b p i is here in
    let z = last_of (chain_at b 0) in
    let less = with_chain b 0 (but_last (chain_at b 0)) in
    let h = chain_at b (i + 1) in
    let free : p.free ≡ length (chain_at b 0).blocks = ap (λ (q : PoolLists). q.free) (sym is) in
    let lens : h.len ≤ 4 * length h.blocks = v.lens (i + 1) in
    let free_lens : (but_last (chain_at b 0)).len ≤ 4 * length (but_last (chain_at b 0)).blocks = omega
    (arith, v.free_len) in
    let kept : IsPool r less = pool_kept r r b 0 (but_last (chain_at b 0)) v refl (omega arith) v.most free_lens
    (λ _. v.free_len) in
    let more : h.len ≤ 4 * length (h.blocks ++ z ∷ []) = omega (arith, length-append h.blocks (z ∷ [])) in
    let fewer : length (but_last (chain_at b 0)).blocks
    ≡ p.free - 1 = omega (arith, length-take (length (chain_at b 0).blocks - 1) (chain_at b 0).blocks) in
    let freed : pool_in r less ≡ record p { free = p.free - 1 } = pool_freed r b (but_last (chain_at b 0)) v.chains
    ∙ ap (λ (q : PoolLists). record q { free = length (but_last (chain_at b 0)).blocks }) is
    ∙ ap (λ (n : ℕ). record p { free = n }) fewer in
    let same : list_in r.rows (and_block h z) ≡ record (list_at p i) { spare = (list_at p i).spare + 4 } =
    list_in-more r.rows h (z ∷ []) lens
    ∙ ap (λ (l : PoolList). record l { spare = l.spare + 4 }) (sym (list_is r b p i is here)) in (
      pool_kept r r less (i + 1) (and_block h z) kept refl (omega arith) v.most more (λ q. absurd (omega arith)),
      pool_changed r r less (record p { free = p.free - 1 }) i (and_block h z) freed here refl (λ k q g. refl)
          ∙ ap (with_list (record p { free = p.free - 1 }) i) same,
    )

-- a block of a list becomes free
pub pool_given : (r : SizedRows) (b : BlockChains) (p : PoolLists) (i : ℕ) → IsPool r b → pool_in r b ≡ p
    → i < length p.lists → 4 ≤ (list_at p i).spare
    → IsPool r (with_moved b (i + 1) 0) × (pool_in r (with_moved b (i + 1) 0) ≡ given p i 1)
pool_given r b p i v is here some =
    let inside = chain_inside r b p i is here in
    let h = chain_at b (i + 1) in
    let z = last_of (chain_at b (i + 1)) in
    let less = with_chain b (i + 1) (but_last (chain_at b (i + 1))) in
    let room : h.len + 4 ≤ 4 * length h.blocks = omega (arith, list_spare r b p i is here) in
    let lens : (but_last h).len ≤ 4 * length (but_last h).blocks = omega
    (arith, length-take (length h.blocks - 1) h.blocks) in
    let kept : IsPool r less = pool_kept r r b (i + 1) (but_last h) v refl (omega arith) v.most lens
    (λ q. absurd (omega arith)) in
    let free : p.free ≡ length (chain_at b 0).blocks = ap (λ (q : PoolLists). q.free) (sym is) in
    let free_lens : (chain_at b 0).len ≤ 4 * length (chain_at b 0).blocks = v.lens 0 in
    let more : (chain_at b 0).len ≤ 4 * length ((chain_at b 0).blocks ++ z ∷ []) = omega
    (arith, length-append (chain_at b 0).blocks (z ∷ [])) in
    let further : length ((chain_at b 0).blocks ++ z ∷ [])
    ≡ p.free + 1 = omega (arith, length-append (chain_at b 0).blocks (z ∷ [])) in
    let same : list_in r.rows (but_last h) ≡ record (list_at p i) { spare = (list_at p i).spare - 4 } =
    list_in-less r.rows h room
    ∙ ap (λ (l : PoolList). record l { spare = l.spare - 4 }) (sym (list_is r b p i is here)) in
    let changed : pool_in r less ≡ without_spare p i 4 = pool_changed r r b p i (but_last h) is here refl
    (λ k q g. refl) ∙ ap (with_list p i) same in (
      pool_kept r r less 0 (and_block (chain_at b 0) z) kept refl (omega arith) v.most more (λ _. v.free_len),
      pool_freed r less (and_block (chain_at b 0) z) kept.chains
          ∙ ap (λ (q : PoolLists). record q { free = length ((chain_at b 0).blocks ++ z ∷ []) }) changed
          ∙ ap (λ (n : ℕ). record (without_spare p i 4) { free = n }) further,
    )

-- one more row of a list, in its spare room
pub pool_pushed : (r s : SizedRows) (b : BlockChains) (p : PoolLists) (i at : ℕ) (row : Row) → IsPool r b → IsApart b
    → pool_in r b ≡ p → i < length p.lists → 0 < (list_at p i).spare
    → at ≡ place_of (chain_at b (i + 1)).blocks (chain_at b (i + 1)).len → s ≡ record r { rows = set r.rows at row }
    → IsPool s (with_chain b (i + 1)
    (record { blocks = (chain_at b (i + 1)).blocks; len = (chain_at b (i + 1)).len + 1 }))
    × (pool_in s (with_chain b (i + 1)
    (record { blocks = (chain_at b (i + 1)).blocks; len = (chain_at b (i + 1)).len + 1 }))
    ≡ with_list p i (with_row (list_at p i) row))
pool_pushed r s b p i at row v apart is here some found new =
    let inside = chain_inside r b p i is here in
    let h = chain_at b (i + 1) in
    let g : Held = record { blocks = (chain_at b (i + 1)).blocks; len = (chain_at b (i + 1)).len + 1 } in
    let room : h.len < 4 * length h.blocks = omega (arith, list_spare r b p i is here) in
    let slot : h.len / 4 < length h.blocks = omega arith in
    let block : get_or h.blocks (h.len / 4) 0 < b.all = apart.within (i + 1) (h.len / 4) slot in
    let low : at < length r.rows = omega (arith, v.rows) in
    let size : s.code_size ≡ r.code_size = ap (λ (x : SizedRows). x.code_size) new in
    let rows : s.rows ≡ set r.rows at row = ap (λ (x : SizedRows). x.rows) new in
    let count : length r.rows ≤ length s.rows = omega (
      arith,
      ap (λ (xs : List Row). length xs) rows,
      length-set r.rows at row,
    ) in
    let kept : (x : ℕ) → x ≢ at
    → get_or s.rows x no_row ≡ get_or r.rows x no_row = λ x q. ap (λ (xs : List Row). get_or xs x no_row) rows
    ∙ get_or-set_other r.rows at x row no_row q in
    let others : (k : ℕ) → k ≢ i → k + 1 < length b.chains
    → list_in s.rows (chain_at b (k + 1)) ≡ list_in r.rows (chain_at b (k + 1)) = λ k q _.
    ap (λ (rs : List Row). record {
      rows = rs;
      spare = 4 * length (chain_at b (k + 1)).blocks -
          (chain_at b (k + 1)).len;
    })
    (rows_of-same r.rows s.rows (chain_at b (k + 1)) (chain_at b (k + 1)) refl (λ j in_it. kept _ (λ same.
    let e = place_apart (get_or (chain_at b (k + 1)).blocks (j / 4) 0) (get_or h.blocks (h.len / 4) 0) j h.len (same
    ∙ found) in
    let o = apart.one (k + 1) (i + 1) (j / 4) (h.len / 4) (place_inside r b v apart (k + 1) j in_it).0 slot e.0 in
    q (let f = o.0 in omega arith)))) in
    let before : rows_of s.rows h ≡ rows_of r.rows h = rows_of-same r.rows s.rows h h refl (λ j in_it. kept _ (λ same.
    let e = place_apart (get_or h.blocks (j / 4) 0) (get_or h.blocks (h.len / 4) 0) j h.len (same ∙ found) in
    let o = apart.one (i + 1) (i + 1) (j / 4) (h.len / 4) (place_inside r b v apart (i + 1) j in_it).0 slot e.0 in
    let f = e.1 in let d = o.1 in absurd (omega arith))) in
    let this : get_or s.rows (place_of h.blocks h.len) no_row ≡ row = ap (λ (x : ℕ). get_or s.rows x no_row)
    (sym found) ∙ ap (λ (xs : List Row). get_or xs at no_row) rows ∙ get_or-set_same r.rows at row no_row low in
    let all : rows_of s.rows g ≡ rows_of r.rows h ++ row ∷ [] =
    map-range_with_len_more (λ (k : ℕ). get_or s.rows (place_of h.blocks k) no_row) 0 h.len h.len (omega arith)
    ∙ ap (λ (rs : List Row). rs ++ get_or s.rows (place_of h.blocks h.len) no_row ∷ []) before
    ∙ ap (λ (x : Row). rows_of r.rows h ++ x ∷ []) this in
    let spare : 4 * length h.blocks - (h.len + 1) ≡ 4 * length h.blocks - h.len - 1 = omega arith in
    let own : list_in s.rows g ≡ with_row (list_at p i) row =
    ap (λ (rs : List Row). record { rows = rs; spare = 4 * length h.blocks - (h.len + 1) }) all
    ∙ ap (λ (n : ℕ). record { rows = rows_of r.rows h ++ row ∷ []; spare = n }) spare
    ∙ ap (λ (l : PoolList). with_row l row) (sym (list_is r b p i is here)) in (
      pool_kept r s b (i + 1) g v size count
          (omega (arith, v.most, ap (λ (xs : List Row). length xs) rows, length-set r.rows at row)) (omega arith)
          (λ q. absurd (omega arith)),
      pool_changed r s b p i g is here size others ∙ ap (with_list p i) own,
    )

-- where the next row of a list goes there are rows, in one of its blocks
pub next_inside : (r : SizedRows) (b : BlockChains) (p : PoolLists) (i : ℕ) → IsPool r b → IsApart b → pool_in r b ≡ p
    → i < length p.lists → 0 < (list_at p i).spare
    → ((chain_at b (i + 1)).len / 4 < length (chain_at b (i + 1)).blocks)
    × (place_of (chain_at b (i + 1)).blocks (chain_at b (i + 1)).len < length r.rows)
    × ((chain_at b (i + 1)).len < 4 * length (chain_at b (i + 1)).blocks)
next_inside r b p i v apart is here some =
    let h = chain_at b (i + 1) in
    let room : h.len < 4 * length h.blocks = omega (arith, list_spare r b p i is here) in
    let slot : h.len / 4 < length h.blocks = omega arith in
    let block : get_or h.blocks (h.len / 4) 0 < b.all = apart.within (i + 1) (h.len / 4) slot in
    (slot, omega (arith, v.rows), room)

-- neighbouring rows of a list that stand side by side
pub stretch_inside : (r : SizedRows) (b : BlockChains) (c from start n : ℕ) → IsPool r b → IsApart b → 1 ≤ n
    → from + n ≤ (chain_at b c).len → IsStretch (chain_at b c).blocks from start n → start + n ≤ length r.rows
stretch_inside r b c from start n v apart some within beside =
    let e = beside.each (n - 1) (omega arith) in
    let low = (place_inside r b v apart c (from + (n - 1)) (omega arith)).1 in
    omega arith

pub stretch_rows : (r : SizedRows) (b : BlockChains) (c from start n : ℕ) → IsPool r b → IsApart b → 1 ≤ n
    → from + n ≤ (chain_at b c).len → IsStretch (chain_at b c).blocks from start n
    → take n (drop start r.rows) ≡ take n (drop from (rows_of r.rows (chain_at b c)))
stretch_rows r b c from start n v apart some within beside =
    let h = chain_at b c in
    let inside = stretch_inside r b c from start n v apart some within beside in
    let left : length (take n (drop start r.rows)) ≡ n = omega (
      arith,
      length-take n (drop start r.rows),
      length-drop start r.rows,
    ) in
    let right : length (take n (drop from (rows_of r.rows (chain_at b c))))
    ≡ n = omega (
      arith,
      length-take n (drop from (rows_of r.rows (chain_at b c))),
      length-drop from (rows_of r.rows (chain_at b c)),
      length-rows_of r.rows (chain_at b c),
    ) in
    same_lists (take n (drop start r.rows)) (take n (drop from (rows_of r.rows (chain_at b c)))) (left ∙ sym right)
    (λ k d low.
    let here : k < n = omega arith in
    get_or-take n (drop start r.rows) k d here ∙ get_or-drop start r.rows k d
    ∙ get_or_default r.rows (start + k) d no_row (omega arith)
    ∙ ap (λ (x : ℕ). get_or r.rows x no_row) (sym (beside.each k here))
    ∙ sym (get_or-take n (drop from (rows_of r.rows (chain_at b c))) k d here
    ∙ get_or-drop from (rows_of r.rows (chain_at b c)) k d
    ∙ get-rows_of r.rows (chain_at b c) (from + k) d (omega arith)))

-- more rows leave the lists
more_row : (rows news : List Row) (x : ℕ) → take (length rows) news ≡ rows → x < length rows
    → get_or news x no_row ≡ get_or rows x no_row
more_row rows news x same low = sym (ap (λ (xs : List Row). get_or xs x no_row) (sym same)
    ∙ get_or-take (length rows) news x no_row low)

pub list_in-grown : (r s : SizedRows) (b : BlockChains) (c : ℕ) → IsPool r b → IsApart b
    → take (length r.rows) s.rows ≡ r.rows → list_in s.rows (chain_at b c) ≡ list_in r.rows (chain_at b c)
list_in-grown r s b c v apart same =
    ap (λ (rs : List Row). record { rows = rs; spare = 4 * length (chain_at b c).blocks - (chain_at b c).len })
    (rows_of-same r.rows s.rows (chain_at b c) (chain_at b c) refl
    (λ k low. more_row r.rows s.rows _ same (place_inside r b v apart c k low).1))

grown_length : (r s : SizedRows) → take (length r.rows) s.rows ≡ r.rows → length r.rows ≤ length s.rows
grown_length r s same = omega (arith, ap (λ (xs : List Row). length xs) same, length-take (length r.rows) s.rows)

pub pool_grown : (r s : SizedRows) (b : BlockChains) (p : PoolLists) → IsPool r b → IsApart b → pool_in r b ≡ p
    → s.code_size ≡ r.code_size → take (length r.rows) s.rows ≡ r.rows → length s.rows ≤ 17179869176
    → IsPool s b × (pool_in s b ≡ p)
pool_grown r s b p v apart is size same most =
    let lists : map (list_in s.rows) (drop 1 b.chains) ≡ map (list_in r.rows) (drop 1 b.chains) = map-same
    (list_in s.rows) (list_in r.rows) (drop 1 b.chains) empty_chain (λ i low.
    let e : get_or (drop 1 b.chains) i empty_chain ≡ chain_at b (1 + i) = get_or-drop 1 b.chains i empty_chain in
    ap (list_in s.rows) e ∙ list_in-grown r s b (1 + i) v apart same ∙ ap (list_in r.rows) (sym e)) in
    let more = grown_length r s same in (
      record {
        size = rw size v.size;
        chains = v.chains;
        rows = omega
            (arith, v.rows);
        most = most;
        lens = v.lens;
        free_len = v.free_len;
      },
      ap (λ (n : ℕ). record {
        code_size = n;
        lists = map (list_in s.rows) (drop 1 b.chains);
        free = length
            (chain_at b 0).blocks;
      }) size
          ∙ ap (λ (ls : List PoolList). record {
            code_size = r.code_size;
            lists = ls;
            free = length
                (chain_at b 0).blocks;
          }) lists ∙ is,
    )

-- new blocks go to a list
pub pool_added : (r s : SizedRows) (b : BlockChains) (p : PoolLists) (i n : ℕ) → IsPool r b → IsApart b
    → pool_in r b ≡ p → i < length p.lists → s.code_size ≡ r.code_size → take (length r.rows) s.rows ≡ r.rows
    → 4 * (b.all + n) ≤ length s.rows → length s.rows ≤ 17179869176
    → IsPool s (with_new b (i + 1) n) × (pool_in s (with_new b (i + 1) n) ≡ with_spare p i (4 * n))
pool_added r s b p i n v apart is here size same room most =
    let h = chain_at b (i + 1) in
    let g : Held = record {
      blocks = (chain_at b (i + 1)).blocks ++ range_with_len b.all n;
      len =
          (chain_at b (i + 1)).len;
    } in
    let lens : h.len ≤ 4 * length h.blocks = v.lens (i + 1) in
    let kept : IsPool s (with_chain b (i + 1) g) = pool_kept r s b (i + 1) g v size (grown_length r s same) most
    (omega (arith, length-append h.blocks (range_with_len b.all n))) (λ q. absurd (omega arith)) in
    let own : list_in s.rows g ≡ record (list_at p i) { spare = (list_at p i).spare + 4 * n } =
    list_in-more s.rows h (range_with_len b.all n) lens
    ∙ ap (λ (l : PoolList). record l { spare = l.spare + 4 * length (range_with_len b.all n) })
    (list_in-grown r s b (i + 1) v apart same ∙ sym (list_is r b p i is here))
    ∙ ap (λ (k : ℕ). record (list_at p i) { spare = (list_at p i).spare + 4 * k }) (length-range_with_len b.all n) in (
      record {
        size = kept.size;
        chains = kept.chains;
        rows = room;
        most = most;
        lens = kept.lens;
        free_len =
            kept.free_len;
      },
      pool_changed r s b p i g is here size (λ k q _. list_in-grown r s b (k + 1) v apart same) ∙ ap (with_list p i) own,
    )

-- where the next row of a list goes, as it is computed
pub placed : (h : Held) (len block : ℕ) → len ≡ h.len → block ≡ get_or h.blocks (len / 4) 0
    → block * 4 + len % 4 ≡ place_of h.blocks h.len
placed h len block e f =
    let g : block ≡ get_or h.blocks (h.len / 4) 0 = f ∙ ap (λ (k : ℕ). get_or h.blocks (k / 4) 0) e in
    let m : len % 4 ≡ h.len % 4 = ap (λ (k : ℕ). k % 4) e in
    omega arith

-- one row of some
one_row : (rows : List Row) (i : ℕ) → i < length rows → take 1 (drop i rows) ≡ get_or rows i no_row ∷ []
one_row [] i h = absurd (omega arith)
one_row (r ∷ rows) zero h = refl
one_row (r ∷ rows) (suc i) h = one_row rows i (omega arith)

-- the label and the code that one row is made of
made_of_one : (size : ℕ) (labels : List ℤ) (codes : List ℕ) (row : Row) → length labels ≡ 1 → length codes ≡ size
    → rows_in size labels codes ≡ row ∷ [] → (labels ≡ row.label ∷ []) × (codes ≡ row.code)
unfolding rows_in
made_of_one size [] codes row count bytes is = absurd (omega arith)
made_of_one size (l ∷ []) codes row count bytes is =
    let all : take size codes ≡ codes = take_all size codes (omega arith) in
    let first : record { label = l; code = take size codes } ≡ row = ap (λ (rs : List Row). get_or rs 0 row) is in
    (ap (λ (x : Row). x.label ∷ []) first, sym all ∙ ap (λ (x : Row). x.code) first)
made_of_one size (l ∷ m ∷ ls) codes row count bytes is = absurd (omega arith)

-- a part of what is mapped
map-part : {X Y : Type 0} (f : X → Y) (from n : ℕ) (xs : List X)
    → take n (drop from (map f xs)) ≡ map f (take n (drop from xs))
map-part f zero n xs = take-map f n xs
map-part f (suc from) zero [] = refl
map-part f (suc from) (suc n) [] = refl
map-part f (suc from) n (x ∷ xs) = map-part f from n xs

-- rows of a chain that stand side by side are a run of its rows
pub chain_run : (r : SizedRows) (b : BlockChains) (c from start n : ℕ) (labels : List ℤ) (codes : List ℕ)
    → IsPool r b → IsApart b → 1 ≤ n → n ≤ 65536 → from + n ≤ (chain_at b c).len
    → IsStretch (chain_at b c).blocks from start n
    → length labels ≡ n → length codes ≡ n * r.code_size → rows_in r.code_size labels codes ≡ take n (drop start r.rows)
    → IsRun (rows_of r.rows (chain_at b c)) from r.code_size labels codes
chain_run r b c from start n labels codes v apart some most within beside count bytes rows =
    let s = stretch_rows r b c from start n v apart some within beside in
    record {
      some = omega arith;
      most = omega arith;
      within = omega (arith, length-rows_of r.rows (chain_at b c));
      size = bytes ∙ ap (λ (k : ℕ). k * r.code_size) (sym count);
      rows = rw count (rows ∙ s);
    }

-- rows that stand side by side are a run of their list
pub list_run : (r : SizedRows) (b : BlockChains) (p : PoolLists) (i from start n : ℕ) (labels : List ℤ)
    (codes : List ℕ) → IsPool r b → IsApart b → pool_in r b ≡ p → i < length p.lists
    → 1 ≤ n → n ≤ 65536 → from + n ≤ (chain_at b (i + 1)).len → IsStretch (chain_at b (i + 1)).blocks from start n
    → length labels ≡ n → length codes ≡ n * r.code_size → rows_in r.code_size labels codes ≡ take n (drop start r.rows)
    → IsRun (list_at p i).rows from p.code_size labels codes
list_run r b p i from start n labels codes v apart is here some most within beside count bytes rows =
    let size : p.code_size ≡ r.code_size = ap (λ (q : PoolLists). q.code_size) (sym is) in
    let list : (list_at p i).rows ≡ rows_of r.rows (chain_at b (i + 1)) = ap (λ (l : PoolList). l.rows)
    (list_is r b p i is here) in
    rw (size, list)
    (chain_run r b (i + 1) from start n labels codes v apart some most within beside count bytes rows)

-- a row of a list, among all rows
pub list_row : (r : SizedRows) (b : BlockChains) (p : PoolLists) (i x : ℕ) → pool_in r b ≡ p → i < length p.lists
    → x < (chain_at b (i + 1)).len
    → row_at (list_at p i) x ≡ get_or r.rows (place_of (chain_at b (i + 1)).blocks x) no_row
list_row r b p i x is here low = ap (λ (l : PoolList). row_at l x) (list_is r b p i is here)
    ∙ get-rows_of r.rows (chain_at b (i + 1)) x no_row low

-- one row alone
pub list_one : (r : SizedRows) (b : BlockChains) (p : PoolLists) (i at place : ℕ) (labels : List ℤ) (codes : List ℕ)
    → IsPool r b → IsApart b → pool_in r b ≡ p → i < length p.lists
    → at < (chain_at b (i + 1)).len → place ≡ place_of (chain_at b (i + 1)).blocks at
    → length labels ≡ 1 → length codes ≡ 1 * r.code_size → rows_in r.code_size labels codes ≡ take 1 (drop place r.rows)
    → (labels ≡ (row_at (list_at p i) at).label ∷ []) × (codes ≡ (row_at (list_at p i) at).code)
list_one r b p i at place labels codes v apart is here low found count bytes rows =
    let inside = place_inside r b v apart (i + 1) at low in
    let row : row_at (list_at p i) at ≡ get_or r.rows place no_row = list_row r b p i at is here low
    ∙ ap (λ (x : ℕ). get_or r.rows x no_row) (sym found) in
    let one : take 1 (drop place r.rows) ≡ get_or r.rows place no_row ∷ [] = one_row r.rows place (omega arith) in
    let m = made_of_one r.code_size labels codes (get_or r.rows place no_row) count (bytes ∙ omega arith) (rows ∙ one) in
    rw row m

-- labels of a chain that stand side by side are a part of its labels
pub chain_labels : (r : SizedRows) (b : BlockChains) (c from start n : ℕ) (labels : List ℤ)
    → IsPool r b → IsApart b → 1 ≤ n → from + n ≤ (chain_at b c).len → IsStretch (chain_at b c).blocks from start n
    → labels ≡ take n (drop start (map label_of r.rows))
    → (length labels ≡ n) × IsPart (map label_of (rows_of r.rows (chain_at b c))) from labels
chain_labels r b c from start n labels v apart some within beside are =
    let s = stretch_rows r b c from start n v apart some within beside in
    let inside = stretch_inside r b c from start n v apart some within beside in
    let count : length labels ≡ n = ap (λ (ls : List ℤ). length ls) are
    ∙ omega (
      arith,
      length-take n (drop start (map label_of r.rows)),
      length-drop start (map label_of r.rows),
      length-map r.rows label_of,
    ) in
    let all : labels ≡ take n (drop from (map label_of (rows_of r.rows (chain_at b c)))) =
    are ∙ map-part label_of start n r.rows ∙ ap (map label_of) s
    ∙ sym (map-part label_of from n (rows_of r.rows (chain_at b c))) in (
      count,
      record {
        some = omega arith;
        within = omega (
          arith,
          length-map (rows_of r.rows (chain_at b c)) label_of,
          length-rows_of r.rows (chain_at b c),
        );
        labels = rw count all;
      },
    )

-- labels that stand side by side are a part of their list's
pub list_labels : (r : SizedRows) (b : BlockChains) (p : PoolLists) (i from start n : ℕ) (labels : List ℤ)
    → IsPool r b → IsApart b → pool_in r b ≡ p → i < length p.lists
    → 1 ≤ n → from + n ≤ (chain_at b (i + 1)).len → IsStretch (chain_at b (i + 1)).blocks from start n
    → labels ≡ take n (drop start (map label_of r.rows))
    → IsPart (map label_of (list_at p i).rows) from labels
list_labels r b p i from start n labels v apart is here some within beside are =
    let list : (list_at p i).rows ≡ rows_of r.rows (chain_at b (i + 1)) = ap (λ (l : PoolList). l.rows)
    (list_is r b p i is here) in
    rw list (chain_labels r b (i + 1) from start n labels v apart some within beside are).1

-- a walk is within its list
pub walk_low : (r : SizedRows) (b : BlockChains) (w : RowWalk) (list at : ℕ) → walk_in r b list at ≡ w
    → w.at < length w.rows → at < (chain_at b (list + 1)).len
walk_low r b w list at is low = omega (
  arith,
  ap (λ (v : RowWalk). v.at) is,
  ap (λ (v : RowWalk). length v.rows) is,
  length-rows_of r.rows (chain_at b (list + 1)),
)

-- how many blocks a list has
pub list_blocks_of : (r : SizedRows) (b : BlockChains) (p : PoolLists) (i : ℕ) → IsPool r b → pool_in r b ≡ p
    → i < length p.lists → 4 * length (chain_at b (i + 1)).blocks ≡ length (list_at p i).rows + (list_at p i).spare
list_blocks_of r b p i v is here =
    let lens : (chain_at b (i + 1)).len ≤ 4 * length (chain_at b (i + 1)).blocks = v.lens (i + 1) in
    omega (arith, list_len r b p i is here, list_spare r b p i is here)

-- one list in place of another
pub list_at-same : (p : PoolLists) (i : ℕ) (l : PoolList) → i < length p.lists → list_at (with_list p i l) i ≡ l
list_at-same p i l here = get_or-set_same p.lists i l no_list here

-- blocks taken or given back one by one
pub taken_none : (p : PoolLists) (i : ℕ) → taken p i 0 ≡ p
taken_none p i =
    let s : (list_at p i).spare + 4 * 0 ≡ (list_at p i).spare = omega arith in
    let f : p.free - 0 ≡ p.free = omega arith in
    ap (λ (x : ℕ). record p { lists = set p.lists i (record (list_at p i) { spare = x }); free = p.free - 0 }) s
    ∙ ap (λ (x : ℕ). record p { lists = set p.lists i (list_at p i); free = x }) f
    ∙ ap (λ (ls : List PoolList). record p { lists = ls }) (set-get_or p.lists i no_list)

pub given_none : (p : PoolLists) (i : ℕ) → given p i 0 ≡ p
given_none p i =
    let s : (list_at p i).spare - 4 * 0 ≡ (list_at p i).spare = omega arith in
    let f : p.free + 0 ≡ p.free = omega arith in
    ap (λ (x : ℕ). record p { lists = set p.lists i (record (list_at p i) { spare = x }); free = p.free + 0 }) s
    ∙ ap (λ (x : ℕ). record p { lists = set p.lists i (list_at p i); free = x }) f
    ∙ ap (λ (ls : List PoolList). record p { lists = ls }) (set-get_or p.lists i no_list)

pub taken_more : (p : PoolLists) (i n : ℕ) → i < length p.lists → taken (taken p i n) i 1 ≡ taken p i (n + 1)
taken_more p i n here =
    let l : PoolList = record (list_at p i) { spare = (list_at p i).spare + 4 * n } in
    let at : list_at (taken p i n) i ≡ record (list_at p i) { spare = (list_at p i).spare + 4 * n } =
    get_or-set_same p.lists i _ no_list here in
    let s : (list_at p i).spare + 4 * n + 4 * 1 ≡ (list_at p i).spare + 4 * (n + 1) = omega arith in
    let f : p.free - n - 1 ≡ p.free - (n + 1) = omega arith in
    ap (λ (x : PoolList). record p {
      lists = set (set p.lists i l) i
          (record x { spare = x.spare + 4 * 1 });
      free = p.free - n - 1;
    }) at
    ∙ ap (λ (ls : List PoolList). record p { lists = ls; free = p.free - n - 1 }) (set-set p.lists i l _)
    ∙ ap (λ (x : ℕ). record p { lists = set p.lists i (record (list_at p i) { spare = x }); free = p.free - n - 1 }) s
    ∙ ap (λ (x : ℕ). record p {
      lists = set p.lists i
          (record (list_at p i) { spare = (list_at p i).spare + 4 * (n + 1) });
      free = x;
    }) f

pub given_more : (p : PoolLists) (i n : ℕ) → i < length p.lists → given (given p i n) i 1 ≡ given p i (n + 1)
given_more p i n here =
    let l : PoolList = record (list_at p i) { spare = (list_at p i).spare - 4 * n } in
    let at : list_at (given p i n) i ≡ record (list_at p i) { spare = (list_at p i).spare - 4 * n } =
    get_or-set_same p.lists i _ no_list here in
    let s : (list_at p i).spare - 4 * n - 4 * 1 ≡ (list_at p i).spare - 4 * (n + 1) = omega arith in
    let f : p.free + n + 1 ≡ p.free + (n + 1) = omega arith in
    ap (λ (x : PoolList). record p {
      lists = set (set p.lists i l) i
          (record x { spare = x.spare - 4 * 1 });
      free = p.free + n + 1;
    }) at
    ∙ ap (λ (ls : List PoolList). record p { lists = ls; free = p.free + n + 1 }) (set-set p.lists i l _)
    ∙ ap (λ (x : ℕ). record p { lists = set p.lists i (record (list_at p i) { spare = x }); free = p.free + n + 1 }) s
    ∙ ap (λ (x : ℕ). record p {
      lists = set p.lists i
          (record (list_at p i) { spare = (list_at p i).spare - 4 * (n + 1) });
      free = x;
    }) f

-- the blocks that lists have
lists-used : (rows : List Row) (cs : List Held)
    → ((i : ℕ) → (get_or cs i empty_chain).len ≤ 4 * length (get_or cs i empty_chain).blocks)
    → sum_by blocks_of (map (list_in rows) cs) ≡ sum_by count_of cs
lists-used rows [] lens = refl
lists-used rows (h ∷ cs) lens =
    let low : h.len ≤ 4 * length h.blocks = lens 0 in
    let one : blocks_of (list_in rows h) ≡ count_of h = omega (arith, length-rows_of rows h) in
    sum_by-cons blocks_of (list_in rows h) (map (list_in rows) cs)
    ∙ omega (arith, lists-used rows cs (λ i. lens (suc i))) ∙ sym (sum_by-cons count_of h cs)

chains-used : (cs : List Held) → 0 < length cs
    → sum_by count_of cs ≡ length (get_or cs 0 empty_chain).blocks + sum_by count_of (drop 1 cs)
chains-used [] h = absurd (omega arith)
chains-used (c ∷ cs) h = sum_by-cons count_of c cs

pub pool_used : (r : SizedRows) (b : BlockChains) (p : PoolLists) → IsPool r b → pool_in r b ≡ p
    → sum_by count_of b.chains ≡ p.free + sum_by blocks_of p.lists
pool_used r b p v is =
    let lists = lists-used r.rows (drop 1 b.chains) (λ i. rw (get_or-drop 1 b.chains i empty_chain) (v.lens (1 + i))) in
    chains-used b.chains v.chains ∙ ap (λ (k : ℕ). length (chain_at b 0).blocks + k) (sym lists)
    ∙ ap (λ (q : PoolLists). q.free + sum_by blocks_of q.lists) is

-- a list that is emptied, and whose blocks are given back
pub list_emptied : (p q s : PoolLists) (i n : ℕ) → i < length p.lists → q ≡ with_list p i (cut_to (list_at p i) 0)
    → 4 * n ≡ length (list_at q i).rows + (list_at q i).spare → s ≡ given q i n → s.lists ≡ set p.lists i no_list
list_emptied p q s i n here cut all is =
    let l : PoolList = cut_to (list_at p i) 0 in
    let at : list_at q i ≡ cut_to (list_at p i) 0 = ap (λ (x : PoolLists). list_at x i) cut ∙ list_at-same p i _ here in
    let none : (list_at q i).rows ≡ [] = ap (λ (x : PoolList). x.rows) at in
    let spare : (list_at q i).spare - 4 * n ≡ 0 = omega (arith, ap (λ (rs : List Row). length rs) none) in
    let new : record (list_at q i) { spare = (list_at q i).spare - 4 * n }
    ≡ no_list = ap (λ (k : ℕ). record (list_at q i) { spare = k }) spare
    ∙ ap (λ (rs : List Row). record { rows = rs; spare = 0 }) none in
    ap (λ (x : PoolLists). x.lists) is ∙ ap (set q.lists i) new ∙ ap (λ (x : PoolLists). set x.lists i no_list) cut
    ∙ set-set p.lists i _ no_list

-- the lists with the first i of them emptied
abbrev pub emptied_up_to : ℕ → List PoolList → List PoolList
emptied_up_to i lists = map (λ _. no_list) (take i lists) ++ drop i lists

pub length-emptied_up_to : (i : ℕ) (lists : List PoolList) → length (emptied_up_to i lists) ≡ length lists
length-emptied_up_to zero lists = refl
length-emptied_up_to (suc i) [] = refl
length-emptied_up_to (suc i) (l ∷ lists) = ap suc (length-emptied_up_to i lists)

pub set-emptied_up_to : (i : ℕ) (lists : List PoolList) → i < length lists
    → set (emptied_up_to i lists) i no_list ≡ emptied_up_to (i + 1) lists
set-emptied_up_to i [] h = absurd (omega arith)
set-emptied_up_to zero (l ∷ lists) h = refl
set-emptied_up_to (suc i) (l ∷ lists) h =
    let e : suc i + 1 ≡ suc (i + 1) = omega arith in
    rw e (ap (λ (ls : List PoolList). no_list ∷ ls) (set-emptied_up_to i lists (omega arith)))

pub emptied_up_to-length : (lists : List PoolList) → emptied_up_to (length lists) lists ≡ map (λ _. no_list) lists
emptied_up_to-length [] = refl
emptied_up_to-length (l ∷ lists) = ap (λ (ls : List PoolList). no_list ∷ ls) (emptied_up_to-length lists)

-- the list at i is not emptied yet
pub get-emptied_up_to : (i : ℕ) (lists : List PoolList)
    → get_or (emptied_up_to i lists) i no_list ≡ get_or lists i no_list
get-emptied_up_to zero lists = refl
get-emptied_up_to (suc i) [] = refl
get-emptied_up_to (suc i) (l ∷ lists) = get-emptied_up_to i lists

-- another row at a place of a list
pub pool_written : (r s : SizedRows) (b : BlockChains) (p : PoolLists) (i x at : ℕ) (row : Row) → IsPool r b
    → IsApart b → pool_in r b ≡ p → i < length p.lists → x < (chain_at b (i + 1)).len
    → at ≡ place_of (chain_at b (i + 1)).blocks x → s ≡ record r { rows = set r.rows at row }
    → IsPool s b × (pool_in s b
    ≡ with_list p i (record { rows = set (list_at p i).rows x row; spare = (list_at p i).spare }))
pool_written r s b p i x at row v apart is here low found new =
    let inside = chain_inside r b p i is here in
    let h = chain_at b (i + 1) in
    let slot = place_inside r b v apart (i + 1) x low in
    let size : s.code_size ≡ r.code_size = ap (λ (y : SizedRows). y.code_size) new in
    let rows : s.rows ≡ set r.rows at row = ap (λ (y : SizedRows). y.rows) new in
    let count : length s.rows ≡ length r.rows = ap (λ (xs : List Row). length xs) rows ∙ length-set r.rows at row in
    let kept : (y : ℕ) → y ≢ at
    → get_or s.rows y no_row ≡ get_or r.rows y no_row = λ y q. ap (λ (xs : List Row). get_or xs y no_row) rows
    ∙ get_or-set_other r.rows at y row no_row q in
    let others : (k : ℕ) → k ≢ i → k + 1 < length b.chains
    → list_in s.rows (chain_at b (k + 1)) ≡ list_in r.rows (chain_at b (k + 1)) = λ k q _.
    ap (λ (rs : List Row). record {
      rows = rs;
      spare = 4 * length (chain_at b (k + 1)).blocks -
          (chain_at b (k + 1)).len;
    })
    (rows_of-same r.rows s.rows (chain_at b (k + 1)) (chain_at b (k + 1)) refl (λ j in_it. kept _ (λ same.
    let e = place_apart (get_or (chain_at b (k + 1)).blocks (j / 4) 0) (get_or h.blocks (x / 4) 0) j x (same ∙ found) in
    let o = apart.one (k + 1) (i + 1) (j / 4) (x / 4) (place_inside r b v apart (k + 1) j in_it).0 slot.0 e.0 in
    q (let f = o.0 in omega arith)))) in
    let this : get_or s.rows (place_of h.blocks x) no_row ≡ row = ap (λ (y : ℕ). get_or s.rows y no_row) (sym found)
    ∙ ap (λ (xs : List Row). get_or xs at no_row) rows
    ∙ get_or-set_same r.rows at row no_row (omega (arith, slot.1)) in
    let all : rows_of s.rows h ≡ set (rows_of r.rows h) x row =
    same_lists (rows_of s.rows (chain_at b (i + 1))) (set (rows_of r.rows (chain_at b (i + 1))) x row)
    (length-rows_of s.rows h ∙ sym (length-set (rows_of r.rows h) x row ∙ length-rows_of r.rows h))
    (λ k d in_list.
    let in_it : k < h.len = omega (arith, length-rows_of s.rows h) in
    get-rows_of s.rows h k d in_it ∙ elim (cases_eq k x) [
      | inl q ↦ rw q (this ∙ sym
          (get_or-set_same (rows_of r.rows (chain_at b (i + 1))) x row d (omega (arith, length-rows_of r.rows h))))
      | inr q ↦ kept _ (λ same.
          let e = place_apart (get_or h.blocks (k / 4) 0) (get_or h.blocks (x / 4) 0) k x (same ∙ found) in
          let o = apart.one (i + 1) (i + 1) (k / 4) (x / 4) (place_inside r b v apart (i + 1) k in_it).0 slot.0 e.0 in
          let f = e.1 in let d = o.1 in absurd (q (omega arith)))
          ∙ sym (get_or-set_other (rows_of r.rows (chain_at b (i + 1))) x k row d q ∙ get-rows_of r.rows h k d in_it)
    ]) in
    let own : list_in s.rows h ≡ record { rows = set (list_at p i).rows x row; spare = (list_at p i).spare } =
    ap (λ (rs : List Row). record { rows = rs; spare = 4 * length h.blocks - h.len }) all
    ∙ ap (λ (l : PoolList). record { rows = set l.rows x row; spare = l.spare }) (sym (list_is r b p i is here)) in
    let stay : with_chain b (i + 1) h ≡ b = ap (λ (cs : List Held). record b { chains = cs })
    (set-get_or b.chains (i + 1) empty_chain) in (
      record {
        size = rw size v.size;
        chains = v.chains;
        rows = omega (arith, v.rows);
        most = omega
            (arith, v.most);
        lens = v.lens;
        free_len = v.free_len;
      },
      ap (pool_in s) (sym stay) ∙ pool_changed r s b p i h is here size others ∙ ap (with_list p i) own,
    )

-- a row of a list stands among all rows
pub place_low : (r : SizedRows) (b : BlockChains) (c at place : ℕ) → IsPool r b → IsApart b → at < (chain_at b c).len
    → place ≡ place_of (chain_at b c).blocks at → place < length r.rows
place_low r b c at place v apart low found = omega (arith, found, (place_inside r b v apart c at low).1)

-- a row of a list copied to another place there
pub pool_copied : (r s : SizedRows) (b : BlockChains) (p : PoolLists) (i from to source target : ℕ) → IsPool r b
    → IsApart b → pool_in r b ≡ p → i < length p.lists
    → from < (chain_at b (i + 1)).len → source ≡ place_of (chain_at b (i + 1)).blocks from
    → to < (chain_at b (i + 1)).len → target ≡ place_of (chain_at b (i + 1)).blocks to
    → s ≡ record r { rows = set r.rows target (get_or r.rows source no_row) }
    → IsPool s b × (pool_in s b ≡ with_list p i (with_copy (list_at p i) from to))
pool_copied r s b p i from to source target v apart is here from_low f to_low t new =
    let row : get_or r.rows source no_row ≡ row_at (list_at p i) from = ap (λ (x : ℕ). get_or r.rows x no_row) f
    ∙ sym (list_row r b p i from is here from_low) in
    let w = pool_written r s b p i to target (get_or r.rows source no_row) v apart is here to_low t new in (
      w.0,
      w.1 ∙ ap (λ (x : Row). with_list p i
          (record { rows = set (list_at p i).rows to x; spare = (list_at p i).spare })) row,
    )

-- a row copied to its own place
pub copied_none : (p : PoolLists) (i at : ℕ) → p ≡ with_list p i (with_copy (list_at p i) at at)
copied_none p i at =
    sym (ap (λ (rs : List Row). with_list p i (record { rows = rs; spare = (list_at p i).spare }))
    (set-get_or (list_at p i).rows at no_row)
    ∙ ap (λ (ls : List PoolList). record p { lists = ls }) (set-get_or p.lists i no_list))
