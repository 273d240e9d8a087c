-- Lemmas on the rows that stay.
use Rattle.std.proofs.Common.{◌≡◌, ℕ, zero, suc, ◌+◌, ◌-◌, ◌*◌, ◌/◌, ◌<◌, ◌≤◌, Bool, true, false, get_or, set, List}
use Rattle.std.proofs.Common.{[], ◌∷◌, ◌++◌, length, take, drop, refl, sym, ap, ◌∙◌, arith}
use Rattle.std.proofs.lemmas.List.{take_all, take_more_set, get_or-drop, set-set, length-take, length-set}
use Rattle.std.proofs.lemmas.List.{get_or-set_same, drop-set-lt, drop-drop}
use Rattle.bcodes.specs.Value.{Row}
use Rattle.code_pool.specs.Lists.{PoolList, PoolLists, list_at, with_list, with_copy, with_kept, kept, cut_to, given}
use Rattle.code_pool.specs.Lists.{blocks_of, no_list, no_row}
use Rattle.code_pool.proofs.PoolLemmas.{list_at-same}

-- the rows that stay of the first rows, and one more
pub kept-true : (rows : List Row) (flags : List Bool) (i : ℕ) (d : Bool) → i < length rows → i < length flags
    → get_or flags i d ≡ true
    → kept (take (i + 1) rows) (take (i + 1) flags) ≡ kept (take i rows) (take i flags) ++ get_or rows i no_row ∷ []
kept-true [] flags i d h g e = absurd (omega arith)
kept-true (r ∷ rows) [] i d h g e = absurd (omega arith)
kept-true (r ∷ rows) (f ∷ flags) zero d h g e = rw e refl
kept-true (r ∷ rows) (true ∷ flags) (suc i) d h g e =
    let n : suc i + 1 ≡ suc (i + 1) = omega arith in
    rw n (ap (λ (rs : List Row). r ∷ rs) (kept-true rows flags i d (omega arith) (omega arith) e))
kept-true (r ∷ rows) (false ∷ flags) (suc i) d h g e =
    let n : suc i + 1 ≡ suc (i + 1) = omega arith in
    rw n (kept-true rows flags i d (omega arith) (omega arith) e)

pub kept-false : (rows : List Row) (flags : List Bool) (i : ℕ) (d : Bool) → i < length rows → i < length flags
    → get_or flags i d ≡ false
    → kept (take (i + 1) rows) (take (i + 1) flags) ≡ kept (take i rows) (take i flags)
kept-false [] flags i d h g e = absurd (omega arith)
kept-false (r ∷ rows) [] i d h g e = absurd (omega arith)
kept-false (r ∷ rows) (f ∷ flags) zero d h g e = rw e refl
kept-false (r ∷ rows) (true ∷ flags) (suc i) d h g e =
    let n : suc i + 1 ≡ suc (i + 1) = omega arith in
    rw n (ap (λ (rs : List Row). r ∷ rs) (kept-false rows flags i d (omega arith) (omega arith) e))
kept-false (r ∷ rows) (false ∷ flags) (suc i) d h g e =
    let n : suc i + 1 ≡ suc (i + 1) = omega arith in
    rw n (kept-false rows flags i d (omega arith) (omega arith) e)

-- the first `at` rows are looked at, and those of them that stay are the first `n`
pub record IsKeeping (old new : List Row) (flags : List Bool) (at n : ℕ) : Type 0 where
  pub low : n ≤ at
  pub size : length new ≡ length old
  pub front : take n new ≡ kept (take at old) (take at flags)
  pub rest : drop at new ≡ drop at old

pub keeping-none : (rows : List Row) (flags : List Bool) → IsKeeping rows rows flags 0 0
keeping-none [] flags = record { low = omega arith; size = refl; front = refl; rest = refl }
keeping-none (r ∷ rows) flags = record { low = omega arith; size = refl; front = refl; rest = refl }

rest_more : (old new : List Row) (at : ℕ) → drop at new ≡ drop at old → drop (at + 1) new ≡ drop (at + 1) old
rest_more old new at e = sym (drop-drop 1 at new) ∙ ap (drop 1) e ∙ drop-drop 1 at old

pub keeping-skip : (old new : List Row) (flags : List Bool) (at n : ℕ) (d : Bool) → IsKeeping old new flags at n
    → at < length old → at < length flags → get_or flags at d ≡ false → IsKeeping old new flags (at + 1) n
keeping-skip old new flags at n d k h g e = record {
  low = omega (arith, k.low);
  size = k.size;
  front = k.front ∙ sym (kept-false old flags at d h g e);
  rest = rest_more old new at k.rest;
}

pub keeping-take : (old new : List Row) (flags : List Bool) (at n : ℕ) (d : Bool) → IsKeeping old new flags at n
    → at < length old → at < length flags → get_or flags at d ≡ true
    → IsKeeping old (set new n (get_or new at no_row)) flags (at + 1) (n + 1)
keeping-take old new flags at n d k h g e =
    let z : at + 0 ≡ at = omega arith in
    let row : get_or new at no_row ≡ get_or old at no_row =
    ap (λ (x : ℕ). get_or new x no_row) (sym z) ∙ sym (get_or-drop at new 0 no_row)
    ∙ ap (λ (rs : List Row). get_or rs 0 no_row) k.rest ∙ get_or-drop at old 0 no_row
    ∙ ap (λ (x : ℕ). get_or old x no_row) z in
    record {
      low = omega (arith, k.low);
      size = length-set new n (get_or new at no_row) ∙ k.size;
      front = take_more_set new n (get_or new at no_row) (omega (arith, k.low, k.size))
          ∙ ap (λ (rs : List Row). rs ++ get_or new at no_row ∷ []) k.front
          ∙ ap (λ (r : Row). kept (take at old) (take at flags) ++ r ∷ []) row ∙ sym (kept-true old flags at d h g e);
      rest = drop-set-lt (at + 1) new n (get_or new at no_row) (omega (arith, k.low)) ∙ rest_more old new at k.rest;
    }

pub keeping-all : (old new : List Row) (flags : List Bool) (at n : ℕ) → IsKeeping old new flags at n
    → length flags ≡ length old → at ≡ length flags
    → (n ≤ length new) × (take n new ≡ kept old flags) × (n ≡ length (kept old flags))
keeping-all old new flags at n k same end =
    let all : take n new ≡ kept old flags = k.front
    ∙ ap (λ (rs : List Row). kept rs (take at flags)) (take_all at old (omega arith))
    ∙ ap (kept old) (take_all at flags (omega arith)) in
    let low : n ≤ length new = omega (arith, k.low, k.size) in
    (low, all, omega (arith, ap (λ (rs : List Row). length rs) all, length-take n new))

-- a list of which some rows stay, and the blocks that they do not need are given back
pub list_kept : (p q s t : PoolLists) (i n blocks : ℕ) (flags : List Bool) → i < length p.lists
    → q ≡ with_list p i (record { rows = (list_at q i).rows; spare = (list_at p i).spare })
    → (n ≤ length (list_at q i).rows) × (take n (list_at q i).rows ≡ kept (list_at p i).rows flags)
    × (n ≡ length (kept (list_at p i).rows flags))
    → length (list_at q i).rows ≡ length (list_at p i).rows
    → s ≡ with_list q i (cut_to (list_at q i) n) → 4 * blocks ≡ length (list_at s i).rows + (list_at s i).spare
    → t ≡ given s i (blocks - (n + 3) / 4)
    → (t.lists ≡ (with_list p i (with_kept (list_at p i) flags)).lists)
    × (t.free + blocks_of (list_at t i) ≡ p.free + blocks_of (list_at p i)) × (t.code_size ≡ p.code_size)
list_kept p q s t i n blocks flags here copied rows size cut all is =
    let old = list_at p i in
    let mid = list_at q i in
    let needed = (n + 3) / 4 in
    let lists_q : q.lists ≡ set p.lists i (record { rows = (list_at q i).rows; spare = (list_at p i).spare }) = ap
    (λ (x : PoolLists). x.lists) copied in
    let at_q : list_at q i ≡ record { rows = (list_at q i).rows; spare = (list_at p i).spare } = ap
    (λ (x : PoolLists). list_at x i) copied ∙ list_at-same p i _ here in
    let here_q : i < length q.lists = omega (
      arith,
      ap (λ (ls : List PoolList). length ls) lists_q,
      length-set p.lists i (record { rows = (list_at q i).rows; spare = (list_at p i).spare }),
    ) in
    let spare_q : (list_at q i).spare ≡ (list_at p i).spare = ap (λ (x : PoolList). x.spare) at_q in
    let lists_s : s.lists ≡ set q.lists i (cut_to (list_at q i) n) = ap (λ (x : PoolLists). x.lists) cut in
    let at_s : list_at s i ≡ cut_to (list_at q i) n = ap (λ (x : PoolLists). list_at x i) cut
    ∙ list_at-same q i _ here_q in
    let here_s : i < length s.lists = omega (
      arith,
      ap (λ (ls : List PoolList). length ls) lists_s,
      length-set q.lists i (cut_to (list_at q i) n),
    ) in
    let rows_s : (list_at s i).rows ≡ kept (list_at p i).rows flags = ap (λ (x : PoolList). x.rows) at_s ∙ rows.1 in
    let spare_s : (list_at s i).spare ≡ (list_at q i).spare + (length (list_at q i).rows - n) = ap
    (λ (x : PoolList). x.spare) at_s in
    let low : n ≤ length (list_at q i).rows = rows.0 in
    let size_s : length (list_at s i).rows ≡ n = ap (λ (rs : List Row). length rs) rows_s ∙ sym rows.2 in
    let final : (list_at s i).spare - 4 * (blocks - (n + 3) / 4) ≡ 4 * ((n + 3) / 4) - n = omega arith in
    let counted : 4 * ((n + 3) / 4) - n ≡ 4 * ((length (kept (list_at p i).rows flags) + 3) / 4) - length
    (kept (list_at p i).rows flags) = ap (λ (k : ℕ). 4 * ((k + 3) / 4) - k) rows.2 in
    let new : record (list_at s i) { spare = (list_at s i).spare - 4 * (blocks - (n + 3) / 4) }
    ≡ with_kept (list_at p i) flags =
    ap (λ (k : ℕ). record (list_at s i) { spare = k }) (final ∙ counted)
    ∙ ap (λ (rs : List Row). record {
      rows = rs;
      spare = 4 *
          ((length (kept (list_at p i).rows flags) + 3) / 4) - length (kept (list_at p i).rows flags);
    }) rows_s in
    let at_t : list_at t i ≡ record (list_at s i) { spare = (list_at s i).spare - 4 * (blocks - (n + 3) / 4) } = ap
    (λ (x : PoolLists). list_at x i) is ∙ get_or-set_same s.lists i _ no_list here_s in
    let free_t : t.free ≡ p.free + (blocks - (n + 3) / 4) = ap (λ (x : PoolLists). x.free) is
    ∙ ap (λ (x : PoolLists). x.free + (blocks - (n + 3) / 4)) (cut
    ∙ ap (λ (x : PoolLists). with_list x i (cut_to (list_at q i) n)) copied) in
    let rows_t : length (list_at t i).rows ≡ n = ap (λ (x : PoolList). length x.rows) at_t ∙ size_s in
    let spare_t : (list_at t i).spare ≡ 4 * ((n + 3) / 4) - n = ap (λ (x : PoolList). x.spare) at_t ∙ final in (
      ap (λ (x : PoolLists). x.lists) is
          ∙ ap (λ (ls : List PoolList). set ls i
          (record (list_at s i) { spare = (list_at s i).spare - 4 * (blocks - (n + 3) / 4) })) (lists_s
          ∙ ap (λ (ls : List PoolList). set ls i (cut_to (list_at q i) n)) lists_q)
          ∙ ap (λ (ls : List PoolList). set ls i
          (record (list_at s i) { spare = (list_at s i).spare - 4 * (blocks - (n + 3) / 4) }))
          (set-set p.lists i _ _) ∙ set-set p.lists i _ _ ∙ ap (set p.lists i) new,
      omega arith,
      ap (λ (x : PoolLists). x.code_size) is ∙ ap (λ (x : PoolLists). x.code_size) cut
          ∙ ap (λ (x : PoolLists). x.code_size) copied,
    )

-- one row more is looked at, and stays
pub keep_one : (p q r : PoolLists) (i at n m : ℕ) (flags : List Bool) (d : Bool) → i < length p.lists
    → q ≡ with_list p i (record { rows = (list_at q i).rows; spare = (list_at p i).spare })
    → IsKeeping (list_at p i).rows (list_at q i).rows flags at n
    → at < length (list_at p i).rows → at < length flags → get_or flags at d ≡ true
    → r ≡ with_list q i (with_copy (list_at q i) at n) → m ≡ n + 1
    → (r ≡ with_list p i (record { rows = (list_at r i).rows; spare = (list_at p i).spare }))
    × IsKeeping (list_at p i).rows (list_at r i).rows flags (at + 1) m
keep_one p q r i at n m flags d here copied k low g e new more =
    let lists_q : q.lists ≡ set p.lists i (record { rows = (list_at q i).rows; spare = (list_at p i).spare }) = ap
    (λ (x : PoolLists). x.lists) copied in
    let here_q : i < length q.lists = omega (
      arith,
      ap (λ (ls : List PoolList). length ls) lists_q,
      length-set p.lists i (record { rows = (list_at q i).rows; spare = (list_at p i).spare }),
    ) in
    let at_q : list_at q i ≡ record { rows = (list_at q i).rows; spare = (list_at p i).spare } = ap
    (λ (x : PoolLists). list_at x i) copied ∙ list_at-same p i _ here in
    let spare_q : (list_at q i).spare ≡ (list_at p i).spare = ap (λ (x : PoolList). x.spare) at_q in
    let at_r : list_at r i ≡ with_copy (list_at q i) at n = ap (λ (x : PoolLists). list_at x i) new
    ∙ list_at-same q i _ here_q in
    let rows_r : (list_at r i).rows ≡ set (list_at q i).rows n (get_or (list_at q i).rows at no_row) = ap
    (λ (x : PoolList). x.rows) at_r in
    let last : with_copy (list_at q i) at n ≡ record { rows = (list_at r i).rows; spare = (list_at p i).spare } =
    ap (λ (x : ℕ). record { rows = set (list_at q i).rows n (get_or (list_at q i).rows at no_row); spare = x })
    spare_q ∙ ap (λ (rs : List Row). record { rows = rs; spare = (list_at p i).spare }) (sym rows_r) in
    let step : IsKeeping (list_at p i).rows (set (list_at q i).rows n (get_or (list_at q i).rows at no_row)) flags
    (at + 1) (n + 1) = keeping-take (list_at p i).rows (list_at q i).rows flags at n d k low g e in (
      new ∙ ap (λ (x : PoolLists). with_list x i (with_copy (list_at q i) at n)) copied
          ∙ ap (λ (ls : List PoolList). record p { lists = ls }) (set-set p.lists i _ _) ∙ ap (with_list p i) last,
      rw (more, rows_r) step,
    )
