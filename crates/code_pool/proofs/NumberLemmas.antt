-- Lemmas on rows that take their positions as labels.
use Rattle.std.proofs.Common.{◌≡◌, ℕ, zero, suc, ◌+◌, ◌^◌, ◌<◌, ◌≤◌, ℤ, pos, List, [], ◌∷◌, ◌++◌, length, map, take, drop, get_or, set}
use Rattle.std.proofs.Common.{sum_by, refl, sym, ap, ◌∙◌, arith}
use Rattle.std.proofs.lemmas.List.{append-nil, drop_all, length-set, set-set, take_all}
use Rattle.std.proofs.lemmas.List.Sums.{get_or-le-sum_by}
use Rattle.bcodes.specs.Value.{Row, numbered}
use Rattle.code_pool.specs.Chains.{BlockChains, IsApart, chain_at, count_of, empty_chain, place_of}
use Rattle.code_pool.specs.Inside.{IsPool, pool_in}
use Rattle.code_pool.specs.Lists.{PoolList, PoolLists, SizedRows, list_at, no_row, row_at, row_in, row_of, rows_in, with_list}
use Rattle.code_pool.specs.Positions.{numbered_to}
use Rattle.code_pool.proofs.PoolLemmas.{list_at-same, list_row, pool_written}

-- another label of the row at a place
pub rows_in-relabel : (size at : ℕ) (ls : List ℤ) (bs : List ℕ) (l : ℤ) → at < length ls
    → rows_in size (set ls at l) bs ≡ set (rows_in size ls bs) at (row_of l (get_or (rows_in size ls bs) at no_row).code)
unfolding rows_in
rows_in-relabel size at [] bs l h = absurd (omega arith)
rows_in-relabel size zero (m ∷ ls) bs l h = refl
rows_in-relabel size (suc at) (m ∷ ls) bs l h =
    ap (λ (rs : List Row). record { label = m; code = take size bs } ∷ rs)
    (rows_in-relabel size at ls (drop size bs) l (omega arith))

-- the same from position i on
abbrev numbered_from : ℕ → ℕ → List Row → List Row
numbered_from i n rows = numbered i (map (λ (row : Row). row.code) (take n rows)) ++ drop n rows

from_more : (i at : ℕ) (rows : List Row) → at < length rows
    → set (numbered_from i at rows) at (row_of (pos (i + at)) (get_or (numbered_from i at rows) at no_row).code)
    ≡ numbered_from i (at + 1) rows
from_more i at [] h = absurd (omega arith)
from_more i zero (r ∷ rows) h = let e : i + 0 ≡ i = omega arith in rw e refl
from_more i (suc at) (r ∷ rows) h =
    let e : suc at + 1 ≡ suc (at + 1) = omega arith in
    let f : i + suc at ≡ i + 1 + at = omega arith in
    rw (e, f) (ap (λ (rs : List Row). record { label = pos i; code = r.code } ∷ rs) (from_more (i + 1) at rows (omega arith)))

pub numbered_more : (at : ℕ) (rows : List Row) → at < length rows
    → set (numbered_to at rows) at (row_of (pos at) (get_or (numbered_to at rows) at no_row).code)
    ≡ numbered_to (at + 1) rows
numbered_more at rows h = let z : 0 + at ≡ at = omega arith in rw z at (from_more 0 at rows h)

pub numbered_none : (rows : List Row) → numbered_to 0 rows ≡ rows
numbered_none [] = refl
numbered_none (r ∷ rows) = refl

pub numbered_all : (n : ℕ) (rows : List Row) → n ≡ length rows
    → numbered_to n rows ≡ numbered 0 (map (λ (row : Row). row.code) rows)
numbered_all n rows e =
    let code : Row → List ℕ = λ row. row.code in
    ap (λ (rs : List Row). numbered 0 (map code rs) ++ drop n rows) (take_all n rows (omega arith))
    ∙ ap (λ (rs : List Row). numbered 0 (map code rows) ++ rs) (drop_all n rows (omega arith))
    ∙ append-nil (numbered 0 (map code rows))

-- a position is far below 2 ^ 63
pub position_fits : (r : SizedRows) (b : BlockChains) (c at all : ℕ) → IsPool r b → c < length b.chains
    → sum_by count_of b.chains ≡ b.all → all ≡ b.all → all ≤ 4294967294 → at < (chain_at b c).len → at < 2 ^ 63
position_fits r b c at all v inside total is few low = omega (
  arith,
  get_or-le-sum_by count_of b.chains c empty_chain inside,
  v.lens c,
)

abbrev pub list_to : ℕ → PoolList → PoolList
list_to n l = record { rows = numbered_to n l.rows; spare = l.spare }

-- one row more has its position as its label
pub number_one : (p : PoolLists) (r s : SizedRows) (b : BlockChains) (i at place : ℕ) → IsPool r b → IsApart b
    → i < length p.lists → at < length (list_at p i).rows → at < (chain_at b (i + 1)).len
    → pool_in r b ≡ with_list p i (list_to at (list_at p i))
    → place ≡ place_of (chain_at b (i + 1)).blocks at
    → s ≡ record r { rows = set r.rows place (row_of (pos at) (row_in r place).code) }
    → IsPool s b × (pool_in s b ≡ with_list p i (list_to (at + 1) (list_at p i)))
number_one p r s b i at place v apart here low inside is found new =
    let q : PoolLists = with_list p i (list_to at (list_at p i)) in
    let there : list_at q i ≡ list_to at (list_at p i) = list_at-same p i (list_to at (list_at p i)) here in
    let here_q : i < length q.lists = omega (arith, length-set p.lists i (list_to at (list_at p i))) in
    let row : row_in r place ≡ row_at (list_to at (list_at p i)) at =
    ap (λ (x : ℕ). get_or r.rows x no_row) found ∙ sym (list_row r b q i at is here_q inside)
    ∙ ap (λ (l : PoolList). row_at l at) there in
    let w = pool_written r s b q i at place (row_of (pos at) (row_in r place).code) v apart is here_q inside found new in (
      w.0,
      w.1 ∙ ap (λ (l : PoolList). with_list q i (record {
        rows = set l.rows at (row_of (pos at) (row_in r place).code);
        spare = l.spare;
      })) there
          ∙ ap (λ (x : Row). with_list q i (record {
            rows = set (numbered_to at (list_at p i).rows) at (row_of (pos at) x.code);
            spare = (list_at p i).spare;
          })) row
          ∙ ap (λ (rs : List Row). with_list q i (record { rows = rs; spare = (list_at p i).spare }))
          (numbered_more at (list_at p i).rows low)
          ∙ ap (λ (ls : List PoolList). record p { lists = ls }) (set-set p.lists i _ _),
    )
