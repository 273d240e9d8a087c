-- Chains of blocks, as the pool sees them.
use Rattle.std.specs.Prelude.{◌≡◌, ◌≢◌, ◌⊎◌, ℕ, ◌+◌, ◌-◌, ◌*◌, ◌/◌, ◌%◌, ◌<◌, ◌≤◌, ◌==◌, if◌then◌else◌, List, [], ◌∷◌}
use Rattle.std.specs.Prelude.{◌++◌, length, take, slice_index, slice_index_or, slice_set}
use Rattle.std.specs.List.{range_with_len}
use Rattle.code_pool.specs.Lists.{run_rows}

-- the blocks of a chain, and how many rows it has in them
pub record Held : Type 0 where
  pub blocks : List ℕ
  pub len : ℕ

-- how many blocks there are, and the chains: number 0 is that of the free blocks, and the lists follow
pub record BlockChains : Type 0 where
  pub all : ℕ
  pub chains : List Held

-- a chain of no blocks
abbrev pub empty_chain : Held
empty_chain = record { blocks = []; len = 0 }

-- the chain of a number
abbrev pub chain_at : BlockChains → ℕ → Held
chain_at b c = slice_index_or b.chains c empty_chain

-- the chains with another in place of one
abbrev pub with_chain : BlockChains → ℕ → Held → BlockChains
with_chain b c chain = record b { chains = slice_set b.chains c chain }

-- the chain of a list
abbrev pub list_of : BlockChains → ℕ → Held
list_of b list = chain_at b (list + 1)

-- the chains with another number of rows of a list
abbrev pub with_len : BlockChains → ℕ → ℕ → BlockChains
with_len b list len = with_chain b (list + 1) (record { blocks = (list_of b list).blocks; len = len })

-- how many blocks a chain has
abbrev pub count_of : Held → ℕ
count_of h = length h.blocks

-- a chain with one more block
abbrev pub and_block : Held → ℕ → Held
and_block h block = record h { blocks = h.blocks ++ block ∷ [] }

-- a chain without its last block
abbrev pub but_last : Held → Held
but_last h = record h { blocks = take (length h.blocks - 1) h.blocks }

-- the last block of a chain
abbrev pub last_of : Held → ℕ
last_of h = slice_index h.blocks (length h.blocks - 1)

-- with the last block of one chain moved to the end of another
abbrev pub with_moved : BlockChains → ℕ → ℕ → BlockChains
with_moved b from to =
    let less = with_chain b from (but_last (chain_at b from)) in
    with_chain less to (and_block (chain_at b to) (last_of (chain_at b from)))

-- with n new blocks at the end of a chain
abbrev pub with_new : BlockChains → ℕ → ℕ → BlockChains
with_new b to n =
    record {
      all = b.all + n;
      chains = slice_set b.chains to
          (record (chain_at b to) { blocks = (chain_at b to).blocks ++ range_with_len b.all n });
    }

-- no block is in two chains, or twice in one
pub record IsApart (b : BlockChains) : Type 0 where
  pub within : (c i : ℕ) → i < length (chain_at b c).blocks → slice_index (chain_at b c).blocks i < b.all
  pub one : (c d i j : ℕ) → i < length (chain_at b c).blocks → j < length (chain_at b d).blocks
      → slice_index (chain_at b c).blocks i ≡ slice_index (chain_at b d).blocks j → (c ≡ d) × (i ≡ j)

-- n blocks from a place on that stand side by side
pub record IsTied (blocks : List ℕ) (at n : ℕ) : Type 0 where
  pub each : (k : ℕ) → k < n → slice_index blocks (at + k) ≡ slice_index blocks at + k

-- numbers that are those of n blocks from a place on
pub record IsAhead (blocks : List ℕ) (first n : ℕ) (numbers : List ℕ) : Type 0 where
  pub fits : n ≤ 64
  pub within : first + n ≤ length blocks
  pub each : (k : ℕ) → k < n → slice_index numbers k ≡ slice_index blocks (first + k)

-- where row k of a list stands, by the list's blocks
abbrev pub place_of : List ℕ → ℕ → ℕ
place_of blocks k = 4 * slice_index blocks (k / 4) + k % 4

-- per list, the block where its next row goes, where it has one
pub record IsNext (b : BlockChains) (next : List ℕ) : Type 0 where
  pub lists : length next + 1 ≡ length b.chains
  pub block : (i : ℕ) → (chain_at b (i + 1)).len / 4 < length (chain_at b (i + 1)).blocks
      → slice_index next i ≡ slice_index (chain_at b (i + 1)).blocks ((chain_at b (i + 1)).len / 4)

-- the first n blocks of a list are those from a number on, in their order, and the block behind them is not
-- the next one
pub record IsFront (blocks : List ℕ) (first n : ℕ) : Type 0 where
  pub some : 0 < length blocks → 0 < n
  pub within : n ≤ length blocks
  pub each : (k : ℕ) → k < n → slice_index blocks k ≡ first + k
  pub ends : n < length blocks → slice_index blocks n ≢ first + n

-- n rows of a list from `from` on that stand side by side from a place on
pub record IsStretch (blocks : List ℕ) (from start n : ℕ) : Type 0 where
  pub each : (k : ℕ) → k < n → place_of blocks (from + k) ≡ start + k

-- the list goes on in the block of the next number behind a block, which stands at a place there
pub record GoesOn (blocks : List ℕ) (at block : ℕ) : Type 0 where
  pub within : at + 1 < length blocks
  pub next : slice_index blocks (at + 1) ≡ block + 1

-- n rows of a list from `from` on are as many as a run can have, or go to the end of the list, or the row
-- behind them stands elsewhere
abbrev pub IsLongest : Held → ℕ → ℕ → ℕ → Type 0
IsLongest h from start n = (n ≡ run_rows) ⊎ ((from + n ≡ h.len) ⊎ (place_of h.blocks (from + n) ≢ start + n))

-- what the tables say of the last block of a chain
pub record IsEnd (jump place : List ℕ) (end : ℕ) : Type 0 where
  pub within : end < length jump
  pub near : slice_index jump end < length jump
  pub far : slice_index jump (slice_index jump end) < length jump
  pub near_place : slice_index place (slice_index jump end) ≤ slice_index place end
  pub far_place : slice_index place (slice_index jump (slice_index jump end)) ≤ slice_index place (slice_index jump end)

-- the block before the next one of a chain of n blocks
abbrev pub before_of : ℕ → ℕ → ℕ → ℕ
before_of n last block = if n == 0 then block else last

-- the block to jump to from the next one of a chain of n blocks
abbrev pub jump_of : List ℕ → List ℕ → ℕ → ℕ → ℕ → ℕ
jump_of jump place n last block =
    let near = slice_index jump last in
    let far = slice_index jump near in
    if n == 0 then block else
    (if (slice_index place last - slice_index place near) ==
    (slice_index place near - slice_index place far) then far else last)
