-- What blocks and their chains keep inside.
use Rattle.std.specs.Prelude.{◌≡◌, ℕ, zero, suc, ◌+◌, ◌-◌, ◌^◌, ◌<◌, ◌≤◌, List, [], ◌∷◌, ◌++◌, length, map}
use Rattle.std.specs.Prelude.{slice_index, slice_index_or}
use Rattle.code_pool.specs.Chains.{Held, BlockChains, IsFront, IsNext, chain_at}
use Rattle.code_pool.specs.declared.chain.Chain.{Chain}
use Rattle.code_pool.specs.declared.front.Front.{Front}

-- n blocks, of which each but the last is the one before the next
abbrev pub blocks_to : List ℕ → ℕ → ℕ → List ℕ
blocks_to before last zero = []
blocks_to before last (suc n) = blocks_to before (slice_index before last) n ++ last ∷ []

-- a chain as its blocks
abbrev pub held_by : List ℕ → Chain → Held
held_by before e = record { blocks = blocks_to before e.last e.blocks; len = e.len }

-- a chain with one more block
abbrev pub with_last : Chain → ℕ → Chain
with_last e block = record { last = block; blocks = e.blocks + 1; len = e.len }

-- a chain without its last block
abbrev pub without_last : List ℕ → Chain → Chain
without_last before e = record { last = slice_index before e.last; blocks = e.blocks - 1; len = e.len }

-- no chain
abbrev pub no_chain : Chain
no_chain = record { last = 0; blocks = 0; len = 0 }

-- the end of the chain of a number
abbrev pub end_at : List Chain → ℕ → Chain
end_at ends c = slice_index_or ends c no_chain

-- how many blocks the chains have
abbrev pub blocks_in : List Chain → ℕ
blocks_in [] = 0
blocks_in (e ∷ es) = e.blocks + blocks_in es

-- The rule of blocks and their owners. Owner 0 is nobody, and owner c + 1 is chain c. A block of a chain
-- lies in the tables, and its place is below the number of the chain's blocks, each place once. The
-- first block names itself in place of one before it and of one to jump to; any other names blocks of
-- the same owner, the one at the place before and one at a lower place. The last block of a chain has
-- its greatest place.
pub record IsLinked (owner : ℕ → ℕ) (before jump place : List ℕ) (ends : List Chain) : Type 0 where
  pub inside : (c b : ℕ) → owner b ≡ suc c → (b < length before) × (c < length ends)
  pub low : (c b : ℕ) → owner b ≡ suc c → slice_index place b < (end_at ends c).blocks
  pub one : (c a b : ℕ) → owner a ≡ suc c → owner b ≡ suc c → slice_index place a ≡ slice_index place b → a ≡ b
  pub first : (c b : ℕ) → owner b ≡ suc c → slice_index place b ≡ 0
      → (slice_index before b ≡ b) × (slice_index jump b ≡ b)
  pub step : (c b : ℕ) → owner b ≡ suc c → 0 < slice_index place b
      → (owner (slice_index before b) ≡ suc c) × (slice_index place (slice_index before b) + 1 ≡ slice_index place b)
  pub leap : (c b : ℕ) → owner b ≡ suc c → 0 < slice_index place b
      → (owner (slice_index jump b) ≡ suc c) × (slice_index place (slice_index jump b) < slice_index place b)
  pub last : (c : ℕ) → 0 < (end_at ends c).blocks
      → (owner (end_at ends c).last ≡ suc c) × (slice_index place (end_at ends c).last + 1 ≡ (end_at ends c).blocks)

-- Tables of the blocks, each with an owner, and the ends of their chains.
pub record IsBlocks (before jump place : List ℕ) (ends : List Chain) : Type 0 where
  pub owner : ℕ → ℕ
  pub linked : IsLinked owner before jump place ends
  pub owned : (b : ℕ) → b < length before → 0 < owner b
  pub jumps : length jump ≡ length before
  pub places : length place ≡ length before
  pub few : length before ≤ 4294967294
  pub lists : length ends ≤ 2 ^ 31 + 1
  pub total : blocks_in ends ≡ length before

-- the front of an empty list
abbrev pub no_front : Front
no_front = record { first = 0; blocks = 0 }

-- the front of the list of a number
abbrev pub front_at : List Front → ℕ → Front
front_at fronts i = slice_index_or fronts i no_front

-- the fronts of the lists
pub record IsFronts (b : BlockChains) (fronts : List Front) : Type 0 where
  pub lists : length fronts + 1 ≡ length b.chains
  pub each : (i : ℕ) → IsFront (chain_at b (i + 1)).blocks (front_at fronts i).first (front_at fronts i).blocks

-- The same, with the block of the next row of each list and its front. The first chain is that of the free
-- blocks.
pub record IsIndexed (before jump place : List ℕ) (ends : List Chain) (nexts : List ℕ) (fronts : List Front)
    : Type 0 where
  pub blocks : IsBlocks before jump place ends
  pub next : IsNext (record { all = length before; chains = map (held_by before) ends }) nexts
  pub front : IsFronts (record { all = length before; chains = map (held_by before) ends }) fronts
