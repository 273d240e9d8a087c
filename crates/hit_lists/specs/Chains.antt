-- The slots of the kept hits, on chains by distance.
use Rattle.std.specs.Prelude.{◌≡◌, ℕ, ◌+◌, ◌<◌, ◌≤◌, ◌≢◌, ◌⊎◌, ◌==◌, ◌^◌, false, List, [], pos, length, sum}
use Rattle.std.specs.Prelude.{slice_index, slice_index_or, vec_capacity}
use Rattle.std.specs.declared.cmp.Ordering.{Ordering}
use Rattle.std.specs.Ordering.{nat_cmp, int_cmp, ordering_then}
use Rattle.std.specs.List.{All, count_by}
use Rattle.std.specs.BinaryHeap.{IsHeap, heap_items, heap_capacity}
use Rattle.bcodes.specs.declared.hit.Hit.{Hit}
use Rattle.bcodes.specs.Hits.{no_hit, is_above}
use Rattle.hit_lists.specs.declared.seat.Seat.{Seat}
use Rattle.hit_lists.specs.declared.slot_table.SlotTable.{SlotTable}

-- by label, and then by slot
abbrev pub seat_cmp : Seat → Seat → Ordering
seat_cmp a b = ordering_then (int_cmp a.label b.label) (nat_cmp a.slot b.slot)

-- what stands past the end of a list of seats
abbrev pub no_seat : Seat
no_seat = record { label = pos 0; slot = 0 }

-- the hit of the topmost seat
abbrev pub last_hit : List Hit → List Seat → Hit
last_hit hits top = slice_index_or hits (slice_index_or top 0 no_seat).slot no_hit

-- no hit of a list is above x
abbrev pub IsLast : Hit → List Hit → Type 0
IsLast x hits = (t : ℕ) → t < length hits → is_above (slice_index_or hits t no_hit) x ≡ false

-- the distance of the hit in a slot
abbrev pub distance_at : List Hit → ℕ → ℕ
distance_at hits s = (slice_index_or hits s no_hit).distance

-- how many seats name a slot
abbrev pub seats_of : ℕ → List Seat → ℕ
seats_of s top = count_by (λ e. e.slot == s) top

-- a seat names a slot with a hit at the limit, other than `out`, that is on no chain
pub record IsSeat (out : ℕ) (hits : List Hit) (counts : List ℕ) (limit : ℕ) (rank : ℕ → ℕ) (e : Seat) : Type 0 where
  pub within : e.slot < length hits
  pub other : e.slot ≢ out
  pub hit : slice_index_or hits e.slot no_hit ≡ record { distance = limit; label = e.label }
  pub off : slice_index counts limit ≤ rank e.slot

-- a slot other than `out`, at a distance, with so many below it on its chain
pub record IsRung (out : ℕ) (hits : List Hit) (rank : ℕ → ℕ) (d below s : ℕ) : Type 0 where
  pub within : s < length hits
  pub other : s ≢ out
  pub distance : distance_at hits s ≡ d
  pub depth : rank s + 1 ≡ below

-- Each slot but `out` is on the chain of its distance, or has a seat. The rank of a slot on a chain is the number
-- of those below it there.
pub record IsChained (out : ℕ) (hits : List Hit) (next heads counts : List ℕ) (top : List Seat)
    (limit : ℕ) : Type 0 where
  pub rank : ℕ → ℕ
  pub links : length next ≡ length hits
  pub lists : length heads ≡ length counts
  pub low : limit < length counts
  pub under : (s : ℕ) → s < length hits → s ≢ out → distance_at hits s ≤ limit
  pub placed : (s : ℕ) → s < length hits → s ≢ out → (rank s < slice_index counts (distance_at hits s)) ⊎
      ((distance_at hits s ≡ limit) × (0 < seats_of s top))
  pub apart : (s t : ℕ) → s < length hits → t < length hits → s ≢ out → t ≢ out
      → distance_at hits s ≡ distance_at hits t → rank s ≡ rank t
      → rank s < slice_index counts (distance_at hits s) → s ≡ t
  pub linked : (s : ℕ) → s < length hits → s ≢ out → rank s < slice_index counts (distance_at hits s) → 0 < rank s
      → IsRung out hits rank (distance_at hits s) (rank s) (slice_index next s)
  pub headed : (d : ℕ) → 0 < slice_index counts d → IsRung out hits rank d (slice_index counts d) (slice_index heads d)
  pub seated : All (IsSeat out hits counts limit rank) top
  pub single : (s : ℕ) → seats_of s top ≤ 1

-- the table is whole
pub record IsTable (t : SlotTable) : Type 0 where
  pub chained : IsChained (length t.hits.items) t.hits.items t.next.items t.heads.items t.counts.items
      (heap_items t.top) t.limit
  pub total : sum t.counts.items + length (heap_items t.top) ≡ length t.hits.items
  pub few : length t.hits.items ≤ t.room
  pub fits : t.room < 2 ^ 32
  pub ordered : IsHeap seat_cmp (heap_items t.top)
  pub hits_room : t.room ≤ vec_capacity t.hits
  pub next_room : t.room ≤ vec_capacity t.next
  pub top_room : t.room ≤ heap_capacity t.top

-- the table but for the slot `out`, which stands nowhere
pub record IsTableBut (out : ℕ) (t : SlotTable) : Type 0 where
  pub chained : IsChained out t.hits.items t.next.items t.heads.items t.counts.items (heap_items t.top) t.limit
  pub within : out < length t.hits.items
  pub total : sum t.counts.items + length (heap_items t.top) + 1 ≡ length t.hits.items
  pub few : length t.hits.items ≤ t.room
  pub fits : t.room < 2 ^ 32
  pub ordered : IsHeap seat_cmp (heap_items t.top)
  pub hits_room : t.room ≤ vec_capacity t.hits
  pub next_room : t.room ≤ vec_capacity t.next
  pub top_room : t.room ≤ heap_capacity t.top

-- a table with no hits
pub record IsEmptyTable (bits most : ℕ) (t : SlotTable) : Type 0 where
  pub table : IsTable t
  pub hits : t.hits.items ≡ []
  pub seats : length (heap_items t.top) ≡ 0
  pub limit : t.limit ≡ bits
  pub chains : length t.counts.items ≡ bits + 1
  pub room : t.room ≡ most

-- fewer than k hits are kept, and each has its place on a chain
pub record IsFilling (t : SlotTable) (k : ℕ) : Type 0 where
  pub fewer : length t.hits.items < k
  pub open_limit : t.limit + 1 ≡ length t.counts.items
  pub no_seats : length (heap_items t.top) ≡ 0

-- k hits are kept, and those at the limit have seats
pub record IsFull (t : SlotTable) (k : ℕ) : Type 0 where
  pub all : length t.hits.items ≡ k
  pub no_chain : slice_index t.counts.items t.limit ≡ 0
  pub some_seat : 0 < length (heap_items t.top)
