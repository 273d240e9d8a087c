-- Lemmas on codes that lie side by side.
use Rattle.std.proofs.Common.{◌≡◌, ℕ, zero, suc, ◌+◌, ◌-◌, ◌*◌, ◌<◌, ℤ, pos, List, ◌∷◌, ◌++◌, length, take, drop}
use Rattle.std.proofs.Common.{refl, sym, ap, ◌∙◌, arith, append_assoc}
use Rattle.std.proofs.lemmas.List.{drop-drop, drop-take, take-take}
use Rattle.bcodes.specs.Chunks.{chunks_of}
use Rattle.bcodes.specs.Value.{Row, labels_from, numbered}
use Rattle.bcodes.proofs.ChunkLemmas.{length-chunks_of}
use Rattle.bcodes.proofs.NumberedLemmas.{length-labels_from, numbered-append}
use Rattle.code_pool.specs.Lists.{PoolLists, PoolList, list_at, rows_in, with_list, with_rows}
use Rattle.code_pool.proofs.RowLemmas.{length-rows_in}
use Rattle.flat_index.proofs.AddLemmas.{list_at-with_list}

-- the codes take no bytes but their own
chunks_of-take : (size n : ℕ) (bytes : List ℕ) → chunks_of size n (take (n * size) bytes) ≡ chunks_of size n bytes
unfolding chunks_of
chunks_of-take size zero bytes = refl
chunks_of-take size (suc n) bytes =
    let e : suc n * size ≡ size + n * size = grind arith in
    rw (e, take-take size (size + n * size) bytes (omega arith), drop-take size (n * size) bytes)
    (ap (λ (cs : List (List ℕ)). take size bytes ∷ cs) (chunks_of-take size n (drop size bytes)))

-- codes, and the codes behind them
chunks_of-more : (size m n : ℕ) (bytes : List ℕ)
    → chunks_of size (m + n) bytes ≡ chunks_of size m bytes ++ chunks_of size n (drop (m * size) bytes)
unfolding chunks_of
chunks_of-more size zero n bytes =
    let z : 0 * size ≡ 0 = omega arith in
    let e : 0 + n ≡ n = omega arith in
    rw (z, e) refl
chunks_of-more size (suc m) n bytes =
    let e : suc m + n ≡ suc (m + n) = omega arith in
    let apart : drop (m * size) (drop size bytes) ≡ drop (suc m * size) bytes =
    drop-drop (m * size) size bytes ∙ ap (λ (k : ℕ). drop k bytes) (grind arith) in
    rw (e, ← apart) (ap (λ (cs : List (List ℕ)). take size bytes ∷ cs) (chunks_of-more size m n (drop size bytes)))

-- codes under labels that count up
rows_in-counted : (size i n : ℕ) (bytes : List ℕ)
    → rows_in size (labels_from i n) bytes ≡ numbered i (chunks_of size n bytes)
unfolding rows_in chunks_of
rows_in-counted size i zero bytes = refl
rows_in-counted size i (suc n) bytes =
    ap (λ (rs : List Row). record { label = pos i; code = take size bytes } ∷ rs)
    (rows_in-counted size (i + 1) n (drop size bytes))

-- the rows of a part of the codes
part_rows : (size count done more : ℕ) (bytes : List ℕ)
    → numbered count (chunks_of size done bytes)
    ++ rows_in size (labels_from (count + done) more) (take (more * size) (drop (done * size) bytes))
    ≡ numbered count (chunks_of size (done + more) bytes)
part_rows size count done more bytes =
    let first = chunks_of size done bytes in
    let rest = drop (done * size) bytes in
    ap (λ (rs : List Row). numbered count first ++ rs)
    (rows_in-counted size (count + done) more (take (more * size) rest)
    ∙ ap (numbered (count + done)) (chunks_of-take size more rest)
    ∙ ap (λ (k : ℕ). numbered (count + k) (chunks_of size more rest)) (sym (length-chunks_of size done bytes)))
    ∙ sym (numbered-append count first (chunks_of size more rest))
    ∙ ap (numbered count) (sym (chunks_of-more size done more bytes))

-- what the push of a part leaves
pub record IsMore (old : List Row) (now new : PoolLists) (count size done more : ℕ) (bytes : List ℕ) : Type 0 where
  pub rows : (list_at new 0).rows ≡ old ++ numbered count (chunks_of size (done + more) bytes)
  pub spare : (list_at new 0).spare ≡ (list_at now 0).spare - more

pub pushed_more : (old : List Row) (now new : PoolLists) (count size done more : ℕ) (bytes : List ℕ)
    (labels : List ℤ) (codes : List ℕ) → 0 < length now.lists → now.code_size ≡ size
    → labels ≡ labels_from (count + done) more → codes ≡ take (more * size) (drop (done * size) bytes)
    → (list_at now 0).rows ≡ old ++ numbered count (chunks_of size done bytes)
    → new ≡ with_list now 0 (with_rows (list_at now 0) (rows_in now.code_size labels codes))
    → IsMore old now new count size done more bytes
pushed_more old now new count size done more bytes labels codes one same ls cs so_far is =
    let first = numbered count (chunks_of size done bytes) in
    let counted : List ℤ = labels_from (count + done) more in
    let part : List ℕ = take (more * size) (drop (done * size) bytes) in
    let rows : List Row = rows_in size counted part in
    let these : rows_in now.code_size labels codes ≡ rows =
    ap (λ (k : ℕ). rows_in k labels codes) same ∙ ap (λ (xs : List ℤ). rows_in size xs codes) ls
    ∙ ap (rows_in size counted) cs in
    let next : list_at new 0 ≡ with_rows (list_at now 0) rows =
    ap (λ (p : PoolLists). list_at p 0) is
    ∙ list_at-with_list now (with_rows (list_at now 0) (rows_in now.code_size labels codes)) one
    ∙ ap (with_rows (list_at now 0)) these in
    let long : length rows ≡ more = length-rows_in size counted part ∙ length-labels_from (count + done) more in
    record {
      rows = ap (λ (l : PoolList). l.rows) next ∙ ap (λ (rs : List Row). rs ++ rows) so_far
          ∙ append_assoc old first rows ∙ ap (λ (rs : List Row). old ++ rs) (part_rows size count done more bytes);
      spare = ap (λ (l : PoolList). l.spare) next ∙ ap (λ (k : ℕ). (list_at now 0).spare - k) long;
    }
