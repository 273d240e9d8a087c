-- The buckets of a Hash, as they are written.
use Rattle.std.proofs.Common.{◌≡◌, ℕ, suc, ◌+◌, ◌*◌, ◌/◌, ◌^◌, ◌<◌, ◌≤◌, max, eqb, true, List, [], ◌∷◌, ◌++◌}
use Rattle.std.proofs.Common.{length, map, get_or, take, drop, ℤ, All, refl, sym, ap, subst, ◌∙◌, append_assoc}
use Rattle.std.proofs.Common.{add-one, arith}
use Rattle.std.specs.Prelude.{codes, fold}
use Rattle.std.specs.List.{flat_map}
use Rattle.std.proofs.Math.Seq.{drop-cons}
use Rattle.std.proofs.lemmas.List.{length-map, map-append, take-append-drop, drop-drop}
use Rattle.std.proofs.lemmas.List.Folds.{flat_map-map}
use Rattle.std.proofs.lemmas.List.Sums.{length-filter, count_by-le-length, sum_by-cons}
use Rattle.std.proofs.lemmas.List.Elements.{All-filter}
use Rattle.bcodes.specs.Ranges.{load_limit}
use Rattle.bcodes.specs.Value.{Row, HashValue, Hash, HasBytes, IsLegalHash}
use Rattle.bit_strings.specs.Packed.{Bits, total_width, packed}
use Rattle.bit_strings.specs.States.{Written as Numbers}
use Rattle.code_pool.specs.Lists.{rows_in, IsRun}
use Rattle.key_buckets.specs.Keys.{firsts}
use Rattle.hash_index.specs.Keys.{key_of, hash_keys, bucket, bucket_at}
use Rattle.index_files.specs.Groups.{by_key, concat}
use Rattle.index_files.specs.File.{bits_of_bucket, hash_bits}
use Rattle.index_files.specs.Canon.{number, short_number, ids_bytes, vector, head, size_width, bucket_bytes, hash_bytes}
use Rattle.index_files.specs.Canon.{bit_length}
use Rattle.index_files.specs.Writing.{Packs}
use Rattle.index_files.proofs.Each.{Pairs}
use Rattle.index_files.proofs.HashGroups.{in_bucket, bucket_size, OwnBucket, own-buckets, keys-are, keys-new}
use Rattle.index_files.proofs.HashGroups.{buckets-keyed, keys_of}
use Rattle.index_files.proofs.HashRun.{total-bytes}
use Rattle.index_files.proofs.HashSpelled.{firsts-few}
use Rattle.index_files.proofs.PackingLemmas.{IsPacking, packing_room, packs_twice, two_width}
use Rattle.index_files.proofs.Settled.{count-inner}
use Rattle.index_files.proofs.WritingLemmas.{ids_append}

-- the item at a place, and those behind it
pub from_place : (xs : List ℕ) (i : ℕ) → i < length xs → drop i xs ≡ get_or xs i 0 ∷ drop (i + 1) xs
from_place xs i here = drop-cons xs i 0 here ∙ ap (λ n. get_or xs i 0 ∷ drop n xs) (sym (add-one i))

-- ---- the packed run

pub bits_more : (v : HashValue) (n i : ℕ) → i < length (hash_keys v)
    → flat_map (bits_of_bucket v n) (drop i (hash_keys v))
    ≡ bits_of_bucket v n (get_or (hash_keys v) i 0) ++ flat_map (bits_of_bucket v n) (drop (i + 1) (hash_keys v))
bits_more v n i here = ap (flat_map (bits_of_bucket v n)) (from_place (hash_keys v) i here)

width_of : (v : HashValue) (n : ℕ) (ks : List ℕ)
    → total_width (flat_map (bits_of_bucket v n) ks) ≡ length ks * (v.b + n)
width_of v n [] = omega arith
width_of v n (k ∷ ks) =
    let one : total_width (flat_map (bits_of_bucket v n) (k ∷ ks))
    ≡ v.b + (n + total_width (flat_map (bits_of_bucket v n) ks)) =
    sum_by-cons (λ (x : Bits). x.width) (record { number = k; width = v.b })
    (record { number = length (bucket v k); width = n } ∷ flat_map (bits_of_bucket v n) ks)
    ∙ ap (λ m. v.b + m) (sum_by-cons (λ (x : Bits). x.width) (record { number = length (bucket v k); width = n })
    (flat_map (bits_of_bucket v n) ks)) in
    let all : suc (length ks) * (v.b + n) ≡ length ks * (v.b + n) + (v.b + n) = grind arith in
    omega (arith, one, width_of v n ks, all)

pub hash_width : (v : HashValue) (n : ℕ) → total_width (hash_bits v n) ≡ length (hash_keys v) * (v.b + n)
hash_width v n = width_of v n (hash_keys v)

pub rows_few : (v : HashValue) → IsLegalHash v → length v.rows < 2 ^ 24
rows_few v legal =
    let e : length v.rows * 80 ≤ length v.rows * (v.dim / 8 + 16 + 64 * 1) = grind arith in
    omega (arith, e, legal.load)

pub keys_few : (v : HashValue) → IsLegalHash v → length (hash_keys v) < 2 ^ 24
keys_few v legal = omega (
  arith,
  firsts-few (map (key_of v.b) v.rows),
  length-map v.rows (key_of v.b),
  rows_few v legal,
)

-- a bucket that comes next has room for its key and its size
pub pair_room : (v : HashValue) (n i count from b : ℕ) (start now : Numbers) → i < length (hash_keys v)
    → IsPacking start (hash_bits v n) (flat_map (bits_of_bucket v n) (drop i (hash_keys v))) now
    → start ≡ record { bits = []; room = count * from } → count ≡ length (hash_keys v) → from ≡ b + n → b ≡ v.b
    → v.b + n ≤ now.room
pair_room v n i count from b start now here h is counted width key =
    let k = get_or (hash_keys v) i 0 in
    let room : start.room ≡ length (hash_keys v) * (v.b + n) = ap (λ (s : Numbers). s.room) is
    ∙ ap (λ (m : ℕ). m * from) counted ∙ ap (λ (m : ℕ). length (hash_keys v) * m) width
    ∙ ap (λ (m : ℕ). length (hash_keys v) * (m + n)) key in
    let fits : total_width (hash_bits v n) ≤ start.room = omega (arith, hash_width v n, room) in
    let next = packing_room start (hash_bits v n) (bits_of_bucket v n k)
    (flat_map (bits_of_bucket v n) (drop (i + 1) (hash_keys v)))
    (flat_map (bits_of_bucket v n) (drop i (hash_keys v))) now h (bits_more v n i here) fits in
    omega (arith, next, two_width k v.b (length (bucket v k)) n)

-- the key and the size of a bucket
pub pair_packs : (v : HashValue) (n k key size b : ℕ) (old mid new : Numbers) → key ≡ k
    → size ≡ length (bucket v k) → b ≡ v.b → Packs (record { number = key; width = b } ∷ []) old mid
    → Packs (record { number = size; width = n } ∷ []) mid new → Packs (bits_of_bucket v n k) old new
pair_packs v n k key size b old mid new e f g first second =
    let both = packs_twice (record { number = key; width = b } ∷ []) (record { number = size; width = n } ∷ [])
    old mid new first second in
    subst (λ (x : ℕ). Packs (record { number = k; width = v.b } ∷ record { number = x; width = n } ∷ []) old new) f
    (subst (λ (x : ℕ). Packs (record { number = k; width = x } ∷ record { number = size; width = n } ∷ []) old new) g
    (subst (λ (x : ℕ). Packs (record { number = x; width = b } ∷ record { number = size; width = n } ∷ []) old new) e
    both))

-- ---- the rows of a bucket

pub code_bytes_of : (v : HashValue) (k : ℕ) → IsLegalHash v
    → length (flat_map (λ row. row.code) (bucket v k)) ≡ length (bucket v k) * (v.dim / 8)
code_bytes_of v k legal =
    total-bytes (v.dim / 8) (bucket v k)
    (All-filter (λ row. eqb k (key_of v.b row)) (λ row. HasBytes (v.dim / 8) row.code) v.rows
    (λ i d lt. (legal.rows i d lt).code))

pub bucket_few : (v : HashValue) (k : ℕ) → IsLegalHash v → length (bucket v k) < 2 ^ 24
bucket_few v k legal = omega (
  arith,
  length-filter (λ row. eqb k (key_of v.b row)) v.rows,
  count_by-le-length (λ row. eqb k (key_of v.b row)) v.rows,
  rows_few v legal,
)

-- the bytes of the labels of some rows
abbrev pub label_bytes : List Row → List ℕ
label_bytes rows = ids_bytes (map (λ row. row.label) rows)

labels-in : (size : ℕ) (labels : List ℤ) (bytes : List ℕ) → map (λ (row : Row). row.label) (rows_in size labels bytes)
    ≡ labels
unfolding rows_in
labels-in size [] bytes = refl
labels-in size (l ∷ ls) bytes = ap (λ (zs : List ℤ). l ∷ zs) (labels-in size ls (drop size bytes))

-- the labels of a run, and those of the rows behind it
pub run_labels : (rows : List Row) (from size : ℕ) (labels : List ℤ) (bytes : List ℕ)
    → IsRun rows from size labels bytes
    → label_bytes (drop from rows) ≡ ids_bytes labels ++ label_bytes (drop (from + length labels) rows)
run_labels rows from size labels bytes run =
    let n = length labels in
    let label = λ (row : Row). row.label in
    let own : map label (take n (drop from rows)) ≡ labels = ap (map label) (sym run.rows)
    ∙ labels-in size labels bytes in
    ap label_bytes (sym (take-append-drop n (drop from rows)))
    ∙ ap ids_bytes (map-append label (take n (drop from rows)) (drop n (drop from rows)))
    ∙ ids_append (map label (take n (drop from rows))) (map label (drop n (drop from rows)))
    ∙ ap (λ (zs : List ℤ). ids_bytes zs ++ label_bytes (drop n (drop from rows))) own
    ∙ ap (λ (rs : List Row). ids_bytes labels ++ label_bytes rs) (drop-drop n from rows)

pub bucket_parts : (rows : List Row) (n size : ℕ) → n ≡ length rows
    → size ≡ length (flat_map (λ (row : Row). row.code) rows)
    → ((number n ++ ids_bytes (map (λ (row : Row). row.label) rows)) ++ number size)
    ++ flat_map (λ (row : Row). row.code) rows ≡ bucket_bytes rows
bucket_parts rows n size count is = rw (count, is) (simp append_assoc)

pub buckets_more : (v : HashValue) (i : ℕ) → i < length (hash_keys v)
    → flat_map (λ k. bucket_bytes (bucket v k)) (drop i (hash_keys v))
    ≡ bucket_bytes (bucket_at v i) ++ flat_map (λ k. bucket_bytes (bucket v k)) (drop (i + 1) (hash_keys v))
buckets_more v i here = ap (flat_map (λ k. bucket_bytes (bucket v k))) (from_place (hash_keys v) i here)

-- ---- a settled Hash has the same buckets

module _ (kf : Row → ℕ) where
  -- what is made of each bucket is the same
  same-each : {X : Type 0} (f : ℕ → List Row → List X) (rows whole : List Row) (ks : List ℕ)
      → Pairs (OwnBucket kf whole) (map (bucket_size kf rows) ks) (map (λ k. in_bucket kf k rows) ks)
      → flat_map (λ k. f k (in_bucket kf k whole)) ks ≡ flat_map (λ k. f k (in_bucket kf k rows)) ks
  same-each f rows whole [] h = refl
  same-each f rows whole (k ∷ ks) (own, h) = rw (own, same-each f rows whole ks h) refl

  same-sizes : (rows whole : List Row) (ks : List ℕ)
      → Pairs (OwnBucket kf whole) (map (bucket_size kf rows) ks) (map (λ k. in_bucket kf k rows) ks)
      → map (λ k. length (in_bucket kf k whole)) ks ≡ map (λ k. length (in_bucket kf k rows)) ks
  same-sizes rows whole [] h = refl
  same-sizes rows whole (k ∷ ks) (own, h) = rw (own, same-sizes rows whole ks h) refl

  abbrev grouped : List Row → List Row
  grouped rows = flat_map (λ k. in_bucket kf k rows) (firsts (map kf rows))

  as-concat : (rows : List Row) → grouped rows ≡ concat (map (λ k. in_bucket kf k rows) (firsts (map kf rows)))
  as-concat rows = sym (flat_map-map (λ (rs : List Row). rs) (λ k. in_bucket kf k rows) (firsts (map kf rows)))

  keys-back : (rows : List Row) (ks : List ℕ) → keys_of (map (bucket_size kf rows) ks) ≡ ks
  unfolding keys_of
  keys-back rows [] = refl
  keys-back rows (k ∷ ks) = ap (λ (js : List ℕ). k ∷ js) (keys-back rows ks)

  same-keys : (rows : List Row) → firsts (map kf (grouped rows)) ≡ firsts (map kf rows)
  same-keys rows =
      let keys = firsts (map kf rows) in
      let ps = map (bucket_size kf rows) keys in
      let rss = map (λ k. in_bucket kf k rows) keys in
      ap (λ (rs : List Row). firsts (map kf rs)) (as-concat rows)
      ∙ keys-are kf [] ps rss (keys-new kf rows) (buckets-keyed kf rows keys) ∙ keys-back rows keys

  same-buckets : (rows : List Row)
      → Pairs (OwnBucket kf (grouped rows)) (map (bucket_size kf rows) (firsts (map kf rows)))
      (map (λ k. in_bucket kf k rows) (firsts (map kf rows)))
  same-buckets rows =
      let keys = firsts (map kf rows) in
      let ps = map (bucket_size kf rows) keys in
      let rss = map (λ k. in_bucket kf k rows) keys in
      subst (λ (whole : List Row). Pairs (OwnBucket kf whole) ps rss) (sym (as-concat rows))
      (own-buckets kf (concat rss) [] ps rss (keys-new kf rows) (buckets-keyed kf rows keys) (λ k e. refl))

pub settled_bytes : (v : HashValue) → IsLegalHash v → hash_bytes (record v { rows = by_key v }) ≡ hash_bytes v
settled_bytes v legal =
    let w : HashValue = record v { rows = by_key v } in
    let kf = key_of v.b in
    let ks = hash_keys v in
    let own = same-buckets kf v.rows in
    let keys : hash_keys w ≡ ks = same-keys kf v.rows in
    let count : length w.rows ≡ length v.rows = count-inner (Hash v) legal in
    let width : size_width w ≡ size_width v =
    ap bit_length (ap (fold max 0) (ap (map (λ k. length (bucket w k))) keys ∙ same-sizes kf v.rows w.rows ks own)) in
    let bits : (n : ℕ) → hash_bits w n ≡ hash_bits v n = λ n. ap (flat_map (bits_of_bucket w n)) keys
    ∙ same-each kf (λ k rows. record { number = k; width = v.b } ∷ record { number = length rows; width = n } ∷ [])
    v.rows w.rows ks own in
    let rows : flat_map (λ k. bucket_bytes (bucket w k)) (hash_keys w)
    ≡ flat_map (λ k. bucket_bytes (bucket v k)) ks = ap (flat_map (λ k. bucket_bytes (bucket w k))) keys
    ∙ same-each kf (λ k rows. bucket_bytes rows) v.rows w.rows ks own in
    ap (λ (m : ℕ). form m (length (hash_keys w)) (size_width w) (hash_bits w (size_width w))
    (flat_map (λ k. bucket_bytes (bucket w k)) (hash_keys w))) count
    ∙ ap (λ (js : List ℕ). form (length v.rows) (length js) (size_width w) (hash_bits w (size_width w))
    (flat_map (λ k. bucket_bytes (bucket w k)) (hash_keys w))) keys
    ∙ ap (λ (n : ℕ). form (length v.rows) (length ks) n (hash_bits w n)
    (flat_map (λ k. bucket_bytes (bucket w k)) (hash_keys w))) width
    ∙ ap (λ (xs : List Bits). form (length v.rows) (length ks) (size_width v) xs
    (flat_map (λ k. bucket_bytes (bucket w k)) (hash_keys w))) (bits (size_width v))
    ∙ ap (form (length v.rows) (length ks) (size_width v) (hash_bits v (size_width v))) rows
  where
    form : ℕ → ℕ → ℕ → List Bits → List ℕ → List ℕ
    form count n width bits rows =
        codes "IBHh" ++ head v.dim count true ++ short_number v.b ++ short_number v.nflip
        ++ number n ++ short_number width ++ vector (packed bits) ++ rows

-- ---- all

pub hash_parts : (v : HashValue) (dim count b nflip keys width : ℕ) (run : List ℕ) → dim ≡ v.dim
    → count ≡ length v.rows → b ≡ v.b → nflip ≡ v.nflip → keys ≡ length (hash_keys v) → width ≡ size_width v
    → run ≡ packed (hash_bits v width)
    → codes "IBHh" ++ head dim count true ++ short_number b ++ short_number nflip ++ number keys
    ++ short_number width ++ vector run ++ flat_map (λ k. bucket_bytes (bucket v k)) (hash_keys v) ≡ hash_bytes v
hash_parts v dim count b nflip keys width run d n e f k w is =
    ap (λ (x : ℕ). form x count b nflip keys width run) d
    ∙ ap (λ (x : ℕ). form v.dim x b nflip keys width run) n
    ∙ ap (λ (x : ℕ). form v.dim (length v.rows) x nflip keys width run) e
    ∙ ap (λ (x : ℕ). form v.dim (length v.rows) v.b x keys width run) f
    ∙ ap (λ (x : ℕ). form v.dim (length v.rows) v.b v.nflip x width run) k
    ∙ ap (form v.dim (length v.rows) v.b v.nflip (length (hash_keys v)) width) is
    ∙ ap (λ (x : ℕ). form v.dim (length v.rows) v.b v.nflip (length (hash_keys v)) x (packed (hash_bits v x))) w
  where
    form : ℕ → ℕ → ℕ → ℕ → ℕ → ℕ → List ℕ → List ℕ
    form dim count b nflip keys width run =
        codes "IBHh" ++ head dim count true ++ short_number b ++ short_number nflip ++ number keys
        ++ short_number width ++ vector run ++ flat_map (λ k. bucket_bytes (bucket v k)) (hash_keys v)
