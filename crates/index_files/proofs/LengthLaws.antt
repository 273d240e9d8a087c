-- How long a file that is written is.
use Rattle.std.proofs.Common.{◌≡◌, inl, inr, ℕ, suc, ◌+◌, ◌*◌, ◌/◌, ◌^◌, ◌<◌, ◌≤◌, ℤ}
use Rattle.std.proofs.Common.{Bool, true, false, cond, eqb, ltb, List, [], ◌∷◌, ◌++◌, length, map, All}
use Rattle.std.proofs.Common.{refl, sym, ap, ◌∙◌, length-append, arith}
use Rattle.std.specs.Prelude.{codes, nat_le}
use Rattle.std.specs.Int.{w64, cast_unsigned}
use Rattle.std.specs.List.{flat_map, range_with_len}
use Rattle.std.proofs.lemmas.Bool.{cases_Bool}
use Rattle.std.proofs.lemmas.List.{length-map}
use Rattle.std.proofs.lemmas.List.Elements.{All-filter, All-map}
use Rattle.std.proofs.lemmas.List.Folds.{flat_map-map}
use Rattle.std.proofs.lemmas.List.FromFn.{length-range_with_len}
use Rattle.byteorder.specs.Numbers.{length-bytes_low_first}
use Rattle.bcodes.specs.Ranges.{load_limit, raised}
use Rattle.bcodes.specs.Value.{CodeList, Row, ListRow, IvfValue, HashValue, MultiValue, Inner, Flat, Ivf, Hash, Multi}
use Rattle.bcodes.specs.Value.{IndexValue, Bare, IdMap, HasBytes, IsCode, weight, count_of_inner, dim_of_inner}
use Rattle.bcodes.specs.Value.{is_trained_inner, IsLegal, IsLegalFlat, IsLegalIvf, IsLegalHash, IsLegalMulti}
use Rattle.bcodes.specs.Value.{IsLegalInner}
use Rattle.bcodes.specs.declared.map_name.MapName.{MapName}
use Rattle.bcodes.specs.declared.map_name.MapName.TheVariants.{Map, Map2}
use Rattle.bit_strings.specs.Packed.{packed}
use Rattle.file_parts.specs.Fields.{number_bytes, signed_bytes}
use Rattle.hash_index.specs.Keys.{key_of, hash_keys, bucket}
use Rattle.index_files.specs.File.{hash_bits, entry_bits, map_letters, settled_inner}
use Rattle.index_files.specs.Groups.{concat, on_list, filled, by_list, by_key, entry_of, mapped, entries_of}
use Rattle.index_files.specs.Canon.{number, short_number, vector, bit_of, head, flat_bytes, ids_bytes, direct_bytes}
use Rattle.index_files.specs.Canon.{size_bytes, sizes_bytes, list_bytes, ivf_bytes, size_width, bucket_bytes}
use Rattle.index_files.specs.Canon.{hash_bytes, position_width, map_bytes, multi_bytes, inner_bytes, canon}
use Rattle.index_files.proofs.HashRun.{total-bytes}
use Rattle.index_files.proofs.HashSpelled.{keys-few, packed-few}
use Rattle.index_files.proofs.HashSpelled as hash_sizes
use Rattle.index_files.proofs.MapSpelled as map_sizes
use Rattle.index_files.proofs.Settled.{legal-inner, count-inner}
use Rattle.index_files.proofs.Spelled.{total-codes, filled-few}

pub length-number : (w n : ℕ) → length (number_bytes w n) ≡ w
unfolding number_bytes
length-number w n = length-bytes_low_first 0 w n

length-signed : (z : ℤ) → length (signed_bytes 8 z) ≡ 8
unfolding signed_bytes
length-signed z = length-bytes_low_first 0 8 (cast_unsigned w64 z)

pub length-head : (d n : ℕ) (flag : Bool) → length (head d n flag) ≡ 21
unfolding head number_bytes
length-head d n flag = refl

pub length-ids : (zs : List ℤ) → length (ids_bytes zs) ≡ 8 * length zs
length-ids [] = refl
length-ids (z ∷ zs) = omega (arith, length-append (signed_bytes 8 z) (ids_bytes zs), length-signed z, length-ids zs)

length-flat : (d : ℕ) (cs : List (List ℕ)) → All (IsCode d) cs
    → length (flat_bytes d cs) ≡ 33 + length cs * (d / 8)
unfolding flat_bytes
length-flat d cs h =
    let all = concat cs in
    omega (
      arith,
      length-append (head d (length cs) true) (number (length all) ++ all),
      length-append (number (length all)) all,
      length-head d (length cs) true,
      length-number 8 (length all),
      total-codes (d / 8) cs h,
    )

-- the bytes of the codes weigh no more than the index
flat-few : (v : CodeList) → IsLegalFlat v → (length (flat_bytes v.dim v.codes) < 2 ^ 32) ×
    (length v.codes < 2 ^ 27)
flat-few v legal =
    let a : length v.codes * 16 ≤ length v.codes * (v.dim / 8 + 16 + 64 * 0) = grind arith in
    let b : length v.codes * (v.dim / 8) ≤ length v.codes * (v.dim / 8 + 16 + 64 * 0) = grind arith in
    (omega (arith, b, legal.load, length-flat v.dim v.codes legal.codes), omega (arith, a, legal.load))

-- ---- IVF

length-list : (size : ℕ) (rows : List ListRow) → All (λ row. HasBytes size row.code) rows
    → length (list_bytes rows) ≡ length rows * (size + 8)
length-list size rows h =
    let some = map (λ (row : ListRow). row.code) rows in
    let ids = map (λ (row : ListRow). row.label) rows in
    let all = flat_map (λ (row : ListRow). row.code) rows in
    let joined : length all ≡ length (concat some) =
    ap length (sym (flat_map-map (λ (c : List ℕ). c) (λ (row : ListRow). row.code) rows)) in
    let total = total-codes size some (All-map (HasBytes size) (λ (row : ListRow). row.code) rows h) in
    let same : length some * size ≡ length rows * size =
    ap (λ n. n * size) (length-map rows (λ (row : ListRow). row.code)) in
    let turn : length rows * (size + 8) ≡ length rows * size + 8 * length rows = grind arith in
    omega (
      arith,
      length-append all (ids_bytes ids),
      joined,
      total,
      same,
      turn,
      length-ids ids,
      length-map rows (λ (row : ListRow). row.label),
    )

-- the bytes of groups of rows, where a group takes `size` bytes a row and `beside` more at most
length-groups : {X Y : Type 0} (f : List Y → List ℕ) (g : X → List Y) (size beside : ℕ) (xs : List X)
    → ((x : X) → length (f (g x)) ≤ length (g x) * size + beside)
    → length (flat_map (λ x. f (g x)) xs) ≤ length (flat_map g xs) * size + length xs * beside
length-groups f g size beside [] h = omega arith
length-groups f g size beside (x ∷ xs) h =
    let own : length (flat_map g (x ∷ xs)) * size ≡ length (g x) * size + length (flat_map g xs) * size =
    ap (λ n. n * size) (length-append (g x) (flat_map g xs)) ∙ grind arith in
    let more : suc (length xs) * beside ≡ length xs * beside + beside = grind arith in
    omega (
      arith,
      length-append (f (g x)) (flat_map (λ x. f (g x)) xs),
      h x,
      length-groups f g size beside xs h,
      own,
      more,
    )

-- parts of one size
length-parts : {X : Type 0} (f : X → List ℕ) (size : ℕ) (xs : List X) → ((x : X) → length (f x) ≡ size)
    → length (flat_map f xs) ≡ length xs * size
length-parts f size [] h = omega arith
length-parts f size (x ∷ xs) h =
    let more : suc (length xs) * size ≡ length xs * size + size = grind arith in
    omega (arith, length-append (f x) (flat_map f xs), h x, length-parts f size xs h, more)

module _ (v : IvfValue) (legal : IsLegalIvf v) where
  on-codes : (list : ℕ) → All (λ row. HasBytes (v.dim / 8) row.code) (on_list v list)
  unfolding on_list
  on-codes list = All-filter (λ (row : ListRow). eqb list row.list)
      (λ (row : ListRow). HasBytes (v.dim / 8) row.code) v.rows (λ i d lt. (legal.rows i d lt).code)

  direct-few : length (direct_bytes v) ≤ 9 + 8 * length v.rows
  direct-few = omega (
    arith,
    length-append (bit_of v.direct ∷ number (length (mapped v))) entries,
    length-number 8 (length (mapped v)),
    length-parts (λ label. number (entry_of v label)) 8 (mapped v) (λ label. length-number 8 (entry_of v label)),
    few v.direct,
  )
    where
      entries : List ℕ
      entries = flat_map (λ label. number (entry_of v label)) (mapped v)

      few : (b : Bool) → length (cond b (range_with_len 0 (length v.rows)) []) ≤ length v.rows
      few true = omega (arith, length-range_with_len 0 (length v.rows))
      few false = omega arith

  sizes-few : length (sizes_bytes v) ≤ 12 + 16 * v.nlist
  sizes-few =
      elim (cases_Bool (ltb (v.nlist / 2) (length (filled v)))) [
        | inl e ↦
            let lists = range_with_len 0 v.nlist in
            rw e (omega (
              arith,
              length-append (codes "full" ++ number v.nlist) (flat_map (size_bytes v) lists),
              length-append (codes "full") (number v.nlist),
              length-number 8 v.nlist,
              length-parts (size_bytes v) 8 lists (λ list. length-number 8 (length (on_list v list))),
              length-range_with_len 0 v.nlist,
            ))
        | inr e ↦
            let pairs = flat_map (λ list. number list ++ size_bytes v list) (filled v) in
            rw e (omega (
              arith,
              length-append (codes "sprs" ++ number (2 * length (filled v))) pairs,
              length-append (codes "sprs") (number (2 * length (filled v))),
              length-number 8 (2 * length (filled v)),
              length-parts (λ list. number list ++ size_bytes v list) 16 (filled v) pair,
              filled-few v legal,
            ))
      ]
    where
      pair : (list : ℕ) → length (number list ++ size_bytes v list) ≡ 16
      pair list = omega (
        arith,
        length-append (number list) (size_bytes v list),
        length-number 8 list,
        length-number 8 (length (on_list v list)),
      )

  rows-few : length (flat_map (λ list. list_bytes (on_list v list)) (filled v)) ≤ load_limit
  rows-few =
      let size = v.dim / 8 in
      let groups = length-groups list_bytes (on_list v) (size + 8) 0 (filled v)
      (λ list. omega (arith, length-list size (on_list v list) (on-codes list))) in
      let same : length (by_list v) * (size + 8) ≡ length v.rows * (size + 8) =
      ap (λ n. n * (size + 8)) (count-inner (Ivf v) legal) in
      let less : length v.rows * (size + 8) ≤ length v.rows * (size + 16 + 64 * 0) = grind arith in
      let none : length (filled v) * 0 ≡ 0 = grind arith in
      omega (arith, groups, same, less, none, legal.load)

  ivf-parts : (a b c d e f g h i j k : List ℕ) → length (a ++ b ++ c ++ d ++ e ++ f ++ g ++ h ++ i ++ j ++ k)
      ≡ length a + length b + length c + length d + length e + length f + length g + length h + length i + length j
      + length k
  ivf-parts a b c d e f g h i j k = simp length-append

  ivf-few : (length (ivf_bytes v) < 2 ^ 63) × (length v.rows < 2 ^ 27)
  ivf-few =
      let hd = head v.dim (length v.rows) (nat_le v.nlist (length v.centroids)) in
      let rows = flat_map (λ list. list_bytes (on_list v list)) (filled v) in
      let count : length v.rows * 16 ≤ length v.rows * (v.dim / 8 + 16 + 64 * 0) = grind arith in
      let held : length v.centroids * (v.dim / 8) ≤ length v.centroids * (v.dim / 8 + 16) = grind arith in (
        omega (
          arith,
          ivf-parts (codes "IBwF") hd (number v.nlist) (number v.nprobe) (flat_bytes v.dim v.centroids)
              (direct_bytes v) (codes "ilar") (number v.nlist) (number (v.dim / 8)) (sizes_bytes v) rows,
          length-head v.dim (length v.rows) (nat_le v.nlist (length v.centroids)),
          length-number 8 v.nlist,
          length-number 8 v.nprobe,
          length-number 8 (v.dim / 8),
          length-flat v.dim v.centroids legal.centroids,
          direct-few,
          sizes-few,
          rows-few,
          count,
          held,
          legal.nlist_most,
          legal.load,
        ),
        omega (arith, count, legal.load),
      )

-- ---- Hash

module _ (v : HashValue) (legal : IsLegalHash v) where
  bucket-few : (k : ℕ) → length (bucket_bytes (bucket v k)) ≤ length (bucket v k) * (v.dim / 8 + 8) + 16
  bucket-few k =
      let rows = bucket v k in
      let size = v.dim / 8 in
      let ids = map (λ (row : Row). row.label) rows in
      let all = flat_map (λ (row : Row). row.code) rows in
      let total = total-bytes size rows (All-filter (λ row. eqb k (key_of v.b row))
      (λ (row : Row). HasBytes size row.code) v.rows (λ i d lt. (legal.rows i d lt).code)) in
      let turn : length rows * (size + 8) ≡ length rows * size + 8 * length rows = grind arith in
      omega (
        arith,
        length-append (number (length rows) ++ ids_bytes ids) (vector all),
        length-append (number (length rows)) (ids_bytes ids),
        length-append (number (length all)) all,
        length-number 8 (length rows),
        length-number 8 (length all),
        length-ids ids,
        length-map rows (λ (row : Row). row.label),
        total,
        turn,
      )

  buckets-few : length (flat_map (λ k. bucket_bytes (bucket v k)) (hash_keys v)) ≤ 2 * load_limit
  buckets-few =
      let size = v.dim / 8 in
      let groups = length-groups bucket_bytes (bucket v) (size + 8) 16 (hash_keys v) bucket-few in
      let same : length (by_key v) * (size + 8) ≡ length v.rows * (size + 8) =
      ap (λ n. n * (size + 8)) (count-inner (Hash v) legal) in
      let less : length v.rows * (size + 8) ≤ length v.rows * (size + 16 + 64 * 1) = grind arith in
      omega (arith, groups, same, less, legal.load, keys-few v legal, hash_sizes.rows-few v legal)

  hash-parts : (a b c d e f g h : List ℕ) → length (a ++ b ++ c ++ d ++ e ++ f ++ g ++ h)
      ≡ length a + length b + length c + length d + length e + length f + length g + length h
  hash-parts a b c d e f g h = simp length-append

  hash-few : (length (hash_bytes v) < 2 ^ 63) × (length v.rows < 2 ^ 27)
  hash-few =
      let n = size_width v in
      let run = packed (hash_bits v n) in
      let rows = flat_map (λ k. bucket_bytes (bucket v k)) (hash_keys v) in (
        omega (
          arith,
          hash-parts (codes "IBHh") (head v.dim (length v.rows) true) (short_number v.b) (short_number v.nflip)
              (number (length (hash_keys v))) (short_number n) (vector run) rows,
          length-head v.dim (length v.rows) true,
          length-number 4 v.b,
          length-number 4 v.nflip,
          length-number 8 (length (hash_keys v)),
          length-number 4 n,
          length-append (number (length run)) run,
          length-number 8 (length run),
          packed-few v legal,
          buckets-few,
        ),
        omega (arith, hash_sizes.rows-few v legal),
      )

-- ---- MultiHash

module _ (v : MultiValue) (legal : IsLegalMulti v) where
  map-few : (i : ℕ) → length (map_bytes v i) ≤ 2 ^ 33
  unfolding number_bytes
  map-few i =
      let n = position_width (length v.codes) in
      let entries = number (length (entries_of v i)) in
      let run = packed (entry_bits v.b n (entries_of v i)) in
      omega (
        arith,
        length-append (short_number n ++ entries) (vector run),
        length-append (short_number n) entries,
        length-append (number (length run)) run,
        length-number 4 n,
        length-number 8 (length (entries_of v i)),
        length-number 8 (length run),
        map_sizes.packed-few v legal i,
      )

  maps-few : (maps : List ℕ) → length (flat_map (map_bytes v) maps) ≤ length maps * 2 ^ 33
  maps-few [] = omega arith
  maps-few (i ∷ maps) = omega (
    arith,
    length-append (map_bytes v i) (flat_map (map_bytes v) maps),
    map-few i,
    maps-few maps,
  )

  multi-parts : (a b c d e f g : List ℕ) → length (a ++ b ++ c ++ d ++ e ++ f ++ g)
      ≡ length a + length b + length c + length d + length e + length f + length g
  multi-parts a b c d e f g = simp length-append

  multi-few : (length (multi_bytes v) < 2 ^ 63) × (length v.codes < 2 ^ 27)
  multi-few =
      let maps = flat_map (map_bytes v) (range_with_len 0 v.nhash) in
      let count : length v.codes * 16 ≤ length v.codes * (v.dim / 8 + 16 + 64 * v.nhash) = grind arith in
      let stored : length v.codes * (v.dim / 8) ≤ length v.codes * (v.dim / 8 + 16 + 64 * v.nhash) = grind arith in (
        omega (
          arith,
          multi-parts (codes "IBHm") (head v.dim (length v.codes) true) (flat_bytes v.dim v.codes)
              (short_number v.b) (short_number v.nhash) (short_number v.nflip) maps,
          length-head v.dim (length v.codes) true,
          length-flat v.dim v.codes legal.codes,
          length-number 4 v.b,
          length-number 4 v.nhash,
          length-number 4 v.nflip,
          maps-few (range_with_len 0 v.nhash),
          length-range_with_len 0 v.nhash,
          stored,
          legal.nhash_most,
          legal.load,
        ),
        omega (arith, count, legal.load),
      )

-- ---- all

few-inner : (v : Inner) → IsLegalInner v → (length (inner_bytes v) < 2 ^ 63) × (count_of_inner v < 2 ^ 27)
few-inner (Flat v) legal = (let few = flat-few v legal in (omega (arith, few.0), few.1))
few-inner (Ivf v) legal = ivf-few v legal
few-inner (Hash v) legal = hash-few v legal
few-inner (Multi v) legal = multi-few v legal

-- the spelling of an index, and the number of its rows
pub inner-few : (v : Inner) → IsLegalInner v
    → (length (inner_bytes (settled_inner v)) < 2 ^ 63) × (count_of_inner v < 2 ^ 27)
inner-few v legal = ((few-inner (settled_inner v) (legal-inner v legal)).0, (few-inner v legal).1)

four-letters : (name : MapName) → length (map_letters name) ≡ 4
four-letters Map = refl
four-letters Map2 = refl

-- the number of bytes of what is written is one of 64 bits
pub canon-few : (v : IndexValue) → IsLegal v → length (canon v) < 2 ^ 64
unfolding canon
canon-few (Bare v) legal = (let few = inner-few v legal in omega (arith, few.0))
canon-few (IdMap name v ids) legal =
    let hd = head (dim_of_inner v) (count_of_inner v) (is_trained_inner v) in
    let inside = inner_bytes (settled_inner v) in
    let count = number (length ids) in
    let few = inner-few v legal.inner in
    omega (
      arith,
      few.0,
      few.1,
      length-append (((map_letters name ++ hd) ++ inside) ++ count) (ids_bytes ids),
      length-append ((map_letters name ++ hd) ++ inside) count,
      length-append (map_letters name ++ hd) inside,
      length-append (map_letters name) hd,
      four-letters name,
      length-head (dim_of_inner v) (count_of_inner v) (is_trained_inner v),
      length-number 8 (length ids),
      length-ids ids,
      legal.count,
    )

-- what was written from the beginning on
pub all-written : (n at : ℕ) → n < 2 ^ 64 → at ≡ raised 0 n → at ≡ n
all-written n at few e = omega (arith, few, e)
