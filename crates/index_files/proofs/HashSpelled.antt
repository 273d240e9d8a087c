-- The canonical spelling of a Hash and of a MultiHash is a file of it.
use Rattle.std.proofs.Common.{◌≡◌, ℕ, ◌+◌, ◌*◌, ◌/◌, ◌^◌, ◌<◌, ◌≤◌, max, true, eqb}
use Rattle.std.proofs.Common.{not, List, [], ◌∷◌, ◌++◌, length, map, get_or, All, refl, sym, ap, subst}
use Rattle.std.proofs.Common.{◌∙◌, append_assoc, arith}
use Rattle.std.specs.Prelude.{FitsSigned, codes, fold}
use Rattle.std.specs.Int.{w64, cast_unsigned}
use Rattle.std.specs.List.{flat_map}
use Rattle.std.proofs.lemmas.List.{length-map}
use Rattle.std.proofs.lemmas.List.Folds.{flat_map-map}
use Rattle.std.proofs.lemmas.List.Sums.{length-filter, count_by-le-length}
use Rattle.std.proofs.lemmas.List.Elements.{All-filter, All-map}
use Rattle.bcodes.specs.Ranges.{load_limit}
use Rattle.bcodes.specs.Value.{Row, HashValue, Hash, HasBytes, IsLegalHash}
use Rattle.file_parts.specs.Fields.{signed_bytes}
use Rattle.bit_strings.specs.Packed.{Bits, low_bits, total_width, packed}
use Rattle.index_files.specs.Parts.{Each, Is, Signed, Bytes}
use Rattle.index_files.specs.Groups.{IsLeast}
use Rattle.key_buckets.specs.Keys.{firsts}
use Rattle.hash_index.specs.Keys.{key_of, hash_keys, bucket}
use Rattle.index_files.specs.File.{HoldsBuckets, hash_bits, BucketPart, Body}
use Rattle.index_files.specs.Canon.{number, short_number, ids_bytes, vector, head, size_width, bucket_bytes, hash_bytes}
use Rattle.index_files.proofs.Width.{below-max}
use Rattle.bit_strings.proofs.PackedLemmas.{length-bytes}
use Rattle.index_files.proofs.HashGroups.{bucket_size}
use Rattle.index_files.proofs.HashRun.{run_bits, run-width, total-bytes}
use Rattle.index_files.proofs.HashLaw.{widest}
use Rattle.index_files.proofs.IvfAgain.{all-unmap}
use Rattle.index_files.proofs.Spelled.{long-spelled, short-spelled, signed-spelled, each-spelled, head-spelled}

-- ---- sizes

pub firsts-few : (ks : List ℕ) → length (firsts ks) ≤ length ks
firsts-few [] = omega arith
firsts-few (k ∷ ks) = omega (
  arith,
  length-filter (λ j. not (eqb j k)) (firsts ks),
  count_by-le-length (λ j. not (eqb j k)) (firsts ks),
  firsts-few ks,
)

pub length-packed : (xs : List Bits) → length (packed xs) ≡ (total_width xs + 7) / 8
unfolding packed
length-packed xs = length-bytes ((total_width xs + 7) / 8) (flat_map (λ x. low_bits x.width x.number) xs)

pub bytes-spelled : (text : List ℕ) → length text < 2 ^ 64 → Bytes text (vector text)
bytes-spelled text few = (number (length text), text, refl, long-spelled (length text) few, refl)

max-below-all : (y : ℕ) (ss : List ℕ) → All (λ s. s < y) ss → 0 < y → fold max 0 ss < y
max-below-all y ss h some = below-max 0 y ss some h

filtered : (P : Row → Type 0) (v : HashValue) (k : ℕ) → All P v.rows → All P (bucket v k)
filtered P v k h = All-filter (λ row. eqb k (key_of v.b row)) P v.rows h

module _ (v : HashValue) (legal : IsLegalHash v) where
  pub rows-few : length v.rows * 80 ≤ load_limit
  rows-few =
      let e : length v.rows * 80 ≤ length v.rows * (v.dim / 8 + 16 + 64 * 1) = grind arith in
      omega (arith, e, legal.load)

  pub keys-few : length (hash_keys v) ≤ length v.rows
  keys-few = omega (arith, firsts-few (map (key_of v.b) v.rows), length-map v.rows (key_of v.b))

  bucket-few : (k : ℕ) → length (bucket v k) ≤ length v.rows
  bucket-few k = omega (
    arith,
    length-filter (λ row. eqb k (key_of v.b row)) v.rows,
    count_by-le-length (λ row. eqb k (key_of v.b row)) v.rows,
  )

  width-least : IsLeast (HoldsBuckets v) (size_width v)
  width-least =
      let ss = map (λ k. length (bucket v k)) (hash_keys v) in
      let small : All (λ s. s < 2 ^ 64) ss =
      All-map (λ s. s < 2 ^ 64) (λ k. length (bucket v k)) (hash_keys v)
      (λ i d lt. omega (arith, bucket-few (get_or (hash_keys v) i d), rows-few)) in
      let w = widest ss (max-below-all (2 ^ 64) ss small (omega arith)) in
      record {
        holds = all-unmap (λ s. s < 2 ^ size_width v) (λ k. length (bucket v k)) (hash_keys v) w.holds;
        least = λ m h. w.least m (All-map (λ s. s < 2 ^ m) (λ k. length (bucket v k)) (hash_keys v) h);
      }

  width-most : size_width v ≤ 31
  width-most = width-least.least 31 (λ i d lt. omega (arith, bucket-few (get_or (hash_keys v) i d), rows-few))

  bits-width : (n : ℕ) → total_width (hash_bits v n) ≡ length (hash_keys v) * (v.b + n)
  bits-width n =
      let ks = firsts (map (key_of v.b) v.rows) in
      let same : hash_bits v n ≡ run_bits v.b n (map (bucket_size (key_of v.b) v.rows) ks) =
      sym (flat_map-map (λ p. record { number = p.key; width = v.b } ∷ record {
        number = p.size;
        width =
            n;
      } ∷ []) (bucket_size (key_of v.b) v.rows) ks) in
      ap total_width same ∙ run-width v.b n (map (bucket_size (key_of v.b) v.rows) ks)
      ∙ ap (λ m. m * (v.b + n)) (length-map ks (bucket_size (key_of v.b) v.rows))

  pub packed-few : length (packed (hash_bits v (size_width v))) < 2 ^ 32
  packed-few =
      let w = bits-width (size_width v) in
      let most : length (hash_keys v) * (v.b + size_width v) ≤ length (hash_keys v) * 95 =
      product (length (hash_keys v)) (v.b + size_width v) (omega (arith, legal.b_most, width-most)) in
      omega (arith, length-packed (hash_bits v (size_width v)), w, most, keys-few, rows-few)
    where
      product : (k m : ℕ) → m ≤ 95 → k * m ≤ k * 95
      product k m le = grind arith

  bucket-spelled : (k : ℕ) → BucketPart (bucket v k) (bucket_bytes (bucket v k))
  bucket-spelled k =
      let rows = bucket v k in
      let fine : All (λ row. FitsSigned w64 row.label) rows =
      kept (λ row. FitsSigned w64 row.label) (λ i d lt. (legal.rows i d lt).label) in
      let codes_fine : All (λ row. HasBytes (v.dim / 8) row.code) rows =
      kept (λ row. HasBytes (v.dim / 8) row.code) (λ i d lt. (legal.rows i d lt).code) in
      let size = total-bytes (v.dim / 8) rows codes_fine in
      let most : length rows * (v.dim / 8) < 2 ^ 64 = light (length rows) (bucket-few k) in
      let ids = ids_bytes (map (λ row. row.label) rows) in
      let all = flat_map (λ (row : Row). row.code) rows in (
        number (length rows) ++ ids,
        vector all,
        refl,
        (
          number (length rows),
          ids,
          refl,
          long-spelled (length rows) (omega (arith, bucket-few k, rows-few)),
          subst (Each (λ row. Signed 8 row.label) rows)
              (sym (flat_map-map (signed_bytes 8) (λ (row : Row). row.label) rows))
              (each-spelled (λ row. Signed 8 row.label) (λ row. signed_bytes 8 row.label) rows
              (λ i d lt. signed-spelled _ (fine i d lt))),
        ),
        (
          number (length all),
          all,
          refl,
          long-spelled (length all) (omega (arith, size, most)),
          each-spelled (λ row. Is row.code) (λ row. row.code) rows (λ i d lt. refl),
        ),
      )
    where
      kept : (P : Row → Type 0) → All P v.rows → All P (bucket v k)
      kept P h = filtered P v k h

      light : (m : ℕ) → m ≤ length v.rows → m * (v.dim / 8) < 2 ^ 64
      light m le =
          let a : m * (v.dim / 8) ≤ length v.rows * (v.dim / 8 + 16 + 64 * 1) = grind arith in
          omega (arith, a, legal.load)

  pieces : (a b c d e f g h : List ℕ) → a ++ b ++ c ++ d ++ e ++ f ++ g ++ h ≡ a
      ++ (b ++ (c ++ (d ++ (e ++ (f ++ (g ++ h))))))
  pieces a b c d e f g h = simp append_assoc

  pub hash-spelled : Body (Hash v) (hash_bytes v)
  hash-spelled =
      let n = size_width v in
      let hd = head v.dim (length v.rows) true in
      let run = packed (hash_bits v n) in
      let rows = flat_map (λ k. bucket_bytes (bucket v k)) (hash_keys v) in
      let tail = vector run ++ rows in (
        codes "IBHh",
        hd ++ (short_number v.b ++ (short_number v.nflip
            ++ (number (length (hash_keys v)) ++ (short_number n ++ tail)))),
        pieces (codes "IBHh") hd (short_number v.b) (short_number v.nflip) (number (length (hash_keys v)))
            (short_number n) (vector run) rows,
        refl,
        (
          n,
          width-least,
          (
            hd,
            short_number v.b ++ (short_number v.nflip ++ (number (length (hash_keys v)) ++ (short_number n ++ tail))),
            refl,
            head-spelled (Unit {0}) v.dim (length v.rows) true legal.dim.at_most (omega (arith, rows-few)) (λ e. tt),
            (
              short_number v.b,
              short_number v.nflip ++ (number (length (hash_keys v)) ++ (short_number n ++ tail)),
              refl,
              short-spelled v.b (omega (arith, legal.b_most)),
              (
                short_number v.nflip,
                number (length (hash_keys v)) ++ (short_number n ++ tail),
                refl,
                short-spelled v.nflip (omega (arith, legal.nflip, legal.b_most)),
                (
                  number (length (hash_keys v)),
                  short_number n ++ tail,
                  refl,
                  long-spelled (length (hash_keys v)) (omega (arith, keys-few, rows-few)),
                  (
                    short_number n,
                    tail,
                    refl,
                    short-spelled n (omega (arith, width-most)),
                    (
                      vector run,
                      rows,
                      refl,
                      bytes-spelled run (omega (arith, packed-few)),
                      each-spelled (λ k. BucketPart (bucket v k)) (λ k. bucket_bytes (bucket v k)) (hash_keys v)
                          (λ i d lt. bucket-spelled _),
                    ),
                  ),
                ),
              ),
            ),
          ),
        ),
      )
