-- The buckets of a MultiHash, as they are written.
use Rattle.std.proofs.Common.{◌≡◌, ℕ, zero, suc, ◌+◌, ◌-◌, ◌*◌, ◌/◌, ◌^◌, ◌<◌, ◌≤◌, eqb, ℤ, pos, List, [], ◌∷◌, ◌++◌}
use Rattle.std.proofs.Common.{length, map, get_or, take, drop, All, refl, sym, ap, subst, ◌∙◌, append_assoc, add-one}
use Rattle.std.proofs.Common.{arith, true}
use Rattle.std.specs.Prelude.{FitsSigned, codes, nat_abs}
use Rattle.std.specs.Int.{w64}
use Rattle.std.specs.List.{flat_map, range_with_len}
use Rattle.std.proofs.Math.Seq.{drop-cons}
use Rattle.std.proofs.lemmas.Int.{fits_signed_from_abs}
use Rattle.std.proofs.lemmas.List.{length-map, drop-map, take-map, map-append, take-append-drop, drop-drop}
use Rattle.std.proofs.lemmas.List.FromFn.{length-range_with_len, get_or-range_with_len}
use Rattle.std.proofs.lemmas.List.Sums.{sum_by-cons}
use Rattle.std.proofs.lemmas.List.Elements.{All-filter, All-map, All-take, All-drop}
use Rattle.bcodes.specs.Ranges.{load_limit}
use Rattle.bcodes.specs.Value.{MultiValue, IsLegalMulti}
use Rattle.bit_strings.specs.Packed.{Bits, total_width, packed}
use Rattle.bit_strings.specs.States.{Written as Numbers}
use Rattle.code_pool.specs.Lists.{IsPart}
use Rattle.key_buckets.specs.Keys.{firsts}
use Rattle.multi_hash.specs.Maps.{map_key, map_keys, positions, positions_at}
use Rattle.index_files.specs.Groups.{Entry, entries_of}
use Rattle.index_files.specs.File.{bits_of_entry, entry_bits}
use Rattle.index_files.specs.Canon.{number, short_number, vector, head, flat_bytes, position_width, map_bytes}
use Rattle.index_files.specs.Canon.{multi_bytes}
use Rattle.index_files.specs.Writing.{Packs}
use Rattle.index_files.proofs.HashSpelled.{firsts-few}
use Rattle.index_files.proofs.HashWriting.{from_place}
use Rattle.index_files.proofs.MapLaw.{total-again}
use Rattle.index_files.proofs.MapSpelled.{entries-are}
use Rattle.index_files.proofs.MultiRun.{run-width}
use Rattle.index_files.proofs.PackingLemmas.{IsPacking, packing_room, packs_twice, one_width}

-- a bucket of a map by its key
abbrev pub entry_at : MultiValue → ℕ → ℕ → Entry
entry_at v i k = record { key = k; positions = positions v i k }

-- ---- sizes

pub codes_few : (v : MultiValue) → IsLegalMulti v → length v.codes < 2 ^ 24
codes_few v legal =
    let a : length v.codes * 80 ≤ length v.codes * (v.dim / 8 + 16 + 64 * v.nhash) =
    heavy (length v.codes) (v.dim / 8) v.nhash legal.nhash_least in
    omega (arith, a, legal.load)
  where
    heavy : (n d m : ℕ) → 1 ≤ m → n * 80 ≤ n * (d + 16 + 64 * m)
    heavy n d m le = grind arith

pub keys_few : (v : MultiValue) (i : ℕ) → length (map_keys v i) ≤ length v.codes
unfolding map_keys
keys_few v i =
    let xs = range_with_len 0 (length v.codes) in
    omega (
      arith,
      firsts-few (map (map_key v i) xs),
      length-map xs (map_key v i),
      length-range_with_len 0 (length v.codes),
    )

-- the bits of a map
pub map_width : (v : MultiValue) (i n : ℕ) → IsLegalMulti v
    → total_width (entry_bits v.b n (entries_of v i)) ≡ length (map_keys v i) * (v.b + n) + length v.codes * n
map_width v i n legal =
    let es = entries_of v i in
    let total = total-again v i (omega (arith, codes_few v legal)) es (entries-are v i) in
    let turn : (v.b + n) * length es ≡ length es * (v.b + n) = grind arith in
    run-width v.codes i v.b n es
    ∙ ap (λ k. (v.b + n) * length es + k * n) total
    ∙ ap (λ k. k + length v.codes * n) turn
    ∙ ap (λ k. k * (v.b + n) + length v.codes * n) (length-map (map_keys v i) (entry_at v i))

-- ---- entries

pub entries_more : (v : MultiValue) (i n j : ℕ) → j < length (map_keys v i)
    → entry_bits v.b n (map (entry_at v i) (drop j (map_keys v i)))
    ≡ bits_of_entry v.b n (entry_at v i (get_or (map_keys v i) j 0))
    ++ entry_bits v.b n (map (entry_at v i) (drop (j + 1) (map_keys v i)))
entries_more v i n j here = ap (λ ks. entry_bits v.b n (map (entry_at v i) ks)) (from_place (map_keys v i) j here)

-- a position in n bits, and the same of a position that is given as a label
abbrev pub in_bits : ℕ → ℕ → Bits
in_bits n p = record { number = p; width = n }

abbrev pub label_in_bits : ℕ → ℤ → Bits
label_in_bits n z = record { number = nat_abs z; width = n }

pub width_all : {X : Type 0} (n : ℕ) (f : X → Bits) → ((x : X) → (f x).width ≡ n) → (xs : List X)
    → total_width (map f xs) ≡ length xs * n
width_all n f same [] = omega arith
width_all n f same (x ∷ xs) =
    let one : suc (length xs) * n ≡ n + length xs * n = grind arith in
    omega (arith, sum_by-cons (λ (x : Bits). x.width) (f x) (map f xs), same x, width_all n f same xs, one)

entry_width : (v : MultiValue) (i n k : ℕ)
    → total_width (bits_of_entry v.b n (entry_at v i k)) ≡ v.b + (n + length (positions v i k) * n)
entry_width v i n k =
    let size : Bits = record { number = length (positions v i k); width = n } in
    let rest = map (in_bits n) (positions v i k) in
    sum_by-cons (λ (x : Bits). x.width) (record { number = k; width = v.b }) (size ∷ rest)
    ∙ ap (λ m. v.b + m) (sum_by-cons (λ (x : Bits). x.width) size rest
    ∙ ap (λ m. n + m) (width_all n (in_bits n) (λ p. refl) (positions v i k)))

-- a bucket that comes next has room for its key, its size and its positions
pub entry_room : (v : MultiValue) (i n j room : ℕ) (start now : Numbers) → IsLegalMulti v
    → j < length (map_keys v i)
    → IsPacking start (entry_bits v.b n (entries_of v i))
    (entry_bits v.b n (map (entry_at v i) (drop j (map_keys v i)))) now
    → start ≡ record { bits = []; room = room }
    → room ≡ length (map_keys v i) * (v.b + n) + length v.codes * n
    → total_width (bits_of_entry v.b n (entry_at v i (get_or (map_keys v i) j 0))) ≤ now.room
entry_room v i n j room start now legal here h is counted =
    let all = entry_bits v.b n (entries_of v i) in
    let fits : total_width all ≤ start.room =
    omega (arith, map_width v i n legal, ap (λ (s : Numbers). s.room) is, counted) in
    packing_room start all (bits_of_entry v.b n (entry_at v i (get_or (map_keys v i) j 0)))
    (entry_bits v.b n (map (entry_at v i) (drop (j + 1) (map_keys v i))))
    (entry_bits v.b n (map (entry_at v i) (drop j (map_keys v i)))) now h (entries_more v i n j here) fits

-- then there is room for the positions behind the key and the size
pub positions_room : (v : MultiValue) (i n k key size b : ℕ) (old mid now : Numbers) → b ≡ v.b
    → total_width (bits_of_entry v.b n (entry_at v i k)) ≤ old.room
    → Packs (record { number = key; width = b } ∷ []) old mid
    → Packs (record { number = size; width = n } ∷ []) mid now → length (positions v i k) * n ≤ now.room
positions_room v i n k key size b old mid now is fits first second = omega (
  arith,
  is,
  fits,
  entry_width v i n k,
  first.room,
  second.room,
  one_width key b,
  one_width size n,
)

pub head_room : (v : MultiValue) (i n k b : ℕ) (old : Numbers) → b ≡ v.b
    → total_width (bits_of_entry v.b n (entry_at v i k)) ≤ old.room → b + n ≤ old.room
head_room v i n k b old is fits = omega (arith, is, fits, entry_width v i n k)

-- the key, the size and the positions of a bucket
pub entry_packs : (v : MultiValue) (i n k key size b : ℕ) (old mid next new : Numbers) → key ≡ k
    → size ≡ length (positions v i k) → b ≡ v.b → Packs (record { number = key; width = b } ∷ []) old mid
    → Packs (record { number = size; width = n } ∷ []) mid next → Packs (map (in_bits n) (positions v i k)) next new
    → Packs (bits_of_entry v.b n (entry_at v i k)) old new
entry_packs v i n k key size b old mid next new e f g first second third =
    let rest = map (in_bits n) (positions v i k) in
    let both = packs_twice (record { number = key; width = b } ∷ []) (record { number = size; width = n } ∷ [])
    old mid next first second in
    let all = packs_twice (record { number = key; width = b } ∷ record { number = size; width = n } ∷ []) rest
    old next new both third in
    subst (λ (x : ℕ). Packs (record { number = k; width = v.b } ∷ record { number = x; width = n } ∷ rest) old new) f
    (subst (λ (x : ℕ). Packs (record { number = k; width = x } ∷ record { number = size; width = n } ∷ rest) old new) g
    (subst (λ (x : ℕ). Packs (record { number = x; width = b } ∷ record { number = size; width = n } ∷ rest) old new) e
    all))

-- ---- positions that are lent

labels-back : (n : ℕ) (ps : List ℕ) → map (label_in_bits n) (map pos ps) ≡ map (in_bits n) ps
labels-back n [] = refl
labels-back n (p ∷ ps) = ap (λ (xs : List Bits). in_bits n p ∷ xs) (labels-back n ps)

part-is : (ps : List ℕ) (from : ℕ) (part : List ℤ) → IsPart (map pos ps) from part
    → part ≡ map pos (take (length part) (drop from ps))
part-is ps from part h =
    h.labels ∙ ap (take (length part)) (drop-map pos from ps) ∙ take-map pos (length part) (drop from ps)

-- positions that are lent, and those behind them
pub part_bits : (n : ℕ) (ps : List ℕ) (from : ℕ) (part : List ℤ) → IsPart (map pos ps) from part
    → map (in_bits n) (drop from ps)
    ≡ map (label_in_bits n) part ++ map (in_bits n) (drop (from + length part) ps)
part_bits n ps from part h =
    let k = length part in
    let own : map (in_bits n) (take k (drop from ps)) ≡ map (label_in_bits n) part =
    sym (ap (map (label_in_bits n)) (part-is ps from part h) ∙ labels-back n (take k (drop from ps))) in
    ap (map (in_bits n)) (sym (take-append-drop k (drop from ps)))
    ∙ map-append (in_bits n) (take k (drop from ps)) (drop k (drop from ps))
    ∙ ap (λ (xs : List Bits). xs ++ map (in_bits n) (drop k (drop from ps))) own
    ∙ ap (λ (qs : List ℕ). map (label_in_bits n) part ++ map (in_bits n) qs) (drop-drop k from ps)

positions-below : (v : MultiValue) (i k : ℕ) → All (λ p. p < length v.codes) (positions v i k)
unfolding positions
positions-below v i k =
    All-filter (λ p. eqb (map_key v i p) k) (λ p. p < length v.codes) (range_with_len 0 (length v.codes))
    (λ j d lt. (let len = length-range_with_len 0 (length v.codes) in
    let g = get_or-range_with_len 0 (length v.codes) j d (omega (arith, len, lt)) in omega (arith, g, len, lt)))

small-fits : (p : ℕ) → p < 2 ^ 63 → FitsSigned w64 (pos p)
small-fits p lt = fits_signed_from_abs w64 (pos p) lt

-- positions that are lent are labels that fit
pub part_fits : (v : MultiValue) (i k from : ℕ) (part : List ℤ) → IsLegalMulti v
    → IsPart (map pos (positions v i k)) from part → All (FitsSigned w64) part
part_fits v i k from part legal h =
    let ps = positions v i k in
    let few = codes_few v legal in
    let below = All-take (λ p. p < length v.codes) (length part) (drop from ps)
    (All-drop (λ p. p < length v.codes) from ps (positions-below v i k)) in
    subst (All (FitsSigned w64)) (sym (part-is ps from part h))
    (All-map (FitsSigned w64) pos (take (length part) (drop from ps))
    (λ j d lt. small-fits _ (omega (arith, below j d lt, few))))

-- a label and those behind it
pub label_more : (n : ℕ) (labels : List ℤ) (j : ℕ) → j < length labels
    → map (label_in_bits n) (drop j labels)
    ≡ (label_in_bits n (get_or labels j (pos 0)) ∷ []) ++ map (label_in_bits n) (drop (j + 1) labels)
label_more n labels j here = ap (map (label_in_bits n)) (drop-cons labels j (pos 0) here
    ∙ ap (λ (k : ℕ). get_or labels j (pos 0) ∷ drop k labels) (sym (add-one j)))

-- ---- maps

pub maps_more : (v : MultiValue) (i : ℕ) → i < v.nhash
    → flat_map (map_bytes v) (range_with_len i (v.nhash - i))
    ≡ map_bytes v i ++ flat_map (map_bytes v) (range_with_len (i + 1) (v.nhash - (i + 1)))
maps_more v i here =
    let more : v.nhash - i ≡ suc (v.nhash - (i + 1)) = omega arith in
    ap (λ (n : ℕ). flat_map (map_bytes v) (range_with_len i n)) more

pub map_parts : (v : MultiValue) (i n count : ℕ) (run : List ℕ) → n ≡ position_width (length v.codes)
    → count ≡ length (map_keys v i) → run ≡ packed (entry_bits v.b n (entries_of v i))
    → short_number n ++ number count ++ vector run ≡ map_bytes v i
map_parts v i n count run width keys is =
    let es = entries_of v i in
    ap (λ (bytes : List ℕ). short_number n ++ number count ++ vector bytes) is
    ∙ ap (λ (m : ℕ). short_number n ++ number m ++ vector (packed (entry_bits v.b n es)))
    (keys ∙ sym (length-map (map_keys v i) (entry_at v i)))
    ∙ ap (λ (m : ℕ). short_number m ++ number (length es) ++ vector (packed (entry_bits v.b m es))) width

-- ---- all

pub multi_parts : (v : MultiValue) (dim count b nhash nflip : ℕ) → dim ≡ v.dim → count ≡ length v.codes → b ≡ v.b
    → nhash ≡ v.nhash → nflip ≡ v.nflip
    → codes "IBHm" ++ head dim count true ++ flat_bytes v.dim v.codes ++ short_number b ++ short_number nhash
    ++ short_number nflip ++ flat_map (map_bytes v) (range_with_len 0 v.nhash) ≡ multi_bytes v
multi_parts v dim count b nhash nflip d n e m f =
    ap (λ (k : ℕ). form k count b nhash nflip) d
    ∙ ap (λ (k : ℕ). form v.dim k b nhash nflip) n
    ∙ ap (λ (k : ℕ). form v.dim (length v.codes) k nhash nflip) e
    ∙ ap (λ (k : ℕ). form v.dim (length v.codes) v.b k nflip) m
    ∙ ap (λ (k : ℕ). form v.dim (length v.codes) v.b v.nhash k) f
  where
    form : ℕ → ℕ → ℕ → ℕ → ℕ → List ℕ
    form dim count b nhash nflip =
        codes "IBHm" ++ head dim count true ++ flat_bytes v.dim v.codes ++ short_number b ++ short_number nhash
        ++ short_number nflip ++ flat_map (map_bytes v) (range_with_len 0 v.nhash)
