-- The packed run of a Hash, and the rows of its buckets: what is read is spelled so, and the other way round.
use Rattle.std.proofs.Common.{◌≡◌, inl, inr, ℕ, zero, suc, ◌+◌, ◌-◌, ◌*◌, ◌/◌, ◌^◌, ◌<◌}
use Rattle.std.proofs.Common.{max, ℤ, Bool, true, false, eqb, not, ◌&&◌, List, [], ◌∷◌, ◌++◌, length}
use Rattle.std.proofs.Common.{map, All, None, refl, sym, ap, subst, ◌∙◌, append_assoc, arith}
use Rattle.std.specs.Prelude.{FitsSigned, sum, fold}
use Rattle.std.specs.Int.{w64}
use Rattle.std.specs.List.{flat_map, list_any, range_with_len}
use Rattle.std.proofs.lemmas.Bool.{cases_Bool, eqb-true, eqb-false, eq-eqb, ne_eqb, not-false, not_from_true}
use Rattle.std.proofs.lemmas.List.{append-nil, length-append, length-map}
use Rattle.std.proofs.lemmas.List.Sums.{sum_by-cons}
use Rattle.std.proofs.lemmas.List.Elements.{All-nil, All-cons, All-head, All-tail}
use Rattle.byteorder.specs.Endian.{little_number}
use Rattle.byteorder.specs.Numbers.{little_from-lt}
use Rattle.bcodes.specs.Bits.{key}
use Rattle.bcodes.specs.Value.{Row, HasBytes}
use Rattle.file_parts.specs.declared.role.Role.{Role}
use Rattle.file_parts.specs.declared.reason.Reason.{Reason}
use Rattle.file_parts.specs.declared.reason.Reason.TheVariants as reason
use Rattle.file_parts.specs.Format.{Check, ◌⇒◌, first_refusal, Spells, ◌>>=◌, done}
use Rattle.file_parts.specs.Fields.{number_of, signed_of, repeated}
use Rattle.file_parts.proofs.Reading.{one_check, spells-split, spells-join}
use Rattle.bit_strings.specs.Packed.{Bits, total_width, packed}
use Rattle.index_files.specs.Parts.{Each, Is, Signed}
use Rattle.index_files.specs.Canon.{bit_length}
use Rattle.index_files.specs.File.{BucketPart}
use Rattle.index_files.specs.FlatFormat.{is_inside, is_no_place}
use Rattle.hash_index.specs.Keys.{key_of}
use Rattle.index_files.specs.Counts.{known_count}
use Rattle.index_files.specs.HashFormat.{KeySize, bucket_at, buckets_in, has_padding, bucket_checks, hash_run_checks}
use Rattle.index_files.specs.HashFormat.{bucket_id, bucket_code, hash_rows, rows_under, bucket_rows}
use Rattle.index_files.proofs.Heads.{pass_one}
use Rattle.index_files.proofs.Elements.{IsBytes, front-bytes, back-bytes, repeated-found, repeated-again}
use Rattle.index_files.proofs.FileLaws.{at_end, byte-at, signed-fits}
use Rattle.index_files.proofs.Each.{each-map}
use Rattle.index_files.proofs.HashGroups.{NewKeys, AreKeyed}
use Rattle.bit_strings.proofs.PackedLemmas.{At, byte_count, packed-found}

-- ---- checks in a row

pub both-pass : (xs ys : List Check) → first_refusal (xs ++ ys) ≡ None
    → (first_refusal xs ≡ None) × (first_refusal ys ≡ None)
both-pass [] ys h = (refl, h)
both-pass (c ∷ cs) ys h =
    elim (cases_Bool c.refused) [
      | inl e ↦ absurd (let k = rw e at h in cc)
      | inr e ↦ (let k : first_refusal (cs ++ ys) ≡ None = rw e at h in let p = both-pass cs ys k in
          (rw e p.0, p.1))
    ]

pub pass-both : (xs ys : List Check) → first_refusal xs ≡ None → first_refusal ys ≡ None
    → first_refusal (xs ++ ys) ≡ None
pass-both [] ys h k = k
pass-both (c ∷ cs) ys h k =
    elim (cases_Bool c.refused) [
      | inl e ↦ absurd (let l = rw e at h in cc)
      | inr e ↦ (let l : first_refusal cs ≡ None = rw e at h in rw e (pass-both cs ys l k))
    ]

pub first-passes : (b : Bool) (why : Reason) (cs : List Check) → first_refusal ((b ⇒ why) ∷ cs) ≡ None
    → (b ≡ false) × (first_refusal cs ≡ None)
first-passes true why cs h = absurd cc
first-passes false why cs h = (refl, h)

pub passes-first : (b : Bool) (why : Reason) (cs : List Check) → b ≡ false → first_refusal cs ≡ None
    → first_refusal ((b ⇒ why) ∷ cs) ≡ None
passes-first true why cs e h = absurd cc
passes-first false why cs e h = h

positive : (s : ℕ) → eqb s 0 ≡ false → 0 < s
positive s e = (let ne = eqb-false s 0 e in omega (arith, ne))

checks-new : (seen : List ℕ) (ps : List KeySize) → first_refusal (bucket_checks seen ps) ≡ None
    → NewKeys seen ps
checks-new seen [] h = tt
checks-new seen (p ∷ ps) h =
    let one = first-passes (list_any (λ k. eqb k p.key) seen) reason.DuplicateKey
    ((eqb p.size 0 ⇒ reason.EmptyBucket) ∷ bucket_checks (p.key ∷ seen) ps) h in
    let two = first-passes (eqb p.size 0) reason.EmptyBucket (bucket_checks (p.key ∷ seen) ps) one.1 in
    (one.0, positive p.size two.0, checks-new (p.key ∷ seen) ps two.1)

new-checks : (seen : List ℕ) (ps : List KeySize) → NewKeys seen ps
    → first_refusal (bucket_checks seen ps) ≡ None
new-checks seen [] h = refl
new-checks seen (p ∷ ps) (fresh, some, h) =
    passes-first (list_any (λ k. eqb k p.key) seen) reason.DuplicateKey
    ((eqb p.size 0 ⇒ reason.EmptyBucket) ∷ bucket_checks (p.key ∷ seen) ps) fresh
    (passes-first (eqb p.size 0) reason.EmptyBucket (bucket_checks (p.key ∷ seen) ps)
    (ne_eqb p.size 0 (omega (arith, some))) (new-checks (p.key ∷ seen) ps h))

abbrev pub sizes_of : List KeySize → List ℕ
sizes_of ps = map (λ p. p.size) ps

pub record RunPasses (b n buckets total : ℕ) (run : List ℕ) : Type 0 where
  pub new : NewKeys [] (buckets_in run b n buckets)
  pub total_is : sum (sizes_of (buckets_in run b n buckets)) ≡ total
  pub width : n ≡ bit_length (fold max 0 (sizes_of (buckets_in run b n buckets)))
  pub zeros : key run (buckets * (b + n)) (8 * length run - buckets * (b + n)) ≡ 0

abbrev last_checks : ℕ → ℕ → ℕ → ℕ → List ℕ → List Check
last_checks b n buckets total run =
    (not (eqb (sum (sizes_of (buckets_in run b n buckets))) total) ⇒ reason.ListSizes)
    ∷ (not (eqb n (bit_length (fold max 0 (sizes_of (buckets_in run b n buckets))))) ⇒ reason.Bits)
    ∷ (has_padding run (buckets * (b + n)) ⇒ reason.Padding)
    ∷ []

pub run-passes : (b n buckets total : ℕ) (run : List ℕ)
    → first_refusal (hash_run_checks b n buckets total run) ≡ None → RunPasses b n buckets total run
unfolding hash_run_checks
run-passes b n buckets total run h =
    let ps = buckets_in run b n buckets in
    let width = not (eqb n (bit_length (fold max 0 (sizes_of ps)))) in
    let two = both-pass (bucket_checks [] ps) (last_checks b n buckets total run) h in
    let sums = first-passes (not (eqb (sum (sizes_of ps)) total)) reason.ListSizes
    ((width ⇒ reason.Bits) ∷ (has_padding run (buckets * (b + n)) ⇒ reason.Padding) ∷ []) two.1 in
    let bits = first-passes width reason.Bits
    ((has_padding run (buckets * (b + n)) ⇒ reason.Padding) ∷ []) sums.1 in
    let pad = first-passes (has_padding run (buckets * (b + n))) reason.Padding [] bits.1 in
    record {
      new = checks-new [] ps two.0;
      total_is = eqb-true _ _ (not-false _ sums.0);
      width =
          eqb-true _ _ (not-false _ bits.0);
      zeros = eqb-true _ _ (not-false _ pad.0);
    }

pub passes-run : (b n buckets total : ℕ) (run : List ℕ) → RunPasses b n buckets total run
    → first_refusal (hash_run_checks b n buckets total run) ≡ None
unfolding hash_run_checks
passes-run b n buckets total run h =
    let ps = buckets_in run b n buckets in
    let width = not (eqb n (bit_length (fold max 0 (sizes_of ps)))) in
    pass-both (bucket_checks [] ps) (last_checks b n buckets total run) (new-checks [] ps h.new)
    (passes-first (not (eqb (sum (sizes_of ps)) total)) reason.ListSizes
    ((width ⇒ reason.Bits) ∷ (has_padding run (buckets * (b + n)) ⇒ reason.Padding) ∷ [])
    (not_from_true _ (eq-eqb _ _ h.total_is))
    (passes-first width reason.Bits ((has_padding run (buckets * (b + n)) ⇒ reason.Padding) ∷ [])
    (not_from_true _ (eq-eqb _ _ h.width))
    (passes-first (has_padding run (buckets * (b + n))) reason.Padding [] (not_from_true _ (eq-eqb _ _ h.zeros)) refl)))

-- ---- the run as packed numbers

abbrev pub run_bits : ℕ → ℕ → List KeySize → List Bits
run_bits b n ps = flat_map (λ p. record { number = p.key; width = b } ∷ record {
  number = p.size;
  width =
      n;
} ∷ []) ps

next-place : (i b n : ℕ) → (i * (b + n) + b) + n ≡ (i + 1) * (b + n)
next-place i b n = grind arith

run-at : (run : List ℕ) (b n m i : ℕ)
    → At run (i * (b + n)) (run_bits b n (map (bucket_at run b n) (range_with_len i m)))
run-at run b n zero i = tt
run-at run b n (suc m) i = (
  refl,
  (
    refl,
    subst (λ k. At run k (run_bits b n (map (bucket_at run b n) (range_with_len (i + 1) m))))
        (sym (next-place i b n)) (run-at run b n m (i + 1)),
  ),
)

pub at-run : (run : List ℕ) (b n i : ℕ) (ps : List KeySize) → At run (i * (b + n)) (run_bits b n ps)
    → map (bucket_at run b n) (range_with_len i (length ps)) ≡ ps
at-run run b n i [] h = refl
at-run run b n i (p ∷ ps) (k, (s, h)) =
    let ih = at-run run b n (i + 1) ps (subst (λ k. At run k (run_bits b n ps)) (next-place i b n) h) in
    ap (λ (x : ℕ). record {
      key = x;
      size =
          key run (i * (b + n) + b) n;
    } ∷ map (bucket_at run b n) (range_with_len (i + 1) (length ps))) k
    ∙ ap (λ (x : ℕ). record {
      key = p.key;
      size =
          x;
    } ∷ map (bucket_at run b n) (range_with_len (i + 1) (length ps))) s
    ∙ ap (λ (qs : List KeySize). p ∷ qs) ih

pub run-width : (b n : ℕ) (ps : List KeySize) → total_width (run_bits b n ps) ≡ length ps * (b + n)
run-width b n [] = omega arith
run-width b n (p ∷ ps) =
    let one : total_width (run_bits b n (p ∷ ps)) ≡ b + (n + total_width (run_bits b n ps)) =
    sum_by-cons (λ (x : Bits). x.width) (record { number = p.key; width = b })
    (record { number = p.size; width = n } ∷ run_bits b n ps)
    ∙ ap (λ k. b + k) (sum_by-cons (λ (x : Bits). x.width) (record { number = p.size; width = n })
    (run_bits b n ps)) in
    let all : suc (length ps) * (b + n) ≡ length ps * (b + n) + (b + n) = grind arith in
    omega (arith, one, run-width b n ps, all)

pub count-buckets : (run : List ℕ) (b n m i : ℕ) → length (map (bucket_at run b n) (range_with_len i m)) ≡ m
count-buckets run b n zero i = refl
count-buckets run b n (suc m) i = ap suc (count-buckets run b n m (i + 1))

-- a run that passes is its packed buckets
pub run-packed : (b n buckets total : ℕ) (run : List ℕ) → IsBytes run
    → length run ≡ ((b + n) * buckets + 7) / 8 → RunPasses b n buckets total run
    → packed (run_bits b n (buckets_in run b n buckets)) ≡ run
run-packed b n buckets total run fits len h =
    let ps = buckets_in run b n buckets in
    let w : total_width (run_bits b n ps) ≡ buckets * (b + n) =
    run-width b n ps ∙ ap (λ m. m * (b + n)) (count-buckets run b n buckets 0) in
    let turn : buckets * (b + n) ≡ (b + n) * buckets = grind arith in
    let size : length run ≡ byte_count (run_bits b n ps) = len ∙ ap (λ k. (k + 7) / 8) (sym turn ∙ sym w) in
    let at : At run 0 (run_bits b n ps) = (let z : 0 * (b + n) ≡ 0 = omega arith in
    subst (λ k. At run k (run_bits b n ps)) z (run-at run b n buckets 0)) in
    packed-found run (run_bits b n ps) fits at size (subst (λ k. key run k (8 * length run - k) ≡ 0) (sym w) h.zeros)

-- ---- the rows of a bucket

-- the key of a row

pub record RowPasses (role : Role) (count code_size : ℕ) (row : Row) : Type 0 where
  pub fits : FitsSigned w64 row.label
  pub place : (is_inside role && is_no_place count row.label) ≡ false
  pub code : HasBytes code_size row.code

pub record BucketRead (role : Role) (count code_size b : ℕ) (p : KeySize) (rows : List Row) : Type 0 where
  pub are : AreKeyed (key_of b) p rows
  pub passes : All (RowPasses role count code_size) rows

pub total-bytes : (size : ℕ) (rows : List Row) → All (λ row. HasBytes size row.code) rows
    → length (flat_map (λ row. row.code) rows) ≡ length rows * size
total-bytes size [] h = omega arith
total-bytes size (row ∷ rows) h =
    let one = (All-head (λ (r : Row). HasBytes size r.code) row rows h).size in
    let ih = total-bytes size rows (All-tail (λ (r : Row). HasBytes size r.code) row rows h) in
    let all : suc (length rows) * size ≡ size + length rows * size = grind arith in
    omega (arith, length-append row.code (flat_map (λ row. row.code) rows), one, ih, all)

module _ (role : Role) (total code_size b : ℕ) where
  abbrev IdFine : ℤ → Type 0
  IdFine z = FitsSigned w64 z × ((is_inside role && is_no_place total z) ≡ false)

  id-found : (bytes : List ℕ) (z : ℤ) → IsBytes bytes → Spells (bucket_id role total) bytes z
      → Signed 8 z bytes × IdFine z
  unfolding bucket_id signed_of
  id-found bytes z fits (front, back, parts, len, pass, (none, is)) =
      let all = at_end bytes front back parts none in
      let small : little_number 8 front < 2 ^ 64 =
      little_from-lt 0 8 front (byte-at front (front-bytes bytes front back parts fits)) in
      subst (λ (z : ℤ). Signed 8 z bytes × IdFine z) is (
        record { size = rw all len; reads = rw all refl },
        (signed-fits (little_number 8 front) small, one_check _ _ pass),
      )

  id-again : (bytes : List ℕ) (z : ℤ) → Signed 8 z bytes → IdFine z → Spells (bucket_id role total) bytes z
  unfolding bucket_id
  id-again bytes z h ok = (bytes, [], sym (append-nil bytes), h.size, rw h.reads (pass_one _ _ ok.1), (refl, h.reads))

  abbrev CodeFine : ℕ → List ℕ → Type 0
  CodeFine k c = HasBytes code_size c × (key c 0 b ≡ k)

  keyed-found : (k : ℕ) (bytes c : List ℕ) → IsBytes bytes → Spells (bucket_code code_size b k) bytes c
      → Is c bytes × CodeFine k c
  unfolding bucket_code
  keyed-found k bytes c fits (front, back, parts, len, pass, (none, is)) =
      let all : bytes ≡ front = at_end bytes front back parts none in
      let same : key front 0 b ≡ k = eqb-true _ _ (not-false _ (one_check _ _ pass)) in
      subst (λ (c : List ℕ). Is c bytes × CodeFine k c) is (
        all,
        (record { size = len; bytes = subst IsBytes all fits }, same),
      )

  keyed-again : (k : ℕ) (bytes c : List ℕ) → Is c bytes → CodeFine k c
      → Spells (bucket_code code_size b k) bytes c
  unfolding bucket_code
  keyed-again k bytes c is ok = subst (λ (x : List ℕ). Spells (bucket_code code_size b k) x c) (sym is) (
    c,
    [],
    sym (append-nil c),
    ok.0.size,
    pass_one _ _ (not_from_true _ (eq-eqb _ _ ok.1)),
    (refl, refl),
  )

  record Made (k : ℕ) (cs : List (List ℕ)) (rows : List Row) (id_bytes code_bytes : List ℕ) : Type 0 where
    size : length rows ≡ length cs
    keyed : All (λ row. key_of b row ≡ k) rows
    passes : All (RowPasses role total code_size) rows
    ids : Each (λ row. Signed 8 row.label) rows id_bytes
    codes : Each (λ row. Is row.code) rows code_bytes

  made : (k : ℕ) (cs : List (List ℕ)) (zs : List ℤ) (id_bytes code_bytes : List ℕ) → length cs ≡ length zs
      → All (CodeFine k) cs → All IdFine zs → Each (Signed 8) zs id_bytes → Each Is cs code_bytes
      → Made k cs (hash_rows cs zs) id_bytes code_bytes
  made k [] [] ib cb len fc fz zp cp = record {
    size = refl;
    keyed = All-nil (λ row. key_of b row ≡ k);
    passes =
        All-nil (RowPasses role total code_size);
    ids = zp;
    codes = cp;
  }
  made k [] (z ∷ zs) ib cb len fc fz zp cp = absurd (omega (arith, len))
  made k (c ∷ cs) [] ib cb len fc fz zp cp = absurd (omega (arith, len))
  made k (c ∷ cs) (z ∷ zs) ib cb len fc fz (f, g, p, sign, signs) (x, y, q, is, others) =
      let ih = made k cs zs g y (omega (arith, len)) (All-tail (CodeFine k) c cs fc)
      (All-tail IdFine z zs fz) signs others in
      let code = All-head (CodeFine k) c cs fc in
      let id = All-head IdFine z zs fz in
      record {
        size = ap suc ih.size;
        keyed = All-cons (λ row. key_of b row ≡ k) (record { label = z; code = c })
            (hash_rows cs zs) code.1 ih.keyed;
        passes = All-cons (RowPasses role total code_size) (record { label = z; code = c }) (hash_rows cs zs)
            (record { fits = id.0; place = id.1; code = code.0 }) ih.passes;
        ids = (f, g, p, sign, ih.ids);
        codes = (x, y, q, is, ih.codes);
      }

  pub bucket-found : (p : KeySize) (bytes : List ℕ) (rows : List Row) → IsBytes bytes
      → Spells (bucket_rows role code_size total b p) bytes rows
      → BucketRead role total code_size b p rows × BucketPart rows bytes
  unfolding bucket_rows known_count rows_under
  bucket-found p bytes rows fits (f0, b0, p0, l0, c0, h) =
      let fits0 = back-bytes bytes f0 b0 p0 fits in
      let s = spells-split (repeated p.size (bucket_id role total)) _ b0 rows h in
      let zs = repeated-found (bucket_id role total) (Signed 8) IdFine id-found p.size s.front s.value
      (front-bytes b0 s.front s.back s.parts fits0) s.first in
      let (f1, b1, p1, l1, c1, m) = s.more in
      let fits1 = back-bytes s.back f1 b1 p1 (back-bytes b0 s.front s.back s.parts fits0) in
      let t = spells-split (repeated p.size (bucket_code code_size b p.key))
      (λ cs. done (hash_rows cs s.value)) b1 rows m in
      let cs = repeated-found (bucket_code code_size b p.key) Is (CodeFine p.key)
      (keyed-found p.key) p.size t.front t.value (front-bytes b1 t.front t.back t.parts fits1) t.first in
      let all = at_end b1 t.front t.back t.parts t.more.0 in
      let made_rows = made p.key t.value s.value s.front t.front (cs.count
      ∙ sym zs.count) cs.each zs.each zs.parts cs.parts in
      let made_is : hash_rows t.value s.value ≡ rows = t.more.1 in
      let count : length (hash_rows t.value s.value) ≡ p.size = made_rows.size ∙ cs.count in
      let size0 : number_of 8 f0 ≡ length (hash_rows t.value s.value) =
      eqb-true _ _ (not-false _ (one_check _ _ c0)) ∙ sym count in
      let bytes_is : length (flat_map (λ row. row.code) (hash_rows t.value s.value)) ≡ p.size * code_size =
      total-bytes code_size (hash_rows t.value s.value) (λ i d lt. (made_rows.passes i d lt).code)
      ∙ ap (λ n. n * code_size) count in
      let size1 : number_of 8 f1 ≡ length (flat_map (λ row. row.code) (hash_rows t.value s.value)) =
      eqb-true _ _ (not-false _ (one_check _ _ c1)) ∙ sym bytes_is in
      subst (λ (rows : List Row). BucketRead role total code_size b p rows × BucketPart rows bytes) made_is (
        record { are = record { count = count; keyed = made_rows.keyed }; passes = made_rows.passes },
        (
          f0 ++ s.front,
          s.back,
          p0 ∙ ap (λ (x : List ℕ). f0 ++ x) s.parts ∙ sym (append_assoc f0 s.front s.back),
          (f0, s.front, refl, record { size = l0; reads = size0 }, made_rows.ids),
          (
            f1,
            b1,
            p1,
            record { size = l1; reads = size1 },
            subst (Each (λ row. Is row.code) (hash_rows t.value s.value)) (sym all) made_rows.codes,
          ),
        ),
      )

  rows-same : (rows : List Row) → hash_rows (map (λ row. row.code) rows) (map (λ row. row.label) rows) ≡ rows
  rows-same [] = refl
  rows-same (row ∷ rows) = ap (λ (rs : List Row). row ∷ rs) (rows-same rows)

  codes-fine : (k : ℕ) (rows : List Row) → All (RowPasses role total code_size) rows
      → All (λ row. key_of b row ≡ k) rows → All (CodeFine k) (map (λ row. row.code) rows)
  codes-fine k [] h e = All-nil (CodeFine k)
  codes-fine k (row ∷ rows) h e = All-cons (CodeFine k) row.code (map (λ row. row.code) rows) (
    (All-head (RowPasses role total code_size) row rows h).code,
    All-head (λ (r : Row). key_of b r ≡ k) row rows e,
  )
      (codes-fine k rows (All-tail (RowPasses role total code_size) row rows h)
      (All-tail (λ (r : Row). key_of b r ≡ k) row rows e))

  ids-fine : (rows : List Row) → All (RowPasses role total code_size) rows
      → All IdFine (map (λ row. row.label) rows)
  ids-fine [] h = All-nil IdFine
  ids-fine (row ∷ rows) h = (let one = All-head (RowPasses role total code_size) row rows h in
      All-cons IdFine row.label (map (λ row. row.label) rows) (one.fits, one.place)
      (ids-fine rows (All-tail (RowPasses role total code_size) row rows h)))

  pub bucket-again : (p : KeySize) (bytes : List ℕ) (rows : List Row)
      → BucketRead role total code_size b p rows × BucketPart rows bytes
      → Spells (bucket_rows role code_size total b p) bytes rows
  unfolding bucket_rows known_count rows_under
  bucket-again p bytes rows (h, (v, y, q, (f0, zb, q0, n0, ids), (f1, cb, q1, n1, codes))) =
      let zs = map (λ (row : Row). row.label) rows in
      let cs = map (λ (row : Row). row.code) rows in
      let zlen : length zs ≡ p.size = length-map rows (λ (row : Row). row.label) ∙ h.are.count in
      let clen : length cs ≡ p.size = length-map rows (λ (row : Row). row.code) ∙ h.are.count in
      let z = repeated-again (bucket_id role total) (Signed 8) IdFine id-again zs zb (ids-fine rows h.passes)
      (each-map (Signed 8) (λ (row : Row). row.label) rows zb ids) in
      let z' : Spells (repeated p.size (bucket_id role total)) zb zs =
      subst (λ n. Spells (repeated n (bucket_id role total)) zb zs) zlen z in
      let c = repeated-again (bucket_code code_size b p.key) Is (CodeFine p.key) (keyed-again p.key) cs cb
      (codes-fine p.key rows h.passes h.are.keyed) (each-map Is (λ (row : Row). row.code) rows cb codes) in
      let c' : Spells (repeated p.size (bucket_code code_size b p.key)) cb cs =
      subst (λ n. Spells (repeated n (bucket_code code_size b p.key)) cb cs) clen c in
      let whole : Spells (repeated p.size (bucket_code code_size b p.key) >>= λ cs. done (hash_rows cs zs))
      (cb ++ []) rows = spells-join (repeated p.size (bucket_code code_size b p.key))
      (λ cs. done (hash_rows cs zs)) cb [] cs rows c' (refl, rows-same rows) in
      let whole' = subst (λ (t : List ℕ). Spells
      (repeated p.size (bucket_code code_size b p.key) >>= λ cs. done (hash_rows cs zs)) t rows)
      (append-nil cb) whole in
      let bytes_is : length (flat_map (λ row. row.code) rows) ≡ p.size * code_size =
      total-bytes code_size rows (λ i d lt. (h.passes i d lt).code) ∙ ap (λ n. n * code_size) h.are.count in
      let pass0 = pass_one (not (eqb p.size p.size)) _ (not_from_true _ (eq-eqb p.size p.size refl)) in
      let pass1 = pass_one (not (eqb (p.size * code_size) (p.size * code_size))) _
      (not_from_true _ (eq-eqb (p.size * code_size) (p.size * code_size) refl)) in
      let parts : bytes ≡ f0 ++ (zb ++ y) = q ∙ ap (λ (t : List ℕ). t ++ y) q0 ∙ append_assoc f0 zb y in (
        f0,
        zb ++ y,
        parts,
        n0.size,
        rw (n0.reads, h.are.count) pass0,
        spells-join (repeated p.size (bucket_id role total)) _ zb y zs rows z' (
          f1,
          cb,
          q1,
          n1.size,
          rw (n1.reads, bytes_is) pass1,
          whole',
        ),
      )
