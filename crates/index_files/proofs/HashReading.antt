-- What the fields and the loops of the reader of a Hash give.
use Rattle.std.proofs.Common.{◌≡◌, inl, inr, ℕ, ◌+◌, ◌-◌, ◌*◌, ◌/◌, ◌^◌, ◌<◌, ◌≤◌, ℤ}
use Rattle.std.proofs.Common.{true, false, ltb, ◌&&◌, List, [], ◌∷◌, ◌++◌, length, map}
use Rattle.std.proofs.Common.{take, drop, All, Option, Some, None, Result, Ok, Err, refl, sym, ap, subst, ◌∙◌}
use Rattle.std.proofs.Common.{append_assoc, arith, length-append}
use Rattle.std.specs.Prelude.{sum}
use Rattle.std.proofs.lemmas.Bool.{cases_Bool, eqb-true}
use Rattle.std.proofs.lemmas.Nat.{mul-le}
use Rattle.std.proofs.Math.Nat.{mul-le-mul_right}
use Rattle.std.proofs.lemmas.List.{append-nil, length-map, map-append}
use Rattle.std.proofs.lemmas.List.Elements.{All-nil, All-cons, All-head, All-tail, All-append}
use Rattle.bcodes.specs.Ranges.{load_limit}
use Rattle.bcodes.specs.Value.{Row, HashValue, Hash, IsPlace, weight}
use Rattle.file_parts.specs.declared.file_fault.FileFault.{FileFault}
use Rattle.file_parts.specs.declared.head.Head.{Head}
use Rattle.file_parts.specs.declared.part_error.PartError.{PartError}
use Rattle.file_parts.specs.declared.part_error.PartError.TheVariants as part
use Rattle.file_parts.specs.declared.role.Role.{Role}
use Rattle.file_parts.specs.declared.role.Role.TheVariants.{Outermost, Within, Quantizer}
use Rattle.outside.specs.Calls.{KeepsFiles}
use Rattle.outside.specs.Contents.{Contents}
use Rattle.file_parts.specs.Feeding.{GivesError}
use Rattle.file_parts.specs.Fields.{any_signed, each, repeated, rows_beside, signed, signed_of, HeadValue}
use Rattle.file_parts.specs.Format.{Check, first_refusal, Format, done, on_pass, after, Place, run, ◌>>=◌}
use Rattle.file_parts.specs.Heads.{IsHead}
use Rattle.file_parts.proofs.Reading.{◌>>>◌, run_then, okay, ok-is}
use Rattle.file_parts.proofs.Repeats.{with_front}
use Rattle.index_files.specs.Counts.{known_count}
use Rattle.index_files.specs.FlatFormat.{is_inside, is_no_place}
use Rattle.index_files.specs.Groups.{concat}
use Rattle.index_files.specs.HashFormat.{KeySize, all_rows, bucket_code, bucket_id, bucket_rows, hash_rows}
use Rattle.index_files.specs.HashFormat.{b_field, hash_buckets, hash_rest, nflip_field, rows_under}
use Rattle.index_files.specs.HashReading.{behind_rows, Gains, GainsRows, GatheredRows, joined}
use Rattle.index_files.specs.Laws.{FitsRole, IsBodyRole}
use Rattle.index_files.proofs.IvfFacts.{place-found, below-place}

-- ---- numbers

pub head_few : (role : Role) (head : Head) → IsHead role head → head.count ≤ load_limit
head_few role head h =
    let one : (rows_beside role + head.count) * 1 ≤ (rows_beside role + head.count) * (head.dim / 8 + 16) =
    mul-le (rows_beside role + head.count) 1 _ _ (omega arith) (omega arith) in
    omega (arith, h.load, one)

pub b_product : (role : Role) (head : Head) → IsHead role head
    → head.count * (head.dim / 8 + 80) < 18446744073709551616
b_product role head h =
    let most : head.count * (head.dim / 8 + 80) ≤ load_limit * 8272 =
    mul-le head.count (head.dim / 8 + 80) load_limit 8272 (head_few role head h) (omega (arith, h.dim.at_most)) in
    omega (arith, most)

pub weigh_rows : (d k : ℕ) → k * (d / 8 + 80) ≤ load_limit → weight d 1 k 0 ≤ load_limit
weigh_rows d k le = (let e : k * (d / 8 + 16 + 64 * 1) ≡ k * (d / 8 + 80) = grind arith in omega (arith, le, e))

-- fewer rows weigh no more
pub weigh_fewer : (d k n : ℕ) → k ≤ n → weight d 1 n 0 ≤ load_limit → weight d 1 k 0 ≤ load_limit
weigh_fewer d k n le load =
    let less : k * (d / 8 + 16 + 64 * 1) ≤ n * (d / 8 + 16 + 64 * 1) = mul-le-mul_right (d / 8 + 16 + 64 * 1) le in
    omega (arith, load, less)

-- so many rows weigh no more than the limit only where they are few
pub few_rows : (d n : ℕ) → weight d 1 n 0 ≤ load_limit → n < 2 ^ 24
few_rows d n load =
    let less : n * 80 ≤ n * (d / 8 + 16 + 64 * 1) = mul-le n 80 n _ (omega arith) (omega arith) in
    omega (arith, load, less)

-- ---- fields

-- a signed number that is tried by checks
pub signed_checked : (w : ℕ) (checks : ℤ → List Check) (p q : Place) (z : ℤ)
    → run (any_signed w) p ≡ Ok (z, q)
    → run (signed w checks) p ≡ on_pass p.at (first_refusal (checks z)) (Ok (z, q))
signed_checked w checks p q z e =
    elim (cases_Bool (ltb (length p.bytes) w)) [
      | inl h ↦ absurd (let k = rw h at e in cc)
      | inr h ↦
          let k : okay (signed_of w (take w p.bytes), after w p) ≡ Ok (z, q) = rw h at e in
          let b : signed_of w (take w p.bytes) ≡ z = ap (λ (x : ℤ × Place). x.0) (ok-is _ _ k) in
          let r : after w p ≡ q = ap (λ (x : ℤ × Place). x.1) (ok-is _ _ k) in
          rw (h, b, r) refl
    ]

-- ---- one format after another

pub after_ok : {A B : Type 0} (f : Format A) (g : A → Format B) (p q : Place) (x : A) → run f p ≡ Ok (x, q)
    → run (f >>= g) p ≡ run (g x) q
after_ok f g p q x h = run_then f g p ∙ ap (λ r. r >>> (λ y. run (g y.0) y.1)) h

pub after_err : {A B : Type 0} (e : PartError) (f : Format A) (g : A → Format B) (p : Place)
    → GivesError e (run f p) → GivesError e (run (f >>= g) p)
after_err (part.Bad b) f g p h = run_then f g p ∙ ap (λ r. r >>> (λ y. run (g y.0) y.1)) h
after_err part.Failed f g p h = tt
after_err part.Memory f g p h = tt

-- ---- rows behind rows

pub run_behind : (rows : List Row) (f : Format (List Row)) (p : Place)
    → run (behind_rows rows f) p ≡ with_front rows (run f p)
unfolding behind_rows
run_behind rows f p = run_then f (λ more. done (rows ++ more)) p

regroup : {A : Type 0} (front xs : List A) (read : Result (List A × Place) FileFault)
    → with_front front (with_front xs read) ≡ with_front (front ++ xs) read
regroup {A = A} front xs (Ok y) = ap (λ (zs : List A). kept zs y.1) (sym (append_assoc front xs y.0))
  where
    kept : List A → Place → Result (List A × Place) FileFault
    kept zs p = Ok (zs, p)
regroup front xs (Err e) = refl

-- nothing stands behind
pub no_front : {A : Type 0} (read : Result (List A × Place) FileFault) → with_front [] read ≡ read
no_front (Ok y) = refl
no_front (Err e) = refl

-- ---- what follows the header

module _ (role : Role) (head : HeadValue) (at : Place) where
  pub settings_next : (b n : ℕ) (q to : Place) → run (b_field head) at ≡ Ok (b, q)
      → run (nflip_field b) q ≡ Ok (n, to)
      → run (hash_rest role head) at ≡ run (hash_buckets role (head.dim / 8) head.count b >>= λ rows. done (record {
        dim = head.dim;
        b = b;
        nflip = n;
        rows = rows;
      })) to
  unfolding hash_rest
  settings_next b n q to h i =
      let made : ℕ → ℕ → List Row → HashValue = λ b n rows. record {
        dim = head.dim;
        b = b;
        nflip = n;
        rows = rows;
      } in
      after_ok (b_field head) (λ b. nflip_field b >>= λ n.
      hash_buckets role (head.dim / 8) head.count b >>= λ rows. done (made b n rows)) at q b h
      ∙ after_ok (nflip_field b) (λ n. hash_buckets role (head.dim / 8) head.count b >>= λ rows. done (made b n rows))
      q to n i

  pub buckets_fail : (e : PartError) (b n : ℕ) (q to : Place) → run (b_field head) at ≡ Ok (b, q)
      → run (nflip_field b) q ≡ Ok (n, to)
      → GivesError e (run (hash_buckets role (head.dim / 8) head.count b) to)
      → GivesError e (run (hash_rest role head) at)
  buckets_fail e b n q to h i j = subst (GivesError e) (sym (settings_next b n q to h i))
      (after_err e (hash_buckets role (head.dim / 8) head.count b) (λ rows. done (record {
        dim = head.dim;
        b = b;
        nflip = n;
        rows = rows;
      })) to j)

-- ---- buckets

module _ (role : Role) (size total b : ℕ) where
  -- one bucket, and those behind it
  pub next_rows : (p : KeySize) (ps : List KeySize) (at : Place)
      → run (all_rows role size total b (p ∷ ps)) at
      ≡ run (bucket_rows role size total b p) at
      >>> (λ x. with_front x.0 (run (all_rows role size total b ps) x.1))
  unfolding all_rows
  next_rows p ps at =
      run_then (each (p ∷ ps) (bucket_rows role size total b)) (λ buckets. done (concat buckets)) at
      ∙ ap (λ r. r >>> joined)
      (run_then (bucket_rows role size total b p)
      (λ y. each ps (bucket_rows role size total b) >>= λ ys. done (y ∷ ys)) at)
      ∙ go (run (bucket_rows role size total b p) at)
    where
      joined : List (List Row) × Place → Result (List Row × Place) FileFault
      joined x = run (done (concat x.0)) x.1

      behind : (y : List Row) (r : Result (List (List Row) × Place) FileFault)
          → (r >>> (λ z. run (done (y ∷ z.0)) z.1)) >>> joined ≡ with_front y (r >>> joined)
      behind y (Ok z) = refl
      behind y (Err e) = refl

      go : (r : Result (List Row × Place) FileFault)
          → (r >>> (λ y. run (each ps (bucket_rows role size total b) >>= λ ys. done (y.0 ∷ ys)) y.1)) >>> joined
          ≡ r >>> (λ x. with_front x.0
          (run (each ps (bucket_rows role size total b) >>= λ buckets. done (concat buckets)) x.1))
      go (Ok y) =
          ap (λ r. r >>> joined)
          (run_then (each ps (bucket_rows role size total b)) (λ ys. done (y.0 ∷ ys)) y.1)
          ∙ behind y.0 (run (each ps (bucket_rows role size total b)) y.1)
          ∙ ap (with_front y.0)
          (sym (run_then (each ps (bucket_rows role size total b)) (λ buckets. done (concat buckets)) y.1))
      go (Err e) = refl

  -- a bucket was read, and the rest is still to be read
  pub bucket_read : (front rows : List Row) (p : KeySize) (ps : List KeySize) (at to : Place)
      (whole : Result (List Row × Place) FileFault)
      → run (behind_rows front (bucket_rows role size total b p)) at ≡ Ok (rows, to)
      → with_front front (run (all_rows role size total b (p ∷ ps)) at) ≡ whole
      → with_front rows (run (all_rows role size total b ps) to) ≡ whole
  bucket_read front rows p ps at to whole h so_far =
      go (run (bucket_rows role size total b p) at) (sym (run_behind front _ at) ∙ h)
      (ap (with_front front) (sym (next_rows p ps at)) ∙ so_far)
    where
      go : (r : Result (List Row × Place) FileFault) → with_front front r ≡ Ok (rows, to)
          → with_front front (r >>> (λ x. with_front x.0 (run (all_rows role size total b ps) x.1))) ≡ whole
          → with_front rows (run (all_rows role size total b ps) to) ≡ whole
      go (Ok x) e s =
          let k : okay (front ++ x.0, x.1) ≡ Ok (rows, to) = e in
          let xs : front ++ x.0 ≡ rows = ap (λ (y : List Row × Place). y.0) (ok-is _ _ k) in
          let q : x.1 ≡ to = ap (λ (y : List Row × Place). y.1) (ok-is _ _ k) in
          let one = sym (regroup front x.0 (run (all_rows role size total b ps) x.1)) ∙ s in
          rw (xs, q) at one
      go (Err f) e s = absurd cc

  pub bucket_fails : (e : PartError) (front : List Row) (p : KeySize) (ps : List KeySize) (at : Place)
      (whole : Result (List Row × Place) FileFault)
      → GivesError e (run (behind_rows front (bucket_rows role size total b p)) at)
      → with_front front (run (all_rows role size total b (p ∷ ps)) at) ≡ whole → GivesError e whole
  bucket_fails (part.Bad f) front p ps at whole h so_far =
      go (run (bucket_rows role size total b p) at) (sym (run_behind front _ at) ∙ h)
      (ap (with_front front) (sym (next_rows p ps at)) ∙ so_far)
    where
      go : (r : Result (List Row × Place) FileFault) → with_front front r ≡ Err f
          → with_front front (r >>> (λ x. with_front x.0 (run (all_rows role size total b ps) x.1))) ≡ whole
          → whole ≡ Err f
      go (Ok x) e s = absurd cc
      go (Err d) e s = sym s ∙ e
  bucket_fails part.Failed front p ps at whole h so_far = tt
  bucket_fails part.Memory front p ps at whole h so_far = tt

  pub buckets_done : (rows : List Row) (at : Place) (whole : Result (List Row × Place) FileFault)
      → with_front rows (run (all_rows role size total b []) at) ≡ whole → whole ≡ Ok (rows, at)
  unfolding all_rows
  buckets_done rows at whole h = sym h ∙ ap (λ (xs : List Row). Ok (xs, at)) (append-nil rows)

  -- what stands before the codes of a bucket
  module _ (p : KeySize) (at : Place) where
    pub ids_next : (n : ℕ) (to : Place) → run (known_count p.size) at ≡ Ok (n, to)
        → run (bucket_rows role size total b p) at ≡ run (repeated p.size (bucket_id role total) >>= λ ids.
        known_count (p.size * size) >>= λ m. rows_under size b p ids) to
    unfolding bucket_rows
    ids_next n to h = after_ok (known_count p.size) (λ n. repeated p.size (bucket_id role total) >>= λ ids.
        known_count (p.size * size) >>= λ m. rows_under size b p ids) at to n h

    pub codes_next : (rows : List Row) (n m : ℕ) (ids : List ℤ) (q r to : Place)
        → run (known_count p.size) at ≡ Ok (n, q) → run (repeated p.size (bucket_id role total)) q ≡ Ok (ids, r)
        → run (known_count (p.size * size)) r ≡ Ok (m, to)
        → run (behind_rows rows (bucket_rows role size total b p)) at
        ≡ run (behind_rows rows (rows_under size b p ids)) to
    codes_next rows n m ids q r to h i j =
        run_behind rows (bucket_rows role size total b p) at
        ∙ ap (with_front rows) (ids_next n q h
        ∙ after_ok (repeated p.size (bucket_id role total))
        (λ ids. known_count (p.size * size) >>= λ m. rows_under size b p ids) q r ids i
        ∙ after_ok (known_count (p.size * size)) (λ m. rows_under size b p ids) r to m j)
        ∙ sym (run_behind rows (rows_under size b p ids) to)

    behind_err : (e : PartError) (rows : List Row) (f : Format (List Row)) (to : Place)
        → GivesError e (run f to) → GivesError e (run (behind_rows rows f) to)
    unfolding behind_rows
    behind_err e rows f to h = after_err e f (λ more. done (rows ++ more)) to h

    pub count_fails : (e : PartError) (rows : List Row) → GivesError e (run (known_count p.size) at)
        → GivesError e (run (behind_rows rows (bucket_rows role size total b p)) at)
    unfolding bucket_rows
    count_fails e rows h = behind_err e rows (bucket_rows role size total b p) at
        (after_err e (known_count p.size) (λ n. repeated p.size (bucket_id role total) >>= λ ids.
        known_count (p.size * size) >>= λ m. rows_under size b p ids) at h)

    pub ids_fail : (e : PartError) (rows : List Row) (n : ℕ) (q : Place) → run (known_count p.size) at ≡ Ok (n, q)
        → GivesError e (run (repeated p.size (bucket_id role total)) q)
        → GivesError e (run (behind_rows rows (bucket_rows role size total b p)) at)
    ids_fail e rows n q h i = behind_err e rows (bucket_rows role size total b p) at
        (subst (GivesError e) (sym (ids_next n q h)) (after_err e (repeated p.size (bucket_id role total))
        (λ ids. known_count (p.size * size) >>= λ m. rows_under size b p ids) q i))

    pub byte_count_fails : (e : PartError) (rows : List Row) (n : ℕ) (ids : List ℤ) (q r : Place)
        → run (known_count p.size) at ≡ Ok (n, q) → run (repeated p.size (bucket_id role total)) q ≡ Ok (ids, r)
        → GivesError e (run (known_count (p.size * size)) r)
        → GivesError e (run (behind_rows rows (bucket_rows role size total b p)) at)
    byte_count_fails e rows n ids q r h i j = behind_err e rows (bucket_rows role size total b p) at
        (subst (GivesError e) (sym (ids_next n q h
        ∙ after_ok (repeated p.size (bucket_id role total))
        (λ ids. known_count (p.size * size) >>= λ m. rows_under size b p ids) q r ids i))
        (after_err e (known_count (p.size * size)) (λ m. rows_under size b p ids) r j))

-- ---- codes under ids

-- all codes of a bucket were read
pub codes_read : (size b : ℕ) (p : KeySize) (rows : List Row) (cs : List (List ℕ)) (ids : List ℤ) (at to : Place)
    → run (repeated p.size (bucket_code size b p.key)) at ≡ Ok (cs, to)
    → run (behind_rows rows (rows_under size b p ids)) at ≡ Ok (rows ++ hash_rows cs ids, to)
unfolding rows_under
codes_read size b p rows cs ids at to h =
    run_behind rows (rows_under size b p ids) at
    ∙ ap (with_front rows)
    (after_ok (repeated p.size (bucket_code size b p.key)) (λ codes. done (hash_rows codes ids)) at to cs h)

pub codes_fail : (e : PartError) (size b : ℕ) (p : KeySize) (rows : List Row) (ids : List ℤ) (at : Place)
    → GivesError e (run (repeated p.size (bucket_code size b p.key)) at)
    → GivesError e (run (behind_rows rows (rows_under size b p ids)) at)
unfolding behind_rows rows_under
codes_fail e size b p rows ids at h =
    after_err e (rows_under size b p ids) (λ more. done (rows ++ more)) at
    (after_err e (repeated p.size (bucket_code size b p.key)) (λ codes. done (hash_rows codes ids)) at h)

pub rows_split : (cs ds : List (List ℕ)) (ids : List ℤ)
    → hash_rows (cs ++ ds) ids ≡ hash_rows cs ids ++ hash_rows ds (drop (length cs) ids)
rows_split [] ds ids = refl
rows_split (c ∷ cs) [] [] = refl
rows_split (c ∷ cs) (d ∷ ds) [] = refl
rows_split (c ∷ cs) ds (z ∷ ids) =
    ap (λ (rs : List Row). record { label = z; code = c } ∷ rs) (rows_split cs ds ids)

pub rows_labels : (cs : List (List ℕ)) (ids : List ℤ) → length cs ≡ length ids
    → map (λ (row : Row). row.label) (hash_rows cs ids) ≡ ids
rows_labels [] [] e = refl
rows_labels [] (z ∷ ids) e = absurd (omega (arith, e))
rows_labels (c ∷ cs) [] e = absurd (omega (arith, e))
rows_labels (c ∷ cs) (z ∷ ids) e = ap (λ (zs : List ℤ). z ∷ zs) (rows_labels cs ids (omega (arith, e)))

-- ---- what an index gained

pub gains_count : (ids : List ℤ) (old new : HashValue) → Gains ids old new
    → length new.rows ≡ length old.rows + length ids
gains_count ids old new h =
    let e : length (map (λ (row : Row). row.label) new.rows)
    ≡ length (map (λ (row : Row). row.label) old.rows ++ ids) = ap length h.labels in
    omega (
      arith,
      e,
      length-map new.rows (λ (row : Row). row.label),
      length-map old.rows (λ (row : Row). row.label),
      length-append (map (λ (row : Row). row.label) old.rows) ids,
    )

pub gains_rows : (role : Role) (total n : ℕ) (old new : HashValue) → GainsRows role total n old new
    → length new.rows ≡ length old.rows + n
gains_rows role total n old new h = gains_count h.ids old new h.gains ∙ ap (λ k. length old.rows + k) h.count

pub gains_none : (role : Role) (total : ℕ) (v : HashValue) → GainsRows role total 0 v v
gains_none role total v = record {
  ids = [];
  count = refl;
  pass = All-nil (λ id. (is_inside role && is_no_place total id) ≡ false);
  gains = record { settings = refl; labels = sym (append-nil (map (λ (row : Row). row.label) v.rows)) };
}

pub gains_more : (role : Role) (total m n : ℕ) (a b c : HashValue) → GainsRows role total m a b
    → GainsRows role total n b c → GainsRows role total (m + n) a c
gains_more role total m n a b c g h = record {
  ids = g.ids ++ h.ids;
  count = omega (arith, length-append g.ids h.ids, g.count, h.count);
  pass = All-append (λ id. (is_inside role && is_no_place total id) ≡ false) g.ids h.ids g.pass h.pass;
  gains = record {
    settings = h.gains.settings ∙ ap (λ (v : HashValue). record v { rows = c.rows }) g.gains.settings;
    labels =
        h.gains.labels ∙ ap (λ (zs : List ℤ). zs ++ h.ids) g.gains.labels
        ∙ append_assoc (map (λ (row : Row). row.label) a.rows) g.ids h.ids;
  };
}

-- ---- an index that fits its role

free-place : (n : ℕ) (z : ℤ) → (true && is_no_place n z) ≡ false → IsPlace n z
free-place n z e = below-place n z (place-found n z e)

rows-places : (n : ℕ) (rows : List Row) (ids : List ℤ) → map (λ (row : Row). row.label) rows ≡ ids
    → All (λ id. (true && is_no_place n id) ≡ false) ids → All (λ row. IsPlace n row.label) rows
rows-places n [] ids e pass = All-nil (λ row. IsPlace n row.label)
rows-places n (row ∷ rows) ids e pass =
    let P : ℤ → Type 0 = λ id. (true && is_no_place n id) ≡ false in
    let all : All P (row.label ∷ map (λ (r : Row). r.label) rows) = subst (All P) (sym e) pass in
    All-cons (λ (r : Row). IsPlace n r.label) row rows
    (free-place n row.label (All-head P row.label (map (λ (r : Row). r.label) rows) all))
    (rows-places n rows (map (λ (r : Row). r.label) rows) refl
    (All-tail P row.label (map (λ (r : Row). r.label) rows) all))

pub fits_hash : (role : Role) (head : Head) (old new : HashValue) → IsBodyRole role → IsHead role head
    → old.dim ≡ head.dim → old.rows ≡ [] → GainsRows role head.count head.count old new
    → FitsRole role (Hash new)
fits_hash Outermost head old new r h dim none g = tt
fits_hash (Within d c) head old new r h dim none g =
    let n : head.count ≡ c = eqb-true _ _ h.takes_count in
    let labels : map (λ (row : Row). row.label) new.rows ≡ g.ids =
    g.gains.labels ∙ ap (λ (rows : List Row). map (λ (row : Row). row.label) rows ++ g.ids) none in
    let zero_rows : length old.rows ≡ 0 = ap length none in
    record {
      same_dim = ap (λ (v : HashValue). v.dim) g.gains.settings ∙ dim ∙ eqb-true _ _ h.takes_dim;
      same_count =
          omega (arith, gains_rows (Within d c) head.count head.count old new g, zero_rows, n);
      labels = subst (λ k. All (λ (row : Row). IsPlace k row.label) new.rows) n
          (rows-places head.count new.rows g.ids labels g.pass);
    }
fits_hash (Quantizer dim nlist rows flag) head old new r h same none g = absurd r

-- ---- loops

pub keeps_same : (a : Option Contents) → KeepsFiles a a
keeps_same None = tt
keeps_same (Some a) = refl

-- nothing was read yet
pub none_read : {A : Type 0} (f : Format A) (n : ℕ) (at : Place)
    → with_front [] (run (repeated (n - 0) f) at) ≡ run (repeated n f) at
none_read f n at = (let k : n - 0 ≡ n = omega arith in
    no_front (run (repeated (n - 0) f) at) ∙ ap (λ (m : ℕ). run (repeated m f) at) k)

pub rows_start : (role : Role) (size total b : ℕ) (front : List Row) (ps qs : List KeySize) (at : Place)
    → front ≡ [] → ps ≡ qs
    → with_front front (run (all_rows role size total b ps) at) ≡ run (all_rows role size total b qs) at
rows_start role size total b front ps qs at none same =
    ap (λ (rows : List Row). with_front rows (run (all_rows role size total b ps) at)) none
    ∙ no_front (run (all_rows role size total b ps) at)
    ∙ ap (λ (qs : List KeySize). run (all_rows role size total b qs) at) same

-- ---- codes that are added

-- a hash with the codes behind the rows that it had
abbrev pub with_codes : HashValue → List (List ℕ) → List ℤ → HashValue
with_codes v cs ids = record v { rows = v.rows ++ hash_rows cs ids }

length-hash_rows : (cs : List (List ℕ)) (ids : List ℤ) → length (hash_rows cs ids) ≤ length cs
length-hash_rows [] ids = omega arith
length-hash_rows (c ∷ cs) [] = omega arith
length-hash_rows (c ∷ cs) (z ∷ ids) = omega (arith, length-hash_rows cs ids)

pub codes_few : (v u : HashValue) (cs : List (List ℕ)) (ids : List ℤ) → u ≡ with_codes v cs ids
    → length u.rows ≤ length v.rows + length cs
codes_few v u cs ids e =
    let rows : length u.rows ≡ length (v.rows ++ hash_rows cs ids) = ap (λ (u : HashValue). length u.rows) e in
    omega (arith, rows, length-append v.rows (hash_rows cs ids), length-hash_rows cs ids)

-- one row more was gathered
pub row_joined : (h : HashValue) (g k : GatheredRows) (r : Row) → k.rows ≡ g.rows ++ r ∷ []
    → joined k h ≡ record (joined g h) { rows = (joined g h).rows ++ r ∷ [] }
row_joined h g k r e = ap (λ (rows : List Row). record h { rows = rows })
    (ap (λ (rows : List Row). h.rows ++ rows) e ∙ sym (append_assoc h.rows g.rows (r ∷ [])))

-- one code more stands under its id
pub code_joined : (v u w : HashValue) (cs : List (List ℕ)) (d : List ℕ) (ids : List ℤ) (k : ℕ) (z : ℤ)
    → length cs ≡ k → drop k ids ≡ z ∷ drop (k + 1) ids → u ≡ with_codes v cs ids
    → w ≡ record u { rows = u.rows ++ record { label = z; code = d } ∷ [] }
    → w ≡ with_codes v (cs ++ d ∷ []) ids
code_joined v u w cs d ids k z e at first then =
    let row : record { label = z; code = d } ∷ [] ≡ hash_rows (d ∷ []) (drop (length cs) ids) =
    ap (hash_rows (d ∷ [])) (sym at) ∙ ap (λ (m : ℕ). hash_rows (d ∷ []) (drop m ids)) (sym e) in
    then
    ∙ ap (λ (rows : List Row). record u { rows = u.rows ++ rows }) row
    ∙ ap (λ (u : HashValue). record u { rows = u.rows ++ hash_rows (d ∷ []) (drop (length cs) ids) }) first
    ∙ ap (λ (rows : List Row). record v { rows = rows })
    (append_assoc v.rows (hash_rows cs ids) (hash_rows (d ∷ []) (drop (length cs) ids))
    ∙ ap (λ (rows : List Row). v.rows ++ rows) (sym (rows_split cs (d ∷ []) ids)))

pub codes_gained : (v w : HashValue) (cs : List (List ℕ)) (ids : List ℤ) → w ≡ with_codes v cs ids
    → length cs ≡ length ids → Gains ids v w
codes_gained v w cs ids e len =
    let rows : w.rows ≡ v.rows ++ hash_rows cs ids = ap (λ (w : HashValue). w.rows) e in
    record {
      settings = e ∙ sym (ap (λ (rows : List Row). record v { rows = rows }) rows);
      labels =
          ap (λ (rows : List Row). map (λ (row : Row). row.label) rows) rows
          ∙ map-append (λ (row : Row). row.label) v.rows (hash_rows cs ids)
          ∙ ap (λ (zs : List ℤ). map (λ (row : Row). row.label) v.rows ++ zs) (rows_labels cs ids len);
    }

-- the load of one bucket more
pub bucket_load : (d e n s rest total : ℕ) → e ≡ d → weight d 1 total 0 ≤ load_limit → n + (s + rest) ≡ total
    → weight e 1 (n + s) 0 ≤ load_limit
bucket_load d e n s rest total same load sum =
    weigh_fewer e (n + s) total (omega (arith, sum)) (subst (λ d. weight d 1 total 0 ≤ load_limit) (sym same) load)
