-- The law of Hash: the bytes that are read are a file of the value, and the other way round.
use Rattle.std.proofs.Common.{◌≡◌, ◌⊎◌, inl, inr, ℕ, zero, suc, ◌+◌, ◌-◌, ◌*◌, ◌/◌}
use Rattle.std.proofs.Common.{◌^◌, ◌<◌, ◌≤◌, max, Bool, true, false, eqb, ltb, not, ◌||◌, ◌&&◌}
use Rattle.std.proofs.Common.{List, [], ◌∷◌, ◌++◌, length, map, get_or, All, refl, sym, ap, subst, ◌∙◌}
use Rattle.std.proofs.Common.{append_assoc, arith}
use Rattle.std.specs.Prelude.{sum, fold}
use Rattle.std.specs.List.{flat_map}
use Rattle.std.proofs.lemmas.Bool.{cases_eq, eqb-true, eq-eqb, ne_eqb, ltb-false, le-ltb, or_parts, or_from, not-false}
use Rattle.std.proofs.lemmas.Bool.{not_from_true}
use Rattle.std.proofs.lemmas.Nat.{pow_pos}
use Rattle.std.proofs.Math.Nat.{two-pow-succ}
use Rattle.std.proofs.lemmas.List.{append-nil, length-append, length-map}
use Rattle.std.proofs.lemmas.List.Folds.{flat_map-map}
use Rattle.std.proofs.lemmas.List.Sums.{sum_by-cons}
use Rattle.std.proofs.lemmas.List.Elements.{All-nil, All-cons, All-head, All-tail, All-append, All-map, All-filter}
use Rattle.bcodes.specs.Bits.{bit, key}
use Rattle.bcodes.specs.Value.{Row, HashValue, Inner, Hash, IsPlace, IsLegalHash, weight}
use Rattle.bcodes.specs.Ranges.{load_limit}
use Rattle.file_parts.specs.declared.role.Role.{Role}
use Rattle.file_parts.specs.declared.role.Role.TheVariants.{Outermost, Within, Quantizer}
use Rattle.file_parts.specs.Format.{Spells, ◌>>=◌, done}
use Rattle.file_parts.specs.Fields.{number_of, HeadValue, header, each}
use Rattle.file_parts.proofs.Reading.{one_check, two_checks, spells-split, spells-join}
use Rattle.bit_strings.specs.Packed.{total_width, packed}
use Rattle.index_files.specs.Parts.{Each, Head}
use Rattle.index_files.specs.Groups.{concat, IsLeast, by_key}
use Rattle.key_buckets.specs.Keys.{firsts}
use Rattle.hash_index.specs.Keys.{hash_keys, bucket, key_of}
use Rattle.index_files.specs.Canon.{bit_length}
use Rattle.index_files.specs.File.{HoldsBuckets, hash_bits, BucketPart, HashRest, settled_inner}
use Rattle.index_files.specs.FlatFormat.{is_inside, is_no_place}
use Rattle.index_files.specs.Counts.{known_count}
use Rattle.index_files.specs.HashFormat.{KeySize, buckets_in, bucket_rows, all_rows, hash_body, hash_rest, b_field}
use Rattle.index_files.specs.HashFormat.{nflip_field, hash_buckets, bucket_count_field, width_field, buckets_of}
use Rattle.index_files.specs.HashFormat.{run_field}
use Rattle.index_files.specs.declared.kind_name.KindName.TheVariants as named
use Rattle.index_files.specs.FileFormat.{body}
use Rattle.index_files.specs.Laws.{FitsRole, IsBodyRole}
use Rattle.index_files.proofs.FileLaws.{BodyRead, KindLaw, at_end, legal-header}
use Rattle.index_files.proofs.Heads.{IsHeader, header-found, header-again, pass_one, pass_two}
use Rattle.index_files.proofs.Elements.{IsBytes, front-bytes, back-bytes}
use Rattle.index_files.proofs.FlatFiles.{free_flag, is_dim-found}
use Rattle.index_files.proofs.Each.{Pairs, each-found, each-again, facts-of, parts-of, both-of, pairs-map, each-map}
use Rattle.index_files.proofs.HashGroups.{NewKeys, keys_of, bucket_size, in_bucket, AreKeyed, OwnBucket, own-buckets}
use Rattle.index_files.proofs.HashGroups.{together-keys, own-key-parts, keys-are, all-keys, keys-new, buckets-keyed}
use Rattle.index_files.proofs.HashRun.{sizes_of, RunPasses, run-passes, passes-run, run_bits, at-run, run-width}
use Rattle.index_files.proofs.HashRun.{count-buckets, run-packed, RowPasses, BucketRead, bucket-found, bucket-again}
use Rattle.bit_strings.proofs.PackedLemmas.{At, Fits, packed-again}
use Rattle.index_files.proofs.Width.{width-is, width-only, max-below, below-max}
use Rattle.index_files.proofs.IvfFacts.{place-found, place-again, below-place}
use Rattle.index_files.proofs.IvfAgain.{all-unmap}

pub key-below : (x : List ℕ) (from b : ℕ) → key x from b < 2 ^ b
unfolding key
key-below x from zero = omega arith
key-below x from (suc t) =
    elim (two (bit x (from + t)) (omega arith)) [
      | inl z ↦ omega (arith, key-below x from t, two-pow-succ t, ap (λ n. n * 2 ^ t) z)
      | inr o ↦ omega (arith, key-below x from t, two-pow-succ t, ap (λ n. n * 2 ^ t) o)
    ]
  where
    two : (n : ℕ) → n < 2 → (n ≡ 0) ⊎ (n ≡ 1)
    two n lt = elim (cases_eq n 0) [ inl z ↦ inl z | inr ne ↦ inr (omega (arith, lt, ne)) ]

-- ---- sizes

size-sum : (s : ℕ) (ss : List ℕ) → sum (s ∷ ss) ≡ s + sum ss
size-sum s ss = sum_by-cons (λ x. x) s ss

pub sizes-most : (ss : List ℕ) (y : ℕ) → sum ss ≤ y → All (λ s. s < suc y) ss
sizes-most [] y le = All-nil (λ s. s < suc y)
sizes-most (s ∷ ss) y le = All-cons (λ s. s < suc y) s ss (omega (arith, size-sum s ss, le))
    (sizes-most ss y (omega (arith, size-sum s ss, le)))

pub max-most : (ss : List ℕ) → fold max 0 ss ≤ sum ss
max-most ss = (let h = below-max 0 (suc (sum ss)) ss (omega arith) (sizes-most ss (sum ss) (omega arith)) in
    omega (arith, h))

-- the width that holds the greatest is the one that holds all
pub widest : (ss : List ℕ) → fold max 0 ss < 2 ^ 64
    → IsLeast (λ n. All (λ s. s < 2 ^ n) ss) (bit_length (fold max 0 ss))
widest ss lt =
    let w = width-is (fold max 0 ss) lt in
    record {
      holds = (max-below 0 (2 ^ bit_length (fold max 0 ss)) ss w.holds).1;
      least =
          λ m h. w.least m (below-max 0 (2 ^ m) ss (pow_pos m) h);
    }

width-of : (ss : List ℕ) (n : ℕ) → fold max 0 ss < 2 ^ 64 → IsLeast (λ n. All (λ s. s < 2 ^ n) ss) n
    → n ≡ bit_length (fold max 0 ss)
width-of ss n lt h = width-only (fold max 0 ss) n lt
    (record {
      holds = below-max 0 (2 ^ n) ss (pow_pos n) h.holds;
      least =
          λ m k. h.least m (max-below 0 (2 ^ m) ss k).1;
    })

module _ (b : ℕ) where
  own-sizes : (whole : List Row) (ps : List KeySize) (rss : List (List Row))
      → Pairs (OwnBucket (key_of b) whole) ps rss → Pairs (AreKeyed (key_of b)) ps rss
      → map (λ k. length (in_bucket (key_of b) k whole)) (keys_of ps) ≡ sizes_of ps
  unfolding keys_of
  own-sizes whole [] [] own are = refl
  own-sizes whole [] (rs ∷ rss) own are = absurd own
  own-sizes whole (p ∷ ps) [] own are = absurd own
  own-sizes whole (p ∷ ps) (rs ∷ rss) (own, owns) (are, ares) =
      (let e : length (in_bucket (key_of b) p.key whole) ≡ p.size = ap length own ∙ are.count in
      rw (e, own-sizes whole ps rss owns ares) refl)

  own-bits : (n : ℕ) (whole : List Row) (ps : List KeySize) (rss : List (List Row))
      → Pairs (OwnBucket (key_of b) whole) ps rss → Pairs (AreKeyed (key_of b)) ps rss
      → flat_map (λ k. record { number = k; width = b } ∷ record {
        number =
            length (in_bucket (key_of b) k whole);
        width = n;
      } ∷ []) (keys_of ps) ≡ run_bits b n ps
  unfolding keys_of
  own-bits n whole [] [] own are = refl
  own-bits n whole [] (rs ∷ rss) own are = absurd own
  own-bits n whole (p ∷ ps) [] own are = absurd own
  own-bits n whole (p ∷ ps) (rs ∷ rss) (own, owns) (are, ares) =
      let e : length (in_bucket (key_of b) p.key whole) ≡ p.size = ap length own ∙ are.count in
      rw (e, own-bits n whole ps rss owns ares) refl

  total-rows : (ps : List KeySize) (rss : List (List Row)) → Pairs (AreKeyed (key_of b)) ps rss
      → length (concat rss) ≡ sum (sizes_of ps)
  total-rows [] [] h = refl
  total-rows [] (rs ∷ rss) h = absurd h
  total-rows (p ∷ ps) [] h = absurd h
  total-rows (p ∷ ps) (rs ∷ rss) (own, h) =
      omega (arith, length-append rs (concat rss), own.count, total-rows ps rss h, size-sum p.size (sizes_of ps))

  all-pass : (role : Role) (count size : ℕ) (ps : List KeySize) (rss : List (List Row))
      → Pairs (BucketRead role count size b) ps rss → All (RowPasses role count size) (concat rss)
  all-pass role count size [] [] h = All-nil (RowPasses role count size)
  all-pass role count size [] (rs ∷ rss) h = absurd h
  all-pass role count size (p ∷ ps) [] h = absurd h
  all-pass role count size (p ∷ ps) (rs ∷ rss) (r, h) =
      All-append (RowPasses role count size) rs (concat rss) r.passes (all-pass role count size ps rss h)

-- ---- what is read

pub record HashRead (role : Role) (v : HashValue) (bytes : List ℕ) : Type 0 where
  pub rest : HashRest v bytes
  pub legal : IsLegalHash v
  pub settled : settled_inner (Hash v) ≡ Hash v
  pub fits : FitsRole role (Hash v)

row-places : (role : Role) (count size : ℕ) (rows : List Row) → is_inside role ≡ true
    → All (RowPasses role count size) rows → All (λ row. IsPlace count row.label) rows
row-places role count size rows e h i d lt =
    below-place count _ (place-found count _ (go (is_inside role) e (h i d lt).place))
  where
    go : (a : Bool) {b : Bool} → a ≡ true → (a && b) ≡ false → b ≡ false
    go true e f = f
    go false e f = absurd cc

hash-fits : (role : Role) (h : HeadValue) (v : HashValue) → IsBodyRole role → IsHeader role h → v.dim ≡ h.dim
    → length v.rows ≡ h.count → All (RowPasses role h.count (h.dim / 8)) v.rows → FitsRole role (Hash v)
hash-fits Outermost h v r hd dim count rows = tt
hash-fits (Within d c) h v r hd dim count rows =
    let n = eqb-true h.count c hd.takes_count in
    record {
      same_dim = dim ∙ eqb-true _ _ hd.takes_dim;
      same_count = count ∙ n;
      labels =
          subst (λ k. All (λ (row : Row). IsPlace k row.label) v.rows) n
          (row-places (Within d c) h.count (h.dim / 8) v.rows refl rows);
    }
hash-fits (Quantizer d nl ro fl) h v r hd dim count rows = absurd r

weigh : (d k : ℕ) → k * (d / 8 + 80) ≤ load_limit → weight d 1 k 0 ≤ load_limit
weigh d k le = (let e : k * (d / 8 + 16 + 64 * 1) ≡ k * (d / 8 + 80) = grind arith in omega (arith, le, e))

keys-count : (ps : List KeySize) → length (keys_of ps) ≡ length ps
unfolding keys_of
keys-count ps = length-map ps (λ (p : KeySize). p.key)

-- what a value says of its buckets, by its keys
module _ (w : HashValue) (ks : List ℕ) (e : firsts (map (key_of w.b) w.rows) ≡ ks) where
  abbrev size_of : ℕ → ℕ
  size_of k = length (in_bucket (key_of w.b) k w.rows)

  held : (n : ℕ) → IsLeast (λ n. All (λ s. s < 2 ^ n) (map size_of ks)) n → IsLeast (HoldsBuckets w) n
  held n h = record {
    holds = subst (λ (xs : List ℕ). All (λ k. size_of k < 2 ^ n) xs) (sym e)
        (all-unmap (λ s. s < 2 ^ n) size_of ks h.holds);
    least = λ m x. h.least m (All-map (λ s. s < 2 ^ m) size_of ks
        (subst (λ (xs : List ℕ). All (λ k. size_of k < 2 ^ m) xs) e x));
  }

  unheld : (n : ℕ) → IsLeast (HoldsBuckets w) n → IsLeast (λ n. All (λ s. s < 2 ^ n) (map size_of ks)) n
  unheld n h = record {
    holds = All-map (λ s. s < 2 ^ n) size_of ks
        (subst (λ (xs : List ℕ). All (λ k. size_of k < 2 ^ n) xs) e h.holds);
    least = λ m x. h.least m (subst (λ (xs : List ℕ). All (λ k. size_of k < 2 ^ m) xs) (sym e)
        (all-unmap (λ s. s < 2 ^ m) size_of ks x));
  }

  bits-of-value : (n : ℕ) → hash_bits w n
      ≡ flat_map (λ k. record { number = k; width = w.b } ∷ record { number = size_of k; width = n } ∷ []) ks
  bits-of-value n = ap (flat_map (λ k. record { number = k; width = w.b } ∷ record {
    number = size_of k;
    width =
        n;
  } ∷ [])) e

  listed : (bytes : List ℕ) → Each (λ k. BucketPart (in_bucket (key_of w.b) k w.rows)) ks bytes
      → Each (λ k. BucketPart (bucket w k)) (hash_keys w) bytes
  listed bytes h = subst (λ (xs : List ℕ). Each (λ k. BucketPart (in_bucket (key_of w.b) k w.rows)) xs bytes)
      (sym e) h

  unlisted : (bytes : List ℕ) → Each (λ k. BucketPart (bucket w k)) (hash_keys w) bytes
      → Each (λ k. BucketPart (in_bucket (key_of w.b) k w.rows)) ks bytes
  unlisted bytes h = subst (λ (xs : List ℕ). Each (λ k. BucketPart (in_bucket (key_of w.b) k w.rows)) xs bytes) e h

  key-count : length ks ≡ length (hash_keys w)
  key-count = ap length (sym e)

grouped : (w : HashValue) → flat_map (λ k. in_bucket (key_of w.b) k w.rows) (firsts (map (key_of w.b) w.rows))
    ≡ w.rows → settled_inner (Hash w) ≡ Hash w
grouped w e = ap (λ (rows : List Row). Hash (record w { rows = rows })) e

pub hash-found : (role : Role) (bytes : List ℕ) (v : HashValue) → IsBodyRole role → IsBytes bytes
    → Spells (hash_body role) bytes v → HashRead role v bytes
unfolding hash_body hash_rest b_field nflip_field hash_buckets bucket_count_field width_field buckets_of known_count
    run_field all_rows
hash-found role bytes v r fits0 spelled =
    let s = spells-split (header role) _ bytes v spelled in
    let h = s.value in
    let hd = header-found role s.front h s.first in
    let fits1 = back-bytes bytes s.front s.back s.parts fits0 in
    let (
      b1,
      r1,
      p1,
      l1,
      c1,
      (
        b2,
        r2,
        p2,
        l2,
        c2,
        (b3, r3, p3, l3, c3, (b4, r4, p4, l4, c4, (b5, r5, p5, l5, c5, (run, r6, p6, l6, c6, m6)))),
      ),
    ) = s.more in
    let fits5 = back-bytes r4 b5 r5 p5 (back-bytes r3 b4 r4 p4
    (back-bytes r2 b3 r3 p3 (back-bytes r1 b2 r2 p2 (back-bytes s.back b1 r1 p1 fits1)))) in
    let b = number_of 4 b1 in
    let nflip = number_of 4 b2 in
    let buckets = number_of 8 b3 in
    let n = number_of 4 b4 in
    let ps = buckets_in run b n buckets in
    let b-checks = two_checks (((ltb b 1 || ltb 64 b)) || ltb h.dim b) _
    (ltb load_limit (h.count * (h.dim / 8 + 80))) _ c1 in
    let b-parts = or_parts (ltb b 1 || ltb 64 b) (ltb h.dim b) b-checks.0 in
    let b-range = or_parts (ltb b 1) (ltb 64 b) b-parts.0 in
    let b-least : 1 ≤ b = ltb-false b 1 b-range.0 in
    let b-most : b ≤ 64 = ltb-false 64 b b-range.1 in
    let b-within : b ≤ h.dim = ltb-false h.dim b b-parts.1 in
    let load : h.count * (h.dim / 8 + 80) ≤ load_limit = ltb-false load_limit _ b-checks.1 in
    let nflip-most : nflip ≤ b = ltb-false b nflip (one_check _ _ c2) in
    let size : number_of 8 b5 ≡ ((b + n) * buckets + 7) / 8 = eqb-true _ _ (not-false _ (one_check _ _ c5)) in
    let passes = run-passes b n buckets h.count run c6 in
    let whole = spells-split (all_rows role (h.dim / 8) h.count b ps) (λ rows. done (record {
      dim = h.dim;
      b = b;
      nflip = nflip;
      rows = rows;
    })) r6 v m6 in
    let e = spells-split (each ps (bucket_rows role (h.dim / 8) h.count b)) (λ buckets. done (concat buckets))
    whole.front whole.value whole.first in
    let fits6 = back-bytes r5 run r6 p6 fits5 in
    let lists = each-found (bucket_rows role (h.dim / 8) h.count b)
    (λ p rs x. BucketRead role h.count (h.dim / 8) b p rs × BucketPart rs x)
    (bucket-found role h.count (h.dim / 8) b) ps e.front e.value
    (front-bytes whole.front e.front e.back e.parts
    (front-bytes r6 whole.front whole.back whole.parts fits6)) e.first in
    let facts = facts-of (BucketRead role h.count (h.dim / 8) b) BucketPart ps e.value e.front lists in
    let parts = parts-of (BucketRead role h.count (h.dim / 8) b) BucketPart ps e.value e.front lists in
    let are = pairs-map (BucketRead role h.count (h.dim / 8) b) (AreKeyed (key_of b))
    (λ p rs x. x.are) ps e.value facts in
    let rows = concat e.value in
    let w : HashValue = record { dim = h.dim; b = b; nflip = nflip; rows = rows } in
    let count : length rows ≡ h.count = total-rows b ps e.value are ∙ passes.total_is in
    let own = own-buckets (key_of b) rows [] ps e.value passes.new are (λ k x. refl) in
    let keys : firsts (map (key_of b) rows) ≡ keys_of ps = keys-are (key_of b) [] ps e.value passes.new are in
    let many : length (keys_of ps) ≡ buckets = keys-count ps ∙ count-buckets run b n buckets 0 in
    let by : flat_map (λ k. in_bucket (key_of b) k rows) (firsts (map (key_of b) rows)) ≡ rows =
    ap (flat_map (λ k. in_bucket (key_of b) k rows)) keys ∙ together-keys (key_of b) rows ps e.value own in
    let sizes : map (λ k. length (in_bucket (key_of b) k rows)) (keys_of ps) ≡ sizes_of ps =
    own-sizes b rows ps e.value own are in
    let alone : h.count * 80 ≤ h.count * (h.dim / 8 + 80) = grind arith in
    let most : fold max 0 (sizes_of ps) < 2 ^ 64 =
    omega (arith, max-most (sizes_of ps), passes.total_is, load, alone) in
    let least = subst (IsLeast (λ n. All (λ s. s < 2 ^ n) (sizes_of ps))) (sym passes.width)
    (widest (sizes_of ps) most) in
    let holds : IsLeast (HoldsBuckets w) n =
    held w (keys_of ps) keys n (subst (λ (ss : List ℕ). IsLeast (λ n. All (λ s. s < 2 ^ n) ss) n)
    (sym sizes) least) in
    let bits : packed (run_bits b n ps) ≡ run =
    run-packed b n buckets h.count run (front-bytes r5 run r6 p6 fits5) (l6 ∙ size) passes in
    let bits_is : hash_bits w n ≡ run_bits b n ps =
    bits-of-value w (keys_of ps) keys n ∙ own-bits b n rows ps e.value own are in
    let run_is : run ≡ packed (hash_bits w n) = sym bits ∙ ap packed (sym bits_is) in
    let run_size : number_of 8 b5 ≡ length (packed (hash_bits w n)) = sym l6 ∙ ap length run_is in
    let all = at_end r6 whole.front whole.back whole.parts whole.more.0
    ∙ at_end whole.front e.front e.back e.parts e.more.0 in
    let spelled_rows : Each (λ k. BucketPart (bucket w k)) (hash_keys w) r6 =
    listed w (keys_of ps) keys r6 (own-key-parts (key_of b) BucketPart rows ps e.value r6 own
    (subst (Each BucketPart e.value) (sym all) parts)) in
    let head : Head h.dim (length rows) s.front =
    subst (λ k. Head h.dim k s.front) (sym count) (free_flag (h.flag ≡ true) h.dim h.count s.front hd.1) in
    let keys_count : number_of 8 b3 ≡ length (hash_keys w) = sym many ∙ key-count w (keys_of ps) keys in
    let passed = all-pass b role h.count (h.dim / 8) ps e.value facts in
    let made : HashRead role w bytes = record {
      rest = (
        n,
        holds,
        (
          s.front,
          s.back,
          s.parts,
          head,
          (
            b1,
            r1,
            p1,
            record { size = l1; reads = refl },
            (
              b2,
              r2,
              p2,
              record { size = l2; reads = refl },
              (
                b3,
                r3,
                p3,
                record { size = l3; reads = keys_count },
                (
                  b4,
                  r4,
                  p4,
                  record { size = l4; reads = refl },
                  (
                    b5 ++ run,
                    r6,
                    p5 ∙ ap (λ (t : List ℕ). b5 ++ t) p6 ∙ sym (append_assoc b5 run r6),
                    (b5, run, refl, record { size = l5; reads = run_size }, run_is),
                    spelled_rows,
                  ),
                ),
              ),
            ),
          ),
        ),
      );
      legal = record {
        dim = is_dim-found h.dim hd.0.dim;
        b_least = b-least;
        b_most = b-most;
        b_within = b-within;
        nflip = nflip-most;
        rows = λ i d lt. (let x = passed i d lt in record { label = x.fits; code = x.code });
        load = weigh h.dim (length rows) (subst (λ k. k * (h.dim / 8 + 80) ≤ load_limit) (sym count) load);
      };
      settled = grouped w by;
      fits = hash-fits role h w r hd.0 refl count passed;
    } in
    subst (λ (v : HashValue). HashRead role v bytes)
    (ap (λ (rows : List Row). record { dim = h.dim; b = b; nflip = nflip; rows = rows }) e.more.1 ∙ whole.more.1) made

-- ---- the other way round

pass-head : (role : Role) (v : HashValue) (flag : Bool) → IsBodyRole role → IsLegalHash v
    → FitsRole role (Hash v) → IsHeader role (record { dim = v.dim; count = length v.rows; flag = flag })
pass-head Outermost v flag r legal fits = legal-header v.dim 1 (length v.rows) 0 flag legal.dim legal.load
pass-head (Within dim count) v flag r legal fits =
    let h = legal-header v.dim 1 (length v.rows) 0 flag legal.dim legal.load in
    record {
      dim = h.dim;
      takes_dim = eq-eqb _ _ fits.same_dim;
      small = h.small;
      takes_count =
          eq-eqb _ _ fits.same_count;
      load = h.load;
    }
pass-head (Quantizer dim nlist rows f) v flag r legal fits = absurd r

hash-is : (v w : HashValue) → Hash v ≡ Hash w → v ≡ w
hash-is v w e = cc

rows-pass : (role : Role) (v : HashValue) → IsBodyRole role → IsLegalHash v → FitsRole role (Hash v)
    → All (RowPasses role (length v.rows) (v.dim / 8)) v.rows
rows-pass role v r legal fits i d lt = (let one = legal.rows i d lt in
    record { fits = one.label; place = place role r fits; code = one.code })
  where
    place : (q : Role) → IsBodyRole q → FitsRole q (Hash v)
        → (is_inside q && is_no_place (length v.rows) (get_or v.rows i d).label) ≡ false
    place Outermost r f = refl
    place (Within dim count) r f = place-again (length v.rows) (get_or v.rows i d).label
        (subst (λ n. IsPlace n (get_or v.rows i d).label) (sym f.same_count) (f.labels i d lt))
    place (Quantizer dim nlist rows flag) r f = absurd r

new-length : (seen : List ℕ) (ps : List KeySize) → NewKeys seen ps → length ps ≤ sum (sizes_of ps)
new-length seen [] h = omega arith
new-length seen (p ∷ ps) (fresh, some, h) =
    omega (arith, size-sum p.size (sizes_of ps), new-length (p.key ∷ seen) ps h, some)

module _ (v : HashValue) where
  the_keys : List ℕ
  the_keys = firsts (map (key_of v.b) v.rows)

  the_buckets : List KeySize
  the_buckets = map (bucket_size (key_of v.b) v.rows) the_keys

  the_groups : List (List Row)
  the_groups = map (λ k. in_bucket (key_of v.b) k v.rows) the_keys

  new-keys : NewKeys [] the_buckets
  unfolding the_buckets the_keys
  new-keys = keys-new (key_of v.b) v.rows

  keyed : Pairs (AreKeyed (key_of v.b)) the_buckets the_groups
  unfolding the_buckets the_groups
  keyed = buckets-keyed (key_of v.b) v.rows the_keys

  own-same : (ks : List ℕ) → Pairs (OwnBucket (key_of v.b) v.rows) (map (bucket_size (key_of v.b) v.rows) ks)
      (map (λ k. in_bucket (key_of v.b) k v.rows) ks)
  own-same [] = tt
  own-same (k ∷ ks) = (refl, own-same ks)

  owned : Pairs (OwnBucket (key_of v.b) v.rows) the_buckets the_groups
  unfolding the_buckets the_groups
  owned = own-same the_keys

  same-keys : (ks : List ℕ) → map (λ p. p.key) (map (bucket_size (key_of v.b) v.rows) ks) ≡ ks
  same-keys [] = refl
  same-keys (k ∷ ks) = ap (λ (js : List ℕ). k ∷ js) (same-keys ks)

  keys-same : the_keys ≡ keys_of the_buckets
  unfolding the_buckets keys_of
  keys-same = sym (same-keys the_keys)

  keys-first : firsts (map (key_of v.b) v.rows) ≡ keys_of the_buckets
  unfolding the_keys
  keys-first = keys-same

  groups-all : by_key v ≡ v.rows → concat the_groups ≡ v.rows
  unfolding the_groups the_keys
  groups-all by = flat_map-map (λ (rs : List Row). rs) (λ k. in_bucket (key_of v.b) k v.rows)
      (firsts (map (key_of v.b) v.rows)) ∙ by

  total : by_key v ≡ v.rows → sum (sizes_of the_buckets) ≡ length v.rows
  total by = sym (total-rows v.b the_buckets the_groups keyed) ∙ ap length (groups-all by)

  keys-fit : All (λ k. k < 2 ^ v.b) the_keys
  unfolding the_keys
  keys-fit = all-keys (key_of v.b) (λ k. k < 2 ^ v.b) (λ row. key-below row.code 0 v.b) v.rows

  all-fit : (n : ℕ) (ks : List ℕ) → All (λ k. k < 2 ^ v.b) ks
      → All (λ s. s < 2 ^ n) (sizes_of (map (bucket_size (key_of v.b) v.rows) ks))
      → All Fits (run_bits v.b n (map (bucket_size (key_of v.b) v.rows) ks))
  all-fit n [] h f = All-nil Fits
  all-fit n (k ∷ ks) h f =
      let rest = sizes_of (map (bucket_size (key_of v.b) v.rows) ks) in
      let s = length (in_bucket (key_of v.b) k v.rows) in
      let more = run_bits v.b n (map (bucket_size (key_of v.b) v.rows) ks) in
      All-cons Fits (record { number = k; width = v.b }) (record { number = s; width = n } ∷ more)
      (All-head (λ k. k < 2 ^ v.b) k ks h)
      (All-cons Fits (record { number = s; width = n }) more (All-head (λ s. s < 2 ^ n) s rest f)
      (all-fit n ks (All-tail (λ k. k < 2 ^ v.b) k ks h) (All-tail (λ s. s < 2 ^ n) s rest f)))

  fit : (n : ℕ) → All (λ s. s < 2 ^ n) (sizes_of the_buckets) → All Fits (run_bits v.b n the_buckets)
  unfolding the_buckets
  fit n f = all-fit n the_keys keys-fit f

  buckets-read : (role : Role) → All (RowPasses role (length v.rows) (v.dim / 8)) v.rows → (ks : List ℕ)
      → Pairs (BucketRead role (length v.rows) (v.dim / 8) v.b) (map (bucket_size (key_of v.b) v.rows) ks)
      (map (λ k. in_bucket (key_of v.b) k v.rows) ks)
  buckets-read role h [] = tt
  buckets-read role h (k ∷ ks) = (
    record {
      are = (buckets-keyed (key_of v.b) v.rows (k ∷ ks)).0;
      passes =
          All-filter (λ (row : Row). eqb k (key_of v.b row)) (RowPasses role (length v.rows) (v.dim / 8)) v.rows h;
    },
    buckets-read role h ks,
  )

  rows-read : (role : Role) → All (RowPasses role (length v.rows) (v.dim / 8)) v.rows → (bytes : List ℕ)
      → Each (λ k. BucketPart (bucket v k)) (hash_keys v) bytes
      → Spells (each the_buckets (bucket_rows role (v.dim / 8) (length v.rows) v.b)) bytes the_groups
  unfolding the_buckets the_groups the_keys
  rows-read role h bytes parts =
      let ks = firsts (map (key_of v.b) v.rows) in
      let n = length v.rows in
      let ps = map (bucket_size (key_of v.b) v.rows) ks in
      let rss = map (λ k. in_bucket (key_of v.b) k v.rows) ks in
      let each-part : Each BucketPart rss bytes =
      each-map BucketPart (λ k. in_bucket (key_of v.b) k v.rows) ks bytes parts in
      let both = both-of (BucketRead role n (v.dim / 8) v.b) BucketPart ps rss bytes
      (buckets-read role h ks) each-part in
      each-again (bucket_rows role (v.dim / 8) n v.b)
      (λ p rs x. BucketRead role n (v.dim / 8) v.b p rs × BucketPart rs x)
      (bucket-again role n (v.dim / 8) v.b) ps rss bytes both

  -- the run is that of the buckets
  record RunSpelled (n : ℕ) (run : List ℕ) : Type 0 where
    size : length run ≡ ((v.b + n) * length the_buckets + 7) / 8
    buckets : buckets_in run v.b n (length the_buckets) ≡ the_buckets
    passes : RunPasses v.b n (length the_buckets) (length v.rows) run
    width : n ≤ 31

  run-spelled : by_key v ≡ v.rows → IsLegalHash v → (n : ℕ) (run : List ℕ) → IsLeast (HoldsBuckets v) n
      → run ≡ packed (hash_bits v n) → RunSpelled n run
  run-spelled by legal n run least is =
      let ps = the_buckets in
      let sizes : map (λ k. length (in_bucket (key_of v.b) k v.rows)) (keys_of ps) ≡ sizes_of ps =
      own-sizes v.b v.rows ps the_groups owned keyed in
      let width = subst (λ (ss : List ℕ). IsLeast (λ n. All (λ s. s < 2 ^ n) ss) n) sizes
      (unheld v (keys_of ps) keys-first n least) in
      let bits : hash_bits v n ≡ run_bits v.b n ps =
      bits-of-value v (keys_of ps) keys-first n ∙ own-bits v.b n v.rows ps the_groups owned keyed in
      let again = packed-again (run_bits v.b n ps) (fit n width.holds) in
      let same : run ≡ packed (run_bits v.b n ps) = is ∙ ap packed bits in
      let w : total_width (run_bits v.b n ps) ≡ length ps * (v.b + n) = run-width v.b n ps in
      let turn : length ps * (v.b + n) ≡ (v.b + n) * length ps = grind arith in
      let size : length run ≡ ((v.b + n) * length ps + 7) / 8 =
      ap length same ∙ again.size ∙ ap (λ k. (k + 7) / 8) (w ∙ turn) in
      let at : At run (0 * (v.b + n)) (run_bits v.b n ps) =
      (let z : 0 ≡ 0 * (v.b + n) = omega arith in
      subst (λ k. At run k (run_bits v.b n ps)) z
      (subst (λ (x : List ℕ). At x 0 (run_bits v.b n ps)) (sym same) again.at)) in
      let buckets : buckets_in run v.b n (length ps) ≡ ps = at-run run v.b n 0 ps at in
      let zeros : key run (length ps * (v.b + n)) (8 * length run - length ps * (v.b + n)) ≡ 0 =
      subst (λ (x : List ℕ). key x (length ps * (v.b + n)) (8 * length x - length ps * (v.b + n)) ≡ 0)
      (sym same) (subst (λ k. key (packed (run_bits v.b n ps)) k (8 * length (packed (run_bits v.b n ps)) - k)
      ≡ 0) w again.zeros) in
      let light : length v.rows * (v.dim / 8 + 80) ≤ load_limit = unweigh v.dim (length v.rows) legal.load in
      let alone : length v.rows * 80 ≤ length v.rows * (v.dim / 8 + 80) = grind arith in
      let few : length v.rows < 2 ^ 31 = omega (arith, light, alone) in
      let most : fold max 0 (sizes_of ps) < 2 ^ 64 = omega (arith, max-most (sizes_of ps), total by, few) in
      record {
        size = size;
        buckets = buckets;
        passes = record {
          new = subst (NewKeys []) (sym buckets) new-keys;
          total_is = ap (λ (qs : List KeySize). sum (sizes_of qs)) buckets ∙ total by;
          width = width-of (sizes_of ps) n most width
              ∙ ap (λ (qs : List KeySize). bit_length (fold max 0 (sizes_of qs))) (sym buckets);
          zeros = zeros;
        };
        width = width.least 31 (narrow (sizes_of ps)
            (sizes-most (sizes_of ps) (length v.rows) (omega (arith, total by))) few);
      }
    where
      narrow : (ss : List ℕ) → All (λ s. s < suc (length v.rows)) ss → length v.rows < 2 ^ 31
          → All (λ s. s < 2 ^ 31) ss
      narrow ss h lt i d less = omega (arith, h i d less, lt)

      unweigh : (d k : ℕ) → weight d 1 k 0 ≤ load_limit → k * (d / 8 + 80) ≤ load_limit
      unweigh d k le = (let e : k * (d / 8 + 16 + 64 * 1) ≡ k * (d / 8 + 80) = grind arith in omega (arith, le, e))

  bucket-count : length the_buckets ≡ length (hash_keys v)
  unfolding the_buckets the_keys
  bucket-count = length-map (firsts (map (key_of v.b) v.rows)) (bucket_size (key_of v.b) v.rows)

value-same : (v : HashValue) (rows : List Row) → rows ≡ v.rows → record v { rows = rows } ≡ v
value-same v rows e = rw e refl

rows-spelled : (role : Role) (size n b : ℕ) (ps : List KeySize) (groups : List (List Row)) (bytes : List ℕ)
    → Spells (each ps (bucket_rows role size n b)) bytes groups
    → Spells (all_rows role size n b ps) bytes (concat groups)
unfolding all_rows
rows-spelled role size n b ps groups bytes h =
    subst (λ (t : List ℕ). Spells (each ps (bucket_rows role size n b) >>= λ buckets. done (concat buckets)) t
    (concat groups)) (append-nil bytes)
    (spells-join (each ps (bucket_rows role size n b)) (λ buckets. done (concat buckets)) bytes [] groups
    (concat groups) h (refl, refl))

pub hash-again : (role : Role) (bytes : List ℕ) (v : HashValue) → IsBodyRole role → HashRead role v bytes
    → Spells (hash_body role) bytes v
unfolding hash_body hash_rest b_field nflip_field hash_buckets bucket_count_field width_field buckets_of known_count
    run_field all_rows
hash-again role bytes v r h =
    let (
      n,
      least,
      (
        f0,
        t0,
        p0,
        head,
        (
          b1,
          r1,
          p1,
          n1,
          (
            b2,
            r2,
            p2,
            n2,
            (
              b3,
              r3,
              p3,
              n3,
              (
                b4,
                r4,
                p4,
                n4,
                (vb, r6, p5, (b5, run, p6, n5, run_is), listed_rows),
              ),
            ),
          ),
        ),
      ),
    ) = h.rest in
    let legal = h.legal in
    let by : by_key v ≡ v.rows = ap (λ (w : HashValue). w.rows) (hash-is _ _ h.settled) in
    let total_rows = length v.rows in
    let hd = header-again role (Unit {0}) v.dim total_rows f0 (λ flag. pass-head role v flag r legal h.fits) head in
    let hv : HeadValue = record { dim = v.dim; count = total_rows; flag = hd.flag } in
    let s = run-spelled v by legal n run least run_is in
    let ps = the_buckets v in
    let few : length ps ≤ total_rows = omega (arith, new-length [] ps (new-keys v), total v by) in
    let light : total_rows * (v.dim / 8 + 80) ≤ load_limit = unweighed v.dim total_rows legal.load in
    let c1 = pass_two ((ltb v.b 1 || ltb 64 v.b) || ltb v.dim v.b) _
    (ltb load_limit (total_rows * (v.dim / 8 + 80))) _
    (or_from _ _ (or_from _ _ (le-ltb v.b 1 legal.b_least) (le-ltb 64 v.b legal.b_most))
    (le-ltb v.dim v.b legal.b_within)) (le-ltb load_limit _ light) in
    let c2 = pass_one (ltb v.b v.nflip) _ (le-ltb v.b v.nflip legal.nflip) in
    let c3 = pass_one (ltb total_rows (length ps) || (eqb (length ps) 0 && not (eqb total_rows 0))) _
    (or_from _ _ (le-ltb total_rows (length ps) few) (none-empty ps total_rows (total v by))) in
    let c4 = pass_one (ltb 31 n) _ (le-ltb 31 n s.width) in
    let c5 = pass_one (not (eqb (((v.b + n) * length ps + 7) / 8) (((v.b + n) * length ps + 7) / 8))) _
    (not_from_true _ (eq-eqb (((v.b + n) * length ps + 7) / 8) (((v.b + n) * length ps + 7) / 8) refl)) in
    let c6 = passes-run v.b n (length ps) total_rows run s.passes in
    let n3' : number_of 8 b3 ≡ length ps = n3.reads ∙ sym (bucket-count v) in
    let n5' : number_of 8 b5 ≡ ((v.b + n) * length ps + 7) / 8 = n5.reads ∙ ap length (sym run_is) ∙ s.size in
    let lists = rows-read v role (rows-pass role v r legal h.fits) r6 listed_rows in
    let found : buckets_in run (number_of 4 b1) (number_of 4 b4) (length ps) ≡ ps =
    ap (λ x. buckets_in run x (number_of 4 b4) (length ps)) n1.reads
    ∙ ap (λ x. buckets_in run v.b x (length ps)) n4.reads ∙ s.buckets in
    let parts : r4 ≡ b5 ++ (run ++ r6) = p5 ∙ ap (λ (t : List ℕ). t ++ r6) p6 ∙ append_assoc b5 run r6 in
    rw p0 (spells-join (header role) _ f0 t0 hv v hd.spells (
      b1,
      r1,
      p1,
      n1.size,
      rw n1.reads c1,
      rw n1.reads (
        b2,
        r2,
        p2,
        n2.size,
        rw n2.reads c2,
        rw n2.reads (
          b3,
          r3,
          p3,
          n3.size,
          rw n3' c3,
          rw n3' (
            b4,
            r4,
            p4,
            n4.size,
            rw n4.reads c4,
            rw n4.reads (
              b5,
              run ++ r6,
              parts,
              n5.size,
              rw n5' c5,
              rw n5' (
                run,
                r6,
                refl,
                s.size,
                c6,
                rw found (rw (sym (append-nil r6)) (spells-join
                    (all_rows role (v.dim / 8) total_rows v.b ps) _ r6 [] (concat (the_groups v)) v
                    (rows-spelled role (v.dim / 8) total_rows v.b ps (the_groups v) r6 lists) (
                      refl,
                      value-same v (concat (the_groups v)) (groups-all v by),
                    ))),
              ),
            ),
          ),
        ),
      ),
    ))
  where
    unweighed : (d k : ℕ) → weight d 1 k 0 ≤ load_limit → k * (d / 8 + 80) ≤ load_limit
    unweighed d k le = (let e : k * (d / 8 + 16 + 64 * 1) ≡ k * (d / 8 + 80) = grind arith in omega (arith, le, e))

    none-empty : (ps : List KeySize) (n : ℕ) → sum (sizes_of ps) ≡ n
        → (eqb (length ps) 0 && not (eqb n 0)) ≡ false
    none-empty [] n e = (let z : n ≡ 0 = sym e in rw z refl)
    none-empty (p ∷ ps) n e = (let k = ne_eqb (suc (length ps)) 0 (omega arith) in rw k refl)

pub hash-law : KindLaw named.Hash
unfolding body
hash-law = record {
  found = λ role bytes v r fits h. (
      let s = spells-split (hash_body role) (λ w. done (Hash w)) bytes v h in
      let all = at_end bytes s.front s.back s.parts s.more.0 in
      let f = hash-found role s.front s.value r (subst IsBytes all fits) s.first in
      let made : BodyRead named.Hash role s.front (Hash s.value) =
      record { is_kind = refl; rest = f.rest; legal = f.legal; rows = f.settled; fits = f.fits } in
      subst (λ (w : Inner). BodyRead named.Hash role bytes w) s.more.1
      (subst (λ (b : List ℕ). BodyRead named.Hash role b (Hash s.value)) (sym all) made));
  again = λ role bytes v r h. again role bytes v r h;
}
  where
    again : (role : Role) (bytes : List ℕ) (v : Inner) → IsBodyRole role → BodyRead named.Hash role bytes v
        → Spells (body named.Hash role) bytes v
    again role bytes (Hash v) r h =
        let one = hash-again role bytes v r (record {
          rest = h.rest;
          legal = h.legal;
          settled = h.rows;
          fits =
              h.fits;
        }) in
        let whole : Spells (hash_body role >>= λ w. done (Hash w)) (bytes ++ []) (Hash v) =
        spells-join (hash_body role) (λ w. done (Hash w)) bytes [] v (Hash v) one (refl, refl) in
        subst (λ (b : List ℕ). Spells (hash_body role >>= λ w. done (Hash w)) b (Hash v)) (append-nil bytes) whole
    again role bytes _ r h = absurd (let k = h.is_kind in cc)
