-- Rows that stand bucket by bucket are found again in their buckets.
use Rattle.std.proofs.Common.{◌≡◌, inl, inr, ℕ, ◌<◌, Bool, true, false, eqb, not, ◌||◌, List, []}
use Rattle.std.proofs.Common.{◌∷◌, ◌++◌, length, map, All, refl, sym, ap, subst, ◌∙◌, arith}
use Rattle.std.specs.List.{filter, flat_map, list_any}
use Rattle.std.proofs.lemmas.Bool.{cases_Bool, eqb-true, eqb-false, eq-eqb, ne_eqb, or_parts, or_from}
use Rattle.std.proofs.lemmas.List.{append-nil, map-append}
use Rattle.std.proofs.lemmas.List.Elements.{filter-append, All-nil, All-cons, All-head, All-tail, All-filter}
use Rattle.std.proofs.lemmas.List.Elements.{filter_passes}
use Rattle.bcodes.specs.Value.{Row}
use Rattle.index_files.specs.Parts.{Each}
use Rattle.index_files.specs.Groups.{concat}
use Rattle.key_buckets.specs.Keys.{firsts}
use Rattle.index_files.specs.HashFormat.{KeySize}
use Rattle.index_files.proofs.Each.{Pairs}

-- buckets with keys that are new after those seen, and not empty
abbrev pub NewKeys : List ℕ → List KeySize → Type 0
NewKeys seen [] = Unit {0}
NewKeys seen (p ∷ ps) = (list_any (λ k. eqb k p.key) seen ≡ false) × (0 < p.size) × NewKeys (p.key ∷ seen) ps

-- no bucket has this key
abbrev pub Avoids : ℕ → List KeySize → Type 0
Avoids k [] = Unit {0}
Avoids k (p ∷ ps) = (p.key ≡ k → ⊥) × Avoids k ps

unfoldable pub keys_of : List KeySize → List ℕ
keys_of ps = map (λ p. p.key) ps

clash : (b : Bool) → b ≡ true → b ≡ false → ⊥
clash true e f = absurd cc
clash false e f = absurd cc

pub new-avoids : (k : ℕ) (seen : List ℕ) (ps : List KeySize) → NewKeys seen ps
    → list_any (λ j. eqb j k) seen ≡ true → Avoids k ps
new-avoids k seen [] h e = tt
new-avoids k seen (p ∷ ps) (fresh, some, h) e = (
  (λ is. clash (list_any (λ j. eqb j p.key) seen) (ap (λ (x : ℕ). list_any (λ j. eqb j x) seen) is ∙ e) fresh),
  new-avoids k (p.key ∷ seen) ps h (add (eqb p.key k) (list_any (λ j. eqb j k) seen) e),
)
  where
    add : (a b : Bool) → b ≡ true → (a || b) ≡ true
    add true b e = refl
    add false b e = e

pub new-rest : (seen : List ℕ) (p : KeySize) (ps : List KeySize) → NewKeys seen (p ∷ ps) → Avoids p.key ps
new-rest seen p ps (fresh, some, h) = new-avoids p.key (p.key ∷ seen) ps h
    (front (eqb p.key p.key) (list_any (λ j. eqb j p.key) seen) (eq-eqb p.key p.key refl))
  where
    front : (a b : Bool) → a ≡ true → (a || b) ≡ true
    front true b e = refl
    front false b e = absurd cc

module _ (kf : Row → ℕ) where
  abbrev pub in_bucket : ℕ → List Row → List Row
  in_bucket k rows = filter (λ row. eqb k (kf row)) rows

  pub record AreKeyed (p : KeySize) (rows : List Row) : Type 0 where
    pub count : length rows ≡ p.size
    pub keyed : All (λ row. kf row ≡ p.key) rows

  own-bucket : (k : ℕ) (rows : List Row) → All (λ row. kf row ≡ k) rows → in_bucket k rows ≡ rows
  own-bucket k [] h = refl
  own-bucket k (row ∷ rows) h = (let e = eq-eqb k (kf row) (sym (All-head (λ (r : Row). kf r ≡ k) row rows h)) in
      rw e (ap (λ (rs : List Row). row ∷ rs) (own-bucket k rows (All-tail (λ (r : Row). kf r ≡ k) row rows h))))

  other-bucket : (k j : ℕ) (rows : List Row) → All (λ row. kf row ≡ k) rows → (k ≡ j → ⊥)
      → in_bucket j rows ≡ []
  other-bucket k j [] h differ = refl
  other-bucket k j (row ∷ rows) h differ =
      let is : kf row ≡ k = All-head (λ (r : Row). kf r ≡ k) row rows h in
      let e = ne_eqb j (kf row) (λ f. differ (sym is ∙ sym f)) in
      rw e (other-bucket k j rows (All-tail (λ (r : Row). kf r ≡ k) row rows h) differ)

  none-there : (k : ℕ) (ps : List KeySize) (rss : List (List Row)) → Avoids k ps → Pairs AreKeyed ps rss
      → in_bucket k (concat rss) ≡ []
  none-there k [] [] av h = refl
  none-there k [] (rs ∷ rss) av h = absurd h
  none-there k (p ∷ ps) [] av h = absurd h
  none-there k (p ∷ ps) (rs ∷ rss) (differ, av) (own, h) =
      filter-append (λ row. eqb k (kf row)) rs (concat rss)
      ∙ (let first = other-bucket p.key k rs own.keyed differ in let rest = none-there k ps rss av h in
      rw (first, rest) refl)

  abbrev pub OwnBucket : List Row → KeySize → List Row → Type 0
  OwnBucket whole p rs = in_bucket p.key whole ≡ rs

  pub own-buckets : (whole : List Row) (seen : List ℕ) (ps : List KeySize) (rss : List (List Row))
      → NewKeys seen ps → Pairs AreKeyed ps rss
      → ((k : ℕ) → list_any (λ j. eqb j k) seen ≡ false → in_bucket k whole ≡ in_bucket k (concat rss))
      → Pairs (OwnBucket whole) ps rss
  own-buckets whole seen [] [] new h agree = tt
  own-buckets whole seen [] (rs ∷ rss) new h agree = absurd h
  own-buckets whole seen (p ∷ ps) [] new h agree = absurd h
  own-buckets whole seen (p ∷ ps) (rs ∷ rss) (fresh, some, new) (own, h) agree =
      let rest = none-there p.key ps rss (new-rest seen p ps (fresh, some, new)) h in
      let here : in_bucket p.key whole ≡ rs =
      agree p.key fresh ∙ filter-append (λ row. eqb p.key (kf row)) rs (concat rss)
      ∙ rw (own-bucket p.key rs own.keyed, rest) (append-nil rs) in (
        here,
        own-buckets whole (p.key ∷ seen) ps rss new h (λ k e. (
            let parts = or_parts (eqb p.key k) (list_any (λ j. eqb j k) seen) e in
            let first = other-bucket p.key k rs own.keyed (eqb-false p.key k parts.0) in
            agree k parts.1 ∙ filter-append (λ row. eqb k (kf row)) rs (concat rss) ∙ rw first refl)),
      )

  -- the rows, bucket by bucket
  pub together-keys : (whole : List Row) (ps : List KeySize) (rss : List (List Row))
      → Pairs (OwnBucket whole) ps rss → flat_map (λ k. in_bucket k whole) (keys_of ps) ≡ concat rss
  unfolding keys_of
  together-keys whole [] [] h = refl
  together-keys whole [] (rs ∷ rss) h = absurd h
  together-keys whole (p ∷ ps) [] h = absurd h
  together-keys whole (p ∷ ps) (rs ∷ rss) (own, h) = rw (own, together-keys whole ps rss h) refl

  pub own-key-parts : (P : List Row → List ℕ → Type 0) (whole : List Row) (ps : List KeySize)
      (rss : List (List Row)) (bytes : List ℕ) → Pairs (OwnBucket whole) ps rss → Each P rss bytes
      → Each (λ k. P (in_bucket k whole)) (keys_of ps) bytes
  unfolding keys_of
  own-key-parts P whole [] [] bytes h parts = parts
  own-key-parts P whole [] (rs ∷ rss) bytes h parts = absurd h
  own-key-parts P whole (p ∷ ps) [] bytes h parts = absurd h
  own-key-parts P whole (p ∷ ps) (rs ∷ rss) bytes (own, h) (f, b, e, one, others) =
      (f, b, e, rw own one, own-key-parts P whole ps rss b h others)

  -- ---- the keys in order of first appearance

  twice-filtered : (k : ℕ) (xs : List ℕ)
      → filter (λ j. not (eqb j k)) (filter (λ j. not (eqb j k)) xs) ≡ filter (λ j. not (eqb j k)) xs
  twice-filtered k [] = refl
  twice-filtered k (x ∷ xs) =
      elim (cases_Bool (eqb x k)) [
        | inl e ↦ rw e (twice-filtered k xs)
        | inr e ↦ rw (e, e) (ap (λ (ys : List ℕ). x ∷ ys) (twice-filtered k xs))
      ]

  run-filtered : (k : ℕ) (rows : List Row) (ks : List ℕ) → All (λ row. kf row ≡ k) rows
      → filter (λ j. not (eqb j k)) (firsts (map kf rows ++ ks)) ≡ filter (λ j. not (eqb j k)) (firsts ks)
  run-filtered k [] ks h = refl
  run-filtered k (row ∷ rows) ks h =
      let is : kf row ≡ k = All-head (λ (r : Row). kf r ≡ k) row rows h in
      let e = eq-eqb k k refl in
      let ih = run-filtered k rows ks (All-tail (λ (r : Row). kf r ≡ k) row rows h) in
      let once : filter (λ j. not (eqb j k)) (k ∷ filter (λ j. not (eqb j k)) (firsts (map kf rows ++ ks)))
      ≡ filter (λ j. not (eqb j k)) (firsts (map kf rows ++ ks)) =
      rw e (twice-filtered k (firsts (map kf rows ++ ks))) in
      subst (λ (x : ℕ). filter (λ j. not (eqb j k))
      (x ∷ filter (λ j. not (eqb j x)) (firsts (map kf rows ++ ks)))
      ≡ filter (λ j. not (eqb j k)) (firsts ks)) (sym is) (once ∙ ih)

  kept : (k : ℕ) (ps : List KeySize) → Avoids k ps → filter (λ j. not (eqb j k)) (keys_of ps) ≡ keys_of ps
  unfolding keys_of
  kept k [] av = refl
  kept k (p ∷ ps) (differ, av) = (let e = ne_eqb p.key k differ in
      rw e (ap (λ (ks : List ℕ). p.key ∷ ks) (kept k ps av)))

  pub keys-are : (seen : List ℕ) (ps : List KeySize) (rss : List (List Row)) → NewKeys seen ps
      → Pairs AreKeyed ps rss → firsts (map kf (concat rss)) ≡ keys_of ps
  unfolding keys_of
  keys-are seen [] [] new h = refl
  keys-are seen [] (rs ∷ rss) new h = absurd h
  keys-are seen (p ∷ ps) [] new h = absurd h
  keys-are seen (p ∷ ps) ([] ∷ rss) (fresh, some, new) (own, h) = absurd (omega (arith, own.count, some))
  keys-are seen (p ∷ ps) ((row ∷ rows) ∷ rss) (fresh, some, new) (own, h) =
      let is : kf row ≡ p.key = All-head (λ (r : Row). kf r ≡ p.key) row rows own.keyed in
      let ih = keys-are (p.key ∷ seen) ps rss new h in
      let split : map kf (rows ++ concat rss) ≡ map kf rows ++ map kf (concat rss) =
      map-append kf rows (concat rss) in
      let rest : filter (λ j. not (eqb j p.key)) (firsts (map kf (rows ++ concat rss))) ≡ map (λ p. p.key) ps =
      ap (λ (ks : List ℕ). filter (λ j. not (eqb j p.key)) (firsts ks)) split
      ∙ run-filtered p.key rows (map kf (concat rss))
      (All-tail (λ (r : Row). kf r ≡ p.key) row rows own.keyed)
      ∙ ap (filter (λ j. not (eqb j p.key))) ih ∙ kept p.key ps (new-rest seen p ps (fresh, some, new)) in
      subst (λ (x : ℕ). x ∷ filter (λ j. not (eqb j x)) (firsts (map kf (rows ++ concat rss)))
      ≡ p.key ∷ map (λ p. p.key) ps) (sym is) (ap (λ (ks : List ℕ). p.key ∷ ks) rest)

  -- ---- keys in order of first appearance are new, and each has a row

  some-rows : (rows : List Row) → All (λ k. 0 < length (in_bucket k rows)) (firsts (map kf rows))
  some-rows [] = All-nil (λ k. 0 < length (in_bucket k []))
  some-rows (row ∷ rows) =
      let here : 0 < length (in_bucket (kf row) (row ∷ rows)) =
      (let e = eq-eqb (kf row) (kf row) refl in rw e (omega arith)) in
      let more = All-filter (λ j. not (eqb j (kf row))) (λ k. 0 < length (in_bucket k rows)) (firsts (map kf rows))
      (some-rows rows) in
      All-cons (λ k. 0 < length (in_bucket k (row ∷ rows))) (kf row)
      (filter (λ j. not (eqb j (kf row))) (firsts (map kf rows))) here
      (λ i d lt. grows row rows _ (more i d lt))
    where
      grows : (row : Row) (rows : List Row) (k : ℕ) → 0 < length (in_bucket k rows)
          → 0 < length (in_bucket k (row ∷ rows))
      grows row rows k h = elim (cases_Bool (eqb k (kf row))) [ inl e ↦ rw e (omega arith) | inr e ↦ rw e h ]

  pub all-keys : (P : ℕ → Type 0) → ((row : Row) → P (kf row)) → (rows : List Row)
      → All P (firsts (map kf rows))
  all-keys P f [] = All-nil P
  all-keys P f (row ∷ rows) = All-cons P (kf row) (filter (λ j. not (eqb j (kf row))) (firsts (map kf rows)))
      (f row) (All-filter (λ j. not (eqb j (kf row))) P (firsts (map kf rows)) (all-keys P f rows))

  abbrev pub bucket_size : List Row → ℕ → KeySize
  bucket_size whole k = record { key = k; size = length (in_bucket k whole) }

  -- no number comes twice
  abbrev pub Once : List ℕ → Type 0
  Once [] = Unit {0}
  Once (k ∷ ks) = All (λ j. j ≡ k → ⊥) ks × Once ks

  once-filter : (test : ℕ → Bool) (ks : List ℕ) → Once ks → Once (filter test ks)
  once-filter test [] h = tt
  once-filter test (k ∷ ks) (av, h) =
      elim (cases_Bool (test k)) [
        | inl e ↦ rw e (All-filter test (λ j. j ≡ k → ⊥) ks av, once-filter test ks h)
        | inr e ↦ rw e (once-filter test ks h)
      ]

  filter-avoids : (k : ℕ) (ks : List ℕ) → All (λ j. j ≡ k → ⊥) (filter (λ j. not (eqb j k)) ks)
  filter-avoids k [] = All-nil (λ j. j ≡ k → ⊥)
  filter-avoids k (x ∷ ks) =
      elim (cases_Bool (eqb x k)) [
        | inl e ↦ rw e (filter-avoids k ks)
        | inr e ↦ rw e (All-cons (λ j. j ≡ k → ⊥) x (filter (λ j. not (eqb j k)) ks) (eqb-false x k e)
            (filter-avoids k ks))
      ]

  pub once-firsts : (ks : List ℕ) → Once (firsts ks)
  once-firsts [] = tt
  once-firsts (k ∷ ks) = (filter-avoids k (firsts ks), once-filter (λ j. not (eqb j k)) (firsts ks) (once-firsts ks))

  new-from : (whole : List Row) (seen ks : List ℕ) → Once ks
      → All (λ k. list_any (λ j. eqb j k) seen ≡ false) ks → All (λ k. 0 < length (in_bucket k whole)) ks
      → NewKeys seen (map (bucket_size whole) ks)
  new-from whole seen [] once fresh some = tt
  new-from whole seen (k ∷ ks) (av, once) fresh some =
      let F = λ (x : ℕ). list_any (λ j. eqb j x) seen ≡ false in
      let next : All (λ x. list_any (λ j. eqb j x) (k ∷ seen) ≡ false) ks =
      λ i d lt. or_from _ _ (ne_eqb k _ (λ e. av i d lt (sym e))) (All-tail F k ks fresh i d lt) in (
        All-head F k ks fresh,
        All-head (λ x. 0 < length (in_bucket x whole)) k ks some,
        new-from whole (k ∷ seen) ks once next (All-tail (λ x. 0 < length (in_bucket x whole)) k ks some),
      )

  pub keys-new : (rows : List Row) → NewKeys [] (map (bucket_size rows) (firsts (map kf rows)))
  keys-new rows = new-from rows [] (firsts (map kf rows)) (once-firsts (map kf rows)) (λ i d lt. refl) (some-rows rows)

  pub buckets-keyed : (whole : List Row) (ks : List ℕ)
      → Pairs AreKeyed (map (bucket_size whole) ks) (map (λ k. in_bucket k whole) ks)
  buckets-keyed whole [] = tt
  buckets-keyed whole (k ∷ ks) = (
    record {
      count = refl;
      keyed =
          λ i d lt. sym (eqb-true _ _ (filter_passes (λ (row : Row). eqb k (kf row)) whole i d lt));
    },
    buckets-keyed whole ks,
  )
