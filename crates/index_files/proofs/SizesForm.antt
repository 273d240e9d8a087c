-- The two forms of the sizes of an IVF's lists.
use Rattle.std.proofs.Common.{◌≡◌, ◌⊎◌, inl, inr, ℕ, zero, suc, ◌+◌, ◌*◌, ◌/◌, ◌%◌}
use Rattle.std.proofs.Common.{◌<◌, ◌≤◌, Bool, true, false, ltb, eqb, not, ◌||◌, ◌&&◌, List, []}
use Rattle.std.proofs.Common.{◌∷◌, ◌++◌, length, map, None, refl, sym, ap, subst, ◌∙◌, arith}
use Rattle.std.specs.Prelude.{count_by, nat_lt, sum, codes}
use Rattle.std.specs.List.{filter, range_with_len}
use Rattle.std.specs.Str.{bytes_eq}
use Rattle.std.proofs.lemmas.Slice.Eq.{bytes_eq-Decides}
use Rattle.std.proofs.lemmas.Bool.{cases_Bool, cases_eq, eqb-true, eqb-false, eq-eqb, ltb-false, lt-ltb, le-ltb}
use Rattle.std.proofs.lemmas.Bool.{or_parts, or_from, not-false, not_from_true, ne_eqb}
use Rattle.std.proofs.lemmas.List.{append-nil}
use Rattle.file_parts.specs.Format.{Spells, first_refusal, ◌>>=◌, done}
use Rattle.file_parts.specs.Fields.{number_of}
use Rattle.file_parts.proofs.Reading.{one_check, two_checks, spells-split, spells-join}
use Rattle.index_files.specs.Parts.{◌▸◌, Each, Is, Number, Vector}
use Rattle.index_files.specs.IvfFormat.{ListSize, rows_in, full_sizes, numbered_sizes, full_form, sparse_count_checks}
use Rattle.index_files.specs.IvfFormat.{sparse_sizes, sparse_form, list_sizes}
use Rattle.index_files.proofs.Heads.{pass_one, pass_two}
use Rattle.index_files.proofs.ListGroups.{Rising}
use Rattle.index_files.proofs.Sizes.{full-found, full-again, numbered, PairPart, sparse-found, sparse-again}

abbrev pub FullForm : ℕ → List ListSize → List ℕ → Type 0
FullForm nlist ps bytes =
    (ss : List ℕ) × (length ss ≡ nlist) × (ps ≡ numbered_sizes 0 ss) × (nlist / 2 < length ps)
    × ◌▸◌ (Is (codes "full")) (Vector (Number 8) ss) bytes

abbrev pub SparseForm : ℕ → List ListSize → List ℕ → Type 0
SparseForm nlist ps bytes = (length ps ≤ nlist / 2)
    × ◌▸◌ (Is (codes "sprs")) (Number 8 (2 * length ps) ▸ Each PairPart ps) bytes

pub record SizesRead (nlist total : ℕ) (ps : List ListSize) (bytes : List ℕ) : Type 0 where
  pub rising : Rising 0 nlist ps
  pub total_is : rows_in ps ≡ total
  pub form : FullForm nlist ps bytes ⊎ SparseForm nlist ps bytes

pub is-text : (b text : List ℕ) → bytes_eq b text ≡ true → b ≡ text
is-text b text e = (bytes_eq-Decides b text).0 e

module _ (nlist total : ℕ) where
  full-read : (front back bytes : List ℕ) (ps : List ListSize) → 1 ≤ nlist → bytes ≡ front ++ back
      → front ≡ codes "full" → Spells (full_form nlist total) back ps → SizesRead nlist total ps bytes
  full-read front back bytes ps some parts is (f, b, p, l, c, m) =
      let s = spells-split (full_sizes nlist total nlist []) (λ sizes. done (numbered_sizes 0 sizes)) b ps m in
      let h = full-found nlist total nlist [] s.front s.value s.first in
      let n = numbered 0 h.more in
      let count : length h.more ≡ nlist = h.count in
      let size : number_of 8 f ≡ length h.more = eqb-true _ _ (not-false _ (one_check _ _ c)) ∙ sym count in
      let at_end : b ≡ s.front = s.parts ∙ ap (λ (t : List ℕ). s.front ++ t) s.more.0 ∙ append-nil s.front in
      let is_ps : numbered_sizes 0 h.more ≡ ps = ap (numbered_sizes 0) (sym h.all) ∙ s.more.1 in
      let filled : nlist / 2 < length (numbered_sizes 0 h.more) =
      subst (λ k. nlist / 2 < k) (sym n.count)
      (subst (λ (xs : List ℕ). nlist / 2 < count_by (nat_lt 0) xs) h.all (h.filled (omega (arith, some)))) in
      let zero-more : 0 + length h.more ≡ nlist = omega (arith, count) in
      subst (λ (ps : List ListSize). SizesRead nlist total ps bytes) is_ps (record {
        rising = subst (λ k. Rising 0 k (numbered_sizes 0 h.more)) zero-more n.rising;
        total_is = n.total ∙ ap sum (sym h.all) ∙ h.total_is (omega (arith, some));
        form = inl (
          h.more,
          count,
          refl,
          filled,
          (
            front,
            back,
            parts,
            is,
            (
              f,
              b,
              p,
              record { size = l; reads = size },
              subst (Each (Number 8) h.more) (sym at_end) h.parts,
            ),
          ),
        );
      })

  sparse-read : (front back bytes : List ℕ) (ps : List ListSize) → bytes ≡ front ++ back
      → front ≡ codes "sprs" → Spells (sparse_form nlist total) back ps → SizesRead nlist total ps bytes
  sparse-read front back bytes ps parts is (f, b, p, l, c, m) =
      let k = number_of 8 f in
      let h = sparse-found nlist total (k / 2) 0 [] b ps (λ list e. omega arith) m in
      let checks = two_checks (eqb (k % 2) 1 || ltb (2 * (nlist / 2)) k) _ (eqb k 0 && not (eqb total 0)) _ c in
      let whole = or_parts (eqb (k % 2) 1) (ltb (2 * (nlist / 2)) k) checks.0 in
      let odd : k % 2 ≡ 1 → ⊥ = eqb-false (k % 2) 1 whole.0 in
      let most : k ≤ 2 * (nlist / 2) = ltb-false (2 * (nlist / 2)) k whole.1 in
      let twice : k ≡ 2 * (k / 2) = omega (arith, odd) in
      let count : length ps ≡ k / 2 = ap length h.all ∙ h.count in
      let sum_is : rows_in ps ≡ total = elim (cases_eq k 0) [
        | inl e ↦ none-is ps (omega (arith, count, e)) ∙ sym (no-rows k e checks.1)
        | inr ne ↦ h.total_is (omega (arith, twice, ne))
      ] in
      record {
        rising = subst (λ (ps : List ListSize). Rising 0 nlist ps) (sym h.all) h.rising;
        total_is = sum_is;
        form = inr (
          omega (arith, count, most, twice),
          (
            front,
            back,
            parts,
            is,
            (
              f,
              b,
              p,
              record { size = l; reads = omega (arith, count, twice) },
              subst (λ (ps : List ListSize). Each PairPart ps b) (sym h.all) h.parts,
            ),
          ),
        );
      }
    where
      none-is : (ps : List ListSize) → length ps ≡ 0 → rows_in ps ≡ 0
      none-is [] e = refl
      none-is (q ∷ qs) e = absurd (omega (arith, e))

      no-rows : (k : ℕ) → k ≡ 0 → (eqb k 0 && not (eqb total 0)) ≡ false → total ≡ 0
      no-rows k e h = (let t : not (eqb total 0) ≡ false = rw e at h in eqb-true total 0 (not-false (eqb total 0) t))

  pub sizes-found : (bytes : List ℕ) (ps : List ListSize) → 1 ≤ nlist
      → Spells (list_sizes nlist total) bytes ps → SizesRead nlist total ps bytes
  unfolding list_sizes
  sizes-found bytes ps some (front, back, parts, len, pass, more) =
      elim (cases_Bool (bytes_eq front (codes "full"))) [
        | inl e ↦ full-read front back bytes ps some parts (is-text front (codes "full") e) (rw e at more)
        | inr e ↦
            let other : bytes_eq front (codes "sprs") ≡ true =
            second (bytes_eq front (codes "full")) (bytes_eq front (codes "sprs")) e
            (not-false _ (one_check _ _ pass)) in
            sparse-read front back bytes ps parts (is-text front (codes "sprs") other) (rw e at more)
      ]
    where
      second : (a b : Bool) → a ≡ false → (a || b) ≡ true → b ≡ true
      second true b e h = absurd cc
      second false b e h = h

  last : (ps : List ListSize) → rows_in ps ≡ total → (eqb (2 * length ps) 0 && not (eqb total 0)) ≡ false
  last [] e = (let z : total ≡ 0 = sym e in rw z refl)
  last (q ∷ qs) e = (let k = ne_eqb (2 * suc (length qs)) 0 (omega arith) in rw k refl)

  pub sizes-again : (bytes : List ℕ) (ps : List ListSize) → SizesRead nlist total ps bytes
      → Spells (list_sizes nlist total) bytes ps
  unfolding list_sizes
  sizes-again bytes ps h = go h.form
    where
      go : FullForm nlist ps bytes ⊎ SparseForm nlist ps bytes → Spells (list_sizes nlist total) bytes ps
      go (inl (ss, count, is_ps, filled, (front, back, parts, is, (f, b, p, num, each)))) =
          let n = numbered 0 ss in
          let sum_is : sum ss ≡ total = sym n.total ∙ ap rows_in (sym is_ps) ∙ h.total_is in
          let many : nlist / 2 < count_by (nat_lt 0) ss =
          subst (λ k. nlist / 2 < k) (ap length is_ps ∙ n.count) filled in
          let a = full-again nlist total ss [] b each sum_is many in
          let a' : Spells (full_sizes nlist total nlist []) b ss =
          subst (λ k. Spells (full_sizes nlist total k []) b ss) count a in
          let whole : Spells (full_sizes nlist total nlist [] >>= λ sizes. done (numbered_sizes 0 sizes))
          (b ++ []) ps = spells-join (full_sizes nlist total nlist [])
          (λ sizes. done (numbered_sizes 0 sizes)) b [] ss ps a' (refl, sym is_ps) in
          let all = subst (λ (t : List ℕ). Spells
          (full_sizes nlist total nlist [] >>= λ sizes. done (numbered_sizes 0 sizes)) t ps)
          (append-nil b) whole in
          let form : Spells (full_form nlist total) back ps =
          (f, b, p, num.size, rw num.reads (pass_one _ _ (not_from_true _ (eq-eqb _ _ count))), all) in
          (front, back, parts, ap length is, rw is refl, rw is form)
      go (inr (few, (front, back, parts, is, (f, b, p, num, each)))) =
          let a = sparse-again nlist total 0 ps [] b (λ list le. refl) h.rising h.total_is each in
          let half : (2 * length ps) / 2 ≡ length ps = omega arith in
          let a' : Spells (sparse_sizes nlist total ((2 * length ps) / 2) []) b ps =
          subst (λ k. Spells (sparse_sizes nlist total k []) b ps) (sym half) a in
          let c0 : (eqb ((2 * length ps) % 2) 1 || ltb (2 * (nlist / 2)) (2 * length ps)) ≡ false =
          or_from _ _ (ne_eqb ((2 * length ps) % 2) 1 (omega arith))
          (le-ltb (2 * (nlist / 2)) (2 * length ps) (omega (arith, few))) in
          let c1 = last ps h.total_is in
          let ok : first_refusal (sparse_count_checks nlist total (2 * length ps)) ≡ None = pass_two _ _ _ _ c0 c1 in
          let form : Spells (sparse_form nlist total) back ps = (f, b, p, num.size, rw num.reads ok, rw num.reads a') in
          (front, back, parts, ap length is, rw is refl, rw is form)

-- the lists that are not empty, with their sizes
pub numbered-filled : (size : ℕ → ℕ) (n a : ℕ)
    → numbered_sizes a (map size (range_with_len a n))
    ≡ map (λ list. record { list = list; size = size list })
    (filter (λ list. nat_lt 0 (size list)) (range_with_len a n))
numbered-filled size zero a = refl
numbered-filled size (suc n) a =
    elim (cases_eq (size a) 0) [
      | inl e ↦
          let is : eqb (size a) 0 ≡ true = eq-eqb (size a) 0 e in
          let no_rows : ltb 0 (size a) ≡ false = le-ltb 0 (size a) (omega (arith, e)) in
          rw (is, no_rows) (numbered-filled size n (a + 1))
      | inr ne ↦
          let is : eqb (size a) 0 ≡ false = ne_eqb (size a) 0 ne in
          let rows : ltb 0 (size a) ≡ true = lt-ltb 0 (size a) (omega (arith, ne)) in
          rw (is, rows) (ap (λ (ps : List ListSize). record { list = a; size = size a } ∷ ps)
          (numbered-filled size n (a + 1)))
    ]
