-- The loops over the buckets of a packed run of a Hash.
use Rattle.std.proofs.Common.{◌≡◌, inl, inr, ℕ, zero, suc, ◌+◌, ◌-◌, ◌*◌, ◌/◌, ◌^◌, ◌<◌, ◌≤◌}
use Rattle.std.proofs.Common.{max, Bool, true, false, eqb, not, ◌||◌, List, [], ◌∷◌, ◌++◌, length, map}
use Rattle.std.proofs.Common.{cond, Option, Some, None, refl, sym, ap, subst, ◌∙◌, arith}
use Rattle.std.specs.Prelude.{is_some, sum, fold}
use Rattle.std.specs.List.{list_any, range_with_len}
use Rattle.std.proofs.lemmas.Bool.{cases_Bool, eqb-true, eqb-false, eq-eqb, ne_eqb}
use Rattle.std.proofs.lemmas.Nat.{mul-le}
use Rattle.std.proofs.Math.Nat.{mul-le-mul_right, pow-le-pow_right}
use Rattle.std.proofs.lemmas.List.Sums.{sum_by-cons}
use Rattle.bcodes.specs.Bits.{key}
use Rattle.file_parts.specs.declared.reason.Reason.{Reason}
use Rattle.file_parts.specs.declared.reason.Reason.TheVariants as reason
use Rattle.file_parts.specs.Format.{Check, Refusal, first_refusal}
use Rattle.key_buckets.specs.Keys.{list_of}
use Rattle.index_files.specs.HashFormat.{KeySize, bucket_at, buckets_in, bucket_checks, end_checks, hash_run_checks}
use Rattle.index_files.proofs.HashLaw.{key-below}
use Rattle.index_files.proofs.HashRun.{run-passes}

-- the refusal for a reason
abbrev pub refused : Reason → Option Refusal
refused r = Some (record { reason = r; back = 0 })

-- the bits of one bucket more
pub run_room : (b w count i : ℕ) → i < count → i * (b + w) + b + w ≤ 8 * (((b + w) * count + 7) / 8)
run_room b w count i lt =
    let one : (i + 1) * (b + w) ≤ count * (b + w) = mul-le-mul_right (b + w) (omega (arith, lt)) in
    let step : (i + 1) * (b + w) ≡ i * (b + w) + b + w = grind arith in
    let turn : count * (b + w) ≡ (b + w) * count = grind arith in
    omega (arith, one, step, turn)

pub next_at : (b w i : ℕ) → i * (b + w) + b + w ≡ (i + 1) * (b + w)
next_at b w i = grind arith

pub size_few : (run : List ℕ) (from width : ℕ) → width ≤ 31 → key run from width < 2147483648
size_few run from width le =
    let most : 2 ^ width ≤ 2 ^ 31 = pow-le-pow_right {n = 2} (omega arith) le in
    omega (arith, key-below run from width, most)

-- the bucket that was read from a bit of the run on
pub bucket_is : (run : List ℕ) (b width i k s : ℕ) (bytes : List ℕ) (at : ℕ) → bytes ≡ run → at ≡ i * (b + width)
    → k ≡ key bytes at b → s ≡ key bytes (at + b) width
    → record { key = k; size = s } ≡ bucket_at run b width i
bucket_is run b width i k s bytes at same here key_is size_is =
    rw (key_is, size_is, same, here) refl

module _ (run : List ℕ) (b width count : ℕ) where
  -- the buckets from the one at i on
  abbrev pub from : ℕ → List KeySize
  from i = map (bucket_at run b width) (range_with_len i (count - i))

  abbrev pub sizes : ℕ → List ℕ
  sizes i = map (λ p. p.size) (from i)

  pub from_next : (i : ℕ) → i < count → from i ≡ bucket_at run b width i ∷ from (i + 1)
  from_next i lt = (let k : count - i ≡ suc (count - (i + 1)) = omega (arith, lt) in
      ap (λ n. map (bucket_at run b width) (range_with_len i n)) k)

  pub from_all : from 0 ≡ buckets_in run b width count
  from_all = (let k : count - 0 ≡ count = omega arith in
      ap (λ n. map (bucket_at run b width) (range_with_len 0 n)) k)

  pub from_none : (i : ℕ) → count ≤ i → from i ≡ []
  from_none i le = (let k : count - i ≡ 0 = omega (arith, le) in
      ap (λ n. map (bucket_at run b width) (range_with_len i n)) k)

  pub sizes_next : (i : ℕ) → i < count → sum (sizes i) ≡ (bucket_at run b width i).size + sum (sizes (i + 1))
  sizes_next i lt = ap (λ (ps : List KeySize). sum (map (λ p. p.size) ps)) (from_next i lt)
      ∙ sum_by-cons (λ (n : ℕ). n) (bucket_at run b width i).size (sizes (i + 1))

  pub sizes_none : (i : ℕ) → count ≤ i → sum (sizes i) ≡ 0
  sizes_none i le = ap (λ (ps : List KeySize). sum (map (λ p. p.size) ps)) (from_none i le)

  module _ (total : ℕ) where
    abbrev checks_from : List ℕ → List KeySize → List Check
    checks_from seen ps = bucket_checks seen ps
        ++ end_checks width total (sum (sizes 0)) (fold max 0 (sizes 0)) run (count * (b + width))

    abbrev whole : Option Refusal
    whole = first_refusal (hash_run_checks b width count total run)

    -- the buckets before the one at i passed
    pub record SoFar (i total_so_far largest_so_far : ℕ) (es : List (ℕ × ℕ)) : Type 0 where
      pub seen : List ℕ
      pub known : (k : ℕ) → is_some (list_of es k) ≡ list_any (λ j. eqb j k) seen
      pub rest : first_refusal (checks_from seen (from i)) ≡ whole
      pub all : total_so_far + sum (sizes i) ≡ sum (sizes 0)
      pub largest : fold max largest_so_far (sizes i) ≡ fold max 0 (sizes 0)
      pub few : total_so_far ≤ i * 2147483648

    pub so_far_none : SoFar 0 0 0 []
    unfolding hash_run_checks
    so_far_none = record {
      seen = [];
      known = λ k. refl;
      rest = ap (λ (ps : List KeySize). first_refusal (bucket_checks [] ps
          ++ end_checks width total (sum (map (λ p. p.size) ps)) (fold max 0 (map (λ p. p.size) ps)) run
          (count * (b + width)))) from_all;
      all = omega arith;
      largest = refl;
      few = omega arith;
    }

    here : (i : ℕ) (seen : List ℕ) → i < count
        → first_refusal (checks_from seen (from i))
        ≡ first_refusal (checks_from seen (bucket_at run b width i ∷ from (i + 1)))
    here i seen lt = ap (λ (ps : List KeySize). first_refusal (checks_from seen ps)) (from_next i lt)

    pub twice : (i all largest k : ℕ) (es : List (ℕ × ℕ)) → i < count → k ≡ (bucket_at run b width i).key
        → is_some (list_of es k) ≡ true → SoFar i all largest es → whole ≡ refused reason.DuplicateKey
    twice i all largest k es lt is e h =
        let dup : list_any (λ j. eqb j (bucket_at run b width i).key) h.seen ≡ true =
        sym (h.known (bucket_at run b width i).key) ∙ ap (λ x. is_some (list_of es x)) (sym is) ∙ e in
        sym h.rest ∙ here i h.seen lt ∙ rw dup refl

    pub empty : (i all largest k s : ℕ) (es : List (ℕ × ℕ)) → i < count → k ≡ (bucket_at run b width i).key
        → s ≡ (bucket_at run b width i).size → is_some (list_of es k) ≡ false → s ≡ 0
        → SoFar i all largest es → whole ≡ refused reason.EmptyBucket
    empty i all largest k s es lt is size e none h =
        let new : list_any (λ j. eqb j (bucket_at run b width i).key) h.seen ≡ false =
        sym (h.known (bucket_at run b width i).key) ∙ ap (λ x. is_some (list_of es x)) (sym is) ∙ e in
        let no : eqb (bucket_at run b width i).size 0 ≡ true = eq-eqb _ _ (sym size ∙ none) in
        sym h.rest ∙ here i h.seen lt ∙ rw (new, no) refl

    known_next : (k l : ℕ) (es fs : List (ℕ × ℕ)) (seen : List ℕ)
        → ((q : ℕ) → list_of fs q ≡ cond (eqb k q) (Some l) (list_of es q))
        → ((q : ℕ) → is_some (list_of es q) ≡ list_any (λ j. eqb j q) seen)
        → (q : ℕ) → is_some (list_of fs q) ≡ list_any (λ j. eqb j q) (k ∷ seen)
    known_next k l es fs seen put known q =
        ap is_some (put q) ∙ elim (cases_Bool (eqb k q)) [
          | inl e ↦ rw e refl
          | inr e ↦ rw e (known q)
        ]

    pub so_far_next : (i all largest k s l : ℕ) (es fs : List (ℕ × ℕ)) → i < count → width ≤ 31
        → k ≡ (bucket_at run b width i).key → s ≡ (bucket_at run b width i).size
        → is_some (list_of es k) ≡ false → (s ≡ 0 → ⊥)
        → ((q : ℕ) → list_of fs q ≡ cond (eqb k q) (Some l) (list_of es q))
        → SoFar i all largest es → SoFar (i + 1) (all + s) (max largest s) fs
    so_far_next i all largest k s l es fs lt narrow is size e some put h =
        let new : list_any (λ j. eqb j (bucket_at run b width i).key) h.seen ≡ false =
        sym (h.known (bucket_at run b width i).key) ∙ ap (λ x. is_some (list_of es x)) (sym is) ∙ e in
        let no : eqb (bucket_at run b width i).size 0 ≡ false = ne_eqb _ _ (λ z. some (size ∙ z)) in
        let small : s < 2147483648 = (let f = size_few run (i * (b + width) + b) width narrow in omega (arith, f, size)) in
        let seen_is : k ∷ h.seen ≡ (bucket_at run b width i).key ∷ h.seen = ap (λ (x : ℕ). x ∷ h.seen) is in
        record {
          seen = k ∷ h.seen;
          known = known_next k l es fs h.seen put h.known;
          rest =
              ap (λ (seen : List ℕ). first_refusal (checks_from seen (from (i + 1)))) seen_is
              ∙ sym (here i h.seen lt ∙ rw (new, no) refl) ∙ h.rest;
          all = omega (arith, h.all, sizes_next i lt, size);
          largest =
              ap (λ (n : ℕ). fold max (max largest n) (sizes (i + 1))) size
              ∙ sym (ap (λ (ps : List KeySize). fold max largest (map (λ p. p.size) ps)) (from_next i lt))
              ∙ h.largest;
          few = omega (arith, h.few, small);
        }

    pub so_far_all : (i all largest : ℕ) (es : List (ℕ × ℕ)) → count ≤ i → SoFar i all largest es
        → first_refusal (end_checks width total all largest run (count * (b + width))) ≡ whole
    so_far_all i all largest es le h =
        let none = from_none i le in
        let zero_sum = sizes_none i le in
        let sum_is : all ≡ sum (sizes 0) = omega (arith, h.all, zero_sum) in
        let largest_is : largest ≡ fold max 0 (sizes 0) =
        sym (ap (λ (ps : List KeySize). fold max largest (map (λ p. p.size) ps)) none) ∙ h.largest in
        ap (λ (n : ℕ). first_refusal (end_checks width total n largest run (count * (b + width)))) sum_is
        ∙ ap (λ (n : ℕ). first_refusal (end_checks width total (sum (sizes 0)) n run (count * (b + width)))) largest_is
        ∙ ap (λ (ps : List KeySize). first_refusal (checks_from h.seen ps)) (sym none) ∙ h.rest

    pub passed_total : whole ≡ None → sum (sizes 0) ≡ total
    passed_total e = ap (λ (ps : List KeySize). sum (map (λ p. p.size) ps)) from_all
        ∙ (run-passes b width count total run e).total_is
