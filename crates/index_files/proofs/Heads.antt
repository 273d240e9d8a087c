-- A header that is read is one that is spelled so, and the other way round.
use Rattle.std.proofs.Common.{◌≡◌, ℕ, ◌+◌, ◌*◌, ◌/◌, ◌^◌, ◌⊎◌, Bool, true, false, ltb}
use Rattle.std.proofs.Common.{leb, eqb, List, [], ◌∷◌, ◌++◌, length, None, refl, sym, ap, subst, ◌∙◌}
use Rattle.std.proofs.Common.{inl, inr, arith}
use Rattle.std.proofs.lemmas.Bool.{cases_eq, ltb-false, eqb-true, eq-eqb, or_parts, or_from, not-false, not_from_true}
use Rattle.std.proofs.lemmas.List.{append-nil}
use Rattle.bcodes.specs.Ranges.{is_dim, load_limit}
use Rattle.file_parts.specs.Format.{Refusal, first_refusal, Spells}
use Rattle.file_parts.specs.Fields.{number_of, takes_dim, takes_count, rows_beside, HeadValue, header, dim_field}
use Rattle.file_parts.specs.Fields.{code_size_field, count_field, flag_field, metric_field}
use Rattle.file_parts.specs.declared.role.Role.{Role}
use Rattle.file_parts.proofs.Reading.{one_check, two_checks}
use Rattle.index_files.specs.Parts.{Number, HeadWhere}

-- what a header says of itself
pub record IsHeader (role : Role) (h : HeadValue) : Type 0 where
  pub dim : is_dim h.dim ≡ true
  pub takes_dim : takes_dim role h.dim ≡ true
  pub small : leb (2 ^ 63) h.count ≡ false
  pub takes_count : takes_count role h.count ≡ true
  pub load : ltb load_limit ((rows_beside role + h.count) * (h.dim / 8 + 16)) ≡ false

below_two : (n : ℕ) → ltb 1 n ≡ false → (n ≡ 0) ⊎ (n ≡ 1)
below_two n h = elim (cases_eq n 0) [ inl e ↦ inl e | inr ne ↦ inr (omega (arith, ne, ltb-false 1 n h)) ]

flag_found : (bytes : List ℕ) → length bytes ≡ 1 → ltb 1 (number_of 1 bytes) ≡ false
    → Number 1 0 bytes ⊎ (Number 1 1 bytes × (eqb (number_of 1 bytes) 1 ≡ true))
flag_found bytes len h =
    elim (below_two (number_of 1 bytes) h) [
      | inl e ↦ inl (record { size = len; reads = e })
      | inr e ↦ inr (record { size = len; reads = e }, eq-eqb _ _ e)
    ]

metric_found : (bytes : List ℕ) → length bytes ≡ 4 → ltb 1 (number_of 4 bytes) ≡ false
    → Number 4 0 bytes ⊎ Number 4 1 bytes
metric_found bytes len h = elim (below_two (number_of 4 bytes) h) [
  | inl e ↦ inl (record { size = len; reads = e })
  | inr e ↦ inr (record { size = len; reads = e })
]

pub header-found : (role : Role) (bytes : List ℕ) (h : HeadValue) → Spells (header role) bytes h
    → IsHeader role h × HeadWhere (h.flag ≡ true) h.dim h.count bytes
unfolding header dim_field code_size_field count_field flag_field metric_field
header-found role bytes h (
  b0,
  r0,
  p0,
  l0,
  c0,
  (b1, r1, p1, l1, c1, (b2, r2, p2, l2, c2, (b3, r3, p3, l3, c3, (b4, r4, p4, l4, c4, (p5, is))))),
) =
    let d = number_of 4 b0 in
    let n = number_of 8 b2 in
    let d-is = or_parts _ _ (one_check _ _ c0) in
    let size-is : number_of 4 b1 ≡ d / 8 = eqb-true _ _ (not-false _ (one_check _ _ c1)) in
    let n-is = two_checks _ _ _ _ c2 in
    let n-parts = or_parts _ _ n-is.0 in
    let last : r3 ≡ b4 = p4 ∙ ap (λ (t : List ℕ). b4 ++ t) p5 ∙ append-nil b4 in
    let metric : Number 4 0 r3 ⊎ Number 4 1 r3 = rw last (metric_found b4 l4 (one_check _ _ c4)) in
    subst (λ (h : HeadValue). IsHeader role h × HeadWhere (h.flag ≡ true) h.dim h.count bytes) is (
      record {
        dim = not-false _ d-is.0;
        takes_dim = not-false _ d-is.1;
        small = n-parts.0;
        takes_count =
            not-false _ n-parts.1;
        load = n-is.1;
      },
      (
        b0,
        r0,
        p0,
        record { size = l0; reads = refl },
        (
          b1,
          r1,
          p1,
          record { size = l1; reads = size-is },
          (
            b2,
            r2,
            p2,
            record { size = l2; reads = refl },
            (b3, r3, p3, flag_found b3 l3 (one_check _ _ c3), metric),
          ),
        ),
      ),
    )

-- ---- the other way round

pub pass_one : (b : Bool) (r : Refusal) → b ≡ false
    → first_refusal (record { refused = b; refusal = r } ∷ []) ≡ None
pass_one true r e = absurd cc
pass_one false r e = refl

pub pass_two : (b : Bool) (r : Refusal) (c : Bool) (s : Refusal) → b ≡ false → c ≡ false
    → first_refusal (record { refused = b; refusal = r } ∷ record { refused = c; refusal = s } ∷ []) ≡ None
pass_two true r c s e f = absurd cc
pass_two false r true s e f = absurd cc
pass_two false r false s e f = refl

-- a flag that is spelled so is read
flag_again : (P : Type 0) (bytes : List ℕ) → Number 1 0 bytes ⊎ (Number 1 1 bytes × P)
    → (n : ℕ) × Number 1 n bytes × (ltb 1 n ≡ false) × (eqb n 1 ≡ true → P)
flag_again P bytes (inl h) = (0, h, refl, λ e. absurd cc)
flag_again P bytes (inr (h, p)) = (1, h, refl, λ e. p)

metric_again : (bytes : List ℕ) → Number 4 0 bytes ⊎ Number 4 1 bytes
    → (n : ℕ) × Number 4 n bytes × (ltb 1 n ≡ false)
metric_again bytes (inl h) = (0, h, refl)
metric_again bytes (inr h) = (1, h, refl)

pub record Again (role : Role) (P : Type 0) (d n : ℕ) (bytes : List ℕ) : Type 0 where
  pub flag : Bool
  pub spells : Spells (header role) bytes (record { dim = d; count = n; flag = flag })
  pub means : flag ≡ true → P

pub header-again : (role : Role) (P : Type 0) (d n : ℕ) (bytes : List ℕ)
    → ((flag : Bool) → IsHeader role (record { dim = d; count = n; flag = flag })) → HeadWhere P d n bytes
    → Again role P d n bytes
unfolding header dim_field code_size_field count_field flag_field metric_field
header-again role P d n bytes is (b0, r0, p0, n0, (b1, r1, p1, n1, (b2, r2, p2, n2, (b3, r3, p3, flag, metric)))) =
    let ok = is true in
    let f = flag_again P b3 flag in
    let m = metric_again r3 metric in
    let c0 = pass_one _ _ (or_from _ _ (not_from_true _ ok.dim) (not_from_true _ ok.takes_dim)) in
    let c1 = pass_one _ _ (not_from_true _ (eq-eqb (d / 8) (d / 8) refl)) in
    let c2 = pass_two _ _ _ _ (or_from _ _ ok.small (not_from_true _ ok.takes_count)) ok.load in
    let all : r3 ≡ r3 ++ [] = sym (append-nil r3) in
    record {
      flag = eqb f.0 1;
      spells = (
        b0,
        r0,
        p0,
        n0.size,
        rw n0.reads c0,
        rw n0.reads (
          b1,
          r1,
          p1,
          n1.size,
          rw n1.reads c1,
          (
            b2,
            r2,
            p2,
            n2.size,
            rw n2.reads c2,
            (
              b3,
              r3,
              p3,
              f.1.size,
              rw f.1.reads (pass_one _ _ f.2),
              rw (n2.reads, f.1.reads) (r3, [], all, m.1.size, rw m.1.reads (pass_one _ _ m.2), (refl, refl)),
            ),
          ),
        ),
      );
      means = f.3;
    }
