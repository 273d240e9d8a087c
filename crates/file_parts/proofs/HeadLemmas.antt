-- Where the last field of a header stands.
use Rattle.std.proofs.Common.{◌≡◌, List, ℕ, ◌/◌, ltb, length, take, drop, Option, Some, None, Ok}
use Rattle.std.proofs.Common.{inl, inr, refl, sym, ap, ◌∙◌}
use Rattle.std.proofs.lemmas.Bool.{cases_Bool}
use Rattle.std.proofs.lemmas.List.{drop-drop}
use Rattle.file_parts.specs.declared.role.Role.{Role}
use Rattle.file_parts.specs.declared.reason.Reason.TheVariants as reason
use Rattle.file_parts.specs.Format.{Check, Place, Refusal, first_refusal, on_pass, run, after}
use Rattle.file_parts.specs.Fields.{at_most, count_checks, dim_checks, must_be}
use Rattle.file_parts.specs.Fields.{code_size_field, count_field, dim_field, flag_field, metric_field, number}
use Rattle.file_parts.specs.Fields.{number_of}
use Rattle.file_parts.specs.Heads.{metric_of}
use Rattle.file_parts.proofs.Reading.{okay, ok-is}

-- a number that was read is the one in the first bytes, and those are gone
pub record Moves (w : ℕ) (p q : Place) (n : ℕ) : Type 0 where
  pub number : n ≡ number_of w (take w p.bytes)
  pub rest : q.bytes ≡ drop w p.bytes

moves : (w : ℕ) (p q : Place) (n : ℕ) (o : Option Refusal) (read : ℕ × Place)
    → read ≡ (number_of w (take w p.bytes), after w p) → on_pass p.at o (okay read) ≡ Ok (n, q)
    → Moves w p q n
moves w p q n None read is k =
    let same = sym (ok-is read (n, q) k) ∙ is in
    record { number = ap (λ (x : ℕ × Place). x.0) same; rest = ap (λ (x : ℕ × Place). x.1.bytes) same }
moves w p q n (Some refusal) read is k = absurd cc

number_moves : (w : ℕ) (checks : ℕ → List Check) (p q : Place) (n : ℕ) → run (number w checks) p ≡ Ok (n, q)
    → Moves w p q n
number_moves w checks p q n e =
    elim (cases_Bool (ltb (length p.bytes) w)) [
      | inl short ↦ absurd (let k = rw short at e in cc)
      | inr long ↦ moves w p q n (first_refusal (checks (number_of w (take w p.bytes)))) _ refl (rw long at e)
    ]

-- the metric stands behind the four other fields
pub metric_stands : (role : Role) (a b c d e f : Place) (dim size count flag metric : ℕ)
    → run (dim_field role) a ≡ Ok (dim, b) → run (code_size_field dim) b ≡ Ok (size, c)
    → run (count_field role dim) c ≡ Ok (count, d) → run flag_field d ≡ Ok (flag, e)
    → run metric_field e ≡ Ok (metric, f) → metric ≡ metric_of a.bytes
unfolding dim_field code_size_field count_field flag_field metric_field
metric_stands role a b c d e f dim size count flag metric on_dim on_size on_count on_flag on_metric =
    let m0 = number_moves 4 (dim_checks role) a b dim on_dim in
    let m1 = number_moves 4 (must_be (dim / 8) reason.CodeSize) b c size on_size in
    let m2 = number_moves 8 (count_checks role dim) c d count on_count in
    let m3 = number_moves 1 (at_most 1 reason.Flag) d e flag on_flag in
    let m4 = number_moves 4 (at_most 1 reason.Metric) e f metric on_metric in
    let behind : e.bytes ≡ drop 17 a.bytes =
    m3.rest ∙ ap (drop 1) (m2.rest ∙ ap (drop 8) (m1.rest ∙ ap (drop 4) m0.rest ∙ drop-drop 4 4 a.bytes)
    ∙ drop-drop 8 8 a.bytes) ∙ drop-drop 1 16 a.bytes in
    m4.number ∙ ap (λ (bytes : List ℕ). number_of 4 (take 4 bytes)) behind
