-- The codes of a Flat that are read are those that are spelled, and the other way round.
use Rattle.std.proofs.Common.{inl, inr, ◌≡◌, ℕ, ◌*◌, ◌/◌, ◌%◌, Bool, true, leb, eqb, ◌&&◌, List}
use Rattle.std.proofs.Common.{[], ◌++◌, length, All, refl, sym, ap, subst, ◌∙◌}
use Rattle.std.proofs.lemmas.Bool.{eqb-true, eq-eqb, leb-true, le-leb, not-false, not_from_true, and_parts, and_from}
use Rattle.std.proofs.lemmas.List.{append-nil}
use Rattle.bcodes.specs.Ranges.{IsDim, is_dim}
use Rattle.bcodes.specs.Value.{CodeList, HasBytes, IsCode}
use Rattle.file_parts.specs.Format.{Spells, done, ◌>>=◌}
use Rattle.file_parts.specs.Fields.{no_check, number_of, header, bytes_field, repeated}
use Rattle.file_parts.specs.declared.role.Role.{Role}
use Rattle.file_parts.proofs.Reading.{spells-split, spells-join, one_check}
use Rattle.index_files.specs.Parts.{Each, Is, Head, HeadWhere}
use Rattle.index_files.specs.File.{FlatRest}
use Rattle.index_files.specs.FlatFormat.{flat_value, flat_codes, code_bytes_field, flat_body}
use Rattle.index_files.proofs.Heads.{IsHeader, header-found, header-again, pass_one}
use Rattle.index_files.proofs.Elements.{IsBytes, front-bytes, back-bytes, repeated-found, repeated-again}

pub is_dim-found : (d : ℕ) → is_dim d ≡ true → IsDim d
is_dim-found d e =
    let a = and_parts (eqb (d % 8) 0) (leb 8 d && leb d 65536) e in
    let b = and_parts (leb 8 d) (leb d 65536) a.1 in
    record { whole_bytes = eqb-true _ _ a.0; at_least = leb-true _ _ b.0; at_most = leb-true _ _ b.1 }

pub is_dim-again : (d : ℕ) → IsDim d → is_dim d ≡ true
is_dim-again d h = and_from _ _ (eq-eqb _ _ h.whole_bytes) (and_from _ _ (le-leb _ _ h.at_least) (le-leb _ _ h.at_most))

-- a flag that has a meaning has none in particular
pub free_flag : (P : Type 0) (d n : ℕ) (bytes : List ℕ) → HeadWhere P d n bytes → Head d n bytes
free_flag P d n bytes (b0, r0, p0, n0, (b1, r1, p1, n1, (b2, r2, p2, n2, (b3, r3, p3, flag, metric)))) = (
  b0,
  r0,
  p0,
  n0,
  (
    b1,
    r1,
    p1,
    n1,
    (
      b2,
      r2,
      p2,
      n2,
      (b3, r3, p3, elim flag [ inl h ↦ inl h | inr h ↦ inr (h.0, tt) ], metric),
    ),
  ),
)

pub record FlatRead (role : Role) (v : CodeList) (bytes : List ℕ) : Type 0 where
  pub flag : Bool
  pub header : IsHeader role (record { dim = v.dim; count = length v.codes; flag = flag })
  pub codes : All (IsCode v.dim) v.codes
  pub parts : FlatRest v.dim v.codes bytes

pub code-found : (w : ℕ) (bytes x : List ℕ) → IsBytes bytes → Spells (bytes_field w no_check) bytes x
    → Is x bytes × HasBytes w x
code-found w bytes x fits (front, back, parts, len, pass, (none, is)) =
    let all : bytes ≡ x = parts ∙ ap (λ (b : List ℕ). front ++ b) none ∙ append-nil front ∙ is in
    (all, record { size = rw (← is) len; bytes = rw (← all) fits })

pub code-again : (w : ℕ) (bytes x : List ℕ) → Is x bytes → HasBytes w x
    → Spells (bytes_field w no_check) bytes x
code-again w bytes x is has = rw is (x, [], sym (append-nil x), has.size, refl, (refl, refl))

pub flat-found : (role : Role) (bytes : List ℕ) (v : CodeList) → IsBytes bytes → Spells (flat_body role) bytes v
    → FlatRead role v bytes
unfolding flat_body code_bytes_field
flat-found role bytes v fits h =
    let s = spells-split (header role) flat_codes bytes v h in
    let hd = s.value in
    let head = header-found role s.front hd s.first in
    let m = s.more in
    let t = spells-split (repeated hd.count (bytes_field (hd.dim / 8) no_check))
    (λ cs. done (flat_value hd.dim cs)) m.1 v m.5 in
    let after = back-bytes s.back m.0 m.1 m.2 (back-bytes bytes s.front s.back s.parts fits) in
    let cs = repeated-found (bytes_field (hd.dim / 8) no_check) Is (HasBytes (hd.dim / 8))
    (code-found (hd.dim / 8)) hd.count t.front t.value (front-bytes m.1 t.front t.back t.parts after) t.first in
    let at_end : m.1 ≡ t.front = t.parts ∙ ap (λ (b : List ℕ). t.front ++ b) t.more.0 ∙ append-nil t.front in
    let size : number_of 8 m.0 ≡ length t.value * (hd.dim / 8) =
    eqb-true _ _ (not-false _ (one_check _ _ m.4)) ∙ ap (λ n. n * (hd.dim / 8)) (sym cs.count) in
    let spelled : Head hd.dim (length t.value) s.front =
    subst (λ n. Head hd.dim n s.front) (sym cs.count)
    (free_flag (hd.flag ≡ true) hd.dim hd.count s.front head.1) in
    subst (λ (w : CodeList). FlatRead role w bytes) t.more.1 (record {
      flag = hd.flag;
      header = subst (λ n. IsHeader role (record { dim = hd.dim; count = n; flag = hd.flag })) (sym cs.count) head.0;
      codes = cs.each;
      parts = (
        s.front,
        s.back,
        s.parts,
        spelled,
        (m.0, m.1, m.2, record { size = m.3; reads = size }, subst (Each Is t.value) (sym at_end) cs.parts),
      );
    })

pub flat-again : (role : Role) (bytes : List ℕ) (v : CodeList)
    → ((flag : Bool) → IsHeader role (record { dim = v.dim; count = length v.codes; flag = flag }))
    → All (IsCode v.dim) v.codes → FlatRest v.dim v.codes bytes → Spells (flat_body role) bytes v
unfolding flat_body code_bytes_field
flat-again role bytes v header_ok each (b0, r0, p0, head, (b1, r1, p1, n1, rest)) =
    let h = header-again role (Unit {0}) v.dim (length v.codes) b0 header_ok head in
    let cs = repeated-again (bytes_field (v.dim / 8) no_check) Is (HasBytes (v.dim / 8))
    (code-again (v.dim / 8)) v.codes r1 each rest in
    let whole : Spells (repeated (length v.codes) (bytes_field (v.dim / 8) no_check) >>= λ cs. done
    (flat_value v.dim cs)) r1 v =
    subst (λ (b : List ℕ). Spells (repeated (length v.codes) (bytes_field (v.dim / 8) no_check) >>= λ cs. done
    (flat_value v.dim cs)) b v) (append-nil r1)
    (spells-join (repeated (length v.codes) (bytes_field (v.dim / 8) no_check))
    (λ cs. done (flat_value v.dim cs)) r1 [] v.codes v cs (refl, refl)) in
    let more : Spells (flat_codes (record { dim = v.dim; count = length v.codes; flag = h.flag })) r0 v = (
      b1,
      r1,
      p1,
      n1.size,
      rw n1.reads (pass_one _ _
          (not_from_true _ (eq-eqb (length v.codes * (v.dim / 8)) (length v.codes * (v.dim / 8)) refl))),
      whole,
    ) in
    rw p0 (spells-join (header role) flat_codes b0 r0
    (record { dim = v.dim; count = length v.codes; flag = h.flag }) v h.spells more)
