-- The law of Flat.
use Rattle.std.proofs.Common.{◌≡◌, ℕ, ◌+◌, ◌*◌, ◌/◌, ◌<◌, ◌≤◌, pos, Bool, false, ltb}
use Rattle.std.proofs.Common.{List, [], ◌++◌, length, All, refl, sym, subst, arith}
use Rattle.std.proofs.lemmas.Bool.{eqb-true, eq-eqb, ltb-false}
use Rattle.std.proofs.lemmas.List.{append-nil}
use Rattle.std.proofs.lemmas.Int.{ints}
use Rattle.bcodes.specs.Value.{CodeList, Inner, Flat, numbered, weight, IsPlace, IsLegalFlat}
use Rattle.bcodes.proofs.NumberedLemmas.{length-numbered, get-numbered}
use Rattle.bcodes.specs.Ranges.{load_limit}
use Rattle.file_parts.specs.Format.{Spells, done, ◌>>=◌}
use Rattle.file_parts.specs.Fields.{rows_beside}
use Rattle.file_parts.specs.declared.role.Role.{Role}
use Rattle.file_parts.specs.declared.role.Role.TheVariants.{Outermost, Within, Quantizer}
use Rattle.file_parts.proofs.Reading.{spells-split, spells-join}
use Rattle.index_files.specs.FlatFormat.{flat_body}
use Rattle.index_files.specs.FileFormat.{body}
use Rattle.index_files.specs.declared.kind_name.KindName.TheVariants as named
use Rattle.index_files.specs.Laws.{FitsRole, IsBodyRole}
use Rattle.index_files.proofs.FileLaws.{BodyRead, KindLaw, at_end, legal-header}
use Rattle.index_files.proofs.Heads.{IsHeader}
use Rattle.index_files.proofs.Elements.{IsBytes}
use Rattle.index_files.proofs.FlatFiles.{flat-found, flat-again, is_dim-found}

pub place-at : (k n : ℕ) → k < n → IsPlace n (pos k)
place-at k n h = record { least = omega (arith, ints); most = omega (arith, ints) }

pub places : (cs : List (List ℕ)) (n : ℕ) → length cs ≡ n → All (λ row. IsPlace n row.label) (numbered 0 cs)
places cs n e k d h =
    let inside : k < length cs = omega (arith, length-numbered 0 cs, h) in
    let zero-k : 0 + k ≡ k = omega arith in
    rw (get-numbered 0 cs k d [] inside, zero-k) (place-at k n (omega (arith, inside)))

flat-load : (role : Role) (d n : ℕ) → ltb load_limit ((rows_beside role + n) * (d / 8 + 16)) ≡ false
    → weight d 0 n 0 ≤ load_limit
flat-load role d n h =
    let le : (rows_beside role + n) * (d / 8 + 16) ≤ load_limit = ltb-false _ _ h in
    let k : n * (d / 8 + 16) ≤ (rows_beside role + n) * (d / 8 + 16) = grind arith in
    omega (arith, le, k)

fits-role : (role : Role) (v : CodeList) (flag : Bool) → IsBodyRole role
    → IsHeader role (record { dim = v.dim; count = length v.codes; flag = flag }) → FitsRole role (Flat v)
fits-role Outermost v flag r h = tt
fits-role (Within dim count) v flag r h =
    let n = eqb-true _ _ h.takes_count in
    record { same_dim = eqb-true _ _ h.takes_dim; same_count = n; labels = places v.codes count n }
fits-role (Quantizer dim nlist rows flag) v f r h = absurd r

header-role : (role : Role) (v : CodeList) (flag : Bool) → IsBodyRole role → IsLegalFlat v
    → FitsRole role (Flat v) → IsHeader role (record { dim = v.dim; count = length v.codes; flag = flag })
header-role Outermost v flag r legal fits = legal-header v.dim 0 (length v.codes) 0 flag legal.dim legal.load
header-role (Within dim count) v flag r legal fits =
    let h = legal-header v.dim 0 (length v.codes) 0 flag legal.dim legal.load in
    record {
      dim = h.dim;
      takes_dim = eq-eqb _ _ fits.same_dim;
      small = h.small;
      takes_count =
          eq-eqb _ _ fits.same_count;
      load = h.load;
    }
header-role (Quantizer dim nlist rows flag) v f r legal fits = absurd r

pub flat-law : KindLaw named.Flat
unfolding body
flat-law = record {
  found = λ role bytes v r fits h. (
      let s = spells-split (flat_body role) (λ w. done (Flat w)) bytes v h in
      let all = at_end bytes s.front s.back s.parts s.more.0 in
      let f = flat-found role s.front s.value (subst IsBytes all fits) s.first in
      let made : BodyRead named.Flat role s.front (Flat s.value) = record {
        is_kind = refl;
        rest = f.parts;
        legal = record {
          dim = is_dim-found s.value.dim f.header.dim;
          codes = f.codes;
          load =
              flat-load role s.value.dim (length s.value.codes) f.header.load;
        };
        rows = refl;
        fits = fits-role role s.value f.flag r f.header;
      } in
      subst (λ (w : Inner). BodyRead named.Flat role bytes w) s.more.1
      (subst (λ (b : List ℕ). BodyRead named.Flat role b (Flat s.value)) (sym all) made));
  again = λ role bytes v r h. again-flat role bytes v r h;
}
  where
    again-flat : (role : Role) (bytes : List ℕ) (v : Inner) → IsBodyRole role → BodyRead named.Flat role bytes v
        → Spells (body named.Flat role) bytes v
    again-flat role bytes (Flat v) r h =
        let whole : Spells (flat_body role >>= λ w. done (Flat w)) (bytes ++ []) (Flat v) =
        spells-join (flat_body role) (λ w. done (Flat w)) bytes [] v (Flat v)
        (flat-again role bytes v (λ flag. header-role role v flag r h.legal h.fits) h.legal.codes h.rest) (
          refl,
          refl,
        ) in
        subst (λ (b : List ℕ). Spells (flat_body role >>= λ w. done (Flat w)) b (Flat v)) (append-nil bytes) whole
    again-flat role bytes _ r h = absurd (let k = h.is_kind in cc)
