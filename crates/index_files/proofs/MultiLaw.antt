-- The law of MultiHash: the bytes that are read are a file of the value, and the other way round.
use Rattle.std.proofs.Common.{◌≡◌, ℕ, zero, suc, ◌+◌, ◌*◌, ◌/◌, ◌^◌, ◌<◌, ◌≤◌, Bool}
use Rattle.std.proofs.Common.{true, ltb, ◌||◌, List, [], ◌∷◌, ◌++◌, length, map, All, refl, sym, subst}
use Rattle.std.proofs.Common.{◌∙◌, arith}
use Rattle.std.proofs.lemmas.Bool.{eqb-true, eq-eqb, ltb-false, le-ltb, or_parts, or_from}
use Rattle.std.proofs.lemmas.List.{append-nil}
use Rattle.bcodes.specs.Value.{CodeList, MultiValue, Inner, Multi, IsCode, IsLegalMulti, weight}
use Rattle.bcodes.specs.Ranges.{load_limit}
use Rattle.file_parts.specs.declared.role.Role.{Role}
use Rattle.file_parts.specs.declared.role.Role.TheVariants.{Outermost, Within, Quantizer}
use Rattle.file_parts.specs.Format.{Spells, ◌>>=◌, done}
use Rattle.file_parts.specs.Fields.{number_of, HeadValue, header, each}
use Rattle.file_parts.proofs.Reading.{one_check, two_checks, spells-split, spells-join}
use Rattle.index_files.specs.Parts.{Each, Head}
use Rattle.std.specs.List.{range_with_len}
use Rattle.index_files.specs.File.{FlatBody, MapPart, MultiRest}
use Rattle.index_files.specs.declared.kind_name.KindName.TheVariants as named
use Rattle.index_files.specs.FlatFormat.{flat_inside}
use Rattle.index_files.specs.MultiFormat.{map_fields, multi_body}
use Rattle.index_files.specs.FileFormat.{body}
use Rattle.index_files.specs.Laws.{FitsRole, IsBodyRole}
use Rattle.index_files.proofs.FileLaws.{BodyRead, KindLaw, at_end, legal-header}
use Rattle.index_files.proofs.Heads.{IsHeader, header-found, header-again, pass_one, pass_two}
use Rattle.index_files.proofs.Elements.{IsBytes, front-bytes, back-bytes}
use Rattle.index_files.proofs.FlatFiles.{free_flag, is_dim-found}
use Rattle.index_files.proofs.FlatLaw.{places}
use Rattle.index_files.proofs.Each.{EachOf, each-found, each-again}
use Rattle.index_files.proofs.IvfLaw.{inside-found, inside-again}
use Rattle.index_files.proofs.MapLaw.{map-found, map-again}

-- ---- parts that give nothing

units-parts : (P : ℕ → List ℕ → Type 0) (xs : List ℕ) (us : List (Unit {0})) (bytes : List ℕ)
    → EachOf (λ x u b. P x b) xs us bytes → Each P xs bytes
units-parts P [] [] bytes h = h
units-parts P [] (u ∷ us) bytes h = absurd h
units-parts P (x ∷ xs) [] bytes h = absurd h
units-parts P (x ∷ xs) (u ∷ us) bytes (f, b, p, one, others) = (f, b, p, one, units-parts P xs us b others)

nothing : List ℕ → List (Unit {0})
nothing xs = map (λ x. tt) xs

parts-units : (P : ℕ → List ℕ → Type 0) (xs : List ℕ) (bytes : List ℕ) → Each P xs bytes
    → EachOf (λ x u b. P x b) xs (nothing xs) bytes
unfolding nothing
parts-units P [] bytes h = h
parts-units P (x ∷ xs) bytes (f, b, p, one, others) = (f, b, p, one, parts-units P xs b others)

-- ---- what is read

pub record MultiRead (role : Role) (v : MultiValue) (bytes : List ℕ) : Type 0 where
  pub rest : MultiRest v bytes
  pub legal : IsLegalMulti v
  pub fits : FitsRole role (Multi v)

multi-fits : (role : Role) (h : HeadValue) (v : MultiValue) → IsBodyRole role → IsHeader role h
    → v.dim ≡ h.dim → length v.codes ≡ h.count → FitsRole role (Multi v)
multi-fits Outermost h v r hd dim count = tt
multi-fits (Within d c) h v r hd dim count =
    let n : length v.codes ≡ c = count ∙ eqb-true h.count c hd.takes_count in
    record { same_dim = dim ∙ eqb-true _ _ hd.takes_dim; same_count = n; labels = places v.codes c n }
multi-fits (Quantizer d nl ro fl) h v r hd dim count = absurd r

weigh : (d k m : ℕ) → k * (d / 8 + 16 + 64 * m) ≤ load_limit → weight d m k 0 ≤ load_limit
weigh d k m le = omega (arith, le)

pub multi-found : (role : Role) (bytes : List ℕ) (v : MultiValue) → IsBodyRole role → IsBytes bytes
    → Spells (multi_body role) bytes v → MultiRead role v bytes
unfolding multi_body
multi-found role bytes v r fits0 spelled =
    let s = spells-split (header role) _ bytes v spelled in
    let h = s.value in
    let hd = header-found role s.front h s.first in
    let fits1 = back-bytes bytes s.front s.back s.parts fits0 in
    let q = spells-split (flat_inside (Within h.dim h.count)) _ s.back v s.more in
    let storage = inside-found (Within h.dim h.count) q.front q.value
    (front-bytes s.back q.front q.back q.parts fits1) q.first in
    let (b1, r1, p1, l1, c1, (b2, r2, p2, l2, c2, (b3, r3, p3, l3, c3, m3))) = q.more in
    let fits3 = back-bytes r2 b3 r3 p3 (back-bytes r1 b2 r2 p2
    (back-bytes q.back b1 r1 p1 (back-bytes s.back q.front q.back q.parts fits1))) in
    let cs = q.value.codes in
    let b = number_of 4 b1 in
    let nhash = number_of 4 b2 in
    let nflip = number_of 4 b3 in
    let b-parts = or_parts (ltb b 1 || ltb 64 b) (ltb h.dim b) (one_check _ _ c1) in
    let b-range = or_parts (ltb b 1) (ltb 64 b) b-parts.0 in
    let b-least : 1 ≤ b = ltb-false b 1 b-range.0 in
    let b-most : b ≤ 64 = ltb-false 64 b b-range.1 in
    let n-checks = two_checks ((ltb nhash 1 || ltb 1024 nhash) || ltb h.dim (nhash * b)) _
    (ltb load_limit (h.count * (h.dim / 8 + 16 + 64 * nhash))) _ c2 in
    let n-parts = or_parts (ltb nhash 1 || ltb 1024 nhash) (ltb h.dim (nhash * b)) n-checks.0 in
    let n-range = or_parts (ltb nhash 1) (ltb 1024 nhash) n-parts.0 in
    let n-least : 1 ≤ nhash = ltb-false nhash 1 n-range.0 in
    let n-most : nhash ≤ 1024 = ltb-false 1024 nhash n-range.1 in
    let within : nhash * b ≤ h.dim = ltb-false h.dim (nhash * b) n-parts.1 in
    let load : h.count * (h.dim / 8 + 16 + 64 * nhash) ≤ load_limit = ltb-false load_limit _ n-checks.1 in
    let nflip-most : nflip ≤ b = ltb-false b nflip (one_check _ _ c3) in
    let same_dim : q.value.dim ≡ h.dim = eqb-true _ _ storage.1.header.takes_dim in
    let count : length cs ≡ h.count = eqb-true _ _ storage.1.header.takes_count in
    let w : MultiValue = record { dim = h.dim; nhash = nhash; b = b; nflip = nflip; codes = cs } in
    let alone : h.count * 16 ≤ h.count * (h.dim / 8 + 16 + 64 * nhash) = grind arith in
    let few : length cs < 2 ^ 64 = omega (arith, count, load, alone) in
    let e = spells-split (each (range_with_len 0 nhash) (map_fields cs b)) _ r3 v m3 in
    let maps = each-found (map_fields cs b) (λ i u x. MapPart w i x) (λ i x u fits h. map-found w i few x u fits h)
    (range_with_len 0 nhash) e.front e.value (front-bytes r3 e.front e.back e.parts fits3) e.first in
    let all = at_end r3 e.front e.back e.parts e.more.0 in
    let map_parts : Each (MapPart w) (range_with_len 0 nhash) r3 =
    subst (Each (MapPart w) (range_with_len 0 nhash)) (sym all)
    (units-parts (MapPart w) (range_with_len 0 nhash) e.value e.front maps) in
    let head : Head h.dim (length cs) s.front =
    subst (λ k. Head h.dim k s.front) (sym count) (free_flag (h.flag ≡ true) h.dim h.count s.front hd.1) in
    let flat : FlatBody h.dim cs q.front = subst (λ d. FlatBody d cs q.front) same_dim storage.2 in
    let made : MultiRead role w bytes = record {
      rest = (
        s.front,
        s.back,
        s.parts,
        head,
        (
          q.front,
          q.back,
          q.parts,
          flat,
          (
            b1,
            r1,
            p1,
            record { size = l1; reads = refl },
            (
              b2,
              r2,
              p2,
              record { size = l2; reads = refl },
              (b3, r3, p3, record { size = l3; reads = refl }, map_parts),
            ),
          ),
        ),
      );
      legal = record {
        dim = is_dim-found h.dim hd.0.dim;
        nhash_least = n-least;
        nhash_most = n-most;
        b_least = b-least;
        b_most = b-most;
        within = within;
        nflip = nflip-most;
        codes = subst (λ d. All (IsCode d) cs) same_dim storage.1.codes;
        load = weigh h.dim (length cs) nhash (subst (λ k. k * (h.dim / 8 + 16 + 64 * nhash) ≤ load_limit)
            (sym count) load);
      };
      fits = multi-fits role h w r hd.0 refl count;
    } in
    subst (λ (v : MultiValue). MultiRead role v bytes) e.more.1 made

-- ---- the other way round

pass-head : (role : Role) (v : MultiValue) (flag : Bool) → IsBodyRole role → IsLegalMulti v
    → FitsRole role (Multi v) → IsHeader role (record { dim = v.dim; count = length v.codes; flag = flag })
pass-head Outermost v flag r legal fits = legal-header v.dim v.nhash (length v.codes) 0 flag legal.dim legal.load
pass-head (Within dim count) v flag r legal fits =
    let h = legal-header v.dim v.nhash (length v.codes) 0 flag legal.dim legal.load in
    record {
      dim = h.dim;
      takes_dim = eq-eqb _ _ fits.same_dim;
      small = h.small;
      takes_count =
          eq-eqb _ _ fits.same_count;
      load = h.load;
    }
pass-head (Quantizer dim nlist rows f) v flag r legal fits = absurd r

storage-head : (v : MultiValue) (flag : Bool) → IsLegalMulti v
    → IsHeader (Within v.dim (length v.codes)) (record { dim = v.dim; count = length v.codes; flag = flag })
storage-head v flag legal =
    let h = legal-header v.dim v.nhash (length v.codes) 0 flag legal.dim legal.load in
    record {
      dim = h.dim;
      takes_dim = eq-eqb v.dim v.dim refl;
      small = h.small;
      takes_count =
          eq-eqb (length v.codes) (length v.codes) refl;
      load = h.load;
    }

pub multi-again : (role : Role) (bytes : List ℕ) (v : MultiValue) → IsBodyRole role → MultiRead role v bytes
    → Spells (multi_body role) bytes v
unfolding multi_body
multi-again role bytes v r h =
    let (f0, t0, p0, head, (qf, qb, qp, flat, (b1, r1, p1, n1, (b2, r2, p2, n2, (b3, r3, p3, n3, maps))))) = h.rest in
    let legal = h.legal in
    let n = length v.codes in
    let hd = header-again role (Unit {0}) v.dim n f0 (λ flag. pass-head role v flag r legal h.fits) head in
    let hv : HeadValue = record { dim = v.dim; count = n; flag = hd.flag } in
    let storage : CodeList = record { dim = v.dim; codes = v.codes } in
    let q = inside-again (Within v.dim n) qf storage (λ flag. storage-head v flag legal) legal.codes flat in
    let light : n * (v.dim / 8 + 16 + 64 * v.nhash) ≤ load_limit = omega (arith, legal.load) in
    let alone : n * 16 ≤ n * (v.dim / 8 + 16 + 64 * v.nhash) = grind arith in
    let few : length v.codes < 2 ^ 64 = omega (arith, light, alone) in
    let b-most : v.b ≤ v.dim = (let k : v.b ≤ v.nhash * v.b = at-least v.nhash v.b legal.nhash_least in
    omega (arith, k, legal.within)) in
    let c1 = pass_one ((ltb v.b 1 || ltb 64 v.b) || ltb v.dim v.b) _
    (or_from _ _ (or_from _ _ (le-ltb v.b 1 legal.b_least) (le-ltb 64 v.b legal.b_most))
    (le-ltb v.dim v.b b-most)) in
    let c2 = pass_two ((ltb v.nhash 1 || ltb 1024 v.nhash) || ltb v.dim (v.nhash * v.b)) _
    (ltb load_limit (n * (v.dim / 8 + 16 + 64 * v.nhash))) _
    (or_from _ _ (or_from _ _ (le-ltb v.nhash 1 legal.nhash_least) (le-ltb 1024 v.nhash legal.nhash_most))
    (le-ltb v.dim (v.nhash * v.b) legal.within)) (le-ltb load_limit _ light) in
    let c3 = pass_one (ltb v.b v.nflip) _ (le-ltb v.b v.nflip legal.nflip) in
    let lists = each-again (map_fields v.codes v.b) (λ i u x. MapPart v i x)
    (λ i x u part. map-again v i few x u part) (range_with_len 0 v.nhash) (nothing (range_with_len 0 v.nhash)) r3
    (parts-units (MapPart v) (range_with_len 0 v.nhash) r3 maps) in
    rw p0 (spells-join (header role) _ f0 t0 hv v hd.spells (
    rw qp (spells-join (flat_inside (Within v.dim n)) _ qf qb storage v q (
      b1,
      r1,
      p1,
      n1.size,
      rw n1.reads c1,
      rw n1.reads (
        b2,
        r2,
        p2,
        n2.size,
        rw n2.reads c2,
        rw n2.reads (
          b3,
          r3,
          p3,
          n3.size,
          rw n3.reads c3,
          rw n3.reads (
              rw (sym (append-nil r3)) (spells-join (each (range_with_len 0 v.nhash) (map_fields v.codes v.b)) _ r3 []
              (nothing (range_with_len 0 v.nhash)) v lists (refl, refl))),
        ),
      ),
    ))))
  where
    at-least : (m b : ℕ) → 1 ≤ m → b ≤ m * b
    at-least zero b h = absurd (omega (arith, h))
    at-least (suc m) b h = (let e : suc m * b ≡ b + m * b = grind arith in omega (arith, e))

pub multi-law : KindLaw named.Multi
unfolding body
multi-law = record {
  found = λ role bytes v r fits h. (
      let s = spells-split (multi_body role) (λ w. done (Multi w)) bytes v h in
      let all = at_end bytes s.front s.back s.parts s.more.0 in
      let f = multi-found role s.front s.value r (subst IsBytes all fits) s.first in
      let made : BodyRead named.Multi role s.front (Multi s.value) =
      record { is_kind = refl; rest = f.rest; legal = f.legal; rows = refl; fits = f.fits } in
      subst (λ (w : Inner). BodyRead named.Multi role bytes w) s.more.1
      (subst (λ (b : List ℕ). BodyRead named.Multi role b (Multi s.value)) (sym all) made));
  again = λ role bytes v r h. again role bytes v r h;
}
  where
    again : (role : Role) (bytes : List ℕ) (v : Inner) → IsBodyRole role → BodyRead named.Multi role bytes v
        → Spells (body named.Multi role) bytes v
    again role bytes (Multi v) r h =
        let one = multi-again role bytes v r (record { rest = h.rest; legal = h.legal; fits = h.fits }) in
        let whole : Spells (multi_body role >>= λ w. done (Multi w)) (bytes ++ []) (Multi v) =
        spells-join (multi_body role) (λ w. done (Multi w)) bytes [] v (Multi v) one (refl, refl) in
        subst (λ (b : List ℕ). Spells (multi_body role >>= λ w. done (Multi w)) b (Multi v))
        (append-nil bytes) whole
    again role bytes _ r h = absurd (let k = h.is_kind in cc)
