-- From the laws of the kinds to files.
use Rattle.std.proofs.Common.{◌≡◌, ℕ, ◌+◌, ◌*◌, ◌/◌, ◌^◌, ◌<◌, ◌≤◌, Bool, true, false}
use Rattle.std.proofs.Common.{ltb, not, ◌&&◌, ◌||◌, List, [], ◌∷◌, ◌++◌, length, All, None, ℤ}
use Rattle.std.proofs.Common.{get_or, append_assoc, refl, sym, ap, subst, ◌∙◌, inl, inr, arith}
use Rattle.std.specs.Prelude.{codes, FitsSigned}
use Rattle.std.specs.Int.{w64, cast_signed}
use Rattle.std.specs.Str.{bytes_eq}
use Rattle.std.proofs.lemmas.Slice.Eq.{bytes_eq-Decides}
use Rattle.std.proofs.lemmas.Bool.{cases_Bool, cases_lt, lt-leb, and_left, ltb-true, eqb-true, eq-eqb, ltb-false}
use Rattle.std.proofs.lemmas.Bool.{le-ltb, not-false, not_from_true}
use Rattle.std.proofs.lemmas.List.{append-nil, get_or_past}
use Rattle.std.proofs.lemmas.Int.{ints}
use Rattle.byteorder.specs.Endian.{little_number}
use Rattle.byteorder.specs.Numbers.{little_from-lt}
use Rattle.bcodes.specs.declared.map_name.MapName.{MapName}
use Rattle.bcodes.specs.declared.map_name.MapName.TheVariants.{Map, Map2}
use Rattle.bcodes.specs.Ranges.{IsDim}
use Rattle.bcodes.specs.Value.{weight, Inner, Flat, Ivf, Hash, Multi, IndexValue, Bare, IdMap, dim_of_inner}
use Rattle.bcodes.specs.Value.{count_of_inner, rows_of_inner, IsPlace, IsLegalInner, IsLegalMap}
use Rattle.file_parts.specs.Format.{Refusal, first_refusal, Spells, done, ◌>>=◌, Format}
use Rattle.file_parts.specs.Fields.{no_check, number_of, signed_of, signed, HeadValue, header, repeated}
use Rattle.file_parts.specs.declared.role.Role.{Role}
use Rattle.file_parts.specs.declared.role.Role.TheVariants.{Outermost, Within, Quantizer}
use Rattle.file_parts.proofs.Reading.{spells-split, spells-join, one_check, two_checks, read-decided}
use Rattle.index_files.specs.Parts.{◌▸◌, Each, Signed, Vector, Head, HeadWhere}
use Rattle.index_files.specs.File.{letters_of, map_letters, Rest, settled_inner, settled, IsFile}
use Rattle.index_files.specs.Letters.{start_of, is_known, is_index, is_plain, letters}
use Rattle.index_files.specs.Counts.{known_count}
use Rattle.index_files.specs.FileFormat.{body, map_ids, map_body, inside, map_start, index, file}
use Rattle.index_files.specs.declared.kind_name.KindName.{KindName}
use Rattle.index_files.specs.declared.kind_name.KindName.TheVariants as named
use Rattle.index_files.specs.declared.start.Start.{Start}
use Rattle.index_files.specs.declared.start.Start.TheVariants.{Plain, Mapped, NotRead, Unknown}
use Rattle.index_files.specs.Laws.{FitsRole, IsBodyRole, IsInside, IsDecidedFile}
use Rattle.index_files.proofs.Heads.{IsHeader, header-found, header-again, pass_one, pass_two}
use Rattle.index_files.proofs.FlatFiles.{free_flag, is_dim-again}
use Rattle.index_files.proofs.Elements.{IsBytes, front-bytes, back-bytes, repeated-found, repeated-again}

abbrev pub name_of : Inner → KindName
name_of (Flat v) = named.Flat
name_of (Ivf v) = named.Ivf
name_of (Hash v) = named.Hash
name_of (Multi v) = named.Multi

abbrev pub kind_letters : KindName → List ℕ
kind_letters named.Flat = codes "IBxF"
kind_letters named.Ivf = codes "IBwF"
kind_letters named.Hash = codes "IBHh"
kind_letters named.Multi = codes "IBHm"

pub letters-kind : (v : Inner) → kind_letters (name_of v) ≡ letters_of v
letters-kind (Flat v) = refl
letters-kind (Ivf v) = refl
letters-kind (Hash v) = refl
letters-kind (Multi v) = refl

-- these letters begin so
abbrev pub IsStart : Start → List ℕ → Type 0
IsStart (Plain kind) b = b ≡ kind_letters kind
IsStart (Mapped name) b = b ≡ map_letters name
IsStart NotRead b = Unit {0}
IsStart Unknown b = Unit {0}

text-is : (b text : List ℕ) → bytes_eq b text ≡ true → b ≡ text
text-is b text e = (bytes_eq-Decides b text).0 e

pub start-is : (b : List ℕ) → IsStart (start_of b) b
start-is b =
    elim (cases_Bool (bytes_eq b (codes "IBxF"))) [
      | inl e ↦ rw e (text-is b (codes "IBxF") e)
      | inr e ↦ rw e (
          elim (cases_Bool (bytes_eq b (codes "IBwF"))) [
            | inl f ↦ rw f (text-is b (codes "IBwF") f)
            | inr f ↦ rw f (
                elim (cases_Bool (bytes_eq b (codes "IBHh"))) [
                  | inl f ↦ rw f (text-is b (codes "IBHh") f)
                  | inr f ↦ rw f (
                      elim (cases_Bool (bytes_eq b (codes "IBHm"))) [
                        | inl f ↦ rw f (text-is b (codes "IBHm") f)
                        | inr f ↦ rw f (
                            elim (cases_Bool (bytes_eq b (codes "IBMp"))) [
                              | inl f ↦ rw f (text-is b (codes "IBMp") f)
                              | inr f ↦ rw f (
                                  elim (cases_Bool (bytes_eq b (codes "IBM2"))) [
                                    | inl f ↦ rw f (text-is b (codes "IBM2") f)
                                    | inr f ↦ rw f (
                                        elim (cases_Bool (bytes_eq b (codes "IBHf") || bytes_eq b (codes "IBFf")))
                                        [ inl f ↦ rw f tt | inr f ↦ rw f tt ])
                                  ])
                            ])
                      ])
                ])
          ])
    ]

-- the laws that a kind owes
pub record BodyRead (kind : KindName) (role : Role) (bytes : List ℕ) (v : Inner) : Type 0 where
  pub is_kind : name_of v ≡ kind
  pub rest : Rest v bytes
  pub legal : IsLegalInner v
  pub rows : settled_inner v ≡ v
  pub fits : FitsRole role v

pub record KindLaw (kind : KindName) : Type 0 where
  pub found : (role : Role) (bytes : List ℕ) (v : Inner) → IsBodyRole role → IsBytes bytes
      → Spells (body kind role) bytes v → BodyRead kind role bytes v
  pub again : (role : Role) (bytes : List ℕ) (v : Inner) → IsBodyRole role → BodyRead kind role bytes v
      → Spells (body kind role) bytes v

pub at_end : (bytes front back : List ℕ) → bytes ≡ front ++ back → back ≡ [] → bytes ≡ front
at_end bytes front back e none = e ∙ ap (λ (b : List ℕ). front ++ b) none ∙ append-nil front

pub expected-is : (expected : Start → Bool) (s : Start) (r q : Refusal)
    → first_refusal (record { refused = not (expected s) && is_known s; refusal = r } ∷ record {
      refused =
          not (expected s);
      refusal = q;
    } ∷ []) ≡ None → expected s ≡ true
expected-is expected s r q e = not-false (expected s) (two_checks _ r _ q e).1

pub byte-at : (bytes : List ℕ) → IsBytes bytes → (i : ℕ) → get_or bytes i 0 < 256
byte-at bytes fits i =
    elim (cases_lt i (length bytes)) [ inl lt ↦ fits i 0 lt | inr le ↦ rw (get_or_past bytes i 0 le) (omega arith) ]

pub signed-fits : (n : ℕ) → n < 2 ^ 64 → FitsSigned w64 (cast_signed w64 n)
signed-fits n lt =
    elim (cases_Bool (ltb n (2 ^ 63))) [
      | inl e ↦ rw e (let h = ltb-true n (2 ^ 63) e in omega (arith, ints))
      | inr e ↦ rw e (let h = ltb-false n (2 ^ 63) e in omega (arith, ints))
    ]

id-found : (bytes : List ℕ) (z : ℤ) → IsBytes bytes → Spells (signed 8 no_check) bytes z
    → Signed 8 z bytes × FitsSigned w64 z
unfolding signed_of
id-found bytes z fits (front, back, parts, len, pass, (none, is)) =
    let all = at_end bytes front back parts none in
    let small : little_number 8 front < 2 ^ 64 =
    little_from-lt 0 8 front (byte-at front (front-bytes bytes front back parts fits)) in (
      record { size = rw all len; reads = rw all is },
      subst (FitsSigned w64) is (signed-fits (little_number 8 front) small),
    )

id-again : (bytes : List ℕ) (z : ℤ) → Signed 8 z bytes → FitsSigned w64 z → Spells (signed 8 no_check) bytes z
id-again bytes z h fits = (bytes, [], sym (append-nil bytes), h.size, refl, (refl, h.reads))

pub letters-again : {B : Type 0} (expected : Start → Bool) (g : Start → Format B) (s : Start)
    (front back : List ℕ) (y : B) → length front ≡ 4 → start_of front ≡ s → expected s ≡ true
    → Spells (g s) back y → Spells (letters expected >>= g) (front ++ back) y
unfolding letters
letters-again expected g s front back y len e read_it more =
    let no : not (expected (start_of front)) ≡ false = rw e (not_from_true _ read_it) in
    (front, back, refl, len, pass_two _ _ _ _ (and_left _ _ no) no, rw e more)

start-of-kind : (v : Inner) → start_of (letters_of v) ≡ Plain (name_of v)
start-of-kind (Flat v) = refl
start-of-kind (Ivf v) = refl
start-of-kind (Hash v) = refl
start-of-kind (Multi v) = refl

start-of-map : (name : MapName) → start_of (map_letters name) ≡ Mapped name
start-of-map Map = refl
start-of-map Map2 = refl

four-kind : (v : Inner) → length (letters_of v) ≡ 4
four-kind (Flat v) = refl
four-kind (Ivf v) = refl
four-kind (Hash v) = refl
four-kind (Multi v) = refl

four-map : (name : MapName) → length (map_letters name) ≡ 4
four-map Map = refl
four-map Map2 = refl

pub light : (d m n c : ℕ) → weight d m n c ≤ 1073741824 → n * (d / 8 + 16) ≤ 1073741824
light d m n c h =
    let k : n * (d / 8 + 16) ≤ n * (d / 8 + 16 + 64 * m) = grind arith in
    omega arith

pub few : (d n : ℕ) → n * (d / 8 + 16) ≤ 1073741824 → n < 2 ^ 63
few d n h = let k : n * 16 ≤ n * (d / 8 + 16) = grind arith in omega arith

pub legal-header : (d m n c : ℕ) (flag : Bool) → IsDim d → weight d m n c ≤ 1073741824
    → IsHeader Outermost (record { dim = d; count = n; flag = flag })
legal-header d m n c flag is h =
    let l = light d m n c h in
    record {
      dim = is_dim-again d is;
      takes_dim = refl;
      small = lt-leb _ _ (few d n l);
      takes_count = refl;
      load =
          le-ltb _ _ (omega (arith, l));
    }

inner-header : (v : Inner) → IsLegalInner v → (flag : Bool)
    → IsHeader Outermost (record { dim = dim_of_inner v; count = count_of_inner v; flag = flag })
inner-header (Flat v) h flag = legal-header v.dim 0 (length v.codes) 0 flag h.dim h.load
inner-header (Ivf v) h flag = legal-header v.dim 0 (length v.rows) (length v.centroids) flag h.dim h.load
inner-header (Hash v) h flag = legal-header v.dim 1 (length v.rows) 0 flag h.dim h.load
inner-header (Multi v) h flag = legal-header v.dim v.nhash (length v.codes) 0 flag h.dim h.load

bare-is : (v w : Inner) → Bare v ≡ Bare w → v ≡ w
bare-is v w e = cc

map-is : (name : MapName) (v w : Inner) (ids : List ℤ) → IdMap name v ids ≡ IdMap name w ids → v ≡ w
map-is name v w ids e = cc

module _ (law : (kind : KindName) → KindLaw kind) where
  pub map-found : (name : MapName) (kind : KindName) (h : HeadValue) (bytes : List ℕ) (v : IndexValue)
      → IsBytes bytes → Spells (map_body name kind h.dim h.count) bytes v
      → (w : Inner) × (ids : List ℤ) × (v ≡ IdMap name w ids) × (name_of w ≡ kind)
      × (dim_of_inner w ≡ h.dim) × (count_of_inner w ≡ h.count) × IsLegalMap w ids
      × (settled_inner w ≡ w) × ◌▸◌ (Rest w) (Vector (Signed 8) ids) bytes
  unfolding map_body known_count
  map-found name kind h bytes v fits e =
      let s = spells-split (body kind (Within h.dim h.count)) (map_ids name h.count) bytes v e in
      let b = (law kind).found (Within h.dim h.count) s.front s.value tt
      (front-bytes bytes s.front s.back s.parts fits) s.first in
      let m = s.more in
      let t = spells-split (repeated h.count (signed 8 no_check)) (λ zs. done (IdMap name s.value zs)) m.1 v m.5 in
      let after = back-bytes s.back m.0 m.1 m.2 (back-bytes bytes s.front s.back s.parts fits) in
      let zs = repeated-found (signed 8 no_check) (Signed 8) (FitsSigned w64) id-found h.count t.front t.value
      (front-bytes m.1 t.front t.back t.parts after) t.first in
      let size : number_of 8 m.0 ≡ length t.value =
      eqb-true _ _ (not-false _ (one_check _ _ m.4)) ∙ sym zs.count in (
        s.value,
        t.value,
        sym t.more.1,
        b.is_kind,
        b.fits.same_dim,
        b.fits.same_count,
        record {
          inner = b.legal;
          ids = zs.each;
          count = zs.count ∙ sym b.fits.same_count;
          labels =
              subst (λ n. All (λ row. IsPlace n row.label) (rows_of_inner s.value))
              (sym b.fits.same_count) b.fits.labels;
        },
        b.rows,
        (
          s.front,
          s.back,
          s.parts,
          b.rest,
          (
            m.0,
            m.1,
            m.2,
            record { size = m.3; reads = size },
            subst (Each (Signed 8) t.value) (sym (at_end m.1 t.front t.back t.parts t.more.0)) zs.parts,
          ),
        ),
      )

  inside-found : (name : MapName) (h : HeadValue) (head : List ℕ) (bytes : List ℕ) (v : IndexValue)
      → HeadWhere (h.flag ≡ true) h.dim h.count head → IsBytes bytes → Spells (map_start name h) bytes v
      → IsFile v (map_letters name ++ (head ++ bytes))
  unfolding settled letters
  inside-found name h head bytes v spelled fits (front, back, parts, len, pass, more) =
      go (start_of front) (start-is front) (expected-is is_plain (start_of front) _ _ pass) more
    where
      go : (s : Start) → IsStart s front → is_plain s ≡ true → Spells (inside name h s) back v
          → IsFile v (map_letters name ++ (head ++ bytes))
      go (Plain kind) is taken e =
          let m = map-found name kind h back v (back-bytes bytes front back parts fits) e in
          let w = m.0 in
          let p = m.8 in
          let is_letters : front ≡ letters_of w = is ∙ ap kind_letters (sym m.3) ∙ letters-kind w in
          let whole : bytes ≡ (front ++ p.0) ++ p.1 =
          parts ∙ ap (λ (b : List ℕ). front ++ b) p.2 ∙ sym (append_assoc front p.0 p.1) in
          let same : Head (dim_of_inner w) (count_of_inner w) head =
          rw (m.4, m.5) (free_flag (h.flag ≡ true) h.dim h.count head spelled) in
          let made : IsFile (IdMap name w m.1) (map_letters name ++ (head ++ bytes)) = record {
            legal = m.6;
            settled = ap (λ (u : Inner). IdMap name u m.1) m.7;
            body = (
              map_letters name,
              head ++ bytes,
              refl,
              refl,
              (head, bytes, refl, same, (front ++ p.0, p.1, whole, (front, p.0, refl, is_letters, p.3), p.4)),
            );
          } in
          subst (λ (u : IndexValue). IsFile u (map_letters name ++ (head ++ bytes))) (sym m.2) made
      go (Mapped other) is non e = absurd cc
      go NotRead is non e = absurd cc
      go Unknown is non e = absurd cc

  pub file-found : (bytes : List ℕ) (v : IndexValue) → IsBytes bytes → Spells file bytes v → IsFile v bytes
  unfolding file settled letters
  file-found bytes v fits (front, back, parts, len, pass, more) =
      go (start_of front) (start-is front) (expected-is is_index (start_of front) _ _ pass) more
    where
      after : IsBytes back
      after = back-bytes bytes front back parts fits

      go : (s : Start) → IsStart s front → is_index s ≡ true → Spells (index s) back v → IsFile v bytes
      go (Plain kind) is taken e =
          let s = spells-split (body kind Outermost) (λ w. done (Bare w)) back v e in
          let all = at_end back s.front s.back s.parts s.more.0 in
          let b = (law kind).found Outermost back s.value tt after
          (subst (λ (b : List ℕ). Spells (body kind Outermost) b s.value) (sym all) s.first) in
          let is_letters : front ≡ letters_of s.value =
          is ∙ ap kind_letters (sym b.is_kind) ∙ letters-kind s.value in
          let made : IsFile (Bare s.value) bytes = record {
            legal = b.legal;
            settled = ap (λ (u : Inner). Bare u) b.rows;
            body = (front, back, parts, is_letters, b.rest);
          } in
          subst (λ (u : IndexValue). IsFile u bytes) s.more.1 made
      go (Mapped name) is taken e =
          let s = spells-split (header Outermost) (map_start name) back v e in
          let hd = header-found Outermost s.front s.value s.first in
          let whole : map_letters name ++ (s.front ++ s.back) ≡ bytes =
          ap (λ (b : List ℕ). b ++ (s.front ++ s.back)) (sym is)
          ∙ ap (λ (b : List ℕ). front ++ b) (sym s.parts) ∙ sym parts in
          subst (IsFile v) whole
          (inside-found name s.value s.front s.back v hd.1 (back-bytes back s.front s.back s.parts after) s.more)
      go NotRead is non e = absurd cc
      go Unknown is non e = absurd cc

  map-again : (name : MapName) (w : Inner) (ids : List ℤ) (bytes : List ℕ)
      → IsLegalMap w ids → settled_inner w ≡ w → ◌▸◌ (Rest w) (Vector (Signed 8) ids) bytes
      → Spells (map_body name (name_of w) (dim_of_inner w) (count_of_inner w)) bytes (IdMap name w ids)
  unfolding map_body known_count
  map-again name w ids bytes legal rows (front, back, parts, rest, (cnt, els, p5, num, each)) =
      let b = (law (name_of w)).again (Within (dim_of_inner w) (count_of_inner w)) front w tt
      (record {
        is_kind = refl;
        rest = rest;
        legal = legal.inner;
        rows = rows;
        fits =
            record { same_dim = refl; same_count = refl; labels = legal.labels };
      }) in
      let zs = repeated-again (signed 8 no_check) (Signed 8) (FitsSigned w64) id-again ids els legal.ids each in
      let zs' : Spells (repeated (count_of_inner w) (signed 8 no_check)) els ids =
      subst (λ n. Spells (repeated n (signed 8 no_check)) els ids) legal.count zs in
      let whole : Spells (repeated (count_of_inner w) (signed 8 no_check) >>= λ zs. done (IdMap name w zs))
      (els ++ []) (IdMap name w ids) = spells-join (repeated (count_of_inner w) (signed 8 no_check))
      (λ zs. done (IdMap name w zs)) els [] ids (IdMap name w ids) zs' (refl, refl) in
      let whole' = subst (λ (b : List ℕ). Spells
      (repeated (count_of_inner w) (signed 8 no_check) >>= λ zs. done (IdMap name w zs)) b (IdMap name w ids))
      (append-nil els) whole in
      let more : Spells (map_ids name (count_of_inner w) w) back (IdMap name w ids) =
      (cnt, els, p5, num.size, rw num.reads (pass_one _ _ (not_from_true _ (eq-eqb _ _ legal.count))), whole') in
      rw parts (spells-join (body (name_of w) (Within (dim_of_inner w) (count_of_inner w)))
      (map_ids name (count_of_inner w)) front back w (IdMap name w ids) b more)

  pub file-again : (bytes : List ℕ) (v : IndexValue) → IsFile v bytes → Spells file bytes v
  unfolding file settled
  file-again bytes (Bare w) h =
      let (front, back, parts, is, rest) = h.body in
      let kind = name_of w in
      let b = (law kind).again Outermost back w tt
      (record {
        is_kind = refl;
        rest = rest;
        legal = h.legal;
        rows = bare-is _ _ h.settled;
        fits =
            tt;
      }) in
      let more : Spells (index (Plain kind)) (back ++ []) (Bare w) =
      spells-join (body kind Outermost) (λ v. done (Bare v)) back [] w (Bare w) b (refl, refl) in
      let e : start_of front ≡ Plain kind = ap start_of is ∙ start-of-kind w in
      rw parts (letters-again is_index index (Plain kind) front back (Bare w) (ap length is
      ∙ four-kind w) e refl (subst (λ (b : List ℕ). Spells (index (Plain kind)) b (Bare w))
      (append-nil back) more))
  file-again bytes (IdMap name w ids) h =
      let (front, back, parts, is, (head, after, p2, spelled, (bd, vec, p3, (lf, lr, p4, lis, rest), vector))) =
      h.body in
      let kind = name_of w in
      let hd = header-again Outermost (Unit {0}) (dim_of_inner w) (count_of_inner w) head
      (inner-header w h.legal.inner) spelled in
      let m = map-again name w ids (lr ++ vec) h.legal (map-is _ _ _ _ h.settled) (
        lr,
        vec,
        refl,
        rest,
        vector,
      ) in
      let e : start_of lf ≡ Plain kind = ap start_of lis ∙ start-of-kind w in
      let hv : HeadValue = record { dim = dim_of_inner w; count = count_of_inner w; flag = hd.flag } in
      let inner : Spells (map_start name hv) (lf ++ (lr ++ vec)) (IdMap name w ids) =
      letters-again is_plain (inside name hv) (Plain kind) lf (lr ++ vec) (IdMap name w ids)
      (ap length lis ∙ four-kind w) e refl m in
      let regroup : lf ++ (lr ++ vec) ≡ after =
      sym (append_assoc lf lr vec) ∙ ap (λ (b : List ℕ). b ++ vec) (sym p4) ∙ sym p3 in
      let outer : Spells (index (Mapped name)) (head ++ after) (IdMap name w ids) =
      spells-join (header Outermost) (map_start name) head after hv (IdMap name w ids) hd.spells
      (subst (λ (b : List ℕ). Spells (map_start name hv) b (IdMap name w ids)) regroup inner) in
      let s : start_of front ≡ Mapped name = ap start_of is ∙ start-of-map name in
      rw parts (letters-again is_index index (Mapped name) front back (IdMap name w ids) (ap length is
      ∙ four-map name) s refl (subst (λ (b : List ℕ). Spells (index (Mapped name)) b
      (IdMap name w ids)) (sym p2) outer))

  -- each byte list is a file of exactly one value, or has exactly one fault
  pub file-decided : (bytes : List ℕ) → IsBytes bytes → IsDecidedFile bytes
  file-decided bytes fits =
      elim (read-decided file bytes) [
        | inl h ↦ inl (record {
          value = h.value;
          stands = file-found bytes h.value fits h.stands;
          only =
              λ v is. h.only v (file-again bytes v is);
          faultless = h.faultless;
        })
        | inr h ↦ inr (record {
          fault = h.fault;
          faulty = h.faulty;
          only = h.only;
          worthless =
              λ v is. h.worthless v (file-again bytes v is);
        })
      ]
