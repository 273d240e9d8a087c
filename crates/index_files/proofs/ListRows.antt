-- The direct map and the rows of an IVF: what is read is spelled so, and the other way round.
use Rattle.std.proofs.Common.{◌≡◌, inl, inr, ℕ, suc, ◌+◌, ◌^◌, ◌<◌, ℤ, false, eqb, ltb, ◌||◌}
use Rattle.std.proofs.Common.{◌&&◌, List, [], ◌∷◌, ◌++◌, length, map, All, Option, Some, None, is_some}
use Rattle.std.proofs.Common.{refl, sym, ap, subst, ◌∙◌, arith}
use Rattle.std.specs.Prelude.{FitsSigned}
use Rattle.std.specs.Int.{w64}
use Rattle.std.proofs.lemmas.Bool.{cases_Bool, eqb-true, eqb-false, eq-eqb, ltb-false, not-false, not_from_true}
use Rattle.std.proofs.lemmas.List.{append-nil, length-map}
use Rattle.std.proofs.lemmas.List.Elements.{All-nil, All-cons, All-head, All-tail}
use Rattle.byteorder.specs.Endian.{little_number}
use Rattle.byteorder.specs.Numbers.{little_from-lt}
use Rattle.bcodes.specs.Value.{ListRow, HasBytes}
use Rattle.file_parts.specs.declared.role.Role.{Role}
use Rattle.file_parts.specs.Format.{Spells, ◌>>=◌, done}
use Rattle.file_parts.specs.Fields.{no_check, number_of, signed_of, any_number, bytes_field, each, repeated}
use Rattle.file_parts.proofs.Reading.{one_check, two_checks, spells-split, spells-join}
use Rattle.index_files.specs.Parts.{◌▸◌, Each, Is, Number, Signed, Vector}
use Rattle.std.specs.List.{range_with_len}
use Rattle.ivf_index.specs.Direct.{entry}
use Rattle.index_files.specs.File.{ListPart}
use Rattle.index_files.specs.FlatFormat.{is_inside, is_no_place}
use Rattle.index_files.specs.IvfFormat.{direct_map, some_entries, no_entries, ListSize, is_misplaced, list_id}
use Rattle.index_files.specs.IvfFormat.{list_rows, rows_on}
use Rattle.index_files.proofs.Heads.{pass_one, pass_two}
use Rattle.index_files.proofs.Elements.{IsBytes, front-bytes, back-bytes, repeated-found, repeated-again}
use Rattle.index_files.proofs.FlatFiles.{code-found, code-again}
use Rattle.index_files.proofs.FileLaws.{at_end, byte-at, signed-fits}
use Rattle.index_files.proofs.Each.{Pairs, each-found, each-again, facts-of, parts-of, both-of, each-map}
use Rattle.index_files.proofs.ListGroups.{AreOn, AreRows}

-- ---- the direct map

number-found : (bytes : List ℕ) (n : ℕ) → IsBytes bytes → Spells (any_number 8) bytes n
    → Number 8 n bytes × Unit {0}
number-found bytes n fits (front, back, parts, len, pass, (none, is)) =
    let all = at_end bytes front back parts none in
    (record { size = rw all len; reads = rw all is }, tt)

number-again : (bytes : List ℕ) (n : ℕ) → Number 8 n bytes → Unit {0} → Spells (any_number 8) bytes n
number-again bytes n h u = (bytes, [], sym (append-nil bytes), h.size, refl, (refl, h.reads))

-- a direct map of `count` entries, or none
abbrev pub DirectRead : ℕ → Option (List ℕ) → List ℕ → Type 0
DirectRead count None bytes = ◌▸◌ (Number 1 0) (Vector (Number 8) []) bytes
DirectRead count (Some entries) bytes =
    (length entries ≡ count) × ◌▸◌ (Number 1 1) (Vector (Number 8) entries) bytes

pub direct-found : (count : ℕ) (bytes : List ℕ) (o : Option (List ℕ)) → IsBytes bytes
    → Spells (direct_map count) bytes o → DirectRead count o bytes
unfolding direct_map
direct-found count bytes o fits (front, back, parts, len, pass, more) =
    elim (cases_Bool (eqb (number_of 1 front) 1)) [
      | inl e ↦ some-found (eqb-true _ _ e) (rw e at more)
      | inr e ↦
          let ne = eqb-false (number_of 1 front) 1 e in
          let checks = two_checks (eqb (number_of 1 front) 2) _ (ltb 2 (number_of 1 front)) _ pass in
          let not_two = eqb-false (number_of 1 front) 2 checks.0 in
          let most = ltb-false 2 (number_of 1 front) checks.1 in
          none-found (omega (arith, ne, not_two, most)) (rw e at more)
    ]
  where
    some-found : number_of 1 front ≡ 1 → Spells (some_entries count) back o → DirectRead count o bytes
    some-found e (f, b, p, l, c, m) =
        let s = spells-split (repeated count (any_number 8)) (λ entries. done (Some entries)) b o m in
        let es = repeated-found (any_number 8) (Number 8) (λ n. Unit {0}) number-found count s.front s.value
        (front-bytes b s.front s.back s.parts (back-bytes back f b p (back-bytes bytes front back parts fits)))
        s.first in
        let size : number_of 8 f ≡ length s.value = eqb-true _ _ (not-false _ (one_check _ _ c)) ∙ sym es.count in
        let all = at_end b s.front s.back s.parts s.more.0 in
        subst (λ (o : Option (List ℕ)). DirectRead count o bytes) s.more.1 (
          es.count,
          (
            front,
            back,
            parts,
            record { size = len; reads = e },
            (f, b, p, record { size = l; reads = size }, subst (Each (Number 8) s.value) (sym all) es.parts),
          ),
        )

    none-found : number_of 1 front ≡ 0 → Spells no_entries back o → DirectRead count o bytes
    none-found e (f, b, p, l, c, (none, is)) =
        let size : number_of 8 f ≡ 0 = eqb-true _ _ (not-false _ (one_check _ _ c)) in
        subst (λ (o : Option (List ℕ)). DirectRead count o bytes) is (
          front,
          back,
          parts,
          record { size = len; reads = e },
          (f, b, p, record { size = l; reads = size }, none),
        )

pub direct-again : (count : ℕ) (bytes : List ℕ) (o : Option (List ℕ)) → DirectRead count o bytes
    → Spells (direct_map count) bytes o
unfolding direct_map
direct-again count bytes None (front, back, parts, num, (f, b, p, size, none)) = (
  front,
  back,
  parts,
  num.size,
  rw num.reads refl,
  rw num.reads (f, b, p, size.size, rw size.reads refl, (none, refl)),
)
direct-again count bytes (Some entries) (len, (front, back, parts, num, (f, b, p, size, all))) =
    let all-some : All (λ n. Unit {0}) entries = λ k d lt. tt in
    let es = repeated-again (any_number 8) (Number 8) (λ n. Unit {0}) number-again entries b all-some all in
    let es' : Spells (repeated count (any_number 8)) b entries =
    subst (λ n. Spells (repeated n (any_number 8)) b entries) len es in
    let whole : Spells (repeated count (any_number 8) >>= λ entries. done (Some entries)) (b ++ []) (Some entries) =
    spells-join (repeated count (any_number 8)) (λ entries. done (Some entries)) b [] entries (Some entries) es'
    (refl, refl) in
    let whole' = subst (λ (t : List ℕ). Spells
    (repeated count (any_number 8) >>= λ entries. done (Some entries)) t (Some entries)) (append-nil b) whole in (
      front,
      back,
      parts,
      num.size,
      rw num.reads refl,
      rw num.reads (f, b, p, size.size, rw size.reads (pass_one _ _ (not_from_true _ (eq-eqb _ _ len))), whole'),
    )

-- ---- the rows of a list

-- an id that passes
pub record IdPasses (role : Role) (count : ℕ) (direct : Option (List ℕ)) (list offset : ℕ)
    (z : ℤ) : Type 0 where
  pub fits : FitsSigned w64 z
  pub place : ((is_inside role || is_some direct) && is_no_place count z) ≡ false
  pub own : is_misplaced direct (entry list offset) z ≡ false

module _ (role : Role) (count : ℕ) (direct : Option (List ℕ)) where
  id-found : (list offset : ℕ) (bytes : List ℕ) (z : ℤ) → IsBytes bytes
      → Spells (list_id role count direct list offset) bytes z
      → IdPasses role count direct list offset z × Signed 8 z bytes
  unfolding list_id signed_of
  id-found list offset bytes z fits (front, back, parts, len, pass, (none, is)) =
      let all = at_end bytes front back parts none in
      let checks = two_checks _ _ _ _ pass in
      let small : little_number 8 front < 2 ^ 64 =
      little_from-lt 0 8 front (byte-at front (front-bytes bytes front back parts fits)) in
      subst (λ (z : ℤ). IdPasses role count direct list offset z × Signed 8 z bytes) is (
        record { fits = signed-fits (little_number 8 front) small; place = checks.0; own = checks.1 },
        record { size = rw all len; reads = rw all refl },
      )

  id-again : (list offset : ℕ) (bytes : List ℕ) (z : ℤ)
      → IdPasses role count direct list offset z × Signed 8 z bytes
      → Spells (list_id role count direct list offset) bytes z
  unfolding list_id
  id-again list offset bytes z (ok, h) = (
    bytes,
    [],
    sym (append-nil bytes),
    h.size,
    rw h.reads (pass_two _ _ _ _ ok.place ok.own),
    (refl, h.reads),
  )

  -- the ids of a list's rows pass, from an offset on
  abbrev pub Ids : ℕ → ℕ → List ListRow → Type 0
  Ids list offset [] = Unit {0}
  Ids list offset (row ∷ rows) = IdPasses role count direct list offset row.label × Ids list (offset + 1) rows

  -- the rows of codes and ids
  pub record RowsRead (code_size : ℕ) (p : ListSize) (rows : List ListRow) : Type 0 where
    pub are : AreRows p rows
    pub code : All (λ row. HasBytes code_size row.code) rows
    pub ids : Ids p.list 0 rows

  pub record Made (code_size list offset : ℕ) (cs : List (List ℕ)) (rows : List ListRow)
      (code_bytes id_bytes : List ℕ) : Type 0 where
    pub size : length rows ≡ length cs
    pub on : AreOn list rows
    pub code : All (λ row. HasBytes code_size row.code) rows
    pub ids : Ids list offset rows
    pub code_part : Each (λ row. Is row.code) rows code_bytes
    pub id_part : Each (λ row. Signed 8 row.label) rows id_bytes

  made : (code_size list offset : ℕ) (cs : List (List ℕ)) (zs : List ℤ) (code_bytes id_bytes : List ℕ)
      → All (HasBytes code_size) cs → Each Is cs code_bytes
      → Pairs (IdPasses role count direct list) (range_with_len offset (length cs)) zs
      → Each (Signed 8) zs id_bytes
      → Made code_size list offset cs (rows_on list cs zs) code_bytes id_bytes
  made code_size list offset [] [] code_bytes id_bytes has each ok signs =
      record {
        size = refl;
        on = All-nil (λ row. row.list ≡ list);
        code =
            All-nil (λ row. HasBytes code_size row.code);
        ids = tt;
        code_part = each;
        id_part = signs;
      }
  made code_size list offset [] (z ∷ zs) code_bytes id_bytes has each ok signs = absurd ok
  made code_size list offset (c ∷ cs) [] code_bytes id_bytes has each ok signs = absurd ok
  made code_size list offset (c ∷ cs) (z ∷ zs) code_bytes id_bytes has (f, b, p, one, others) (ok, oks) (
    g,
    d,
    q,
    sign,
    signs,
  ) =
      let ih = made code_size list (offset + 1) cs zs b d (All-tail (HasBytes code_size) c cs has) others oks signs in
      record {
        size = ap suc ih.size;
        on = All-cons (λ row. row.list ≡ list) (record { label = z; code = c; list = list })
            (rows_on list cs zs) refl ih.on;
        code = All-cons (λ row. HasBytes code_size row.code) (record { label = z; code = c; list = list })
            (rows_on list cs zs) (All-head (HasBytes code_size) c cs has) ih.code;
        ids = (ok, ih.ids);
        code_part = (f, b, p, one, ih.code_part);
        id_part = (g, d, q, sign, ih.id_part);
      }

  pub rows-found : (code_size : ℕ) (p : ListSize) (bytes : List ℕ) (rows : List ListRow) → IsBytes bytes
      → Spells (list_rows role code_size count direct p) bytes rows
      → RowsRead code_size p rows × ListPart rows bytes
  unfolding list_rows
  rows-found code_size p bytes rows fits h =
      let s = spells-split (repeated p.size (bytes_field code_size no_check)) _ bytes rows h in
      let t = spells-split (each (range_with_len 0 p.size) (list_id role count direct p.list))
      (λ zs. done (rows_on p.list s.value zs)) s.back rows s.more in
      let cs = repeated-found (bytes_field code_size no_check) Is (HasBytes code_size)
      (code-found code_size) p.size s.front s.value (front-bytes bytes s.front s.back s.parts fits) s.first in
      let ids = each-found (list_id role count direct p.list)
      (λ offset z b. IdPasses role count direct p.list offset z × Signed 8 z b) (id-found p.list)
      (range_with_len 0 p.size) t.front t.value
      (front-bytes s.back t.front t.back t.parts (back-bytes bytes s.front s.back s.parts fits)) t.first in
      let ok = facts-of (IdPasses role count direct p.list) (Signed 8) (range_with_len 0 p.size) t.value t.front ids in
      let ok' : Pairs (IdPasses role count direct p.list) (range_with_len 0 (length s.value)) t.value =
      rw cs.count ok in
      let m = made code_size p.list 0 s.value t.value s.front t.front cs.each cs.parts ok'
      (parts-of (IdPasses role count direct p.list) (Signed 8) (range_with_len 0 p.size) t.value t.front ids) in
      let all = at_end s.back t.front t.back t.parts t.more.0 in
      subst (λ (rows : List ListRow). RowsRead code_size p rows × ListPart rows bytes) t.more.1 (
        record { are = record { count = m.size ∙ cs.count; on = m.on }; code = m.code; ids = m.ids },
        (
          s.front,
          s.back,
          s.parts,
          m.code_part,
          subst (Each (λ row. Signed 8 row.label) (rows_on p.list s.value t.value)) (sym all) m.id_part,
        ),
      )

  rows-same : (list : ℕ) (rows : List ListRow) → AreOn list rows
      → rows_on list (map (λ row. row.code) rows) (map (λ row. row.label) rows) ≡ rows
  rows-same list [] on = refl
  rows-same list (row ∷ rows) on =
      let here : row.list ≡ list = All-head (λ (r : ListRow). r.list ≡ list) row rows on in
      let one : record { label = row.label; code = row.code; list = list } ≡ row =
      ap (λ l. record { label = row.label; code = row.code; list = l }) (sym here) in
      let ih = rows-same list rows (All-tail (λ (r : ListRow). r.list ≡ list) row rows on) in
      ap (λ (r : ListRow). r ∷ rows_on list (map (λ row. row.code) rows) (map (λ row. row.label) rows)) one
      ∙ ap (λ (rs : List ListRow). row ∷ rs) ih

  ids-pairs : (list offset : ℕ) (rows : List ListRow) → Ids list offset rows
      → Pairs (IdPasses role count direct list) (range_with_len offset (length rows)) (map (λ row. row.label) rows)
  ids-pairs list offset [] h = tt
  ids-pairs list offset (row ∷ rows) h = (h.0, ids-pairs list (offset + 1) rows h.1)

  codes-all : (code_size : ℕ) (rows : List ListRow) → All (λ row. HasBytes code_size row.code) rows
      → All (HasBytes code_size) (map (λ row. row.code) rows)
  codes-all code_size [] h = All-nil (HasBytes code_size)
  codes-all code_size (row ∷ rows) h = All-cons (HasBytes code_size) row.code (map (λ row. row.code) rows)
      (All-head (λ (r : ListRow). HasBytes code_size r.code) row rows h)
      (codes-all code_size rows (All-tail (λ (r : ListRow). HasBytes code_size r.code) row rows h))

  pub rows-again : (code_size : ℕ) (p : ListSize) (bytes : List ℕ) (rows : List ListRow)
      → RowsRead code_size p rows × ListPart rows bytes
      → Spells (list_rows role code_size count direct p) bytes rows
  unfolding list_rows
  rows-again code_size p bytes rows (h, (f, b, parts, cs_part, id_part)) =
      let cs = map (λ (row : ListRow). row.code) rows in
      let zs = map (λ (row : ListRow). row.label) rows in
      let first = repeated-again (bytes_field code_size no_check) Is (HasBytes code_size) (code-again code_size) cs f
      (codes-all code_size rows h.code) (each-map Is (λ (row : ListRow). row.code) rows f cs_part) in
      let len : length cs ≡ p.size = length-map rows (λ (row : ListRow). row.code) ∙ h.are.count in
      let first' : Spells (repeated p.size (bytes_field code_size no_check)) f cs =
      subst (λ n. Spells (repeated n (bytes_field code_size no_check)) f cs) len first in
      let pairs = ids-pairs p.list 0 rows h.ids in
      let signs = each-map (Signed 8) (λ (row : ListRow). row.label) rows b id_part in
      let both = both-of (IdPasses role count direct p.list) (Signed 8)
      (range_with_len 0 (length rows)) zs b pairs signs in
      let ids = each-again (list_id role count direct p.list)
      (λ offset z b. IdPasses role count direct p.list offset z × Signed 8 z b) (id-again p.list)
      (range_with_len 0 (length rows)) zs b both in
      let ids' : Spells (each (range_with_len 0 p.size) (list_id role count direct p.list)) b zs =
      subst (λ n. Spells (each (range_with_len 0 n) (list_id role count direct p.list)) b zs) h.are.count ids in
      let whole : Spells (each (range_with_len 0 p.size) (list_id role count direct p.list) >>= λ zs. done
      (rows_on p.list cs zs)) (b ++ []) rows =
      spells-join (each (range_with_len 0 p.size) (list_id role count direct p.list))
      (λ zs. done (rows_on p.list cs zs)) b [] zs rows ids' (refl, rows-same p.list rows h.are.on) in
      let whole' = subst (λ (t : List ℕ). Spells
      (each (range_with_len 0 p.size) (list_id role count direct p.list) >>= λ zs. done (rows_on p.list cs zs)) t
      rows) (append-nil b) whole in
      rw parts (spells-join (repeated p.size (bytes_field code_size no_check)) _ f b cs rows first' whole')
