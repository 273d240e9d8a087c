-- Rows whose codes are written, run by run.
use Rattle.std.proofs.Common.{◌≡◌, ℕ, zero, suc, ◌+◌, ◌*◌, ◌/◌, ◌≤◌, ℤ, Bool, true, All}
use Rattle.std.proofs.Common.{List, [], ◌∷◌, ◌++◌, length, take, drop, refl, sym, ap, ◌∙◌, append_assoc}
use Rattle.std.proofs.Common.{length-take, length-drop, arith}
use Rattle.std.specs.Prelude.{codes}
use Rattle.std.specs.Int.{w64, cast_unsigned}
use Rattle.std.specs.List.{flat_map}
use Rattle.byteorder.specs.Endian.{little_bytes}
use Rattle.std.proofs.lemmas.List.{take-append-drop, drop-drop, nil_from_length}
use Rattle.bcodes.specs.Value.{Row, CodeList, IsCode, Inner, IndexValue, Bare, IdMap, numbered, inner_of, dim_of}
use Rattle.bcodes.specs.Value.{count_of, is_trained, ids_of}
use Rattle.bcodes.specs.declared.map_name.MapName.TheVariants.{Map, Map2}
use Rattle.factory_text.specs.declared.prefix.Prefix.TheVariants as prefix
use Rattle.any_index.specs.Specs.{prefix_of}
use Rattle.code_pool.specs.Lists.{rows_in, IsRun}
use Rattle.file_parts.specs.Fields.{number_bytes, signed_bytes}
use Rattle.file_parts.specs.Storing.{Written, behind}
use Rattle.file_parts.proofs.StoreLemmas.{behind_twice}
use Rattle.index_files.specs.Groups.{concat}
use Rattle.index_files.specs.File.{settled_inner}
use Rattle.index_files.specs.Canon.{bit_of, head, flat_bytes, ids_bytes, inner_bytes, mapped_bytes, canon}
use Rattle.index_files.proofs.Spelled.{total-codes}

-- the bytes of the codes of some rows
abbrev pub code_bytes : List Row → List ℕ
code_bytes rows = flat_map (λ row. row.code) rows

pub numbered_bytes : (i : ℕ) (cs : List (List ℕ)) → code_bytes (numbered i cs) ≡ concat cs
numbered_bytes i [] = refl
numbered_bytes i (c ∷ cs) = ap (λ (bytes : List ℕ). c ++ bytes) (numbered_bytes (i + 1) cs)

bytes-in : (size : ℕ) (labels : List ℤ) (bytes : List ℕ) → length bytes ≡ length labels * size
    → code_bytes (rows_in size labels bytes) ≡ bytes
unfolding rows_in
bytes-in size [] bytes e = sym (nil_from_length bytes (e ∙ omega arith))
bytes-in size (l ∷ ls) bytes e =
    let all : suc (length ls) * size ≡ size + length ls * size = grind arith in
    let rest : length (drop size bytes) ≡ length ls * size = omega (arith, length-drop size bytes, e, all) in
    ap (λ (b : List ℕ). take size bytes ++ b) (bytes-in size ls (drop size bytes) rest)
    ∙ take-append-drop size bytes

bytes-append : (xs ys : List Row) → code_bytes (xs ++ ys) ≡ code_bytes xs ++ code_bytes ys
bytes-append [] ys = refl
bytes-append (x ∷ xs) ys =
    ap (λ (b : List ℕ). x.code ++ b) (bytes-append xs ys) ∙ sym (append_assoc x.code (code_bytes xs)
    (code_bytes ys))

-- the bytes of a run, and those of the rows behind it
pub run_bytes : (rows : List Row) (from size : ℕ) (labels : List ℤ) (bytes : List ℕ)
    → IsRun rows from size labels bytes
    → code_bytes (drop from rows) ≡ bytes ++ code_bytes (drop (from + length labels) rows)
run_bytes rows from size labels bytes run =
    let n = length labels in
    let own : code_bytes (take n (drop from rows)) ≡ bytes = ap code_bytes (sym run.rows)
    ∙ bytes-in size labels bytes run.size in
    let rest : drop n (drop from rows) ≡ drop (from + n) rows = drop-drop n from rows in
    ap code_bytes (sym (take-append-drop n (drop from rows)))
    ∙ bytes-append (take n (drop from rows)) (drop n (drop from rows))
    ∙ ap (λ (b : List ℕ). b ++ code_bytes (drop n (drop from rows))) own
    ∙ ap (λ (rs : List Row). bytes ++ code_bytes rs) rest

-- a part was written, and the rest is still to be written
pub goes_on : (part rest whole : List ℕ) (now next total : Written) → next ≡ behind part now
    → whole ≡ part ++ rest
    → behind whole now ≡ total → behind rest next ≡ total
goes_on part rest whole now next total e parts h =
    ap (behind rest) e ∙ behind_twice part rest now ∙ ap (λ (b : List ℕ). behind b now) (sym parts) ∙ h

-- the fields of a header
pub head_bytes : (d n bits byte : ℕ) (flag : Bool) → bits ≡ d → byte ≡ bit_of flag
    → (((number_bytes 4 bits ++ number_bytes 4 (bits / 8)) ++ number_bytes 8 n) ++ byte ∷ []) ++ number_bytes 4 1
    ≡ head d n flag
unfolding head
head_bytes d n bits byte flag e f =
    append_assoc ((number_bytes 4 bits ++ number_bytes 4 (bits / 8)) ++ number_bytes 8 n) (byte ∷ [])
    (number_bytes 4 1)
    ∙ ap (λ (b : ℕ). ((number_bytes 4 b ++ number_bytes 4
    (b / 8)) ++ number_bytes 8 n) ++ byte ∷ number_bytes 4 1) e
    ∙ ap (λ (b : ℕ). ((number_bytes 4 d ++ number_bytes 4
    (d / 8)) ++ number_bytes 8 n) ++ b ∷ number_bytes 4 1) f

-- the parts of a Flat
pub flat_parts : (v : CodeList) (d n size : ℕ) → d ≡ v.dim → n ≡ length v.codes → size ≡ n * (d / 8)
    → All (IsCode v.dim) v.codes
    → ((codes "IBxF" ++ head d n true) ++ number_bytes 8 size) ++ concat v.codes ≡ flat_bytes v.dim v.codes
unfolding flat_bytes
flat_parts v d n size dim count e all =
    let front : ℕ → ℕ → List ℕ = λ d n. codes "IBxF" ++ head d n true in
    let whole = total-codes (v.dim / 8) v.codes all in
    let same : size ≡ length (concat v.codes) = rw (dim, count) at e ∙ sym whole in
    append_assoc (front d n) (number_bytes 8 size) (concat v.codes)
    ∙ ap (λ (k : ℕ). front d n ++ (number_bytes 8 k ++ concat v.codes)) same
    ∙ ap (λ (k : ℕ). front k n ++ (number_bytes 8 (length (concat v.codes)) ++ concat v.codes)) dim
    ∙ ap (λ (k : ℕ). front v.dim k ++ (number_bytes 8 (length (concat v.codes)) ++ concat v.codes)) count

-- a piece of ids, and those behind it
pub ids_append : (xs ys : List ℤ) → ids_bytes (xs ++ ys) ≡ ids_bytes xs ++ ids_bytes ys
ids_append [] ys = refl
ids_append (x ∷ xs) ys =
    ap (λ (b : List ℕ). signed_bytes 8 x ++ b) (ids_append xs ys)
    ∙ sym (append_assoc (signed_bytes 8 x) (ids_bytes xs) (ids_bytes ys))

pub ids_part : (ids : List ℤ) (from n : ℕ) (piece : List ℕ)
    → piece ≡ flat_map (λ z. little_bytes 8 (cast_unsigned w64 z)) (take n (drop from ids))
    → ids_bytes (drop from ids) ≡ piece ++ ids_bytes (drop (from + n) ids)
unfolding signed_bytes
ids_part ids from n piece e =
    ap ids_bytes (sym (take-append-drop n (drop from ids)))
    ∙ ids_append (take n (drop from ids)) (drop n (drop from ids))
    ∙ ap (λ (b : List ℕ). b ++ ids_bytes (drop n (drop from ids))) (sym e)
    ∙ ap (λ (zs : List ℤ). piece ++ ids_bytes zs) (drop-drop n from ids)

-- an index under its outer ids
pub canon_plain : (v : IndexValue) → prefix_of v ≡ prefix.Plain
    → inner_bytes (settled_inner (inner_of v)) ≡ canon v
unfolding canon
canon_plain (Bare v) e = refl
canon_plain (IdMap Map v ids) e = absurd cc
canon_plain (IdMap Map2 v ids) e = absurd cc

pub canon_map : (v : IndexValue) → prefix_of v ≡ prefix.Map → mapped_bytes (codes "IBMp") v ≡ canon v
unfolding canon
canon_map (Bare v) e = absurd cc
canon_map (IdMap Map v ids) e = refl
canon_map (IdMap Map2 v ids) e = absurd cc

pub canon_map2 : (v : IndexValue) → prefix_of v ≡ prefix.Map2 → mapped_bytes (codes "IBM2") v ≡ canon v
unfolding canon
canon_map2 (Bare v) e = absurd cc
canon_map2 (IdMap Map v ids) e = absurd cc
canon_map2 (IdMap Map2 v ids) e = refl

pub mapped_parts : (front : List ℕ) (v : IndexValue) (d n count : ℕ) (flag : Bool) (inside : Inner) (ids : List ℤ)
    → d ≡ dim_of v → n ≡ count_of v → flag ≡ is_trained v → inside ≡ inner_of v → ids ≡ ids_of v
    → count ≡ length ids
    → (((front ++ head d n flag) ++ inner_bytes (settled_inner inside)) ++ number_bytes 8 count) ++ ids_bytes ids
    ≡ mapped_bytes front v
mapped_parts front v d n count flag inside ids a b c e f k = rw (k, a, b, c, e, f) refl
