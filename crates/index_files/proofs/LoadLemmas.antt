-- From what reading gives to what a load answers.
use Rattle.std.proofs.Common.{◌≡◌, ℕ, zero, suc, ◌+◌, ◌-◌, ◌*◌, ◌/◌, ◌≤◌, ◌<◌, ℤ}
use Rattle.std.proofs.Common.{pos, Bool, true, List, [], ◌∷◌, ◌++◌, length, All, Result, Ok, Err, refl, sym}
use Rattle.std.proofs.Common.{ap, subst, ◌∙◌, append_assoc, arith, take, drop, eqb, false, Option, Some, None}
use Rattle.std.proofs.Common.{length-drop, mul-le-mul_right}
use Rattle.std.proofs.Math.Nat.{suc-mul}
use Rattle.std.specs.Prelude.{IfOk}
use Rattle.std.proofs.lemmas.Bool.{eqb-true, ne_eqb}
use Rattle.std.proofs.lemmas.Int.{ints}
use Rattle.std.proofs.lemmas.List.{drop-drop, drop-append-le, nil_from_length, take-append-le}
use Rattle.std.proofs.lemmas.List.Elements.{All-nil, All-cons}
use Rattle.bcodes.specs.Chunks.{chunks_of}
use Rattle.bcodes.specs.Ranges.{load_limit}
use Rattle.bcodes.specs.Value.{CodeList, Flat, Row, IndexValue, IsPlace, numbered, weight}
use Rattle.file_parts.specs.declared.file_fault.FileFault.{FileFault}
use Rattle.file_parts.specs.declared.part_error.PartError.{PartError}
use Rattle.file_parts.specs.declared.part_error.PartError.TheVariants as part
use Rattle.file_parts.specs.declared.role.Role.{Role}
use Rattle.file_parts.specs.declared.role.Role.TheVariants.{Outermost, Within, Quantizer}
use Rattle.file_parts.specs.Format.{FirstFault, Format, Place, done, ended, read, run, ◌>>=◌}
use Rattle.file_parts.specs.Fields.{repeated, rows_beside}
use Rattle.outside.specs.Calls.{KeepsFiles}
use Rattle.outside.specs.Contents.{Contents}
use Rattle.file_parts.specs.Feeding.{Decodes, GivesEnd, GivesError, IsTold}
use Rattle.file_parts.specs.Heads.{IsHead}
use Rattle.file_parts.proofs.Reading.{◌>>>◌, spells-read, read-spells, fault-read, read-fault}
use Rattle.file_parts.proofs.Repeats.{with_front, one-more}
use Rattle.index_files.specs.declared.load_error.LoadError.{LoadError}
use Rattle.index_files.specs.declared.load_error.LoadError.TheVariants as error
use Rattle.index_files.specs.File.{IsFile}
use Rattle.index_files.specs.FileFormat.{file}
use Rattle.index_files.specs.Laws.{FitsRole, IsBodyRole, IsInside}
use Rattle.index_files.specs.Loading.{Loads, load_error}
use Rattle.index_files.proofs.Elements.{IsBytes}
use Rattle.index_files.proofs.KindLaws.{found, again}

-- ---- several of one format by one read

regroup : {A : Type 0} (front xs : List A) (read : Result (List A × Place) FileFault)
    → with_front front (with_front xs read) ≡ with_front (front ++ xs) read
regroup {A = A} front xs (Ok y) = ap (λ (zs : List A). kept zs y.1) (sym (append_assoc front xs y.0))
  where
    kept : List A → Place → Result (List A × Place) FileFault
    kept zs p = Ok (zs, p)
regroup front xs (Err e) = refl

several : {A : Type 0} (f : Format A) (n k : ℕ) (p : Place)
    → run (repeated (n + k) f) p ≡ run (repeated n f) p >>> (λ x. with_front x.0 (run (repeated k f) x.1))
several {A = A} f zero k p = go (run (repeated k f) p) (ap (λ (m : ℕ). run (repeated m f) p) none)
  where
    none : 0 + k ≡ k
    none = omega arith

    go : (r : Result (List A × Place) FileFault)
        → run (repeated (0 + k) f) p ≡ r → run (repeated (0 + k) f) p ≡ with_front [] r
    go (Ok y) e = e
    go (Err y) e = e
several {A = A} f (suc n) k p =
    ap (λ (m : ℕ). run (repeated m f) p) next ∙ one-more f (n + k) p ∙ go (λ q. several f n k q) (run f p)
    ∙ ap (λ r. r >>> tail) (sym (one-more f n p))
  where
    next : suc n + k ≡ suc (n + k)
    next = omega arith

    tail : List A × Place → Result (List A × Place) FileFault
    tail x = with_front x.0 (run (repeated k f) x.1)

    back : (x : A) (ys : List A) (r : Result (List A × Place) FileFault)
        → with_front ys r >>> (λ z. Ok (x ∷ z.0, z.1)) ≡ with_front (x ∷ ys) r
    back x ys (Ok z) = refl
    back x ys (Err e) = refl

    inner : (x : A) (r : Result (List A × Place) FileFault)
        → (r >>> tail) >>> (λ y. Ok (x ∷ y.0, y.1)) ≡ (r >>> (λ y. Ok (x ∷ y.0, y.1))) >>> tail
    inner x (Ok y) = back x y.0 (run (repeated k f) y.1)
    inner x (Err e) = refl

    Splits : Type 0
    Splits = (q : Place)
        → run (repeated (n + k) f) q ≡ run (repeated n f) q >>> (λ x. with_front x.0 (run (repeated k f) x.1))

    go : Splits
        → (r : Result (A × Place) FileFault)
        → r >>> (λ x. run (repeated (n + k) f) x.1 >>> (λ y. Ok (x.0 ∷ y.0, y.1)))
        ≡ (r >>> (λ x. run (repeated n f) x.1 >>> (λ y. Ok (x.0 ∷ y.0, y.1)))) >>> tail
    go ih (Ok x) = ap (λ r. r >>> (λ y. Ok (x.0 ∷ y.0, y.1))) (ih x.1) ∙ inner x.0 (run (repeated n f) x.1)
    go ih (Err e) = refl

-- a piece was read, and the rest is still to be read
pub piece_read : {A : Type 0} (f : Format A) (front xs : List A) (count i n : ℕ) (p q : Place)
    (total : Result (List A × Place) FileFault) → i + n ≤ count → run (repeated n f) p ≡ Ok (xs, q)
    → with_front front (run (repeated (count - i) f) p) ≡ total
    → with_front (front ++ xs) (run (repeated (count - (i + n)) f) q) ≡ total
piece_read f front xs count i n p q total le h so_far =
    let k : count - i ≡ n + (count - (i + n)) = omega arith in
    let rest = run (repeated (count - (i + n)) f) q in
    let one : with_front front (run (repeated (count - i) f) p) ≡ with_front front (with_front xs rest) =
    ap (λ (m : ℕ). with_front front (run (repeated m f) p)) k
    ∙ ap (with_front front) (several f n (count - (i + n)) p)
    ∙ ap (λ r. with_front front (r >>> (λ x. with_front x.0 (run (repeated (count - (i + n)) f) x.1)))) h in
    sym (regroup front xs rest) ∙ sym one ∙ so_far

pub piece_fails : {A : Type 0} (f : Format A) (e : PartError) (front : List A) (count i n : ℕ) (p : Place)
    (total : Result (List A × Place) FileFault) → i + n ≤ count → GivesError e (run (repeated n f) p)
    → with_front front (run (repeated (count - i) f) p) ≡ total → GivesError e total
piece_fails f (part.Bad b) front count i n p total le h so_far =
    let k : count - i ≡ n + (count - (i + n)) = omega arith in
    sym so_far
    ∙ ap (λ (m : ℕ). with_front front (run (repeated m f) p)) k
    ∙ ap (with_front front) (several f n (count - (i + n)) p)
    ∙ ap (λ r. with_front front (r >>> (λ x. with_front x.0 (run (repeated (count - (i + n)) f) x.1)))) h
piece_fails f part.Failed front count i n p total le h so_far = tt
piece_fails f part.Memory front count i n p total le h so_far = tt

-- ---- codes in a row

-- one code more
pub chunks_more : (size i : ℕ) (bytes : List ℕ)
    → chunks_of size (i + 1) bytes ≡ chunks_of size i bytes ++ take size (drop (i * size) bytes) ∷ []
unfolding chunks_of
chunks_more size zero bytes =
    let none : 0 * size ≡ 0 = omega arith in
    ap (λ (n : ℕ). take size (drop n bytes) ∷ []) (sym none)
chunks_more size (suc i) bytes =
    let next : size + i * size ≡ suc i * size = grind arith in
    let one : suc i + 1 ≡ suc (i + 1) = omega arith in
    ap (λ (n : ℕ). chunks_of size n bytes) one
    ∙ ap (λ (cs : List (List ℕ)). take size bytes ∷ cs) (chunks_more size i (drop size bytes))
    ∙ ap (λ (b : List ℕ). (take size bytes ∷ chunks_of size i (drop size bytes)) ++ take size b ∷ [])
    (drop-drop (i * size) size bytes ∙ ap (λ (n : ℕ). drop n bytes) next)

-- codes, and those behind them
pub chunks_of-append : (size i n : ℕ) (front bytes : List ℕ) → length front ≡ i * size
    → chunks_of size (i + n) (front ++ bytes) ≡ chunks_of size i front ++ chunks_of size n bytes
unfolding chunks_of
chunks_of-append size zero n front bytes h =
    let none : front ≡ [] = nil_from_length front (omega (arith, h)) in
    let same : 0 + n ≡ n = omega arith in
    rw (none, same) refl
chunks_of-append size (suc i) n front bytes h =
    let room : length front ≡ i * size + size = h ∙ suc-mul i size in
    let next : suc i + n ≡ suc (i + n) = omega arith in
    let first : take size (front ++ bytes) ≡ take size front =
    take-append-le size front bytes (omega (arith, room)) in
    let behind : drop size (front ++ bytes) ≡ drop size front ++ bytes =
    drop-append-le size front bytes (omega (arith, room)) in
    let left : length (drop size front) ≡ i * size = omega (arith, length-drop size front, room) in
    rw (next, first, behind) (ap (λ (cs : List (List ℕ)). take size front ∷ cs)
    (chunks_of-append size i n (drop size front) bytes left))

-- ---- what an index fits

numbered-places : (n i : ℕ) (cs : List (List ℕ)) → i + length cs ≤ n
    → All (λ row. IsPlace n row.label) (numbered i cs)
numbered-places n i [] le = All-nil (λ row. IsPlace n row.label)
numbered-places n i (c ∷ cs) le =
    All-cons (λ row. IsPlace n row.label) (record { label = pos i; code = c }) (numbered (i + 1) cs)
    (record { least = omega (arith, ints); most = omega (arith, ints, le) })
    (numbered-places n (i + 1) cs (omega (arith, le)))

-- a Flat whose header passed fits its role
pub fits_flat : (role : Role) (v : CodeList) → IsBodyRole role
    → IsHead role (record { dim = v.dim; count = length v.codes; flag = true }) → FitsRole role (Flat v)
fits_flat Outermost v b h = tt
fits_flat (Within dim count) v b h =
    let n : length v.codes ≡ count = eqb-true _ _ h.takes_count in
    record {
      same_dim = eqb-true _ _ h.takes_dim;
      same_count = n;
      labels = numbered-places count 0 v.codes (omega (arith, n));
    }
fits_flat (Quantizer dim nlist rows flag) v b h = absurd b

-- the codes weigh what the header was tried by
pub head_load : (role : Role) (d n : ℕ) → (rows_beside role + n) * (d / 8 + 16) ≤ load_limit
    → weight d 0 n 0 ≤ load_limit
head_load role d n le =
    let less : n * (d / 8 + 16) ≤ (rows_beside role + n) * (d / 8 + 16) = grind arith in
    let same : weight d 0 n 0 ≡ n * (d / 8 + 16) = grind arith in
    omega (arith, le, less, same)

-- ---- what a load answers

-- the answer of a load whose fields were read so
abbrev pub loaded : Result IndexValue PartError → Result IndexValue LoadError
loaded (Ok v) = Ok v
loaded (Err e) = Err (load_error e)

loads : (r : Result IndexValue PartError) (whole : Result IndexValue FileFault) → Decodes (λ v. v) r whole
    → Loads (loaded r) whole
loads (Ok v) whole h = h
loads (Err (part.Bad b)) whole h = h
loads (Err part.Failed) whole h = tt
loads (Err part.Memory) whole h = tt

pub loaded_ok : (r : Result IndexValue PartError) (bytes : List ℕ)
    → Decodes (λ v. v) r (read file bytes) → IsBytes bytes → IfOk (loaded r) (λ v. IsFile v bytes)
loaded_ok (Ok v) bytes h fits = found bytes v fits (spells-read file bytes v h)
loaded_ok (Err e) bytes h fits = tt

pub loaded_only : (r : Result IndexValue PartError) (bytes : List ℕ) (v : IndexValue)
    → Decodes (λ v. v) r (read file bytes) → IsFile v bytes → Loads (loaded r) (Ok v)
loaded_only r bytes v h is =
    subst (Loads (loaded r)) (read-spells file bytes v (again bytes v is)) (loads r (read file bytes) h)

pub loaded_bad : (r : Result IndexValue PartError) (bytes : List ℕ) (f : FileFault)
    → Decodes (λ v. v) r (read file bytes) → loaded r ≡ Err (error.Bad f) → FirstFault file bytes f
loaded_bad (Ok v) bytes f h e = absurd cc
loaded_bad (Err (part.Bad b)) bytes f h e =
    let same : b ≡ f = cc in
    subst (FirstFault file bytes) same (fault-read file bytes b h)
loaded_bad (Err part.Failed) bytes f h e = absurd cc
loaded_bad (Err part.Memory) bytes f h e = absurd cc

pub loaded_first : (r : Result IndexValue PartError) (bytes : List ℕ) (f : FileFault)
    → Decodes (λ v. v) r (read file bytes) → FirstFault file bytes f
    → Loads (loaded r) (Err f)
loaded_first r bytes f h is =
    subst (Loads (loaded r)) (read-fault file bytes f is) (loads r (read file bytes) h)

-- ---- feeds that go on over one shelf

pub keeps_then : (a b c : Option Contents) → KeepsFiles a b → KeepsFiles b c → KeepsFiles a c
keeps_then None None None p q = tt
keeps_then None None (Some c) p q = q
keeps_then None (Some b) c p q = absurd p
keeps_then (Some a) None c p q = absurd p
keeps_then (Some a) (Some b) None p q = q
keeps_then (Some a) (Some b) (Some c) p q = q ∙ p

pub told_kept : (a b : Option Contents) → KeepsFiles a b → IsTold a → IsTold b
told_kept None b p told = absurd cc
told_kept (Some a) None p told = absurd p
told_kept (Some a) (Some b) p told = refl

-- a piece of codes within the load of all
pub piece_load : (d i n count : ℕ) → i + n ≤ count → weight d 0 count 0 ≤ load_limit
    → weight d 0 (i + n) 0 ≤ load_limit
piece_load d i n count le load =
    let less : (i + n) * (d / 8 + 16 + 64 * 0) ≤ count * (d / 8 + 16 + 64 * 0) =
    mul-le-mul_right (d / 8 + 16 + 64 * 0) le in
    omega (arith, load, less)

-- a file after whose last field a byte follows
pub end_fails : {A X : Type 0} (view : X → A) (e : PartError) (f : Format A) (start : Place) (x : A) (q : Place)
    → run f start ≡ Ok (x, q) → GivesEnd {X = X} (Err e) q → Decodes {X = X} view (Err e) (ended (run f start))
end_fails view (part.Bad b) f start x q h (some, is) =
    let no : eqb (length q.bytes) 0 ≡ false = ne_eqb _ _ (omega (arith, some)) in
    rw (h, no, is) refl
end_fails view part.Failed f start x q h k = tt
end_fails view part.Memory f start x q h k = tt
