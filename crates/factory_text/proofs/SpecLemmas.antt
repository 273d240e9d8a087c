-- A text that is read is the one that is written of what it is read as, and the other way round.
use Rattle.std.proofs.Common.{◌≡◌, ℕ, List, [], ◌∷◌, ◌++◌, drop, Bool, true, false, cond, Result, Ok, Err, IfOk}
use Rattle.std.proofs.Common.{refl, arith, lit<, sym, ◌∙◌, ap, subst, append_assoc}
use Rattle.std.specs.Prelude.{codes, ◌&&◌}
use Rattle.std.specs.Fmt.{decimal}
use Rattle.std.specs.Int.{IsInRange}
use Rattle.std.specs.List.{join_with_byte}
use Rattle.std.proofs.lemmas.List.Splits.{join_with_byte-slice_split}
use Rattle.factory_text.specs.declared.prefix.Prefix.{Prefix}
use Rattle.factory_text.specs.declared.prefix.Prefix.TheVariants as prefix
use Rattle.factory_text.specs.declared.kind.Kind.{Kind}
use Rattle.factory_text.specs.declared.kind.Kind.TheVariants as kind
use Rattle.factory_text.specs.declared.spec.Spec.{Spec}
use Rattle.factory_text.specs.declared.spec_error.SpecError.{SpecError}
use Rattle.factory_text.specs.declared.spec_error.SpecError.TheVariants.{Unknown, LeftOut, Nested}
use Rattle.factory_text.specs.Kinds.{HasLegalNumbers, most_lists, most_maps, most_key_bits}
use Rattle.factory_text.specs.Numerals.{is_numeral}
use Rattle.factory_text.specs.Printing.{prefix_text, kind_text, spec_text}
use Rattle.factory_text.specs.Reading.{◌>>=◌, number, flat_kind, ivf_kind, is_hnsw, hash_numbers, hash_parts, hash_kind}
use Rattle.factory_text.specs.Reading.{parted_by_x, read_kind, is_prefixed, spec_under, read_spec}
use Rattle.factory_text.proofs.FrontLemmas.{one_front}
use Rattle.factory_text.proofs.HashLemmas.{hash_of_one, hash_of_two, digits_without_x}
use Rattle.factory_text.proofs.NumeralLemmas.{number_read, number_written, decimal_numeral}

-- ---- what is read

-- where a kind is read, the text is the one that is written of it
IsRead : List ℕ → Result Kind SpecError → Type 0
IsRead text r = IfOk r (λ kind. (text ≡ kind_text kind) × HasLegalNumbers kind)

-- where a number is read, the digits are those that are written of it
abbrev IsNumber : ℕ → List ℕ → Result ℕ SpecError → Type 0
IsNumber most digits r = IfOk r (λ n. (digits ≡ decimal n) × IsInRange 1 most n)

flat_read : (text rest : List ℕ) → text ≡ codes "BFlat" ++ rest → IsRead text (flat_kind rest)
unfolding IsRead
flat_read text [] is = (is, tt)
flat_read text (b ∷ rest) is = tt

ivf_from : (text digits : List ℕ) (r : Result ℕ SpecError) → text ≡ codes "BIVF" ++ digits
    → IsNumber most_lists digits r → IsRead text (r >>= (λ nlist. Ok (kind.Ivf nlist)))
unfolding IsRead
ivf_from text digits (Ok nlist) is of = (is ∙ ap (λ ds. codes "BIVF" ++ ds) of.0, of.1)
ivf_from text digits (Err e) is of = tt

ivf_by : (text rest : List ℕ) (numeral hnsw : Bool) → text ≡ codes "BIVF" ++ rest → is_numeral rest ≡ numeral
    → IsRead text (cond numeral (number most_lists rest >>= (λ nlist. Ok (kind.Ivf nlist)))
    (cond hnsw (Err LeftOut) (Err Unknown)))
unfolding IsRead
ivf_by text rest true hnsw is numeral =
    ivf_from text rest (number most_lists rest) is (number_read most_lists rest numeral (lit< tt))
ivf_by text rest false true is numeral = tt
ivf_by text rest false false is numeral = tt

hash_from : (text bits : List ℕ) (r : Result ℕ SpecError) → text ≡ codes "BHash" ++ bits
    → IsNumber most_key_bits bits r → IsRead text (r >>= (λ b. Ok (kind.Hash b)))
unfolding IsRead
hash_from text bits (Ok b) is of = (is ∙ ap (λ ds. codes "BHash" ++ ds) of.0, of.1)
hash_from text bits (Err e) is of = tt

multi_from : (text maps bits : List ℕ) (m r : Result ℕ SpecError)
    → text ≡ codes "BHash" ++ (maps ++ 120 ∷ bits)
    → IsNumber most_maps maps m → IsNumber most_key_bits bits r
    → IsRead text (m >>= (λ nhash. r >>= (λ b. Ok (kind.Multi nhash b))))
unfolding IsRead
multi_from text maps bits (Ok nhash) (Ok b) is of_maps of_bits =
    let joined : maps ++ 120 ∷ bits ≡ decimal nhash ++ codes "x" ++ decimal b
    = rw (of_maps.0, of_bits.0) (sym (append_assoc (decimal nhash) (codes "x") (decimal b))) in
    (is ∙ ap (λ ds. codes "BHash" ++ ds) joined, (of_maps.1, of_bits.1))
multi_from text maps bits (Ok nhash) (Err e) is of_maps of_bits = tt
multi_from text maps bits (Err e) r is of_maps of_bits = tt

unknown : (text : List ℕ) (b : Bool) → IsRead text (cond b (Err Unknown) (Err Unknown))
unfolding IsRead
unknown text true = tt
unknown text false = tt

hash_by : (text bits : List ℕ) (b : Bool) → is_numeral bits ≡ b → text ≡ codes "BHash" ++ bits
    → IsRead text (cond (b && true) (hash_numbers (bits ∷ [])) (Err Unknown))
unfolding IsRead
hash_by text bits true numeral is = hash_from text bits (number most_key_bits bits) is
    (number_read most_key_bits bits numeral (lit< tt))
hash_by text bits false numeral is = tt

multi_by : (text maps bits : List ℕ) (a b : Bool) → is_numeral maps ≡ a → is_numeral bits ≡ b
    → text ≡ codes "BHash" ++ (maps ++ 120 ∷ bits)
    → IsRead text (cond (a && (b && true)) (hash_numbers (maps ∷ bits ∷ [])) (Err Unknown))
unfolding IsRead
multi_by text maps bits true true of_maps of_bits is =
    multi_from text maps bits (number most_maps maps) (number most_key_bits bits) is
    (number_read most_maps maps of_maps (lit< tt)) (number_read most_key_bits bits of_bits (lit< tt))
multi_by text maps bits true false of_maps of_bits is = tt
multi_by text maps bits false b of_maps of_bits is = tt

parts_read : (text rest : List ℕ) (parts : List (List ℕ)) → text ≡ codes "BHash" ++ rest
    → join_with_byte 120 parts ≡ rest → IsRead text (hash_parts parts)
parts_read text rest [] is joined = unknown text true
parts_read text rest (bits ∷ []) is joined = hash_by text bits (is_numeral bits) refl (rw joined is)
parts_read text rest (maps ∷ bits ∷ []) is joined =
    multi_by text maps bits (is_numeral maps) (is_numeral bits) refl refl (rw joined is)
parts_read text rest (a ∷ b ∷ c ∷ parts) is joined = unknown text _

kind_read : (text : List ℕ) → IsRead text (read_kind text)
unfolding IsRead
kind_read text =
    one_front (IsRead text) (codes "BFlat") text _ _ (λ is. flat_read text _ is)
    (one_front (IsRead text) (codes "BIVF") text _ _
    (λ is. ivf_by text _ (is_numeral (drop 4 text)) (is_hnsw (drop 4 text)) is refl)
    (one_front (IsRead text) (codes "BHash") text _ _
    (λ is. parts_read text _ (parted_by_x (drop 5 text)) is (join_with_byte-slice_split 120 (drop 5 text)))
    (one_front (IsRead text) (codes "BHNSW") text _ _ (λ is. tt) tt)))

abbrev IsSpec : List ℕ → Result Spec SpecError → Type 0
IsSpec text r = IfOk r (λ spec. (text ≡ spec_text spec) × HasLegalNumbers spec.kind)

under_from : (text rest : List ℕ) (p : Prefix) (r : Result Kind SpecError) → text ≡ prefix_text p ++ rest
    → IsRead rest r → IsSpec text (r >>= (λ kind. Ok (record { prefix = p; kind = kind })))
unfolding IsRead
under_from text rest p (Ok kind) is of = (is ∙ ap (λ t. prefix_text p ++ t) of.0, of.1)
under_from text rest p (Err e) is of = tt

under_by : (text rest : List ℕ) (p : Prefix) (nested : Bool) → text ≡ prefix_text p ++ rest
    → IsSpec text (cond nested (Err Nested)
    (read_kind rest >>= (λ kind. Ok (record { prefix = p; kind = kind }))))
under_by text rest p true is = tt
under_by text rest p false is = under_from text rest p (read_kind rest) is (kind_read rest)

under_read : (text rest : List ℕ) (p : Prefix) → text ≡ prefix_text p ++ rest
    → IsSpec text (spec_under p rest)
under_read text rest p is = under_by text rest p (is_prefixed rest) is

pub spec_read : (text : List ℕ) → IfOk (read_spec text)
    (λ spec. (text ≡ spec_text spec) × HasLegalNumbers spec.kind)
unfolding read_spec
spec_read text =
    one_front (IsSpec text) (codes "IDMap,") text _ _ (λ is. under_read text _ prefix.Map is)
    (one_front (IsSpec text) (codes "IDMap2,") text _ _ (λ is. under_read text _ prefix.Map2 is)
    (under_read text text prefix.Plain refl))

both : {A : Type 0} (P Q : Spec → Type 0) (r s : Result Spec A) → r ≡ s → IfOk s (λ spec. P spec × Q spec)
    → IfOk r P × IfOk r Q
both P Q (Ok x) (Ok y) same of = let e : x ≡ y = cc in (subst P (sym e) of.0, subst Q (sym e) of.1)
both P Q (Ok x) (Err e) same of = absurd (cc)
both P Q (Err e) s same of = (tt, tt)

pub read_canonical : (text : List ℕ) (r : Result Spec SpecError) → r ≡ read_spec text
    → IfOk r (λ spec. text ≡ spec_text spec)
read_canonical text r same =
    (both (λ spec. text ≡ spec_text spec) (λ spec. HasLegalNumbers spec.kind) r _ same (spec_read text)).0

pub read_numbers : (text : List ℕ) (r : Result Spec SpecError) → r ≡ read_spec text
    → IfOk r (λ spec. HasLegalNumbers spec.kind)
read_numbers text r same =
    (both (λ spec. text ≡ spec_text spec) (λ spec. HasLegalNumbers spec.kind) r _ same (spec_read text)).1

-- ---- what is written

ivf_written : (nlist : ℕ) → IsInRange 1 most_lists nlist → ivf_kind (decimal nlist) ≡ Ok (kind.Ivf nlist)
ivf_written nlist range =
    rw (decimal_numeral nlist (omega arith), number_written most_lists nlist range (lit< tt)) refl

hash_written : (b : ℕ) → IsInRange 1 most_key_bits b → hash_kind (decimal b) ≡ Ok (kind.Hash b)
hash_written b range =
    let digits : is_numeral (decimal b) ≡ true = decimal_numeral b (omega arith) in
    hash_of_one (decimal b) (digits_without_x (decimal b) digits)
    ∙ rw (digits, number_written most_key_bits b range (lit< tt)) refl

multi_written : (nhash b : ℕ) → IsInRange 1 most_maps nhash → IsInRange 1 most_key_bits b
    → hash_kind (decimal nhash ++ codes "x" ++ decimal b) ≡ Ok (kind.Multi nhash b)
multi_written nhash b maps bits =
    let of_maps : is_numeral (decimal nhash) ≡ true = decimal_numeral nhash (omega arith) in
    let of_bits : is_numeral (decimal b) ≡ true = decimal_numeral b (omega arith) in
    hash_of_two _ (decimal nhash) (decimal b) (digits_without_x (decimal nhash) of_maps)
    (append_assoc (decimal nhash) (codes "x") (decimal b))
    ∙ rw (
      of_maps,
      of_bits,
      number_written most_maps nhash maps (lit< tt),
      number_written most_key_bits b bits (lit< tt),
    ) refl

under_written : (p : Prefix) (k : Kind) (text : List ℕ) → is_prefixed text ≡ false → read_kind text ≡ Ok k
    → spec_under p text ≡ Ok (record { prefix = p; kind = k })
under_written p k text plain is = rw (plain, is) refl

-- behind a prefix, and alone
record IsWritten (k : Kind) : Type 0 where
  plain : is_prefixed (kind_text k) ≡ false
  kind : read_kind (kind_text k) ≡ Ok k

kind_written : (k : Kind) → HasLegalNumbers k → IsWritten k
kind_written kind.Flat legal = record { plain = refl; kind = refl }
kind_written (kind.Ivf nlist) legal = record { plain = refl; kind = ivf_written nlist legal }
kind_written (kind.Hash b) legal = record { plain = refl; kind = hash_written b legal }
kind_written (kind.Multi nhash b) legal =
    record { plain = refl; kind = multi_written nhash b legal.0 legal.1 }

-- a kind alone begins with no prefix
alone : (k : Kind) → read_spec (kind_text k) ≡ spec_under prefix.Plain (kind_text k)
unfolding read_spec
alone kind.Flat = refl
alone (kind.Ivf nlist) = refl
alone (kind.Hash b) = refl
alone (kind.Multi nhash b) = refl

prefixed : (p : Prefix) (k : Kind) → read_spec (prefix_text p ++ kind_text k) ≡ spec_under p (kind_text k)
unfolding read_spec
prefixed prefix.Plain k = alone k
prefixed prefix.Map k = refl
prefixed prefix.Map2 k = refl

pub spec_written : (spec : Spec) → HasLegalNumbers spec.kind → read_spec (spec_text spec) ≡ Ok spec
spec_written spec legal =
    let written = kind_written spec.kind legal in
    prefixed spec.prefix spec.kind ∙ under_written spec.prefix spec.kind (kind_text spec.kind) written.plain written.kind
