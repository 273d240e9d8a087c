-- What a factory text stands for: an optional prefix, and a kind with its numbers.
use Rattle.std.specs.Prelude.{ℕ, ◌==◌, ◌&&◌, ◌||◌, Bool, nat_lt, List, [], ◌∷◌, length, take_while, drop, codes, Result}
use Rattle.std.specs.Prelude.{Ok, Err, if◌then◌else◌}
use Rattle.std.specs.Char.{is_ascii_digit}
use Rattle.std.specs.List.{list_all, slice_split}
use Rattle.std.specs.Str.Parse.{digits_value}
use Rattle.factory_text.specs.declared.prefix.Prefix.{Prefix}
use Rattle.factory_text.specs.declared.prefix.Prefix.TheVariants as prefix
use Rattle.factory_text.specs.declared.kind.Kind.{Kind}
use Rattle.factory_text.specs.declared.kind.Kind.TheVariants as kind
use Rattle.factory_text.specs.declared.spec.Spec.{Spec}
use Rattle.factory_text.specs.declared.spec_error.SpecError.{SpecError}
use Rattle.factory_text.specs.declared.spec_error.SpecError.TheVariants.{Unknown, Number, LeftOut, Nested}
use Rattle.factory_text.specs.Kinds.{most_lists, most_maps, most_key_bits}
use Rattle.factory_text.specs.Numerals.{begins, is_numeral, Branch, ◌▹◌, by_front}

infixl 10 ◌>>=◌
abbrev pub ◌>>=◌ : {A B : Type 0} → Result A SpecError → (A → Result B SpecError) → Result B SpecError
(Ok x) >>= f = f x
(Err e) >>= f = Err e

-- the number that a numeral writes, from 1 to `most` and without a leading zero
abbrev pub number : ℕ → List ℕ → Result ℕ SpecError
number most digits =
    let n = digits_value 10 digits in
    if begins (codes "0") digits || nat_lt most n then Err Number else Ok n

abbrev pub flat_kind : List ℕ → Result Kind SpecError
flat_kind [] = Ok kind.Flat
flat_kind (b ∷ rest) = Err Unknown

abbrev pub ivf_number : List ℕ → Result Kind SpecError
ivf_number digits = do
  nlist ← number most_lists digits
  Ok (kind.Ivf nlist)

-- digits, then `_HNSW` and anything
abbrev pub is_hnsw : List ℕ → Bool
is_hnsw rest =
    let digits = take_while is_ascii_digit rest in
    is_numeral digits && begins (codes "_HNSW") (drop (length digits) rest)

abbrev pub ivf_kind : List ℕ → Result Kind SpecError
ivf_kind rest = if is_numeral rest then ivf_number rest else if is_hnsw rest then Err LeftOut else Err Unknown

-- an `x` parts two numbers
abbrev pub parted_by_x : List ℕ → List (List ℕ)
parted_by_x text = slice_split (λ b. b == 120) text

-- one number, or two
abbrev pub hash_numbers : List (List ℕ) → Result Kind SpecError
hash_numbers (bits ∷ []) = do
  b ← number most_key_bits bits
  Ok (kind.Hash b)
hash_numbers (maps ∷ bits ∷ []) = do
  nhash ← number most_maps maps
  b ← number most_key_bits bits
  Ok (kind.Multi nhash b)
hash_numbers _ = Err Unknown

abbrev pub hash_parts : List (List ℕ) → Result Kind SpecError
hash_parts parts = if list_all is_numeral parts then hash_numbers parts else Err Unknown

abbrev pub hash_kind : List ℕ → Result Kind SpecError
hash_kind rest = hash_parts (parted_by_x rest)

-- the kinds, by how their texts begin
abbrev pub kinds : List (Branch (Result Kind SpecError))
kinds =
    (codes "BFlat" ▹ flat_kind)
    ∷ (codes "BIVF" ▹ ivf_kind)
    ∷ (codes "BHash" ▹ hash_kind)
    ∷ (codes "BHNSW" ▹ λ rest. Err LeftOut)
    ∷ []

abbrev pub read_kind : List ℕ → Result Kind SpecError
read_kind text = by_front kinds (Err Unknown) text

abbrev pub is_prefixed : List ℕ → Bool
is_prefixed text = begins (codes "IDMap,") text || begins (codes "IDMap2,") text

-- the text after a prefix, or the whole text where there is none
abbrev pub spec_under : Prefix → List ℕ → Result Spec SpecError
spec_under prefix rest =
    if is_prefixed rest then Err Nested
    else (do kind ← read_kind rest; Ok (record { prefix = prefix; kind = kind }))

unfoldable pub read_spec : List ℕ → Result Spec SpecError
read_spec text =
    by_front
    ((codes "IDMap," ▹ spec_under prefix.Map)
    ∷ (codes "IDMap2," ▹ spec_under prefix.Map2)
    ∷ [])
    (spec_under prefix.Plain text)
    text
