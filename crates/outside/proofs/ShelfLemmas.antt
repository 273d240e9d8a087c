-- Files by their names, in a map from texts.
use Rattle.std.proofs.Common.{◌≡◌, ℕ, Bool, true, false, cond, ◌∙◌, List, [], ◌∷◌, Option, Some}
use Rattle.std.proofs.Common.{refl, sym, ap}
use Rattle.std.specs.Option.{option_map}
use Rattle.std.specs.Ordering.{is_eq, nat_cmp}
use Rattle.std.specs.Cmp.Lexicographic.{slice_cmp}
use Rattle.std.specs.Map.{lookup}
use Rattle.std.specs.Str.{bytes_eq}
use Rattle.std.proofs.lemmas.Map.Text.{is_eq-slice_cmp}
use Rattle.outside.specs.Contents.{put}
use Rattle.outside.specs.States.{files_of, named_by}

-- what a map has under the key of these bytes
abbrev pub found : {K V : Type 0} → (K → List ℕ) → List ℕ → List (K × V) → Option V
found key name entries = lookup (λ k. is_eq (slice_cmp nat_cmp name (key k))) entries

map-cond : {V : Type 0} (value : V → List ℕ) (test : Bool) (x : V) (rest : Option V) (bytes : Option (List ℕ))
    → bytes ≡ option_map value rest
    → cond test (Some (value x)) bytes ≡ option_map value (cond test (Some x) rest)
map-cond value true x rest bytes same = refl
map-cond value false x rest bytes same = same

-- what a map finds under a name is the file of that name
pub named_found : {K V : Type 0} (key : K → List ℕ) (value : V → List ℕ) (name : List ℕ) (es : List (K × V))
    → files_of (named_by key value es) name ≡ option_map value (found key name es)
named_found key value name [] = refl
named_found key value name (e ∷ es) =
    let bytes = files_of (named_by key value es) name in
    ap (λ (test : Bool). cond test (Some (value e.1)) bytes) (sym (is_eq-slice_cmp name (key e.0)))
    ∙ map-cond value (is_eq (slice_cmp nat_cmp name (key e.0))) e.1 (found key name es) bytes
    (named_found key value name es)

module _ {K V : Type 0} (key : K → List ℕ) (value : V → List ℕ) (name bytes : List ℕ)
    (old new : List (K × V)) where
  -- the new map finds these bytes under this name, and under all others what the old one finds
  abbrev pub Updates : Type 0
  Updates = (n : List ℕ)
      → option_map value (found key n new)
      ≡ cond (bytes_eq n name) (Some bytes) (option_map value (found key n old))

  -- then this file is put
  pub named_put : Updates → files_of (named_by key value new) ≡ put (files_of (named_by key value old)) name bytes
  named_put updates =
      let was = λ (n : List ℕ). named_found key value n old in
      let each : (n : List ℕ)
      → files_of (named_by key value new) n ≡ put (files_of (named_by key value old)) name bytes n
      = λ n. named_found key value n new ∙ updates n
      ∙ ap (λ (rest : Option (List ℕ)). cond (bytes_eq n name) (Some bytes) rest) (sym (was n)) in
      λ i n. each n i
