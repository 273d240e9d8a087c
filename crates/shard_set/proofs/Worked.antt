-- Worked answers of several indexes.
use Rattle.std.specs.Prelude.{◌≡◌, ℕ, List, [], ◌∷◌, pos, Some}
use Rattle.std.proofs.Common.{refl}
use Rattle.bcodes.specs.declared.hit.Hit.{Hit}
use Rattle.bcodes.specs.Bits.{differing}
use Rattle.bcodes.specs.Hits.{is_above}
use Rattle.bcodes.specs.Value.{IndexValue, Bare, Flat, Multi}
use Rattle.bcodes.specs.Answers.{looked}
use Rattle.shard_set.specs.Joined.{joined, joined_best, joined_count, joined_hits, joined_looked, joined_within}

abbrev code : ℕ → ℕ → List ℕ
code x y = x ∷ y ∷ []

abbrev hit : ℕ → ℕ → Hit
hit d label = record { distance = d; label = pos label }

abbrev flat : List (List ℕ) → IndexValue
flat cs = Bare (Flat (record { dim = 16; codes = cs }))

abbrev multi : List (List ℕ) → IndexValue
multi cs = Bare (Multi (record { dim = 16; nhash = 2; b = 4; nflip = 0; codes = cs }))

abbrev flats : List IndexValue
flats = flat (code 1 0 ∷ code 0 0 ∷ []) ∷ flat [] ∷ flat (code 0 0 ∷ code 255 255 ∷ []) ∷ []

-- of the first two codes the second has no key of the query, and of the last two the first has none
abbrev multis : List IndexValue
multis = multi (code 1 0 ∷ code 255 0 ∷ []) ∷ multi (code 255 255 ∷ code 0 0 ∷ []) ∷ []

flats_best : joined_best flats (code 0 0) 3 ≡ hit 0 1 ∷ hit 0 2 ∷ hit 1 0 ∷ []
unfolding joined_best joined_hits differing is_above
flats_best = refl

flats_within : joined_within flats (code 0 0) 1 ≡ hit 0 1 ∷ hit 0 2 ∷ []
unfolding joined_within joined_hits differing is_above
flats_within = refl

flats_joined : joined flats ≡ Some (flat (code 1 0 ∷ code 0 0 ∷ code 0 0 ∷ code 255 255 ∷ []))
unfolding joined
flats_joined = refl

multis_best : joined_best multis (code 0 0) 9 ≡ hit 0 3 ∷ hit 1 0 ∷ []
unfolding joined_best joined_hits differing is_above
multis_best = refl

multis_numbers : (joined_looked multis (code 0 0) ≡ 2) × (joined_count multis ≡ 4)
unfolding looked differing
multis_numbers = (refl, refl)
