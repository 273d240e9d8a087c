-- Names of files in one folder.
use Rattle.std.specs.Prelude.{ℕ, Bool, false, not, ◌&&◌, ◌==◌, List, [], ◌∷◌}
use Rattle.std.specs.List.{list_any}

-- the name of a file that stands in the folder itself and is not hidden: it is not empty, does not begin with a dot
-- and has no slash
abbrev pub stays_inside : List ℕ → Bool
stays_inside [] = false
stays_inside (first ∷ rest) = not (first == 46) && not (list_any (λ byte. byte == 47) (first ∷ rest))
