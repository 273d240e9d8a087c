-- The next hit of a merge.
use Rattle.std.specs.Prelude.{◌≡◌, ◌<◌, List, ◌∷◌, ◌++◌, length, drop, slice_index_or}
use Rattle.bcodes.specs.declared.hit.Hit.{Hit}
use Rattle.bcodes.specs.Hits.{in_order}

-- the first of some hits is the first of all
pub record IsNext (hits others : List Hit) : Type 0 where
  pub some : 0 < length hits
  pub first : (h : Hit) → in_order (hits ++ others) ≡ slice_index_or hits 0 h ∷ in_order (drop 1 hits ++ others)
