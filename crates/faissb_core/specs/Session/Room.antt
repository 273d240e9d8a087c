-- Whether an index may take more codes.
use Rattle.std.specs.Prelude.{◌≡◌, ◌≤◌, ℕ, ℤ, List, length, Err, IsTrue}
use Rattle.bcodes.specs.Ranges.{load_limit}
use Rattle.bcodes.specs.Value.{IndexValue, dim_of, is_trained, load_of, weight}
use Rattle.bcodes.specs.Answers.{after_add}
use Rattle.any_index.specs.Specs.{spec_of, maps_of}
use Rattle.faissb_core.specs.declared.reply.refusal.Refusal.{Refusal}
use Rattle.faissb_core.specs.Machine.Adding.{append}

-- what an index of so many rows and centroids weighs
abbrev pub load_with : IndexValue → ℕ → ℕ → ℕ
load_with v rows centroids = weight (dim_of v) (maps_of (spec_of v).kind) rows centroids

-- so many codes more may be added, under any labels
pub record HasRoom (v : IndexValue) (more : ℕ) : Type 0 where
  pub trained : IsTrue (is_trained v)
  pub light : (labels : List ℤ) (added : List (List ℕ)) → length labels ≡ length added → length added ≡ more
      → load_of (after_add v labels added) ≤ load_limit

-- an add of so many codes is refused
abbrev pub LacksRoom : IndexValue → ℕ → Refusal → Type 0
LacksRoom v more refusal = (labels : List ℤ) (added : List (List ℕ)) → length labels ≡ length added
    → length added ≡ more → append labels added v ≡ Err refusal
