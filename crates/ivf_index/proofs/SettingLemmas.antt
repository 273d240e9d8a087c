-- Lemmas on the settings of an IVF.
use Rattle.std.proofs.Common.{◌≡◌, ◌+◌, ◌≤◌, ◌++◌, ℕ, List, length, Some, refl}
use Rattle.std.proofs.Common.{subst, length-append}
use Rattle.bcodes.specs.Ranges.{load_limit}
use Rattle.bcodes.specs.Value.{IvfValue, Ivf, Bare, weight, load_of}
use Rattle.bcodes.specs.Answers.{after_centroids}

pub some_same : (v w : IvfValue) → Some v ≡ Some w → v ≡ w
some_same v w e = cc

pub after_centroids_ivf : (v : IvfValue) (cs : List (List ℕ))
    → after_centroids (Bare (Ivf v)) cs ≡ Bare (Ivf (record v { centroids = v.centroids ++ cs }))
unfolding after_centroids
after_centroids_ivf v cs = refl

pub load_given : (v : IvfValue) (cs : List (List ℕ)) → load_of (after_centroids (Bare (Ivf v)) cs) ≤ load_limit
    → weight v.dim 0 (length v.rows) (length v.centroids + length cs) ≤ load_limit
load_given v cs h =
    subst (λ (n : ℕ). weight v.dim 0 (length v.rows) n ≤ load_limit) (length-append v.centroids cs)
    (rw (after_centroids_ivf v cs) at h)
