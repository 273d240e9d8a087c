-- Lemmas on the settings of an IVF under outer ids.
use Rattle.std.proofs.Common.{◌≡◌, ℕ, ℤ, true≢false, List, Some, IsSome, refl, sym, ap, ◌∙◌, subst}
use Rattle.bcodes.specs.declared.map_name.MapName.{MapName}
use Rattle.bcodes.specs.Value.{IvfValue, Inner, Flat, Ivf, Hash, Multi, IndexValue, Bare, IdMap, inner_of}
use Rattle.bcodes.specs.Settings.{ivf_in, ivf_in_inner, with_ivf}
use Rattle.bcodes.specs.Answers.{after_centroids, given_inner}
use Rattle.id_map.specs.Inside.{IsMapped}
use Rattle.id_map.specs.Mapped.{MappedValue}

pub ivf_there : (v : Inner) → IsSome (ivf_in_inner v) → (u : IvfValue) × (ivf_in_inner v ≡ Some u)
ivf_there (Flat v) h = absurd (true≢false (sym h))
ivf_there (Ivf v) h = (v, refl)
ivf_there (Hash v) h = absurd (true≢false (sym h))
ivf_there (Multi v) h = absurd (true≢false (sym h))

-- what is seen of the fields
abbrev pub seen : MapName → IndexValue → List ℤ → MappedValue
seen name v ids = record { name = name; inner = inner_of v; ids = ids }

pub ivf_inside : (name : MapName) (v : IndexValue) (ids : List ℤ) (m : MappedValue) (u : IvfValue)
    → seen name v ids ≡ m → ivf_in_inner m.inner ≡ Some u → ivf_in v ≡ Some u
ivf_inside name v ids m u is e = subst (λ (n : MappedValue). ivf_in_inner n.inner ≡ Some u) (sym is) e

-- the value inside after a change, and the ids that it goes with
pub record IsChanged (w : IndexValue) (to : Inner) (ids : List ℤ) : Type 0 where
  pub is : w ≡ Bare to
  pub kept : IsMapped w ids

pub changed_seen : (name : MapName) (v w : IndexValue) (ids : List ℤ) (to : Inner) (m : MappedValue)
    → seen name v ids ≡ m → w ≡ Bare to → seen name w ids ≡ record m { inner = to }
changed_seen name v w ids to m was is =
    ap (λ (u : IndexValue). seen name u ids) is ∙ ap (λ (n : MappedValue). record n { inner = to }) was

some_same : (v w : IvfValue) → Some v ≡ Some w → v ≡ w
some_same v w e = cc

set_ivf : (u x : IvfValue) (ids : List ℤ) → IsMapped (Bare (Ivf u)) ids → x.rows ≡ u.rows → IsMapped (Bare (Ivf x)) ids
set_ivf u x ids kept same = record {
  bare = refl;
  count = rw same kept.count;
  fit = kept.fit;
  labels = rw same kept.labels;
}

-- a setting leaves the rows
pub set_kept : (v w : IndexValue) (ids : List ℤ) (u x : IvfValue) → IsMapped v ids → ivf_in v ≡ Some u
    → x.rows ≡ u.rows → w ≡ with_ivf x v → IsChanged w (Ivf x) ids
set_kept (Bare (Flat v)) w ids u x kept there same is = cc
set_kept (Bare (Ivf v)) w ids u x kept there same is =
    let rows : x.rows ≡ v.rows = same ∙ ap (λ (y : IvfValue). y.rows) (sym (some_same v u there)) in
    record {
      is = is;
      kept = subst (λ (y : IndexValue). IsMapped y ids) (sym is) (set_ivf v x ids kept rows);
    }
set_kept (Bare (Hash v)) w ids u x kept there same is = cc
set_kept (Bare (Multi v)) w ids u x kept there same is = cc
set_kept (IdMap name v old) w ids u x kept there same is = absurd (true≢false kept.bare)

given_inner_kept : (v : Inner) (ids : List ℤ) (cs : List (List ℕ)) → IsMapped (Bare v) ids
    → IsMapped (Bare (given_inner v cs)) ids
given_inner_kept (Flat v) ids cs kept = kept
given_inner_kept (Ivf v) ids cs kept = record {
  bare = refl;
  count = kept.count;
  fit = kept.fit;
  labels = kept.labels;
}
given_inner_kept (Hash v) ids cs kept = kept
given_inner_kept (Multi v) ids cs kept = kept

pub after_centroids_bare : (v : Inner) (cs : List (List ℕ)) → after_centroids (Bare v) cs ≡ Bare (given_inner v cs)
unfolding after_centroids
after_centroids_bare v cs = refl

pub given_kept : (v w : IndexValue) (ids : List ℤ) (cs : List (List ℕ)) → IsMapped v ids → w ≡ after_centroids v cs
    → IsChanged w (given_inner (inner_of v) cs) ids
given_kept (Bare v) w ids cs kept is =
    let e : w ≡ Bare (given_inner v cs) = is ∙ after_centroids_bare v cs in
    record { is = e; kept = subst (λ (y : IndexValue). IsMapped y ids) (sym e) (given_inner_kept v ids cs kept) }
given_kept (IdMap name v old) w ids cs kept is = absurd (true≢false kept.bare)
