-- What the Spec of an index tells of its parts.
use Rattle.std.proofs.Common.{◌≡◌, ℕ, Bool, true, false, not, true≢false, Some, refl, sym, ap, ◌∙◌}
use Rattle.bcodes.specs.Value.{IvfValue, Inner, Flat, Ivf, Hash, Multi, IndexValue, Bare, IdMap, inner_of, takes_ids}
use Rattle.bcodes.specs.Settings.{ivf_in_inner, key_bits, key_bits_inner, needs_ids}
use Rattle.factory_text.specs.declared.kind.Kind.{Kind}
use Rattle.factory_text.specs.declared.kind.Kind.TheVariants as kind
use Rattle.factory_text.specs.declared.spec.Spec.{Spec}
use Rattle.any_index.specs.Labels.{finds_labels}
use Rattle.any_index.specs.Specs.{kind_of, spec_of}

-- an IVF of so many lists
pub record IsIvfOf (v : Inner) (lists : ℕ) : Type 0 where
  pub value : IvfValue
  pub is : ivf_in_inner v ≡ Some value
  pub nlist : value.nlist ≡ lists

kind_ivf : (v : Inner) (n : ℕ) → kind_of v ≡ kind.Ivf n → IsIvfOf v n
kind_ivf (Flat v) n e = cc
kind_ivf (Ivf v) n e = record { value = v; is = refl; nlist = cc }
kind_ivf (Hash v) n e = cc
kind_ivf (Multi v) n e = cc

kind_hash : (v : Inner) (b : ℕ) → kind_of v ≡ kind.Hash b → key_bits_inner v ≡ Some b
kind_hash (Flat v) b e = cc
kind_hash (Ivf v) b e = cc
kind_hash (Hash v) b e = cc
kind_hash (Multi v) b e = cc

kind_multi : (v : Inner) (n b : ℕ) → kind_of v ≡ kind.Multi n b → key_bits_inner v ≡ Some b
kind_multi (Flat v) n b e = cc
kind_multi (Ivf v) n b e = cc
kind_multi (Hash v) n b e = cc
kind_multi (Multi v) n b e = cc

kind_is : (v : IndexValue) (s : Spec) (k : Kind) → s ≡ spec_of v → s.kind ≡ k → kind_of (inner_of v) ≡ k
kind_is v s k e same = sym (ap (λ (t : Spec). t.kind) e) ∙ same

pub spec_ivf : (v : IndexValue) (s : Spec) (n : ℕ) → s ≡ spec_of v → s.kind ≡ kind.Ivf n → IsIvfOf (inner_of v) n
spec_ivf v s n e same = kind_ivf (inner_of v) n (kind_is v s (kind.Ivf n) e same)

pub spec_hash : (v : IndexValue) (s : Spec) (b : ℕ) → s ≡ spec_of v → s.kind ≡ kind.Hash b → key_bits v ≡ Some b
spec_hash v s b e same = kind_hash (inner_of v) b (kind_is v s (kind.Hash b) e same)

pub spec_multi : (v : IndexValue) (s : Spec) (n b : ℕ) → s ≡ spec_of v → s.kind ≡ kind.Multi n b
    → key_bits v ≡ Some b
spec_multi v s n b e same = kind_multi (inner_of v) n b (kind_is v s (kind.Multi n b) e same)

-- ---- whether the code of a label is found

not-not : (b : Bool) → not (not b) ≡ b
not-not true = refl
not-not false = refl

bare_finds_ivf : (v : Inner) (n : ℕ) → kind_of v ≡ kind.Ivf n → finds_labels (Bare v) ≡ Some (not (takes_ids (Bare v)))
bare_finds_ivf (Flat v) n e = cc
bare_finds_ivf (Ivf v) n e = ap (λ (b : Bool). Some b) (sym (not-not v.direct))
bare_finds_ivf (Hash v) n e = cc
bare_finds_ivf (Multi v) n e = cc

bare_finds_flat : (v : Inner) → kind_of v ≡ kind.Flat → finds_labels (Bare v) ≡ Some true
bare_finds_flat (Flat v) e = refl
bare_finds_flat (Ivf v) e = cc
bare_finds_flat (Hash v) e = cc
bare_finds_flat (Multi v) e = cc

finds_ivf : (v : IndexValue) (n : ℕ) → needs_ids v ≡ false → kind_of (inner_of v) ≡ kind.Ivf n
    → finds_labels v ≡ Some (not (takes_ids v))
finds_ivf (Bare v) n plain e = bare_finds_ivf v n e
finds_ivf (IdMap name v ids) n plain e = absurd (true≢false plain)

finds_flat : (v : IndexValue) → needs_ids v ≡ false → kind_of (inner_of v) ≡ kind.Flat → finds_labels v ≡ Some true
finds_flat (Bare v) plain e = bare_finds_flat v e
finds_flat (IdMap name v ids) plain e = absurd (true≢false plain)

-- a plain IVF takes no ids exactly where it keeps a direct map
pub spec_finds_ivf : (v : IndexValue) (s : Spec) (n : ℕ) → needs_ids v ≡ false → s ≡ spec_of v → s.kind ≡ kind.Ivf n
    → finds_labels v ≡ Some (not (takes_ids v))
spec_finds_ivf v s n plain e same = finds_ivf v n plain (kind_is v s (kind.Ivf n) e same)

pub spec_finds_flat : (v : IndexValue) (s : Spec) → needs_ids v ≡ false → s ≡ spec_of v → s.kind ≡ kind.Flat
    → finds_labels v ≡ Some true
spec_finds_flat v s plain e same = finds_flat v plain (kind_is v s kind.Flat e same)
