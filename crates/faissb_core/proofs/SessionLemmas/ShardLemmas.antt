-- The shards of a session.
use Rattle.std.proofs.Common.{◌≡◌, ◌+◌, ◌*◌, ◌/◌, ◌^◌, ◌<◌, ◌≤◌, ◌&&◌, ℕ, Bool, true, false, eqb, nat_le, nat_eq, sum_by, get_or}
use Rattle.std.proofs.Common.{List, [], ◌∷◌, ◌++◌, length, Option, Some, None, Ok, Err, refl, sym, ap, ◌∙◌, subst, arith}
use Rattle.std.proofs.Common.{is_some, inl, inr, true≢false}
use Rattle.std.proofs.lemmas.List.Sums.{sum_by-cons}
use Rattle.std.proofs.Math.Nat.{mul-div_cancel_left}
use Rattle.std.specs.List.{All, list_all}
use Rattle.std.proofs.lemmas.Bool.{eq-eqb, eqb-true, ne_eqb, le-leb, lt-leb}
use Rattle.std.proofs.lemmas.Bool.Decides.{eqb_tells}
use Rattle.std.proofs.lemmas.List.Elements.{All-nil, All-cons, All-head}
use Rattle.bcodes.specs.Ranges.{raised}
use Rattle.bcodes.specs.declared.map_name.MapName.{MapName}
use Rattle.bcodes.specs.declared.map_name.MapName.TheVariants as name
use Rattle.bcodes.specs.Value.{Flat, Ivf, Hash, Multi, CodeList, IvfValue, HashValue, MultiValue, IndexValue, Bare, IdMap, IsLegal, code_size, count_of}
use Rattle.bcodes.specs.Value.{Row, IsPlace, dim_of, load_of, rows_of, weight}
use Rattle.bcodes.specs.Answers.{bound_of}
use Rattle.bcodes.specs.Marks.{AreNumbers, range_mark, search_mark}
use Rattle.bcodes.proofs.LegalLemmas.{looked-le}
use Rattle.shard_set.specs.Joined.{are_alike, is_alike, joined, joined_best, joined_count, joined_looked, joined_within}
use Rattle.shard_set.proofs.AlikeLemmas.{are_alike_push, both_true, numbered_places}
use Rattle.shard_set.proofs.LawLemmas.{joined_dim, joined_none, joined_numbers, joined_some}
use Rattle.factory_text.specs.declared.kind.Kind.TheVariants as kind
use Rattle.factory_text.specs.declared.spec.Spec.{Spec}
use Rattle.factory_text.specs.declared.prefix.Prefix.TheVariants as prefix
use Rattle.any_index.specs.Specs.{prefix_of, prefix_of_name, spec_of}
use Rattle.outside.specs.Contents.{Files}
use Rattle.faissb_core.specs.declared.reply.refusal.Refusal.TheVariants.{Kind, Load, Mismatch, NoIndex, Value}
use Rattle.faissb_core.specs.declared.session.halt.Halt.{Halt}
use Rattle.faissb_core.specs.declared.session.halt.Halt.TheVariants.{Refused, Memory}
use Rattle.faissb_core.specs.Language.Words.{Word}
use Rattle.faissb_core.specs.Language.Command.{Shard}
use Rattle.faissb_core.specs.Reply.Answer.{Found, Sharded}
use Rattle.faissb_core.specs.Machine.Checked.{is_within}
use Rattle.faissb_core.specs.Machine.State.{code_of, leaves}
use Rattle.faissb_core.specs.Machine.Step.{command_outcome}
use Rattle.faissb_core.specs.Machine.Queries.{k_limit, radius_limit}
use Rattle.faissb_core.specs.Machine.Shards.{may_be_shard, shard_limit, shard_range, shard_search, with_shard}
use Rattle.faissb_core.specs.Session.Results.{Refuses}
use Rattle.faissb_core.specs.Session.Shards.{AreGrouped}
use Rattle.faissb_core.proofs.SessionLemmas.LegalLemmas.{alike_to_itself}
use Rattle.faissb_core.proofs.SessionLemmas.OutcomeLemmas.{holding}

-- ---- weights

-- an index weighs more than its rows
count-le-load : (v : IndexValue) → may_be_shard v ≡ true → count_of v ≤ load_of v
count-le-load (Bare (Flat v)) is =
    let more : length v.codes * 1 ≤ length v.codes * (v.dim / 8 + 16 + 64 * 0) = grind arith in
    omega (arith, more)
count-le-load (Bare (Multi v)) is =
    let more : length v.codes * 1 ≤ length v.codes * (v.dim / 8 + 16 + 64 * v.nhash) = grind arith in
    omega (arith, more)
count-le-load (Bare (Ivf v)) is = absurd cc
count-le-load (Bare (Hash v)) is = absurd cc
count-le-load (IdMap name v ids) is = absurd cc

-- what is alike to a shard may be one
shard_if_alike : (v w : IndexValue) → is_alike v w ≡ true → may_be_shard w ≡ true
shard_if_alike (Bare (Flat v)) (Bare (Flat w)) is = refl
shard_if_alike (Bare (Flat v)) (Bare (Ivf w)) is = absurd cc
shard_if_alike (Bare (Flat v)) (Bare (Hash w)) is = absurd cc
shard_if_alike (Bare (Flat v)) (Bare (Multi w)) is = absurd cc
shard_if_alike (Bare (Flat v)) (IdMap name w ids) is = absurd cc
shard_if_alike (Bare (Multi v)) (Bare (Flat w)) is = absurd cc
shard_if_alike (Bare (Multi v)) (Bare (Ivf w)) is = absurd cc
shard_if_alike (Bare (Multi v)) (Bare (Hash w)) is = absurd cc
shard_if_alike (Bare (Multi v)) (Bare (Multi w)) is = refl
shard_if_alike (Bare (Multi v)) (IdMap name w ids) is = absurd cc
shard_if_alike (Bare (Ivf v)) (Bare w) is = absurd cc
shard_if_alike (Bare (Ivf v)) (IdMap name w ids) is = absurd cc
shard_if_alike (Bare (Hash v)) (Bare w) is = absurd cc
shard_if_alike (Bare (Hash v)) (IdMap name w ids) is = absurd cc
shard_if_alike (IdMap name v ids) w is = absurd cc

-- so is the other
first_if_alike : (v w : IndexValue) → is_alike v w ≡ true → may_be_shard v ≡ true
first_if_alike (Bare (Flat v)) w is = refl
first_if_alike (Bare (Multi v)) w is = refl
first_if_alike (Bare (Ivf v)) (Bare w) is = absurd cc
first_if_alike (Bare (Ivf v)) (IdMap name w ids) is = absurd cc
first_if_alike (Bare (Hash v)) (Bare w) is = absurd cc
first_if_alike (Bare (Hash v)) (IdMap name w ids) is = absurd cc
first_if_alike (IdMap name v ids) w is = absurd cc

no_list_shard : (v : IvfValue) (w : IndexValue) → is_alike (Bare (Ivf v)) w ≡ true → ⊥
no_list_shard v w is = true≢false (sym (first_if_alike (Bare (Ivf v)) w is))

no_hash_shard : (v : HashValue) (w : IndexValue) → is_alike (Bare (Hash v)) w ≡ true → ⊥
no_hash_shard v w is = true≢false (sym (first_if_alike (Bare (Hash v)) w is))

counts-le : (u : IndexValue) (vs : List IndexValue) → list_all (is_alike u) vs ≡ true → joined_count vs ≤ sum_by load_of vs
counts-le u [] alike = omega arith
counts-le u (v ∷ vs) alike =
    let p = both_true (is_alike u v) (list_all (is_alike u) vs) alike in
    omega (
      arith,
      count-le-load v (shard_if_alike u v p.0),
      counts-le u vs p.1,
      sum_by-cons count_of v vs,
      sum_by-cons load_of v vs,
    )

pub few_codes : (vs : List IndexValue) → are_alike vs ≡ true → joined_count vs ≤ sum_by load_of vs
few_codes [] alike = omega arith
few_codes (v ∷ vs) alike = counts-le v (v ∷ vs) alike

sum-push : (vs : List IndexValue) (v : IndexValue) → sum_by load_of (vs ++ v ∷ []) ≡ sum_by load_of vs + load_of v
sum-push [] v = omega arith
sum-push (w ∷ vs) v =
    omega (arith, sum-push vs v, sum_by-cons load_of w vs, sum_by-cons load_of w (vs ++ v ∷ []))

count-push : (vs : List IndexValue) (v : IndexValue) → joined_count (vs ++ v ∷ []) ≡ joined_count vs + count_of v
count-push [] v = omega arith
count-push (w ∷ vs) v =
    omega (arith, count-push vs v, sum_by-cons count_of w vs, sum_by-cons count_of w (vs ++ v ∷ []))

-- one more is not too many
pub few_with : (vs : List IndexValue) (v : IndexValue) → are_alike vs ≡ true → may_be_shard v ≡ true
    → sum_by load_of vs + load_of v ≤ shard_limit → joined_count vs + count_of v < 2 ^ 31
few_with vs v alike may light = omega (arith, few_codes vs alike, count-le-load v may)

-- after room was made for it
pub few_pushed : (vs ws : List IndexValue) (v w : IndexValue) (weight : ℕ) → AreGrouped (vs ++ v ∷ []) weight → ws ≡ vs
    → w ≡ v → joined_count ws + count_of w < 2 ^ 31
few_pushed vs ws v w weight grouped same is =
    rw (same, is)
    (omega (arith, few_codes (vs ++ v ∷ []) grouped.alike, grouped.load, grouped.light, count-push vs v))

-- ---- alike to the first

record IsFlatOf (dim : ℕ) (w : IndexValue) : Type 0 where
  value : CodeList
  is : w ≡ Bare (Flat value)
  same : dim ≡ value.dim

flat_alike : (v : CodeList) (w : IndexValue) → is_alike (Bare (Flat v)) w ≡ true → IsFlatOf v.dim w
flat_alike v (Bare (Flat w)) is = record { value = w; is = refl; same = eqb-true v.dim w.dim is }
flat_alike v (Bare (Ivf w)) is = absurd cc
flat_alike v (Bare (Hash w)) is = absurd cc
flat_alike v (Bare (Multi w)) is = absurd cc
flat_alike v (IdMap name w ids) is = absurd cc

record IsMultiOf (v : MultiValue) (w : IndexValue) : Type 0 where
  value : MultiValue
  is : w ≡ Bare (Multi value)
  dim : v.dim ≡ value.dim
  nhash : v.nhash ≡ value.nhash
  b : v.b ≡ value.b
  nflip : v.nflip ≡ value.nflip

multi_alike : (v : MultiValue) (w : IndexValue) → is_alike (Bare (Multi v)) w ≡ true → IsMultiOf v w
multi_alike v (Bare (Multi w)) is =
    let f = both_true ((eqb v.dim w.dim && eqb v.nhash w.nhash) && eqb v.b w.b) (eqb v.nflip w.nflip) is in
    let b = both_true (eqb v.dim w.dim && eqb v.nhash w.nhash) (eqb v.b w.b) f.0 in
    let n = both_true (eqb v.dim w.dim) (eqb v.nhash w.nhash) b.0 in
    record {
      value = w;
      is = refl;
      dim = eqb-true v.dim w.dim n.0;
      nhash = eqb-true v.nhash w.nhash n.1;
      b = eqb-true v.b w.b b.1;
      nflip = eqb-true v.nflip w.nflip f.1;
    }
multi_alike v (Bare (Flat w)) is = absurd cc
multi_alike v (Bare (Ivf w)) is = absurd cc
multi_alike v (Bare (Hash w)) is = absurd cc
multi_alike v (IdMap name w ids) is = absurd cc

same_numbers : (v w : MultiValue) → v.dim ≡ w.dim → v.nhash ≡ w.nhash → v.b ≡ w.b → v.nflip ≡ w.nflip
    → is_alike (Bare (Multi v)) (Bare (Multi w)) ≡ true
same_numbers v w d n b f = rw (
  eq-eqb v.dim w.dim d,
  eq-eqb v.nhash w.nhash n,
  eq-eqb v.b w.b b,
  eq-eqb v.nflip w.nflip f,
) refl

alike_over : (v w u : IndexValue) → is_alike v w ≡ true → is_alike w u ≡ true → is_alike v u ≡ true
alike_over (Bare (Flat v)) w u first second =
    let a = flat_alike v w first in
    let b = flat_alike a.value u (rw a.is at second) in
    rw b.is (eq-eqb v.dim b.value.dim (a.same ∙ b.same))
alike_over (Bare (Multi v)) w u first second =
    let a = multi_alike v w first in
    let b = multi_alike a.value u (rw a.is at second) in
    rw b.is (same_numbers v b.value (a.dim ∙ b.dim) (a.nhash ∙ b.nhash) (a.b ∙ b.b) (a.nflip ∙ b.nflip))
alike_over (Bare (Ivf v)) w u first second = absurd (no_list_shard v w first)
alike_over (Bare (Hash v)) w u first second = absurd (no_hash_shard v w first)
alike_over (IdMap name v ids) w u first second = absurd cc

alike_to_each : (v w : IndexValue) (vs : List IndexValue) → is_alike v w ≡ true → list_all (is_alike w) vs ≡ true
    → list_all (is_alike v) vs ≡ true
alike_to_each v w [] to each = refl
alike_to_each v w (u ∷ vs) to each =
    let p = both_true (is_alike w u) (list_all (is_alike w) vs) each in
    rw (alike_over v w u to p.0, alike_to_each v w vs to p.1) refl

decided : (v w : IndexValue) (vs : List IndexValue) (test : Bool) → is_alike v w ≡ test → are_alike (w ∷ vs) ≡ true
    → list_all (is_alike v) (w ∷ vs) ≡ test
decided v w vs true is alike = alike_to_each v w (w ∷ vs) is alike
decided v w vs false is alike = rw is refl

-- an index is alike to all shards where it is to the first
pub first_decides : (v w : IndexValue) (vs : List IndexValue) → are_alike vs ≡ true → 0 < length vs
    → w ≡ get_or vs 0 w → list_all (is_alike v) vs ≡ is_alike v w
first_decides v w [] alike some is = absurd (omega arith)
first_decides v w (u ∷ vs) alike some is =
    decided v u vs (is_alike v u) refl alike ∙ ap (is_alike v) (sym is)

cancelled : (n f g : ℕ) → 1 ≤ n → n * (f + 1) ≡ n * (g + 1) → f ≡ g
cancelled n f g some is =
    let next : f + 1 ≡ g + 1 =
    sym (mul-div_cancel_left (f + 1) {n = n} some) ∙ ap (λ (m : ℕ). m / n) is ∙ mul-div_cancel_left (g + 1) {n = n} some in
    omega (arith, next)

same_bound : (n f g : ℕ) → 1 ≤ n → eqb (n * (f + 1)) (n * (g + 1)) ≡ eqb f g
same_bound n f g some =
    elim (eqb_tells f g) [
      | inl e ↦ eq-eqb (n * (f + 1)) (n * (g + 1)) (ap (λ (x : ℕ). n * (x + 1)) e.1) ∙ sym e.0
      | inr e ↦ ne_eqb (n * (f + 1)) (n * (g + 1)) (λ is. e.1 (cancelled n f g some is)) ∙ sym e.0
    ]

other_prefix : (name : MapName) → prefix.Plain ≡ prefix_of_name name → ⊥
other_prefix name.Map is = cc
other_prefix name.Map2 is = cc

same_prefix : (v w : IndexValue) → spec_of v ≡ spec_of w → prefix_of v ≡ prefix_of w
same_prefix v w is = ap (λ (s : Spec). s.prefix) is

same_kind : (v w : IndexValue) → spec_of v ≡ spec_of w → (spec_of v).kind ≡ (spec_of w).kind
same_kind v w is = ap (λ (s : Spec). s.kind) is

multi_decides : (v w : MultiValue) → v.dim ≡ w.dim → v.nhash ≡ w.nhash → v.b ≡ w.b → 1 ≤ v.nhash
    → eqb (v.nhash * (v.nflip + 1)) (w.nhash * (w.nflip + 1)) ≡ is_alike (Bare (Multi v)) (Bare (Multi w))
multi_decides v w d n b some =
    ap (λ (m : ℕ). eqb (v.nhash * (v.nflip + 1)) (m * (w.nflip + 1))) (sym n)
    ∙ same_bound v.nhash v.nflip w.nflip some
    ∙ sym (rw (eq-eqb v.dim w.dim d, eq-eqb v.nhash w.nhash n, eq-eqb v.b w.b b) refl)

-- indexes by one Spec are alike where their codes have one size and their bounds agree
pub alike_by_bound : (v w : IndexValue) → may_be_shard v ≡ true → IsLegal v → spec_of v ≡ spec_of w → dim_of v ≡ dim_of w
    → eqb (bound_of v) (bound_of w) ≡ is_alike v w
alike_by_bound (Bare (Flat v)) (Bare (Flat w)) may legal spec dim = sym (eq-eqb v.dim w.dim dim)
alike_by_bound (Bare (Flat v)) (Bare (Ivf w)) may legal spec dim =
    let other = same_kind (Bare (Flat v)) (Bare (Ivf w)) spec in absurd cc
alike_by_bound (Bare (Flat v)) (Bare (Hash w)) may legal spec dim =
    let other = same_kind (Bare (Flat v)) (Bare (Hash w)) spec in absurd cc
alike_by_bound (Bare (Flat v)) (Bare (Multi w)) may legal spec dim =
    let other = same_kind (Bare (Flat v)) (Bare (Multi w)) spec in absurd cc
alike_by_bound (Bare (Flat v)) (IdMap name w ids) may legal spec dim =
    absurd (other_prefix name (same_prefix (Bare (Flat v)) (IdMap name w ids) spec))
alike_by_bound (Bare (Multi v)) (Bare (Flat w)) may legal spec dim =
    let other = same_kind (Bare (Multi v)) (Bare (Flat w)) spec in absurd cc
alike_by_bound (Bare (Multi v)) (Bare (Ivf w)) may legal spec dim =
    let other = same_kind (Bare (Multi v)) (Bare (Ivf w)) spec in absurd cc
alike_by_bound (Bare (Multi v)) (Bare (Hash w)) may legal spec dim =
    let other = same_kind (Bare (Multi v)) (Bare (Hash w)) spec in absurd cc
alike_by_bound (Bare (Multi v)) (Bare (Multi w)) may legal spec dim =
    let kinds : kind.Multi v.nhash v.b ≡ kind.Multi w.nhash w.b = same_kind (Bare (Multi v)) (Bare (Multi w)) spec in
    let n : v.nhash ≡ w.nhash = cc in
    let b : v.b ≡ w.b = cc in
    multi_decides v w dim n b legal.nhash_least
alike_by_bound (Bare (Multi v)) (IdMap name w ids) may legal spec dim =
    absurd (other_prefix name (same_prefix (Bare (Multi v)) (IdMap name w ids) spec))
alike_by_bound (Bare (Ivf v)) w may legal spec dim = absurd cc
alike_by_bound (Bare (Hash v)) w may legal spec dim = absurd cc
alike_by_bound (IdMap name v ids) w may legal spec dim = absurd cc

-- of two indexes that are alike the Specs and the sizes of the codes agree
pub alike_spec : (v w : IndexValue) → is_alike v w ≡ true → spec_of v ≡ spec_of w
alike_spec (Bare (Flat v)) w is = rw (flat_alike v w is).is refl
alike_spec (Bare (Multi v)) w is =
    let m = multi_alike v w is in
    rw m.is (ap (λ (n : ℕ). spec_of (Bare (Multi (record v { nhash = n })))) m.nhash
    ∙ ap (λ (n : ℕ). spec_of (Bare (Multi (record v { nhash = m.value.nhash; b = n })))) m.b)
alike_spec (Bare (Ivf v)) w is = absurd (no_list_shard v w is)
alike_spec (Bare (Hash v)) w is = absurd (no_hash_shard v w is)
alike_spec (IdMap name v ids) w is = absurd cc

pub alike_dim : (v w : IndexValue) → is_alike v w ≡ true → dim_of v ≡ dim_of w
alike_dim (Bare (Flat v)) w is = let f = flat_alike v w is in rw f.is f.same
alike_dim (Bare (Multi v)) w is = let m = multi_alike v w is in rw m.is m.dim
alike_dim (Bare (Ivf v)) w is = absurd (no_list_shard v w is)
alike_dim (Bare (Hash v)) w is = absurd (no_hash_shard v w is)
alike_dim (IdMap name v ids) w is = absurd cc

not_alike : (test : Bool) (P : Type 0) → (test ≡ true → P) → (P → ⊥) → test ≡ false
not_alike true P gives none = absurd (none (gives refl))
not_alike false P gives none = refl

pub other_spec : (v w : IndexValue) → (spec_of v ≡ spec_of w → ⊥) → is_alike v w ≡ false
other_spec v w other = not_alike (is_alike v w) (spec_of v ≡ spec_of w) (alike_spec v w) other

pub other_dim : (v w : IndexValue) → (dim_of v ≡ dim_of w → ⊥) → is_alike v w ≡ false
other_dim v w other = not_alike (is_alike v w) (dim_of v ≡ dim_of w) (alike_dim v w) other

-- all shards have the size of one that is alike to them
pub dims_alike : (v : IndexValue) (vs : List IndexValue) → list_all (is_alike v) vs ≡ true
    → All (λ (w : IndexValue). dim_of w ≡ dim_of v) vs
dims_alike v [] alike = All-nil (λ (w : IndexValue). dim_of w ≡ dim_of v)
dims_alike v (w ∷ vs) alike =
    let p = both_true (is_alike v w) (list_all (is_alike v) vs) alike in
    All-cons (λ (w : IndexValue). dim_of w ≡ dim_of v) w vs (sym (alike_dim v w p.0)) (dims_alike v vs p.1)

pub one_dim : (d e : ℕ) (vs : List IndexValue) → 0 < length vs → All (λ (v : IndexValue). dim_of v ≡ d) vs
    → All (λ (v : IndexValue). dim_of v ≡ e) vs → e ≡ d
one_dim d e [] some first second = absurd (omega arith)
one_dim d e (v ∷ vs) some first second =
    sym (All-head (λ (v : IndexValue). dim_of v ≡ e) v vs second) ∙ All-head (λ (v : IndexValue). dim_of v ≡ d) v vs first

-- ---- one more shard

pub refused_kind : (vs : List IndexValue) (v : IndexValue) → may_be_shard v ≡ false → with_shard vs v ≡ Err Kind
refused_kind vs v may = rw may refl

pub refused_load : (vs : List IndexValue) (v : IndexValue) → may_be_shard v ≡ true
    → shard_limit < sum_by load_of vs + load_of v → with_shard vs v ≡ Err Load
refused_load vs v may heavy =
    let test : nat_le (sum_by load_of (vs ++ v ∷ [])) shard_limit ≡ false =
    lt-leb (sum_by load_of (vs ++ v ∷ [])) shard_limit (omega (arith, sum-push vs v, heavy)) in
    rw (may, test) refl

pub refused_mismatch : (vs : List IndexValue) (v : IndexValue) → may_be_shard v ≡ true
    → sum_by load_of vs + load_of v ≤ shard_limit → list_all (is_alike v) vs ≡ false → with_shard vs v ≡ Err Mismatch
refused_mismatch vs v may light other =
    let test : nat_le (sum_by load_of (vs ++ v ∷ [])) shard_limit ≡ true =
    le-leb (sum_by load_of (vs ++ v ∷ [])) shard_limit (omega (arith, sum-push vs v, light)) in
    rw (may, test, other) refl

pub accepted : (vs : List IndexValue) (v : IndexValue) → may_be_shard v ≡ true
    → sum_by load_of vs + load_of v ≤ shard_limit → list_all (is_alike v) vs ≡ true
    → with_shard vs v ≡ Ok (vs ++ v ∷ [])
accepted vs v may light alike =
    let test : nat_le (sum_by load_of (vs ++ v ∷ [])) shard_limit ≡ true =
    le-leb (sum_by load_of (vs ++ v ∷ [])) shard_limit (omega (arith, sum-push vs v, light)) in
    rw (may, test, alike) refl

pub grouped_with : (vs : List IndexValue) (v : IndexValue) (held weight : ℕ) → AreGrouped vs held → may_be_shard v ≡ true
    → weight ≡ held + load_of v → weight ≤ shard_limit → list_all (is_alike v) vs ≡ true
    → AreGrouped (vs ++ v ∷ []) weight
grouped_with vs v held weight grouped may is light alike = record {
  alike = are_alike_push vs v grouped.alike (alike_to_itself v may) alike;
  load = omega (arith, is, grouped.load, sum-push vs v);
  light = light;
}

-- ---- queries

pub record IsJoined (vs : List IndexValue) (dim : ℕ) : Type 0 where
  pub value : IndexValue
  pub is : joined vs ≡ Some value
  pub size : code_size value ≡ dim / 8

some_value : (found : Option IndexValue) → is_some found ≡ true → (v : IndexValue) × (found ≡ Some v)
some_value (Some v) is = (v, refl)
some_value None is = absurd cc

pub joined_here : (vs : List IndexValue) (dim : ℕ) → 0 < length vs → All (λ (v : IndexValue). dim_of v ≡ dim) vs
    → IsJoined vs dim
joined_here [] dim some dims = absurd (omega arith)
joined_here (w ∷ vs) dim some dims =
    let found = some_value (joined (w ∷ vs)) (joined_some w vs) in
    record {
      value = found.0;
      is = found.1;
      size = ap (λ (d : ℕ). d / 8)
          (joined_dim w vs found.0 found.1 ∙ All-head (λ (v : IndexValue). dim_of v ≡ dim) w vs dims);
    }

pub numbers_joined : (vs : List IndexValue) (v w : IndexValue) (q : List ℕ) → are_alike vs ≡ true → joined vs ≡ Some v
    → 0 < length vs → w ≡ get_or vs 0 w
    → AreNumbers v q (joined_looked vs q) 0 (joined_count vs) (bound_of w)
numbers_joined [] v w q alike is some first = absurd (omega arith)
numbers_joined (u ∷ vs) v w q alike is some first =
    subst (λ (b : ℕ). AreNumbers v q (joined_looked (u ∷ vs) q) 0 (joined_count (u ∷ vs)) b) (ap bound_of (sym first))
    (joined_numbers u vs v q alike is)

-- a meter that began at 0 holds what was looked at
pub looked_joined : (vs : List IndexValue) (v w : IndexValue) (q : List ℕ) (new : ℕ)
    → AreNumbers v q (joined_looked vs q) 0 (joined_count vs) (bound_of w) → joined_count vs < 2 ^ 31
    → new ≡ raised 0 (joined_looked vs q) → new ≡ joined_looked vs q
looked_joined vs v w q new numbers few is =
    omega (arith, is, numbers.lent, numbers.count, numbers.fixed, looked-le v q, few)

pub search_refused : (k : ℕ) (word : Word) (vs : List IndexValue) (v : IndexValue) (size : ℕ) (halt : Halt)
    → joined vs ≡ Some v → code_size v ≡ size → Refuses (code_of size word) halt
    → Refuses (shard_search k word vs) halt
search_refused k word vs v size (Refused r) is same read =
    let read_is : code_of (code_size v) word ≡ Err r = ap (λ (n : ℕ). code_of n word) same ∙ read in
    rw (is, read_is) refl
search_refused k word vs v size Memory is same read = tt

pub search_value : (k : ℕ) (word : Word) (vs : List IndexValue) (v : IndexValue) (size : ℕ) (q : List ℕ)
    → joined vs ≡ Some v → code_size v ≡ size → code_of size word ≡ Ok q → is_within 1 k_limit k ≡ false
    → shard_search k word vs ≡ Err Value
search_value k word vs v size q is same read out =
    let read_is : code_of (code_size v) word ≡ Ok q = ap (λ (n : ℕ). code_of n word) same ∙ read in
    rw (is, read_is, out) refl

pub search_found : (k : ℕ) (word : Word) (vs : List IndexValue) (v : IndexValue) (size : ℕ) (q : List ℕ)
    → joined vs ≡ Some v → code_size v ≡ size → code_of size word ≡ Ok q → is_within 1 k_limit k ≡ true
    → shard_search k word vs ≡ Ok (Found (joined_best vs q k) (joined_looked vs q) (search_mark v q k))
search_found k word vs v size q is same read within =
    let read_is : code_of (code_size v) word ≡ Ok q = ap (λ (n : ℕ). code_of n word) same ∙ read in
    rw (is, read_is, within) refl

pub range_refused : (radius : ℕ) (word : Word) (vs : List IndexValue) (v : IndexValue) (size : ℕ) (halt : Halt)
    → joined vs ≡ Some v → code_size v ≡ size → Refuses (code_of size word) halt
    → Refuses (shard_range radius word vs) halt
range_refused radius word vs v size (Refused r) is same read =
    let read_is : code_of (code_size v) word ≡ Err r = ap (λ (n : ℕ). code_of n word) same ∙ read in
    rw (is, read_is) refl
range_refused radius word vs v size Memory is same read = tt

pub range_value : (radius : ℕ) (word : Word) (vs : List IndexValue) (v : IndexValue) (size : ℕ) (q : List ℕ)
    → joined vs ≡ Some v → code_size v ≡ size → code_of size word ≡ Ok q → nat_le radius radius_limit ≡ false
    → shard_range radius word vs ≡ Err Value
range_value radius word vs v size q is same read out =
    let read_is : code_of (code_size v) word ≡ Ok q = ap (λ (n : ℕ). code_of n word) same ∙ read in
    rw (is, read_is, out) refl

pub range_found : (radius : ℕ) (word : Word) (vs : List IndexValue) (v : IndexValue) (size : ℕ) (q : List ℕ)
    → joined vs ≡ Some v → code_size v ≡ size → code_of size word ≡ Ok q → nat_le radius radius_limit ≡ true
    → shard_range radius word vs ≡ Ok (Found (joined_within vs q radius) (joined_looked vs q) (range_mark v q radius))
range_found radius word vs v size q is same read within =
    let read_is : code_of (code_size v) word ≡ Ok q = ap (λ (n : ℕ). code_of n word) same ∙ read in
    rw (is, read_is, within) refl

some_left : (v : IndexValue) (vs : List IndexValue) → nat_eq (length (v ∷ vs)) 0 ≡ true → ⊥
some_left v vs is = let none : length (v ∷ vs) ≡ 0 = eqb-true (length (v ∷ vs)) 0 is in omega arith

pub no_values : (vs : List IndexValue) → nat_eq (length vs) 0 ≡ true → [] ≡ vs
no_values [] is = refl
no_values (v ∷ vs) is = absurd (some_left v vs is)

pub search_nothing : (k : ℕ) (word : Word) (vs : List IndexValue) → nat_eq (length vs) 0 ≡ true
    → shard_search k word vs ≡ Err NoIndex
search_nothing k word [] is = rw joined_none refl
search_nothing k word (v ∷ vs) is = absurd (some_left v vs is)

pub range_nothing : (radius : ℕ) (word : Word) (vs : List IndexValue) → nat_eq (length vs) 0 ≡ true
    → shard_range radius word vs ≡ Err NoIndex
range_nothing radius word [] is = rw joined_none refl
range_nothing radius word (v ∷ vs) is = absurd (some_left v vs is)

-- ---- what a shard has to be

pub places_in : (v : IndexValue) → may_be_shard v ≡ true
    → All (λ (row : Row). IsPlace (count_of v) row.label) (rows_of v)
places_in (Bare (Flat v)) is = numbered_places v.codes
places_in (Bare (Multi v)) is = numbered_places v.codes
places_in (Bare (Ivf v)) is = absurd cc
places_in (Bare (Hash v)) is = absurd cc
places_in (IdMap name v ids) is = absurd cc

-- ---- the state

pub taken : (v : IndexValue) (vs : List IndexValue) (files : Files) (count codes : ℕ) → with_shard vs v ≡ Ok (vs ++ v ∷ [])
    → count ≡ length (vs ++ v ∷ []) → codes ≡ joined_count (vs ++ v ∷ [])
    → command_outcome Shard (holding v vs) files
    ≡ leaves (record { index = None; shards = vs ++ v ∷ [] }) (Sharded count codes) files
taken v vs files count codes passes is also = rw (passes, is, also) refl
