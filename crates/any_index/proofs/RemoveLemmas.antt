-- Lemmas on removal.
use Rattle.std.proofs.Common.{◌≡◌, ℕ, ◌+◌, ℤ, true, false, not, ◌&&◌, true≢false, inl, inr, List, length, Some, IsSome, is_some, Result, Ok, Err, OnOk, IfOk, refl, sym, ap, ◌∙◌, subst}
use Rattle.bcodes.specs.declared.map_name.MapName.{MapName}
use Rattle.bcodes.specs.Value.{CodeList, IvfValue, HashValue, MultiValue, Inner, Flat, Ivf, Hash, Multi, IndexValue, Bare, IdMap}
use Rattle.bcodes.specs.Value.{inner_of, count_of_inner, IsLegal}
use Rattle.bcodes.specs.Settings.{needs_ids}
use Rattle.bcodes.proofs.OrderLemmas.{either}
use Rattle.id_select.specs.Removal.{flat_in_inner, removed}
use Rattle.id_select.specs.declared.selector.Selector.{Selector}
use Rattle.id_select.proofs.LegalLemmas.{removed_legal}

-- only a Flat leaves rows under outer ids
pub flat_under : (s : Selector) (name : MapName) (v : Inner) (ids : List ℤ) → IsSome (removed s (IdMap name v ids))
    → IsSome (flat_in_inner v)
unfolding removed
flat_under s name (Flat v) ids h = refl
flat_under s name (Ivf v) ids h = h
flat_under s name (Hash v) ids h = h
flat_under s name (Multi v) ids h = h

-- how many rows leave, by the ids that leave
pub count_under : (s : Selector) (name new_name : MapName) (v w : Inner) (ids left : List ℤ) (n : ℕ)
    → IsLegal (IdMap name v ids) → removed s (IdMap name v ids) ≡ Some (IdMap new_name w left)
    → length left + n ≡ length ids → count_of_inner w + n ≡ count_of_inner v
count_under s name new_name v w ids left n legal e h =
    let after : IsLegal (IdMap new_name w left) = removed_legal s (IdMap name v ids) (IdMap new_name w left) legal e in
    ap (λ (m : ℕ). m + n) (sym after.count) ∙ h ∙ legal.count

pub counted_under : {E : Type 0} (s : Selector) (name new_name : MapName) (v w : Inner) (ids left : List ℤ)
    (r : Result ℕ E) → IsLegal (IdMap name v ids)
    → OnOk r (removed s (IdMap name v ids) ≡ Some (IdMap new_name w left))
    → IfOk r (λ n. length left + n ≡ length ids) → IfOk r (λ n. count_of_inner w + n ≡ count_of_inner v)
counted_under s name new_name v w ids left (Ok n) legal e h = count_under s name new_name v w ids left n legal e h
counted_under s name new_name v w ids left (Err error) legal e h = tt

-- ---- whether rows can be removed

pub removes_flat : (s : Selector) (v : IndexValue) (u : CodeList) → Flat u ≡ inner_of v → true ≡ is_some (removed s v)
unfolding removed
removes_flat s (Bare v) u e = rw (← e) refl
removes_flat s (IdMap name v ids) u e = rw (← e) refl

removes_bare : (s : Selector) (u : IvfValue) → not u.direct ≡ is_some (removed s (Bare (Ivf u)))
unfolding removed
removes_bare s u =
    elim (either u.direct) [
      | inl on ↦ rw on refl
      | inr off ↦ rw off refl
    ]

-- an IVF whose rows can be removed keeps no direct map
pub no_direct : (s : Selector) (v : Inner) (u : IvfValue) → Ivf u ≡ v → IsSome (removed s (Bare v)) → u.direct ≡ false
no_direct s v u e h =
    elim (either u.direct) [
      | inl on ↦
          let some : IsSome (removed s (Bare (Ivf u))) = subst (λ (w : Inner). IsSome (removed s (Bare w))) (sym e) h in
          absurd (true≢false (sym some ∙ sym (removes_bare s u) ∙ ap not on))
      | inr off ↦ off
    ]

-- a Hash and a MultiHash remove none
pub no_hash : (s : Selector) (v : Inner) (u : HashValue) → Hash u ≡ v → IsSome (removed s (Bare v)) → ⊥
unfolding removed
no_hash s v u e h = true≢false (sym (subst (λ (w : Inner). IsSome (removed s (Bare w))) (sym e) h))

pub no_multi : (s : Selector) (v : Inner) (u : MultiValue) → Multi u ≡ v → IsSome (removed s (Bare v)) → ⊥
unfolding removed
no_multi s v u e h = true≢false (sym (subst (λ (w : Inner). IsSome (removed s (Bare w))) (sym e) h))

pub removes_ivf : (s : Selector) (v : IndexValue) (u : IvfValue) → Ivf u ≡ inner_of v
    → (not (needs_ids v) && not u.direct) ≡ is_some (removed s v)
unfolding removed
removes_ivf s (Bare v) u e = rw (← e) (removes_bare s u)
removes_ivf s (IdMap name v ids) u e = rw (← e) refl

pub removes_hash : (s : Selector) (v : IndexValue) (u : HashValue) → Hash u ≡ inner_of v → false ≡ is_some (removed s v)
unfolding removed
removes_hash s (Bare v) u e = rw (← e) refl
removes_hash s (IdMap name v ids) u e = rw (← e) refl

pub removes_multi : (s : Selector) (v : IndexValue) (u : MultiValue) → Multi u ≡ inner_of v → false ≡ is_some (removed s v)
unfolding removed
removes_multi s (Bare v) u e = rw (← e) refl
removes_multi s (IdMap name v ids) u e = rw (← e) refl
