-- What a removal comes to.
use Rattle.std.proofs.Common.{◌≡◌, ◌+◌, ◌-◌, ℕ, Option, None, Some, Err, is_some, false, sym, ap, ◌∙◌, arith, refl}
use Rattle.bcodes.specs.Value.{IndexValue, count_of}
use Rattle.id_select.specs.declared.selector.Selector.{Selector}
use Rattle.id_select.specs.Removal.{ChoosesAs, removed}
use Rattle.id_select.proofs.RemovedLemmas.{removed_as}
use Rattle.faissb_core.specs.declared.reply.refusal.Refusal.TheVariants.{Kind}
use Rattle.faissb_core.specs.Machine.State.{changed}
use Rattle.faissb_core.specs.Machine.Removing.{remove}
use Rattle.faissb_core.specs.Reply.Answer.{Removed}

none_is : (found : Option IndexValue) → is_some found ≡ false → found ≡ None
none_is (Some v) is = cc
none_is None is = cc

-- by a selector that chooses the same
pub removal_is : (s t : Selector) (v w : IndexValue) (count : ℕ) → ChoosesAs s t → removed t v ≡ Some w
    → count_of w + count ≡ count_of v → remove s v ≡ changed w (Removed count (count_of w))
removal_is s t v w count same is fewer =
    let went : count_of v - count_of w ≡ count = omega (arith, fewer) in
    rw (sym (removed_as s t v same) ∙ is, went) refl

pub no_removal : (s : Selector) (v : IndexValue) → is_some (removed s v) ≡ false → remove s v ≡ Err Kind
no_removal s v is = rw (none_is (removed s v) is) refl

pub removes_as : (s t : Selector) (v : IndexValue) → ChoosesAs s t → is_some (removed t v) ≡ is_some (removed s v)
removes_as s t v same = ap is_some (removed_as s t v same)
