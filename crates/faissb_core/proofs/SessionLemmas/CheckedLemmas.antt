-- What holds of a value where the checks before it are passed.
use Rattle.std.proofs.Common.{◌≡◌, Bool, true, false, Option, Some, None, Result, Ok, Err, refl, subst}
use Rattle.std.specs.Result.{IfOk}
use Rattle.faissb_core.specs.declared.reply.refusal.Refusal.{Refusal}
use Rattle.faissb_core.specs.Machine.Checked.{Checked, ◌>>=◌, ◌>>◌, demand◌else◌, given◌else◌, accept◌else◌}

pub given_value : {A : Type 0} (P : A → Type 0) (c : Checked A) (x : A) → IfOk c P → c ≡ Ok x → P x
given_value P (Ok y) x has is = let same : y ≡ x = cc in subst P same has
given_value P (Err r) x has is = absurd cc

pub bind_gives : {A B : Type 0} (P : B → Type 0) (c : Checked A) (f : A → Checked B)
    → ((x : A) → c ≡ Ok x → IfOk (f x) P) → IfOk (c >>= f) P
bind_gives P (Ok x) f each = each x refl
bind_gives P (Err r) f each = tt

pub demand_gives : {B : Type 0} (P : B → Type 0) (test : Bool) (r : Refusal) (next : Checked B)
    → (test ≡ true → IfOk next P) → IfOk ((demand test else r) >> next) P
demand_gives P true r next passed = passed refl
demand_gives P false r next passed = tt

pub given_gives : {A B : Type 0} (P : B → Type 0) (o : Option A) (r : Refusal) (f : A → Checked B)
    → ((x : A) → o ≡ Some x → IfOk (f x) P) → IfOk ((given o else r) >>= f) P
given_gives P (Some x) r f each = each x refl
given_gives P None r f each = tt

pub accept_gives : {A B E : Type 0} (P : B → Type 0) (read : Result A E) (r : E → Refusal) (f : A → Checked B)
    → ((x : A) → read ≡ Ok x → IfOk (f x) P) → IfOk ((accept read else r) >>= f) P
accept_gives P (Ok x) r f each = each x refl
accept_gives P (Err e) r f each = tt
