-- Checks in their order: the first that fails refuses, and what follows it is not looked at.
use Rattle.std.specs.Prelude.{ℕ, ◌&&◌, Bool, nat_le, List, [], ◌∷◌, Option, None, Some, Result, Ok, Err, if◌then◌else◌}
use Rattle.faissb_core.specs.declared.reply.refusal.Refusal.{Refusal}

-- a value or a refusal
abbrev pub Checked : Type 0 → Type 0
Checked A = Result A Refusal

infixl 10 ◌>>=◌
abbrev pub ◌>>=◌ : {A B : Type 0} → Checked A → (A → Checked B) → Checked B
(Ok x) >>= f = f x
(Err refusal) >>= f = Err refusal

infixl 10 ◌>>◌
abbrev pub ◌>>◌ : {B : Type 0} → Checked (Unit {0}) → Checked B → Checked B
(Ok x) >> next = next
(Err refusal) >> next = Err refusal

-- a test that must hold
infix 5 demand◌else◌
abbrev pub demand◌else◌ : Bool → Refusal → Checked (Unit {0})
demand test else refusal = if test then Ok tt else Err refusal

-- a value that must be there
infix 5 given◌else◌
abbrev pub given◌else◌ : {A : Type 0} → Option A → Refusal → Checked A
given (Some x) else refusal = Ok x
given None else refusal = Err refusal

-- a value that must not be there, and the refusal that names it
infix 5 absent◌else◌
abbrev pub absent◌else◌ : {A : Type 0} → Option A → (A → Refusal) → Checked (Unit {0})
absent (Some x) else refusal = Err (refusal x)
absent None else refusal = Ok tt

-- a value, or an error and the refusal that names it
infix 5 accept◌else◌
abbrev pub accept◌else◌ : {A E : Type 0} → Result A E → (E → Refusal) → Checked A
accept (Ok x) else refusal = Ok x
accept (Err e) else refusal = Err (refusal e)

-- each of some values in turn
abbrev pub each : {A B : Type 0} → (A → Checked B) → List A → Checked (List B)
each f [] = Ok []
each f (x ∷ xs) = do
  y ← f x
  ys ← each f xs
  Ok (y ∷ ys)

abbrev pub is_within : ℕ → ℕ → ℕ → Bool
is_within least most n = nat_le least n && nat_le n most
