-- Lemmas on the fronts of texts.
use Rattle.std.proofs.Common.{◌≡◌, ℕ, List, ◌++◌, length, drop, Bool, true, false, cond, refl}
use Rattle.std.proofs.lemmas.Bool.Decides.{Decides-eqb}
use Rattle.std.proofs.lemmas.Slice.Eq.{starts_is}
use Rattle.factory_text.specs.Numerals.{begins}

-- a text that begins with a front is the front and the rest
pub begins_is : (front text : List ℕ) → begins front text ≡ true → text ≡ front ++ drop (length front) text
begins_is front text is = (starts_is Decides-eqb text front (begins front text) refl).0 is

-- what holds of both readings of a text holds of the one by its front
front_by : {A : Type 0} (P : A → Type 0) (b : Bool) (one other : A)
    → (b ≡ true → P one) → P other → P (cond b one other)
front_by P true one other if_so else_so = if_so refl
front_by P false one other if_so else_so = else_so

pub one_front : {A : Type 0} (P : A → Type 0) (front text : List ℕ) (one other : A)
    → (text ≡ front ++ drop (length front) text → P one) → P other → P (cond (begins front text) one other)
one_front P front text one other if_so else_so =
    front_by P (begins front text) one other (λ is. if_so (begins_is front text is)) else_so
