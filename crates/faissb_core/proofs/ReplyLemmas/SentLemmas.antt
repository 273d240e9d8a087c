-- What was sent, call after call.
use Rattle.std.proofs.Common.{ℕ, ◌+◌, ◌≤◌, List, [], ◌++◌, length, take, drop, Some, None, Option, sym, ◌∙◌, ap}
use Rattle.std.proofs.Common.{subst, arith, append_assoc, length-take}
use Rattle.std.proofs.lemmas.List.{append-nil}
use Rattle.std.proofs.Math.Seq.{take-add}
use Rattle.std.proofs.lemmas.List.{take-take}
use Rattle.std.specs.Io.KnownBytes.{Appends}
use Rattle.faissb_core.specs.Reply.Sent.{AppendsFront}

pub Appends-none : (a : Option (List ℕ)) → Appends a a []
Appends-none None = tt
Appends-none (Some xs) = sym (append-nil xs)

pub Appends-more : (a b c : Option (List ℕ)) (xs ys : List ℕ) → Appends a b xs → Appends b c ys → Appends a c (xs ++ ys)
Appends-more None b c xs ys p q = tt
Appends-more (Some w) None c xs ys p q = absurd p
Appends-more (Some w) (Some v) None xs ys p q = absurd q
Appends-more (Some w) (Some v) (Some u) xs ys p q = q ∙ ap (λ l. l ++ ys) p ∙ append_assoc w xs ys

pub appends_take : (a b c : Option (List ℕ)) (xs : List ℕ) (at n : ℕ) → Appends b c (take n (drop at xs))
    → Appends a b (take at xs) → Appends a c (take (at + n) xs)
appends_take a b c xs at n q p = subst (λ l. Appends a c l) (sym (take-add at n xs)) (Appends-more a b c _ _ p q)

-- a write of `&xs[at..at + k]` that took n bytes
pub appends_write : (a b c : Option (List ℕ)) (xs : List ℕ) (at k n : ℕ) → n ≤ length (take k (drop at xs))
    → Appends b c (take n (take k (drop at xs))) → Appends a b (take at xs) → Appends a c (take (at + n) xs)
appends_write a b c xs at k n fits q p =
    let low : n ≤ k = omega (arith, length-take k (drop at xs)) in
    appends_take a b c xs at n (subst (λ l. Appends b c l) (take-take n k (drop at xs) low) q) p

pub appends_so_far : (a b : Option (List ℕ)) (xs : List ℕ) (at : ℕ) → Appends a b (take at xs) → AppendsFront a b xs
appends_so_far a b xs at p = record { len = at; grown = p }
