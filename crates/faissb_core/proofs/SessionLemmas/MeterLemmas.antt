-- A meter that began at 0.
use Rattle.std.proofs.Common.{◌≡◌, ℕ, List, ap, ◌∙◌}
use Rattle.bcodes.specs.Ranges.{raised}
use Rattle.bcodes.specs.Value.{IndexValue, IsLegal}
use Rattle.bcodes.specs.Answers.{looked}
use Rattle.bcodes.proofs.LegalLemmas.{raised_looked}

-- it holds what was looked at
pub lent_is : (v : IndexValue) (q : List ℕ) (old new lent : ℕ) → IsLegal v → old ≡ 0 → new ≡ raised old (looked v q)
    → lent ≡ new → lent ≡ looked v q
lent_is v q old new lent legal zero rises is = is ∙ rises ∙ ap (λ (n : ℕ). raised n (looked v q)) zero
    ∙ raised_looked v q legal
