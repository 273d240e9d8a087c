-- The order and the lists give the rows back.
use Rattle.std.proofs.Common.{◌≡◌, ℕ, Bool, true, false, cond, nat_eq, List, [], ◌∷◌, map, refl, ap, ◌∙◌}
use Rattle.std.proofs.lemmas.Bool.{eq-eqb}
use Rattle.bcodes.specs.Value.{Row}
use Rattle.flip_walk.specs.Patterns.{under}
use Rattle.row_lists.specs.Rows.{first_row, rows_after, weave}

pub weave_same : (os : List ℕ) (f g : ℕ → List Row) → ((l : ℕ) → f l ≡ g l) → weave os f ≡ weave os g
weave_same [] f g h = refl
weave_same (o ∷ os) f g h =
    ap (λ (rows : List Row). first_row rows ∷ weave os (λ l. cond (nat_eq l o) (rows_after (f l)) (f l))) (h o)
    ∙ ap (λ (rows : List Row). first_row (g o) ∷ rows)
    (weave_same os _ _ (λ l. ap (λ (rows : List Row). cond (nat_eq l o) (rows_after rows) rows) (h l)))

module _ {X : Type 0} (number : X → ℕ) (row_of : X → Row) where
  weave_step : (x : X) (t : Bool) (rs : List Row) (us : List X) → rs ≡ map row_of (cond t (x ∷ us) us)
      → cond t (rows_after rs) rs ≡ map row_of us
  weave_step x true rs us e = ap rows_after e
  weave_step x false rs us e = e

  -- items whose rows stand on the lists of their numbers
  pub woven : (xs : List X) (lists : ℕ → List Row) → ((l : ℕ) → lists l ≡ map row_of (under number xs l))
      → weave (map number xs) lists ≡ map row_of xs
  woven [] lists h = refl
  woven (x ∷ xs) lists h =
      let l : ℕ = number x in
      let here : lists l ≡ row_of x ∷ map row_of (under number xs l)
      = h l ∙ ap (λ (t : Bool). map row_of (cond t (x ∷ under number xs l) (under number xs l))) (eq-eqb l l refl) in
      ap (λ (rs : List Row). first_row rs ∷ weave (map number xs)
      (λ m. cond (nat_eq m l) (rows_after (lists m)) (lists m))) here
      ∙ ap (λ (rs : List Row). row_of x ∷ rs)
      (woven xs _ (λ m. weave_step x (nat_eq m l) (lists m) (under number xs m) (h m)))
