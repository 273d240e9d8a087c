-- From a number to the next one with as many one bits.
use Rattle.std.proofs.Common.{◌≡◌, ◌≢◌, ℕ, zero, suc, ◌+◌, ◌-◌, ◌*◌, ◌/◌, ◌%◌, ◌^◌, ◌<◌, ◌≤◌, inl, inr, refl, sym, ap}
use Rattle.std.proofs.Common.{◌∙◌, arith, lit<}
use Rattle.std.specs.Int.RustNames.{count_ones}
use Rattle.std.proofs.lemmas.Nat.{ones_cat, pow-add, pow_pos, div-add-mod', zero_from_ones}
use Rattle.std.proofs.Math.Nat.{two-pow-succ, mul-le-mul_left, mul-le-mul_right, pow-le-pow_right, lt_of_lt_of_le}
use Rattle.std.proofs.lemmas.Bool.{cases_lt}
use Rattle.flip_walk.specs.Walk.{IsNext, IsLast}
use Rattle.flip_walk.proofs.OnesLemmas.{ones-zero, ones-one, least_ones, most_ones}

one_le : (h : ℕ) → 1 ≤ h * 2 + 1
one_le h = omega arith

twice_below : (h e : ℕ) → h < e → h * 2 + 2 ≤ 2 * e
twice_below h e l = omega arith

-- a product below another with the same factor
below_factor : (a e t l h : ℕ) → a ≡ h * 2 → a * t + l < (2 * e) * t → h < e
below_factor a e t l h s less =
    elim (cases_lt h e) [
      | inl below ↦ below
      | inr above ↦ absurd (let f : 2 * e ≤ a = omega arith in omega (arith, mul-le-mul_right t f))
    ]

-- x has its lowest ones at the places from z up to z + r, and the bits above these are those of 2 * h
pub record IsRun (x z r h : ℕ) : Type 0 where
  pub some : 1 ≤ r
  pub is : x + 2 ^ z ≡ (h * 2) * 2 ^ (z + r) + 2 ^ (z + r)

-- the ones of 2 ^ k - 1
pub ones-low_bits : (k : ℕ) → count_ones (2 ^ k - 1) ≡ k
ones-low_bits zero = ones-zero
ones-low_bits (suc k) =
    let pos : 0 < 2 ^ k = pow_pos k in
    let e : 2 ^ suc k - 1 ≡ (2 ^ k - 1) * 2 ^ 1 + 1 = omega (arith, two-pow-succ k) in
    ap count_ones e ∙ ones_cat 1 (2 ^ k - 1) 1 (omega arith) ∙ ap (λ n. n + count_ones 1) (ones-low_bits k)
    ∙ ap (λ n. k + n) ones-one ∙ omega arith

-- the ones of h and a 0 or a 1 behind it
pub ones-zero_behind : (h : ℕ) → count_ones (h * 2) ≡ count_ones h
ones-zero_behind h =
    let e : h * 2 ≡ h * 2 ^ 1 + 0 = omega arith in
    ap count_ones e ∙ ones_cat 1 h 0 (omega arith) ∙ ap (λ n. count_ones h + n) ones-zero ∙ omega arith

pub ones-one_behind : (h : ℕ) → count_ones (h * 2 + 1) ≡ count_ones h + 1
ones-one_behind h =
    let e : h * 2 + 1 ≡ h * 2 ^ 1 + 1 = omega arith in
    ap count_ones e ∙ ones_cat 1 h 1 (omega arith) ∙ ap (λ n. count_ones h + n) ones-one

less_one : (a b z : ℕ) → a ≡ b + 1 → b * z + z ≡ a * z
less_one a b z e = omega (arith, ap (λ (k : ℕ). k * z) e)

-- the ones of a run at the top of n bits
pub ones-top_bits : (z r l : ℕ) → l + 2 ^ z ≡ 2 ^ (z + r) → count_ones l ≡ r
ones-top_bits z r l e =
    let pos : 0 < 2 ^ r = pow_pos r in
    let posz : 0 < 2 ^ z = pow_pos z in
    let one : 2 ^ r ≡ (2 ^ r - 1) + 1 = omega arith in
    let f : l ≡ (2 ^ r - 1) * 2 ^ z + 0 = omega (arith, pow-add 2 z r, less_one (2 ^ r) (2 ^ r - 1) (2 ^ z) one) in
    ap count_ones f ∙ ones_cat z (2 ^ r - 1) 0 posz ∙ ap (λ n. n + count_ones 0) (ones-low_bits r)
    ∙ ap (λ n. r + n) ones-zero ∙ omega arith

-- the parts of x: those above the run, and the run
pub run_part : (x z r h : ℕ) → IsRun x z r h → (l : ℕ) × (l + 2 ^ z ≡ 2 ^ (z + r)) × (x ≡ (h * 2) * 2 ^ (z + r) + l)
run_part x z r h run =
    let le : 2 ^ z ≤ 2 ^ (z + r) = omega (arith, pow-add 2 z r, mul-le-mul_left (2 ^ z) (pow_pos r)) in
    (2 ^ (z + r) - 2 ^ z, omega arith, omega (arith, run.is))

pub ones-run : (x z r h : ℕ) → IsRun x z r h → count_ones x ≡ count_ones h + r
ones-run x z r h run =
    let part = run_part x z r h run in
    let l = part.0 in
    let small : l < 2 ^ (z + r) = omega (arith, part.1, pow_pos z) in
    ap count_ones part.2 ∙ ones_cat (z + r) (h * 2) l small ∙ ap (λ n. n + count_ones l) (ones-zero_behind h)
    ∙ ap (λ n. count_ones h + n) (ones-top_bits z r l part.1)

-- between a number and the next one, none has as many ones
-- t is 2 ^ (z + r), s is 2 ^ (r - 1)
pub record IsJump (x y z r h : ℕ) : Type 0 where
  pub run : IsRun x z r h
  pub next : y + 1 ≡ x + 2 ^ z + 2 ^ (r - 1)

pub next_part : (x y z r h : ℕ) → IsJump x y z r h → y + 1 ≡ (h * 2 + 1) * 2 ^ (z + r) + 2 ^ (r - 1)
next_part x y z r h jump = omega (arith, jump.next, jump.run.is)

pub low_power : (z r : ℕ) → 1 ≤ r → 2 ^ (r - 1) ≤ 2 ^ (z + r)
low_power z r some =
    let e : z + r ≡ (z + 1) + (r - 1) = omega arith in
    omega (arith, ap (λ (k : ℕ). 2 ^ k) e, pow-add 2 (z + 1) (r - 1), mul-le-mul_right (2 ^ (r - 1)) (pow_pos (z + 1)))

pub ones-next : (x y z r h : ℕ) → IsJump x y z r h → count_ones y ≡ count_ones x
ones-next x y z r h jump =
    let e : y ≡ (h * 2 + 1) * 2 ^ (z + r) + (2 ^ (r - 1) - 1) = omega (arith, next_part x y z r h jump, pow_pos (r - 1))
    in
    let small : 2 ^ (r - 1) - 1 < 2 ^ (z + r) = omega (arith, low_power z r jump.run.some, pow_pos (r - 1)) in
    let ones : count_ones y ≡ (count_ones h + 1) + (r - 1)
    = ap count_ones e ∙ ones_cat (z + r) (h * 2 + 1) (2 ^ (r - 1) - 1) small
    ∙ ap (λ n. n + count_ones (2 ^ (r - 1) - 1)) (ones-one_behind h) ∙ ap (λ n. (count_ones h + 1) + n)
    (ones-low_bits (r - 1)) in
    omega (arith, ones, ones-run x z r h jump.run, jump.run.some)

pub above_run : (x v z r h : ℕ) → IsRun x z r h → v < (h * 2 + 1) * 2 ^ (z + r) → x < v → count_ones v ≢ count_ones x
above_run x v z r h run less more same =
    let part = run_part x z r h run in
    let l = v - (h * 2) * 2 ^ (z + r) in
    let e : v ≡ (h * 2) * 2 ^ (z + r) + l = omega (arith, part.2) in
    let small : l < 2 ^ (z + r) = omega (arith, part.2) in
    let ones : count_ones v ≡ count_ones h + count_ones l = ap count_ones e ∙ ones_cat (z + r) (h * 2) l small
    ∙ ap (λ n. n + count_ones l) (ones-zero_behind h) in
    let few : z + count_ones l ≡ z + r = omega (arith, ones, ones-run x z r h run) in
    omega (arith, most_ones (z + r) l z small few, part.1, part.2)

pub below_next : (x y v z r h : ℕ) → IsJump x y z r h → (h * 2 + 1) * 2 ^ (z + r) ≤ v → v < y
    → count_ones v ≢ count_ones x
below_next x y v z r h jump more less same =
    let l = v - (h * 2 + 1) * 2 ^ (z + r) in
    let e : v ≡ (h * 2 + 1) * 2 ^ (z + r) + l = omega arith in
    let small : l < 2 ^ (z + r) = omega (arith, next_part x y z r h jump, low_power z r jump.run.some) in
    let ones : count_ones v ≡ (count_ones h + 1) + count_ones l = ap count_ones e ∙ ones_cat (z + r) (h * 2 + 1) l small
    ∙ ap (λ n. n + count_ones l) (ones-one_behind h) in
    let few : count_ones l ≡ r - 1 = omega (arith, ones, ones-run x z r h jump.run, jump.run.some) in
    omega (arith, least_ones (z + r) l small, ap (λ (k : ℕ). 2 ^ k) few, next_part x y z r h jump)

pub none_between : (x y v z r h : ℕ) → IsJump x y z r h → x < v → v < y → count_ones v ≢ count_ones x
none_between x y v z r h jump more less =
    elim (cases_lt v ((h * 2 + 1) * 2 ^ (z + r))) [
      | inl below ↦ above_run x v z r h jump.run below more
      | inr above ↦ below_next x y v z r h jump above less
    ]

-- the highest: no greater number below 2 ^ (z + r) has as many ones
pub none_above : (x v z r h : ℕ) → IsRun x z r h → x < v → x < 2 ^ (z + r) → v < 2 ^ (z + r)
    → count_ones v ≢ count_ones x
none_above x v z r h run more small less = above_run x v z r h run
    (omega (arith, less, mul-le-mul_right (2 ^ (z + r)) (one_le h))) more

-- a jump stays below 2 ^ b
pub next_below : (x y z r h b : ℕ) → IsJump x y z r h → x < 2 ^ b → z + r < b → y < 2 ^ b
next_below x y z r h b jump small room =
    let e : b ≡ (z + r) + suc (b - (z + r) - 1) = omega arith in
    let p : 2 ^ b ≡ 2 ^ (z + r) * 2 ^ suc (b - (z + r) - 1) = ap (λ (k : ℕ). 2 ^ k) e
    ∙ pow-add 2 (z + r) (suc (b - (z + r) - 1)) in
    let q : 2 ^ b ≡ (2 * 2 ^ (b - (z + r) - 1)) * 2 ^ (z + r) = omega (
      arith,
      p,
      ap (λ (k : ℕ). 2 ^ (z + r) * k)
          (two-pow-succ (b - (z + r) - 1)),
    ) in
    let part = run_part x z r h jump.run in
    let high : h < 2 ^ (b - (z + r) - 1) = below_factor (h * 2) (2 ^ (b - (z + r) - 1)) (2 ^ (z + r)) part.0 h refl
    (omega (arith, part.2, q)) in
    omega (
      arith,
      next_part x y z r h jump,
      low_power z r jump.run.some,
      q,
      mul-le-mul_right (2 ^ (z + r))
          (twice_below h (2 ^ (b - (z + r) - 1)) high),
    )

pub last_zero : (b x : ℕ) → x ≡ 0 → IsLast b x
last_zero b x e = record { none = λ v l h same. omega (arith, zero_from_ones v (same ∙ ap count_ones e ∙ ones-zero)) }

run_is : (x z r u g : ℕ) → u + 1 ≡ g * 2 ^ r + 2 ^ r → x ≡ u * 2 ^ z → x + 2 ^ z ≡ g * 2 ^ (z + r) + 2 ^ (z + r)
run_is x z r u g whole shifted =
    let up : (u + 1) * 2 ^ z ≡ (g * 2 ^ r + 2 ^ r) * 2 ^ z = ap (λ (k : ℕ). k * 2 ^ z) whole in
    let p = pow-add 2 z r in
    let q : g * 2 ^ (z + r) ≡ g * (2 ^ z * 2 ^ r) = ap (λ (k : ℕ). g * k) p in
    omega (arith, up, p, q, shifted)

pub run_from : (x z r u : ℕ) → u ≡ x / 2 ^ z → x % 2 ^ z ≡ 0 → 1 ≤ r → u % 2 ^ r ≡ 2 ^ r - 1 → u / 2 ^ r % 2 ≡ 0
    → IsRun x z r (u / 2 ^ r / 2)
run_from x z r u e zeros some run end =
    let even : u / 2 ^ r ≡ u / 2 ^ r / 2 * 2 = omega arith in
    let whole : u + 1 ≡ (u / 2 ^ r / 2 * 2) * 2 ^ r + 2 ^ r = omega
    (arith, ap (λ (k : ℕ). k * 2 ^ r) even, div-add-mod' u (2 ^ r), pow_pos r) in
    let shifted : x ≡ u * 2 ^ z = omega (arith, div-add-mod' x (2 ^ z), ap (λ (k : ℕ). k * 2 ^ z) e) in
    record {
      some = some;
      is = run_is x z r u (u / 2 ^ r / 2 * 2) whole shifted;
    }

ends_step : (x z r h b : ℕ) → IsRun x z r h → x < 2 ^ b → b < z + r → ⊥
ends_step x z r h b run small above =
    let p : 2 ^ b ≤ 2 ^ (z + (r - 1)) = pow-le-pow_right (lit< tt) (omega arith) in
    let e : z + r ≡ suc (z + (r - 1)) = omega (arith, run.some) in
    let q : 2 ^ (z + r) ≡ 2 ^ (z + (r - 1)) + 2 ^ (z + (r - 1)) = ap (λ (k : ℕ). 2 ^ k) e
    ∙ two-pow-succ (z + (r - 1)) in
    let s : 2 ^ z ≤ 2 ^ (z + (r - 1)) = pow-le-pow_right (lit< tt) (omega arith) in
    omega (arith, run.is, p, q, s)

-- a run that does not end below b ends there
pub ends_below : (x z r h b : ℕ) → IsRun x z r h → x < 2 ^ b → z + r ≤ b
ends_below x z r h b run small =
    elim (cases_lt b (z + r)) [
      | inl above ↦ absurd (ends_step x z r h b run small above)
      | inr below ↦ below
    ]

pub last_of : (b x z r h : ℕ) → IsRun x z r h → x < 2 ^ b → z + r ≡ b → IsLast b x
last_of b x z r h run small e =
    let same : 2 ^ b ≡ 2 ^ (z + r) = ap (λ (k : ℕ). 2 ^ k) (sym e) in
    record { none = λ v l less. none_above x v z r h run l (omega arith) (omega arith) }

pub next_of : (b x y z r h : ℕ) → IsRun x z r h → x < 2 ^ b → z + r < b → y ≡ x + 2 ^ z + (2 ^ (r - 1) - 1)
    → IsNext b x y
next_of b x y z r h run small room e =
    let jump : IsJump x y z r h = record { run = run; next = omega (arith, pow_pos (r - 1)) } in
    record {
      more = omega (arith, pow_pos z);
      below = next_below x y z r h b jump small room;
      ones = ones-next x y z r h jump;
      none = λ v l less. none_between x y v z r h jump l less;
    }

pub jump_fits : (b x z r h : ℕ) → IsRun x z r h → x < 2 ^ b → z + r < b → b ≤ 64
    → x + 2 ^ z + (2 ^ (r - 1) - 1) < 2 ^ 64
jump_fits b x z r h run small room most =
    let next = next_of b x (x + 2 ^ z + (2 ^ (r - 1) - 1)) z r h run small room refl in
    let p : 2 ^ b ≤ 2 ^ 64 = pow-le-pow_right (lit< tt) most in
    lt_of_lt_of_le next.below p
