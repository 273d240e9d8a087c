use Rattle.std.proofs.Common.{◌≡◌, ◌*◌, ◌≤◌, ℕ, List, length, refl, sym, subst, arith}
use Rattle.bcodes.specs.Ranges.{load_limit}
use Rattle.bcodes.specs.Value.{weight}
use Rattle.multi_hash.proofs.MultiLemmas.{multi_none}
use Rattle.multi_hash.proofs.PlaceLemmas.{partly_none}
use Rattle.multi_hash.proofs.multi.building.Building.new.Goals as goal

pub invariant_of-result : goal.invariant_of-result
invariant_of-result g c =
    let dim : ℕ = c.args.flat.dim in
    let codes : List (List ℕ) = c.args.flat.codes in
    let maps : List (List (ℕ × ℕ)) = c.in_ok-maps.maps.items in
    let count : length maps ≡ c.args.nhash = c.in_ok-maps.ensures.count in
    partly_none dim c.args.b codes maps c.new.result (multi_none dim c.args.b 0 maps c.new.result refl
    (omega (arith, count, c.requires.nhash_least)) (omega (arith, count, c.requires.nhash_most)) c.requires.b_least
    c.requires.b_most (subst (λ (k : ℕ). k * c.args.b ≤ dim) (sym count) c.requires.within) c.in_ok-maps.ensures.empty
    c.new.ensures)
    (subst (λ (k : ℕ). weight dim k (length codes) 0 ≤ load_limit) (sym count) c.requires.load)
