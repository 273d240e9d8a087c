use Rattle.std.proofs.Common.{◌≡◌, ℕ, get_or, ◌<◌, ◌^◌, ◌+◌, ◌/◌, ◌∙◌, ap, arith}
use Rattle.std.proofs.lemmas.List.Elements.{All-from_get_or}
use Rattle.bit_strings.proofs.WordLemmas.{finished, packed_is}
use Rattle.bit_strings.proofs.bit_writer.BitWriter.finish.Goals as goal

pub returns-clause-bytes : goal.returns-clause-bytes
returns-clause-bytes c =
    let are : (i : ℕ) → get_or c.self.inside.bytes.items i 0 < 2 ^ 8 =
    λ i. omega (arith, c.are_bytes.ensures i, ap (λ bytes. get_or bytes i 0) c.deref.ensures.value) in
    let count : c.div_ceil.result ≡ (c.self.inside.filled + 7) / 8 = omega (arith, c.div_ceil.ensures) in
    rw (← c.self.view_is) (c.new.ensures
    ∙ finished c.self.inside.bytes.items _ _ _ c.div_ceil.result c.self.inside.word
    (All-from_get_or (λ b. b < 2 ^ 8) c.self.inside.bytes.items 0 (λ i low. are i)) c.self.invariant.below
    c.self.invariant.few count c.to_le_bytes-rest.ensures c.push_bytes.ensures.items)

pub returns-clause-packed : goal.returns-clause-packed
returns-clause-packed c = λ numbers is. returns-clause-bytes c ∙ packed_is _ numbers is
