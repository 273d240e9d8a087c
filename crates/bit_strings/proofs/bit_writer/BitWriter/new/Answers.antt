use Rattle.std.proofs.Common.{List, ℕ, ap}
use Rattle.bit_strings.specs.States.{Written}
use Rattle.bit_strings.proofs.WordLemmas.{none_written}
use Rattle.bit_strings.proofs.bit_writer.BitWriter.new.Goals as goal

written : List ℕ → ℕ → Written
written bits room = record { bits = bits; room = room }

pub returns : goal.returns
unfolding written
returns c = ap (λ bits. written bits c.args.bits) (none_written c.in_ok-bytes.bytes.items c.in_ok-bytes.ensures.items)
