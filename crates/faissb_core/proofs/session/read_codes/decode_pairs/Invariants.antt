use Rattle.std.proofs.Common.{◌≡◌, length}
use Rattle.faissb_core.proofs.SessionLemmas.DecodeLemmas.{IsDecoded}
use Rattle.faissb_core.proofs.session.read_codes.decode_pairs.Given as goal

abbrev pub invariant-loop-i : goal.invariant-loop-i
invariant-loop-i l = record {
  decoded : IsDecoded l.word l.code l.i l.greatest;
  len : length l.code ≡ length l.initial.code;
}
