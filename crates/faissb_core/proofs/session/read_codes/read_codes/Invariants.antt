use Rattle.std.proofs.Common.{◌≡◌, ◌/◌, vec_len}
use Rattle.faissb_core.specs.Language.Words.{words_of}
use Rattle.faissb_core.specs.Machine.State.{codes_of}
use Rattle.faissb_core.proofs.SessionLemmas.CodesLemmas.{behind, words_left, text_left}
use Rattle.faissb_core.proofs.session.read_codes.read_codes.Given as goal

abbrev pub invariant-loop-rest : goal.invariant-loop-rest
invariant-loop-rest l = record {
  codes : codes_of (l.fn.dim.bits / 8) (words_of l.fn.words)
      ≡ behind l.codes.codes (codes_of (l.fn.dim.bits / 8) (words_left l.rest));
  dim : l.codes.dim ≡ l.fn.dim.bits;
  size : vec_len l.code ≡ l.fn.dim.bits / 8;
}

abbrev pub decreases-loop-rest : goal.decreases-loop-rest
decreases-loop-rest l = text_left l.rest
