use Rattle.std.proofs.Common.{◌≡◌, ◌/◌, ◌++◌, map, vec_len}
use Rattle.faissb_core.specs.Language.Words.{IdWord}
use Rattle.faissb_core.specs.Language.Grammar.{pairs_in}
use Rattle.faissb_core.specs.Machine.State.{codes_of}
use Rattle.faissb_core.proofs.SessionLemmas.CodesLemmas.{behind, pairs_left, pairs_text_left}
use Rattle.faissb_core.proofs.session.read_codes.read_pairs.Given as goal

abbrev pub invariant-loop-rest : goal.invariant-loop-rest
invariant-loop-rest l = record {
  codes : codes_of (l.fn.dim.bits / 8) (map (λ (p : IdWord). p.word) (pairs_in l.fn.words.text.now))
      ≡ behind l.codes.codes (codes_of (l.fn.dim.bits / 8) (map (λ (p : IdWord). p.word) (pairs_left l.rest)));
  ids : map (λ (p : IdWord). p.id) (pairs_in l.fn.words.text.now)
      ≡ l.ids.items ++ map (λ (p : IdWord). p.id) (pairs_left l.rest);
  dim : l.codes.dim ≡ l.fn.dim.bits;
  size : vec_len l.code ≡ l.fn.dim.bits / 8;
}

abbrev pub decreases-loop-rest : goal.decreases-loop-rest
decreases-loop-rest l = pairs_text_left l.rest
