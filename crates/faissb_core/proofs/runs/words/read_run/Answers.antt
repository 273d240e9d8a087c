use Rattle.std.proofs.Common.{sym, map, arith}
use Rattle.std.specs.Prelude.{string_bytes}
use Rattle.std.proofs.lemmas.List.{length-map}
use Rattle.faissb_core.proofs.RunLemmas.Words.{many_words}
use Rattle.faissb_core.proofs.runs.words.read_run.Goals as goal

pub returns-in_default-clause-run : goal.returns-in_default-clause-run
returns-in_default-clause-run c = sym (many_words (map string_bytes c.args.words.now)
    (omega (arith, length-map c.args.words.now string_bytes)))
