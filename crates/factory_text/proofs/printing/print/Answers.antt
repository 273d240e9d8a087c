use Rattle.std.proofs.Common.{◌∙◌, ap}
use Rattle.factory_text.specs.Reading.{read_spec}
use Rattle.factory_text.proofs.SpecLemmas.{spec_written}
use Rattle.factory_text.proofs.printing.print.Goals as goal

pub returns-clause-read_back : goal.returns-clause-read_back
returns-clause-read_back c = λ legal.
    ap read_spec (c.new.ensures ∙ c.in_ok-written.ensures) ∙ spec_written c.args.spec legal
