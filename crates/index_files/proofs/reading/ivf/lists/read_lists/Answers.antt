use Rattle.std.proofs.Common.{sym, ap, ◌∙◌}
use Rattle.index_files.specs.IvfFormat.{rows_in}
use Rattle.index_files.specs.IvfSteps.{IdRules}
use Rattle.index_files.proofs.reading.ivf.lists.read_lists.Goals as goal

pub returns-clause-numbered : goal.returns-clause-numbered
returns-clause-numbered g c = λ is.
    c.in_ok-read_rows.ensures.numbered (sym c.has_map.ensures ∙ is)
    (ap rows_in c.deref.ensures.value ∙ c.in_ok-sizes.ensures.total
    ∙ sym (ap (λ (r : IdRules). r.count) c.new-checks.ensures))
