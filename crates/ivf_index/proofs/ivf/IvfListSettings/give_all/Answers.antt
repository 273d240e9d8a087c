use Rattle.std.proofs.Common.{sym, ap, ◌∙◌}
use Rattle.bcodes.specs.Value.{IvfValue, Ivf, Bare}
use Rattle.ivf_index.proofs.SettingLemmas.{after_centroids_ivf, load_given}
use Rattle.ivf_index.proofs.ivf.IvfListSettings.give_all.Goals as goal

pub give_all-requires-clause-load : goal.give_all-requires-clause-load
give_all-requires-clause-load g c = load_given c.args.self.now c.args.codes.now.codes c.requires.load

pub returns-clause-ok : goal.returns-clause-ok
returns-clause-ok g c = ap (λ (v : IvfValue). Bare (Ivf v)) c.in_ok-give_all.ensures.ok
    ∙ sym (after_centroids_ivf c.args.self.now c.args.codes.now.codes)
