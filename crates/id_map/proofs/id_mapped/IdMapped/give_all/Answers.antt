use Rattle.std.proofs.Common.{◌≡◌, ◌≤◌, sym, subst, ap, ◌∙◌}
use Rattle.bcodes.specs.Ranges.{load_limit}
use Rattle.bcodes.specs.Value.{IndexValue, Bare, inner_of, load_of, load_of_inner}
use Rattle.bcodes.specs.Answers.{after_centroids, given_inner}
use Rattle.id_map.specs.Mapped.{MappedValue}
use Rattle.id_map.proofs.RowLemmas.{bare_is}
use Rattle.id_map.proofs.SettingLemmas.{after_centroids_bare, given_kept, changed_seen}
use Rattle.id_map.proofs.id_mapped.IdMapped.give_all.Goals as goal

pub give_all-requires-clause-load : goal.give_all-requires-clause-load
give_all-requires-clause-load g c =
    let v = g.I.BinaryIndex.value c.self.inside.inner in
    let cs = c.args.codes.now.codes in
    let is : after_centroids v cs ≡ Bare (given_inner (inner_of v) cs)
    = ap (λ (w : IndexValue). after_centroids w cs) (bare_is v c.self.invariant.bare)
    ∙ after_centroids_bare (inner_of v) cs in
    subst (λ (w : IndexValue). load_of w ≤ load_limit) (sym is)
    (subst (λ (m : MappedValue). load_of_inner (given_inner m.inner cs) ≤ load_limit) (sym c.self.view_is) c.requires.load)

pub invariant_of-self-2 : goal.invariant_of-self-2
invariant_of-self-2 g c =
    (given_kept (g.I.BinaryIndex.value c.self.inside.inner) (g.I.BinaryIndex.value c.give_all.new.self)
    c.self.inside.ids.items c.args.codes.now.codes c.self.invariant c.in_ok-give_all.ensures.ok).kept

pub returns-clause-ok : goal.returns-clause-ok
returns-clause-ok g c =
    let v = g.I.BinaryIndex.value c.self.inside.inner in
    let w = g.I.BinaryIndex.value c.give_all.new.self in
    let cs = c.args.codes.now.codes in
    let changed = given_kept v w c.self.inside.ids.items cs c.self.invariant c.in_ok-give_all.ensures.ok in
    changed_seen c.self.inside.name v w c.self.inside.ids.items (given_inner (inner_of v) cs) c.args.self.now
    c.self.view_is changed.is
    ∙ ap (λ (m : MappedValue). record c.args.self.now { inner = given_inner m.inner cs }) c.self.view_is
