use Rattle.std.proofs.Common.{ap, ◌∙◌, arith}
use Rattle.bcodes.specs.Ranges.{raised}
use Rattle.bcodes.specs.Value.{IdMap}
use Rattle.bcodes.specs.Answers.{within, looked}
use Rattle.id_map.specs.Mapped.{MappedValue}
use Rattle.id_map.proofs.HitLemmas.{within_mapped, within_places, looked_mapped}
use Rattle.id_map.proofs.id_mapped.IdMappedBinaryIndex.range.Goals as goal

pub put_ids-requires : goal.put_ids-requires
put_ids-requires g c =
    rw (c.in_ok-hits.ensures.ok, c.deref.ensures.value)
    (within_places (g.I.BinaryIndex.value c.self.inside.inner) c.self.inside.ids.items c.args.q.now c.args.radius c.self.invariant)

pub returns-clause-ok : goal.returns-clause-ok
returns-clause-ok g c =
    rw (c.put_ids.ensures, c.in_ok-hits.ensures.ok, c.deref.ensures.value)
    (within_mapped c.self.inside.name (g.I.BinaryIndex.value c.self.inside.inner) c.self.inside.ids.items c.args.q.now
    c.args.radius c.self.invariant
    ∙ ap (λ (m : MappedValue). within (IdMap m.name m.inner m.ids) c.args.q.now c.args.radius) c.self.view_is)

pub returns-clause-lent : goal.returns-clause-lent
returns-clause-lent g c =
    c.in_ok-hits.ensures.lent
    ∙ ap (raised c.args.meter.now.lent)
    (looked_mapped c.self.inside.name (g.I.BinaryIndex.value c.self.inside.inner) c.self.inside.ids.items c.args.q.now
    c.self.invariant
    ∙ ap (λ (m : MappedValue). looked (IdMap m.name m.inner m.ids) c.args.q.now) c.self.view_is)

pub returns-clause-lent_most : goal.returns-clause-lent_most
returns-clause-lent_most g c =
    omega (
      arith,
      c.in_ok-hits.ensures.lent_most,
      looked_mapped c.self.inside.name (g.I.BinaryIndex.value c.self.inside.inner) c.self.inside.ids.items
          c.args.q.now c.self.invariant
          ∙ ap (λ (m : MappedValue). looked (IdMap m.name m.inner m.ids) c.args.q.now) c.self.view_is,
    )

pub returns-in_err-hits-clause-lent_most : goal.returns-in_err-hits-clause-lent_most
returns-in_err-hits-clause-lent_most g c =
    omega (
      arith,
      c.in_err-hits.ensures.lent_most,
      looked_mapped c.self.inside.name (g.I.BinaryIndex.value c.self.inside.inner) c.self.inside.ids.items
          c.args.q.now c.self.invariant
          ∙ ap (λ (m : MappedValue). looked (IdMap m.name m.inner m.ids) c.args.q.now) c.self.view_is,
    )
