use Rattle.std.proofs.Common.{refl, sym, subst}
use Rattle.bcodes.specs.Value.{Ivf, IndexValue}
use Rattle.id_map.specs.Inside.{IsMapped}
use Rattle.id_map.proofs.SettingLemmas.{ivf_there, ivf_inside, set_kept, changed_seen}
use Rattle.id_map.proofs.id_mapped.IdMapped.set_direct.Goals as goal
use Rattle.id_map.proofs.id_mapped.IdMapped.set_direct.Goals.{in-Ok, in-Err}

pub invariant_of-self : goal.invariant_of-self
invariant_of-self g c =
    let v = g.I.BinaryIndex.value c.self.inside.inner in
    let u = ivf_there c.args.self.now.inner c.requires.is_ivf in
    let there = ivf_inside c.self.inside.name v c.self.inside.ids.items c.args.self.now u.0 c.self.view_is u.1 in
    elim c.match-set_direct.branch [
      | in-Ok w ↦ (set_kept v (g.I.BinaryIndex.value c.set_direct.new.self) c.self.inside.ids.items u.0
          (record u.0 { direct = c.args.on }) c.self.invariant there refl (w.in-Ok.ensures.ok u.0 there)).kept
      | in-Err w ↦ subst (λ (x : IndexValue). IsMapped x c.self.inside.ids.items) (sym w.in-Err.ensures.err)
          c.self.invariant
    ]

pub returns-clause-ok : goal.returns-clause-ok
returns-clause-ok g c =
    let v = g.I.BinaryIndex.value c.self.inside.inner in
    elim c.match-set_direct.branch [
      | in-Ok w ↦ rw w.result-is (λ u e.
          let there = ivf_inside c.self.inside.name v c.self.inside.ids.items c.args.self.now u c.self.view_is e in
          let changed = set_kept v (g.I.BinaryIndex.value c.set_direct.new.self) c.self.inside.ids.items u
          (record u { direct = c.args.on }) c.self.invariant there refl (w.in-Ok.ensures.ok u there) in
          changed_seen c.self.inside.name v (g.I.BinaryIndex.value c.set_direct.new.self) c.self.inside.ids.items
          (Ivf (record u { direct = c.args.on })) c.args.self.now c.self.view_is changed.is)
      | in-Err w ↦ rw w.result-is tt
    ]

pub returns-clause-numbered : goal.returns-clause-numbered
returns-clause-numbered g c = λ on.
    let v = g.I.BinaryIndex.value c.self.inside.inner in
    elim c.match-set_direct.branch [
      | in-Ok w ↦ rw w.result-is (λ u e.
          w.in-Ok.ensures.numbered on u
          (ivf_inside c.self.inside.name v c.self.inside.ids.items c.args.self.now u c.self.view_is e))
      | in-Err w ↦ rw w.result-is tt
    ]
