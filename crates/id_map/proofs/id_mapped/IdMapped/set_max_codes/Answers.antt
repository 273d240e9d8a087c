use Rattle.std.proofs.Common.{refl}
use Rattle.bcodes.specs.Value.{Ivf}
use Rattle.id_map.proofs.SettingLemmas.{ivf_there, ivf_inside, set_kept, changed_seen}
use Rattle.id_map.proofs.id_mapped.IdMapped.set_max_codes.Goals as goal

pub invariant_of-self : goal.invariant_of-self
invariant_of-self g c =
    let v = g.I.BinaryIndex.value c.self.inside.inner in
    let u = ivf_there c.args.self.now.inner c.requires.is_ivf in
    let there = ivf_inside c.self.inside.name v c.self.inside.ids.items c.args.self.now u.0 c.self.view_is u.1 in
    (set_kept v (g.I.BinaryIndex.value c.set_max_codes.new.self) c.self.inside.ids.items u.0 (record u.0 { max_codes = c.args.n })
    c.self.invariant there refl (c.set_max_codes.ensures u.0 there)).kept

pub returns : goal.returns
returns g c = λ u e.
    let v = g.I.BinaryIndex.value c.self.inside.inner in
    let there = ivf_inside c.self.inside.name v c.self.inside.ids.items c.args.self.now u c.self.view_is e in
    let changed = set_kept v (g.I.BinaryIndex.value c.set_max_codes.new.self) c.self.inside.ids.items u
    (record u { max_codes = c.args.n }) c.self.invariant there refl (c.set_max_codes.ensures u there) in
    changed_seen c.self.inside.name v (g.I.BinaryIndex.value c.set_max_codes.new.self) c.self.inside.ids.items
    (Ivf (record u { max_codes = c.args.n })) c.args.self.now c.self.view_is changed.is
