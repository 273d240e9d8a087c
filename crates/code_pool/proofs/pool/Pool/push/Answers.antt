use Rattle.std.proofs.Common.{◌≡◌, arith, to_z, of_z, w64}
use Rattle.std.proofs.lemmas.Int.{to_z-of_z}
use Rattle.code_pool.specs.Lists.{row_of}
use Rattle.code_pool.proofs.PoolLemmas.{list_spare, next_inside, pool_pushed}
use Rattle.code_pool.proofs.pool.Pool.push.Goals as goal

pub add_row-at-requires-clause-room : goal.add_row-at-requires-clause-room
add_row-at-requires-clause-room g c =
    omega (
      arith,
      c.requires.room,
      list_spare c.self.inside.rows c.self.inside.blocks c.args.self.now c.args.list c.self.view_is
          c.requires.exists,
    )

pub write-requires-clause-within : goal.write-requires-clause-within
write-requires-clause-within g c =
    let n = next_inside c.self.inside.rows c.self.inside.blocks c.args.self.now c.args.list c.self.invariant
    c.add_row-at.ensures.apart c.self.view_is c.requires.exists c.requires.room in
    rw c.add_row-at.ensures.place n.1

pub invariant_of-self : goal.invariant_of-self
invariant_of-self g c =
    let p = pool_pushed c.self.inside.rows c.write.new.self c.self.inside.blocks c.args.self.now c.args.list _ _
    c.self.invariant c.add_row-at.ensures.apart c.self.view_is c.requires.exists c.requires.room
    c.add_row-at.ensures.place c.write.ensures in
    rw c.add_row-at.ensures.chains p.0

pub returns : goal.returns
returns g c =
    let same : to_z w64 (of_z w64 c.args.label) ≡ c.args.label = to_z-of_z w64 c.args.label c.ranges.label in
    let p = pool_pushed c.self.inside.rows c.write.new.self c.self.inside.blocks c.args.self.now c.args.list _
    (row_of c.args.label c.args.code.now) c.self.invariant c.add_row-at.ensures.apart c.self.view_is
    c.requires.exists c.requires.room c.add_row-at.ensures.place
    (rw same at c.write.ensures) in
    rw c.add_row-at.ensures.chains p.1
