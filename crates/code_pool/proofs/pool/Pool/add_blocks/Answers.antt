use Rattle.std.proofs.Common.{◌+◌, ◌*◌, ◌≤◌, arith, length}
use Rattle.std.proofs.Math.Nat.{mul-le-mul_right}
use Rattle.std.proofs.lemmas.Result.{err_from_is_err_and}
use Rattle.code_pool.proofs.PoolLemmas.{pool_grown, pool_added}
use Rattle.code_pool.proofs.pool.Pool.add_blocks.Goals as goal

pub grow-requires-clause-few : goal.grow-requires-clause-few
grow-requires-clause-few g c =
    let size = c.self.inside.rows.code_size in
    let rows : c.max-rows.result ≤ 17179869176 = omega (
      arith,
      c.max-rows.ensures,
      c.len.ensures.value,
      c.self.invariant.most,
      c.if-all-gt-MOST_BLOCKS.false,
    ) in
    let first : c.max-rows.result * size ≤ 17179869176 * size = mul-le-mul_right size rows in
    omega (arith, c.self.invariant.size)

pub returns-in_err-grow-2-clause-err : goal.returns-in_err-grow-2-clause-err
returns-in_err-grow-2-clause-err g c =
    let p = err_from_is_err_and c.from_residual-in_err-grow-2.result c.from_residual-in_err-grow-2.ensures.1 in
    let e = c.in_ok-grow.ensures in
    let most : length c.grow.new.self.rows ≤ 17179869176 = omega (
      arith,
      e.ok,
      c.max-rows.ensures,
      c.len.ensures.value,
      c.self.invariant.most,
      c.if-all-gt-MOST_BLOCKS.false,
    ) in
    rw (p.1, c.in_err-grow-2.ensures.err)
    (pool_grown c.self.inside.rows c.grow.new.self c.self.inside.blocks c.args.self.now c.self.invariant
    c.all.ensures.apart c.self.view_is e.size e.rows most).1

pub returns-clause-ok : goal.returns-clause-ok
returns-clause-ok g c =
    let e = c.in_ok-grow.ensures in
    let most : length c.grow.new.self.rows ≤ 17179869176 = omega (
      arith,
      e.ok,
      c.max-rows.ensures,
      c.len.ensures.value,
      c.self.invariant.most,
      c.if-all-gt-MOST_BLOCKS.false,
    ) in
    let room : 4 * (c.self.inside.blocks.all + c.args.n) ≤ length c.grow.new.self.rows = omega
    (arith, e.ok, c.max-rows.ensures, c.all.ensures.value) in
    rw c.in_ok-grow-2.ensures.ok
    (pool_added c.self.inside.rows c.grow.new.self c.self.inside.blocks c.args.self.now c.args.list c.args.n
    c.self.invariant c.all.ensures.apart c.self.view_is c.requires.exists e.size e.rows room most).1
