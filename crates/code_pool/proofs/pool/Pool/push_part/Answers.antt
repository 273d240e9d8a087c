use Rattle.std.proofs.Common.{◌≡◌, ◌+◌, ◌≤◌, ℕ, List, length, take, drop, ap, subst, sym, ◌∙◌, arith}
use Rattle.bcodes.specs.Value.{Row}
use Rattle.code_pool.specs.Chains.{BlockChains, IsStretch, chain_at, with_chain}
use Rattle.code_pool.specs.Inside.{IsPool, pool_in}
use Rattle.code_pool.specs.Lists.{PoolLists, list_at, rows_in, with_list, with_rows}
use Rattle.code_pool.proofs.RowLemmas.{length-rows_in}
use Rattle.code_pool.proofs.RunLemmas.{pool_run, run_inside}
use Rattle.code_pool.proofs.pool.Pool.push_part.Goals as goal

pub write_run-requires-clause-within : goal.write_run-requires-clause-within
write_run-requires-clause-within g c =
    let e = c.add_rows-stretch.ensures in
    rw c.part.ensures.labels
    (run_inside c.self.inside.rows c.self.inside.blocks c.args.self.now c.args.list c.add_rows-stretch.result.from
    c.add_rows-stretch.result.rows c.self.invariant e.apart c.self.view_is c.requires.exists e.some
    (omega (arith, e.most, c.requires.room, c.requires.from)) e.beside)

pub invariant_of-self : goal.invariant_of-self
invariant_of-self g c =
    let i = c.self.inside in
    let e = c.add_rows-stretch.ensures in
    let rows : List Row = rows_in i.rows.code_size c.part.result.labels.now c.part.result.codes.now in
    let count : length (rows_in i.rows.code_size c.part.result.labels.now c.part.result.codes.now)
    ≡ c.add_rows-stretch.result.rows = length-rows_in i.rows.code_size c.part.result.labels.now c.part.result.codes.now
    ∙ c.part.ensures.labels in
    let p = pool_run i.rows c.write_run.new.self i.blocks c.args.self.now c.args.list c.add_rows-stretch.result.from
    (rows_in i.rows.code_size c.part.result.labels.now c.part.result.codes.now) c.self.invariant e.apart c.self.view_is
    c.requires.exists (omega (arith, count, e.most, c.requires.room, c.requires.from)) (rw count e.beside)
    c.write_run.ensures in
    rw (e.chains, ← count) p.0

pub returns-clause-rows : goal.returns-clause-rows
returns-clause-rows g c =
    let i = c.self.inside in
    let e = c.add_rows-stretch.ensures in
    let size : i.rows.code_size ≡ c.args.self.now.code_size = ap (λ (p : PoolLists). p.code_size) c.self.view_is in
    let count : length (rows_in i.rows.code_size c.part.result.labels.now c.part.result.codes.now)
    ≡ c.add_rows-stretch.result.rows = length-rows_in i.rows.code_size c.part.result.labels.now c.part.result.codes.now
    ∙ c.part.ensures.labels in
    let p = pool_run i.rows c.write_run.new.self i.blocks c.args.self.now c.args.list c.add_rows-stretch.result.from
    (rows_in i.rows.code_size c.part.result.labels.now c.part.result.codes.now) c.self.invariant e.apart c.self.view_is
    c.requires.exists (omega (arith, count, e.most, c.requires.room, c.requires.from)) (rw count e.beside)
    c.write_run.ensures in
    ap (pool_in c.write_run.new.self) (e.chains
    ∙ ap (λ (n : ℕ). with_chain i.blocks (c.args.list + 1) (record {
      blocks = (chain_at i.blocks (c.args.list + 1)).blocks;
      len = (chain_at i.blocks (c.args.list + 1)).len + n;
    })) (sym count))
    ∙ p.1
    ∙ ap (λ (rs : List Row). with_list c.args.self.now c.args.list (with_rows (list_at c.args.self.now c.args.list) rs))
    (ap (λ (n : ℕ). rows_in n c.part.result.labels.now c.part.result.codes.now) size
    ∙ c.part.ensures.rows c.args.self.now.code_size c.requires.whole)
