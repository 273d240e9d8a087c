use Rattle.std.proofs.Common.{◌++◌, ℕ, List, length, refl, ap, ◌∙◌, arith}
use Rattle.std.proofs.lemmas.List.{length-map}
use Rattle.bcodes.specs.Value.{Row, CodeList}
use Rattle.code_pool.specs.Lists.{list_at}
use Rattle.flat_index.specs.Inside.{codes_in}
use Rattle.flat_index.proofs.AddLemmas.{added, flat_added, codes_added, few_inside, load_inside}
use Rattle.flat_index.proofs.flat.Flat.append.Goals as goal

pub reserve-requires-clause-few : goal.reserve-requires-clause-few
reserve-requires-clause-few g c =
    omega (
      arith,
      few_inside (record { dim = c.self.inside.dim.bits; codes = codes_in c.self.inside.pool }) c.args.self.now
          (length c.args.codes.now.codes) c.self.view_is c.requires.load,
      c.len.ensures.value,
      length-map (list_at c.self.inside.pool 0).rows (λ (row : Row). row.code),
    )

pub append_all-requires-clause-few : goal.append_all-requires-clause-few
append_all-requires-clause-few g c =
    omega (
      arith,
      few_inside (record { dim = c.self.inside.dim.bits; codes = codes_in c.self.inside.pool }) c.args.self.now
          (length c.args.codes.now.codes) c.self.view_is c.requires.load,
      c.len-count.ensures.value,
      length-map (list_at c.self.inside.pool 0).rows (λ (row : Row). row.code),
    )

pub invariant_of-self-2 : goal.invariant_of-self-2
invariant_of-self-2 g c =
    let a = added c.self.inside.pool c.reserve.new.self c.append_all.new.pool c.len-count.result _
    c.args.codes.now.codes c.in_ok-reserve.ensures.ok c.append_all.ensures.rows c.append_all.ensures.lists
    c.append_all.ensures.size in
    flat_added c.self.inside.dim.bits c.self.inside.pool c.append_all.new.pool c.len-count.result
    c.args.codes.now.codes c.self.invariant c.len-count.ensures.value a
    (load_inside (record { dim = c.self.inside.dim.bits; codes = codes_in c.self.inside.pool }) c.args.self.now
    (length c.args.codes.now.codes) c.args.codes.now.codes c.self.view_is refl c.requires.load)

pub returns-clause-ok : goal.returns-clause-ok
returns-clause-ok g c =
    let a = added c.self.inside.pool c.reserve.new.self c.append_all.new.pool c.len-count.result _
    c.args.codes.now.codes c.in_ok-reserve.ensures.ok c.append_all.ensures.rows c.append_all.ensures.lists
    c.append_all.ensures.size in
    ap (λ (ds : List (List ℕ)). record { dim = c.self.inside.dim.bits; codes = ds })
    (codes_added c.self.inside.pool c.append_all.new.pool c.len-count.result c.args.codes.now.codes a.rows)
    ∙ ap (λ (v : CodeList). record v { codes = v.codes ++ c.args.codes.now.codes }) c.self.view_is
