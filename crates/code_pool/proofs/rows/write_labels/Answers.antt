use Rattle.std.proofs.Common.{rules, ◌≡◌, ◌+◌, ◌<◌, ◌≤◌, pos, ℤ, List, length, take, set, get_or, FitsSigned, w64}
use Rattle.std.proofs.Common.{arith, ap, ◌∙◌, length-take}
use Rattle.std.proofs.lemmas.Int.{to_z-of_z}
use Rattle.std.proofs.lemmas.List.Elements.{All-more}
use Rattle.code_pool.proofs.RunLemmas.{length-put, put-next}
use Rattle.code_pool.proofs.rows.write_labels.Goals as goal

pub index_mut-requires : goal.index_mut-requires
index_mut-requires c =
    omega (
      arith,
      c.requires,
      c.loop-i-test.true,
      ap (λ (ls : List ℤ). length ls) c.loop-i.invariant.items,
      length-put c.args.labels.now.items c.args.at (take c.loop-i.i c.args.new.now)
          (omega (arith, c.requires, c.loop-i-test.true, length-take c.loop-i.i c.args.new.now)),
    )

pub loop-i-preserved : goal.loop-i-preserved
loop-i-preserved c =
    let v = c.loop-i.invariant in
    let i = c.loop-i.i in
    let label : ℤ = get_or c.args.new.now c.loop-i.i (pos 0) in
    let fits : FitsSigned w64 label = search rules in
    record {
      end = v.end;
      items = rw (to_z-of_z w64 label fits) (ap (λ (ls : List ℤ). set ls (c.args.at + i) label) v.items
          ∙ put-next c.args.labels.now.items c.args.at i c.args.new.now (pos 0) c.loop-i-test.true c.requires);
      fit = All-more (FitsSigned w64) c.args.new.now i (pos 0) c.loop-i-test.true v.fit fits;
    }
