use Rattle.std.proofs.Common.{◌≡◌, ℕ, ◌+◌, ◌∙◌, ap, rules, arith}
use Rattle.bcodes.specs.Value.{IndexValue}
use Rattle.bcodes.specs.Marks.{range_mark}
use Rattle.faissb_core.specs.declared.sample.tally.Tally.{Tally}
use Rattle.faissb_core.specs.Machine.Sample.{sample_queries, tallied}
use Rattle.faissb_core.proofs.SampleLemmas.{bit-le, tallied-more, tallied-none}
use Rattle.faissb_core.proofs.sample.queries.ask_all.Goals as goal

pub loop-j-init : goal.loop-j-init
loop-j-init g c = record {
  tally = c.new-tally.ensures
      ∙ tallied-none (g.I.BinaryIndex.value c.args.index.now) c.args.seed c.args.count;
  hits = omega (arith, ap (λ (t : Tally). t.hits) c.new-tally.ensures);
  looked = omega (arith, ap (λ (t : Tally). t.looked) c.new-tally.ensures);
  exact = omega (arith, ap (λ (t : Tally). t.exact) c.new-tally.ensures);
}

pub loop-j-preserved : goal.loop-j-preserved
loop-j-preserved g c =
    let v = g.I.BinaryIndex.value c.args.index.now in
    record {
      tally = c.add.ensures
          ∙ tallied-more v c.args.seed c.args.count c.loop-j.j c.loop-j.tally
          c.in_ok-one.one c.loop-j.invariant.tally (search rules) (search rules) (search rules);
      hits = omega (arith, ap (λ (t : Tally). t.hits) c.add.ensures, c.in_ok-one.ensures.small.0);
      looked = omega (arith, ap (λ (t : Tally). t.looked) c.add.ensures, c.in_ok-one.ensures.small.1);
      exact = omega (
        arith,
        ap (λ (t : Tally). t.exact) c.add.ensures,
        c.in_ok-one.ensures.exact,
        bit-le (range_mark v c.sample_query.result 8),
      );
    }

pub returns : goal.returns
returns g c =
    let all : c.loop-j.j ≡ 64 = omega arith in
    c.loop-j.invariant.tally
    ∙ ap (λ (n : ℕ). tallied (g.I.BinaryIndex.value c.args.index.now) (sample_queries c.args.seed c.args.count n)) all
    ∙ ap (λ (v : IndexValue). tallied v (sample_queries c.args.seed c.args.count 64)) c.requires.index
