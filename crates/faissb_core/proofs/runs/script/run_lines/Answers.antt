use Rattle.std.proofs.Common.{rules, arith, ◌≡◌, take, length, subst}
use Rattle.std.proofs.lemmas.List.{length-take}
use Rattle.std.specs.Io.KnownBytes.{Consumes}
use Rattle.outside.specs.Causes.{RisesBy}
use Rattle.faissb_core.proofs.RunLemmas.ScriptRun.{SoFar-read, SoFar-start, run-end, run-fault, run-long, run-fails}
use Rattle.faissb_core.proofs.runs.script.run_lines.Goals as goal

pub returns-in-Ok-eq0-clause-run : goal.returns-in-Ok-eq0-clause-run
returns-in-Ok-eq0-clause-run g c =
    let none : c.in-Ok-eq0.field-0 ≡ 0 = c.in-Ok-eq0.field-0-test in
    let at_end = c.in-Ok-eq0.ensures.bytes.1 none (omega arith) in
    let consumed = subst (λ n. Consumes (g.S.Source.left c.loop-count.script) (g.S.Source.left c.read.new.self)
    (take n c.read.new.buf)) none c.in-Ok-eq0.ensures.bytes.0 in
    let still = subst (λ n. RisesBy (g.S.Source.taken c.loop-count.script) (g.S.Source.taken c.read.new.self) n) none
    c.in-Ok-eq0.ensures.count in
    run-end _ _ _ _ _ _ _ _ _ c.loop-count.invariant.far consumed still at_end c.loop-count-test.true
    c.end_run.ensures.end c.end_run.ensures.kind

pub returns-in-Err-clause-run : goal.returns-in-Err-clause-run
returns-in-Err-clause-run g c =
    run-fault _ _ _ _ _ _ _ c.loop-count.invariant.far c.in-Err.ensures.bytes c.in-Err.ensures.count
    c.loop-count-test.true

pub returns-in-Err-feed-clause-run : goal.returns-in-Err-feed-clause-run
returns-in-Err-feed-clause-run g c =
    let len : c.in-Ok.len
    ≡ length (take c.in-Ok.len c.read.new.buf) = omega
    (arith, length-take c.in-Ok.len c.read.new.buf, c.in-Ok.ensures.bound) in
    run-fails _ _ _ _ _ _ _ _ _ _ c.loop-count.invariant.far c.in-Ok.ensures.bytes.0 c.in-Ok.ensures.count len _ _
    (omega (arith, c.in-Ok.ensures.bound)) c.in-Err-feed.ensures.lines c.from.ensures

pub loop-count-init : goal.loop-count-init
loop-count-init g c = record {
  far = SoFar-start _ _ _ c.requires.first;
  few = search rules;
  script_same = search rules;
  out_same = search rules;
  shelf_same = search rules;
}

pub loop-count-preserved : goal.loop-count-preserved
loop-count-preserved g c =
    let len : c.in-Ok.len
    ≡ length (take c.in-Ok.len c.read.new.buf) = omega
    (arith, length-take c.in-Ok.len c.read.new.buf, c.in-Ok.ensures.bound) in
    record {
      far = SoFar-read _ _ _ _ _ _ _ _ _ _ c.loop-count.invariant.far c.in-Ok.ensures.bytes.0 c.in-Ok.ensures.count len
          _ c.in_default.ensures.tells c.in_default.ensures.lines;
      few = search rules;
      script_same = search rules;
      out_same = search rules;
      shelf_same = search rules;
    }

pub returns-clause-run : goal.returns-clause-run
returns-clause-run g c =
    run-long _ _ _ _ _ _ c.loop-count.invariant.far c.loop-count.invariant.few (omega arith)
