use Rattle.faissb_core.proofs.RunLemmas.CheckRun.{bytes_fail, bytes_end}
use Rattle.faissb_core.proofs.runs.check.run_bytes.Goals as goal

pub returns-in-Err-clause-run : goal.returns-in-Err-clause-run
returns-in-Err-clause-run g c =
    bytes_fail c.args.bytes.now
    (record { written = g.K.Sink.written c.args.out.now; contents = g.H.Shelf.contents c.args.shelf.now })
    (record { written = g.K.Sink.written c.feed.new.out; contents = g.H.Shelf.contents c.feed.new.shelf })
    c.new-running.result c.in-Err.fault c.from.result c.new-running.ensures c.in-Err.ensures.lines c.from.ensures

pub returns-clause-run : goal.returns-clause-run
returns-clause-run g c =
    bytes_end c.args.bytes.now
    (record { written = g.K.Sink.written c.args.out.now; contents = g.H.Shelf.contents c.args.shelf.now })
    (record { written = g.K.Sink.written c.feed.new.out; contents = g.H.Shelf.contents c.feed.new.shelf })
    (record { written = g.K.Sink.written c.end_run.new.out; contents = g.H.Shelf.contents c.end_run.new.shelf })
    c.new-running.result c.feed.new.self c.end_run.result c.new-running.ensures c.in_default.ensures.tells
    c.in_default.ensures.lines c.end_run.ensures.end c.end_run.ensures.kind
