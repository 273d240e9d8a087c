use Rattle.std.proofs.Common.{rules, ◌≡◌, Bool, true, Ok, subst}
use Rattle.outside.specs.Calls.{WhereTold, Opens}
use Rattle.faissb_core.specs.Session.Followed.{state_of}
use Rattle.faissb_core.proofs.SessionLemmas.AppliedLemmas.{loaded_whole, loaded_faulty}
use Rattle.faissb_core.proofs.session.files.load.Goals as goal

pub returns-in-Ok-clause-applies : goal.returns-in-Ok-clause-applies
returns-in-Ok-clause-applies g c = λ shards.
    let there : c.in_ok-open.field-0 ≡ true = search rules in
    let opens = subst (λ (b : Bool). WhereTold (g.H.Shelf.contents c.args.shelf.now)
    (g.H.Shelf.contents c.open.new.self) (Opens c.args.name.now (Ok b))) there c.in_ok-open.ensures.contents in
    loaded_whole c.args.name.now (state_of c.args.index.now shards) c.in-Ok.loaded c.count-total.result
    (g.H.Shelf.contents c.args.shelf.now) (g.H.Shelf.contents c.open.new.self)
    (g.H.Shelf.contents c.decode.new.shelf) opens c.in-Ok.ensures.files c.in-Ok.ensures.ok c.count-total.ensures

pub returns-in-Err-Bad-clause-applies : goal.returns-in-Err-Bad-clause-applies
returns-in-Err-Bad-clause-applies g c = λ shards.
    let there : c.in_ok-open.field-0 ≡ true = search rules in
    let opens = subst (λ (b : Bool). WhereTold (g.H.Shelf.contents c.args.shelf.now)
    (g.H.Shelf.contents c.open.new.self) (Opens c.args.name.now (Ok b))) there c.in_ok-open.ensures.contents in
    loaded_faulty c.args.name.now (state_of c.args.index.now shards) c.in-Err-Bad.fault
    (g.H.Shelf.contents c.args.shelf.now) (g.H.Shelf.contents c.open.new.self)
    (g.H.Shelf.contents c.decode.new.shelf) opens c.in-Err-Bad.ensures.files
    (λ told. c.in-Err-Bad.ensures.bad told c.in-Err-Bad.fault (search rules))
