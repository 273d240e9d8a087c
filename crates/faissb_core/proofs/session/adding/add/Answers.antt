use Rattle.std.proofs.Common.{rules, ◌≡◌, ◌∙◌, sym, refl, ℤ, List, length, Ok, Err}
use Rattle.bcodes.specs.Value.{code_size, count_of, labels_from}
use Rattle.bcodes.specs.Answers.{after_add}
use Rattle.bcodes.proofs.NumberedLemmas.{length-labels_from}
use Rattle.faissb_core.specs.Language.Words.{words_of}
use Rattle.faissb_core.specs.Machine.Adding.{add}
use Rattle.faissb_core.specs.Machine.State.{codes_of}
use Rattle.faissb_core.specs.Reply.Answer.{Added}
use Rattle.faissb_core.proofs.SessionLemmas.OutcomeLemmas.{changes_to}
use Rattle.faissb_core.proofs.SessionLemmas.RoomLemmas.{add_is, appended}
use Rattle.faissb_core.proofs.session.adding.add.Goals as goal

pub returns-in_err-check_room-clause-ok : goal.returns-in_err-check_room-clause-ok
returns-in_err-check_room-clause-ok c =
    let v = c.args.index.now in
    let added = c.in_ok-codes.codes.codes in
    let read : codes_of (code_size v) (words_of c.args.words.now) ≡ Ok added = rw c.dim.ensures.value at
    c.in_ok-codes.ensures.codes in
    let refuses : add (words_of c.args.words.now) v ≡ Err c.in_err-check_room.field-0.0 =
    add_is v (words_of c.args.words.now) added read (sym c.needs_ids.ensures ∙ c.if-needs_ids.false)
    ∙ c.in_err-check_room.ensures.err (labels_from (count_of v) (length added)) added
    (length-labels_from (count_of v) (length added)) (sym c.len.ensures.value) in
    rw refuses (search rules)

pub add-requires-clause-load : goal.add-requires-clause-load
add-requires-clause-load c =
    let added = c.in_ok-codes.codes.codes in
    c.in_ok-check_room.ensures.ok.light (labels_from (count_of c.args.index.now) (length added)) added
    (length-labels_from (count_of c.args.index.now) (length added)) (sym c.len.ensures.value)

pub returns-clause-ok : goal.returns-clause-ok
returns-clause-ok c =
    let v = c.args.index.now in
    let added = c.in_ok-codes.codes.codes in
    let labels : List ℤ = labels_from (count_of v) (length added) in
    let read : codes_of (code_size v) (words_of c.args.words.now) ≡ Ok added = rw c.dim.ensures.value at
    c.in_ok-codes.ensures.codes in
    let room = rw c.len.ensures.value at c.in_ok-check_room.ensures.ok in
    let is = add_is v (words_of c.args.words.now) added read (sym c.needs_ids.ensures ∙ c.if-needs_ids.false)
    ∙ appended v labels added room (length-labels_from (count_of v) (length added)) in
    changes_to _ c.add.new.self (after_add v labels added)
    (Added (length added) (count_of (after_add v labels added))) _ is c.in_ok-add.ensures.ok
    (rw (c.len-2.ensures.value, c.count.ensures, c.in_ok-add.ensures.ok) refl)
