use Rattle.std.proofs.Common.{rules, ◌≡◌, ◌∙◌, sym, refl, ap, ℤ, List, length, map, true, Ok, Err}
use Rattle.bcodes.specs.Value.{code_size, count_of, takes_ids}
use Rattle.bcodes.specs.Answers.{after_add}
use Rattle.faissb_core.specs.Language.Words.{IdWord}
use Rattle.faissb_core.specs.Language.Grammar.{pairs_in}
use Rattle.faissb_core.specs.Machine.Adding.{add_ids}
use Rattle.faissb_core.specs.Machine.State.{codes_of}
use Rattle.faissb_core.specs.Reply.Answer.{Added}
use Rattle.faissb_core.proofs.SessionLemmas.OutcomeLemmas.{changes_to}
use Rattle.faissb_core.proofs.SessionLemmas.RoomLemmas.{add_ids_is, appended, same_count}
use Rattle.faissb_core.proofs.session.adding.add_ids.Goals as goal

pub returns-in_err-check_room-clause-ok : goal.returns-in_err-check_room-clause-ok
returns-in_err-check_room-clause-ok c =
    let v = c.args.index.now in
    let pairs = pairs_in c.args.words.text.now in
    let added = c.in_ok-ids.codes.codes in
    let read : codes_of (code_size v) (map (λ (p : IdWord). p.word) pairs) ≡ Ok added = rw c.dim.ensures.value at
    c.in_ok-ids.ensures.codes in
    let takes : takes_ids v ≡ true = search rules in
    let refuses : add_ids pairs v ≡ Err c.in_err-check_room.field-0.0 = add_ids_is v pairs added read takes
    ∙ c.in_err-check_room.ensures.err (map (λ (p : IdWord). p.id) pairs) added
    (same_count (code_size v) pairs added read) (sym c.len.ensures.value) in
    rw refuses (search rules)

pub add_ids-requires-clause-same_count : goal.add_ids-requires-clause-same_count
add_ids-requires-clause-same_count c =
    let v = c.args.index.now in
    let pairs = pairs_in c.args.words.text.now in
    let added = c.in_ok-ids.codes.codes in
    let read : codes_of (code_size v) (map (λ (p : IdWord). p.word) pairs) ≡ Ok added = rw c.dim.ensures.value at
    c.in_ok-ids.ensures.codes in
    ap length (c.deref.ensures.value ∙ c.in_ok-ids.ensures.ids) ∙ same_count (code_size v) pairs added read

pub add_ids-requires-clause-load : goal.add_ids-requires-clause-load
add_ids-requires-clause-load c =
    let v = c.args.index.now in
    let pairs = pairs_in c.args.words.text.now in
    let added = c.in_ok-ids.codes.codes in
    let read : codes_of (code_size v) (map (λ (p : IdWord). p.word) pairs) ≡ Ok added = rw c.dim.ensures.value at
    c.in_ok-ids.ensures.codes in
    c.in_ok-check_room.ensures.ok.light c.deref.result.now added
    (ap length (c.deref.ensures.value ∙ c.in_ok-ids.ensures.ids) ∙ same_count (code_size v) pairs added read)
    (sym c.len.ensures.value)

pub returns-clause-ok : goal.returns-clause-ok
returns-clause-ok c =
    let v = c.args.index.now in
    let pairs = pairs_in c.args.words.text.now in
    let ids : List ℤ = map (λ (p : IdWord). p.id) pairs in
    let added = c.in_ok-ids.codes.codes in
    let read : codes_of (code_size v) (map (λ (p : IdWord). p.word) pairs) ≡ Ok added = rw c.dim.ensures.value at
    c.in_ok-ids.ensures.codes in
    let takes : takes_ids v ≡ true = search rules in
    let room = rw c.len.ensures.value at c.in_ok-check_room.ensures.ok in
    let is = add_ids_is v pairs added read takes
    ∙ appended v ids added room (same_count (code_size v) pairs added read) in
    let new : c.add_ids.new.self ≡ after_add v ids added = c.in_ok-add_ids.ensures.ok
    ∙ ap (λ (ls : List ℤ). after_add v ls added) (c.deref.ensures.value ∙ c.in_ok-ids.ensures.ids) in
    changes_to _ c.add_ids.new.self (after_add v ids added)
    (Added (length added) (count_of (after_add v ids added))) _ is new
    (rw (c.len-2.ensures.value, c.count.ensures, new) refl)
