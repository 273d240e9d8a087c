use Rattle.std.proofs.Common.{rules, ◌≡◌, ◌≤◌, ◌+◌, ◌∙◌, sym, refl, ap, length, true, false, nat_le, Ok, arith}
use Rattle.bcodes.specs.Ranges.{load_limit}
use Rattle.bcodes.specs.Value.{code_size, count_of}
use Rattle.bcodes.specs.Answers.{after_centroids}
use Rattle.factory_text.specs.declared.spec.Spec.{Spec}
use Rattle.any_index.specs.Specs.{held_of}
use Rattle.faissb_core.specs.Language.Words.{words_of}
use Rattle.faissb_core.specs.Machine.State.{codes_of}
use Rattle.faissb_core.specs.Reply.Answer.{Held}
use Rattle.faissb_core.specs.Session.Room.{load_with}
use Rattle.faissb_core.proofs.SessionLemmas.OutcomeLemmas.{changes_to}
use Rattle.faissb_core.proofs.SessionLemmas.RoomLemmas.{ivf_is, held_is, held_after, centroids_heavy}
use Rattle.faissb_core.proofs.SessionLemmas.RoomLemmas.{centroids_given, light_after}
use Rattle.faissb_core.proofs.session.adding.give_centroids.Goals as goal

pub returns-then-not-is_light-clause-ok : goal.returns-then-not-is_light-clause-ok
returns-then-not-is_light-clause-ok c =
    let v = c.args.index.now in
    let more = c.in_ok-codes.codes.codes in
    let read : codes_of (code_size v) (words_of c.args.words.now) ≡ Ok more = rw c.dim.ensures.value at
    c.in_ok-codes.ensures.codes in
    let at = ivf_is v c.in-Ivf.lists (ap (λ (s : Spec). s.kind) (sym c.spec.ensures) ∙ c.in-Ivf.is) in
    let few : length at.0.centroids + length more ≤ at.0.nlist = omega (
      arith,
      c.if-held-from.false,
      c.from.ensures,
      c.held.ensures,
      c.len.ensures.value,
      c.from-2.ensures,
      at.2,
      held_is v at.0 at.1,
    ) in
    let heavy : nat_le (load_with v (count_of v) (held_of v + length more)) load_limit ≡ false = search rules in
    rw c.into-then-not-is_light.ensures (centroids_heavy v (words_of c.args.words.now) more at.0 read at.1 few heavy)

pub give_all-requires-clause-load : goal.give_all-requires-clause-load
give_all-requires-clause-load c =
    let v = c.args.index.now in
    let more = c.in_ok-codes.codes.codes in
    let at = ivf_is v c.in-Ivf.lists (ap (λ (s : Spec). s.kind) (sym c.spec.ensures) ∙ c.in-Ivf.is) in
    let light : nat_le (load_with v (count_of v) (held_of v + length more)) load_limit ≡ true = search rules in
    light_after v at.0 more at.1 light

pub returns-clause-ok : goal.returns-clause-ok
returns-clause-ok c =
    let v = c.args.index.now in
    let more = c.in_ok-codes.codes.codes in
    let read : codes_of (code_size v) (words_of c.args.words.now) ≡ Ok more = rw c.dim.ensures.value at
    c.in_ok-codes.ensures.codes in
    let at = ivf_is v c.in-Ivf.lists (ap (λ (s : Spec). s.kind) (sym c.spec.ensures) ∙ c.in-Ivf.is) in
    let few : length at.0.centroids + length more ≤ at.0.nlist = omega (
      arith,
      c.if-held-from.false,
      c.from.ensures,
      c.held.ensures,
      c.len.ensures.value,
      c.from-2.ensures,
      at.2,
      held_is v at.0 at.1,
    ) in
    let light : nat_le (load_with v (count_of v) (held_of v + length more)) load_limit ≡ true = search rules in
    let held : c.held-2.result ≡ length at.0.centroids + length more = c.held-2.ensures
    ∙ ap held_of c.in_ok-give_all.ensures.ok ∙ held_after v at.0 more at.1
    ∙ ap (λ n. n + length more) (held_is v at.0 at.1) in
    changes_to _ c.give_all.new.self (after_centroids v more) (Held (length at.0.centroids + length more) at.0.nlist) _
    (centroids_given v (words_of c.args.words.now) more at.0 read at.1 few light) c.in_ok-give_all.ensures.ok
    (rw (held, at.2) refl)
