use Rattle.std.proofs.Common.{◌≡◌, ◌/◌, ◌%◌, ◌<◌, ℕ, Bool, Option, Some, None, List, [], false, get_or, length}
use Rattle.std.proofs.Common.{sym, ap, ◌∙◌, arith}
use Rattle.std.proofs.lemmas.List.{get_or_read}
use Rattle.multi_hash.specs.Seen.{is_set, is_set_on}
use Rattle.multi_hash.proofs.MarkLemmas.{length-marks, mark_at}
use Rattle.multi_hash.proofs.seen.Seen.contains.Goals as goal

pub index-requires : goal.index-requires
index-requires c = omega (
  arith,
  length-marks c.self.inside.count c.self.inside.places.items c.self.inside.pages.items,
  ap (length {A = Bool}) c.self.view_is,
  c.requires,
  c.self.invariant.covered,
)

pub index-requires-in-Some : goal.index-requires-in-Some
index-requires-in-Some c =
    let i = c.self.inside in
    let within : c.args.position / 4096 < length i.places.items = omega (
      arith,
      length-marks i.count i.places.items i.pages.items,
      ap (length {A = Bool}) c.self.view_is,
      c.requires,
      c.self.invariant.covered,
    ) in
    let here : get_or i.places.items (c.args.position / 4096) None ≡ Some c.in-Some.page =
    sym (get_or_read i.places.items (c.args.position / 4096) c.index.result.now within c.index.ensures None)
    ∙ c.in-Some.is in
    omega (arith, c.self.invariant.paged.below (c.args.position / 4096) c.in-Some.page here)

pub returns-in-None : goal.returns-in-None
returns-in-None c =
    let i = c.self.inside in
    let long : c.args.position < i.count = omega (
      arith,
      length-marks i.count i.places.items i.pages.items,
      ap (length {A = Bool}) c.self.view_is,
      c.requires,
    ) in
    let within : c.args.position / 4096 < length i.places.items = omega (arith, long, c.self.invariant.covered) in
    let here : get_or i.places.items (c.args.position / 4096) None ≡ None =
    sym (get_or_read i.places.items (c.args.position / 4096) c.index.result.now within c.index.ensures None)
    ∙ c.in-None.is in
    sym (ap (λ (ts : List Bool). get_or ts c.args.position false) (sym c.self.view_is)
    ∙ mark_at i.count i.places.items i.pages.items c.args.position false long
    ∙ ap (λ (o : Option ℕ). is_set_on i.pages.items o (c.args.position % 4096)) here)

pub returns-in-Some : goal.returns-in-Some
returns-in-Some c =
    let i = c.self.inside in
    let long : c.args.position < i.count = omega (
      arith,
      length-marks i.count i.places.items i.pages.items,
      ap (length {A = Bool}) c.self.view_is,
      c.requires,
    ) in
    let within : c.args.position / 4096 < length i.places.items = omega (arith, long, c.self.invariant.covered) in
    let here : get_or i.places.items (c.args.position / 4096) None ≡ Some c.in-Some.page =
    sym (get_or_read i.places.items (c.args.position / 4096) c.index.result.now within c.index.ensures None)
    ∙ c.in-Some.is in
    let low : c.in-Some.page < length i.pages.items = c.self.invariant.paged.below (c.args.position / 4096)
    c.in-Some.page here in
    let page : c.index-in-Some.result.now ≡ get_or i.pages.items c.in-Some.page [] =
    get_or_read i.pages.items c.in-Some.page c.index-in-Some.result.now low c.index-in-Some.ensures [] in
    c.has_bit.ensures
    ∙ ap (λ (p : List ℕ). is_set p (c.args.position % 4096)) page
    ∙ sym (ap (λ (ts : List Bool). get_or ts c.args.position false) (sym c.self.view_is)
    ∙ mark_at i.count i.places.items i.pages.items c.args.position false long
    ∙ ap (λ (o : Option ℕ). is_set_on i.pages.items o (c.args.position % 4096)) here)
