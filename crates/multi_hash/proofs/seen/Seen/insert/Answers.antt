use Rattle.std.proofs.Common.{◌≡◌, ◌/◌, ◌%◌, ◌<◌, ℕ, Bool, List, [], false, true, not, get_or, set, length}
use Rattle.std.proofs.Common.{vec_capacity, refl, sym, ap, ◌∙◌, arith}
use Rattle.std.proofs.lemmas.List.{get_or_read}
use Rattle.multi_hash.specs.Seen.{is_set, is_marked}
use Rattle.multi_hash.proofs.MarkLemmas.{length-marks, mark_at, map_same, marks_more, page_written, was_on}
use Rattle.multi_hash.proofs.seen.Seen.insert.Goals as goal

pub page_of-page-requires-clause-exists : goal.page_of-page-requires-clause-exists
page_of-page-requires-clause-exists c = omega (
  arith,
  length-marks c.self.inside.count c.self.inside.places.items c.self.inside.pages.items,
  ap (length {A = Bool}) c.self.view_is,
  c.requires,
  c.self.invariant.covered,
)

pub invariant_of-self : goal.invariant_of-self
invariant_of-self c =
    let made = c.page_of-page in
    record {
      covered = omega (arith, c.self.invariant.covered, made.ensures.runs);
      paged = page_written made.new.places.items made.new.pages.items (vec_capacity made.new.pages)
          (c.args.position / 4096) made.result made.ensures.paged made.ensures.here c.set_bit.new.page
          c.set_bit.ensures.words;
    }

pub returns-clause-fresh : goal.returns-clause-fresh
returns-clause-fresh c =
    let i = c.self.inside in
    let made = c.page_of-page in
    let long : c.args.position < i.count = omega (
      arith,
      length-marks i.count i.places.items i.pages.items,
      ap (length {A = Bool}) c.self.view_is,
      c.requires,
    ) in
    let low : made.result < length made.new.pages.items = made.ensures.paged.below (c.args.position / 4096) made.result
    made.ensures.here in
    let page : c.index_mut.result.now ≡ get_or made.new.pages.items made.result [] =
    get_or_read made.new.pages.items made.result c.index_mut.result.now low c.index_mut.ensures.value [] in
    c.set_bit.ensures.fresh
    ∙ ap not (ap (λ (p : List ℕ). is_set p (c.args.position % 4096)) page
    ∙ sym (was_on made.new.places.items made.new.pages.items (vec_capacity made.new.pages) (c.args.position / 4096)
    made.result made.ensures.paged made.ensures.here c.set_bit.new.page c.set_bit.ensures.words c.args.position refl)
    ∙ made.ensures.same c.args.position
    ∙ sym (mark_at i.count i.places.items i.pages.items c.args.position false long)
    ∙ ap (λ (ts : List Bool). get_or ts c.args.position false) c.self.view_is)

pub returns-clause-marked : goal.returns-clause-marked
returns-clause-marked c =
    let i = c.self.inside in
    let made = c.page_of-page in
    let long : c.args.position < i.count = omega (
      arith,
      length-marks i.count i.places.items i.pages.items,
      ap (length {A = Bool}) c.self.view_is,
      c.requires,
    ) in
    let low : made.result < length made.new.pages.items = made.ensures.paged.below (c.args.position / 4096) made.result
    made.ensures.here in
    let page : c.index_mut.result.now ≡ get_or made.new.pages.items made.result [] =
    get_or_read made.new.pages.items made.result c.index_mut.result.now low c.index_mut.ensures.value [] in
    marks_more made.new.places.items made.new.pages.items (vec_capacity made.new.pages) (c.args.position / 4096)
    made.result made.ensures.paged made.ensures.here c.set_bit.new.page c.set_bit.ensures.words
    i.count c.args.position long refl
    c.set_bit.ensures.set
    (λ k ne. c.set_bit.ensures.others k ne ∙ ap (λ (p : List ℕ). is_set p k) page)
    ∙ ap (λ (ts : List Bool). set ts c.args.position true)
    (map_same (is_marked i.places.items i.pages.items) (is_marked made.new.places.items made.new.pages.items) 0 i.count
    made.ensures.same
    ∙ c.self.view_is)
