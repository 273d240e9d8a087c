use Rattle.std.proofs.Common.{◌≡◌, None, get_or, length, vec_capacity}
use Rattle.std.proofs.Common.{sym, ◌∙◌, arith}
use Rattle.std.proofs.lemmas.List.{get_or_read}
use Rattle.multi_hash.proofs.MarkLemmas.{free_place, page_made, page_same}
use Rattle.multi_hash.proofs.seen.page_of.Goals as goal

pub push_reserved-requires : goal.push_reserved-requires
push_reserved-requires c =
    let free : get_or c.args.places.now.items c.args.run None ≡ None
    = sym (get_or_read c.args.places.now.items c.args.run c.index.result.now c.requires.exists c.index.ensures None)
    ∙ c.in-None.is in
    omega (
      arith,
      free_place c.args.places.now.items c.args.pages.now.items (vec_capacity c.args.pages.now) c.args.run
          c.requires.paged c.requires.exists free,
      c.requires.paged.enough,
    )

pub returns-in-None-clause-paged : goal.returns-in-None-clause-paged
returns-in-None-clause-paged c =
    let free : get_or c.args.places.now.items c.args.run None ≡ None
    = sym (get_or_read c.args.places.now.items c.args.run c.index.result.now c.requires.exists c.index.ensures None)
    ∙ c.in-None.is in
    let count : c.len-page.result ≡ length c.args.pages.now.items = c.len-page.ensures ∙ c.args.pages.now.ok.0 in
    rw (c.push_reserved.ensures.items, c.push_reserved.ensures.capacity, count)
    (page_made c.args.places.now.items c.args.pages.now.items (vec_capacity c.args.pages.now) c.args.run
    c.requires.paged c.requires.exists free)

pub returns-in-None-clause-same : goal.returns-in-None-clause-same
returns-in-None-clause-same c i =
    let free : get_or c.args.places.now.items c.args.run None ≡ None
    = sym (get_or_read c.args.places.now.items c.args.run c.index.result.now c.requires.exists c.index.ensures None)
    ∙ c.in-None.is in
    let count : c.len-page.result ≡ length c.args.pages.now.items = c.len-page.ensures ∙ c.args.pages.now.ok.0 in
    rw (c.push_reserved.ensures.items, count)
    (page_same c.args.places.now.items c.args.pages.now.items (vec_capacity c.args.pages.now) c.args.run
    c.requires.paged c.requires.exists free i)
