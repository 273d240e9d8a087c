use Rattle.std.proofs.Common.{◌≡◌, ℕ, List, Ok, length, replicate, sym, ap, ◌∙◌}
use Rattle.std.specs.List.{range_with_len}
use Rattle.std.proofs.lemmas.Result.{err_from_is_err_and}
use Rattle.bcodes.specs.Value.{MultiValue}
use Rattle.file_parts.specs.declared.part_error.PartError.TheVariants.{Failed}
use Rattle.file_parts.specs.declared.reason.Reason.TheVariants as reason
use Rattle.file_parts.specs.declared.role.Role.TheVariants.{Within}
use Rattle.file_parts.specs.Feeding.{place}
use Rattle.file_parts.specs.Fields.{HeadValue, at_most, each, header, number}
use Rattle.file_parts.specs.Format.{done}
use Rattle.file_parts.specs.Heads.{view_head}
use Rattle.index_files.specs.FlatFormat.{flat_inside}
use Rattle.index_files.specs.MultiFormat.{map_fields, multi_b_checks, multi_body, nhash_checks}
use Rattle.index_files.proofs.LoadLemmas.{told_kept}
use Rattle.index_files.proofs.MultiParts.{fits_multi, from_b, from_maps, from_nflip, from_nhash, from_storage}
use Rattle.index_files.proofs.MultiParts.{made, multi_is, no_error, stays_calm, stays_then, then_fails, then_read}
use Rattle.index_files.proofs.reading.multi.read_multi.Goals as goal

pub returns-in_err-head-clause-gives : goal.returns-in_err-head-clause-gives
returns-in_err-head-clause-gives g c = λ told. (
    let role = c.args.role in
    let p0 = place g.H.Shelf.contents c.args.feed.now in
    let s0 = multi_is role p0 in
    let t0 = told in
    let r = err_from_is_err_and c.from_residual.result c.from_residual.ensures.1 in
    rw (r.1, r.2) (then_fails c.in_err-head.field-0.0 (multi_body role) (header role) from_storage p0 p0 s0
    (c.in_err-head.ensures.gives t0)))

pub returns-in_err-storage-clause-gives : goal.returns-in_err-storage-clause-gives
returns-in_err-storage-clause-gives g c = λ told. (
    let role = c.args.role in
    let p0 = place g.H.Shelf.contents c.args.feed.now in
    let s0 = multi_is role p0 in
    let t0 = told in
    let h : HeadValue = view_head c.in_ok-head.head in
    let p1 = place g.H.Shelf.contents c.head.new.self in
    let s1 = then_read (multi_body role) (header role) from_storage p0 p0 p1 h s0
    (c.in_ok-head.ensures.gives t0) in
    let t1 = told_kept _ _ c.in_ok-head.ensures.shelf.files t0 in
    let r = err_from_is_err_and c.from_residual-in_err-storage.result c.from_residual-in_err-storage.ensures.1 in
    rw (r.1, r.2) (then_fails c.in_err-storage.field-0.0 (multi_body role) (flat_inside (Within h.dim h.count))
    (λ x. from_b h x.codes) p0 p1 s1
    (c.in_err-storage.ensures.gives t1)))

pub returns-in_err-b-clause-gives : goal.returns-in_err-b-clause-gives
returns-in_err-b-clause-gives g c = λ told. (
    let role = c.args.role in
    let p0 = place g.H.Shelf.contents c.args.feed.now in
    let s0 = multi_is role p0 in
    let t0 = told in
    let h : HeadValue = view_head c.in_ok-head.head in
    let p1 = place g.H.Shelf.contents c.head.new.self in
    let s1 = then_read (multi_body role) (header role) from_storage p0 p0 p1 h s0
    (c.in_ok-head.ensures.gives t0) in
    let t1 = told_kept _ _ c.in_ok-head.ensures.shelf.files t0 in
    let cs : List (List ℕ) = c.in_ok-storage.storage.codes in
    let p2 = place g.H.Shelf.contents c.read_storage.new.feed in
    let s2 = then_read (multi_body role) (flat_inside (Within h.dim h.count))
    (λ x. from_b h x.codes) p0 p1 p2 c.in_ok-storage.storage s1
    (c.in_ok-storage.ensures.gives t1) in
    let t2 = told_kept _ _ c.in_ok-storage.ensures.shelf.files t1 in
    let r = err_from_is_err_and c.from_residual-in_err-b.result c.from_residual-in_err-b.ensures.1 in
    rw (r.1, r.2) (then_fails c.in_err-b.field-0.0 (multi_body role) (number 4 (multi_b_checks h))
    (λ x. from_nhash h x cs) p0 p2 s2
    (c.in_err-b.ensures.gives t2)))

pub returns-in_err-nhash-clause-gives : goal.returns-in_err-nhash-clause-gives
returns-in_err-nhash-clause-gives g c = λ told. (
    let role = c.args.role in
    let p0 = place g.H.Shelf.contents c.args.feed.now in
    let s0 = multi_is role p0 in
    let t0 = told in
    let h : HeadValue = view_head c.in_ok-head.head in
    let p1 = place g.H.Shelf.contents c.head.new.self in
    let s1 = then_read (multi_body role) (header role) from_storage p0 p0 p1 h s0
    (c.in_ok-head.ensures.gives t0) in
    let t1 = told_kept _ _ c.in_ok-head.ensures.shelf.files t0 in
    let cs : List (List ℕ) = c.in_ok-storage.storage.codes in
    let p2 = place g.H.Shelf.contents c.read_storage.new.feed in
    let s2 = then_read (multi_body role) (flat_inside (Within h.dim h.count))
    (λ x. from_b h x.codes) p0 p1 p2 c.in_ok-storage.storage s1
    (c.in_ok-storage.ensures.gives t1) in
    let t2 = told_kept _ _ c.in_ok-storage.ensures.shelf.files t1 in
    let b : ℕ = c.in_ok-b.b in
    let p3 = place g.H.Shelf.contents c.read_b.new.feed in
    let s3 = then_read (multi_body role) (number 4 (multi_b_checks h)) (λ x. from_nhash h x cs) p0 p2 p3 b s2
    (c.in_ok-b.ensures.gives t2) in
    let t3 = told_kept _ _ c.in_ok-b.ensures.shelf.files t2 in
    let r = err_from_is_err_and c.from_residual-in_err-nhash.result c.from_residual-in_err-nhash.ensures.1 in
    rw (r.1, r.2) (then_fails c.in_err-nhash.field-0.0 (multi_body role) (number 4 (nhash_checks h b))
    (λ x. from_nflip h.dim x b cs) p0 p3 s3
    (c.in_err-nhash.ensures.gives t3)))

pub returns-in_err-nflip-clause-gives : goal.returns-in_err-nflip-clause-gives
returns-in_err-nflip-clause-gives g c = λ told. (
    let role = c.args.role in
    let p0 = place g.H.Shelf.contents c.args.feed.now in
    let s0 = multi_is role p0 in
    let t0 = told in
    let h : HeadValue = view_head c.in_ok-head.head in
    let p1 = place g.H.Shelf.contents c.head.new.self in
    let s1 = then_read (multi_body role) (header role) from_storage p0 p0 p1 h s0
    (c.in_ok-head.ensures.gives t0) in
    let t1 = told_kept _ _ c.in_ok-head.ensures.shelf.files t0 in
    let cs : List (List ℕ) = c.in_ok-storage.storage.codes in
    let p2 = place g.H.Shelf.contents c.read_storage.new.feed in
    let s2 = then_read (multi_body role) (flat_inside (Within h.dim h.count))
    (λ x. from_b h x.codes) p0 p1 p2 c.in_ok-storage.storage s1
    (c.in_ok-storage.ensures.gives t1) in
    let t2 = told_kept _ _ c.in_ok-storage.ensures.shelf.files t1 in
    let b : ℕ = c.in_ok-b.b in
    let p3 = place g.H.Shelf.contents c.read_b.new.feed in
    let s3 = then_read (multi_body role) (number 4 (multi_b_checks h)) (λ x. from_nhash h x cs) p0 p2 p3 b s2
    (c.in_ok-b.ensures.gives t2) in
    let t3 = told_kept _ _ c.in_ok-b.ensures.shelf.files t2 in
    let nhash : ℕ = c.in_ok-nhash.nhash in
    let p4 = place g.H.Shelf.contents c.read_nhash.new.feed in
    let s4 = then_read (multi_body role) (number 4 (nhash_checks h b)) (λ x. from_nflip h.dim x b cs) p0 p3 p4 nhash s3
    (c.in_ok-nhash.ensures.gives t3) in
    let t4 = told_kept _ _ c.in_ok-nhash.ensures.shelf.files t3 in
    let r = err_from_is_err_and c.from_residual-in_err-nflip.result c.from_residual-in_err-nflip.ensures.1 in
    rw (r.1, r.2) (then_fails c.in_err-nflip.field-0.0 (multi_body role) (number 4 (at_most b reason.Number))
    (λ x. from_maps h.dim nhash b x cs) p0 p4 s4
    (c.in_err-nflip.ensures.gives t4)))

pub returns-in_err-read_maps-clause-gives : goal.returns-in_err-read_maps-clause-gives
returns-in_err-read_maps-clause-gives g c = λ told. (
    let role = c.args.role in
    let p0 = place g.H.Shelf.contents c.args.feed.now in
    let s0 = multi_is role p0 in
    let t0 = told in
    let h : HeadValue = view_head c.in_ok-head.head in
    let p1 = place g.H.Shelf.contents c.head.new.self in
    let s1 = then_read (multi_body role) (header role) from_storage p0 p0 p1 h s0
    (c.in_ok-head.ensures.gives t0) in
    let t1 = told_kept _ _ c.in_ok-head.ensures.shelf.files t0 in
    let cs : List (List ℕ) = c.in_ok-storage.storage.codes in
    let p2 = place g.H.Shelf.contents c.read_storage.new.feed in
    let s2 = then_read (multi_body role) (flat_inside (Within h.dim h.count))
    (λ x. from_b h x.codes) p0 p1 p2 c.in_ok-storage.storage s1
    (c.in_ok-storage.ensures.gives t1) in
    let t2 = told_kept _ _ c.in_ok-storage.ensures.shelf.files t1 in
    let b : ℕ = c.in_ok-b.b in
    let p3 = place g.H.Shelf.contents c.read_b.new.feed in
    let s3 = then_read (multi_body role) (number 4 (multi_b_checks h)) (λ x. from_nhash h x cs) p0 p2 p3 b s2
    (c.in_ok-b.ensures.gives t2) in
    let t3 = told_kept _ _ c.in_ok-b.ensures.shelf.files t2 in
    let nhash : ℕ = c.in_ok-nhash.nhash in
    let p4 = place g.H.Shelf.contents c.read_nhash.new.feed in
    let s4 = then_read (multi_body role) (number 4 (nhash_checks h b)) (λ x. from_nflip h.dim x b cs) p0 p3 p4 nhash s3
    (c.in_ok-nhash.ensures.gives t3) in
    let t4 = told_kept _ _ c.in_ok-nhash.ensures.shelf.files t3 in
    let nflip : ℕ = c.in_ok-nflip.nflip in
    let p5 = place g.H.Shelf.contents c.read_nflip.new.feed in
    let s5 = then_read (multi_body role) (number 4 (at_most b reason.Number))
    (λ x. from_maps h.dim nhash b x cs) p0 p4 p5 nflip s4
    (c.in_ok-nflip.ensures.gives t4) in
    let t5 = told_kept _ _ c.in_ok-nflip.ensures.shelf.files t4 in
    let r = err_from_is_err_and c.from_residual-in_err-read_maps.result c.from_residual-in_err-read_maps.ensures.1 in
    rw (r.1, r.2) (then_fails c.in_err-read_maps.field-0.0 (multi_body role)
    (each (range_with_len 0 nhash) (map_fields cs b))
    (λ x. done (made h.dim nhash b nflip cs)) p0 p5 s5
    (c.in_err-read_maps.ensures.gives t5)))

pub returns-clause-gives : goal.returns-clause-gives
returns-clause-gives g c = λ told. (
    let role = c.args.role in
    let p0 = place g.H.Shelf.contents c.args.feed.now in
    let s0 = multi_is role p0 in
    let t0 = told in
    let h : HeadValue = view_head c.in_ok-head.head in
    let p1 = place g.H.Shelf.contents c.head.new.self in
    let s1 = then_read (multi_body role) (header role) from_storage p0 p0 p1 h s0
    (c.in_ok-head.ensures.gives t0) in
    let t1 = told_kept _ _ c.in_ok-head.ensures.shelf.files t0 in
    let cs : List (List ℕ) = c.in_ok-storage.storage.codes in
    let p2 = place g.H.Shelf.contents c.read_storage.new.feed in
    let s2 = then_read (multi_body role) (flat_inside (Within h.dim h.count))
    (λ x. from_b h x.codes) p0 p1 p2 c.in_ok-storage.storage s1
    (c.in_ok-storage.ensures.gives t1) in
    let t2 = told_kept _ _ c.in_ok-storage.ensures.shelf.files t1 in
    let b : ℕ = c.in_ok-b.b in
    let p3 = place g.H.Shelf.contents c.read_b.new.feed in
    let s3 = then_read (multi_body role) (number 4 (multi_b_checks h)) (λ x. from_nhash h x cs) p0 p2 p3 b s2
    (c.in_ok-b.ensures.gives t2) in
    let t3 = told_kept _ _ c.in_ok-b.ensures.shelf.files t2 in
    let nhash : ℕ = c.in_ok-nhash.nhash in
    let p4 = place g.H.Shelf.contents c.read_nhash.new.feed in
    let s4 = then_read (multi_body role) (number 4 (nhash_checks h b)) (λ x. from_nflip h.dim x b cs) p0 p3 p4 nhash s3
    (c.in_ok-nhash.ensures.gives t3) in
    let t4 = told_kept _ _ c.in_ok-nhash.ensures.shelf.files t3 in
    let nflip : ℕ = c.in_ok-nflip.nflip in
    let p5 = place g.H.Shelf.contents c.read_nflip.new.feed in
    let s5 = then_read (multi_body role) (number 4 (at_most b reason.Number))
    (λ x. from_maps h.dim nhash b x cs) p0 p4 p5 nflip s4
    (c.in_ok-nflip.ensures.gives t4) in
    let t5 = told_kept _ _ c.in_ok-nflip.ensures.shelf.files t4 in
    let p6 = place g.H.Shelf.contents c.read_maps.new.feed in
    let s6 = then_read (multi_body role) (each (range_with_len 0 nhash) (map_fields cs b))
    (λ x. done (made h.dim nhash b nflip cs)) p0 p5 p6 (replicate nhash tt) s5
    (c.in_ok-read_maps.ensures.gives t5) in
    let t6 = told_kept _ _ c.in_ok-read_maps.ensures.shelf.files t5 in
    let same : made h.dim nhash b nflip cs ≡ c.in_ok-multi.multi =
    ap (λ (d : ℕ). made d nhash b nflip cs) (sym c.in_ok-storage.ensures.dim) ∙ sym c.in_ok-multi.ensures in
    s6 ∙ ap (λ (v : MultiValue). Ok (v, p6)) same)

pub returns-clause-shelf : goal.returns-clause-shelf
returns-clause-shelf g c =
    let f0 = c.args.feed.now in
    let go = stays_then g.H.Shelf.contents g.H.Shelf.is_reading g.H.Shelf.faults f0 in
    let s2 = go c.head.new.self c.read_storage.new.feed _ _ (no_error c.in_ok-head.head Failed)
    c.in_ok-head.ensures.shelf c.in_ok-storage.ensures.shelf in
    let s3 = go c.read_storage.new.feed c.read_b.new.feed _ _ (no_error c.in_ok-storage.storage Failed) s2
    c.in_ok-b.ensures.shelf in
    let s4 = go c.read_b.new.feed c.read_nhash.new.feed _ _ (no_error c.in_ok-b.b Failed) s3
    c.in_ok-nhash.ensures.shelf in
    let s5 = go c.read_nhash.new.feed c.read_nflip.new.feed _ _ (no_error c.in_ok-nhash.nhash Failed) s4
    c.in_ok-nflip.ensures.shelf in
    let s6 = go c.read_nflip.new.feed c.read_maps.new.feed _ _ (no_error c.in_ok-nflip.nflip Failed) s5
    c.in_ok-read_maps.ensures.shelf in
    stays_calm g.H.Shelf.contents g.H.Shelf.is_reading g.H.Shelf.faults f0 c.read_maps.new.feed _ _
    (no_error c.in_ok-read_maps.field-0 Failed) (no_error c.in_ok-multi.multi Failed) s6

pub returns-clause-fits : goal.returns-clause-fits
returns-clause-fits g c =
    let v : MultiValue = c.in_ok-multi.multi in
    let dim : v.dim ≡ c.in_ok-head.head.dim =
    ap (λ (m : MultiValue). m.dim) c.in_ok-multi.ensures ∙ c.in_ok-storage.ensures.dim in
    let count : length v.codes ≡ c.in_ok-head.head.count =
    ap (λ (m : MultiValue). length m.codes) c.in_ok-multi.ensures ∙ c.in_ok-storage.ensures.count in
    fits_multi c.args.role c.in_ok-head.head v c.requires.role c.in_ok-head.ensures.fits dim count
