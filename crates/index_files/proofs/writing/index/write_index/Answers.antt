use Rattle.std.proofs.Common.{◌≡◌, ℕ, List, sym, ap, ◌∙◌}
use Rattle.bcodes.specs.Value.{Inner, inner_of}
use Rattle.any_index.specs.Specs.{prefix_of}
use Rattle.factory_text.specs.declared.prefix.Prefix.TheVariants as prefix
use Rattle.file_parts.specs.Storing.{behind, written}
use Rattle.index_files.specs.Canon.{inner_bytes}
use Rattle.index_files.specs.File.{settled_inner}
use Rattle.index_files.proofs.WritingLemmas.{canon_plain, canon_map, canon_map2}
use Rattle.index_files.proofs.writing.index.write_index.Goals as goal

pub returns-in_ok-write_inner-in-Plain-clause-ok : goal.returns-in_ok-write_inner-in-Plain-clause-ok
returns-in_ok-write_inner-in-Plain-clause-ok g c =
    let v = c.args.index.now in
    let is : prefix_of v ≡ prefix.Plain = sym (ap (λ s. s.prefix) c.spec.ensures) ∙ c.in-Plain.is in
    c.in_ok-write_inner-in-Plain.ensures.ok
    ∙ ap (λ (b : List ℕ). behind b (written g.H.Shelf.contents c.args.store.now))
    (ap (λ (w : Inner). inner_bytes (settled_inner w)) c.inner.ensures ∙ canon_plain v is)

pub returns-in_ok-write_mapped-in-Map-clause-ok : goal.returns-in_ok-write_mapped-in-Map-clause-ok
returns-in_ok-write_mapped-in-Map-clause-ok g c =
    let v = c.args.index.now in
    let is : prefix_of v ≡ prefix.Map = sym (ap (λ s. s.prefix) c.spec.ensures) ∙ c.in-Map.is in
    c.in_ok-write_mapped-in-Map.ensures.ok
    ∙ ap (λ (b : List ℕ). behind b (written g.H.Shelf.contents c.args.store.now)) (canon_map v is)

pub returns-in_ok-write_mapped-in-Map2-clause-ok : goal.returns-in_ok-write_mapped-in-Map2-clause-ok
returns-in_ok-write_mapped-in-Map2-clause-ok g c =
    let v = c.args.index.now in
    let is : prefix_of v ≡ prefix.Map2 = sym (ap (λ s. s.prefix) c.spec.ensures) ∙ c.in-Map2.is in
    c.in_ok-write_mapped-in-Map2.ensures.ok
    ∙ ap (λ (b : List ℕ). behind b (written g.H.Shelf.contents c.args.store.now)) (canon_map2 v is)
