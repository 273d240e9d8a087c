use Rattle.std.proofs.Common.{◌≡◌, ◌+◌, ◌/◌, ◌≤◌, ℕ, length, ap, subst, sym, ◌∙◌}
use Rattle.bcodes.specs.Ranges.{load_limit}
use Rattle.bcodes.specs.Value.{weight}
use Rattle.index_files.proofs.GatheredLemmas.{length-gathered}
use Rattle.index_files.proofs.reading.hash.gathered.Gathered.put_into.Goals as goal

pub add_bucket-requires-clause-load : goal.add_bucket-requires-clause-load
add_bucket-requires-clause-load c =
    let i = c.self.inside in
    let hash = c.args.hash.now in
    let many : length c.args.self.now.rows ≡ length i.ids.items
    = sym (ap (λ v. length v.rows) c.self.view_is) ∙ length-gathered (i.dim.bits / 8) i.ids.items i.codes.items in
    subst (λ (n : ℕ). weight hash.dim 1 (length hash.rows + n) 0 ≤ load_limit)
    (many ∙ sym (ap length c.deref.ensures.value)) c.requires.load
