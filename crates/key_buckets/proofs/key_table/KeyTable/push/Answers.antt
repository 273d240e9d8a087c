use Rattle.std.proofs.Common.{◌≡◌, ◌∷◌, ◌++◌, [], ℕ, List, None, nat_eq, ap, sym, ◌∙◌}
use Rattle.indexmap.proofs.CallerLemmas.{insert_entry-new}
use Rattle.key_buckets.specs.Keys.{list_of}
use Rattle.key_buckets.proofs.key_table.KeyTable.push.Goals as goal

pub returns-clause-ok : goal.returns-clause-ok
returns-clause-ok c = c.in_ok-insert.ensures.entries
    ∙ insert_entry-new nat_eq c.self.inside.map c.args.key c.args.list (rw c.self.view_is c.requires)
    ∙ ap (λ (es : List (ℕ × ℕ)). es ++ (c.args.key, c.args.list) ∷ []) c.self.view_is

pub invariant_of-self-2 : goal.invariant_of-self-2
invariant_of-self-2 c =
    let es : List (ℕ × ℕ) = c.self.inside.map.entries in
    let none : list_of c.self.inside.map.entries c.args.key ≡ None = rw c.self.view_is c.requires in
    let entries : c.insert.new.self.entries ≡ es ++ (c.args.key, c.args.list) ∷ [] = c.in_ok-insert.ensures.entries
    ∙ insert_entry-new nat_eq c.self.inside.map c.args.key c.args.list none in
    λ k h. c.note.ensures es none c.widen.ensures k h ∙ ap (λ (fs : List (ℕ × ℕ)). list_of fs k) (sym entries)
