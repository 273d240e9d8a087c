use Rattle.std.proofs.Common.{◌≡◌, arith, cond, Some, List, ℕ, string_bytes}
use Rattle.std.specs.Option.{option_map}
use Rattle.std.specs.Str.{bytes_eq}
use Rattle.std.specs.BTreeMap.{get_by_text}
use Rattle.std.proofs.lemmas.Map.Text.{text_keys}
use Rattle.outside.proofs.ShelfLemmas.{named_put}
use Rattle.outside.proofs.sure_shelf.put_file.Goals as goal

pub returns-in-Ok-clause-ok : goal.returns-in-Ok-clause-ok
returns-in-Ok-clause-ok c =
    let old = c.args.files.now in
    let new = c.insert.new.self in
    let name = string_bytes c.args.name in
    let bytes = c.args.bytes.items in
    let updates : (n : List ℕ)
    → option_map (λ v. v.items) (get_by_text new n)
    ≡ cond (bytes_eq n name) (Some bytes) (option_map (λ v. v.items) (get_by_text old n))
    = λ n. grind (arith, text_keys) in
    named_put string_bytes (λ v. v.items) name bytes old.entries new.entries updates
