use Rattle.std.proofs.Common.{rules, ◌≡◌, Some, Ok, Err, subst}
use Rattle.index_files.specs.declared.save_error.SaveError.{SaveError}
use Rattle.index_files.specs.declared.save_error.SaveError.TheVariants.{BucketBits}
use Rattle.faissb_core.specs.Language.Command.{Save}
use Rattle.faissb_core.specs.Language.Lines.{Whole}
use Rattle.faissb_core.specs.Session.Applied.{Applies}
use Rattle.faissb_core.specs.Session.Followed.{state_of}
use Rattle.faissb_core.proofs.SessionLemmas.AppliedLemmas.{save_applies, saved_reply}
use Rattle.faissb_core.proofs.session.files.save.Goals as goal

pub returns-in-Ok-clause-applies : goal.returns-in-Ok-clause-applies
returns-in-Ok-clause-applies g c = λ shards.
    rw c.in-Some.is (save_applies c.in-Some.index c.args.name.now shards (g.H.Shelf.contents c.args.shelf.now)
    (g.H.Shelf.contents c.encode.new.shelf) (Ok c.in-Ok.len) c.in-Ok.ensures.bytes c.in-Ok.ensures.files
    c.in-Ok.ensures.wide)

pub returns-in-Err-BucketBits-clause-applies : goal.returns-in-Err-BucketBits-clause-applies
returns-in-Err-BucketBits-clause-applies g c = λ shards.
    let same : c.in-Err-BucketBits.field-0 ≡ BucketBits c.in-Err-BucketBits.wide = search rules in
    rw c.in-Some.is (subst (λ (e : SaveError). Applies (Whole (Save c.args.name.now))
    (state_of (Some c.in-Some.index) shards) (state_of (Some c.in-Some.index) shards)
    (g.H.Shelf.contents c.args.shelf.now) (g.H.Shelf.contents c.encode.new.shelf) (saved_reply (Err e))) same
    (save_applies c.in-Some.index c.args.name.now shards (g.H.Shelf.contents c.args.shelf.now)
    (g.H.Shelf.contents c.encode.new.shelf) (Err c.in-Err-BucketBits.field-0) tt c.in-Err-BucketBits.ensures.files
    c.in-Err-BucketBits.ensures.wide))
