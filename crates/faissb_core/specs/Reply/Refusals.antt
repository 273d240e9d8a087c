-- The words of a refusal.
use Rattle.std.specs.Prelude.{ℕ, List, [], ◌∷◌, codes}
use Rattle.std.specs.Fmt.{decimal}
use Rattle.file_parts.specs.declared.reason.Reason.{Reason}
use Rattle.file_parts.specs.declared.reason.Reason.TheVariants as reason
use Rattle.faissb_core.specs.declared.reply.factory_word.FactoryWord.{FactoryWord}
use Rattle.faissb_core.specs.declared.reply.factory_word.FactoryWord.TheVariants as word
use Rattle.faissb_core.specs.declared.reply.refusal.Refusal.{Refusal}
use Rattle.faissb_core.specs.declared.reply.refusal.Refusal.TheVariants as refusal

abbrev pub factory_word : FactoryWord → List ℕ
factory_word word.Unknown = codes "unknown"
factory_word word.Number = codes "number"
factory_word word.LeftOut = codes "leftout"
factory_word word.Nested = codes "nested"
factory_word word.Misfit = codes "misfit"

abbrev pub reason_word : Reason → List ℕ
reason_word reason.Short = codes "short"
reason_word reason.Fourcc = codes "fourcc"
reason_word reason.LeftOut = codes "leftout"
reason_word reason.Dim = codes "dim"
reason_word reason.CodeSize = codes "codesize"
reason_word reason.Count = codes "count"
reason_word reason.Flag = codes "flag"
reason_word reason.Metric = codes "metric"
reason_word reason.Number = codes "number"
reason_word reason.VectorSize = codes "vectorsize"
reason_word reason.ListSizes = codes "listsizes"
reason_word reason.Bits = codes "bits"
reason_word reason.Padding = codes "padding"
reason_word reason.DuplicateKey = codes "duplicatekey"
reason_word reason.EmptyBucket = codes "emptybucket"
reason_word reason.WrongBucket = codes "wrongbucket"
reason_word reason.Positions = codes "positions"
reason_word reason.IdRange = codes "idrange"
reason_word reason.Load = codes "load"
reason_word reason.Trailing = codes "trailing"
reason_word reason.DirectMap = codes "directmap"

abbrev pub refusal_words : Refusal → List (List ℕ)
refusal_words refusal.Long = codes "long" ∷ []
refusal_words refusal.Line = codes "line" ∷ []
refusal_words refusal.NoIndex = codes "none" ∷ []
refusal_words refusal.Dim = codes "dim" ∷ []
refusal_words (refusal.Factory word) = codes "factory" ∷ factory_word word ∷ []
refusal_words refusal.Code = codes "code" ∷ []
refusal_words refusal.Ids = codes "ids" ∷ []
refusal_words refusal.Kind = codes "kind" ∷ []
refusal_words refusal.Value = codes "value" ∷ []
refusal_words refusal.Full = codes "full" ∷ []
refusal_words refusal.Untrained = codes "untrained" ∷ []
refusal_words refusal.Load = codes "load" ∷ []
refusal_words refusal.NoFile = codes "nofile" ∷ []
refusal_words (refusal.File fault) = codes "file" ∷ reason_word fault.reason ∷ codes "at" ∷ decimal fault.at ∷ []
refusal_words (refusal.BucketBits wide) = codes "bucketbits" ∷ decimal wide.map ∷ decimal wide.size ∷ []
refusal_words refusal.NoDirect = codes "nodirect" ∷ []
refusal_words refusal.Sequential = codes "sequential" ∷ []
refusal_words refusal.Mismatch = codes "mismatch" ∷ []
