-- The text of a reply.
use Rattle.std.specs.Prelude.{ℕ, List, [], ◌∷◌, ◌++◌, Bool, nat_lt, if◌then◌else◌, length, codes, Result, Ok, Err}
use Rattle.std.specs.Fmt.{decimal, signed_decimal}
use Rattle.std.specs.List.{flat_map, join_with_byte}
use Rattle.hex.specs.Hex.{encode_lower}
use Rattle.bcodes.specs.declared.hit.Hit.{Hit}
use Rattle.factory_text.specs.declared.kind.Kind.{Kind}
use Rattle.factory_text.specs.declared.kind.Kind.TheVariants as kind
use Rattle.factory_text.specs.Printing.{spec_text}
use Rattle.any_index.specs.declared.about.About.{About}
use Rattle.faissb_core.specs.declared.reply.refusal.Refusal.{Refusal}
use Rattle.faissb_core.specs.Reply.Answer.{Answer, Quiet, Done, Added, Held, Found, Code, Saved, Loaded}
use Rattle.faissb_core.specs.Reply.Answer.{Shown, Sharded, Removed}
use Rattle.faissb_core.specs.Reply.Refusals.{refusal_words}

-- words with a space between each two, and a line feed
abbrev pub text_line : List (List ℕ) → List ℕ
text_line words = join_with_byte 32 words ++ codes "\n"

abbrev pub number_line : List ℕ → ℕ → List ℕ
number_line name n = text_line (name ∷ decimal n ∷ [])

-- ---- hits

abbrev pub mark_word : Bool → List ℕ
mark_word exact = if exact then codes "exact" else codes "partial"

-- a hit: its label and its distance
abbrev pub hit_text : Hit → List ℕ
hit_text hit = text_line (signed_decimal hit.label ∷ decimal hit.distance ∷ [])

-- the first line of a reply with hits
abbrev pub count_text : ℕ → ℕ → Bool → List ℕ
count_text count lent exact =
    text_line (codes "hits" ∷ decimal count ∷ codes "looked" ∷ decimal lent ∷ mark_word exact ∷ [])

abbrev pub found_text : List Hit → ℕ → Bool → List ℕ
found_text hits lent exact = count_text (length hits) lent exact ++ flat_map hit_text hits

-- ---- what `show` tells

abbrev pub trained_line : Bool → List ℕ
trained_line trained = text_line (codes "trained" ∷ (if trained then codes "yes" else codes "no") ∷ [])

abbrev pub head_text : About → List ℕ
head_text a =
    text_line (codes "index" ∷ spec_text a.spec ∷ [])
    ++ number_line (codes "d") a.bits
    ++ number_line (codes "total") a.total
    ++ trained_line a.trained

-- a limit on the codes of a query, if there is one, and a direct map
abbrev pub limit_line : ℕ → List ℕ
limit_line max_codes = if nat_lt 0 max_codes then number_line (codes "maxcodes") max_codes else []

abbrev pub direct_line : Bool → List ℕ
direct_line direct = if direct then codes "directmap array\n" else []

-- the lines of an IVF
abbrev pub list_lines : ℕ → About → List ℕ
list_lines nlist a =
    number_line (codes "nlist") nlist
    ++ number_line (codes "nprobe") a.nprobe
    ++ number_line (codes "centroids") a.held
    ++ limit_line a.max_codes
    ++ direct_line a.direct

-- a number behind a space
abbrev pub spaced : ℕ → List ℕ
spaced n = codes " " ++ decimal n

-- the lines of a Hash, and the last ones of a MultiHash
abbrev pub key_lines : ℕ → About → List ℕ
key_lines b a =
    number_line (codes "b") b
    ++ number_line (codes "nflip") a.nflip
    ++ number_line (codes "bound") a.bound
    ++ codes "buckets"
    ++ flat_map spaced a.buckets
    ++ codes "\n"

abbrev pub kind_lines : Kind → About → List ℕ
kind_lines kind.Flat a = []
kind_lines (kind.Ivf nlist) a = list_lines nlist a
kind_lines (kind.Hash b) a = key_lines b a
kind_lines (kind.Multi nhash b) a = number_line (codes "nhash") nhash ++ key_lines b a

abbrev pub shown_text : About → List ℕ
shown_text a = head_text a ++ kind_lines a.spec.kind a

-- ---- replies

abbrev pub answer_text : Answer → List ℕ
answer_text Quiet = []
answer_text Done = codes "ok\n"
answer_text (Added m n) = text_line (codes "added" ∷ decimal m ∷ codes "total" ∷ decimal n ∷ [])
answer_text (Held m n) = text_line (codes "centroids" ∷ decimal m ∷ codes "of" ∷ decimal n ∷ [])
answer_text (Found hits lent exact) = found_text hits lent exact
answer_text (Saved n) = number_line (codes "saved") n
answer_text (Loaded n) = number_line (codes "loaded") n
answer_text (Shown a) = shown_text a
answer_text (Sharded m n) = text_line (codes "shards" ∷ decimal m ∷ codes "total" ∷ decimal n ∷ [])
answer_text (Removed m n) = text_line (codes "removed" ∷ decimal m ∷ codes "total" ∷ decimal n ∷ [])
answer_text (Code code) = text_line (codes "code" ∷ encode_lower code ∷ [])

-- a line is answered or refused
abbrev pub reply_text : Result Answer Refusal → List ℕ
reply_text (Ok answer) = answer_text answer
reply_text (Err refusal) = text_line (codes "refused" ∷ refusal_words refusal)
