-- search, range, nearest, reconstruct and show.
use Rattle.std.specs.Prelude.{ℕ, true, nat_le, nat_lt, Ok}
use Rattle.bcodes.specs.Value.{IndexValue, code_size, count_of, is_trained}
use Rattle.bcodes.specs.Settings.{multi_in}
use Rattle.bcodes.specs.Answers.{best, within, scan_best, looked}
use Rattle.bcodes.specs.Marks.{search_mark, range_mark}
use Rattle.growing_probe.specs.Grown.{flipped, grown}
use Rattle.any_index.specs.About.{about}
use Rattle.any_index.specs.Labels.{finds_labels, code_labelled}
use Rattle.faissb_core.specs.declared.reply.refusal.Refusal.TheVariants.{Kind, Value, Untrained, NoDirect}
use Rattle.faissb_core.specs.Language.Words.{Word}
use Rattle.faissb_core.specs.Reply.Answer.{Answer, Found, Code, Shown}
use Rattle.faissb_core.specs.Machine.Checked.{Checked, demand◌else◌, given◌else◌, ◌>>=◌, ◌>>◌, is_within}
use Rattle.faissb_core.specs.Machine.State.{code_of}

-- the most hits that a search may be asked for
abbrev pub k_limit : ℕ
k_limit = 1048576

-- the greatest radius of a range search
abbrev pub radius_limit : ℕ
radius_limit = 2147483647

abbrev pub search : ℕ → Word → IndexValue → Checked Answer
search k word v = do
  q ← code_of (code_size v) word
  demand is_within 1 k_limit k else Value
  demand is_trained v else Untrained
  Ok (Found (best v q k) (looked v q) (search_mark v q k))

abbrev pub range : ℕ → Word → IndexValue → Checked Answer
range radius word v = do
  q ← code_of (code_size v) word
  demand nat_le radius radius_limit else Value
  demand is_trained v else Untrained
  Ok (Found (within v q radius) (looked v q) (range_mark v q radius))

-- the answer of a full scan, after looking at the codes that the least number of flips probes which is enough for it
abbrev pub nearest : ℕ → Word → IndexValue → Checked Answer
nearest k word v = do
  q ← code_of (code_size v) word
  multi ← given multi_in v else Kind
  demand is_within 1 k_limit k else Value
  Ok (Found (scan_best v q k) (looked (flipped multi (grown multi q k)) q) true)

abbrev pub show : IndexValue → Checked Answer
show v = Ok (Shown (about v))

abbrev pub reconstruct : ℕ → IndexValue → Checked Answer
reconstruct label v = do
  finds ← given finds_labels v else Kind
  demand nat_lt label (count_of v) else Value
  demand finds else NoDirect
  Ok (Code (code_labelled v label))
