-- add, addids and centroids: all of the codes are taken or none.
use Rattle.std.specs.Prelude.{◌+◌, ℤ, not, Bool, nat_le, List, ℕ, length, map}
use Rattle.bcodes.specs.Ranges.{load_limit}
use Rattle.bcodes.specs.Value.{IndexValue, labels_from, code_size, count_of, load_of, is_trained, takes_ids}
use Rattle.bcodes.specs.Settings.{ivf_in, needs_ids}
use Rattle.bcodes.specs.Answers.{after_add, after_centroids}
use Rattle.faissb_core.specs.declared.reply.refusal.Refusal.TheVariants.{Ids, Kind, Full, Untrained, Load}
use Rattle.faissb_core.specs.Language.Words.{Word, IdWord}
use Rattle.faissb_core.specs.Reply.Answer.{Added, Held}
use Rattle.faissb_core.specs.Machine.Checked.{Checked, demand◌else◌, given◌else◌, ◌>>=◌, ◌>>◌}
use Rattle.faissb_core.specs.Machine.State.{Changed, changed, codes_of}

abbrev pub is_light : IndexValue → Bool
is_light v = nat_le (load_of v) load_limit

-- what both kinds of adding do with their codes
abbrev pub append : List ℤ → List (List ℕ) → IndexValue → Checked Changed
append labels added v = do
  demand is_trained v else Untrained
  let w = after_add v labels added
  demand is_light w else Load
  changed w (Added (length added) (count_of w))

-- without ids the labels count up from the count
abbrev pub add : List Word → IndexValue → Checked Changed
add words v = do
  added ← codes_of (code_size v) words
  demand not (needs_ids v) else Ids
  append (labels_from (count_of v) (length added)) added v

abbrev pub add_ids : List IdWord → IndexValue → Checked Changed
add_ids pairs v = do
  added ← codes_of (code_size v) (map (λ p. p.word) pairs)
  demand takes_ids v else Ids
  append (map (λ p. p.id) pairs) added v

abbrev pub give_centroids : List Word → IndexValue → Checked Changed
give_centroids words v = do
  given_codes ← codes_of (code_size v) words
  ivf ← given ivf_in v else Kind
  let held = length ivf.centroids + length given_codes
  let w = after_centroids v given_codes
  demand nat_le held ivf.nlist else Full
  demand is_light w else Load
  changed w (Held held ivf.nlist)
