-- A marked answer is that of a full scan.
use Rattle.std.proofs.Common.{◌≡◌, ◌≤◌, ◌+◌, ◌-◌, ◌*◌, ◌^◌, ℕ, ℤ, Bool, true, false, not, ◌||◌, nat_le, nat_lt, length, map, Option, Some, Ok, Err, List, [], ◌∷◌}
use Rattle.std.proofs.Common.{◌⊎◌, inl, inr, None, refl, sym, ap, ◌∙◌, subst, arith}
use Rattle.std.proofs.lemmas.Bool.{cases_Bool, le-leb}
use Rattle.std.specs.Result.{IfOk}
use Rattle.bcodes.specs.declared.hit.Hit.{Hit}
use Rattle.bcodes.specs.Value.{ListRow, Flat, Ivf, Hash, Multi, MultiValue, IndexValue, Bare, IdMap, IsLegal, code_size}
use Rattle.bcodes.specs.Value.{count_of, is_trained, labels_from, takes_ids}
use Rattle.bcodes.specs.Settings.{ivf_in, multi_in, key_bits, needs_ids, is_numbering}
use Rattle.bcodes.specs.Answers.{best, within, scan_best, scan_within, looked, bound_of, after_add, after_centroids}
use Rattle.bcodes.specs.Marks.{search_mark, range_mark, probes_all}
use Rattle.bcodes.proofs.MarkedLemmas.{marked_best, marked_within}
use Rattle.outside.specs.Contents.{Contents, Files, no_files}
use Rattle.faissb_core.specs.declared.reply.reply.Reply.{Reply}
use Rattle.faissb_core.specs.declared.reply.refusal.Refusal.{Refusal}
use Rattle.faissb_core.specs.declared.reply.refusal.Refusal.TheVariants.{Ids, Kind, NoIndex, Value, Full, Untrained}
use Rattle.faissb_core.specs.declared.reply.refusal.Refusal.TheVariants.{Load as Heavy}
use Rattle.faissb_core.specs.declared.reply.refusal.Refusal.TheVariants.{NoDirect, Sequential}
use Rattle.any_index.specs.Labels.{finds_labels, code_labelled}
use Rattle.id_select.specs.Removal.{removed}
use Rattle.shard_set.specs.Joined.{joined, joined_best, joined_count, joined_looked, joined_within}
use Rattle.shard_set.proofs.LawLemmas.{joined_best_is, joined_legal, joined_within_is}
use Rattle.faissb_core.specs.Language.Words.{Word, IdWord}
use Rattle.faissb_core.specs.Language.Command.{Command, New, Load, Save, Shard, Unshard, Change, Ask, AskShards}
use Rattle.faissb_core.specs.Language.Command.{IndexChange, Add, AddIds, Centroids, Nprobe, Nflip, MaxCodes}
use Rattle.faissb_core.specs.Language.Command.{DirectMap, Remove}
use Rattle.faissb_core.specs.Language.Command.{IndexQuestion, Search, Range, Nearest, Reconstruct, Show}
use Rattle.faissb_core.specs.Language.Command.{ShardQuestion, ShardSearch, ShardRange}
use Rattle.faissb_core.specs.Language.Lines.{Line, TooLong, Silent, Whole, Broken, line_of, is_load}
use Rattle.faissb_core.specs.Reply.Answer.{Answer, Quiet, Done, Added, Held, Found, Code, reply_of}
use Rattle.faissb_core.specs.Reply.Answer.{Saved, Loaded, Shown, Sharded, Removed}
use Rattle.faissb_core.specs.Machine.Checked.{Checked, given◌else◌, demand◌else◌, ◌>>=◌, is_within}
use Rattle.faissb_core.specs.Machine.State.{State, Outcome, Changed, code_of, codes_of}
use Rattle.faissb_core.specs.Machine.New.{new_index}
use Rattle.faissb_core.specs.Machine.Adding.{append, is_light}
use Rattle.faissb_core.specs.Machine.Queries.{search, range, nearest, reconstruct, k_limit, radius_limit}
use Rattle.faissb_core.specs.Machine.Files.{loaded, spelled}
use Rattle.faissb_core.specs.Machine.Shards.{with_shard, shard_search, shard_range}
use Rattle.faissb_core.specs.Machine.Step.{step, step_with, line_outcome, command_outcome, change, ask, ask_shards}
use Rattle.faissb_core.specs.Machine.Legal.{AreLegalShards, IsLegalState}
use Rattle.faissb_core.specs.Machine.Marked.{scan_of, question_scan, shard_scan, MarkedIsScan, AllMarkedAreScans}
use Rattle.faissb_core.specs.Machine.Marked.{IsWithinBound, IsNotPartial, AllWithinBoundAreExact, best_scan, range_scan}
use Rattle.faissb_core.specs.Session.Applied.{said_step, AnswersLoad, IsAnswered}
use Rattle.faissb_core.proofs.SessionLemmas.CheckedLemmas.{given_value, bind_gives, demand_gives, given_gives}
use Rattle.faissb_core.proofs.SessionLemmas.LegalLemmas.{HoldLegal, held_legal, step_follows, step_holds}

-- ---- replies that are no hits

abbrev IsNotFound : Answer → Type 0
IsNotFound (Found hits lent mark) = ⊥
IsNotFound answer = Unit {0}

abbrev IsQuiet : Changed → Type 0
IsQuiet done = IsNotFound done.answer

append_quiet : (labels : List ℤ) (added : List (List ℕ)) (v : IndexValue) → IfOk (append labels added v) IsQuiet
append_quiet labels added v =
    demand_gives IsQuiet (is_trained v) Untrained _ (λ trained.
    demand_gives IsQuiet (is_light (after_add v labels added)) Heavy _ (λ light. tt))

change_quiet : (c : IndexChange) (v : IndexValue) → IfOk (change c v) IsQuiet
change_quiet (Add words) v =
    bind_gives IsQuiet (codes_of (code_size v) words) _ (λ added read.
    demand_gives IsQuiet (not (needs_ids v)) Ids _ (λ plain.
    append_quiet (labels_from (count_of v) (length added)) added v))
change_quiet (AddIds pairs) v =
    bind_gives IsQuiet (codes_of (code_size v) (map (λ (p : IdWord). p.word) pairs)) _ (λ added read.
    demand_gives IsQuiet (takes_ids v) Ids _ (λ takes. append_quiet (map (λ (p : IdWord). p.id) pairs) added v))
change_quiet (Centroids words) v =
    bind_gives IsQuiet (codes_of (code_size v) words) _ (λ more read.
    given_gives IsQuiet (ivf_in v) Kind _ (λ ivf is.
    demand_gives IsQuiet (nat_le (length ivf.centroids + length more) ivf.nlist) Full _ (λ few.
    demand_gives IsQuiet (is_light (after_centroids v more)) Heavy _ (λ light. tt))))
change_quiet (Nprobe n) v =
    given_gives IsQuiet (ivf_in v) Kind _ (λ ivf is.
    demand_gives IsQuiet (is_within 1 (2 ^ 63 - 1) n) Value _ (λ test. tt))
change_quiet (Nflip n) v =
    given_gives IsQuiet (key_bits v) Kind _ (λ bits is. demand_gives IsQuiet (nat_le n bits) Value _ (λ test. tt))
change_quiet (MaxCodes n) v =
    given_gives IsQuiet (ivf_in v) Kind _ (λ ivf is.
    demand_gives IsQuiet (nat_lt n (2 ^ 63)) Value _ (λ test. tt))
change_quiet (DirectMap on) v =
    given_gives IsQuiet (ivf_in v) Kind _ (λ ivf is.
    demand_gives IsQuiet (not on || is_numbering (map (λ (row : ListRow). row.label) ivf.rows)) Sequential _
    (λ test. tt))
change_quiet (Remove selector) v = given_gives IsQuiet (removed selector v) Kind _ (λ w is. tt)

-- ---- each reply has P

abbrev IsAnsweredBy : (Checked Answer → Type 0) → Outcome → Type 0
IsAnsweredBy P o = P (Ok o.answer)

-- a reply that is no hits has P
abbrev SparesOthers : (Checked Answer → Type 0) → Type 0
SparesOthers P = (answer : Answer) → IsNotFound answer → P (Ok answer)

command_answered : (P : Checked Answer → Type 0) (s : State) (files : Files) (command : Command) → SparesOthers P
    → ((question : IndexQuestion) (v : IndexValue) → command ≡ Ask question → s.index ≡ Some v
    → IfOk (ask question v) (λ a. P (Ok a)))
    → ((question : ShardQuestion) → command ≡ AskShards question
    → IfOk (ask_shards question s.shards) (λ a. P (Ok a)))
    → IfOk (command_outcome command s files) (IsAnsweredBy P)
command_answered P s files (New bits text) spares asked asked_shards =
    bind_gives (IsAnsweredBy P) (new_index bits text) _ (λ v is. spares Done tt)
command_answered P s files (Load name) spares asked asked_shards =
    bind_gives (IsAnsweredBy P) (loaded files name) _ (λ v is. spares (Loaded (count_of v)) tt)
command_answered P s files (Save name) spares asked asked_shards =
    given_gives (IsAnsweredBy P) s.index NoIndex _ (λ v holds.
    bind_gives (IsAnsweredBy P) (spelled v) _ (λ bytes is. spares (Saved (length bytes)) tt))
command_answered P s files Shard spares asked asked_shards =
    given_gives (IsAnsweredBy P) s.index NoIndex _ (λ v holds.
    bind_gives (IsAnsweredBy P) (with_shard s.shards v) _ (λ vs is. spares (Sharded (length vs) (joined_count vs)) tt))
command_answered P s files Unshard spares asked asked_shards = spares Done tt
command_answered P s files (AskShards question) spares asked asked_shards =
    bind_gives (IsAnsweredBy P) (ask_shards question s.shards) _ (λ answer is.
    given_value (λ a. P (Ok a)) (ask_shards question s.shards) answer (asked_shards question refl) is)
command_answered P s files (Change c) spares asked asked_shards =
    given_gives (IsAnsweredBy P) s.index NoIndex _ (λ v holds.
    bind_gives (IsAnsweredBy P) (change c v) _ (λ done is.
    spares done.answer (given_value IsQuiet (change c v) done (change_quiet c v) is)))
command_answered P s files (Ask question) spares asked asked_shards =
    given_gives (IsAnsweredBy P) s.index NoIndex _ (λ v holds.
    bind_gives (IsAnsweredBy P) (ask question v) _ (λ answer is.
    given_value (λ a. P (Ok a)) (ask question v) answer (asked question v refl holds) is))

line_answered : (P : Checked Answer → Type 0) (s : State) (files : Files) (line : Line) → SparesOthers P
    → ((question : IndexQuestion) (v : IndexValue) → line ≡ Whole (Ask question) → s.index ≡ Some v
    → IfOk (ask question v) (λ a. P (Ok a)))
    → ((question : ShardQuestion) → line ≡ Whole (AskShards question)
    → IfOk (ask_shards question s.shards) (λ a. P (Ok a)))
    → IfOk (line_outcome line s files) (IsAnsweredBy P)
line_answered P s files TooLong spares asked asked_shards = tt
line_answered P s files Silent spares asked asked_shards = spares Quiet tt
line_answered P s files (Whole command) spares asked asked_shards =
    command_answered P s files command spares (λ question v is holds. asked question v (ap Whole is) holds)
    (λ question is. asked_shards question (ap Whole is))
line_answered P s files Broken spares asked asked_shards = tt

step_answered : (P : Checked Answer → Type 0) (s : State) (files : Files) (c : Checked Outcome)
    → ((refusal : Refusal) → P (Err refusal)) → IfOk c (IsAnsweredBy P) → P (step_with s files c).reply
step_answered P s files (Ok o) refused answered = answered
step_answered P s files (Err e) refused answered = refused e

-- ---- marked answers

spares_marked : (scan : Checked (List Hit)) → SparesOthers (MarkedIsScan scan)
spares_marked scan Quiet is = tt
spares_marked scan Done is = tt
spares_marked scan (Added m n) is = tt
spares_marked scan (Held m n) is = tt
spares_marked scan (Found hits lent mark) is = absurd is
spares_marked scan (Code code) is = tt
spares_marked scan (Saved n) is = tt
spares_marked scan (Loaded n) is = tt
spares_marked scan (Shown about) is = tt
spares_marked scan (Sharded m n) is = tt
spares_marked scan (Removed m n) is = tt

found_is : (scan : Checked (List Hit)) (hits : List Hit) (lent : ℕ) (mark : Bool) → (mark ≡ true → scan ≡ Ok hits)
    → MarkedIsScan scan (Ok (Found hits lent mark))
found_is scan hits lent true is = is refl
found_is scan hits lent false is = tt

search_is : (k : ℕ) (word : Word) (v : IndexValue) → IsLegal v
    → IfOk (search k word v) (λ a. MarkedIsScan (best_scan k word v) (Ok a))
search_is k word v legal =
    let P : Answer → Type 0 = λ a. MarkedIsScan (best_scan k word v) (Ok a) in
    bind_gives P (code_of (code_size v) word) _ (λ q read.
    demand_gives P (is_within 1 k_limit k) Value _ (λ few.
    demand_gives P (is_trained v) Untrained _ (λ trained.
    found_is (best_scan k word v) (best v q k) (looked v q) (search_mark v q k) (λ mark.
    ap (λ (c : Checked (List ℕ)). c >>= (λ q. Ok (scan_best v q k))) read
    ∙ ap Ok (sym (marked_best v q k legal mark))))))

range_is : (radius : ℕ) (word : Word) (v : IndexValue) → IsLegal v
    → IfOk (range radius word v) (λ a. MarkedIsScan (range_scan radius word v) (Ok a))
range_is radius word v legal =
    let P : Answer → Type 0 = λ a. MarkedIsScan (range_scan radius word v) (Ok a) in
    bind_gives P (code_of (code_size v) word) _ (λ q read.
    demand_gives P (nat_le radius radius_limit) Value _ (λ few.
    demand_gives P (is_trained v) Untrained _ (λ trained.
    found_is (range_scan radius word v) (within v q radius) (looked v q) (range_mark v q radius) (λ mark.
    ap (λ (c : Checked (List ℕ)). c >>= (λ q. Ok (scan_within v q radius))) read
    ∙ ap Ok (sym (marked_within v q radius legal mark))))))

-- the answer of a growing search is that of the scan
nearest_is : (k : ℕ) (word : Word) (v : IndexValue)
    → IfOk (nearest k word v) (λ a. MarkedIsScan (best_scan k word v) (Ok a))
nearest_is k word v =
    let P : Answer → Type 0 = λ a. MarkedIsScan (best_scan k word v) (Ok a) in
    bind_gives P (code_of (code_size v) word) _ (λ q read.
    given_gives P (multi_in v) Kind _ (λ multi is.
    demand_gives P (is_within 1 k_limit k) Value _ (λ few.
    ap (λ (c : Checked (List ℕ)). c >>= (λ q. Ok (scan_best v q k))) read)))

-- the code of a label is no hit
reconstructs : (P : Checked Answer → Type 0) (label : ℕ) (v : IndexValue) → SparesOthers P
    → IfOk (reconstruct label v) (λ a. P (Ok a))
reconstructs P label v spares =
    given_gives (λ a. P (Ok a)) (finds_labels v) Kind _ (λ finds is.
    demand_gives (λ a. P (Ok a)) (nat_lt label (count_of v)) Value _ (λ low.
    demand_gives (λ a. P (Ok a)) finds NoDirect _ (λ found. spares (Code (code_labelled v label)) tt)))

question_is : (question : IndexQuestion) (v : IndexValue) → IsLegal v
    → IfOk (ask question v) (λ a. MarkedIsScan (question_scan question v) (Ok a))
question_is (Search k word) v legal = search_is k word v legal
question_is (Range radius word) v legal = range_is radius word v legal
question_is (Nearest k word) v legal = nearest_is k word v
question_is Show v legal = tt
question_is (Reconstruct label) v legal =
    reconstructs (MarkedIsScan (question_scan (Reconstruct label) v)) label v
    (spares_marked (question_scan (Reconstruct label) v))

-- shards as one index
joined_is_legal : (vs : List IndexValue) (v : IndexValue) → AreLegalShards vs → joined vs ≡ Some v → IsLegal v
joined_is_legal vs v legal is = joined_legal vs v legal.alike is legal.each (omega (arith, legal.load))

shard_search_is : (k : ℕ) (word : Word) (vs : List IndexValue) → AreLegalShards vs
    → IfOk (shard_search k word vs)
    (λ a. MarkedIsScan ((given joined vs else NoIndex) >>= (λ v. best_scan k word v)) (Ok a))
shard_search_is k word vs legal =
    let scan : Checked (List Hit) = (given joined vs else NoIndex) >>= (λ v. best_scan k word v) in
    let P : Answer → Type 0 = λ a. MarkedIsScan scan (Ok a) in
    given_gives P (joined vs) NoIndex _ (λ v is.
    bind_gives P (code_of (code_size v) word) _ (λ q read.
    demand_gives P (is_within 1 k_limit k) Value _ (λ few.
    found_is scan (joined_best vs q k) (joined_looked vs q) (search_mark v q k) (λ mark.
    ap (λ (o : Option IndexValue). (given o else NoIndex) >>= (λ v. best_scan k word v)) is
    ∙ ap (λ (c : Checked (List ℕ)). c >>= (λ q. Ok (scan_best v q k))) read
    ∙ ap Ok (sym (joined_best_is vs v q k legal.alike is
    ∙ marked_best v q k (joined_is_legal vs v legal is) mark))))))

shard_range_is : (radius : ℕ) (word : Word) (vs : List IndexValue) → AreLegalShards vs
    → IfOk (shard_range radius word vs)
    (λ a. MarkedIsScan ((given joined vs else NoIndex) >>= (λ v. range_scan radius word v)) (Ok a))
shard_range_is radius word vs legal =
    let scan : Checked (List Hit) = (given joined vs else NoIndex) >>= (λ v. range_scan radius word v) in
    let P : Answer → Type 0 = λ a. MarkedIsScan scan (Ok a) in
    given_gives P (joined vs) NoIndex _ (λ v is.
    bind_gives P (code_of (code_size v) word) _ (λ q read.
    demand_gives P (nat_le radius radius_limit) Value _ (λ few.
    found_is scan (joined_within vs q radius) (joined_looked vs q) (range_mark v q radius) (λ mark.
    ap (λ (o : Option IndexValue). (given o else NoIndex) >>= (λ v. range_scan radius word v)) is
    ∙ ap (λ (c : Checked (List ℕ)). c >>= (λ q. Ok (scan_within v q radius))) read
    ∙ ap Ok (sym (joined_within_is vs v q radius legal.alike is
    ∙ marked_within v q radius (joined_is_legal vs v legal is) mark))))))

shard_question_is : (question : ShardQuestion) (vs : List IndexValue) → AreLegalShards vs
    → IfOk (ask_shards question vs)
    (λ a. MarkedIsScan ((given joined vs else NoIndex) >>= (λ v. shard_scan question v)) (Ok a))
shard_question_is (ShardSearch k word) vs legal = shard_search_is k word vs legal
shard_question_is (ShardRange radius word) vs legal = shard_range_is radius word vs legal

refused_marked : (scan : Checked (List Hit)) (refusal : Refusal) → MarkedIsScan scan (Err refusal)
refused_marked scan refusal = tt

-- what a question is answered by a full scan, in a state that holds this index
scan_is : (line : Line) (s : State) (question : IndexQuestion) (v : IndexValue) → line ≡ Whole (Ask question)
    → s.index ≡ Some v → scan_of line s ≡ question_scan question v
scan_is line s question v is holds =
    ap (λ l. scan_of l s) is
    ∙ ap (λ (o : Option IndexValue). (given o else NoIndex) >>= (λ v. question_scan question v)) holds

line_is : (s : State) (files : Files) (line : Line) → IsLegalState s
    → MarkedIsScan (scan_of line s) (step_with s files (line_outcome line s files)).reply
line_is s files line legal =
    step_answered (MarkedIsScan (scan_of line s)) s files (line_outcome line s files)
    (refused_marked (scan_of line s))
    (line_answered (MarkedIsScan (scan_of line s)) s files line (spares_marked (scan_of line s))
    (λ question v is holds. subst (λ scan. IfOk (ask question v) (λ a. MarkedIsScan scan (Ok a)))
    (sym (scan_is line s question v is holds)) (question_is question v (held_legal s v legal holds)))
    (λ question is. subst (λ scan. IfOk (ask_shards question s.shards) (λ a. MarkedIsScan scan (Ok a)))
    (sym (ap (λ l. scan_of l s) is)) (shard_question_is question s.shards legal.shards)))

pub step_is : (s : State) (files : Files) (line : List ℕ) → IsLegalState s
    → MarkedIsScan (scan_of (line_of line) s) (step s files line).reply
unfolding step
step_is s files line legal = line_is s files (line_of line) legal

-- ---- range searches within the bound of a MultiHash

spares_partial : SparesOthers IsNotPartial
spares_partial Quiet is = tt
spares_partial Done is = tt
spares_partial (Added m n) is = tt
spares_partial (Held m n) is = tt
spares_partial (Found hits lent mark) is = absurd is
spares_partial (Code code) is = tt
spares_partial (Saved n) is = tt
spares_partial (Loaded n) is = tt
spares_partial (Shown about) is = tt
spares_partial (Sharded m n) is = tt
spares_partial (Removed m n) is = tt

or_true : (a b : Bool) → b ≡ true → (a || b) ≡ true
or_true true b is = refl
or_true false b is = is

pub same_multi : (v w : MultiValue) → Some v ≡ Some w → v ≡ w
same_multi v w is = cc

bound_is : (v : IndexValue) (multi : MultiValue) → multi_in v ≡ Some multi → bound_of v ≡ multi.nhash * (multi.nflip + 1)
bound_is (Bare (Flat v)) multi is = absurd cc
bound_is (Bare (Ivf v)) multi is = absurd cc
bound_is (Bare (Hash v)) multi is = absurd cc
bound_is (Bare (Multi v)) multi is = ap (λ (m : MultiValue). m.nhash * (m.nflip + 1)) (same_multi v multi is)
bound_is (IdMap name (Flat v) ids) multi is = absurd cc
bound_is (IdMap name (Ivf v) ids) multi is = absurd cc
bound_is (IdMap name (Hash v) ids) multi is = absurd cc
bound_is (IdMap name (Multi v) ids) multi is = ap (λ (m : MultiValue). m.nhash * (m.nflip + 1)) (same_multi v multi is)

range_exact : (radius : ℕ) (word : Word) (v : IndexValue) (multi : MultiValue) → multi_in v ≡ Some multi
    → radius ≤ multi.nhash * (multi.nflip + 1) → IfOk (range radius word v) (λ a. IsNotPartial (Ok a))
range_exact radius word v multi is within_bound =
    let P : Answer → Type 0 = λ a. IsNotPartial (Ok a) in
    bind_gives P (code_of (code_size v) word) _ (λ q read.
    demand_gives P (nat_le radius radius_limit) Value _ (λ few.
    demand_gives P (is_trained v) Untrained _ (λ trained.
    or_true (probes_all v q) (nat_le radius (bound_of v))
    (le-leb radius (bound_of v) (subst (λ (n : ℕ). radius ≤ n) (sym (bound_is v multi is)) within_bound)))))

same_index : (s : State) (v w : IndexValue) → s.index ≡ Some v → s.index ≡ Some w → v ≡ w
same_index s v w is also = cc

bound_question : (s : State) (question : IndexQuestion) (v : IndexValue) → s.index ≡ Some v
    → IsWithinBound (Whole (Ask question)) s → IfOk (ask question v) (λ a. IsNotPartial (Ok a))
bound_question s (Search k word) v holds bound = absurd bound
bound_question s (Range radius word) v holds bound =
    range_exact radius word v bound.1 (ap multi_in (same_index s v bound.0 holds bound.2) ∙ bound.3) bound.4
bound_question s (Nearest k word) v holds bound = absurd bound
bound_question s (Reconstruct label) v holds bound = absurd bound
bound_question s Show v holds bound = absurd bound

no_bound : (s : State) (line : Line) (question : ShardQuestion) → line ≡ Whole (AskShards question) → IsWithinBound line s → ⊥
no_bound s line question is bound = subst (λ l. IsWithinBound l s) is bound

refused_exact : (refusal : Refusal) → IsNotPartial (Err refusal)
refused_exact refusal = tt

bound_line : (s : State) (files : Files) (line : Line) → IsWithinBound line s
    → IsNotPartial (step_with s files (line_outcome line s files)).reply
bound_line s files line bound =
    step_answered IsNotPartial s files (line_outcome line s files) refused_exact
    (line_answered IsNotPartial s files line spares_partial
    (λ question v is holds. bound_question s question v holds (subst (λ l. IsWithinBound l s) is bound))
    (λ question is. absurd (no_bound s line question is bound)))

pub step_exact : (s : State) (files : Files) (line : List ℕ) → IsWithinBound (line_of line) s
    → IsNotPartial (step s files line).reply
unfolding step
step_exact s files line bound = bound_line s files (line_of line) bound

-- ---- each answer to some lines

pub lines_are : (s : State) (files : Files) (lines : List (List ℕ)) → IsLegalState s → HoldLegal files
    → AllMarkedAreScans s files lines
lines_are s files [] legal hold = tt
lines_are s files (line ∷ more) legal hold = (
  step_is s files line legal,
  lines_are (step s files line).state (step s files line).files more ((step_follows s files line legal).legal hold)
      (step_holds s files line legal hold),
)

pub lines_exact : (s : State) (files : Files) (lines : List (List ℕ)) → AllWithinBoundAreExact s files lines
lines_exact s files [] = tt
lines_exact s files (line ∷ more) = (
  step_exact s files line,
  lines_exact (step s files line).state (step s files line).files more,
)

-- ---- what the session answers

-- the files that a shelf tells
abbrev known : Option Contents → Files
known None = no_files
known (Some contents) = contents.files

-- a reply is that of the step, or it answers a load
replied : (line : List ℕ) (s new : State) (before after : Option Contents) (reply : Reply)
    → IsAnswered (line_of line) s new before after reply
    → (reply_of reply ≡ (said_step (line_of line) s (known before)).reply) ⊎ AnswersLoad (reply_of reply)
replied line s new (Some contents) after reply is = inl (is.step contents.files refl).reply_is
replied line s new None after reply is =
    elim (cases_Bool (is_load line)) [
      | inl reads ↦ inr (is.loaded reads)
      | inr keeps ↦ inl (is.step no_files keeps).reply_is
    ]

load_marked : (scan : Checked (List Hit)) (r : Checked Answer) → AnswersLoad r → MarkedIsScan scan r
load_marked scan (Ok (Loaded n)) is = tt
load_marked scan (Err refusal) is = tt
load_marked scan (Ok Quiet) is = tt
load_marked scan (Ok Done) is = tt
load_marked scan (Ok (Added m n)) is = tt
load_marked scan (Ok (Held m n)) is = tt
load_marked scan (Ok (Found hits lent mark)) is = absurd is
load_marked scan (Ok (Code code)) is = tt
load_marked scan (Ok (Saved n)) is = tt
load_marked scan (Ok (Shown about)) is = tt
load_marked scan (Ok (Sharded m n)) is = tt
load_marked scan (Ok (Removed m n)) is = tt

load_exact : (r : Checked Answer) → AnswersLoad r → IsNotPartial r
load_exact (Ok (Loaded n)) is = tt
load_exact (Err refusal) is = tt
load_exact (Ok Quiet) is = tt
load_exact (Ok Done) is = tt
load_exact (Ok (Added m n)) is = tt
load_exact (Ok (Held m n)) is = tt
load_exact (Ok (Found hits lent mark)) is = absurd is
load_exact (Ok (Code code)) is = tt
load_exact (Ok (Saved n)) is = tt
load_exact (Ok (Shown about)) is = tt
load_exact (Ok (Sharded m n)) is = tt
load_exact (Ok (Removed m n)) is = tt

pub reply_is : (line : List ℕ) (s new : State) (before after : Option Contents) (reply : Reply) → IsLegalState s
    → IsAnswered (line_of line) s new before after reply → MarkedIsScan (scan_of (line_of line) s) (reply_of reply)
reply_is line s new before after reply legal is =
    elim (replied line s new before after reply is) [
      | inl same ↦ subst (λ r. MarkedIsScan (scan_of (line_of line) s) r) (sym same)
          (line_is s (known before) (line_of line) legal)
      | inr load ↦ load_marked (scan_of (line_of line) s) (reply_of reply) load
    ]

pub reply_exact : (line : List ℕ) (s new : State) (before after : Option Contents) (reply : Reply)
    → IsAnswered (line_of line) s new before after reply → IsWithinBound (line_of line) s
    → IsNotPartial (reply_of reply)
reply_exact line s new before after reply is bound =
    elim (replied line s new before after reply is) [
      | inl same ↦ subst IsNotPartial (sym same) (bound_line s (known before) (line_of line) bound)
      | inr load ↦ load_exact (reply_of reply) load
    ]
