-- Each step leads from a legal state to a legal one.
use Rattle.std.proofs.Common.{◌≡◌, ℕ, suc, ◌+◌, ◌-◌, ◌*◌, ◌^◌, ◌<◌, ◌≤◌, ℤ, FitsSigned, w64, Bool, true, false, not}
use Rattle.std.proofs.Common.{◌||◌, nat_le, nat_lt, cond, Option, Some, None, is_some, Result, Ok, Err}
use Rattle.std.proofs.Common.{List, [], ◌∷◌, ◌++◌, length, map, sum_by, refl, sym, ap, ◌∙◌, subst, arith}
use Rattle.std.specs.List.{All, list_all}
use Rattle.std.specs.Result.{result_ok}
use Rattle.std.specs.Str.{bytes_eq}
use Rattle.std.proofs.lemmas.Bool.{and_parts, eq-eqb, leb-true, ltb-true}
use Rattle.std.proofs.lemmas.List.{get_or_default, length-map}
use Rattle.std.proofs.lemmas.List.Elements.{All-nil, All-cons, All-append}
use Rattle.hex.specs.declared.error.FromHexError.{FromHexError}
use Rattle.hex.specs.Hex.{decode_sized}
use Rattle.hex.proofs.HexLemmas.{decode_sized-ok, decode_sized-twice, decode_of-ok}
use Rattle.std.specs.Result.{IfOk}
use Rattle.bcodes.specs.Ranges.{is_dim, load_limit}
use Rattle.bcodes.specs.Value.{ListRow, Flat, Ivf, Hash, Multi, IndexValue, Bare, IdMap, HasBytes, IsLegal, IsNumbering}
use Rattle.bcodes.specs.Value.{code_size, count_of, is_trained, labels_from, load_of, takes_ids}
use Rattle.bcodes.specs.Settings.{ivf_in, key_bits, needs_ids, is_numbering}
use Rattle.bcodes.specs.Answers.{after_add, after_centroids}
use Rattle.bcodes.proofs.NumberedLemmas.{length-labels_from}
use Rattle.factory_text.specs.Printing.{fits}
use Rattle.factory_text.specs.Reading.{read_spec}
use Rattle.id_select.specs.Removal.{removed}
use Rattle.id_select.proofs.LegalLemmas.{removed_legal}
use Rattle.shard_set.specs.Joined.{is_alike}
use Rattle.shard_set.proofs.AlikeLemmas.{are_alike_push}
use Rattle.any_index.proofs.LoadLemmas.{few_after_add}
use Rattle.multi_hash.specs.Wide.{wide}
use Rattle.multi_hash.specs.declared.wide.Wide.{Wide}
use Rattle.outside.specs.Contents.{Files, put}
use Rattle.file_parts.specs.declared.file_fault.FileFault.{FileFault}
use Rattle.file_parts.specs.Format.{read}
use Rattle.file_parts.proofs.Reading.{read-spells, spells-read}
use Rattle.index_files.specs.Canon.{canon}
use Rattle.index_files.specs.File.{settled, IsFile}
use Rattle.index_files.specs.FileFormat.{file}
use Rattle.index_files.proofs.KindLaws.{again, found}
use Rattle.index_files.proofs.CanonLaws as canonical
use Rattle.faissb_core.specs.declared.reply.refusal.Refusal.{Refusal}
use Rattle.faissb_core.specs.declared.reply.refusal.Refusal.TheVariants.{Code, Dim, Factory, Ids, Kind, Value, Full, Untrained}
use Rattle.faissb_core.specs.declared.reply.refusal.Refusal.TheVariants.{Load as Heavy, NoIndex, Sequential, Mismatch, NoFile, File, BucketBits}
use Rattle.faissb_core.specs.declared.reply.factory_word.FactoryWord.TheVariants.{Misfit}
use Rattle.faissb_core.specs.Language.Words.{Word, IdWord}
use Rattle.faissb_core.specs.Language.Command.{Command, New, Load, Save, Shard, Unshard, Change, Ask, AskShards}
use Rattle.faissb_core.specs.Language.Command.{IndexChange, Add, AddIds, Centroids}
use Rattle.faissb_core.specs.Language.Command.{Nprobe, Nflip, MaxCodes, DirectMap, Remove}
use Rattle.faissb_core.specs.Language.Lines.{Line, TooLong, Silent, Whole, Broken, line_of, makes_shard, is_shard}
use Rattle.faissb_core.specs.Machine.Checked.{Checked, given◌else◌, demand◌else◌, absent◌else◌, accept◌else◌, ◌>>=◌, ◌>>◌, is_within}
use Rattle.faissb_core.specs.Machine.State.{State, Outcome, Changed, code_of, codes_of}
use Rattle.faissb_core.specs.Machine.New.{new_index, word_of}
use Rattle.faissb_core.specs.Machine.Adding.{add, add_ids, append, give_centroids, is_light}
use Rattle.faissb_core.specs.Machine.Settings.{set_nprobe, set_nflip, set_max_codes, set_direct}
use Rattle.faissb_core.specs.Machine.Files.{loaded, spelled}
use Rattle.faissb_core.specs.Machine.Shards.{may_be_shard, shard_limit, with_shard}
use Rattle.faissb_core.specs.Machine.Step.{step, step_with, line_outcome, command_outcome, change, ask, ask_shards}
use Rattle.faissb_core.specs.Machine.Legal.{IsLegalIndex, AreLegalShards, IsLegalState, HoldBytes}
use Rattle.faissb_core.proofs.LanguageLemmas.ReadLemmas.{IsReadCommand, IsReadLine, line_is_read}
use Rattle.faissb_core.proofs.SessionLemmas.CheckedLemmas.{given_value, bind_gives, demand_gives, given_gives}
use Rattle.faissb_core.proofs.SessionLemmas.CheckedLemmas.{accept_gives}
use Rattle.faissb_core.proofs.SessionLemmas.ChangeLemmas.{labels_fit, legal_after_add, legal_after_centroids}
use Rattle.faissb_core.proofs.SessionLemmas.ChangeLemmas.{legal_ivf_in, legal_with_ivf, legal_nprobe, legal_max_codes}
use Rattle.faissb_core.proofs.SessionLemmas.ChangeLemmas.{legal_direct, legal_with_nflip}
use Rattle.faissb_core.proofs.SessionLemmas.NumberingLemmas.{numbering_tested}
use Rattle.faissb_core.proofs.SessionLemmas.NewLemmas.{dim_is, legal_empty, numbers_read}

-- ---- what words write

ok_is : (read : Result (List ℕ) FromHexError) (code : List ℕ) → (given result_ok read else Code) ≡ Ok code
    → read ≡ Ok code
ok_is (Ok bytes) code is = cc
ok_is (Err e) code is = cc

-- what a word writes is a code
code_is : (size : ℕ) (word code : List ℕ) → code_of size word ≡ Ok code → HasBytes size code
code_is size word code is =
    let read : decode_sized word size ≡ Ok code = ok_is (decode_sized word size) code is in
    let twice : length word ≡ 2 * size = decode_sized-ok word size code read in
    let whole = decode_of-ok word code (sym (decode_sized-twice word size twice) ∙ read) in
    record {
      size = omega (arith, twice, whole.2);
      bytes = λ k d low. rw (get_or_default code k d 0 low) (whole.3 k);
    }

-- the parts of a list that was read
record AreParts (first : Checked (List ℕ)) (rest : Checked (List (List ℕ))) (added : List (List ℕ)) : Type 0 where
  code : List ℕ
  more : List (List ℕ)
  first_is : first ≡ Ok code
  rest_is : rest ≡ Ok more
  both : code ∷ more ≡ added

parts_of : (first : Checked (List ℕ)) (rest : Checked (List (List ℕ))) (added : List (List ℕ))
    → (first >>= (λ code. rest >>= (λ more. Ok (code ∷ more)))) ≡ Ok added → AreParts first rest added
parts_of (Err e) rest added is = cc
parts_of (Ok code) (Err e) added is = cc
parts_of (Ok code) (Ok more) added is = record { code = code; more = more; first_is = refl; rest_is = refl; both = cc }

pub codes_are : (size : ℕ) (words : List Word) (added : List (List ℕ)) → codes_of size words ≡ Ok added
    → All (HasBytes size) added
codes_are size [] added is = let none : [] ≡ added = cc in
    subst (λ cs. All (HasBytes size) cs) none (All-nil (HasBytes size))
codes_are size (word ∷ words) added is =
    let p = parts_of (code_of size word) (codes_of size words) added is in
    subst (λ cs. All (HasBytes size) cs) p.both
    (All-cons (HasBytes size) p.code p.more (code_is size word p.code p.first_is)
    (codes_are size words p.more p.rest_is))

-- as many codes as words
pub length-codes_of : (size : ℕ) (words : List Word) (added : List (List ℕ)) → codes_of size words ≡ Ok added
    → length added ≡ length words
length-codes_of size [] added is = let none : [] ≡ added = cc in rw (sym none) refl
length-codes_of size (word ∷ words) added is =
    let p = parts_of (code_of size word) (codes_of size words) added is in
    rw (sym p.both) (ap suc (length-codes_of size words p.more p.rest_is))

-- ---- changes

abbrev IsLegalChange : Changed → Type 0
IsLegalChange done = IsLegal done.index

new_legal : (bits : ℕ) (text : Word) → IfOk (new_index bits text) IsLegal
new_legal bits text =
    demand_gives IsLegal (is_dim bits) Dim _ (λ dim.
    accept_gives IsLegal (read_spec text) (λ e. Factory (word_of e)) _ (λ spec read.
    demand_gives IsLegal (fits spec bits) (Factory Misfit) _ (λ fit.
    legal_empty spec bits (dim_is bits dim) (numbers_read text spec read) fit)))

append_legal : (v : IndexValue) (labels : List ℤ) (added : List (List ℕ)) → IsLegal v
    → All (HasBytes (code_size v)) added → length labels ≡ length added
    → (takes_ids v ≡ false → labels ≡ labels_from (count_of v) (length added))
    → (load_of (after_add v labels added) ≤ load_limit → All (FitsSigned w64) labels)
    → IfOk (append labels added v) IsLegalChange
append_legal v labels added legal codes same places fit =
    demand_gives IsLegalChange (is_trained v) Untrained _ (λ trained.
    demand_gives IsLegalChange (is_light (after_add v labels added)) Heavy _ (λ test.
    let light : load_of (after_add v labels added) ≤ load_limit
    = leb-true (load_of (after_add v labels added)) load_limit test in
    legal_after_add v labels added legal (fit light) codes same trained places light))

add_legal : (words : List Word) (v : IndexValue) → IsLegal v → IfOk (add words v) IsLegalChange
add_legal words v legal =
    bind_gives IsLegalChange (codes_of (code_size v) words) _ (λ added read.
    demand_gives IsLegalChange (not (needs_ids v)) Ids _ (λ plain.
    let labels : List ℤ = labels_from (count_of v) (length added) in
    let same : length labels ≡ length added = length-labels_from (count_of v) (length added) in
    append_legal v labels added legal (codes_are (code_size v) words added read) same (λ _. refl)
    (λ light. labels_fit (count_of v) (length added) (few_after_add v labels added same light))))

taken : (v : IndexValue) (labels other : List ℤ) → takes_ids v ≡ true → takes_ids v ≡ false → labels ≡ other
taken v labels other takes takes_not = absurd cc

add_ids_legal : (pairs : List IdWord) (v : IndexValue) → IsLegal v
    → All (FitsSigned w64) (map (λ (p : IdWord). p.id) pairs) → IfOk (add_ids pairs v) IsLegalChange
add_ids_legal pairs v legal fit =
    bind_gives IsLegalChange (codes_of (code_size v) (map (λ (p : IdWord). p.word) pairs)) _ (λ added read.
    demand_gives IsLegalChange (takes_ids v) Ids _ (λ takes.
    let ids : List ℤ = map (λ (p : IdWord). p.id) pairs in
    let same : length ids ≡ length added = length-map pairs (λ (p : IdWord). p.id)
    ∙ sym (length-map pairs (λ (p : IdWord). p.word))
    ∙ sym (length-codes_of (code_size v) (map (λ (p : IdWord). p.word) pairs) added read) in
    append_legal v ids added legal
    (codes_are (code_size v) (map (λ (p : IdWord). p.word) pairs) added read) same
    (taken v ids (labels_from (count_of v) (length added)) takes) (λ _. fit)))

centroids_legal : (words : List Word) (v : IndexValue) → IsLegal v → IfOk (give_centroids words v) IsLegalChange
centroids_legal words v legal =
    bind_gives IsLegalChange (codes_of (code_size v) words) _ (λ more read.
    given_gives IsLegalChange (ivf_in v) Kind _ (λ ivf is.
    demand_gives IsLegalChange (nat_le (length ivf.centroids + length more) ivf.nlist) Full _ (λ few.
    demand_gives IsLegalChange (is_light (after_centroids v more)) Heavy _ (λ light.
    legal_after_centroids v ivf more legal is (codes_are (code_size v) words more read)
    (leb-true (length ivf.centroids + length more) ivf.nlist few)
    (leb-true (load_of (after_centroids v more)) load_limit light)))))

-- a number within its range
within : (n : ℕ) → is_within 1 (2 ^ 63 - 1) n ≡ true → (1 ≤ n) × (n < 2 ^ 63)
within n test =
    let p = and_parts (nat_le 1 n) (nat_le n (2 ^ 63 - 1)) test in
    let most = leb-true n (2 ^ 63 - 1) p.1 in
    (leb-true 1 n p.0, omega arith)

nprobe_legal : (n : ℕ) (v : IndexValue) → IsLegal v → IfOk (set_nprobe n v) IsLegalChange
nprobe_legal n v legal =
    given_gives IsLegalChange (ivf_in v) Kind _ (λ ivf is.
    demand_gives IsLegalChange (is_within 1 (2 ^ 63 - 1) n) Value _ (λ test.
    let range = within n test in
    legal_with_ivf v ivf (record ivf { nprobe = n }) legal is
    (legal_nprobe ivf n (legal_ivf_in v ivf legal is) range.0 range.1) refl))

max_codes_legal : (n : ℕ) (v : IndexValue) → IsLegal v → IfOk (set_max_codes n v) IsLegalChange
max_codes_legal n v legal =
    given_gives IsLegalChange (ivf_in v) Kind _ (λ ivf is.
    demand_gives IsLegalChange (nat_lt n (2 ^ 63)) Value _ (λ test.
    legal_with_ivf v ivf (record ivf { max_codes = n }) legal is
    (legal_max_codes ivf n (legal_ivf_in v ivf legal is) (ltb-true n (2 ^ 63) test)) refl))

nflip_legal : (n : ℕ) (v : IndexValue) → IsLegal v → IfOk (set_nflip n v) IsLegalChange
nflip_legal n v legal =
    given_gives IsLegalChange (key_bits v) Kind _ (λ bits is.
    demand_gives IsLegalChange (nat_le n bits) Value _ (λ test.
    legal_with_nflip v n bits legal is (leb-true n bits test)))

numbers_where_on : (on : Bool) (labels : List ℤ) → (not on || is_numbering labels) ≡ true → on ≡ true
    → IsNumbering labels
numbers_where_on true labels test is = numbering_tested labels test
numbers_where_on false labels test is = absurd cc

direct_legal : (on : Bool) (v : IndexValue) → IsLegal v → IfOk (set_direct on v) IsLegalChange
direct_legal on v legal =
    given_gives IsLegalChange (ivf_in v) Kind _ (λ ivf is.
    let labels : List ℤ = map (λ (row : ListRow). row.label) ivf.rows in
    demand_gives IsLegalChange (not on || is_numbering labels) Sequential _ (λ test.
    legal_with_ivf v ivf (record ivf { direct = on }) legal is
    (legal_direct ivf on (legal_ivf_in v ivf legal is) (numbers_where_on on labels test)) refl))

change_legal : (c : IndexChange) (v : IndexValue) → IsReadCommand (Change c) → IsLegal v
    → IfOk (change c v) IsLegalChange
change_legal (Add words) v read legal = add_legal words v legal
change_legal (AddIds pairs) v read legal = add_ids_legal pairs v legal read
change_legal (Centroids words) v read legal = centroids_legal words v legal
change_legal (Nprobe n) v read legal = nprobe_legal n v legal
change_legal (Nflip n) v read legal = nflip_legal n v legal
change_legal (MaxCodes n) v read legal = max_codes_legal n v legal
change_legal (DirectMap on) v read legal = direct_legal on v legal
change_legal (Remove selector) v read legal =
    given_gives IsLegalChange (removed selector v) Kind _ (λ w is. removed_legal selector v w legal is)

-- ---- shards

pub alike_to_itself : (v : IndexValue) → may_be_shard v ≡ true → is_alike v v ≡ true
alike_to_itself (Bare (Flat v)) is = eq-eqb v.dim v.dim refl
alike_to_itself (Bare (Multi v)) is =
    rw (
      eq-eqb v.dim v.dim refl,
      eq-eqb v.nhash v.nhash refl,
      eq-eqb v.b v.b refl,
      eq-eqb v.nflip v.nflip refl,
    ) refl
alike_to_itself (Bare (Ivf v)) is = absurd cc
alike_to_itself (Bare (Hash v)) is = absurd cc
alike_to_itself (IdMap name v ids) is = absurd cc

pub no_shards : AreLegalShards []
no_shards = record { each = All-nil IsLegal; alike = refl; load = omega arith }

one_more : (vs : List IndexValue) (v : IndexValue) → AreLegalShards vs → IsLegal v
    → IfOk (with_shard vs v) AreLegalShards
one_more vs v legal this =
    demand_gives AreLegalShards (may_be_shard v) Kind _ (λ kind.
    demand_gives AreLegalShards (nat_le (sum_by load_of (vs ++ v ∷ [])) shard_limit) Heavy _ (λ light.
    demand_gives AreLegalShards (list_all (is_alike v) vs) Mismatch _ (λ alike. record {
      each = All-append IsLegal vs (v ∷ []) legal.each (All-cons IsLegal v [] this (All-nil IsLegal));
      alike = are_alike_push vs v legal.alike (alike_to_itself v kind) alike;
      load = leb-true (sum_by load_of (vs ++ v ∷ [])) shard_limit light;
    })))

-- ---- files

-- what is read of a file is legal
abbrev pub HoldLegal : Files → Type 0
HoldLegal files = (name bytes : List ℕ) (v : IndexValue) → files name ≡ Some bytes → read file bytes ≡ Ok v → IsLegal v

pub bytes_hold : (files : Files) → HoldBytes files → HoldLegal files
bytes_hold files are name bytes v is reads = (found bytes v (are name bytes is) (spells-read file bytes v reads)).legal

accepted_value : {A E : Type 0} (P : A → Type 0) (r : Result A E) (refusal : E → Refusal)
    → ((x : A) → r ≡ Ok x → P x) → IfOk (accept r else refusal) P
accepted_value P (Ok x) refusal each = each x refl
accepted_value P (Err e) refusal each = tt

loaded_legal : (files : Files) (name : Word) → HoldLegal files → IfOk (loaded files name) IsLegal
loaded_legal files name hold =
    given_gives IsLegal (files name) NoFile _ (λ bytes is.
    accepted_value IsLegal (read file bytes) File (λ v reads. hold name bytes v is reads))

same_value : (v w : IndexValue) (r : Result IndexValue FileFault) → r ≡ Ok v → r ≡ Ok w → v ≡ w
same_value v w r is also = cc

-- what was written of a legal index is read as one
canon_legal : (v w : IndexValue) → IsLegal v → wide v ≡ None → read file (canon v) ≡ Ok w → IsLegal w
canon_legal v w legal narrow reads =
    let good : IsFile (settled v) (canon v) = canonical.written v legal narrow in
    subst IsLegal (same_value (settled v) w (read file (canon v))
    (read-spells file (canon v) (settled v) (again (canon v) (settled v) good)) reads) good.legal

pick_hold : (test : Bool) (bytes other : List ℕ) (o : Option (List ℕ)) (v w : IndexValue) → IsLegal v → wide v ≡ None
    → bytes ≡ canon v → (o ≡ Some other → read file other ≡ Ok w → IsLegal w)
    → cond test (Some bytes) o ≡ Some other → read file other ≡ Ok w → IsLegal w
pick_hold true bytes other o v w legal narrow is rest here reads =
    let same : other ≡ canon v = cc in
    canon_legal v w legal narrow (subst (λ b. read file b ≡ Ok w) same reads)
pick_hold false bytes other o v w legal narrow is rest here reads = rest here reads

saved_hold : (files : Files) (name : Word) (v : IndexValue) (bytes : List ℕ) → HoldLegal files → IsLegal v
    → wide v ≡ None → bytes ≡ canon v → HoldLegal (put files name bytes)
saved_hold files name v bytes hold legal narrow is other read_bytes w here reads =
    pick_hold (bytes_eq other name) bytes read_bytes (files other) v w legal narrow is
    (λ before. hold other read_bytes w before) here reads

record IsNarrow (v : IndexValue) (bytes : List ℕ) : Type 0 where
  narrow : wide v ≡ None
  same : bytes ≡ canon v

spelled_narrow : (v : IndexValue) (o : Option Wide) → wide v ≡ o
    → IfOk ((absent o else BucketBits) >> Ok (canon v)) (IsNarrow v)
spelled_narrow v None is = record { narrow = is; same = refl }
spelled_narrow v (Some w) is = tt

-- ---- steps

-- a state that follows another, and keeps an index where it is to keep one; it is legal where the files read are
pub record Follows (sound : Type 0) (keeps : Bool) (before after : State) : Type 0 where
  pub legal : sound → IsLegalState after
  pub some : keeps ≡ true → is_some before.index ≡ true → is_some after.index ≡ true

stays : (sound : Type 0) (keeps : Bool) (s : State) → IsLegalState s → Follows sound keeps s s
stays sound keeps s legal = record { legal = λ _. legal; some = λ _ is. is }

-- a legal index in a state
now_holds : (sound : Type 0) (keeps : Bool) (s : State) (v : IndexValue) → IsLegalState s → (sound → IsLegal v)
    → Follows sound keeps s (record s { index = Some v })
now_holds sound keeps s v before legal = record {
  legal = λ are. record { index = legal are; shards = before.shards };
  some = λ _ _. refl;
}

pub held_legal : (s : State) (v : IndexValue) → IsLegalState s → s.index ≡ Some v → IsLegal v
held_legal s v legal is = subst IsLegalIndex is legal.index

abbrev keeps_index : Command → Bool
keeps_index command = not (makes_shard (Whole command))

command_follows : (s : State) (files : Files) (command : Command) → IsReadCommand command → IsLegalState s
    → IfOk (command_outcome command s files) (λ o. Follows (HoldLegal files) (keeps_index command) s o.state)
command_follows s files (New bits text) read legal =
    bind_gives (λ o. Follows (HoldLegal files) true s o.state) (new_index bits text) _ (λ v is.
    now_holds (HoldLegal files) true s v legal (λ hold. given_value IsLegal (new_index bits text) v
    (new_legal bits text) is))
command_follows s files (Load name) read legal =
    bind_gives (λ o. Follows (HoldLegal files) true s o.state) (loaded files name) _ (λ v is.
    now_holds (HoldLegal files) true s v legal (λ hold. given_value IsLegal (loaded files name) v
    (loaded_legal files name hold) is))
command_follows s files (Save name) read legal =
    given_gives (λ o. Follows (HoldLegal files) true s o.state) s.index NoIndex _ (λ v holds.
    bind_gives (λ o. Follows (HoldLegal files) true s o.state) (spelled v) _ (λ bytes is.
    stays (HoldLegal files) true s legal))
command_follows s files Shard read legal =
    given_gives (λ o. Follows (HoldLegal files) false s o.state) s.index NoIndex _ (λ v holds.
    bind_gives (λ o. Follows (HoldLegal files) false s o.state) (with_shard s.shards v) _ (λ vs is. record {
      legal = λ hold. record {
        index = tt;
        shards = given_value AreLegalShards (with_shard s.shards v) vs
            (one_more s.shards v legal.shards (held_legal s v legal holds)) is;
      };
      some = λ not. absurd cc;
    }))
command_follows s files Unshard read legal = record {
  legal = λ hold. record { index = legal.index; shards = no_shards };
  some = λ _ is. is;
}
command_follows s files (Change c) read legal =
    given_gives (λ o. Follows (HoldLegal files) true s o.state) s.index NoIndex _ (λ v holds.
    bind_gives (λ o. Follows (HoldLegal files) true s o.state) (change c v) _ (λ done is.
    now_holds (HoldLegal files) true s done.index legal (λ hold. given_value IsLegalChange (change c v) done
    (change_legal c v read (held_legal s v legal holds)) is)))
command_follows s files (Ask question) read legal =
    given_gives (λ o. Follows (HoldLegal files) true s o.state) s.index NoIndex _ (λ v holds.
    bind_gives (λ o. Follows (HoldLegal files) true s o.state) (ask question v) _ (λ answer is.
    stays (HoldLegal files) true s legal))
command_follows s files (AskShards question) read legal =
    bind_gives (λ o. Follows (HoldLegal files) true s o.state) (ask_shards question s.shards) _ (λ answer is.
    stays (HoldLegal files) true s legal)

abbrev line_keeps : Line → Bool
line_keeps line = not (makes_shard line)

line_follows : (s : State) (files : Files) (line : Line) → IsReadLine line → IsLegalState s
    → IfOk (line_outcome line s files) (λ o. Follows (HoldLegal files) (line_keeps line) s o.state)
line_follows s files TooLong read legal = tt
line_follows s files Silent read legal = stays (HoldLegal files) true s legal
line_follows s files (Whole command) read legal = command_follows s files command read legal
line_follows s files Broken read legal = tt

step_with_follows : (keeps : Bool) (s : State) (files : Files) (c : Checked Outcome) → IsLegalState s
    → IfOk c (λ o. Follows (HoldLegal files) keeps s o.state)
    → Follows (HoldLegal files) keeps s (step_with s files c).state
step_with_follows keeps s files (Ok o) legal follows = follows
step_with_follows keeps s files (Err e) legal follows = stays (HoldLegal files) keeps s legal

pub step_follows : (s : State) (files : Files) (line : List ℕ) → IsLegalState s
    → Follows (HoldLegal files) (not (is_shard line)) s (step s files line).state
unfolding step
step_follows s files line legal = step_with_follows (not (is_shard line)) s files
    (line_outcome (line_of line) s files) legal (line_follows s files (line_of line) (line_is_read line) legal)

-- ---- the files after a step

command_holds : (s : State) (files : Files) (command : Command) → IsLegalState s → HoldLegal files
    → IfOk (command_outcome command s files) (λ o. HoldLegal o.files)
command_holds s files (New bits text) legal hold =
    bind_gives (λ o. HoldLegal o.files) (new_index bits text) _ (λ v is. hold)
command_holds s files (Load name) legal hold =
    bind_gives (λ o. HoldLegal o.files) (loaded files name) _ (λ v is. hold)
command_holds s files (Save name) legal hold =
    given_gives (λ o. HoldLegal o.files) s.index NoIndex _ (λ v holds.
    bind_gives (λ o. HoldLegal o.files) (spelled v) _ (λ bytes is.
    let narrow : IsNarrow v bytes = given_value (IsNarrow v) (spelled v) bytes (spelled_narrow v (wide v) refl) is in
    saved_hold files name v bytes hold (held_legal s v legal holds) narrow.narrow narrow.same))
command_holds s files Shard legal hold =
    given_gives (λ o. HoldLegal o.files) s.index NoIndex _ (λ v holds.
    bind_gives (λ o. HoldLegal o.files) (with_shard s.shards v) _ (λ vs is. hold))
command_holds s files Unshard legal hold = hold
command_holds s files (Change c) legal hold =
    given_gives (λ o. HoldLegal o.files) s.index NoIndex _ (λ v holds.
    bind_gives (λ o. HoldLegal o.files) (change c v) _ (λ done is. hold))
command_holds s files (Ask question) legal hold =
    given_gives (λ o. HoldLegal o.files) s.index NoIndex _ (λ v holds.
    bind_gives (λ o. HoldLegal o.files) (ask question v) _ (λ answer is. hold))
command_holds s files (AskShards question) legal hold =
    bind_gives (λ o. HoldLegal o.files) (ask_shards question s.shards) _ (λ answer is. hold)

line_holds : (s : State) (files : Files) (line : Line) → IsLegalState s → HoldLegal files
    → IfOk (line_outcome line s files) (λ o. HoldLegal o.files)
line_holds s files TooLong legal hold = tt
line_holds s files Silent legal hold = hold
line_holds s files (Whole command) legal hold = command_holds s files command legal hold
line_holds s files Broken legal hold = tt

step_with_holds : (s : State) (files : Files) (c : Checked Outcome) → HoldLegal files
    → IfOk c (λ o. HoldLegal o.files) → HoldLegal (step_with s files c).files
step_with_holds s files (Ok o) hold holds = holds
step_with_holds s files (Err e) hold holds = hold

pub step_holds : (s : State) (files : Files) (line : List ℕ) → IsLegalState s → HoldLegal files
    → HoldLegal (step s files line).files
unfolding step
step_holds s files line legal hold =
    step_with_holds s files (line_outcome (line_of line) s files) hold
    (line_holds s files (line_of line) legal hold)
