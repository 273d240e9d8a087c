-- Lemmas on the names of commands and the words that follow them.
use Rattle.std.proofs.Common.{◌≡◌, ℕ, ◌<◌, List, [], ◌∷◌, ◌++◌, length, map, Bool, true, false, not, ◌&&◌, ◌||◌, eqb, cond}
use Rattle.std.proofs.Common.{Option, Some, None, refl, ap, ◌∙◌, arith, ℤ}
use Rattle.std.specs.Prelude.{codes, is_none}
use Rattle.std.specs.List.{list_all, list_any}
use Rattle.std.specs.Str.{bytes_eq}
use Rattle.std.specs.Option.{option_map}
use Rattle.std.proofs.lemmas.Bool.{and_parts}
use Rattle.std.proofs.lemmas.List.Splits.{length-slice_split}
use Rattle.std.proofs.lemmas.Slice.Eq.{bytes_eq-Decides}
use Rattle.faissb_core.specs.Language.Words.{Word, words_of, number, word, id, id_and_word, name as name_of, switch}
use Rattle.id_select.specs.declared.selector.Selector.TheVariants.{Listed, AllBut}
use Rattle.faissb_core.specs.Language.Command.{Command, Shard, Unshard, Change, Ask, AskShards, IndexChange, Add, AddIds}
use Rattle.faissb_core.specs.Language.Command.{Centroids, DirectMap, Remove, IndexQuestion, Show, ShardQuestion}
use Rattle.faissb_core.specs.Language.Grammar.{Entry, alone, one, two, each_word, one_or_more, under, named, changes, questions}
use Rattle.faissb_core.specs.Language.Grammar.{shard_questions, others, grammar}

-- ---- forms

-- more than one word
two_words : {A C : Type 0} (reads : Word → Option A) (command : A → C) (first : Word) (more : List Word)
    → 0 < length more → one reads command (first ∷ more) ≡ None
two_words reads command first [] some = absurd (omega arith)
two_words reads command first (second ∷ more) some = refl

pub more_than_one : {C : Type 0} (command : ℕ → C) (first more : List ℕ)
    → one number command (first ∷ words_of more) ≡ None
more_than_one command first more = two_words number command first (words_of more)
    (omega (arith, length-slice_split (λ b. eqb b 32) more))

pub switch_and_more : (first more : List ℕ) → one switch DirectMap (first ∷ words_of more) ≡ None
switch_and_more first more = two_words switch DirectMap first (words_of more)
    (omega (arith, length-slice_split (λ b. eqb b 32) more))

pub name_and_more : (command : Word → Command) (first more : List ℕ)
    → one name_of command (first ∷ words_of more) ≡ None
name_and_more command first more = two_words name_of command first (words_of more)
    (omega (arith, length-slice_split (λ b. eqb b 32) more))

-- more than two words
three_words : {A B C : Type 0} (reads_first : Word → Option A) (reads_second : Word → Option B) (command : A → B → C)
    (first second : List ℕ) (more : List (List ℕ))
    → 0 < length more → two reads_first reads_second command (first ∷ second ∷ more) ≡ None
three_words reads_first reads_second command first second [] some = absurd (omega arith)
three_words reads_first reads_second command first second (third ∷ more) some = refl

pub more_than_two : {C : Type 0} (command : ℕ → List ℕ → C) (first second more : List ℕ)
    → two number word command (first ∷ second ∷ words_of more) ≡ None
more_than_two command first second more = three_words number word command first second (words_of more)
    (omega (arith, length-slice_split (λ b. eqb b 32) more))

pub more_than_two_ids : {C : Type 0} (command : ℤ → ℤ → C) (first second more : List ℕ)
    → two id id command (first ∷ second ∷ words_of more) ≡ None
more_than_two_ids command first second more = three_words id id command first second (words_of more)
    (omega (arith, length-slice_split (λ b. eqb b 32) more))

-- a line with words has some
some_words : {A C : Type 0} (reads : Word → Option A) (command : List A → C) (words : List Word) → 0 < length words
    → one_or_more reads command words ≡ option_map command (each_word reads words)
some_words reads command [] some = absurd (omega arith)
some_words reads command (w ∷ words) some = refl

words_in : {A C : Type 0} (reads : Word → Option A) (command : List A → C) (words : List ℕ)
    → one_or_more reads command (words_of words) ≡ option_map command (each_word reads (words_of words))
words_in reads command words = some_words reads command (words_of words)
    (omega (arith, length-slice_split (λ b. eqb b 32) words))

-- any words are words
each_is : (words : List Word) → each_word word words ≡ Some words
each_is [] = refl
each_is (w ∷ words) = rw (each_is words) refl

pub add_of_words : (words : List ℕ) → one_or_more word Add (words_of words) ≡ Some (Add (words_of words))
add_of_words words = words_in word Add words ∙ ap (option_map Add) (each_is (words_of words))

pub centroids_of_words : (words : List ℕ)
    → one_or_more word Centroids (words_of words) ≡ Some (Centroids (words_of words))
centroids_of_words words = words_in word Centroids words ∙ ap (option_map Centroids) (each_is (words_of words))

pub add_ids_of_words : (words : List ℕ)
    → one_or_more id_and_word AddIds (words_of words) ≡ option_map AddIds (each_word id_and_word (words_of words))
add_ids_of_words words = words_in id_and_word AddIds words

pub remove_of_words : (words : List ℕ)
    → one_or_more id (λ ids. Remove (Listed ids)) (words_of words)
    ≡ option_map (λ ids. Remove (Listed ids)) (each_word id (words_of words))
remove_of_words words = words_in id (λ ids. Remove (Listed ids)) words

pub keep_of_words : (words : List ℕ)
    → one_or_more id (λ ids. Remove (AllBut ids)) (words_of words)
    ≡ option_map (λ ids. Remove (AllBut ids)) (each_word id (words_of words))
keep_of_words words = words_in id (λ ids. Remove (AllBut ids)) words

-- ---- names

-- whether a name is one of some entries
abbrev is_among : {C : Type 0} → Word → List (Entry C) → Bool
is_among name entries = list_any (λ e. bytes_eq name e.name) entries

module _ {C : Type 0} (group : C → Command) (more : List (Entry Command)) (name : Word) (words : List Word) where
  pick_first : (test : Bool) (a b : Option C) (c : Option Command) (command : C)
      → (b ≡ Some command → c ≡ Some (group command)) → cond test a b ≡ Some command
      → cond test (option_map group a) c ≡ Some (group command)
  pick_first true a b c command rest is = ap (option_map group) is
  pick_first false a b c command rest is = rest is

  -- a command of the first group
  named_first : (entries : List (Entry C)) (command : C) → named entries (name ∷ words) ≡ Some command
      → named (map (under group) entries ++ more) (name ∷ words) ≡ Some (group command)
  named_first [] command is = absurd cc
  named_first (e ∷ entries) command is =
      pick_first (bytes_eq name e.name) (e.form words) (named entries (name ∷ words)) _ command
      (named_first entries command) is

  pick_none : (test : Bool) (a b : Option C) (c : Option Command) → (b ≡ None → c ≡ None) → cond test a b ≡ None
      → cond test (option_map group a) c ≡ None
  pick_none true a b c rest is = ap (option_map group) is
  pick_none false a b c rest is = rest is

  -- a command of neither group
  named_none : (entries : List (Entry C)) → named entries (name ∷ words) ≡ None → named more (name ∷ words) ≡ None
      → named (map (under group) entries ++ more) (name ∷ words) ≡ None
  named_none [] is none = none
  named_none (e ∷ entries) is none =
      pick_none (bytes_eq name e.name) (e.form words) (named entries (name ∷ words)) _
      (λ rest. named_none entries rest none) is

  pick_behind : (test among : Bool) (a c d : Option Command) → (among ≡ false → c ≡ d) → (test || among) ≡ false
      → cond test a c ≡ d
  pick_behind true among a c d rest is = absurd cc
  pick_behind false among a c d rest is = rest is

  -- a name that the first group has not
  named_behind : (entries : List (Entry C)) → is_among name entries ≡ false
      → named (map (under group) entries ++ more) (name ∷ words) ≡ named more (name ∷ words)
  named_behind [] not_among = refl
  named_behind (e ∷ entries) not_among =
      pick_behind (bytes_eq name e.name) (is_among name entries) _ _ _ (named_behind entries) not_among

-- no name stands in both
abbrev are_apart : {C D : Type 0} → List (Entry C) → List (Entry D) → Bool
are_apart entries others = list_all (λ e. not (is_among e.name others)) entries

not_true : (test : Bool) → not test ≡ true → test ≡ false
not_true true is = absurd cc
not_true false is = refl

module _ {C D : Type 0} (theirs : List (Entry D)) (name : Word) (words : List Word) where
  pick_apart : (e : Entry C) (test apart : Bool) (a b : Option C) (command : C)
      → (test ≡ true → name ≡ e.name) → (apart ≡ true → b ≡ Some command → is_among name theirs ≡ false)
      → (not (is_among e.name theirs) && apart) ≡ true → cond test a b ≡ Some command → is_among name theirs ≡ false
  pick_apart e true apart a b command same rest are is =
      ap (λ n. is_among n theirs) (same refl)
      ∙ not_true (is_among e.name theirs) (and_parts (not (is_among e.name theirs)) apart are).0
  pick_apart e false apart a b command same rest are is =
      rest (and_parts (not (is_among e.name theirs)) apart are).1 is

  -- the name of a command of one group stands in no other
  not_theirs : (entries : List (Entry C)) (command : C) → are_apart entries theirs ≡ true
      → named entries (name ∷ words) ≡ Some command → is_among name theirs ≡ false
  not_theirs [] command are is = absurd cc
  not_theirs (e ∷ entries) command are is =
      pick_apart e (bytes_eq name e.name) (are_apart entries theirs) (e.form words) (named entries (name ∷ words))
      command (bytes_eq-Decides name e.name).0 (not_theirs entries command) are is

module _ (more : List (Entry Command)) (name : Word) (words : List Word) where
  skip_one : (test among : Bool) (a b c : Option Command) → (among ≡ false → b ≡ c) → (test || among) ≡ false
      → cond test a b ≡ c
  skip_one true among a b c rest is = absurd cc
  skip_one false among a b c rest is = rest is

  -- a name that the first entries have not
  named_past : (entries : List (Entry Command)) → is_among name entries ≡ false
      → named (entries ++ more) (name ∷ words) ≡ named more (name ∷ words)
  named_past [] not_among = refl
  named_past (e ∷ entries) not_among =
      skip_one (bytes_eq name e.name) (is_among name entries) (e.form words) _ _ (named_past entries) not_among

-- the groups of commands
abbrev behind_questions : List (Entry Command)
behind_questions = map (under AskShards) shard_questions

abbrev behind_changes : List (Entry Command)
behind_changes = map (under Ask) questions ++ map (under AskShards) shard_questions

abbrev behind_others : List (Entry Command)
behind_others = map (under Change) changes ++ map (under Ask) questions ++ map (under AskShards) shard_questions

-- the name of a change
pub change_is : (name : Word) (words : List Word) (c : IndexChange)
    → named changes (name ∷ words) ≡ Some c → named grammar (name ∷ words) ≡ Some (Change c)
change_is name words c is =
    named_past behind_others name words others (not_theirs others name words changes c refl is)
    ∙ named_first Change behind_changes name words changes c is

-- the name of a question
pub question_is : (name : Word) (words : List Word) (q : IndexQuestion)
    → named questions (name ∷ words) ≡ Some q → named grammar (name ∷ words) ≡ Some (Ask q)
question_is name words q is =
    named_past behind_others name words others (not_theirs others name words questions q refl is)
    ∙ named_behind Change behind_changes name words changes (not_theirs changes name words questions q refl is)
    ∙ named_first Ask behind_questions name words questions q is

-- the name of a question to the shards
pub shard_question_is : (name : Word) (words : List Word) (q : ShardQuestion)
    → named shard_questions (name ∷ words) ≡ Some q → named grammar (name ∷ words) ≡ Some (AskShards q)
shard_question_is name words q is =
    named_past behind_others name words others (not_theirs others name words shard_questions q refl is)
    ∙ named_behind Change behind_changes name words changes (not_theirs changes name words shard_questions q refl is)
    ∙ named_behind Ask behind_questions name words questions (not_theirs questions name words shard_questions q refl is)
    ∙ named_first AskShards [] name words shard_questions q is

-- two names that stand alone, before what is none
both_none : (first second : Bool) (rest : Option Command) → rest ≡ None → cond first None (cond second None rest) ≡ None
both_none true second rest is = refl
both_none false true rest is = refl
both_none false false rest is = is

none_behind : (name : Word) (words : List Word) (more : List (Entry Command)) → bytes_eq name (codes "new") ≡ false
    → bytes_eq name (codes "load") ≡ false → bytes_eq name (codes "save") ≡ false
    → 0 < length words → named more (name ∷ words) ≡ None → named (others ++ more) (name ∷ words) ≡ None
none_behind name [] more new load save some none = absurd (omega arith)
none_behind name (w ∷ words) more new load save some none =
    rw (new, load, save) (both_none (bytes_eq name (codes "shard")) (bytes_eq name (codes "unshard"))
    (named more (name ∷ w ∷ words)) none)

-- another name
pub neither_is : (name : Word) (words : List ℕ) → bytes_eq name (codes "new") ≡ false
    → bytes_eq name (codes "load") ≡ false → bytes_eq name (codes "save") ≡ false
    → named changes (name ∷ words_of words) ≡ None → named questions (name ∷ words_of words) ≡ None
    → named shard_questions (name ∷ words_of words) ≡ None → named grammar (name ∷ words_of words) ≡ None
neither_is name words new load save no_change no_question no_shards =
    none_behind name (words_of words) behind_others new load save
    (omega (arith, length-slice_split (λ b. eqb b 32) words))
    (named_none Change behind_changes name (words_of words) changes no_change
    (named_none Ask behind_questions name (words_of words) questions no_question
    (named_none AskShards [] name (words_of words) shard_questions no_shards refl)))

-- no words alone
alone_none : {C : Type 0} (c : C) (words : List Word) → 0 < length words → alone c words ≡ None
alone_none c [] some = absurd (omega arith)
alone_none c (w ∷ words) some = refl

same_either : {C : Type 0} (test : Bool) (a : Option C) → a ≡ None → cond test a None ≡ None
same_either true a is = is
same_either false a is = refl

pub last_question : (name : Word) (words : List ℕ) → bytes_eq name (codes "search") ≡ false
    → bytes_eq name (codes "range") ≡ false → bytes_eq name (codes "nearest") ≡ false
    → bytes_eq name (codes "reconstruct") ≡ false → named questions (name ∷ words_of words) ≡ None
last_question name words search range nearest reconstruct =
    rw (search, range, nearest, reconstruct)
    (same_either (bytes_eq name (codes "show")) (alone Show (words_of words))
    (alone_none Show (words_of words) (omega (arith, length-slice_split (λ b. eqb b 32) words))))

-- ---- names alone

pub shard_alone : (name : List ℕ) → bytes_eq name (codes "shard") ≡ true → named grammar (name ∷ []) ≡ Some Shard
shard_alone name is = rw ((bytes_eq-Decides name (codes "shard")).0 is) refl

pub unshard_alone : (name : List ℕ) → bytes_eq name (codes "unshard") ≡ true → named grammar (name ∷ []) ≡ Some Unshard
unshard_alone name is = rw ((bytes_eq-Decides name (codes "unshard")).0 is) refl

pub show_alone : (name : List ℕ) → bytes_eq name (codes "show") ≡ true → named grammar (name ∷ []) ≡ Some (Ask Show)
show_alone name is = rw ((bytes_eq-Decides name (codes "show")).0 is) refl

-- no entry of this name stands alone
abbrev needs_words : {C : Type 0} → Word → Entry C → Bool
needs_words name e = is_none (e.form []) || not (bytes_eq name e.name)

pick_alone : {C : Type 0} (test rest : Bool) (a b : Option C) → (rest ≡ true → b ≡ None)
    → ((is_none a || not test) && rest) ≡ true → cond test a b ≡ None
pick_alone true true None b behind are = refl
pick_alone true false None b behind are = absurd cc
pick_alone true rest (Some a) b behind are = absurd cc
pick_alone false rest (Some a) b behind are = behind are
pick_alone false rest None b behind are = behind are

none_alone : {C : Type 0} (entries : List (Entry C)) (name : Word)
    → list_all (λ e. needs_words name e) entries ≡ true → named entries (name ∷ []) ≡ None
none_alone [] name are = refl
none_alone (e ∷ entries) name are =
    pick_alone (bytes_eq name e.name) (list_all (λ e. needs_words name e) entries) (e.form []) _
    (none_alone entries name) are

-- another name alone is no command
pub no_name_alone : (name : List ℕ) → bytes_eq name (codes "shard") ≡ false → bytes_eq name (codes "unshard") ≡ false
    → bytes_eq name (codes "show") ≡ false → named grammar (name ∷ []) ≡ None
no_name_alone name shard unshard show = none_alone grammar name (rw (shard, unshard, show) refl)
