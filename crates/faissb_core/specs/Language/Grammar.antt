-- The names of commands, and the words that follow them.
use Rattle.std.specs.Prelude.{ℕ, ℤ, List, [], ◌∷◌, ◌++◌, map, if◌then◌else◌, codes, Option, None, Some, unwrap_or}
use Rattle.std.specs.Option.{option_map, option_and_then}
use Rattle.std.specs.Str.{bytes_eq}
use Rattle.id_select.specs.declared.selector.Selector.TheVariants.{Listed, AllBut, Between}
use Rattle.faissb_core.specs.Language.Words.{Word, IdWord, words_of, word, number, id, id_and_word, name, switch}
use Rattle.faissb_core.specs.Language.Command.{IndexChange, Add, AddIds, Centroids, Nprobe, Nflip, MaxCodes, DirectMap}
use Rattle.faissb_core.specs.Language.Command.{Remove}
use Rattle.faissb_core.specs.Language.Command.{IndexQuestion, Search, Range, Nearest, Reconstruct, Show}
use Rattle.faissb_core.specs.Language.Command.{ShardQuestion, ShardSearch, ShardRange}
use Rattle.faissb_core.specs.Language.Command.{Command, New, Load, Save, Shard, Unshard, Change, Ask, AskShards}

-- ---- forms: what the words after a name must be, and the command that they make

abbrev pub Form : Type 0 → Type 0
Form C = List Word → Option C

-- no further word
abbrev pub alone : {C : Type 0} → C → Form C
alone command [] = Some command
alone command (w ∷ words) = None

-- one word
abbrev pub one : {A C : Type 0} → (Word → Option A) → (A → C) → Form C
one reads command (w ∷ []) = option_map command (reads w)
one reads command _ = None

-- two words
abbrev pub two : {A B C : Type 0} → (Word → Option A) → (Word → Option B) → (A → B → C) → Form C
two reads_first reads_second command (v ∷ w ∷ []) =
    option_and_then (λ a. option_map (command a) (reads_second w)) (reads_first v)
two reads_first reads_second command _ = None

-- what each word writes, where each writes something
abbrev pub each_word : {A : Type 0} → (Word → Option A) → List Word → Option (List A)
each_word reads [] = Some []
each_word reads (w ∷ words) = option_and_then (λ a. option_map (λ more. a ∷ more) (each_word reads words)) (reads w)

-- the ids and words of a text
abbrev pub pairs_in : List ℕ → List IdWord
pairs_in text = unwrap_or (each_word id_and_word (words_of text)) []

-- the ids of a text
abbrev pub ids_in : List ℕ → List ℤ
ids_in text = unwrap_or (each_word id (words_of text)) []

-- one word or more, each of which writes the same sort of thing
abbrev pub one_or_more : {A C : Type 0} → (Word → Option A) → (List A → C) → Form C
one_or_more reads command [] = None
one_or_more reads command (w ∷ words) = option_map command (each_word reads (w ∷ words))

-- ---- names

pub record Entry (C : Type 0) : Type 0 where
  pub name : Word
  pub form : Form C

infix 25 ◌means◌
abbrev pub ◌means◌ : {C : Type 0} → Word → Form C → Entry C
name means form = record { name = name; form = form }

-- commands that change the index
abbrev pub changes : List (Entry IndexChange)
changes =
    (codes "add" means one_or_more word Add)
    ∷ (codes "addids" means one_or_more id_and_word AddIds)
    ∷ (codes "centroids" means one_or_more word Centroids)
    ∷ (codes "nprobe" means one number Nprobe)
    ∷ (codes "nflip" means one number Nflip)
    ∷ (codes "maxcodes" means one number MaxCodes)
    ∷ (codes "directmap" means one switch DirectMap)
    ∷ (codes "remove" means one_or_more id (λ ids. Remove (Listed ids)))
    ∷ (codes "keep" means one_or_more id (λ ids. Remove (AllBut ids)))
    ∷ (codes "removerange" means two id id (λ from to. Remove (Between from to)))
    ∷ []

-- commands that ask the index
abbrev pub questions : List (Entry IndexQuestion)
questions =
    (codes "search" means two number word Search)
    ∷ (codes "range" means two number word Range)
    ∷ (codes "nearest" means two number word Nearest)
    ∷ (codes "reconstruct" means one number Reconstruct)
    ∷ (codes "show" means alone Show)
    ∷ []

-- commands that ask the shards
abbrev pub shard_questions : List (Entry ShardQuestion)
shard_questions =
    (codes "shardsearch" means two number word ShardSearch)
    ∷ (codes "shardrange" means two number word ShardRange)
    ∷ []

-- commands that exchange the index, its file or the shards
abbrev pub others : List (Entry Command)
others =
    (codes "new" means two number word New)
    ∷ (codes "load" means one name Load)
    ∷ (codes "save" means one name Save)
    ∷ (codes "shard" means alone Shard)
    ∷ (codes "unshard" means alone Unshard)
    ∷ []

-- an entry of a group as one of all commands
abbrev pub under : {C : Type 0} → (C → Command) → Entry C → Entry Command
under group e = e.name means (λ words. option_map group (e.form words))

abbrev pub grammar : List (Entry Command)
grammar = others ++ map (under Change) changes ++ map (under Ask) questions ++ map (under AskShards) shard_questions

-- the command that the first word names, where the other words have its form
abbrev pub named : {C : Type 0} → List (Entry C) → List Word → Option C
named [] words = None
named (e ∷ entries) [] = None
named (e ∷ entries) (name ∷ words) = if bytes_eq name e.name then e.form words else named entries (name ∷ words)

abbrev pub command_of : List Word → Option Command
command_of words = named grammar words
