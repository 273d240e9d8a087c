-- What holds of a line that was read: its ids have 64 bits with their sign.
use Rattle.std.proofs.Common.{◌≡◌, ℕ, zero, suc, ◌+◌, List, [], ◌∷◌, ◌++◌, length, drop, take_while, All, Bool, true, false}
use Rattle.std.proofs.Common.{not, eqb, cond, Option, Some, None, unwrap_or, refl, ap, arith}
use Rattle.std.specs.List.{list_all}
use Rattle.std.specs.Option.{option_map, option_and_then}
use Rattle.std.proofs.Common.{ℤ}
use Rattle.std.proofs.lemmas.Bool.Decides.{nat_tests}
use Rattle.std.specs.List.{All}
use Rattle.std.specs.Str.{bytes_eq}
use Rattle.std.proofs.Common.{map, subst, nat_lt, FitsSigned, w64}
use Rattle.std.proofs.lemmas.Int.{ints}
use Rattle.std.proofs.lemmas.List.Elements.{All-nil, All-cons}
use Rattle.faissb_core.specs.Language.Words.{Word, IdWord, words_of, is_word, word, number, name as name_of, switch, id, id_before}
use Rattle.faissb_core.specs.Language.Words.{id_and_word, positive_id, negative_id}
use Rattle.faissb_core.specs.Language.Command.{Command, New, Load, Save, Shard, Unshard, Change, Ask, IndexChange, Add, AddIds}
use Rattle.faissb_core.specs.Language.Command.{Centroids, Nprobe}
use Rattle.id_select.specs.declared.selector.Selector.TheVariants.{Listed, AllBut, Between}
use Rattle.faissb_core.specs.Language.Command.{Nflip, MaxCodes, DirectMap, Remove, AskShards}
use Rattle.faissb_core.specs.Language.Grammar.{Entry, alone, one, two, each_word, one_or_more, under, named, changes}
use Rattle.faissb_core.specs.Language.Grammar.{questions, shard_questions, grammar, command_of}
use Rattle.faissb_core.specs.Language.Lines.{Line, TooLong, Silent, Whole, Broken, is_silent, line_with, line_limit}
use Rattle.faissb_core.specs.Language.Lines.{line_of}

-- ---- ids

positive_fits : (n : ℕ) (i : ℤ) → positive_id n ≡ Some i → FitsSigned w64 i
positive_fits n i is = grind (arith, ints, nat_tests)

negative_fits : (n : ℕ) (i : ℤ) → negative_id n ≡ Some i → FitsSigned w64 i
negative_fits zero i is = absurd cc
negative_fits (suc n) i is = grind (arith, ints, nat_tests)

-- some number, and the id of it
number_fits : (read : Option ℕ) (f : ℕ → Option ℤ) (i : ℤ) → ((n : ℕ) → f n ≡ Some i → FitsSigned w64 i)
    → option_and_then f read ≡ Some i → FitsSigned w64 i
number_fits (Some n) f i fits is = fits n is
number_fits None f i fits is = absurd cc

minus_fits : (minus : Bool) (a b : Option ℤ) (i : ℤ) → (a ≡ Some i → FitsSigned w64 i)
    → (b ≡ Some i → FitsSigned w64 i) → cond minus a b ≡ Some i → FitsSigned w64 i
minus_fits true a b i first second is = first is
minus_fits false a b i first second is = second is

id_fits : (word : Word) (i : ℤ) → id word ≡ Some i → FitsSigned w64 i
id_fits [] i is = absurd cc
id_fits (b ∷ bytes) i is =
    minus_fits (eqb b 45) (option_and_then negative_id (number bytes))
    (option_and_then positive_id (number (b ∷ bytes))) i
    (number_fits (number bytes) negative_id i (λ n. negative_fits n i))
    (number_fits (number (b ∷ bytes)) positive_id i (λ n. positive_fits n i)) is

before_fits : (more : Word) (read : Option ℤ) (p : IdWord) → ((i : ℤ) → read ≡ Some i → FitsSigned w64 i)
    → id_before more read ≡ Some p → FitsSigned w64 p.id
before_fits [] read p fits is = absurd cc
before_fits (b ∷ more) (Some i) p fits is =
    let same : i ≡ p.id = ap (λ (o : Option IdWord). (unwrap_or o (record { id = i; word = [] })).id) is in
    subst (FitsSigned w64) same (fits i refl)
before_fits (b ∷ more) None p fits is = absurd cc

pair_fits : (word : Word) (p : IdWord) → id_and_word word ≡ Some p → FitsSigned w64 p.id
pair_fits word p is =
    let front : Word = take_while (λ b. not (eqb b 58)) word in
    before_fits (drop (length front + 1) word) (id front) p (id_fits front) is

abbrev ids_fit : List IdWord → Type 0
ids_fit pairs = All (FitsSigned w64) (map (λ (p : IdWord). p.id) pairs)

pairs_step : (first : Option IdWord) (rest : Option (List IdWord)) (pairs : List IdWord)
    → ((p : IdWord) → first ≡ Some p → FitsSigned w64 p.id)
    → ((more : List IdWord) → rest ≡ Some more → ids_fit more)
    → option_and_then (λ a. option_map (λ more. a ∷ more) rest) first ≡ Some pairs → ids_fit pairs
pairs_step (Some p) (Some more) pairs one others is =
    let same : p ∷ more ≡ pairs = cc in
    subst ids_fit same (All-cons (FitsSigned w64) p.id (map (λ (p : IdWord). p.id) more) (one p refl)
    (others more refl))
pairs_step (Some p) None pairs one others is = absurd cc
pairs_step None rest pairs one others is = absurd cc

pairs_fit : (words : List Word) (pairs : List IdWord) → each_word id_and_word words ≡ Some pairs → ids_fit pairs
pairs_fit [] pairs is = let none : [] ≡ pairs = cc in subst ids_fit none (All-nil (FitsSigned w64))
pairs_fit (w ∷ words) pairs is =
    pairs_step (id_and_word w) (each_word id_and_word words) pairs (pair_fits w) (pairs_fit words) is

-- what holds of a command that was read
abbrev pub IsReadChange : IndexChange → Type 0
IsReadChange (AddIds pairs) = ids_fit pairs
IsReadChange change = Unit {0}

abbrev pub IsReadCommand : Command → Type 0
IsReadCommand (Change change) = IsReadChange change
IsReadCommand command = Unit {0}

abbrev pub IsReadLine : Line → Type 0
IsReadLine (Whole command) = IsReadCommand command
IsReadLine line = Unit {0}

-- ---- a line that was read

abbrev OnSome : {C : Type 0} → (C → Type 0) → Option C → Type 0
OnSome P (Some c) = P c
OnSome P None = Unit {0}

-- each command that the entries make has P
abbrev All_make : {C : Type 0} → (C → Type 0) → List (Entry C) → Type 0
All_make P [] = Unit {0}
All_make P (e ∷ entries) = ((words : List Word) → OnSome P (e.form words)) × All_make P entries

mapped_made : {C D : Type 0} (P : D → Type 0) (Q : C → Type 0) (f : C → D) (o : Option C)
    → ((c : C) → Q c → P (f c)) → OnSome Q o → OnSome P (option_map f o)
mapped_made P Q f (Some c) keeps is = keeps c is
mapped_made P Q f None keeps is = tt

pick_made : {C : Type 0} (P : C → Type 0) (test : Bool) (a b : Option C) → OnSome P a → OnSome P b
    → OnSome P (cond test a b)
pick_made P true a b first rest = first
pick_made P false a b first rest = rest

named_made : {C : Type 0} (P : C → Type 0) (entries : List (Entry C)) (words : List Word) → All_make P entries
    → OnSome P (named entries words)
named_made P [] words all = tt
named_made P (e ∷ entries) [] all = tt
named_made P (e ∷ entries) (name ∷ words) all =
    pick_made P (bytes_eq name e.name) (e.form words) (named entries (name ∷ words)) (all.0 words)
    (named_made P entries (name ∷ words) all.1)

all_under : {C : Type 0} (P : Command → Type 0) (Q : C → Type 0) (group : C → Command) (entries : List (Entry C))
    (more : List (Entry Command)) → ((c : C) → Q c → P (group c)) → All_make Q entries → All_make P more
    → All_make P (map (under group) entries ++ more)
all_under P Q group [] more keeps all rest = rest
all_under P Q group (e ∷ entries) more keeps all rest =
    (λ words. mapped_made P Q group (e.form words) keeps (all.0 words), all_under P Q group entries more keeps all.1 rest)

any_made : {C : Type 0} (o : Option C) → OnSome (λ _. Unit {0}) o
any_made (Some c) = tt
any_made None = tt

all_any : {C : Type 0} (entries : List (Entry C)) → All_make (λ _. Unit {0}) entries
all_any [] = tt
all_any (e ∷ entries) = (λ words. any_made (e.form words), all_any entries)

-- what the words of a change write
made : {A : Type 0} (f : A → IndexChange) (o : Option A) → ((a : A) → o ≡ Some a → IsReadChange (f a))
    → OnSome IsReadChange (option_map f o)
made f (Some a) each = each a refl
made f None each = tt

more_made : {A : Type 0} (reads : Word → Option A) (f : List A → IndexChange)
    → ((words : List Word) (xs : List A) → each_word reads words ≡ Some xs → IsReadChange (f xs))
    → (words : List Word) → OnSome IsReadChange (one_or_more reads f words)
more_made reads f each [] = tt
more_made reads f each (w ∷ words) = made f (each_word reads (w ∷ words)) (each (w ∷ words))

both_made : (f : ℤ → ℤ → IndexChange) → ((a b : ℤ) → IsReadChange (f a b)) → (first second : Option ℤ)
    → OnSome IsReadChange (option_and_then (λ a. option_map (f a) second) first)
both_made f each (Some a) second = made (f a) second (λ b is. each a b)
both_made f each None second = tt

one_made : {A : Type 0} (reads : Word → Option A) (f : A → IndexChange) → ((a : A) → IsReadChange (f a))
    → (words : List Word) → OnSome IsReadChange (one reads f words)
one_made reads f each [] = tt
one_made reads f each (w ∷ []) = made f (reads w) (λ a is. each a)
one_made reads f each (w ∷ x ∷ words) = tt

two_made : (f : ℤ → ℤ → IndexChange) → ((a b : ℤ) → IsReadChange (f a b))
    → (words : List Word) → OnSome IsReadChange (two id id f words)
two_made f each [] = tt
two_made f each (w ∷ []) = tt
two_made f each (v ∷ w ∷ []) = both_made f each (id v) (id w)
two_made f each (v ∷ w ∷ x ∷ words) = tt

all_changes : All_make IsReadChange changes
all_changes = (
  more_made word Add (λ words xs is. tt),
  (
    more_made id_and_word AddIds pairs_fit,
    (
      more_made word Centroids (λ words xs is. tt),
      (
        one_made number Nprobe (λ n. tt),
        (
          one_made number Nflip (λ n. tt),
          (
            one_made number MaxCodes (λ n. tt),
            (
              one_made switch DirectMap (λ on. tt),
              (
                more_made id (λ ids. Remove (Listed ids)) (λ words xs is. tt),
                (
                  more_made id (λ ids. Remove (AllBut ids)) (λ words xs is. tt),
                  (two_made (λ from to. Remove (Between from to)) (λ a b. tt), tt),
                ),
              ),
            ),
          ),
        ),
      ),
    ),
  ),
)

new_made : (number : Option ℕ) (word : Word) → OnSome IsReadCommand (option_and_then (λ n. Some (New n word)) number)
new_made (Some n) word = tt
new_made None word = tt

news_made : (words : List Word) → OnSome IsReadCommand (two number word New words)
news_made [] = tt
news_made (v ∷ []) = tt
news_made (v ∷ w ∷ []) = new_made (number v) w
news_made (v ∷ w ∷ x ∷ words) = tt

alone_made : (c : Command) → IsReadCommand c → (words : List Word) → OnSome IsReadCommand (alone c words)
alone_made c is [] = is
alone_made c is (w ∷ words) = tt

name_made : (f : Word → Command) → ((w : Word) → IsReadCommand (f w)) → (o : Option Word)
    → OnSome IsReadCommand (option_map f o)
name_made f each (Some w) = each w
name_made f each None = tt

names_made : (f : Word → Command) → ((w : Word) → IsReadCommand (f w)) → (words : List Word)
    → OnSome IsReadCommand (one name_of f words)
names_made f each [] = tt
names_made f each (w ∷ []) = name_made f each (name_of w)
names_made f each (w ∷ x ∷ words) = tt

all_made : All_make IsReadCommand grammar
all_made = (
  news_made,
  (
    names_made Load (λ w. tt),
    (
      names_made Save (λ w. tt),
      (
        alone_made Shard tt,
        (
          alone_made Unshard tt,
          all_under IsReadCommand IsReadChange Change changes
              (map (under Ask) questions ++ map (under AskShards) shard_questions) (λ c is. is) all_changes
              (all_under IsReadCommand (λ _. Unit {0}) Ask questions (map (under AskShards) shard_questions)
              (λ q is. tt) (all_any questions)
              (all_under IsReadCommand (λ _. Unit {0}) AskShards shard_questions [] (λ q is. tt)
              (all_any shard_questions) tt)),
        ),
      ),
    ),
  ),
)

line_with_read : (command : Option Command) → OnSome IsReadCommand command → IsReadLine (line_with command)
line_with_read (Some command) is = is
line_with_read None is = tt

short_is_read : (silent good : Bool) (command : Option Command) → OnSome IsReadCommand command
    → IsReadLine (cond silent Silent (cond good (line_with command) Broken))
short_is_read true good command is = tt
short_is_read false true command is = line_with_read command is
short_is_read false false command is = tt

long_is_read : (long : Bool) (line : Line) → IsReadLine line → IsReadLine (cond long TooLong line)
long_is_read true line is = tt
long_is_read false line is = is

pub line_is_read : (line : List ℕ) → IsReadLine (line_of line)
unfolding line_of
line_is_read line =
    long_is_read (nat_lt line_limit (length line)) _
    (short_is_read (is_silent line) (list_all is_word (words_of line)) (command_of (words_of line))
    (named_made IsReadCommand grammar (words_of line) all_made))
