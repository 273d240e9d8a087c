-- A file that is begun, written and kept.
use Rattle.std.proofs.Common.{◌≡◌, ℕ, ◌⊎◌, List, ◌++◌, Option, Some, None, Result, Ok, Err, inl, inr}
use Rattle.std.proofs.Common.{refl, sym, ap, ◌∙◌}
use Rattle.std.specs.Prelude.{IsErrOf, OnOk}
use Rattle.outside.specs.Calls.{WhereTold, Creates, KeepsMade}
use Rattle.outside.specs.Contents.{Contents, Files, put}
use Rattle.outside.specs.declared.trouble.Trouble.{Trouble}
use Rattle.outside.specs.declared.trouble.Trouble.TheVariants as trouble
use Rattle.bcodes.specs.Value.{Inner, Flat, Ivf, Hash, Multi, MultiValue, IndexValue, Bare, inner_of}
use Rattle.bcodes.specs.Settings.{multi_in}
use Rattle.multi_hash.specs.declared.wide.Wide.{Wide}
use Rattle.multi_hash.specs.Wide.{wide}
use Rattle.file_parts.specs.Storing.{Made, made_in, files_in, put_behind}
use Rattle.index_files.specs.declared.save_error.SaveError.{SaveError}
use Rattle.index_files.specs.declared.save_error.SaveError.TheVariants as error
use Rattle.index_files.specs.Errors.{save_error}
use Rattle.index_files.specs.Saving.{Saves}

-- ---- wide buckets

multi-is : (v : Inner) (m : MultiValue) → multi_in (Bare v) ≡ Some m → v ≡ Multi m
multi-is (Flat v) m e = absurd cc
multi-is (Ivf v) m e = absurd cc
multi-is (Hash v) m e = absurd cc
multi-is (Multi v) m e = cc

pub wide_some : (v : IndexValue) (m : MultiValue) → multi_in v ≡ Some m → wide (Bare (Multi m)) ≡ wide v
unfolding wide
wide_some v m e = ap (λ (w : Inner). wide (Bare w)) (sym (multi-is (inner_of v) m e))

no-wide : (v : Inner) → multi_in (Bare v) ≡ None → wide (Bare v) ≡ None
unfolding wide
no-wide (Flat v) e = refl
no-wide (Ivf v) e = refl
no-wide (Hash v) e = refl
no-wide (Multi v) e = absurd cc

pub wide_none : (v : IndexValue) → multi_in v ≡ None → wide v ≡ None
unfolding wide
wide_none v e = no-wide (inner_of v) e

-- ---- the files

refused : Trouble → Result ℕ SaveError
refused e = Err (save_error e)

module _ (name bytes : List ℕ) where
  as-before : (e : Trouble) (old new : Contents) → new.files ≡ old.files
      → Saves name bytes (Err (save_error e)) old new
  as-before trouble.Failed old new e =
      record { ok = tt; failed = λ k. inl e; memory = λ k. e; wide = λ w k. e }
  as-before trouble.Memory old new e =
      record { ok = tt; failed = λ k. inl e; memory = λ k. e; wide = λ w k. e }

  pub not_begun : (e : Trouble) (old new : Option Contents) → WhereTold old new (Creates name (Err e))
      → WhereTold old new (Saves name bytes (Err (save_error e)))
  not_begun e None None h = tt
  not_begun e None (Some new) h = absurd h
  not_begun e (Some old) None h = absurd h
  not_begun e (Some old) (Some new) h = as-before e old new h.files

  same-files : (a b : Contents) → files_in (Some a) ≡ files_in (Some b) → a.files ≡ b.files
  same-files a b e = cc

  pub not_written : (e : Trouble) (old begun new : Option Contents) → WhereTold old begun (Creates name (Ok tt))
      → files_in new ≡ files_in begun → WhereTold old new (Saves name bytes (Err (save_error e)))
  not_written e None None None h k = tt
  not_written e None None (Some new) h k = absurd cc
  not_written e None (Some begun) new h k = absurd h
  not_written e (Some old) None new h k = absurd h
  not_written e (Some old) (Some begun) None h k = absurd cc
  not_written e (Some old) (Some begun) (Some new) h k = as-before e old new (same-files new begun k ∙ h.files)

  -- what was made, and then kept
  pub record MadeFrom (old made : Contents) : Type 0 where
    pub files : made.files ≡ old.files
    pub name_is : made.name ≡ name
    pub bytes_are : made.making ≡ bytes

  made-from : (old begun made : Contents) → Creates name (Ok tt) old begun
      → made_in (Some made) ≡ put_behind bytes (made_in (Some begun)) → MadeFrom old made
  made-from old begun made h k =
      record {
        files = ap files-of k ∙ h.files;
        name_is = ap name-of k ∙ h.name_is;
        bytes_are = ap bytes-of k ∙ ap (λ (b : List ℕ). b ++ bytes) h.no_bytes;
      }
    where
      files-of : Option Made → Files
      files-of None = old.files
      files-of (Some m) = m.files

      name-of : Option Made → List ℕ
      name-of None = name
      name-of (Some m) = m.name

      bytes-of : Option Made → List ℕ
      bytes-of None = bytes
      bytes-of (Some m) = m.bytes

  put-is : (old made : Contents) → MadeFrom old made → put made.files made.name made.making
      ≡ put old.files name bytes
  put-is old made m =
      ap (λ (f : Files). put f made.name made.making) m.files
      ∙ ap (λ (n : List ℕ). put old.files n made.making) m.name_is
      ∙ ap (λ (b : List ℕ). put old.files name b) m.bytes_are

  -- the answer to a save whose file was kept or not
  abbrev pub kept_answer : ℕ → Result (Unit {0}) Trouble → Result ℕ SaveError
  kept_answer n (Ok x) = Ok n
  kept_answer n (Err e) = Err (save_error e)

  saves : (n : ℕ) (r : Result (Unit {0}) Trouble) (old made new : Contents) → MadeFrom old made
      → KeepsMade r made new → Saves name bytes (kept_answer n r) old new
  saves n (Ok x) old made new m k =
      record {
        ok = k.ok ∙ put-is old made m;
        failed = λ e. absurd cc;
        memory = λ e. absurd cc;
        wide
            = λ w e. absurd cc;
      }
  saves n (Err trouble.Failed) old made new m k =
      record {
        ok = tt;
        failed = λ e. (elim (k.failed refl) [
          | inl same ↦ inl (same ∙ m.files)
          | inr new ↦ inr (new ∙ put-is old made m)
        ]);
        memory = λ e. absurd cc;
        wide = λ w e. absurd cc;
      }
  saves n (Err trouble.Memory) old made new m k =
      record {
        ok = tt;
        failed = λ e. absurd cc;
        memory = λ e. k.memory refl ∙ m.files;
        wide = λ w e. absurd cc;
      }

  pub was_kept : (n : ℕ) (r : Result (Unit {0}) Trouble) (old begun made new : Option Contents)
      → WhereTold old begun (Creates name (Ok tt)) → made_in made ≡ put_behind bytes (made_in begun)
      → WhereTold made new (KeepsMade r) → WhereTold old new (Saves name bytes (kept_answer n r))
  was_kept n r None None None None h k l = tt
  was_kept n r None None None (Some new) h k l = absurd l
  was_kept n r None None (Some made) new h k l = absurd cc
  was_kept n r None (Some begun) made new h k l = absurd h
  was_kept n r (Some old) None made new h k l = absurd h
  was_kept n r (Some old) (Some begun) None new h k l = absurd cc
  was_kept n r (Some old) (Some begun) (Some made) None h k l = absurd l
  was_kept n r (Some old) (Some begun) (Some made) (Some new) h k l =
      saves n r old made new (made-from old begun made h k) l
