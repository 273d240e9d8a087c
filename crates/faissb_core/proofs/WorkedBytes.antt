-- The files of worked scripts. Each is written out here, byte for byte.
use Rattle.std.specs.Prelude.{ℕ, ◌+◌, ◌/◌, List, [], ◌∷◌, ◌++◌, length, take, drop, codes}
use Rattle.std.proofs.Common.{replicate}
use Rattle.outside.specs.Contents.{Files, no_files, put}

-- a number below 256 in four bytes and in eight
abbrev pub four : ℕ → List ℕ
four n = n ∷ replicate 3 0

abbrev pub eight : ℕ → List ℕ
eight n = n ∷ replicate 7 0

-- the header of d bits and n rows
abbrev pub head : ℕ → ℕ → List ℕ
head d n = four d ++ four (d / 8) ++ eight n ++ 1 ∷ four 1

-- the bytes from a place on replaced
abbrev pub patched : ℕ → List ℕ → List ℕ → List ℕ
patched at new bytes = take at bytes ++ new ++ drop (at + length new) bytes

-- these bytes under the name `f`
abbrev pub with_f : List ℕ → Files
with_f bytes = put no_files (codes "f") bytes

-- a Flat of 8 bits with the code `ab`
abbrev pub flat_file : List ℕ
flat_file = codes "IBxF" ++ head 8 1 ++ eight 1 ++ 171 ∷ []

abbrev hash_head : List ℕ
hash_head = codes "IBHh" ++ head 16 3 ++ four 8 ++ four 0 ++ eight 2 ++ four 2 ++ eight 3

abbrev zero_bucket : List ℕ
zero_bucket = eight 2 ++ eight 0 ++ eight 1 ++ eight 4 ++ 0 ∷ 0 ∷ 0 ∷ 1 ∷ []

abbrev one_bucket : List ℕ
one_bucket = eight 1 ++ eight 2 ++ eight 2 ++ 1 ∷ 0 ∷ []

-- a Hash of keys of 8 bits with the codes `0000`, `0001` and `0100`, and the same with its buckets in the other order
abbrev pub hash_file : List ℕ
hash_file = hash_head ++ 0 ∷ 6 ∷ 4 ∷ zero_bucket ++ one_bucket

abbrev pub other_hash_file : List ℕ
other_hash_file = hash_head ++ 1 ∷ 1 ∷ 8 ∷ one_bucket ++ zero_bucket

-- a MultiHash of two maps of 8 bits with three codes `0100`
abbrev pub multi_file : List ℕ
multi_file =
    codes "IBHm" ++ head 16 3 ++ codes "IBxF" ++ head 16 3 ++ eight 6 ++ 1 ∷ 0 ∷ 1 ∷ 0 ∷ 1 ∷ 0 ∷ four 8 ++ four 2 ++ four 0
    ++ four 2 ++ eight 1 ++ eight 2 ++ 1 ∷ 147 ∷ four 2 ++ eight 1 ++ eight 2 ++ 0 ∷ 147 ∷ []

abbrev ivf_head : ℕ → List ℕ
ivf_head n = codes "IBwF" ++ head 8 n ++ eight 2 ++ eight 1 ++ codes "IBxF" ++ head 8 2 ++ eight 2 ++ 0 ∷ 255 ∷ []

-- an IVF of two lists with the code `0f` on the first
abbrev pub ivf_file : List ℕ
ivf_file =
    ivf_head 1 ++ 0 ∷ eight 0 ++ codes "ilar" ++ eight 2 ++ eight 1
    ++ codes "sprs" ++ eight 2 ++ eight 0 ++ eight 1 ++ 15 ∷ eight 0

-- the same with the code `ff` on the second list, and a direct map
abbrev pub direct_file : List ℕ
direct_file =
    ivf_head 2 ++ 1 ∷ eight 2 ++ eight 0 ++ 0 ∷ 0 ∷ 0 ∷ 0 ∷ four 1 ++ codes "ilar" ++ eight 2 ++ eight 1
    ++ codes "full" ++ eight 2 ++ eight 1 ++ eight 1 ++ 15 ∷ eight 0 ++ 255 ∷ eight 1

-- a Flat under the outer id -1
abbrev pub map_file : List ℕ
map_file = codes "IBMp" ++ head 8 1 ++ flat_file ++ eight 1 ++ replicate 8 255
