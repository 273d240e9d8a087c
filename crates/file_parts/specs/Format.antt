-- How a file is read: field by field, each tried by its checks in order.
use Rattle.std.specs.Prelude.{◌≡◌, ◌⊎◌, ◌≤◌, ◌<◌, ℕ, ◌+◌, ◌-◌, min, Bool, List, []}
use Rattle.std.specs.Prelude.{◌∷◌, ◌++◌, length, take, drop}
use Rattle.std.specs.Prelude.{Option, Some, None, Result, Ok, Err, nat_lt, ◌==◌, if◌then◌else◌}
use Rattle.file_parts.specs.declared.reason.Reason.{Reason}
use Rattle.file_parts.specs.declared.reason.Reason.TheVariants.{Short, Trailing}
use Rattle.file_parts.specs.declared.file_fault.FileFault.{FileFault}

-- Why a field is refused, and how far before its first byte the place lies that is named.
pub record Refusal : Type 0 where
  pub reason : Reason
  pub back : ℕ

-- one check of a field: where the test holds, the field is refused
pub record Check : Type 0 where
  pub refused : Bool
  pub refusal : Refusal

infix 25 ◌⇒◌
abbrev pub ◌⇒◌ : Bool → Reason → Check
test ⇒ reason = record { refused = test; refusal = record { reason = reason; back = 0 } }

-- the same, named at the place `back` bytes before the field
abbrev pub check_back : ℕ → Bool → Reason → Check
check_back back test reason = record { refused = test; refusal = record { reason = reason; back = back } }

-- the first of the checks that refuses
abbrev pub first_refusal : List Check → Option Refusal
first_refusal [] = None
first_refusal (c ∷ cs) = if c.refused then Some c.refusal else first_refusal cs

-- What is read next: nothing more, or a field of so many bytes with its checks, and then what follows it.
pub data Format (A : Type 0) : Type 0 where
  done : A → Format A
  field : ℕ → (List ℕ → List Check) → (List ℕ → Format A) → Format A

infixl 10 ◌>>=◌
abbrev pub ◌>>=◌ : {A B : Type 0} → Format A → (A → Format B) → Format B
(done x) >>= f = f x
(field width checks next) >>= f = field width checks (λ bytes. next bytes >>= f)

-- The bytes are fields, one after the other, that were read by the first format and passed, and the second is what is
-- read next.
abbrev pub Passes : {A : Type 0} → Format A → List ℕ → Format A → Type 0
Passes (done x) bytes rest = (bytes ≡ []) × (rest ≡ done x)
Passes (field width checks next) bytes rest =
    ((bytes ≡ []) × (rest ≡ field width checks next))
    ⊎ ((front : List ℕ) × (back : List ℕ) × (bytes ≡ front ++ back) × (length front ≡ width)
    × (first_refusal (checks front) ≡ None) × Passes (next front) back rest)

-- n bytes on; a place past the last number of 64 bits is named by that number
abbrev pub forward : ℕ → ℕ → ℕ
forward at n = min (at + n) 18446744073709551615

abbrev pub short_at : ℕ → FileFault
short_at at = record { at = at; reason = Short }

abbrev pub fault_at : ℕ → Refusal → FileFault
fault_at at r = record { at = at - r.back; reason = r.reason }

-- the bytes do not hold the next field whole, or it is refused, or a byte stands after the last
abbrev pub Fails : {A : Type 0} → Format A → ℕ → List ℕ → FileFault → Type 0
Fails (done x) at bytes fault = (0 < length bytes) × (fault ≡ record { at = at; reason = Trailing })
Fails (field width checks next) at bytes fault =
    ((length bytes < width) × (fault ≡ short_at at))
    ⊎ ((r : Refusal) × (width ≤ length bytes) × (first_refusal (checks (take width bytes)) ≡ Some r)
    × (fault ≡ fault_at at r))

-- the first fault: the fields before it passed
pub record FirstFault {A : Type 0} (format : Format A) (bytes : List ℕ) (fault : FileFault) : Type 0 where
  pub passed : List ℕ
  pub rest : List ℕ
  pub next : Format A
  pub parts : bytes ≡ passed ++ rest
  pub passes : Passes format passed next
  pub fails : Fails next (forward 0 (length passed)) rest fault

-- the bytes are a whole file of this format, and this is its value
abbrev pub Spells : {A : Type 0} → Format A → List ℕ → A → Type 0
Spells (done y) bytes x = (bytes ≡ []) × (y ≡ x)
Spells (field width checks next) bytes x =
    (front : List ℕ) × (back : List ℕ) × (bytes ≡ front ++ back) × (length front ≡ width)
    × (first_refusal (checks front) ≡ None) × Spells (next front) back x

-- Reading as a function, from a place on: the value, and where the bytes after it stand.
pub record Place : Type 0 where
  pub at : ℕ
  pub bytes : List ℕ

abbrev pub on_pass : {X : Type 0} → ℕ → Option Refusal → Result X FileFault → Result X FileFault
on_pass at None read = read
on_pass at (Some r) read = Err (fault_at at r)

abbrev pub after : ℕ → Place → Place
after width p = record { at = forward p.at width; bytes = drop width p.bytes }

abbrev pub run : {A : Type 0} → Format A → Place → Result (A × Place) FileFault
run (done x) p = Ok (x, p)
run (field width checks next) p =
    if nat_lt (length p.bytes) width then Err (short_at p.at)
    else on_pass p.at (first_refusal (checks (take width p.bytes))) (run (next (take width p.bytes)) (after width p))

-- a whole file: no byte follows
abbrev pub ended : {A : Type 0} → Result (A × Place) FileFault → Result A FileFault
ended (Err e) = Err e
ended (Ok x) = if length x.1.bytes == 0 then Ok x.0 else Err (record { at = x.1.at; reason = Trailing })

abbrev pub read : {A : Type 0} → Format A → List ℕ → Result A FileFault
read format bytes = ended (run format (record { at = 0; bytes = bytes }))

-- There is exactly one value and no fault ..
pub record HasValue {A : Type 0} (Stands : A → Type 0) (Fault : FileFault → Type 0) : Type 0 where
  pub value : A
  pub stands : Stands value
  pub only : (x : A) → Stands x → x ≡ value
  pub faultless : (e : FileFault) → Fault e → ⊥

-- .. or no value and exactly one fault.
pub record HasFault {A : Type 0} (Stands : A → Type 0) (Fault : FileFault → Type 0) : Type 0 where
  pub fault : FileFault
  pub faulty : Fault fault
  pub only : (e : FileFault) → Fault e → e ≡ fault
  pub worthless : (x : A) → Stands x → ⊥

abbrev pub IsDecided : {A : Type 0} → (A → Type 0) → (FileFault → Type 0) → Type 0
IsDecided Stands Fault = HasValue Stands Fault ⊎ HasFault Stands Fault
