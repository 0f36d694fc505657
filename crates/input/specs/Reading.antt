-- What a read hands over. Assumes nothing.
use Rattle.std.specs.Prelude.{ℕ, ◌+◌, ◌≤◌, ◌<◌, ◌≡◌, List, length, take, drop, Ok, Err, Result, Some, None, Option}
use Rattle.std.specs.Io.KnownBytes.{Consumes, IsAtEnd}
use Rattle.std.specs.declared.io.Error.{Error}

-- how many bytes were read, if nothing failed
abbrev pub read_of : Result ℕ Error → Option ℕ
read_of (Ok n) = Some n
read_of (Err e) = None

-- bytes put behind the first `at` of so many: no more than are left
abbrev pub Room : Result ℕ Error → ℕ → ℕ → Type 0
Room (Ok n) at many = at + n ≤ many
Room (Err e) at many = Unit {0}

-- The same of a reader whose bytes are known: those put there are the next that it had; and where there are none, and was room, it had none.
abbrev pub Taken : Result ℕ Error → ℕ → Option (List ℕ) → Option (List ℕ) → List ℕ → Type 0
Taken (Ok n) at old new bytes = Consumes old new (take n (drop at bytes)) × (n ≡ 0 → at < length bytes → IsAtEnd new)
Taken (Err e) at old new bytes = Unit {0}

-- so many bytes at the start of those lent
abbrev pub Handed : Option ℕ → List ℕ → Type 0
Handed (Some n) bytes = (n ≤ length bytes) × (n ≡ length (take n bytes))
Handed None bytes = Unit {0}

-- Of a reader whose bytes are known: those handed over are the next that it had, and where there was room for more it had no more.
abbrev pub Whole : Option ℕ → Option (List ℕ) → Option (List ℕ) → List ℕ → Type 0
Whole (Some n) old new bytes = Consumes old new (take n bytes) × (n < length bytes → IsAtEnd new)
Whole None old new bytes = Unit {0}
