-- An option of the code, as one of the model. Assumes nothing.
use Rattle.std.specs.Prelude as code
use Rattle.std.specs.Prelude.{Some, None}
use Rattle.std.proofs.Math.Option.{Option, none, some}

-- what was found, if anything was
abbrev pub found_in : {A : Type 0} → code.Option A → Option A
found_in (Some a) = some a
found_in None = none
