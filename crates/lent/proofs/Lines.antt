-- A refusal without a line. Assumes nothing.
use mathlib.Core.Path.{◌≡◌}
use Prim.Native.Nat.{◌^◌, ◌<◌}
use native.Mathlib.Omega.{arith}
use Rattle.outcome.specs.declared.Refusal.{Refusal}
use Rattle.outcome.specs.declared.Reason.{Reason}

pub no_line : {f : Refusal} {a : Reason} → f ≡ record { reason = a; line = 0 } → f.line < 2 ^ 32
no_line i = rw i (omega arith)
