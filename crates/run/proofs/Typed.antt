-- What the type of a run says: each row has its words, of 64 bits each, and there is a buffer for each board. Assumes nothing.
use mathlib.Core.Path.{◌≡◌}
use mathlib.Core.List.{List, [], ◌∷◌}
use Prim.Native.Nat.{ℕ, zero, suc, ◌^◌, ◌<◌}
use native.Mathlib.Nat.{not-suc-le-zero, le_of_suc-le-suc}
use native.Mathlib.Omega.{arith}
use lib.ListN.{length, get_or}
use mir.Syntax.{w64}
use mir.Val.{Val}
use denote.Laws.{Is}
use denote.Shadow.{shadow}
use denote.Array as array
use borrow.Author.Rules.{elem_Fits}
use Rattle.model.specs.Limits.{boards}
use Rattle.relation.specs.Width.{width, word_bits}
use Rattle.run.specs.declared.Buffer.{Buffer}
use Rattle.run.specs.declared.Run.{Run}
use Rattle.run.specs.State.{buffer_of}
use Rattle.run.specs.contracts.Buffer as buffer
use Rattle.run.specs.contracts.Run as run-type

pub record IsRow (row : List ℕ) : Type 0 where
  pub long : length row ≡ width
  pub small : (j : ℕ) → get_or row j 0 < 2 ^ word_bits

pub record Typed (run : Run) : Type 0 where
  pub done : IsRow run.done
  pub way : IsRow run.way
  pub each : length run.buffers ≡ boards
  pub held : (b : ℕ) → b < boards → IsRow (buffer_of run b).held

buffer_typed : (u : Buffer) (vs : List Val) → Is buffer.the_row u vs → IsRow u.held
buffer_typed u vs good = record { long = good.1.1.0.1.0.1; small = λ j. (elem_Fits w64 w64 u.held _ j good.1.1.0.1.1 tt).fits }

each_typed : (bs : List Buffer) (us : List Val) → shadow (array.each Buffer buffer.the_row.own_val bs us) → (b : ℕ) → b < length bs → IsRow (get_or bs b (record { held = [] })).held
each_typed [] us good b l = absurd (not-suc-le-zero l)
each_typed (u ∷ bs) [] good b l = absurd good
each_typed (u ∷ bs) (v ∷ us) good zero l = buffer_typed u (v ∷ []) good.0
each_typed (u ∷ bs) (v ∷ us) good (suc b) l = each_typed bs us good.1 b (le_of_suc-le-suc l)

pub typed : (run : Run) (vs : List Val) → Is run-type.the_row run vs → Typed run
typed run vs good =
    let long : length run.buffers ≡ boards = good.1.1.1.1.0.1.0.1 in
    record {
      done = record { long = good.1.1.0.1.0.1; small = λ j. (elem_Fits w64 w64 run.done _ j good.1.1.0.1.1 tt).fits };
      way = record { long = good.1.1.1.0.1.0.1; small = λ j. (elem_Fits w64 w64 run.way _ j good.1.1.1.0.1.1 tt).fits };
      each = long;
      held = λ b l. each_typed run.buffers _ good.1.1.1.1.0.1.1 b (omega arith);
    }
