-- A turn and a cancellation, with the sheets and codes that they are lent and do not read. Assumes nothing.
use mathlib.Core.List.{List, []}
use Prim.Native.Nat.{ℕ}
use Rattle.model.specs.Dispatcher.{turn, cancel, Served, Serves}
use Rattle.dispatcher.specs.declared.Dispatcher.{Dispatcher}
use Rattle.dispatcher.specs.Bridge.{dispatcher_in, Holds, lent, TurnOf, CancelOf}

pub turn_served : (d : Dispatcher) (sheets lengths codes words trace exit trace_exit : List ℕ) (r : Served Dispatcher) → TurnOf d words trace exit trace_exit r
    → Serves dispatcher_in Holds d (turn (lent sheets lengths codes words) trace) exit trace_exit r
turn_served d sheets lengths codes words trace exit trace_exit r T = T.serves sheets lengths codes

pub cancel_served : (d : Dispatcher) (n : ℕ) (sheets lengths codes words exit : List ℕ) (r : Served Dispatcher) → CancelOf d n words exit r
    → Serves dispatcher_in Holds d (cancel n (lent sheets lengths codes words)) exit [] r
cancel_served d n sheets lengths codes words exit r T = T.serves sheets lengths codes
