-- The refusal that the code hands on, as the model has it: the number of its reason, and its line. Assumes nothing.
use Rattle.std.specs.Prelude.{ℕ, Result, Ok, Err}
use Rattle.model.specs.Refusal.{Out, ok, refusal, channel_refusal, bench_refusal, length_refusal, heading_refusal, row_refusal, place_refusal, absent_refusal, depth_refusal, calls_refusal, messages_refusal, circle_refusal, trace_refusal, choices_refusal, switch_refusal, cured_rows_refusal, jobs_refusal, held_refusal, sender_table_refusal, forbidden_refusal, tap_refusal}
use Rattle.outcome.specs.declared.Reason.{Reason}
use Rattle.outcome.specs.declared.Reason.TheVariants.{Channel, Bench, Length, Heading, Row, Place, Absent, Depth, Calls, Messages, Circle, Trace, Choices, Switch, CuredRows, Jobs, Held, SenderTable, Forbidden, Tap}
use Rattle.outcome.specs.declared.Refusal.{Refusal}

abbrev pub number_in : Reason → ℕ
number_in Channel = channel_refusal
number_in Bench = bench_refusal
number_in Length = length_refusal
number_in Heading = heading_refusal
number_in Row = row_refusal
number_in Place = place_refusal
number_in Absent = absent_refusal
number_in Depth = depth_refusal
number_in Calls = calls_refusal
number_in Messages = messages_refusal
number_in Circle = circle_refusal
number_in Trace = trace_refusal
number_in Choices = choices_refusal
number_in Switch = switch_refusal
number_in CuredRows = cured_rows_refusal
number_in Jobs = jobs_refusal
number_in Held = held_refusal
number_in SenderTable = sender_table_refusal
number_in Forbidden = forbidden_refusal
number_in Tap = tap_refusal

-- a refusal, as what a part of the check hands on
abbrev pub refused_in : {A : Type 0} → Refusal → Out A
refused_in r = refusal (number_in r.reason) r.line

-- what a part of the check hands on: a value, or the refusal
abbrev pub outcome_in : {A : Type 0} → Result A Refusal → Out A
outcome_in (Ok a) = ok a
outcome_in (Err r) = refused_in r
