-- "Refusal table" and those that the requests add: their numbers, and what a part of the check hands on: a value, or the refusal with its line.
-- Assumes nothing.
use Rattle.std.specs.Prelude.{ℕ}

pub data Out (A : Type 0) : Type 0 where
  ok : A → Out A
  refusal : ℕ → ℕ → Out A

-- go on with what was handed on, unless it was refused
unfoldable pub and_then : {A B : Type 0} → Out A → (A → Out B) → Out B
and_then (ok a) f = f a
and_then (refusal number line) f = refusal number line

abbrev pub channel_refusal : ℕ
channel_refusal = 1

abbrev pub bench_refusal : ℕ
bench_refusal = 2

abbrev pub length_refusal : ℕ
length_refusal = 3

abbrev pub heading_refusal : ℕ
heading_refusal = 4

abbrev pub row_refusal : ℕ
row_refusal = 5

abbrev pub place_refusal : ℕ
place_refusal = 6

abbrev pub absent_refusal : ℕ
absent_refusal = 7

abbrev pub depth_refusal : ℕ
depth_refusal = 8

abbrev pub calls_refusal : ℕ
calls_refusal = 9

abbrev pub messages_refusal : ℕ
messages_refusal = 10

abbrev pub circle_refusal : ℕ
circle_refusal = 11

-- request (a): a trace of odd length, or too long
abbrev pub trace_refusal : ℕ
trace_refusal = 12

-- request (c): the ninth A row met in one walk
abbrev pub choices_refusal : ℕ
choices_refusal = 13

-- request (g): a switch that the state bars
abbrev pub switch_refusal : ℕ
switch_refusal = 14

-- request (i): more than 512 rows to write
abbrev pub cured_rows_refusal : ℕ
cured_rows_refusal = 15

-- request (k): an admission with eight jobs held or all numbers given out; cancelling a number that is not held
abbrev pub jobs_refusal : ℕ
jobs_refusal = 16

abbrev pub held_refusal : ℕ
held_refusal = 17

-- request (l): a table that is malformed or unsound; a forbidden message
abbrev pub sender_table_refusal : ℕ
sender_table_refusal = 18

abbrev pub forbidden_refusal : ℕ
forbidden_refusal = 19

-- request (m): an event that the sheet has not, or twice in one list of a tap
abbrev pub tap_refusal : ℕ
tap_refusal = 20
