-- Request (d): every call looks at the scratch's length once, for refusal 2.
use Prim.Native.Nat.{ℕ, ◌≤◌}
use mathlib.Core.Path.{◌≡◌, ap}
use mathlib.Core.List.{List}
use borrow.Author.Tests.{le-ltb}
use lib.ListN.{length}
use Rattle.model.specs.Limits.{scratch_least}
use Rattle.model.specs.Answer.{accepted_of, answer_of, trace_after}
use Rattle.model.specs.Replay.{replayable, replay_of}
use Rattle.model.specs.Waits.{waits_of}
use Rattle.model.specs.Choice.{choosable, choice_answer_of, trace_chosen}
use Rattle.model.specs.Scratch.{SameOnAnyScratch}

module _ (text : List ℕ) (code m n : ℕ) (a : scratch_least ≤ m) (b : scratch_least ≤ n) where
  same_accepted : (trace_length : ℕ) → accepted_of text code m trace_length ≡ accepted_of text code n trace_length
  unfolding accepted_of
  same_accepted trace_length = rw (le-ltb m scratch_least a, le-ltb n scratch_least b)

  same_answer : (trace_length : ℕ) → answer_of text code m trace_length ≡ answer_of text code n trace_length
  unfolding answer_of
  same_answer trace_length = rw (same_accepted trace_length)

  same_replayable : (trace_length : ℕ) → replayable text code m trace_length ≡ replayable text code n trace_length
  unfolding replayable
  same_replayable trace_length = rw (le-ltb m scratch_least a, le-ltb n scratch_least b)

  same_replay : (trace : List ℕ) → replay_of text code m trace ≡ replay_of text code n trace
  unfolding replay_of
  same_replay trace = rw (same_replayable (length trace))

  same_waits : (trace : List ℕ) → waits_of text code m trace ≡ waits_of text code n trace
  unfolding waits_of
  same_waits trace = rw (same_replayable (length trace))

  same_choosable : (trace_length : ℕ) → choosable text code m trace_length ≡ choosable text code n trace_length
  unfolding choosable
  same_choosable trace_length = rw (le-ltb m scratch_least a, le-ltb n scratch_least b)

  same_chosen : (trace_length : ℕ) → choice_answer_of text code m trace_length ≡ choice_answer_of text code n trace_length
  unfolding choice_answer_of
  same_chosen trace_length = rw (same_choosable trace_length)

pub same_on_any_scratch_holds : SameOnAnyScratch
same_on_any_scratch_holds text code m n a b = record {
  answer = same_answer text code m n a b;
  trace_left = λ trace. ap (λ answer. trace_after answer trace) (same_answer text code m n a b (length trace));
  replayed = same_replay text code m n a b;
  waits = same_waits text code m n a b;
  chosen = same_chosen text code m n a b;
  chosen_trace_left = λ trace. ap (λ answer. trace_chosen answer trace) (same_chosen text code m n a b (length trace));
}
