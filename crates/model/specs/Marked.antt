-- "Sheets to try": the eight marked sheets, as texts, and the answer expected on each of the six channels.
-- Assumes nothing.
use Rattle.std.specs.Prelude.{ℕ, zero, suc, List, [], ◌∷◌}
use Prim.Native.String.{String}
use Rattle.model.specs.Limits.{channels, scratch_least, trace_least}
use Rattle.model.specs.Text.{ascii}
use Rattle.model.specs.Run.{send, deliver, consume}
use Rattle.model.specs.Answer.{Answer, free, locked, refused, answer_of}

-- a sheet's text, and its answers on channels 0 to 5
pub record Trial : Type 0 where
  pub text : String
  pub answers : List Answer

abbrev everywhere : Answer → List Answer
everywhere a = a ∷ a ∷ a ∷ a ∷ a ∷ a ∷ []

-- the same answer on the eager channels, 0, 2, 4 and 5, and free on the lazy ones, 1 and 3
abbrev on_eager : Answer → List Answer
on_eager a = a ∷ free ∷ a ∷ free ∷ a ∷ a ∷ []

-- an answer on channel 0, and free on the others
abbrev on_zero : Answer → List Answer
on_zero a = a ∷ free ∷ free ∷ free ∷ free ∷ free ∷ []

unfoldable pub marked : List Trial
marked =
    record { text = "kind one two\nS 0 0\n"; answers = everywhere free }
    ∷ record {
      text = "kind one two\nS 0 0\nM 0 1\nM 2 1\nP 1 3\n";
      answers = on_eager (locked 1 1 (send 1 ∷ deliver 1 ∷ send 0 ∷ []));
    }
    ∷ record {
      text = "kind one two\nS 0 0\nM 0 1\nM 0 1\nP 0 2\nP 1 3\n";
      answers = on_zero (locked 1 1 (send 0 ∷ send 1 ∷ deliver 1 ∷ []));
    }
    ∷ record { text = "kind one two\nS 0 0\nM 0 1\nM 1 0\nP 1 2\nP 0 3\n"; answers = everywhere free }
    ∷ record {
      text = "kind one two\nS 0 0\nM 0 1\nM 1 2\nP 2 1\n";
      answers = on_eager (locked 0 2 (send 0 ∷ deliver 0 ∷ []));
    }
    ∷ record { text = "kind one two\nS 0 0\nM 3 3\n"; answers = everywhere free }
    ∷ record {
      text = "kind one two\nS 0 0\nM 0 2\nM 0 1\nM 1 2\nP 0 2\nP 3 4\nP 1 5\n";
      answers = on_zero (locked 2 1 (send 0 ∷ send 1 ∷ deliver 1 ∷ consume 1 ∷ send 2 ∷ deliver 2 ∷ []));
    }
    ∷ record { text = "kind one two\nS 0 0\nM 0 1\nM 1 0\nP 1 2\nP 3 0\n"; answers = everywhere (refused 11 6) }
    ∷ []

-- the answers that the definitions give, on so many channels from the given code on, with the least buffers
unfoldable pub answers_from : ℕ → ℕ → String → List Answer
answers_from zero code text = []
answers_from (suc left) code text = answer_of (ascii text) code scratch_least trace_least ∷ answers_from left (suc code) text

unfoldable pub computed : List Trial → List Trial
computed [] = []
computed (t ∷ ts) = record { text = t.text; answers = answers_from channels 0 t.text } ∷ computed ts
