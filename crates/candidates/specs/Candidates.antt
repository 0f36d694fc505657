-- The candidates of a class, event by event. Assumes nothing.
use Rattle.std.specs.Prelude.{◌≡◌, Bool, not, ◌&&◌, ◌||◌, List, ℕ, ◌+◌, ◌*◌, ◌%◌, ◌<◌, eqb, get_or}
use Rattle.relation.specs.Width.{width, word_bits}
use Rattle.relation.specs.Rows.{has, holds, word_of, bit_of}
use Rattle.run.specs.State.{in_row}
use Rattle.step_classes.specs.declared.Class.{Class}
use Rattle.step_classes.specs.declared.Class.TheVariants.{AnyConsume, DeliveryOf, NeededDelivery, NeededSend, AnyDelivery, AnySend}

-- a row has exactly the events that pass the test
pub record Exactly (test : ℕ → Bool) (row : List ℕ) : Type 0 where
  pub events : (k : ℕ) → k < word_bits * width → in_row row k ≡ test k

-- a send that is not done
unfoldable pub is_unsent : List ℕ → ℕ → Bool
is_unsent done k = not (in_row done k) && eqb (k % 2) 0

-- an event of the row that is e's send or before it
unfoldable pub is_needed : List ℕ → ℕ → List ℕ → ℕ → Bool
is_needed words e row k = in_row row k && (eqb k (2 * e) || holds width words (2 * e) k)

-- one under way whose next event, the bit after its own in the word, is before e's send: of a message, its receive
unfoldable pub is_needed_delivery : List ℕ → ℕ → List ℕ → ℕ → Bool
is_needed_delivery words e way k = in_row way k && has (get_or words (word_of width (2 * e) k) 0) (bit_of k + 1)

-- e's send, where it is under way
unfoldable pub is_own : List ℕ → ℕ → ℕ → Bool
is_own way e k = in_row way k && eqb k (2 * e)

-- Event k is a candidate of the class, in the schedule for e. A message is the bit of its send, 2 m. The receives' bits are said as well: of a consume or
-- a delivery they are at most those of the row held or of that under way, which has none in a run, and of a send none.
abbrev pub is_candidate : List ℕ → List ℕ → List ℕ → List ℕ → ℕ → Class → ℕ → Bool
is_candidate words done way held e AnyConsume k = in_row held k
is_candidate words done way held e DeliveryOf k = is_own way e k
is_candidate words done way held e NeededDelivery k = is_needed_delivery words e way k
is_candidate words done way held e NeededSend k = is_unsent done k && (eqb k (2 * e) || holds width words (2 * e) k)
is_candidate words done way held e AnyDelivery k = in_row way k
is_candidate words done way held e AnySend k = is_unsent done k
