-- Request (h), dropping the second circle test: since no block of a text that is read has a circle, no walk of it meets one.
-- Assumes nothing.
use Rattle.std.specs.Prelude.{ℕ, ◌≡◌, Bool, List}
use Rattle.model.specs.Refusal.{ok}
use Rattle.model.specs.Rows.{Row}
use Rattle.model.specs.Place.{read_with}
use Rattle.model.specs.Order.{Event, Exchange, Before}
use Rattle.model.specs.Answer.{exchange_with}

-- Of every text that the reading accepts, with A rows let through or not, and every list of options, the empty one too: no event is before
-- itself in what the walk meets.
abbrev pub NoCircles : Type 0
NoCircles = (choices : Bool) (text : List ℕ) (file : List Row) (options : List Bool) (E : Exchange) → read_with choices text ≡ ok file
    → exchange_with options file ≡ ok E → (x : Event) → Before E x x → ⊥
