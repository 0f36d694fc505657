-- `lowest_event` meets its contract. Assumes nothing.
use Prim.Native.Nat.{◌-◌}
use native.Mathlib.Omega.{arith}
use borrow.Author.Rules.{rules}
use Rattle.lowest_race.proofs.Events.{zeros_few, search_begins, search_goes_on, search_finds, search_ends}
use Rattle.lowest_race.proofs.lowest_event.Goals as goal

pub loop-w-init : goal.loop-w-init
loop-w-init c = search search_begins

pub overflow_cast-result : goal.overflow_cast-result
overflow_cast-result c = let few = zeros_few c.race_word-word.result in
    record { fits = omega arith }

pub overflow_add-result : goal.overflow_add-result
overflow_add-result c = let few = zeros_few c.race_word-word.result in
    search rules

pub returns-then-word-ne0 : goal.returns-then-word-ne0
returns-then-word-ne0 c = search search_finds

pub loop-w-preserved : goal.loop-w-preserved
loop-w-preserved c = search search_goes_on

pub returns : goal.returns
returns c = search search_ends
