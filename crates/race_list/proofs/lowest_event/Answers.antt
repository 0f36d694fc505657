-- `race_list::lowest_event` meets its contract. Assumes nothing.
use native.Mathlib.Omega.{arith}
use mathlib.Core.Path.{refl}
use borrow.Author.Rules.{rules}
use Rattle.race_list.proofs.Bits.{zeros_few}
use Rattle.race_list.proofs.lowest_event.Goals as goal

pub overflow_add-result : goal.overflow_add-result
overflow_add-result c = let few = zeros_few c.args.word _ refl in
    search rules

pub overflow_cast-result : goal.overflow_cast-result
overflow_cast-result c = let few = zeros_few c.args.word _ refl in
    record { fits = omega arith }
