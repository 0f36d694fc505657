-- `race_list::count_bits` meets its contract. Assumes nothing.
use borrow.Author.Rules.{rules}
use Rattle.race_list.proofs.Bits.{ones_few}
use Rattle.race_list.proofs.count_bits.Goals as goal

pub returns : goal.returns
returns c = record { value = search rules; upper_bound = search (ones_few, rules) }
