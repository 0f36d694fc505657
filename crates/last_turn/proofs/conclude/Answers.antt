-- `last_turn::conclude` meets its contract. Assumes nothing.
use mathlib.Core.Bool.{not}
use mathlib.Core.Path.{ap}
use native.Mathlib.Omega.{arith}
use Rattle.last_turn.proofs.Answers.{nothing_found, too_many, no_channel, no_message, no_board, all_fits, steps_few, locked_by}
use borrow.Author.Rules.{rules}
use Rattle.last_turn.proofs.conclude.Goals as goal

pub returns-then-race-eq0 : goal.returns-then-race-eq0
returns-then-race-eq0 c = search nothing_found

pub returns-then-count-gt-MESSAGES_MOST : goal.returns-then-count-gt-MESSAGES_MOST
returns-then-count-gt-MESSAGES_MOST c = search too_many

pub returns-then-code-ge-CHANNELS : goal.returns-then-code-ge-CHANNELS
returns-then-code-ge-CHANNELS c = search no_channel

pub returns-then-count-e : goal.returns-then-count-e
returns-then-count-e c = search no_message

pub returns-then-not-are_boards : goal.returns-then-not-are_boards
returns-then-not-are_boards c = search no_board

pub withhold-steps-requires : goal.withhold-steps-requires
withhold-steps-requires c = record { fit = all_fits _ _ _ _ c.are_boards.ensures (ap not c.if-not-are_boards.false) (search rules) (search rules) (search rules); code_lt_channels = search rules; e_lt_count = search rules }

pub overflow_cast-result : goal.overflow_cast-result
overflow_cast-result c = let few = steps_few _ _ _ _ _ _ c.withhold-steps.ensures in record { fits = omega arith }

pub returns : goal.returns
returns c = search locked_by
