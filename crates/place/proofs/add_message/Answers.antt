-- `add_message` meets its contract. Assumes nothing.
use Rattle.place.proofs.Standing.{no_source, no_target, no_room, message_fits_holds}
use native.Mathlib.Omega.{arith}
use borrow.Author.Rules.{rules}
use Rattle.place.proofs.add_message.Goals as goal
use Rattle.place.proofs.add_message.Goals.{then-a-ge-BOARDS-via-then-a-ge-BOARDS, then-a-ge-BOARDS-via-else-a-ge-BOARDS+then-b-ge-BOARDS, then-a-ge-BOARDS-via-else-a-ge-BOARDS+else-b-ge-BOARDS+then-messages-ge-MESSAGES_MOST}

pub returns-then-a-ge-BOARDS-clause-value : goal.returns-then-a-ge-BOARDS-clause-value
returns-then-a-ge-BOARDS-clause-value c =
    elim c.then-a-ge-BOARDS.branch [
      | then-a-ge-BOARDS-via-then-a-ge-BOARDS w ↦ no_source _ _ c.requires.0 c.requires.1 _ _ (omega arith)
      | then-a-ge-BOARDS-via-else-a-ge-BOARDS+then-b-ge-BOARDS w ↦ no_target _ _ c.requires.0 c.requires.1 _ _ (omega arith) (omega arith)
      | then-a-ge-BOARDS-via-else-a-ge-BOARDS+else-b-ge-BOARDS+then-messages-ge-MESSAGES_MOST w ↦ no_room _ _ c.requires.0 c.requires.1 _ _ (omega arith) (omega arith) (omega arith)
    ]

pub returns-clause-value : goal.returns-clause-value
returns-clause-value c = search (message_fits_holds, rules)
