-- `Monitor::take` meets its contract. Assumes nothing.
use Rattle.run.proofs.Typed.{typed}
use borrow.Author.Rules.{rules}
use Rattle.monitor.proofs.Parts.{none_told, step_reaches, step_taken, step_forbidden}
use Rattle.monitor.proofs.Monitor.take.Goals as goal

pub returns-in_default : goal.returns-in_default
returns-in_default c = search (none_told, c.in_default.not-Some)

pub next-self-requires : goal.next-self-requires
next-self-requires c = step_reaches _ _ _ _ c.channel_of-c.result c.args.self.now.run _ _ c.allowed_in.ensures c.if-allowed_in.true c.requires.fit (search rules)
    c.board_masks.ensures

pub returns-then-allowed_in : goal.returns-then-allowed_in
returns-then-allowed_in c = let known = typed c.next-self.result _ c.next-self.type_inv in search (step_taken, rules)

pub returns : goal.returns
returns c = search (step_forbidden, rules)
