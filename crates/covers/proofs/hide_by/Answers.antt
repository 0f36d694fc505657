-- `covers::hide_by` meets its contract. Assumes nothing.
use Rattle.covers.proofs.Hiding.{hide_yes, hide_no}
use Rattle.covers.proofs.hide_by.Goals as goal

pub returns-then-send-events : goal.returns-then-send-events
returns-then-send-events c = search hide_yes

pub returns-else-send-events : goal.returns-else-send-events
returns-else-send-events c = search hide_no
