-- `share::looked` meets its contract. Assumes nothing.
use native.Mathlib.Omega.{arith}
use Rattle.share.proofs.Turns.{looks_stays, looks_many, looks_unknown, looks_late, looks_nothing, looks_finds, found_below}
use Rattle.share.proofs.looked.Goals as goal

pub returns-then-earlier-ne0 : goal.returns-then-earlier-ne0
returns-then-earlier-ne0 c = looks_stays _ _ _ _ _ _ c.if-earlier-ne0.true

pub returns-then-count-gt-MESSAGES_MOST : goal.returns-then-count-gt-MESSAGES_MOST
returns-then-count-gt-MESSAGES_MOST c = search looks_many

pub returns-then-code-ge-CHANNELS : goal.returns-then-code-ge-CHANNELS
returns-then-code-ge-CHANNELS c = search looks_unknown

pub returns-then-count-t : goal.returns-then-count-t
returns-then-count-t c = search looks_late

pub overflow_cast-result-in-Some : goal.overflow_cast-result-in-Some
overflow_cast-result-in-Some c = let low = found_below _ _ _ _ c.in-Some.ensures in
    record { fits = omega arith }

pub returns-in-None : goal.returns-in-None
returns-in-None c = let nothing = c.in-None.ensures in search looks_nothing

pub returns-in-Some : goal.returns-in-Some
returns-in-Some c = let found = c.in-Some.ensures in search looks_finds
