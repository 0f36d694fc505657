-- `sheet_messages::tell` meets its contract: its loop keeps `Telling`. Assumes nothing.
use Rattle.sheet_messages.proofs.Telling.{Telling}
use Rattle.sheet_messages.proofs.tell.Given as goal

abbrev pub invariant-loop-m : goal.invariant-loop-m
invariant-loop-m l = Telling l.lines l.boards l.initial.output l.count l.m l.output
