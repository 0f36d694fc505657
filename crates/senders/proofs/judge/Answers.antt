-- `judge` meets its contract. The loop's invariant: no pair of the senders passed is faulty. Assumes nothing.
use Rattle.senders.proofs.Judging.{judge_begin, receiver_inside, judge_faulty, judge_more, judge_fault, judge_end}
use Rattle.senders.proofs.judge.Goals as goal

pub loop-sender-init : goal.loop-sender-init
loop-sender-init c = search judge_begin

pub fault-requires : goal.fault-requires
fault-requires c =
    record {
      count_le_rules_most = (c.requires, c.loop-sender-test.true, receiver_inside _ _ _ _ c.begin.ensures c.search_among-met.ensures _ c.in-Some.ensures);
      receiver_value = judge_faulty _ _ _ _ c.begin.ensures c.search_among-met.ensures _ c.in-Some.ensures;
    }

pub returns-in-Some : goal.returns-in-Some
returns-in-Some c =
    judge_fault _ _ _ _ c.begin.ensures c.search_among-met.ensures _ c.in-Some.ensures _ c.loop-sender.invariant c.loop-sender-test.true c.fault.ensures

pub loop-sender-preserved : goal.loop-sender-preserved
loop-sender-preserved c =
    judge_more _ _ _ _ c.begin.ensures c.search_among-met.ensures c.loop-sender.invariant c.loop-sender-test.true c.in_default.ensures

pub returns : goal.returns
returns c = search judge_end
