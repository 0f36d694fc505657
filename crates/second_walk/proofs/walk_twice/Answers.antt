-- `second_walk::walk_twice` meets its contract. Assumes nothing.
use Prim.Native.Nat.{ℕ, ◌*◌}
use native.Mathlib.Omega.{arith}
use lib.ListN.{length-replicate}
use borrow.Author.Rules.{rules}
use Rattle.std.proofs.lemmas.Result.{err_from_is_err_and}
use Rattle.model.specs.Limits.{boards}
use Rattle.relation.specs.Width.{width}
use Rattle.expansion.proofs.Whole.{nothing_past}
use Rattle.second_walk.proofs.Walking.{rests_on, ends_lent, first_refused, second_refused, one_locks, one_frees}
use Rattle.second_walk.proofs.walk_twice.Goals as goal

pub walk_once-requires : goal.walk_once-requires
walk_once-requires c = record { rows_read = c.requires.rows_read; boards_len = search rules; words_len = search rules; past_value = nothing_past }

pub returns-in_err-once : goal.returns-in_err-once
returns-in_err-once c = let p = err_from_is_err_and c.from_residual.result c.from_residual.ensures.1 in rw (p.1, p.2) (first_refused _ _ _ _ _ c.requires.rows_read c.requires.plain _ _ c.requires.boards_len.1 _ _ c.in_err-once.ensures)

pub lowest_race-lowest-requires : goal.lowest_race-lowest-requires
lowest_race-lowest-requires c = ends_lent _ _ _ c.in_ok-once.ensures

pub walk_on-requires : goal.walk_on-requires
walk_on-requires c = let rests = c.in_ok-once.ensures.rests in record {
  rows_read = c.requires.rows_read;
  rests = rests_on _ _ _ _ _ _ rests (omega (arith, rests.room.past_long, length-replicate {A = ℕ} (boards * width) 0)) (omega (arith, rests.few))
      (omega (arith, rests.empty)) (omega arith);
}

pub returns-in_err-twice : goal.returns-in_err-twice
returns-in_err-twice c = let p = err_from_is_err_and c.from_residual-in_err-twice.result c.from_residual-in_err-twice.ensures.1 in rw (p.1, p.2) (second_refused _ _ _ _ _ c.requires.rows_read c.requires.plain _ _ c.requires.boards_len.1 _ _ c.in_ok-once.ensures _ _ c.in_err-twice.ensures)

pub returns-in-None : goal.returns-in-None
returns-in-None c = one_frees _ _ _ _ _ c.requires.rows_read c.requires.plain _ _ c.requires.boards_len.1 _ _ c.in_ok-once.ensures _ _ c.in_ok-twice.ensures _ c.rule_of-rule.result c.lowest_race-lowest.result c.rule_of-rule.ensures c.lowest_race-lowest.ensures c.in-None.is

pub returns-in-Some : goal.returns-in-Some
returns-in-Some c = one_locks _ _ _ _ _ c.requires.rows_read c.requires.plain _ _ c.requires.boards_len.1 _ _ c.in_ok-once.ensures _ _ c.in_ok-twice.ensures _ c.rule_of-rule.result c.lowest_race-lowest.result c.rule_of-rule.ensures c.lowest_race-lowest.ensures _ c.in-Some.is
