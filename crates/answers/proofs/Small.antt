-- The numbers of an answer fit 32 bits. Assumes nothing.
use mathlib.Core.Path.{◌≡◌, refl}
use mathlib.Core.Bool.{Bool, true, false, cond, ◌||◌}
use mathlib.Core.List.{List}
use mathlib.Core.Option.{Option, none, some}
use Prim.Native.Nat.{ℕ, ◌*◌, ◌≤◌}
use native.Mathlib.Omega.{arith}
use Rattle.model.specs.Limits.{channels, messages_most, rows_most, scratch_least, trace_least}
use lib.Dec.{ltb}
use Rattle.model.specs.Refusal.{Out, ok, refusal, channel_refusal, bench_refusal}
use Rattle.model.specs.Place.{line_of}
use Rattle.model.specs.Order.{Scenario}
use Rattle.model.specs.Channel.{channel_of}
use Rattle.model.specs.Run.{start}
use Rattle.model.specs.Race.{race_rule_of, lowest_race}
use Rattle.model.specs.Schedule.{schedule}
use Rattle.model.specs.Answer.{free, locked, sheet_of, accepted_of, verdict_of, answer_for, answer_of, numbers_of}
use Rattle.model.proofs.Accepted.{sheet_count}
use Rattle.model.proofs.PointThree.{race_lowest, schedule_most}
use Rattle.model.proofs.Lines.{Well, sheet_well}
use Rattle.answers.specs.Numbers.{Small}

verdict_small : (S : Scenario) (code : ℕ) → S.count ≤ messages_most → Small (numbers_of (verdict_of S code))
unfolding verdict_of schedule
verdict_small S code few = go (lowest_race S (race_rule_of code)) refl
  where
    go : (o : Option (ℕ × ℕ)) → lowest_race S (race_rule_of code) ≡ o
        → Small (numbers_of (elim o [ none ↦ free | some race ↦ locked race.0 race.1 (schedule S (channel_of code) race.0) ]))
    go none i = record { one = omega arith; two = omega arith; three = omega arith }
    go (some race) i =
        let l = (race_lowest S code race.0 race.1 i).in_scenario in
        record {
          one = omega (arith, l.0);
          two = omega (arith, l.1);
          three = omega (arith, schedule_most S (channel_of code) race.0 (3 * S.count) start);
        }

pub sheet_small : (text : List ℕ) (code : ℕ) → Small (numbers_of (answer_for (sheet_of text) code))
unfolding answer_for accepted_of
sheet_small text code = go (sheet_of text) refl (sheet_well text)
  where
    few : (S : Scenario) → sheet_of text ≡ ok S → S.count ≤ messages_most
    few S i = sheet_count text S i

    go : (o : Out Scenario) → sheet_of text ≡ o → Well (line_of rows_most) o → Small (numbers_of (answer_for o code))
    go (refusal number line) i w = record { one = omega (arith, w.known); two = omega (arith, w.within); three = omega arith }
    go (ok S) i w = verdict_small S code (few S i)

-- any answer's numbers do
pub answer_small : (text : List ℕ) (code m n : ℕ) → Small (numbers_of (answer_of text code m n))
unfolding answer_of answer_for accepted_of
answer_small text code m n = go (ltb code channels) (ltb m scratch_least || ltb n trace_least)
  where
    go : (a b : Bool) → Small (numbers_of (answer_for (cond a (cond b (refusal bench_refusal 0) (sheet_of text)) (refusal channel_refusal 0)) code))
    go true true = record { one = omega arith; two = omega arith; three = omega arith }
    go true false = sheet_small text code
    go false b = record { one = omega arith; two = omega arith; three = omega arith }
