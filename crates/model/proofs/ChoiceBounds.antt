-- The numbers of an answer over the choice lists are small. Assumes nothing.
use Prim.Native.Nat.{ℕ, suc, ◌+◌, ◌*◌, ◌^◌, ◌<◌, ◌≤◌}
use native.Mathlib.Omega.{arith}
use mathlib.Core.Path.{◌≡◌, refl}
use mathlib.Core.Logic.{inl, inr}
use mathlib.Core.Bool.{Bool, true, false, cond, ◌||◌}
use mathlib.Core.List.{List, [], ◌∷◌}
use mathlib.Core.Option.{Option, none, some}
use lib.Dec.{ltb}
use lib.ListN.{length}
use lib.Pow.{pow_mono}
use Rattle.model.specs.Limits.{messages_most, rows_most, choices_most, lists_most, channels, scratch_least, trace_least}
use Rattle.model.specs.Refusal.{Out, ok, refusal, channel_refusal, bench_refusal}
use Rattle.model.specs.Rows.{Row}
use Rattle.model.specs.Place.{line_of, read_with}
use Rattle.model.specs.Order.{Scenario}
use Rattle.model.specs.Channel.{channel_of}
use Rattle.model.specs.Run.{start}
use Rattle.model.specs.Race.{race_rule_of, lowest_race}
use Rattle.model.specs.Schedule.{schedule}
use Rattle.model.specs.Answer.{Answer, free, locked, refused, expanded_with, verdict_of, answer_for}
use Rattle.model.specs.Choice.{lists_of, Among, ChoiceAnswer, each_free, first_locked, first_refused, refusal_in, lock_in, judged_over, choosable, choice_answer_for, choice_answer_of, choices_number, ChoiceNumbers, choice_numbers}
use Rattle.model.proofs.Standing.{Fits, read_fits}
use Rattle.model.proofs.Accepted.{walk_count}
use Rattle.model.proofs.Lines.{Well, Reads, read_well, expanded_well}
use Rattle.model.proofs.PointThree.{race_lowest, schedule_most}
use Rattle.model.proofs.Asking.{beginning_most}
use Rattle.model.proofs.ChoiceLists.{all_lists}

pub record SmallChoice (r : ChoiceNumbers) : Type 0 where
  pub one : r.one ≤ trace_least
  pub two : r.two ≤ line_of rows_most
  pub three : r.three ≤ trace_least
  pub options : r.options ≤ choices_most
  pub choices : r.choices < lists_most

-- the number of a list has a bit for each option
pub number_below : (l : List Bool) → choices_number l < 2 ^ length l
unfolding choices_number
number_below [] = omega arith
number_below (true ∷ l) = let h : 1 + 2 * choices_number l < 2 ^ suc (length l) = omega (arith, number_below l) in h
number_below (false ∷ l) = let h : 0 + 2 * choices_number l < 2 ^ suc (length l) = omega (arith, number_below l) in h

small_free : SmallChoice (choice_numbers each_free)
small_free = record { one = omega arith; two = omega arith; three = omega arith; options = omega arith; choices = omega arith }

module _ (file : List Row) (fits : Fits [] file) (few : length file ≤ rows_most) (code : ℕ) where
  refusal_small : (ls : List (List Bool)) → (b : ChoiceAnswer) → SmallChoice (choice_numbers b)
      → SmallChoice (choice_numbers (elim (refusal_in file ls) [ none ↦ b | some r ↦ first_refused r.0 r.1 ]))
  unfolding refusal_in
  refusal_small [] b s = s
  refusal_small (l ∷ ls) b s = go (expanded_with l file) (expanded_well l file few) (refusal_in file ls) (refusal_small ls b s)
    where
      first : Out Scenario → Option (ℕ × ℕ) → Option (ℕ × ℕ)
      first w r = elim w [ ok S ↦ r | refusal number line ↦ some (number, line) ]

      go : (w : Out Scenario) → Well (line_of rows_most) w → (r : Option (ℕ × ℕ)) → SmallChoice (choice_numbers (elim r [ none ↦ b | some r ↦ first_refused r.0 r.1 ]))
          → SmallChoice (choice_numbers (elim (first w r) [ none ↦ b | some r ↦ first_refused r.0 r.1 ]))
      go (ok S) h r t = t
      go (refusal number line) h r t = record { one = omega (arith, h.known); two = omega (arith, h.within); three = omega arith; options = omega arith; choices = omega arith }

  lock_small : (ls : List (List Bool)) → ((l : List Bool) → Among l ls → length l ≤ choices_most) → SmallChoice (choice_numbers (lock_in file code ls))
  unfolding lock_in answer_for verdict_of schedule
  lock_small [] short = small_free
  lock_small (l ∷ ls) short = go (expanded_with l file) refl (lock_small ls (λ k a. short k (inr a)))
    where
      by : Answer → ChoiceAnswer
      by a = elim a [ free ↦ lock_in file code ls | locked e x ts ↦ first_locked l e x ts | refused number line ↦ lock_in file code ls ]

      named : Scenario → Option (ℕ × ℕ) → Answer
      named S o = elim o [ none ↦ free | some race ↦ locked race.0 race.1 (schedule S (channel_of code) race.0) ]

      race : (S : Scenario) → S.count ≤ messages_most → (o : Option (ℕ × ℕ)) → lowest_race S (race_rule_of code) ≡ o
          → SmallChoice (choice_numbers (lock_in file code ls)) → SmallChoice (choice_numbers (by (named S o)))
      race S h none i s = s
      race S h (some r) i s =
          let p = (race_lowest S code r.0 r.1 i).in_scenario in
          let n = short l (inl refl) in
          record {
            one = omega (arith, p.0);
            two = omega (arith, p.1);
            three = omega (arith, schedule_most S (channel_of code) r.0 (3 * S.count) start);
            options = n;
            choices = omega (arith, number_below l, pow_mono n);
          }

      go : (w : Out Scenario) → expanded_with l file ≡ w → SmallChoice (choice_numbers (lock_in file code ls)) → SmallChoice (choice_numbers (by (answer_for w code)))
      go (refusal number line) e s = s
      go (ok S) e s = race S (walk_count l file fits S e) (lowest_race S (race_rule_of code)) refl s

  judged_small : SmallChoice (choice_numbers (judged_over file code (lists_of file)))
  unfolding judged_over
  judged_small =
      refusal_small (lists_of file) (lock_in file code (lists_of file))
      (lock_small (lists_of file) (λ l a. beginning_most file (((all_lists file).each l).0 a).beginning))

pub choice_small : (text : List ℕ) (code m n : ℕ) → SmallChoice (choice_numbers (choice_answer_of text code m n))
unfolding choice_answer_of choosable choice_answer_for Reads
choice_small text code m n = go (ltb code channels) (ltb m scratch_least || ltb n trace_least) (read_with true text) refl (read_well true text)
  where
    fixed : (number line : ℕ) → number ≤ trace_least → line ≤ line_of rows_most → SmallChoice (choice_numbers (first_refused number line))
    fixed number line h k = record { one = h; two = k; three = omega arith; options = omega arith; choices = omega arith }

    go : (a b : Bool) (o : Out (List Row)) → read_with true text ≡ o → Reads o
        → SmallChoice (choice_numbers (choice_answer_for (cond a (cond b (refusal bench_refusal 0) o) (refusal channel_refusal 0)) code))
    go false b o e h = fixed channel_refusal 0 (omega arith) (omega arith)
    go true true o e h = fixed bench_refusal 0 (omega arith) (omega arith)
    go true false (refusal number line) e h = fixed number line (omega (arith, h.known)) h.within
    go true false (ok file) e h = judged_small file (read_fits true text file e) h code
