-- The whole promise of a call for rounds, from its answer and its buffers. Assumes nothing.
use Prim.Native.Nat.{ℕ, ◌<◌}
use mathlib.Core.Path.{◌≡◌, sym, ◌∙◌, ap, subst, subst⁻¹}
use mathlib.Core.Bool.{◌||◌}
use mathlib.Core.Bool as bool
use mathlib.Core.List.{List, []}
use borrow.Author.Tests.{ltb-true}
use lib.Dec.{ltb}
use lib.ListN.{length}
use Rattle.model.specs.Limits.{channels, scratch_least, trace_least}
use Rattle.model.specs.Refusal.{Out, ok, and_then}
use Rattle.model.specs.Rows.{Row}
use Rattle.model.specs.Place.{read_of}
use Rattle.model.specs.Expansion.{Progress, expand}
use Rattle.model.specs.Order.{Exchange, scenario_of, Met, nothing_met, met_ops, exchange_of}
use Rattle.model.specs.Answer.{exchange_with, exchange_met, Numbers, numbers_of, scratch_behind, trace_after}
use Rattle.model.specs.Rounds.{scenario_in, RoundsJudged, walked_again, walked_twice, repeatable, rounds_verdict, rounds_answer, RoundsChecked}
use Rattle.model.proofs.Refusal.{and_then_ok, cond_ok, cond_refused}
use Rattle.model.proofs.Standing.{read_fits}
use Rattle.model.proofs.Clean.{read_clean}
use Rattle.model.proofs.Walked.{expanded_sound}
use Rattle.model.proofs.NoCircle.{walk_no_circle}
use Rattle.model.proofs.Accepted.{rows_inside, rows_on_one_board}
use Rattle.model.proofs.RoundsJudged.{rounds_judged}
use Rattle.model.proofs.Twice.{walk_later}
use Rattle.model.proofs.TwoWalks.{two_walks_holds}

-- what two walks come from
record TwiceParts (text : List ℕ) (E F : Exchange) : Type 0 where
  file : List Row
  read : read_of text ≡ ok file
  first : Progress Met
  walked : expand met_ops [] file nothing_met ≡ ok first
  second : Progress Met
  again : walked_again file first ≡ ok second
  one : exchange_of first ≡ E
  two : exchange_of second ≡ F

twice_parts : (text : List ℕ) (E F : Exchange) → walked_twice text ≡ ok (E, F) → TwiceParts text E F
unfolding walked_twice
twice_parts text E F e =
    let a = and_then_ok (read_of text) _ (E, F) e in
    let b = and_then_ok (expand met_ops [] a.0 nothing_met) _ (E, F) a.2 in
    let c = and_then_ok (walked_again a.0 b.0) _ (E, F) b.2 in
    let both : ◌≡◌ {A = Exchange × Exchange} (exchange_of b.0, exchange_of c.0) (E, F) = cc c.2 in
    record {
      file = a.0;
      read = a.1;
      first = b.0;
      walked = b.1;
      second = c.0;
      again = c.1;
      one = ap (λ (p : Exchange × Exchange). p.0) both;
      two = ap (λ (p : Exchange × Exchange). p.1) both;
    }

module _ (text : List ℕ) (E F : Exchange) (e : walked_twice text ≡ ok (E, F)) where
  met_once : exchange_met text ≡ ok E
  unfolding exchange_met exchange_with and_then
  met_once = let p = twice_parts text E F e in rw (p.read, p.walked) (ap ok p.one)

  met_twice : scenario_of F ≡ scenario_in E 2
  met_twice =
      let p = twice_parts text E F e in
      let sound = expanded_sound [] p.file (read_fits bool.false text p.file p.read) p.first p.walked in
      let later = walk_later p.first p.file p.second p.walked p.again in
      ap scenario_of (sym p.two) ∙ two_walks_holds p.first p.second sound later ∙ ap (λ (x : Exchange). scenario_in x 2) p.one

  judged_twice : (code : ℕ) → code < channels → RoundsJudged E code (rounds_verdict E code).0 (numbers_of (rounds_verdict E code).1)
  judged_twice code known =
      let p = twice_parts text E F e in
      let fits = read_fits bool.false text p.file p.read in
      let sound = expanded_sound [] p.file fits p.first p.walked in
      let circle = walk_no_circle [] p.file fits (read_clean bool.false text p.file p.read) p.first p.walked in
      subst (λ (x : Exchange). RoundsJudged x code (rounds_verdict x code).0 (numbers_of (rounds_verdict x code).1)) p.one
      (rounds_judged (exchange_of p.first) (rows_inside p.first sound) (rows_on_one_board p.first sound) circle code known)

-- where no refusal applies: the code is a channel's, and two walks are met
repeatable_parts : (text : List ℕ) (code scratch_length trace_length : ℕ) (E : Exchange) → repeatable text code scratch_length trace_length ≡ ok E
    → (code < channels) × ((F : Exchange) × (walked_twice text ≡ ok (E, F)))
unfolding repeatable
repeatable_parts text code scratch_length trace_length E e =
    let a = cond_ok (ltb code channels) _ _ _ E e in
    let b = cond_refused (ltb scratch_length scratch_least || ltb trace_length trace_least) _ _ _ E a.1 in
    let c = and_then_ok (walked_twice text) (λ twice. ok twice.0) E b.1 in
    let one : c.0.0 ≡ E = cc c.2 in
    (ltb-true code channels a.0, (c.0.1, c.1 ∙ ap (λ (x : Exchange). ok (x, c.0.1)) one))

pub rounds_checked : (text : List ℕ) (code : ℕ) (scratch scratch_exit trace trace_exit : List ℕ) (number : ℕ) (r : Numbers)
    → r ≡ numbers_of (rounds_answer (repeatable text code (length scratch) (length trace)) code).1
    → number ≡ (rounds_answer (repeatable text code (length scratch) (length trace)) code).0
    → scratch_exit ≡ scratch_behind (repeatable text code (length scratch) (length trace)) scratch
    → trace_exit ≡ trace_after (rounds_answer (repeatable text code (length scratch) (length trace)) code).1 trace
    → RoundsChecked text code scratch scratch_exit trace trace_exit number r
unfolding rounds_answer
rounds_checked text code scratch scratch_exit trace trace_exit number r a n s t =
    record {
      answer = a;
      how_often = n;
      scratch_left = s;
      trace_left = t;
      one_walk = λ E e. let p = parts E e in met_once text E p.1.0 p.1.1;
      two_walks = met_twice text;
      every_round = λ E e.
          let p = parts E e in
          let number_is : number ≡ (rounds_verdict E code).0 = n ∙ ap (λ (o : Out Exchange). (rounds_answer o code).0) e in
          let numbers-are : r ≡ numbers_of (rounds_verdict E code).1 = a ∙ ap (λ (o : Out Exchange). numbers_of (rounds_answer o code).1) e in
          subst⁻¹ (λ (q : Numbers). RoundsJudged E code number q) numbers-are
          (subst⁻¹ (λ (k : ℕ). RoundsJudged E code k (numbers_of (rounds_verdict E code).1)) number_is (judged_twice text E p.1.0 p.1.1 code p.0));
    }
  where
    parts : (E : Exchange) → repeatable text code (length scratch) (length trace) ≡ ok E → (code < channels) × ((F : Exchange) × (walked_twice text ≡ ok (E, F)))
    parts E e = repeatable_parts text code (length scratch) (length trace) E e
