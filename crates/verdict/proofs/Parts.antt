-- What each part of the check is to show, from what its own parts handed on. Assumes nothing.
use mathlib.Core.Path.{◌≡◌, refl, sym, ◌∙◌, ap, subst, subst⁻¹}
use mathlib.Core.List.{List}
use mathlib.Core.Option.{Option, none, some}
use Prim.Native.Nat.{ℕ}
use Rattle.model.specs.Refusal.{ok}
use Rattle.model.specs.Order.{Scenario}
use Rattle.model.specs.Channel as model
use Rattle.model.specs.Race.{race_rule_of, lowest_race}
use Rattle.model.specs.Schedule.{schedule}
use Rattle.model.specs.Answer.{locked_word, free, locked, verdict_of, answer_for, numbers_of, trace_after}
use Rattle.race.specs.declared.Rule.{Rule}
use Rattle.std.specs.Prelude as std
use Rattle.std.specs.Prelude.{Some, None, Ok}
use Rattle.race.specs.Bridge.{rule_in}
use Rattle.outcome.specs.Options.{found_in}
use Rattle.schedule.specs.Schedule.{Scheduled}
use Rattle.verdict.specs.declared.Verdict.TheVariants.{Free, Locked}
use Rattle.verdict.specs.Parts.{IsRace, Decides}

-- the schedule on the channel of a code
pub on_channel : (S : Scenario) (code e steps : ℕ) (trace behind : List ℕ) (c : model.Channel) → c ≡ model.channel_of code → Scheduled S c e trace behind steps
    → Scheduled S (model.channel_of code) e trace behind steps
on_channel S code e steps trace behind c i s = subst (λ (k : model.Channel). Scheduled S k e trace behind steps) i s

module _ (S : Scenario) (code : ℕ) where
  pub verdict_locked : (e x : ℕ) → IsRace S code e x → verdict_of S code ≡ locked e x (schedule S (model.channel_of code) e)
  unfolding verdict_of
  verdict_locked e x h =
      subst⁻¹
      (λ (o : Option (ℕ × ℕ)). elim o [ none ↦ free | some race ↦ locked race.0 race.1 (schedule S (model.channel_of code) race.0) ]
      ≡ locked e x (schedule S (model.channel_of code) e))
      h refl

  pub verdict_free : lowest_race S (race_rule_of code) ≡ none → verdict_of S code ≡ free
  unfolding verdict_of
  verdict_free h =
      subst⁻¹
      (λ (o : Option (ℕ × ℕ)). elim o [ none ↦ free | some race ↦ locked race.0 race.1 (schedule S (model.channel_of code) race.0) ] ≡ free)
      h refl

  module _ (trace : List ℕ) where
    -- the race named, and its schedule written: locked
    pub locks : (e x steps : ℕ) (behind : List ℕ) → IsRace S code e x → Scheduled S (model.channel_of code) e trace behind steps
        → Decides (ok S) code trace behind (Ok (Locked e x steps))
    unfolding answer_for trace_after
    locks e x steps behind h t =
        let v = sym (verdict_locked e x h) in
        record {
          answer = ap (λ n. record { word = locked_word; one = e; two = x; three = n }) t.count ∙ ap numbers_of v;
          trace_left = t.trace ∙ ap (λ a. trace_after a trace) v;
        }

    -- no race: free, and the trace as it was
    pub frees : lowest_race S (race_rule_of code) ≡ none → Decides (ok S) code trace trace (Ok Free)
    unfolding answer_for trace_after
    frees h =
        let v = sym (verdict_free h) in
        record { answer = ap numbers_of v; trace_left = ap (λ a. trace_after a trace) v }

-- the race that the search named, or none
module _ (S : Scenario) (code : ℕ) (rule : Rule) (v : std.Option (ℕ × ℕ)) (same : rule_in rule ≡ race_rule_of code) (found : found_in v ≡ lowest_race S (rule_in rule)) where
  pub named : (e x : ℕ) → v ≡ Some (e, x) → IsRace S code e x
  named e x i = ap (lowest_race S) (sym same) ∙ sym found ∙ ap (found_in {A = ℕ × ℕ}) i

  pub unnamed : (trace : List ℕ) → v ≡ None → Decides (ok S) code trace trace (Ok Free)
  unnamed trace i = frees S code trace (ap (lowest_race S) (sym same) ∙ sym found ∙ ap (found_in {A = ℕ × ℕ}) i)
