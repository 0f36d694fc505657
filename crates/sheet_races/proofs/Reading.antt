-- What `judge` is to show, from the way to the scenario and the races listed of it. Assumes nothing.
use mathlib.Core.Path.{◌≡◌, refl, ◌∙◌, subst, subst⁻¹}
use mathlib.Core.List.{List}
use Prim.Native.Nat.{ℕ, ◌/◌, ◌≤◌}
use native.Mathlib.Nat.{min-le_right}
use native.Mathlib.Omega.{arith}
use lib.ListN.{length, length-take}
use Rattle.model.specs.Limits.{rows_most}
use Rattle.model.specs.Refusal.{Out}
use Rattle.model.specs.Place.{line_of}
use Rattle.model.specs.Order.{Scenario}
use Rattle.model.specs.Race.{RaceRule, race_rule_of}
use Rattle.model.specs.Answer.{sheet_of}
use Rattle.model.specs.Holdings.{HoldingNumbers, races_below, races_answer, races_left}
use Rattle.model.proofs.Lines.{Well, sheet_well}
use Rattle.relation.specs.Scenario.{scenario_in}
use Rattle.at_or_before.specs.Lent.{Lent}
use Rattle.race.specs.declared.Rule.{Rule}
use Rattle.race.specs.Bridge.{rule_in}
use Rattle.std.specs.Prelude.{Result, Ok, Err}
use Rattle.outcome.specs.declared.Refusal.{Refusal}
use Rattle.outcome.specs.Refusals.{number_in}
use Rattle.scenario.specs.Contract.{SheetIn}
use Rattle.scenario.proofs.Laws.{sheet_refused, sheet_is, sheet_fits}
use Rattle.race_list.specs.declared.Told.{Told}
use Rattle.race_list.specs.Listing.{races_most, Tells}
use Rattle.sheet_races.specs.Numbers.{listed_numbers, numbers_for, Answers}

-- of so many races no more stand in the output
pub all_few : (races : List (ℕ × ℕ)) (output exit : List ℕ) (r : Told) → Tells races output exit r → r.all ≤ races_most
all_few races output exit r t = omega (arith, t.all, t.most)

pub listed_few : (races : List (ℕ × ℕ)) (output exit : List ℕ) (r : Told) → Tells races output exit r → r.listed ≤ races_most
listed_few races output exit r t =
    omega (arith, t.listed, t.most, length-take (length output / 2) races, min-le_right (length output / 2) (length races))

module _ (text boards words : List ℕ) (v : Result ℕ Refusal) (p : SheetIn text boards words v) where
  -- the line of a refusal is one of the text
  pub line_known : (f : Refusal) → v ≡ Err f → f.line ≤ line_of rows_most
  line_known f i =
      (subst (Well (line_of rows_most)) (sheet_refused text boards words v p f i) (sheet_well text)).within

  pub scenario_refused : (f : Refusal) (code : ℕ) (output : List ℕ) → v ≡ Err f → Answers (sheet_of text) code output output (numbers_for (Err f))
  unfolding races_answer races_left
  scenario_refused f code output i =
      subst⁻¹ (λ (o : Out Scenario). Answers o code output output (numbers_for (Err f))) (sheet_refused text boards words v p f i) (record { answer = refl; output_left = refl })

  module _ (count : ℕ) (i : v ≡ Ok count) where
    pub scenario_lent : Lent count boards words
    scenario_lent =
        let F = sheet_fits text boards words v p count i in
        record {
          boards_long = omega (arith, F.few, F.boards_long);
          words_long = omega (arith, F.few, F.words_long);
          row_long = omega (arith, F.few);
          boards_below = F.boards_below;
        }

    pub scenario_listed : (code : ℕ) (rule : Rule) (output exit : List ℕ) (r : Told)
        → Tells (races_below (scenario_in count boards words) (rule_in rule) count) output exit r → rule_in rule ≡ race_rule_of code
        → Answers (sheet_of text) code output exit (numbers_for (Ok r))
    unfolding races_answer races_left
    scenario_listed code rule output exit r t q =
        let S = scenario_in count boards words in
        let T : Tells (races_below S (race_rule_of code) count) output exit r =
        subst (λ (k : RaceRule). Tells (races_below S k count) output exit r) q t in
        subst⁻¹ (λ (o : Out Scenario). Answers o code output exit (numbers_for (Ok r))) (sheet_is text boards words v p count i)
        (record { answer = λ j. listed_numbers (T.all j) (T.listed j); output_left = T.left })
