-- What `list` is to show, from the way to the scenario, the lines and the numbers told. Assumes nothing.
use Prim.Native.Nat.{ℕ, zero, suc, ◌*◌, ◌<◌, ◌≤◌}
use native.Mathlib.Omega.{arith}
use mathlib.Core.Path.{◌≡◌, refl, sym, ◌∙◌, ap, subst}
use mathlib.Core.List.{List, [], ◌∷◌, ◌++◌}
use lib.ListN.{length, get_or, take, drop, get_or-append}
use lib.Seq.{length-take-le, get_or-take}
use Rattle.model.specs.Limits.{messages_most, rows_most}
use Rattle.model.specs.Refusal.{Out, ok}
use Rattle.model.specs.Place.{line_of}
use Rattle.model.specs.Order.{Scenario}
use Rattle.model.specs.Answer.{sheet_of}
use Rattle.model.specs.Senders.{lines_met}
use Rattle.model.specs.Holdings.{HoldingNumbers, messages_told, messages_answer, messages_left}
use Rattle.model.proofs.Lines.{Well, sheet_well}
use Rattle.relation.specs.Scenario.{scenario_in}
use Rattle.std.specs.Prelude.{Ok, Err}
use Rattle.outcome.specs.declared.Refusal.{Refusal}
use Rattle.outcome.specs.Refusals.{refused_in}
use Rattle.scenario.specs.Contract.{SheetIn}
use Rattle.scenario.proofs.Laws.{sheet_refused, sheet_is, sheet_fits}
use Rattle.message_lines.proofs.Counted.{lines_count}
use Rattle.sheet_messages.specs.Listing.{numbers_for, Told, Lists}

-- only the lines of the messages told matter
told_alike : (n : ℕ) (lines others : List ℕ) (S : Scenario) → ((m : ℕ) → m < n → get_or lines m 0 ≡ get_or others m 0) → messages_told n lines S ≡ messages_told n others S
unfolding messages_told
told_alike zero lines others S h = refl
told_alike (suc n) lines others S h =
    ap (λ (l : List ℕ). l ++ (get_or lines n 0 ∷ S.source n ∷ S.target n ∷ [])) (told_alike n lines others S (λ m k. h m (omega arith)))
    ∙ ap (λ (a : ℕ). messages_told n others S ++ (a ∷ S.source n ∷ S.target n ∷ [])) (h n (omega arith))

-- what a sheet's outcome gives
lists_from : (text output output_exit : List ℕ) (r : HoldingNumbers) (o : Out Scenario) → sheet_of text ≡ o → r ≡ messages_answer o
    → output_exit ≡ messages_left o (lines_met text) output → Lists text output output_exit r
lists_from text output output_exit r o e a l =
    record { answer = a ∙ ap messages_answer (sym e); output_left = l ∙ ap (λ (p : Out Scenario). messages_left p (lines_met text) output) (sym e) }

module _ (text boards words : List ℕ) where
  module _ (e : Refusal) (p : SheetIn text boards words (Err e)) where
    is : sheet_of text ≡ refused_in e
    is = sheet_refused text boards words (Err e) p e refl

    pub refusal_line : e.line ≤ line_of rows_most
    refusal_line = let w : Well {A = Scenario} (line_of rows_most) (refused_in e) = subst (λ (o : Out Scenario). Well (line_of rows_most) o) is (sheet_well text) in omega (arith, w.within)

    pub lists_refused : (output : List ℕ) → Lists text output output (numbers_for (Err e))
    unfolding messages_answer messages_left
    lists_refused output = lists_from text output output (numbers_for (Err e)) (refused_in e) is refl refl

  module _ (count : ℕ) (p : SheetIn text boards words (Ok count)) where
    abbrev S : Scenario
    S = scenario_in count boards words

    lines_many : length (lines_met text) ≡ count
    lines_many = lines_count text S (sheet_is text boards words (Ok count) p count refl)

    pub messages_few : count ≤ messages_most
    messages_few = (sheet_fits text boards words (Ok count) p count refl).few

    pub lines_asked : count ≤ length (lines_met text)
    lines_asked = omega (arith, lines_many)

    pub lists_told : (lines given output now : List ℕ) → lines ≡ take count (lines_met text) ++ drop count given
        → Told lines boards output count now → Lists text output now (numbers_for (Ok count))
    unfolding messages_answer messages_left
    lists_told lines given output now e t =
        let long : length (take count (lines_met text)) ≡ count = length-take-le count (lines_met text) lines_asked in
        let same : (m : ℕ) → m < count → get_or lines m 0 ≡ get_or (lines_met text) m 0
        = λ m h. ap (λ (l : List ℕ). get_or l m 0) e ∙ get_or-append (take count (lines_met text)) (drop count given) 0 m (omega arith) ∙ get_or-take count (lines_met text) m 0 h in
        lists_from text output now (numbers_for (Ok count)) (ok S) (sheet_is text boards words (Ok count) p count refl) refl
        (t.told count words ∙ ap (λ (l : List ℕ). l ++ drop (3 * count) output) (told_alike count lines (lines_met text) S same))
