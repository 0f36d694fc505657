-- A text that has a scenario: what was read and walked, and all that the theorem uses of its "before"; and an accepted one: its code
-- and buffers. Assumes nothing.
use Prim.Native.Nat.{ℕ, ◌<◌, ◌≤◌}
use native.Mathlib.Omega.{arith}
use mathlib.Core.Path.{◌≡◌, refl, sym, ◌∙◌, subst}
use mathlib.Core.Bool.{Bool, false, ◌||◌}
use mathlib.Core.List.{List, []}
use lib.Dec.{ltb}
use lib.ListN.{get_or}
use borrow.Author.Tests.{ltb-true, ltb-false, lt-ltb, le-ltb}
use Rattle.model.specs.Limits.{boards, messages_most, channels, scratch_least, trace_least}
use Rattle.model.specs.Refusal.{ok, and_then}
use Rattle.model.specs.Rows.{Row}
use Rattle.model.specs.Place.{read_of}
use Rattle.model.specs.Expansion.{Progress, expand}
use Rattle.model.specs.Order.{Event, send_of, receive_of, number, board_of, Scenario, Met, nothing_met, met_ops, exchange_of, scenario_of, board}
use Rattle.model.specs.Answer.{expanded_with, expanded_of, exchange_with, sheet_of, exchange_met, accepted_of}
use Rattle.model.specs.Verdict.{IsMet, Meets}
use Rattle.model.proofs.Bounded.{or_neither}
use Rattle.model.proofs.Events.{below_number}
use Rattle.model.proofs.Refusal.{and_then_ok, cond_ok, cond_refused}
use Rattle.model.proofs.Causal.{Causal}
use Rattle.model.proofs.Order.{board_in, RowsInside, RowsOnOneBoard, before_exact, causal}
use Rattle.model.proofs.Standing.{Fits, read_fits}
use Rattle.model.proofs.Walked.{Sound, expanded_sound}
use Rattle.model.proofs.Clean.{Clean, read_clean}
use Rattle.model.proofs.NoCircle.{walk_no_circle}

-- what the scenario of a walk on a list of options comes from
pub record WalkParts (options : List Bool) (rows : List Row) (S : Scenario) : Type 0 where
  pub walked : Progress Met
  pub expanded : expand met_ops options rows nothing_met ≡ ok walked
  pub scenario : scenario_of (exchange_of walked) ≡ S

pub walk_parts : (options : List Bool) (rows : List Row) (S : Scenario) → expanded_with options rows ≡ ok S → WalkParts options rows S
unfolding expanded_with
walk_parts options rows S e =
    let d = and_then_ok (expand met_ops options rows nothing_met) (λ s. ok (scenario_of (exchange_of s))) S e in
    record { walked = d.0; expanded = d.1; scenario = cc d.2 }

-- what the scenario of a text comes from
pub record SheetParts (text : List ℕ) (S : Scenario) : Type 0 where
  pub rows : List Row
  pub read : read_of text ≡ ok rows
  pub parts : WalkParts [] rows S
  pub whole : expanded_of rows ≡ ok S

pub sheet_parts : (text : List ℕ) (S : Scenario) → sheet_of text ≡ ok S → SheetParts text S
unfolding sheet_of
sheet_parts text S e =
    let c = and_then_ok (read_of text) expanded_of S e in
    record { rows = c.0; read = c.1; parts = walk_parts [] c.0 S c.2; whole = c.2 }

-- what acceptance says: the code and the buffers' lengths are in order, and the sheet has its scenario
pub record Accepted (text : List ℕ) (code scratch_length trace_length : ℕ) (S : Scenario) : Type 0 where
  pub code_known : code < channels
  pub scratch_enough : scratch_least ≤ scratch_length
  pub trace_enough : trace_least ≤ trace_length
  pub sheet : sheet_of text ≡ ok S

pub accepted_parts : (text : List ℕ) (code scratch_length trace_length : ℕ) (S : Scenario)
    → accepted_of text code scratch_length trace_length ≡ ok S
    → Accepted text code scratch_length trace_length S
unfolding accepted_of
accepted_parts text code scratch_length trace_length S e =
    let a = cond_ok (ltb code channels) _ _ _ S e in
    let b = cond_refused (ltb scratch_length scratch_least || ltb trace_length trace_least) _ _ _ S a.1 in
    let lengths = or_neither (ltb scratch_length scratch_least) (ltb trace_length trace_least) b.0 in
    record {
      code_known = ltb-true code channels a.0;
      scratch_enough = ltb-false scratch_length scratch_least lengths.0;
      trace_enough = ltb-false trace_length trace_least lengths.1;
      sheet = b.1;
    }

pub accepted_from : (text : List ℕ) (code scratch_length trace_length : ℕ) (S : Scenario)
    → Accepted text code scratch_length trace_length S
    → accepted_of text code scratch_length trace_length ≡ ok S
unfolding accepted_of
accepted_from text code scratch_length trace_length S a =
    rw (lt-ltb code channels a.code_known, le-ltb scratch_length scratch_least a.scratch_enough, le-ltb trace_length trace_least a.trace_enough)
    a.sheet

-- an event's board stands at its number
pub board_at : (s : Progress Met) (x : Event) → board_in (exchange_of s) x ≡ get_or s.kept.events (number x) 0
unfolding exchange_of board_of number
board_at s (send_of m) = refl
board_at s (receive_of m) = refl

-- the exchange of a sound walk: its P rows are between its own events, on one board
module _ (s : Progress Met) (h : Sound s) where
  pub rows_inside : RowsInside (exchange_of s)
  unfolding exchange_of
  rows_inside x y l =
      let p = h.orders_on_boards (number x) (number y) l in
      ((below_number x s.walk.count).1 (omega arith), (below_number y s.walk.count).1 (omega arith))

  pub rows_on_one_board : RowsOnOneBoard (exchange_of s)
  unfolding exchange_of
  rows_on_one_board x y l = board_at s x ∙ (h.orders_on_boards (number x) (number y) l).same_board ∙ sym (board_at s y)

-- What holds of the scenario of a walk, on any list of options, over rows that fit.
module _ (options : List Bool) (rows : List Row) (fits : Fits [] rows) (S : Scenario) (e : expanded_with options rows ≡ ok S) where
  pub walk_sound : Sound (walk_parts options rows S e).walked
  walk_sound = let a = walk_parts options rows S e in expanded_sound options rows fits a.walked a.expanded

  -- and, where no block has a circle, no event is before itself
  pub walk_causal : Clean 0 [] rows → Causal S
  walk_causal clean =
      let a = walk_parts options rows S e in
      subst Causal a.scenario
      (causal (exchange_of a.walked) (rows_inside a.walked walk_sound) (rows_on_one_board a.walked walk_sound)
      (walk_no_circle options rows fits clean a.walked a.expanded))

  pub walk_count : S.count ≤ messages_most
  unfolding scenario_of exchange_of
  walk_count =
      let a = walk_parts options rows S e in
      subst (λ (T : Scenario). T.count ≤ messages_most) a.scenario walk_sound.count_most

  pub walk_boards : (x : Event) → board S x < boards
  unfolding scenario_of
  walk_boards x =
      let a = walk_parts options rows S e in
      subst (λ (T : Scenario). board T x < boards) a.scenario
      (rw (board_at a.walked x) (walk_sound.boards_most (number x)))

  -- "before" is the paper's relation over what the walk meets
  pub walk_meets : IsMet (exchange_with options rows) S
  unfolding scenario_of exchange_with and_then
  walk_meets =
      let a = walk_parts options rows S e in
      let E = exchange_of a.walked in
      subst (IsMet (exchange_with options rows)) a.scenario
      (record {
        exchange = E;
        met = rw a.expanded;
        messages = refl;
        sources = λ m. refl;
        targets = λ m. refl;
        before = before_exact E (rows_inside a.walked walk_sound);
      })

-- What holds of the scenario of any text that has one.
module _ (text : List ℕ) (S : Scenario) (e : sheet_of text ≡ ok S) where
  sheet_rows_fit : Fits [] (sheet_parts text S e).rows
  sheet_rows_fit = let a = sheet_parts text S e in read_fits false text a.rows a.read

  pub sheet_causal : Causal S
  sheet_causal = let a = sheet_parts text S e in walk_causal [] a.rows sheet_rows_fit S a.whole (read_clean false text a.rows a.read)

  pub sheet_count : S.count ≤ messages_most
  sheet_count = let a = sheet_parts text S e in walk_count [] a.rows sheet_rows_fit S a.whole

  pub sheet_boards : (x : Event) → board S x < boards
  sheet_boards = let a = sheet_parts text S e in walk_boards [] a.rows sheet_rows_fit S a.whole

  pub sheet_meets : Meets text S
  unfolding exchange_met and_then
  sheet_meets =
      let a = sheet_parts text S e in
      rw a.read (walk_meets [] a.rows sheet_rows_fit S a.whole)
