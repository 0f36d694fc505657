-- "Expansion": the walk of sheet 0 and of all that it calls, and refusals 8, 9, 10 and, of request (c), 13 as the walk meets them.
-- The walk is written once, over what it collects and over the list that it takes its options from. Assumes nothing.
use Rattle.std.specs.Prelude.{ℕ, zero, suc, Bool, true, false, cond, ◌&&◌, List, [], ◌∷◌, eqb, leb, ltb, length, get_or, drop}
use Rattle.model.specs.Limits.{messages_most, levels, calls_most}
use Rattle.model.specs.Refusal.{Out, ok, refusal, and_then, depth_refusal, calls_refusal, messages_refusal, choices_refusal}
use Rattle.model.specs.Rows.{Row, sheet, message, order, block, call, choice}
use Rattle.model.specs.Place.{line_of}

-- how far a walk is: calls made, A rows met, messages met, and the number of the open block's first message
pub record Walk : Type 0 where
  pub calls : ℕ
  pub choices : ℕ
  pub first : ℕ
  pub count : ℕ

abbrev pub fresh_walk : Walk
fresh_walk = record { calls = 0; choices = 0; first = 0; count = 0 }

-- what a walk collects: what a message from a to b, a row `P x y` and the opening of a block add to it
pub record Ops (T : Type 0) : Type 0 where
  pub with_message : Walk → ℕ → ℕ → T → T
  pub with_order : Walk → ℕ → ℕ → T → T
  pub with_block : Walk → T → T

pub record Progress (T : Type 0) : Type 0 where
  pub walk : Walk
  pub kept : T

-- the number of the row behind `S n`; the number of rows where there is none
unfoldable pub start_of : ℕ → List Row → ℕ
start_of n [] = 0
start_of n (sheet m ∷ rs) = elim (eqb m n) [ true ↦ 1 | false ↦ suc (start_of n rs) ]
start_of n (message a b ∷ rs) = suc (start_of n rs)
start_of n (order x y ∷ rs) = suc (start_of n rs)
start_of n (block ∷ rs) = suc (start_of n rs)
start_of n (call m ∷ rs) = suc (start_of n rs)
start_of n (choice k m ∷ rs) = suc (start_of n rs)

-- the option of A row k (from 0): m, or n where the list has it set
unfoldable pub taken : List Bool → ℕ → ℕ → ℕ → ℕ
taken options k m n = cond (get_or options k false) n m

-- what a call adds to the A rows met: one, if an A row makes it
unfoldable pub chosen_more : Bool → ℕ → ℕ
chosen_more true k = suc k
chosen_more false k = k

module _ {T : Type 0} (ops : Ops T) where
  -- the next block is open
  unfoldable pub block_opened : Progress T → Progress T
  block_opened s =
      let w = s.walk in
      record {
        walk = record { calls = w.calls; choices = w.choices; first = w.count; count = w.count };
        kept = ops.with_block w s.kept;
      }

  -- a call is made, by an A row or by a C row
  unfoldable pub call_made : Bool → Progress T → Progress T
  call_made by_choice s =
      let w = s.walk in
      record {
        walk = record { calls = suc w.calls; choices = chosen_more by_choice w.choices; first = w.first; count = w.count };
        kept = s.kept;
      }

  -- a message is met
  unfoldable pub message_met : ℕ → ℕ → Progress T → Progress T
  message_met a b s =
      let w = s.walk in
      record {
        walk = record { calls = w.calls; choices = w.choices; first = w.first; count = suc w.count };
        kept = ops.with_message w a b s.kept;
      }

  unfoldable pub order_met : ℕ → ℕ → Progress T → Progress T
  order_met x y s = record { walk = s.walk; kept = ops.with_order s.walk x y s.kept }

  module _ (options : List Bool) where
    -- the rows of one sheet, walked in file order up to the next sheet, the first of them at the given line; an A row calls the sheet
    -- that its option names
    unfoldable pub walk_rows : (Bool → ℕ → ℕ → Progress T → Out (Progress T)) → List Row → ℕ → Progress T → Out (Progress T)
    walk_rows call_of [] line s = ok s
    walk_rows call_of (sheet n ∷ rs) line s = ok s
    walk_rows call_of (message a b ∷ rs) line s =
        elim (ltb s.walk.count messages_most) [
          | true ↦ walk_rows call_of rs (suc line) (message_met a b s)
          | false ↦ refusal messages_refusal line
        ]
    walk_rows call_of (order x y ∷ rs) line s = walk_rows call_of rs (suc line) (order_met x y s)
    walk_rows call_of (block ∷ rs) line s = walk_rows call_of rs (suc line) (block_opened s)
    walk_rows call_of (call n ∷ rs) line s = and_then (call_of false n line s) (λ s'. walk_rows call_of rs (suc line) (block_opened s'))
    walk_rows call_of (choice m n ∷ rs) line s =
        and_then (call_of true (taken options s.walk.choices m n) line s) (λ s'. walk_rows call_of rs (suc line) (block_opened s'))

    -- a call made with so many levels left, by an A row or by a C row, from the given line: it opens a block, and its sheet is walked in
    -- full. An A row that the list has no option for is refused, behind 8 and 9: with a list of eight options it is the ninth, and a
    -- shorter list is asked for one more (specs/Choice)
    unfoldable pub call_at : ℕ → List Row → Bool → ℕ → ℕ → Progress T → Out (Progress T)
    call_at zero file by_choice n line s = refusal depth_refusal line
    call_at (suc left) file by_choice n line s =
        elim (ltb s.walk.calls calls_most) [
          | true ↦ elim (by_choice && leb (length options) s.walk.choices) [
            | true ↦ refusal choices_refusal line
            | false ↦ walk_rows (call_at left file) (drop (start_of n file) file) (line_of (start_of n file)) (block_opened (call_made by_choice s))
          ]
          | false ↦ refusal calls_refusal line
        ]

    -- the walk of sheet 0, at level 0
    unfoldable pub expand : List Row → T → Out (Progress T)
    expand file t =
        walk_rows (call_at levels file) (drop (start_of 0 file) file) (line_of (start_of 0 file)) (record { walk = fresh_walk; kept = t })
