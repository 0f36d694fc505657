-- The buffers of a run in rows, a row a board: all laid out, one laid anew, and read. Assumes nothing.
use mathlib.Core.Path.{◌≡◌, sym, ap, ◌∙◌}
use mathlib.Core.Bool.{false}
use mathlib.Core.List.{List, []}
use Prim.Native.Nat.{ℕ, ◌+◌, ◌*◌, ◌/◌, ◌%◌, ◌<◌, ◌≤◌}
use native.Mathlib.Nat.{zero-add, not-suc-le-zero}
use native.Mathlib.Decide.{ℕ_discrete, dec_lt}
use native.Mathlib.Omega.{arith}
use lib.ListN.{length, get_or, set, replicate, length-set, length-replicate, get_or-replicate, get_or-eq_default}
use lib.Seq.{get_or-set_same, get_or-set_other}
use Rattle.model.proofs.Lists.{replicate_at}
use Rattle.relation.specs.Width.{width, word_bits}
use Rattle.relation.specs.Rows.{has, holds}
use Rattle.relation.proofs.Bits.{has_zero}
use Rattle.joined_rows.proofs.Joined.{copied_at, copied_outside}
use Rattle.run.specs.declared.Buffer.{Buffer}
use Rattle.run.specs.declared.Run.{Run}
use Rattle.board.specs.Boards.{boards_most}
use Rattle.run.specs.State.{in_row, buffer_of, start_run}
use Rattle.run.proofs.States.{starts}
use Rattle.relation.proofs.Words.{alone_row}
use Rattle.buffers.specs.Held.{HeldIn, LaysRow}

-- A row that is laid: it has the words of the buffer, and every other row is as it was.
module _ (rows now : List ℕ) (b : ℕ) (held : List ℕ) where
  row_here : (i : ℕ) → LaysRow rows b held now → i < width → b < boards_most → get_or now (b * width + i) 0 ≡ get_or held i 0
  row_here i j l few =
      rw j.put (copied_at width rows b held 0 i l (omega (arith, j.room)) ∙ ap (λ (k : ℕ). get_or held k 0) (zero-add i))

  row_there : (a i : ℕ) → LaysRow rows b held now → i < width → (a ≡ b → ⊥) → get_or now (a * width + i) 0 ≡ get_or rows (a * width + i) 0
  row_there a i j l n = rw j.put (copied_outside width rows b held 0 (a * width + i) (λ k m s. omega arith))

-- What the loop over the buffers keeps: those passed are laid out.
pub record Laid (run : Run) (rows : List ℕ) (b : ℕ) : Type 0 where
  pub long : (a : ℕ) → a < b → length (buffer_of run a).held ≡ width
  pub words : (a i : ℕ) → a < b → i < width → get_or rows (a * width + i) 0 ≡ get_or (buffer_of run a).held i 0
  pub most : b ≤ boards_most

pub laid_start : (run : Run) (rows : List ℕ) → Laid run rows 0
laid_start run rows =
    record {
      long = λ a h. absurd (not-suc-le-zero h);
      words = λ a i h l. absurd (not-suc-le-zero h);
      most = omega arith;
    }

pub laid_more : (run : Run) (rows now : List ℕ) (b : ℕ) (buffer : Buffer) → Laid run rows b → buffer_of run b ≡ buffer
    → LaysRow rows b buffer.held now → b < boards_most → Laid run now (b + 1)
laid_more run rows now b buffer p e j h =
    record {
      long = λ a g. here_long a g (ℕ_discrete a b);
      words = λ a i g l. here a i g l (ℕ_discrete a b);
      most = omega arith;
    }
  where
    here_long : (a : ℕ) → a < b + 1 → Dec (a ≡ b) → length (buffer_of run a).held ≡ width
    here_long a g (yes s) = rw (s, e) j.long
    here_long a g (no n) = p.long a (omega arith)

    here : (a i : ℕ) → a < b + 1 → i < width → Dec (a ≡ b) → get_or now (a * width + i) 0 ≡ get_or (buffer_of run a).held i 0
    here a i g l (yes s) = rw (s, e) (row_here rows now b buffer.held i j l h)
    here a i g l (no n) = row_there rows now b buffer.held a i j l n ∙ p.words a i (omega arith) l

pub laid_all : (run : Run) (rows : List ℕ) (b : ℕ) → Laid run rows b → boards_most ≤ b → length run.buffers ≡ boards_most → HeldIn run rows
laid_all run rows b p h l =
    record { boards = l; long = λ a g. p.long a (omega arith); words = λ a i g m. p.words a i (omega arith) m }

-- at the start of a run all rows are empty
pub start_laid : HeldIn start_run (replicate (boards_most * width) 0)
start_laid =
    record {
      boards = starts.boards;
      long = λ b h. ap (λ (u : Buffer). length u.held) (empty b h) ∙ length-replicate {A = ℕ} width 0;
      words = λ b i h l.
          replicate_at (boards_most * width) (b * width + i) 0
          ∙ sym (ap (λ (u : Buffer). get_or u.held i 0) (empty b h) ∙ replicate_at width i 0);
    }
  where
    empty : (b : ℕ) → b < boards_most → buffer_of start_run b ≡ record { held = replicate width 0 }
    empty b h = get_or-replicate boards_most b (record { held = replicate width 0 }) (record { held = [] }) h

-- a run with one buffer changed: that buffer, and the others as they were
module _ (run : Run) (b : ℕ) (own : List ℕ) where
  abbrev changed : ℕ → Buffer
  changed a = get_or (set run.buffers b (record { held = own })) a (record { held = [] })

  pub buffer_set : b < length run.buffers → changed b ≡ record { held = own }
  buffer_set h = get_or-set_same run.buffers b (record { held = own }) (record { held = [] }) h

  pub buffer_kept : (a : ℕ) → (a ≡ b → ⊥) → changed a ≡ buffer_of run a
  buffer_kept a n = get_or-set_other run.buffers b a (record { held = own }) (record { held = [] }) n

-- and its row laid anew: the rows are those of the run with that buffer, whatever else of it changed
module _ (run : Run) (rows now own : List ℕ) (b : ℕ) (done way : List ℕ) (p : HeldIn run rows) (few : b < boards_most) (j : LaysRow rows b own now) where
  pub set_laid : HeldIn (record { done = done; way = way; buffers = set run.buffers b (record { held = own }) }) now
  set_laid =
      record {
        boards = length-set run.buffers b _ ∙ p.boards;
        long = λ a g. lengths a g (ℕ_discrete a b);
        words = λ a i g l. words a i g l (ℕ_discrete a b);
      }
    where
      set_own : changed run b own b ≡ record { held = own }
      set_own = buffer_set run b own (omega (arith, p.boards))

      lengths : (a : ℕ) → a < boards_most → Dec (a ≡ b) → length (changed run b own a).held ≡ width
      lengths a g (yes e) = rw (e, set_own) j.long
      lengths a g (no n) = rw (buffer_kept run b own a n) (p.long a g)

      words : (a i : ℕ) → a < boards_most → i < width → Dec (a ≡ b) → get_or now (a * width + i) 0 ≡ get_or (changed run b own a).held i 0
      words a i g l (yes e) = rw (e, set_own) (row_here rows now b own i j l few)
      words a i g l (no n) = rw (buffer_kept run b own a n) (row_there rows now b own a i j l n ∙ p.words a i g l)

-- an event is in a board's row if its buffer holds it
pub row_holds : (run : Run) (rows : List ℕ) (b k : ℕ) → HeldIn run rows → b < boards_most → k < word_bits * width
    → in_row (buffer_of run b).held k ≡ holds width rows b k
unfolding holds
row_holds run rows b k p l h =
    alone_row width (buffer_of run b).held k ∙ ap (λ (w : ℕ). has w (k % word_bits)) (sym (p.words b (k / word_bits) l (omega arith)))

-- an event in none of the rows is in no buffer; beyond the last board there is none
pub in_no_buffer : (run : Run) (rows : List ℕ) (k : ℕ) → HeldIn run rows → k < word_bits * width
    → ((b : ℕ) → b < boards_most → holds width rows b k ≡ false) → (b : ℕ) → in_row (buffer_of run b).held k ≡ false
in_no_buffer run rows k p h clear b = go (dec_lt b boards_most)
  where
    nothing : in_row [] k ≡ false
    nothing = alone_row width [] k ∙ has_zero (k % word_bits)

    go : Dec (b < boards_most) → in_row (buffer_of run b).held k ≡ false
    go (yes l) = row_holds run rows b k p l h ∙ clear b l
    go (no l) = rw (get_or-eq_default run.buffers (record { held = [] }) {n = b} (omega (arith, p.boards))) nothing
