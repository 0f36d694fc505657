-- What stands directly before a send, in words. The model's sentence is in `Rattle.model.specs.Cure`; that they agree is a law of crate
-- cure. Assumes nothing.
use Rattle.std.specs.Prelude.{◌≡◌, Bool, not, cond, ◌&&◌, ◌||◌, List, ℕ, ◌+◌, ◌*◌, ◌%◌, ◌<◌, ◌≤◌, eqb, ltb, length, get_or}
use Rattle.model.specs.Limits.{messages_most}
use Rattle.model.specs.Bounded.{any}
use Rattle.relation.specs.Width.{width, word_bits}
use Rattle.relation.specs.Rows.{has, holds}
use Rattle.joined_rows.specs.Joins.{joined_from}
use Rattle.board.specs.Boards.{BoardsBelow}

-- the events of a row that stands by itself are those that the test says
abbrev pub RowOf : (ℕ → Bool) → List ℕ → Type 0
RowOf test row = (x : ℕ) → x < word_bits * width → holds width row 0 x ≡ test x

-- event x is before a send, of message k, that is before e's send
abbrev pub is_hidden_by : List ℕ → ℕ → ℕ → ℕ → Bool
is_hidden_by words e x k = holds width words (2 * e) (2 * k) && holds width words (2 * k) x

-- the row with what a send of the sheet hides besides
unfoldable pub hidden_by : List ℕ → ℕ → ℕ → List ℕ → List ℕ
hidden_by words count send hidden = cond (ltb send (2 * count)) (joined_from width hidden 0 words send) hidden

unfoldable pub hidden_at : List ℕ → ℕ → ℕ → ℕ → Bool
hidden_at words count e x = any count (is_hidden_by words e x)

-- the same of the sends below event p alone, and a row of what they hide
unfoldable pub hidden_below : List ℕ → ℕ → ℕ → ℕ → ℕ → Bool
hidden_below words count e p x = any count (λ k. ltb (2 * k) p && is_hidden_by words e x k)

pub record Hidden (words : List ℕ) (count e p : ℕ) (hidden : List ℕ) : Type 0 where
  pub exact : RowOf (hidden_below words count e p) hidden
  pub long : length hidden ≡ width

-- event x is a send whose receive is in e's row
unfoldable pub received_at : List ℕ → ℕ → ℕ → Bool
received_at words e x = eqb (x % 2) 0 && holds width words (2 * e) (x + 1)

-- event x is before e's send, nothing stands between them, and it is on the send's board
unfoldable pub cover_at : List ℕ → List ℕ → ℕ → ℕ → ℕ → Bool
cover_at words boards count e x =
    holds width words (2 * e) x && not (hidden_at words count e x || received_at words e x)
    && (ltb x (2 * count) && eqb (get_or boards x 0) (get_or boards (2 * e) 0))

-- the same of a word: bit b stands for an event, and the bit behind an even one for its receive
abbrev pub CoverWord : ℕ → ℕ → ℕ → ℕ → Type 0
CoverWord row hidden mask r =
    (b : ℕ) → b < word_bits → has r b ≡ (has row b && not (has hidden b || eqb (b % 2) 0 && has row (b + 1)) && has mask b)

-- the boards and the words of so many messages
pub record Sheet (count : ℕ) (boards words : List ℕ) : Type 0 where
  pub few : count ≤ messages_most
  pub boards_long : 2 * count ≤ length boards
  pub words_long : 2 * count * width ≤ length words
  pub boards_below : BoardsBelow count boards

-- the rows of the receives are those of what stands directly before the sends
pub record CoverRows (count : ℕ) (boards words exit : List ℕ) : Type 0 where
  pub rows : (e x : ℕ) → e < count → x < word_bits * width → holds width exit (2 * e + 1) x ≡ cover_at words boards count e x
  pub same : length exit ≡ length words
