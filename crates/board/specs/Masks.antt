-- The masks of the boards, and what the tests stand on. Assumes nothing.
use Rattle.std.specs.Prelude.{◌≡◌, Bool, ◌&&◌, List, ℕ, ◌+◌, ◌*◌, ◌%◌, ◌<◌, ◌≤◌, eqb, ltb, length, get_or}
use Rattle.model.specs.Limits.{boards, messages_most}
use Rattle.relation.specs.Width.{width, word_bits}
use Rattle.relation.specs.Rows.{holds, marked}
use Rattle.board.specs.Boards.{BoardsBelow}

-- a row for the events of each board, one for the sends to each, and one for all sends
abbrev pub mask_rows : ℕ
mask_rows = 2 * boards + 1

-- the numbers of the sends of the first `count` messages
abbrev pub is_send : ℕ → ℕ → Bool
is_send count k = ltb k (2 * count) && eqb (k % 2) 0

-- the masks with message m besides, from board s to board t
unfoldable pub masks_with : List ℕ → ℕ → ℕ → ℕ → List ℕ
masks_with masks m s t =
    marked width (marked width (marked width (marked width masks s (2 * m)) t (2 * m + 1)) (boards + t) (2 * m)) (2 * boards) (2 * m)

-- what the masks of `count` messages hold, event k being on board `get_or on k 0`
pub record MasksOf (count : ℕ) (on masks : List ℕ) : Type 0 where
  pub on_board : (b k : ℕ) → b < boards → k < word_bits * width
      → holds width masks b k ≡ (ltb k (2 * count) && eqb (get_or on k 0) b)
  pub to_board : (b k : ℕ) → b < boards → k < word_bits * width
      → holds width masks (boards + b) k ≡ (is_send count k && eqb (get_or on (k + 1) 0) b)
  pub sends : (k : ℕ) → k < word_bits * width → holds width masks (2 * boards) k ≡ is_send count k

-- what every test asks: `count` messages, the board of each event, the relation's words, and the masks of those boards
pub record Standing (count : ℕ) (on words masks : List ℕ) : Type 0 where
  pub few : count ≤ messages_most
  pub boards_long : 2 * count ≤ length on
  pub words_long : 2 * count * width ≤ length words
  pub masks_long : mask_rows * width ≤ length masks
  pub boards_below : BoardsBelow count on
  pub masks_of : MasksOf count on masks
