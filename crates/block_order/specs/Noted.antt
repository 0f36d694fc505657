-- What a row does to the words of the open block's order, list by list.
-- Assumes nothing.
use Rattle.std.specs.Prelude.{ℕ, ◌+◌, ◌*◌, ◌<◌, ◌≡◌, Bool, false, cond, List, length, replicate}
use Rattle.model.specs.Limits.{messages_most}
use Rattle.model.specs.Rows.{Row, sheet, message, order, block, call, choice}
use Rattle.relation.specs.Width.{width}
use Rattle.relation.specs.Rows.{holds, marked}
use Rattle.joined_rows.specs.Joins.{copied_from}
use Rattle.closure.specs.Insertion.{inserted}

-- a row of no events
abbrev pub nothing : ℕ → List ℕ
nothing W = replicate W 0

-- message m's two rows, made anew: the send is behind nothing, and the receive behind the send alone
unfoldable pub begun : ℕ → List ℕ → ℕ → List ℕ
begun W words m =
    marked W (copied_from W (copied_from W words (2 * m) (nothing W) 0) (2 * m + 1) (nothing W) 0) (2 * m + 1) (2 * m)

-- the words behind a row, in a block of m messages
unfoldable pub noted : List ℕ → ℕ → Row → List ℕ
noted words m (sheet n) = words
noted words m (message a b) = begun width words m
noted words m (order x y) = inserted width words x y 0 (2 * m)
noted words m block = words
noted words m (call n) = words
noted words m (choice j n) = words

-- a row `P x y` puts x before itself where y is before x already
unfoldable pub circles : List ℕ → Row → Bool
circles words (sheet n) = false
circles words (message a b) = false
circles words (order x y) = holds width words x y
circles words block = false
circles words (call n) = false
circles words (choice m n) = false

-- a row's message has room in a block of m messages; its events are among theirs
abbrev pub Within : ℕ → Row → Type 0
Within m (sheet n) = Unit {0}
Within m (message a b) = m < messages_most
Within m (order x y) = (x < 2 * m) × (y < 2 * m)
Within m block = Unit {0}
Within m (call n) = Unit {0}
Within m (choice j n) = Unit {0}

-- what is handed back of a row, and the words behind it, in a block of m messages: where it makes a circle, they stay as they were
pub record NotedAs (words : List ℕ) (m : ℕ) (r : Row) (exit : List ℕ) (circle : Bool) : Type 0 where
  pub found : circle ≡ circles words r
  pub left : exit ≡ cond circle words (noted words m r)
  pub long : length exit ≡ length words
