-- A walk that collects lines only adds lines after those that it has. Assumes nothing.
use Prim.Native.Nat.{ℕ, zero, suc}
use mathlib.Core.Path.{◌≡◌, refl, sym, ◌∙◌, ap}
use mathlib.Core.Bool.{Bool, true, false, ◌&&◌}
use mathlib.Core.List.{List, [], ◌∷◌, ◌++◌, append-nil, append_assoc}
use lib.Dec.{leb, ltb}
use lib.ListN.{drop}
use Rattle.model.specs.Limits.{calls_most, messages_most}
use Rattle.model.specs.Refusal.{Out, ok, refusal, and_then, calls_refusal, messages_refusal, choices_refusal}
use Rattle.model.specs.Rows.{Row, sheet, message, order, block, call, choice}
use Rattle.model.specs.Place.{line_of}
use Rattle.model.specs.Expansion.{Progress, start_of, taken, block_opened, call_made, message_met, order_met, walk_rows, call_at}
use Rattle.model.specs.Senders.{line_ops}

abbrev pub Lined : Type 0
Lined = Progress (List ℕ)

-- the lines that were there are there still, and more after them
pub record Keeps (s t : Lined) : Type 0 where
  pub more : List ℕ
  pub same : t.kept ≡ s.kept ++ more

abbrev pub KeepsOn : Lined → Out Lined → Type 0
KeepsOn s (ok t) = Keeps s t
KeepsOn s (refusal number line) = Unit {0}

pub keeps_same : (s t : Lined) → t.kept ≡ s.kept → Keeps s t
keeps_same s t e = record { more = []; same = e ∙ sym (append-nil s.kept) }

keeps_twice : (s t u : Lined) → Keeps s t → Keeps t u → Keeps s u
keeps_twice s t u a b =
    record { more = a.more ++ b.more; same = b.same ∙ ap (λ (l : List ℕ). l ++ b.more) a.same ∙ append_assoc s.kept a.more b.more }

pub keeps_on : (s t : Lined) (o : Out Lined) → Keeps s t → KeepsOn t o → KeepsOn s o
keeps_on s t (ok u) a b = keeps_twice s t u a b
keeps_on s t (refusal number line) a b = tt

pub keeps_then : (s : Lined) (o : Out Lined) (f : Lined → Out Lined) → KeepsOn s o → ((t : Lined) → KeepsOn t (f t)) → KeepsOn s (and_then o f)
unfolding and_then
keeps_then s (ok t) f a g = keeps_on s t (f t) a (g t)
keeps_then s (refusal number line) f a g = tt

-- a message met
pub keeps_message : (line b : ℕ) (s : Lined) → Keeps s (message_met line_ops line b s)
unfolding message_met line_ops
keeps_message line b s = record { more = line ∷ []; same = refl }

-- the rows of one sheet
module _ (C : Bool → ℕ → ℕ → Lined → Out Lined) (calls : (by_choice : Bool) (n line : ℕ) (s : Lined) → KeepsOn s (C by_choice n line s)) where
  pub rows_keep : (rs : List Row) (line : ℕ) (s : Lined) → KeepsOn s (walk_rows line_ops [] C rs line s)
  unfolding walk_rows block_opened order_met line_ops
  rows_keep [] line s = keeps_same s s refl
  rows_keep (sheet n ∷ rs) line s = keeps_same s s refl
  rows_keep (message a b ∷ rs) line s = room (ltb s.walk.count messages_most) (rows_keep rs (suc line) (message_met line_ops a b s))
    where
      room : (c : Bool) → KeepsOn (message_met line_ops a b s) (walk_rows line_ops [] C rs (suc line) (message_met line_ops a b s))
          → KeepsOn s (elim c [ true ↦ walk_rows line_ops [] C rs (suc line) (message_met line_ops a b s) | false ↦ refusal messages_refusal line ])
      room true k = keeps_on s (message_met line_ops a b s) (walk_rows line_ops [] C rs (suc line) (message_met line_ops a b s)) (keeps_message a b s) k
      room false k = tt
  rows_keep (order x y ∷ rs) line s =
      let t : Lined = order_met line_ops x y s in
      keeps_on s t (walk_rows line_ops [] C rs (suc line) t) (keeps_same s t refl) (rows_keep rs (suc line) t)
  rows_keep (block ∷ rs) line s =
      let t : Lined = block_opened line_ops s in
      keeps_on s t (walk_rows line_ops [] C rs (suc line) t) (keeps_same s t refl) (rows_keep rs (suc line) t)
  rows_keep (call n ∷ rs) line s =
      keeps_then s (C false n line s) (λ t. walk_rows line_ops [] C rs (suc line) (block_opened line_ops t)) (calls false n line s)
      (λ t. keeps_on t (block_opened line_ops t) (walk_rows line_ops [] C rs (suc line) (block_opened line_ops t)) (keeps_same t (block_opened line_ops t) refl)
      (rows_keep rs (suc line) (block_opened line_ops t)))
  rows_keep (choice m n ∷ rs) line s =
      let k : ℕ = taken [] s.walk.choices m n in
      keeps_then s (C true k line s) (λ t. walk_rows line_ops [] C rs (suc line) (block_opened line_ops t)) (calls true k line s)
      (λ t. keeps_on t (block_opened line_ops t) (walk_rows line_ops [] C rs (suc line) (block_opened line_ops t)) (keeps_same t (block_opened line_ops t) refl)
      (rows_keep rs (suc line) (block_opened line_ops t)))

-- a call
pub calls_keep : (file : List Row) (left : ℕ) (by_choice : Bool) (n line : ℕ) (s : Lined) → KeepsOn s (call_at line_ops [] left file by_choice n line s)
unfolding call_at block_opened call_made line_ops
calls_keep file zero by_choice n line s = tt
calls_keep file (suc left) by_choice n line s =
    room (ltb s.walk.calls calls_most) (by_choice && leb 0 s.walk.choices)
    (rows_keep (call_at line_ops [] left file) (calls_keep file left) (drop (start_of n file) file) (line_of (start_of n file)) entered)
  where
    entered : Lined
    entered = block_opened line_ops (call_made line_ops by_choice s)

    body : Out Lined
    body = walk_rows line_ops [] (call_at line_ops [] left file) (drop (start_of n file) file) (line_of (start_of n file)) (block_opened line_ops (call_made line_ops by_choice s))

    room : (c d : Bool) → KeepsOn entered body → KeepsOn s (elim c [ true ↦ elim d [ true ↦ refusal choices_refusal line | false ↦ body ] | false ↦ refusal calls_refusal line ])
    room true true k = tt
    room true false k = keeps_on s entered body (keeps_same s entered refl) k
    room false d k = tt
