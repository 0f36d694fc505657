-- The boards, looked at one after the other, and what bars a switch. Assumes nothing.
use mathlib.Core.Path.{◌≡◌, refl, sym, ◌∙◌, ap}
use mathlib.Core.Bool.{Bool, true, false, not, ◌&&◌, ◌||◌}
use Prim.Native.Nat.{ℕ, suc, ◌+◌, ◌*◌, ◌<◌, ◌≤◌}
use native.Mathlib.Omega.{arith}
use borrow.Author.Tests.{le-leb, lt-leb, not-false}
use lib.Dec.{eqb, leb}
use Rattle.model.specs.Limits.{boards, messages_most}
use Rattle.model.specs.Bounded.{every, any, how_many}
use Rattle.model.specs.Run.{State}
use Rattle.model.specs.Monitor.{is_barred}
use Rattle.model.specs.Channel.{channel_of}
use Rattle.model.specs.Channel as model
use Rattle.model.proofs.Bounded.{any_from, or_left}
use Rattle.channel_table.specs.declared.Channel.{Channel}
use Rattle.channel_table.specs.Table.{channel_in}
use Rattle.run.specs.declared.Run.{Run}
use Rattle.run.specs.State.{in_row, buffer_of, state_of}
use Rattle.switching.specs.TwoOrMore.{holds_two, is_full}

-- board b holds two messages or more
abbrev pub crowd : State → ℕ → Bool
crowd s b = leb 2 (how_many messages_most (s.holds b))

-- none of the boards passed does
pub record Passed (run : Run) (b : ℕ) : Type 0 where
  pub none : any b (crowd (state_of run)) ≡ false
  pub most : b ≤ boards

pub passed_none : (run : Run) → Passed run 0
unfolding any every
passed_none run = record { none = refl; most = omega arith }

pub two_here : (run : Run) (b n : ℕ) → n ≡ how_many messages_most (λ m. in_row (buffer_of run b).held (2 * m)) → 2 ≤ n → b < boards
    → true ≡ holds_two (state_of run)
two_here run b n e l k = sym (any_from boards (crowd (state_of run)) b k (ap (leb 2) (sym e) ∙ le-leb 2 n l))

pub passed_one : (run : Run) (b n : ℕ) → Passed run b → n ≡ how_many messages_most (λ m. in_row (buffer_of run b).held (2 * m)) → n < 2 → b < boards
    → Passed run (b + 1)
unfolding any every
passed_one run b n p e l k =
    let here : crowd (state_of run) b ≡ false = ap (leb 2) (sym e) ∙ lt-leb 2 n l in
    let last : any (suc b) (crowd (state_of run)) ≡ false = rw (not-false (every b (λ k. not (crowd (state_of run) k))) p.none, here) in
    let next : b + 1 ≡ suc b = omega arith in
    record { none = ap (λ m. any m (crowd (state_of run))) next ∙ last; most = omega (arith, k) }

pub passed_all : (run : Run) (b : ℕ) → Passed run b → boards ≤ b → false ≡ holds_two (state_of run)
passed_all run b p l = let e : b ≡ boards = omega (arith, p.most) in sym (ap (λ n. any n (crowd (state_of run))) (sym e) ∙ p.none)

-- what bars a switch, by its parts
pub barred_by_buffers : (run : Run) (code : ℕ) (c : Channel) (r : Bool) → channel_in c ≡ channel_of code → r ≡ (c.eager && holds_two (state_of run)) → r ≡ true
    → r ≡ is_barred code (state_of run)
unfolding is_barred
barred_by_buffers run code c r i e t =
    let s = state_of run in
    let held : ((channel_of code).eager && holds_two s) ≡ true = ap (λ (k : model.Channel). k.eager && holds_two s) (sym i) ∙ sym e ∙ t in
    t ∙ sym (or_left _ (eqb code 5 && is_full s) held)

pub barred_by_way : (run : Run) (code : ℕ) (c : Channel) (r w : Bool) → channel_in c ≡ channel_of code → r ≡ (c.eager && holds_two (state_of run)) → r ≡ false
    → w ≡ (eqb code 5 && is_full (state_of run)) → w ≡ is_barred code (state_of run)
unfolding is_barred
barred_by_way run code c r w i e t f =
    let s = state_of run in
    let free : ((channel_of code).eager && holds_two s) ≡ false = ap (λ (k : model.Channel). k.eager && holds_two s) (sym i) ∙ sym e ∙ t in
    f ∙ ap (λ (b : Bool). b || (eqb code 5 && is_full s)) (sym free)
