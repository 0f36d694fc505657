-- The run of a state, word by word, and back: a run with no bits but those of its state is the run of that state, and the state of the run of a
-- state inside the limits is that state. Assumes nothing.
use mathlib.Core.Path.{◌≡◌, refl, sym, ◌∙◌, ap, ap₂, subst, fun_ext}
use mathlib.Core.Bool.{Bool, true, false, ◌&&◌, and-false}
use mathlib.Core.List.{List, [], ◌∷◌}
use Prim.Native.Nat.{ℕ, zero, suc, ◌+◌, ◌*◌, ◌/◌, ◌%◌, ◌<◌, ◌≤◌}
use native.Mathlib.Nat.{add-zero, zero-add, not-suc-le-zero}
use native.Mathlib.Decide.{dec_lt, ℕ_discrete}
use native.Mathlib.Omega.{arith}
use lib.Dec.{eqb, ltb}
use lib.ListN.{length, get_or}
use borrow.Author.Tests.{lt-ltb, eq-eqb, ne_eqb}
use Rattle.model.specs.Limits.{boards, messages_most}
use Rattle.model.specs.Order.{Event, number, event}
use Rattle.model.specs.Run.{State, start}
use Rattle.model.proofs.Events.{event_number, number_event}
use Rattle.relation.specs.Width.{width, word_bits}
use Rattle.relation.specs.Rows.{word_from, row_from}
use Rattle.relation.proofs.Bits.{has_zero}
use Rattle.relation.proofs.Words.{alone_row}
use Rattle.relation.proofs.Written.{row_from_holds, row_back}
use Rattle.board.specs.Boards.{boards_most}
use Rattle.run.specs.declared.Buffer.{Buffer}
use Rattle.run.specs.declared.Run.{Run}
use Rattle.run.specs.State.{in_row, buffer_of, state_of, events_row, sends_row, buffers_from, run_of, OnlySends, start_run}
use Rattle.run.proofs.Typed.{IsRow, Typed}

-- the run of the start is all zeros
pub start_zeros : run_of start ≡ start_run
unfolding row_from word_from buffers_from
start_zeros = refl

-- a test that fails beyond a bound needs no bound
inside_all : (k n : ℕ) (b : Bool) → (b ≡ true → k < n) → (ltb k n && b) ≡ b
inside_all k n true h = rw (lt-ltb k n (h refl))
inside_all k n false h = and-false (ltb k n)

-- the bits of a row of events, and of one of messages
events_read : (p : Event → Bool) (x : Event) → (p x ≡ true → number x < 2 * messages_most) → in_row (events_row p) (number x) ≡ p x
events_read p x h =
    row_from_holds width (λ k. p (event k)) (number x) ∙ rw (event_number x) (inside_all (number x) (word_bits * width) (p x) h)

sends_read : (p : ℕ → Bool) (m : ℕ) → (p m ≡ true → m < messages_most) → in_row (sends_row p) (2 * m) ≡ p m
sends_read p m h =
    let even : 2 * m % 2 ≡ 0 = omega arith in
    let back : 2 * m / 2 ≡ m = omega arith in
    row_from_holds width (λ k. eqb (k % 2) 0 && p (k / 2)) (2 * m) ∙ rw (even, back) (inside_all (2 * m) (word_bits * width) (p m) (λ t. let l = h t in omega arith))

no_receives : (p : ℕ → Bool) (m : ℕ) → in_row (sends_row p) (2 * m + 1) ≡ false
no_receives p m =
    let odd : (2 * m + 1) % 2 ≡ 1 = omega arith in
    row_from_holds width (λ k. eqb (k % 2) 0 && p (k / 2)) (2 * m + 1) ∙ rw odd (and-false (ltb (2 * m + 1) (word_bits * width)))

-- the buffers, one by one
buffer_at : (n b : ℕ) (holds : ℕ → ℕ → Bool) (i : ℕ) → i < n → get_or (buffers_from n b holds) i (record { held = [] }) ≡ record { held = sends_row (holds (b + i)) }
unfolding buffers_from
buffer_at zero b holds i l = absurd (not-suc-le-zero l)
buffer_at (suc n) b holds zero l = rw (add-zero b)
buffer_at (suc n) b holds (suc i) l =
    let e : suc b + i ≡ b + suc i = omega arith in
    buffer_at n (suc b) holds i (omega arith) ∙ ap (λ (k : ℕ). record { held = sends_row (holds k) }) e

buffer_none : (n b : ℕ) (holds : ℕ → ℕ → Bool) (i : ℕ) → n ≤ i → get_or (buffers_from n b holds) i (record { held = [] }) ≡ record { held = [] }
unfolding buffers_from
buffer_none zero b holds i l = refl
buffer_none (suc n) b holds zero l = absurd (not-suc-le-zero l)
buffer_none (suc n) b holds (suc i) l = buffer_none n (suc b) holds i (omega arith)

nothing_held : (k : ℕ) → in_row [] k ≡ false
nothing_held k = alone_row width [] k ∙ has_zero (k % word_bits)

module _ (s : State) where
  held_of : (b : ℕ) → b < boards_most → (buffer_of (run_of s) b).held ≡ sends_row (s.holds b)
  held_of b l = ap (λ (u : Buffer). u.held) (buffer_at boards_most 0 s.holds b l) ∙ ap (λ (k : ℕ). sends_row (s.holds k)) (zero-add b)

  held_none : (b : ℕ) → boards_most ≤ b → (buffer_of (run_of s) b).held ≡ []
  held_none b l = ap (λ (u : Buffer). u.held) (buffer_none boards_most 0 s.holds b l)

  -- the state of the run of a state that lies inside the limits
  pub state_back : ((x : Event) → s.done x ≡ true → number x < 2 * messages_most) → ((m : ℕ) → s.under_way m ≡ true → m < messages_most)
      → ((b m : ℕ) → s.holds b m ≡ true → (b < boards) × (m < messages_most)) → state_of (run_of s) ≡ s
  state_back done way held = λ i.
      record {
        done = fun_ext (λ x. events_read s.done x (done x)) i;
        under_way = fun_ext (λ m. sends_read s.under_way m (way m)) i;
        holds = fun_ext (λ b. fun_ext (λ m. on b m (dec_lt b boards_most))) i;
      }
    where
      on : (b m : ℕ) → Dec (b < boards_most) → in_row (buffer_of (run_of s) b).held (2 * m) ≡ s.holds b m
      on b m (yes l) = ap (λ (row : List ℕ). in_row row (2 * m)) (held_of b l) ∙ sends_read (s.holds b) m (λ t. (held b m t).1)
      on b m (no n) =
          let e : s.holds b m ≡ false = none (s.holds b m) refl in
          ap (λ (row : List ℕ). in_row row (2 * m)) (held_none b (omega arith)) ∙ nothing_held (2 * m) ∙ sym e
        where
          none : (t : Bool) → s.holds b m ≡ t → t ≡ false
          none true e = absurd (n (held b m e).0)
          none false e = refl

  pub only_sends : OnlySends (run_of s)
  only_sends = record { way = no_receives s.under_way; held = λ b m. on b m (dec_lt b boards_most) }
    where
      on : (b m : ℕ) → Dec (b < boards_most) → in_row (buffer_of (run_of s) b).held (2 * m + 1) ≡ false
      on b m (yes l) = ap (λ (row : List ℕ). in_row row (2 * m + 1)) (held_of b l) ∙ no_receives (s.holds b) m
      on b m (no n) = ap (λ (row : List ℕ). in_row row (2 * m + 1)) (held_none b (omega arith)) ∙ nothing_held (2 * m + 1)

-- a row of messages without a bit of a receive is written from its messages
sends_back : (row : List ℕ) → IsRow row → ((m : ℕ) → in_row row (2 * m + 1) ≡ false) → row ≡ sends_row (λ m. in_row row (2 * m))
sends_back row typed none = row_back width (λ k. eqb (k % 2) 0 && in_row row (2 * (k / 2))) row typed.long typed.small (λ k l. bit k (ℕ_discrete (k % 2) 0))
  where
    bit : (k : ℕ) → Dec (k % 2 ≡ 0) → in_row row k ≡ (eqb (k % 2) 0 && in_row row (2 * (k / 2)))
    bit k (yes e) = let back : 2 * (k / 2) ≡ k = omega arith in rw (eq-eqb (k % 2) 0 e, back)
    bit k (no n) =
        let odd : 2 * (k / 2) + 1 ≡ k = omega arith in
        rw (ne_eqb (k % 2) 0 n) (subst (λ (j : ℕ). in_row row j ≡ false) odd (none (k / 2)))

buffers_back : (n b : ℕ) (holds : ℕ → ℕ → Bool) (bs : List Buffer) → length bs ≡ n
    → ((i : ℕ) → i < n → (get_or bs i (record { held = [] })).held ≡ sends_row (holds (b + i))) → bs ≡ buffers_from n b holds
unfolding buffers_from
buffers_back zero b holds [] e h = refl
buffers_back zero b holds (u ∷ bs) e h = absurd (omega arith)
buffers_back (suc n) b holds [] e h = absurd (omega arith)
buffers_back (suc n) b holds (u ∷ bs) e h =
    ap₂ (λ (row : List ℕ) (us : List Buffer). record { held = row } ∷ us) (h 0 (omega arith) ∙ ap (λ (k : ℕ). sends_row (holds k)) (add-zero b))
    (buffers_back n (suc b) holds bs (omega arith) (λ i l. let f : b + suc i ≡ suc b + i = omega arith in h (suc i) (omega arith) ∙ ap (λ (k : ℕ). sends_row (holds k)) f))

-- a run with no bits but those of its state is the run of that state
pub run_back : (run : Run) → Typed run → OnlySends run → run ≡ run_of (state_of run)
run_back run typed only = λ i. record { done = done i; way = sends_back run.way typed.way only.way i; buffers = buffers i }
  where
    done : run.done ≡ events_row (λ x. in_row run.done (number x))
    done = row_back width (λ k. in_row run.done (number (event k))) run.done typed.done.long typed.done.small (λ k l. ap (in_row run.done) (sym (number_event k)))

    buffers : run.buffers ≡ buffers_from boards_most 0 (λ b m. in_row (buffer_of run b).held (2 * m))
    buffers =
        buffers_back boards_most 0 (λ b m. in_row (buffer_of run b).held (2 * m)) run.buffers typed.each (λ b l.
        sends_back (buffer_of run b).held (typed.held b l) (only.held b)
        ∙ ap (λ (c : ℕ). sends_row (λ m. in_row (buffer_of run c).held (2 * m))) (sym (zero-add b)))
