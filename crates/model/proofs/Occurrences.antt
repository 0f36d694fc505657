-- How often events occur in a list: over two lists, and over the messages below a bound. Assumes nothing.
use Prim.Native.Nat.{ℕ, zero, suc, ◌+◌, ◌*◌, ◌<◌, ◌≤◌}
use native.Mathlib.Nat.{le_step, lt-suc_self}
use native.Mathlib.Omega.{arith}
use mathlib.Core.Path.{◌≡◌, refl, fun_ext}
use mathlib.Core.Bool.{Bool, true, false, cond}
use mathlib.Core.List.{List, [], ◌∷◌, ◌++◌}
use borrow.Author.Tests.{eq-eqb}
use lib.Dec.{eqb}
use lib.ListN.{length}
use Rattle.model.specs.Order.{Event, send_of, receive_of, number, message_of}
use Rattle.model.specs.Wired.{occurrences}
use Rattle.model.proofs.Phases.{bump, same_sends, same_receives, send_no_receive, receive_no_send}
use Rattle.model.proofs.Rank.{rank, rank_bump, rank_zero}

pub occurrences_append : (x : Event) (es fs : List Event) → occurrences x (es ++ fs) ≡ occurrences x es + occurrences x fs
unfolding occurrences
occurrences_append x [] fs = omega arith
occurrences_append x (y ∷ es) fs = go (eqb (number x) (number y)) (occurrences_append x es fs)
  where
    go : (b : Bool) → occurrences x (es ++ fs) ≡ occurrences x es + occurrences x fs
        → cond b (suc (occurrences x (es ++ fs))) (occurrences x (es ++ fs)) ≡ cond b (suc (occurrences x es)) (occurrences x es) + occurrences x fs
    go true e = omega arith
    go false e = omega arith

-- an event occurs in a list that begins with it, and occurs there at least as often as behind its beginning
occurs_first : (x : Event) (es : List Event) → 1 ≤ occurrences x (x ∷ es)
unfolding occurrences
occurs_first x es = rw (eq-eqb (number x) (number x) refl) (omega arith)

occurs_behind : (x y : Event) (es : List Event) → occurrences x es ≤ occurrences x (y ∷ es)
unfolding occurrences
occurs_behind x y es = go (eqb (number x) (number y))
  where
    go : (b : Bool) → occurrences x es ≤ cond b (suc (occurrences x es)) (occurrences x es)
    go true = omega arith
    go false = omega arith

-- how often the two events of a message occur
unfoldable tally : List Event → ℕ → ℕ
tally es m = occurrences (send_of m) es + occurrences (receive_of m) es

-- an event more is one more of its message
tally_more : (y : Event) (es : List Event) → tally (y ∷ es) ≡ bump (tally es) (message_of y)
unfolding tally occurrences bump message_of
tally_more (send_of k) es = fun_ext (λ m. rw (same_sends m k, receive_no_send m k) (go (eqb m k) (occurrences (send_of m) es) (occurrences (receive_of m) es)))
  where
    go : (b : Bool) (i j : ℕ) → cond b (suc i) i + j ≡ cond b (suc (i + j)) (i + j)
    go true i j = omega arith
    go false i j = refl
tally_more (receive_of k) es = fun_ext (λ m. rw (send_no_receive m k, same_receives m k) (go (eqb m k) (occurrences (send_of m) es) (occurrences (receive_of m) es)))
  where
    go : (b : Bool) (i j : ℕ) → i + cond b (suc j) j ≡ cond b (suc (i + j)) (i + j)
    go true i j = omega arith
    go false i j = refl

-- so a list of events of messages below n is as long as their tallies together
tally_length : (n : ℕ) (es : List Event) → ((x : Event) → n ≤ message_of x → occurrences x es ≡ 0) → rank n (tally es) ≡ length es
unfolding tally occurrences
tally_length n [] none = rank_zero n
tally_length n (y ∷ es) none =
    let outside : n ≤ message_of y → ⊥ = λ l. omega (arith, occurs_first y es, none y l) in
    let more : rank n (bump (tally es) (message_of y)) ≡ suc (rank n (tally es)) = rank_bump n (tally es) (message_of y) (omega arith) in
    let rest : rank n (tally es) ≡ length es = tally_length n es (λ x l. omega (arith, occurs_behind x y es, none x l)) in
    rw tally_more (omega arith)

rank_of_twos : (n : ℕ) (φ : ℕ → ℕ) → ((m : ℕ) → m < n → φ m ≡ 2) → rank n φ ≡ 2 * n
unfolding rank
rank_of_twos zero φ h = refl
rank_of_twos (suc n) φ h = omega (arith, rank_of_twos n φ (λ m l. h m (le_step l)), h n (lt-suc_self n))

-- Where every event of the messages below n occurs once, and no other occurs, there are two a message.
pub two_a_message : (n : ℕ) (es : List Event) → ((x : Event) → message_of x < n → occurrences x es ≡ 1)
    → ((x : Event) → n ≤ message_of x → occurrences x es ≡ 0) → length es ≡ 2 * n
unfolding tally message_of
two_a_message n es once none =
    omega (arith, tally_length n es none, rank_of_twos n (tally es) (λ m l. omega (arith, once (send_of m) l, once (receive_of m) l)))
