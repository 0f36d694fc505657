-- The places looked at one after the other: the free ones are cleared. Assumes nothing.
use mathlib.Core.Path.{◌≡◌, refl, sym, ◌∙◌, ap}
use mathlib.Core.Bool.{Bool, true, false}
use mathlib.Core.List.{List, [], ◌++◌, append-nil}
use Prim.Native.Nat.{ℕ, ◌+◌, ◌-◌, ◌<◌, ◌≤◌}
use native.Mathlib.Decide.{ℕ_discrete}
use native.Mathlib.Omega.{arith}
use borrow.Author.Tests.{not-true, not-false}
use lib.ListN.{length, drop, replicate, length-replicate, drop_of_length-le}
use borrow.Rule.Slice.PartMut.{mid_of, put_mid, mid_len}
use Rattle.model.specs.Limits.{scratch_least, jobs_most, job_words_least}
use Rattle.model.specs.Bounded.{among}
use Rattle.model.specs.Dispatcher.{Job, places_of, place_words}
use Rattle.model.proofs.Bounded.{not_both}
use Rattle.relation.specs.Rows.{has, cleared}
use Rattle.queue.specs.Bridge.{PlacesOf}
use Rattle.places.specs.Words.{FreeCleared, ClearedBut, Put}
use Rattle.places.proofs.Parts.{from, to, span, part_put}

-- of the places below `place` the free ones are cleared
pub record Clearing (taken : ℕ) (words : List ℕ) (place : ℕ) (behind : List ℕ) : Type 0 where
  pub within : place ≤ jobs_most
  pub kept : length behind ≡ length words
  pub rest : drop job_words_least behind ≡ drop job_words_least words
  pub free : (p : ℕ) → p < place → has taken p ≡ false → place_words p behind ≡ replicate scratch_least 0
  pub held : (p : ℕ) → p < jobs_most → has taken p ≡ true → place_words p behind ≡ place_words p words

module _ (taken : ℕ) (words : List ℕ) where
  pub clearing_none : Clearing taken words 0 words
  clearing_none =
      record { within = omega arith; kept = refl; rest = refl; free = λ p h t. absurd (omega arith); held = λ p h t. refl }

  module _ (place : ℕ) (l : place < jobs_most) (behind : List ℕ) (c : Clearing taken words place behind) (r : Bool) (e : r ≡ has taken place) where
    pub clearing_kept : (exit : List ℕ) → exit ≡ behind → r ≡ true → Clearing taken words (place + 1) exit
    clearing_kept exit same f =
        rw same (record { within = omega arith; kept = c.kept; rest = c.rest; free = λ p h t. go p h t (ℕ_discrete p place); held = c.held })
      where
        go : (p : ℕ) → p < place + 1 → has taken p ≡ false → Dec (p ≡ place) → place_words p behind ≡ replicate scratch_least 0
        go p h t (yes i) = not_both (has taken place) (sym e ∙ f) (ap (has taken) (sym i) ∙ t)
        go p h t (no n) = c.free p (omega arith) t

    -- the words of a free place put back as zeros
    clearing_put : r ≡ false → (exit : List ℕ) → Put place (replicate scratch_least 0) behind exit → Clearing taken words (place + 1) exit
    clearing_put t exit P =
        record {
          within = omega arith;
          kept = P.kept ∙ c.kept;
          rest = P.rest ∙ c.rest;
          free = λ p h u. go p h u (ℕ_discrete p place);
          held = λ p h f. P.others p h (λ i. not_both (has taken place) (ap (has taken) (sym i) ∙ f) (sym e ∙ t)) ∙ c.held p h f;
        }
      where
        go : (p : ℕ) → p < place + 1 → has taken p ≡ false → Dec (p ≡ place) → place_words p exit ≡ replicate scratch_least 0
        go p h u (yes i) = ap (λ k. place_words k exit) i ∙ P.here
        go p h u (no n) = P.others p (omega arith) n ∙ c.free p (omega arith) u

    pub clearing_cleared : (exit ys : List ℕ) → exit ≡ put_mid (from place) (to place - from place) behind ys
        → ys ≡ cleared scratch_least (mid_of (from place) (to place - from place) behind) → job_words_least ≤ length words → r ≡ false
        → Clearing taken words (place + 1) exit
    unfolding cleared
    clearing_cleared exit ys at i long t =
        let mid = mid_of (from place) (to place - from place) behind in
        let part : length mid ≡ scratch_least = mid_len (from place) (to place) behind (omega (arith, c.kept)) ∙ span place in
        let none : drop scratch_least mid ≡ [] = drop_of_length-le mid {i = scratch_least} (omega arith) in
        let zeros : ys ≡ replicate scratch_least 0 = i ∙ ap (λ s. replicate scratch_least 0 ++ s) none ∙ append-nil (replicate scratch_least 0) in
        clearing_put t exit
        (rw (at, zeros) (part_put behind (omega (arith, c.kept)) place l (replicate scratch_least 0) (length-replicate {A = ℕ} scratch_least 0)))

  pub clearing_all : (place : ℕ) (behind : List ℕ) → Clearing taken words place behind → jobs_most ≤ place → ClearedBut taken words behind
  clearing_all place behind c l = record { cleared = λ js P. all js P }
    where
      all : (js : List Job) → PlacesOf js taken → FreeCleared js words behind
      all js P =
          record {
            kept = c.kept;
            rest = c.rest;
            free = λ p h t. c.free p (omega (arith, c.within)) (P.bit p h ∙ not-true (among p (places_of js)) t);
            held = λ p h f. c.held p h (P.bit p h ∙ not-false (among p (places_of js)) f);
          }
