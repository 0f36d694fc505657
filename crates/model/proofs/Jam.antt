-- A jam: on an eager channel a board that holds a message it cannot consume yet never moves again. Assumes nothing.
use Prim.Native.Nat.{ℕ, ◌<◌}
use native.Mathlib.Omega.{arith}
use mathlib.Core.Path.{◌≡◌, sym, ◌∙◌, ap, subst}
use mathlib.Core.Logic.{⊎_elim}
use mathlib.Core.Bool.{true, false}
use Rattle.model.specs.Order.{Event, send_of, receive_of, Scenario, board, board_of}
use Rattle.model.specs.Channel.{Channel}
use Rattle.model.proofs.Bounded.{which, not_both}
use Rattle.model.proofs.Causal.{Causal}
use Rattle.model.proofs.Phases.{done_at, bump, bump_other}
use Rattle.model.proofs.Rules.{Waits}
use Rattle.model.proofs.Invariants.{Inv, Moves, newly_is}

module _ (S : Scenario) (C : Causal S) (c : Channel) where
  -- message e lies in its board's buffer, and waits for the event x
  pub record Jammed (φ : ℕ → ℕ) (e : ℕ) (x : Event) : Type 0 where
    pub held : φ e ≡ 2
    pub waits : Waits S C φ (receive_of e) x

  module _ (φ : ℕ → ℕ) (I : Inv S C c φ) (eager : c.eager ≡ true) (e : ℕ) (x : Event) (J : Jammed φ e x) where
    pub jam_inside : e < S.count
    jam_inside = I.inside e (omega (arith, J.held))

    -- whatever moves, the jam stays
    pub jam_bump : (m : ℕ) → Moves S C c φ m → Jammed (bump φ m) e x
    unfolding board_of
    jam_bump m M =
        record {
          held = bump_other φ m e other ∙ J.held;
          waits = record { is_before = J.waits.is_before; on_board = J.waits.on_board; undone = ⊎_elim absurd_done (λ f. f) (which (done_at (bump φ m) x)) };
        }
      where
        other : e ≡ m → ⊥
        other i =
            let p : φ m ≡ 2 = sym (ap φ i) ∙ J.held in
            let W : Waits S C φ (receive_of m) x = subst (λ (k : ℕ). Waits S C φ (receive_of k) x) i J.waits in
            not_both (done_at φ x) ((M.consumed p).ready.earlier x W.is_before W.on_board) W.undone

        absurd_done : done_at (bump φ m) x ≡ true → done_at (bump φ m) x ≡ false
        absurd_done d =
            ⊎_elim
            (λ (s : (x ≡ send_of m) × (φ m ≡ 0)).
            let at : S.source m ≡ S.target e = subst (λ (y : Event). board S y ≡ S.target e) s.0 J.waits.on_board in
            absurd ((M.sent s.1).free eager e jam_inside (sym at) J.held))
            (λ (s : (x ≡ receive_of m) × (φ m ≡ 2)).
            let at : S.target m ≡ S.target e = subst (λ (y : Event). board S y ≡ S.target e) s.0 J.waits.on_board in
            absurd (other (I.one_held eager e m J.held s.1 (sym at))))
            (newly_is S C c φ I m M x J.waits.undone d)
