-- What a channel's rules and its races' rule have to do with each other, for each of the six codes. Assumes nothing.
use Prim.Native.Nat.{ℕ, zero, suc, ◌<◌}
use native.Mathlib.Omega.{arith}
use mathlib.Core.Path.{◌≡◌, refl}
use mathlib.Core.Bool.{true, false}
use Rattle.model.specs.Limits.{channels}
use Rattle.model.specs.Order.{send_of, Scenario}
use Rattle.model.specs.Channel.{Channel, ToSend, ToDeliver, channel_empty, alone, channel_of}
use Rattle.model.specs.Race.{RaceRule, by_event, by_origin, never, race_rule_of}
use Rattle.model.proofs.Bounded.{not_both}
use Rattle.model.proofs.Causal.{Causal}
use Rattle.model.proofs.Invariants.{Inv}

module _ (S : Scenario) (C : Causal S) where
  pub record Suited (c : Channel) (r : RaceRule) : Type 0 where
    -- just the eager channels have races
    pub lazy : c.eager ≡ false → r ≡ never
    pub eager : c.eager ≡ true → r ≡ never → ⊥
    -- races by the event itself are those of a channel with no further conditions
    pub plain : r ≡ by_event → (c.to_send ≡ ToSend.always) × (c.to_deliver ≡ ToDeliver.always)
    -- where races go by origin, a message held has none under way to its board that was sent before it
    pub settled : r ≡ by_origin → (φ : ℕ → ℕ) → Inv S C c φ → (e g : ℕ) → φ e ≡ 2 → S.target g ≡ S.target e
        → S.before (send_of g) (send_of e) ≡ true → φ g ≡ 1 → ⊥
    -- deliveries are made alone just where sends wait for an empty channel
    pub ring : c.to_deliver ≡ alone → c.to_send ≡ channel_empty

  -- a channel with no races is lazy
  without_races : (c : Channel) → c.eager ≡ false → (c.to_deliver ≡ alone → c.to_send ≡ channel_empty) → Suited c never
  without_races c f ring =
      record {
        lazy = λ e. refl;
        eager = λ e n. not_both c.eager e f;
        plain = λ e. (let z : ◌≡◌ {A = ℕ} 0 1 = cc in absurd (omega arith));
        settled = λ e. (let z : ◌≡◌ {A = ℕ} 0 1 = cc in absurd (omega arith));
        ring = ring;
      }

  -- an eager one whose races go by origin keeps its messages in order
  by_origin_holds : (c : Channel) → c.eager ≡ true → (c.to_deliver ≡ alone → c.to_send ≡ channel_empty)
      → ((φ : ℕ → ℕ) → Inv S C c φ → (e g : ℕ) → φ e ≡ 2 → S.target g ≡ S.target e → S.before (send_of g) (send_of e) ≡ true → φ g ≡ 1 → ⊥)
      → Suited c by_origin
  by_origin_holds c t ring settled =
      record {
        lazy = λ f. not_both c.eager t f;
        eager = λ e n. (let z : ◌≡◌ {A = ℕ} 0 1 = cc in omega arith);
        plain = λ e. (let z : ◌≡◌ {A = ℕ} 0 1 = cc in absurd (omega arith));
        settled = λ e. settled;
        ring = ring;
      }

  pub suited : (code : ℕ) → code < channels → Suited (channel_of code) (race_rule_of code)
  suited zero l =
      record {
        lazy = λ f. not_both true refl f;
        eager = λ e n. (let z : ◌≡◌ {A = ℕ} 0 1 = cc in omega arith);
        plain = λ e. (refl, refl);
        settled = λ e. (let z : ◌≡◌ {A = ℕ} 0 1 = cc in absurd (omega arith));
        ring = λ e. (let z : ◌≡◌ {A = ℕ} 0 1 = cc in absurd (omega arith));
      }
  suited (suc zero) l = without_races (channel_of 1) refl (λ e. (let z : ◌≡◌ {A = ℕ} 0 1 = cc in absurd (omega arith)))
  suited (suc (suc zero)) l =
      by_origin_holds (channel_of 2) refl (λ e. (let z : ◌≡◌ {A = ℕ} 0 1 = cc in absurd (omega arith)))
      (λ φ I e g h t b p. I.delivers e g (omega arith) t b p)
  suited (suc (suc (suc zero))) l = without_races (channel_of 3) refl (λ e. (let z : ◌≡◌ {A = ℕ} 0 1 = cc in absurd (omega arith)))
  suited (suc (suc (suc (suc zero)))) l =
      by_origin_holds (channel_of 4) refl (λ e. (let z : ◌≡◌ {A = ℕ} 0 1 = cc in absurd (omega arith)))
      (λ φ I e g h t b p. I.sends e g (omega arith) b p)
  suited (suc (suc (suc (suc (suc zero))))) l =
      by_origin_holds (channel_of 5) refl (λ e. refl) (λ φ I e g h t b p. I.sends.0 e g (omega arith) b p)
  suited (suc (suc (suc (suc (suc (suc code)))))) l = absurd (omega arith)
