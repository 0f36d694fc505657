-- What the loop keeps that writes the messages: so many are told. Assumes nothing.
use Prim.Native.Nat.{ℕ, ◌+◌, ◌*◌, ◌<◌, ◌≤◌}
use native.Mathlib.Numerals.{add-one}
use native.Mathlib.Omega.{arith}
use mathlib.Core.Path.{◌≡◌, refl, sym, ◌∙◌, ap}
use mathlib.Core.List.{List, [], ◌∷◌, ◌++◌, append_assoc}
use lib.ListN.{length, get_or, set, drop, length-set, length-append}
use Rattle.model.specs.Limits.{messages_most, message_numbers_least}
use Rattle.model.specs.Order.{Scenario}
use Rattle.model.specs.Holdings.{messages_told}
use Rattle.model.proofs.Holdings.{told_length}
use Rattle.relation.specs.Scenario.{scenario_in}
use Rattle.message_lines.proofs.Next.{set_next}
use Rattle.sheet_messages.specs.Listing.{Told}

-- three stores, one after another
set_three : (front given : List ℕ) (n a b c : ℕ) → length front ≡ n → n + 2 < length given
    → set (set (set (front ++ drop n given) n a) (n + 1) b) (n + 2) c ≡ (front ++ (a ∷ b ∷ c ∷ [])) ++ drop (n + 3) given
set_three front given n a b c e h =
    let once : List ℕ = front ++ (a ∷ []) in
    let twice : List ℕ = once ++ (b ∷ []) in
    let long : length once ≡ n + 1 = length-append front (a ∷ []) ∙ ap (λ (k : ℕ). k + 1) e in
    let second : n + 1 + 1 ≡ n + 2 = omega arith in
    let third : n + 2 + 1 ≡ n + 3 = omega arith in
    let longer : length twice ≡ n + 2 = omega (arith, length-append once (b ∷ []), long) in
    ap (λ (l : List ℕ). set (set l (n + 1) b) (n + 2) c) (set_next front given n a e (omega arith))
    ∙ ap (λ (l : List ℕ). set l (n + 2) c) (set_next once given (n + 1) b long (omega arith))
    ∙ ap (λ (k : ℕ). set (twice ++ drop k given) (n + 2) c) second
    ∙ set_next twice given (n + 2) c longer h
    ∙ ap (λ (k : ℕ). (twice ++ (c ∷ [])) ++ drop k given) third
    ∙ ap (λ (l : List ℕ). l ++ drop (n + 3) given) (append_assoc once (b ∷ []) (c ∷ []) ∙ append_assoc front (a ∷ []) (b ∷ c ∷ []))

pub record Telling (lines boards output : List ℕ) (count m : ℕ) (now : List ℕ) : Type 0 where
  pub so_far : m ≤ count
  pub keeps : length now ≡ length output
  pub told : Told lines boards output m now

pub telling_start : (lines boards output : List ℕ) (count : ℕ) → Telling lines boards output count 0 output
unfolding messages_told
telling_start lines boards output count = record { so_far = omega arith; keeps = refl; told = record { told = λ k words. refl } }

module _ (lines boards output : List ℕ) (count m : ℕ) (now : List ℕ) (t : Telling lines boards output count m now) where
  module _ (more : m < count) (few : count ≤ messages_most) (long : message_numbers_least ≤ length output) where
    pub room : 3 * m + 2 < length now
    room = omega (arith, t.keeps)

    pub message_room : m < messages_most
    message_room = omega (arith, more)

    module _ (exit : List ℕ) (e : exit ≡ set (set (set now (3 * m) (get_or lines m 0)) (3 * m + 1) (get_or boards (2 * m) 0)) (3 * m + 2) (get_or boards (2 * m + 1) 0)) where
      next_told : (k : ℕ) (words : List ℕ) → exit ≡ messages_told (m + 1) lines (scenario_in k boards words) ++ drop (3 * (m + 1)) output
      unfolding messages_told
      next_told k words =
          let S : Scenario = scenario_in k boards words in
          let told : List ℕ = messages_told m lines S in
          let three : 3 * m + 3 ≡ 3 * (m + 1) = omega arith in
          e
          ∙ ap (λ (n : List ℕ). set (set (set n (3 * m) (get_or lines m 0)) (3 * m + 1) (get_or boards (2 * m) 0)) (3 * m + 2) (get_or boards (2 * m + 1) 0)) (t.told.told k words)
          ∙ set_three told output (3 * m) (get_or lines m 0) (get_or boards (2 * m) 0) (get_or boards (2 * m + 1) 0) (told_length lines S m) (omega (arith, t.so_far))
          ∙ ap (λ (n : ℕ). (told ++ (get_or lines m 0 ∷ get_or boards (2 * m) 0 ∷ get_or boards (2 * m + 1) 0 ∷ [])) ++ drop n output) three
          ∙ ap (λ (n : ℕ). messages_told n lines S ++ drop (3 * (m + 1)) output) (sym (add-one m))

      pub telling_next : Telling lines boards output count (m + 1) exit
      telling_next =
          record {
            so_far = omega (arith, more);
            keeps =
                ap length e
                ∙ length-set (set (set now (3 * m) (get_or lines m 0)) (3 * m + 1) (get_or boards (2 * m) 0)) (3 * m + 2) (get_or boards (2 * m + 1) 0)
                ∙ length-set (set now (3 * m) (get_or lines m 0)) (3 * m + 1) (get_or boards (2 * m) 0)
                ∙ length-set now (3 * m) (get_or lines m 0)
                ∙ t.keeps;
            told = record { told = next_told };
          }

  pub all_told : count ≤ m → Told lines boards output count now
  all_told h =
      let e : m ≡ count = omega (arith, t.so_far) in
      record { told = λ k words. t.told.told k words ∙ ap (λ (n : ℕ). messages_told n lines (scenario_in k boards words) ++ drop (3 * n) output) e }
