-- The store's walk and the model's walk go together over every row, call and level: they end in one refusal, or the rows hold
-- exactly the order that was met. Assumes nothing.
use Prim.Native.Nat.{ℕ, zero, suc, ◌-◌, ◌*◌}
use native.Mathlib.Omega.{arith}
use mathlib.Core.Path.{◌≡◌, refl, sym, ◌∙◌, ap}
use mathlib.Core.Bool.{Bool, true, false, ◌&&◌}
use mathlib.Core.List.{List, [], ◌∷◌}
use lib.Dec.{leb, ltb}
use lib.ListN.{length, drop, length-drop}
use borrow.Author.Tests.{ltb-true}
use Rattle.model.specs.Limits.{messages_most, levels, calls_most}
use Rattle.model.specs.Refusal.{Out, ok, refusal, and_then, calls_refusal, messages_refusal, choices_refusal}
use Rattle.model.specs.Rows.{Row, sheet, message, order, block, call, choice}
use Rattle.model.specs.Place.{with_message, line_of}
use Rattle.model.specs.Expansion.{Walk, fresh_walk, Progress, start_of, taken, chosen_more, block_opened, call_made, message_met, order_met, walk_rows, call_at, expand}
use Rattle.model.specs.Order.{Met, nothing_met, met_ops}
use Rattle.model.proofs.Standing.{Fits, sheet_fits}
use Rattle.model.proofs.Walked.{Sound, Opened, OnOneBoard, message_parts, order_parts, sound_start, sound_message, opened_message, sound_order, opened_order, sound_block, opened_block, sound_call}
use Rattle.blocks.specs.Store.{Store, store_ops}
use Rattle.blocks.proofs.Sim.{Sim, Begins, sim_start}
use Rattle.blocks.proofs.SimMessage.{sim_message}
use Rattle.blocks.proofs.SimOrder.{sim_order, sim_block, sim_call}

abbrev pub met : Walk → Met → Progress Met
met w m = record { walk = w; kept = m }

abbrev pub stored : Walk → Store → Progress Store
stored w t = record { walk = w; kept = t }

-- both go on, and stand together; or both stop with one refusal
pub data Match : Out (Progress Met) → Out (Progress Store) → Type 0 where
  going : {w : Walk} {m : Met} {t : Store} → Sound (met w m) → Sim w m t → Match (ok (met w m)) (ok (stored w t))
  stopped : {number line : ℕ} → Match (refusal number line) (refusal number line)

match_then : {o : Out (Progress Met)} {o' : Out (Progress Store)} (f : Progress Met → Out (Progress Met)) (g : Progress Store → Out (Progress Store))
    → Match o o'
    → ((w : Walk) (m : Met) (t : Store) → Sound (met w m) → Sim w m t → Match (f (met w m)) (g (stored w t)))
    → Match (and_then o f) (and_then o' g)
unfolding and_then
match_then f g (going {w = w} {m = m} {t = t} h r) on = on w m t h r
match_then f g stopped on = stopped

-- two parts that call go together
abbrev CallsMatch : (Bool → ℕ → ℕ → Progress Met → Out (Progress Met)) → (Bool → ℕ → ℕ → Progress Store → Out (Progress Store)) → Type 0
CallsMatch c c' = (by_choice : Bool) (n line : ℕ) (w : Walk) (m : Met) (t : Store) → Sound (met w m) → Sim w m t
    → Match (c by_choice n line (met w m)) (c' by_choice n line (stored w t))

module _ (options : List Bool) (c : Bool → ℕ → ℕ → Progress Met → Out (Progress Met)) (c' : Bool → ℕ → ℕ → Progress Store → Out (Progress Store)) (calls : CallsMatch c c') where
  rows_match : (e : List ℕ) (rs : List Row) (line : ℕ) (w : Walk) (m : Met) (t : Store) → Fits e rs → Sound (met w m) → Opened (met w m) e → Sim w m t
      → Match (walk_rows met_ops options c rs line (met w m)) (walk_rows store_ops options c' rs line (stored w t))
  unfolding walk_rows message_met order_met block_opened
  rows_match e [] line w m t f h o r = going h r
  rows_match e (sheet n ∷ rs) line w m t f h o r = going h r
  rows_match e (message a b ∷ rs) line w m t f h o r =
      go (ltb w.count messages_most) refl
      (rows_match (with_message e a b) rs (suc line) (record { calls = w.calls; choices = w.choices; first = w.first; count = suc w.count })
      (met_ops.with_message w a b m) (store_ops.with_message w a b t) f.1)
    where
      go : (b' : Bool) → ltb w.count messages_most ≡ b'
          → (Sound (message_met met_ops a b (met w m)) → Opened (message_met met_ops a b (met w m)) (with_message e a b)
          → Sim (record { calls = w.calls; choices = w.choices; first = w.first; count = suc w.count }) (met_ops.with_message w a b m) (store_ops.with_message w a b t)
          → Match (walk_rows met_ops options c rs (suc line) (message_met met_ops a b (met w m))) (walk_rows store_ops options c' rs (suc line) (message_met store_ops a b (stored w t))))
          → Match
          (elim b' [ true ↦ walk_rows met_ops options c rs (suc line) (message_met met_ops a b (met w m)) | false ↦ refusal messages_refusal line ])
          (elim b' [ true ↦ walk_rows store_ops options c' rs (suc line) (message_met store_ops a b (stored w t)) | false ↦ refusal messages_refusal line ])
      go true l on =
          let p = message_parts e a b f.0 in
          let room = ltb-true w.count messages_most l in
          on (sound_message (met w m) a b h p.0 p.1 room) (opened_message (met w m) a b h e o) (sim_message w m t h r a b p.0 p.1 room)
      go false l on = stopped
  rows_match e (order x y ∷ rs) line w m t f h o r =
      let p : OnOneBoard e x y = order_parts e x y f.0 in
      let long : length e ≡ 2 * w.count - 2 * w.first = sym (ap length o) ∙ length-drop (2 * w.first) m.events ∙ ap (λ (k : ℕ). k - 2 * w.first) h.events_length in
      rows_match e rs (suc line) w (met_ops.with_order w x y m) (store_ops.with_order w x y t) f.1
      (sound_order (met w m) x y e h o p) (opened_order (met w m) x y e o)
      (sim_order w m t h r x y (omega (arith, p.first_there)) (omega (arith, p.second_there)))
  rows_match e (block ∷ rs) line w m t f h o r =
      rows_match [] rs (suc line) (record { calls = w.calls; choices = w.choices; first = w.count; count = w.count }) (met_ops.with_block w m) (store_ops.with_block w t) f
      (sound_block (met w m) h) (opened_block (met w m) h) (sim_block w m t h r)
  rows_match e (call n ∷ rs) line w m t f h o r =
      match_then (λ s. walk_rows met_ops options c rs (suc line) (block_opened met_ops s)) (λ s. walk_rows store_ops options c' rs (suc line) (block_opened store_ops s))
      (calls false n line w m t h r)
      (λ w₁ m₁ t₁ h₁ r₁. rows_match [] rs (suc line) (record { calls = w₁.calls; choices = w₁.choices; first = w₁.count; count = w₁.count }) (met_ops.with_block w₁ m₁) (store_ops.with_block w₁ t₁) f
      (sound_block (met w₁ m₁) h₁) (opened_block (met w₁ m₁) h₁) (sim_block w₁ m₁ t₁ h₁ r₁))
  rows_match e (choice j n ∷ rs) line w m t f h o r =
      match_then (λ s. walk_rows met_ops options c rs (suc line) (block_opened met_ops s)) (λ s. walk_rows store_ops options c' rs (suc line) (block_opened store_ops s))
      (calls true (taken options w.choices j n) line w m t h r)
      (λ w₁ m₁ t₁ h₁ r₁. rows_match [] rs (suc line) (record { calls = w₁.calls; choices = w₁.choices; first = w₁.count; count = w₁.count }) (met_ops.with_block w₁ m₁) (store_ops.with_block w₁ t₁) f
      (sound_block (met w₁ m₁) h₁) (opened_block (met w₁ m₁) h₁) (sim_block w₁ m₁ t₁ h₁ r₁))

module _ (options : List Bool) (file : List Row) (fits : Fits [] file) where
  call_match : (left : ℕ) → CallsMatch (call_at met_ops options left file) (call_at store_ops options left file)
  unfolding call_at block_opened call_made
  call_match zero by_choice n line w m t h r = stopped
  call_match (suc left) by_choice n line w m t h r =
      go (ltb w.calls calls_most) refl (by_choice && leb (length options) w.choices) (call_match left)
    where
      go : (b : Bool) → ltb w.calls calls_most ≡ b → (d : Bool) → CallsMatch (call_at met_ops options left file) (call_at store_ops options left file)
          → Match
          (elim b [
            | true ↦ elim d [
              | true ↦ refusal choices_refusal line
              | false ↦ walk_rows met_ops options (call_at met_ops options left file) (drop (start_of n file) file) (line_of (start_of n file)) (block_opened met_ops (call_made met_ops by_choice (met w m)))
            ]
            | false ↦ refusal calls_refusal line
          ])
          (elim b [
            | true ↦ elim d [
              | true ↦ refusal choices_refusal line
              | false ↦ walk_rows store_ops options (call_at store_ops options left file) (drop (start_of n file) file) (line_of (start_of n file)) (block_opened store_ops (call_made store_ops by_choice (stored w t)))
            ]
            | false ↦ refusal calls_refusal line
          ])
      go false l d calls = stopped
      go true l true calls = stopped
      go true l false calls =
          let w₁ : Walk = record { calls = suc w.calls; choices = chosen_more by_choice w.choices; first = w.first; count = w.count } in
          let h₁ : Sound (met w₁ m) = sound_call by_choice (met w m) h (ltb-true w.calls calls_most l) in
          rows_match options (call_at met_ops options left file) (call_at store_ops options left file) calls [] (drop (start_of n file) file) (line_of (start_of n file))
          (record { calls = w₁.calls; choices = w₁.choices; first = w₁.count; count = w₁.count }) (met_ops.with_block w₁ m) (store_ops.with_block w₁ t)
          (sheet_fits n [] file fits) (sound_block (met w₁ m) h₁) (opened_block (met w₁ m) h₁) (sim_block w₁ m t h₁ (sim_call w m t h r by_choice))

  -- sheet 0, walked by both from where they stand together
  walk_match : (w : Walk) (m : Met) (t : Store) → Sound (met w m) → Opened (met w m) [] → Sim w m t
      → Match (walk_rows met_ops options (call_at met_ops options levels file) (drop (start_of 0 file) file) (line_of (start_of 0 file)) (met w m))
      (walk_rows store_ops options (call_at store_ops options levels file) (drop (start_of 0 file) file) (line_of (start_of 0 file)) (stored w t))
  walk_match w m t =
      rows_match options (call_at met_ops options levels file) (call_at store_ops options levels file) (call_match levels) [] (drop (start_of 0 file) file) (line_of (start_of 0 file))
      w m t (sheet_fits 0 [] file fits)

  pub expand_match : (t : Store) → Begins t → Match (expand met_ops options file nothing_met) (expand store_ops options file t)
  unfolding expand
  expand_match t z = walk_match fresh_walk nothing_met t sound_start refl (sim_start t z)

  -- and once more, with a new block
  pub again_match : (w : Walk) (m : Met) (t : Store) → Sound (met w m) → Sim w m t
      → Match (walk_rows met_ops options (call_at met_ops options levels file) (drop (start_of 0 file) file) (line_of (start_of 0 file)) (block_opened met_ops (met w m)))
      (walk_rows store_ops options (call_at store_ops options levels file) (drop (start_of 0 file) file) (line_of (start_of 0 file)) (block_opened store_ops (stored w t)))
  unfolding block_opened
  again_match w m t h r =
      walk_match (record { calls = w.calls; choices = w.choices; first = w.count; count = w.count }) (met_ops.with_block w m) (store_ops.with_block w t)
      (sound_block (met w m) h) (opened_block (met w m) h) (sim_block w m t h r)
