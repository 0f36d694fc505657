-- The walk made twice: the second goes as the first, its messages, blocks and P rows numbered on. Assumes nothing.
use Prim.Native.Nat.{ℕ, zero, suc, ◌+◌, ◌*◌}
use native.Mathlib.Nat.{add-zero}
use native.Mathlib.Omega.{arith}
use mathlib.Core.Path.{◌≡◌, refl, sym, ◌∙◌, ap, ap₂, subst}
use mathlib.Core.Bool.{Bool, true, false, ◌&&◌}
use mathlib.Core.List.{List, [], ◌∷◌, ◌++◌, map, append_assoc, append-nil}
use lib.Dec.{leb, ltb}
use lib.ListN.{drop}
use borrow.Author.Tests.{ltb-true, ltb-false, le-leb}
use Rattle.model.specs.Limits.{messages_most, levels, calls_most}
use Rattle.model.specs.Refusal.{Out, ok, refusal, and_then, calls_refusal, messages_refusal, choices_refusal}
use Rattle.model.specs.Rows.{Row, sheet, message, order, block, call, choice}
use Rattle.model.specs.Place.{line_of}
use Rattle.model.specs.Expansion.{fresh_walk, Progress, start_of, block_opened, taken, call_made, message_met, order_met, walk_rows, call_at, expand}
use Rattle.model.specs.Order.{Met, nothing_met, met_ops}
use Rattle.model.specs.Rounds.{walked_again}
use Rattle.model.proofs.Bounded.{not_both}

map_append : {A : Type 0} (f : A → A) (xs ys : List A) → map f (xs ++ ys) ≡ map f xs ++ map f ys
map_append f [] ys = refl
map_append f (x ∷ xs) ys = ap (λ l. f x ∷ l) (map_append f xs ys)

-- s: where the first walk ended
module _ (s : Progress Met) where
  -- a block and a P row of the second walk
  abbrev pub later_block : ℕ → ℕ
  later_block b = suc s.kept.open' + b

  abbrev pub later_order : ℕ × ℕ → ℕ × ℕ
  later_order o = (2 * s.walk.count + o.0, 2 * s.walk.count + o.1)

  -- the second walk stands at q where the first stood at p
  pub record Later (p q : Progress Met) : Type 0 where
    pub calls : q.walk.calls ≡ s.walk.calls + p.walk.calls
    pub first : q.walk.first ≡ s.walk.count + p.walk.first
    pub count : q.walk.count ≡ s.walk.count + p.walk.count
    pub events : q.kept.events ≡ s.kept.events ++ p.kept.events
    pub blocks : q.kept.blocks ≡ s.kept.blocks ++ map later_block p.kept.blocks
    pub orders : q.kept.orders ≡ map later_order p.kept.orders ++ s.kept.orders
    pub opened : q.kept.open' ≡ later_block p.kept.open'

  -- what is met by both, or refused to the second; what is refused to the first is refused to the second
  abbrev pub Both : Out (Progress Met) → Out (Progress Met) → Type 0
  Both (ok p) (ok q) = Later p q
  Both (ok p) (refusal number line) = Unit {0}
  Both (refusal number line) (ok q) = ⊥
  Both (refusal number line) (refusal number' line') = Unit {0}

  both_then : (o o' : Out (Progress Met)) (f g : Progress Met → Out (Progress Met)) → Both o o' → ((p q : Progress Met) → Later p q → Both (f p) (g q))
      → Both (and_then o f) (and_then o' g)
  unfolding and_then
  both_then (ok p) (ok q) f g h k = k p q h
  both_then (ok p) (refusal number line) f g h k = refused (f p)
    where
      refused : (o : Out (Progress Met)) → Both o (refusal number line)
      refused (ok p) = tt
      refused (refusal n l) = tt
  both_then (refusal number line) (ok q) f g h k = absurd h
  both_then (refusal number line) (refusal number' line') f g h k = tt

  later_block_holds : (p q : Progress Met) → Later p q → Later (block_opened met_ops p) (block_opened met_ops q)
  unfolding block_opened met_ops
  later_block_holds p q h =
      record {
        calls = h.calls;
        first = h.count;
        count = h.count;
        events = h.events;
        blocks = h.blocks;
        orders = h.orders;
        opened = let e = h.opened in omega arith;
      }

  later_call : (by_choice : Bool) (p q : Progress Met) → Later p q → Later (call_made met_ops by_choice p) (call_made met_ops by_choice q)
  unfolding call_made
  later_call by_choice p q h =
      record {
        calls = let e = h.calls in omega arith;
        first = h.first;
        count = h.count;
        events = h.events;
        blocks = h.blocks;
        orders = h.orders;
        opened = h.opened;
      }

  later_message : (a b : ℕ) (p q : Progress Met) → Later p q → Later (message_met met_ops a b p) (message_met met_ops a b q)
  unfolding message_met met_ops
  later_message a b p q h =
      record {
        calls = h.calls;
        first = h.first;
        count = let e = h.count in omega arith;
        events = ap (λ (l : List ℕ). l ++ (a ∷ b ∷ [])) h.events ∙ append_assoc s.kept.events p.kept.events (a ∷ b ∷ []);
        blocks = ap₂ (λ (l : List ℕ) (o : ℕ). l ++ (o ∷ [])) h.blocks h.opened
            ∙ append_assoc s.kept.blocks (map later_block p.kept.blocks) (later_block p.kept.open' ∷ [])
            ∙ ap (λ (l : List ℕ). s.kept.blocks ++ l) (sym (map_append later_block p.kept.blocks (p.kept.open' ∷ [])));
        orders = h.orders;
        opened = h.opened;
      }

  later_order_holds : (x y : ℕ) (p q : Progress Met) → Later p q → Later (order_met met_ops x y p) (order_met met_ops x y q)
  unfolding order_met met_ops
  later_order_holds x y p q h =
      let f = h.first in
      let at : (k : ℕ) → 2 * q.walk.first + k ≡ 2 * s.walk.count + (2 * p.walk.first + k) = λ k. omega arith in
      record {
        calls = h.calls;
        first = h.first;
        count = h.count;
        events = h.events;
        blocks = h.blocks;
        orders = ap₂ (λ (o : ℕ × ℕ) (os : List (ℕ × ℕ)). o ∷ os) (λ i. (at x i, at y i)) h.orders;
        opened = h.opened;
      }

  -- a limit that the first walk passes, the second passes too
  passed : (m a b most : ℕ) → b ≡ m + a → ltb a most ≡ false → ltb b most ≡ true → ⊥
  passed m a b most e f t = let l = ltb-false a most f in let h = ltb-true b most t in omega arith

  module _ (C : Bool → ℕ → ℕ → Progress Met → Out (Progress Met))
      (calls : (by_choice : Bool) (n n' line : ℕ) (p q : Progress Met) → (by_choice ≡ false → n ≡ n') → Later p q → Both (C by_choice n line p) (C by_choice n' line q)) where
    rows_later : (rs : List Row) (line : ℕ) (p q : Progress Met) → Later p q → Both (walk_rows met_ops [] C rs line p) (walk_rows met_ops [] C rs line q)
    unfolding walk_rows
    rows_later [] line p q h = h
    rows_later (sheet n ∷ rs) line p q h = h
    rows_later (message a b ∷ rs) line p q h =
        room (ltb p.walk.count messages_most) refl (ltb q.walk.count messages_most) refl
        (rows_later rs (suc line) (message_met met_ops a b p) (message_met met_ops a b q) (later_message a b p q h))
      where
        next : Progress Met → Out (Progress Met)
        next t = walk_rows met_ops [] C rs (suc line) (message_met met_ops a b t)

        refused : (o : Out (Progress Met)) → Both o (refusal messages_refusal line)
        refused (ok p) = tt
        refused (refusal n l) = tt

        room : (c : Bool) → ltb p.walk.count messages_most ≡ c → (d : Bool) → ltb q.walk.count messages_most ≡ d → Both (next p) (next q)
            → Both (elim c [ true ↦ next p | false ↦ refusal messages_refusal line ]) (elim d [ true ↦ next q | false ↦ refusal messages_refusal line ])
        room true e true g k = k
        room true e false g k = refused (next p)
        room false e true g k = absurd (passed s.walk.count p.walk.count q.walk.count messages_most h.count e g)
        room false e false g k = tt
    rows_later (order x y ∷ rs) line p q h = rows_later rs (suc line) (order_met met_ops x y p) (order_met met_ops x y q) (later_order_holds x y p q h)
    rows_later (block ∷ rs) line p q h = rows_later rs (suc line) (block_opened met_ops p) (block_opened met_ops q) (later_block_holds p q h)
    rows_later (call n ∷ rs) line p q h =
        both_then (C false n line p) (C false n line q) (λ t. walk_rows met_ops [] C rs (suc line) (block_opened met_ops t)) (λ t. walk_rows met_ops [] C rs (suc line) (block_opened met_ops t))
        (calls false n n line p q (λ e. refl) h) (λ t u k. rows_later rs (suc line) (block_opened met_ops t) (block_opened met_ops u) (later_block_holds t u k))
    rows_later (choice m n ∷ rs) line p q h =
        both_then (C true (taken [] p.walk.choices m n) line p) (C true (taken [] q.walk.choices m n) line q)
        (λ t. walk_rows met_ops [] C rs (suc line) (block_opened met_ops t)) (λ t. walk_rows met_ops [] C rs (suc line) (block_opened met_ops t))
        (calls true (taken [] p.walk.choices m n) (taken [] q.walk.choices m n) line p q (λ e. absurd (differ e)) h)
        (λ t u k. rows_later rs (suc line) (block_opened met_ops t) (block_opened met_ops u) (later_block_holds t u k))
      where
        differ : true ≡ false → ⊥
        differ e = let z : ◌≡◌ {A = ℕ} 0 1 = cc in omega arith

  module _ (file : List Row) where
    body : ℕ → Bool → ℕ → Progress Met → Out (Progress Met)
    body left by_choice n p =
        walk_rows met_ops [] (call_at met_ops [] left file) (drop (start_of n file) file) (line_of (start_of n file)) (block_opened met_ops (call_made met_ops by_choice p))

    calls_later : (left : ℕ) (by_choice : Bool) (n n' line : ℕ) (p q : Progress Met) → (by_choice ≡ false → n ≡ n') → Later p q
        → Both (call_at met_ops [] left file by_choice n line p) (call_at met_ops [] left file by_choice n' line q)
    unfolding call_at body
    calls_later zero by_choice n n' line p q same h = tt
    calls_later (suc left) true n n' line p q same h =
        room (ltb p.walk.calls calls_most) (ltb q.walk.calls calls_most) (leb 0 p.walk.choices) (leb 0 q.walk.choices)
        (le-leb 0 p.walk.choices (omega arith)) (le-leb 0 q.walk.choices (omega arith))
      where
        room : (c d a b : Bool) → a ≡ true → b ≡ true
            → Both (elim c [ true ↦ elim (true && a) [ true ↦ refusal choices_refusal line | false ↦ body left true n p ] | false ↦ refusal calls_refusal line ])
            (elim d [ true ↦ elim (true && b) [ true ↦ refusal choices_refusal line | false ↦ body left true n' q ] | false ↦ refusal calls_refusal line ])
        room true true true true e f = tt
        room true false true true e f = tt
        room false true true true e f = tt
        room false false true true e f = tt
        room c d false b e f = not_both false e refl
        room c d true false e f = not_both false f refl
    calls_later (suc left) false n n' line p q same h =
        room (ltb p.walk.calls calls_most) refl (ltb q.walk.calls calls_most) refl
        (subst (λ (k : ℕ). Both (body left false n p) (body left false k q)) (same refl)
        (rows_later (call_at met_ops [] left file) (calls_later left) (drop (start_of n file) file) (line_of (start_of n file))
        (block_opened met_ops (call_made met_ops false p)) (block_opened met_ops (call_made met_ops false q))
        (later_block_holds (call_made met_ops false p) (call_made met_ops false q) (later_call false p q h))))
      where
        refused : (o : Out (Progress Met)) → Both o (refusal calls_refusal line)
        refused (ok p) = tt
        refused (refusal number l) = tt

        room : (c : Bool) → ltb p.walk.calls calls_most ≡ c → (d : Bool) → ltb q.walk.calls calls_most ≡ d → Both (body left false n p) (body left false n' q)
            → Both (elim c [ true ↦ body left false n p | false ↦ refusal calls_refusal line ]) (elim d [ true ↦ body left false n' q | false ↦ refusal calls_refusal line ])
        room true e true g k = k
        room true e false g k = refused (body left false n p)
        room false e true g k = absurd (passed s.walk.calls p.walk.calls q.walk.calls calls_most h.calls e g)
        room false e false g k = tt

    -- the second walk as a whole
    later_start : Later (record { walk = fresh_walk; kept = nothing_met }) (block_opened met_ops s)
    unfolding block_opened met_ops
    later_start =
        record {
          calls = sym (add-zero s.walk.calls);
          first = sym (add-zero s.walk.count);
          count = sym (add-zero s.walk.count);
          events = sym (append-nil s.kept.events);
          blocks = sym (append-nil s.kept.blocks);
          orders = refl;
          opened = sym (add-zero (suc s.kept.open'));
        }

    pub walk_later : (t : Progress Met) → expand met_ops [] file nothing_met ≡ ok s → walked_again file s ≡ ok t → Later s t
    unfolding expand walked_again
    walk_later t e f =
        subst (λ o. Both o (ok t)) e
        (subst (λ o. Both (expand met_ops [] file nothing_met) o) f
        (rows_later (call_at met_ops [] levels file) (calls_later levels) (drop (start_of 0 file) file) (line_of (start_of 0 file))
        (record { walk = fresh_walk; kept = nothing_met }) (block_opened met_ops s) later_start))
