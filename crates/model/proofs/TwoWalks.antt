-- The walk made twice meets two rounds of what the walk made once meets: the same messages, boards and "before". Assumes nothing.
use Prim.Native.Nat.{ℕ, zero, suc, ◌+◌, ◌-◌, ◌*◌, ◌%◌, ◌<◌, ◌≤◌}
use native.Mathlib.Nat.{zero-mul, one-mul, suc-mul, mul-le-mul_right, mod-eq_of_lt}
use native.Mathlib.Omega.{arith}
use native.Mathlib.Decide.{dec_lt}
use mathlib.Core.Path.{◌≡◌, refl, sym, ◌∙◌, ap, subst, subst⁻¹, fun_ext}
use mathlib.Core.Logic.{◌↔◌, ◌⊎◌, inl, inr, ⊎_elim}
use mathlib.Core.Bool.{true, false, ◌&&◌}
use mathlib.Core.List.{List, [], ◌∷◌, ◌++◌, map}
use borrow.Author.Tests.{lt-ltb, le-ltb, eq-eqb, eqb-true}
use lib.Arith.{digits_mod}
use lib.Dec.{eqb}
use lib.ListN.{length, get_or, length-append, get_or-append, get_or-eq_default}
use lib.Seq.{get_or-append-add}
use Rattle.model.specs.Closure.{listed}
use Rattle.model.specs.Expansion.{Progress}
use Rattle.model.specs.Order.{Event, send_of, receive_of, number, event, message_of, Exchange, board_of, is_own, is_earlier, Before, row, own, earlier, link, scenario_of, Met, exchange_of}
use Rattle.model.specs.Rounds.{round_of, in_round, blocks_of, stands_for, rounds, scenario_in}
use Rattle.model.proofs.Bounded.{and_left, and_right, or_cases, or_left, or_right, not_both, both_ways, apart}
use Rattle.model.proofs.Events.{number_event, number_injective, below_number, below_event}
use Rattle.model.proofs.Order.{board_in, RowsInside, earlier_parts, before_exact}
use Rattle.model.proofs.Walked.{Sound}
use Rattle.model.proofs.Accepted.{rows_inside}
use Rattle.model.proofs.Rounds as rounding
use Rattle.model.proofs.Rounds.{is_earlier_holds, at, at_message, at_round, at_in, in_at, zero_at, round_below, row_of, in_inside, lift_row, in_block, few_blocks}
use Rattle.model.proofs.Twice.{later_block, later_order, Later}

-- two numbers of two digits: by the first digit, then the second
lex : (most r b s c : ℕ) → b < most → c < most → (r * most + b < s * most + c) ↔ ((r < s) ⊎ ((r ≡ s) × (b < c)))
lex most r b s c l m = (
  (λ h.
      ⊎_elim (λ (e : r ≡ s). inr (e, (let f : r * most ≡ s * most = ap (λ (k : ℕ). k * most) e in omega arith)))
      (⊎_elim (λ (g : r < s). inl g)
      (λ (g : s < r). let f : suc s * most ≤ r * most = mul-le-mul_right most g in let d = suc-mul s most in absurd (omega arith)))
      (apart r s)),
  ⊎_elim (λ (g : r < s). let f : suc r * most ≤ s * most = mul-le-mul_right most g in let d = suc-mul r most in omega arith)
      (λ (e, g). let f : r * most ≡ s * most = ap (λ (k : ℕ). k * most) e in omega arith),
)

less_as : (a b c d : ℕ) → a ≡ c → b ≡ d → (a < b) ↔ (c < d)
less_as a b c d e f = ((λ h. omega arith), (λ h. omega arith))

listed_append : (a b : ℕ) (xs ys : List (ℕ × ℕ)) → listed a b (xs ++ ys) ≡ true → (listed a b xs ≡ true) ⊎ (listed a b ys ≡ true)
unfolding listed
listed_append a b [] ys h = inr h
listed_append a b (x ∷ xs) ys h =
    ⊎_elim (λ (t : (eqb a x.0 && eqb b x.1) ≡ true). inl (or_left (eqb a x.0 && eqb b x.1) (listed a b xs) t))
    (λ t. ⊎_elim (λ u. inl (or_right (eqb a x.0 && eqb b x.1) (listed a b xs) u)) (λ u. inr u) (listed_append a b xs ys t))
    (or_cases (eqb a x.0 && eqb b x.1) (listed a b (xs ++ ys)) h)

listed_left : (a b : ℕ) (xs ys : List (ℕ × ℕ)) → listed a b xs ≡ true → listed a b (xs ++ ys) ≡ true
unfolding listed
listed_left a b [] ys h = not_both false h refl
listed_left a b (x ∷ xs) ys h =
    ⊎_elim (λ (t : (eqb a x.0 && eqb b x.1) ≡ true). or_left (eqb a x.0 && eqb b x.1) (listed a b (xs ++ ys)) t)
    (λ t. or_right (eqb a x.0 && eqb b x.1) (listed a b (xs ++ ys)) (listed_left a b xs ys t))
    (or_cases (eqb a x.0 && eqb b x.1) (listed a b xs) h)

listed_right : (a b : ℕ) (xs ys : List (ℕ × ℕ)) → listed a b ys ≡ true → listed a b (xs ++ ys) ≡ true
unfolding listed
listed_right a b [] ys h = h
listed_right a b (x ∷ xs) ys h = or_right (eqb a x.0 && eqb b x.1) (listed a b (xs ++ ys)) (listed_right a b xs ys h)

module _ (s : Progress Met) where
  -- a P row of the second walk is one of the first, numbered on
  listed_later : (a b : ℕ) (os : List (ℕ × ℕ)) → listed a b (map (later_order s) os) ≡ true
      → (c d : ℕ) × (a ≡ 2 * s.walk.count + c) × (b ≡ 2 * s.walk.count + d) × (listed c d os ≡ true)
  unfolding listed
  listed_later a b [] h = not_both false h refl
  listed_later a b (o ∷ os) h =
      let c = 2 * s.walk.count + o.0 in
      let d = 2 * s.walk.count + o.1 in
      ⊎_elim
      (λ (t : (eqb a c && eqb b d) ≡ true). (
        o.0,
        o.1,
        eqb-true a c (and_left (eqb a c) (eqb b d) t),
        eqb-true b d (and_right (eqb a c) (eqb b d) t),
        or_left (eqb o.0 o.0 && eqb o.1 o.1) (listed o.0 o.1 os) (rw (eq-eqb o.0 o.0 refl, eq-eqb o.1 o.1 refl)),
      ))
      (λ t. let p = listed_later a b os t in (p.0, p.1, p.2, p.3, or_right (eqb p.0 o.0 && eqb p.1 o.1) (listed p.0 p.1 os) p.4))
      (or_cases (eqb a c && eqb b d) (listed a b (map (later_order s) os)) h)

  later_listed : (c d : ℕ) (os : List (ℕ × ℕ)) → listed c d os ≡ true → listed (2 * s.walk.count + c) (2 * s.walk.count + d) (map (later_order s) os) ≡ true
  unfolding listed
  later_listed c d [] h = not_both false h refl
  later_listed c d (o ∷ os) h =
      let base = 2 * s.walk.count in
      ⊎_elim
      (λ (t : (eqb c o.0 && eqb d o.1) ≡ true).
      let e = eqb-true c o.0 (and_left (eqb c o.0) (eqb d o.1) t) in
      let f = eqb-true d o.1 (and_right (eqb c o.0) (eqb d o.1) t) in
      or_left (eqb (base + c) (base + o.0) && eqb (base + d) (base + o.1)) (listed (base + c) (base + d) (map (later_order s) os))
      (rw (eq-eqb (base + c) (base + o.0) (omega arith), eq-eqb (base + d) (base + o.1) (omega arith))))
      (λ t. or_right (eqb (base + c) (base + o.0) && eqb (base + d) (base + o.1)) (listed (base + c) (base + d) (map (later_order s) os)) (later_listed c d os t))
      (or_cases (eqb c o.0 && eqb d o.1) (listed c d os) h)

map_at : (f : ℕ → ℕ) (l : List ℕ) (i : ℕ) → i < length l → get_or (map f l) i 0 ≡ f (get_or l i 0)
map_at f [] i h = absurd (omega arith)
map_at f (x ∷ xs) zero h = refl
map_at f (x ∷ xs) (suc i) h = map_at f xs i (omega arith)

module _ (s t : Progress Met) (sound : Sound s) (L : Later s s t) where
  abbrev E : Exchange
  E = exchange_of s

  abbrev F : Exchange
  F = exchange_of t

  abbrev N : ℕ
  N = s.walk.count

  inside : RowsInside E
  inside = rows_inside s sound

  twice : F.count ≡ 2 * N
  unfolding exchange_of
  twice = let c = L.count in omega arith

  -- the event with number j, in the second walk and beyond
  stands : (m o : ℕ) → o < 2 → get_or t.kept.events (2 * m + o) 0 ≡ get_or s.kept.events (2 * stands_for E 2 m + o) 0
  unfolding stands_for exchange_of
  stands m o l = ap (λ (es : List ℕ). get_or es (2 * m + o) 0) L.events ∙ go (dec_lt m N) (dec_lt m (2 * N))
    where
      es : List ℕ
      es = s.kept.events

      long : length es ≡ 2 * N
      long = sound.events_length

      go : Dec (m < N) → Dec (m < 2 * N) → get_or (es ++ es) (2 * m + o) 0 ≡ get_or es (2 * stands_for E 2 m + o) 0
      go (yes h) d =
          let same : m % N ≡ m = mod-eq_of_lt h in
          rw (lt-ltb m (2 * N) (omega arith), same) (get_or-append es es 0 (2 * m + o) (omega (arith, long)))
      go (no g) (yes h) =
          let r : m - N < N = omega arith in
          let split : m ≡ 1 * N + (m - N) = let e = one-mul N in omega arith in
          let rest : m % N ≡ m - N = ap (λ (k : ℕ). k % N) split ∙ digits_mod 1 r in
          let at' : 2 * m + o ≡ length es + (2 * (m - N) + o) = omega (arith, long) in
          rw (lt-ltb m (2 * N) h, rest) (ap (λ (k : ℕ). get_or (es ++ es) k 0) at' ∙ get_or-append-add es es (2 * (m - N) + o) 0)
      go (no g) (no h) =
          rw (le-ltb m (2 * N) (omega arith))
          (get_or-eq_default (es ++ es) 0 {n = 2 * m + o} (omega (arith, long, length-append es es)) ∙ sym (get_or-eq_default es 0 {n = 2 * m + o} (omega (arith, long))))

  same_source : (m : ℕ) → F.source m ≡ (rounds E 2).source m
  unfolding exchange_of rounds
  same_source m =
      let a : 2 * m ≡ 2 * m + 0 = omega arith in
      let b : 2 * stands_for E 2 m + 0 ≡ 2 * stands_for E 2 m = omega arith in
      ap (λ (k : ℕ). get_or t.kept.events k 0) a ∙ stands m 0 (omega arith) ∙ ap (λ (k : ℕ). get_or s.kept.events k 0) b

  same_target : (m : ℕ) → F.target m ≡ (rounds E 2).target m
  unfolding exchange_of rounds
  same_target m = stands m 1 (omega arith)

  same_board : (x : Event) → board_in F x ≡ board_in (rounds E 2) x
  unfolding board_of
  same_board (send_of m) = same_source m
  same_board (receive_of m) = same_target m

  -- the number of an event in round r
  at_number : (r : ℕ) (x : Event) → number (at E inside r x) ≡ 2 * (r * N) + number x
  unfolding at number exchange_of
  at_number r (send_of m) = omega arith
  at_number r (receive_of m) = omega arith

  second_event : (x : Event) (c : ℕ) → c < 2 * N → number x ≡ 2 * N + c → x ≡ at E inside 1 (event c)
  second_event x c l e =
      let one = one-mul N in
      let k = at_number 1 (event c) in
      let j = number_event c in
      number_injective x (at E inside 1 (event c)) (omega arith)

  event_in : (c : ℕ) → c < 2 * N → message_of (event c) < E.count
  unfolding exchange_of
  event_in c l = below_event c N l

  -- P rows, both ways
  row_there : (x y : Event) → F.ordered x y ≡ true → (rounds E 2).ordered x y ≡ true
  unfolding exchange_of
  row_there x y h =
      ⊎_elim
      (λ u.
      let p = listed_later s (number x) (number y) s.kept.orders u in
      let o = sound.orders_on_boards p.0 p.1 p.4 in
      let long = sound.events_length in
      let c = o.first_there in
      let d = o.second_there in
      let ex = second_event x p.0 (omega arith) p.2 in
      let ey = second_event y p.1 (omega arith) p.3 in
      subst⁻¹ (λ (v : Event). (rounds E 2).ordered v y ≡ true) ex
      (subst⁻¹ (λ (w : Event). (rounds E 2).ordered (at E inside 1 (event p.0)) w ≡ true) ey
      (lift_row E inside 2 1 (event p.0) (event p.1) (omega arith) (event_in p.0 (omega arith), event_in p.1 (omega arith))
      (rw (number_event p.0, number_event p.1) p.4))))
      (λ u.
      let o = sound.orders_on_boards (number x) (number y) u in
      let long = sound.events_length in
      let c = o.first_there in
      let d = o.second_there in
      let ix : message_of x < N = (below_number x N).1 (omega arith) in
      let iy : message_of y < N = (below_number y N).1 (omega arith) in
      subst (λ (v : Event). (rounds E 2).ordered v y ≡ true) (zero_at E inside x)
      (subst (λ (w : Event). (rounds E 2).ordered (at E inside 0 x) w ≡ true) (zero_at E inside y) (lift_row E inside 2 0 x y (omega arith) (ix, iy) u)))
      (listed_append (number x) (number y) (map (later_order s) s.kept.orders) s.kept.orders
      (subst (λ (os : List (ℕ × ℕ)). listed (number x) (number y) os ≡ true) L.orders h))

  row_back : (x y : Event) → (rounds E 2).ordered x y ≡ true → F.ordered x y ≡ true
  unfolding exchange_of
  row_back x y h =
      let r = row_of E inside 2 x y h in
      let x0 = in_round E x in
      let y0 = in_round E y in
      let low = round_below E inside 2 x r.first in
      let nx : number x ≡ 2 * (round_of E x * N) + number x0 = ap number (sym (in_at E inside x)) ∙ at_number (round_of E x) x0 in
      let ny : number y ≡ 2 * (round_of E x * N) + number y0 = ap number (sym (in_at E inside y)) ∙ at_number (round_of E y) y0 ∙ ap (λ (q : ℕ). 2 * (q * N) + number y0) (sym r.same_round) in
      subst⁻¹ (λ (os : List (ℕ × ℕ)). listed (number x) (number y) os ≡ true) L.orders
      (⊎_elim
      (λ (z : round_of E x ≡ 0).
      let e : round_of E x * N ≡ 0 = ap (λ (q : ℕ). q * N) z ∙ zero-mul N in
      let a : number x ≡ number x0 = omega arith in
      let b : number y ≡ number y0 = omega arith in
      listed_right (number x) (number y) (map (later_order s) s.kept.orders) s.kept.orders
      (subst⁻¹ (λ (k : ℕ). listed k (number y) s.kept.orders ≡ true) a (subst⁻¹ (λ (k : ℕ). listed (number x0) k s.kept.orders ≡ true) b r.ordered)))
      (⊎_elim (λ (z : round_of E x < 0). absurd (omega arith))
      (λ (z : 0 < round_of E x).
      let one : round_of E x ≡ 1 = omega arith in
      let e : round_of E x * N ≡ N = ap (λ (q : ℕ). q * N) one ∙ one-mul N in
      let a : number x ≡ 2 * N + number x0 = omega arith in
      let b : number y ≡ 2 * N + number y0 = omega arith in
      listed_left (number x) (number y) (map (later_order s) s.kept.orders) s.kept.orders
      (subst⁻¹ (λ (k : ℕ). listed k (number y) (map (later_order s) s.kept.orders) ≡ true) a
      (subst⁻¹ (λ (k : ℕ). listed (2 * N + number x0) k (map (later_order s) s.kept.orders) ≡ true) b (later_listed s (number x0) (number y0) s.kept.orders r.ordered)))))
      (apart (round_of E x) 0))

  -- blocks: by the round, then as in one round
  abbrev most : ℕ
  most = suc s.kept.open'

  few : (m : ℕ) → m < N → get_or s.kept.blocks m 0 < most
  few m l =
      ⊎_elim (λ (e : m < s.walk.first). let h = sound.earlier_blocks m e in omega arith)
      (λ (e : s.walk.first ≤ m). let h = sound.open_block m e l in omega arith)
      (split (dec_lt m s.walk.first))
    where
      split : Dec (m < s.walk.first) → (m < s.walk.first) ⊎ (s.walk.first ≤ m)
      split (yes h) = inl h
      split (no g) = inr (omega arith)

  block_at : (r m : ℕ) → r < 2 → m < N → get_or t.kept.blocks (r * N + m) 0 ≡ r * most + get_or s.kept.blocks m 0
  block_at r m l h = ap (λ (bs : List ℕ). get_or bs (r * N + m) 0) L.blocks ∙ go r l
    where
      bs : List ℕ
      bs = s.kept.blocks

      long : length bs ≡ N
      long = sound.blocks_length

      go : (q : ℕ) → q < 2 → get_or (bs ++ map (later_block s) bs) (q * N + m) 0 ≡ q * most + get_or bs m 0
      go zero l =
          let e : 0 * N + m ≡ m = let z = zero-mul N in omega arith in
          let f : 0 * most + get_or bs m 0 ≡ get_or bs m 0 = let z = zero-mul most in omega arith in
          ap (λ (k : ℕ). get_or (bs ++ map (later_block s) bs) k 0) e ∙ get_or-append bs (map (later_block s) bs) 0 m (omega (arith, long)) ∙ sym f
      go (suc zero) l =
          let e : 1 * N + m ≡ length bs + m = let z = one-mul N in omega (arith, long) in
          let f : 1 * most + get_or bs m 0 ≡ later_block s (get_or bs m 0) = let z = one-mul most in omega arith in
          ap (λ (k : ℕ). get_or (bs ++ map (later_block s) bs) k 0) e ∙ get_or-append-add bs (map (later_block s) bs) m 0 ∙ map_at (later_block s) bs m (omega (arith, long)) ∙ sym f
      go (suc (suc q)) l = absurd (omega arith)

  block_of : (x : Event) → message_of x < 2 * N → F.block (message_of x) ≡ round_of E x * most + E.block (message_of (in_round E x))
  unfolding exchange_of
  block_of x l =
      let m : message_of x ≡ round_of E x * N + message_of (in_round E x) = ap message_of (sym (in_at E inside x)) ∙ at_message E inside (round_of E x) (in_round E x) in
      ap (λ (k : ℕ). get_or t.kept.blocks k 0) m ∙ block_at (round_of E x) (message_of (in_round E x)) (round_below E inside 2 x l) (in_inside E inside 2 x l)

  -- an earlier block, both ways
  module _ (x y : Event) (ix : message_of x < 2 * N) (iy : message_of y < 2 * N) where
    abbrev First : Type 0
    First = (round_of E x < round_of E y) ⊎ ((round_of E x ≡ round_of E y) × (E.block (message_of (in_round E x)) < E.block (message_of (in_round E y))))

    walked_blocks : (F.block (message_of x) < F.block (message_of y)) ↔ First
    unfolding exchange_of
    walked_blocks =
        let l = lex most (round_of E x) (E.block (message_of (in_round E x))) (round_of E y) (E.block (message_of (in_round E y)))
        (few (message_of (in_round E x)) (in_inside E inside 2 x ix)) (few (message_of (in_round E y)) (in_inside E inside 2 y iy)) in
        let a = block_of x ix in
        let b = block_of y iy in
        let same = less_as _ _ _ _ a b in
        ((λ h. l.0 (same.0 h)), (λ f. same.1 (l.1 f)))

    rounds_blocks : ((rounds E 2).block (message_of x) < (rounds E 2).block (message_of y)) ↔ First
    unfolding exchange_of
    rounds_blocks =
        let l = lex (blocks_of E) (round_of E x) (E.block (message_of (in_round E x))) (round_of E y) (E.block (message_of (in_round E y)))
        (few_blocks E inside 2 x ix) (few_blocks E inside 2 y iy) in
        let a = in_block E inside 2 x in
        let b = in_block E inside 2 y in
        let same = less_as _ _ _ _ a b in
        ((λ h. l.0 (same.0 h)), (λ f. same.1 (l.1 f)))

  earlier_there : (x y : Event) → is_earlier F x y ≡ true → is_earlier (rounds E 2) x y ≡ true
  unfolding rounds exchange_of
  earlier_there x y h =
      let p = earlier_parts F x y h in
      let c = twice in
      let ix : message_of x < 2 * N = omega (arith, p.inside.0) in
      let iy : message_of y < 2 * N = omega (arith, p.inside.1) in
      is_earlier_holds (rounds E 2) x y ix iy (sym (same_board x) ∙ p.one_board ∙ same_board y) ((rounds_blocks x y ix iy).1 ((walked_blocks x y ix iy).0 p.later_block))

  earlier_back : (x y : Event) → is_earlier (rounds E 2) x y ≡ true → is_earlier F x y ≡ true
  unfolding rounds exchange_of
  earlier_back x y h =
      let p = earlier_parts (rounds E 2) x y h in
      let c = twice in
      let ix : message_of x < 2 * N = p.inside.0 in
      let iy : message_of y < 2 * N = p.inside.1 in
      is_earlier_holds F x y (omega arith) (omega arith) (same_board x ∙ p.one_board ∙ sym (same_board y)) ((walked_blocks x y ix iy).1 ((rounds_blocks x y ix iy).0 p.later_block))

  -- "before", both ways
  own_there : (x y : Event) → is_own F.count x y ≡ true → is_own (rounds E 2).count x y ≡ true
  unfolding rounds exchange_of
  own_there x y h = subst (λ (n : ℕ). is_own n x y ≡ true) twice h

  own_back : (x y : Event) → is_own (rounds E 2).count x y ≡ true → is_own F.count x y ≡ true
  unfolding rounds exchange_of
  own_back x y h = subst⁻¹ (λ (n : ℕ). is_own n x y ≡ true) twice h

  there : {x y : Event} → Before F x y → Before (rounds E 2) x y
  there (row {x = x} {y = y} h) = row (row_there x y h)
  there (own {x = x} {y = y} h) = own (own_there x y h)
  there (earlier {x = x} {y = y} h) = earlier (earlier_there x y h)
  there (link p q) = link (there p) (there q)

  back : {x y : Event} → Before (rounds E 2) x y → Before F x y
  back (row {x = x} {y = y} h) = row (row_back x y h)
  back (own {x = x} {y = y} h) = own (own_back x y h)
  back (earlier {x = x} {y = y} h) = earlier (earlier_back x y h)
  back (link p q) = link (back p) (back q)

  inside_walked : RowsInside F
  unfolding rounds exchange_of
  inside_walked x y h =
      let p = rounding.rows_inside E inside 2 x y (row_there x y h) in
      let c = twice in
      (omega (arith, p.0), omega (arith, p.1))

  pub two_walks_holds : scenario_of F ≡ scenario_in E 2
  unfolding scenario_of rounds exchange_of
  two_walks_holds = λ i.
      record {
        count = twice i;
        source = fun_ext same_source i;
        target = fun_ext same_target i;
        before = fun_ext (λ (x : Event). fun_ext (λ (y : Event).
            both_ways ((scenario_of F).before x y) ((scenario_in E 2).before x y)
            (λ h. (before_exact (rounds E 2) (rounding.rows_inside E inside 2) x y).1 (there ((before_exact F inside_walked x y).0 h)))
            (λ h. (before_exact F inside_walked x y).1 (back ((before_exact (rounds E 2) (rounding.rows_inside E inside 2) x y).0 h))))) i;
      }
