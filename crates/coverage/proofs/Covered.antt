-- What a search has met, as the model has it: which receivers are faulty with the sender, and the first two rules of the pair. Assumes nothing.
use Prim.Native.Nat.{ℕ, suc, ◌+◌, ◌*◌, ◌/◌, ◌%◌, ◌<◌}
use native.Mathlib.Nat.{mul_comm}
use native.Mathlib.Omega.{arith}
use mathlib.Core.Path.{◌≡◌, refl, sym, ◌∙◌, ap}
use mathlib.Core.Bool.{Bool, true, false, not, cond, ◌&&◌, ◌||◌}
use mathlib.Core.List.{List, [], ◌∷◌}
use borrow.Author.Tests.{ne_eqb}
use lib.Arith.{digits_div, digits_mod}
use lib.Bits.{bit_and, bit_or}
use lib.Dec.{eqb}
use lib.ListN.{length}
use Rattle.relation.specs.Rows.{has}
use Rattle.relation.proofs.Bits.{has_zero, has_or}
use Rattle.relation.proofs.Words.{has_and}
use Rattle.model.specs.Limits.{boards}
use Rattle.model.specs.Place.{line_of}
use Rattle.model.specs.Senders.{pair_of, in_set, covers, rules_with, is_faulty}
use Rattle.coverage.specs.Rules.{rule_as, rules_as}
use Rattle.coverage.specs.Search.{begun, joined_by, noted_by, met_by, searched}
use Rattle.coverage.specs.declared.Rule.{Rule}
use Rattle.coverage.specs.declared.Search.{Search}

-- the bits of two sets together
pub set_or : (a b k : ℕ) → in_set (bit_or a b) k ≡ (in_set a k || in_set b k)
unfolding in_set has
set_or a b k = has_or a b k

pub set_and : (a b k : ℕ) → in_set (bit_and a b) k ≡ (in_set a k && in_set b k)
unfolding in_set has
set_and a b k = has_and a b k

pub empty_set : (k : ℕ) → in_set 0 k ≡ false
unfolding in_set has
empty_set k = has_zero k

-- a rule with a pair, by its two sets
pub pair_covers : (r : Rule) (a b : ℕ) → b < boards → covers (rule_as r) (pair_of a b) ≡ (in_set r.from a && in_set r.to b)
unfolding covers
pair_covers r a b h =
    let d : (boards * a + b) / boards ≡ a = rw (mul_comm boards a) (digits_div a h) in
    let m : (boards * a + b) % boards ≡ b = rw (mul_comm boards a) (digits_mod a h) in
    rw (d, m)

-- some rules, and two or more
some? : List ℕ → Bool
some? [] = false
some? (k ∷ ks) = true

two? : List ℕ → Bool
two? [] = false
two? (k ∷ ks) = some? ks

-- the two lines noted, and one rule more
abbrev Lines : Type 0
Lines = ℕ × ℕ

note : Lines → ℕ → Lines
note (f, g) k = cond (eqb f 0) (k, g) (cond (eqb g 0) (f, k) (f, g))

note_all : Lines → List ℕ → Lines
note_all p [] = p
note_all p (k ∷ ks) = note_all (note p (line_of k)) ks

abbrev lines : Search → Lines
lines s = (s.first, s.second)

-- what one rule adds: to the receivers, where it has the sender, and to the lines, where it has the pair
record OneMore (s : Search) (i : ℕ) (r : Rule) (t : Search) : Type 0 where
  sender : t.sender ≡ s.sender
  receiver : t.receiver ≡ s.receiver
  once : (b : ℕ) → in_set t.once b ≡ (in_set s.once b || (in_set r.from s.sender && in_set r.to b))
  twice : (b : ℕ) → in_set t.twice b ≡ (in_set s.twice b || (in_set s.once b && (in_set r.from s.sender && in_set r.to b)))
  noted : lines t ≡ cond (in_set r.from s.sender && in_set r.to s.receiver) (note (lines s) (line_of i)) (lines s)

or_false : (b : Bool) → b ≡ (b || false)
or_false true = refl
or_false false = refl

and_false : (a b : Bool) → b ≡ false → (a && b) ≡ false
and_false true b h = h
and_false false b h = refl

record Added (s : Search) (r : Rule) (t : Search) : Type 0 where
  sender : t.sender ≡ s.sender
  receiver : t.receiver ≡ s.receiver
  once : (b : ℕ) → in_set t.once b ≡ (in_set s.once b || (in_set r.from s.sender && in_set r.to b))
  twice : (b : ℕ) → in_set t.twice b ≡ (in_set s.twice b || (in_set s.once b && (in_set r.from s.sender && in_set r.to b)))
  same : lines t ≡ lines s

added : (s : Search) (r : Rule) → Added s r (joined_by s r.from r.to)
unfolding joined_by
added s r = go (in_set r.from s.sender) refl
  where
    go : (c : Bool) → in_set r.from s.sender ≡ c
        → Added s r (cond c (record { sender = s.sender; receiver = s.receiver; once = bit_or s.once r.to; twice = bit_or s.twice (bit_and s.once r.to); first = s.first; second = s.second }) s)
    go true e =
        record {
          sender = refl;
          receiver = refl;
          once = λ b. rw (e, set_or s.once r.to b);
          twice = λ b. rw (e, set_or s.twice (bit_and s.once r.to) b, set_and s.once r.to b);
          same = refl;
        }
    go false e =
        record {
          sender = refl;
          receiver = refl;
          once = λ b. rw e (or_false (in_set s.once b));
          twice = λ b. rw (e, and_false (in_set s.once b) false refl) (or_false (in_set s.twice b));
          same = refl;
        }

record Noted (s : Search) (n : ℕ) (t : Search) : Type 0 where
  sender : t.sender ≡ s.sender
  receiver : t.receiver ≡ s.receiver
  once : t.once ≡ s.once
  twice : t.twice ≡ s.twice
  note : lines t ≡ note (lines s) n

note_lines : (s : Search) (n : ℕ) → Noted s n (noted_by s n)
unfolding noted_by note
note_lines s n = go (eqb s.first 0) (eqb s.second 0) refl refl
  where
    go : (f g : Bool) → eqb s.first 0 ≡ f → eqb s.second 0 ≡ g
        → Noted s n (cond f (record { sender = s.sender; receiver = s.receiver; once = s.once; twice = s.twice; first = n; second = s.second })
        (cond g (record { sender = s.sender; receiver = s.receiver; once = s.once; twice = s.twice; first = s.first; second = n }) s))
    go true g e e' = record { sender = refl; receiver = refl; once = refl; twice = refl; note = rw e }
    go false true e e' = record { sender = refl; receiver = refl; once = refl; twice = refl; note = rw (e, e') }
    go false false e e' = record { sender = refl; receiver = refl; once = refl; twice = refl; note = rw (e, e') }

one_more : (s : Search) (i : ℕ) (r : Rule) → OneMore s i r (met_by s i r)
unfolding met_by
one_more s i r = go (in_set r.from s.sender && in_set r.to s.receiver) refl (added s r)
  where
    t : Search
    t = joined_by s r.from r.to

    go : (c : Bool) → (in_set r.from s.sender && in_set r.to s.receiver) ≡ c → Added s r t → OneMore s i r (cond c (noted_by t (line_of i)) t)
    go true e a =
        let n : Noted t (line_of i) (noted_by t (line_of i)) = note_lines t (line_of i) in
        record {
          sender = n.sender ∙ a.sender;
          receiver = n.receiver ∙ a.receiver;
          once = λ b. ap (λ (w : ℕ). in_set w b) n.once ∙ a.once b;
          twice = λ b. ap (λ (w : ℕ). in_set w b) n.twice ∙ a.twice b;
          noted = n.note ∙ ap (λ (p : Lines). note p (line_of i)) a.same ∙ rw e;
        }
    go false e a = record { sender = a.sender; receiver = a.receiver; once = a.once; twice = a.twice; noted = a.same ∙ rw e }

-- a rule more, and those behind it
once_more : (o c s : Bool) → ((o || c) || s) ≡ (o || (c || s))
once_more true c s = refl
once_more false c s = refl

some_more : (c : Bool) (i : ℕ) (ks : List ℕ) → (c || some? ks) ≡ some? (cond c (i ∷ ks) ks)
unfolding some?
some_more true i ks = refl
some_more false i ks = refl

twice_more : (t o c : Bool) (i : ℕ) (ks : List ℕ)
    → ((t || (o && c)) || (((o || c) && some? ks) || two? ks)) ≡ (t || ((o && some? (cond c (i ∷ ks) ks)) || two? (cond c (i ∷ ks) ks)))
unfolding some? two?
twice_more true o c i ks = refl
twice_more false true true i ks = refl
twice_more false true false i ks = refl
twice_more false false false i ks = refl
twice_more false false true i [] = refl
twice_more false false true i (k ∷ ks) = refl

module _ (a b : ℕ) (inside : b < boards) where
  abbrev found : ℕ → List Rule → List ℕ
  found i rs = rules_with (pair_of a b) i (rules_as rs)

  found_step : (i : ℕ) (r : Rule) (rs : List Rule) → found i (r ∷ rs) ≡ cond (in_set r.from a && in_set r.to b) (i ∷ found (suc i) rs) (found (suc i) rs)
  unfolding rules_with
  found_step i r rs = rw (pair_covers r a b inside)

  sets_met : (i : ℕ) (rs : List Rule) (s : Search) → s.sender ≡ a
      → (in_set (searched i rs s).once b ≡ (in_set s.once b || some? (found i rs)))
      × (in_set (searched i rs s).twice b ≡ (in_set s.twice b || ((in_set s.once b && some? (found i rs)) || two? (found i rs))))
  unfolding searched rules_with some? two?
  sets_met i [] s e = (or_false (in_set s.once b), rw (and_false (in_set s.once b) false refl) (or_false (in_set s.twice b)))
  sets_met i (r ∷ rs) s e =
      let m : OneMore s i r (met_by s i r) = one_more s i r in
      let ks : List ℕ = found (suc i) rs in
      let c : Bool = in_set r.from a && in_set r.to b in
      let o : in_set (met_by s i r).once b ≡ (in_set s.once b || c) =
      m.once b ∙ ap (λ (x : ℕ). in_set s.once b || (in_set r.from x && in_set r.to b)) e in
      let t : in_set (met_by s i r).twice b ≡ (in_set s.twice b || (in_set s.once b && c)) =
      m.twice b ∙ ap (λ (x : ℕ). in_set s.twice b || (in_set s.once b && (in_set r.from x && in_set r.to b))) e in
      let later = sets_met (suc i) rs (met_by s i r) (m.sender ∙ e) in
      let l : found i (r ∷ rs) ≡ cond c (i ∷ ks) ks = found_step i r rs in (
        later.0 ∙ rw o (once_more (in_set s.once b) c (some? ks) ∙ ap (λ (x : Bool). in_set s.once b || x) (some_more c i ks ∙ ap some? (sym l))),
        later.1 ∙ rw (t, o) (twice_more (in_set s.twice b) (in_set s.once b) c i ks
            ∙ ap (λ (x : List ℕ). in_set s.twice b || ((in_set s.once b && some? x) || two? x)) (sym l)),
      )

  lines_met : (i : ℕ) (rs : List Rule) (s : Search) → s.sender ≡ a → s.receiver ≡ b → lines (searched i rs s) ≡ note_all (lines s) (found i rs)
  unfolding searched rules_with note_all
  lines_met i [] s e h = refl
  lines_met i (r ∷ rs) s e h =
      let m : OneMore s i r (met_by s i r) = one_more s i r in
      let ks : List ℕ = found (suc i) rs in
      let c : Bool = in_set r.from a && in_set r.to b in
      let n : lines (met_by s i r) ≡ cond c (note (lines s) (line_of i)) (lines s) =
      m.noted ∙ ap (λ (x : ℕ). cond (in_set r.from x && in_set r.to s.receiver) (note (lines s) (line_of i)) (lines s)) e
      ∙ ap (λ (x : ℕ). cond (in_set r.from a && in_set r.to x) (note (lines s) (line_of i)) (lines s)) h in
      lines_met (suc i) rs (met_by s i r) (m.sender ∙ e) (m.receiver ∙ h) ∙ ap (λ (p : Lines). note_all p ks) n ∙ more c ks
      ∙ ap (note_all (lines s)) (sym (found_step i r rs))
    where
      more : (c : Bool) (ks : List ℕ) → note_all (cond c (note (lines s) (line_of i)) (lines s)) ks ≡ note_all (lines s) (cond c (i ∷ ks) ks)
      more true ks = refl
      more false ks = refl

-- both lines are noted, and stay
both_noted : (f g : ℕ) (ks : List ℕ) → note_all (line_of f, line_of g) ks ≡ (line_of f, line_of g)
unfolding note_all note
both_noted f g [] = refl
both_noted f g (k ∷ ks) = rw (ne_eqb (line_of f) 0 (λ e. omega arith), ne_eqb (line_of g) 0 (λ e. omega arith)) (both_noted f g ks)

-- a pair is faulty by the rules that it is in
not_once : (ks : List ℕ) → not (eqb (length ks) 1) ≡ (not (some? ks) || two? ks)
unfolding some? two?
not_once [] = refl
not_once (k ∷ []) = refl
not_once (k ∷ j ∷ ks) = rw (ne_eqb (suc (suc (length ks))) 1 (λ e. omega arith))

module _ (a : ℕ) (rs : List Rule) where
  -- a receiver is faulty with the sender exactly if it is in no rule or in two
  pub faulty_sets : (b c : ℕ) → b < boards
      → is_faulty (rules_as rs) (pair_of a b) ≡ (not (in_set (searched 0 rs (begun a c)).once b) || in_set (searched 0 rs (begun a c)).twice b)
  unfolding is_faulty
  faulty_sets b c h =
      let m = sets_met a b h 0 rs (begun a c) refl in
      let o : in_set (searched 0 rs (begun a c)).once b ≡ some? (found a b h 0 rs) = m.0 ∙ rw (empty_set b) in
      let t : in_set (searched 0 rs (begun a c)).twice b ≡ two? (found a b h 0 rs) = m.1 ∙ rw (empty_set b) in
      not_once (found a b h 0 rs) ∙ rw (o, t)

  -- the first two rules of the pair, by their lines
  abbrev pub FirstTwo : List ℕ → Search → Type 0
  FirstTwo [] t = t.first ≡ 0
  FirstTwo (k ∷ []) t = (t.first ≡ line_of k) × (t.second ≡ 0)
  FirstTwo (k ∷ j ∷ ks) t = (t.first ≡ line_of k) × (t.second ≡ line_of j)

  pub first_two : (b : ℕ) → b < boards → FirstTwo (rules_with (pair_of a b) 0 (rules_as rs)) (searched 0 rs (begun a b))
  unfolding note_all note
  first_two b h = go (rules_with (pair_of a b) 0 (rules_as rs)) (lines_met a b h 0 rs (begun a b) refl refl)
    where
      go : (ks : List ℕ) → lines (searched 0 rs (begun a b)) ≡ note_all (0, 0) ks → FirstTwo ks (searched 0 rs (begun a b))
      go [] e = ap (λ (p : Lines). p.0) e
      go (k ∷ []) e = (ap (λ (p : Lines). p.0) e, ap (λ (p : Lines). p.1) e)
      go (k ∷ j ∷ ks) e =
          let n : note (line_of k, 0) (line_of j) ≡ (line_of k, line_of j) = rw (ne_eqb (line_of k) 0 (λ z. omega arith)) in
          let d : lines (searched 0 rs (begun a b)) ≡ (line_of k, line_of j) = e ∙ ap (λ (p : Lines). note_all p ks) n ∙ both_noted k j ks in
          (ap (λ (p : Lines). p.0) d, ap (λ (p : Lines). p.1) d)
