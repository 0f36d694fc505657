-- One verdict over the choice lists of a file: list by list, the verdicts on two wired codes are the same, and one that is locked is locked on
-- code 0 too. Assumes nothing.
use Prim.Native.Nat.{ℕ, ◌<◌, ◌≤◌}
use native.Mathlib.Omega.{arith}
use mathlib.Core.Path.{◌≡◌, refl, sym, ap, subst}
use mathlib.Core.Logic.{inl, inr}
use mathlib.Core.Bool.{Bool, true}
use mathlib.Core.List.{List, [], ◌∷◌}
use mathlib.Core.Option.{Option, none, some}
use borrow.Author.Tests.{lt-ltb}
use Rattle.model.specs.Limits.{channels}
use Rattle.model.specs.Refusal.{Out, ok, refusal}
use Rattle.model.specs.Rows.{Row}
use Rattle.model.specs.Order.{Scenario}
use Rattle.model.specs.Run.{Step}
use Rattle.model.specs.Answer.{Answer, free, locked, refused, free_word, locked_word, refused_word, expanded_with, exchange_with, answer_for, numbers_of}
use Rattle.model.specs.Verdict.{IsMet}
use Rattle.model.specs.Choice.{Among, InOrder, lists_of, ChoiceAnswer, each_free, first_locked, first_refused, refusal_in, lock_in, judged_over, choosable, choice_answer_for, choice_answer_of, choice_numbers}
use Rattle.model.specs.Wired.{IsWired, SameVerdict, LockedNoHigher, SameChoiceVerdict, LockedNoLater, OneChoiceVerdict}
use Rattle.model.proofs.Causal.{Causal}
use Rattle.model.proofs.Standing.{read_fits}
use Rattle.model.proofs.Clean.{read_clean}
use Rattle.model.proofs.Accepted.{walk_causal, walk_meets}
use Rattle.model.proofs.Choices.{choosable_parts}
use Rattle.model.proofs.ChoiceLists.{all_lists}
use Rattle.model.proofs.Wired.{wired_known, same_answer, locked_answer}

-- two answers over the lists that differ at most in the steps
pub data Alike : ChoiceAnswer → ChoiceAnswer → Type 0 where
  both_free : Alike each_free each_free
  both_locked : {l : List Bool} {e x : ℕ} {ts us : List Step} → Alike (first_locked l e x ts) (first_locked l e x us)
  both_refused : {number line : ℕ} → Alike (first_refused number line) (first_refused number line)

alike_numbers : (a b : ChoiceAnswer) → Alike a b → SameChoiceVerdict (choice_numbers a) (choice_numbers b)
alike_numbers a b both_free = record { verdict = record { word = refl; one = refl; two = refl }; options = refl; choices = refl }
alike_numbers a b both_locked = record { verdict = record { word = refl; one = refl; two = refl }; options = refl; choices = refl }
alike_numbers a b both_refused = record { verdict = record { word = refl; one = refl; two = refl }; options = refl; choices = refl }

-- what a list's own answer makes of the answer over the lists behind it
abbrev first : List Bool → Answer → ChoiceAnswer → ChoiceAnswer
first l a rest = elim a [ free ↦ rest | locked e x ts ↦ first_locked l e x ts | refused number line ↦ rest ]

first_alike : (l : List Bool) (a b : Answer) (p q : ChoiceAnswer) → SameVerdict (numbers_of a) (numbers_of b) → Alike p q
    → Alike (first l a p) (first l b q)
first_alike l free free p q s h = h
first_alike l free (locked e x ts) p q s h = absurd (omega (arith, s.word))
first_alike l free (refused number line) p q s h = h
first_alike l (locked e x ts) free p q s h = absurd (omega (arith, s.word))
first_alike l (locked e x ts) (locked f y us) p q s h =
    subst (λ (k : ℕ). Alike (first_locked l e x ts) (first_locked l k y us)) s.one
    (subst (λ (k : ℕ). Alike (first_locked l e x ts) (first_locked l e k us)) s.two both_locked)
first_alike l (locked e x ts) (refused number line) p q s h = absurd (omega (arith, s.word))
first_alike l (refused number line) free p q s h = h
first_alike l (refused number line) (locked e x ts) p q s h = absurd (omega (arith, s.word))
first_alike l (refused number line) (refused m k) p q s h = h

module _ (file : List Row) where
  -- a search for the first locked list ends in no refusal
  lock_unrefused : (code : ℕ) (ls : List (List Bool)) → (choice_numbers (lock_in file code ls)).word ≡ refused_word → ⊥
  unfolding lock_in
  lock_unrefused code [] w = omega (arith, w)
  lock_unrefused code (l ∷ ls) w = go (answer_for (expanded_with l file) code) w (lock_unrefused code ls)
    where
      go : (a : Answer) → (choice_numbers (first l a (lock_in file code ls))).word ≡ refused_word
          → ((choice_numbers (lock_in file code ls)).word ≡ refused_word → ⊥) → ⊥
      go free w n = n w
      go (locked e x ts) w n = omega (arith, w)
      go (refused number line) w n = n w

  -- on two wired codes
  module _ (code other : ℕ) (v : IsWired code) (w : IsWired other) where
    locks_alike : (ls : List (List Bool)) → Alike (lock_in file code ls) (lock_in file other ls)
    unfolding lock_in
    locks_alike [] = both_free
    locks_alike (l ∷ ls) =
        first_alike l (answer_for (expanded_with l file) code) (answer_for (expanded_with l file) other) (lock_in file code ls) (lock_in file other ls)
        (same_answer (expanded_with l file) code other v w) (locks_alike ls)

    judged_alike : (ls : List (List Bool)) → Alike (judged_over file code ls) (judged_over file other ls)
    unfolding judged_over
    judged_alike ls = go (refusal_in file ls)
      where
        go : (o : Option (ℕ × ℕ)) → Alike (elim o [ none ↦ lock_in file code ls | some r ↦ first_refused r.0 r.1 ])
            (elim o [ none ↦ lock_in file other ls | some r ↦ first_refused r.0 r.1 ])
        go none = locks_alike ls
        go (some r) = both_refused

  -- on any code and on 0
  module _ (code : ℕ) (known : code < channels) (causal : (l : List Bool) (S : Scenario) → expanded_with l file ≡ ok S → Causal S) where
    -- the list locked is one of those, and the first on 0 is not behind it
    abbrev Located : List (List Bool) → ChoiceAnswer → List Bool → ℕ → Type 0
    Located ls on_zero l e = Among l ls × LockedNoLater on_zero l e

    -- a list is locked behind the head, and so is one on 0, unless the head is
    later : (h : List Bool) (ls : List (List Bool)) (b : Answer) (rest : ChoiceAnswer) → InOrder (h ∷ ls) → (l : List Bool) (e : ℕ)
        → Located ls rest l e → Located (h ∷ ls) (first h b rest) l e
    later h ls free rest o l e p = (inr p.0, p.1)
    later h ls (locked f y us) rest o l e p =
        (inr p.0, record { list = h; message = f; race_event = y; steps = us; is_locked = refl; no_later = inl (o.0 l p.0) })
    later h ls (refused number line) rest o l e p = (inr p.0, p.1)

    -- the head is locked, and so it is on 0
    here : (h : List Bool) (ls : List (List Bool)) (b : Answer) (rest : ChoiceAnswer) (l : List Bool) (f e : ℕ) → h ≡ l → f ≡ e
        → (numbers_of b).word ≡ locked_word → (numbers_of b).one ≤ f → Located (h ∷ ls) (first h b rest) l e
    here h ls free rest l f e i j w m = absurd (omega (arith, w))
    here h ls (locked g y us) rest l f e i j w m =
        (inl (sym i), record { list = h; message = g; race_event = y; steps = us; is_locked = refl; no_later = inr (i, omega (arith, m, j)) })
    here h ls (refused number line) rest l f e i j w m = absurd (omega (arith, w))

    first_located : (h : List Bool) (ls : List (List Bool)) (a b : Answer) → InOrder (h ∷ ls)
        → ((numbers_of a).word ≡ locked_word → LockedNoHigher (numbers_of b) (numbers_of a))
        → (l : List Bool) (e x : ℕ) (ts : List Step) → (rest on_zero : ChoiceAnswer) → first h a rest ≡ first_locked l e x ts
        → (rest ≡ first_locked l e x ts → Located ls on_zero l e)
        → Located (h ∷ ls) (first h b on_zero) l e
    first_located h ls free b o higher l e x ts rest on_zero i behind = later h ls b on_zero o l e (behind i)
    first_located h ls (locked f y us) b o higher l e x ts rest on_zero i behind =
        let n = higher refl in here h ls b on_zero l f e (cc i) (cc i) n.word n.message
    first_located h ls (refused number line) b o higher l e x ts rest on_zero i behind = later h ls b on_zero o l e (behind i)

    located : (ls : List (List Bool)) → InOrder ls → (l : List Bool) (e x : ℕ) (ts : List Step) → lock_in file code ls ≡ first_locked l e x ts
        → Located ls (lock_in file 0 ls) l e
    unfolding lock_in
    located [] o l e x ts i = let z : ◌≡◌ {A = ℕ} 0 1 = cc in absurd (omega arith)
    located (h ∷ ls) o l e x ts i =
        first_located h ls (answer_for (expanded_with h file) code) (answer_for (expanded_with h file) 0) o
        (locked_answer code known (expanded_with h file) (causal h)) l e x ts (lock_in file code ls) (lock_in file 0 ls) i (located ls o.1 l e x ts)

    -- the answers over all lists: a refusal is the same on every code
    judged_located : (ls : List (List Bool)) → InOrder ls → (l : List Bool) (e x : ℕ) (ts : List Step) → judged_over file code ls ≡ first_locked l e x ts
        → LockedNoLater (judged_over file 0 ls) l e
    unfolding judged_over
    judged_located ls o l e x ts = go (refusal_in file ls)
      where
        go : (r : Option (ℕ × ℕ)) → elim r [ none ↦ lock_in file code ls | some q ↦ first_refused q.0 q.1 ] ≡ first_locked l e x ts
            → LockedNoLater (elim r [ none ↦ lock_in file 0 ls | some q ↦ first_refused q.0 q.1 ]) l e
        go none i = (located ls o l e x ts i).1
        go (some q) i = let z : ◌≡◌ {A = ℕ} 0 1 = cc in absurd (omega arith)

    -- where all lists are free on 0, none is refused, and none is locked on the code
    judged_free : (ls : List (List Bool)) → InOrder ls → (choice_numbers (judged_over file 0 ls)).word ≡ free_word
        → (choice_numbers (judged_over file code ls)).word ≡ free_word
    unfolding judged_over
    judged_free ls o = go (refusal_in file ls)
      where
        none_locked : (a : ChoiceAnswer) → (choice_numbers (lock_in file 0 ls)).word ≡ free_word → lock_in file code ls ≡ a → ((choice_numbers a).word ≡ refused_word → ⊥)
            → (choice_numbers a).word ≡ free_word
        none_locked each_free w i n = refl
        none_locked (first_locked l e x ts) w i n =
            let L = (located ls o l e x ts i).1 in absurd (omega (arith, w, ap (λ (c : ChoiceAnswer). (choice_numbers c).word) L.is_locked))
        none_locked (first_refused number line) w i n = absurd (n refl)

        go : (r : Option (ℕ × ℕ)) → (choice_numbers (elim r [ none ↦ lock_in file 0 ls | some q ↦ first_refused q.0 q.1 ])).word ≡ free_word
            → (choice_numbers (elim r [ none ↦ lock_in file code ls | some q ↦ first_refused q.0 q.1 ])).word ≡ free_word
        go none w = none_locked (lock_in file code ls) w refl (lock_unrefused code ls)
        go (some q) w = absurd (omega (arith, w))

-- The rows that a text gives do not depend on the code.
one_file : (text : List ℕ) (code other scratch_length trace_length : ℕ) → code < channels → other < channels
    → choosable text code scratch_length trace_length ≡ choosable text other scratch_length trace_length
unfolding choosable
one_file text code other scratch_length trace_length k l = rw (lt-ltb code channels k, lt-ltb other channels l)

module _ (text : List ℕ) (scratch_length trace_length : ℕ) where
  abbrev file_on : ℕ → Out (List Row)
  file_on code = choosable text code scratch_length trace_length

  -- every list of a text that is read has no circle
  pub list_causal : (code : ℕ) (file : List Row) → file_on code ≡ ok file → (l : List Bool) (S : Scenario) → expanded_with l file ≡ ok S → Causal S
  list_causal code file e l S w =
      let a = choosable_parts text code scratch_length trace_length file e in
      walk_causal l file (read_fits true text file a.read) S w (read_clean true text file a.read)

  -- and its "before" is the paper's relation
  pub list_meets : (code : ℕ) (file : List Row) → file_on code ≡ ok file → (l : List Bool) (S : Scenario) → expanded_with l file ≡ ok S
      → IsMet (exchange_with l file) S
  list_meets code file e l S w =
      let a = choosable_parts text code scratch_length trace_length file e in
      walk_meets l file (read_fits true text file a.read) S w

  -- One verdict over choice lists, for every text and lengths of the buffers lent.
  pub one_choice_verdict_holds : OneChoiceVerdict text scratch_length trace_length
  unfolding choice_answer_of choice_answer_for
  one_choice_verdict_holds =
      record {
        same_on_wired = λ code other v w.
            subst (λ (o : Out (List Row)). SameChoiceVerdict (choice_numbers (choice_answer_for (file_on code) code)) (choice_numbers (choice_answer_for o other)))
            (one_file text code other scratch_length trace_length (wired_known code v) (wired_known other w)) (same code other v w (file_on code));
        locked_on_zero = λ code known l e x ts i.
            subst (λ (o : Out (List Row)). LockedNoLater (choice_answer_for o 0) l e)
            (one_file text code 0 scratch_length trace_length known (omega arith)) (no_later_holds code known l e x ts (file_on code) refl i);
        free_on_all = λ w code known.
            subst (λ (o : Out (List Row)). (choice_numbers (choice_answer_for o code)).word ≡ free_word)
            (one_file text 0 code scratch_length trace_length (omega arith) known) (all_free code known (file_on 0) refl w);
      }
    where
      same : (code other : ℕ) → IsWired code → IsWired other → (o : Out (List Row))
          → SameChoiceVerdict (choice_numbers (choice_answer_for o code)) (choice_numbers (choice_answer_for o other))
      same code other v w (ok file) =
          alike_numbers (judged_over file code (lists_of file)) (judged_over file other (lists_of file)) (judged_alike file code other v w (lists_of file))
      same code other v w (refusal number line) = alike_numbers (first_refused number line) (first_refused number line) both_refused

      no_later_holds : (code : ℕ) (known : code < channels) (l : List Bool) (e x : ℕ) (ts : List Step) (o : Out (List Row)) → file_on code ≡ o
          → choice_answer_for o code ≡ first_locked l e x ts → LockedNoLater (choice_answer_for o 0) l e
      no_later_holds code known l e x ts (ok file) r i =
          judged_located file code known (list_causal code file r) (lists_of file) (all_lists file).in_order l e x ts i
      no_later_holds code known l e x ts (refusal number line) r i = let z : ◌≡◌ {A = ℕ} 0 1 = cc in absurd (omega arith)

      all_free : (code : ℕ) (known : code < channels) (o : Out (List Row)) → file_on 0 ≡ o → (choice_numbers (choice_answer_for o 0)).word ≡ free_word
          → (choice_numbers (choice_answer_for o code)).word ≡ free_word
      all_free code known (ok file) r w = judged_free file code known (list_causal 0 file r) (lists_of file) (all_lists file).in_order w
      all_free code known (refusal number line) r w = absurd (omega (arith, w))
