-- The promise of a choice, over whole orders: the answer over the lists is right for every choice list of the file. Assumes nothing.
use Prim.Native.Nat.{ℕ, ◌<◌, ◌≤◌}
use native.Mathlib.Omega.{arith}
use mathlib.Core.Path.{◌≡◌, refl, sym, ◌∙◌, ap, subst, subst⁻¹}
use mathlib.Core.Logic.{inl, inr, ⊎_elim}
use mathlib.Core.Bool.{Bool, true, ◌||◌}
use mathlib.Core.List.{List, [], ◌∷◌}
use mathlib.Core.Option.{Option, none, some}
use lib.Dec.{ltb}
use lib.ListN.{length}
use borrow.Author.Tests.{ltb-true, ltb-false}
use Rattle.model.specs.Limits.{channels, scratch_least, trace_least}
use Rattle.model.specs.Refusal.{Out, ok, refusal}
use Rattle.model.specs.Rows.{Row}
use Rattle.model.specs.Place.{read_with}
use Rattle.model.specs.Order.{Scenario}
use Rattle.model.specs.Channel.{channel_of}
use Rattle.model.specs.Run.{Step, EndsStuck}
use Rattle.model.specs.Answer.{Answer, free, locked, refused, expanded_with, verdict_of, answer_for, trace_after, numbers_of}
use Rattle.model.specs.Verdict.{Verdict}
use Rattle.model.specs.Choice.{ChoiceList, lists_of, Ahead, Among, InOrder, AllLists, ChoiceAnswer, each_free, first_locked, first_refused, refusal_in, lock_in, judged_over, choosable, choice_answer_for, choice_answer_of, choice_numbers, trace_chosen, Sticking, Finishing, ChoiceVerdict}
use Rattle.model.proofs.Bounded.{or_neither}
use Rattle.model.proofs.Refusal.{not_refused, cond_ok, cond_refused}
use Rattle.model.proofs.Standing.{Fits, read_fits}
use Rattle.model.proofs.Causal.{Causal}
use Rattle.model.proofs.Clean.{Clean, read_clean}
use Rattle.model.proofs.Accepted.{walk_causal, walk_meets}
use Rattle.model.proofs.PointThree.{Decided, is_free, is_locked, decided, verdict_for}
use Rattle.model.proofs.ChoiceLists.{ahead_one_way, all_lists}

module _ (file : List Row) (fits : Fits [] file) (clean : Clean 0 [] file) (code : ℕ) (known : code < channels) where
  -- the verdict on the scenario of one list
  list_verdict : (l : List Bool) (S : Scenario) → expanded_with l file ≡ ok S → (trace : List ℕ)
      → Verdict S code (numbers_of (verdict_of S code)) (trace_after (verdict_of S code) trace)
  list_verdict l S e trace = let C = walk_causal l file fits S e clean in verdict_for S C code known (verdict_of S code) (decided S C code known) trace

  list_as : (l : List Bool) (S : Scenario) (a : Answer) → expanded_with l file ≡ ok S → verdict_of S code ≡ a → (trace : List ℕ)
      → Verdict S code (numbers_of a) (trace_after a trace)
  list_as l S a e i trace = subst (λ (b : Answer). Verdict S code (numbers_of b) (trace_after b trace)) i (list_verdict l S e trace)

  -- a free list, and a locked one
  free_finishes : (l : List Bool) (S : Scenario) → expanded_with l file ≡ ok S → verdict_of S code ≡ free → Finishing file code l
  free_finishes l S e i = record { scenario = S; is_scenario = e; finishes = (list_as l S free e i []).free_when_finishing.0 refl }

  locked_sticks : (l : List Bool) (S : Scenario) (f x : ℕ) (ts : List Step) → expanded_with l file ≡ ok S → verdict_of S code ≡ locked f x ts → Sticking file code l
  locked_sticks l S f x ts e i =
      let s = (list_as l S (locked f x ts) e i []).locked_when_stuck.0 refl in
      record { scenario = S; is_scenario = e; steps = s.0; ends_stuck = s.1 }

  one_scenario : (l : List Bool) (S T : Scenario) → expanded_with l file ≡ ok S → expanded_with l file ≡ ok T → S ≡ T
  one_scenario l S T e d = cc

  free_not_stuck : (l : List Bool) (S : Scenario) → expanded_with l file ≡ ok S → verdict_of S code ≡ free → Sticking file code l → ⊥
  free_not_stuck l S e i s =
      let same : s.scenario ≡ S = one_scenario l s.scenario S s.is_scenario e in
      let z = (list_as l S free e i []).locked_when_stuck.1 (s.steps, subst (λ (T : Scenario). EndsStuck T (channel_of code) s.steps) same s.ends_stuck) in
      omega arith

  locked_not_finishing : (l : List Bool) (S : Scenario) (f x : ℕ) (ts : List Step) → expanded_with l file ≡ ok S → verdict_of S code ≡ locked f x ts → Finishing file code l → ⊥
  locked_not_finishing l S f x ts e i h =
      let same : h.scenario ≡ S = one_scenario l h.scenario S h.is_scenario e in
      let v : Verdict h.scenario code (numbers_of (locked f x ts)) (trace_after (locked f x ts) []) =
      subst⁻¹ (λ (T : Scenario). Verdict T code (numbers_of (locked f x ts)) (trace_after (locked f x ts) [])) same (list_as l S (locked f x ts) e i []) in
      let z = v.free_when_finishing.1 h.finishes in
      omega arith

  -- not refused
  abbrev Passes : List Bool → Type 0
  Passes l = (S : Scenario) × (expanded_with l file ≡ ok S)

  refused_passes_not : (l : List Bool) (number line : ℕ) → expanded_with l file ≡ refusal number line → Passes l → ⊥
  refused_passes_not l number line e p = not_refused (sym e ∙ p.1)

  -- what the search for a refused list found
  record RefusedAt (ls : List (List Bool)) (number line : ℕ) : Type 0 where
    pub list : List Bool
    pub among : Among list ls
    pub is_refused : expanded_with list file ≡ refusal number line
    pub none_ahead : (k : List Bool) → Among k ls → Ahead k list → Passes k

  abbrev RefusalFound : List (List Bool) → Option (ℕ × ℕ) → Type 0
  RefusalFound ls none = (l : List Bool) → Among l ls → Passes l
  RefusalFound ls (some r) = RefusedAt ls r.0 r.1

  refusal_found : (ls : List (List Bool)) → InOrder ls → RefusalFound ls (refusal_in file ls)
  unfolding refusal_in
  refusal_found [] o = λ l a. absurd a
  refusal_found (l ∷ ls) o = go (expanded_with l file) refl (refusal_in file ls) (refusal_found ls o.1)
    where
      also : (S : Scenario) → expanded_with l file ≡ ok S → (k : List Bool) → k ≡ l → Passes k
      also S e k d = (S, ap (λ (z : List Bool). expanded_with z file) d ∙ e)

      behind : (S : Scenario) → expanded_with l file ≡ ok S → (r : Option (ℕ × ℕ)) → RefusalFound ls r → RefusalFound (l ∷ ls) r
      behind S e none f = λ k a. ⊎_elim (also S e k) (f k) a
      behind S e (some r) f =
          record {
            list = f.list;
            among = inr f.among;
            is_refused = f.is_refused;
            none_ahead = λ k a h. ⊎_elim (also S e k) (λ b. f.none_ahead k b h) a;
          }

      go : (w : Out Scenario) → expanded_with l file ≡ w → (r : Option (ℕ × ℕ)) → RefusalFound ls r
          → RefusalFound (l ∷ ls) (elim w [ ok S ↦ r | refusal number line ↦ some (number, line) ])
      go (ok S) e r f = behind S e r f
      go (refusal number line) e r f =
          record {
            list = l;
            among = inl refl;
            is_refused = e;
            none_ahead = λ k a h. ⊎_elim
                (λ (d : k ≡ l). absurd (ahead_one_way l l (subst (λ (z : List Bool). Ahead z l) d h) (subst (λ (z : List Bool). Ahead z l) d h)))
                (λ b. absurd (ahead_one_way l k (o.0 k b) h))
                a;
          }

  -- what the search for a locked list found, where none is refused
  record LockedAt (ls : List (List Bool)) (list : List Bool) (e x : ℕ) (ts : List Step) : Type 0 where
    pub among : Among list ls
    pub scenario : Scenario
    pub is_scenario : expanded_with list file ≡ ok scenario
    pub is_locked : verdict_of scenario code ≡ locked e x ts
    pub none_ahead : (k : List Bool) → Among k ls → Ahead k list → Finishing file code k

  abbrev LockFound : List (List Bool) → ChoiceAnswer → Type 0
  LockFound ls each_free = (l : List Bool) → Among l ls → (S : Scenario) × (expanded_with l file ≡ ok S) × (verdict_of S code ≡ free)
  LockFound ls (first_locked l e x ts) = LockedAt ls l e x ts
  LockFound ls (first_refused number line) = ⊥

  never_refused : (S : Scenario) (C : Causal S) (a : Answer) → Decided S C code known a → (number line : ℕ) → a ≡ refused number line → ⊥
  never_refused S C a (is_free q) number line i = let z : ◌≡◌ {A = ℕ} 0 1 = cc in omega arith
  never_refused S C a (is_locked L) number line i = let z : ◌≡◌ {A = ℕ} 0 1 = cc in omega arith

  lock_found : (ls : List (List Bool)) → InOrder ls → ((l : List Bool) → Among l ls → Passes l) → LockFound ls (lock_in file code ls)
  unfolding lock_in answer_for
  lock_found [] o p = λ l a. absurd a
  lock_found (l ∷ ls) o p =
      subst⁻¹ (λ (w : Out Scenario). LockFound (l ∷ ls) (elim (answer_for w code) [
        | free ↦ lock_in file code ls
        | locked e x ts ↦ first_locked l e x ts
        | refused number line ↦ lock_in file code ls
      ])) here
      (go (verdict_of S code) refl (lock_in file code ls) (lock_found ls o.1 (λ k a. p k (inr a))))
    where
      S : Scenario
      S = (p l (inl refl)).0

      here : expanded_with l file ≡ ok S
      here = (p l (inl refl)).1

      there : (k : List Bool) → k ≡ l → expanded_with k file ≡ ok S
      there k d = ap (λ (z : List Bool). expanded_with z file) d ∙ here

      behind : verdict_of S code ≡ free → (b : ChoiceAnswer) → LockFound ls b → LockFound (l ∷ ls) b
      behind i each_free f = λ k a. ⊎_elim (λ (d : k ≡ l). (S, there k d, i)) (f k) a
      behind i (first_locked q e x ts) f =
          record {
            among = inr f.among;
            scenario = f.scenario;
            is_scenario = f.is_scenario;
            is_locked = f.is_locked;
            none_ahead = λ k a h. ⊎_elim (λ (d : k ≡ l). free_finishes k S (there k d) i) (λ c. f.none_ahead k c h) a;
          }
      behind i (first_refused number line) f = f

      go : (a : Answer) → verdict_of S code ≡ a → (b : ChoiceAnswer) → LockFound ls b
          → LockFound (l ∷ ls) (elim a [ free ↦ b | locked e x ts ↦ first_locked l e x ts | refused number line ↦ b ])
      go free i b f = behind i b f
      go (locked e x ts) i b f =
          record {
            among = inl refl;
            scenario = S;
            is_scenario = here;
            is_locked = i;
            none_ahead = λ k a h. ⊎_elim
                (λ (d : k ≡ l). absurd (ahead_one_way l l (subst (λ (z : List Bool). Ahead z l) d h) (subst (λ (z : List Bool). Ahead z l) d h)))
                (λ c. absurd (ahead_one_way l k (o.0 k c) h))
                a;
          }
      go (refused number line) i b f =
          let C = walk_causal l file fits S here clean in absurd (never_refused S C (verdict_of S code) (decided S C code known) number line i)

  -- The answer over all lists of the file.
  module _ (trace : List ℕ) where
    abbrev ls : List (List Bool)
    ls = lists_of file

    A : AllLists file ls
    A = all_lists file

    refused_right : (number line : ℕ) → RefusedAt ls number line → ChoiceVerdict file code (choice_numbers (first_refused number line)) trace
    refused_right number line R =
        let c : ChoiceList file R.list = (A.each R.list).0 R.among in
        record {
          lists = A;
          causal_order = λ l S e. walk_meets l file fits S e;
          refused_when = (λ i. (R.list, number, line, c, R.is_refused), λ k. refl);
          refused_first = λ i. record { list = R.list; is_list = c; is_refused = R.is_refused; none_ahead = λ k d h. R.none_ahead k ((A.each k).1 d) h };
          locked_when = (λ i. absurd (omega arith), λ k. absurd (refused_passes_not R.list number line R.is_refused (k.0 R.list c)));
          locked_first = λ i. absurd (omega arith);
          free_when = (
            λ i. absurd (omega arith),
            λ h. let f = h R.list c in absurd (refused_passes_not R.list number line R.is_refused (f.scenario, f.is_scenario)),
          );
        }

    module _ (passes : (l : List Bool) → Among l ls → Passes l) where
      none_refused : (l : List Bool) (number line : ℕ) → ChoiceList file l → expanded_with l file ≡ refusal number line → ⊥
      none_refused l number line c e = refused_passes_not l number line e (passes l ((A.each l).1 c))

      locked_right : (l : List Bool) (e x : ℕ) (ts : List Step) → LockedAt ls l e x ts
          → ChoiceVerdict file code (choice_numbers (first_locked l e x ts)) (trace_after (locked e x ts) trace)
      locked_right l e x ts L =
          let c : ChoiceList file l = (A.each l).0 L.among in
          record {
            lists = A;
            causal_order = λ l S e. walk_meets l file fits S e;
            refused_when = (λ i. absurd (omega arith), λ k. absurd (none_refused k.0 k.1 k.2 k.3 k.4));
            refused_first = λ i. absurd (omega arith);
            locked_when = (
              λ i. (λ k d. passes k ((A.each k).1 d), (l, c, locked_sticks l L.scenario e x ts L.is_scenario L.is_locked)),
              λ k. refl,
            );
            locked_first = λ i. record {
              list = l;
              is_list = c;
              list_length = refl;
              list_number = refl;
              scenario = L.scenario;
              is_scenario = L.is_scenario;
              verdict = list_as l L.scenario (locked e x ts) L.is_scenario L.is_locked trace;
              none_ahead = λ k d h. L.none_ahead k ((A.each k).1 d) h;
            };
            free_when = (
              λ i. absurd (omega arith),
              λ h. absurd (locked_not_finishing l L.scenario e x ts L.is_scenario L.is_locked (h l c)),
            );
          }

      free_right : ((l : List Bool) → Among l ls → (S : Scenario) × (expanded_with l file ≡ ok S) × (verdict_of S code ≡ free))
          → ChoiceVerdict file code (choice_numbers each_free) trace
      free_right f =
          record {
            lists = A;
            causal_order = λ l S e. walk_meets l file fits S e;
            refused_when = (λ i. absurd (omega arith), λ k. absurd (none_refused k.0 k.1 k.2 k.3 k.4));
            refused_first = λ i. absurd (omega arith);
            locked_when = (
              λ i. absurd (omega arith),
              λ k. let l = k.1.0 in
                  let g = f l ((A.each l).1 k.1.1) in
                  absurd (free_not_stuck l g.0 g.1 g.2 k.1.2),
            );
            locked_first = λ i. absurd (omega arith);
            free_when = (λ i l c. let g = f l ((A.each l).1 c) in free_finishes l g.0 g.1 g.2, λ h. refl);
          }

      by_lock : (a : ChoiceAnswer) → LockFound ls a → ChoiceVerdict file code (choice_numbers a) (trace_chosen a trace)
      unfolding trace_chosen
      by_lock each_free f = free_right f
      by_lock (first_locked l e x ts) f = locked_right l e x ts f
      by_lock (first_refused number line) f = absurd f

    pub judged_right : ChoiceVerdict file code (choice_numbers (judged_over file code ls)) (trace_chosen (judged_over file code ls) trace)
    unfolding judged_over trace_chosen
    judged_right = go (refusal_in file ls) (refusal_found ls A.in_order)
      where
        go : (r : Option (ℕ × ℕ)) → RefusalFound ls r
            → ChoiceVerdict file code (choice_numbers (elim r [ none ↦ lock_in file code ls | some r ↦ first_refused r.0 r.1 ]))
            (trace_chosen (elim r [ none ↦ lock_in file code ls | some r ↦ first_refused r.0 r.1 ]) trace)
        go none f = by_lock f (lock_in file code ls) (lock_found ls A.in_order f)
        go (some r) f = refused_right r.0 r.1 f

-- what it says that a text is read for its choices
pub record Choosable (text : List ℕ) (code scratch_length trace_length : ℕ) (file : List Row) : Type 0 where
  pub code_known : code < channels
  pub scratch_enough : scratch_least ≤ scratch_length
  pub trace_enough : trace_least ≤ trace_length
  pub read : read_with true text ≡ ok file

pub choosable_parts : (text : List ℕ) (code scratch_length trace_length : ℕ) (file : List Row)
    → choosable text code scratch_length trace_length ≡ ok file
    → Choosable text code scratch_length trace_length file
unfolding choosable
choosable_parts text code scratch_length trace_length file e =
    let a = cond_ok (ltb code channels) _ _ _ file e in
    let b = cond_refused (ltb scratch_length scratch_least || ltb trace_length trace_least) _ _ _ file a.1 in
    let lengths = or_neither (ltb scratch_length scratch_least) (ltb trace_length trace_least) b.0 in
    record {
      code_known = ltb-true code channels a.0;
      scratch_enough = ltb-false scratch_length scratch_least lengths.0;
      trace_enough = ltb-false trace_length trace_least lengths.1;
      read = b.1;
    }

-- The answer is right for every choice list of a text that is read, whatever the text, code and buffers.
pub choice_right : (text : List ℕ) (code scratch_length : ℕ) (trace : List ℕ) (file : List Row)
    → choosable text code scratch_length (length trace) ≡ ok file
    → ChoiceVerdict file code (choice_numbers (choice_answer_of text code scratch_length (length trace)))
    (trace_chosen (choice_answer_of text code scratch_length (length trace)) trace)
unfolding choice_answer_of choice_answer_for
choice_right text code scratch_length trace file e =
    let a = choosable_parts text code scratch_length (length trace) file e in
    subst⁻¹ (λ (o : Out (List Row)). ChoiceVerdict file code (choice_numbers (choice_answer_for o code)) (trace_chosen (choice_answer_for o code) trace)) e
    (judged_right file (read_fits true text file a.read) (read_clean true text file a.read) code a.code_known trace)
