-- Request (k), one job through the calls behind its admission: its turns counted, its answer, and when that comes. Assumes nothing.
use Prim.Native.Nat.{ℕ, zero, suc, ◌+◌, ◌*◌, ◌<◌, ◌≤◌}
use native.Mathlib.Omega.{arith}
use mathlib.Core.Path.{◌≡◌, refl, sym, ◌∙◌, ap, subst, subst⁻¹}
use mathlib.Core.Logic.{◌⊎◌, inl, inr, ⊎_elim}
use mathlib.Core.Bool.{Bool, true, false, cond, ◌&&◌, ◌||◌}
use mathlib.Core.List.{List, [], ◌∷◌, ◌++◌}
use lib.Dec.{eqb, leb}
use lib.ListN.{length, length-append}
use borrow.Author.Tests.{eq-eqb, eqb-true, ne_eqb}
use Rattle.model.specs.Limits.{trace_least, jobs_most}
use Rattle.model.specs.Refusal.{bench_refusal}
use Rattle.model.specs.Order.{Scenario}
use Rattle.model.specs.Answer.{Numbers}
use Rattle.model.specs.Dispatcher.{place_words, Job, DispatcherState, lent_to, trace_to, Outcome, admitted, idle, taken, answered, cancelled, refused, outcome_of, behind, taken_word, answered_word, cancelled_word, idle_word, refused_word, Told, told_as, leaves_all, Member, Entry, says, is_turn_of, counted, is_unrefused_turn, touched_nothing, last_left, KeptFrom, AsTheCheck}
use Rattle.model.proofs.Bounded.{and_left, not_both}
use Rattle.model.proofs.Queue.{OneEach, orderly_of, jobs_most_holds}
use Rattle.model.proofs.Jobs.{names, is_unrefused, job_at, Stands, Gone, Moved, stays, goes_on, is_answered, is_cancelled, one_call, gone_call}
use Rattle.model.proofs.Calls.{trace_enough, Called, Ran, ran_split, told_as_holds, called_one_each, ran_one_each}

-- ---- what an entry says of a job, by the outcome of its call

-- a turn of job n, its answer, its cancellation
pub record Says (n : ℕ) (t : Told) (turning answering cancelling : Bool) : Type 0 where
  turns : (eqb t.word taken_word && eqb t.one n || eqb t.word answered_word && eqb t.one n) ≡ turning
  answers : (eqb t.word answered_word && eqb t.one n) ≡ answering
  cancels : (eqb t.word cancelled_word && eqb t.one n) ≡ cancelling

unnamed_says : (n : ℕ) (o : Outcome) (a : Numbers) → names n o ≡ false → Says n (told_as o a) false false false
unnamed_says n (admitted m p) a h = record { turns = refl; answers = refl; cancels = refl }
unnamed_says n idle a h = record { turns = refl; answers = refl; cancels = refl }
unnamed_says n (taken m) a h = record { turns = rw h; answers = refl; cancels = refl }
unnamed_says n (answered m) a h = record { turns = rw h; answers = rw h; cancels = refl }
unnamed_says n (cancelled m) a h = record { turns = refl; answers = refl; cancels = rw h }
unnamed_says n (refused number line) a h = record { turns = refl; answers = refl; cancels = refl }

taken_says : (n : ℕ) (o : Outcome) (a : Numbers) → o ≡ taken n → Says n (told_as o a) true false false
taken_says n o a e =
    subst⁻¹ (λ (u : Outcome). Says n (told_as u a) true false false) e
    (record { turns = rw (eq-eqb n n refl); answers = refl; cancels = refl })

answered_says : (n : ℕ) (o : Outcome) (a : Numbers) → o ≡ answered n → Says n (told_as o a) true true false
answered_says n o a e =
    subst⁻¹ (λ (u : Outcome). Says n (told_as u a) true true false) e
    (record { turns = rw (eq-eqb n n refl); answers = rw (eq-eqb n n refl); cancels = refl })

cancelled_says : (n : ℕ) (o : Outcome) (a : Numbers) → o ≡ cancelled n → Says n (told_as o a) false false true
cancelled_says n o a e =
    subst⁻¹ (λ (u : Outcome). Says n (told_as u a) false false true) e
    (record { turns = refl; answers = refl; cancels = rw (eq-eqb n n refl) })

unrefused_says : (o : Outcome) (a : Numbers)
    → (eqb (told_as o a).word idle_word || eqb (told_as o a).word taken_word || eqb (told_as o a).word answered_word) ≡ is_unrefused o
unrefused_says (admitted m p) a = refl
unrefused_says idle a = refl
unrefused_says (taken m) a = refl
unrefused_says (answered m) a = refl
unrefused_says (cancelled m) a = refl
unrefused_says (refused number line) a = refl

-- the entry with another answer
abbrev telling_as : Entry → Told → Entry
telling_as e t = record { call = e.call; told = t; words = e.words; trace = e.trace }

-- a call refused with 1 or 2 leaves the dispatcher as it was, and is no turn of the job
untouched_says : (n : ℕ) (e : Entry) (o : Outcome) (a : Numbers) → touched_nothing (telling_as e (told_as o a)) ≡ true
    → (leaves_all o ≡ true) × Says n (told_as o a) false false false
unfolding leaves_all touched_nothing
untouched_says n e (admitted m p) a h = not_both false h refl
untouched_says n e idle a h = not_both false h refl
untouched_says n e (taken m) a h = not_both false h refl
untouched_says n e (answered m) a h = not_both false h refl
untouched_says n e (cancelled m) a h = not_both false h refl
untouched_says n e (refused number line) a h = (refl, record { turns = refl; answers = refl; cancels = refl })

-- an answer is no refusal
answer_touches : (n : ℕ) (t : Told) → (eqb t.word answered_word && eqb t.one n) ≡ true → (eqb t.word refused_word && leb t.one bench_refusal) ≡ false
answer_touches n t e =
    let word : t.word ≡ answered_word = eqb-true t.word answered_word (and_left (eqb t.word answered_word) (eqb t.one n) e) in
    rw (ne_eqb t.word refused_word (λ i. omega arith))

-- ---- one job through the calls behind its admission

-- the words as the last of the calls left them, or those before them
abbrev pub left_by : List ℕ → List Entry → List ℕ
left_by left [] = left
left_by left (e ∷ es) = left_by (last_left left e) es

-- lent as they were left, up to a last call that is not so refused
kept_split : (p : ℕ) (mid : List Entry) (left : List ℕ) (e : Entry) → KeptFrom p left (mid ++ (e ∷ [])) → touched_nothing e ≡ false
    → KeptFrom p left mid × (place_words p (lent_to e.call).words ≡ place_words p (left_by left mid))
kept_split p [] left e k touches = (tt, k.0 touches)
kept_split p (f ∷ mid) left e k touches =
    let r = kept_split p mid (last_left left f) e k.1 touches in ((k.0, r.0), r.1)

member_of : (ahead : List Job) (j : Job) (rest : List Job) → Member j (ahead ++ (j ∷ rest))
member_of [] j rest = inl refl
member_of (k ∷ ahead) j rest = inr (member_of ahead j rest)

module _ {M : Type 0} (state_in : M → DispatcherState) (Holds : M → List ℕ → Job → Scenario → Type 0) (n : ℕ) where
  -- the entry says what the outcome says
  call_says : (d : M) (e : Entry) (c : Called state_in Holds d e) (turning answering cancelling : Bool)
      → ((a : Numbers) → Says n (told_as (outcome_of (state_in d) e.call) a) turning answering cancelling) → Says n e.told turning answering cancelling
  call_says d e c turning answering cancelling h =
      subst⁻¹ (λ (t : Told). Says n t turning answering cancelling) (told_as_holds state_in Holds d e c) (h e.told.answer)

  -- a job that is gone is named by no call, and stays gone
  record Silent (es : List Entry) (last : M) : Type 0 where
    gone : Gone n (state_in last)
    turns : counted (is_turn_of n) es ≡ 0
    answers : counted (says answered_word n) es ≡ 0
    cancels : counted (says cancelled_word n) es ≡ 0

  silent_call : (d : M) (e : Entry) (c : Called state_in Holds d e) → Gone n (state_in d) → Says n e.told false false false × Gone n (state_in c.result.next)
  silent_call d e c g =
      let q = gone_call n (state_in d) e.call g in (
        call_says d e c false false false (λ a. unnamed_says n (outcome_of (state_in d) e.call) a q.unnamed),
        subst⁻¹ (Gone n) c.serves.next q.gone,
      )

  silent : (es : List Entry) (d last : M) → Ran state_in Holds d es last → Gone n (state_in d) → Silent es last
  unfolding counted is_turn_of says
  silent [] d last r g = record { gone = subst (λ (m : M). Gone n (state_in m)) r g; turns = refl; answers = refl; cancels = refl }
  silent (e ∷ es) d last r g =
      let q = silent_call d e r.0 g in
      let more = silent es r.0.result.next last r.1 q.1 in
      record {
        gone = more.gone;
        turns = rw q.0.turns (omega (arith, more.turns));
        answers = rw q.0.answers (omega (arith, more.answers));
        cancels = rw q.0.cancels (omega (arith, more.cancels));
      }

-- The job n, in place p, with its code and its count of messages.
module _ {M : Type 0} (state_in : M → DispatcherState) (Holds : M → List ℕ → Job → Scenario → Type 0) (n p code count : ℕ) where
  abbrev pub job : ℕ → Job
  job t = job_at n p code count t

  -- it stands in the queue
  abbrev pub Held : M → ℕ → ℕ → Type 0
  Held d t x = Stands n p code count (state_in d) t x

  -- What a call does to the job, as its entry says.
  pub data Met (d : M) (t x : ℕ) (e : Entry) (next : M) : Type 0 where
    waits : {y : ℕ} → Held next t y → y ≤ x → (is_unrefused_turn e ≡ true → y < x) → Says n e.told false false false → Met d t x e next
    has_turn : {y : ℕ} → Held next (suc t) y → t < 2 * count → is_unrefused_turn e ≡ true → Says n e.told true false false → Met d t x e next
    has_answer : Gone n (state_in next) → x ≡ 0 → 2 * count ≤ t → outcome_of (state_in d) e.call ≡ answered n → Says n e.told true true false
        → Met d t x e next
    called_off : Gone n (state_in next) → Says n e.told false false true → Met d t x e next

  met : (d : M) (t x : ℕ) (e : Entry) (c : Called state_in Holds d e) → OneEach (state_in d) → Held d t x → Met d t x e c.result.next
  unfolding is_unrefused_turn
  met d t x e c o s = go (one_call n p code count (state_in d) e.call t x o s)
    where
      next : M
      next = c.result.next

      held : (u y : ℕ) → Stands n p code count (behind (state_in d) e.call) u y → Held next u y
      held u y h = subst⁻¹ (λ (k : DispatcherState). Stands n p code count k u y) c.serves.next h

      left : Gone n (behind (state_in d) e.call) → Gone n (state_in next)
      left h = subst⁻¹ (Gone n) c.serves.next h

      unrefused : is_unrefused_turn e ≡ is_unrefused (outcome_of (state_in d) e.call)
      unrefused =
          ap (λ (k : Told). eqb k.word idle_word || eqb k.word taken_word || eqb k.word answered_word) (told_as_holds state_in Holds d e c)
          ∙ unrefused_says (outcome_of (state_in d) e.call) e.told.answer

      o' : Outcome
      o' = outcome_of (state_in d) e.call

      go : Moved n p code count t x (behind (state_in d) e.call) o' → Met d t x e next
      go (stays {y = y} h most fewer other) =
          waits (held t y h) most (λ u. fewer (sym unrefused ∙ u)) (call_says state_in Holds n d e c _ _ _ (λ a. unnamed_says n o' a other))
      go (goes_on {y = y} h more i) =
          has_turn (held (suc t) y h) more (unrefused ∙ ap is_unrefused i) (call_says state_in Holds n d e c _ _ _ (λ a. taken_says n o' a i))
      go (is_answered g first last i) =
          has_answer (left g) first last i (call_says state_in Holds n d e c _ _ _ (λ a. answered_says n o' a i))
      go (is_cancelled g i) = called_off (left g) (call_says state_in Holds n d e c _ _ _ (λ a. cancelled_says n o' a i))

  is_member : (d : M) (t x : ℕ) → Held d t x → Member (job t) (state_in d).queue
  is_member d t x s = subst⁻¹ (Member (job t)) s.queue (member_of s.ahead (job t) s.rest)

  -- held before and behind a call that is lent its words as they were left: they still hold its scenario
  call_keeps : (d : M) (t x u y : ℕ) (e : Entry) (c : Called state_in Holds d e) → OneEach (state_in d) → Held d t x → Held c.result.next u y
      → (left : List ℕ) (S : Scenario) → Holds d (place_words p left) (job t) S → place_words p (lent_to e.call).words ≡ place_words p left
      → Holds c.result.next (place_words p e.words) (job u) S
  call_keeps d t x u y e c o s s' left S h same =
      c.serves.keeps (orderly_of (state_in d) o) (job t) (job u) S (is_member d t x s)
      (subst (λ (k : DispatcherState). Member (job u) k.queue) c.serves.next (is_member c.result.next u y s'))
      refl (subst⁻¹ (λ (w : List ℕ). Holds d w (job t) S) same h)

  -- a call refused with 1 or 2, whatever it is lent: the words that were left still hold it
  untouched_keeps : (d : M) (t u : ℕ) (e : Entry) (c : Called state_in Holds d e) → u ≡ t + cond (is_turn_of n e) 1 0 → touched_nothing e ≡ true
      → (words : List ℕ) (S : Scenario) → Holds d words (job t) S → Holds c.result.next words (job u) S
  unfolding is_turn_of says
  untouched_keeps d t u e c turned untouched words S h =
      let is_told = told_as_holds state_in Holds d e c in
      let q = untouched_says n e (outcome_of (state_in d) e.call) e.told.answer
      (subst (λ (k : Told). touched_nothing (telling_as e k) ≡ true) is_told untouched) in
      let told : Says n e.told false false false = subst⁻¹ (λ (k : Told). Says n k false false false) is_told q.1 in
      let same : u ≡ t + 0 = rw told.turns at turned in
      let same_turns : u ≡ t = omega arith in
      subst⁻¹ (λ (m : M). Holds m words (job u) S) (c.serves.left_alone q.0) (subst⁻¹ (λ (k : ℕ). Holds d words (job k) S) same_turns h)

  -- a call that is lent them as they were left, or is refused with 1 or 2
  lent_keeps : (d : M) (t x u y : ℕ) (e : Entry) (c : Called state_in Holds d e) → OneEach (state_in d) → Held d t x → Held c.result.next u y
      → u ≡ t + cond (is_turn_of n e) 1 0 → (left : List ℕ) (S : Scenario) → Holds d (place_words p left) (job t) S
      → (touched_nothing e ≡ false → place_words p (lent_to e.call).words ≡ place_words p left)
      → Holds c.result.next (place_words p (last_left left e)) (job u) S
  unfolding last_left
  lent_keeps d t x u y e c o s s' turned left S h same = go (touched_nothing e) refl
    where
      go : (b : Bool) → touched_nothing e ≡ b → Holds c.result.next (place_words p (last_left left e)) (job u) S
      go true i = rw i (untouched_keeps d t u e c turned i (place_words p left) S h)
      go false i = rw i (call_keeps d t x u y e c o s s' left S h (same i))

  -- The job still held behind some calls: its turns counted, at most those it needs, and its words.
  pub record Followed (d : M) (left : List ℕ) (t : ℕ) (mid : List Entry) (last : M) : Type 0 where
    turns : ℕ
    position : ℕ
    are_counted : turns ≡ t + counted (is_turn_of n) mid
    not_past : turns ≤ 2 * count
    stands : Held last turns position
    holds : (S : Scenario) → Holds d (place_words p left) (job t) S → KeptFrom p left mid → Holds last (place_words p (left_by left mid)) (job turns) S

  -- one call ahead of them
  followed_more : (d : M) (left : List ℕ) (t x u y : ℕ) (e : Entry) (c : Called state_in Holds d e) (mid : List Entry) (last : M)
      → OneEach (state_in d) → Held d t x → Held c.result.next u y → u ≡ t + cond (is_turn_of n e) 1 0
      → Followed c.result.next (last_left left e) u mid last ⊎ Gone n (state_in last)
      → Followed d left t (e ∷ mid) last ⊎ Gone n (state_in last)
  unfolding counted
  followed_more d left t x u y e c mid last o s s' turned (inr g) = inr g
  followed_more d left t x u y e c mid last o s s' turned (inl f) =
      inl
      (record {
        turns = f.turns;
        position = f.position;
        are_counted = omega (arith, f.are_counted);
        not_past = f.not_past;
        stands = f.stands;
        holds = λ S h k. f.holds S (lent_keeps d t x u y e c o s s' turned left S h k.0) k.1;
      })

  -- behind the calls it is held, or gone
  follow : (mid : List Entry) (d last : M) (left : List ℕ) (t x : ℕ) → Ran state_in Holds d mid last → OneEach (state_in d) → Held d t x → t ≤ 2 * count
      → Followed d left t mid last ⊎ Gone n (state_in last)
  unfolding counted is_turn_of says
  follow [] d last left t x r o s le =
      subst (λ (m : M). Followed d left t [] m ⊎ Gone n (state_in m)) r
      (inl (record { turns = t; position = x; are_counted = omega arith; not_past = le; stands = s; holds = λ S h k. h }))
  follow (e ∷ mid) d last left t x r o s le =
      go (met d t x e c o s) (λ u y s' b. follow mid next last (last_left left e) u y r.1 (called_one_each state_in Holds d e c o) s' b)
    where
      c : Called state_in Holds d e
      c = r.0

      next : M
      next = c.result.next

      go : Met d t x e next → ((u y : ℕ) → Held next u y → u ≤ 2 * count → Followed next (last_left left e) u mid last ⊎ Gone n (state_in last))
          → Followed d left t (e ∷ mid) last ⊎ Gone n (state_in last)
      go (waits {y = y} s' most fewer says') more =
          followed_more d left t x t y e c mid last o s s' (rw says'.turns (omega arith)) (more t y s' le)
      go (has_turn {y = y} s' b unrefused says') more =
          followed_more d left t x (suc t) y e c mid last o s s' (rw says'.turns (omega arith)) (more (suc t) y s' b)
      go (has_answer g first b i says') more = inr (silent state_in Holds n mid next last r.1 g).gone
      go (called_off g says') more = inr (silent state_in Holds n mid next last r.1 g).gone

  -- ---- within so many unrefused turns

  -- the job with x others ahead of it
  pub position_below : (d : M) (t x : ℕ) → OneEach (state_in d) → Held d t x → x < jobs_most
  position_below d t x o s =
      let whole = ap length s.queue ∙ length-append s.ahead (job t ∷ s.rest) in
      omega (arith, jobs_most_holds (state_in d) o, s.position, whole)

  -- with so many turns of its own left before the last: each round of the queue takes one
  pub answered_within : (es : List Entry) (d last : M) (t x left : ℕ) → Ran state_in Holds d es last → OneEach (state_in d) → Held d t x
      → t + left ≡ 2 * count → counted (says cancelled_word n) es ≡ 0 → jobs_most * left + x < counted is_unrefused_turn es
      → counted (says answered_word n) es ≡ 1
  unfolding counted says
  answered_within [] d last t x left r o s sum quiet enough = absurd (omega arith)
  answered_within (e ∷ es) d last t x left r o s sum quiet enough =
      go (met d t x e c o s)
      (λ u y more s' sum' enough'. answered_within es next last u y more r.1 o' s' sum' (omega (arith, quiet)) enough')
    where
      c : Called state_in Holds d e
      c = r.0

      next : M
      next = c.result.next

      o' : OneEach (state_in next)
      o' = called_one_each state_in Holds d e c o

      -- one call nearer: a turn that is not refused, or not one
      nearer : (y : ℕ) (b : Bool) → is_unrefused_turn e ≡ b → y ≤ x → (b ≡ true → y < x) → jobs_most * left + y < counted is_unrefused_turn es
      nearer y true i most fewer =
          let b : y < x = fewer refl in
          let enough' : jobs_most * left + x < 1 + counted is_unrefused_turn es = rw i at enough in
          omega arith
      nearer y false i most fewer = let enough' : jobs_most * left + x < 0 + counted is_unrefused_turn es = rw i at enough in omega arith

      own : (left' : ℕ) → left ≡ left' → t < 2 * count → is_unrefused_turn e ≡ true → (y : ℕ) → Held next (suc t) y
          → (more : ℕ) × (suc t + more ≡ 2 * count) × (jobs_most * more + y < counted is_unrefused_turn es)
      own zero i b u y s' = absurd (omega arith)
      own (suc more) i b u y s' =
          let enough' : jobs_most * left + x < 1 + counted is_unrefused_turn es = rw u at enough in
          let enough'' : jobs_most * suc more + x < 1 + counted is_unrefused_turn es = rw i at enough' in
          let below : y < jobs_most = position_below next (suc t) y o' s' in
          (more, omega arith, omega arith)

      go : Met d t x e next
          → ((u y more : ℕ) → Held next u y → u + more ≡ 2 * count → jobs_most * more + y < counted is_unrefused_turn es
          → counted (says answered_word n) es ≡ 1)
          → counted (says answered_word n) (e ∷ es) ≡ 1
      go (waits {y = y} s' most fewer says') ih =
          rw says'.answers (omega (arith, ih t y left s' sum (nearer y (is_unrefused_turn e) refl most fewer)))
      go (has_turn {y = y} s' b u says') ih =
          let w = own left refl b u y s' in
          rw says'.answers (omega (arith, ih (suc t) y w.0 s' w.1 w.2))
      go (has_answer g first b i says') ih = rw says'.answers (omega (arith, (silent state_in Holds n es next last r.1 g).answers))
      go (called_off g says') ih =
          let one : 1 + counted (says cancelled_word n) es ≡ 0 = rw says'.cancels at quiet in
          absurd (omega arith)

  -- ---- one call of the list

  -- with none ahead of it the job is the head
  head_of_holds : (d : M) (t x : ℕ) (s : Held d t x) → x ≡ 0 → (state_in d).queue ≡ job t ∷ s.rest
  head_of_holds d t x s first = s.queue ∙ go s.ahead (s.position ∙ first)
    where
      go : (ahead : List Job) → length ahead ≡ 0 → ahead ++ (job t ∷ s.rest) ≡ job t ∷ s.rest
      go [] e = refl
      go (k ∷ ahead) e = absurd (omega (arith, e))

  -- The call e behind the calls mid: the job is held until then, and the call does this to it; or it is gone, and the call does not name it.
  pub data Fate (d : M) (left : List ℕ) (mid : List Entry) (before : M) (e : Entry) (next : M) : Type 0 where
    still_held : (f : Followed d left 0 mid before) → Met before f.turns f.position e next → Fate d left mid before e next
    long_gone : Says n e.told false false false → Fate d left mid before e next

  pub record Reached (d : M) (left : List ℕ) (mid : List Entry) (e : Entry) (rest : List Entry) (last : M) : Type 0 where
    before : M
    one_each : OneEach (state_in before)
    call : Called state_in Holds before e
    ran_on : Ran state_in Holds call.result.next rest last
    fate : Fate d left mid before e call.result.next

  pub reached : (d : M) (left : List ℕ) (x : ℕ) (mid : List Entry) (e : Entry) (rest : List Entry) (last : M)
      → Ran state_in Holds d (mid ++ (e ∷ rest)) last → OneEach (state_in d) → Held d 0 x → Reached d left mid e rest last
  reached d left x mid e rest last r o s =
      let parts = ran_split state_in Holds mid (e ∷ rest) d last r in
      let m = parts.0 in
      let c = parts.2.0 in
      let o' = ran_one_each state_in Holds mid d m parts.1 o in
      record {
        before = m;
        one_each = o';
        call = c;
        ran_on = parts.2.1;
        fate =
            ⊎_elim
            (λ (f : Followed d left 0 mid m). still_held f (met m f.turns f.position e c o' f.stands))
            (λ (g : Gone n (state_in m)). long_gone (silent_call state_in Holds n m e c g).0)
            (follow mid d m left 0 x parts.1 o s (omega arith));
      }

  module _ (d : M) (left : List ℕ) (mid : List Entry) (e : Entry) (rest : List Entry) (last : M) (r : Reached d left mid e rest last) where
    abbrev pub next : M
    next = r.call.result.next

    -- a turn of the job answers it exactly if it is number 2n + 1
    pub last_turn_holds : is_turn_of n e ≡ true → says answered_word n e ≡ eqb (counted (is_turn_of n) mid) (2 * count)
    unfolding is_turn_of says
    last_turn_holds turning = go r.fate
      where
        go : Fate d left mid r.before e next → says answered_word n e ≡ eqb (counted (is_turn_of n) mid) (2 * count)
        go (still_held f (waits s most fewer s')) = not_both (is_turn_of n e) turning s'.turns
        go (still_held f (has_turn s b u s')) =
            let so : f.turns ≡ 0 + counted (is_turn_of n) mid = f.are_counted in
            s'.answers ∙ sym (ne_eqb (counted (is_turn_of n) mid) (2 * count) (λ i. omega arith))
        go (still_held f (has_answer g first b i s')) =
            let so : f.turns ≡ 0 + counted (is_turn_of n) mid = f.are_counted in
            let most : f.turns ≤ 2 * count = f.not_past in
            s'.answers ∙ sym (eq-eqb (counted (is_turn_of n) mid) (2 * count) (omega arith))
        go (still_held f (called_off g s')) = not_both (is_turn_of n e) turning s'.turns
        go (long_gone s) = not_both (is_turn_of n e) turning s.turns

    -- answered or cancelled it leaves
    pub leaves : (says answered_word n e || says cancelled_word n e) ≡ true → counted (is_turn_of n) rest + counted (says cancelled_word n) rest ≡ 0
    unfolding says
    leaves over = go r.fate
      where
        never : (turning : Bool) → Says n e.told turning false false → counted (is_turn_of n) rest + counted (says cancelled_word n) rest ≡ 0
        never turning s = not_both (says answered_word n e || says cancelled_word n e) over (rw (s.answers, s.cancels))

        gone : Gone n (state_in next) → counted (is_turn_of n) rest + counted (says cancelled_word n) rest ≡ 0
        gone g = let s = silent state_in Holds n rest next last r.ran_on g in omega (arith, s.turns, s.cancels)

        go : Fate d left mid r.before e next → counted (is_turn_of n) rest + counted (says cancelled_word n) rest ≡ 0
        go (still_held f (waits s most fewer s')) = never false s'
        go (still_held f (has_turn s b u s')) = never true s'
        go (still_held f (has_answer g first b i s')) = gone g
        go (still_held f (called_off g s')) = gone g
        go (long_gone s) = never false s

    -- the answer is the check's, where the words hold the scenario and are lent as they were left
    pub answered_as : says answered_word n e ≡ true → KeptFrom p left (mid ++ (e ∷ [])) → (S : Scenario) → Holds d (place_words p left) (job 0) S
        → AsTheCheck S code (trace_to e.call) e.trace e.told.answer × (trace_least ≤ length (trace_to e.call))
    unfolding says touched_nothing
    answered_as answers kept S h = go r.fate
      where
        never : (turning cancelling : Bool) → Says n e.told turning false cancelling
            → AsTheCheck S code (trace_to e.call) e.trace e.told.answer × (trace_least ≤ length (trace_to e.call))
        never turning cancelling s = not_both (says answered_word n e) answers s.answers

        go : Fate d left mid r.before e next
            → AsTheCheck S code (trace_to e.call) e.trace e.told.answer × (trace_least ≤ length (trace_to e.call))
        go (still_held f (waits s most fewer s')) = never _ _ s'
        go (still_held f (has_turn s b u s')) = never _ _ s'
        go (still_held f (has_answer g first b i s')) =
            let k = kept_split p mid left e kept (answer_touches n e.told answers) in
            let held = subst⁻¹ (λ (w : List ℕ). Holds r.before w (job f.turns) S) k.1 (f.holds S h k.0) in
            let c = r.call.serves.answers (orderly_of (state_in r.before) r.one_each) (job f.turns) f.stands.rest S
            (head_of_holds r.before f.turns f.position f.stands first) i held in (
              subst⁻¹ (λ (t : Told). AsTheCheck S code (trace_to e.call) e.trace t.answer) r.call.told c,
              trace_enough (state_in r.before) e.call n i,
            )
        go (still_held f (called_off g s')) = never _ _ s'
        go (long_gone s) = never _ _ s
