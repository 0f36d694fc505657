-- A turn of the head: unanswered it goes behind the last, answered it leaves. Assumes nothing.
use mathlib.Core.Path.{◌≡◌, refl, sym, ◌∙◌, ap, subst, subst⁻¹}
use mathlib.Core.Logic.{inl, inr, ⊎_elim}
use mathlib.Core.Bool.{true, false}
use mathlib.Core.List.{List, [], ◌∷◌, ◌++◌}
use mathlib.Core.Option.{some}
use Prim.Native.Nat.{ℕ, ◌-◌, ◌*◌, ◌%◌, ◌≤◌}
use native.Mathlib.Omega.{arith}
use borrow.Author.Tests.{leb-true, leb-false}
use lib.ListN.{length, set, drop}
use lib.Seq.{get_or-set_same, get_or-set_other}
use borrow.Rule.Slice.PartMut.{mid_of}
use Rattle.model.specs.Limits.{trace_least, jobs_most, job_words_least}
use Rattle.model.specs.Order.{Scenario}
use Rattle.model.specs.Race.{race_rule_of, lowest_race}
use Rattle.model.specs.Answer.{Numbers}
use Rattle.model.specs.Dispatcher as model
use Rattle.model.specs.Dispatcher.{Lent, place_words, DispatcherState, is_last, turned, Call, turn, taken, answered, outcome_of, behind, no_answer, told_as, taken_word, answered_word, touches_nothing, leaves_all, WordsLeft, Served, Member, Orderly, AsTheCheck, Serves}
use Rattle.model.proofs.Bounded.{not_both}
use Rattle.model.proofs.CallCases.{again}
use Rattle.relation.specs.Scenario.{scenario_in}
use Rattle.queue.specs.declared.Job.{Job}
use Rattle.queue.specs.declared.Queue.{Queue}
use Rattle.queue.specs.Bridge.{job_in, queue_in, head_of}
use Rattle.share.specs.declared.Race.{Race}
use Rattle.share.specs.Search.{race_in, searched, Looks}
use Rattle.share.proofs.Turns.{looks_on, searched_all}
use Rattle.places.specs.Words.{FreeCleared}
use Rattle.places.proofs.Parts.{from, to, part_is}
use Rattle.last_turn.specs.Answer.{Concludes}
use Rattle.last_turn.proofs.Answers.{concludes_word, concludes_kept, concludes_locked, concludes_check}
use Rattle.held_jobs.specs.Held.{Held, dispatcher_of, boards_at, race_at, HoldsIn, HoldsJob}
use Rattle.held_jobs.proofs.Members.{member_last, one_job, place_below, place_apart, place_held}
use Rattle.held_jobs.proofs.Cases.{Case, turn_taken, turn_answered}
use Rattle.held_jobs.proofs.Serving.{words_cleared, holds_same, words_same}

pub head_first : (js : List model.Job) (j : model.Job) → head_of js ≡ some j → js ≡ j ∷ drop 1 js
head_first [] j e = let z : ◌≡◌ {A = ℕ} 0 1 = cc in absurd (omega arith)
head_first (k ∷ js) j e = let i : k ≡ j = cc in ap (λ (h : model.Job). h ∷ js) i

module _ (d : Held) (job : Job) (words : List ℕ) (head : head_of (queue_in d.queue) ≡ some (job_in job)) (long : job_words_least ≤ length words)
    (races : length d.races ≡ jobs_most) where
  abbrev J : model.Job
  J = job_in job

  abbrev js : List model.Job
  js = drop 1 (queue_in d.queue)

  abbrev place : ℕ
  place = job.place % jobs_most

  queue_is : queue_in d.queue ≡ J ∷ js
  queue_is = head_first (queue_in d.queue) J head

  head_in : Member J (queue_in d.queue)
  head_in = subst⁻¹ (Member J) queue_is (inl refl)

  in_queue : (k : model.Job) → Member k js → Member k (queue_in d.queue)
  in_queue k m = subst⁻¹ (Member k) queue_is (inr m)

  module _ (o : Orderly (dispatcher_of d)) where
    place_is : place ≡ job.place
    place_is = omega (arith, place_below (dispatcher_of d) o J head_in)

  -- the words, the boards and the race of the head's place, as the code reads them
  abbrev pub part : List ℕ
  part = mid_of (from place) (to place - from place) words

  abbrev pub race : Race
  race = race_at d place

  abbrev pub on : List ℕ
  on = boards_at d place

  module _ (o : Orderly (dispatcher_of d)) where
    part_of : part ≡ place_words job.place words
    part_of = part_is words place ∙ ap (λ p. place_words p words) (place_is o)

    race_of : race ≡ race_at d job.place
    race_of = ap (race_at d) (place_is o)

    on_of : on ≡ boards_at d job.place
    on_of = ap (boards_at d) (place_is o)

    holds_read : (S : Scenario) → HoldsJob d (place_words job.place words) J S → HoldsIn on race part J S
    holds_read S H =
        subst⁻¹ (λ (b : List ℕ). HoldsIn b race part J S) on_of
        (subst⁻¹ (λ (r : Race). HoldsIn (boards_at d job.place) r part J S) race_of
        (subst⁻¹ (λ (w : List ℕ). HoldsIn (boards_at d job.place) (race_at d job.place) w J S) part_of H))

  -- ---- unanswered
  module _ (early : is_last J ≡ false) (found : Race) (looks : Looks job.count on part job.code job.turns race found)
      (left : Queue) (is_left : queue_in left ≡ turned (queue_in d.queue)) (exit : List ℕ) (F : FreeCleared (queue_in left) words exit) where
    abbrev next : Held
    next = record { queue = left; given = d.given; races = set d.races place found; boards = d.boards }

    -- the head's search goes one turn on
    holds_on : (o : Orderly (dispatcher_of d)) (S : Scenario) → HoldsJob d (place_words job.place words) J S → place_words job.place exit ≡ place_words job.place words
        → HoldsJob next (place_words job.place exit) (again J) S
    unfolding is_last
    holds_on o S H w =
        let I = holds_read o S H in
        let due = leb-false (2 * job.count) job.turns early in
        let raced : race_at next job.place ≡ found =
        ap (λ p. race_at next p) (sym (place_is o)) ∙ get_or-set_same d.races place found _ (omega arith) in
        subst⁻¹ (λ (r : Race). HoldsIn (boards_at d job.place) r (place_words job.place exit) (again J) S) raced
        (subst (λ (b : List ℕ). HoldsIn b found (place_words job.place exit) (again J) S) (on_of o)
        (subst⁻¹ (λ (l : List ℕ). HoldsIn on found l (again J) S) (w ∙ sym (part_of o))
        (record {
          in_place = I.in_place;
          fit = I.fit;
          is_scenario = I.is_scenario;
          is_channel = I.is_channel;
          turns_most = omega arith;
          found = looks_on job.count on part job.code job.turns race found looks I.fit.few I.is_channel (omega arith) I.found;
        })))

    module _ (l : Lent) (same : l.words ≡ words) (trace : List ℕ) (t : trace_least ≤ length trace) where
      abbrev c : Call
      c = turn l trace

      C : Case (dispatcher_of d) c (taken job.number) (record { queue = js ++ (again J ∷ []); given = d.given })
      C = turn_taken (dispatcher_of d) l trace (rw same long) t J js queue_is early

      behind_is : dispatcher_of next ≡ behind (dispatcher_of d) c
      unfolding turned
      behind_is = ap (λ (q : List model.Job). record { queue = q; given = d.given }) (is_left ∙ ap turned queue_is ∙ rw early) ∙ sym C.leaves

      W : WordsLeft (dispatcher_of d) c exit
      unfolding touches_nothing
      W =
          words_cleared (dispatcher_of d) c words exit (ap touches_nothing C.outcome)
          (subst (λ (q : DispatcherState). FreeCleared q.queue words exit) behind_is F) (ap length (sym same)) (ap (drop job_words_least) (sym same)) (λ p h f. ap (place_words p) (sym same))

      keeps : Orderly (dispatcher_of d) → (j k : model.Job) (S : Scenario) → Member j (dispatcher_of d).queue → Member k (behind (dispatcher_of d) c).queue
          → j.number ≡ k.number → HoldsJob d (place_words j.place l.words) j S → HoldsJob next (place_words k.place exit) k S
      keeps o j k S a b m H =
          ⊎_elim
          (λ u.
          let i : j ≡ k = one_job (dispatcher_of d) o j k a (in_queue k u) m in
          let apart : (k.place ≡ place → ⊥) = λ e. place_apart (dispatcher_of d) o J k js queue_is u (e ∙ place_is o) in
          holds_same d next (place_words k.place l.words) (place_words k.place exit) k S refl
          (get_or-set_other d.races place k.place found _ apart)
          (words_same (dispatcher_of d) c exit k W o (in_queue k u) b)
          (subst (λ (h : model.Job). HoldsJob d (place_words h.place l.words) h S) i H))
          (λ u.
          let number : j.number ≡ J.number = m ∙ ap (λ (h : model.Job). h.number) u in
          let i : j ≡ J = one_job (dispatcher_of d) o j J a head_in number in
          let held : Member (again J) (behind (dispatcher_of d) c).queue = subst (λ (h : model.Job). Member h (behind (dispatcher_of d) c).queue) u b in
          let kept : place_words job.place exit ≡ place_words job.place l.words =
          W.held_kept job.place (place_below (dispatcher_of d) o J head_in) (place_held (dispatcher_of d) J head_in) (place_held (behind (dispatcher_of d) c) (again J) held) in
          subst⁻¹ (λ (h : model.Job). HoldsJob next (place_words h.place exit) h S) u
          (holds_on o S (subst (λ (w : List ℕ). HoldsJob d (place_words job.place w) J S) same (subst (λ (h : model.Job). HoldsJob d (place_words h.place l.words) h S) i H))
          (kept ∙ ap (place_words job.place) same)))
          (member_last k (again J) js (subst (λ (q : DispatcherState). Member k q.queue) C.leaves b))

      pub taken_serves : (r : Served Held) → r ≡ record { told = record { word = taken_word; one = job.number; two = 0; answer = no_answer }; next = next }
          → Serves dispatcher_of HoldsJob d c exit trace r
      unfolding leaves_all
      taken_serves r e =
          subst⁻¹ (λ (s : Served Held). Serves dispatcher_of HoldsJob d c exit trace s) e
          (record {
            told = ap (λ u. told_as u no_answer) (sym C.outcome);
            next = behind_is;
            left_alone = λ u. not_both (leaves_all (outcome_of (dispatcher_of d) c)) u (ap leaves_all C.outcome);
            words_left = W;
            free_or_locked = inl refl;
            trace_kept = λ n. refl;
            trace_locked = λ u. absurd (omega (arith, u));
            admits = λ m p S i f a. let z : ◌≡◌ {A = ℕ} 0 1 = cc in absurd (omega arith);
            keeps = keeps;
            answers = λ o j ks S q i H.
                let clash : taken job.number ≡ answered j.number = sym C.outcome ∙ i in
                let z : ◌≡◌ {A = ℕ} 0 1 = cc in
                absurd (omega arith);
          })

  -- ---- answered
  module _ (late : is_last J ≡ true) (left : Queue) (is_left : queue_in left ≡ turned (queue_in d.queue)) (exit : List ℕ) (F : FreeCleared (queue_in left) words exit)
      (trace trace_exit : List ℕ) (answer : Numbers) (K : Concludes job.count on part job.code race trace trace_exit answer) where
    abbrev rest : Held
    rest = record { queue = left; given = d.given; races = d.races; boards = d.boards }

    -- a job at its last turn has looked everywhere
    as_check : Orderly (dispatcher_of d) → (S : Scenario) → HoldsJob d (place_words job.place words) J S → AsTheCheck S job.code trace trace_exit answer
    unfolding is_last
    as_check o S H =
        let I = holds_read o S H in
        let due = leb-true (2 * job.count) job.turns late in
        let all : job.turns ≡ 2 * job.count = omega (arith, I.turns_most) in
        let few = I.fit.few in
        let named : race_in race ≡ lowest_race (scenario_in job.count on part) (race_rule_of job.code) =
        I.found ∙ ap (searched (scenario_in job.count on part) (race_rule_of job.code)) all
        ∙ searched_all (scenario_in job.count on part) (race_rule_of job.code) (omega arith) in
        subst (λ (T : Scenario). AsTheCheck T job.code trace trace_exit answer) I.is_scenario (concludes_check job.count on part job.code race trace trace_exit answer K I.fit I.is_channel named)

    module _ (l : Lent) (same : l.words ≡ words) (t : trace_least ≤ length trace) where
      abbrev last : Call
      last = turn l trace

      D : Case (dispatcher_of d) last (answered job.number) (record { queue = js; given = d.given })
      D = turn_answered (dispatcher_of d) l trace (rw same long) t J js queue_is late

      rest_is : dispatcher_of rest ≡ behind (dispatcher_of d) last
      unfolding turned
      rest_is = ap (λ (q : List model.Job). record { queue = q; given = d.given }) (is_left ∙ ap turned queue_is ∙ rw late) ∙ sym D.leaves

      lasting : WordsLeft (dispatcher_of d) last exit
      unfolding touches_nothing
      lasting =
          words_cleared (dispatcher_of d) last words exit (ap touches_nothing D.outcome)
          (subst (λ (q : DispatcherState). FreeCleared q.queue words exit) rest_is F) (ap length (sym same)) (ap (drop job_words_least) (sym same)) (λ p h f. ap (place_words p) (sym same))

      pub answered_serves : (r : Served Held) → r ≡ record { told = record { word = answered_word; one = job.number; two = 0; answer = answer }; next = rest }
          → Serves dispatcher_of HoldsJob d last exit trace_exit r
      unfolding leaves_all
      answered_serves r e =
          subst⁻¹ (λ (s : Served Held). Serves dispatcher_of HoldsJob d last exit trace_exit s) e
          (record {
            told = ap (λ u. told_as u answer) (sym D.outcome);
            next = rest_is;
            left_alone = λ u. not_both (leaves_all (outcome_of (dispatcher_of d) last)) u (ap leaves_all D.outcome);
            words_left = lasting;
            free_or_locked = concludes_word job.count on part job.code race trace trace_exit answer K;
            trace_kept = concludes_kept job.count on part job.code race trace trace_exit answer K;
            trace_locked = concludes_locked job.count on part job.code race trace trace_exit answer K t;
            admits = λ m p S i f a. let z : ◌≡◌ {A = ℕ} 0 1 = cc in absurd (omega arith);
            keeps = λ o j k S a b m H.
                let u : Member k js = subst (λ (q : DispatcherState). Member k q.queue) D.leaves b in
                let i : j ≡ k = one_job (dispatcher_of d) o j k a (in_queue k u) m in
                holds_same d rest (place_words k.place l.words) (place_words k.place exit) k S refl refl
                (words_same (dispatcher_of d) last exit k lasting o (in_queue k u) b)
                (subst (λ (h : model.Job). HoldsJob d (place_words h.place l.words) h S) i H);
            answers = λ o j ks S q i H.
                let two : J ∷ js ≡ j ∷ ks = sym queue_is ∙ q in
                let one : J ≡ j = cc in
                subst (λ (h : model.Job). AsTheCheck S h.code trace trace_exit answer) one
                (as_check o S
                (subst (λ (w : List ℕ). HoldsJob d (place_words job.place w) J S) same
                (subst⁻¹ (λ (h : model.Job). HoldsJob d (place_words h.place l.words) h S) one H)));
          })
