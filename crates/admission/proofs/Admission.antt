-- A new job goes behind the last, into the lowest free place. Assumes nothing.
use mathlib.Core.Path.{◌≡◌, refl, sym, ◌∙◌, ap, subst, subst⁻¹}
use mathlib.Core.Logic.{inl, inr, ⊎_elim}
use mathlib.Core.Bool.{true, false}
use mathlib.Core.List.{List, [], ◌∷◌, ◌++◌}
use mathlib.Core.Option.{some}
use Prim.Native.Nat.{ℕ, suc, ◌+◌, ◌<◌, ◌≤◌}
use native.Mathlib.Numerals.{add-one}
use native.Mathlib.Omega.{arith}
use lib.ListN.{length, get_or, set}
use lib.Seq.{get_or-set_same, get_or-set_other}
use Rattle.model.specs.Limits.{channels, text_most, jobs_most, job_numbers, job_words_least}
use Rattle.model.specs.Refusal.{ok}
use Rattle.model.specs.Order.{Scenario}
use Rattle.model.specs.Answer.{sheet_of}
use Rattle.model.specs.Dispatcher as model
use Rattle.model.specs.Dispatcher.{Lent, length_at, code_at, sheet_at, place_words, DispatcherState, is_free, free_place, admissible, new_job, admitting, Call, admit, admitted, answered, outcome_of, behind, no_answer, told_as, admitted_word, touches_nothing, leaves_all, WordsLeft, Served, Member, Orderly}
use Rattle.model.proofs.Bounded.{not_both, lowest_some}
use Rattle.relation.specs.Scenario.{scenario_in}
use Rattle.scenario.specs.Contract.{Fit}
use Rattle.queue.specs.declared.Queue.{Queue}
use Rattle.queue.specs.Bridge.{queue_in, is_free_in, free_place_in}
use Rattle.share.specs.declared.Race.{Race}
use Rattle.share.specs.Search.{searched}
use Rattle.places.specs.Words.{FreeCleared, Put}
use Rattle.held_jobs.specs.declared.Boards.{Boards}
use Rattle.held_jobs.specs.Held.{Held, dispatcher_of, boards_at, race_at, HoldsIn, HoldsJob, lent}
use Rattle.admission.specs.Admission.{Admits}
use Rattle.held_jobs.proofs.Members.{member_last, one_job, number_below, place_held}
use Rattle.held_jobs.proofs.Cases.{Case, admit_admitted, sheet_judged}
use Rattle.held_jobs.proofs.Serving.{words_cleared, holds_same, words_same}

-- the lowest free place is one of the eight, and free
pub place_free : (js : List model.Job) (p : ℕ) → free_place_in js ≡ some p → (p < jobs_most) × (is_free_in js p ≡ true)
place_free js p e = let L = lowest_some jobs_most (is_free_in js) p e in (L.below, L.passes)

-- the place of a job held is another
pub not_place : (d : Held) (place : ℕ) → free_place_in (queue_in d.queue) ≡ some place → (p : ℕ) → is_free (dispatcher_of d) p ≡ false → p ≡ place → ⊥
unfolding is_free
not_place d place free p f e = not_both (is_free_in (queue_in d.queue) place) (place_free (queue_in d.queue) place free).1 (ap (is_free_in (queue_in d.queue)) (sym e) ∙ f)

abbrev pub unsought : Race
unsought = record { found = 0; message = 0; event = 0 }

module _ (d : Held) (place code count : ℕ) (boards written exit : List ℕ) (free : free_place_in (queue_in d.queue) ≡ some place)
    (known : code < channels) (left : d.given < job_numbers) (races : length d.races ≡ jobs_most) (long : length d.boards ≡ jobs_most)
    (longer : Queue)
    (is_longer : queue_in longer ≡ queue_in d.queue ++ (record { number = d.given; place = place; code = code; count = count; turns = 0 } ∷ []))
    (F : FreeCleared (queue_in longer) written exit) where
  abbrev new : model.Job
  new = record { number = d.given; place = place; code = code; count = count; turns = 0 }

  abbrev next : Held
  next =
      record {
        queue = longer;
        given = d.given + 1;
        races = set d.races place unsought;
        boards = set d.boards place (record { on = boards });
      }

  below : place < jobs_most
  below = (place_free (queue_in d.queue) place free).0

  module _ (sheets lengths codes words : List ℕ) (enough : job_words_least ≤ length words) (is_code : code ≡ get_or codes place channels) (few : get_or lengths place 0 ≤ text_most)
      (is_sheet : sheet_of (sheet_at (lent sheets lengths codes words) place) ≡ ok (scenario_in count boards (place_words place written)))
      (fit : Fit count boards (place_words place written)) (P : Put place (place_words place written) words written) where
    abbrev l : Lent
    l = lent sheets lengths codes words

    abbrev c : Call
    c = admit l

    abbrev T : Scenario
    T = scenario_in count boards (place_words place written)

    free_there : free_place (dispatcher_of d) ≡ some place
    unfolding free_place is_free
    free_there = free

    accepted : admissible (dispatcher_of d) l ≡ ok T
    unfolding code_at length_at
    accepted = sheet_judged (dispatcher_of d) l place free_there (rw (sym is_code) known) enough left few ∙ is_sheet

    C : Case (dispatcher_of d) c (admitted d.given place) (admitting (dispatcher_of d) place (code_at l place) count)
    C = admit_admitted (dispatcher_of d) l place T free_there accepted

    next_is : dispatcher_of next ≡ behind (dispatcher_of d) c
    unfolding admitting code_at
    next_is =
        ap (λ (q : List model.Job). record { queue = q; given = d.given + 1 }) is_longer
        ∙ ap (λ k. record { queue = queue_in d.queue ++ (new ∷ []); given = k }) (add-one d.given)
        ∙ ap (λ k. record { queue = queue_in d.queue ++ (record { number = d.given; place = place; code = k; count = count; turns = 0 } ∷ []); given = suc d.given }) is_code
        ∙ sym C.leaves

    new_in : Member new (queue_in longer)
    new_in = subst⁻¹ (Member new) is_longer (last (queue_in d.queue))
      where
        last : (js : List model.Job) → Member new (js ++ (new ∷ []))
        last [] = inl refl
        last (j ∷ js) = inr (last js)

    W : WordsLeft (dispatcher_of d) c exit
    unfolding touches_nothing
    W =
        words_cleared (dispatcher_of d) c written exit (ap touches_nothing C.outcome)
        (subst (λ (q : DispatcherState). FreeCleared q.queue written exit) next_is F) P.kept P.rest (λ p h f. P.others p h (not_place d place free p f))

    -- the new job is held
    holds_new : HoldsIn (boards_at next place) (race_at next place) (place_words place exit) new T
    unfolding searched is_free
    holds_new =
        let on : boards_at next place ≡ boards = ap (λ (b : Boards). b.on) (get_or-set_same d.boards place (record { on = boards }) _ (omega (arith, below))) in
        let raced : race_at next place ≡ unsought = get_or-set_same d.races place unsought _ (omega (arith, below)) in
        let kept : place_words place exit ≡ place_words place written =
        F.held place below (place_held (record { queue = queue_in longer; given = 0 }) new new_in) in
        subst⁻¹ (λ (b : List ℕ). HoldsIn b (race_at next place) (place_words place exit) new T) on
        (subst⁻¹ (λ (r : Race). HoldsIn boards r (place_words place exit) new T) raced
        (subst⁻¹ (λ (w : List ℕ). HoldsIn boards unsought w new T) kept
        (record { in_place = below; fit = fit; is_scenario = refl; is_channel = known; turns_most = omega arith; found = refl })))

    admits : (m : Lent) (p : ℕ) (S : Scenario) → c ≡ admit m → free_place (dispatcher_of d) ≡ some p → admissible (dispatcher_of d) m ≡ ok S
        → HoldsJob next (place_words p exit) (new_job (dispatcher_of d) p (code_at m p) S.count) S
    unfolding code_at
    admits m p S i f a =
        let one : l ≡ m = cc in
        let two : some place ≡ some p = sym free_there ∙ f in
        let at : place ≡ p = cc in
        let three : ok T ≡ ok S = sym accepted ∙ ap (admissible (dispatcher_of d)) one ∙ a in
        let is : T ≡ S = cc in
        subst (λ (m : Lent). HoldsJob next (place_words p exit) (new_job (dispatcher_of d) p (code_at m p) S.count) S) one
        (subst (λ (S : Scenario). HoldsJob next (place_words p exit) (new_job (dispatcher_of d) p (code_at l p) S.count) S) is
        (subst (λ (p : ℕ). HoldsJob next (place_words p exit) (new_job (dispatcher_of d) p (code_at l p) count) T) at
        (subst (λ (k : ℕ). HoldsIn (boards_at next place) (race_at next place) (place_words place exit) (new_job (dispatcher_of d) place k count) T) is_code holds_new)))

    keeps : Orderly (dispatcher_of d) → (j k : model.Job) (S : Scenario) → Member j (dispatcher_of d).queue → Member k (behind (dispatcher_of d) c).queue
        → j.number ≡ k.number → HoldsJob d (place_words j.place words) j S → HoldsJob next (place_words k.place exit) k S
    keeps o j k S a b m H =
        ⊎_elim
        (λ u.
        let i : j ≡ k = one_job (dispatcher_of d) o j k a u m in
        let other = not_place d place free k.place (place_held (dispatcher_of d) k u) in
        holds_same d next (place_words k.place words) (place_words k.place exit) k S
        (ap (λ (b : Boards). b.on) (get_or-set_other d.boards place k.place (record { on = boards }) _ other))
        (get_or-set_other d.races place k.place unsought _ other)
        (words_same (dispatcher_of d) c exit k W o u b)
        (subst (λ (h : model.Job). HoldsJob d (place_words h.place words) h S) i H))
        (λ u.
        let number : k.number ≡ d.given = ap (λ (h : model.Job). h.number) u in
        absurd (omega (arith, number_below (dispatcher_of d) o j a)))
        (member_last k new (queue_in d.queue) (subst (λ (q : List model.Job). Member k q) is_longer (subst⁻¹ (λ (q : DispatcherState). Member k q.queue) next_is b)))

    pub admitted_serves : (r : Served Held) → r ≡ record { told = record { word = admitted_word; one = d.given; two = place; answer = no_answer }; next = next }
        → Admits d sheets lengths codes words exit r
    unfolding leaves_all
    admitted_serves r e =
        subst⁻¹ (λ (s : Served Held). Admits d sheets lengths codes words exit s) e
        (record {
          told = ap (λ u. told_as u no_answer) (sym C.outcome);
          next = next_is;
          left_alone = λ u. not_both (leaves_all (outcome_of (dispatcher_of d) c)) u (ap leaves_all C.outcome);
          words_left = W;
          free_or_locked = inl refl;
          trace_kept = λ u. refl;
          trace_locked = λ u. absurd (omega (arith, u));
          admits = admits;
          keeps = keeps;
          answers = λ o j ks S q i H.
              let clash : admitted d.given place ≡ answered j.number = sym C.outcome ∙ i in
              let z : ◌≡◌ {A = ℕ} 0 1 = cc in
              absurd (omega arith);
        })
