-- What each return of the last turn is to show. Assumes nothing.
use mathlib.Core.Path.{◌≡◌, refl, sym, ◌∙◌, ap}
use mathlib.Core.Logic.{◌⊎◌, inl, inr}
use mathlib.Core.Bool.{Bool, true, false, not, ◌&&◌, and-false}
use mathlib.Core.List.{List, ◌++◌}
use mathlib.Core.Option.{some}
use Prim.Native.Nat.{ℕ, ◌+◌, ◌*◌, ◌<◌, ◌≤◌}
use native.Mathlib.Decide.{ℕ_discrete}
use native.Mathlib.Numerals.{add-one}
use native.Mathlib.Omega.{arith}
use borrow.Author.Tests.{eq-eqb, ne_eqb, lt-ltb, le-ltb, ltb-true, le-leb, lt-leb, leb-true, not-true, not-false}
use lib.Dec.{eqb, ltb, leb}
use lib.ListN.{length, get_or, drop, length-append, length-drop}
use lib.Seq.{drop_at}
use Rattle.model.specs.Limits.{boards, channels, messages_most, trace_least}
use Rattle.model.specs.Refusal.{ok}
use Rattle.model.specs.Bounded.{every}
use Rattle.model.specs.Order.{Scenario}
use Rattle.model.specs.Channel.{Channel, channel_of}
use Rattle.model.specs.Run.{Step, start}
use Rattle.model.specs.Race.{race_rule_of, lowest_race}
use Rattle.model.specs.Schedule.{schedule, bytes_of}
use Rattle.model.specs.Answer as model
use Rattle.model.specs.Answer.{locked_word, numbers_of, trace_after, answer_for}
use Rattle.model.specs.Dispatcher.{no_answer, AsTheCheck}
use Rattle.model.proofs.Bounded.{and_left, and_right, and_both, every_at, every_from, every_fails}
use Rattle.model.proofs.PointThree.{race_lowest, schedule_most}
use Rattle.model.proofs.Trace.{bytes_length}
use Rattle.relation.specs.Width.{width}
use Rattle.relation.specs.Scenario.{scenario_in}
use Rattle.scenario.specs.Contract.{Fit}
use Rattle.schedule.specs.Schedule.{Scheduled}
use Rattle.share.specs.declared.Race.{Race}
use Rattle.share.specs.Search.{race_in}
use Rattle.verdict.proofs.Parts.{verdict_locked, verdict_free}
use Rattle.last_turn.specs.declared.Numbers.{Numbers}
use Rattle.last_turn.specs.Answer.{all_on_boards, numbers_in, zeros, can_lock, conclusion, Concludes}

-- ---- the boards looked at
module _ (on : List ℕ) (count : ℕ) where
  abbrev on_board : ℕ → Bool
  on_board x = ltb (get_or on x 0) boards

  pub record Boarded (end x : ℕ) : Type 0 where
    pub all : every x on_board ≡ true
    pub whole : end ≡ 2 * count
    pub within : x ≤ end

  pub boarded_none : Boarded (2 * count) 0
  unfolding every
  boarded_none = record { all = refl; whole = refl; within = omega arith }

  pub boarded_one : (end x b : ℕ) → Boarded end x → b ≡ get_or on x 0 → b < boards → x < end → Boarded end (x + 1)
  unfolding every
  boarded_one end x b p e l h =
      record {
        all = rw add-one (and_both (every x on_board) (on_board x) p.all (ap (λ n. ltb n boards) (sym e) ∙ lt-ltb b boards l));
        whole = p.whole;
        within = omega arith;
      }

  pub boarded_not : (end x b : ℕ) → Boarded end x → b ≡ get_or on x 0 → boards ≤ b → x < end → false ≡ all_on_boards on count
  boarded_not end x b p e l h = sym (every_fails (2 * count) on_board x (omega (arith, p.whole)) (ap (λ n. ltb n boards) (sym e) ∙ le-ltb b boards l))

  pub boarded_all : (end x : ℕ) → Boarded end x → end ≤ x → true ≡ all_on_boards on count
  boarded_all end x p l = let e : x ≡ 2 * count = omega (arith, p.within, p.whole) in sym (ap (λ n. every n on_board) (sym e) ∙ p.all)

-- all that the schedule asks
pub all_fits : (count : ℕ) (on words : List ℕ) (b : Bool) → b ≡ all_on_boards on count → not b ≡ false → length on ≡ 2 * messages_most
    → length words ≡ 2 * messages_most * width → count ≤ messages_most → Fit count on words
all_fits count on words b e t long wide few =
    record {
      few = few;
      boards_long = long;
      words_long = wide;
      boards_below = λ x h. ltb-true _ _ (every_at (2 * count) (on_board on count) (sym e ∙ not-false b t) x h);
    }

-- three steps a message are enough
schedule_few : (S : Scenario) (c : Channel) (e : ℕ) → length (schedule S c e) ≤ 3 * S.count
unfolding schedule
schedule_few S c e = schedule_most S c e (3 * S.count) start

pub steps_few : (S : Scenario) (c : Channel) (e steps : ℕ) (trace exit : List ℕ) → Scheduled S c e trace exit steps → steps ≤ 3 * S.count
steps_few S c e steps trace exit s = rw s.count (schedule_few S c e)

-- ---- the answer
module _ (count : ℕ) (on words : List ℕ) (code : ℕ) (race : Race) where
  abbrev S : Scenario
  S = scenario_in count on words

  abbrev told : model.Answer
  told = conclusion count on words code race

  abbrev lock : model.Answer
  lock = model.locked race.message race.event (schedule S (channel_of code) race.message)

  is_free : can_lock count on code race ≡ false → told ≡ model.free
  unfolding conclusion
  is_free f = rw f

  is_locked : can_lock count on code race ≡ true → told ≡ lock
  unfolding conclusion
  is_locked t = rw t

  -- no race found: the first test fails
  not_found : race.found ≡ 0 → can_lock count on code race ≡ false
  unfolding can_lock
  not_found z = rw (eq-eqb race.found 0 z)

  -- what is found of a job, and can be locked
  can : (race.found ≡ 0 → ⊥) → count ≤ messages_most → code < channels → race.message < count → all_on_boards on count ≡ true
      → can_lock count on code race ≡ true
  unfolding can_lock
  can n few known l b =
      rw (ne_eqb race.found 0 n, le-leb count messages_most few, lt-ltb code channels known, lt-ltb race.message count l, b)

  -- ---- what each return is to show
  module _ (trace : List ℕ) (r : Numbers) (z : r ≡ zeros) where
    abbrev Free : Type 0
    Free = Concludes count on words code race trace trace (numbers_in r)

    says_free : can_lock count on code race ≡ false → Free
    unfolding trace_after
    says_free f =
        record {
          numbers = ap numbers_in z ∙ ap numbers_of (sym (is_free f));
          trace_left = ap (λ (a : model.Answer). trace_after a trace) (sym (is_free f));
        }

    pub nothing_found : race.found ≡ 0 → Free
    nothing_found i = says_free (not_found i)

    pub too_many : messages_most < count → Free
    unfolding can_lock
    too_many h = says_free (rw (lt-leb count messages_most h, and-false (not (eqb race.found 0))))

    pub no_channel : channels ≤ code → Free
    unfolding can_lock
    no_channel h = says_free (rw (le-ltb code channels h, and-false (not (eqb race.found 0) && leb count messages_most)))

    pub no_message : count ≤ race.message → Free
    unfolding can_lock
    no_message h =
        says_free (rw (le-ltb race.message count h, and-false (not (eqb race.found 0) && leb count messages_most && ltb code channels)))

    pub no_board : (b : Bool) → b ≡ all_on_boards on count → not b ≡ true → Free
    unfolding can_lock
    no_board b e t =
        says_free
        (rw (sym e ∙ not-true b t)
        (and-false (not (eqb race.found 0) && leb count messages_most && ltb code channels && ltb race.message count)))

  pub locked_by : (trace : List ℕ) (steps : ℕ) (exit : List ℕ) (b : Bool) → Scheduled S (channel_of code) race.message trace exit steps → (race.found ≡ 0 → ⊥)
      → count ≤ messages_most → code < channels → race.message < count → b ≡ all_on_boards on count → not b ≡ false
      → Concludes count on words code race trace exit (record { word = 1; one = race.message; two = race.event; three = steps })
  unfolding trace_after
  locked_by trace steps exit b s n few known l e t =
      let i = sym (is_locked (can n few known l (sym e ∙ not-false b t))) in
      record {
        numbers = ap (λ (k : ℕ). record { word = locked_word; one = race.message; two = race.event; three = k }) s.count ∙ ap numbers_of i;
        trace_left = s.trace ∙ ap (λ (a : model.Answer). trace_after a trace) i;
      }

  -- ---- what follows, whatever the turn takes
  module _ (trace exit : List ℕ) (r : model.Numbers) (K : Concludes count on words code race trace exit r) where
    -- free or locked is said
    pub concludes_word : (r ≡ no_answer) ⊎ (r.word ≡ locked_word)
    concludes_word = go (can_lock count on code race) refl
      where
        go : (b : Bool) → can_lock count on code race ≡ b → (r ≡ no_answer) ⊎ (r.word ≡ locked_word)
        go true i = inr (ap (λ (a : model.Numbers). a.word) (K.numbers ∙ ap numbers_of (is_locked i)))
        go false i = inl (K.numbers ∙ ap numbers_of (is_free i))

    -- the trace changes only on "locked"
    pub concludes_kept : (r.word ≡ locked_word → ⊥) → exit ≡ trace
    unfolding trace_after
    concludes_kept n = go (can_lock count on code race) refl
      where
        go : (b : Bool) → can_lock count on code race ≡ b → exit ≡ trace
        go true i = absurd (n (ap (λ (a : model.Numbers). a.word) (K.numbers ∙ ap numbers_of (is_locked i))))
        go false i = K.trace_left ∙ ap (λ (a : model.Answer). trace_after a trace) (is_free i)

    -- and there in the bytes of the steps counted
    pub concludes_locked : trace_least ≤ length trace → r.word ≡ locked_word
        → (2 * r.three ≤ length trace) × (length exit ≡ length trace) × (drop (2 * r.three) exit ≡ drop (2 * r.three) trace)
    unfolding trace_after can_lock
    concludes_locked long w = go (can_lock count on code race) refl
      where
        ts : List Step
        ts = schedule S (channel_of code) race.message

        go : (b : Bool) → can_lock count on code race ≡ b
            → (2 * r.three ≤ length trace) × (length exit ≡ length trace) × (drop (2 * r.three) exit ≡ drop (2 * r.three) trace)
        go true i =
            let three : r.three ≡ length ts = ap (λ (a : model.Numbers). a.three) (K.numbers ∙ ap numbers_of (is_locked i)) in
            let left : exit ≡ bytes_of ts ++ drop (2 * length ts) trace = K.trace_left ∙ ap (λ (a : model.Answer). trace_after a trace) (is_locked i) in
            let bytes : length (bytes_of ts) ≡ 2 * length ts = bytes_length ts in
            let few : count ≤ messages_most = few_of i in
            let most : length ts ≤ 3 * count = steps_most in (
              omega arith,
              rw (left, length-append, length-drop, bytes) (omega arith),
              rw three (ap (drop (2 * length ts)) left ∙ drop_at (bytes_of ts) (drop (2 * length ts) trace) (2 * length ts) bytes),
            )
          where
            steps_most : length ts ≤ 3 * count
            steps_most = schedule_few S (channel_of code) race.message

            few_of : can_lock count on code race ≡ true → count ≤ messages_most
            few_of t =
                leb-true count messages_most
                (and_right (not (eqb race.found 0)) (leb count messages_most)
                (and_left (not (eqb race.found 0) && leb count messages_most) (ltb code channels)
                (and_left (not (eqb race.found 0) && leb count messages_most && ltb code channels) (ltb race.message count)
                (and_left (not (eqb race.found 0) && leb count messages_most && ltb code channels && ltb race.message count) (all_on_boards on count) t))))
        go false i =
            let word : r.word ≡ 0 = ap (λ (a : model.Numbers). a.word) (K.numbers ∙ ap numbers_of (is_free i)) in
            absurd (omega arith)

    -- Of a job, with the race named of its scenario, the answer is the check's.
    pub concludes_check : Fit count on words → code < channels → race_in race ≡ lowest_race S (race_rule_of code) → AsTheCheck S code trace exit r
    unfolding answer_for
    concludes_check f known e =
        record {
          numbers = K.numbers ∙ ap numbers_of (is_check (ℕ_discrete race.found 0));
          trace_left = K.trace_left ∙ ap (λ (a : model.Answer). trace_after a trace) (is_check (ℕ_discrete race.found 0));
        }
      where
        is_check : Dec (race.found ≡ 0) → told ≡ answer_for (ok S) code
        is_check (yes z) = is_free (not_found z) ∙ sym (verdict_free S code (sym e ∙ rw (eq-eqb race.found 0 z)))
        is_check (no n) =
            let named : lowest_race S (race_rule_of code) ≡ some (race.message, race.event) = sym e ∙ rw (ne_eqb race.found 0 n) in
            let inside = (race_lowest S code race.message race.event named).in_scenario.0 in
            let boarded = every_from (2 * count) (on_board on count) (λ x h. lt-ltb (get_or on x 0) boards (f.boards_below x h)) in
            is_locked (can n f.few known inside boarded) ∙ sym (verdict_locked S code race.message race.event named)
