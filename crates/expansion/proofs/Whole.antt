-- The whole expansion: the walk begins with nothing met, each block goes on with it, and what it leaves is the paper's answer.
-- Assumes nothing.
use Prim.Native.Nat.{ℕ, ◌-◌, ◌*◌, ◌<◌}
use native.Mathlib.Omega.{arith}
use mathlib.Core.Path.{◌≡◌, refl, sym, ◌∙◌, ap, subst}
use mathlib.Core.Bool.{Bool, true}
use mathlib.Core.List.{List, ◌++◌, append-nil}
use lib.ListN.{length, get_or, replicate, length-replicate, drop_of_length-le}
use Rattle.model.specs.Limits.{boards, messages_most, levels}
use Rattle.model.specs.Refusal.{Out, ok, refusal, and_then}
use Rattle.model.specs.Rows.{Row}
use Rattle.model.specs.Place.{line_of}
use Rattle.model.specs.Expansion.{Progress, start_of, block_opened, walk_rows, call_at}
use Rattle.model.proofs.Lists.{replicate_at}
use Rattle.model.proofs.Standing.{read_fits}
use Rattle.relation.specs.Width.{width}
use Rattle.relation.specs.Rows.{cleared}
use Rattle.sheet.specs.Bridge.{rows_of}
use Rattle.blocks.specs.Store.{Store, store_of, store_ops, concluded, counted_with, walked_on}
use Rattle.blocks.specs.Room.{Room}
use Rattle.walk.specs.Block.{fresh, opened, state_of, rows_from, block_walked, Leaves, AllStand, Ready}
use Rattle.walk.specs.declared.Walk.{Walk}
use Rattle.walk.specs.declared.Walked.{Walked}
use Rattle.walk.proofs.Meeting.{in_rows, rows_drop}
use Rattle.blocks.proofs.Sim.{Begins}
use Rattle.blocks.proofs.Again.{counted_same}
use Rattle.expansion.specs.Lent.{RowsRead}
use Rattle.expansion.specs.Outcome.{counted_of, zeros}
use Rattle.levels.specs.Options.{options_of}
use Rattle.next_block.specs.Levels.{after, idle, rest, rank, Between, Reaches}
use Rattle.expansion.specs.Ends.{Rests, ended_of, Ends, beginning}
use Rattle.std.specs.Prelude.{Result, Ok, Err}
use Rattle.outcome.specs.declared.Refusal.{Refusal}
use Rattle.outcome.specs.Refusals.{number_in}
use Rattle.next_block.specs.declared.Reached.{Reached}
use Rattle.next_block.specs.declared.Reached.TheVariants as reached
use Rattle.expansion.proofs.Reading.{start_zero, start_stand}
use Rattle.next_block.proofs.Closing.{rest_walked, AfterBlock, block_ends, block_more}

-- cleared boards are zeros
cleared_zeros : (n : ℕ) (l : List ℕ) → length l ≡ n → cleared n l ≡ zeros n
unfolding cleared zeros
cleared_zeros n l e =
    ap (λ (r : List ℕ). replicate n 0 ++ r) (drop_of_length-le l {i = n} (omega arith)) ∙ append-nil (replicate n 0)

-- boards filled with zeros
pub boards_zero : (given now : List ℕ) → length given ≡ 2 * messages_most → now ≡ replicate (length given) 0 → now ≡ zeros (2 * messages_most)
unfolding zeros
boards_zero given now l e = e ∙ ap (λ (n : ℕ). replicate n 0) l

-- What the loop over the blocks keeps: from here the walk comes to the whole.
pub record Walking (options : ℕ) (kind one two : List ℕ) (count : ℕ) (whole : Out (Progress Store)) (from : List ℕ) (level i : ℕ) (w : Walk) (t : Store) : Type 0 where
  pub exact : rest options kind one two count from level i (idle w.calls w.choices w.count t) ≡ whole
  pub between : Between options kind one two count from level i w.calls
  pub room : Room w.count w.count t

module _ (options : ℕ) (kind one two : List ℕ) (count : ℕ) where
  abbrev file : List Row
  file = rows_of kind one two count

  module _ (start : List ℕ) (lent : RowsRead kind one two count start) where
    begins : (s : Progress Store) (from : List ℕ) → rest options kind one two count from 0 (get_or start 0 0) s ≡ walked_on (options_of options) file s
    unfolding after walked_on
    begins s from =
        ap (λ (i : ℕ). rest options kind one two count from 0 i s) (start_zero kind one two count start lent)
        ∙ ap (λ (rs : List Row). and_then (walk_rows store_ops (options_of options) (call_at store_ops (options_of options) levels file) rs (line_of (start_of 0 file)) s) (λ u. ok (block_opened store_ops u)))
        (sym (rows_drop kind one two count (start_of 0 file)))

    -- from where a walk has ended
    pub walking_start : (from : List ℕ) (w : Walk) (t : Store) → Rests w t → length from ≡ levels
        → Walking options kind one two count (walked_on (options_of options) file (state_of w t)) from 0 (get_or start 0 0) w t
    walking_start from w t r f =
        record {
          exact =
              ap (λ (n : ℕ). rest options kind one two count from 0 (get_or start 0 0) (record { walk = record { calls = w.calls; choices = w.choices; first = n; count = w.count }; kept = t }))
              (sym r.empty)
              ∙ begins (state_of w t) from;
          between = record {
            deep = omega arith;
            long = f;
            few = r.few;
            stand =
                subst (λ (i : ℕ). AllStand 0 (rows_from kind one two count i)) (sym (start_zero kind one two count start lent))
                (start_stand kind one two count start lent 0);
            behind = λ k h. absurd (omega arith);
          };
          room = r.room;
        }

  module _ (whole : Out (Progress Store)) where
    module _ (from : List ℕ) (level i : ℕ) (w : Walk) (t : Store) (j : Walking options kind one two count whole from level i w t) (from' : List ℕ) where
      abbrev Reached_as : Result Reached Refusal → Type 0
      Reached_as r = Reaches options kind one two count from level i w.calls w.choices r from'

      pub walking_stopped : (e : Refusal) → Reached_as (Err e) → Ends (Err e) t whole
      walking_stopped e r = record { exact = sym (r.exact w.count t) ∙ j.exact; rests = tt }

      -- sheet 0 has ended
      pub walking_end : (calls choices : ℕ) → Reached_as (Ok (reached.End calls choices)) → (v : Walk) → v ≡ opened calls choices w.count
          → Ends (Ok v) t whole
      walking_end calls choices r v e =
          rw e (record { exact = sym (r.exact w.count t) ∙ j.exact; rests = record { few = r.stands; empty = refl; room = j.room } })

      -- a block is walked, from its beginning on
      module _ (level' i' calls choices : ℕ) (r : Reached_as (Ok (reached.Block level' i' calls choices))) (v : Walk)
          (e : v ≡ opened calls choices w.count) where
        abbrev b : Between options kind one two count from' level' i' calls
        b = r.stands.between

        pub block_ready : Ready kind one two count i' v.first v.count t
        block_ready =
            let none : 0 ≡ 2 * (w.count - w.count) = omega arith in
            let ready : Ready kind one two count i' w.count w.count t = record {
              room = j.room;
              stand = subst (λ (n : ℕ). AllStand n (rows_from kind one two count i')) none b.stand;
            } in
            subst (λ (u : Walk). Ready kind one two count i' u.first u.count t) (sym e) ready

        abbrev s : Progress Store
        s = idle calls choices w.count t

        abbrev walked : Out (ℕ × Progress Store)
        walked = block_walked (rows_from kind one two count i') i' s

        abbrev Left : Result Walked Refusal → Store → Walk → Type 0
        Left o t' u = Leaves o t' (block_walked (rows_from kind one two count i') i' (state_of u t))

        left : (o : Result Walked Refusal) (t' : Store) → Left o t' v → Leaves o t' walked
        left o t' l = subst (Left o t') e l

        onward : (o : Out (ℕ × Progress Store)) → o ≡ walked → and_then o (λ p. rest options kind one two count from' level' p.0 p.1) ≡ whole
        onward o same =
            ap (λ (o : Out (ℕ × Progress Store)). and_then o (λ p. rest options kind one two count from' level' p.0 p.1)) same
            ∙ sym (rest_walked options kind one two count from' level' i' s)
            ∙ sym (r.exact w.count t)
            ∙ j.exact

        pub walking_refused : (e : Refusal) (t' : Store) → Left (Err e) t' v → Ends (Err e) t' whole
        unfolding and_then
        walking_refused e t' l = record { exact = onward (refusal (number_in e.reason) e.line) (left (Err e) t' l).exact; rests = tt }

        module _ (k : ℕ) (u : Walk) (t' : Store) (h : Left (Ok (record { row = k; walk = u })) t' v) where
          l : Leaves (Ok (record { row = k; walk = u })) t' walked
          l = left (Ok (record { row = k; walk = u })) t' h

          behind : AfterBlock options kind one two count i' s (k, state_of u t')
          behind = block_ends options kind one two count i' 0 s (k, state_of u t') b.stand (sym l.exact)

          pub walking_less : rank count level' k u.calls < rank count level i w.calls
          walking_less =
              let more : i' < k = block_more options kind one two count i' 0 s (k, state_of u t') b.stand (sym l.exact) r.stands.row in
              let in-file : i' < count = in_rows kind count i' true (sym r.stands.row) refl in
              let same : u.calls ≡ calls = behind.calls in
              omega (arith, r.stands.nearer)

          pub walking_on : Walking options kind one two count whole from' level' k u t'
          unfolding and_then
          walking_on =
              record {
                exact =
                    ap (λ (n : ℕ). rest options kind one two count from' level' k (record { walk = record { calls = u.calls; choices = u.choices; first = n; count = u.count }; kept = t' }))
                    (sym behind.empty)
                    ∙ onward (ok (k, state_of u t')) l.exact;
                between = record {
                  deep = b.deep;
                  long = b.long;
                  few = omega (arith, behind.calls, b.few);
                  stand = behind.stand;
                  behind = b.behind;
                };
                room = subst (λ (n : ℕ). Room n u.count t') behind.empty l.room;
              }

-- The walk from the beginning: every event is on board 0, and nothing is past.
pub nothing_past : replicate (boards * width) 0 ≡ zeros (boards * width)
unfolding zeros
nothing_past = refl

module _ (words : List ℕ) (l : length words ≡ 2 * messages_most * width) where
  abbrev nothing : Store
  nothing = store_of (zeros (2 * messages_most)) words (zeros (boards * width))

  pub nothing_begins : Begins nothing
  unfolding zeros
  nothing_begins =
      record {
        events_long = length-replicate {A = ℕ} (2 * messages_most) 0;
        words_long = l;
        past_long = length-replicate {A = ℕ} (boards * width) 0;
        events_zero = λ k. replicate_at (2 * messages_most) k 0;
        past_zero = λ k. replicate_at (boards * width) k 0;
      }

  pub fresh_rests : (events past : List ℕ) (w : Walk) → events ≡ zeros (2 * messages_most) → past ≡ zeros (boards * width) → w ≡ fresh
      → Rests w (store_of events words past)
  fresh_rests events past w e p f =
      rw (e, p, f)
      (record {
        few = omega arith;
        empty = refl;
        room = record {
          events_long = nothing_begins.events_long;
          words_long = l;
          past_long = nothing_begins.past_long;
          first_most = omega arith;
          count_most = omega arith;
          boards_most = λ k. omega (arith, nothing_begins.events_zero k);
        };
      })

pub fresh_ends : (options : List Bool) (file : List Row) (words events past : List ℕ) (w : Walk) (r : Result Walk Refusal) (t : Store)
    → events ≡ zeros (2 * messages_most) → past ≡ zeros (boards * width) → w ≡ fresh
    → Ends r t (walked_on options file (state_of w (store_of events words past)))
    → Ends r t (walked_on options file (beginning words))
fresh_ends options file words events past w r t e p f h =
    subst (Ends r t) (λ i. walked_on options file (state_of (f i) (store_of (e i) words (p i)))) h

module _ (options : ℕ) (kind one two : List ℕ) (count : ℕ) (start : List ℕ) (lent : RowsRead kind one two count start) (words : List ℕ)
    (l : length words ≡ 2 * messages_most * width) (r : Result Walk Refusal) (t : Store)
    (h : Ends r t (walked_on (options_of options) (rows_of kind one two count) (beginning words))) where
  ended_counted : (o : Result Walk Refusal) → r ≡ o → and_then (ended_of o t) concluded ≡ counted_with (options_of options) (rows_of kind one two count)
  ended_counted o e =
      ap (λ (q : Result Walk Refusal). and_then (ended_of q t) concluded) (sym e)
      ∙ ap (λ (q : Out (Progress Store)). and_then q concluded) h.exact
      ∙ counted_same (options_of options) (rows_of kind one two count) (read_fits lent.read.0 lent.read.1 (rows_of kind one two count) lent.read.2)
      (store_of (zeros (2 * messages_most)) words (zeros (boards * width))) (nothing_begins words l)

  pub counted_refused : (e : Refusal) → r ≡ Err e → counted_of (Err e) t.events t.words ≡ counted_with (options_of options) (rows_of kind one two count)
  unfolding and_then
  counted_refused e i = ended_counted (Err e) i

  pub counted_messages : (w : Walk) → r ≡ Ok w
      → counted_of (Ok (record { messages = w.count; choices = w.choices })) t.events t.words ≡ counted_with (options_of options) (rows_of kind one two count)
  unfolding and_then
  counted_messages w i = ended_counted (Ok w) i
