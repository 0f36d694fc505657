-- What each return of an admission is to show, from what led there. Assumes nothing.
use mathlib.Core.Path.{◌≡◌, refl, sym, ◌∙◌, ap, subst, subst⁻¹}
use mathlib.Core.List.{List, [], ◌∷◌, ◌++◌}
use mathlib.Core.Option.{none, some}
use Prim.Native.Nat.{ℕ, ◌+◌, ◌^◌, ◌<◌, ◌≤◌}
use native.Mathlib.Omega.{arith}
use borrow.Author.Tests.{lt-leb}
use lib.ListN.{length, get_or, set}
use lib.Seq.{set-get_or}
use Rattle.model.specs.Limits.{channels, messages_most, text_most, rows_most, jobs_most, job_numbers, job_words_least}
use Rattle.model.specs.Refusal.{Out, refusal, channel_refusal, bench_refusal, length_refusal, jobs_refusal}
use Rattle.model.specs.Place.{line_of}
use Rattle.model.specs.Order.{Scenario}
use Rattle.model.specs.Answer.{sheet_of}
use Rattle.model.specs.Dispatcher as model
use Rattle.model.specs.Dispatcher.{Lent, length_at, code_at, sheet_at, place_words, is_free, free_place, admissible, admit, refused, admitted_word, refused_word, touches_nothing, leaves_all, Served}
use Rattle.model.proofs.Bounded.{not_both, lowest_none}
use Rattle.model.proofs.Lines.{Well, sheet_well}
use Rattle.outcome.specs.declared.Refusal.{Refusal}
use Rattle.outcome.specs.declared.Reason.{Reason}
use Rattle.outcome.specs.declared.Reason.TheVariants as reason
use Rattle.outcome.specs.Refusals.{number_in}
use Rattle.scenario.proofs.Laws.{sheet_refused, sheet_is, sheet_fits}
use Rattle.queue.specs.declared.Queue.{Queue}
use Rattle.queue.specs.Bridge.{queue_in, PlacesOf, is_free_in, free_place_in}
use Rattle.std.specs.Prelude as std
use Rattle.std.specs.Prelude.{Some, None, Result, Ok, Err}
use Rattle.outcome.specs.Options.{found_in}
use Rattle.taken_places.specs.Places.{SparePlace}
use Rattle.places.specs.Words.{FreeCleared, ClearedBut}
use Rattle.share.specs.declared.Race.{Race}
use Rattle.lent_sheet.specs.Sheet.{sheet_in, ReadsSheet}
use Rattle.held_jobs.specs.declared.Boards.{Boards}
use Rattle.held_jobs.specs.Held.{Held, dispatcher_of, lent, told_with}
use Rattle.held_jobs.proofs.Cases.{admit_refused, full_short, full_held, code_unknown, words_short_holds, numbers_out, sheet_long, sheet_judged}
use Rattle.held_jobs.proofs.Serving.{untouched, cleared_by, cleared}
use Rattle.admission.specs.declared.Part.{Part}
use Rattle.admission.specs.declared.Entry.{Entry}
use Rattle.admission.specs.Admission.{PartIs, entered_by, Admits, AdmitIn, HoldsNew, ReadsIn}
use Rattle.admission.proofs.Admission.{not_place, unsought, admitted_serves}

-- ---- of one dispatcher
module _ (d : Held) (words : List ℕ) (r : Served Held) (free : free_place_in (queue_in d.queue) ≡ none) where
  none_free : free_place (dispatcher_of d) ≡ none
  unfolding free_place is_free
  none_free = free

  admit_full_short : length words < job_words_least → r ≡ told_with refused_word bench_refusal 0 d → (sheets lengths codes : List ℕ) → Admits d sheets lengths codes words words r
  admit_full_short h e sheets lengths codes =
      let l = lent sheets lengths codes words in
      untouched d (admit l) bench_refusal 0 r (admit_refused (dispatcher_of d) l bench_refusal 0 (full_short (dispatcher_of d) l none_free h)) (omega arith) e

  -- all places are held, so that there is none to clear
  all_held : FreeCleared (queue_in d.queue) words words
  all_held =
      record {
        kept = refl;
        rest = refl;
        free = λ p h t. not_both (is_free_in (queue_in d.queue) p) t (lowest_none jobs_most (is_free_in (queue_in d.queue)) free p h);
        held = λ p h f. refl;
      }

  admit_full_jobs : job_words_least ≤ length words → r ≡ told_with refused_word jobs_refusal 0 d → (sheets lengths codes : List ℕ) → Admits d sheets lengths codes words words r
  unfolding touches_nothing leaves_all
  admit_full_jobs h e sheets lengths codes =
      let l = lent sheets lengths codes words in
      cleared d (admit l) (refused jobs_refusal 0) words r (admit_refused (dispatcher_of d) l jobs_refusal 0 (full_held (dispatcher_of d) l none_free h)) refl (lt-leb jobs_refusal bench_refusal (omega arith)) e all_held

module _ (d : Held) (place : ℕ) (free : free_place_in (queue_in d.queue) ≡ some place) where
  free_there : free_place (dispatcher_of d) ≡ some place
  unfolding free_place is_free
  free_there = free

  module _ (sheets lengths codes words : List ℕ) (code : ℕ) (is_code : code ≡ get_or codes place channels) (r : Served Held) where
    abbrev l : Lent
    l = lent sheets lengths codes words

    code_is : code_at l place ≡ code
    unfolding code_at
    code_is = sym is_code

    pub admit_unknown : channels ≤ code → r ≡ told_with refused_word channel_refusal 0 d → Admits d sheets lengths codes words words r
    admit_unknown h e =
        (untouched d (admit l) channel_refusal 0 r (admit_refused (dispatcher_of d) l channel_refusal 0 (code_unknown (dispatcher_of d) l place free_there (rw code_is h))) (omega arith) e)

    module _ (known : code < channels) where
      at_code : code_at l place < channels
      at_code = rw code_is known

      pub admit_short : length words < job_words_least → r ≡ told_with refused_word bench_refusal 0 d → Admits d sheets lengths codes words words r
      admit_short h e =
          (untouched d (admit l) bench_refusal 0 r (admit_refused (dispatcher_of d) l bench_refusal 0 (words_short_holds (dispatcher_of d) l place free_there at_code h)) (omega arith) e)

      module _ (w : job_words_least ≤ length words) where
        pub admit_numbers : (exit : List ℕ) → job_numbers ≤ d.given → FreeCleared (queue_in d.queue) words exit → r ≡ told_with refused_word jobs_refusal 0 d
            → Admits d sheets lengths codes words exit r
        unfolding touches_nothing leaves_all
        admit_numbers exit h F e =
            (cleared d (admit l) (refused jobs_refusal 0) exit r (admit_refused (dispatcher_of d) l jobs_refusal 0 (numbers_out (dispatcher_of d) l place free_there at_code w h)) refl (lt-leb jobs_refusal bench_refusal (omega arith)) e F)

        pub admit_long : (exit : List ℕ) (size : ℕ) → size ≡ get_or lengths place 0 → d.given < job_numbers → text_most < size → FreeCleared (queue_in d.queue) words exit
            → r ≡ told_with refused_word length_refusal 0 d → Admits d sheets lengths codes words exit r
        unfolding touches_nothing leaves_all length_at
        admit_long exit size i g h F e =
            (cleared d (admit l) (refused length_refusal 0) exit r (admit_refused (dispatcher_of d) l length_refusal 0 (sheet_long (dispatcher_of d) l place free_there at_code w g (rw (sym i) h))) refl (lt-leb length_refusal bench_refusal (omega arith)) e F)

  -- the sheet was read: refused, or accepted
  module _ (sheets : List ℕ) (size code : ℕ) (words boards written : List ℕ) (v : Result ℕ Refusal) (R : ReadsSheet sheets size place words boards written v) where
    admit_read_refused : (f : Refusal) (exit : List ℕ) (r : Served Held) → v ≡ Err f → code < channels → job_words_least ≤ length words
        → d.given < job_numbers → size ≤ text_most → FreeCleared (queue_in d.queue) written exit → r ≡ told_with refused_word (number_in f.reason) f.line d
        → (lengths codes : List ℕ) → size ≡ get_or lengths place 0 → code ≡ get_or codes place channels → Admits d sheets lengths codes words exit r
    unfolding touches_nothing leaves_all length_at code_at sheet_at
    admit_read_refused f exit r i known w g few F e lengths codes is_size is_code =
        let l = lent sheets lengths codes words in
        let text : sheet_of (sheet_in sheets size place) ≡ refusal (number_in f.reason) f.line = sheet_refused (sheet_in sheets size place) boards (place_words place written) v R.sheet f i in
        let judged : admissible (dispatcher_of d) l ≡ refusal (number_in f.reason) f.line =
        sheet_judged (dispatcher_of d) l place free_there (rw (sym is_code) known) w g (rw (sym is_size) few)
        ∙ ap (λ k. sheet_of (sheet_in sheets k place)) (sym is_size) ∙ text in
        let late : bench_refusal < number_in f.reason = (subst (λ (o : Out Scenario). Well (line_of rows_most) o) text (sheet_well (sheet_in sheets size place))).behind in
        cleared_by d (admit l) (refused (number_in f.reason) f.line) written exit r (admit_refused (dispatcher_of d) l (number_in f.reason) f.line judged) refl (lt-leb (number_in f.reason) bench_refusal late) e F R.put.kept R.put.rest
        (λ p h f. R.put.others p h (not_place d place free p f))

pub no_place : (js : List model.Job) (v : std.Option ℕ) → found_in v ≡ free_place_in js → v ≡ None → free_place_in js ≡ none
no_place js v e i = sym e ∙ ap (found_in {A = ℕ}) i

pub at_place : (js : List model.Job) (v : std.Option ℕ) (p : ℕ) → found_in v ≡ free_place_in js → v ≡ Some p → free_place_in js ≡ some p
at_place js v p e i = sym e ∙ ap (found_in {A = ℕ}) i

-- the refusal's line is that of a row; and of a sheet accepted the messages are few
module _ (sheets : List ℕ) (size place : ℕ) (words boards written : List ℕ) (v : Result ℕ Refusal) (R : ReadsSheet sheets size place words boards written v) where
  pub line_small : (f : Refusal) → v ≡ Err f → f.line < 2 ^ 32
  line_small f i =
      let text : sheet_of (sheet_in sheets size place) ≡ refusal (number_in f.reason) f.line = sheet_refused (sheet_in sheets size place) boards (place_words place written) v R.sheet f i in
      omega (arith, (subst (λ (o : Out Scenario). Well (line_of rows_most) o) text (sheet_well (sheet_in sheets size place))).within)

  pub count_few : (count : ℕ) → v ≡ Ok count → count ≤ messages_most
  count_few count i = (sheet_fits (sheet_in sheets size place) boards (place_words place written) v R.sheet count i).few

  pub written_long : job_words_least ≤ length words → job_words_least ≤ length written
  written_long h = omega (arith, R.put.kept)

-- ---- an admission, as it is of every dispatcher with the part
module _ (part : Part) where
  -- a refusal for a reason, without a line
  told_refused : (d : Held) (place : ℕ) (f : Refusal) (a : Reason) → f ≡ record { reason = a; line = 0 } → entered_by d place (Err f) ≡ told_with refused_word (number_in a) 0 d
  told_refused d place f a i = ap (λ (q : Refusal). entered_by d place (Err q)) i

  -- with no place free
  module _ (words : List ℕ) (r : Refusal) (v : std.Option ℕ) (found : found_in v ≡ free_place_in (queue_in part.queue)) (none_there : v ≡ None) where
    none_in : (d : Held) → PartIs d part → free_place_in (queue_in d.queue) ≡ none
    none_in d D = subst (λ (p : Part). free_place_in (queue_in p.queue) ≡ none) D.is (no_place (queue_in part.queue) v found none_there)

    pub full_too_short : (place : ℕ) (sheets lengths codes : List ℕ) → length words < job_words_least → r ≡ record { reason = reason.Bench; line = 0 }
        → AdmitIn part place sheets lengths codes words words (Err r)
    full_too_short place sheets lengths codes h e =
        record { serves = λ d D. admit_full_short d words (entered_by d place (Err r)) (none_in d D) h (told_refused d place r reason.Bench e) sheets lengths codes }

    pub full_of_jobs : (place : ℕ) (sheets lengths codes : List ℕ) → job_words_least ≤ length words → r ≡ record { reason = reason.Jobs; line = 0 }
        → AdmitIn part place sheets lengths codes words words (Err r)
    full_of_jobs place sheets lengths codes h e =
        record { serves = λ d D. admit_full_jobs d words (entered_by d place (Err r)) (none_in d D) h (told_refused d place r reason.Jobs e) sheets lengths codes }

  module _ (place : ℕ) (free : free_place_in (queue_in part.queue) ≡ some place) where
    free_in : (d : Held) → PartIs d part → free_place_in (queue_in d.queue) ≡ some place
    free_in d D = subst (λ (p : Part). free_place_in (queue_in p.queue) ≡ some place) D.is free

    -- the sheet was read: refused, or accepted
    module _ (sheets : List ℕ) (size code : ℕ) (words boards written : List ℕ) (v : Result ℕ Refusal) (R : ReadsSheet sheets size place words boards written v) (exit : List ℕ) where
      pub read_refused : (f : Refusal) → v ≡ Err f → code < channels → job_words_least ≤ length words → part.given < job_numbers → size ≤ text_most
          → (bits : ℕ) → PlacesOf (queue_in part.queue) bits → ClearedBut bits written exit → ReadsIn part sheets size place code words exit (Err f)
      read_refused f i known w g few bits B C =
          record {
            serves = λ lengths codes is_size is_code.
                record {
                  serves = λ d D.
                      admit_read_refused d place (free_in d D) sheets size code words boards written v R f exit (entered_by d place (Err f)) i known w
                      (subst (λ (p : Part). p.given < job_numbers) D.is g) few
                      (subst (λ (p : Part). FreeCleared (queue_in p.queue) written exit) D.is (C.cleared (queue_in part.queue) B))
                      refl lengths codes is_size is_code;
                };
          }

      pub read_accepted : (count : ℕ) (r : Result Entry Refusal) → v ≡ Ok count → job_words_least ≤ length words → size ≤ text_most → HoldsNew part place code count boards written exit r
          → ReadsIn part sheets size place code words exit r
      unfolding length_at sheet_at
      read_accepted count r i w few N =
          record {
            serves = λ lengths codes is_size is_code.
                N.serves sheets lengths codes words w is_code (rw (sym is_size) few)
                (ap (λ k. sheet_of (sheet_in sheets k place)) (sym is_size) ∙ sheet_is (sheet_in sheets size place) boards (place_words place written) v R.sheet count i)
                (sheet_fits (sheet_in sheets size place) boards (place_words place written) v R.sheet count i) R.put;
          }

    -- an accepted job is held
    pub hold_serves : (code count : ℕ) (boards written exit : List ℕ) → code < channels → part.given < job_numbers → (longer : Queue)
        → queue_in longer ≡ queue_in part.queue ++ (record { number = part.given; place = place; code = code; count = count; turns = 0 } ∷ [])
        → (bits : ℕ) → PlacesOf (queue_in longer) bits → ClearedBut bits written exit
        → HoldsNew part place code count boards written exit (Ok (record { number = part.given; place = place; queue = longer; given = part.given + 1; race = unsought; boards = record { on = boards } }))
    hold_serves code count boards written exit known left longer is_longer bits B C =
        record {
          serves = λ sheets lengths codes words enough is_code few is_sheet fit P.
              record {
                serves = λ d D.
                    admitted_serves d place code count boards written exit (free_in d D) known (subst (λ (p : Part). p.given < job_numbers) D.is left) D.races D.boards longer
                    (subst (λ (p : Part). queue_in longer ≡ queue_in p.queue ++ (record { number = p.given; place = place; code = code; count = count; turns = 0 } ∷ [])) D.is is_longer)
                    (C.cleared (queue_in longer) B) sheets lengths codes words enough is_code few is_sheet fit P _
                    (ap (λ (p : Part). told_with admitted_word p.given place (record { queue = longer; given = p.given + 1; races = set d.races place unsought; boards = set d.boards place (record { on = boards }) })) D.is);
              };
        }

  -- the place taken out is the lowest free one
  module _ (spare : ℕ) (S : SparePlace (queue_in part.queue) spare) (sheets lengths codes words : List ℕ) where
    module _ (v : std.Option ℕ) (place : ℕ) (found : found_in v ≡ free_place_in (queue_in part.queue)) (i : v ≡ Some place) (code : ℕ) (is_code : code ≡ get_or codes place channels) where
      free_at : free_place_in (queue_in part.queue) ≡ some place
      free_at = at_place (queue_in part.queue) v place found i

      pub enter_unknown : channels ≤ code → (r : Refusal) → r ≡ record { reason = reason.Channel; line = 0 } → AdmitIn part spare sheets lengths codes words words (Err r)
      enter_unknown h r e =
          record {
            serves = λ d D. admit_unknown d place (free_in place free_at d D) sheets lengths codes words code is_code (entered_by d spare (Err r)) h (told_refused d spare r reason.Channel e);
          }

      module _ (known : code < channels) where
        pub enter_short : length words < job_words_least → (r : Refusal) → r ≡ record { reason = reason.Bench; line = 0 } → AdmitIn part spare sheets lengths codes words words (Err r)
        enter_short h r e =
            record {
              serves = λ d D. admit_short d place (free_in place free_at d D) sheets lengths codes words code is_code (entered_by d spare (Err r)) known h (told_refused d spare r reason.Bench e);
            }

        module _ (w : job_words_least ≤ length words) (bits : ℕ) (exit : List ℕ) (B : PlacesOf (queue_in part.queue) bits) (C : ClearedBut bits words exit) where
          free_cleared : (d : Held) → PartIs d part → FreeCleared (queue_in d.queue) words exit
          free_cleared d D = subst (λ (p : Part). FreeCleared (queue_in p.queue) words exit) D.is (C.cleared (queue_in part.queue) B)

          pub enter_numbers : job_numbers ≤ part.given → (r : Refusal) → r ≡ record { reason = reason.Jobs; line = 0 } → AdmitIn part spare sheets lengths codes words exit (Err r)
          enter_numbers h r e =
              record {
                serves = λ d D.
                    admit_numbers d place (free_in place free_at d D) sheets lengths codes words code is_code (entered_by d spare (Err r)) known w exit
                    (subst (λ (p : Part). job_numbers ≤ p.given) D.is h) (free_cleared d D) (told_refused d spare r reason.Jobs e);
              }

          pub enter_long : (size : ℕ) → size ≡ get_or lengths place 0 → part.given < job_numbers → text_most < size → (r : Refusal) → r ≡ record { reason = reason.Length; line = 0 }
              → AdmitIn part spare sheets lengths codes words exit (Err r)
          enter_long size is_size g h r e =
              record {
                serves = λ d D.
                    admit_long d place (free_in place free_at d D) sheets lengths codes words code is_code (entered_by d spare (Err r)) known w exit size is_size
                    (subst (λ (p : Part). p.given < job_numbers) D.is g) h (free_cleared d D) (told_refused d spare r reason.Length e);
              }

      pub enter_read : (exit : List ℕ) (size : ℕ) (r : Result Entry Refusal) → size ≡ get_or lengths place 0 → ReadsIn part sheets size place code words exit r → AdmitIn part spare sheets lengths codes words exit r
      enter_read exit size r is_size N = subst⁻¹ (λ (p : ℕ). AdmitIn part p sheets lengths codes words exit r) (S.lowest place free_at) (N.serves lengths codes is_size is_code)
