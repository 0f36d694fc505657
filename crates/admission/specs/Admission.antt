-- What an admission promises of every dispatcher with the part that it may change, and the promises of its own parts. Assumes nothing.
use Rattle.std.specs.Prelude.{◌≡◌, List, [], ℕ, ◌≤◌, ◌<◌, ◌^◌, length, get_or, set, Result, Ok, Err}
use Rattle.model.specs.Limits.{channels, text_most, jobs_most, job_words_least}
use Rattle.model.specs.Refusal.{ok}
use Rattle.model.specs.Answer.{sheet_of}
use Rattle.model.specs.Dispatcher.{sheet_at, place_words, admit, admitted_word, refused_word, Served, Serves}
use Rattle.relation.specs.Scenario.{scenario_in}
use Rattle.scenario.specs.Contract.{Fit}
use Rattle.places.specs.Words.{Put}
use Rattle.held_jobs.specs.Held.{Held, dispatcher_of, HoldsJob, lent, told_with}
use Rattle.outcome.specs.declared.Refusal.{Refusal}
use Rattle.outcome.specs.Refusals.{number_in}
use Rattle.admission.specs.declared.Part.{Part}
use Rattle.admission.specs.declared.Entry.{Entry}

-- what an admission reads of a dispatcher, with a race and boards for each place
abbrev pub part_of : Held → Part
part_of d = record { queue = d.queue; given = d.given }

pub record PartIs (d : Held) (part : Part) : Type 0 where
  pub is : part ≡ part_of d
  pub races : length d.races ≡ jobs_most
  pub boards : length d.boards ≡ jobs_most

-- the dispatcher with what an admission leaves: a job admitted, or the dispatcher as it was
abbrev pub entered_by : Held → ℕ → Result Entry Refusal → Served Held
entered_by d place (Ok e) =
    told_with admitted_word e.number e.place
    (record { queue = e.queue; given = e.given; races = set d.races place e.race; boards = set d.boards place e.boards })
entered_by d place (Err r) = told_with refused_word (number_in r.reason) r.line d

-- the admission of one dispatcher, and as it is of every one with this part
abbrev pub Admits : Held → List ℕ → List ℕ → List ℕ → List ℕ → List ℕ → Served Held → Type 0
Admits d sheets lengths codes words exit r = Serves dispatcher_of HoldsJob d (admit (lent sheets lengths codes words)) exit [] r

pub record AdmitIn (part : Part) (place : ℕ) (sheets lengths codes words exit : List ℕ) (r : Result Entry Refusal) : Type 0 where
  pub serves : (d : Held) → PartIs d part → Admits d sheets lengths codes words exit (entered_by d place r)

-- one that reads the sheet, by the code and the length lent in the place
pub record ReadsIn (part : Part) (sheets : List ℕ) (size place code : ℕ) (words exit : List ℕ) (r : Result Entry Refusal) : Type 0 where
  pub serves : (lengths codes : List ℕ) → size ≡ get_or lengths place 0 → code ≡ get_or codes place channels → AdmitIn part place sheets lengths codes words exit r

-- one whose sheet is read already: the words of the place hold the scenario of what is lent there, and all others are as they are lent
pub record HoldsNew (part : Part) (place code count : ℕ) (boards written exit : List ℕ) (r : Result Entry Refusal) : Type 0 where
  pub serves : (sheets lengths codes words : List ℕ) → job_words_least ≤ length words → code ≡ get_or codes place channels → get_or lengths place 0 ≤ text_most
      → sheet_of (sheet_at (lent sheets lengths codes words) place) ≡ ok (scenario_in count boards (place_words place written))
      → Fit count boards (place_words place written) → Put place (place_words place written) words written
      → AdmitIn part place sheets lengths codes words exit r
