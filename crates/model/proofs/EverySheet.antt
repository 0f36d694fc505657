-- What holds of every text, whichever call is made. Assumes nothing.
use Rattle.model.specs.EverySheet.{EverySheet}
use Rattle.model.proofs.Clean.{first_circle_holds}
use Rattle.model.proofs.Scratch.{same_on_any_scratch_holds}
use Rattle.model.proofs.NoCircle.{no_circles_holds}
use Rattle.model.proofs.Wired.{one_verdict_holds}
use Rattle.model.proofs.WiredChoices.{one_choice_verdict_holds}
use Rattle.model.proofs.FinishedRuns.{finished_runs_holds}

pub every_sheet : EverySheet
every_sheet =
    record {
      first_circle = first_circle_holds;
      same_on_any_scratch = same_on_any_scratch_holds;
      no_circles = no_circles_holds;
      one_verdict = one_verdict_holds;
      one_choice_verdict = one_choice_verdict_holds;
      finished_runs = finished_runs_holds;
    }
