-- `taken_places::may_stand` meets its contract. Assumes nothing.
use Rattle.taken_places.proofs.Standing.{stands_not, stands_so}
use Rattle.taken_places.proofs.may_stand.Goals as goal

pub returns-then-place-lt-JOBS_MOST : goal.returns-then-place-lt-JOBS_MOST
returns-then-place-lt-JOBS_MOST c = search stands_so

pub returns-else-place-lt-JOBS_MOST : goal.returns-else-place-lt-JOBS_MOST
returns-else-place-lt-JOBS_MOST c = search stands_not
