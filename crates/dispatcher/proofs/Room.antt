-- A dispatcher has a race and boards for each place: its type says so. Assumes nothing.
use mathlib.Core.Path.{◌≡◌}
use mathlib.Core.List.{List}
use lib.ListN.{length}
use mir.Val.{Val}
use denote.Laws.{Is}
use Rattle.model.specs.Limits.{jobs_most}
use Rattle.dispatcher.specs.declared.Dispatcher.{Dispatcher}
use Rattle.dispatcher.specs.contracts.Dispatcher.{the_row}

pub races_room : (d : Dispatcher) (vs : List Val) → Is the_row d vs → length d.races ≡ jobs_most
races_room d vs good = good.1.1.1.1.0.1.0.1

pub boards_room : (d : Dispatcher) (vs : List Val) → Is the_row d vs → length d.boards ≡ jobs_most
boards_room d vs good = good.1.1.1.1.1.0.1.0.1
