-- `place_of` meets its contract. Assumes nothing.
use Rattle.heading.proofs.Names.{place_first, place_second, place_third, place_none}
use Rattle.heading.proofs.place_of.Goals as goal

pub returns-then-is_name : goal.returns-then-is_name
returns-then-is_name c = search place_first

pub returns-then-is_name-2 : goal.returns-then-is_name-2
returns-then-is_name-2 c = search place_second

pub returns-then-is_name-3 : goal.returns-then-is_name-3
returns-then-is_name-3 c = search place_third

pub returns : goal.returns
returns c = search place_none
