-- `cut` meets its contract. Assumes nothing.
use Rattle.line.proofs.Cutting.{begun_inside, cut_one, cut_two, cut_three, cut_whole}
use Rattle.line.proofs.cut.Goals as goal

pub returns-then-not-is_byte : goal.returns-then-not-is_byte
returns-then-not-is_byte c = search cut_one

pub field_end-second-requires : goal.field_end-second-requires
field_end-second-requires c = search begun_inside

pub returns-then-not-is_byte-2 : goal.returns-then-not-is_byte-2
returns-then-not-is_byte-2 c = search cut_two

pub field_end-end-requires : goal.field_end-end-requires
field_end-end-requires c = search begun_inside

pub returns-then-not-is_byte-3 : goal.returns-then-not-is_byte-3
returns-then-not-is_byte-3 c = search cut_three

pub returns : goal.returns
returns c = search cut_whole
