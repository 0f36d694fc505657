-- `sheet_text::put` meets its contract: one byte, and the place behind it. Assumes nothing.
use Rattle.sheet_text.proofs.Putting.{put_one}
use Rattle.sheet_text.proofs.put.Goals as goal

pub returns : goal.returns
returns c = search put_one
