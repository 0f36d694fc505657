-- `covers::cover_word` meets its contract. Assumes nothing.
use Rattle.covers.proofs.Covering.{word_covers}
use Rattle.covers.proofs.cover_word.Goals as goal

pub returns : goal.returns
returns c = search word_covers
