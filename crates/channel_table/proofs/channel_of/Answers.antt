-- `channel_table::channel_of` meets its contract: row by row, the table is the model's.
use mathlib.Core.Logic.{⊎_elim}
use Rattle.channel_table.proofs.Codes.{each_code}
use borrow.Author.Rules.{rules}
use Rattle.channel_table.proofs.channel_of.Goals as goal

pub returns : goal.returns
returns c = ⊎_elim (λ e. rw e) (λ k.
    ⊎_elim (λ e. rw e) (λ k.
    ⊎_elim (λ e. rw e) (λ k. ⊎_elim (λ e. rw e) (λ k. ⊎_elim (λ e. rw e) (λ e. rw e) k) k) k) k)
    (each_code c.args.code (search rules))
