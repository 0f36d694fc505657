-- `channel_check::channel_check_version` meets its contract: the number is the version's. Assumes nothing.
use mathlib.Core.Path.{refl}
use Rattle.channel_check.proofs.channel_check_version.Goals as goal

pub returns : goal.returns
returns c = refl
