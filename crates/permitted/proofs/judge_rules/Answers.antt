-- `permitted::judge_rules` meets its contract. Assumes nothing.
use Rattle.permitted.proofs.Table.{rules_sound, rules_gap, rules_clash}
use Rattle.permitted.proofs.judge_rules.Goals as goal

pub returns-in-Sound : goal.returns-in-Sound
returns-in-Sound c = rules_sound _ _ c.in-Sound.ensures _ _ _ _ c.judge_sheet.ensures

pub returns-in-Gap : goal.returns-in-Gap
returns-in-Gap c = rw c.at.ensures (rules_gap _ _ _ c.in-Gap.ensures _ _)

pub returns-in-Clash : goal.returns-in-Clash
returns-in-Clash c = rw c.at-in-Clash.ensures (rules_clash _ _ _ _ _ c.in-Clash.ensures _ _)
