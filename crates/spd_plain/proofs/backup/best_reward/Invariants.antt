use Rattle.std.proofs.Common.{◌≡◌, map, fold, take}
use Rattle.std.specs.Int.{int_max}
use Rattle.spd_plain.specs.declared.outlook.Outlook.{Outlook}
use Rattle.spd_plain.proofs.backup.best_reward.Given as goal

abbrev pub invariant-loop-outlook : goal.invariant-loop-outlook
invariant-loop-outlook l = l.best ≡ fold int_max l.initial.best (map (λ (o : Outlook). o.reward) (take l.outlook-index l.outlook-items))
