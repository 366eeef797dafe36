use Rattle.std.proofs.Common.{refl}
use Rattle.spd_syntax.proofs.FileMoves.{reward_else}
use Rattle.spd_syntax.proofs.reader.Reader.body.Goals as goal

pub returns-in_ok-parts-in_default-clause-ok : goal.returns-in_ok-parts-in_default-clause-ok
returns-in_ok-parts-in_default-clause-ok c =
    (reward_else c.args.kind c.in_default.not-Dd c.in_default.not-Action c.in_default.not-Setting c.requires.left_out c.requires.other, refl, c.in_ok-parts-in_default.ensures.ok)
