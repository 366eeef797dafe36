use Rattle.std.proofs.Common.{ap, ◌∙◌}
use Rattle.spd_text.specs.inner.Parts.{title_text}
use Rattle.spd_text.proofs.TextLaws.{title-is}
use Rattle.spd_text.proofs.WritingLaws.{writes-as}
use Rattle.spd_text.proofs.result.put_title.Goals as goal

pub returns : goal.returns
returns g c = writes-as _ _ _ _ _ _ _ (title-is c.hexadecimal-digest.result ∙ ap title_text c.hexadecimal-digest.ensures) c.put_all.ensures
