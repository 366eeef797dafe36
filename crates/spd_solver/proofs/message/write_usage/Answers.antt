use Rattle.std.proofs.Common.{◌∙◌, sym}
use Rattle.spd_solver.proofs.message.write_usage.Goals as goal

pub returns-clause-text : goal.returns-clause-text
returns-clause-text g c = rw (sym (c.as_bytes.ensures.value ∙ c.format-number.ensures.text)) c.write_pieces.ensures.text
