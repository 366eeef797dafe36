use Rattle.spd_cons_core.proofs.LoadsContent.{load_content_keeps}
use Rattle.spd_cons_core.proofs.laws.load_content_keeps.Goals as goal

pub returns : goal.returns
returns c = load_content_keeps
