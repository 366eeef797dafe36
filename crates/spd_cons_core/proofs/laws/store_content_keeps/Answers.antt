use Rattle.spd_cons_core.proofs.StoresContent.{store_content_keeps}
use Rattle.spd_cons_core.proofs.laws.store_content_keeps.Goals as goal

pub returns : goal.returns
returns c = store_content_keeps
