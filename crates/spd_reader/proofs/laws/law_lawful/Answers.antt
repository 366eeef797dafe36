use Rattle.spd_reader.proofs.CallerLemmas.{read_lawful}
use Rattle.spd_reader.proofs.laws.law_lawful.Goals as goal

pub returns : goal.returns
returns c = read_lawful
