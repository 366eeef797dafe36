use Rattle.spd_cert.proofs.ReadBackLaws.{read-back}
use Rattle.spd_cert.proofs.law.law_read_back.Goals as goal

pub returns : goal.returns
returns c m lawful digest why x fits = read-back m lawful digest why x fits
