use Rattle.std.proofs.Common.{subst}
use Rattle.spd_model.specs.Lawful.{IsLawful}
use Rattle.spd_cert.specs.Reading.{Tells}
use Rattle.spd_cert.proofs.CertLaws.{is_written, is_fit, judged_read}
use Rattle.spd_cert.proofs.reader.read_cert.Goals as goal

pub returns-clause-written : goal.returns-clause-written
returns-clause-written c = is_written c.args.model.now c.args.bytes.now c.judged.result (subst IsLawful c.model.view_is c.model.invariant) c.judged.ensures

pub returns-clause-fits : goal.returns-clause-fits
returns-clause-fits c = is_fit c.args.model.now c.args.bytes.now c.judged.result (subst IsLawful c.model.view_is c.model.invariant) c.judged.ensures

pub returns-clause-every : goal.returns-clause-every
returns-clause-every c = λ cert is. subst (Tells c.judged.result) (judged_read c.args.model.now c.args.bytes.now cert (subst IsLawful c.model.view_is c.model.invariant) is) c.judged.ensures
