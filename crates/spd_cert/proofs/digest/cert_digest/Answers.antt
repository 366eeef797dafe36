use Rattle.std.proofs.Common.{◌∙◌}
use Rattle.spd_cert.proofs.NamingLaws.{some_named, named_read}
use Rattle.spd_cert.proofs.digest.cert_digest.Goals as goal

pub returns-clause-names : goal.returns-clause-names
returns-clause-names c = some_named c.args.bytes.now c.named.result c.named.ensures

pub returns-clause-every : goal.returns-clause-every
returns-clause-every c = λ digest names. c.named.ensures ∙ named_read c.args.bytes.now digest names
