use Rattle.std.proofs.Common.{refl, subst}
use Rattle.spd_model.specs.Lawful.{IsLawful}
use Rattle.spd_cert.specs.Certificates.{iterate_of}
use Rattle.spd_cert.proofs.writer.write_cert.Goals as goal

pub returns-clause-read : goal.returns-clause-read
returns-clause-read g c =
    c.law_read_back.ensures c.args.model.now (subst IsLawful c.model.view_is c.model.invariant) c.args.digest.now c.args.cert.why (iterate_of c.args.cert) (record {
      iterate = c.requires.iterate;
      version = (refl, c.told-digest, c.fits-digest);
      value = c.requires.value;
      policy = c.requires.policy;
      range = record { turn = c.requires.range.turn; value_nodes = c.requires.range.value_nodes; policy_nodes = c.requires.range.policy_nodes; residual = c.requires.range.residual; error = c.requires.range.error };
    })
