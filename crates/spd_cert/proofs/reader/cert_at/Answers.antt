use Rattle.std.proofs.Common.{subst}
use Rattle.spd_model.specs.Lawful.{IsLawful}
use Rattle.spd_cert.specs.declared.nodes.Part.TheVariants.{Value, Policy}
use Rattle.spd_cert.proofs.NodeLaws.{list_is_frozen}
use Rattle.spd_cert.proofs.reader.cert_at.Goals as goal

pub of_nodes-requires : goal.of_nodes-requires
of_nodes-requires c = list_is_frozen c.args.model.now Value _ _ _ (subst IsLawful c.model.view_is c.model.invariant) c.in_ok-value.ensures

pub of_nodes-requires-2 : goal.of_nodes-requires-2
of_nodes-requires-2 c = list_is_frozen c.args.model.now Policy _ _ _ (subst IsLawful c.model.view_is c.model.invariant) c.in_ok-policy.ensures
