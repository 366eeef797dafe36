use Rattle.std.proofs.Common.{refl}
use Rattle.spd_client_rows.proofs.FitsLaws.{fits}
use Rattle.spd_client_rows.proofs.models.iterate.Goals as goal

pub returns : goal.returns
returns c = fits c.args.model.now _ c.requires.sizes c.requires.actions c.in_ok-value.ensures.fits c.in_ok-policy.ensures.fits c.in_ok-value.ensures.reduced c.in_ok-policy.ensures.reduced c.of.ensures refl
