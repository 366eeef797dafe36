use Rattle.std.proofs.Common.{◌∙◌, subst, arith}
use Rattle.spd_model.specs.Lawful.{IsLawful}
use Rattle.spd_plain.proofs.space.Space.new.Goals as goal

pub returns : goal.returns
returns c = record {
  law = subst IsLawful c.model.view_is c.model.invariant;
  few = omega (arith, c.requires.count, c.requires.few);
  states = c.from_vec.ensures ∙ c.in_ok-all_states.ensures;
  axes = c.from_vec-2.ensures ∙ c.in_ok-all_axes.ensures;
}
