use Rattle.std.proofs.Common.{◌∙◌, ap, refl, Err}
use Rattle.spd_nodes.specs.Store.{Held}
use Rattle.spd_check.specs.Certificates.{policy_by, value_by}
use Rattle.spd_check.proofs.CountLaws.{check-full}
use Rattle.spd_check.proofs.alone.check_alone.Goals as goal

pub check_uncounted-requires-clause-layout : goal.check_uncounted-requires-clause-layout
check_uncounted-requires-clause-layout c = ap (λ (z : Held). z.sizes) c.in_ok-forest.ensures.ok ∙ c.in_ok-layout.ensures

pub returns-in-Err-Full-clause-fault : goal.returns-in-Err-Full-clause-fault
returns-in-Err-Full-clause-fault c = (
  refl,
  c.requires.valid,
  check-full c.args.model.now (value_by c.args.value.now) (policy_by c.args.policy.now) c.in_ok-forest.forest c.check_uncounted.new.forest c.args.node_limit
      (ap (λ (z : Held). z.sizes) c.in_ok-forest.ensures.ok ∙ c.in_ok-layout.ensures) (ap (λ (z : Held). z.keys) c.in_ok-forest.ensures.ok)
      (c.check_uncounted.ensures.keeps ∙ ap (λ (z : Held). z.limit) c.in_ok-forest.ensures.ok) (Err c.in-Err-Full.field-0) (ap Err c.in-Err-Full.field-0-is) c.in-Err-Full.ensures.made,
)
