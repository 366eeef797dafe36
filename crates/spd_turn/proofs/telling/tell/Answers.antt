use Rattle.std.proofs.Common.{rules, refl}
use Rattle.spd_turn.proofs.telling.tell.Goals as goal

pub returns-clause-told : goal.returns-clause-told
returns-clause-told g c = record {
  number = refl;
  value = c.in_ok-value.ensures.reduced;
  policy = rw c.freeze.ensures.same at c.in_ok-policy.ensures.reduced;
  residual = refl;
  error = search rules;
  next = rw (c.freeze-2.ensures.same, c.freeze.ensures.same) at c.in_ok-next.ensures.reduced;
}
