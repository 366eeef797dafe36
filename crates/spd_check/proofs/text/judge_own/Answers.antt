use Rattle.spd_check.proofs.TextLaws.{cert-own}
use Rattle.spd_check.proofs.text.judge_own.Goals as goal

pub returns-in-Ok-check-clause-judged : goal.returns-in-Ok-check-clause-judged
returns-in-Ok-check-clause-judged c = λ digest own. record {
  own = own;
  reads = c.in-Ok.ensures.judged;
  named = cert-own c.args.model.now digest c.args.text.now c.in-Ok.cert own c.in-Ok.ensures.written;
  fits = c.in-Ok.ensures.fits;
  valid = c.in-Ok-check.ensures.valid;
  verdict = c.in-Ok-check.ensures.verdict;
  exact = c.in-Ok-check.ensures.exact;
  above = c.in-Ok-check.ensures.above;
  below = c.in-Ok-check.ensures.below;
}
