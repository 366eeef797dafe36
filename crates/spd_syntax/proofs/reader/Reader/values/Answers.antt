use Rattle.std.proofs.Common.{◌+◌, ◌-◌, ◌∙◌, ◌∷◌, [], List, ap, sym, subst, length, length-append, arith}
use Rattle.spd_syntax.specs.declared.file.Word.{Word}
use Rattle.spd_syntax.specs.Positions.{first_value}
use Rattle.spd_syntax.specs.Files.{Each, AValue}
use Rattle.spd_syntax.proofs.Moves.{refused_exit, word_longer}
use Rattle.spd_syntax.proofs.FileMoves.{further_fault, values_fault, further_says, each_more}
use Rattle.spd_syntax.proofs.reader.Reader.values.Goals as goal

pub returns-in_err-further_value-clause-err : goal.returns-in_err-further_value-clause-err
returns-in_err-further_value-clause-err c =
    let file = c.args.self.now.file.now in
    let f = c.in_err-further_value.field-0.0 in
    refused_exit file (first_value c.args.counts ∷ []) c.args.tokens.now c.from_residual-in_err-further_value.result f c.from_residual-in_err-further_value.ensures.1
    (further_fault file c.loop-word.values c.args.counts _ _ c.in-Some.word c.args.tokens.now c.loop-word.rest.now c.in-Some.after.now f c.loop-word.invariant.read c.loop-word.invariant.some c.loop-word.invariant.few
    c.loop-word.invariant.tests (ap length c.as_slice-count.ensures) (ap (λ (l : List Word). c.args.counts.tests + (length l - 1)) c.as_slice-count.ensures) c.in-Some.ensures c.in_err-further_value.ensures)

pub loop-word-preserved : goal.loop-word-preserved
loop-word-preserved c =
    let file = c.args.self.now.file.now in
    let w = c.in-Some.word in
    let n = length c.as_slice-count.result.now in
    let says = further_says file n (c.args.counts.tests + (n - 1)) w c.in_ok-further_value.ensures in
    let count = ap length c.as_slice-count.ensures in
    let pushed = c.in_ok-push-2.ensures.ok in
    let more = ap length pushed ∙ length-append c.loop-word.values (w ∷ []) in
    record {
      read = subst (λ (vs : List Word). Each (AValue file) vs c.args.tokens.now c.in-Some.after.now) (sym pushed)
          (each_more (AValue file) c.loop-word.values w c.args.tokens.now c.loop-word.rest.now c.in-Some.after.now c.loop-word.invariant.read (record { word = c.in-Some.ensures; value = says.0 }));
      some = omega (arith, more);
      few = omega (arith, more, says.1, count);
      tests = omega (arith, more, says.2, count, c.loop-word.invariant.some);
      left = omega (arith, word_longer w c.loop-word.rest.now c.in-Some.after.now c.in-Some.ensures, c.loop-word.invariant.left);
    }

pub returns-in_err-rest-clause-err : goal.returns-in_err-rest-clause-err
returns-in_err-rest-clause-err c =
    let file = c.args.self.now.file.now in
    let f = c.in_err-rest.field-0.0 in
    refused_exit file (first_value c.args.counts ∷ []) c.args.tokens.now c.from_residual-in_err-rest.result f c.from_residual-in_err-rest.ensures.1
    (values_fault file c.loop-word.values c.args.counts c.args.tokens.now c.loop-word.rest.now f c.loop-word.invariant.read c.loop-word.invariant.some c.loop-word.invariant.few
    c.loop-word.invariant.tests c.in_default.ensures c.in_err-rest.ensures.err)
