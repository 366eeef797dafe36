use Rattle.std.proofs.Common.{ap, ◌∙◌}
use Rattle.spd_model.specs.Process.{Process}
use Rattle.spd_solver.proofs.StateTexts.{next_word, all_words}
use Rattle.spd_solver.proofs.states.state_text.Goals as goal

pub loop-i-preserved : goal.loop-i-preserved
loop-i-preserved c =
    next_word c.args.model.now c.args.state.now c.as_slice-var-items.result.now (c.as_slice-var-items.ensures ∙ ap (λ (m : Process). m.vars) c.model.view_is) c.requires
    c.loop-i.i c.get.result c.var-item.result c.loop-i.text.items _ c.loop-i-test.true c.var-item.is c.get.ensures c.loop-i.invariant c.in_ok-put_word.ensures

pub returns : goal.returns
returns c =
    c.from_vec.ensures
    ∙ all_words c.args.model.now c.args.state.now c.as_slice-var-items.result.now (c.as_slice-var-items.ensures ∙ ap (λ (m : Process). m.vars) c.model.view_is) c.requires
    c.loop-i.i c.loop-i.text.items c.loop-i-test.false c.loop-i.invariant
