use Rattle.std.proofs.Common.{[], ◌∷◌, ◌++◌, ◌∙◌, ap}
use Rattle.spd_reader.proofs.IndexViews.{shown_more}
use Rattle.spd_reader.proofs.index.Index.names.Goals as goal

pub loop-name-preserved : goal.loop-name-preserved
loop-name-preserved c =
    shown_more c.as_slice-name-items.result.now c.loop-name.name-index _ c.loop-name.names c.push.new.self c.loop-name-test.true
    (c.in_ok-push.ensures.ok ∙ ap (λ name. c.loop-name.names ++ name ∷ []) c.in_ok-from_slice.ensures) c.loop-name.invariant
