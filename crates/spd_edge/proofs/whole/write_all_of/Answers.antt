use Rattle.std.proofs.Common.{subst, sym, arith, List, ℕ}
use Rattle.std.proofs.lemmas.Grind.{common_steps}
use Rattle.std.proofs.Math.Seq.{take-add}
use Rattle.spd_edge.specs.Told.{Took}
use Rattle.spd_edge.proofs.CallerLemmas.{Took-trans}
use Rattle.spd_edge.proofs.whole.write_all_of.Goals as goal

pub loop-done-preserved : goal.loop-done-preserved
loop-done-preserved g c =
    let before = c.loop-done.invariant in
    let done = c.loop-done.done in
    let n = c.in_ok-done.field-0 in
    let P : List ℕ → Type 0 = λ xs. Took (g.K.Sink.taken c.args.k.now) xs (g.K.Sink.taken c.write.new.self) in
    record {
      within = grind (arith, common_steps, c.in_ok-done.ensures.within);
      took = subst P (sym (take-add done n c.args.bytes.now)) (Took-trans _ _ _ _ _ before.took (grind (arith, common_steps, c.in_ok-done.ensures.took)));
      ok = grind (arith, common_steps);
      named = grind (arith, common_steps);
    }
