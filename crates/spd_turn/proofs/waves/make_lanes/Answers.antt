use Rattle.std.proofs.Common.{[], ◌∷◌, length, sym, ap, subst, All, arith}
use Rattle.std.proofs.lemmas.List.{length-append}
use Rattle.spd_backup.specs.Keeping.{HoldAll}
use Rattle.std.proofs.lemmas.List.Elements.{All-push}
use Rattle.spd_turn.proofs.waves.make_lanes.Goals as goal

pub loop-preserved : goal.loop-preserved
loop-preserved c = record {
  count = omega (arith, ap length c.in_ok-push.ensures.items, length-append c.loop.lanes.items (c.in_ok-new.field-0 ∷ []), c.loop.invariant.count);
  hold = λ discount s. subst (All (HoldAll (length c.args.sizes.now) discount s)) (sym c.in_ok-push.ensures.items)
      (All-push (HoldAll (length c.args.sizes.now) discount s) c.loop.lanes.items c.in_ok-new.field-0 (c.loop.invariant.hold discount s) (c.in_ok-new.ensures discount s));
}
