use Rattle.std.proofs.Common.{◌≡◌, ◌∙◌, ◌<◌, ◌≤◌, ◌+◌, suc, ℕ, length, nat_le, true, false, List, Option, Some, None, get_or, if◌then◌else◌, ap, sym, subst, arith}
use Rattle.std.proofs.lemmas.Bool.Decides.{nat_tests}
use Rattle.std.proofs.lemmas.List.Elements.{All-contains}
use Rattle.std.proofs.lemmas.Option.{slice_get_read}
use Rattle.spd_model.specs.declared.tree.Tree.{Tree}
use Rattle.spd_model.specs.Process.{Process}
use Rattle.spd_model.specs.Lawful.{IsLawful, IsAction}
use Rattle.spd_model.specs.Trees.{read_tree, read_in}
use Rattle.spd_plain.specs.declared.reach.Reach.{Reach}
use Rattle.spd_plain.specs.declared.reach.Reach.TheVariants.{Own, Later}
use Rattle.spd_plain.specs.inner.Reach.{latest, reach_at}
use Rattle.spd_plain.proofs.Tables.{map_below_more}
use Rattle.spd_plain.proofs.reach.reaches_after.Goals as goal
use Rattle.spd_plain.proofs.reach.reaches_after.Goals.{then-latest_in-var, else-latest_in-var}

le_holds : (x y z : ℕ) → x ≡ z → x ≤ y + 1 → nat_le z (suc y) ≡ true
le_holds x y z e h = let k : z ≤ suc y = omega arith in grind (arith, nat_tests)

le_fails : (x y z : ℕ) → x ≡ z → y + 1 < x → nat_le z (suc y) ≡ false
le_fails x y z e h = let k : suc y < z = omega arith in grind (arith, nat_tests)

pub loop-var-preserved : goal.loop-var-preserved
loop-var-preserved c =
    let m = c.args.model.now in
    let a = c.args.action.now in
    let k = c.loop-var.var in
    let law = subst IsLawful c.model.view_is c.model.invariant in
    let action = All-contains (IsAction m) m.actions a law.actions c.requires.action in
    let tree = c.index-tables-var.result in
    let near : k < length m.vars = omega (arith, ap length (c.as_slice-var-end.ensures ∙ ap (λ (m : Process). m.vars) c.model.view_is), c.loop-var-test.true) in
    let found = slice_get_read a.tables _ k tree (sym action.one_each) near (c.index-tables-var.is ∙ ap (λ (l : List Tree). get_or l k tree) c.as_slice-tables.ensures) in
    let last : c.latest_in.result ≡ read_in latest m tree = c.latest_in.ensures ∙ ap (λ (l : List ℕ). read_tree latest l tree) c.requires.diagrams in
    let by : Option Tree → Reach = λ o. elim o [ None ↦ Later | Some t ↦ if nat_le (read_in latest m t) (suc k) then Own else Later ] in
    let here : c.if-latest_in-var.reach ≡ reach_at m a k = elim c.if-latest_in-var.branch [
      | then-latest_in-var w ↦ w.reach-is ∙ sym (ap by found ∙ ap (λ b. if b then Own else Later) (le_holds _ k _ last w.if-latest_in-var.true))
      | else-latest_in-var w ↦ w.reach-is ∙ sym (ap by found ∙ ap (λ b. if b then Own else Later) (le_fails _ k _ last w.if-latest_in-var.false))
    ] in
    c.in_ok-push.ensures.items ∙ map_below_more (reach_at m a) k c.loop-var.reaches.items c.if-latest_in-var.reach c.loop-var.invariant here
