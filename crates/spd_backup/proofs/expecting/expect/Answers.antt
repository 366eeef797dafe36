use Rattle.std.proofs.Common.{◌≡◌, ℕ, ◌<◌, length, refl, sym, ◌∙◌, ap, subst, arith, rules, Ok}
use Rattle.spd_model.proofs.CallerLemmas.StateOrder.{length-sizes}
use Rattle.spd_backup.specs.Keeping.{HoldVariable}
use Rattle.spd_backup.specs.Making.{MakesFirst, MakesExpected}
use Rattle.spd_backup.proofs.ExactLaws.{down-grows}
use Rattle.spd_backup.proofs.KeepingLaws.{each-set}
use Rattle.spd_model.proofs.CallerLemmas.Results.{err_is}
use Rattle.spd_backup.proofs.StepLaws.{can-sum-out, sum-then, nothing-summed, first-fails}
use Rattle.spd_backup.proofs.expecting.expect.Goals as goal

pub loop-var-init : goal.loop-var-init
loop-var-init g c = record {
  made = λ m a w f. nothing-summed c.args.way m a w (g.F.Forest.shows c.args.forest.now) c.layout.ensures.sound c.args.next f.stands;
  keeps = refl;
  sums = c.requires.sums;
}

pub index_mut-requires : goal.index_mut-requires
index_mut-requires g c =
    let n : length c.as_slice-sizes.result.now ≡ length c.args.thawed.now.sizes.items = ap length c.as_slice-sizes.ensures.value in
    let b : c.loop-var.var < length c.loop-var.sums.items = subst (λ (k : ℕ). c.loop-var.var < k) (n ∙ sym c.loop-var.invariant.sums.count) c.loop-var-test.true in
    search rules

pub sum_variable-requires : goal.sum_variable-requires
sum_variable-requires g c =
    let k = c.requires.followed in
    let so = c.loop-var.invariant.made k.process k.chosen k.value k.follows in
    let n : length c.as_slice-sizes.result.now ≡ length c.args.thawed.now.sizes.items = ap length c.as_slice-sizes.ensures.value in
    let b : c.loop-var.var < length c.args.thawed.now.sizes.items = subst (λ (k : ℕ). c.loop-var.var < k) n c.loop-var-test.true in
    record {
      down = down-grows (g.F.Forest.shows c.args.forest.now) (g.F.Forest.shows c.loop-var.forest) c.args.down.now so.among.grows c.requires.down;
      can = can-sum-out c.args.way k.process k.chosen k.value (g.F.Forest.shows c.args.forest.now) c.args.thawed.now c.args.action c.args.next k.follows (g.F.Forest.shows c.loop-var.forest) so.among.grows c.loop-var.expected c.loop-var.var b so.among.ok
          c.index_mut.result.now (subst (HoldVariable c.args.way c.loop-var.var (g.F.Forest.shows c.loop-var.forest)) (sym c.index_mut.ensures.value) (c.loop-var.invariant.sums.each c.loop-var.var c.index_mut.result.now b));
    }

pub loop-var-preserved : goal.loop-var-preserved
loop-var-preserved g c =
    let k = c.requires.followed in
    let n : length c.as_slice-sizes.result.now ≡ length c.args.thawed.now.sizes.items = ap length c.as_slice-sizes.ensures.value in
    let b : c.loop-var.var < length c.args.thawed.now.sizes.items = subst (λ (k : ℕ). c.loop-var.var < k) n c.loop-var-test.true in
    record {
      made = λ m a w f.
          sum-then c.args.way m a w (g.F.Forest.shows c.args.forest.now) c.args.thawed.now c.args.action c.args.next f (g.F.Forest.shows c.loop-var.forest) (c.loop-var.invariant.made m a w f).among.grows c.loop-var.expected c.loop-var.var b (c.loop-var.invariant.made m a w f).among.ok
          c.layout.ensures.sound (c.loop-var.invariant.made m a w f) (g.F.Forest.shows c.sum_variable.new.forest) _ c.in_ok-expected.ensures.made;
      keeps = c.sum_variable.ensures.keeps ∙ c.loop-var.invariant.keeps;
      sums = each-set c.args.way (length c.args.thawed.now.sizes.items) (g.F.Forest.shows c.loop-var.forest) (g.F.Forest.shows c.sum_variable.new.forest) c.loop-var.sums.items c.loop-var.var c.sum_variable.new.tables c.in_ok-expected.ensures.made.grows c.loop-var.invariant.sums b c.sum_variable.ensures.tables;
    }

pub returns-in_err-expected-clause-made : goal.returns-in_err-expected-clause-made
returns-in_err-expected-clause-made g c =
    let n : length c.as_slice-sizes.result.now ≡ length c.args.thawed.now.sizes.items = ap length c.as_slice-sizes.ensures.value in
    let b : c.loop-var.var < length c.args.thawed.now.sizes.items = subst (λ (k : ℕ). c.loop-var.var < k) n c.loop-var-test.true in
    λ m a w f.
    subst (MakesExpected c.args.way m a w (g.F.Forest.shows c.args.forest.now) (g.F.Forest.shows c.sum_variable.new.forest)) (sym (err_is c.from_residual.result c.in_err-expected.field-0.0 c.from_residual.ensures.1))
    (first-fails c.in_err-expected.field-0.0 (length m.vars) (sum-then c.args.way m a w (g.F.Forest.shows c.args.forest.now) c.args.thawed.now c.args.action c.args.next f (g.F.Forest.shows c.loop-var.forest) (c.loop-var.invariant.made m a w f).among.grows c.loop-var.expected c.loop-var.var b (c.loop-var.invariant.made m a w f).among.ok
    c.layout.ensures.sound (c.loop-var.invariant.made m a w f) (g.F.Forest.shows c.sum_variable.new.forest) _ c.in_err-expected.ensures.made))

pub returns-in_err-expected-clause-keeps : goal.returns-in_err-expected-clause-keeps
returns-in_err-expected-clause-keeps g c = c.sum_variable.ensures.keeps ∙ c.loop-var.invariant.keeps

pub returns-in_err-expected-clause-sums : goal.returns-in_err-expected-clause-sums
returns-in_err-expected-clause-sums g c =
    let n : length c.as_slice-sizes.result.now ≡ length c.args.thawed.now.sizes.items = ap length c.as_slice-sizes.ensures.value in
    let b : c.loop-var.var < length c.args.thawed.now.sizes.items = subst (λ (k : ℕ). c.loop-var.var < k) n c.loop-var-test.true in
    each-set c.args.way (length c.args.thawed.now.sizes.items) (g.F.Forest.shows c.loop-var.forest) (g.F.Forest.shows c.sum_variable.new.forest) c.loop-var.sums.items c.loop-var.var c.sum_variable.new.tables c.in_err-expected.ensures.made.grows c.loop-var.invariant.sums b c.sum_variable.ensures.tables

pub returns-clause-made : goal.returns-clause-made
returns-clause-made g c =
    let n : length c.as_slice-sizes.result.now ≡ length c.args.thawed.now.sizes.items = ap length c.as_slice-sizes.ensures.value in
    λ m a w f.
    subst (λ i. MakesFirst c.args.way m a w i (g.F.Forest.shows c.args.forest.now) (g.F.Forest.shows c.loop-var.forest) (Ok c.loop-var.expected))
    (all-summed c.loop-var.var (length c.as_slice-sizes.result.now) _ _ _ (omega arith) n (ap length f.has.thawed.own) (length-sizes m)) (c.loop-var.invariant.made m a w f)
  where
    all-summed : (i n k l v : ℕ) → i ≡ n → n ≡ k → k ≡ l → l ≡ v → i ≡ v
    all-summed i n k l v e f g h = e ∙ f ∙ g ∙ h

pub returns-clause-keeps : goal.returns-clause-keeps
returns-clause-keeps g c = c.loop-var.invariant.keeps

pub returns-clause-sums : goal.returns-clause-sums
returns-clause-sums g c = c.loop-var.invariant.sums
