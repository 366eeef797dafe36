use Rattle.std.proofs.Common.{rules, arith, ap, inl, inr, true, get_or, ◌∙◌, ◌≡◌, ◌<◌, ◌+◌, ◌*◌, length}
use Rattle.std.proofs.lemmas.List.Elements.{All-get_or}
use Rattle.spd_weigh.proofs.EarlyLaws.{alone-end, alone-more}
use Rattle.spd_weigh.proofs.weighing.is_alone.Goals.{then-ne+else-not-is_that_zero, else-ne}
use Rattle.spd_weigh.proofs.weighing.is_alone.Goals as goal

pub returns-clause-alone : goal.returns-clause-alone
returns-clause-alone g c =
    let end : length c.args.list.now < 2 * c.loop-v.v + 2 = search (rules, arith) in
    λ _. c.loop-v.invariant.alone (alone-end (g.F.Forest.shows c.args.forest.now) ((g.F.Forest.shows c.args.forest.now).tree c.args.value) c.args.list.now c.loop-v.v end)

pub loop-v-preserved : goal.loop-v-preserved
loop-v-preserved g c =
    let s = g.F.Forest.shows c.args.forest.now in
    let u = s.tree c.args.value in
    let near : 2 * c.loop-v.v + 1 < length c.args.list.now = search (rules, arith) in
    let before = c.loop-v.invariant in
    elim c.if-ne.branch [
      | then-ne+else-not-is_that_zero w ↦
          let same = w.is_that_zero.ensures.same ∙ before.same in
          let is = rw before.same at (w.is_that_zero.ensures.zero w.if-not-is_that_zero.false) in
          record {
            same = rw w.forest-is same;
            keeps = rw w.forest-is (w.is_that_zero.ensures.keeps ∙ before.keeps);
            zero = rw w.zero-is (record { knows = All-get_or (λ r. s.knows r ≡ true) c.args.list.now (2 * c.loop-v.v) _ (omega (arith, near)) c.requires.known; tree = is });
            alone = λ a. before.alone (alone-more s u c.args.list.now c.loop-v.v (record { 0 = 0 }) (record { 0 = 0 }) near (inl is) a);
          }
      | else-ne w ↦
          let is : get_or c.args.list.now (2 * c.loop-v.v + 1) (record { 0 = 0 }) ≡ c.args.value = search rules in
          record {
            same = rw w.forest-is before.same;
            keeps = rw w.forest-is before.keeps;
            zero = rw w.zero-is before.zero;
            alone = λ a. before.alone (alone-more s u c.args.list.now c.loop-v.v (record { 0 = 0 }) (record { 0 = 0 }) near (inr (ap s.tree is)) a);
          }
    ]
