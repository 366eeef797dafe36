use Rattle.std.proofs.Common.{rules, arith, ap, sym, subst, inl, inr, ◌∙◌, ◌+◌, ◌*◌, ◌<◌, ◌≤◌, ◌++◌, List, length}
use Rattle.spd_cons_core.specs.declared.key.Entry.{Entry}
use Rattle.spd_gather.specs.Lists.{trees_of, AreKnown}
use Rattle.spd_weigh.specs.Summed.{zero_tree, IsShorter}
use Rattle.spd_weigh.proofs.ShortLaws.{short-skip, short-keep, short-end, known-keep}
use Rattle.spd_weigh.proofs.weighing.weighed_pairs.Goals as goal

pub loop-v-preserved : goal.loop-v-preserved
loop-v-preserved c =
    let d : Entry = record { 0 = 0 } in
    let near : 2 * c.loop-v.v + 1 < length c.args.list.now = search (rules, arith) in
    let ks = c.args.list.now in
    let old = c.loop-v.short.items in
    let before = c.loop-v.invariant in
    elim (c.add_pair.ensures c.if-not-add_pair.false) [
      | inl q ↦ record {
        known = λ s h. subst (λ (l : List Entry). AreKnown s l) (sym q.1) (before.known s h);
        shorter = λ s z us h. subst (λ (l : List Entry). IsShorter zero_tree (trees_of s ks) (trees_of s l ++ us)) (sym q.1) (before.shorter s z us (short-skip s ks c.loop-v.v d near (ap s.tree q.0 ∙ z) us h));
      }
      | inr q ↦ record {
        known = λ s h. subst (λ (l : List Entry). AreKnown s l) (sym q) (known-keep s ks old c.loop-v.v d near h (before.known s h));
        shorter = λ s z us h. subst (λ (l : List Entry). IsShorter zero_tree (trees_of s ks) (trees_of s l ++ us)) (sym q) (short-keep s ks old c.loop-v.v d near (before.shorter s z) us h);
      }
    ]

pub returns-clause-shorter : goal.returns-clause-shorter
returns-clause-shorter c =
    let end : length c.args.list.now ≤ 2 * c.loop-v.v = search (rules, arith) in
    λ _ s z. short-end s c.args.list.now c.loop-v.short.items (2 * c.loop-v.v) end (c.loop-v.invariant.shorter s z)
