use Rattle.std.proofs.Common.{◌≡◌, ◌∙◌, rules, true, map, List, ap, sym, subst, All}
use Rattle.spd_cons_core.specs.declared.key.Entry.{Entry}
use Rattle.spd_model.specs.Process.{Process}
use Rattle.spd_model.specs.Numbers.{greatest}
use Rattle.spd_model.specs.Chances.{reward_of}
use Rattle.spd_nodes.specs.Shown.{Shown, IsWhole, meaning}
use Rattle.spd_nodes.proofs.CallerLemmas.{stand-known, stand-whole}
use Rattle.spd_frozen.specs.Freezing.{IsOfPresent}
use Rattle.spd_frozen.specs.Frozen.{frozen_of}
use Rattle.spd_frozen.specs.Mixed.{mixed_of}
use Rattle.spd_build.specs.Functions.{all_weights, reward}
use Rattle.spd_build.proofs.BuiltLaws.{numbers-list, weight-lists, reward-lists, rewards-present}
use Rattle.spd_build.proofs.building.built_of.Goals as goal

pub freeze_weights-requires-clause-known : goal.freeze_weights-requires-clause-known
freeze_weights-requires-clause-known g c =
    let s = g.F.Forest.shows c.args.forest.now in
    subst (λ (l : List Entry). All (λ r. s.knows r ≡ true) l) (sym c.as_slice.ensures.value)
    (stand-known s c.args.drawn.now.weights.items (all_weights c.args.model.now) c.requires.drawn.weights)

pub freeze_weights-requires-clause-whole : goal.freeze_weights-requires-clause-whole
freeze_weights-requires-clause-whole g c =
    let s = g.F.Forest.shows c.args.forest.now in
    subst (λ (l : List Entry). All (λ r. IsWhole s r) l) (sym c.as_slice.ensures.value)
    (stand-whole s c.args.drawn.now.weights.items (all_weights c.args.model.now) c.requires.drawn.weights)

pub freeze_rewards-requires-clause-known : goal.freeze_rewards-requires-clause-known
freeze_rewards-requires-clause-known g c =
    let m = c.args.model.now in
    let s = g.F.Forest.shows c.args.forest.now in
    subst (λ (v : Shown). All (λ r. v.knows r ≡ true) c.as_slice-2.result.now) (sym c.freeze_weights.ensures.same)
    (subst (λ (l : List Entry). All (λ r. s.knows r ≡ true) l) (sym c.as_slice-2.ensures.value)
    (stand-known s c.args.drawn.now.rewards.items (map (reward m) m.actions) c.requires.drawn.rewards))

pub freeze_rewards-requires-clause-whole : goal.freeze_rewards-requires-clause-whole
freeze_rewards-requires-clause-whole g c =
    let m = c.args.model.now in
    let s = g.F.Forest.shows c.args.forest.now in
    subst (λ (v : Shown). All (λ r. IsWhole v r) c.as_slice-2.result.now) (sym c.freeze_weights.ensures.same)
    (subst (λ (l : List Entry). All (λ r. IsWhole s r) l) (sym c.as_slice-2.ensures.value)
    (stand-whole s c.args.drawn.now.rewards.items (map (reward m) m.actions) c.requires.drawn.rewards))

pub freeze_rewards-requires-clause-present : goal.freeze_rewards-requires-clause-present
freeze_rewards-requires-clause-present g c =
    let m = c.args.model.now in
    let s = g.F.Forest.shows c.args.forest.now in
    subst (λ (v : Shown). All (λ r. IsOfPresent v r) c.as_slice-2.result.now) (sym c.freeze_weights.ensures.same)
    (subst (λ (l : List Entry). All (λ r. IsOfPresent s r) l) (sym c.as_slice-2.ensures.value)
    (rewards-present m s c.requires.layout c.args.drawn.now.rewards.items m.actions c.requires.drawn.rewards))

pub returns-clause-built : goal.returns-clause-built
returns-clause-built g c =
    let m = c.args.model.now in
    let s = g.F.Forest.shows c.args.forest.now in
    let own = c.requires.drawn in
    let same = c.freeze_rewards.ensures.same ∙ c.freeze_weights.ensures.same in
    let copied : c.in_ok-sizes.sizes.items ≡ c.sizes.result.now = search rules in
    record {
      sums = own.sums;
      rewards = own.limits;
      parts = record {
        weights = c.in_ok-weights.ensures.lists ∙ ap (map (λ r. mixed_of s.sizes (meaning s r))) c.as_slice.ensures.value
            ∙ weight-lists m s c.requires.layout c.args.drawn.now.weights.items (all_weights m) own.weights;
        rewards = c.in_ok-rewards.ensures.lists
            ∙ ap (λ (v : Shown). map (λ r. frozen_of v.sizes (λ x. meaning v r x x)) c.as_slice-2.result.now) c.freeze_weights.ensures.same
            ∙ ap (map (λ r. frozen_of s.sizes (λ x. meaning s r x x))) c.as_slice-2.ensures.value
            ∙ reward-lists m s c.requires.layout c.args.drawn.now.rewards.items m.actions own.rewards;
        start = c.in_ok-start.ensures.reduced ∙ ap (λ (v : Shown). frozen_of v.sizes (λ x. meaning v c.args.drawn.now.start x x)) same
            ∙ numbers-list m s c.args.drawn.now.start (λ x. greatest (map (λ a. reward_of m a x) m.actions)) c.requires.layout own.start;
        sizes = copied ∙ c.sizes.ensures.sizes ∙ c.layout.ensures.sizes ∙ ap (λ (v : Shown). v.sizes) (c.freeze.ensures.same ∙ same) ∙ c.requires.layout;
        discount = ap (λ (p : Process). p.discount) c.model.view_is;
      };
    }
