use Rattle.std.proofs.Common.{◌≡◌, ◌∙◌, ◌+◌, ◌++◌, ◌∷◌, [], ℕ, length, take, take_all, get_or, slice_get, ap, sym, arith, length-append}
use Rattle.std.proofs.lemmas.List.{take_more}
use Rattle.std.proofs.lemmas.Option.{get_or_from_slice_get, slice_get_within}
use Rattle.spd_model.specs.States.{sizes, states}
use Rattle.spd_model.proofs.CallerLemmas.StateOrder.{length-states, stands_at}
use Rattle.spd_plain.proofs.Products.{past_none}
use Rattle.spd_plain.proofs.space.all_states.Goals as goal

pub next_state-next-requires : goal.next_state-next-requires
next_state-next-requires c = (stands_at (sizes c.args.model.now) (length c.loop-next.all.items) c.in-Some.state (sym c.loop-next.invariant.next ∙ c.in-Some.is)).state

pub loop-next-smaller : goal.loop-next-smaller
loop-next-smaller c =
    let z = sizes c.args.model.now in
    let k = length c.loop-next.all.items in
    let near = slice_get_within (states z) k c.in-Some.state (sym c.loop-next.invariant.next ∙ c.in-Some.is) in
    let more : length c.push.new.self.items ≡ k + 1 = ap length c.in_ok-push.ensures.items ∙ length-append c.loop-next.all.items (c.in-Some.state ∷ []) in
    omega (arith, near, more, length-states z)

pub loop-next-preserved : goal.loop-next-preserved
loop-next-preserved c =
    let z = sizes c.args.model.now in
    let k = length c.loop-next.all.items in
    let found = sym c.loop-next.invariant.next ∙ c.in-Some.is in
    let near = slice_get_within (states z) k c.in-Some.state found in
    let more : length c.push.new.self.items ≡ k + 1 = ap length c.in_ok-push.ensures.items ∙ length-append c.loop-next.all.items (c.in-Some.state ∷ []) in
    let here : c.in-Some.state ≡ get_or (states z) k [] = sym (get_or_from_slice_get (states z) k c.in-Some.state [] found) in
    let stands = stands_at z k c.in-Some.state found in
    record {
      all = c.in_ok-push.ensures.items ∙ (λ i. c.loop-next.invariant.all i ++ here i ∷ []) ∙ sym (take_more (states z) k [] near) ∙ ap (λ (n : ℕ). take n (states z)) (sym more);
      next = c.next_state-next.ensures ∙ ap (slice_get (states z)) (ap (λ (n : ℕ). n + 1) stands.rank_is ∙ sym more);
    }

pub returns : goal.returns
returns c =
    let z = sizes c.args.model.now in
    let k = length c.loop-next.all.items in
    c.loop-next.invariant.all ∙ take_all k (states z) (past_none (states z) k [] (sym c.loop-next.invariant.next ∙ c.in_default.is))
