use Rattle.std.proofs.Common.{◌≡◌, ℕ, true, false, List, inl, inr, get_or, sym, ◌∙◌, ap, subst, arith}
use Rattle.std.proofs.lemmas.Bool.{cases_lt}
use Rattle.std.proofs.lemmas.List.{get_or_default}
use Rattle.std.proofs.lemmas.List.Sums.{position_or_len_is}
use Rattle.spd_nodes.specs.Shown.{Shown, meaning}
use Rattle.spd_nodes.specs.Trees.{leaf_eq}
use Rattle.spd_backup.specs.declared.backing.Bounds.{Bounds}
use Rattle.spd_residual.proofs.leaves.first_upper.Goals as goal

pub returns-then-is_wanted-clause-first : goal.returns-then-is_wanted-clause-first
returns-then-is_wanted-clause-first g c =
    let s : Shown = g.F.Forest.shows c.args.forest.now in
    let x : List ℕ = c.args.state.now in
    let none : Bounds = record { lo = record { 0 = 0 }; hi = record { 0 = 0 } } in
    let here : leaf_eq c.args.leaf (meaning s (get_or c.args.bounds.now c.loop-i.i none).hi x x) ≡ true =
    ap (leaf_eq c.args.leaf) (sym (rw c.loop-i.invariant.same at c.leaf_at-upper.ensures.leaf)) ∙ sym c.is_wanted.ensures ∙ c.if-is_wanted.true in
    sym (position_or_len_is (λ (b : Bounds). leaf_eq c.args.leaf (meaning s b.hi x x)) c.args.bounds.now c.loop-i.i none (omega (arith, c.loop-i-test.true))
    (λ k b. c.loop-i.invariant.before k none b) (λ b. here))

pub loop-i-preserved : goal.loop-i-preserved
loop-i-preserved g c =
    let s : Shown = g.F.Forest.shows c.args.forest.now in
    let x : List ℕ = c.args.state.now in
    let none : Bounds = record { lo = record { 0 = 0 }; hi = record { 0 = 0 } } in
    let here : leaf_eq c.args.leaf (meaning s (get_or c.args.bounds.now c.loop-i.i none).hi x x) ≡ false =
    ap (leaf_eq c.args.leaf) (sym (rw c.loop-i.invariant.same at c.leaf_at-upper.ensures.leaf)) ∙ sym c.is_wanted.ensures ∙ c.if-is_wanted.false in
    record {
      same = c.leaf_at-upper.ensures.same ∙ c.loop-i.invariant.same;
      keeps = c.leaf_at-upper.ensures.keeps ∙ c.loop-i.invariant.keeps;
      before = λ k d b. elim (cases_lt k c.loop-i.i) [
        | inl before ↦ c.loop-i.invariant.before k d before
        | inr after ↦
            let is : get_or c.args.bounds.now c.loop-i.i none ≡ get_or c.args.bounds.now k d =
            get_or_default c.args.bounds.now c.loop-i.i none d c.loop-i-test.true ∙ ap (λ n. get_or c.args.bounds.now n d) (omega arith) in
            subst (λ (z : Bounds). leaf_eq c.args.leaf (meaning s z.hi x x) ≡ false) is here
      ];
    }

pub returns-clause-first : goal.returns-clause-first
returns-clause-first g c =
    let s : Shown = g.F.Forest.shows c.args.forest.now in
    let x : List ℕ = c.args.state.now in
    let none : Bounds = record { lo = record { 0 = 0 }; hi = record { 0 = 0 } } in
    sym (position_or_len_is (λ (b : Bounds). leaf_eq c.args.leaf (meaning s b.hi x x)) c.args.bounds.now _ none (omega arith)
    (λ k b. c.loop-i.invariant.before k none (omega (arith, c.loop-i-test.false))) (λ b. absurd (omega arith)))
