use Rattle.std.proofs.Common.{rules, ◌≡◌, ◌∙◌, ◌++◌, ◌∷◌, [], ℕ, ℤ, pos, drop, get_or, arith, below_more, FitsSigned, length-append}
use Rattle.std.proofs.lemmas.Int.{to_z-of_z}
use Rattle.std.proofs.lemmas.List.{get_or_append_left, get_or_push}
use mir.Syntax.{w128}
use Rattle.spd_model.specs.States.{sizes, states}
use Rattle.spd_plain.specs.inner.Chances.{chance_of}
use Rattle.spd_plain.proofs.chances.read_chances.Goals as goal

pub loop-place-preserved : goal.loop-place-preserved
loop-place-preserved c =
    let k = c.loop-place.place in
    let now = c.loop-place.chances.items in
    let x = c.chance_at.result in
    let fits : FitsSigned w128 x = search rules in
    let at : ℕ → ℤ = λ j. chance_of c.args.model.now c.args.action.now c.args.s.now c.args.axis.now.var (get_or (states (drop c.args.axis.now.var (sizes c.args.model.now))) j []) in
    rw c.in_ok-push.ensures.items (simp to_z-of_z (record {
      len = length-append now (x ∷ []) ∙ omega arith;
      each = below_more (λ j. get_or (now ++ x ∷ []) j (pos 0) ≡ at j) k
          (λ j h. get_or_append_left now (x ∷ []) (pos 0) j (omega arith) ∙ c.loop-place.invariant.each j h)
          (get_or_push now x (pos 0) k (omega arith) ∙ c.chance_at.ensures.value);
    }))
