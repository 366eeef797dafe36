use Rattle.std.proofs.Common.{◌≡◌, ◌++◌, ◌+◌, ◌∷◌, [], ℕ, List, sym, ap, ◌∙◌, take, drop}
use Rattle.spd_model.specs.Process.{Process}
use Rattle.spd_model.specs.ResultText.{state_words, value_name}
use Rattle.spd_text.specs.inner.Pieces.{spaced}
use Rattle.spd_text.proofs.TextLaws.{variable-more, variables-all, variables-split}
use Rattle.spd_text.proofs.WritingLaws.{writes-nothing, writes-then, writes-as, writes-exit}
use Rattle.spd_text.proofs.result.put_state.Goals as goal

pub loop-i-init : goal.loop-i-init
loop-i-init g c = writes-nothing _ _ _

pub loop-i-preserved : goal.loop-i-preserved
loop-i-preserved g c =
    let m = c.args.model.now in
    let s = c.args.state.now in
    let i = c.loop-i.i in
    let var = c.var-item.result in
    let all : c.as_slice-var-items.result.now ≡ m.vars = c.as_slice-var-items.ensures ∙ ap (λ (p : Process). p.vars) c.model.view_is in
    let name : c.as_slice.result.now ≡ var.name = c.as_slice.ensures in
    let value : c.value_name-value.result.now ≡ value_name var c.get.result = c.value_name-value.ensures in
    let own : spaced (take i (state_words m s)) ++ (32 ∷ (c.as_slice.result.now ++ (61 ∷ (c.value_name-value.result.now ++ []))))
    ≡ spaced (take i (state_words m s)) ++ (32 ∷ (var.name ++ (61 ∷ (value_name var c.get.result ++ [])))) =
    λ k. spaced (take i (state_words m s)) ++ (32 ∷ (name k ++ (61 ∷ (value k ++ [])))) in
    writes-as _ _ _ _ _ _ _ (own ∙ variable-more m s c.as_slice-var-items.result.now i c.get.result var all c.loop-i-test.true c.requires c.var-item.is c.get.ensures)
    (writes-then _ _ _ _ _ _ _ _ _ _ c.loop-i.invariant c.in_ok-put_all.ensures)

pub returns-in_err-put_all : goal.returns-in_err-put_all
returns-in_err-put_all g c =
    let m = c.args.model.now in
    let s = c.args.state.now in
    let i = c.loop-i.i in
    let var = c.var-item.result in
    let all : c.as_slice-var-items.result.now ≡ m.vars = c.as_slice-var-items.ensures ∙ ap (λ (p : Process). p.vars) c.model.view_is in
    let name : c.as_slice.result.now ≡ var.name = c.as_slice.ensures in
    let value : c.value_name-value.result.now ≡ value_name var c.get.result = c.value_name-value.ensures in
    let text : List ℕ = spaced (take i (state_words m s)) ++ (32 ∷ (c.as_slice.result.now ++ (61 ∷ (c.value_name-value.result.now ++ [])))) in
    let own : text ≡ spaced (take i (state_words m s)) ++ (32 ∷ (var.name ++ (61 ∷ (value_name var c.get.result ++ [])))) =
    λ k. spaced (take i (state_words m s)) ++ (32 ∷ (name k ++ (61 ∷ (value k ++ [])))) in
    let rest = spaced (drop (i + 1) (state_words m s)) in
    writes-exit _ _ _ _ _ text _ rest _ _ c.from_residual.ensures.0
    (variables-split m s (i + 1) ∙ ap (λ (l : List ℕ). l ++ rest) (sym (own ∙ variable-more m s c.as_slice-var-items.result.now i c.get.result var all c.loop-i-test.true c.requires c.var-item.is c.get.ensures)))
    (writes-then _ _ _ _ _ _ _ _ _ _ c.loop-i.invariant c.in_err-put_all.ensures)

pub returns : goal.returns
returns g c =
    let m = c.args.model.now in
    writes-as _ _ _ _ _ _ _
    (variables-all m c.args.state.now c.as_slice-var-items.result.now c.loop-i.i (c.as_slice-var-items.ensures ∙ ap (λ (p : Process). p.vars) c.model.view_is) c.loop-i-test.false c.requires)
    c.loop-i.invariant
