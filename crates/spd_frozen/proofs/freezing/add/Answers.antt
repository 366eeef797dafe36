use Rattle.std.proofs.Common.{◌≡◌, ℕ, inr, sym, ◌∙◌, ap, subst, ◌++◌, ◌∷◌, []}
use Rattle.std.proofs.lemmas.List.{map-append}
use Rattle.std.proofs.lemmas.Result.{IfOk-weaker}
use Rattle.spd_frozen.specs.Mixed.{all_slotted, slotted}
use Rattle.spd_frozen.specs.inner.Completed.{AddsNode}
use Rattle.spd_frozen.proofs.FreezeLaws.{inserted}
use Rattle.spd_frozen.proofs.freezing.add.Goals as goal

pub returns-in_ok-push-in-Ok-default-true : goal.returns-in_ok-push-in-Ok-default-true
returns-in_ok-push-in-Ok-default-true c =
    let refs = c.args.done.now.refs.keys in
    let new = c.insert_full.new.self.keys in
    let nodes = all_slotted c.args.done.now.nodes.items in
    let v = c.in-Ok-default-true in
    let h = v.ensures in
    let i = inserted refs new c.args.r h.stored.0 v.place v.field-0-1 h.added h.keys h.index h.stored.1 h.stored.2 in
    let n = i.new v.field-0-1-test in
    let more : all_slotted c.push.new.self.items ≡ nodes ++ slotted c.args.node ∷ [] = ap all_slotted c.in_ok-push-in-Ok-default-true.ensures.items ∙ map-append slotted c.args.done.now.nodes.items (c.args.node ∷ []) in
    let P : ℕ → Type 0 = λ (m : ℕ). AddsNode refs new nodes (all_slotted c.push.new.self.items) c.args.r (slotted c.args.node) m in
    let done : P v.place = inr (n.0, more, n.1, n.2) in
    IfOk-weaker c.number_of.result (λ m. m ≡ v.place) P (λ m e. subst P (sym e) done) c.number_of.ensures
