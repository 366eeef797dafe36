use Rattle.std.proofs.Common.{◌≡◌, ◌<◌, ◌∙◌, length, get_or, subst, sym, ap}
use Rattle.std.proofs.lemmas.Bool.Decides.{Decides-ltb}
use Rattle.spd_cons_core.specs.declared.key.Key.{Key}
use Rattle.spd_cons_core.specs.declared.key.Key.TheVariants as K
use Rattle.spd_nodes.specs.Store.{Held, IsStore, shown, key_view}
use Rattle.spd_nodes.specs.Shown.{IsViewOf}
use Rattle.spd_nodes.proofs.StoreLaws.{view-at, is_sound-shown}
use Rattle.spd_nodes.proofs.ShownLaws.{tree-meaning}
use Rattle.spd_nodes.proofs.alone.AloneForest.view.Goals as goal

pub returns-clause-view : goal.returns-clause-view
returns-clause-view c =
    let store : IsStore c.args.self.now = subst (λ (v : Held). IsStore v) c.self.view_is c.self.invariant in
    let known : c.args.r.0 < length c.args.self.now.keys = (Decides-ltb c.args.r.0 (length c.args.self.now.keys)).0 c.requires.known in
    let key : get_or c.args.self.now.keys c.args.r.0 (K.Act 0) ≡ c.at.result =
    ap (λ (v : Held). get_or v.keys c.args.r.0 (K.Act 0)) (sym c.self.view_is) ∙ c.at.ensures.is in
    rw c.view_of.ensures (subst (λ (v : Key). IsViewOf (shown c.args.self.now) c.args.r (key_view v)) key (view-at c.args.self.now store c.args.r known))

pub returns-clause-tree : goal.returns-clause-tree
returns-clause-tree c whole =
    let store : IsStore c.args.self.now = subst (λ (v : Held). IsStore v) c.self.view_is c.self.invariant in
    tree-meaning (shown c.args.self.now) (is_sound-shown c.args.self.now store) c.args.r c.requires.known whole
