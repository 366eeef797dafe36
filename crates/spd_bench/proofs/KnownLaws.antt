-- What is known of leaves stays while a forest grows.
use Rattle.std.proofs.Common.{List, ◌∷◌, [], ◌++◌, All, ◌∙◌}
use Rattle.std.proofs.lemmas.List.Elements.{All-push}
use Rattle.spd_cons_core.specs.declared.key.Entry.{Entry}
use Rattle.spd_nodes.specs.declared.leaf.Leaf.{Leaf}
use Rattle.spd_nodes.specs.Trees.{Ends}
use Rattle.spd_nodes.specs.Shown.{Shown, Grows, KnowsAs}
use Rattle.spd_nodes.proofs.CallerLemmas.{grows-none, grows-then}
use Rattle.spd_bench.specs.Built.{IsKnownLeaf}

pub known-leaf : {s : Shown} {r : Entry} {a : Leaf} → KnowsAs s r (Ends a) → IsKnownLeaf s r
known-leaf {a = a} h = record { knows = h.knows; leaf = a; tree = h.tree }

pub leaf-grows : {s t : Shown} {r : Entry} → Grows s t → IsKnownLeaf s r → IsKnownLeaf t r
leaf-grows {r = r} g h = record { knows = g.knows r h.knows; leaf = h.leaf; tree = g.trees r h.knows ∙ h.tree }

pub leaves-grow : {s t : Shown} (refs : List Entry) → Grows s t → All (IsKnownLeaf s) refs → All (IsKnownLeaf t) refs
leaves-grow refs g h = λ i x e. leaf-grows g (h i x e)

pub leaves-push : {s : Shown} (refs : List Entry) (r : Entry) → All (IsKnownLeaf s) refs → IsKnownLeaf s r → All (IsKnownLeaf s) (refs ++ r ∷ [])
leaves-push {s = s} refs r h k = All-push (IsKnownLeaf s) refs r h k

pub ruleset known_laws = (grows-none, grows-then, leaf-grows, leaves-grow, leaves-push)
