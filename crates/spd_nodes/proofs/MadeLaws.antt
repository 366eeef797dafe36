-- What calls make one after the other, and what a call that made a tree says of the tree's function.
use Rattle.std.proofs.Common.{◌≡◌, ℕ, List, [], ◌∷◌, refl, sym, ◌∙◌, ap, subst, inl, Result, Ok, Err, IfOk, IfErr}
use Rattle.spd_cons_core.specs.declared.key.Entry.{Entry}
use Rattle.spd_nodes.specs.declared.forest.StoreFault.{StoreFault}
use Rattle.spd_nodes.specs.Levels.{slots}
use Rattle.spd_nodes.specs.Trees.{Tree, IsFrom, IsReduced, join}
use Rattle.spd_nodes.specs.States.{Function, test_tree, test_trees, function_of, Agree}
use Rattle.spd_nodes.specs.Shown.{Shown, IsSound, KnowsAs, StandsFor, Faults, FaultsAt, MakesOnly, MakesTree, MakesAmong, MakesDiagram}
use Rattle.spd_nodes.proofs.StateLaws.{positive-slots, test_tree-value, test_tree-agree}
use Rattle.spd_nodes.proofs.ShownLaws.{Within, within-one, grows-none, grows-then, makes-none, makes-within, makes-then, faults-within}
use Rattle.spd_nodes.proofs.TestLaws.{in-yes, in-no}

pub within-yes : (l : ℕ) (y n : Tree) → Within (y ∷ []) (join l y n ∷ [])
within-yes l y n = within-one y (join l y n ∷ []) (λ x h. inl (in-yes x y n l h))

pub within-no : (l : ℕ) (y n : Tree) → Within (n ∷ []) (join l y n ∷ [])
within-no l y n = within-one n (join l y n ∷ []) (λ x h. inl (in-no x y n l h))

-- a call for a tree's part failed
pub part-fails : {s t : Shown} {part u : Tree} (e : StoreFault) → Within (part ∷ []) (u ∷ []) → MakesTree s t part (Err e) → MakesTree s t u (Err e)
part-fails {t = t} e w m = record { sound = m.sound; grows = m.grows; ok = tt; makes = makes-within w m.makes; fault = faults-within e t w m.fault }

-- a tree's part was made, and then the tree
pub part-then : {s t v : Shown} {part u : Tree} {q r : Result Entry StoreFault} → Within (part ∷ []) (u ∷ []) → MakesTree s t part q → MakesTree t v u r → MakesTree s v u r
part-then w m n = record { sound = n.sound; grows = grows-then m.grows n.grows; ok = n.ok; makes = makes-then m.sound n.grows (makes-within w m.makes) n.makes; fault = n.fault }

-- a tree that is reduced and whole, and has a function's value at all states
pub record IsTreeFor (s : Shown) (u : Tree) (f : Function) : Type 0 where
  pub reduced : IsReduced (slots s.sizes) 0 u
  pub whole : IsFrom (slots s.sizes) 0 0 u
  pub value : Agree s.sizes (function_of s.sizes u) f

-- it is the function's test tree
pub tree-for : {s : Shown} {u : Tree} {f : Function} → IsSound s → IsTreeFor s u f → u ≡ test_tree s.sizes f
tree-for {s = s} {u = u} {f = f} o h = test_tree-value s.sizes (positive-slots s.sizes o.layout.values) u f h.reduced h.whole h.value

if_ok-map : {A E : Type 0} (P Q : A → Type 0) → ((a : A) → P a → Q a) → (r : Result A E) → IfOk r P → IfOk r Q
if_ok-map P Q f (Ok a) h = f a h
if_ok-map P Q f (Err e) h = tt

if_err-map : {A E : Type 0} (P Q : E → Type 0) → ((e : E) → P e → Q e) → (r : Result A E) → IfErr r P → IfErr r Q
if_err-map P Q f (Ok a) h = tt
if_err-map P Q f (Err e) h = f e h

-- a call that makes the tree makes the function's diagram
pub makes-diagram : {s t : Shown} {u : Tree} {f : Function} {r : Result Entry StoreFault} → IsSound s → IsTreeFor s u f → MakesTree s t u r → MakesDiagram s t f r
makes-diagram {s = s} {t = t} {u = u} {f = f} {r = r} o h m = record {
  sound = m.sound;
  grows = m.grows;
  ok = if_ok-map (λ q. KnowsAs t q u) (λ q. StandsFor t q f) stands r m.ok;
  makes = subst (λ v. MakesOnly s t (v ∷ [])) (tree-for o h) m.makes;
  fault = if_err-map (λ e. Faults e t (u ∷ [])) (λ e. FaultsAt e t (f ∷ [])) (λ e q. subst (λ (v : Tree). Faults e t (v ∷ [])) same q) r m.fault;
}
  where
    same : u ≡ test_tree t.sizes f
    same = tree-for o h ∙ ap (λ (z : List ℕ). test_tree z f) (sym m.grows.sizes)

    stands : (q : Entry) → KnowsAs t q u → StandsFor t q f
    stands q k = record {
      knows = k.knows;
      whole = rw (m.grows.sizes, k.tree) h.whole;
      value = rw (m.grows.sizes, k.tree) h.value;
      tree = k.tree ∙ same;
    }

-- a function that agrees with another one stands for it, and is made as it is
module _ (s t : Shown) (o : IsSound s) (f g : Function) (same : Agree s.sizes f g) (sizes : t.sizes ≡ s.sizes) where
  agree-tree : test_tree t.sizes f ≡ test_tree t.sizes g
  agree-tree = rw sizes (test_tree-agree s.sizes (positive-slots s.sizes o.layout.values) f g same)

  pub agree-stands : (r : Entry) → StandsFor t r f → StandsFor t r g
  agree-stands r h = record { knows = h.knows; whole = h.whole; value = agree-value; tree = h.tree ∙ agree-tree }
    where
      agree-value : Agree t.sizes (function_of t.sizes (t.tree r)) g
      agree-value = record { at = λ x y i j. h.value.at x y i j ∙ same.at x y (rw sizes at i) (rw sizes at j) }

pub diagram-agrees : {s t : Shown} {f g : Function} {r : Result Entry StoreFault} → IsSound s → Agree s.sizes f g → MakesDiagram s t f r → MakesDiagram s t g r
diagram-agrees {s = s} {t = t} {f = f} {g = g} {r = r} o same m = record {
  sound = m.sound;
  grows = m.grows;
  ok = if_ok-map (λ q. StandsFor t q f) (λ q. StandsFor t q g) (agree-stands s t o f g same m.grows.sizes) r m.ok;
  makes = subst (λ v. MakesOnly s t (v ∷ [])) (agree-tree s s o f g same refl) m.makes;
  fault = if_err-map (λ e. FaultsAt e t (f ∷ [])) (λ e. FaultsAt e t (g ∷ [])) (λ e q. subst (λ (v : Tree). Faults e t (v ∷ [])) (agree-tree s t o f g same m.grows.sizes) q) r m.fault;
}

-- a call made nodes of some functions, and then another one made a diagram among them
pub among-then : {s t v : Shown} {f g : Function} {nodes : List Function} {q r : Result Entry StoreFault}
    → Within (test_tree s.sizes g ∷ []) (test_trees s.sizes nodes) → MakesAmong s t f nodes q → MakesDiagram t v g r → MakesAmong s v g nodes r
among-then {s = s} {t = t} {v = v} {g = g} {nodes = nodes} {r = r} w m n = record {
  sound = n.sound;
  grows = grows-then m.grows n.grows;
  ok = n.ok;
  makes = makes-then m.sound n.grows m.makes (makes-within w (subst (λ (z : List ℕ). MakesOnly t v (test_tree z g ∷ [])) m.grows.sizes n.makes));
  fault = if_err-map (λ e. FaultsAt e v (g ∷ [])) (λ e. FaultsAt e v nodes) (λ e q. faults-within e v (subst (λ (z : List ℕ). Within (test_tree z g ∷ []) (test_trees z nodes)) (sym (n.grows.sizes ∙ m.grows.sizes)) w) q) r n.fault;
}

-- a call that made nothing new: it knew the diagram
pub makes_among-known : (s : Shown) → IsSound s → (r : Entry) (f : Function) (nodes : List Function) → StandsFor s r f → MakesAmong s s f nodes (Ok r)
makes_among-known s o r f nodes k = record { sound = o; grows = grows-none s; ok = k; makes = makes-none s (test_trees s.sizes nodes); fault = tt }

-- what failed on the way to one function failed on the way to another one
pub among-fails : {s t : Shown} {f g : Function} {nodes : List Function} (e : StoreFault) → MakesAmong s t f nodes (Err e) → MakesAmong s t g nodes (Err e)
among-fails e m = record { sound = m.sound; grows = m.grows; ok = tt; makes = m.makes; fault = m.fault }

pub among-agrees : {s t : Shown} {f g : Function} {nodes : List Function} {r : Result Entry StoreFault} → IsSound s → Agree s.sizes f g → MakesAmong s t f nodes r → MakesAmong s t g nodes r
among-agrees {s = s} {t = t} {f = f} {g = g} {r = r} o same m = record {
  sound = m.sound;
  grows = m.grows;
  ok = if_ok-map (λ q. StandsFor t q f) (λ q. StandsFor t q g) (agree-stands s t o f g same m.grows.sizes) r m.ok;
  makes = m.makes;
  fault = m.fault;
}
