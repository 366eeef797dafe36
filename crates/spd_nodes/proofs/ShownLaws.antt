-- Calls one after the other: what they show, make and lack together.
use Rattle.std.proofs.Common.{◌≡◌, ℕ, ap, inl, inr, List, [], ◌∷◌, ◌++◌, refl, sym, ◌∙◌, subst, true, Bool, IsTrue, ◌==◌, Ok, Err}
use Rattle.std.proofs.lemmas.Bool.Decides.{Decides-eqb}
use Rattle.spd_cons_core.specs.declared.key.Entry.{Entry}
use Rattle.spd_nodes.specs.declared.forest.StoreFault.{StoreFault}
use Rattle.spd_nodes.specs.declared.forest.StoreFault.TheVariants as F
use Rattle.spd_nodes.specs.Trees.{Tree, IsNode, IsNodeOf, IsAt}
use Rattle.spd_nodes.specs.States.{Function, test_tree, Agree, AgreePast}
use Rattle.spd_nodes.specs.Shown.{Shown, IsSound, Grows, MakesOnly, LacksOne, Faults, KnowsAs, MakesTree, IsWhole, meaning, StandsFor}
use Rattle.spd_nodes.proofs.StateLaws.{positive-slots, test_tree-value, test_tree-function_of, tree-unique, part-unique}

-- all nodes of some trees are nodes of others
pub record Within (ts us : List Tree) : Type 0 where
  pub nodes : (x : Tree) → IsNodeOf x ts → IsNodeOf x us

pub within-one : (t : Tree) (us : List Tree) → ((x : Tree) → IsNode x t → IsNodeOf x us) → Within (t ∷ []) us
within-one t us h = record { nodes = λ x n. elim n [ inl a ↦ h x a | inr a ↦ absurd a ] }

node-front : (x : Tree) (ts us : List Tree) → IsNodeOf x ts → IsNodeOf x (ts ++ us)
node-front x [] us h = absurd h
node-front x (t ∷ ts) us (inl a) = inl a
node-front x (t ∷ ts) us (inr a) = inr (node-front x ts us a)

node-back : (x : Tree) (ts us : List Tree) → IsNodeOf x us → IsNodeOf x (ts ++ us)
node-back x [] us h = h
node-back x (t ∷ ts) us h = inr (node-back x ts us h)

pub within-front : (ts us : List Tree) → Within ts (ts ++ us)
within-front ts us = record { nodes = λ x h. node-front x ts us h }

pub within-back : (ts us : List Tree) → Within us (ts ++ us)
within-back ts us = record { nodes = λ x h. node-back x ts us h }

pub grows-none : (s : Shown) → Grows s s
grows-none s = record { sizes = refl; knows = λ r k. k; trees = λ r k. refl; published = λ r k. k; full = λ k. k }

pub grows-then : {s t v : Shown} → Grows s t → Grows t v → Grows s v
grows-then g h = record {
  sizes = h.sizes ∙ g.sizes;
  knows = λ r k. h.knows r (g.knows r k);
  trees = λ r k. h.trees r (g.knows r k) ∙ g.trees r k;
  published = λ r k. h.published r (g.published r k);
  full = λ k. h.full (g.full k);
}

pub makes-none : (s : Shown) (ts : List Tree) → MakesOnly s s ts
makes-none s ts = record { only = λ r k. inl k }

pub makes-within : {s t : Shown} {ts us : List Tree} → Within ts us → MakesOnly s t ts → MakesOnly s t us
makes-within w h = record { only = λ r p. elim (h.only r p) [ inl a ↦ inl a | inr a ↦ inr (w.nodes _ a) ] }

-- what two calls make of one list, they make together
pub makes-then : {s t v : Shown} {ts : List Tree} → IsSound t → Grows t v → MakesOnly s t ts → MakesOnly t v ts → MakesOnly s v ts
makes-then {ts = ts} o g h i = record {
  only = λ r p. elim (i.only r p) [
    | inl a ↦ elim (h.only r a) [ inl b ↦ inl b | inr b ↦ inr (subst (λ x. IsNodeOf x ts) (sym (g.trees r (o.listed r a))) b) ]
    | inr a ↦ inr a
  ];
}

-- two calls one after the other make only nodes of their two lists together
pub makes-both : {s t v : Shown} (ts us : List Tree) → IsSound t → Grows t v → MakesOnly s t ts → MakesOnly t v us → MakesOnly s v (ts ++ us)
makes-both ts us o g h i = makes-then o g (makes-within (within-front ts us) h) (makes-within (within-back ts us) i)

pub lacks-within : {t : Shown} {ts us : List Tree} → Within ts us → LacksOne t ts → LacksOne t us
lacks-within w h = record { full = h.full; node = h.node; is_node = w.nodes h.node h.is_node; unknown = h.unknown }

pub faults-within : (e : StoreFault) (t : Shown) {ts us : List Tree} → Within ts us → Faults e t ts → Faults e t us
faults-within F.Full t w h = lacks-within w h
faults-within F.Memory t w h = tt

-- a call that made nothing new: it knew the tree, or had no memory
pub makes_tree-known : (s : Shown) → IsSound s → (r : Entry) (t : Tree) → KnowsAs s r t → MakesTree s s t (Ok r)
makes_tree-known s o r t k = record { sound = o; grows = grows-none s; ok = k; makes = makes-none s (t ∷ []); fault = tt }

pub makes_tree-fault : (s : Shown) → IsSound s → (e : StoreFault) (t : Tree) → Faults e s (t ∷ []) → MakesTree s s t (Err e)
makes_tree-fault s o e t f = record { sound = o; grows = grows-none s; ok = tt; makes = makes-none s (t ∷ []); fault = f }

-- a known whole entry whose function is `f` at all states stands for `f`
pub stands-for : (s : Shown) → IsSound s → (r : Entry) (f : Function) → s.knows r ≡ true → IsWhole s r → Agree s.sizes (meaning s r) f → StandsFor s r f
stands-for s o r f k w h = record {
  knows = k;
  whole = w;
  value = h;
  tree = test_tree-value s.sizes (positive-slots s.sizes o.layout.values) (s.tree r) f (o.reduced r k) w h;
}

-- it goes on to stand for that
pub stands-grows : {s t : Shown} {r : Entry} {f : Function} → Grows s t → StandsFor s r f → StandsFor t r f
stands-grows {s = s} {t = t} {r = r} {f = f} g h =
    let e : t.tree r ≡ s.tree r = g.trees r h.knows in
    record {
      knows = g.knows r h.knows;
      whole = rw (g.sizes, e) h.whole;
      value = rw (g.sizes, e) h.value;
      tree = rw (g.sizes) (e ∙ h.tree);
    }

-- the tree of a whole entry is the test tree of its function
pub tree-meaning : (s : Shown) → IsSound s → (r : Entry) → s.knows r ≡ true → IsWhole s r → s.tree r ≡ test_tree s.sizes (meaning s r)
tree-meaning s o r k w = sym (test_tree-function_of s.sizes (positive-slots s.sizes o.layout.values) (s.tree r) (o.reduced r k) w)

-- whole entries of one function are equal
pub same-function : (s : Shown) → IsSound s → (f g : Entry) → s.knows f ≡ true → s.knows g ≡ true → IsWhole s f → IsWhole s g → Agree s.sizes (meaning s f) (meaning s g) → f ≡ g
same-function s o f g k m w v h =
    o.once f g k m (tree-unique s.sizes (positive-slots s.sizes o.layout.values) (s.tree f) (s.tree g) (o.reduced f k) w (o.reduced g m) v h)

-- so are entries of one root level and one function from its value on
pub same-rest : (s : Shown) → IsSound s → (l : ℕ) (f g : Entry) → s.knows f ≡ true → s.knows g ≡ true → IsAt l (s.tree f) → IsAt l (s.tree g) → AgreePast s.sizes l (meaning s f) (meaning s g) → f ≡ g
same-rest s o l f g k m w v h =
    o.once f g k m (part-unique s.sizes (positive-slots s.sizes o.layout.values) l (s.tree f) (s.tree g) (o.reduced f k) (o.reduced g m) w v h)

-- what a comparison of entries says of what they stand for
pub when-same : (f g : Entry) (b : Bool) (P : Entry → Type 0) → (b ≡ (f.0 == g.0)) → P f → (P g → f ≡ g) → (IsTrue b → P g) × (P g → IsTrue b)
when-same f g b P e p back = (
  λ h. subst P (let q : f.0 ≡ g.0 = (Decides-eqb f.0 g.0).0 (sym e ∙ h) in λ i. record { 0 = q i }) p,
  λ h. e ∙ (Decides-eqb f.0 g.0).1 (ap (λ (r : Entry). r.0) (back h)),
)
