-- What calls make one after the other, of lists of functions; and entries that stand for the functions of a list.
use Rattle.std.proofs.Common.{◌≡◌, ◌⊎◌, ℕ, zero, suc, ◌+◌, ◌<◌, List, [], ◌∷◌, ◌++◌, length, map, flat_map, get_or, take, refl, sym, ap, ◌∙◌, subst, arith, inl, inr, Result, Ok, Err, IfErr, All, true}
use Rattle.std.specs.List.{AllZip}
use Rattle.std.proofs.lemmas.List.{take_more, map_push}
use Rattle.std.proofs.lemmas.List.Elements.{All-nil, All-cons, All-head, All-tail}
use Rattle.spd_cons_core.specs.declared.key.Entry.{Entry}
use Rattle.spd_nodes.specs.declared.forest.StoreFault.{StoreFault}
use Rattle.spd_nodes.specs.declared.forest.StoreFault.TheVariants as F
use Rattle.spd_nodes.specs.Trees.{Tree, IsNode, IsNodeOf}
use Rattle.spd_nodes.specs.States.{Function, function_of, test_tree, test_trees}
use Rattle.spd_nodes.specs.Shown.{Shown, IsSound, IsWhole, Grows, MakesOnly, MakesAmong, StandsFor, FaultsAt, meaning}
use Rattle.spd_nodes.proofs.ShownLaws.{Within, grows-none, grows-then, makes-none, makes-then, makes-within, faults-within, stands-grows}
use Rattle.spd_nodes.specs.Made.{HasMade, MakesAll}

-- all nodes of some functions are nodes of others, whatever the layout
pub record Among (fs gs : List Function) : Type 0 where
  pub nodes : (sizes : List ℕ) → Within (test_trees sizes fs) (test_trees sizes gs)

nodes-front : (sizes : List ℕ) (x : Tree) (fs gs : List Function) → IsNodeOf x (test_trees sizes fs) → IsNodeOf x (test_trees sizes (fs ++ gs))
nodes-front sizes x [] gs h = absurd h
nodes-front sizes x (f ∷ fs) gs (inl a) = inl a
nodes-front sizes x (f ∷ fs) gs (inr a) = inr (nodes-front sizes x fs gs a)

nodes-back : (sizes : List ℕ) (x : Tree) (fs gs : List Function) → IsNodeOf x (test_trees sizes gs) → IsNodeOf x (test_trees sizes (fs ++ gs))
nodes-back sizes x [] gs h = h
nodes-back sizes x (f ∷ fs) gs h = inr (nodes-back sizes x fs gs h)

pub among-trans : {fs gs hs : List Function} → Among fs gs → Among gs hs → Among fs hs
among-trans a b = record { nodes = λ sizes. record { nodes = λ x h. (b.nodes sizes).nodes x ((a.nodes sizes).nodes x h) } }

pub among-front : (fs gs : List Function) → Among fs (fs ++ gs)
among-front fs gs = record { nodes = λ sizes. record { nodes = λ x h. nodes-front sizes x fs gs h } }

pub among-back : (fs gs : List Function) → Among gs (fs ++ gs)
among-back fs gs = record { nodes = λ sizes. record { nodes = λ x h. nodes-back sizes x fs gs h } }

-- the functions of one entry are among those of a list
pub among-flat : {X : Type 0} (f : X → List Function) (xs : List X) (k : ℕ) (d : X) → k < length xs → Among (f (get_or xs k d)) (flat_map f xs)
among-flat f [] k d h = absurd (omega arith)
among-flat f (x ∷ xs) zero d h = among-front (f x) (flat_map f xs)
among-flat f (x ∷ xs) (suc k) d h = among-trans (among-flat f xs k d (omega arith)) (among-back (f x) (flat_map f xs))

-- a function is one of a list
abbrev pub IsIn : Function → List Function → Type 0
IsIn f [] = ⊥
IsIn f (g ∷ gs) = (g ≡ f) ⊎ IsIn f gs

pub in-front : (f : Function) (fs gs : List Function) → IsIn f fs → IsIn f (fs ++ gs)
in-front f [] gs h = absurd h
in-front f (g ∷ fs) gs (inl e) = inl e
in-front f (g ∷ fs) gs (inr h) = inr (in-front f fs gs h)

pub in-back : (f : Function) (fs gs : List Function) → IsIn f gs → IsIn f (fs ++ gs)
in-back f [] gs h = h
in-back f (g ∷ fs) gs h = inr (in-back f fs gs h)

-- nodes of its test tree are nodes of the list
node-in : (sizes : List ℕ) (f : Function) (fs : List Function) → IsIn f fs → (x : Tree) → IsNode x (test_tree sizes f) → IsNodeOf x (test_trees sizes fs)
node-in sizes f [] i x h = absurd i
node-in sizes f (g ∷ fs) (inl e) x h = inl (subst (λ (u : Function). IsNode x (test_tree sizes u)) (sym e) h)
node-in sizes f (g ∷ fs) (inr i) x h = inr (node-in sizes f fs i x h)

pub within-in : (sizes : List ℕ) (f : Function) (fs : List Function) → IsIn f fs → Within (test_tree sizes f ∷ []) (test_trees sizes fs)
within-in sizes f fs i = record { nodes = λ x h. elim h [ inl a ↦ node-in sizes f fs i x a | inr a ↦ absurd a ] }

-- ---- what was made

pub has-none : (s : Shown) → IsSound s → (nodes : List Function) → HasMade s s nodes
has-none s o nodes = record { sound = o; grows = grows-none s; makes = makes-none s (test_trees s.sizes nodes) }

pub has-wider : {s t : Shown} {fs gs : List Function} → Among fs gs → HasMade s t fs → HasMade s t gs
has-wider {s = s} a h = record { sound = h.sound; grows = h.grows; makes = makes-within (a.nodes s.sizes) h.makes }

pub has-then : {s t v : Shown} {fs gs : List Function} → Among fs gs → HasMade s t gs → HasMade t v fs → HasMade s v gs
has-then {s = s} {t = t} {v = v} {fs = fs} a h k = record {
  sound = k.sound;
  grows = grows-then h.grows k.grows;
  makes = makes-then h.sound k.grows h.makes (makes-within (a.nodes s.sizes) (subst (λ (z : List ℕ). MakesOnly t v (test_trees z fs)) h.grows.sizes k.makes));
}

pub has-made : {s t : Shown} {f : Function} {nodes : List Function} {r : Result Entry StoreFault} → MakesAmong s t f nodes r → HasMade s t nodes
has-made m = record { sound = m.sound; grows = m.grows; makes = m.makes }

pub fault-wider : {fs gs : List Function} (e : StoreFault) (t : Shown) → Among fs gs → FaultsAt e t fs → FaultsAt e t gs
fault-wider e t a h = faults-within e t (a.nodes t.sizes) h

pub faults-wider : {A : Type 0} {fs gs : List Function} (t : Shown) → Among fs gs → (r : Result A StoreFault) → IfErr r (λ e. FaultsAt e t fs) → IfErr r (λ e. FaultsAt e t gs)
faults-wider t a (Ok x) h = tt
faults-wider t a (Err e) h = fault-wider e t a h

-- after some functions a diagram among them was made
pub among-after : {s t v : Shown} {f : Function} {fs gs : List Function} {r : Result Entry StoreFault} → Among fs gs → HasMade s t gs → MakesAmong t v f fs r → MakesAmong s v f gs r
among-after {v = v} {r = r} a h m =
    let all = has-then a h (has-made m) in
    record { sound = m.sound; grows = all.grows; ok = m.ok; makes = all.makes; fault = faults-wider v a r m.fault }

-- a call failed for want of memory
pub all-out : {A : Type 0} {s t : Shown} {nodes : List Function} (e : StoreFault) → e ≡ F.Memory → HasMade s t nodes → MakesAll {A = A} s t nodes (Err e)
all-out {t = t} {nodes = nodes} e is h = record { made = h; fault = subst (λ (v : StoreFault). FaultsAt v t nodes) (sym is) tt }

-- a part failed
pub part-failed : {A : Type 0} {s t v : Shown} {f : Function} {fs gs : List Function} (e : StoreFault) → Among fs gs → HasMade s t gs → MakesAmong t v f fs (Err e) → MakesAll {A = A} s v gs (Err e)
part-failed {v = v} e a h m = record { made = has-then a h (has-made m); fault = fault-wider e v a m.fault }

pub among-failed : {s t : Shown} {f : Function} {nodes : List Function} (e : StoreFault) → HasMade s t nodes → FaultsAt e t nodes → MakesAmong s t f nodes (Err e)
among-failed e h f = record { sound = h.sound; grows = h.grows; ok = tt; makes = h.makes; fault = f }

-- ---- entries that stand for functions

pub stand-grow : {s t : Shown} → Grows s t → (rs : List Entry) (fs : List Function) → AllZip (StandsFor s) rs fs → AllZip (StandsFor t) rs fs
stand-grow g [] [] h = tt
stand-grow g [] (f ∷ fs) h = absurd h
stand-grow g (r ∷ rs) [] h = absurd h
stand-grow g (r ∷ rs) (f ∷ fs) h = (stands-grows g h.0, stand-grow g rs fs h.1)

pub stand-known : (s : Shown) (rs : List Entry) (fs : List Function) → AllZip (StandsFor s) rs fs → All (λ r. s.knows r ≡ true) rs
stand-known s [] [] h = All-nil (λ r. s.knows r ≡ true)
stand-known s [] (f ∷ fs) h = absurd h
stand-known s (r ∷ rs) [] h = absurd h
stand-known s (r ∷ rs) (f ∷ fs) h = let first = h.0 in All-cons (λ r. s.knows r ≡ true) r rs first.knows (stand-known s rs fs h.1)

pub stand-whole : (s : Shown) (rs : List Entry) (fs : List Function) → AllZip (StandsFor s) rs fs → All (λ r. IsWhole s r) rs
stand-whole s [] [] h = All-nil (λ r. IsWhole s r)
stand-whole s [] (f ∷ fs) h = absurd h
stand-whole s (r ∷ rs) [] h = absurd h
stand-whole s (r ∷ rs) (f ∷ fs) h = let first = h.0 in All-cons (λ r. IsWhole s r) r rs first.whole (stand-whole s rs fs h.1)

pub stand-length : (s : Shown) (rs : List Entry) (fs : List Function) → AllZip (StandsFor s) rs fs → length rs ≡ length fs
stand-length s [] [] h = refl
stand-length s [] (f ∷ fs) h = absurd h
stand-length s (r ∷ rs) [] h = absurd h
stand-length s (r ∷ rs) (f ∷ fs) h = ap suc (stand-length s rs fs h.1)

pub stand-push : (s : Shown) (rs : List Entry) (fs : List Function) (r : Entry) (f : Function) → AllZip (StandsFor s) rs fs → StandsFor s r f → AllZip (StandsFor s) (rs ++ r ∷ []) (fs ++ f ∷ [])
stand-push s [] [] r f h k = (k, tt)
stand-push s [] (g ∷ fs) r f h k = absurd h
stand-push s (q ∷ rs) [] r f h k = absurd h
stand-push s (q ∷ rs) (g ∷ fs) r f h k = (h.0, stand-push s rs fs r f h.1 k)

-- entries for the first of some things, and one for the next
pub stand-more : {X : Type 0} {s t : Shown} (f : X → Function) (xs : List X) (i : ℕ) (x : X) → Grows s t → (refs new : List Entry) (r : Entry) → i < length xs → x ≡ get_or xs i x
    → AllZip (StandsFor s) refs (map f (take i xs)) → StandsFor t r (f x) → new ≡ refs ++ r ∷ [] → AllZip (StandsFor t) new (map f (take (i + 1) xs))
stand-more {t = t} f xs i x g refs new r near is stand own e =
    let more : map f (take (i + 1) xs) ≡ map f (take i xs) ++ f x ∷ [] =
    ap (map f) (take_more xs i x near) ∙ map_push f (take i xs) (get_or xs i x) ∙ ap (λ y. map f (take i xs) ++ f y ∷ []) (sym is) in
    let all = stand-push t refs (map f (take i xs)) r (f x) (stand-grow g refs (map f (take i xs)) stand) own in
    subst (λ l. AllZip (StandsFor t) l (map f (take (i + 1) xs))) (sym e) (subst (AllZip (StandsFor t) (refs ++ r ∷ [])) (sym more) all)

-- ---- two calls that make nodes of one list

pub among-both : {s t v : Shown} {f g : Function} {nodes : List Function} {q r : Result Entry StoreFault} → MakesAmong s t f nodes q → MakesAmong t v g nodes r → MakesAmong s v g nodes r
among-both {s = s} {t = t} {v = v} {nodes = nodes} m n = record {
  sound = n.sound;
  grows = grows-then m.grows n.grows;
  ok = n.ok;
  makes = makes-then m.sound n.grows m.makes (subst (λ (z : List ℕ). MakesOnly t v (test_trees z nodes)) m.grows.sizes n.makes);
  fault = n.fault;
}

-- ---- functions stay

pub meaning-grows : (s t : Shown) (r : Entry) → Grows s t → s.knows r ≡ true → meaning t r ≡ meaning s r
meaning-grows s t r g k = λ i. function_of (g.sizes i) (g.trees r k i)

pub meanings-grow : (s t : Shown) (rs : List Entry) → Grows s t → All (λ r. s.knows r ≡ true) rs → map (meaning t) rs ≡ map (meaning s) rs
meanings-grow s t [] g k = refl
meanings-grow s t (r ∷ rs) g k =
    let first = meaning-grows s t r g (All-head (λ q. s.knows q ≡ true) r rs k) in
    let rest = meanings-grow s t rs g (All-tail (λ q. s.knows q ≡ true) r rs k) in
    λ i. first i ∷ rest i
