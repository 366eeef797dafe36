-- Points are pairs of states, and what the laws of trees say of functions of states.
use Rattle.std.proofs.Common.{◌≡◌, ℕ, suc, ◌-◌, ◌*◌, ◌<◌, ◌≤◌, List, [], ◌∷◌, refl, sym, ◌∙◌, ap, subst, arith, All}
use Rattle.spd_model.specs.States.{IsState}
use Rattle.spd_nodes.specs.Levels.{levels_of, slots, AllPositive, IsPast}
use Rattle.spd_nodes.specs.Trees.{Tree, IsReduced, IsFrom, IsAt, value_at}
use Rattle.spd_nodes.specs.States.{Function, point, plain_part, primed_part, test_tree, function_of, Agree, AgreePast}
use Rattle.spd_nodes.proofs.TreeLaws.{tree_of-value_at, tree_of-agree, one_part}
use Rattle.spd_nodes.proofs.ValueLaws.{value_at-tree_of}

pub IsState-point : (sizes s t : List ℕ) → IsState sizes s → IsState sizes t → IsState (slots sizes) (point s t)
IsState-point [] [] t p q = tt
IsState-point [] (x ∷ s) t p q = absurd p
IsState-point (d ∷ ds) [] t p q = absurd p
IsState-point (d ∷ ds) (x ∷ s) [] p q = absurd q
IsState-point (d ∷ ds) (x ∷ s) (y ∷ t) p q = (q.0, (p.0, IsState-point ds s t p.1 q.1))

pub plain_part-point : (sizes s t : List ℕ) → IsState sizes s → IsState sizes t → plain_part (point s t) ≡ s
plain_part-point [] [] t p q = refl
plain_part-point [] (x ∷ s) t p q = absurd p
plain_part-point (d ∷ ds) [] t p q = absurd p
plain_part-point (d ∷ ds) (x ∷ s) [] p q = absurd q
plain_part-point (d ∷ ds) (x ∷ s) (y ∷ t) p q = ap (λ r. x ∷ r) (plain_part-point ds s t p.1 q.1)

pub primed_part-point : (sizes s t : List ℕ) → IsState sizes s → IsState sizes t → primed_part (point s t) ≡ t
primed_part-point [] [] [] p q = refl
primed_part-point [] [] (y ∷ t) p q = absurd q
primed_part-point [] (x ∷ s) t p q = absurd p
primed_part-point (d ∷ ds) [] t p q = absurd p
primed_part-point (d ∷ ds) (x ∷ s) [] p q = absurd q
primed_part-point (d ∷ ds) (x ∷ s) (y ∷ t) p q = ap (λ r. y ∷ r) (primed_part-point ds s t p.1 q.1)

-- a point in range is that of two states
pub record IsPointOf (sizes p : List ℕ) : Type 0 where
  pub plain : IsState sizes (plain_part p)
  pub primed : IsState sizes (primed_part p)
  pub point_is : point (plain_part p) (primed_part p) ≡ p

pub point-parts : (sizes p : List ℕ) → IsState (slots sizes) p → IsPointOf sizes p
point-parts [] [] h = record { plain = tt; primed = tt; point_is = refl }
point-parts [] (x ∷ p) h = absurd h
point-parts (d ∷ ds) [] h = absurd h
point-parts (d ∷ ds) (y ∷ []) h = absurd h.1
point-parts (d ∷ ds) (y ∷ x ∷ p) h =
    let r : IsPointOf ds p = point-parts ds p h.1.1 in
    record { plain = (h.1.0, r.plain); primed = (h.0, r.primed); point_is = ap (λ q. y ∷ x ∷ q) r.point_is }

pub positive-slots : (ds : List ℕ) → All (λ d. (0 < d) × (d ≤ 64)) ds → AllPositive (slots ds)
positive-slots [] h = tt
positive-slots (d ∷ ds) h =
    let first : 0 < d = (h 0 d (omega arith)).0 in
    (first, (first, positive-slots ds (λ k e q. h (suc k) e (omega arith))))

-- there are twice as many levels as tests of the plain values
pub levels_of-slots : (ds : List ℕ) → levels_of (slots ds) ≡ 2 * levels_of ds
levels_of-slots [] = refl
levels_of-slots (d ∷ ds) = let e : levels_of (slots ds) ≡ 2 * levels_of ds = levels_of-slots ds in omega arith

module _ (sizes : List ℕ) (ok : AllPositive (slots sizes)) where
  -- functions that agree at all states have one test tree
  pub test_tree-agree : (f g : Function) → Agree sizes f g → test_tree sizes f ≡ test_tree sizes g
  test_tree-agree f g h =
      tree_of-agree (slots sizes) 0 _ _ ok
      (λ p i. let q : IsPointOf sizes p = point-parts sizes p i in h.at (plain_part p) (primed_part p) q.plain q.primed)

  -- the test tree of a function has the function's value
  pub function_of-test_tree : (f : Function) → Agree sizes (function_of sizes (test_tree sizes f)) f
  function_of-test_tree f = record {
    at = λ s t i j.
        value_at-tree_of (slots sizes) 0 (λ p. f (plain_part p) (primed_part p)) (point s t) (IsState-point sizes s t i j)
        ∙ ap (λ v. f v (primed_part (point s t))) (plain_part-point sizes s t i j)
        ∙ ap (λ v. f s v) (primed_part-point sizes s t i j);
  }

  -- a reduced whole tree is the test tree of the function for which it stands
  pub test_tree-function_of : (t : Tree) → IsReduced (slots sizes) 0 t → IsFrom (slots sizes) 0 0 t → test_tree sizes (function_of sizes t) ≡ t
  test_tree-function_of t r w =
      tree_of-agree (slots sizes) 0 _ _ ok
      (λ p i. let q : IsPointOf sizes p = point-parts sizes p i in ap (value_at (slots sizes) 0 t) q.point_is)
      ∙ tree_of-value_at (slots sizes) 0 t r w

  -- it is the test tree of each function that it has at all states
  pub test_tree-value : (t : Tree) (f : Function) → IsReduced (slots sizes) 0 t → IsFrom (slots sizes) 0 0 t → Agree sizes (function_of sizes t) f → t ≡ test_tree sizes f
  test_tree-value t f r w h = sym (test_tree-function_of t r w) ∙ test_tree-agree (function_of sizes t) f h

  -- reduced whole trees of one function are equal
  pub tree-unique : (t u : Tree) → IsReduced (slots sizes) 0 t → IsFrom (slots sizes) 0 0 t → IsReduced (slots sizes) 0 u → IsFrom (slots sizes) 0 0 u
      → Agree sizes (function_of sizes t) (function_of sizes u) → t ≡ u
  tree-unique t u r w s v h = test_tree-value t (function_of sizes u) r w h ∙ test_tree-function_of u s v

  -- so are reduced trees with one root level and one function from that level's value on
  pub part-unique : (l : ℕ) (t u : Tree) → IsReduced (slots sizes) 0 t → IsReduced (slots sizes) 0 u → IsAt l t → IsAt l u
      → AgreePast sizes l (function_of sizes t) (function_of sizes u) → t ≡ u
  part-unique l t u r s a b h =
      one_part (slots sizes) 0 l t u ok (omega arith) r s a b
      (λ p i k. let q : IsPointOf sizes p = point-parts sizes p i in
      subst (λ v. value_at (slots sizes) 0 t v ≡ value_at (slots sizes) 0 u v) q.point_is
      (h.at (plain_part p) (primed_part p) q.plain q.primed (let z : l - 0 ≡ l = omega arith in let m : IsPast (slots sizes) l p = rw z at k in subst (λ v. IsPast (slots sizes) l v) (sym q.point_is) m)))
