-- What is made below a test, and then the test.
use Rattle.std.proofs.Common.{◌≡◌, ℕ, ◌+◌, ◌*◌, ◌<◌, true, [], ◌∷◌, refl, sym, ◌∙◌, subst, arith, Result, Ok, Err, IfOk, IfErr}
use Rattle.spd_cons_core.specs.declared.key.Entry.{Entry}
use Rattle.spd_nodes.specs.declared.forest.StoreFault.{StoreFault}
use Rattle.spd_nodes.specs.declared.forest.StoreFault.TheVariants as F
use Rattle.spd_nodes.specs.Levels.{slots}
use Rattle.spd_nodes.specs.Trees.{Tree, join, CanTest}
use Rattle.spd_nodes.specs.Shown.{Shown, Grows, MakesTree}
use Rattle.spd_nodes.proofs.CallerLemmas.{Within, within-yes, within-no, part-fails, part-then}
use Rattle.spd_apply.specs.Halves.{pair_rank}
use Rattle.spd_apply.specs.Rules.{Making, below_tree, below_rank, IsBelow, PlansTest}
use Rattle.spd_apply.specs.declared.rule.Below.{Below}
use Rattle.spd_apply.specs.declared.rule.Below.TheVariants as B

-- a tree that was made is made too where an answer was kept, or couldn't be kept
pub made-kept : {s t : Shown} {u : Tree} {r : Entry} (q : Result Entry StoreFault) → IfOk q (λ x. x ≡ r) → IfErr q (λ e. e ≡ F.Memory) → MakesTree s t u (Ok r) → MakesTree s t u q
made-kept (Ok x) h i m = rw h m
made-kept (Err e) h i m = rw i (record { sound = m.sound; grows = m.grows; ok = tt; makes = m.makes; fault = tt })

-- what is below stays
module _ (making : Making) (s t : Shown) (b : Below) (g : Grows s t) where
  pub below-stays : (may : Tree → Tree → Type 0) → IsBelow may s b → IsBelow may t b × (below_tree making t b ≡ below_tree making s b) × (below_rank t b ≡ below_rank s b)
  below-stays may = go b
    where
      go : (b : Below) → IsBelow may s b → IsBelow may t b × (below_tree making t b ≡ below_tree making s b) × (below_rank t b ≡ below_rank s b)
      go (B.Known r) h = (g.knows r h, g.trees r h, refl)
      go (B.Pair f q) h =
          let left : t.tree f ≡ s.tree f = g.trees f h.left in
          let right : t.tree q ≡ s.tree q = g.trees q h.right in (
            record { left = g.knows f h.left; right = g.knows q h.right; trees = rw (left, right) h.trees },
            rw (left, right) refl,
            rw (left, right, g.sizes) refl,
          )

-- What a test's two parts make one after the other, and then the test.
module _ (making : Making) (may : Tree → Tree → Type 0) (s : Shown) (f g : Entry) (l : ℕ) (yes no : Below) (p : PlansTest making may s f g l yes no) where
  abbrev pub Whole : Tree
  Whole = making (s.tree f) (s.tree g)

  abbrev pub Yes : Tree
  Yes = below_tree making s yes

  abbrev pub No : Tree
  No = below_tree making s no

  yes-part : Within (Yes ∷ []) (Whole ∷ [])
  yes-part = rw p.is (within-yes l Yes No)

  no-part : Within (No ∷ []) (Whole ∷ [])
  no-part = rw p.is (within-no l Yes No)

  module _ (t : Shown) where
    pub yes-fails : (e : StoreFault) → MakesTree s t Yes (Err e) → MakesTree s t Whole (Err e)
    yes-fails e m = part-fails e yes-part m

    no-stays : Grows s t → IsBelow may t no × (below_tree making t no ≡ No) × (below_rank t no ≡ below_rank s no)
    no-stays w = below-stays making s t no w may p.no_goes

    pub no-goes : Grows s t → IsBelow may t no
    no-goes w = (no-stays w).0

    pub no-smaller : Grows s t → 3 * below_rank t no < 3 * pair_rank (slots s.sizes) (s.tree f) (s.tree g) + 1
    no-smaller w = let e : below_rank t no ≡ below_rank s no = (no-stays w).2 in omega (arith, p.no_smaller)

    module _ (y : Entry) (first : MakesTree s t Yes (Ok y)) (v : Shown) where
      no-made : (r : Result Entry StoreFault) → MakesTree t v (below_tree making t no) r → MakesTree t v No r
      no-made r m = subst (λ u. MakesTree t v u r) (no-stays first.grows).1 m

      pub no-fails : (e : StoreFault) → MakesTree t v (below_tree making t no) (Err e) → MakesTree s v Whole (Err e)
      no-fails e m = part-then yes-part first (part-fails e no-part (no-made (Err e) m))

      module _ (m : Entry) (second : MakesTree t v (below_tree making t no) (Ok m)) where
        yes-tree : v.tree y ≡ Yes
        yes-tree = second.grows.trees y first.ok.knows ∙ first.ok.tree

        no-tree : v.tree m ≡ No
        no-tree = second.ok.tree ∙ (no-stays first.grows).1

        same-sizes : v.sizes ≡ s.sizes
        same-sizes = second.grows.sizes ∙ first.grows.sizes

        pub yes-known : v.knows y ≡ true
        yes-known = second.grows.knows y first.ok.knows

        pub can-test : CanTest (slots v.sizes) l (v.tree y) (v.tree m)
        can-test = rw (same-sizes, yes-tree, no-tree) p.can_test

        pub test-made : (w : Shown) (r : Result Entry StoreFault) → MakesTree v w (join l (v.tree y) (v.tree m)) r → MakesTree s w Whole r
        test-made w r h = part-then yes-part first (part-then no-part (no-made (Ok m) second) (subst (λ u. MakesTree v w u r) (rw (yes-tree, no-tree) (sym p.is)) h))
