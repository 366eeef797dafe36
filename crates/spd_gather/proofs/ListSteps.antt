-- What is made of two lists below, and then their test.
use Rattle.std.proofs.Common.{◌≡◌, ℕ, ◌+◌, ◌*◌, ◌<◌, List, [], ◌∷◌, sym, ◌∙◌, ap, subst, arith, Result, Ok, Err}
use Rattle.spd_cons_core.specs.declared.key.Entry.{Entry}
use Rattle.spd_nodes.specs.declared.forest.StoreFault.{StoreFault}
use Rattle.spd_nodes.specs.Levels.{slots}
use Rattle.spd_nodes.specs.Trees.{Tree, join, CanTest}
use Rattle.spd_nodes.specs.Shown.{Shown, IsSound, Grows, MakesTree}
use Rattle.spd_nodes.proofs.CallerLemmas.{Within, within-yes, within-no, part-fails, part-then}
use Rattle.spd_gather.specs.Down.{Making}
use Rattle.spd_gather.specs.Lists.{trees_of, rank_of, AreKnown, GoesToTest, HoldsRows, IsListReady, IsListAnswer}
use Rattle.spd_gather.specs.Rows.{Row}
use Rattle.spd_gather.proofs.RowLaws.{trees-stay, known-stay}

-- what was made of a list is an answer for it
pub answer-made : (making : Making) (s t : Shown) (ks : List Entry) (r : Entry) → AreKnown s ks → MakesTree s t (making (trees_of s ks)) (Ok r) → IsListAnswer making t ks r
answer-made making s t ks r h m = record { known = known-stay s t ks m.grows h; answer = m.ok.knows; is = m.ok.tree ∙ ap making (sym (trees-stay s t ks m.grows h)) }

module _ (making : Making) (may : List Tree → Type 0) (s : Shown) (ks : List Entry) (l : ℕ) (yes no : List Entry) (p : GoesToTest making may s ks l yes no) where
  abbrev pub Whole : Tree
  Whole = making (trees_of s ks)

  abbrev pub Yes : Tree
  Yes = making (trees_of s yes)

  abbrev pub No : Tree
  No = making (trees_of s no)

  yes-part : Within (Yes ∷ []) (Whole ∷ [])
  yes-part = rw p.is (within-yes l Yes No)

  no-part : Within (No ∷ []) (Whole ∷ [])
  no-part = rw p.is (within-no l Yes No)

  module _ (t : Shown) where
    pub yes-fails : (e : StoreFault) → MakesTree s t Yes (Err e) → MakesTree s t Whole (Err e)
    yes-fails e m = part-fails e yes-part m

    no-stays : Grows s t → trees_of t no ≡ trees_of s no
    no-stays g = trees-stay s t no g p.no_goes.known

    -- the second list may be met after the first
    pub no-ready : (may' : List Tree → Type 0) (rows : List Row) → IsSound t → Grows s t → HoldsRows making t rows → may' ≡ may → IsListReady making may' t no rows
    no-ready may' rows o g h e = record {
      sound = o;
      met = record { known = known-stay s t no g p.no_goes.known; trees = subst (λ m. m (trees_of t no)) (sym e) (subst may (sym (no-stays g)) p.no_goes.trees) };
      table = h;
    }

    pub no-smaller : Grows s t → 2 * rank_of t no + 1 < 2 * rank_of s ks
    no-smaller g = let e : rank_of t no ≡ rank_of s no = rw (no-stays g, g.sizes) (λ _. rank_of s no) in omega (arith, p.no_smaller)

    module _ (y : Entry) (first : MakesTree s t Yes (Ok y)) (v : Shown) where
      no-made : (r : Result Entry StoreFault) → MakesTree t v (making (trees_of t no)) r → MakesTree t v No r
      no-made r m = subst (λ u. MakesTree t v u r) (ap making (no-stays first.grows)) m

      pub no-fails : (e : StoreFault) → MakesTree t v (making (trees_of t no)) (Err e) → MakesTree s v Whole (Err e)
      no-fails e m = part-then yes-part first (part-fails e no-part (no-made (Err e) m))

      module _ (m : Entry) (second : MakesTree t v (making (trees_of t no)) (Ok m)) where
        yes-tree : v.tree y ≡ Yes
        yes-tree = second.grows.trees y first.ok.knows ∙ first.ok.tree

        no-tree : v.tree m ≡ No
        no-tree = second.ok.tree ∙ ap making (no-stays first.grows)

        same-sizes : v.sizes ≡ s.sizes
        same-sizes = second.grows.sizes ∙ first.grows.sizes

        pub can-test : CanTest (slots v.sizes) l (v.tree y) (v.tree m)
        can-test = rw (same-sizes, yes-tree, no-tree) p.can_test

        pub test-made : (w : Shown) (r : Result Entry StoreFault) → MakesTree v w (join l (v.tree y) (v.tree m)) r → MakesTree s w Whole r
        test-made w r h = part-then yes-part first (part-then no-part (no-made (Ok m) second) (subst (λ u. MakesTree v w u r) (rw (yes-tree, no-tree) (sym p.is)) h))
