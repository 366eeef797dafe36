-- How one diagram goes in another one's place, and what the branches of a variable are.
use Rattle.std.proofs.Common.{◌≡◌, ℕ, ◌==◌, suc, ◌+◌, ◌<◌, ◌≤◌, ◌⊎◌, inl, inr, true, Some, List, [], ◌∷◌, refl, sym, subst, arith, Result, Ok, Err}
use Rattle.std.proofs.lemmas.Bool.Decides.{Decides-eqb}
use Rattle.spd_cons_core.specs.declared.key.Entry.{Entry}
use Rattle.spd_nodes.specs.declared.layout.Level.{Level}
use Rattle.spd_nodes.specs.declared.forest.View.{View}
use Rattle.spd_nodes.specs.Levels.{levels_of, slots, after}
use Rattle.spd_nodes.specs.Trees.{Tree, IsFrom, IsAt, CanTest, join}
use Rattle.spd_nodes.specs.declared.forest.StoreFault.{StoreFault}
use Rattle.spd_nodes.specs.Shown.{Shown, IsSound, KnowsAs, IsViewOf, MakesTree}
use Rattle.spd_apply.specs.declared.rule.Below.TheVariants as B
use Rattle.spd_apply.specs.Halves.{yes_at, no_at}
use Rattle.spd_apply.specs.declared.rule.Node.{Node}
use Rattle.spd_apply.specs.Rules.{IsNodeAt, PlansBelow, PlansTest}
use Rattle.spd_apply.specs.Views.{lower_of_views, next_yes, next_no}
use Rattle.spd_apply.proofs.CallerLemmas.{GoesDown, MayMeetHalves, Meets, Splits, descends, next_no-is, next_yes-is, plans-at, splits-fits}
use Rattle.spd_nodes.proofs.CallerLemmas.{after_le, after-next, Joins, after-before, within-no, Within, levels_of-slots, part-fails, part-then}
use Rattle.spd_restrict.specs.Replaced.{replaced, replaced_after, MayReplace, CanReplace, IsWholeFrom}
use Rattle.spd_restrict.proofs.ReplacedLaws.{replaced-goes, replaced-itself, whole-from, whole-at, fits-next, joins-replaced_after}

module _ (first value : ℕ) (s : Shown) (o : IsSound s) (f g : Entry) (kf : s.knows f ≡ true) (kg : s.knows g ≡ true) (may : MayReplace first value s.sizes (s.tree f) (s.tree g)) where
  abbrev ds : List ℕ
  ds = slots s.sizes

  abbrev goes : GoesDown ds first (replaced first value)
  goes = replaced-goes ds may.slot first may.end may.is_slot value may.value_in

  replace-halves : (l : ℕ) → l < first → Meets ds l (s.tree f) (s.tree g) → MayMeetHalves (replaced first value) (MayReplace first value s.sizes) first s o f g kf kg may.aligned goes l
  replace-halves l b m =
      let w = descends ds first (replaced first value) goes l (s.tree f) (s.tree g) b m in
      let z : after ds l ≤ first = after-before ds may.slot first may.end l may.is_slot b in
      record {
        yes = record {
          slot = may.slot;
          end = may.end;
          is_slot = may.is_slot;
          value_in = may.value_in;
          aligned = w.aligned_yes;
          left = whole-from ds first (after ds l) (yes_at l (s.tree f)) m.left.yes_from;
          right = whole-from ds first (after ds l) (yes_at l (s.tree g)) m.right.yes_from;
        };
        no = record {
          slot = may.slot;
          end = may.end;
          is_slot = may.is_slot;
          value_in = may.value_in;
          aligned = w.aligned_no;
          left = no-whole z (no_at l (s.tree f)) m.left.no_fits;
          right = no-whole z (no_at l (s.tree g)) m.right.no_fits;
        };
      }
    where
      no-whole : after ds l ≤ first → (t : Tree) → IsFrom ds 0 (after ds l) t ⊎ (IsAt (l + 1) t × (l + 1 < after ds l)) → IsWholeFrom ds first t
      no-whole z t (inl h) = whole-from ds first (after ds l) t h
      no-whole z t (inr h) = whole-at ds first (l + 1) t (omega (arith, h.1)) h.0

  pub replaces-at : (a b : View) (l : Level) → IsViewOf s f a → IsViewOf s g b → lower_of_views a b ≡ Some l → l.0 < first
      → PlansTest (replaced first value) (MayReplace first value s.sizes) s f g l.0 (B.Pair (next_yes a f l) (next_yes b g l)) (B.Pair (next_no a f l) (next_no b g l))
  replaces-at a b l h i e below =
      plans-at (replaced first value) (MayReplace first value s.sizes) first s o f g kf kg may.aligned goes a b l h i e below (replace-halves l.0 below)

  -- one entry twice is the answer
  pub replaces-same : (f.0 == g.0) ≡ true → PlansBelow (replaced first value) (MayReplace first value s.sizes) s f g (B.Known f)
  replaces-same e =
      let q : f.0 ≡ g.0 = (Decides-eqb f.0 g.0).0 e in
      let same : f ≡ g = λ i. record { 0 = q i } in
      record {
        is = subst (λ (h : Entry). replaced first value (s.tree f) (s.tree h) ≡ s.tree f) same (replaced-itself ds may.slot first may.end may.is_slot value may.value_in (s.tree f) (o.reduced f kf) may.left);
        goes = kf;
        nodes = tt;
        smaller = omega arith;
      }

-- What is known of two diagrams at a slot's test, before so many tests until the value's own one.
module _ (n : ℕ) (l : Level) (s : Shown) (o : IsSound s) (f g : Node) (kf : IsNodeAt s f) (kg : IsNodeAt s g) (can : CanReplace n l.0 s.sizes (s.tree f.name) (s.tree g.name)) where
  abbrev all : List ℕ
  all = slots s.sizes

  abbrev pub fy : Entry
  fy = next_yes f.root f.name l

  abbrev pub fn : Entry
  fn = next_no f.root f.name l

  abbrev pub gy : Entry
  gy = next_yes g.root g.name l

  abbrev pub gn : Entry
  gn = next_no g.root g.name l

  abbrev pub Whole : Tree
  Whole = replaced_after n l.0 (s.tree f.name) (s.tree g.name)

  pub record AtTest : Type 0 where
    pub level_in : l.0 < levels_of all
    pub level_room : l.0 + 1 ≤ 512
    pub left : Splits all l.0 (s.tree f.name)
    pub right : Splits all l.0 (s.tree g.name)
    pub left_yes : KnowsAs s fy (yes_at l.0 (s.tree f.name))
    pub left_no : KnowsAs s fn (no_at l.0 (s.tree f.name))
    pub right_yes : KnowsAs s gy (yes_at l.0 (s.tree g.name))
    pub right_no : KnowsAs s gn (no_at l.0 (s.tree g.name))

  pub at-test : AtTest
  at-test =
      let within : l.0 < levels_of all = omega (arith, can.within, after_le all l.0) in
      record {
        level_in = within;
        level_room = omega (arith, within, levels_of-slots s.sizes, o.layout.tests);
        left = splits-fits all l.0 (s.tree f.name) (omega (arith, can.within)) (o.reduced f.name kf.known) can.left;
        right = splits-fits all l.0 (s.tree g.name) (omega (arith, can.within)) (o.reduced g.name kg.known) can.right;
        left_yes = next_yes-is s f.root f.name l kf.known kf.root;
        left_no = next_no-is s f.root f.name l kf.known kf.root;
        right_yes = next_yes-is s g.root g.name l kg.known kg.root;
        right_no = next_no-is s g.root g.name l kg.known kg.root;
      }

  -- one of the tests before it, and the rest
  module _ (m : ℕ) (e : n ≡ suc m) where
    abbrev pub Rest : Tree
    Rest = replaced_after m (l.0 + 1) (s.tree fn) (s.tree gn)

    next : l.0 + 1 < after all l.0
    next = omega (arith, can.within)

    room : l.0 + 1 + m < after all (l.0 + 1)
    room = let z : after all (l.0 + 1) ≡ after all l.0 = after-next all l.0 next in omega (arith, can.within)

    pub rest-can : CanReplace m (l.0 + 1) s.sizes (s.tree fn) (s.tree gn)
    rest-can = rw (at-test.left_no.tree, at-test.right_no.tree) (record { within = room; left = fits-next all l.0 (s.tree f.name) next at-test.left; right = fits-next all l.0 (s.tree g.name) next at-test.right })

    whole-is : Whole ≡ join l.0 (s.tree gy) Rest
    whole-is = rw (e, at-test.right_yes.tree, at-test.left_no.tree, at-test.right_no.tree) refl

    rest-part : Within (Rest ∷ []) (Whole ∷ [])
    rest-part = rw whole-is (within-no l.0 (s.tree gy) Rest)

    can-rest : CanTest all l.0 (s.tree gy) Rest
    can-rest =
        let z : after all (l.0 + 1) ≡ after all l.0 = after-next all l.0 next in
        let j : Joins all (l.0 + 1) (replaced_after m (l.0 + 1) (no_at l.0 (s.tree f.name)) (no_at l.0 (s.tree g.name))) =
        joins-replaced_after all m (l.0 + 1) (no_at l.0 (s.tree f.name)) (no_at l.0 (s.tree g.name)) room at-test.left.no_reduced at-test.right.no_reduced (fits-next all l.0 (s.tree f.name) next at-test.left) (fits-next all l.0 (s.tree g.name) next at-test.right) in
        rw (at-test.right_yes.tree, at-test.left_no.tree, at-test.right_no.tree) (record { yes_fits = at-test.right.yes_from; no_fits = elim j.fits [ inl q ↦ inl (rw z at q) | inr q ↦ inr (q, next) ] })

    module _ (t : Shown) where
      pub rest-fails : (v : StoreFault) → MakesTree s t Rest (Err v) → MakesTree s t Whole (Err v)
      rest-fails v h = part-fails v rest-part h

      module _ (r : Entry) (made : MakesTree s t Rest (Ok r)) where
        yes-tree : t.tree gy ≡ s.tree gy
        yes-tree = made.grows.trees gy at-test.right_yes.knows

        pub yes-known : t.knows gy ≡ true
        yes-known = made.grows.knows gy at-test.right_yes.knows

        pub level-then : l.0 < levels_of (slots t.sizes)
        level-then = rw made.grows.sizes at-test.level_in

        pub can-then : CanTest (slots t.sizes) l.0 (t.tree gy) (t.tree r)
        can-then = rw (made.grows.sizes, yes-tree, made.ok.tree) can-rest

        pub test-then : (w : Shown) (q : Result Entry StoreFault) → MakesTree t w (join l.0 (t.tree gy) (t.tree r)) q → MakesTree s w Whole q
        test-then w q h = part-then rest-part made (subst (λ u. MakesTree t w u q) (rw (yes-tree, made.ok.tree) (sym whole-is)) h)
