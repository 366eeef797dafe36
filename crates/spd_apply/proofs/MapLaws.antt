-- How a map of leaves goes on from an entry, and what it makes of a whole one.
use Rattle.std.proofs.Common.{◌≡◌, ℕ, Bool, true, List, refl, sym, ◌∙◌, ap, subst, arith}
use Rattle.spd_cons_core.specs.declared.key.Entry.{Entry}
use Rattle.spd_nodes.specs.declared.leaf.Leaf.{Leaf}
use Rattle.spd_nodes.specs.declared.leaf.Leaf.TheVariants.{Act}
use Rattle.spd_nodes.specs.Levels.{levels_of, slots}
use Rattle.spd_nodes.specs.Trees.{Ends, Tests, Itself, InYes, InNo, IsFrom, IsReduced, value_at}
use Rattle.spd_nodes.specs.States.{point, plain_part, primed_part}
use Rattle.spd_nodes.specs.Shown.{Shown, IsSound, IsWhole, meaning}
use Rattle.spd_nodes.proofs.CallerLemmas.{IsTreeFor, IsPointOf, point-parts, positive-slots, rank-view, tree_of-agree, tree_of-value_at}
use Rattle.spd_apply.specs.declared.rule.Below.TheVariants as B
use Rattle.spd_apply.specs.Applied.{applied, mapped, map_mark, EachFits}
use Rattle.spd_apply.specs.Outcome.{map_each, FitsEverywhere}
use Rattle.spd_apply.specs.Rules.{PlansTest}
use Rattle.spd_apply.proofs.HalfLaws.{eq-refl}
use Rattle.spd_apply.proofs.MeetingLaws.{Meets, meets-right, descends}
use Rattle.spd_apply.proofs.AppliedLaws.{applied-goes, applied-whole, applied-tree_of, value_at-mapped}
use Rattle.spd_apply.proofs.PlanLaws.{join-ends}

module _ (map : Leaf → Leaf) (fits : Leaf → Bool) (s : Shown) (o : IsSound s) (f : Entry) (kf : s.knows f ≡ true) where
  abbrev ds : List ℕ
  ds = slots s.sizes

  pub map-plans : (g y n : Entry) (l : ℕ) → EachFits fits (s.tree f) → s.tree f ≡ s.tree g → s.tree f ≡ Tests l (s.tree y) (s.tree n) → s.knows y ≡ true → s.knows n ≡ true
      → PlansTest (λ t u. mapped map t) (λ t u. EachFits fits t × (t ≡ u)) s f g l (B.Pair y y) (B.Pair n n)
  map-plans g y n l h same e ky kn =
      let r : IsReduced ds 0 (Tests l (s.tree y) (s.tree n)) = subst (λ t. IsReduced ds 0 t) e (o.reduced f kf) in
      let m : Meets ds l (Ends (Act 0)) (Tests l (s.tree y) (s.tree n)) = meets-right ds l (Ends (Act 0)) (s.tree y) (s.tree n) tt r tt in
      let can = (descends ds (levels_of ds) (applied (λ a b. map b)) (applied-goes ds (λ a b. map b)) l (Ends (Act 0)) (Tests l (s.tree y) (s.tree n)) m.level m).can_test in
      let both : (mapped (map_mark fits) (s.tree y) ≡ Ends (Act 1)) × (mapped (map_mark fits) (s.tree n) ≡ Ends (Act 1)) = join-ends l _ _ (Act 1) (ap (mapped (map_mark fits)) (sym e) ∙ h.all) in
      let smaller = rank-view s o f y n l kf e in
      record {
        level_in = m.level;
        is = rw e refl;
        can_test = rw (eq-refl l) at can;
        yes_goes = record { left = ky; right = ky; trees = (record { all = both.0 }, refl) };
        no_goes = record { left = kn; right = kn; trees = (record { all = both.1 }, refl) };
        yes_nodes = rw (sym same, e) (InYes Itself, InYes Itself);
        no_nodes = rw (sym same, e) (InNo Itself, InNo Itself);
        yes_smaller = omega (arith, smaller.0);
        no_smaller = omega (arith, smaller.1);
      }

  module _ (wf : IsWhole s f) where
    -- what is made is the tree of the map's answers
    pub map-tree : IsTreeFor s (mapped map (s.tree f)) (map_each map (meaning s f))
    map-tree =
        let w : IsReduced ds 0 (mapped map (s.tree f)) × IsFrom ds 0 0 (mapped map (s.tree f)) = applied-whole ds (λ a b. map b) (Ends (Act 0)) (s.tree f) tt (o.reduced f kf) tt wf in
        record { reduced = w.0; whole = w.1; value = record { at = λ x y i j. value_at-mapped ds 0 map (s.tree f) (point x y) } }

    pub map-fits : FitsEverywhere fits s f → EachFits fits (s.tree f)
    map-fits h = record {
      all = applied-tree_of ds (λ a b. map_mark fits b) (Ends (Act 0)) (s.tree f) tt (o.reduced f kf) tt wf
          ∙ tree_of-agree ds 0 _ (λ p. Act 1) (positive-slots s.sizes o.layout.values)
          (λ p i. let q : IsPointOf s.sizes p = point-parts s.sizes p i in
          let e : fits (value_at ds 0 (s.tree f) p) ≡ true = subst (λ v. fits (value_at ds 0 (s.tree f) v) ≡ true) q.point_is (h.at (plain_part p) (primed_part p) q.plain q.primed) in
          rw e refl)
          ∙ tree_of-value_at ds 0 (Ends (Act 1)) tt tt;
    }
