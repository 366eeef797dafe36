-- What an operation on leaves makes of whole entries.
use Rattle.std.proofs.Common.{◌≡◌, ℕ, List, Bool, true, refl, ◌∙◌, subst}
use Rattle.spd_cons_core.specs.declared.key.Entry.{Entry}
use Rattle.spd_nodes.specs.declared.leaf.Leaf.{Leaf}
use Rattle.spd_nodes.specs.declared.leaf.Leaf.TheVariants.{Act}
use Rattle.spd_nodes.specs.Levels.{slots}
use Rattle.spd_nodes.specs.Trees.{Ends, IsFrom, IsReduced, value_at}
use Rattle.spd_nodes.specs.States.{point, plain_part, primed_part}
use Rattle.spd_nodes.specs.Shown.{Shown, IsSound, IsWhole, meaning}
use Rattle.spd_nodes.proofs.CallerLemmas.{IsTreeFor, IsPointOf, point-parts, positive-slots, tree_of-agree, tree_of-value_at}
use Rattle.spd_memo.specs.Kept.{KeptAnswers}
use Rattle.spd_apply.specs.Applied.{applied, fit_mark, AllFit, MayApply}
use Rattle.spd_apply.specs.Outcome.{at_each, FitEverywhere}
use Rattle.spd_apply.specs.Rules.{HoldsAnswers, IsReady}
use Rattle.spd_apply.proofs.AppliedLaws.{applied-whole, applied-tree_of, value_at-applied}
use Rattle.spd_apply.proofs.HalfLaws.{aligned-from}

module _ (fits : Leaf → Leaf → Bool) (op : Leaf → Leaf → Leaf) (s : Shown) (o : IsSound s) (f g : Entry) (kf : s.knows f ≡ true) (kg : s.knows g ≡ true) (wf : IsWhole s f) (wg : IsWhole s g) where
  abbrev ds : List ℕ
  ds = slots s.sizes

  -- what is made is the tree of the operation's answers
  pub apply-tree : IsTreeFor s (applied op (s.tree f) (s.tree g)) (at_each op (meaning s f) (meaning s g))
  apply-tree =
      let w : IsReduced ds 0 (applied op (s.tree f) (s.tree g)) × IsFrom ds 0 0 (applied op (s.tree f) (s.tree g)) = applied-whole ds op (s.tree f) (s.tree g) (o.reduced f kf) (o.reduced g kg) wf wg in
      record { reduced = w.0; whole = w.1; value = record { at = λ x y i j. value_at-applied ds 0 op (s.tree f) (s.tree g) (point x y) } }

  all-fit : FitEverywhere fits s f g → AllFit fits (s.tree f) (s.tree g)
  all-fit h =
      applied-tree_of ds (fit_mark fits) (s.tree f) (s.tree g) (o.reduced f kf) (o.reduced g kg) wf wg
      ∙ tree_of-agree ds 0 _ (λ p. Act 1) (positive-slots s.sizes o.layout.values)
      (λ p i. let q : IsPointOf s.sizes p = point-parts s.sizes p i in
      let e : fits (value_at ds 0 (s.tree f) p) (value_at ds 0 (s.tree g) p) ≡ true = subst (λ v. fits (value_at ds 0 (s.tree f) v) (value_at ds 0 (s.tree g) v) ≡ true) q.point_is (h.at (plain_part p) (primed_part p) q.plain q.primed) in
      rw e refl)
      ∙ tree_of-value_at ds 0 (Ends (Act 1)) tt tt

  pub apply-ready : (k : KeptAnswers) → FitEverywhere fits s f g → HoldsAnswers (applied op) s k → IsReady (applied op) (MayApply fits s.sizes) s f g k
  apply-ready k h m = record {
    sound = o;
    left = kf;
    right = kg;
    may_meet = record { aligned = aligned-from ds 0 (s.tree f) (s.tree g) (o.reduced f kf) (o.reduced g kg) wf wg; fit = all-fit h };
    memo = m;
  }
