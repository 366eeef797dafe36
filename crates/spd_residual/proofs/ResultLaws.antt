-- What a residual's call answers, by what it made and found on the way.
use Rattle.std.proofs.Common.{◌≡◌, ℕ, ◌<◌, true, List, length, All, ℤ, refl, sym, subst, Ok, Err}
use Rattle.spd_cons_core.specs.declared.key.Entry.{Entry}
use Rattle.spd_model.specs.Process.{Process}
use Rattle.spd_model.specs.States.{sizes}
use Rattle.spd_nodes.specs.declared.forest.StoreFault.{StoreFault}
use Rattle.spd_nodes.specs.declared.forest.StoreFault.TheVariants as F
use Rattle.spd_nodes.specs.Made.{HasMade}
use Rattle.spd_nodes.specs.Shown.{Shown, Grows}
use Rattle.spd_backup.specs.declared.backing.Bounds.{Bounds}
use Rattle.spd_frozen.specs.declared.iterate.Residual.{Residual}
use Rattle.spd_policy.specs.declared.chosen.Best.{Best}
use Rattle.spd_policy.specs.Best.{greatest_of, policy_by, lows_in, highs_in, AreBest}
use Rattle.spd_residual.specs.declared.gaps.GapDiagrams.{GapDiagrams}
use Rattle.spd_residual.specs.Residual.{Gaps, residual_functions, IsResidual, FindsResidual, IsValueOfState, AreOrdered, gaps_in, gaps_of, FindsResidualOf}
use Rattle.spd_residual.specs.inner.Finding.{HaveGaps, MakesGaps, AreKnownAt, TellGaps}
use Rattle.spd_residual.proofs.ActionLaws.{AreSame, actions-grow, actions-same, gap-same, gaps-same, has-gap, have-actions, have-gaps, upper-known}

-- ---- what was answered

pub gaps-failed : (sizes : List ℕ) (g : Gaps) (s t : Shown) (e : StoreFault) → MakesGaps g s t (Err e) → FindsResidual sizes g s t (Err e)
gaps-failed sizes g s t e m = record { all = record { made = m.all.made; fault = m.all.fault }; ok = tt }

pub found-none : (sizes : List ℕ) (g : Gaps) (s t u : Shown) (d : GapDiagrams) → u ≡ t → MakesGaps g s t (Ok d) → FindsResidual sizes g s u (Err F.Memory)
found-none sizes g s t u d same m = record { all = record { made = subst (λ (v : Shown). HasMade s v (residual_functions g)) (sym same) m.all.made; fault = tt }; ok = tt }

pub found-one : (g : Gaps) (s t u : Shown) (d : GapDiagrams) → u ≡ t → MakesGaps g s t (Ok d) → (x : Residual) → IsResidual t.sizes g x → FindsResidual s.sizes g s u (Ok x)
found-one g s t u d same m x is = record {
  all = record { made = subst (λ (v : Shown). HasMade s v (residual_functions g)) (sym same) m.all.made; fault = tt };
  ok = subst (λ (z : List ℕ). IsResidual z g x) m.all.made.grows.sizes is;
}

-- the same of a process
pub of-process : (m : Process) (v : List ℕ → ℤ) (s t : Shown) (x : Residual) → s.sizes ≡ sizes m → FindsResidual s.sizes (gaps_of m v) s t (Ok x) → FindsResidualOf m v s t (Ok x)
of-process m v s t x same h =
    let is : IsResidual (sizes m) (gaps_of m v) x = subst (λ (z : List ℕ). IsResidual z (gaps_of m v) x) same h.ok in
    record { all = h.all; ok = record { number = is.number; place = is.place; state = is.state } }

pub of-process-failed : (m : Process) (v : List ℕ → ℤ) (s t : Shown) (e : StoreFault) → FindsResidual s.sizes (gaps_of m v) s t (Err e) → FindsResidualOf m v s t (Err e)
of-process-failed m v s t e h = record { all = h.all; ok = tt }

-- ---- what the diagrams tell

pub same-itself : (sizes : List ℕ) (g : Gaps) → AreSame sizes g g
same-itself sizes g = record { above = λ x i. refl; below = λ x i. refl; highest = λ x i. refl; policy = λ x i. refl }

module _ (s : Shown) (w : Entry) (bounds : List Bounds) (best : Best) (value : IsValueOfState s w) (ordered : All (AreOrdered s) bounds) (some : 0 < length bounds)
    (is : AreBest (greatest_of (lows_in s bounds)) (greatest_of (highs_in s bounds)) (policy_by (lows_in s bounds)) s best) where
  module _ (h : Gaps) (same : AreSame s.sizes (gaps_in s w bounds) h) where
    pub have-same : HaveGaps h s w best
    have-same = gaps-same s (gaps_in s w bounds) h same w best (have-gaps s w bounds best value ordered some is)

    module _ (t : Shown) (d : GapDiagrams) (made : MakesGaps h s t (Ok d)) where
      grows : Grows s t
      grows = made.all.made.grows

      pub tell-gaps : TellGaps h t bounds best d
      tell-gaps = record {
        gaps = made.ok;
        actions = actions-grow s t grows h bounds best (upper-known s w bounds best value ordered some is) is.high.knows is.act.knows
            (actions-same s (gaps_in s w bounds) h same bounds best (have-actions s w bounds best value ordered some is));
        some = rw grows.sizes (gap-same s (gaps_in s w bounds) h same (has-gap s w bounds best value ordered some is));
      }

      pub known-at : AreKnownAt t best d
      known-at = record {
        high = grows.knows best.high is.high.knows;
        act = grows.knows best.act is.act.knows;
        above = made.ok.above.knows;
        greater = made.ok.greater.knows;
        whole = made.ok.greater.whole;
      }

      pub upper-at : All (λ b. t.knows b.hi ≡ true) bounds
      upper-at = λ k e b. grows.knows _ (upper-known s w bounds best value ordered some is k e b)
