-- What is known of a forest is known of one that shows the same trees, whatever either has published: a part of it that was split off,
-- as well as the forest later.
use Rattle.std.proofs.Common.{ℕ, false, List, get_or, map, sym, Some, None}
use Rattle.std.specs.Prelude.{Option, IfSome}
use Rattle.std.proofs.lemmas.Bool.{true≢false}
use Rattle.spd_cons_core.specs.declared.key.Entry.{Entry}
use Rattle.spd_memo.specs.Kept.{KeptAnswers}
use Rattle.spd_model.specs.Process.{Process}
use Rattle.spd_nodes.specs.Grove.{KeepsTrees}
use Rattle.spd_nodes.specs.Shown.{Shown, Grows, StandsFor}
use Rattle.spd_nodes.specs.States.{Function}
use Rattle.spd_nodes.specs.Trees.{Tree}
use Rattle.spd_nodes.proofs.CallerLemmas.{stands-grows}
use Rattle.spd_apply.specs.Rules.{HoldsAnswers}
use Rattle.spd_gather.specs.Lists.{HoldsRows}
use Rattle.spd_weigh.specs.declared.way.Way.{Way}
use Rattle.spd_build.specs.Functions.{all_weights, reward}
use Rattle.spd_backup.specs.declared.tables.LastSum.{LastSum}
use Rattle.spd_backup.specs.declared.tables.SumTables.{SumTables}
use Rattle.spd_backup.specs.declared.tables.Tables.{Tables}
use Rattle.spd_backup.specs.declared.tables.WayTables.{WayTables}
use Rattle.spd_backup.specs.declared.thawed.Thawed.{Thawed}
use Rattle.spd_backup.specs.Keeping.{IsSummed, HoldVariable, HoldWay, HoldAll, IsPrimed}
use Rattle.spd_backup.specs.Thawing.{IsThawedOf}
use Rattle.spd_backup.proofs.KeepingLaws.{all-grow}
use Rattle.spd_backup.proofs.PartLaws.{thawed-grows, zip-weaker}

-- the same forest, with nothing published and not full
abbrev pub bare : Shown → Shown
bare s = record { sizes = s.sizes; knows = s.knows; tree = s.tree; published = λ r. false; full = false }

-- a forest that shows the same trees grew from it
pub bare-grows : (s t : Shown) → KeepsTrees s t → Grows (bare s) t
bare-grows s t k = record {
  sizes = k.sizes;
  knows = k.knows;
  trees = k.trees;
  published = λ r e. absurd (true≢false (sym e));
  full = λ e. absurd (true≢false (sym e));
}

-- a forest that grew shows the same trees
pub grows-keeps : {s t : Shown} → Grows s t → KeepsTrees s t
grows-keeps g = record { sizes = g.sizes; knows = g.knows; trees = g.trees }

-- ---- what is known of a forest is known of it without what it published

bare-stands : {s : Shown} {r : Entry} {f : Function} → StandsFor s r f → StandsFor (bare s) r f
bare-stands h = record { knows = h.knows; whole = h.whole; value = h.value; tree = h.tree }

bare-answers : {making : Tree → Tree → Tree} {s : Shown} {k : KeptAnswers} → HoldsAnswers making s k → HoldsAnswers making (bare s) k
bare-answers h = record {
  each = λ f g r c. let a = h.each f g r c in record { left = a.left; right = a.right; answer = a.answer; is = a.is };
}

bare-rows : {making : List Tree → Tree} {s : Shown} {rows : List (List Entry × Entry)} → HoldsRows making s rows → HoldsRows making (bare s) rows
bare-rows h = record {
  each = λ ks r c. let a = h.each ks r c in record { known = a.known; answer = a.answer; is = a.is };
}

module _ (s : Shown) where
  bare-last : (way : Way) (var : ℕ) (last : Option LastSum) → IfSome last (IsSummed way var s) → IfSome last (IsSummed way var (bare s))
  bare-last way var None h = tt
  bare-last way var (Some made) h = record { known = h.known; weights_known = h.weights_known; stands = bare-stands h.stands }

  bare-variable : (way : Way) (var : ℕ) (tables : SumTables) → HoldVariable way var s tables → HoldVariable way var (bare s) tables
  bare-variable way var tables h = record { last = bare-last way var tables.last h.last; rows = bare-rows h.rows }

  bare-way : (way : Way) (n discount : ℕ) (tables : WayTables) → HoldWay way n discount s tables → HoldWay way n discount (bare s) tables
  bare-way way n discount tables h = record {
    sums = record { count = h.sums.count; each = λ var d b. bare-variable way var (get_or tables.sums.items var d) (h.sums.each var d b) };
    discounts = bare-rows h.discounts;
  }

  bare-next : (next : Option (Entry × Entry)) → IfSome next (λ p. IsPrimed s p.0 p.1) → IfSome next (λ p. IsPrimed (bare s) p.0 p.1)
  bare-next None h = tt
  bare-next (Some p) h = record { known = h.known; stands = bare-stands h.stands }

  bare-all : (n discount : ℕ) (tables : Tables) → HoldAll n discount s tables → HoldAll n discount (bare s) tables
  bare-all n discount tables h = record {
    next = bare-next tables.next h.next;
    down = bare-way _ n discount tables.down h.down;
    up = bare-way _ n discount tables.up h.up;
    adds = bare-answers h.adds;
  }

  bare-thawed : (m : Process) (x : Thawed) → IsThawedOf m s x → IsThawedOf m (bare s) x
  bare-thawed m x h = record {
    law = h.law;
    valid = h.valid;
    layout = h.layout;
    own = h.own;
    discount = h.discount;
    weights = zip-weaker (StandsFor s) (StandsFor (bare s)) (λ r f k. bare-stands k) x.weights.items (all_weights m) h.weights;
    rewards = zip-weaker (StandsFor s) (StandsFor (bare s)) (λ r f k. bare-stands k) x.rewards.items (map (reward m) m.actions) h.rewards;
  }

-- ---- a forest shows the same trees as another one

module _ (s t : Shown) (k : KeepsTrees s t) where
  pub stands-keeps : {r : Entry} {f : Function} → StandsFor s r f → StandsFor t r f
  stands-keeps h = stands-grows (bare-grows s t k) (bare-stands h)

  -- so do a process's parts
  pub thawed-keeps : (m : Process) (x : Thawed) → IsThawedOf m s x → IsThawedOf m t x
  thawed-keeps m x h = thawed-grows m (bare s) t x (bare-grows s t k) (bare-thawed s m x h)

  -- and tables go on to hold what they hold
  pub all-keep : (n discount : ℕ) (tables : Tables) → HoldAll n discount s tables → HoldAll n discount t tables
  all-keep n discount tables h = all-grow n discount (bare s) t tables (bare-grows s t k) (bare-all s n discount tables h)
