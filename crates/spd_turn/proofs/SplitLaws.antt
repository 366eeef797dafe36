-- What a forest has is left to one that shows the same trees, whatever either has published.
use Rattle.std.proofs.Common.{◌≡◌, ℕ, true, false, List, [], ◌∷◌, map, get_or, refl, sym, ◌∙◌, subst, Some, None}
use Rattle.std.specs.Prelude.{Option, IfSome, ℤ}
use Rattle.std.specs.List.{AllZip}
use Rattle.std.proofs.lemmas.Bool.{true≢false}
use Rattle.std.proofs.lemmas.List.Elements.{All-head, All-tail}
use Rattle.spd_cons_core.specs.declared.key.Entry.{Entry}
use Rattle.spd_memo.specs.Kept.{KeptAnswers}
use Rattle.spd_model.specs.Process.{Process}
use Rattle.spd_model.specs.States.{IsState}
use Rattle.spd_nodes.specs.Grove.{KeepsTrees}
use Rattle.spd_nodes.specs.Levels.{slots}
use Rattle.spd_nodes.specs.Shown.{Shown, Grows, StandsFor, meaning}
use Rattle.spd_nodes.specs.States.{Function, function_of}
use Rattle.spd_nodes.specs.Trees.{Tree, IsFrom}
use Rattle.spd_nodes.proofs.CallerLemmas.{stands-grows}
use Rattle.spd_apply.specs.Rules.{HoldsAnswers}
use Rattle.spd_apply.proofs.CallerLemmas.{answers-grow}
use Rattle.spd_gather.specs.Lists.{AreKnown, HoldsRows}
use Rattle.spd_gather.proofs.CallerLemmas.{known-stay}
use Rattle.spd_restrict.specs.Primed.{TestsNoPrimed, primed}
use Rattle.spd_weigh.specs.Leaves.{HasValues}
use Rattle.spd_weigh.specs.declared.way.Way.{Way}
use Rattle.spd_weigh.specs.Weighing.{summed_out}
use Rattle.spd_weigh.proofs.CallerLemmas.{discounts-grow, sums-grow}
use Rattle.spd_backup.specs.declared.tables.LastSum.{LastSum}
use Rattle.spd_backup.specs.declared.tables.SumTables.{SumTables}
use Rattle.spd_backup.specs.declared.tables.Tables.{Tables}
use Rattle.spd_backup.specs.declared.tables.WayTables.{WayTables}
use Rattle.spd_backup.specs.declared.thawed.Thawed.{Thawed}
use Rattle.spd_backup.specs.Keeping.{IsSummed, HoldVariable, HoldWay, IsPrimed}
use Rattle.spd_backup.specs.Thawing.{IsThawedOf}
use Rattle.spd_turn.specs.Jobs.{CanBackUp, HoldFor}

-- the same forest, with nothing published and not full
abbrev pub bare : Shown → Shown
bare s = record { sizes = s.sizes; knows = s.knows; tree = s.tree; published = λ r. false; full = false }

-- a forest that shows the same trees grew from it
pub bare-grows : (s t : Shown) → KeepsTrees s t → Grows (bare s) t
bare-grows s t k = record {
  sizes = k.sizes;
  knows = k.knows;
  trees = k.trees;
  published = λ r e. absurd (true≢false (sym e));
  full = λ e. absurd (true≢false (sym e));
}

bare-stands : {s : Shown} {r : Entry} {f : Function} → StandsFor s r f → StandsFor (bare s) r f
bare-stands h = record { knows = h.knows; whole = h.whole; value = h.value; tree = h.tree }

bare-answers : {making : Tree → Tree → Tree} {s : Shown} {k : KeptAnswers} → HoldsAnswers making s k → HoldsAnswers making (bare s) k
bare-answers h = record {
  each = λ f g r c. let a = h.each f g r c in record { left = a.left; right = a.right; answer = a.answer; is = a.is };
}

bare-rows : {making : List Tree → Tree} {s : Shown} {rows : List (List Entry × Entry)} → HoldsRows making s rows → HoldsRows making (bare s) rows
bare-rows h = record {
  each = λ ks r c. let a = h.each ks r c in record { known = a.known; answer = a.answer; is = a.is };
}

-- a forest shows the same trees as another one
module _ (s t : Shown) (k : KeepsTrees s t) where
  grown : Grows (bare s) t
  grown = bare-grows s t k

  pub stands-keeps : {r : Entry} {f : Function} → StandsFor s r f → StandsFor t r f
  stands-keeps h = stands-grows grown (bare-stands h)

  pub zip-keeps : (rs : List Entry) (fs : List Function) → AllZip (StandsFor s) rs fs → AllZip (StandsFor t) rs fs
  zip-keeps [] [] h = tt
  zip-keeps [] (f ∷ fs) h = absurd h
  zip-keeps (r ∷ rs) [] h = absurd h
  zip-keeps (r ∷ rs) (f ∷ fs) h = (stands-keeps h.0, zip-keeps rs fs h.1)

  pub thawed-keeps : (m : Process) (x : Thawed) → IsThawedOf m s x → IsThawedOf m t x
  thawed-keeps m x h = record {
    law = h.law;
    valid = h.valid;
    layout = k.sizes ∙ h.layout;
    own = h.own;
    discount = h.discount;
    weights = zip-keeps _ _ h.weights;
    rewards = zip-keeps _ _ h.rewards;
  }

  -- what a backup reads
  pub can-keeps : (m : Process) (value : List ℕ → ℤ) (x : Thawed) (w : Entry) → CanBackUp m value s x w → CanBackUp m value t x w
  can-keeps m value x w h =
      let tree : t.tree w ≡ s.tree w = k.trees w h.known in
      record {
        thawed = thawed-keeps m x h.thawed;
        known = k.knows w h.known;
        whole = subst (λ (p : List ℕ × Tree). IsFrom (slots p.0) 0 0 p.1) (sym (λ i. (k.sizes i, tree i))) h.whole;
        plain = subst (λ (p : List ℕ × Tree). TestsNoPrimed p.0 p.1) (sym (λ i. (k.sizes i, tree i))) h.plain;
        values = subst (λ (p : List ℕ × Tree). HasValues p.0 (function_of p.0 p.1)) (sym (λ i. (k.sizes i, tree i))) h.values;
        numbers = record {
          at = λ y st. (λ i. function_of (k.sizes i) (tree i) y y) ∙ h.numbers.at y (subst (λ (z : List ℕ). IsState z y) k.sizes st);
        };
      }

  -- ---- tables

  meaning-same : (r : Entry) → s.knows r ≡ true → meaning t r ≡ meaning s r
  meaning-same r known = λ i. function_of (k.sizes i) (k.trees r known i)

  meanings-same : (rs : List Entry) → AreKnown s rs → map (meaning t) rs ≡ map (meaning s) rs
  meanings-same [] known = refl
  meanings-same (r ∷ rs) known =
      let first = meaning-same r (All-head (λ q. s.knows q ≡ true) r rs known) in
      let others = meanings-same rs (All-tail (λ q. s.knows q ≡ true) r rs known) in
      λ i. first i ∷ others i

  summed-keeps : (way : Way) (var : ℕ) (made : LastSum) → IsSummed way var s made → IsSummed way var t made
  summed-keeps way var made h =
      let a = meaning-same made.of h.known in
      let b = meanings-same made.weights.items h.weights_known in
      record {
        known = k.knows made.of h.known;
        weights_known = known-stay (bare s) t made.weights.items grown h.weights_known;
        stands = subst (λ (p : List Function × Function). StandsFor t made.sum (summed_out way var p.0 p.1)) (sym (λ i. (b i, a i))) (stands-keeps h.stands);
      }

  last-keeps : (way : Way) (var : ℕ) (last : Option LastSum) → IfSome last (IsSummed way var s) → IfSome last (IsSummed way var t)
  last-keeps way var None h = tt
  last-keeps way var (Some made) h = summed-keeps way var made h

  variable-keeps : (way : Way) (var : ℕ) (tables : SumTables) → HoldVariable way var s tables → HoldVariable way var t tables
  variable-keeps way var tables h = record { last = last-keeps way var tables.last h.last; rows = sums-grow way var (bare s) t tables.rows grown (bare-rows h.rows) }

  way-keeps : (way : Way) (n discount : ℕ) (tables : WayTables) → HoldWay way n discount s tables → HoldWay way n discount t tables
  way-keeps way n discount tables h = record {
    sums = record { count = h.sums.count; each = λ var d b. variable-keeps way var (get_or tables.sums.items var d) (h.sums.each var d b) };
    discounts = discounts-grow way discount (bare s) t tables.discounts grown (bare-rows h.discounts);
  }

  next-keeps : (next : Option (Entry × Entry)) → IfSome next (λ p. IsPrimed s p.0 p.1) → IfSome next (λ p. IsPrimed t p.0 p.1)
  next-keeps None h = tt
  next-keeps (Some p) h = record {
    known = k.knows p.0 h.known;
    stands = subst (λ (q : Function). StandsFor t p.1 (primed q)) (sym (meaning-same p.0 h.known)) (stands-keeps h.stands);
  }

  pub hold-keeps : (x : Thawed) (tables : Tables) → HoldFor x s tables → HoldFor x t tables
  hold-keeps x tables h = record {
    next = next-keeps tables.next h.next;
    down = way-keeps _ _ _ tables.down h.down;
    up = way-keeps _ _ _ tables.up h.up;
    adds = answers-grow (bare-answers h.adds) grown;
  }

-- a forest that grew shows the same trees
pub grows-keeps : {s t : Shown} → Grows s t → KeepsTrees s t
grows-keeps g = record { sizes = g.sizes; knows = g.knows; trees = g.trees }
