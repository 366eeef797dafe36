-- How a list goes on to its halves, whatever is made at the leaves.
use Rattle.std.proofs.Common.{◌≡◌, ℕ, ◌-◌, ◌<◌, ◌≤◌, List, map, ◌∙◌, ap, arith, inr}
use Rattle.std.proofs.lemmas.List.{length-map}
use Rattle.spd_cons_core.specs.declared.key.Entry.{Entry}
use Rattle.spd_nodes.specs.declared.leaf.Leaf.{Leaf}
use Rattle.spd_nodes.specs.Levels.{levels_of, slots}
use Rattle.spd_nodes.specs.Shown.{Shown, IsSound}
use Rattle.spd_nodes.specs.Trees.{Tree, Ends, IsReduced}
use Rattle.spd_apply.specs.Halves.{yes_at, no_at, IsNotBefore, IsLeaf}
use Rattle.spd_gather.specs.Down.{Each, FitsAt, last_leaf, at_leaves, at_each_leaf}
use Rattle.spd_gather.specs.Lists.{trees_of, AreKnown, GoesToTest}
use Rattle.spd_gather.specs.Meeting.{IsLowest, list_rank}
use Rattle.spd_gather.proofs.CallerLemmas.{each-weaker, from-start, halves, leaf-before, leaves-end, meet-lowest, meets, one-rank, rank-lowest, reduced-all}
use Rattle.spd_policy.specs.Choosing.{MayCompare}

-- two lists are the halves of a list at its lowest level
pub record AreHalves (s : Shown) (ks : List Entry) (level : ℕ) (yes no : List Entry) : Type 0 where
  pub lowest : IsLowest level (trees_of s ks)
  pub yes_known : AreKnown s yes
  pub no_known : AreKnown s no
  pub yes_is : trees_of s yes ≡ map (yes_at level) (trees_of s ks)
  pub no_is : trees_of s no ≡ map (no_at level) (trees_of s ks)

module _ (op : List Leaf → Leaf) (levels : ℕ) (s : Shown) (o : IsSound s) (ks : List Entry) (known : AreKnown s ks) (may : MayCompare levels s.sizes (trees_of s ks)) where
  abbrev ds : List ℕ
  ds = slots s.sizes

  abbrev ts : List Tree
  ts = trees_of s ks

  abbrev making : List Tree → Tree
  making = at_each_leaf levels op

  pub goes-to-halves : (l : ℕ) (ys ns : List Entry) → AreHalves s ks l ys ns → GoesToTest making (MayCompare levels s.sizes) s ks l ys ns
  goes-to-halves l ys ns h =
      let reduced : Each (IsReduced ds 0) ts = reduced-all s o ks known in
      let ranks : (levels_of ds - l ≤ list_rank ds ts) × (l < levels_of ds) = one-rank ds l ts reduced h.lowest.one_at in
      let fits : Each (FitsAt ds l) ts = meet-lowest ds 0 0 l ts reduced may.meet h.lowest ranks.1 in
      let meet = meets ds 0 0 (λ k b i. absurd (omega (arith, b))) l ts ranks.1 fits (inr (omega arith)) in
      let g = halves ds (levels_of ds) (at_leaves op) (leaves-end ds op) l ts ranks.1 fits in
      let r = rank-lowest ds l ts fits ranks.1 in
      record {
        level_in = ranks.1;
        is = rw (h.yes_is, h.no_is, may.same) g.is_join;
        can_test = rw (h.yes_is, h.no_is, may.same) g.can_test;
        yes_goes = record { known = h.yes_known; trees = rw h.yes_is (record { same = may.same; some = omega (arith, may.some, length-map ts (yes_at l)); few = omega (arith, may.few, length-map ts (yes_at l)); meet = meet.0 }) };
        no_goes = record { known = h.no_known; trees = rw h.no_is (record { same = may.same; some = omega (arith, may.some, length-map ts (no_at l)); few = omega (arith, may.few, length-map ts (no_at l)); meet = meet.1 }) };
        yes_smaller = rw h.yes_is (omega (arith, r.0, ranks.0));
        no_smaller = rw h.no_is (omega (arith, r.1, ranks.0));
      }

  -- of leaves the operation's leaf is made
  pub made-of-leaves : Each IsLeaf ts → making ts ≡ Ends (op (map last_leaf ts))
  made-of-leaves leaves =
      ap (λ v. at_each_leaf v op ts) may.same
      ∙ from-start ds (levels_of ds) (at_leaves op) (leaves-end ds op) (levels_of ds) 0 (omega arith) ts (each-weaker IsLeaf (IsNotBefore (levels_of ds)) (leaf-before (levels_of ds)) ts leaves)
