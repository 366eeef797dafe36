-- The functions of each part of building are among the functions of building, and what that says of faults.
use Rattle.std.proofs.Common.{◌≡◌, ℕ, suc, ◌+◌, ◌<◌, ◌⊎◌, MatchResult, List, [], ◌∷◌, ◌++◌, length, flat_map, get_or, inl, inr, refl, sym, ap, subst, arith, pos, Contains, Result, Ok, Err, IfErr}
use Rattle.std.specs.Prelude.{slice_get, Some, None}
use Rattle.std.specs.Result.{IsErrAnd}
use Rattle.std.proofs.lemmas.Option.{slice_get-get_or}
use Rattle.spd_model.specs.declared.tree.Tree.{Tree}
use Rattle.spd_model.specs.declared.process.Action.{Action}
use Rattle.spd_model.specs.Process.{Process}
use Rattle.spd_model.specs.Numbers.{numbers_below}
use Rattle.spd_model.specs.Chances.{one}
use Rattle.spd_model.proofs.CallerLemmas.Lists.{length-numbers_below, get_or-numbers_below}
use Rattle.spd_nodes.specs.Trees.{Tree as TestTree, IsNodeOf}
use Rattle.spd_nodes.specs.States.{Function, test_trees}
use Rattle.spd_nodes.specs.declared.forest.StoreFault.{StoreFault}
use Rattle.spd_nodes.specs.declared.forest.StoreFault.TheVariants as F
use Rattle.spd_nodes.specs.Shown.{Shown, FaultsAt}
use Rattle.spd_nodes.proofs.CallerLemmas.{Among, IsIn, among-back, among-flat, among-front, among-trans, fault-wider, within-in}
use Rattle.spd_apply.specs.Rules.{Making, HoldsAnswers}
use Rattle.spd_build.specs.Functions.{constant, tree_functions, table_functions, part_sum, part_functions_at, part_functions, reward, reward_functions, start_functions, building_functions, whole_sum}
use Rattle.spd_build.specs.Built.{BuildCause}
use Rattle.spd_build.specs.Ranges.{RewardCause}
use Rattle.spd_build.specs.Tables.{TableCause, all_table_functions}
use Rattle.spd_build.specs.declared.built.BuildFault.{BuildFault}
use Rattle.spd_build.specs.declared.built.BuildFault.TheVariants as Fault
use Rattle.spd_build.specs.Building.{build_fault, sum_functions, net_functions}

-- ---- nodes of lists

-- a node of two lists is one of either
in-either : (sizes : List ℕ) (x : TestTree) (fs gs : List Function) → IsNodeOf x (test_trees sizes (fs ++ gs)) → IsNodeOf x (test_trees sizes fs) ⊎ IsNodeOf x (test_trees sizes gs)
in-either sizes x [] gs h = inr h
in-either sizes x (f ∷ fs) gs (inl a) = inl (inl a)
in-either sizes x (f ∷ fs) gs (inr a) = elim (in-either sizes x fs gs a) [ inl b ↦ inl (inr b) | inr b ↦ inr b ]

pub among-join : {fs gs hs : List Function} → Among fs hs → Among gs hs → Among (fs ++ gs) hs
among-join {fs = fs} {gs = gs} a b = record {
  nodes = λ sizes. record {
    nodes = λ x h. elim (in-either sizes x fs gs h) [ inl p ↦ (a.nodes sizes).nodes x p | inr q ↦ (b.nodes sizes).nodes x q ];
  };
}

pub among-refl : {fs : List Function} → Among fs fs
among-refl = record { nodes = λ sizes. record { nodes = λ x h. h } }

-- one function of a list
pub among-in : {f : Function} {fs : List Function} → IsIn f fs → Among (f ∷ []) fs
among-in {f = f} {fs = fs} i = record { nodes = λ sizes. within-in sizes f fs i }

-- ---- the parts of building

module _ (m : Process) where
  abbrev with_dds : List Function
  with_dds = (constant (pos 0) ∷ constant one ∷ []) ++ flat_map (tree_functions m) m.dds

  abbrev of_tables : List Function
  of_tables = flat_map (λ a. flat_map (table_functions m a) (numbers_below (length m.vars))) m.actions

  abbrev with_tables : List Function
  with_tables = with_dds ++ of_tables

  abbrev with_parts : List Function
  with_parts = with_tables ++ part_functions m m.reward

  abbrev of_rewards : List Function
  of_rewards = flat_map (reward_functions m) m.actions

  abbrev with_rewards : List Function
  with_rewards = with_parts ++ of_rewards

  pub start-among : Among (start_functions m) (building_functions m)
  start-among = among-back with_rewards (start_functions m)

  rewards-among : Among of_rewards (building_functions m)
  rewards-among = among-trans (among-back with_parts of_rewards) (among-front with_rewards (start_functions m))

  from-parts : Among with_parts (building_functions m)
  from-parts = among-trans (among-front with_parts of_rewards) (among-front with_rewards (start_functions m))

  parts-among : Among (part_functions m m.reward) (building_functions m)
  parts-among = among-trans (among-back with_tables (part_functions m m.reward)) from-parts

  from-tables : Among with_tables (building_functions m)
  from-tables = among-trans (among-front with_tables (part_functions m m.reward)) from-parts

  pub tables-among : Among (all_table_functions m) (building_functions m)
  tables-among = among-trans (among-back with_dds of_tables) from-tables

  pub dds-among : Among (flat_map (tree_functions m) m.dds) (building_functions m)
  dds-among =
      among-trans (among-back (constant (pos 0) ∷ constant one ∷ []) (flat_map (tree_functions m) m.dds)) (among-trans (among-front with_dds of_tables) from-tables)

  zero-among : Among (constant (pos 0) ∷ []) (building_functions m)
  zero-among = among-in (inl refl)

  -- the sum of parts, whose functions are among those of building
  sum-within : (trees : List Tree) → Among (part_functions m trees) (building_functions m) → Among (sum_functions m trees) (building_functions m)
  sum-within trees h =
      let all = flat_map (part_functions_at m trees) (numbers_below (length trees)) in
      among-join {fs = constant (pos 0) ∷ []} zero-among (among-trans (among-front all (whole_sum m trees ∷ [])) h)

  pub gained-among : Among (sum_functions m m.reward) (building_functions m)
  gained-among = sum-within m.reward parts-among

  -- an action's own functions
  own-among : (a : Action) → Contains m.actions a → Among (reward_functions m a) (building_functions m)
  own-among a there =
      among-trans (subst (λ b. Among (reward_functions m b) (flat_map (reward_functions m) m.actions)) there.2 (among-flat (reward_functions m) m.actions there.0 a there.1)) rewards-among

  pub net-among : (a : Action) → Contains m.actions a → Among (net_functions m a) (building_functions m)
  net-among a there =
      among-join (sum-within a.cost (among-trans (among-front (part_functions m a.cost) (reward m a ∷ [])) (own-among a there)))
      (among-trans (among-back (part_functions m a.cost) (reward m a ∷ [])) (own-among a there))

  -- a call failed whose functions are among those of building
  pub part-fault : {fs : List Function} (s : Shown) (e : StoreFault) → Among fs (building_functions m) → FaultsAt e s fs → BuildCause m s (build_fault e)
  part-fault s F.Full a h = fault-wider F.Full s a h
  part-fault s F.Memory a h = tt

  -- the same where weights are made
  pub table-cause : (s : Shown) (e : BuildFault) → TableCause m s e → BuildCause m s e
  table-cause s (Fault.Sum action var state sum) h = h
  table-cause s (Fault.Range action state value) h = absurd h
  table-cause s Fault.Full h = fault-wider F.Full s tables-among h
  table-cause s Fault.Memory h = tt

  -- the same where an action's reward is made
  pub reward-fault : (a : ℕ × Action) (s : Shown) (e : StoreFault) → FaultsAt e s (building_functions m) → RewardCause m a s (build_fault e)
  reward-fault a s F.Full h = h
  reward-fault a s F.Memory h = tt

  -- ---- the functions of a sum of parts

  module _ (trees : List Tree) (k : ℕ) (d : Tree) (near : k < length trees) where
    at-among : Among (part_functions_at m trees k) (sum_functions m trees)
    at-among =
        let all = flat_map (part_functions_at m trees) (numbers_below (length trees)) in
        among-trans
        (subst (λ (i : ℕ). Among (part_functions_at m trees i) all) (get_or-numbers_below (length trees) k near)
        (among-flat (part_functions_at m trees) (numbers_below (length trees)) k 0 (omega (arith, length-numbers_below (length trees)))))
        (among-back (constant (pos 0) ∷ []) all)

    abbrev own_functions : List Function
    own_functions = elim (slice_get trees k) [ None ↦ [] | Some tree ↦ tree_functions m tree ]

    pub tree-among : Among (tree_functions m (get_or trees k d)) (sum_functions m trees)
    tree-among =
        among-trans
        (subst (λ (fs : List Function). Among fs (part_functions_at m trees k))
        (ap (λ o. elim o [ None ↦ [] | Some tree ↦ tree_functions m tree ]) (slice_get-get_or trees k d near))
        (among-front own_functions (part_sum m trees (suc k) ∷ [])))
        at-among

    pub more-among : Among (part_sum m trees (k + 1) ∷ []) (sum_functions m trees)
    more-among =
        let next : suc k ≡ k + 1 = omega arith in
        subst (λ (n : ℕ). Among (part_sum m trees n ∷ []) (sum_functions m trees)) next
        (among-trans (among-back own_functions (part_sum m trees (suc k) ∷ [])) at-among)

-- ---- faults that a `?` hands on

-- a fault of the forest, as a fault of building
pub err-gives : {A : Type 0} (r : Result A BuildFault) (e : StoreFault) (P : BuildFault → Type 0) → IsErrAnd r (λ y. y ≡ build_fault e) → P (build_fault e) → IfErr r P
err-gives (Ok x) e P h k = absurd h
err-gives (Err y) e P h k = subst P (sym h) k

pub match-gives : {A : Type 0} (r : Result A BuildFault) (e : StoreFault) (Q : A → Type 0) (P : BuildFault → Type 0) → IsErrAnd r (λ y. y ≡ build_fault e)
    → P (build_fault e) → MatchResult r Q P
match-gives (Ok x) e Q P h k = absurd h
match-gives (Err y) e Q P h k = subst P (sym h) k

-- a fault of building, as it is
pub err-same : {A : Type 0} (r : Result A BuildFault) (e : BuildFault) (P : BuildFault → Type 0) → IsErrAnd r (λ y. y ≡ e) → P e → IfErr r P
err-same (Ok x) e P h k = absurd h
err-same (Err y) e P h k = subst P (sym h) k

-- ---- memos

-- a memo that keeps nothing yet holds answers of any operation
pub holds-none : (making : Making) (s : Shown) (n : ℕ) → HoldsAnswers making s (record { pairs = []; capacity = n })
holds-none making s n = record { each = λ f g r m. let near = m.1 in absurd (omega (arith, near)) }
