-- The process of a ring is lawful: its names differ, its tables fit its variables, and it keeps the limits.
use Rattle.std.proofs.Common.{◌≡◌, ◌≢◌, ℕ, zero, suc, ◌+◌, ◌-◌, ◌^◌, ◌<◌, ◌≤◌, Bool, true, false, ◌&&◌, if◌then◌else◌, List, [], ◌∷◌, ◌++◌, length, map, drop, get_or, Option, Some, None, refl, ap, sym, ◌∙◌, subst, arith, codes, decimal, ℤ, pos, max, below_more}
use Rattle.std.specs.Prelude.{All, IsTrue, slice_index_or, ◌%◌, ◌/◌, nat_lt, sum_by}
use Rattle.std.proofs.lemmas.Int.{ints}
use Rattle.std.proofs.lemmas.Fmt.{decimal_injective, decimal_digit, decimal_step}
use Rattle.std.proofs.lemmas.List.{get_or-map, length-map, map-append}
use Rattle.std.proofs.lemmas.List.Sums.{sum_by-append}
use Rattle.std.proofs.lemmas.List.Kept.{AllPairs-cons}
use Rattle.std.proofs.Math.Nat.{max-le}
use Rattle.std.proofs.lemmas.Bool.{false≢true, and_parts}
use Rattle.std.proofs.lemmas.Bool.Decides.{nat_tests}
use Rattle.std.proofs.lemmas.List.Elements.{All-cons, All-nil, All-append, All-map}
use Rattle.spd_model.specs.declared.tree.Tree.{Tree, Leaf, Branch}
use Rattle.spd_model.specs.declared.process.Var.{Var}
use Rattle.spd_model.specs.declared.process.Action.{Action}
use Rattle.spd_model.specs.Names.{is_name, is_value_name}
use Rattle.spd_model.specs.Numbers.{numbers_below}
use Rattle.spd_model.specs.Trees.{Part, read_tree, parts, nesting}
use Rattle.spd_model.specs.Lawful.{AreDistinct, HasValues, Fits, FitsTable, FitsReward, IsTable, IsReward, AreRewards, IsAction, IsLawful}
use Rattle.spd_model.proofs.CallerLemmas.Lists.{All-one, length-numbers_below, get_or-numbers_below, All-numbers_below, map-map}
use Rattle.spd_model.proofs.CallerLemmas.Trees.{read_tree-Branch}
use Rattle.spd_gen.specs.Ring.{machine, left_of, is_rebooted}
use Rattle.spd_gen.specs.Process.{variable, choice, chances, keep_tree, fix_tree, table_tree, action_of, noop, reboot, working, ring_process}
use Rattle.spd_gen.proofs.ValidLaws.{length-vars, size-at, left-below}

-- ---- names

unfoldable pub all_below : (ℕ → Bool) → ℕ → Bool
all_below test zero = true
all_below test (suc n) = test n && all_below test n

pub below-all : (test : ℕ → Bool) (n : ℕ) → all_below test n ≡ true → (i : ℕ) → i < n → test i ≡ true
unfolding all_below
below-all test zero h i lt = absurd (omega arith)
below-all test (suc n) h i lt =
    let two = and_parts (test n) (all_below test n) h in
    below_more (λ k. test k ≡ true) n (below-all test n two.1) two.0 i (omega arith)

-- the digits of a number below one hundred
unfoldable pub spelled : ℕ → List ℕ
spelled n = if nat_lt n 10 then (48 + n) ∷ [] else (48 + n / 10) ∷ (48 + n % 10) ∷ []

pub decimal-spelled : (n : ℕ) → n < 100 → decimal n ≡ spelled n
unfolding spelled
decimal-spelled n h = either (nat_lt n 10) refl
  where
    either : (b : Bool) → nat_lt n 10 ≡ b → decimal n ≡ (if b then (48 + n) ∷ [] else (48 + n / 10) ∷ (48 + n % 10) ∷ [])
    either true e = decimal_digit n (grind (arith, nat_tests))
    either false e =
        let many : 10 ≤ n = grind (arith, nat_tests) in
        decimal_step n many (omega arith) ∙ ap (λ (l : List ℕ). l ++ (48 + n % 10) ∷ []) (decimal_digit (n / 10) (omega arith))

machine-named : (i : ℕ) → i < 63 → is_name (machine i) ≡ true
unfolding all_below spelled
machine-named i h = ap (λ (l : List ℕ). is_name (codes "m" ++ l)) (decimal-spelled (i + 1) (omega arith)) ∙ below-all (λ k. is_name (codes "m" ++ spelled (k + 1))) 63 refl i h

reboot-named : (i : ℕ) → i < 63 → is_name (codes "reboot" ++ decimal (i + 1)) ≡ true
unfolding all_below spelled
reboot-named i h =
    ap (λ (l : List ℕ). is_name (codes "reboot" ++ l)) (decimal-spelled (i + 1) (omega arith)) ∙ below-all (λ k. is_name (codes "reboot" ++ spelled (k + 1))) 63 refl i h

digits-differ : (i j : ℕ) → i < j → j < 63 → decimal (i + 1) ≡ decimal (j + 1) → ⊥
digits-differ i j h k e = let same : i + 1 ≡ j + 1 = decimal_injective (i + 1) (j + 1) (omega arith) (omega arith) e in omega arith

pub machines-differ : (i j : ℕ) → i < j → j < 63 → machine i ≢ machine j
machines-differ i j h k e = digits-differ i j h k (ap (drop 1) e)

pub reboots-differ : (i j : ℕ) → i < j → j < 63 → (reboot 0 i).name ≢ (reboot 0 j).name
reboots-differ i j h k e = digits-differ i j h k (ap (drop 6) e)

pub noop-differs : (i : ℕ) → codes "noop" ≢ codes "reboot" ++ decimal (i + 1)
noop-differs i e = let first : get_or (codes "noop") 0 0 ≡ get_or (codes "reboot" ++ decimal (i + 1)) 0 0 = ap (λ (l : List ℕ). get_or l 0 0) e in omega arith

distinct-below : (f : ℕ → List ℕ) (n : ℕ) → ((i j : ℕ) → i < j → j < n → f i ≢ f j) → AreDistinct (map f (numbers_below n))
distinct-below f n h i j d before near e =
    let all = numbers_below n in
    let many : length all ≡ n = length-numbers_below n in
    let last : j < n = omega (arith, length-map all f, many) in
    let at-i : get_or (map f all) i d ≡ f i = get_or-map f all i 0 d (omega arith) ∙ ap f (get_or-numbers_below n i (omega arith)) in
    let at-j : get_or (map f all) j d ≡ f j = get_or-map f all j 0 d (omega arith) ∙ ap f (get_or-numbers_below n j last) in
    h i j before last (sym at-i ∙ e ∙ at-j)

-- ---- variables

values-of : (i : ℕ) → HasValues (variable i)
values-of i = record {
  some = omega arith;
  few = omega arith;
  named = All-cons (λ v. IsTrue (is_value_name v)) (codes "up") (codes "down" ∷ []) refl (All-one (λ v. IsTrue (is_value_name v)) (codes "down") refl);
  distinct = AllPairs-cons (λ x y. x ≢ y) (codes "up") (codes "down" ∷ [])
      (All-one (λ y. codes "up" ≢ y) (codes "down") (λ e. let first : 117 ≡ 100 = ap (λ (l : List ℕ). get_or l 0 0) e in omega arith))
      (AllPairs-cons (λ x y. x ≢ y) (codes "down") [] (All-nil (λ y. codes "down" ≢ y)) (λ i j d h k. absurd (omega arith)));
}

tests-of : (n : ℕ) → sum_by (λ (x : Var). length x.values - 1) (map variable (numbers_below n)) ≡ n
tests-of zero = refl
tests-of (suc n) =
    let tests : Var → ℕ = λ x. length x.values - 1 in
    let one : n + 1 ≡ suc n = omega arith in
    ap (sum_by tests) (map-append variable (numbers_below n) (n ∷ [])) ∙ sum_by-append tests (map variable (numbers_below n)) (variable n ∷ []) ∙ ap (λ (k : ℕ). k + 1) (tests-of n) ∙ one

-- ---- trees

parts-Branch : (P : Part → Type 0) (i : ℕ) (primed : Bool) (up down : Tree) → P (Part.choice i primed 2)
    → All P (read_tree parts [] up) → All P (read_tree parts [] down) → All P (read_tree parts [] (Branch i primed (up ∷ down ∷ [])))
parts-Branch P i primed up down own p q =
    let parts-up = read_tree parts [] up in
    let parts-down = read_tree parts [] down in
    subst (All P) (sym (read_tree-Branch parts [] i primed (up ∷ down ∷ [])))
    (All-cons P (Part.choice i primed 2) (parts-up ++ (parts-down ++ [])) own (All-append P parts-up (parts-down ++ []) p (All-append P parts-down [] q (All-nil P))))

deeper : (a b k : ℕ) → a ≤ k → b ≤ k → 1 + max (max 0 a) b ≤ k + 1
deeper a b k h l =
    let most : max (max 0 a) b ≤ k = max-le (max-le (omega arith) h) l in
    omega arith

nesting-Branch : (k i : ℕ) (primed : Bool) (up down : Tree) → read_tree nesting [] up ≤ k → read_tree nesting [] down ≤ k
    → read_tree nesting [] (Branch i primed (up ∷ down ∷ [])) ≤ k + 1
nesting-Branch k i primed up down p q =
    subst (λ (d : ℕ). d ≤ k + 1) (sym (read_tree-Branch nesting [] i primed (up ∷ down ∷ []))) (deeper (read_tree nesting [] up) (read_tree nesting [] down) k p q)

-- a part that may stand in a table of machine i, and in a reward
record MayStand (n i : ℕ) (p : Part) : Type 0 where
  fits : Fits (ring_process n) p
  table : FitsTable i p

fits-choice : (n j : ℕ) (primed : Bool) → j < n → Fits (ring_process n) (Part.choice j primed 2)
fits-choice n j primed h = (subst (λ (k : ℕ). j < k) (sym (length-vars n)) h, sym (size-at n j h))

present : (n i j : ℕ) → j < n → MayStand n i (Part.choice j false 2)
present n i j h = record { fits = fits-choice n j false h; table = λ e. absurd (false≢true e) }

future : (n i : ℕ) → i < n → MayStand n i (Part.choice i true 2)
future n i h = record { fits = fits-choice n i true h; table = λ e. omega arith }

amount : (n i x : ℕ) → x ≤ 10 ^ 12 → MayStand n i (Part.number (pos x))
amount n i x h = record { fits = omega arith; table = omega (arith, ints) }

record IsSmall (n i : ℕ) (tree : Tree) : Type 0 where
  stand : All (MayStand n i) (read_tree parts [] tree)
  depth : read_tree nesting [] tree ≤ 4

chances-stand : (n i x y : ℕ) → i < n → x ≤ 10 ^ 12 → y ≤ 10 ^ 12 → All (MayStand n i) (read_tree parts [] (chances i (pos x) (pos y)))
chances-stand n i x y h k l =
    parts-Branch (MayStand n i) i true (Leaf (pos x)) (Leaf (pos y)) (future n i h)
    (All-one (MayStand n i) (Part.number (pos x)) (amount n i x k)) (All-one (MayStand n i) (Part.number (pos y)) (amount n i y l))

chances-depth : (i : ℕ) (x y : ℤ) → read_tree nesting [] (chances i x y) ≤ 2
chances-depth i x y = nesting-Branch 1 i true (Leaf x) (Leaf y) (omega arith) (omega arith)

small-keep : (n i : ℕ) → i < n → IsSmall n i (keep_tree n i)
small-keep n i h =
    let near = left-below n i h in
    let up = chances i (pos 900000000000) (pos 100000000000) in
    let down = chances i (pos 600000000000) (pos 400000000000) in
    let broken = chances i (pos 100000000000) (pos 900000000000) in
    record {
      stand = parts-Branch (MayStand n i) i false (choice (left_of n i) up down) broken (present n i i h)
          (parts-Branch (MayStand n i) (left_of n i) false up down (present n i (left_of n i) near)
          (chances-stand n i 900000000000 100000000000 h (omega arith) (omega arith)) (chances-stand n i 600000000000 400000000000 h (omega arith) (omega arith)))
          (chances-stand n i 100000000000 900000000000 h (omega arith) (omega arith));
      depth = nesting-Branch 3 i false (choice (left_of n i) up down) broken
          (nesting-Branch 2 (left_of n i) false up down (chances-depth i (pos 900000000000) (pos 100000000000)) (chances-depth i (pos 600000000000) (pos 400000000000)))
          (let two = chances-depth i (pos 100000000000) (pos 900000000000) in omega arith);
    }

small-fix : (n i : ℕ) → i < n → IsSmall n i (fix_tree i)
small-fix n i h = record {
  stand = chances-stand n i 1000000000000 0 h (omega arith) (omega arith);
  depth = let two = chances-depth i (pos 1000000000000) (pos 0) in omega arith;
}

small-either : (n i : ℕ) (b : Bool) → i < n → IsSmall n i (if b then fix_tree i else keep_tree n i)
small-either n i true h = small-fix n i h
small-either n i false h = small-keep n i h

table-of : (n i : ℕ) (tree : Tree) → IsSmall n i tree → IsTable (ring_process n) i tree
unfolding ring_process
table-of n i tree h = record {
  form = record { fits = λ k d near. (h.stand k d near).fits; nests = let four = h.depth in omega arith };
  table = λ k d near. (h.stand k d near).table;
}

tables-of : (n : ℕ) (r : Option ℕ) (i : ℕ) (tree : Tree) → i < n → IsTable (ring_process n) i (slice_index_or (map (table_tree n r) (numbers_below n)) i tree)
tables-of n r i tree h =
    let own : i < length (numbers_below n) = omega (arith, length-numbers_below n) in
    let at : slice_index_or (map (table_tree n r) (numbers_below n)) i tree ≡ table_tree n r i =
    get_or-map (table_tree n r) (numbers_below n) i 0 tree own ∙ ap (table_tree n r) (get_or-numbers_below n i h) in
    subst (IsTable (ring_process n) i) (sym at) (table-of n i (table_tree n r i) (small-either n i (is_rebooted r i) h))

-- ---- rewards

record MayReward (n : ℕ) (p : Part) : Type 0 where
  fits : Fits (ring_process n) p
  reward : FitsReward p

reward-of : (n : ℕ) (tree : Tree) → All (MayReward n) (read_tree parts [] tree) → read_tree nesting [] tree ≤ 2 → IsReward (ring_process n) tree
unfolding ring_process
reward-of n tree h k = record {
  form = record { fits = λ i d near. (h i d near).fits; nests = omega arith };
  reward = λ i d near. (h i d near).reward;
}

amount-reward : (n x : ℕ) → x ≤ 10 ^ 12 → x % 1000 ≡ 0 → MayReward n (Part.number (pos x))
amount-reward n x h k = record { fits = omega arith; reward = k }

working-reward : (n i : ℕ) → i < n → IsReward (ring_process n) (working i)
working-reward n i h =
    reward-of n (working i)
    (parts-Branch (MayReward n) i false (Leaf (pos 1000000000000)) (Leaf (pos 0)) (record { fits = fits-choice n i false h; reward = refl })
    (All-one (MayReward n) (Part.number (pos 1000000000000)) (amount-reward n 1000000000000 (omega arith) refl))
    (All-one (MayReward n) (Part.number (pos 0)) (amount-reward n 0 (omega arith) refl)))
    (nesting-Branch 1 i false (Leaf (pos 1000000000000)) (Leaf (pos 0)) (omega arith) (omega arith))

cost-reward : (n : ℕ) → IsReward (ring_process n) (Leaf (pos 750000000000))
cost-reward n =
    reward-of n (Leaf (pos 750000000000)) (All-one (MayReward n) (Part.number (pos 750000000000)) (amount-reward n 750000000000 (omega arith) refl)) (omega arith)

-- ---- actions

action-lawful : (n : ℕ) (name : List ℕ) (r : Option ℕ) (cost : List Tree) → is_name name ≡ true → AreRewards (ring_process n) cost → IsAction (ring_process n) (action_of n name r cost)
action-lawful n name r cost named costs = record {
  named = named;
  one_each = length-map (numbers_below n) (table_tree n r) ∙ length-numbers_below n ∙ sym (length-vars n);
  tables = λ i tree near. tables-of n r i tree (subst (λ (k : ℕ). i < k) (length-vars n) near);
  cost = costs;
}

noop-lawful : (n : ℕ) → IsAction (ring_process n) (noop n)
noop-lawful n = action-lawful n (codes "noop") None [] refl (record { few = omega arith; each = All-nil (IsReward (ring_process n)) })

reboot-lawful : (n i : ℕ) → i < 63 → IsAction (ring_process n) (reboot n i)
reboot-lawful n i h =
    action-lawful n (codes "reboot" ++ decimal (i + 1)) (Some i) (Leaf (pos 750000000000) ∷ []) (reboot-named i h)
    (record { few = omega arith; each = All-one (IsReward (ring_process n)) (Leaf (pos 750000000000)) (cost-reward n) })

-- ---- the process

names-distinct : (n : ℕ) → n ≤ 63 → AreDistinct (map (λ (a : Action). a.name) (noop n ∷ map (reboot n) (numbers_below n)))
names-distinct n h =
    let rest : List (List ℕ) = map (λ (a : Action). a.name) (map (reboot n) (numbers_below n)) in
    let same : rest ≡ map (λ i. (reboot n i).name) (numbers_below n) = map-map (λ (a : Action). a.name) (reboot n) (numbers_below n) in
    AllPairs-cons (λ x y. x ≢ y) (codes "noop") rest
    (subst (All (λ y. codes "noop" ≢ y)) (sym same)
    (All-map (λ y. codes "noop" ≢ y) (λ i. (reboot n i).name) (numbers_below n) (All-numbers_below (λ i. codes "noop" ≢ (reboot n i).name) n (λ i near. noop-differs i))))
    (subst AreDistinct (sym same) (distinct-below (λ i. (reboot n i).name) n (λ i j before near. reboots-differ i j before (omega arith))))

pub ring-lawful : (n : ℕ) → 2 ≤ n → n ≤ 63 → IsLawful (ring_process n)
unfolding ring_process
ring-lawful n low high =
    let all = numbers_below n in
    let m = ring_process n in
    let many : length (map variable all) ≡ n = length-map all variable ∙ length-numbers_below n in
    let acts : length (map (reboot n) all) ≡ n = length-map all (reboot n) ∙ length-numbers_below n in
    let parts : length (map working all) ≡ n = length-map all working ∙ length-numbers_below n in
    record {
      some_vars = omega (arith, many);
      few_vars = omega (arith, many);
      vars_named = All-map (λ (x : Var). IsTrue (is_name x.name)) variable all (All-numbers_below (λ i. is_name (machine i) ≡ true) n (λ i near. machine-named i (omega arith)));
      vars_distinct = subst AreDistinct (sym (map-map (λ (x : Var). x.name) variable all)) (distinct-below machine n (λ i j before near. machines-differ i j before (omega arith)));
      values = All-map HasValues variable all (All-numbers_below (λ i. HasValues (variable i)) n (λ i near. values-of i));
      few_tests = let tests = tests-of n in omega arith;
      few_dds = omega arith;
      dds_fit = All-nil (All (Fits m));
      dds_nest = All-nil (λ k. k ≤ 300);
      some_actions = omega (arith, acts);
      few_actions = omega (arith, acts);
      actions_distinct = names-distinct n high;
      actions = All-cons (IsAction m) (noop n) (map (reboot n) all) (noop-lawful n)
          (All-map (IsAction m) (reboot n) all (All-numbers_below (λ i. IsAction m (reboot n i)) n (λ i near. reboot-lawful n i (omega arith))));
      reward = record { few = omega (arith, parts); each = All-map (IsReward m) working all (All-numbers_below (λ i. IsReward m (working i)) n (λ i near. working-reward n i near)) };
      discount = omega arith;
      tolerance_low = omega (arith, ints);
      tolerance_high = omega (arith, ints);
      horizon = tt;
    }
