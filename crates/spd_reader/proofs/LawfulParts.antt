-- What is written in a tree for a purpose: each part fits the model and the purpose, and it nests at most so deep.
use Rattle.std.proofs.Common.{◌≡◌, ℕ, ◌+◌, ◌^◌, ◌<◌, ◌≤◌, ◌%◌, ◌==◌, Bool, true, false, List, [], ◌∷◌, length, map, All, refl, sym, subst, arith, ℤ, pos}
use Rattle.std.specs.Prelude.{◌&&◌, not, nat_le, unsigned_abs, fold, max, flat_map, slice_index, slice_index_or}
use Rattle.std.specs.List.{list_any}
use Rattle.std.proofs.lemmas.Bool.{not-false, eqb-true, leb-true}
use Rattle.std.proofs.lemmas.List.{length-map}
use Rattle.std.proofs.lemmas.List.Elements.{All-nil, All-cons, All-head, All-tail, All-append}
use Rattle.spd_scaled.proofs.CallerLemmas.Ring.{int_lt-false}
use Rattle.spd_model.specs.declared.tree.Tree.{Tree, Leaf, Branch}
use Rattle.spd_model.specs.Lawful.{Fits, FitsTable, FitsReward}
use Rattle.spd_model.specs.Process.{Process}
use Rattle.spd_model.specs.States.{sizes}
use Rattle.spd_model.specs.Trees.{Part, number, choice, missing, parts, nesting, read_tree}
use Rattle.spd_model.proofs.CallerLemmas.Trees.{read_tree-Branch}
use Rattle.spd_reader.specs.declared.purpose.Purpose.{Purpose}
use Rattle.spd_reader.specs.declared.purpose.Purpose.TheVariants.{Diagram, Table, Reward}
use Rattle.spd_reader.specs.Trees.{may_prime, primes_wrong, negative_wrong, fine_wrong}
use Rattle.spd_reader.proofs.LawfulLists.{none-passes}

-- a part fits what a tree is for
abbrev pub FitsPurpose : Purpose → Part → Type 0
FitsPurpose Diagram part = Unit {0}
FitsPurpose (Table i) part = FitsTable i part
FitsPurpose Reward part = FitsReward part

-- a part fits the model and what a tree is for
pub record Good (m : Process) (p : Purpose) (part : Part) : Type 0 where
  pub fits : Fits m part
  pub serves : FitsPurpose p part

-- a tree that is read by what diagrams come to: its parts are good, and it nests at most so deep
pub record GoodTree (m : Process) (diagrams : List (List Part)) (depths : List ℕ) (p : Purpose) (depth : ℕ) (tree : Tree) : Type 0 where
  pub parts_good : All (Good m p) (read_tree parts diagrams tree)
  pub nests : read_tree nesting depths tree ≤ depth

-- a choice whose next value may be tested, if it is tested, serves
pub choice-serves : (p : Purpose) (v : ℕ) (primed : Bool) (kids : ℕ) → (primed && not (may_prime p v)) ≡ false → FitsPurpose p (choice v primed kids)
choice-serves Diagram v primed kids h = tt
choice-serves (Table i) v true kids h = λ e. leb-true i v (not-false (nat_le i v) h)
choice-serves (Table i) v false kids h = λ e. absurd (cc e)
choice-serves Reward v true kids h = absurd (cc h)
choice-serves Reward v false kids h = refl

-- a part in which nothing is wrong for a purpose serves it
pub nothing-wrong : (m : Process) (p : Purpose) (part : Part) → Fits m part → primes_wrong p part ≡ false → negative_wrong p part ≡ false → fine_wrong p part ≡ false → Good m p part
nothing-wrong m p part f a b c = record { fits = f; serves = serves p part f a b c }
  where
    serves : (p : Purpose) (part : Part) → Fits m part → primes_wrong p part ≡ false → negative_wrong p part ≡ false → fine_wrong p part ≡ false → FitsPurpose p part
    serves Diagram part f a b c = tt
    serves (Table i) (number x) f a b c = int_lt-false x (pos 0) b
    serves (Table i) (choice v primed kids) f a b c = choice-serves (Table i) v primed kids a
    serves (Table i) missing f a b c = absurd f
    serves Reward (number x) f a b c = eqb-true (unsigned_abs x % 1000) 0 (not-false (unsigned_abs x % 1000 == 0) c)
    serves Reward (choice v primed kids) f a b c = choice-serves Reward v primed kids a
    serves Reward missing f a b c = absurd f

-- parts of which none is wrong
pub none-wrong : (m : Process) (p : Purpose) (ps : List Part) → All (Fits m) ps → list_any (primes_wrong p) ps ≡ false → list_any (negative_wrong p) ps ≡ false → list_any (fine_wrong p) ps ≡ false → All (Good m p) ps
none-wrong m p ps f a b c = λ k d near. nothing-wrong m p (slice_index_or ps k d) (f k d near) (none-passes (primes_wrong p) ps a k d near) (none-passes (negative_wrong p) ps b k d near) (none-passes (fine_wrong p) ps c k d near)

-- the leaf 0 is good for every purpose
pub zero-good : (m : Process) (diagrams : List (List Part)) (depths : List ℕ) (p : Purpose) (depth : ℕ) → 1 ≤ depth → GoodTree m diagrams depths p depth (Leaf (pos 0))
zero-good m diagrams depths p depth h = record { parts_good = All-cons (Good m p) (number (pos 0)) [] (record { fits = omega arith; serves = serves p }) (All-nil (Good m p)); nests = h }
  where
    serves : (p : Purpose) → FitsPurpose p (number (pos 0))
    serves Diagram = tt
    serves (Table i) = omega arith
    serves Reward = refl

-- a number of a tree
pub number-good : (m : Process) (diagrams : List (List Part)) (depths : List ℕ) (p : Purpose) (depth : ℕ) (x : ℤ) → 1 ≤ depth → unsigned_abs x ≤ 10 ^ 30 → FitsPurpose p (number x) → GoodTree m diagrams depths p depth (Leaf x)
number-good m diagrams depths p depth x h f g = record { parts_good = All-cons (Good m p) (number x) [] (record { fits = f; serves = g }) (All-nil (Good m p)); nests = h }

-- a choice of good trees
module _ (m : Process) (diagrams : List (List Part)) (depths : List ℕ) (p : Purpose) (depth : ℕ) where
  abbrev parts-of-tree : Tree → List Part
  parts-of-tree tree = read_tree parts diagrams tree

  kids-good : (kids : List Tree) → All (GoodTree m diagrams depths p depth) kids → All (Good m p) (flat_map (λ kid. kid) (map parts-of-tree kids))
  kids-good [] h = All-nil (Good m p)
  kids-good (t ∷ ts) h =
      All-append (Good m p) (parts-of-tree t) (flat_map (λ kid. kid) (map parts-of-tree ts))
      (All-head (GoodTree m diagrams depths p depth) t ts h).parts_good
      (kids-good ts (All-tail (GoodTree m diagrams depths p depth) t ts h))

  deepest : (kids : List Tree) (n : ℕ) → n ≤ depth → All (GoodTree m diagrams depths p depth) kids → fold max n (map (read_tree nesting depths) kids) ≤ depth
  deepest [] n b h = b
  deepest (t ∷ ts) n b h =
      let here : read_tree nesting depths t ≤ depth = (All-head (GoodTree m diagrams depths p depth) t ts h).nests in
      deepest ts (max n (read_tree nesting depths t)) (omega arith) (All-tail (GoodTree m diagrams depths p depth) t ts h)

  pub choice-good : (v : ℕ) (primed : Bool) (kids : List Tree) → v < length m.vars → length kids ≡ slice_index (sizes m) v → FitsPurpose p (choice v primed (length kids))
      → All (GoodTree m diagrams depths p depth) kids → GoodTree m diagrams depths p (depth + 1) (Branch v primed kids)
  choice-good v primed kids in_range count serves h =
      let own : Good m p (choice v primed (length kids)) = record { fits = (in_range, count); serves = serves } in
      let root : Good m p (choice v primed (length (map parts-of-tree kids))) = subst (λ n. Good m p (choice v primed n)) (sym (length-map kids parts-of-tree)) own in
      let d : fold max 0 (map (read_tree nesting depths) kids) ≤ depth = deepest kids 0 (omega arith) h in
      record {
        parts_good = subst (All (Good m p)) (sym (read_tree-Branch parts diagrams v primed kids)) (All-cons (Good m p) _ (flat_map (λ kid. kid) (map parts-of-tree kids)) root (kids-good kids h));
        nests = subst (λ n. n ≤ depth + 1) (sym (read_tree-Branch nesting depths v primed kids)) (omega arith);
      }
