-- The greatest of leaves.
use Rattle.std.proofs.Common.{◌≡◌, ℕ, zero, suc, ◌+◌, ◌<◌, List, [], ◌∷◌, ◌++◌, map, length, get_or, take, fold, refl, sym, ◌∙◌, ap, arith, ℤ, All}
use Rattle.std.specs.Int.{int_max}
use Rattle.std.proofs.lemmas.List.{map_push, take_more}
use Rattle.std.proofs.lemmas.List.Elements.{All-head, All-tail}
use Rattle.spd_cons_core.specs.declared.key.Entry.{Entry}
use Rattle.spd_model.specs.Numbers.{greatest}
use Rattle.spd_nodes.specs.declared.leaf.Leaf.{Leaf}
use Rattle.spd_nodes.specs.declared.leaf.Leaf.TheVariants.{Num, Pair, Act}
use Rattle.spd_nodes.specs.Shown.{Shown}
use Rattle.spd_nodes.specs.Trees.{Tree}
use Rattle.spd_apply.specs.Operations.{num_of}
use Rattle.spd_gather.specs.Down.{Each, last_leaf}
use Rattle.spd_gather.specs.Lists.{trees_of}
use Rattle.spd_weigh.specs.Leaves.{number_of}
use Rattle.spd_policy.specs.Best.{IsNum}
use Rattle.spd_policy.specs.Choosing.{greatest_leaf}
use Rattle.spd_model.proofs.CallerLemmas.Greatest.{max_itself}

-- the leaf of an entry that is one
abbrev pub leaf_at : Shown → Entry → Leaf
leaf_at s r = last_leaf (s.tree r)

pub leaves-are : (s : Shown) (ks : List Entry) → map last_leaf (trees_of s ks) ≡ map (leaf_at s) ks
leaves-are s [] = refl
leaves-are s (k ∷ ks) = ap (λ z. leaf_at s k ∷ z) (leaves-are s ks)

-- the numbers of leaves
abbrev pub leaf_numbers : List Leaf → List ℤ
leaf_numbers ls = map number_of ls

-- ---- the greatest leaf

fold-push : (a : Leaf) (ls : List Leaf) (b : Leaf) → fold (num_of int_max) a (ls ++ b ∷ []) ≡ num_of int_max (fold (num_of int_max) a ls) b
fold-push a [] b = refl
fold-push a (x ∷ ls) b = fold-push (num_of int_max a x) ls b

greatest-push : (ls : List Leaf) (b : Leaf) → 0 < length ls → greatest_leaf (ls ++ b ∷ []) ≡ num_of int_max (greatest_leaf ls) b
greatest-push [] b h = absurd (omega arith)
greatest-push (a ∷ ls) b h = fold-push a ls b

pub greatest-one : {X : Type 0} (f : X → Leaf) (xs : List X) (d : X) → 0 < length xs → f (get_or xs 0 d) ≡ greatest_leaf (map f (take 1 xs))
greatest-one f [] d h = absurd (omega arith)
greatest-one f (x ∷ xs) d h = refl

long : {X : Type 0} (f : X → Leaf) (xs : List X) (i : ℕ) → 0 < i → 0 < length xs → 0 < length (map f (take i xs))
long f [] i h k = absurd (omega arith)
long f (x ∷ xs) zero h k = absurd (omega arith)
long f (x ∷ xs) (suc i) h k = omega arith

pub greatest-more : {X : Type 0} (f : X → Leaf) (xs : List X) (i : ℕ) (d : X) (a b : Leaf) → 0 < i → i < length xs → a ≡ greatest_leaf (map f (take i xs)) → b ≡ f (get_or xs i d)
    → num_of int_max a b ≡ greatest_leaf (map f (take (i + 1) xs))
greatest-more f xs i d a b some near is here =
    (λ j. num_of int_max (is j) (here j)) ∙ sym (greatest-push (map f (take i xs)) (f (get_or xs i d)) (long f xs i some (omega arith)))
    ∙ ap greatest_leaf (sym (ap (map f) (take_more xs i d near) ∙ map_push f (take i xs) (get_or xs i d)))

-- where all leaves are numbers, it is the greatest number
num-is : (a : Leaf) → IsNum a → a ≡ Num (number_of a)
num-is (Num x) h = refl
num-is (Pair x y) h = absurd h
num-is (Act x) h = absurd h

fold-numbers : (x : ℤ) (ls : List Leaf) → All IsNum ls → fold (num_of int_max) (Num x) ls ≡ Num (fold int_max x (leaf_numbers ls))
fold-numbers x [] h = refl
fold-numbers x (a ∷ ls) h =
    ap (λ b. fold (num_of int_max) (num_of int_max (Num x) b) ls) (num-is a (All-head IsNum a ls h)) ∙ fold-numbers (int_max x (number_of a)) ls (All-tail IsNum a ls h)

pub greatest-number : (ls : List Leaf) → All IsNum ls → 0 < length ls → greatest_leaf ls ≡ Num (greatest (leaf_numbers ls))
greatest-number [] h k = absurd (omega arith)
greatest-number (a ∷ ls) h k =
    ap (λ b. fold (num_of int_max) b ls) (num-is a (All-head IsNum a ls h)) ∙ fold-numbers (number_of a) ls (All-tail IsNum a ls h)

-- ---- leaves of trees that are all one

higher-itself : (a : Leaf) → num_of int_max a a ≡ a
higher-itself (Num x) = ap Num (max_itself x)
higher-itself (Pair x y) = refl
higher-itself (Act x) = refl

pub greatest-alike : (u : Tree) (ts : List Tree) → Each (λ t. t ≡ u) ts → fold (num_of int_max) (last_leaf u) (map last_leaf ts) ≡ last_leaf u
greatest-alike u [] h = refl
greatest-alike u (t ∷ ts) h =
    ap (λ v. fold (num_of int_max) (num_of int_max (last_leaf u) (last_leaf v)) (map last_leaf ts)) h.0
    ∙ ap (λ b. fold (num_of int_max) b (map last_leaf ts)) (higher-itself (last_leaf u)) ∙ greatest-alike u ts h.1
