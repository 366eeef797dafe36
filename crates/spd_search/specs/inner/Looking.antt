-- Looking for a leaf along a test tree, where the first values of the present state are given.
use Rattle.std.specs.Prelude.{ℕ, ◌-◌, ◌==◌, nat_lt, Bool, cond, List, [], ◌∷◌, Option, Some, None}
use Rattle.std.specs.Option.{option_or}
use Rattle.spd_nodes.specs.declared.leaf.Leaf.{Leaf}
use Rattle.spd_nodes.specs.Trees.{Tree, Ends, Tests}
use Rattle.spd_search.specs.declared.looking.Turn.{Turn}
use Rattle.spd_search.specs.declared.looking.Turn.TheVariants.{Free, Both, Yes, No}

-- a leaf, where it is wanted
abbrev pub if_wanted : (Leaf → Bool) → Leaf → Option Leaf
if_wanted wants a = cond (wants a) (Some a) None

-- the first leaf of a tree that is wanted, the side where a test holds first
abbrev pub leaf_in : (Leaf → Bool) → Tree → Option Leaf
leaf_in wants (Ends a) = if_wanted wants a
leaf_in wants (Tests l y n) = option_or (leaf_in wants y) (leaf_in wants n)

-- Where a test of level `l` leads at present states that begin with these values. A level of a variable past them is free. One of a
-- next value leads to both sides.
abbrev pub turn_of : List ℕ → List ℕ → ℕ → Turn
turn_of sizes [] l = Free
turn_of [] (v ∷ first) l = Free
turn_of (d ∷ ds) (v ∷ first) l =
    cond (nat_lt l (d - 1)) Both (cond (nat_lt (l - (d - 1)) (d - 1)) (cond (v == l - (d - 1)) Yes No) (turn_of ds first (l - (d - 1) - (d - 1))))

-- what follows by a turn: anything of the tree, the first of both sides, or one side
abbrev pub by_turn : {X : Type 0} → Turn → Option X → Option X → Option X → Option X
by_turn Free free a b = free
by_turn Both free a b = option_or a b
by_turn Yes free a b = a
by_turn No free a b = b

-- the first leaf of a tree that is wanted at present states that begin with these values
abbrev pub leaf_under : List ℕ → (Leaf → Bool) → List ℕ → Tree → Option Leaf
leaf_under sizes wants first (Ends a) = if_wanted wants a
leaf_under sizes wants first (Tests l y n) =
    by_turn (turn_of sizes first l) (option_or (leaf_in wants y) (leaf_in wants n)) (leaf_under sizes wants first y) (leaf_under sizes wants first n)
