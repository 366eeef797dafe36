-- The functions of a turn, on one variable that its only action leaves as it is, with a reward of 1 at its first value and the discount
-- 0.5.
use Rattle.std.proofs.Common.{◌≡◌, true, false, [], ◌∷◌, length, refl, pos, codes, None}
use Rattle.spd_model.specs.Process.{Process}
use Rattle.spd_model.specs.declared.tree.Tree.{Tree, Leaf, Branch}
use Rattle.spd_model.specs.declared.tree.Tree.TheBlock.{shape-the_row-Tree-0, hidden-the_row-Tree-0}
use denote.Hole.Carrier
use Rattle.spd_model.specs.Turns.{start_of}
use Rattle.spd_turn.specs.Turn.{finish_functions, turn_count}

abbrev one : Tree
one = Leaf (pos 1000000000000)

abbrev nought : Tree
nought = Leaf (pos 0)

abbrev staying : Process
staying = record {
  vars = record { name = codes "x"; values = codes "yes" ∷ codes "no" ∷ [] } ∷ [];
  dds = [];
  actions = record {
    name = codes "stay";
    tables = Branch 0 false (Branch 0 true (one ∷ nought ∷ []) ∷ Branch 0 true (nought ∷ one ∷ []) ∷ []) ∷ [];
    cost = [];
  } ∷ [];
  reward = Branch 0 false (one ∷ nought ∷ []) ∷ [];
  discount = 500000;
  tolerance = pos 100000000;
  horizon = None;
}

-- four of the only action, the greatest lower bound and the policy; three of the merge; and three of the residual
end-of-turn : length (finish_functions staying (pos 0) (start_of staying)) ≡ 12
end-of-turn = refl

-- the nodes of turn 0
first-turn : turn_count staying (pos 0) (start_of staying) ≡ 21
unfolding shape-the_row-Tree-0 hidden-the_row-Tree-0 denote.Hole.Carrier.hidden
first-turn = refl
