-- Verdicts on certificates of one variable that its only action keeps, with a reward of 1 at its first value and the discount 0.5.
use Rattle.std.proofs.Common.{◌≡◌, true, false, List, [], ◌∷◌, refl, ℤ, pos, codes, None}
use Rattle.spd_model.specs.declared.Side.TheVariants.{Above, Below}
use Rattle.spd_model.specs.declared.tree.Tree.{Tree, Leaf as number, Branch}
use Rattle.spd_model.specs.declared.tree.Tree.TheBlock.{shape-the_row-Tree-0, hidden-the_row-Tree-0}
use denote.Hole.Carrier
use Rattle.spd_model.specs.Process.{Process}
use Rattle.spd_model.specs.Reduced.{Node}
use Rattle.spd_nodes.specs.declared.leaf.Leaf.{Leaf}
use Rattle.spd_nodes.specs.declared.leaf.Leaf.TheVariants.{Num, Pair, Act}
use Rattle.spd_check.specs.declared.verdict.Verdict.{Verdict}
use Rattle.spd_check.specs.declared.verdict.Verdict.TheVariants.{Yes, No}
use Rattle.spd_check.specs.Certificates.{first_failure, policy_by, value_by, verdict_of}
use Rattle.spd_check.specs.Functions.{check_count, own_among}

abbrev one : Tree
one = number (pos 1000000000000)

abbrev nought : Tree
nought = number (pos 0)

abbrev kept : Process
kept = record {
  vars = record { name = codes "x"; values = codes "yes" ∷ codes "no" ∷ [] } ∷ [];
  dds = [];
  actions = record {
    name = codes "stay";
    tables = Branch 0 false (Branch 0 true (one ∷ nought ∷ []) ∷ Branch 0 true (nought ∷ one ∷ []) ∷ []) ∷ [];
    cost = [];
  } ∷ [];
  reward = Branch 0 false (one ∷ nought ∷ []) ∷ [];
  discount = 500000;
  tolerance = pos 100000000;
  horizon = None;
}

-- so much at yes, and 0 at no
abbrev at_yes : ℤ → List (Node Leaf)
at_yes y = Node.leaf (Num y) ∷ Node.leaf (Num (pos 0)) ∷ Node.branch 0 (0 ∷ 1 ∷ []) ∷ []

-- the only action at both
abbrev staying : List (Node Leaf)
staying = Node.leaf (Act 0) ∷ []

abbrev judged : ℤ → ℤ → Verdict
judged y r = verdict_of (first_failure kept (value_by (at_yes y)) (policy_by staying) r)

-- the bounds at yes are 1.984375, which is 0.015625 above 1.96875
holds : judged (pos 1968750000) (pos 15625000) ≡ Yes
unfolding shape-the_row-Tree-0 hidden-the_row-Tree-0 denote.Hole.Carrier.hidden
holds = refl

-- a unit less is too little
too_low : judged (pos 1968750000) (pos 15624999) ≡ No (0 ∷ []) Above 0
unfolding shape-the_row-Tree-0 hidden-the_row-Tree-0 denote.Hole.Carrier.hidden
too_low = refl

-- the bounds at yes are 2.25, which is 0.25 below 2.5
too_high : judged (pos 2500000000) (pos 200000000) ≡ No (0 ∷ []) Below 0
unfolding shape-the_row-Tree-0 hidden-the_row-Tree-0 denote.Hole.Carrier.hidden
too_high = refl

-- the policy beside the lower bound of its action, once that action is among those that were looked at
beside : (own_among kept (value_by (at_yes (pos 2500000000))) (policy_by staying) 0 (0 ∷ []) (0 ∷ []) ≡ Pair (pos 0) (pos 0))
    × (own_among kept (value_by (at_yes (pos 2500000000))) (policy_by staying) 1 (0 ∷ []) (0 ∷ []) ≡ Pair (pos 0) (pos 2250000000))
unfolding shape-the_row-Tree-0 hidden-the_row-Tree-0 denote.Hole.Carrier.hidden
beside = (refl, refl)

-- the nodes of a check at 1.96875
counted : check_count kept (value_by (at_yes (pos 1968750000))) (policy_by staying) ≡ 23
unfolding shape-the_row-Tree-0 hidden-the_row-Tree-0 denote.Hole.Carrier.hidden
counted = refl
