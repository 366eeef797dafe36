-- The definitions, computed on small models by hand.
use Rattle.std.proofs.Common.{◌≡◌, ℕ, true, false, List, [], ◌∷◌, ◌++◌, ℤ, pos, negsuc, codes, decimal, flat_map, refl, if◌then◌else◌, ◌==◌, slice_index, None}
use Rattle.std.specs.Ordering.{int_eq}
use Rattle.spd_model.specs.Reduced.{Node, reduced, listed}
use Rattle.hex.specs.Hex.{encode_with}
use Rattle.spd_scaled.specs.Scaled.{floor_div, ceil_div}
use Rattle.spd_model.specs.declared.tree.Tree.{Tree, Leaf, Branch}
use Rattle.spd_model.specs.declared.tree.Tree.TheBlock.{shape-the_row-Tree-0, hidden-the_row-Tree-0}
use denote.Hole.Carrier
use Rattle.spd_model.specs.declared.process.Var.{Var}
use Rattle.spd_model.specs.declared.process.Action.{Action}
use Rattle.spd_model.specs.declared.Side.TheVariants.{Above}
use Rattle.spd_model.specs.Process.{Process}
use Rattle.spd_model.specs.States.{sizes, states, at}
use Rattle.spd_model.specs.Backup.{expectation, low_of, high_of}
use Rattle.spd_model.specs.Ranges.{Range, merged}
use Rattle.spd_model.specs.Turns.{turn, residual_of, place_of}
use Rattle.spd_model.specs.ResultText.{line, units, result_text}

abbrev one : ℤ
one = pos 1000000000000

abbrev zero_leaf : Tree
zero_leaf = Leaf (pos 0)

abbrev one_leaf : Tree
one_leaf = Leaf one

-- a variable x with the values yes and no, which its only action keeps; a reward of 1 at yes; discount 0.5, tolerance 0.1
abbrev keep_x : Tree
keep_x = Branch 0 false (Branch 0 true (one_leaf ∷ zero_leaf ∷ []) ∷ Branch 0 true (zero_leaf ∷ one_leaf ∷ []) ∷ [])

abbrev stay : Action
stay = record { name = codes "stay"; tables = keep_x ∷ []; cost = [] }

abbrev x : Var
x = record { name = codes "x"; values = codes "yes" ∷ codes "no" ∷ [] }

abbrev keeping : Process
keeping = record {
  vars = x ∷ [];
  dds = [];
  actions = stay ∷ [];
  reward = Branch 0 false (one_leaf ∷ zero_leaf ∷ []) ∷ [];
  discount = 500000;
  tolerance = pos 100000000;
  horizon = None;
}

-- the SHA-256 of a file that describes this process
abbrev pub digest : List ℕ
digest =
    161 ∷ 225 ∷ 7 ∷ 39 ∷ 35 ∷ 121 ∷ 171 ∷ 140 ∷ 107 ∷ 235 ∷ 244 ∷ 189 ∷ 120 ∷ 192 ∷ 200 ∷ 123 ∷ 140 ∷ 187 ∷ 159 ∷ 54 ∷ 15 ∷ 53 ∷ 97 ∷ 52 ∷ 14 ∷ 7 ∷ 111 ∷ 129 ∷ 12 ∷ 154 ∷ 217 ∷ 163 ∷ []

states-keeping : states (sizes keeping) ≡ (0 ∷ []) ∷ (1 ∷ []) ∷ []
states-keeping = refl

turn_0-keeping : turn keeping (pos 0) 0 ≡ pos 1000000000 ∷ pos 0 ∷ []
unfolding shape-the_row-Tree-0 hidden-the_row-Tree-0 denote.Hole.Carrier.hidden
turn_0-keeping = refl

turn_1-keeping : turn keeping (pos 0) 1 ≡ pos 1500000000 ∷ pos 0 ∷ []
unfolding shape-the_row-Tree-0 hidden-the_row-Tree-0 denote.Hole.Carrier.hidden
turn_1-keeping = refl

-- the whole result text
text-keeping : result_text digest keeping 10000 (pos 0)
    ≡ line (codes "spd result 2" ∷ [])
    ++ line (codes "model" ∷ codes "a1e107272379ab8c6bebf4bd78c0c87b8cbb9f360f3561340e076f810c9ad9a3" ∷ [])
    ++ line (codes "status" ∷ codes "done" ∷ [])
    ++ line (codes "turn" ∷ decimal 5 ∷ [])
    ++ line (codes "residual" ∷ units (pos 15625000) ∷ [])
    ++ line (codes "at" ∷ codes "x=yes" ∷ codes "above" ∷ codes "stay" ∷ [])
    ++ line (codes "error" ∷ units (pos 31250000) ∷ [])
    ++ (line (codes "value" ∷ decimal 3 ∷ [])
    ++ flat_map line
    ((decimal 0 ∷ codes "leaf" ∷ units (pos 1968750000) ∷ [])
    ∷ (decimal 1 ∷ codes "leaf" ∷ units (pos 0) ∷ [])
    ∷ (decimal 2 ∷ codes "branch" ∷ codes "x" ∷ decimal 0 ∷ decimal 1 ∷ []) ∷ []))
    ++ (line (codes "policy" ∷ decimal 1 ∷ []) ++ flat_map line ((decimal 0 ∷ codes "leaf" ∷ codes "stay" ∷ []) ∷ []))
    ++ line (codes "end" ∷ [])
unfolding shape-the_row-Tree-0 hidden-the_row-Tree-0 denote.Hole.Carrier.hidden encode_with
text-keeping = refl

-- with a second action that does the same, the policy and the residual's place name the first of the two
abbrev holding : Process
holding = record keeping { actions = stay ∷ record stay { name = codes "hold" } ∷ [] }

text-holding : result_text digest holding 10000 (pos 0) ≡ result_text digest keeping 10000 (pos 0)
unfolding shape-the_row-Tree-0 hidden-the_row-Tree-0 denote.Hole.Carrier.hidden encode_with
text-holding = refl

-- a die whose next value is one, two or three, with nearly equal probabilities whatever it was; a reward of 1 at one
abbrev third : ℤ
third = pos 333333333333

abbrev mix : Action
mix = record { name = codes "mix"; tables = Branch 0 true (Leaf third ∷ Leaf third ∷ Leaf (pos 333333333334) ∷ []) ∷ []; cost = [] }

abbrev die : Var
die = record { name = codes "die"; values = codes "one" ∷ codes "two" ∷ codes "three" ∷ [] }

abbrev mixing : Process
mixing = record {
  vars = die ∷ [];
  dds = [];
  actions = mix ∷ [];
  reward = Branch 0 false (one_leaf ∷ zero_leaf ∷ zero_leaf ∷ []) ∷ [];
  discount = 500000;
  tolerance = pos 100000000;
  horizon = None;
}

abbrev start_mixing : List ℕ → ℤ
start_mixing = at (sizes mixing) (pos 1000000000 ∷ pos 0 ∷ pos 0 ∷ [])

expectation-mixing : (expectation floor_div mixing start_mixing mix (0 ∷ []) ≡ pos 333333333) × (expectation ceil_div mixing start_mixing mix (0 ∷ []) ≡ pos 333333334)
unfolding shape-the_row-Tree-0 hidden-the_row-Tree-0 denote.Hole.Carrier.hidden
expectation-mixing = (refl, refl)

-- at value two the reward is 0, so the bounds are the discounted expectations
bounds-mixing : (low_of mixing start_mixing mix (1 ∷ []) ≡ pos 166666666) × (high_of mixing start_mixing mix (1 ∷ []) ≡ pos 166666667)
unfolding shape-the_row-Tree-0 hidden-the_row-Tree-0 denote.Hole.Carrier.hidden
bounds-mixing = (refl, refl)

residual-mixing : residual_of mixing start_mixing ≡ pos 166666667
unfolding shape-the_row-Tree-0 hidden-the_row-Tree-0 denote.Hole.Carrier.hidden
residual-mixing = refl

text-mixing : result_text digest mixing 10000 (pos 0)
    ≡ line (codes "spd result 2" ∷ [])
    ++ line (codes "model" ∷ codes "a1e107272379ab8c6bebf4bd78c0c87b8cbb9f360f3561340e076f810c9ad9a3" ∷ [])
    ++ line (codes "status" ∷ codes "done" ∷ [])
    ++ line (codes "turn" ∷ decimal 3 ∷ [])
    ++ line (codes "residual" ∷ units (pos 20833334) ∷ [])
    ++ line (codes "at" ∷ codes "die=one" ∷ codes "above" ∷ codes "mix" ∷ [])
    ++ line (codes "error" ∷ units (pos 41666668) ∷ [])
    ++ (line (codes "value" ∷ decimal 3 ∷ [])
    ++ flat_map line
    ((decimal 0 ∷ codes "leaf" ∷ units (pos 1291666666) ∷ [])
    ∷ (decimal 1 ∷ codes "leaf" ∷ units (pos 291666666) ∷ [])
    ∷ (decimal 2 ∷ codes "branch" ∷ codes "die" ∷ decimal 0 ∷ decimal 1 ∷ decimal 1 ∷ []) ∷ []))
    ++ (line (codes "policy" ∷ decimal 1 ∷ []) ++ flat_map line ((decimal 0 ∷ codes "leaf" ∷ codes "mix" ∷ []) ∷ []))
    ++ line (codes "end" ∷ [])
unfolding shape-the_row-Tree-0 hidden-the_row-Tree-0 denote.Hole.Carrier.hidden encode_with
text-mixing = refl

-- ranges of one number each: with span 0 they stay apart, with span 1 the first two become one; -0.5 is rounded down to -1
abbrev exactly : ℤ → Range
exactly y = record { low = y; high = y }

merged-apart : merged (pos 0) (exactly (pos 0) ∷ exactly (pos 10) ∷ exactly (pos 20) ∷ []) ≡ pos 0 ∷ pos 10 ∷ pos 20 ∷ []
merged-apart = refl

merged-together : merged (pos 10) (exactly (pos 0) ∷ exactly (pos 10) ∷ exactly (pos 20) ∷ []) ≡ pos 5 ∷ pos 5 ∷ pos 20 ∷ []
merged-together = refl

merged-negative : merged (pos 1) (exactly (pos 0) ∷ exactly (negsuc 0) ∷ []) ≡ negsuc 0 ∷ negsuc 0 ∷ []
merged-negative = refl

-- a die that is kept, with rewards 0, 0.4 and 1, at a span of 1: the residual's place at turn 1
abbrev kept_at : ℕ → Tree
kept_at v = Branch 0 true ((if v == 0 then one_leaf else zero_leaf) ∷ (if v == 1 then one_leaf else zero_leaf) ∷ (if v == 2 then one_leaf else zero_leaf) ∷ [])

abbrev rolling : Process
rolling = record {
  vars = die ∷ [];
  dds = [];
  actions = record { name = codes "stay"; tables = Branch 0 false (kept_at 0 ∷ kept_at 1 ∷ kept_at 2 ∷ []) ∷ []; cost = [] } ∷ [];
  reward = Branch 0 false (zero_leaf ∷ Leaf (pos 400000000000) ∷ one_leaf ∷ []) ∷ [];
  discount = 500000;
  tolerance = pos 100000000;
  horizon = None;
}

turn_1-rolling : turn rolling (pos 1000000000) 1 ≡ pos 300000000 ∷ pos 300000000 ∷ pos 1500000000 ∷ []
unfolding shape-the_row-Tree-0 hidden-the_row-Tree-0 denote.Hole.Carrier.hidden
turn_1-rolling = refl

place-rolling : place_of rolling (at (sizes rolling) (turn rolling (pos 1000000000) 1)) (pos 250000000) ≡ record { state = 1 ∷ []; side = Above; action = 0 }
unfolding shape-the_row-Tree-0 hidden-the_row-Tree-0 denote.Hole.Carrier.hidden
place-rolling = refl

residual-rolling : residual_of rolling (at (sizes rolling) (turn rolling (pos 1000000000) 1)) ≡ pos 250000000
unfolding shape-the_row-Tree-0 hidden-the_row-Tree-0 denote.Hole.Carrier.hidden
residual-rolling = refl

-- a branch on two variables is left out where its subtrees are equal, and equal subtrees are one node
listed-two : listed int_eq (reduced int_eq (2 ∷ 2 ∷ []) (λ s. pos (slice_index s 1)))
    ≡ Node.leaf (pos 0) ∷ Node.leaf (pos 1) ∷ Node.branch 1 (0 ∷ 1 ∷ []) ∷ []
listed-two = refl
