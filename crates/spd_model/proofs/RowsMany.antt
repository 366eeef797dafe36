-- The definitions, computed on small models of several variables by hand.
use Rattle.std.proofs.Common.{◌≡◌, ℕ, true, false, List, [], ◌∷◌, ◌++◌, ℤ, pos, negsuc, codes, decimal, flat_map, refl, zero, suc, ◌+◌, ◌<◌, ◌≢◌, length, slice_get, slice_index, Contains, None, Some, arith}
use Rattle.hex.specs.Hex.{encode_with}
use Rattle.spd_scaled.specs.Scaled.{floor_div, ceil_div}
use Rattle.spd_model.specs.declared.tree.Tree.{Tree, Leaf, Named, Branch}
use Rattle.spd_model.specs.declared.tree.Tree.TheBlock.{shape-the_row-Tree-0, hidden-the_row-Tree-0}
use denote.Hole.Carrier
use Rattle.spd_model.specs.declared.process.Action.{Action}
use Rattle.spd_model.specs.Process.{Process}
use Rattle.spd_model.specs.Chances.{first_wrong_sum}
use Rattle.spd_model.specs.Backup.{expectation}
use Rattle.std.specs.Prelude.{AllPairs}
use Rattle.std.proofs.lemmas.List.Elements.{All-nil, All-cons}
use Rattle.spd_model.specs.declared.states.StateFault.TheVariants.{Unknown, Twice}
use Rattle.spd_model.specs.StatePairs.{IsKnown, AreFine, Describe, HasFault}
use Rattle.spd_model.specs.States.{sizes, states, rank, at}
use Rattle.spd_model.specs.Turns.{turn, start_of}
use Rattle.spd_model.specs.ResultText.{line, units, result_text}

-- the SHA-256 of some file
abbrev digest : List ℕ
digest =
    161 ∷ 225 ∷ 7 ∷ 39 ∷ 35 ∷ 121 ∷ 171 ∷ 140 ∷ 107 ∷ 235 ∷ 244 ∷ 189 ∷ 120 ∷ 192 ∷ 200 ∷ 123 ∷ 140 ∷ 187 ∷ 159 ∷ 54 ∷ 15 ∷ 53 ∷ 97 ∷ 52 ∷ 14 ∷ 7 ∷ 111 ∷ 129 ∷ 12 ∷ 154 ∷ 217 ∷ 163 ∷ []

abbrev third : Tree
third = Branch 2 true ((Leaf (pos 333333333333)) ∷ (Leaf (pos 333333333333)) ∷ (Leaf (pos 333333333334)) ∷ [])

abbrev keepz : Tree
keepz = Branch 1 true ((Leaf (pos 1000000000000)) ∷ [])

abbrev go : Action
go = record { name = codes "go"; tables = (Branch 2 false ((Branch 0 true ((Leaf (pos 700000000000)) ∷ (Leaf (pos 300000000000)) ∷ [])) ∷ (Branch 0 true ((Leaf (pos 100000000000)) ∷ (Leaf (pos 900000000000)) ∷ [])) ∷ (Branch 0 false ((Branch 0 true ((Leaf (pos 250000000000)) ∷ (Leaf (pos 750000000000)) ∷ [])) ∷ (Branch 0 true ((Leaf (pos 1000000000000)) ∷ (Leaf (pos 0)) ∷ [])) ∷ [])) ∷ [])) ∷ Named 1 ∷ (Branch 0 false ((Named 0) ∷ (Branch 2 true ((Leaf (pos 500000000000)) ∷ (Leaf (pos 250000000000)) ∷ (Leaf (pos 250000000000)) ∷ [])) ∷ [])) ∷ []; cost = (Branch 0 false ((Leaf (pos 100000000000)) ∷ (Leaf (pos 0)) ∷ [])) ∷ [] }

abbrev wait : Action
wait = record { name = codes "wait"; tables = (Branch 0 false ((Branch 0 true ((Leaf (pos 1000000000000)) ∷ (Leaf (pos 0)) ∷ [])) ∷ (Branch 0 true ((Leaf (pos 0)) ∷ (Leaf (pos 1000000000000)) ∷ [])) ∷ [])) ∷ (Leaf (pos 1000000000000)) ∷ Named 0 ∷ []; cost = [] }

abbrev many : Process
many = record {
  vars = record { name = codes "x"; values = codes "a" ∷ codes "b" ∷ [] } ∷ record { name = codes "z"; values = codes "only" ∷ [] } ∷ record { name = codes "y"; values = codes "p" ∷ codes "q" ∷ codes "r" ∷ [] } ∷ [];
  dds = third ∷ keepz ∷ [];
  actions = go ∷ wait ∷ [];
  reward = (Branch 0 false ((Leaf (pos 1000000000000)) ∷ (Leaf (pos 0)) ∷ [])) ∷ (Branch 2 false ((Leaf (pos 0)) ∷ (Leaf (pos 333333333000)) ∷ (Leaf (negsuc 777777776999)) ∷ [])) ∷ [];
  discount = 900000;
  tolerance = pos 10000000;
  horizon = None;
}

start-many : start_of many ≡ pos 1000000000 ∷ pos 1333333333 ∷ pos 222222223 ∷ pos 0 ∷ pos 333333333 ∷ negsuc 777777776 ∷ []
unfolding shape-the_row-Tree-0 hidden-the_row-Tree-0 denote.Hole.Carrier.hidden
start-many = refl

text-t0 : result_text digest many 0 (pos 0) ≡
    line (codes "spd result 2" ∷ [])
    ++ line (codes "model" ∷ codes "a1e107272379ab8c6bebf4bd78c0c87b8cbb9f360f3561340e076f810c9ad9a3" ∷ [])
    ++ line (codes "status" ∷ codes "limit" ∷ [])
    ++ line (codes "turn" ∷ decimal 0 ∷ [])
    ++ line (codes "residual" ∷ units (pos 800000001) ∷ [])
    ++ line (codes "at" ∷ codes "x=b" ∷ codes "z=only" ∷ codes "y=r" ∷ codes "above" ∷ codes "go" ∷ [])
    ++ line (codes "error" ∷ units (pos 8000000010) ∷ [])
    ++ (line (codes "value" ∷ decimal 9 ∷ []) ++ flat_map line ((decimal 0 ∷ codes "leaf" ∷ units (pos 1000000000) ∷ []) ∷ (decimal 1 ∷ codes "leaf" ∷ units (pos 1333333333) ∷ []) ∷ (decimal 2 ∷ codes "leaf" ∷ units (pos 222222223) ∷ []) ∷ (decimal 3 ∷ codes "branch" ∷ codes "y" ∷ decimal 0 ∷ decimal 1 ∷ decimal 2 ∷ []) ∷ (decimal 4 ∷ codes "leaf" ∷ units (pos 0) ∷ []) ∷ (decimal 5 ∷ codes "leaf" ∷ units (pos 333333333) ∷ []) ∷ (decimal 6 ∷ codes "leaf" ∷ units (negsuc 777777776) ∷ []) ∷ (decimal 7 ∷ codes "branch" ∷ codes "y" ∷ decimal 4 ∷ decimal 5 ∷ decimal 6 ∷ []) ∷ (decimal 8 ∷ codes "branch" ∷ codes "x" ∷ decimal 3 ∷ decimal 7 ∷ []) ∷ []))
    ++ (line (codes "policy" ∷ decimal 3 ∷ []) ++ flat_map line ((decimal 0 ∷ codes "leaf" ∷ codes "wait" ∷ []) ∷ (decimal 1 ∷ codes "leaf" ∷ codes "go" ∷ []) ∷ (decimal 2 ∷ codes "branch" ∷ codes "x" ∷ decimal 0 ∷ decimal 1 ∷ []) ∷ []))
    ++ line (codes "end" ∷ [])
unfolding shape-the_row-Tree-0 hidden-the_row-Tree-0 denote.Hole.Carrier.hidden encode_with
text-t0 = refl

text-t2 : result_text digest many 2 (pos 100000000) ≡
    line (codes "spd result 2" ∷ [])
    ++ line (codes "model" ∷ codes "a1e107272379ab8c6bebf4bd78c0c87b8cbb9f360f3561340e076f810c9ad9a3" ∷ [])
    ++ line (codes "status" ∷ codes "limit" ∷ [])
    ++ line (codes "turn" ∷ decimal 2 ∷ [])
    ++ line (codes "residual" ∷ units (pos 621000001) ∷ [])
    ++ line (codes "at" ∷ codes "x=a" ∷ codes "z=only" ∷ codes "y=p" ∷ codes "above" ∷ codes "wait" ∷ [])
    ++ line (codes "error" ∷ units (pos 6210000010) ∷ [])
    ++ (line (codes "value" ∷ decimal 8 ∷ []) ++ flat_map line ((decimal 0 ∷ codes "leaf" ∷ units (pos 2456666666) ∷ []) ∷ (decimal 1 ∷ codes "leaf" ∷ units (pos 2789999999) ∷ []) ∷ (decimal 2 ∷ codes "leaf" ∷ units (pos 1678888889) ∷ []) ∷ (decimal 3 ∷ codes "branch" ∷ codes "y" ∷ decimal 0 ∷ decimal 1 ∷ decimal 2 ∷ []) ∷ (decimal 4 ∷ codes "leaf" ∷ units (pos 1137875000) ∷ []) ∷ (decimal 5 ∷ codes "leaf" ∷ units (pos 739590278) ∷ []) ∷ (decimal 6 ∷ codes "branch" ∷ codes "y" ∷ decimal 4 ∷ decimal 5 ∷ decimal 5 ∷ []) ∷ (decimal 7 ∷ codes "branch" ∷ codes "x" ∷ decimal 3 ∷ decimal 6 ∷ []) ∷ []))
    ++ (line (codes "policy" ∷ decimal 3 ∷ []) ++ flat_map line ((decimal 0 ∷ codes "leaf" ∷ codes "wait" ∷ []) ∷ (decimal 1 ∷ codes "leaf" ∷ codes "go" ∷ []) ∷ (decimal 2 ∷ codes "branch" ∷ codes "x" ∷ decimal 0 ∷ decimal 1 ∷ []) ∷ []))
    ++ line (codes "end" ∷ [])
unfolding shape-the_row-Tree-0 hidden-the_row-Tree-0 denote.Hole.Carrier.hidden encode_with
text-t2 = refl

text-t1 : result_text digest many 1 (pos 500000000) ≡
    line (codes "spd result 2" ∷ [])
    ++ line (codes "model" ∷ codes "a1e107272379ab8c6bebf4bd78c0c87b8cbb9f360f3561340e076f810c9ad9a3" ∷ [])
    ++ line (codes "status" ∷ codes "limit" ∷ [])
    ++ line (codes "turn" ∷ decimal 1 ∷ [])
    ++ line (codes "residual" ∷ units (pos 850611112) ∷ [])
    ++ line (codes "at" ∷ codes "x=a" ∷ codes "z=only" ∷ codes "y=r" ∷ codes "above" ∷ codes "wait" ∷ [])
    ++ line (codes "error" ∷ units (pos 8506111120) ∷ [])
    ++ (line (codes "value" ∷ decimal 6 ∷ []) ++ flat_map line ((decimal 0 ∷ codes "leaf" ∷ units (pos 1933333332) ∷ []) ∷ (decimal 1 ∷ codes "leaf" ∷ units (pos 759444445) ∷ []) ∷ (decimal 2 ∷ codes "branch" ∷ codes "y" ∷ decimal 0 ∷ decimal 0 ∷ decimal 1 ∷ []) ∷ (decimal 3 ∷ codes "leaf" ∷ units (pos 172777778) ∷ []) ∷ (decimal 4 ∷ codes "branch" ∷ codes "y" ∷ decimal 1 ∷ decimal 3 ∷ decimal 3 ∷ []) ∷ (decimal 5 ∷ codes "branch" ∷ codes "x" ∷ decimal 2 ∷ decimal 4 ∷ []) ∷ []))
    ++ (line (codes "policy" ∷ decimal 3 ∷ []) ++ flat_map line ((decimal 0 ∷ codes "leaf" ∷ codes "wait" ∷ []) ∷ (decimal 1 ∷ codes "leaf" ∷ codes "go" ∷ []) ∷ (decimal 2 ∷ codes "branch" ∷ codes "x" ∷ decimal 0 ∷ decimal 1 ∷ []) ∷ []))
    ++ line (codes "end" ∷ [])
unfolding shape-the_row-Tree-0 hidden-the_row-Tree-0 denote.Hole.Carrier.hidden encode_with
text-t1 = refl

-- two variables of which the first is summed out first: the other order gives 1 and 3
abbrev spread : Action
spread = record {
  name = codes "spread";
  tables = Branch 0 true (Leaf (pos 333333333333) ∷ Leaf (pos 666666666667) ∷ []) ∷ Branch 1 true (Leaf (pos 333333333333) ∷ Leaf (pos 333333333333) ∷ Leaf (pos 333333333334) ∷ []) ∷ [];
  cost = [];
}

abbrev spreading : Process
spreading = record {
  vars = record { name = codes "x"; values = codes "a" ∷ codes "b" ∷ [] } ∷ record { name = codes "y"; values = codes "p" ∷ codes "q" ∷ codes "r" ∷ [] } ∷ [];
  dds = [];
  actions = spread ∷ [];
  reward = Leaf (pos 0) ∷ [];
  discount = 0;
  tolerance = pos 0;
  horizon = None;
}

abbrev spread_value : List ℕ → ℤ
spread_value = at (sizes spreading) (pos 2 ∷ pos 1 ∷ pos 2 ∷ pos 0 ∷ pos 4 ∷ pos 4 ∷ [])

expectation-spreading : (expectation floor_div spreading spread_value spread (0 ∷ 0 ∷ []) ≡ pos 2) × (expectation ceil_div spreading spread_value spread (0 ∷ 0 ∷ []) ≡ pos 4)
unfolding shape-the_row-Tree-0 hidden-the_row-Tree-0 denote.Hole.Carrier.hidden
expectation-spreading = (refl, refl)

-- an arc between next values: x is next what y is next, and y stays; a reward of 1 where x is yes
abbrev one_leaf : Tree
one_leaf = Leaf (pos 1000000000000)

abbrev zero_leaf : Tree
zero_leaf = Leaf (pos 0)

-- the table of x, where `no_no` is the probability of no where y is no next
abbrev as_next_y : Tree → Tree
as_next_y no_no =
    Branch 1 true (Branch 0 true (one_leaf ∷ zero_leaf ∷ []) ∷ Branch 0 true (zero_leaf ∷ no_no ∷ []) ∷ [])

abbrev keep_y : Tree
keep_y =
    Branch 1 false (Branch 1 true (one_leaf ∷ zero_leaf ∷ []) ∷ Branch 1 true (zero_leaf ∷ one_leaf ∷ []) ∷ [])

abbrev linking_with : Tree → Process
linking_with no_no = record {
  vars = record { name = codes "x"; values = codes "yes" ∷ codes "no" ∷ [] } ∷ record { name = codes "y"; values = codes "yes" ∷ codes "no" ∷ [] } ∷ [];
  dds = [];
  actions = record { name = codes "go"; tables = as_next_y no_no ∷ keep_y ∷ []; cost = [] } ∷ [];
  reward = Branch 0 false (one_leaf ∷ zero_leaf ∷ []) ∷ [];
  discount = 500000;
  tolerance = pos 100000000;
  horizon = None;
}

abbrev linking : Process
linking = linking_with one_leaf

turn_1-linking : turn linking (pos 0) 1 ≡ pos 1500000000 ∷ pos 1000000000 ∷ pos 500000000 ∷ pos 0 ∷ []
unfolding shape-the_row-Tree-0 hidden-the_row-Tree-0 denote.Hole.Carrier.hidden
turn_1-linking = refl

text-linking : result_text digest linking 10 (pos 0) ≡
    line (codes "spd result 2" ∷ [])
    ++ line (codes "model" ∷ codes "a1e107272379ab8c6bebf4bd78c0c87b8cbb9f360f3561340e076f810c9ad9a3" ∷ [])
    ++ line (codes "status" ∷ codes "done" ∷ [])
    ++ line (codes "turn" ∷ decimal 5 ∷ [])
    ++ line (codes "residual" ∷ units (pos 15625000) ∷ [])
    ++ line (codes "at" ∷ codes "x=yes" ∷ codes "y=yes" ∷ codes "above" ∷ codes "go" ∷ [])
    ++ line (codes "error" ∷ units (pos 31250000) ∷ [])
    ++ (line (codes "value" ∷ decimal 7 ∷ []) ++ flat_map line ((decimal 0 ∷ codes "leaf" ∷ units (pos 1968750000) ∷ []) ∷ (decimal 1 ∷ codes "leaf" ∷ units (pos 1000000000) ∷ []) ∷ (decimal 2 ∷ codes "branch" ∷ codes "y" ∷ decimal 0 ∷ decimal 1 ∷ []) ∷ (decimal 3 ∷ codes "leaf" ∷ units (pos 968750000) ∷ []) ∷ (decimal 4 ∷ codes "leaf" ∷ units (pos 0) ∷ []) ∷ (decimal 5 ∷ codes "branch" ∷ codes "y" ∷ decimal 3 ∷ decimal 4 ∷ []) ∷ (decimal 6 ∷ codes "branch" ∷ codes "x" ∷ decimal 2 ∷ decimal 5 ∷ []) ∷ []))
    ++ (line (codes "policy" ∷ decimal 1 ∷ []) ++ flat_map line ((decimal 0 ∷ codes "leaf" ∷ codes "go" ∷ []) ∷ []))
    ++ line (codes "end" ∷ [])
unfolding shape-the_row-Tree-0 hidden-the_row-Tree-0 denote.Hole.Carrier.hidden encode_with
text-linking = refl

no_sum-linking : first_wrong_sum linking ≡ None
unfolding shape-the_row-Tree-0 hidden-the_row-Tree-0 denote.Hole.Carrier.hidden
no_sum-linking = refl

-- where y is no next the probabilities of x sum to a half: this is told of the first state, since it holds whatever y is now
sum-linking : first_wrong_sum (linking_with (Leaf (pos 500000000000))) ≡ Some (record { action = 0; var = 0; state = 0 ∷ 0 ∷ []; sum = pos 500000000000 })
unfolding shape-the_row-Tree-0 hidden-the_row-Tree-0 denote.Hole.Carrier.hidden
sum-linking = refl

-- the state after x=a, z=only, y=r is x=b, z=only, y=p, and after the last one there is none
next-many : (slice_get (states (sizes many)) (rank (sizes many) (0 ∷ 0 ∷ 2 ∷ []) + 1) ≡ Some (1 ∷ 0 ∷ 0 ∷ []))
    × (slice_get (states (sizes many)) (rank (sizes many) (1 ∷ 0 ∷ 2 ∷ []) + 1) ≡ None)
next-many = (refl, refl)

-- pairs describe a state in any order: y=q, x=b, z=only
known : (var value : ℕ) → var < length many.vars → value < slice_index (sizes many) var → IsKnown many (var, value)
known var value near below = record { var = near; value = below }

fine_none : AreFine many []
fine_none = record { known = All-nil (IsKnown many); once = λ i j d before near. absurd (omega arith) }

fine_one : (pair : ℕ × ℕ) → IsKnown many pair → AreFine many (pair ∷ [])
fine_one pair is = record {
  known = All-cons (IsKnown many) pair [] is (All-nil (IsKnown many));
  once = λ i j d before near. absurd (omega arith);
}

abbrev HasValue : List ℕ → ℕ × ℕ → Type 0
HasValue s pair = slice_index s pair.0 ≡ pair.1

pairs-many : Describe many ((2, 1) ∷ (0, 1) ∷ (1, 0) ∷ []) (1 ∷ 0 ∷ 1 ∷ [])
pairs-many = record {
  fine = record {
    known = All-cons (IsKnown many) (2, 1) ((0, 1) ∷ (1, 0) ∷ []) (known 2 1 (omega arith) (omega arith))
        (All-cons (IsKnown many) (0, 1) ((1, 0) ∷ []) (known 0 1 (omega arith) (omega arith))
        (All-cons (IsKnown many) (1, 0) [] (known 1 0 (omega arith) (omega arith)) (All-nil (IsKnown many))));
    once = differ;
  };
  state = (omega arith, (omega arith, (omega arith, tt)));
  values = All-cons (HasValue (1 ∷ 0 ∷ 1 ∷ [])) (2, 1) ((0, 1) ∷ (1, 0) ∷ []) refl (All-cons (HasValue (1 ∷ 0 ∷ 1 ∷ [])) (0, 1) ((1, 0) ∷ []) refl
      (All-cons (HasValue (1 ∷ 0 ∷ 1 ∷ [])) (1, 0) [] refl (All-nil (HasValue (1 ∷ 0 ∷ 1 ∷ [])))));
  all = each;
}
  where
    differ : AllPairs (λ (p q : ℕ × ℕ). p.0 ≢ q.0) ((2, 1) ∷ (0, 1) ∷ (1, 0) ∷ [])
    differ zero zero d before near same = absurd (omega arith)
    differ zero (suc zero) d before near same = absurd (omega arith)
    differ zero (suc (suc zero)) d before near same = absurd (omega arith)
    differ zero (suc (suc (suc j))) d before near same = absurd (omega arith)
    differ (suc zero) zero d before near same = absurd (omega arith)
    differ (suc zero) (suc zero) d before near same = absurd (omega arith)
    differ (suc zero) (suc (suc zero)) d before near same = absurd (omega arith)
    differ (suc zero) (suc (suc (suc j))) d before near same = absurd (omega arith)
    differ (suc (suc i)) j d before near same = absurd (omega arith)

    each : (var : ℕ) → var < 3 → Contains (2 ∷ 0 ∷ 1 ∷ []) var
    each zero near = (1, omega arith, refl)
    each (suc zero) near = (2, omega arith, refl)
    each (suc (suc zero)) near = (0, omega arith, refl)
    each (suc (suc (suc var))) near = absurd (omega arith)

-- z has one value; x stands twice
unknown-many : HasFault many ((1, 1) ∷ []) (Unknown 0)
unknown-many = (fine_none, (1, 1), refl, λ is. absurd (omega (arith, is.value)))

twice-many : HasFault many ((0, 1) ∷ (0, 0) ∷ []) (Twice 1)
twice-many = (fine_one (0, 1) (known 0 1 (omega arith) (omega arith)), (0, 0), refl, known 0 0 (omega arith) (omega arith), (0, omega arith, refl))
