-- The text of a result.
use Rattle.std.specs.Prelude.{ℕ, ◌++◌, ◌==◌, List, [], ◌∷◌, length, map, flat_map, codes, decimal, ℤ, slice_get, Some, None, zip}
use Rattle.std.specs.List.{join_with_byte, enumerate_from}
use Rattle.std.specs.Ordering.{int_eq}
use Rattle.hex.specs.Hex.{encode_lower}
use Rattle.spd_scaled.specs.Units.{units_text}
use Rattle.spd_model.specs.declared.Why.{Why}
use Rattle.spd_model.specs.declared.Why.TheVariants.{Done, Limit}
use Rattle.spd_model.specs.declared.Side.{Side}
use Rattle.spd_model.specs.declared.Side.TheVariants.{Above, Below}
use Rattle.spd_model.specs.declared.process.Var.{Var}
use Rattle.spd_model.specs.Process.{Process}
use Rattle.spd_model.specs.States.{sizes}
use Rattle.spd_model.specs.Backup.{policy_of}
use Rattle.spd_model.specs.Turns.{residual_of, Place, place_of, error_of, stop_of, stop_value}
use Rattle.spd_model.specs.Reduced.{Node, leaf, branch, listed, reduced}

-- What a result tells of a turn: its number, its residual with the place, the error, and the reduced diagrams of its value and
-- of its policy as lists of nodes.
pub record Iterate : Type 0 where
  pub turn : ℕ
  pub residual : ℤ
  pub place : Place
  pub error : ℤ
  pub value : List (Node ℤ)
  pub policy : List (Node ℕ)

-- what is told of the value w at turn k
abbrev pub iterate_of : Process → ℕ → (List ℕ → ℤ) → Iterate
iterate_of m k w =
    let r = residual_of m w in
    record {
      turn = k;
      residual = r;
      place = place_of m w r;
      error = error_of m r;
      value = listed int_eq (reduced int_eq (sizes m) w);
      policy = listed (λ a b. a == b) (reduced (λ a b. a == b) (sizes m) (policy_of m w));
    }

-- what is told of the turn at which the run of a process stops
abbrev pub result_of : Process → ℕ → ℤ → Iterate
result_of m turns span = iterate_of m (stop_of m turns span).turn (stop_value m turns span)

-- words parted by one space, and LF
abbrev pub line : List (List ℕ) → List ℕ
line words = join_with_byte 32 words ++ 10 ∷ []

-- a number of units of 10^-9, with nine digits after the point
abbrev pub units : ℤ → List ℕ
units = units_text 9

abbrev pub why_text : Why → List ℕ
why_text Done = codes "done"
why_text Limit = codes "limit"

abbrev pub side_text : Side → List ℕ
side_text Above = codes "above"
side_text Below = codes "below"

-- the name of an action, and of a variable, by its number
abbrev pub action_name : Process → ℕ → List ℕ
action_name m a = elim (slice_get m.actions a) [ None ↦ [] | Some action ↦ action.name ]

abbrev pub var_name : Process → ℕ → List ℕ
var_name m i = elim (slice_get m.vars i) [ None ↦ [] | Some var ↦ var.name ]

-- the name of the value v of a variable
abbrev pub value_name : Var → ℕ → List ℕ
value_name var v = elim (slice_get var.values v) [ None ↦ [] | Some name ↦ name ]

-- a state: `variable=value` for all variables in order
abbrev pub state_words : Process → List ℕ → List (List ℕ)
state_words m s = map (λ x. x.0.name ++ codes "=" ++ value_name x.0 x.1) (zip m.vars s)

-- the line of a node: its number; then `leaf` and the leaf's text, or `branch`, the variable and the numbers of the subtrees' nodes
abbrev pub node_line : {X : Type 0} → (X → List ℕ) → (ℕ → List ℕ) → ℕ → Node X → List ℕ
node_line text name i (leaf x) = line (decimal i ∷ codes "leaf" ∷ text x ∷ [])
node_line text name i (branch var kids) = line (decimal i ∷ codes "branch" ∷ name var ∷ map decimal kids)

-- the lines of a diagram: a word and the number of its nodes, and a line for each of them
abbrev pub nodes_text : {X : Type 0} → (X → List ℕ) → (ℕ → List ℕ) → List ℕ → List (Node X) → List ℕ
nodes_text text name word nodes =
    line (word ∷ decimal (length nodes) ∷ []) ++ flat_map (λ n. node_line text name n.0 n.1) (enumerate_from 0 nodes)

-- the line of a residual's place
abbrev pub place_line : Process → Place → List ℕ
place_line m p = line ((codes "at" ∷ state_words m p.state) ++ side_text p.side ∷ action_name m p.action ∷ [])

-- The text of a result. `digest` is that of the model's file, 32 bytes, which are written as 64 hexadecimal digits.
abbrev pub text_of : List ℕ → Process → Why → Iterate → List ℕ
text_of digest m why x =
    line (codes "spd result 2" ∷ [])
    ++ line (codes "model" ∷ encode_lower digest ∷ [])
    ++ line (codes "status" ∷ why_text why ∷ [])
    ++ line (codes "turn" ∷ decimal x.turn ∷ [])
    ++ line (codes "residual" ∷ units x.residual ∷ [])
    ++ place_line m x.place
    ++ line (codes "error" ∷ units x.error ∷ [])
    ++ nodes_text units (var_name m) (codes "value") x.value
    ++ nodes_text (action_name m) (var_name m) (codes "policy") x.policy
    ++ line (codes "end" ∷ [])

-- the result text of a process at a turn limit and a span: of the turn at which its run stops
abbrev pub result_text : List ℕ → Process → ℕ → ℤ → List ℕ
result_text digest m turns span = text_of digest m (stop_of m turns span).why (result_of m turns span)
