-- What small files mean, and their faults. Each file is given by its bytes and by what is written in them.
use Rattle.std.proofs.Common.{◌≡◌, ℕ, zero, suc, true, false, List, [], ◌∷◌, Option, Some, None, pos, negsuc, codes, refl}
use Rattle.spd_model.specs.declared.tree.Tree.{Leaf, Named, Branch as Fork}
use Rattle.spd_model.specs.declared.tree.Tree.TheBlock.{shape-the_row-Tree-0, hidden-the_row-Tree-0}
use denote.Hole.Carrier
use Rattle.spd_syntax.specs.declared.file.Word.{Word}
use Rattle.spd_syntax.specs.declared.file.Quantity.TheVariants.{Discount, Horizon}
use Rattle.spd_syntax.specs.declared.file.Shape.{Shape, Number, Use, Choice}
use Rattle.spd_syntax.specs.declared.file.Shape.TheBlock.{shape-the_row-Branch-0, hidden-the_row-Branch-0}
use Rattle.spd_syntax.specs.declared.file.Branch.{Branch}
use Rattle.spd_syntax.specs.declared.file.Variable.{Variable}
use Rattle.spd_syntax.specs.declared.file.Item.TheVariants.{Table, Cost}
use Rattle.spd_syntax.specs.declared.file.Section.{Section}
use Rattle.spd_syntax.specs.declared.file.Section.TheVariants.{Dd, Action, Reward as RewardOf, Setting}
use Rattle.spd_syntax.specs.declared.file.File.{File}
use Rattle.spd_syntax.specs.declared.refusal.Refusal.{Refusal}
use Rattle.spd_syntax.specs.declared.refusal.Refusal.TheVariants.{Twice, Unknown, MissingBranch, MissingVariable, Primed, Negative, TooFine, TooMany}
use Rattle.spd_syntax.specs.declared.refusal.What.TheVariants.{Nesting}
use Rattle.spd_reader.specs.Faults.{least}
use Rattle.spd_reader.specs.Models.{faults_of, model_of}

abbrev word : ℕ → ℕ → Word
word from to = record { from = from; to = to }

abbrev variable : Word → List Word → Variable
variable name values = record { name = name; values = values }

abbrev branch : Word → Shape → Branch
branch value tree = record { value = value; tree = tree }

abbrev written : List Variable → List Section → File
written variables sections = record { variables = variables; sections = sections }

-- files, what is written in them, and the fault that is told of each
abbrev TellFaults : List (List ℕ × File × Option Refusal) → Type 0
TellFaults [] = Unit {0}
TellFaults (row ∷ rows) = (least None (faults_of row.0 row.1) ≡ row.2) × TellFaults rows

-- names that are declared a second time, and sections that stand a second time
twice_rows : TellFaults (
    (codes "(variables (x a) (x a))", written (variable (word 12 13) ((word 14 15) ∷ []) ∷ variable (word 18 19) ((word 20 21) ∷ []) ∷ []) ([]), Some (Twice 18)) ∷
    (codes "(variables (x a a))", written (variable (word 12 13) ((word 14 15) ∷ (word 16 17) ∷ []) ∷ []) ([]), Some (Twice 16)) ∷
    (codes "(variables (x a b) (y a b)) dd d (0) enddd dd d (0) enddd", written (variable (word 12 13) ((word 14 15) ∷ (word 16 17) ∷ []) ∷ variable (word 20 21) ((word 22 23) ∷ (word 24 25) ∷ []) ∷ []) (Dd (word 31 32) (Number (word 34 35) (pos 0)) ∷ Dd (word 46 47) (Number (word 49 50) (pos 0)) ∷ []), Some (Twice 46)) ∷
    (codes "(variables (x a b) (y a b)) action s x (0) y (0) endaction action s x (0) y (0) endaction", written (variable (word 12 13) ((word 14 15) ∷ (word 16 17) ∷ []) ∷ variable (word 20 21) ((word 22 23) ∷ (word 24 25) ∷ []) ∷ []) (Action (word 35 36) (Table (word 37 38) (Number (word 40 41) (pos 0)) ∷ Table (word 43 44) (Number (word 46 47) (pos 0)) ∷ []) (word 49 58) ∷ Action (word 66 67) (Table (word 68 69) (Number (word 71 72) (pos 0)) ∷ Table (word 74 75) (Number (word 77 78) (pos 0)) ∷ []) (word 80 89) ∷ []), Some (Twice 66)) ∷
    (codes "(variables (x a b) (y a b)) reward (0) reward (0)", written (variable (word 12 13) ((word 14 15) ∷ (word 16 17) ∷ []) ∷ variable (word 20 21) ((word 22 23) ∷ (word 24 25) ∷ []) ∷ []) (RewardOf (word 28 34) ((Number (word 36 37) (pos 0)) ∷ []) ∷ RewardOf (word 39 45) ((Number (word 47 48) (pos 0)) ∷ []) ∷ []), Some (Twice 39)) ∷
    (codes "(variables (x a b) (y a b)) horizon 1 horizon 2", written (variable (word 12 13) ((word 14 15) ∷ (word 16 17) ∷ []) ∷ variable (word 20 21) ((word 22 23) ∷ (word 24 25) ∷ []) ∷ []) (Setting (word 28 35) Horizon (pos 1) ∷ Setting (word 38 45) Horizon (pos 2) ∷ []), Some (Twice 38)) ∷
    (codes "(variables (x a b) (y a b)) action s x (0) y (0) cost (0) cost (0) endaction", written (variable (word 12 13) ((word 14 15) ∷ (word 16 17) ∷ []) ∷ variable (word 20 21) ((word 22 23) ∷ (word 24 25) ∷ []) ∷ []) (Action (word 35 36) (Table (word 37 38) (Number (word 40 41) (pos 0)) ∷ Table (word 43 44) (Number (word 46 47) (pos 0)) ∷ Cost (word 49 53) ((Number (word 55 56) (pos 0)) ∷ []) ∷ Cost (word 58 62) ((Number (word 64 65) (pos 0)) ∷ []) ∷ []) (word 67 76) ∷ []), Some (Twice 58)) ∷
    (codes "(variables (x a b) (y a b)) action s x (0) x (0) y (0) endaction", written (variable (word 12 13) ((word 14 15) ∷ (word 16 17) ∷ []) ∷ variable (word 20 21) ((word 22 23) ∷ (word 24 25) ∷ []) ∷ []) (Action (word 35 36) (Table (word 37 38) (Number (word 40 41) (pos 0)) ∷ Table (word 43 44) (Number (word 46 47) (pos 0)) ∷ Table (word 49 50) (Number (word 52 53) (pos 0)) ∷ []) (word 55 64) ∷ []), Some (Twice 43)) ∷
    (codes "(variables (x a b) (y a b)) reward (x (a (0)) (b (0)) (a (0)))", written (variable (word 12 13) ((word 14 15) ∷ (word 16 17) ∷ []) ∷ variable (word 20 21) ((word 22 23) ∷ (word 24 25) ∷ []) ∷ []) (RewardOf (word 28 34) ((Choice (word 36 37) false (branch (word 39 40) (Number (word 42 43) (pos 0)) ∷ branch (word 47 48) (Number (word 50 51) (pos 0)) ∷ branch (word 55 56) (Number (word 58 59) (pos 0)) ∷ [])) ∷ []) ∷ []), Some (Twice 55)) ∷
    [])
unfolding shape-the_row-Branch-0 hidden-the_row-Branch-0 denote.Hole.Carrier.hidden shape-the_row-Tree-0 hidden-the_row-Tree-0 least
twice_rows = (refl, (refl, (refl, (refl, (refl, (refl, (refl, (refl, (refl, tt)))))))))

-- names that aren't declared, or not before
unknown_rows : TellFaults (
    (codes "(variables (x a b) (y a b)) reward (d) dd d (0) enddd", written (variable (word 12 13) ((word 14 15) ∷ (word 16 17) ∷ []) ∷ variable (word 20 21) ((word 22 23) ∷ (word 24 25) ∷ []) ∷ []) (RewardOf (word 28 34) ((Use (word 36 37)) ∷ []) ∷ Dd (word 42 43) (Number (word 45 46) (pos 0)) ∷ []), Some (Unknown 36)) ∷
    (codes "(variables (x a b) (y a b)) reward (z (a (0)))", written (variable (word 12 13) ((word 14 15) ∷ (word 16 17) ∷ []) ∷ variable (word 20 21) ((word 22 23) ∷ (word 24 25) ∷ []) ∷ []) (RewardOf (word 28 34) ((Choice (word 36 37) false (branch (word 39 40) (Number (word 42 43) (pos 0)) ∷ [])) ∷ []) ∷ []), Some (Unknown 36)) ∷
    (codes "(variables (x a b) (y a b)) reward (x (a (0)) (b (0)) (c (0)))", written (variable (word 12 13) ((word 14 15) ∷ (word 16 17) ∷ []) ∷ variable (word 20 21) ((word 22 23) ∷ (word 24 25) ∷ []) ∷ []) (RewardOf (word 28 34) ((Choice (word 36 37) false (branch (word 39 40) (Number (word 42 43) (pos 0)) ∷ branch (word 47 48) (Number (word 50 51) (pos 0)) ∷ branch (word 55 56) (Number (word 58 59) (pos 0)) ∷ [])) ∷ []) ∷ []), Some (Unknown 55)) ∷
    (codes "(variables (x a b) (y a b)) action s z (0) x (0) y (0) endaction", written (variable (word 12 13) ((word 14 15) ∷ (word 16 17) ∷ []) ∷ variable (word 20 21) ((word 22 23) ∷ (word 24 25) ∷ []) ∷ []) (Action (word 35 36) (Table (word 37 38) (Number (word 40 41) (pos 0)) ∷ Table (word 43 44) (Number (word 46 47) (pos 0)) ∷ Table (word 49 50) (Number (word 52 53) (pos 0)) ∷ []) (word 55 64) ∷ []), Some (Unknown 37)) ∷
    [])
unfolding shape-the_row-Branch-0 hidden-the_row-Branch-0 denote.Hole.Carrier.hidden shape-the_row-Tree-0 hidden-the_row-Tree-0 least
unknown_rows = (refl, (refl, (refl, (refl, tt))))

-- what is missing
missing_rows : TellFaults (
    (codes "(variables (x a b) (y a b)) reward (x (a (0)))", written (variable (word 12 13) ((word 14 15) ∷ (word 16 17) ∷ []) ∷ variable (word 20 21) ((word 22 23) ∷ (word 24 25) ∷ []) ∷ []) (RewardOf (word 28 34) ((Choice (word 36 37) false (branch (word 39 40) (Number (word 42 43) (pos 0)) ∷ [])) ∷ []) ∷ []), Some (MissingBranch 36)) ∷
    (codes "(variables (x a b) (y a b)) reward (x (a (0)) (c (0)))", written (variable (word 12 13) ((word 14 15) ∷ (word 16 17) ∷ []) ∷ variable (word 20 21) ((word 22 23) ∷ (word 24 25) ∷ []) ∷ []) (RewardOf (word 28 34) ((Choice (word 36 37) false (branch (word 39 40) (Number (word 42 43) (pos 0)) ∷ branch (word 47 48) (Number (word 50 51) (pos 0)) ∷ [])) ∷ []) ∷ []), Some (MissingBranch 36)) ∷
    (codes "(variables (x a b) (y a b)) action s y (0) endaction", written (variable (word 12 13) ((word 14 15) ∷ (word 16 17) ∷ []) ∷ variable (word 20 21) ((word 22 23) ∷ (word 24 25) ∷ []) ∷ []) (Action (word 35 36) (Table (word 37 38) (Number (word 40 41) (pos 0)) ∷ []) (word 43 52) ∷ []), Some (MissingVariable 43 0)) ∷
    [])
unfolding shape-the_row-Branch-0 hidden-the_row-Branch-0 denote.Hole.Carrier.hidden shape-the_row-Tree-0 hidden-the_row-Tree-0 least
missing_rows = (refl, (refl, (refl, tt)))

-- what may not stand where it stands, in a tree or in a decision diagram that it names
used_rows : TellFaults (
    (codes "(variables (x a b) (y a b)) action s x (0) y (x' (a (0)) (b (0))) endaction", written (variable (word 12 13) ((word 14 15) ∷ (word 16 17) ∷ []) ∷ variable (word 20 21) ((word 22 23) ∷ (word 24 25) ∷ []) ∷ []) (Action (word 35 36) (Table (word 37 38) (Number (word 40 41) (pos 0)) ∷ Table (word 43 44) (Choice (word 46 47) true (branch (word 50 51) (Number (word 53 54) (pos 0)) ∷ branch (word 58 59) (Number (word 61 62) (pos 0)) ∷ [])) ∷ []) (word 66 75) ∷ []), Some (Primed 46)) ∷
    (codes "(variables (x a b) (y a b)) action s x (y' (a (0)) (b (0))) y (0) endaction", written (variable (word 12 13) ((word 14 15) ∷ (word 16 17) ∷ []) ∷ variable (word 20 21) ((word 22 23) ∷ (word 24 25) ∷ []) ∷ []) (Action (word 35 36) (Table (word 37 38) (Choice (word 40 41) true (branch (word 44 45) (Number (word 47 48) (pos 0)) ∷ branch (word 52 53) (Number (word 55 56) (pos 0)) ∷ [])) ∷ Table (word 60 61) (Number (word 63 64) (pos 0)) ∷ []) (word 66 75) ∷ []), None) ∷
    (codes "(variables (x a b) (y a b)) reward (x' (a (0)) (b (0)))", written (variable (word 12 13) ((word 14 15) ∷ (word 16 17) ∷ []) ∷ variable (word 20 21) ((word 22 23) ∷ (word 24 25) ∷ []) ∷ []) (RewardOf (word 28 34) ((Choice (word 36 37) true (branch (word 40 41) (Number (word 43 44) (pos 0)) ∷ branch (word 48 49) (Number (word 51 52) (pos 0)) ∷ [])) ∷ []) ∷ []), Some (Primed 36)) ∷
    (codes "(variables (x a b) (y a b)) dd d (x' (a (0)) (b (0))) enddd reward (d)", written (variable (word 12 13) ((word 14 15) ∷ (word 16 17) ∷ []) ∷ variable (word 20 21) ((word 22 23) ∷ (word 24 25) ∷ []) ∷ []) (Dd (word 31 32) (Choice (word 34 35) true (branch (word 38 39) (Number (word 41 42) (pos 0)) ∷ branch (word 46 47) (Number (word 49 50) (pos 0)) ∷ [])) ∷ RewardOf (word 60 66) ((Use (word 68 69)) ∷ []) ∷ []), Some (Primed 68)) ∷
    (codes "(variables (x a b) (y a b)) dd d (-1) enddd dd e (d) enddd action s x (e) y (0) endaction", written (variable (word 12 13) ((word 14 15) ∷ (word 16 17) ∷ []) ∷ variable (word 20 21) ((word 22 23) ∷ (word 24 25) ∷ []) ∷ []) (Dd (word 31 32) (Number (word 34 36) (negsuc 999999999999)) ∷ Dd (word 47 48) (Use (word 50 51)) ∷ Action (word 66 67) (Table (word 68 69) (Use (word 71 72)) ∷ Table (word 74 75) (Number (word 77 78) (pos 0)) ∷ []) (word 80 89) ∷ []), Some (Negative 71)) ∷
    (codes "(variables (x a b) (y a b)) dd d (1e-12) enddd dd e (d) enddd reward (e)", written (variable (word 12 13) ((word 14 15) ∷ (word 16 17) ∷ []) ∷ variable (word 20 21) ((word 22 23) ∷ (word 24 25) ∷ []) ∷ []) (Dd (word 31 32) (Number (word 34 39) (pos 1)) ∷ Dd (word 50 51) (Use (word 53 54)) ∷ RewardOf (word 62 68) ((Use (word 70 71)) ∷ []) ∷ []), Some (TooFine 70)) ∷
    (codes "(variables (x a b) (y a b)) dd d (x' (a (-1)) (b (0))) enddd action s x (0) y (d) endaction", written (variable (word 12 13) ((word 14 15) ∷ (word 16 17) ∷ []) ∷ variable (word 20 21) ((word 22 23) ∷ (word 24 25) ∷ []) ∷ []) (Dd (word 31 32) (Choice (word 34 35) true (branch (word 38 39) (Number (word 41 43) (negsuc 999999999999)) ∷ branch (word 47 48) (Number (word 50 51) (pos 0)) ∷ [])) ∷ Action (word 68 69) (Table (word 70 71) (Number (word 73 74) (pos 0)) ∷ Table (word 76 77) (Use (word 79 80)) ∷ []) (word 82 91) ∷ []), Some (Negative 79)) ∷
    [])
unfolding shape-the_row-Branch-0 hidden-the_row-Branch-0 denote.Hole.Carrier.hidden shape-the_row-Tree-0 hidden-the_row-Tree-0 least
used_rows = (refl, (refl, (refl, (refl, (refl, (refl, (refl, tt)))))))

-- a lawful file, where the branches of the reward stand in another order than the values
lawful : List ℕ
lawful = codes "(variables (x a b)) dd d (x' (a (1)) (b (0))) enddd action s x (d) cost (1) endaction reward (x (b (2)) (a (0))) discount 0.5 horizon 3"

lawful_file : File
lawful_file = written (variable (word 12 13) ((word 14 15) ∷ (word 16 17) ∷ []) ∷ []) (Dd (word 23 24) (Choice (word 26 27) true (branch (word 30 31) (Number (word 33 34) (pos 1000000000000)) ∷ branch (word 38 39) (Number (word 41 42) (pos 0)) ∷ [])) ∷ Action (word 59 60) (Table (word 61 62) (Use (word 64 65)) ∷ Cost (word 67 71) ((Number (word 73 74) (pos 1000000000000)) ∷ []) ∷ []) (word 76 85) ∷ RewardOf (word 86 92) ((Choice (word 94 95) false (branch (word 97 98) (Number (word 100 101) (pos 2000000000000)) ∷ branch (word 105 106) (Number (word 108 109) (pos 0)) ∷ [])) ∷ []) ∷ Setting (word 113 121) Discount (pos 500000) ∷ Setting (word 126 133) Horizon (pos 3) ∷ [])

lawful_row : (least None (faults_of lawful lawful_file) ≡ None) × (model_of lawful lawful_file ≡ record {
  vars = record { name = codes "x"; values = codes "a" ∷ codes "b" ∷ [] } ∷ [];
  dds = Fork 0 true (Leaf (pos 1000000000000) ∷ Leaf (pos 0) ∷ []) ∷ [];
  actions = record { name = codes "s"; tables = Named 0 ∷ []; cost = Leaf (pos 1000000000000) ∷ [] } ∷ [];
  reward = Fork 0 false (Leaf (pos 0) ∷ Leaf (pos 2000000000000) ∷ []) ∷ [];
  discount = 500000;
  tolerance = pos 0;
  horizon = Some 3;
})
unfolding shape-the_row-Branch-0 hidden-the_row-Branch-0 denote.Hole.Carrier.hidden shape-the_row-Tree-0 hidden-the_row-Tree-0 least lawful lawful_file
lawful_row = (refl, refl)

-- so many choices round a tree
nested : ℕ → Shape → Shape
nested zero shape = shape
nested (suc n) shape = Choice (word 12 13) false (branch (word 14 15) (nested n shape) ∷ [])

-- the bytes hold the names, however often they are used: a decision diagram d that nests 200 deep, and a reward in which it is named inside so many choices
deep : ℕ → File
deep n = written (variable (word 12 13) (word 14 15 ∷ []) ∷ []) (Dd (word 18 19) (nested 199 (Number (word 0 0) (pos 0))) ∷ RewardOf (word 0 0) (nested n (Use (word 18 19)) ∷ []) ∷ [])

deep_rows : (least None (faults_of (codes "(variables (x a)) d") (deep 100)) ≡ None) × (least None (faults_of (codes "(variables (x a)) d") (deep 101)) ≡ Some (TooMany 18 Nesting))
unfolding shape-the_row-Branch-0 hidden-the_row-Branch-0 denote.Hole.Carrier.hidden shape-the_row-Tree-0 hidden-the_row-Tree-0 least nested deep
deep_rows = (refl, refl)
