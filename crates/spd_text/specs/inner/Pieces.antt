-- Pieces of a text that are written one after another, by way of bytes that wait to be written.
use Rattle.std.specs.Prelude.{ℕ, ◌≡◌, List, [], ◌∷◌, ◌++◌, flat_map, Option, Result, OnOk}
use Rattle.spd_model.specs.Process.{Process}
use Rattle.spd_model.specs.ResultText.{units, action_name}
use Rattle.spd_nodes.specs.declared.leaf.Leaf.{Leaf}
use Rattle.spd_nodes.specs.declared.leaf.Leaf.TheVariants.{Num, Pair, Act}
use Rattle.spd_edge.specs.Told.{Took}
use Rattle.spd_text.specs.Writing.{Counted}

-- what a sink shows: the bytes that it took, its count of faults and its name
pub record Shown : Type 0 where
  pub taken : Option (List ℕ)
  pub faults : ℕ
  pub name : List ℕ

abbrev pub shown : {S : Type 0} → (S → Option (List ℕ)) → (S → ℕ) → (S → List ℕ) → S → Shown
shown taken faults name k = record { taken = taken k; faults = faults k; name = name k }

-- A text was written behind bytes that waited: the sink took a front of both, and on Ok the rest waits now.
pub record Writes {T E : Type 0} (before : Shown) (waiting text : List ℕ) (result : Result T E) (now : Shown) (waits : List ℕ) : Type 0 where
  pub front : List ℕ
  pub rest : List ℕ
  pub split : waiting ++ text ≡ front ++ rest
  pub took : Took before.taken front now.taken
  pub kept : OnOk result (waits ≡ rest)
  pub count : Counted before.faults result now.faults
  pub named : now.name ≡ before.name

-- words, each behind a space
abbrev pub spaced : List (List ℕ) → List ℕ
spaced words = flat_map (λ word. 32 ∷ word) words

-- the text of a leaf: a number of units, or the name of an action
abbrev pub leaf_text : Process → Leaf → List ℕ
leaf_text m (Num x) = units x
leaf_text m (Pair x y) = []
leaf_text m (Act a) = action_name m a
