-- A tree without a fault of its names means a good tree.
use Rattle.std.proofs.Common.{◌≡◌, ℕ, zero, suc, ◌+◌, ◌-◌, ◌^◌, ◌<◌, ◌≤◌, Bool, List, [], ◌∷◌, length, map, Option, Some, None, Ok, All, refl, sym, ap, subst, ◌∙◌, arith, ℤ, pos}
use Rattle.std.specs.Prelude.{nat_lt, unsigned_abs, slice_index, slice_index_or, unwrap_or}
use Rattle.std.specs.List.{list_any}
use Rattle.std.proofs.lemmas.Bool.{ltb-false}
use Rattle.std.proofs.lemmas.List.{length-map, length-replicate}
use Rattle.std.proofs.lemmas.List.Elements.{All-map, All-weaker, All-set, All-replicate}
use Rattle.spd_lex.specs.declared.token.Token.{Token}
use Rattle.spd_model.specs.declared.tree.Tree.{Tree, Leaf, Named, Branch}
use Rattle.spd_model.specs.declared.process.Var.{Var}
use Rattle.spd_model.specs.Lawful.{Fits}
use Rattle.spd_model.specs.Process.{Process}
use Rattle.spd_model.specs.States.{sizes}
use Rattle.spd_model.specs.Trees.{Part, number, choice, missing}
use Rattle.spd_syntax.specs.declared.file.Quantity.{Quantity}
use Rattle.spd_syntax.specs.declared.file.Shape.{Shape, Number, Use, Choice', Row_of-Branch, end_of-Branch, more_of-Branch}
use Rattle.spd_syntax.specs.declared.refusal.Refusal.TheVariants as refusals
use Rattle.spd_syntax.specs.declared.refusal.What.TheVariants.{Nesting}
use Rattle.spd_syntax.specs.Words.{text_of}
use Rattle.spd_syntax.specs.Numbers.{number_of}
use Rattle.spd_syntax.specs.Grammar.{IsInside, AreBranches, IsSome, IsTree}
use Rattle.spd_reader.specs.declared.purpose.Purpose.{Purpose}
use Rattle.spd_reader.specs.Faults.{when}
use Rattle.spd_reader.specs.Trees.{Scope, number_in, var_names, var_number, values_of, no_trees, put, trees_of, place_faults, meaning, branches_of, primes_wrong, negative_wrong, fine_wrong, dd_parts, dd_nesting, use_faults, name_faults, tree_faults, branch_faults}
use Rattle.spd_reader.proofs.LawfulLists.{none-append, none-three, none-when, number-below}
use Rattle.spd_reader.proofs.LawfulParts.{FitsPurpose, Good, GoodTree, none-wrong, zero-good, number-good, choice-serves, choice-good}
use Rattle.spd_reader.proofs.TreeLaws.{length-put}

-- ---- places

pub length-branches : (file : List ℕ) (s : Scope) (values : List (List ℕ)) (places : List (Option Tree)) {k : _} (row : Row_of-Branch k) → length (branches_of file s values places row) ≡ length places
length-branches file s values places end_of-Branch = refl
length-branches file s values places (more_of-Branch w tree row) =
    length-branches file s values (put places (number_in values (text_of file w)) (meaning file s tree)) row ∙ length-put places (number_in values (text_of file w)) (meaning file s tree)

-- as many values as the size says
values-count : (vars : List Var) (v : ℕ) → length (slice_index_or (map (λ (x : Var). x.values) vars) v []) ≡ slice_index (map (λ (x : Var). length x.values) vars) v
values-count [] v = refl
values-count (x ∷ vars) zero = refl
values-count (x ∷ vars) (suc v) = values-count vars v

-- a choice with a branch has room for it
row-deep : (file : List ℕ) (q : Quantity) (n : ℕ) {k : _} (row : Row_of-Branch k) (a e : List Token) → IsSome row → AreBranches file q n row a e → n + 1 < 300
row-deep file q n end_of-Branch a e h b = absurd h
row-deep file q n (more_of-Branch w kid row) a e h b = b.8

-- ---- what a scope tells of the decision diagrams before, as the lists that a tree is read by have them
pub record Reads (m : Process) (s : Scope) (diagrams : List (List Part)) (depths : List ℕ) : Type 0 where
  pub vars : s.vars ≡ m.vars
  pub count : length s.dd_names ≡ length s.dds
  pub fits : (d : ℕ) → d < length s.dds → All (Fits m) (dd_parts s d)
  pub parts_are : (d : ℕ) → d < length s.dds → slice_index_or diagrams d (missing ∷ []) ≡ dd_parts s d
  pub depths_are : (d : ℕ) → d < length s.dds → slice_index_or depths d 0 ≡ dd_nesting s d

-- the numbers of a kind serve a purpose
pub record Serves (p : Purpose) (q : Quantity) : Type 0 where
  pub numbers : (at : ℕ) (text : List ℕ) (units : ℤ) → number_of q at text ≡ Ok units → (unsigned_abs units ≤ 10 ^ 30) × FitsPurpose p (number units)

module _ (file : List ℕ) (m : Process) (s : Scope) (diagrams : List (List Part)) (depths : List ℕ) (r : Reads m s diagrams depths) (p : Purpose) where
  abbrev Tree-good : ℕ → Tree → Type 0
  Tree-good depth tree = GoodTree m diagrams depths p depth tree

  -- the name of a decision diagram
  use-good : (at depth : ℕ) (o : Option ℕ) (name : List ℕ) → number_in s.dd_names name ≡ o → use_faults s p depth at o ≡ [] → Tree-good depth (Named (unwrap_or o 0))
  use-good at depth None name e h = absurd (cc h)
  use-good at depth (Some d) name e h =
      let four = none-append _ (when (nat_lt depth (dd_nesting s d)) (refusals.TooMany at Nesting)) h in
      let three = none-three (when (list_any (primes_wrong p) (dd_parts s d)) (refusals.Primed at)) (when (list_any (negative_wrong p) (dd_parts s d)) (refusals.Negative at)) (when (list_any (fine_wrong p) (dd_parts s d)) (refusals.TooFine at)) four.0 in
      let near : d < length s.dds = let b : d < length s.dd_names = number-below s.dd_names name d e in omega (arith, b, r.count) in
      let deep : dd_nesting s d ≤ depth = ltb-false depth (dd_nesting s d) (none-when _ (refusals.TooMany at Nesting) four.1) in
      record {
        parts_good = subst (All (Good m p)) (sym (r.parts_are d near))
            (none-wrong m p (dd_parts s d) (r.fits d near) (none-when _ (refusals.Primed at) three.0) (none-when _ (refusals.Negative at) three.1) (none-when _ (refusals.TooFine at) three.2));
        nests = subst (λ n. n ≤ depth) (sym (r.depths_are d near)) deep;
      }

  -- a place without a tree, or with a good one
  abbrev Place-good : ℕ → Option Tree → Type 0
  Place-good depth None = Unit {0}
  Place-good depth (Some tree) = Tree-good depth tree

  put-good : (depth : ℕ) (places : List (Option Tree)) (v : Option ℕ) (tree : Tree) → Tree-good depth tree → All (Place-good depth) places → All (Place-good depth) (put places v tree)
  put-good depth places None tree g h = h
  put-good depth places (Some v) tree g h = All-set (Place-good depth) places v (Some tree) g h

  trees-good : (depth : ℕ) → 1 ≤ depth → (places : List (Option Tree)) → All (Place-good depth) places → All (Tree-good depth) (trees_of places)
  trees-good depth b places h =
      All-map (Tree-good depth) (λ (place : Option Tree). unwrap_or place (Leaf (pos 0))) places
      (All-weaker (Place-good depth) (λ place. Tree-good depth (unwrap_or place (Leaf (pos 0)))) here places h)
    where
      here : (place : Option Tree) → Place-good depth place → Tree-good depth (unwrap_or place (Leaf (pos 0)))
      here None g = zero-good m diagrams depths p depth b
      here (Some t) g = g

  -- a choice, whose branches came to these places
  fork-good : (at depth : ℕ) (primed : Bool) (o : Option ℕ) (name : List ℕ) (places : List (Option Tree)) → 2 ≤ depth → var_number s name ≡ o → name_faults p primed at o ≡ []
      → length places ≡ length (values_of s o) → All (Place-good (depth - 1)) places → Tree-good depth (Branch (unwrap_or o 0) primed (trees_of places))
  fork-good at depth primed None name places b e h count good = absurd (cc h)
  fork-good at depth primed (Some v) name places b e h count good =
      let below : v < length (var_names s.vars) = number-below (var_names s.vars) name v e in
      let in_range : v < length m.vars = subst (λ (vs : List Var). v < length vs) r.vars (omega (arith, below, length-map s.vars (λ (x : Var). x.name))) in
      let size : length (values_of s (Some v)) ≡ slice_index (sizes m) v = values-count s.vars v ∙ ap (λ (vs : List Var). slice_index (map (λ (x : Var). length x.values) vs) v) r.vars in
      let kids : length (trees_of places) ≡ slice_index (sizes m) v = length-map places (λ (place : Option Tree). unwrap_or place (Leaf (pos 0))) ∙ count ∙ size in
      let serves : FitsPurpose p (choice v primed (length (trees_of places))) = choice-serves p v primed (length (trees_of places)) (none-when _ (refusals.Primed at) h) in
      let one : (depth - 1) + 1 ≡ depth = omega arith in
      subst (λ n. Tree-good n (Branch v primed (trees_of places))) one (choice-good m diagrams depths p (depth - 1) v primed (trees_of places) in_range kids serves (trees-good (depth - 1) (omega arith) places good))

  none-yet-good : (depth n : ℕ) → All (Place-good depth) (no_trees n)
  none-yet-good depth n = All-replicate (Place-good depth) n None tt

  module _ (q : Quantity) (kind : Serves p q) where
    mutual
      pub inside-good : (n depth : ℕ) (shape : Shape) (a e : List Token) → depth + n ≡ 300 → n < 300 → IsInside file q n shape a e → tree_faults file s p depth shape ≡ [] → Tree-good depth (meaning file s shape)
      inside-good n depth (Number w units) a e d b h none =
          let x = kind.numbers w.from (text_of file w) units h.4.is in
          number-good m diagrams depths p depth units (omega arith) x.0 x.1
      inside-good n depth (Use w) a e d b h none = use-good w.from depth (number_in s.dd_names (text_of file w)) (text_of file w) refl none
      inside-good n depth (Choice' w primed shape row) a e d b h none =
          let o = var_number s (text_of file w) in
          let values = values_of s o in
          let three = none-three (name_faults p primed w.from o) (branch_faults file s p (depth - 1) values (no_trees (length values)) row) _ none in
          let deep : n + 1 < 300 = row-deep file q n row h.0 h.1 h.6 h.4 in
          fork-good w.from depth primed o (text_of file w) (branches_of file s values (no_trees (length values)) row) (omega arith) refl three.0
          (length-branches file s values (no_trees (length values)) row ∙ length-replicate (length values) None)
          (row-good n (depth - 1) values (no_trees (length values)) row h.0 h.1 (omega arith) h.4 three.1 (none-yet-good (depth - 1) (length values)))

      row-good : (n depth : ℕ) (values : List (List ℕ)) (places : List (Option Tree)) {k : _} (row : Row_of-Branch k) (a e : List Token) → depth + (n + 1) ≡ 300 → AreBranches file q n row a e
          → branch_faults file s p depth values places row ≡ [] → All (Place-good depth) places → All (Place-good depth) (branches_of file s values places row)
      row-good n depth values places end_of-Branch a e d h none good = good
      row-good n depth values places (more_of-Branch w tree row) a e d h none good =
          let o = number_in values (text_of file w) in
          let three = none-three (place_faults places w.from o) (tree_faults file s p depth tree) _ none in
          let here : Tree-good depth (meaning file s tree) = inside-good (n + 1) depth tree h.2 h.3 d h.8 h.10 three.1 in
          row-good n depth values (put places o (meaning file s tree)) row h.4 e d h.12 three.2 (put-good depth places o (meaning file s tree) here good)

    -- a tree without a fault is good, and nests at most 300 deep
    pub tree-good : (shape : Shape) (a e : List Token) → IsTree file q 0 shape a e → tree_faults file s p 300 shape ≡ [] → Tree-good 300 (meaning file s shape)
    tree-good shape a e h none = inside-good 0 300 shape h.b e (omega arith) h.shallow h.inside none
