-- Reading one thing after another, as a loop does.
use Rattle.std.proofs.Common.{◌≡◌, ℕ, suc, ◌-◌, ◌+◌, ◌≤◌, ◌<◌, List, [], ◌∷◌, ◌++◌, length, take, drop, get_or, set, Result, Ok, sym, ap, ◌∙◌, arith}
use Rattle.std.proofs.lemmas.List.{drop_more, drop_all}
use Rattle.std.proofs.lemmas.Grind.{common_steps}
use Rattle.spd_model.specs.declared.process.Var.{Var}
use Rattle.spd_model.specs.Process.{Process}
use Rattle.spd_model.specs.Reduced.{Node}
use Rattle.spd_nodes.specs.declared.leaf.Leaf.{Leaf}
use Rattle.spd_cert.specs.declared.nodes.Part.{Part}
use Rattle.spd_cert.specs.declared.ending.Stop.{Stop}
use Rattle.spd_cert.specs.declared.ending.Ending.{Ending}
use Rattle.spd_cert.specs.declared.ending.Ending.TheVariants as endings
use Rattle.spd_cert.specs.Reading.{◌>>=◌, Fails, pair_at, state_at, kid_ender, kid_at, kids_at, node_at, nodes_at}

-- where the first step of reading stops, so does all of it
stops : {A B : Type 0} (e : Ending) (first : Result A Stop) (f : A → Result B Stop) (total : Result B Stop) → Fails e first → (first >>= f) ≡ total → Fails e total
stops endings.Memory first f total h so_far = tt
stops (endings.Stopped s) first f total h so_far = sym so_far ∙ ap (λ r. r >>= f) h

module _ (m : Process) (p : Part) (count i : ℕ) (nodes : List (Node Leaf)) (bytes : List ℕ) (total : Result (List (Node Leaf) × List ℕ) Stop) (so_far : nodes_at m p (count - i) nodes bytes ≡ total) where
  node_next : i < count → (node_at m p nodes bytes >>= λ node. nodes_at m p (count - (i + 1)) (nodes ++ node.0 ∷ []) node.1) ≡ total
  unfolding nodes_at
  node_next lt = let k : count - i ≡ suc (count - (i + 1)) = omega (arith, lt) in ap (λ (n : ℕ). nodes_at m p n nodes bytes) (sym k) ∙ so_far

  pub node_goes_on : (node : Node Leaf) (after : List ℕ) → i < count → node_at m p nodes bytes ≡ Ok (node, after) → nodes_at m p (count - (i + 1)) (nodes ++ node ∷ []) after ≡ total
  node_goes_on node after lt h =
      sym (ap (λ (r : Result (Node Leaf × List ℕ) Stop). r >>= λ x. nodes_at m p (count - (i + 1)) (nodes ++ x.0 ∷ []) x.1) h) ∙ node_next lt

  pub node_stops : (e : Ending) → i < count → Fails e (node_at m p nodes bytes) → Fails e total
  node_stops e lt h = stops e (node_at m p nodes bytes) (λ node. nodes_at m p (count - (i + 1)) (nodes ++ node.0 ∷ []) node.1) total h (node_next lt)

  pub nodes_done : count ≤ i → total ≡ Ok (nodes, bytes)
  unfolding nodes_at
  nodes_done le = let k : count - i ≡ 0 = omega (arith, le) in sym so_far ∙ ap (λ (n : ℕ). nodes_at m p n nodes bytes) k

module _ (nodes : List (Node Leaf)) (var size i : ℕ) (kids bytes : List ℕ) (total : Result (List ℕ × List ℕ) Stop) (so_far : kids_at nodes var (size - i) kids bytes ≡ total) where
  kid_next : i < size → (kid_at nodes var (kid_ender (size - 1 - i)) bytes >>= λ kid. kids_at nodes var (size - (i + 1)) (kids ++ kid.0 ∷ []) kid.1) ≡ total
  unfolding kids_at
  kid_next lt =
      let k : size - i ≡ suc (size - (i + 1)) = omega (arith, lt) in
      let e : size - 1 - i ≡ size - (i + 1) = omega arith in
      ap (λ (n : ℕ). kid_at nodes var (kid_ender n) bytes >>= λ kid. kids_at nodes var (size - (i + 1)) (kids ++ kid.0 ∷ []) kid.1) e
      ∙ ap (λ (n : ℕ). kids_at nodes var n kids bytes) (sym k) ∙ so_far

  pub kid_goes_on : (kid : ℕ) (after : List ℕ) → i < size → kid_at nodes var (kid_ender (size - 1 - i)) bytes ≡ Ok (kid, after) → kids_at nodes var (size - (i + 1)) (kids ++ kid ∷ []) after ≡ total
  kid_goes_on kid after lt h =
      sym (ap (λ (r : Result (ℕ × List ℕ) Stop). r >>= λ x. kids_at nodes var (size - (i + 1)) (kids ++ x.0 ∷ []) x.1) h) ∙ kid_next lt

  pub kid_stops : (e : Ending) → i < size → Fails e (kid_at nodes var (kid_ender (size - 1 - i)) bytes) → Fails e total
  kid_stops e lt h = stops e (kid_at nodes var (kid_ender (size - 1 - i)) bytes) (λ kid. kids_at nodes var (size - (i + 1)) (kids ++ kid.0 ∷ []) kid.1) total h (kid_next lt)

  pub kids_done : size ≤ i → total ≡ Ok (kids, bytes)
  unfolding kids_at
  kids_done le = let k : size - i ≡ 0 = omega (arith, le) in sym so_far ∙ ap (λ (n : ℕ). kids_at nodes var n kids bytes) k

module _ (vars : List Var) (i : ℕ) (values bytes : List ℕ) (total : Result (List ℕ × List ℕ) Stop) (so_far : state_at (drop i vars) (take i values) bytes ≡ total) where
  pair_next : (var : Var) → i < length vars → get_or vars i var ≡ var → (pair_at var bytes >>= λ v. state_at (drop (i + 1) vars) (take i values ++ v.0 ∷ []) v.1) ≡ total
  unfolding state_at
  pair_next var lt is =
      let k : drop i vars ≡ var ∷ drop (i + 1) vars = drop_more vars i var lt ∙ ap (λ (v : Var). v ∷ drop (i + 1) vars) is in
      ap (λ (vs : List Var). state_at vs (take i values) bytes) (sym k) ∙ so_far

  pub pair_goes_on : (var : Var) (v : ℕ) (after : List ℕ) → i < length vars → i < length values → get_or vars i var ≡ var → pair_at var bytes ≡ Ok (v, after)
      → state_at (drop (i + 1) vars) (take (i + 1) (set values i v)) after ≡ total
  pair_goes_on var v after lt room is h =
      let put : take (i + 1) (set values i v) ≡ take i values ++ v ∷ [] = grind (arith, common_steps) in
      ap (λ (t : List ℕ). state_at (drop (i + 1) vars) t after) put
      ∙ sym (ap (λ (r : Result (ℕ × List ℕ) Stop). r >>= λ x. state_at (drop (i + 1) vars) (take i values ++ x.0 ∷ []) x.1) h) ∙ pair_next var lt is

  pub pair_stops : (e : Ending) (var : Var) → i < length vars → get_or vars i var ≡ var → Fails e (pair_at var bytes) → Fails e total
  pair_stops e var lt is h = stops e (pair_at var bytes) (λ v. state_at (drop (i + 1) vars) (take i values ++ v.0 ∷ []) v.1) total h (pair_next var lt is)

  pub pairs_done : length vars ≤ i → i ≤ length vars → total ≡ Ok (take (length vars) values, bytes)
  unfolding state_at
  pairs_done le ge =
      let k : drop i vars ≡ [] = drop_all i vars le in
      let n : i ≡ length vars = omega (arith, le, ge) in
      sym so_far ∙ ap (λ (vs : List Var). state_at vs (take i values) bytes) k ∙ ap (λ (j : ℕ). Ok (take j values, bytes)) n
