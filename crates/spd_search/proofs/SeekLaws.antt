-- Looking along the test tree of a function finds the first leaf of the function, variable by variable.
use Rattle.std.proofs.Common.{◌≡◌, ℕ, zero, suc, ◌+◌, ◌-◌, ◌<◌, ◌≤◌, ◌==◌, Bool, true, false, cond, List, [], ◌∷◌, ◌++◌, map, flat_map, find, Option, Some, None, refl, sym, ◌∙◌, ap, arith}
use Rattle.std.specs.Option.{option_or}
use Rattle.std.proofs.lemmas.Bool.Decides.{Decides-eqb, nat_tests}
use Rattle.std.proofs.lemmas.List.{map-append}
use Rattle.spd_model.specs.Numbers.{numbers_below}
use Rattle.spd_model.specs.States.{states, IsState}
use Rattle.spd_nodes.specs.declared.leaf.Leaf.{Leaf}
use Rattle.spd_nodes.specs.Levels.{slots, AllPositive}
use Rattle.spd_nodes.specs.States.{point}
use Rattle.spd_nodes.specs.Trees.{Tree, Ends, Tests, tree_eq, join, chain, tree_of}
use Rattle.spd_nodes.proofs.CallerLemmas.{tree_eq-true}
use Rattle.spd_search.specs.declared.looking.Turn.{Turn}
use Rattle.spd_search.specs.declared.looking.Turn.TheVariants.{Free, Both, Yes, No}
use Rattle.spd_search.specs.inner.Looking.{if_wanted, leaf_in, turn_of, by_turn, leaf_under}
use Rattle.spd_search.specs.inner.Settling.{AreFirst}
use Rattle.spd_search.proofs.TurnLaws.{turn-next, turn-given, turn-skip}
use Rattle.spd_search.proofs.Firsts.{option_or-same, first_below, first_from, first_from-all, find-rows}

-- the first leaf of a function of points that is wanted, at present states that begin with some values, in the order of the variables'
-- next and present values
abbrev pub seek : (Leaf → Bool) → List ℕ → List ℕ → (List ℕ → Leaf) → Option Leaf
seek wants [] first g = if_wanted wants (g [])
seek wants (d ∷ ds) [] g = first_below d (λ y. first_below d (λ x. seek wants ds [] (λ p. g (y ∷ x ∷ p))))
seek wants (d ∷ ds) (v ∷ first) g = first_below d (λ y. seek wants ds first (λ p. g (y ∷ v ∷ p)))

-- ---- trees

-- the root tests no level below `b`
abbrev RootFrom : ℕ → Tree → Type 0
RootFrom b (Ends a) = Unit {0}
RootFrom b (Tests l y n) = b ≤ l

RootFrom-lower : (b c : ℕ) (t : Tree) → b ≤ c → RootFrom c t → RootFrom b t
RootFrom-lower b c (Ends a) h r = tt
RootFrom-lower b c (Tests l y n) h r = omega arith

RootFrom-chain : (b n j l : ℕ) (sub : ℕ → Tree) → b ≤ l → ((v : ℕ) → RootFrom b (sub v)) → RootFrom b (chain n j l sub)
RootFrom-chain b zero j l sub h r = r j
RootFrom-chain b (suc n) j l sub h r = go (tree_eq (sub j) (chain n (j + 1) (l + 1) sub)) (RootFrom-chain b n (j + 1) (l + 1) sub (omega arith) r)
  where
    go : (t : Bool) → RootFrom b (chain n (j + 1) (l + 1) sub) → RootFrom b (cond t (chain n (j + 1) (l + 1) sub) (Tests l (sub j) (chain n (j + 1) (l + 1) sub)))
    go true q = q
    go false q = h

RootFrom-tree_of : (ds : List ℕ) (b : ℕ) (g : List ℕ → Leaf) → RootFrom b (tree_of ds b g)
RootFrom-tree_of [] b g = tt
RootFrom-tree_of (d ∷ ds) b g =
    RootFrom-chain b (d - 1) 0 b (λ j. tree_of ds (b + (d - 1)) (λ p. g (j ∷ p))) (omega arith)
    (λ v. RootFrom-lower b (b + (d - 1)) (tree_of ds (b + (d - 1)) (λ p. g (v ∷ p))) (omega arith) (RootFrom-tree_of ds (b + (d - 1)) (λ p. g (v ∷ p))))

module _ (wants : Leaf → Bool) where
  leaf_in-join : (l : ℕ) (y n : Tree) → leaf_in wants (join l y n) ≡ option_or (leaf_in wants y) (leaf_in wants n)
  leaf_in-join l y n = go (tree_eq y n) refl
    where
      go : (t : Bool) → tree_eq y n ≡ t → leaf_in wants (cond t n (Tests l y n)) ≡ option_or (leaf_in wants y) (leaf_in wants n)
      go true e = rw (tree_eq-true y n e) (sym (option_or-same (leaf_in wants n)))
      go false e = refl

  leaf_in-chain : (n j l : ℕ) (sub : ℕ → Tree) → leaf_in wants (chain n j l sub) ≡ first_from n j (λ v. leaf_in wants (sub v))
  leaf_in-chain zero j l sub = refl
  leaf_in-chain (suc n) j l sub =
      leaf_in-join l (sub j) (chain n (j + 1) (l + 1) sub) ∙ ap (option_or (leaf_in wants (sub j))) (leaf_in-chain n (j + 1) (l + 1) sub)

  -- a slot at whose values the trees are known
  leaf_in-slot : (d : ℕ) (ds : List ℕ) (b : ℕ) (g : List ℕ → Leaf) (h : ℕ → Option Leaf) → 0 < d → ((v : ℕ) → leaf_in wants (tree_of ds (b + (d - 1)) (λ p. g (v ∷ p))) ≡ h v)
      → leaf_in wants (tree_of (d ∷ ds) b g) ≡ first_below d h
  leaf_in-slot d ds b g h p e =
      leaf_in-chain (d - 1) 0 b (λ j. tree_of ds (b + (d - 1)) (λ p. g (j ∷ p))) ∙ ap (first_from (d - 1) 0) (λ i v. e v i) ∙ first_from-all d h p

  -- the whole tree of a function
  pub leaf_in-seek : (ds : List ℕ) (b : ℕ) (g : List ℕ → Leaf) → AllPositive (slots ds) → leaf_in wants (tree_of (slots ds) b g) ≡ seek wants ds [] g
  leaf_in-seek [] b g o = refl
  leaf_in-seek (d ∷ ds) b g o =
      leaf_in-slot d (d ∷ slots ds) b g (λ y. first_below d (λ x. seek wants ds [] (λ p. g (y ∷ x ∷ p)))) o.0
      (λ y. leaf_in-slot d (slots ds) (b + (d - 1)) (λ p. g (y ∷ p)) (λ x. seek wants ds [] (λ p. g (y ∷ x ∷ p))) o.0
      (λ x. leaf_in-seek ds ((b + (d - 1)) + (d - 1)) (λ p. g (y ∷ x ∷ p)) o.1.1))

-- a turn that is decided
abbrev IsGiven : Turn → Type 0
IsGiven Free = ⊥
IsGiven Both = Unit {0}
IsGiven Yes = Unit {0}
IsGiven No = Unit {0}

by_turn-same : (t : Turn) (free o : Option Leaf) → IsGiven t → by_turn t free o o ≡ o
by_turn-same Free free o h = absurd h
by_turn-same Both free o h = option_or-same o
by_turn-same Yes free o h = refl
by_turn-same No free o h = refl

given-yes-no : (b : Bool) → IsGiven (cond b Yes No)
given-yes-no true = tt
given-yes-no false = tt

module _ (sizes : List ℕ) (wants : Leaf → Bool) (first : List ℕ) where
  under : Tree → Option Leaf
  under t = leaf_under sizes wants first t

  under-join : (l : ℕ) (y n : Tree) (t : Turn) → turn_of sizes first l ≡ t → IsGiven t → leaf_under sizes wants first (join l y n) ≡ by_turn t None (leaf_under sizes wants first y) (leaf_under sizes wants first n)
  under-join l y n t e h = go (tree_eq y n) refl
    where
      no_free : (u : Turn) (a b o p : Option Leaf) → IsGiven u → by_turn u a o p ≡ by_turn u b o p
      no_free Free a b o p q = absurd q
      no_free Both a b o p q = refl
      no_free Yes a b o p q = refl
      no_free No a b o p q = refl

      go : (z : Bool) → tree_eq y n ≡ z → leaf_under sizes wants first (cond z n (Tests l y n)) ≡ by_turn t None (leaf_under sizes wants first y) (leaf_under sizes wants first n)
      go true q = rw (tree_eq-true y n q) (sym (by_turn-same t None (leaf_under sizes wants first n) h))
      go false q = rw e (no_free t (option_or (leaf_in wants y) (leaf_in wants n)) None (leaf_under sizes wants first y) (leaf_under sizes wants first n) h)

  -- a slot of a next value
  under-both : (n j l : ℕ) (sub : ℕ → Tree) → ((k : ℕ) → k < n → turn_of sizes first (l + k) ≡ Both)
      → leaf_under sizes wants first (chain n j l sub) ≡ first_from n j (λ v. leaf_under sizes wants first (sub v))
  under-both zero j l sub h = refl
  under-both (suc n) j l sub h =
      let here : turn_of sizes first l ≡ Both = let z : l + 0 ≡ l = omega arith in rw z at (h 0 (omega arith)) in
      let next : (k : ℕ) → k < n → turn_of sizes first ((l + 1) + k) ≡ Both = λ k i. let z : (l + 1) + k ≡ l + suc k = omega arith in rw z (h (suc k) (omega arith)) in
      under-join l (sub j) (chain n (j + 1) (l + 1) sub) Both here tt
      ∙ ap (option_or (leaf_under sizes wants first (sub j))) (under-both n (j + 1) (l + 1) sub next)

  -- a slot of a present value that is given
  under-one : (x n j l : ℕ) (sub : ℕ → Tree) → j ≤ x → x ≤ j + n → ((k : ℕ) → k < n → turn_of sizes first (l + k) ≡ cond (x == j + k) Yes No)
      → leaf_under sizes wants first (chain n j l sub) ≡ leaf_under sizes wants first (sub x)
  under-one x zero j l sub a b h = let e : j ≡ x = omega arith in rw e refl
  under-one x (suc n) j l sub a b h =
      under-join l (sub j) (chain n (j + 1) (l + 1) sub) (cond (x == j) Yes No) here (given-yes-no (x == j))
      ∙ go (x == j) refl (λ i. under-one x n (j + 1) (l + 1) sub i (omega arith) next)
    where
      here : turn_of sizes first l ≡ cond (x == j) Yes No
      here =
          let z : l + 0 ≡ l = omega arith in
          let w : j + 0 ≡ j = omega arith in
          rw (z, w) at (h 0 (omega arith))

      next : (k : ℕ) → k < n → turn_of sizes first ((l + 1) + k) ≡ cond (x == (j + 1) + k) Yes No
      next k i =
          let z : (l + 1) + k ≡ l + suc k = omega arith in
          let w : (j + 1) + k ≡ j + suc k = omega arith in
          rw (z, w) (h (suc k) (omega arith))

      go : (z : Bool) → (x == j) ≡ z → (j + 1 ≤ x → leaf_under sizes wants first (chain n (j + 1) (l + 1) sub) ≡ leaf_under sizes wants first (sub x))
          → by_turn (cond z Yes No) None (leaf_under sizes wants first (sub j)) (leaf_under sizes wants first (chain n (j + 1) (l + 1) sub)) ≡ leaf_under sizes wants first (sub x)
      go true e ih = let same : j ≡ x = sym ((Decides-eqb x j).0 e) in rw same refl
      go false e ih = ih (grind (arith, nat_tests))

  -- a tree whose root is free
  under-free : (b : ℕ) (t : Tree) → RootFrom b t → ((k : ℕ) → turn_of sizes first (b + k) ≡ Free) → leaf_under sizes wants first t ≡ leaf_in wants t
  under-free b (Ends a) r h = refl
  under-free b (Tests l y n) r h =
      let z : b + (l - b) ≡ l = omega arith in
      let e : turn_of sizes first l ≡ Free = rw z at (h (l - b)) in
      rw e refl

  -- the tree of a function, where levels from `b` on lead as those of the variables that are left
  under-from : (ds rest : List ℕ) (b : ℕ) (g : List ℕ → Leaf) → AllPositive (slots ds) → AreFirst ds rest → ((k : ℕ) → turn_of sizes first (b + k) ≡ turn_of ds rest k)
      → leaf_under sizes wants first (tree_of (slots ds) b g) ≡ seek wants ds rest g
  under-from [] rest b g o f h = refl
  under-from (d ∷ ds) [] b g o f h =
      under-free b (tree_of (slots (d ∷ ds)) b g) (RootFrom-tree_of (slots (d ∷ ds)) b g) h ∙ leaf_in-seek wants (d ∷ ds) b g o
  under-from (d ∷ ds) (v ∷ rest) b g o f h =
      under-both (d - 1) 0 b (λ y. tree_of (d ∷ slots ds) (b + (d - 1)) (λ p. g (y ∷ p))) (λ k i. h k ∙ turn-next d ds v rest k i)
      ∙ ap (first_from (d - 1) 0)
      (λ i y. (under-one v (d - 1) 0 (b + (d - 1)) (λ x. tree_of (slots ds) ((b + (d - 1)) + (d - 1)) (λ p. g (y ∷ x ∷ p))) (omega arith) (omega arith) given
      ∙ under-from ds rest ((b + (d - 1)) + (d - 1)) (λ p. g (y ∷ v ∷ p)) o.1.1 f.1 past) i)
      ∙ first_from-all d (λ y. seek wants ds rest (λ p. g (y ∷ v ∷ p))) o.0
    where
      given : (k : ℕ) → k < d - 1 → turn_of sizes first ((b + (d - 1)) + k) ≡ cond (v == 0 + k) Yes No
      given k i =
          let z : (b + (d - 1)) + k ≡ b + ((d - 1) + k) = omega arith in
          let w : 0 + k ≡ k = omega arith in
          rw (z, w) (h ((d - 1) + k) ∙ turn-given d ds v rest ((d - 1) + k) k refl i)

      past : (k : ℕ) → turn_of sizes first (((b + (d - 1)) + (d - 1)) + k) ≡ turn_of ds rest k
      past k =
          let z : ((b + (d - 1)) + (d - 1)) + k ≡ b + (((d - 1) + (d - 1)) + k) = omega arith in
          let w : ((d - 1) + (d - 1)) + k - (d - 1) - (d - 1) ≡ k = omega arith in
          rw z (h (((d - 1) + (d - 1)) + k) ∙ turn-skip d ds v rest (((d - 1) + (d - 1)) + k) (omega arith) ∙ ap (turn_of ds rest) w)

-- the tree of a function, at present states that begin with some values
pub leaf_under-seek : (sizes : List ℕ) (wants : Leaf → Bool) (first : List ℕ) (g : List ℕ → Leaf) → AllPositive (slots sizes) → AreFirst sizes first
    → leaf_under sizes wants first (tree_of (slots sizes) 0 g) ≡ seek wants sizes first g
leaf_under-seek sizes wants first g o f =
    under-from sizes wants first sizes first 0 g o f (λ k. let z : 0 + k ≡ k = omega arith in ap (turn_of sizes first) z)

-- at a whole present state it is the first leaf in the order of the next states
pub seek-state : (wants : Leaf → Bool) (ds s : List ℕ) (g : List ℕ → Leaf) → IsState ds s → seek wants ds s g ≡ find wants (map (λ t. g (point s t)) (states ds))
seek-state wants [] [] g i = refl
seek-state wants [] (v ∷ s) g i = absurd i
seek-state wants (d ∷ ds) [] g i = absurd i
seek-state wants (d ∷ ds) (v ∷ s) g i =
    ap (first_below d) (λ k y. (seek-state wants ds s (λ p. g (y ∷ v ∷ p)) i.1 ∙ row y (states ds)) k)
    ∙ sym (find-rows wants (λ y. map (λ t. g (point (v ∷ s) t)) (map (λ t. y ∷ t) (states ds))) d)
    ∙ ap (find wants) (rows (numbers_below d))
  where
    row : (y : ℕ) (ts : List (List ℕ)) → find wants (map (λ t. g (y ∷ v ∷ point s t)) ts) ≡ find wants (map (λ t. g (point (v ∷ s) t)) (map (λ t. y ∷ t) ts))
    row y [] = refl
    row y (t ∷ ts) = ap (λ o. cond (wants (g (y ∷ v ∷ point s t))) (Some (g (y ∷ v ∷ point s t))) o) (row y ts)

    rows : (ys : List ℕ) → flat_map (λ y. map (λ t. g (point (v ∷ s) t)) (map (λ t. y ∷ t) (states ds))) ys ≡ map (λ t. g (point (v ∷ s) t)) (flat_map (λ y. map (λ t. y ∷ t) (states ds)) ys)
    rows [] = refl
    rows (y ∷ ys) =
        ap (λ zs. map (λ t. g (point (v ∷ s) t)) (map (λ t. y ∷ t) (states ds)) ++ zs) (rows ys)
        ∙ sym (map-append (λ t. g (point (v ∷ s) t)) (map (λ t. y ∷ t) (states ds)) (flat_map (λ z. map (λ t. z ∷ t) (states ds)) ys))
