-- What is found along a diagram is the first pair of states of its function.
use Rattle.std.proofs.Common.{◌≡◌, ℕ, suc, ◌-◌, ◌<◌, Bool, true, false, cond, List, [], ◌∷◌, ◌++◌, length, get_or, take, drop, map, flat_map, find, Option, Some, None, refl, sym, ◌∙◌, ap, subst, arith}
use Rattle.std.specs.Prelude.{option_map}
use Rattle.std.specs.Option.{is_some, option_or, option_and_then}
use Rattle.std.proofs.Math.Seq.{drop-cons, take-append_seam}
use Rattle.std.proofs.lemmas.List.{length-append}
use Rattle.std.proofs.Math.ListN.{drop_of_length-le}
use Rattle.std.proofs.lemmas.List.Folds.{find-append}
use Rattle.spd_model.specs.States.{states, IsState}
use Rattle.spd_nodes.specs.declared.leaf.Leaf.{Leaf}
use Rattle.spd_nodes.specs.Levels.{slots, AllPositive}
use Rattle.spd_nodes.specs.States.{Function, function_of}
use Rattle.spd_nodes.specs.Trees.{Tree, value_at, tree_of}
use Rattle.spd_search.specs.declared.found.Found.{Found}
use Rattle.spd_search.specs.Found.{found_at, first_found}
use Rattle.spd_search.specs.inner.Looking.{leaf_in, leaf_under}
use Rattle.spd_search.specs.inner.Settling.{AreFirst, Settles}
use Rattle.spd_search.proofs.Firsts.{first_state, find-states, first_state-agree, any_below-some}
use Rattle.spd_search.proofs.SeekLaws.{seek, leaf_in-seek, leaf_under-seek, seek-state}
use Rattle.spd_search.proofs.WalkLaws.{splits-seek, Walks, walks-start, walks-next, walks-end, no-state, first-push, first-state, splits-at}

-- ---- lists

module _ (wants : Leaf → Bool) (f : Function) (ts : List (List ℕ)) where
  -- a present state with the first leaf there
  there : List ℕ → Option Found
  there s = option_map (λ a. record { state = s; leaf = a }) (find wants (map (λ t. f s t) ts))

  row : (s : List ℕ) (us : List (List ℕ)) → option_map (found_at f) (find (λ p. wants (f p.0 p.1)) (map (λ t. (s, t)) us)) ≡ option_map (λ a. record { state = s; leaf = a }) (find wants (map (λ t. f s t) us))
  row s [] = refl
  row s (u ∷ us) = go (wants (f s u)) (row s us)
    where
      go : (b : Bool)
          → option_map (found_at f) (find (λ p. wants (f p.0 p.1)) (map (λ t. (s, t)) us)) ≡ option_map (λ a. record { state = s; leaf = a }) (find wants (map (λ t. f s t) us))
          → option_map (found_at f) (cond b (Some (s, u)) (find (λ p. wants (f p.0 p.1)) (map (λ t. (s, t)) us))) ≡ option_map (λ a. record { state = s; leaf = a }) (cond b (Some (f s u)) (find wants (map (λ t. f s t) us)))
      go true ih = refl
      go false ih = ih

  -- the first pair is in the row of the first state that has a leaf
  found-rows : (xs : List (List ℕ))
      → option_map (found_at f) (find (λ p. wants (f p.0 p.1)) (flat_map (λ s. map (λ t. (s, t)) ts) xs))
      ≡ option_and_then (λ s. option_map (λ a. record { state = s; leaf = a }) (find wants (map (λ t. f s t) ts))) (find (λ s. is_some (find wants (map (λ t. f s t) ts))) xs)
  found-rows [] = refl
  found-rows (x ∷ xs) =
      ap (option_map (found_at f)) (find-append (λ p. wants (f p.0 p.1)) (map (λ t. (x, t)) ts) (flat_map (λ s. map (λ t. (s, t)) ts) xs))
      ∙ go (find (λ p. wants (f p.0 p.1)) (map (λ t. (x, t)) ts)) (find wants (map (λ t. f x t) ts)) refl (row x ts) (found-rows xs)
    where
      B : Option (List ℕ × List ℕ)
      B = find (λ p. wants (f p.0 p.1)) (flat_map (λ s. map (λ t. (s, t)) ts) xs)

      R : Option (List ℕ)
      R = find (λ s. is_some (find wants (map (λ t. f s t) ts))) xs

      K : List ℕ → Option Found
      K s = option_map (λ a. record { state = s; leaf = a }) (find wants (map (λ t. f s t) ts))

      go : (a : Option (List ℕ × List ℕ)) (o : Option Leaf) → find wants (map (λ t. f x t) ts) ≡ o → option_map (found_at f) a ≡ option_map (λ l. record { state = x; leaf = l }) o
          → option_map (found_at f) (find (λ p. wants (f p.0 p.1)) (flat_map (λ s. map (λ t. (s, t)) ts) xs)) ≡ option_and_then (λ s. option_map (λ a. record { state = s; leaf = a }) (find wants (map (λ t. f s t) ts))) (find (λ s. is_some (find wants (map (λ t. f s t) ts))) xs)
          → option_map (found_at f) (option_or a (find (λ p. wants (f p.0 p.1)) (flat_map (λ s. map (λ t. (s, t)) ts) xs)))
          ≡ option_and_then (λ s. option_map (λ a. record { state = s; leaf = a }) (find wants (map (λ t. f s t) ts))) (cond (is_some o) (Some x) (find (λ s. is_some (find wants (map (λ t. f s t) ts))) xs))
      go None None e h rest = rest
      go (Some p) (Some l) e h rest = h ∙ ap (option_map (λ l. record { state = x; leaf = l })) (sym e)
      go None (Some l) e h rest = absurd (cc h)
      go (Some p) None e h rest = absurd (cc h)

-- ---- diagrams

-- whether a tree has a leaf that is wanted at some present state that begins with these values
abbrev pub finds : List ℕ → (Leaf → Bool) → Tree → List ℕ → Bool
finds sizes wants tree first = is_some (seek wants sizes first (value_at (slots sizes) 0 tree))

-- The values so far begin the first state with a leaf that is wanted, and some such leaf follows them, first this one.
pub record Along (sizes : List ℕ) (wants : Leaf → Bool) (tree : Tree) (first : List ℕ) (leaf : Leaf) : Type 0 where
  pub given : AreFirst sizes first
  pub here : leaf_under sizes wants first tree ≡ Some leaf
  pub walks : Walks sizes (finds sizes wants tree) first (drop (length first) sizes)

module _ (sizes : List ℕ) (wants : Leaf → Bool) (tree : Tree) (o : AllPositive (slots sizes)) (is : tree_of (slots sizes) 0 (value_at (slots sizes) 0 tree) ≡ tree) where
  look-seek : (first : List ℕ) → AreFirst sizes first → leaf_under sizes wants first tree ≡ seek wants sizes first (value_at (slots sizes) 0 tree)
  look-seek first f = ap (leaf_under sizes wants first) (sym is) ∙ leaf_under-seek sizes wants first (value_at (slots sizes) 0 tree) o f

  all-seek : leaf_in wants tree ≡ seek wants sizes [] (value_at (slots sizes) 0 tree)
  all-seek = ap (leaf_in wants) (sym is) ∙ leaf_in-seek wants sizes 0 (value_at (slots sizes) 0 tree) o

  -- what is found, by the first state that has a leaf
  found-by : (s : Option (List ℕ)) → first_state sizes (finds sizes wants tree) ≡ s
      → first_found sizes wants (function_of sizes tree)
      ≡ option_and_then (λ s. option_map (λ a. record { state = s; leaf = a }) (find wants (map (λ t. function_of sizes tree s t) (states sizes)))) s
  found-by s e =
      found-rows wants (function_of sizes tree) (states sizes) (states sizes)
      ∙ ap (option_and_then (λ s. option_map (λ a. record { state = s; leaf = a }) (find wants (map (λ t. function_of sizes tree s t) (states sizes)))))
      (find-states sizes (λ s. is_some (find wants (map (λ t. function_of sizes tree s t) (states sizes))))
      ∙ first_state-agree sizes (λ s. is_some (find wants (map (λ t. function_of sizes tree s t) (states sizes)))) (finds sizes wants tree)
      (λ s i. ap is_some (sym (seek-state wants sizes s (value_at (slots sizes) 0 tree) i)))
      ∙ e)

  -- no leaf that is wanted, at no state
  pub found-nowhere : (found : Option Leaf) → found ≡ leaf_in wants tree → found ≡ None → None ≡ first_found sizes wants (function_of sizes tree)
  found-nowhere found e h =
      let none : finds sizes wants tree [] ≡ false = ap is_some (sym all-seek ∙ sym e ∙ h) in
      sym (found-by None (no-state sizes (finds sizes wants tree) (splits-seek wants sizes (value_at (slots sizes) 0 tree)) none))

  pub along-start : (leaf : Leaf) → leaf_in wants tree ≡ Some leaf → Along sizes wants tree [] leaf
  along-start leaf h = record {
    given = tt;
    here = look-seek [] tt ∙ sym all-seek ∙ h;
    walks = walks-start sizes (finds sizes wants tree) (splits-seek wants sizes (value_at (slots sizes) 0 tree));
  }

  pub along-next : (first new : List ℕ) (leaf next : Leaf) → Along sizes wants tree first leaf → length first < length sizes → Settles sizes wants tree first new next → Along sizes wants tree new next
  along-next first new leaf next a h s = subst (λ (l : List ℕ). Along sizes wants tree l next) (sym s.values) (record {
    given = given;
    here = rw s.values at s.here;
    walks = subst (λ (l : List ℕ). Walks sizes (finds sizes wants tree) (first ++ s.value ∷ []) l) left (walks-next sizes (finds sizes wants tree) first (get_or sizes (length first) 0) (drop (suc (length first)) sizes) s.value walks s.within found before);
  })
    where
      given : AreFirst sizes (first ++ s.value ∷ [])
      given = first-push sizes first s.value a.given h s.within

      walks : Walks sizes (finds sizes wants tree) first (get_or sizes (length first) 0 ∷ drop (suc (length first)) sizes)
      walks = subst (λ (l : List ℕ). Walks sizes (finds sizes wants tree) first l) (drop-cons sizes (length first) 0 h) a.walks

      left : drop (suc (length first)) sizes ≡ drop (length (first ++ s.value ∷ [])) sizes
      left = let e : suc (length first) ≡ length (first ++ s.value ∷ []) = omega (arith, length-append first (s.value ∷ [])) in ap (λ (n : ℕ). drop n sizes) e

      found : finds sizes wants tree (first ++ s.value ∷ []) ≡ true
      found = ap is_some (sym (look-seek (first ++ s.value ∷ []) given) ∙ rw s.values at s.here)

      before : (j : ℕ) → j < s.value → finds sizes wants tree (first ++ j ∷ []) ≡ false
      before j i =
          let f : AreFirst sizes (first ++ j ∷ []) = first-push sizes first j a.given h (omega (arith, s.within)) in
          ap is_some (sym (look-seek (first ++ j ∷ []) f) ∙ s.before j i)

  pub along-end : (state kept first : List ℕ) (leaf : Leaf) → state ≡ kept → kept ≡ first → Along sizes wants tree first leaf → length first ≡ length sizes
      → Some (record { state = state; leaf = leaf }) ≡ first_found sizes wants (function_of sizes tree)
  along-end state kept first leaf i j a h =
      let is_state : IsState sizes first = first-state sizes first a.given h in
      let none : drop (length first) sizes ≡ [] = drop_of_length-le sizes (omega arith) in
      let found : finds sizes wants tree first ≡ true = ap is_some (sym (look-seek first a.given) ∙ a.here) in
      let walks : Walks sizes (finds sizes wants tree) first [] = rw none at a.walks in
      let at : find wants (map (λ t. function_of sizes tree first t) (states sizes)) ≡ Some leaf = sym (seek-state wants sizes first (value_at (slots sizes) 0 tree) is_state) ∙ sym (look-seek first a.given) ∙ a.here in
      let same : state ≡ first = i ∙ j in
      rw same (sym (found-by (Some first) (walks-end sizes (finds sizes wants tree) first walks found) ∙ ap (option_map (λ a. record { state = first; leaf = a })) at))

  -- with a leaf below the values so far there is one below them with some value more
  pub some-value : (first : List ℕ) → AreFirst sizes first → length first < length sizes → is_some (leaf_under sizes wants first tree) ≡ true
      → ((v : ℕ) → v < get_or sizes (length first) 0 → leaf_under sizes wants (first ++ v ∷ []) tree ≡ None) → ⊥
  some-value first f h e none =
      any_below-some (get_or sizes (length first) 0) (λ v. finds sizes wants tree (first ++ v ∷ []))
      (sym (splits-at sizes (finds sizes wants tree) first (splits-seek wants sizes (value_at (slots sizes) 0 tree)) h) ∙ ap is_some (sym (look-seek first f)) ∙ e)
      (λ v i. ap is_some (sym (look-seek (first ++ v ∷ []) (first-push sizes first v f h i)) ∙ none v i))

-- nothing at a value more, which was pushed
pub none-here : (sizes : List ℕ) (wants : Leaf → Bool) (tree : Tree) (looked pushed new : List ℕ) (found : Option Leaf) → looked ≡ pushed → pushed ≡ new → found ≡ leaf_under sizes wants looked tree
    → found ≡ None → leaf_under sizes wants new tree ≡ None
none-here sizes wants tree looked pushed new found a b e none = ap (λ (l : List ℕ). leaf_under sizes wants l tree) (sym (a ∙ b)) ∙ sym e ∙ none

-- a value that was pushed and popped
pub popped : (old pushed new : List ℕ) (v n : ℕ) → pushed ≡ old ++ v ∷ [] → n ≡ length pushed → new ≡ take (n - 1) pushed → new ≡ old
popped old pushed new v n p e t =
    let count : n - 1 ≡ length old = omega (arith, ap length p, length-append old (v ∷ [])) in
    t ∙ ap (λ (k : ℕ). take k pushed) count ∙ ap (take (length old)) p ∙ take-append_seam old (v ∷ [])
