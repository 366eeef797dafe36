-- Bounds that agree with others have the same best; and the best bounds and the policy of a process.
use Rattle.std.proofs.Common.{◌≡◌, ℕ, zero, suc, List, [], ◌∷◌, ◌++◌, map, flat_map, length, take, refl, sym, ◌∙◌, ap, subst, ℤ, pos, Result, Ok, Err, IfOk, IfErr, All}
use Rattle.std.proofs.lemmas.List.Elements.{All-nil, All-cons}
use Rattle.std.specs.List.{AllZip}
use Rattle.spd_cons_core.specs.declared.key.Entry.{Entry}
use Rattle.spd_model.specs.declared.process.Action.{Action}
use Rattle.spd_model.specs.Process.{Process}
use Rattle.spd_model.specs.Numbers.{numbers_below, greatest, first_place}
use Rattle.spd_model.specs.States.{IsState}
use Rattle.spd_model.specs.Backup.{low_of, high_of, best_low, best_high, policy_of}
use Rattle.spd_nodes.specs.declared.forest.StoreFault.{StoreFault}
use Rattle.spd_nodes.specs.declared.leaf.Leaf.TheVariants.{Num, Pair, Act}
use Rattle.spd_nodes.specs.Shown.{Shown, IsSound, StandsFor, MakesOnly, Faults, FaultsAt, meaning}
use Rattle.spd_nodes.specs.States.{Function, Agree, test_tree, test_trees}
use Rattle.spd_nodes.proofs.CallerLemmas.{positive-slots, test_tree-agree}
use Rattle.spd_restrict.specs.Chosen.{function_at}
use Rattle.spd_weigh.specs.declared.way.Way.TheVariants.{Down, Up}
use Rattle.spd_weigh.specs.Leaves.{number_of}
use Rattle.spd_build.specs.Functions.{numbers}
use Rattle.spd_backup.specs.declared.backing.Bounds.{Bounds}
use Rattle.spd_backup.specs.Expected.{bound, AreBounds}
use Rattle.spd_policy.specs.declared.chosen.Best.{Best}
use Rattle.spd_policy.specs.Best.{numbers_at, greatest_of, policy_by, choosing_functions, best_functions, lows_of, highs_of, lows_in, highs_in, AreBest, MakesBest, MakesBestOf, lower_bounds, upper_bounds, AreBoundsOf, MakesPolicy, IsNum, IsNumeric, AreNumeric}

-- two lists of functions agree one by one
abbrev pub AllAgree : List ℕ → List Function → List Function → Type 0
AllAgree sizes fs gs = AllZip (Agree sizes) fs gs

module _ (sizes : List ℕ) where
  agree-same : (f : Function) → Agree sizes f f
  agree-same f = record { at = λ x y p q. refl }

  agree-numbers : (fs gs : List Function) → AllAgree sizes fs gs → (x y : List ℕ) → IsState sizes x → IsState sizes y → numbers_at fs x y ≡ numbers_at gs x y
  agree-numbers [] [] h x y p q = refl
  agree-numbers [] (g ∷ gs) h x y p q = absurd h
  agree-numbers (f ∷ fs) [] h x y p q = absurd h
  agree-numbers (f ∷ fs) (g ∷ gs) h x y p q =
      let a = h.0 in
      let here : number_of (f x y) ≡ number_of (g x y) = ap number_of (a.at x y p q) in
      let rest : numbers_at fs x y ≡ numbers_at gs x y = agree-numbers fs gs h.1 x y p q in
      λ i. here i ∷ rest i

  agree-length : (fs gs : List Function) → AllAgree sizes fs gs → length fs ≡ length gs
  agree-length [] [] h = refl
  agree-length [] (g ∷ gs) h = absurd h
  agree-length (f ∷ fs) [] h = absurd h
  agree-length (f ∷ fs) (g ∷ gs) h = ap suc (agree-length fs gs h.1)

  agree-take : (n : ℕ) (fs gs : List Function) → AllAgree sizes fs gs → AllAgree sizes (take n fs) (take n gs)
  agree-take zero fs gs h = tt
  agree-take (suc n) [] [] h = tt
  agree-take (suc n) [] (g ∷ gs) h = absurd h
  agree-take (suc n) (f ∷ fs) [] h = absurd h
  agree-take (suc n) (f ∷ fs) (g ∷ gs) h = (h.0, agree-take n fs gs h.1)

  agree-at : (n : ℕ) (fs gs : List Function) → AllAgree sizes fs gs → Agree sizes (function_at fs n) (function_at gs n)
  agree-at n [] [] h = agree-same (λ s t. Act 0)
  agree-at n [] (g ∷ gs) h = absurd h
  agree-at n (f ∷ fs) [] h = absurd h
  agree-at zero (f ∷ fs) (g ∷ gs) h = h.0
  agree-at (suc n) (f ∷ fs) (g ∷ gs) h = agree-at n fs gs h.1

  agree-append : (fs gs ks ls : List Function) → AllAgree sizes fs gs → AllAgree sizes ks ls → AllAgree sizes (fs ++ ks) (gs ++ ls)
  agree-append [] [] ks ls h k = k
  agree-append [] (g ∷ gs) ks ls h k = absurd h
  agree-append (f ∷ fs) [] ks ls h k = absurd h
  agree-append (f ∷ fs) (g ∷ gs) ks ls h k = (h.0, agree-append fs gs ks ls h.1 k)

  agree-flat : (f g : ℕ → List Function) → ((n : ℕ) → AllAgree sizes (f n) (g n)) → (ns : List ℕ) → AllAgree sizes (flat_map f ns) (flat_map g ns)
  agree-flat f g h [] = tt
  agree-flat f g h (n ∷ ns) = agree-append (f n) (g n) (flat_map f ns) (flat_map g ns) (h n) (agree-flat f g h ns)

  -- what is chosen of functions that agree
  agree-greatest : (fs gs : List Function) → AllAgree sizes fs gs → Agree sizes (greatest_of fs) (greatest_of gs)
  agree-greatest fs gs h = record { at = λ x y p q. ap (λ z. Num (greatest z)) (agree-numbers fs gs h x y p q) }

  agree-policy : (fs gs : List Function) → AllAgree sizes fs gs → Agree sizes (policy_by fs) (policy_by gs)
  agree-policy fs gs h = record { at = λ x y p q. ap (λ z. Act (first_place (greatest z) z)) (agree-numbers fs gs h x y p q) }

  module _ (fs gs hs ks : List Function) (low : AllAgree sizes fs gs) (high : AllAgree sizes hs ks) where
    agree-choosing : (n : ℕ) → AllAgree sizes (choosing_functions fs hs n) (choosing_functions gs ks n)
    agree-choosing n = (
      agree-same (λ s t. Num (pos n)),
      (
        record { at = λ x y p q. ap (λ l. Pair (number_of l) (pos n)) ((agree-at n fs gs low).at x y p q) },
        (
          record { at = λ x y p q. ap (λ z. Pair (greatest z) (pos (first_place (greatest z) z))) (agree-numbers (take (suc n) fs) (take (suc n) gs) (agree-take (suc n) fs gs low) x y p q) },
          (agree-greatest (take (suc n) hs) (take (suc n) ks) (agree-take (suc n) hs ks high), tt),
        ),
      ),
    )

    agree-best : AllAgree sizes (best_functions fs hs) (best_functions gs ks)
    agree-best =
        let ends : AllAgree sizes (greatest_of fs ∷ policy_by fs ∷ []) (greatest_of gs ∷ policy_by gs ∷ []) = (agree-greatest fs gs low, (agree-policy fs gs low, tt)) in
        subst (λ n. AllAgree sizes (best_functions fs hs) (flat_map (choosing_functions gs ks) (numbers_below n) ++ greatest_of gs ∷ policy_by gs ∷ [])) (agree-length fs gs low)
        (agree-append (flat_map (choosing_functions fs hs) (numbers_below (length fs))) (flat_map (choosing_functions gs ks) (numbers_below (length fs))) _ _
        (agree-flat (choosing_functions fs hs) (choosing_functions gs ks) agree-choosing (numbers_below (length fs))) ends)

-- functions that agree have one test tree
module _ (s : Shown) (o : IsSound s) where
  tree-agrees : (f g : Function) → Agree s.sizes f g → test_tree s.sizes f ≡ test_tree s.sizes g
  tree-agrees f g h = test_tree-agree s.sizes (positive-slots s.sizes o.layout.values) f g h

  trees-agree : (fs gs : List Function) → AllAgree s.sizes fs gs → test_trees s.sizes fs ≡ test_trees s.sizes gs
  trees-agree [] [] h = refl
  trees-agree [] (g ∷ gs) h = absurd h
  trees-agree (f ∷ fs) [] h = absurd h
  trees-agree (f ∷ fs) (g ∷ gs) h =
      let here : test_tree s.sizes f ≡ test_tree s.sizes g = tree-agrees f g h.0 in
      let rest : test_trees s.sizes fs ≡ test_trees s.sizes gs = trees-agree fs gs h.1 in
      λ i. here i ∷ rest i

  stands-agrees : (t : Shown) (sizes : t.sizes ≡ s.sizes) (r : Entry) (f g : Function) → Agree s.sizes f g → StandsFor t r f → StandsFor t r g
  stands-agrees t sizes r f g h k = record {
    knows = k.knows;
    whole = k.whole;
    value = record { at = λ x y p q. k.value.at x y p q ∙ h.at x y (rw sizes at p) (rw sizes at q) };
    tree = k.tree ∙ subst (λ (z : List ℕ). test_tree z f ≡ test_tree z g) (sym sizes) (tree-agrees f g h);
  }

  -- the best of bounds that agree
  module _ {low high act low' high' act' : Function} {nodes nodes' : List Function} (l : Agree s.sizes low low') (h : Agree s.sizes high high') (a : Agree s.sizes act act') (n : AllAgree s.sizes nodes nodes') where
    best-agrees : (t : Shown) (r : Result Best StoreFault) → MakesBest low high act nodes s t r → MakesBest low' high' act' nodes' s t r
    best-agrees t r m = record {
      sound = m.sound;
      grows = m.grows;
      ok = on-ok r m.ok;
      makes = subst (λ ts. MakesOnly s t ts) (trees-agree nodes nodes' n) m.makes;
      fault = on-err r m.fault;
    }
      where
        on-ok : (r : Result Best StoreFault) → IfOk r (AreBest low high act t) → IfOk r (AreBest low' high' act' t)
        on-ok (Ok b) k = record {
          low = stands-agrees t m.grows.sizes b.low low low' l k.low;
          high = stands-agrees t m.grows.sizes b.high high high' h k.high;
          act = stands-agrees t m.grows.sizes b.act act act' a k.act;
        }
        on-ok (Err e) k = tt

        there : test_trees t.sizes nodes ≡ test_trees t.sizes nodes'
        there = subst (λ (z : List ℕ). test_trees z nodes ≡ test_trees z nodes') (sym m.grows.sizes) (trees-agree nodes nodes' n)

        on-err : (r : Result Best StoreFault) → IfErr r (λ e. FaultsAt e t nodes) → IfErr r (λ e. FaultsAt e t nodes')
        on-err (Ok b) k = tt
        on-err (Err e) k = subst (λ ts. Faults e t ts) there k

-- ---- the bounds of a process

-- entries agree with what they stand for
zip-agrees : (s : Shown) (rs : List Entry) (fs : List Function) → AllZip (StandsFor s) rs fs → AllAgree s.sizes (map (meaning s) rs) fs
zip-agrees s [] [] h = tt
zip-agrees s [] (f ∷ fs) h = absurd h
zip-agrees s (r ∷ rs) [] h = absurd h
zip-agrees s (r ∷ rs) (f ∷ fs) h = let k = h.0 in (k.value, zip-agrees s rs fs h.1)

module _ (m : Process) (w : List ℕ → ℤ) (x y : List ℕ) where
  low-numbers : (actions : List Action) → numbers_at (map (λ a. bound Down m a w) actions) x y ≡ map (λ a. low_of m w a x) actions
  low-numbers [] = refl
  low-numbers (a ∷ actions) = ap (λ z. low_of m w a x ∷ z) (low-numbers actions)

  high-numbers : (actions : List Action) → numbers_at (map (λ a. bound Up m a w) actions) x y ≡ map (λ a. high_of m w a x) actions
  high-numbers [] = refl
  high-numbers (a ∷ actions) = ap (λ z. high_of m w a x ∷ z) (high-numbers actions)

  pub low-is : greatest_of (lower_bounds m w) x y ≡ Num (best_low m w x)
  low-is = ap (λ z. Num (greatest z)) (low-numbers m.actions)

  pub high-is : greatest_of (upper_bounds m w) x y ≡ Num (best_high m w x)
  high-is = ap (λ z. Num (greatest z)) (high-numbers m.actions)

  pub policy-is : policy_by (lower_bounds m w) x y ≡ Act (policy_of m w x)
  policy-is = ap (λ z. Act (first_place (greatest z) z)) (low-numbers m.actions)

-- the best of the bounds of a process
pub makes-policy : (m : Process) (w : List ℕ → ℤ) (s t : Shown) (bounds : List Bounds) (r : Result Best StoreFault) → IsSound s → AreBoundsOf m w s bounds → MakesBestOf (lows_in s bounds) (highs_in s bounds) s t r → MakesPolicy m w s t r
makes-policy m w s t bounds r o b made =
    let low : AllAgree s.sizes (lows_in s bounds) (lower_bounds m w) = zip-agrees s (lows_of bounds) (lower_bounds m w) b.low in
    let high : AllAgree s.sizes (highs_in s bounds) (upper_bounds m w) = zip-agrees s (highs_of bounds) (upper_bounds m w) b.high in
    best-agrees s o {nodes = best_functions (lows_in s bounds) (highs_in s bounds)} {nodes' = best_functions (lower_bounds m w) (upper_bounds m w)}
    (record { at = λ x y p q. (agree-greatest s.sizes (lows_in s bounds) (lower_bounds m w) low).at x y p q ∙ low-is m w x y })
    (record { at = λ x y p q. (agree-greatest s.sizes (highs_in s bounds) (upper_bounds m w) high).at x y p q ∙ high-is m w x y })
    (record { at = λ x y p q. (agree-policy s.sizes (lows_in s bounds) (lower_bounds m w) low).at x y p q ∙ policy-is m w x y })
    (agree-best s.sizes (lows_in s bounds) (lower_bounds m w) (highs_in s bounds) (upper_bounds m w) low high) t r made

-- entries that stand for numbers have numbers
numeric-stands : (s : Shown) (r : Entry) (f : List ℕ → List ℕ → ℤ) → StandsFor s r (numbers f) → IsNumeric s r
numeric-stands s r f h = record { known = h.knows; whole = h.whole; numbers = λ x y p q. subst IsNum (sym (h.value.at x y p q)) tt }

module _ (m : Process) (w : List ℕ → ℤ) (s : Shown) where
  numeric-zip : (bs : List Bounds) (actions : List Action) → AllZip (StandsFor s) (lows_of bs) (map (λ a. bound Down m a w) actions) → AllZip (StandsFor s) (highs_of bs) (map (λ a. bound Up m a w) actions) → All (AreNumeric s) bs
  numeric-zip [] actions l h = All-nil (AreNumeric s)
  numeric-zip (b ∷ bs) [] l h = absurd l
  numeric-zip (b ∷ bs) (a ∷ actions) l h = All-cons (AreNumeric s) b bs (record { lower = numeric-stands s b.lo _ l.0; upper = numeric-stands s b.hi _ h.0 }) (numeric-zip bs actions l.1 h.1)

  -- the bounds of a process are numbers
  pub bounds-numeric : (bounds : List Bounds) → AreBoundsOf m w s bounds → All (AreNumeric s) bounds
  bounds-numeric bounds b = numeric-zip bounds m.actions b.low b.high

  low-zip : (bs : List Bounds) (actions : List Action) → AllZip (λ b a. AreBounds m a w s b) bs actions → AllZip (StandsFor s) (lows_of bs) (map (λ a. bound Down m a w) actions)
  low-zip [] [] h = tt
  low-zip [] (a ∷ actions) h = absurd h
  low-zip (b ∷ bs) [] h = absurd h
  low-zip (b ∷ bs) (a ∷ actions) h = let k = h.0 in (k.low, low-zip bs actions h.1)

  high-zip : (bs : List Bounds) (actions : List Action) → AllZip (λ b a. AreBounds m a w s b) bs actions → AllZip (StandsFor s) (highs_of bs) (map (λ a. bound Up m a w) actions)
  high-zip [] [] h = tt
  high-zip [] (a ∷ actions) h = absurd h
  high-zip (b ∷ bs) [] h = absurd h
  high-zip (b ∷ bs) (a ∷ actions) h = let k = h.0 in (k.high, high-zip bs actions h.1)

  -- what backing up all actions in file order gives
  pub bounds-of : (bounds : List Bounds) → AllZip (λ b a. AreBounds m a w s b) bounds m.actions → AreBoundsOf m w s bounds
  bounds-of bounds h = record { low = low-zip bounds m.actions h; high = high-zip bounds m.actions h }
