-- What thawing lists of nodes makes, and what a process's lists stand for.
use Rattle.std.proofs.Common.{◌≡◌, ℕ, zero, suc, ◌+◌, ◌<◌, ◌≤◌, List, [], ◌∷◌, ◌++◌, length, map, take, get_or, refl, sym, ◌∙◌, ap, subst, arith, inl, inr, Result, Ok, Err, IfOk, IfErr, All}
use Rattle.std.specs.List.{AllZip}
use Rattle.std.proofs.lemmas.List.{get_or-map, get_or-take, length-map, take_more, take_more_same}
use Rattle.std.proofs.lemmas.List.Elements.{All-nil, All-cons, All-weaker}
use Rattle.spd_cons_core.specs.declared.key.Entry.{Entry}
use Rattle.spd_model.specs.declared.process.Action.{Action}
use Rattle.spd_model.specs.Process.{Process}
use Rattle.spd_model.specs.Chances.{IsValid, reward_of}
use Rattle.spd_model.specs.Lawful.{IsLawful}
use Rattle.spd_model.specs.States.{sizes}
use Rattle.spd_nodes.specs.declared.forest.StoreFault.{StoreFault}
use Rattle.spd_nodes.specs.declared.leaf.Leaf.TheVariants.{Num, Act}
use Rattle.spd_nodes.specs.Levels.{AllPositive, slots}
use Rattle.spd_nodes.specs.Made.{MakesAll}
use Rattle.spd_nodes.specs.Shown.{Shown, IsSound, Grows, MakesOnly, Faults, FaultsAt, StandsFor}
use Rattle.spd_nodes.specs.States.{Function, Agree, point, plain_part, primed_part, test_trees}
use Rattle.spd_nodes.specs.Trees.{Tree}
use Rattle.spd_nodes.proofs.CallerLemmas.{Among, IsIn, IsState-point, among-back, among-front, fault-wider, has-then, has-wider, positive-slots, stand-grow, stand-length, stand-push, test_tree-agree, within-in, plain_part-point, primed_part-point}
use Rattle.spd_restrict.specs.Chosen.{function_at}
use Rattle.spd_frozen.specs.Fits.{FitsSizes}
use Rattle.spd_frozen.specs.Mixed.{mixed_of}
use Rattle.spd_frozen.specs.Thawing.{frozen_function, mixed_function}
use Rattle.spd_frozen.proofs.CallerLemmas.{ArePositive, frozen-fits, frozen-leaf_at}
use Rattle.spd_build.specs.declared.built.Built.{Built}
use Rattle.spd_build.specs.Built.{IsBuilt, frozen_numbers}
use Rattle.spd_build.specs.Functions.{all_weights, reward}
use Rattle.spd_backup.specs.declared.thawed.Thawed.{Thawed}
use Rattle.spd_backup.specs.Thawing.{IsThawedOf}
use Rattle.spd_backup.specs.FromBuilt.{listed_weights, listed_rewards, thaw_functions, process_functions, IsThawedFrom, ThawsProcess}

-- ---- lists one after the other

-- two lists go on to be alike
pub same-next : {A X : Type 0} (f : A → X) (xs ys : List A) (i : ℕ) (a b : A) → length xs ≡ length ys → i < length xs → a ≡ get_or xs i a → b ≡ get_or ys i b → f a ≡ f b → take i (map f xs) ≡ take i (map f ys)
    → take (i + 1) (map f xs) ≡ take (i + 1) (map f ys)
same-next f xs ys i a b long near ea eb same h =
    let near' : i < length ys = omega arith in
    take_more_same (map f xs) (map f ys) i (f a) (omega (arith, length-map xs f)) (omega (arith, length-map ys f)) h
    (get_or-map f xs i a (f a) near ∙ ap f (sym ea) ∙ same ∙ ap f eb ∙ sym (get_or-map f ys i b (f a) near'))

-- ---- a function of a list

at-in : (fs : List Function) (i : ℕ) → i < length fs → IsIn (function_at fs i) fs
at-in [] i b = absurd (omega arith)
at-in (f ∷ fs) zero b = inl refl
at-in (f ∷ fs) (suc i) b = inr (at-in fs i (omega arith))

-- its nodes are nodes of the list
pub among-at : (fs : List Function) (i : ℕ) → i < length fs → Among (function_at fs i ∷ []) fs
among-at fs i b = record { nodes = λ sizes. within-in sizes (function_at fs i) fs (at-in fs i b) }

stands-each : (s : Shown) (rs : List Entry) (fs : List Function) (i : ℕ) (d : Entry) (e : Function) → AllZip (StandsFor s) rs fs → i < length fs → StandsFor s (get_or rs i d) (get_or fs i e)
stands-each s [] [] i d e h b = absurd (omega arith)
stands-each s [] (f ∷ fs) i d e h b = absurd h
stands-each s (r ∷ rs) [] i d e h b = absurd h
stands-each s (r ∷ rs) (f ∷ fs) zero d e h b = h.0
stands-each s (r ∷ rs) (f ∷ fs) (suc i) d e h b = stands-each s rs fs i d e h.1 (omega arith)

take-long : (n : ℕ) (fs : List Function) (i : ℕ) → i < n → n ≤ length fs → i < length (take n fs)
take-long zero fs i b l = absurd (omega arith)
take-long (suc n) [] i b l = absurd (omega arith)
take-long (suc n) (f ∷ fs) zero b l = omega arith
take-long (suc n) (f ∷ fs) (suc i) b l = let more : i < length (take n fs) = take-long n fs i (omega arith) (omega arith) in omega arith

pub refs-long : (s : Shown) (rs : List Entry) (fs : List Function) (n i : ℕ) → AllZip (StandsFor s) rs (take n fs) → i < n → n ≤ length fs → i < length rs
refs-long s rs fs n i h b l = omega (arith, stand-length s rs (take n fs) h, take-long n fs i b l)

-- of entries for the first functions, one for an earlier function
pub stands-before : (s : Shown) (rs : List Entry) (fs : List Function) (n i : ℕ) (d : Entry) → AllZip (StandsFor s) rs (take n fs) → i < n → n ≤ length fs → StandsFor s (get_or rs i d) (function_at fs i)
stands-before s rs fs n i d h b l =
    subst (StandsFor s (get_or rs i d)) (get_or-take n fs i (λ x y. Act 0) b) (stands-each s rs (take n fs) i d (λ x y. Act 0) h (take-long n fs i b l))

-- entries for the first functions, and one for the next
pub stand-next : (s t : Shown) (rs : List Entry) (fs : List Function) (i : ℕ) (r : Entry) → Grows s t → AllZip (StandsFor s) rs (take i fs) → i < length fs → StandsFor t r (function_at fs i)
    → AllZip (StandsFor t) (rs ++ r ∷ []) (take (i + 1) fs)
stand-next s t rs fs i r g h b k =
    subst (AllZip (StandsFor t) (rs ++ r ∷ [])) (sym (take_more fs i (λ x y. Act 0) b))
    (stand-push t rs (take i fs) r (function_at fs i) (stand-grow g rs (take i fs) h) k)

-- ---- functions that agree one by one

zip-both : {X Y : Type 0} (R : X → Y → Type 0) (ws xs : List X) (ys zs : List Y) → AllZip R ws ys → AllZip R xs zs → AllZip R (ws ++ xs) (ys ++ zs)
zip-both R [] xs [] zs h k = k
zip-both R [] xs (y ∷ ys) zs h k = absurd h
zip-both R (w ∷ ws) xs [] zs h k = absurd h
zip-both R (w ∷ ws) xs (y ∷ ys) zs h k = (h.0, zip-both R ws xs ys zs h.1 k)

trees-agree : (sizes : List ℕ) → AllPositive (slots sizes) → (fs gs : List Function) → AllZip (Agree sizes) fs gs → test_trees sizes fs ≡ test_trees sizes gs
trees-agree sizes some [] [] h = refl
trees-agree sizes some [] (g ∷ gs) h = absurd h
trees-agree sizes some (f ∷ fs) [] h = absurd h
trees-agree sizes some (f ∷ fs) (g ∷ gs) h = λ i. test_tree-agree sizes some f g h.0 i ∷ trees-agree sizes some fs gs h.1 i

stands-agree : (s : Shown) → IsSound s → (r : Entry) (f g : Function) → StandsFor s r f → Agree s.sizes f g → StandsFor s r g
stands-agree s o r f g h k = record {
  knows = h.knows;
  whole = h.whole;
  value = record { at = λ x y p q. h.value.at x y p q ∙ k.at x y p q };
  tree = h.tree ∙ test_tree-agree s.sizes (positive-slots s.sizes o.layout.values) f g k;
}

stand-agree : (s : Shown) → IsSound s → (rs : List Entry) (fs gs : List Function) → AllZip (StandsFor s) rs fs → AllZip (Agree s.sizes) fs gs → AllZip (StandsFor s) rs gs
stand-agree s o [] [] [] h k = tt
stand-agree s o [] [] (g ∷ gs) h k = absurd k
stand-agree s o [] (f ∷ fs) gs h k = absurd h
stand-agree s o (r ∷ rs) [] gs h k = absurd h
stand-agree s o (r ∷ rs) (f ∷ fs) [] h k = absurd k
stand-agree s o (r ∷ rs) (f ∷ fs) (g ∷ gs) h k = (stands-agree s o r f g h.0 k.0, stand-agree s o rs fs gs h.1 k.1)

faults-same : {A : Type 0} (t : Shown) (fs gs : List Function) → test_trees t.sizes fs ≡ test_trees t.sizes gs → (r : Result A StoreFault) → IfErr r (λ e. FaultsAt e t fs) → IfErr r (λ e. FaultsAt e t gs)
faults-same t fs gs e (Ok x) h = tt
faults-same t fs gs e (Err v) h = subst (λ (ts : List Tree). Faults v t ts) e h

-- a call makes nodes of functions with the same test trees
all-same : {A : Type 0} (s t : Shown) (fs gs : List Function) → test_trees s.sizes fs ≡ test_trees s.sizes gs → (r : Result A StoreFault) → MakesAll s t fs r → MakesAll s t gs r
all-same s t fs gs e r h = record {
  made = record { sound = h.made.sound; grows = h.made.grows; makes = subst (λ (ts : List Tree). MakesOnly s t ts) e h.made.makes };
  fault = faults-same t fs gs (subst (λ (z : List ℕ). test_trees z fs ≡ test_trees z gs) (sym h.made.grows.sizes) e) r h.fault;
}

-- ---- the lists of a process

all-positive : (ds : List ℕ) → AllPositive ds → ArePositive ds
all-positive [] h = All-nil (λ d. 0 < d)
all-positive (d ∷ ds) h = All-cons (λ d. 0 < d) d ds h.0 (all-positive ds h.1)

module _ (s : Shown) (o : IsSound s) where
  some : AllPositive (slots s.sizes)
  some = positive-slots s.sizes o.layout.values

  some-slots : ArePositive (slots s.sizes)
  some-slots = all-positive (slots s.sizes) some

  some-sizes : ArePositive s.sizes
  some-sizes = All-weaker (λ d. (0 < d) × (d ≤ 64)) (λ d. 0 < d) (λ d h. h.0) s.sizes o.layout.values

  mixed-agrees : (f : Function) → Agree s.sizes (mixed_function (mixed_of s.sizes f)) f
  mixed-agrees f = record {
    at = λ x y p q.
        let a = plain_part-point s.sizes x y p q in
        let b = primed_part-point s.sizes x y p q in
        frozen-leaf_at (slots s.sizes) (λ p. f (plain_part p) (primed_part p)) some-slots (point x y) (IsState-point s.sizes x y p q) ∙ (λ i. f (a i) (b i));
  }

  -- the lists of functions stand for these
  all-mixed : (fs : List Function) → AllZip (Agree s.sizes) (map mixed_function (map (mixed_of s.sizes) fs)) fs
  all-mixed [] = tt
  all-mixed (f ∷ fs) = (mixed-agrees f, all-mixed fs)

  mixed-fit : (fs : List Function) → All (FitsSizes (slots s.sizes)) (map (mixed_of s.sizes) fs)
  mixed-fit [] = All-nil (FitsSizes (slots s.sizes))
  mixed-fit (f ∷ fs) =
      All-cons (FitsSizes (slots s.sizes)) (mixed_of s.sizes f) (map (mixed_of s.sizes) fs) (frozen-fits (slots s.sizes) (λ p. f (plain_part p) (primed_part p)) some-slots) (mixed-fit fs)

  module _ (m : Process) (same : s.sizes ≡ sizes m) where
    positive : ArePositive (sizes m)
    positive = subst ArePositive same some-sizes

    all-rewards : (actions : List Action) → AllZip (Agree (sizes m)) (map frozen_function (map (λ a. frozen_numbers m (reward_of m a)) actions)) (map (reward m) actions)
    all-rewards [] = tt
    all-rewards (a ∷ actions) = (record { at = λ x y p q. frozen-leaf_at (sizes m) (λ z. Num (reward_of m a z)) positive x p }, all-rewards actions)

    rewards-fit : (actions : List Action) → All (FitsSizes (sizes m)) (map (λ a. frozen_numbers m (reward_of m a)) actions)
    rewards-fit [] = All-nil (FitsSizes (sizes m))
    rewards-fit (a ∷ actions) =
        All-cons (FitsSizes (sizes m)) (frozen_numbers m (reward_of m a)) (map (λ b. frozen_numbers m (reward_of m b)) actions) (frozen-fits (sizes m) (λ z. Num (reward_of m a z)) positive) (rewards-fit actions)

    module _ (b : Built) (built : IsBuilt m b) where
      weights-are : b.weights.items ≡ map (mixed_of s.sizes) (all_weights m)
      weights-are = built.weights ∙ ap (λ (z : List ℕ). map (mixed_of z) (all_weights m)) (sym same)

      -- what a process was built into fits a forest over its variables
      pub built-weights-fit : All (FitsSizes (slots s.sizes)) b.weights.items
      built-weights-fit = rw weights-are (mixed-fit (all_weights m))

      pub built-rewards-fit : All (FitsSizes s.sizes) b.rewards.items
      built-rewards-fit = rw (same, built.rewards) (rewards-fit m.actions)

      weights-agree : AllZip (Agree s.sizes) (listed_weights b) (all_weights m)
      weights-agree = rw weights-are (all-mixed (all_weights m))

      rewards-agree : AllZip (Agree s.sizes) (listed_rewards b) (map (reward m) m.actions)
      rewards-agree = rw (same, built.rewards) (all-rewards m.actions)

      functions-agree : AllZip (Agree s.sizes) (thaw_functions b) (process_functions m)
      functions-agree = zip-both (Agree s.sizes) (listed_weights b) (listed_rewards b) (all_weights m) (map (reward m) m.actions) weights-agree rewards-agree

-- a process that was built is thawed
module _ (m : Process) (law : IsLawful m) (valid : IsValid m) (s : Shown) (o : IsSound s) (b : Built) (built : IsBuilt m b) (same : s.sizes ≡ sizes m) where
  parts-thawed : (t : Shown) (x : Thawed) → IsSound t → t.sizes ≡ sizes m → IsThawedFrom b t x → IsThawedOf m t x
  parts-thawed t x p q h = record {
    law = law;
    valid = valid;
    layout = q;
    own = h.own ∙ built.sizes;
    discount = h.discount ∙ built.discount;
    weights = stand-agree t p x.weights.items (listed_weights b) (all_weights m) h.weights (weights-agree t p m q b built);
    rewards = stand-agree t p x.rewards.items (listed_rewards b) (map (reward m) m.actions) h.rewards (rewards-agree t p m q b built);
  }

  pub process-thawed : (t : Shown) (r : Result Thawed StoreFault) → MakesAll s t (thaw_functions b) r → IfOk r (IsThawedFrom b t) → ThawsProcess m s t r
  process-thawed t r made ok = record {
    made = all-same s t (thaw_functions b) (process_functions m) (trees-agree s.sizes (positive-slots s.sizes o.layout.values) (thaw_functions b) (process_functions m) (functions-agree s o m same b built)) r made;
    ok = all-ok r ok;
  }
    where
      all-ok : (r : Result Thawed StoreFault) → IfOk r (IsThawedFrom b t) → IfOk r (IsThawedOf m t)
      all-ok (Ok x) h = parts-thawed t x made.made.sound (made.made.grows.sizes ∙ same) h
      all-ok (Err e) h = tt

-- ---- weights, and then rewards

-- the weights failed
pub weights-failed : {A B : Type 0} (s t : Shown) (fs gs : List Function) (e : StoreFault) → MakesAll {A = A} s t fs (Err e) → MakesAll {A = B} s t (fs ++ gs) (Err e)
weights-failed s t fs gs e h = record { made = has-wider (among-front fs gs) h.made; fault = fault-wider e t (among-front fs gs) h.fault }

-- the rewards failed
pub rewards-failed : {A B C : Type 0} (s t v : Shown) (fs gs : List Function) (x : C) (e : StoreFault) → MakesAll s t fs (Ok x) → MakesAll {A = A} t v gs (Err e) → MakesAll {A = B} s v (fs ++ gs) (Err e)
rewards-failed s t v fs gs x e h k = record { made = has-then (among-back fs gs) (has-wider (among-front fs gs) h.made) k.made; fault = fault-wider e v (among-back fs gs) k.fault }

-- both were made
pub both-thawed : {A B C : Type 0} (s t v : Shown) (fs gs : List Function) (x : A) (y : B) (z : C) → MakesAll s t fs (Ok x) → MakesAll t v gs (Ok y) → MakesAll s v (fs ++ gs) (Ok z)
both-thawed s t v fs gs x y z h k = record { made = has-then (among-back fs gs) (has-wider (among-front fs gs) h.made) k.made; fault = tt }
