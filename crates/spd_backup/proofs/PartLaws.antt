-- Where a variable's weights stand among all weights.
use Rattle.std.proofs.Common.{◌≡◌, ℕ, zero, suc, ◌+◌, ◌*◌, ◌<◌, ◌≤◌, List, [], ◌∷◌, ◌++◌, length, map, flat_map, take, drop, get_or, slice_index, Some, refl, sym, ◌∙◌, ap, subst, arith, append_assoc, length-append, inl, inr, add-one, sum, Contains}
use Rattle.std.specs.Prelude.{slice_get}
use Rattle.std.specs.List.{AllZip}
use Rattle.std.proofs.lemmas.Bool.{cases_lt}
use Rattle.std.proofs.lemmas.Grind.{flat_map-append}
use Rattle.std.proofs.lemmas.List.{length-map, take_all}
use Rattle.std.proofs.lemmas.List.Sums.{sum_by_more, sum_by_more_le}
use Rattle.std.proofs.lemmas.Option.{slice_get_within, get_or_from_slice_get}
use Rattle.spd_cons_core.specs.declared.key.Entry.{Entry}
use Rattle.spd_model.specs.declared.process.Action.{Action}
use Rattle.spd_model.specs.Process.{Process}
use Rattle.spd_model.specs.Numbers.{numbers_below}
use Rattle.spd_model.specs.States.{sizes}
use Rattle.spd_model.proofs.CallerLemmas.Lists.{length-numbers_below}
use Rattle.spd_model.proofs.CallerLemmas.StateOrder.{length-sizes}
use Rattle.spd_nodes.specs.Shown.{Shown, Grows, StandsFor}
use Rattle.spd_backup.specs.declared.thawed.Thawed.{Thawed}
use Rattle.spd_build.specs.Functions.{weight, weights_of, all_weights, reward}
use Rattle.spd_backup.specs.Thawing.{weights_in, IsThawedOf, HasAction}
use Rattle.spd_nodes.proofs.CallerLemmas.{stands-grows}

-- ---- a part of a list

-- a list has a part from place n on
pub record HasPart {Y : Type 0} (ys : List Y) (n : ℕ) (part : List Y) : Type 0 where
  pub front : List Y
  pub back : List Y
  pub is : ys ≡ front ++ (part ++ back)
  pub long : length front ≡ n

part-then : {Y : Type 0} {xs ys zs : List Y} {n m : ℕ} → HasPart xs n ys → HasPart ys m zs → HasPart xs (n + m) zs
part-then {zs = zs} h k = record {
  front = h.front ++ k.front;
  back = k.back ++ h.back;
  is = h.is ∙ ap (λ l. h.front ++ (l ++ h.back)) k.is ∙ regroup h.front k.front zs k.back h.back;
  long = length-append h.front k.front ∙ (λ i. h.long i + k.long i);
}
  where
    regroup : {Y : Type 0} (a b c d e : List Y) → a ++ ((b ++ (c ++ d)) ++ e) ≡ (a ++ b) ++ (c ++ (d ++ e))
    regroup a b c d e = simp append_assoc

part-long : {Y : Type 0} {ys part : List Y} {n : ℕ} → HasPart ys n part → n + length part ≤ length ys
part-long {part = part} h =
    let e = ap length h.is in
    omega (arith, e, length-append h.front (part ++ h.back), length-append part h.back, h.long)

-- entries beside a list have those beside its part
zip-front : {X Y : Type 0} (R : X → Y → Type 0) (xs : List X) (ys zs : List Y) → AllZip R xs (ys ++ zs) → AllZip R (take (length ys) xs) ys
zip-front R xs [] zs h = tt
zip-front R [] (y ∷ ys) zs h = absurd h
zip-front R (x ∷ xs) (y ∷ ys) zs h = (h.0, zip-front R xs ys zs h.1)

zip-back : {X Y : Type 0} (R : X → Y → Type 0) (xs : List X) (ys zs : List Y) → AllZip R xs (ys ++ zs) → AllZip R (drop (length ys) xs) zs
zip-back R xs [] zs h = h
zip-back R [] (y ∷ ys) zs h = absurd h
zip-back R (x ∷ xs) (y ∷ ys) zs h = zip-back R xs ys zs h.1

zip-part : {X Y : Type 0} (R : X → Y → Type 0) (xs : List X) (ys part : List Y) (n : ℕ) → HasPart ys n part → AllZip R xs ys → AllZip R (take (length part) (drop n xs)) part
zip-part R xs ys part n p h =
    subst (λ k. AllZip R (take (length part) (drop k xs)) part) p.long
    (zip-front R (drop (length p.front) xs) part p.back (zip-back R xs p.front (part ++ p.back) (subst (AllZip R xs) p.is h)))

pub zip-length : {X Y : Type 0} (R : X → Y → Type 0) (xs : List X) (ys : List Y) → AllZip R xs ys → length xs ≡ length ys
zip-length R [] [] h = refl
zip-length R [] (y ∷ ys) h = absurd h
zip-length R (x ∷ xs) [] h = absurd h
zip-length R (x ∷ xs) (y ∷ ys) h = ap suc (zip-length R xs ys h.1)

pub zip-weaker : {X Y : Type 0} (R S : X → Y → Type 0) → ((x : X) (y : Y) → R x y → S x y) → (xs : List X) (ys : List Y) → AllZip R xs ys → AllZip S xs ys
zip-weaker R S f [] [] h = h
zip-weaker R S f [] (y ∷ ys) h = absurd h
zip-weaker R S f (x ∷ xs) [] h = absurd h
zip-weaker R S f (x ∷ xs) (y ∷ ys) h = (f x y h.0, zip-weaker R S f xs ys h.1)

-- an entry beside a list, of which one member is told
pub zip-at : {X Y Z : Type 0} (R : X → Y → Type 0) (f : Z → Y) (xs : List X) (zs : List Z) (k : ℕ) (z : Z) (d : X) → slice_get zs k ≡ Some z → AllZip R xs (map f zs) → R (get_or xs k d) (f z)
zip-at R f xs [] k z d e h = absurd (cc e)
zip-at R f [] (y ∷ zs) k z d e h = absurd h
zip-at R f (x ∷ xs) (y ∷ zs) zero z d e h = let same : y ≡ z = cc e in subst (λ v. R x (f v)) same h.0
zip-at R f (x ∷ xs) (y ∷ zs) (suc k) z d e h = zip-at R f xs zs k z d e h.1

-- ---- lists of lists that are laid end to end

module _ {Y : Type 0} (f : ℕ → List Y) where
  pub laid-suc : (n : ℕ) → flat_map f (numbers_below (suc n)) ≡ flat_map f (numbers_below n) ++ (f n ++ [])
  laid-suc n = flat_map-append f (numbers_below n) (n ∷ [])

  laid-part : (n i : ℕ) → i < n → HasPart (flat_map f (numbers_below n)) (length (flat_map f (numbers_below i))) (f i)
  laid-part zero i b = absurd (omega arith)
  laid-part (suc n) i b = elim (cases_lt i n) [
    | inl near ↦ (
        let p : HasPart (flat_map f (numbers_below n)) (length (flat_map f (numbers_below i))) (f i) = laid-part n i near in
        record {
          front = p.front;
          back = p.back ++ (f n ++ []);
          is = laid-suc n ∙ ap (λ l. l ++ (f n ++ [])) p.is ∙ regroup p.front (f i) p.back (f n ++ []);
          long = p.long;
        }
        )
    | inr far ↦ (
        let e : i ≡ n = omega arith in
        let here : HasPart (flat_map f (numbers_below (suc n))) (length (flat_map f (numbers_below n))) (f n) = record { front = flat_map f (numbers_below n); back = []; is = laid-suc n; long = refl } in
        subst (λ j. HasPart (flat_map f (numbers_below (suc n))) (length (flat_map f (numbers_below j))) (f j)) (sym e) here
        )
  ]
    where
      regroup : {Y : Type 0} (a b c d : List Y) → (a ++ (b ++ c)) ++ d ≡ a ++ (b ++ (c ++ d))
      regroup a b c d = simp append_assoc

-- parts that are all equally long
even-part : {Z Y : Type 0} (g : Z → List Y) (n : ℕ) → ((z : Z) → length (g z) ≡ n) → (zs : List Z) (k : ℕ) (z : Z) → slice_get zs k ≡ Some z → HasPart (flat_map g zs) (k * n) (g z)
even-part g n even [] k z e = absurd (cc e)
even-part g n even (y ∷ zs) zero z e =
    let same : y ≡ z = cc e in
    subst (λ v. HasPart (flat_map g (y ∷ zs)) (0 * n) (g v)) same (record { front = []; back = flat_map g zs; is = refl; long = omega arith })
even-part g n even (y ∷ zs) (suc k) z e =
    let p : HasPart (flat_map g zs) (k * n) (g z) = even-part g n even zs k z e in
    record {
      front = g y ++ p.front;
      back = p.back;
      is = ap (λ l. g y ++ l) p.is ∙ sym (append_assoc (g y) p.front (g z ++ p.back));
      long = length-append (g y) p.front ∙ omega (arith, even y, p.long);
    }

-- ---- the weights of a process

module _ (m : Process) (a : Action) where
  pub length-weights : (i : ℕ) → length (weights_of m a i) ≡ slice_index (sizes m) i
  length-weights i = length-map (numbers_below (slice_index (sizes m) i)) (weight m a i) ∙ length-numbers_below (slice_index (sizes m) i)

  laid-weights : (i : ℕ) → i ≤ length (sizes m) → length (flat_map (weights_of m a) (numbers_below i)) ≡ sum (take i (sizes m))
  laid-weights zero b = refl
  laid-weights (suc i) b =
      let e : length (flat_map (weights_of m a) (numbers_below i)) ≡ sum (take i (sizes m)) = laid-weights i (omega arith) in
      let more : sum (take (i + 1) (sizes m)) ≡ sum (take i (sizes m)) + get_or (sizes m) i 0 = sum_by_more (λ x. x) (sizes m) i 0 (omega arith) in
      let last : sum (take (suc i) (sizes m)) ≡ sum (take i (sizes m)) + get_or (sizes m) i 0 = rw add-one at more in
      ap length (laid-suc (weights_of m a) i)
      ∙ omega (arith, e, last, length-append (flat_map (weights_of m a) (numbers_below i)) (weights_of m a i ++ []), length-append (weights_of m a i) [], length-weights i)

  pub action-weights : length (flat_map (weights_of m a) (numbers_below (length m.vars))) ≡ sum (sizes m)
  action-weights =
      laid-weights (length m.vars) (omega (arith, length-sizes m))
      ∙ ap sum (take_all (length m.vars) (sizes m) (omega (arith, length-sizes m)))

module _ (m : Process) (a : Action) (k : ℕ) (offered : slice_get m.actions k ≡ Some a) where
  of-action : HasPart (all_weights m) (k * sum (sizes m)) (flat_map (weights_of m a) (numbers_below (length m.vars)))
  of-action = even-part (λ (b : Action). flat_map (weights_of m b) (numbers_below (length m.vars))) (sum (sizes m)) (action-weights m) m.actions k a offered

  of-variable : (i : ℕ) → i < length (sizes m) → HasPart (all_weights m) (k * sum (sizes m) + sum (take i (sizes m))) (weights_of m a i)
  of-variable i b =
      part-then of-action
      (subst (λ n. HasPart (flat_map (weights_of m a) (numbers_below (length m.vars))) n (weights_of m a i)) (laid-weights m a i (omega arith))
      (laid-part (weights_of m a) (length m.vars) i (omega (arith, length-sizes m))))

-- ---- the parts of a thawed process

module _ (m : Process) (a : Action) (s : Shown) (x : Thawed) (k : ℕ) (has : HasAction m a s x k) where
  -- there is room for the weights of the action
  pub weights-room : (k + 1) * sum x.sizes.items ≤ length x.weights.items
  weights-room =
      let own : sum x.sizes.items ≡ sum (sizes m) = ap sum has.thawed.own in
      let long = part-long (of-action m a k has.offered) in
      let same = zip-length (StandsFor s) x.weights.items (all_weights m) has.thawed.weights in
      subst (λ (n : ℕ). (k + 1) * n ≤ length x.weights.items) (sym own) (omega (arith, long, same, action-weights m a))

  -- its weights of a variable
  pub weights-stand : (i : ℕ) → i < length x.sizes.items → AllZip (StandsFor s) (weights_in x.sizes.items x.weights.items k i) (weights_of m a i)
  weights-stand i b =
      let own : length x.sizes.items ≡ length (sizes m) = ap length has.thawed.own in
      let z : AllZip (StandsFor s) (take (length (weights_of m a i)) (drop (k * sum (sizes m) + sum (take i (sizes m))) x.weights.items)) (weights_of m a i) =
      zip-part (StandsFor s) x.weights.items (all_weights m) (weights_of m a i) (k * sum (sizes m) + sum (take i (sizes m))) (of-variable m a k has.offered i (omega arith)) has.thawed.weights in
      subst (λ (z : List ℕ). AllZip (StandsFor s) (weights_in z x.weights.items k i) (weights_of m a i)) (sym has.thawed.own)
      (subst (λ (n : ℕ). AllZip (StandsFor s) (take n (drop (k * sum (sizes m) + sum (take i (sizes m))) x.weights.items)) (weights_of m a i)) (length-weights m a i) z)

  -- its reward
  pub reward-stands : (d : Entry) → StandsFor s (get_or x.rewards.items k d) (reward m a)
  reward-stands d = zip-at (StandsFor s) (reward m) x.rewards.items m.actions k a d has.offered has.thawed.rewards

  pub reward-room : k < length x.rewards.items
  reward-room =
      let same = zip-length (StandsFor s) x.rewards.items (map (reward m) m.actions) has.thawed.rewards in
      omega (arith, same, length-map m.actions (reward m), slice_get_within m.actions k a has.offered)

  pub is-offered : Contains m.actions a
  is-offered = (k, slice_get_within m.actions k a has.offered, get_or_from_slice_get m.actions k a a has.offered)

-- a forest that grew shows the same parts
pub thawed-grows : (m : Process) (s t : Shown) (x : Thawed) → Grows s t → IsThawedOf m s x → IsThawedOf m t x
thawed-grows m s t x g h = record {
  law = h.law;
  valid = h.valid;
  layout = g.sizes ∙ h.layout;
  own = h.own;
  discount = h.discount;
  weights = zip-weaker (StandsFor s) (StandsFor t) (λ r f k. stands-grows g k) x.weights.items (all_weights m) h.weights;
  rewards = zip-weaker (StandsFor s) (StandsFor t) (λ r f k. stands-grows g k) x.rewards.items (map (reward m) m.actions) h.rewards;
}

pub action-grows : (m : Process) (a : Action) (s t : Shown) (x : Thawed) (k : ℕ) → Grows s t → HasAction m a s x k → HasAction m a t x k
action-grows m a s t x k g h = record { thawed = thawed-grows m s t x g h.thawed; offered = h.offered }

-- the weights of a variable stand among those of their action
pub weights-fit : (sizes : List ℕ) (action var all : ℕ) → var < length sizes → (action + 1) * sum sizes ≤ all → action * sum sizes + sum (take var sizes) + get_or sizes var 0 ≤ all
weights-fit sizes action var all b h =
    let few : sum (take var sizes) + get_or sizes var 0 ≤ sum sizes = sum_by_more_le (λ x. x) sizes var 0 b in
    omega (arith, few, h)

pub ruleset part_laws = (weights-fit)
