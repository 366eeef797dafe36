-- The first sum that isn't one: over all next states it is found where it is over the next values of the later variables alone.
use Rattle.std.proofs.Common.{◌≡◌, ℕ, zero, suc, ◌<◌, Bool, true, false, not, cond, List, [], ◌∷◌, ◌++◌, length, map, flat_map, drop, find, slice_index, All, ℤ, Option, Some, None, refl, ap, sym, ◌∙◌, arith}
use Rattle.std.specs.Option.{option_map, option_or}
use Rattle.std.specs.Ordering.{int_eq}
use Rattle.std.proofs.lemmas.List.Elements.{All-head, All-tail, All-map}
use Rattle.std.proofs.lemmas.List.Folds.{find-append}
use Rattle.std.proofs.lemmas.List.{map-append}
use Rattle.spd_model.specs.declared.process.Action.{Action}
use Rattle.spd_model.specs.Process.{Process}
use Rattle.spd_model.specs.Lawful.{IsLawful}
use Rattle.spd_model.specs.Numbers.{numbers_below}
use Rattle.spd_model.specs.States.{sizes, states, IsState}
use Rattle.spd_model.specs.Chances.{Sum, one, sum_of}
use Rattle.spd_model.proofs.CallerLemmas.Lists.{All-flat_map, length-numbers_below, map-map}
use Rattle.spd_model.proofs.CallerLemmas.StateOrder.{All-states, sizes_some}
use Rattle.spd_nodes.specs.States.{Function, Agree}
use Rattle.spd_frozen.specs.Told.{number_of}
use Rattle.spd_search.specs.declared.found.Found.{Found}
use Rattle.spd_search.specs.Found.{state_pairs, found_at, first_found}
use Rattle.spd_build.specs.Functions.{weight_sum}
use Rattle.spd_build.specs.Tables.{first_wrong, is_wrong, variable_sums}
use Rattle.spd_search.proofs.CallerLemmas.{option_or-same}

-- ---- searches that find the same

find-flat-same : {X Y : Type 0} (p : Y → Bool) (f g : X → List Y) (xs : List X) → ((x : X) → find p (f x) ≡ find p (g x)) → find p (flat_map f xs) ≡ find p (flat_map g xs)
find-flat-same p f g [] h = refl
find-flat-same p f g (x ∷ xs) h =
    find-append p (f x) (flat_map f xs) ∙ (λ k. option_or (h x k) (find-flat-same p f g xs h k)) ∙ sym (find-append p (g x) (flat_map g xs))

-- the same entries again and again
find-again : {X Y : Type 0} (p : Y → Bool) (ys : List Y) (x : X) (xs : List X) → find p (flat_map (λ (u : X). ys) (x ∷ xs)) ≡ find p ys
find-again p ys x [] = find-append p ys [] ∙ nothing (find p ys)
  where
    nothing : {Y : Type 0} (o : Option Y) → option_or o None ≡ o
    nothing None = refl
    nothing (Some y) = refl
find-again p ys x (z ∷ xs) = find-append p ys (flat_map (λ u. ys) (z ∷ xs)) ∙ ap (λ o. option_or (find p ys) o) (find-again p ys z xs) ∙ option_or-same (find p ys)

find-some : {X Y : Type 0} (p : Y → Bool) (ys : List Y) (xs : List X) → 0 < length xs → find p (flat_map (λ (u : X). ys) xs) ≡ find p ys
find-some p ys [] h = absurd (omega arith)
find-some p ys (x ∷ xs) h = find-again p ys x xs

map-flat : {X Y Z : Type 0} (f : Y → Z) (g : X → List Y) (xs : List X) → map f (flat_map g xs) ≡ flat_map (λ x. map f (g x)) xs
map-flat f g [] = refl
map-flat f g (x ∷ xs) = map-append f (g x) (flat_map g xs) ∙ ap (λ l. map f (g x) ++ l) (map-flat f g xs)

-- what doesn't look at a state's first k values is found over the other ones
find-dropped : {Y : Type 0} (p : Y → Bool) (q : List ℕ → Y) (k : ℕ) (ds : List ℕ) → All (λ d. 0 < d) ds
    → find p (map q (states (drop k ds))) ≡ find p (map (λ t. q (drop k t)) (states ds))
find-dropped p q zero ds some = refl
find-dropped p q (suc k) [] some = refl
find-dropped p q (suc k) (d ∷ ds) some =
    let f : List ℕ → _ = λ t. q (drop (suc k) t) in
    let first : 0 < d = All-head (λ n. 0 < n) d ds some in
    let each : map f (states (d ∷ ds)) ≡ flat_map (λ v. map (λ t. q (drop k t)) (states ds)) (numbers_below d) =
    map-flat f (λ v. map (λ s. v ∷ s) (states ds)) (numbers_below d) ∙ same (numbers_below d) in
    find-dropped p q k ds (All-tail (λ n. 0 < n) d ds some)
    ∙ sym (ap (find p) each ∙ find-some p (map (λ t. q (drop k t)) (states ds)) (numbers_below d) (omega (arith, length-numbers_below d)))
  where
    same : (vs : List ℕ) → flat_map (λ v. map (λ t. q (drop (suc k) t)) (map (λ s. v ∷ s) (states ds))) vs ≡ flat_map (λ v. map (λ t. q (drop k t)) (states ds)) vs
    same [] = refl
    same (v ∷ vs) = λ n. map-map (λ t. q (drop (suc k) t)) (λ s. v ∷ s) (states ds) n ++ same vs n

-- what is found among images, by what is found among the entries
module _ {X Y Z : Type 0} (p : Y → Bool) (w : Z → Bool) (f : Z → Y) (g : Z → X) (c : X → Y) where
  record Alike (z : Z) : Type 0 where
    passes : p (f z) ≡ w z
    image : f z ≡ c (g z)

  find-alike : (zs : List Z) → All Alike zs → find p (map f zs) ≡ option_map c (option_map g (find w zs))
  find-alike [] h = refl
  find-alike (z ∷ zs) h =
      let here : Alike z = All-head Alike z zs h in
      ap (λ b. cond b (Some (f z)) (find p (map f zs))) here.passes
      ∙ by (w z) (find-alike zs (All-tail Alike z zs h)) here.image
    where
      by : (b : Bool) → find p (map f zs) ≡ option_map c (option_map g (find w zs)) → f z ≡ c (g z)
          → cond b (Some (f z)) (find p (map f zs)) ≡ option_map c (option_map g (cond b (Some z) (find w zs)))
      by true later here = ap Some here
      by false later here = later

-- ---- pairs of states

All-pairs : (P : List ℕ × List ℕ → Type 0) (ds : List ℕ) → ((s t : List ℕ) → IsState ds s → IsState ds t → P (s, t)) → All P (state_pairs ds)
All-pairs P ds h =
    All-flat_map P (λ s. map (λ t. (s, t)) (states ds)) (states ds)
    (All-states (λ s. All P (map (λ t. (s, t)) (states ds))) ds (λ s p.
    All-map P (λ t. (s, t)) (states ds) (All-states (λ t. P (s, t)) ds (λ t q. h s t p q))))

map-pairs : {Y : Type 0} (f : List ℕ × List ℕ → Y) (ss ts : List (List ℕ)) → map f (flat_map (λ s. map (λ t. (s, t)) ts) ss) ≡ flat_map (λ s. map (λ t. f (s, t)) ts) ss
map-pairs f [] ts = refl
map-pairs f (s ∷ ss) ts =
    map-append f (map (λ t. (s, t)) ts) (flat_map (λ s. map (λ t. (s, t)) ts) ss)
    ∙ (λ n. map-map f (λ t. (s, t)) ts n ++ map-pairs f ss ts n)

module _ (m : Process) (law : IsLawful m) (k : ℕ) (a : Action) (i : ℕ) (f : Function) (same : Agree (sizes m) f (weight_sum m a i (slice_index (sizes m) i))) where
  sum_from : List ℕ → List ℕ → Sum
  sum_from s rest = record { action = k; var = i; state = s; sum = sum_of m a s i rest }

  sum_at : List ℕ × List ℕ → Sum
  sum_at z = sum_from z.0 (drop (suc i) z.1)

  sum_found : Found → Sum
  sum_found x = record { action = k; var = i; state = x.state; sum = number_of x.leaf }

  abbrev wrong : Sum → Bool
  wrong x = not (int_eq x.sum one)

  -- the first wrong sum is what a search along the sums' diagram finds
  sum-first : first_wrong (variable_sums m (k, a) i) ≡ option_map sum_found (first_found (sizes m) is_wrong f)
  unfolding sum_from sum_at sum_found
  sum-first =
      find-flat-same wrong (λ s. map (sum_from s) (states (drop (suc i) (sizes m)))) (λ s. map (λ t. sum_from s (drop (suc i) t)) (states (sizes m))) (states (sizes m))
      (λ s. find-dropped wrong (sum_from s) (suc i) (sizes m) (sizes_some m law))
      ∙ ap (find wrong) (sym (map-pairs sum_at (states (sizes m)) (states (sizes m))))
      ∙ find-alike wrong (λ z. is_wrong (f z.0 z.1)) sum_at (found_at f) sum_found (state_pairs (sizes m))
      (All-pairs (Alike wrong (λ (z : List ℕ × List ℕ). is_wrong (f z.0 z.1)) sum_at (found_at f) sum_found) (sizes m) (λ s t p q. record { passes = ap is_wrong (sym (same.at s t p q)); image = ap (λ l. record { action = k; var = i; state = s; sum = number_of l }) (sym (same.at s t p q)) }))

  pub none-wrong : None ≡ first_found (sizes m) is_wrong f → first_wrong (variable_sums m (k, a) i) ≡ None
  none-wrong h = sum-first ∙ ap (option_map sum_found) (sym h)

  pub first-wrong : (x : Found) (sum : ℤ) → Some x ≡ first_found (sizes m) is_wrong f → sum ≡ number_of x.leaf
      → first_wrong (variable_sums m (k, a) i) ≡ Some (record { action = k; var = i; state = x.state; sum = sum })
  unfolding sum_found
  first-wrong x sum h is = sum-first ∙ ap (option_map sum_found) (sym h) ∙ ap (λ y. Some (record { action = k; var = i; state = x.state; sum = y })) (sym is)
