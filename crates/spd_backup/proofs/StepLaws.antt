-- An expectation with one variable more summed out.
use Rattle.std.proofs.Common.{◌≡◌, ℕ, zero, suc, ◌+◌, ◌<◌, List, [], ◌∷◌, ◌++◌, length, map, flat_map, get_or, refl, sym, ◌∙◌, ap, subst, arith, inl, inr, true, ℤ, Result, Ok, Err, IfOk}
use Rattle.std.specs.List.{AllZip}
use Rattle.std.proofs.lemmas.Bool.{cases_lt}
use Rattle.std.proofs.lemmas.List.{length-map}
use Rattle.spd_cons_core.specs.declared.key.Entry.{Entry}
use Rattle.spd_model.specs.declared.process.Action.{Action}
use Rattle.spd_model.specs.Process.{Process}
use Rattle.spd_model.specs.Numbers.{numbers_below, sum_below}
use Rattle.spd_model.specs.States.{sizes}
use Rattle.spd_model.proofs.CallerLemmas.StateOrder.{length-sizes}
use Rattle.spd_nodes.specs.declared.forest.StoreFault.{StoreFault}
use Rattle.spd_nodes.specs.declared.leaf.Leaf.TheVariants.{Num}
use Rattle.spd_nodes.specs.Shown.{Shown, IsSound, Grows, StandsFor, MakesAmong, MakesDiagram, meaning}
use Rattle.spd_nodes.specs.States.{Function, Agree}
use Rattle.spd_restrict.specs.Chosen.{function_at}
use Rattle.spd_restrict.specs.Restricted.{restricted}
use Rattle.spd_weigh.specs.declared.way.Way.{Way}
use Rattle.spd_weigh.specs.declared.way.Way.TheVariants.{Down, Up}
use Rattle.spd_weigh.specs.Leaves.{HasValues}
use Rattle.spd_weigh.specs.Discounting.{discount_functions}
use Rattle.spd_weigh.specs.Weighing.{summed_out, AreWeights, sum_out_functions, product_at}
use Rattle.spd_backup.specs.declared.tables.SumTables.{SumTables}
use Rattle.spd_backup.specs.declared.thawed.Thawed.{Thawed}
use Rattle.spd_build.specs.Functions.{weights_of}
use Rattle.spd_backup.specs.Expected.{next_value, expected, bound, bound_functions, backup_functions, AreExpected}
use Rattle.spd_backup.specs.Keeping.{HoldVariable}
use Rattle.spd_backup.specs.Thawing.{weights_in, HasAction}
use Rattle.spd_backup.specs.Making.{Follows, MakesFirst, CanSumOut}
use Rattle.spd_backup.proofs.BridgeLaws.{summed-agrees, summed-expected, zip-agrees, weight-at, are-weights, has-values}
use Rattle.spd_backup.proofs.PartLaws.{laid-suc, zip-length, length-weights, weights-room, weights-stand, is-offered, action-grows}
use Rattle.spd_nodes.proofs.CallerLemmas.{IsIn, among-agrees, among-fails, among-then, diagram-agrees, in-back, in-front, makes_among-known, stand-known, stand-whole, stands-grows, within-in}

-- ---- the functions of a backup

-- what is in the part of a list for one number is in the list
laid-in : (f : Function) (g : ℕ → List Function) (n i : ℕ) → i < n → IsIn f (g i) → IsIn f (flat_map g (numbers_below n))
laid-in f g zero i b h = absurd (omega arith)
laid-in f g (suc n) i b h =
    let there : IsIn f (flat_map g (numbers_below n) ++ (g n ++ [])) = elim (cases_lt i n) [
      | inl near ↦ in-front f (flat_map g (numbers_below n)) (g n ++ []) (laid-in f g n i near h)
      | inr far ↦ (let e : i ≡ n = omega arith in in-back f (flat_map g (numbers_below n)) (g n ++ []) (in-front f (g n) [] (subst (λ j. IsIn f (g j)) e h)))
    ] in
    subst (IsIn f) (sym (laid-suc g n)) there

-- the functions of one bound are functions of the backup
pub bound-in : (way : Way) (m : Process) (a : Action) (w : List ℕ → ℤ) (f : Function) → IsIn f (bound_functions way m a w) → IsIn f (backup_functions m a w)
bound-in Down m a w f h = inr (in-front f (bound_functions Down m a w) (bound_functions Up m a w) h)
bound-in Up m a w f h = inr (in-back f (bound_functions Down m a w) (bound_functions Up m a w) h)

-- the functions of summing out before the last one
abbrev sum_parts : ℕ → List Function → Function → List Function
sum_parts var ws f =
    flat_map (λ v. restricted var true v f ∷ (λ s t. Num (product_at var ws f v s t)) ∷ (λ s t. Num (sum_below (suc v) (λ u. product_at var ws f u s t))) ∷ []) (numbers_below (length ws))

-- a variable's sum is the last function of summing it out
pub summed-in : (way : Way) (var : ℕ) (ws : List Function) (f : Function) → IsIn (summed_out way var ws f) (sum_out_functions way var ws f)
summed-in way var ws f = in-back (summed_out way var ws f) (sum_parts var ws f) (summed_out way var ws f ∷ []) (inl refl)

module _ (way : Way) (m : Process) (a : Action) (w : List ℕ → ℤ) where
  abbrev summing : ℕ → List Function
  summing i = sum_out_functions way i (weights_of m a i) (expected way m a w i)

  abbrev after_sums : List Function
  after_sums = discount_functions way m.discount (expected way m a w (length m.vars)) ++ bound way m a w ∷ []

  pub sum-in : (i : ℕ) → i < length m.vars → IsIn (summed_out way i (weights_of m a i) (expected way m a w i)) (backup_functions m a w)
  sum-in i b =
      let f : Function = summed_out way i (weights_of m a i) (expected way m a w i) in
      bound-in way m a w f (in-front f (flat_map summing (numbers_below (length m.vars))) after_sums
      (laid-in f summing (length m.vars) i b (summed-in way i (weights_of m a i) (expected way m a w i))))

-- ---- expectations that are made

pub expected-grows : {way : Way} {m : Process} {a : Action} {w : List ℕ → ℤ} {s t : Shown} {n : ℕ} → Grows s t → AreExpected way m a w s n → AreExpected way m a w t n
expected-grows g h = record { each = λ i b. (let k = h.each i b in record { ref = k.ref; stands = stands-grows g k.stands }) }

pub expected-none : (way : Way) (m : Process) (a : Action) (w : List ℕ → ℤ) (s : Shown) → AreExpected way m a w s 0
expected-none way m a w s = record { each = λ i b. absurd (omega arith) }

expected-more : {way : Way} {m : Process} {a : Action} {w : List ℕ → ℤ} {s : Shown} {n : ℕ} (r : Entry) → AreExpected way m a w s n → StandsFor s r (expected way m a w (suc n)) → AreExpected way m a w s (suc n)
expected-more {way = way} {m = m} {a = a} {w = w} {s = s} {n = n} r h k = record {
  each = λ i b. elim (cases_lt i n) [
    | inl near ↦ h.each i near
    | inr far ↦ (let e : n ≡ i = omega arith in record { ref = r; stands = subst (λ j. StandsFor s r (expected way m a w (suc j))) e k })
  ];
}

expected-then : {way : Way} {m : Process} {a : Action} {w : List ℕ → ℤ} {s : Shown} {n : ℕ} (r : Result Entry StoreFault) → IfOk r (λ q. StandsFor s q (expected way m a w (suc n))) → AreExpected way m a w s n → IfOk r (λ q. AreExpected way m a w s (suc n))
expected-then (Ok q) k h = expected-more q h k
expected-then (Err e) k h = tt

-- ---- the next step

module _ (way : Way) (m : Process) (a : Action) (w : List ℕ → ℤ) (s : Shown) (x : Thawed) (k : ℕ) (next : Entry) (f : Follows m a w s x k next) (t : Shown) (g : Grows s t)
    (e : Entry) (var : ℕ) (b : var < length x.sizes.items) (stands : StandsFor t e (expected way m a w var)) where
  has : HasAction m a t x k
  has = action-grows m a s t x k g f.has

  near : var < length (sizes m)
  near = let own : length x.sizes.items ≡ length (sizes m) = ap length f.has.thawed.own in omega arith

  abbrev ws : List Entry
  ws = weights_in x.sizes.items x.weights.items k var

  zipped : AllZip (StandsFor t) ws (weights_of m a var)
  zipped = weights-stand m a t x k has var b

  layout : t.sizes ≡ sizes m
  layout = has.thawed.layout

  same-weights : (v : ℕ) → v < length (weights_of m a var) → Agree t.sizes (function_at (map (meaning t) ws) v) (function_at (weights_of m a var) v)
  same-weights = zip-agrees t ws (weights_of m a var) zipped

  pub can-sum-out : (tables : SumTables) → HoldVariable way var t tables → CanSumOut way t x e k var tables
  can-sum-out tables held = record {
    few = (let own : length x.sizes.items ≡ length (sizes m) = ap length f.has.thawed.own in omega (arith, own, length-sizes m, f.has.thawed.law.few_vars));
    var_in = b;
    room = weights-room m a t x k has;
    known = stands.knows;
    whole = stands.whole;
    weights_known = stand-known t ws (weights_of m a var) zipped;
    weights_whole = stand-whole t ws (weights_of m a var) zipped;
    var_there = rw layout near;
    count = zip-length (StandsFor t) ws (weights_of m a var) zipped ∙ length-weights m a var ∙ ap (λ (z : List ℕ). get_or z var 0) (sym layout);
    weights = subst (λ (z : List ℕ). AreWeights z var (map (meaning t) ws)) (sym layout)
        (are-weights m a has.thawed.law has.thawed.valid (is-offered m a t x k has) var near (map (meaning t) ws)
        (length-map ws (meaning t) ∙ zip-length (StandsFor t) ws (weights_of m a var) zipped ∙ length-weights m a var)
        (λ v c. subst (λ (h : Function). Agree (sizes m) (function_at (map (meaning t) ws) v) h) (weight-at m a var v c)
        (subst (λ (z : List ℕ). Agree z (function_at (map (meaning t) ws) v) (function_at (weights_of m a var) v)) layout (same-weights v (omega (arith, c, length-weights m a var))))));
    values = subst (λ (z : List ℕ). HasValues z (meaning t e)) (sym layout)
        (has-values m a has.thawed.law has.thawed.valid (is-offered m a t x k has) way w f.bounded var (omega (arith, near)) (meaning t e)
        (subst (λ (z : List ℕ). Agree z (meaning t e) (expected way m a w var)) layout stands.value));
    held = held;
  }

  -- the sum over the process's weights
  abbrev weighed_sum : Function
  weighed_sum = summed_out way var (weights_of m a var) (expected way m a w var)

  made-sum : IsSound t → (v : Shown) (r : Result Entry StoreFault) → MakesDiagram t v (summed_out way var (map (meaning t) ws) (meaning t e)) r → MakesDiagram t v weighed_sum r
  made-sum o v r made =
      diagram-agrees o
      (summed-agrees t.sizes way var (map (meaning t) ws) (weights_of m a var) (meaning t e) (expected way m a w var)
      (length-map ws (meaning t) ∙ zip-length (StandsFor t) ws (weights_of m a var) zipped) (length-weights m a var ∙ ap (λ (z : List ℕ). get_or z var 0) (sym layout)) same-weights stands.value) made

  -- one variable more is summed out
  pub sum-then : IsSound s → MakesFirst way m a w var s t (Ok e) → (v : Shown) (r : Result Entry StoreFault) → MakesDiagram t v (summed_out way var (map (meaning t) ws) (meaning t e)) r → MakesFirst way m a w (var + 1) s v r
  sum-then o so v r made =
      let among : MakesAmong s v weighed_sum (backup_functions m a w) r = among-then (within-in s.sizes weighed_sum (backup_functions m a w) (sum-in way m a w var (omega (arith, near, length-sizes m)))) so.among (made-sum so.among.sound v r made) in
      let agrees : Agree s.sizes weighed_sum (expected way m a w (suc var)) = subst (λ (z : List ℕ). Agree z weighed_sum (expected way m a w (suc var))) (sym f.has.thawed.layout) (summed-expected m a way w var near) in
      let all : MakesAmong s v (expected way m a w (suc var)) (backup_functions m a w) r = among-agrees o agrees among in
      let first : MakesFirst way m a w (suc var) s v r = record { among = all; known = expected-then r all.ok (expected-grows made.grows so.known) } in
      subst (λ n. MakesFirst way m a w n s v r) (one-more var) first
    where
      one-more : (n : ℕ) → suc n ≡ n + 1
      one-more n = omega arith

-- the first expectation is the value at the next state
pub nothing-summed : (way : Way) (m : Process) (a : Action) (w : List ℕ → ℤ) (s : Shown) → IsSound s → (next : Entry) → StandsFor s next (next_value w) → MakesFirst way m a w 0 s s (Ok next)
nothing-summed way m a w s o next h = record { among = makes_among-known s o next (expected way m a w 0) (backup_functions m a w) h; known = expected-none way m a w s }

-- what failed on the way failed
pub first-fails : {way : Way} {m : Process} {a : Action} {w : List ℕ → ℤ} {n : ℕ} {s t : Shown} (e : StoreFault) (k : ℕ) → MakesFirst way m a w n s t (Err e) → MakesFirst way m a w k s t (Err e)
first-fails e k h = record { among = among-fails e h.among; known = tt }
