-- The greatest bounds and the policy, made one after the other.
use Rattle.std.proofs.Common.{◌≡◌, ℕ, zero, suc, ◌<◌, List, [], ◌∷◌, ◌++◌, map, flat_map, length, take, refl, sym, ◌∙◌, ap, subst, arith, inl, inr, true, Result, Ok, Err, All}
use Rattle.std.proofs.lemmas.List.{length-map, take_all}
use Rattle.std.proofs.lemmas.List.Concat.{flat_map-append}
use Rattle.std.proofs.lemmas.List.Elements.{All-map, All-weaker}
use Rattle.spd_cons_core.specs.declared.key.Entry.{Entry}
use Rattle.spd_model.specs.Numbers.{numbers_below}
use Rattle.spd_nodes.specs.declared.forest.StoreFault.{StoreFault}
use Rattle.spd_nodes.specs.declared.forest.StoreFault.TheVariants as F
use Rattle.spd_nodes.specs.Shown.{Shown, IsSound, Grows, StandsFor, MakesAmong, MakesDiagram, meaning}
use Rattle.spd_nodes.specs.States.{Function, test_trees}
use Rattle.spd_nodes.proofs.CallerLemmas.{Among, IsIn, among-after, grows-none, grows-then, has-made, has-none, in-back, in-front, makes-none, stands-grows, within-in, meanings-grow}
use Rattle.spd_backup.specs.declared.backing.Bounds.{Bounds}
use Rattle.spd_policy.specs.declared.tables.BestTables.{BestTables}
use Rattle.spd_policy.specs.Best.{greatest_of, policy_by, choosing_functions, best_functions, IsNumeric, AreNumeric, lows_of, highs_of, MakesBest, MakesBestOf}
use Rattle.spd_policy.specs.Choosing.{greatest_leaf, place_leaf, HoldBest}
use Rattle.spd_policy.proofs.ListLaws.{holds-grow, holds-none}

-- ---- the functions that are made

among-in : (f : Function) (fs : List Function) → IsIn f fs → Among (f ∷ []) fs
among-in f fs i = record { nodes = λ sizes. within-in sizes f fs i }

module _ (lows highs : List Function) where
  abbrev choosing : List Function
  choosing = flat_map (choosing_functions lows highs) (numbers_below (length lows))

  pub low-among : Among (greatest_of lows ∷ []) (best_functions lows highs)
  low-among = among-in (greatest_of lows) (best_functions lows highs) (in-back (greatest_of lows) choosing (greatest_of lows ∷ policy_by lows ∷ []) (inl refl))

  pub act-among : Among (policy_by lows ∷ []) (best_functions lows highs)
  act-among = among-in (policy_by lows) (best_functions lows highs) (in-back (policy_by lows) choosing (greatest_of lows ∷ policy_by lows ∷ []) (inr (inl refl)))

  -- the greatest upper bound is that of the actions up to the last one
  pub high-among : 0 < length lows → length highs ≡ length lows → Among (greatest_of highs ∷ []) (best_functions lows highs)
  high-among some even = among-in (greatest_of highs) (best_functions lows highs) (in-front (greatest_of highs) choosing (greatest_of lows ∷ policy_by lows ∷ []) (go (length lows) refl some))
    where
      go : (n : ℕ) → n ≡ length lows → 0 < n → IsIn (greatest_of highs) (flat_map (choosing_functions lows highs) (numbers_below n))
      go zero e h = absurd (omega arith)
      go (suc n) e h =
          let all : take (suc n) highs ≡ highs = take_all (suc n) highs (omega (arith, e, even)) in
          let last : IsIn (greatest_of highs) (choosing_functions lows highs n ++ []) = inr (inr (inr (inl (ap greatest_of all)))) in
          subst (IsIn (greatest_of highs)) (sym (flat_map-append (choosing_functions lows highs) (numbers_below n) (n ∷ [])))
          (in-back (greatest_of highs) (flat_map (choosing_functions lows highs) (numbers_below n)) (choosing_functions lows highs n ++ []) last)

-- ---- one after the other

-- a call failed
best-failed : {f low high act : Function} {nodes : List Function} {s t : Shown} (e : StoreFault) → MakesAmong s t f nodes (Err e) → MakesBest low high act nodes s t (Err e)
best-failed e m = record { sound = m.sound; grows = m.grows; ok = tt; makes = m.makes; fault = m.fault }

-- there was no memory
pub best-none : (low high act : Function) (nodes : List Function) (s : Shown) → IsSound s → MakesBest low high act nodes s s (Err F.Memory)
best-none low high act nodes s o = record { sound = o; grows = grows-none s; ok = tt; makes = makes-none s (test_trees s.sizes nodes); fault = tt }

module _ (s : Shown) (o : IsSound s) (ls hs : List Entry) (known_low : All (λ r. s.knows r ≡ true) ls) (known_high : All (λ r. s.knows r ≡ true) hs) (some : 0 < length ls) (even : length hs ≡ length ls) where
  abbrev lows : List Function
  lows = map (meaning s) ls

  abbrev highs : List Function
  highs = map (meaning s) hs

  among-high : Among (greatest_of highs ∷ []) (best_functions lows highs)
  among-high = high-among lows highs (omega (arith, some, length-map ls (meaning s))) (length-map hs (meaning s) ∙ even ∙ sym (length-map ls (meaning s)))

  low-made : (t : Shown) (r : Result Entry StoreFault) → MakesDiagram s t (greatest_of lows) r → MakesAmong s t (greatest_of lows) (best_functions lows highs) r
  low-made t r m = among-after (low-among lows highs) (has-none s o (best_functions lows highs)) m

  pub low-fails : (t : Shown) (e : StoreFault) → MakesDiagram s t (greatest_of lows) (Err e) → MakesBestOf lows highs s t (Err e)
  low-fails t e m = best-failed e (low-made t (Err e) m)

  module _ (t : Shown) (low : Entry) (l : MakesDiagram s t (greatest_of lows) (Ok low)) where
    -- the greatest lower bound goes on to be that
    pub low-stands : (u : Shown) → Grows t u → StandsFor u low (greatest_of (map (meaning u) ls))
    low-stands u g = subst (λ fs. StandsFor u low (greatest_of fs)) (sym (meanings-grow s u ls (grows-then l.grows g) known_low)) (stands-grows g l.ok)

    high-made : (u : Shown) (r : Result Entry StoreFault) → MakesDiagram t u (greatest_of (map (meaning t) hs)) r → MakesAmong s u (greatest_of highs) (best_functions lows highs) r
    high-made u r m =
        among-after among-high (has-made (low-made t (Ok low) l)) (subst (λ fs. MakesDiagram t u (greatest_of fs) r) (meanings-grow s t hs l.grows known_high) m)

    pub high-fails : (u : Shown) (e : StoreFault) → MakesDiagram t u (greatest_of (map (meaning t) hs)) (Err e) → MakesBestOf lows highs s u (Err e)
    high-fails u e m = best-failed e (high-made u (Err e) m)

    module _ (u : Shown) (high : Entry) (h : MakesDiagram t u (greatest_of (map (meaning t) hs)) (Ok high)) where
      act-made : (v : Shown) (r : Result Entry StoreFault) → MakesDiagram u v (policy_by (map (meaning u) ls)) r → MakesAmong s v (policy_by lows) (best_functions lows highs) r
      act-made v r m =
          let grows : Grows s u = (high-made u (Ok high) h).grows in
          among-after (act-among lows highs) (has-made (high-made u (Ok high) h)) (subst (λ fs. MakesDiagram u v (policy_by fs) r) (meanings-grow s u ls grows known_low) m)

      pub act-fails : (v : Shown) (e : StoreFault) → MakesDiagram u v (policy_by (map (meaning u) ls)) (Err e) → MakesBestOf lows highs s v (Err e)
      act-fails v e m = best-failed e (act-made v (Err e) m)

      pub all-made : (v : Shown) (act : Entry) → MakesDiagram u v (policy_by (map (meaning u) ls)) (Ok act) → MakesBestOf lows highs s v (Ok (record { low = low; high = high; act = act }))
      all-made v act m =
          let a : MakesAmong s v (policy_by lows) (best_functions lows highs) (Ok act) = act-made v (Ok act) m in
          record {
            sound = a.sound;
            grows = a.grows;
            ok = record {
              low = stands-grows m.grows (stands-grows h.grows l.ok);
              high = stands-grows m.grows (high-made u (Ok high) h).ok;
              act = a.ok;
            };
            makes = a.makes;
            fault = tt;
          }

-- ---- lists of bounds

pub lows-numeric : (s : Shown) (bounds : List Bounds) → All (AreNumeric s) bounds → All (IsNumeric s) (lows_of bounds)
lows-numeric s bounds h = All-map (IsNumeric s) (λ (b : Bounds). b.lo) bounds (All-weaker (AreNumeric s) (λ b. IsNumeric s b.lo) (λ b n. n.lower) bounds h)

pub highs-numeric : (s : Shown) (bounds : List Bounds) → All (AreNumeric s) bounds → All (IsNumeric s) (highs_of bounds)
highs-numeric s bounds h = All-map (IsNumeric s) (λ (b : Bounds). b.hi) bounds (All-weaker (AreNumeric s) (λ b. IsNumeric s b.hi) (λ b n. n.upper) bounds h)

pub lows-length : (bounds : List Bounds) → length (lows_of bounds) ≡ length bounds
lows-length bounds = length-map bounds (λ (b : Bounds). b.lo)

pub highs-length : (bounds : List Bounds) → length (highs_of bounds) ≡ length bounds
highs-length bounds = length-map bounds (λ (b : Bounds). b.hi)

-- ---- tables

pub none-held : (s : Shown) (tables : BestTables) → tables.greatest ≡ [] → tables.places ≡ [] → HoldBest s tables
none-held s tables e f = record { greatest = holds-none greatest_leaf s tables.greatest e; places = holds-none place_leaf s tables.places f }

pub best-grow : (s t : Shown) (tables : BestTables) → Grows s t → HoldBest s tables → HoldBest t tables
best-grow s t tables g h = record { greatest = holds-grow greatest_leaf s t tables.greatest g h.greatest; places = holds-grow place_leaf s t tables.places g h.places }
