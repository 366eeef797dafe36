-- The lower bound of the policy's own action, action by action.
use Rattle.std.proofs.Common.{◌≡◌, ℕ, suc, ◌+◌, ◌<◌, ◌≤◌, Bool, true, false, cond, if◌then◌else◌, nat_lt, List, length, get_or, slice_get, ℤ, pos, refl, sym, ◌∙◌, ap, subst, arith, inl, inr, Result, Ok, Err}
use Rattle.std.specs.Ordering.{int_eq}
use Rattle.std.proofs.lemmas.Bool.{cases_lt, false_from_ne_true}
use Rattle.std.proofs.lemmas.Int.{ints}
use Rattle.std.proofs.lemmas.Bool.Decides.{Decides-ltb, nat_tests}
use Rattle.spd_scaled.proofs.CallerLemmas.Ring.{int_eq-true, int_eq-holds}
use Rattle.spd_cons_core.specs.declared.key.Entry.{Entry}
use Rattle.spd_model.specs.Process.{Process}
use Rattle.spd_model.specs.States.{IsState}
use Rattle.spd_model.specs.Backup.{low_of}
use Rattle.spd_nodes.specs.declared.forest.StoreFault.{StoreFault}
use Rattle.spd_nodes.specs.declared.leaf.Leaf.TheVariants.{Num, Pair}
use Rattle.spd_nodes.specs.Shown.{Shown, IsSound, StandsFor, MakesAmong, MakesDiagram, meaning}
use Rattle.spd_nodes.specs.States.{Function}
use Rattle.spd_nodes.proofs.CallerLemmas.{IsIn, among-after, among-fails, diagram-agrees, has-made, has-none, stands-grows}
use Rattle.spd_apply.specs.Operations.{is_act, is_pair, is_pair_and_num, kept_of, second_of_pair}
use Rattle.spd_apply.specs.Outcome.{FitEverywhere, FitsEverywhere, at_each, map_each}
use Rattle.spd_weigh.specs.declared.way.Way.TheVariants.{Down}
use Rattle.spd_build.specs.Functions.{numbers}
use Rattle.spd_backup.specs.declared.backing.Bounds.{Bounds}
use Rattle.spd_backup.specs.Expected.{bound}
use Rattle.spd_check.specs.Certificates.{own_low}
use Rattle.spd_check.specs.Functions.{own_among, own_functions}
use Rattle.spd_check.specs.inner.Judging.{AreBeside, HasOwn, beside_zero}
use Rattle.spd_check.proofs.HighestLaws.{StandsAt, count-bounds, in-below, one-among, stands-at}
use Rattle.spd_check.proofs.VerdictLaws.{own-is}

none-below : (n : ℕ) → nat_lt n 0 ≡ false
none-below n = grind (arith, nat_tests)

-- what is kept, by how two numbers compare
by-tests : (own y : ℤ) (at before after : Bool) (at' before' after' : Bool) → at ≡ at' → before ≡ before' → after ≡ after'
    → cond at' y (if before' then own else pos 0) ≡ (if after' then own else pos 0) → cond at y (if before then own else pos 0) ≡ (if after then own else pos 0)
by-tests own y at before after at' before' after' e f h is = (λ n. cond (e n) y (if f n then own else pos 0)) ∙ is ∙ sym (λ n. if h n then own else pos 0)

-- what is kept of an action's number when one action more is looked at
one-more : (p i : ℕ) (own y : ℤ) → (p ≡ i → y ≡ own)
    → cond (int_eq (pos p) (pos i)) y (if nat_lt p i then own else pos 0) ≡ (if nat_lt p (i + 1) then own else pos 0)
one-more p i own y same = elim (cases_lt p i) [
  | inl below ↦
      let here : nat_lt p i ≡ true = (Decides-ltb p i).1 below in
      let next : nat_lt p (i + 1) ≡ true = (Decides-ltb p (i + 1)).1 (omega (arith, below)) in
      let differ : int_eq (pos p) (pos i) ≡ false = false_from_ne_true (int_eq (pos p) (pos i)) (λ e. let is = int_eq-true (pos p) (pos i) e in omega (arith, ints, below, is)) in
      by-tests own y (int_eq (pos p) (pos i)) (nat_lt p i) (nat_lt p (i + 1)) false true true differ here next refl
  | inr above ↦ elim (cases_lt i p) [
    | inl past ↦
        let here : nat_lt p i ≡ false = grind (arith, nat_tests, past) in
        let next : nat_lt p (i + 1) ≡ false = grind (arith, nat_tests, past) in
        let differ : int_eq (pos p) (pos i) ≡ false = false_from_ne_true (int_eq (pos p) (pos i)) (λ e. let is = int_eq-true (pos p) (pos i) e in omega (arith, ints, past, is)) in
        by-tests own y (int_eq (pos p) (pos i)) (nat_lt p i) (nat_lt p (i + 1)) false false false differ here next refl
    | inr at ↦
        let is : p ≡ i = omega (arith, above, at) in
        let next : nat_lt p (i + 1) ≡ true = (Decides-ltb p (i + 1)).1 (omega (arith, is)) in
        let equal : int_eq (pos p) (pos i) ≡ true = int_eq-holds (pos p) (pos i) (ap pos is) in
        by-tests own y (int_eq (pos p) (pos i)) (nat_lt p i) (nat_lt p (i + 1)) true (nat_lt p i) true equal refl next (same is)
  ]
]

module _ (m : Process) (w : List ℕ → ℤ) (policy : List ℕ → ℕ) (s : Shown) (bounds : List Bounds) (act : Entry) (are : AreBeside m w policy s bounds act) where
  abbrev nodes : List Function
  nodes = own_functions m w policy

  own-count : length bounds ≡ length m.actions
  own-count = count-bounds Down m w s (λ b. b.lo) bounds m.actions are.all.low

  pub low-at : (i : ℕ) (b : Bounds) → i < length bounds → StandsAt Down m w s (get_or bounds i b).lo i
  low-at i b near = stands-at Down m w s (λ c. c.lo) bounds are.all.low i b near

  among-own : (n : ℕ) → n ≤ length m.actions → IsIn (own_among m w policy n) nodes
  among-own n h = inr (in-below (own_among m w policy) (suc (length m.actions)) n (omega (arith, h)))

  pub act-fits : FitsEverywhere is_act s act
  act-fits = record { at = λ x y p q. ap is_act (are.acts.value.at x y p q) }

  own-first : IsSound s → (t : Shown) (r : Result Entry StoreFault) → MakesDiagram s t (map_each (λ a. beside_zero a) (meaning s act)) r → MakesAmong s t (own_among m w policy 0) nodes r
  own-first o t r d =
      among-after (one-among (own_among m w policy 0) nodes (among-own 0 (omega arith))) (has-none s o nodes)
      (diagram-agrees o (record { at = λ x y p q. ap beside_zero (are.acts.value.at x y p q) ∙ ap (λ b. Pair (pos (policy x)) (if b then own_low m w policy x else pos 0)) (sym (none-below (policy x))) }) d)

  pub own-begins : IsSound s → (t : Shown) (r : Entry) → MakesDiagram s t (map_each (λ a. beside_zero a) (meaning s act)) (Ok r) → HasOwn m w policy s t 0 r
  own-begins o t r d = let g = own-first o t (Ok r) d in record { made = has-made g; stands = g.ok }

  pub own-none : IsSound s → (t : Shown) (e : StoreFault) → MakesDiagram s t (map_each (λ a. beside_zero a) (meaning s act)) (Err e) → MakesAmong s t (numbers (λ x y. own_low m w policy x)) nodes (Err e)
  own-none o t e d = among-fails e (own-first o t (Err e) d)

  module _ (t : Shown) (i : ℕ) (kept : Entry) (h : HasOwn m w policy s t i kept) where
    module _ (near : i < length bounds) (b : Bounds) where
      abbrev own : StandsAt Down m w s (get_or bounds i b).lo i
      own = low-at i b near

      pub low-stands : StandsFor t (get_or bounds i b).lo (bound Down m own.action w)
      low-stands = stands-grows h.made.grows own.stands

      pub keep-fit : FitEverywhere (λ a c. is_pair_and_num a c) t kept (get_or bounds i b).lo
      keep-fit = record { at = λ x y p q. (λ n. is_pair_and_num (h.stands.value.at x y p q n) (low-stands.value.at x y p q n)) }

      own-next : (u : Shown) (r : Result Entry StoreFault) → MakesDiagram t u (at_each (λ a c. kept_of i a c) (meaning t kept) (meaning t (get_or bounds i b).lo)) r
          → MakesAmong s u (own_among m w policy (i + 1)) nodes r
      own-next u r d =
          among-after (one-among (own_among m w policy (i + 1)) nodes (among-own (i + 1) (omega (arith, own.near)))) h.made
          (diagram-agrees h.made.sound (record {
            at = λ x y p q. (λ n. kept_of i (h.stands.value.at x y p q n) (low-stands.value.at x y p q n))
                ∙ ap (Pair (pos (policy x))) (one-more (policy x) i (own_low m w policy x) (low_of m w own.action x)
                (λ e. sym (own-is m w policy x own.action (ap (slice_get m.actions) e ∙ own.offered) (omega (arith, e, own.near)))));
          }) d)

      pub own-more : (u : Shown) (r : Entry) → MakesDiagram t u (at_each (λ a c. kept_of i a c) (meaning t kept) (meaning t (get_or bounds i b).lo)) (Ok r) → HasOwn m w policy s u (i + 1) r
      own-more u r d = let g = own-next u (Ok r) d in record { made = has-made g; stands = g.ok }

      pub own-fails : (u : Shown) (e : StoreFault) → MakesDiagram t u (at_each (λ a c. kept_of i a c) (meaning t kept) (meaning t (get_or bounds i b).lo)) (Err e)
          → MakesAmong s u (numbers (λ x y. own_low m w policy x)) nodes (Err e)
      own-fails u e d = among-fails e (own-next u (Err e) d)

    pub second-fits : FitsEverywhere is_pair t kept
    second-fits = record { at = λ x y p q. ap is_pair (h.stands.value.at x y p q) }

    pub own-all : length bounds ≤ i → (u : Shown) (r : Result Entry StoreFault) → MakesDiagram t u (map_each (λ a. second_of_pair a) (meaning t kept)) r
        → MakesAmong s u (numbers (λ x y. own_low m w policy x)) nodes r
    own-all past u r d =
        among-after (one-among (numbers (λ x y. own_low m w policy x)) nodes (inl refl)) h.made
        (diagram-agrees h.made.sound (record {
          at = λ x y p q. (
              let named : policy x < length m.actions = are.named x (subst (λ z. IsState z x) (h.made.grows.sizes ∙ are.layout) p) in
              let inside : nat_lt (policy x) i ≡ true = (Decides-ltb (policy x) i).1 (omega (arith, named, past, own-count)) in
              ap second_of_pair (h.stands.value.at x y p q) ∙ ap (λ b. Num (if b then own_low m w policy x else pos 0)) inside);
        }) d)
