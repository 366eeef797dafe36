-- The parts of a check, one after the other.
use Rattle.std.proofs.Common.{◌≡◌, ℕ, ◌<◌, ◌≤◌, true, List, ◌++◌, All, Contains, length, ℤ, pos, refl, sym, ◌∙◌, subst, arith, Ok, Err, Vec, Global}
use Rattle.std.proofs.lemmas.Option.{get_or_from_slice_get}
use Rattle.spd_scaled.specs.Scaled.{floor_div, IsWithin}
use Rattle.spd_cons_core.specs.declared.key.Entry.{Entry}
use Rattle.spd_model.specs.Process.{Process}
use Rattle.spd_model.specs.States.{sizes, IsState}
use Rattle.spd_model.specs.Backup.{best_high}
use Rattle.spd_model.specs.Turns.{value_limit}
use Rattle.spd_model.proofs.CallerLemmas.Bounded.{best_high_limited, floor_keeps, return_limited}
use Rattle.spd_model.proofs.CallerLemmas.Lists.{All-map_back}
use Rattle.spd_nodes.specs.declared.forest.StoreFault.{StoreFault}
use Rattle.spd_nodes.specs.declared.forest.StoreFault.TheVariants as F
use Rattle.spd_nodes.specs.Made.{HasMade, MakesAll}
use Rattle.spd_nodes.specs.Shown.{Shown, StandsFor, MakesAmong}
use Rattle.spd_nodes.specs.States.{Function}
use Rattle.spd_nodes.proofs.CallerLemmas.{Among, all-out, among-back, among-front, among-trans, fault-wider, grows-then, has-made, has-then, has-wider, part-failed, stand-grow, stand-known, stands-grows}
use Rattle.spd_build.specs.Functions.{numbers}
use Rattle.spd_backup.specs.declared.backing.Bounds.{Bounds}
use Rattle.spd_policy.specs.Best.{highs_of, upper_bounds, AreBoundsOf}
use Rattle.spd_residual.specs.Residual.{IsValued}
use Rattle.spd_residual.proofs.CallerLemmas.{value-of-state}
use Rattle.spd_turn.specs.Backups.{BacksUpAll}
use Rattle.spd_turn.specs.Jobs.{IsBackupReady}
use Rattle.spd_turn.specs.Turn.{present_value}
use Rattle.spd_turn.specs.Waves.{all_backups}
use Rattle.spd_turn.proofs.CallerLemmas.{backed-bounds, some-action}
use Rattle.spd_check.specs.declared.given.Given.{Given}
use Rattle.spd_check.specs.declared.gaps.GapDiagrams.{GapDiagrams}
use Rattle.spd_check.specs.declared.verdict.Verdict.{Verdict}
use Rattle.spd_check.specs.Certificates.{own_low}
use Rattle.spd_check.specs.Functions.{check_functions, gap_functions, given_functions, highest_functions, own_functions}
use Rattle.spd_check.specs.inner.Judging.{AreBeside, AreSomeBeside, AreSomeBounds, AreWhole, CanCheck, CanJudge, MakesGaps, MakesGiven}
use Rattle.spd_check.proofs.HighestLaws.{highest-count}
use Rattle.spd_check.proofs.VerdictLaws.{own-is}

module _ (m : Process) (w : List ℕ → ℤ) (policy : List ℕ → ℕ) (can : CanCheck m w policy) where
  abbrev nodes : List Function
  nodes = check_functions m w policy

  abbrev first_two : List Function
  first_two = given_functions m w policy ++ all_backups m w

  abbrev first_three : List Function
  first_three = first_two ++ highest_functions m w

  abbrev first_four : List Function
  first_four = first_three ++ own_functions m w policy

  a-four : Among first_four nodes
  a-four = among-front first_four (gap_functions m w policy)

  a-three : Among first_three nodes
  a-three = among-trans (among-front first_three (own_functions m w policy)) a-four

  a-two : Among first_two nodes
  a-two = among-trans (among-front first_two (highest_functions m w)) a-three

  a-given : Among (given_functions m w policy) nodes
  a-given = among-trans (among-front (given_functions m w policy) (all_backups m w)) a-two

  a-backups : Among (all_backups m w) nodes
  a-backups = among-trans (among-back (given_functions m w policy) (all_backups m w)) a-two

  a-highest : Among (highest_functions m w) nodes
  a-highest = among-trans (among-back first_two (highest_functions m w)) a-three

  a-own : Among (own_functions m w policy) nodes
  a-own = among-trans (among-back first_three (own_functions m w policy)) a-four

  a-gaps : Among (gap_functions m w policy) nodes
  a-gaps = among-back first_four (gap_functions m w policy)

  own-within : (x : List ℕ) → IsState (sizes m) x → IsWithin (pos value_limit) (own_low m w policy x)
  own-within x i =
      let near = can.named x i in
      let a = some-action m.actions (policy x) near in
      let offered : Contains m.actions a.0 = (policy x, near, get_or_from_slice_get m.actions (policy x) a.0 a.0 a.1) in
      subst (IsWithin (pos value_limit)) (sym (own-is m w policy x a.0 a.1 near)) (return_limited m can.law can.valid floor_div floor_keeps w can.bounded a.0 offered x i)

  module _ (s t : Shown) (same : s.sizes ≡ sizes m) where
    pub given-fails : (e : StoreFault) → MakesGiven m w policy s t (Err e) → MakesAll {A = Verdict} s t nodes (Err e)
    given-fails e h = record { made = has-wider a-given h.made.made; fault = fault-wider e t a-given h.made.fault }

    module _ (g : Given) (h : MakesGiven m w policy s t (Ok g)) where
      made-t : HasMade s t nodes
      made-t = has-wider a-given h.made.made

      pub backup-ready : IsBackupReady t g.thawed g.w
      backup-ready = record { process = m; value = w; can = h.ok.can }

      pub tables-fail : MakesAll {A = Verdict} s t nodes (Err F.Memory)
      tables-fail = all-out F.Memory refl made-t

      module _ (u : Shown) where
        pub backups-fail : (e : StoreFault) → BacksUpAll m w t u (Err e) → MakesAll {A = Verdict} s u nodes (Err e)
        backups-fail e b = record { made = has-then a-backups made-t b.made.made; fault = fault-wider e u a-backups b.made.fault }

        module _ (v : Vec Bounds Global) (b : BacksUpAll m w t u (Ok v)) (bounds : List Bounds) (are : bounds ≡ v.items) where
          made-u : HasMade s u nodes
          made-u = has-then a-backups made-t b.made.made

          pub bounds-u : AreBoundsOf m w u bounds
          bounds-u = subst (AreBoundsOf m w u) (sym are) (backed-bounds m w u v.items b.ok)

          pub some-bounds : AreSomeBounds u bounds
          some-bounds = record { process = m; value = w; are = bounds-u }

          pub bounds-some : 0 < length bounds
          bounds-some = omega (arith, highest-count m w u bounds bounds-u, can.law.some_actions)

          pub bounds-few : length bounds ≤ 64
          bounds-few = omega (arith, highest-count m w u bounds bounds-u, can.law.few_actions)

          module _ (x : Shown) where
            pub highest-failed : (e : StoreFault) → MakesAmong u x (numbers (λ y z. best_high m w y)) (highest_functions m w) (Err e) → MakesAll {A = Verdict} s x nodes (Err e)
            highest-failed e k = part-failed e a-highest made-u k

            module _ (high : Entry) (k : MakesAmong u x (numbers (λ y z. best_high m w y)) (highest_functions m w) (Ok high)) where
              made-x : HasMade s x nodes
              made-x = has-then a-highest made-u (has-made k)

              bounds-x : AreBoundsOf m w x bounds
              bounds-x = record { low = stand-grow k.grows _ _ bounds-u.low; high = stand-grow k.grows _ _ bounds-u.high }

              pub beside : AreBeside m w policy x bounds g.act
              beside = record {
                layout = made-x.grows.sizes ∙ same;
                named = can.named;
                all = bounds-x;
                acts = stands-grows (grows-then b.made.made.grows k.grows) h.ok.act;
              }

              pub some-beside : AreSomeBeside x bounds g.act
              some-beside = record { process = m; value = w; policy = policy; are = beside }

              module _ (y : Shown) where
                pub own-failed : (e : StoreFault) → MakesAmong x y (numbers (λ p q. own_low m w policy p)) (own_functions m w policy) (Err e) → MakesAll {A = Verdict} s y nodes (Err e)
                own-failed e l = part-failed e a-own made-x l

                module _ (own : Entry) (l : MakesAmong x y (numbers (λ p q. own_low m w policy p)) (own_functions m w policy) (Ok own)) where
                  made-y : HasMade s y nodes
                  made-y = has-then a-own made-x (has-made l)

                  layout-y : y.sizes ≡ sizes m
                  layout-y = made-y.grows.sizes ∙ same

                  pub value-y : StandsFor y g.w (present_value w)
                  value-y = stands-grows (grows-then b.made.made.grows (grows-then k.grows l.grows)) h.ok.value

                  pub high-y : StandsFor y high (numbers (λ p q. best_high m w p))
                  high-y = stands-grows l.grows k.ok

                  pub own-y : StandsFor y own (numbers (λ p q. own_low m w policy p))
                  own-y = l.ok

                  pub valued-value : IsValued y g.w
                  valued-value = (value-of-state y g.w w value-y (λ p i. can.bounded p (subst (λ n. IsState n p) layout-y i))).valued

                  pub valued-high : IsValued y high
                  valued-high = (value-of-state y high (best_high m w) high-y (λ p i. best_high_limited m can.law can.valid w can.bounded p (subst (λ n. IsState n p) layout-y i))).valued

                  pub valued-own : IsValued y own
                  valued-own = (value-of-state y own (own_low m w policy) own-y (λ p i. own-within p (subst (λ n. IsState n p) layout-y i))).valued

                  module _ (z : Shown) where
                    pub gaps-failed : (e : StoreFault) → MakesGaps m w policy y z (Err e) → MakesAll {A = Verdict} s z nodes (Err e)
                    gaps-failed e q = record { made = has-then a-gaps made-y q.made.made; fault = fault-wider e z a-gaps q.made.fault }

                    module _ (d : GapDiagrams) (q : MakesGaps m w policy y z (Ok d)) where
                      made-z : HasMade s z nodes
                      made-z = has-then a-gaps made-y q.made.made

                      pub layout-z : z.sizes ≡ sizes m
                      layout-z = made-z.grows.sizes ∙ same

                      bounds-z : AreBoundsOf m w z bounds
                      bounds-z =
                          let g = grows-then l.grows q.made.made.grows in
                          record { low = stand-grow g _ _ bounds-x.low; high = stand-grow g _ _ bounds-x.high }

                      pub known-bounds : All (λ (c : Bounds). z.knows c.hi ≡ true) bounds
                      known-bounds = All-map_back (λ r. z.knows r ≡ true) (λ (c : Bounds). c.hi) bounds (stand-known z (highs_of bounds) (upper_bounds m w) bounds-z.high)

                      high-z : StandsFor z high (numbers (λ p q. best_high m w p))
                      high-z = stands-grows q.made.made.grows high-y

                      pub known-high : z.knows high ≡ true
                      known-high = high-z.knows

                      pub whole-gaps : AreWhole z d
                      whole-gaps = record { above_known = q.ok.above.knows; above_whole = q.ok.above.whole; below_known = q.ok.below.knows; below_whole = q.ok.below.whole }

                      pub can-judge : CanJudge m w policy z bounds high d
                      can-judge = record { can = can; layout = layout-z; all = bounds-z; highest = high-z; gaps = q.ok }

                      pub check-done : (a : Verdict) → MakesAll s z nodes (Ok a)
                      check-done a = record { made = made-z; fault = tt }

                      pub check-out : MakesAll {A = Verdict} s z nodes (Err F.Memory)
                      check-out = all-out F.Memory refl made-z
