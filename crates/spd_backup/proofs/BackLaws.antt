-- A backup: the primed value, and both bounds.
use Rattle.std.proofs.Common.{◌≡◌, ℕ, List, [], ◌∷◌, refl, subst, inl, ℤ, Result, Ok, Err, IfErr}
use Rattle.spd_cons_core.specs.declared.key.Entry.{Entry}
use Rattle.spd_model.specs.declared.process.Action.{Action}
use Rattle.spd_model.specs.Process.{Process}
use Rattle.spd_model.specs.States.{sizes, IsState}
use Rattle.spd_model.specs.Turns.{IsBounded}
use Rattle.spd_nodes.specs.declared.leaf.Leaf.{Leaf}
use Rattle.spd_nodes.specs.declared.leaf.Leaf.TheVariants.{Num, Pair, Act}
use Rattle.spd_nodes.specs.declared.forest.StoreFault.{StoreFault}
use Rattle.spd_nodes.specs.declared.forest.StoreFault.TheVariants as F
use Rattle.spd_nodes.specs.Shown.{Shown, IsSound, Grows, FaultsAt, MakesAmong, MakesDiagram, meaning}
use Rattle.spd_nodes.specs.States.{Function, Agree, test_trees}
use Rattle.spd_restrict.specs.Primed.{primed}
use Rattle.spd_weigh.specs.declared.way.Way.TheVariants.{Down, Up}
use Rattle.spd_weigh.specs.Leaves.{number_of, IsValue, HasValues}
use Rattle.spd_backup.specs.declared.thawed.Thawed.{Thawed}
use Rattle.spd_backup.specs.Expected.{next_value, bound, backup_functions, BacksUp}
use Rattle.spd_backup.specs.Thawing.{HasAction, HasNumbers, IsThawed}
use Rattle.spd_backup.specs.Making.{Follows, IsFollowed, MakesBound}
use Rattle.spd_backup.proofs.PartLaws.{action-grows}
use Rattle.spd_backup.proofs.StepLaws.{expected-grows}
use Rattle.spd_nodes.proofs.CallerLemmas.{among-both, diagram-agrees, faults-within, grows-none, makes-none, makes-within, stands-grows, within-in}

pub follows-grows : {m : Process} {a : Action} {w : List ℕ → ℤ} {s t : Shown} {x : Thawed} {k : ℕ} {next : Entry} → Grows s t → Follows m a w s x k next → Follows m a w t x k next
follows-grows {m = m} {a = a} {s = s} {t = t} {x = x} {k = k} g h = record { has = action-grows m a s t x k g h.has; bounded = h.bounded; stands = stands-grows g h.stands }

pub followed-grows : {s t : Shown} {x : Thawed} {k : ℕ} {next : Entry} → Grows s t → IsFollowed s x k next → IsFollowed t x k next
followed-grows g h = record { process = h.process; chosen = h.chosen; value = h.value; follows = follows-grows g h.follows }

-- a call of which no value follows
pub back-fails : {m : Process} {a : Action} {w : List ℕ → ℤ} {s t : Shown} {f : Function} (e : StoreFault) → MakesAmong s t f (backup_functions m a w) (Err e) → BacksUp m a w s t (Err e)
back-fails e h = record { sound = h.sound; grows = h.grows; ok = tt; makes = h.makes; fault = h.fault }

-- no memory for tables
pub back-none : (m : Process) (a : Action) (w : List ℕ → ℤ) (s : Shown) → IsSound s → BacksUp m a w s s (Err F.Memory)
back-none m a w s o = record { sound = o; grows = grows-none s; ok = tt; makes = makes-none s (test_trees s.sizes (backup_functions m a w)); fault = tt }

-- a value is its number
pub number-is : (l : Leaf) → IsValue l → l ≡ Num (number_of l)
number-is (Num x) h = refl
number-is (Pair x y) h = absurd h
number-is (Act x) h = absurd h

-- the numbers of a value
pub own-numbers : (s : Shown) (r : Entry) → HasValues s.sizes (meaning s r) → HasNumbers s r (λ x. number_of (meaning s r x x))
own-numbers s r h = record { at = λ x p. number-is (meaning s r x x) (h.at x x p p) }

module _ (m : Process) (a : Action) (value : List ℕ → ℤ) (s : Shown) (x : Thawed) (k : ℕ) (w : Entry) (has : HasAction m a s x k) (is : HasNumbers s w value) where
  bounded : HasValues s.sizes (meaning s w) → IsBounded (sizes m) value
  bounded h y p =
      let q : IsState s.sizes y = rw (has.thawed.layout) p in
      subst IsValue (is.at y q) (h.at y y q q)

  next-agrees : Agree s.sizes (primed (meaning s w)) (next_value value)
  next-agrees = record { at = λ y z p q. is.at z q }

  fault-within : (t : Shown) (e : StoreFault) → FaultsAt e t (next_value value ∷ []) → FaultsAt e t (backup_functions m a value)
  fault-within t e h = faults-within e t (within-in t.sizes (next_value value) (backup_functions m a value) (inl refl)) h

  -- the value is primed
  pub next-made : IsSound s → (t : Shown) (r : Result Entry StoreFault) → MakesDiagram s t (primed (meaning s w)) r → MakesAmong s t (next_value value) (backup_functions m a value) r
  next-made o t r made =
      let h : MakesDiagram s t (next_value value) r = diagram-agrees o next-agrees made in
      record {
        sound = h.sound;
        grows = h.grows;
        ok = h.ok;
        makes = makes-within (within-in s.sizes (next_value value) (backup_functions m a value) (inl refl)) h.makes;
        fault = fault-all t r h.fault;
      }
    where
      fault-all : (t : Shown) (r : Result Entry StoreFault) → IfErr r (λ e. FaultsAt e t (next_value value ∷ [])) → IfErr r (λ e. FaultsAt e t (backup_functions m a value))
      fault-all t (Ok q) h = tt
      fault-all t (Err e) h = fault-within t e h

  pub next-follows : HasValues s.sizes (meaning s w) → (t : Shown) (next : Entry) → MakesAmong s t (next_value value) (backup_functions m a value) (Ok next) → Follows m a value t x k next
  next-follows h t next made = record { has = action-grows m a s t x k made.grows has; bounded = bounded h; stands = made.ok }

  module _ (t : Shown) (next : Entry) (made : MakesAmong s t (next_value value) (backup_functions m a value) (Ok next)) where
    pub low-fails : (u : Shown) (e : StoreFault) → MakesBound Down m a value t u (Err e) → BacksUp m a value s u (Err e)
    low-fails u e low = back-fails e (among-both made low.among)

    module _ (u : Shown) (lo : Entry) (low : MakesBound Down m a value t u (Ok lo)) where
      pub high-fails : (v : Shown) (e : StoreFault) → MakesBound Up m a value u v (Err e) → BacksUp m a value s v (Err e)
      high-fails v e high = back-fails e (among-both (among-both made low.among) high.among)

      pub both-made : (v : Shown) (hi : Entry) → MakesBound Up m a value u v (Ok hi) → BacksUp m a value s v (Ok (record { lo = lo; hi = hi }))
      both-made v hi high =
          let all : MakesAmong s v (bound Up m a value) (backup_functions m a value) (Ok hi) = among-both (among-both made low.among) high.among in
          record {
            sound = all.sound;
            grows = all.grows;
            ok = record {
              low = stands-grows high.among.grows low.among.ok;
              high = all.ok;
              low_expected = expected-grows high.among.grows low.known;
              high_expected = high.known;
            };
            makes = all.makes;
            fault = tt;
          }

-- some action is backed up where the primed value follows
pub is-followed : (s : Shown) (x : Thawed) (k : ℕ) (w : Entry) → IsSound s → IsThawed s x k → HasValues s.sizes (meaning s w) → (t : Shown) (next : Entry) → MakesDiagram s t (primed (meaning s w)) (Ok next) → IsFollowed t x k next
is-followed s x k w o h values t next made =
    let numbers = own-numbers s w values in
    record {
      process = h.process;
      chosen = h.chosen;
      value = λ y. number_of (meaning s w y y);
      follows = next-follows h.process h.chosen (λ y. number_of (meaning s w y y)) s x k w h.has numbers values t next (next-made h.process h.chosen (λ y. number_of (meaning s w y y)) s x k w h.has numbers o t (Ok next) made);
    }
