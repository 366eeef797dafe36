-- What stands in a forest: values, their next values, the parts of a process, and its first action's bounds.
use Rattle.std.proofs.Common.{◌≡◌, ◌∙◌, ℕ, true, List, ℤ, pos, Result, Ok, Err, IfOk, sym, subst}
use Rattle.spd_cons_core.specs.declared.key.Entry.{Entry}
use Rattle.spd_model.specs.Process.{Process}
use Rattle.spd_model.specs.Lawful.{IsLawful}
use Rattle.spd_model.specs.States.{IsState}
use Rattle.spd_model.specs.Chances.{IsValid}
use Rattle.spd_nodes.specs.declared.forest.StoreFault.{StoreFault}
use Rattle.spd_nodes.specs.Shown.{Shown, Grows, StandsFor, meaning}
use Rattle.spd_restrict.specs.Primed.{primed}
use Rattle.spd_weigh.specs.Leaves.{IsValue}
use Rattle.spd_build.specs.declared.built.Built.{Built}
use Rattle.spd_build.specs.Built.{IsBuilt}
use Rattle.spd_backup.specs.declared.backing.Bounds.{Bounds}
use Rattle.spd_backup.specs.Expected.{BacksUp, AreBounds}
use Rattle.spd_backup.specs.Thawing.{IsThawed, HasAction, HasNumbers}
use Rattle.spd_turn.specs.declared.parts.TurnParts.{TurnParts}
use Rattle.spd_turn.specs.Parts.{IsValueList}
use Rattle.spd_turn.specs.Turn.{IsPresent, value_of_turn}
use Rattle.spd_turn.proofs.CallerLemmas.{present-of, some-action, start-value, turn-bounded}
use Rattle.spd_model.specs.declared.process.Action.{Action}
use Rattle.spd_nodes.specs.declared.leaf.Leaf.TheVariants.{Num}
use Rattle.spd_stage_bench.specs.Parts.{HasParts, IsOfValues}

pub values-grow : {s t : Shown} {r : Entry} → Grows s t → IsOfValues s r → IsOfValues t r
values-grow {r = r} g h = record {
  known = g.knows r h.known;
  whole = rw (g.sizes, g.trees r h.known) h.whole;
  values = rw (g.sizes, g.trees r h.known) h.values;
}

-- a value at the next state has the value's numbers
pub next-values : {s t : Shown} {w r : Entry} → Grows s t → IsOfValues s w → StandsFor t r (primed (meaning s w)) → IsOfValues t r
next-values {s = s} {t = t} g v h = record {
  known = h.knows;
  whole = h.whole;
  values = record { at = λ x y p q. let near = subst (λ z. IsState z y) g.sizes q in subst IsValue (sym (h.value.at x y p q)) (v.values.at y y near near) };
}

-- the value at the start is one of a turn
pub start-list : (m : Process) → IsLawful m → IsValid m → (b : Built) → IsBuilt m b → IsValueList m (value_of_turn m (pos 0) 0) b.start
start-list m law valid b built = record { bounded = turn-bounded m law valid (pos 0) 0; list = built.start ∙ start-value m (pos 0) }

-- what the parts have
module _ {s : Shown} {p : TurnParts} (h : HasParts s p) where
  pub parts-values : IsOfValues s p.w
  parts-values = record { known = h.parts.can.known; whole = h.parts.can.whole; values = h.parts.can.values }

  pub parts-present : IsPresent s p.w
  parts-present = present-of s p.w (λ x. Num (h.value x)) h.parts.stands

  first : (a : Action) × HasAction h.process a s p.thawed 0
  first = let a = some-action h.process.actions 0 h.parts.can.thawed.law.some_actions in (a.0, record { thawed = h.parts.can.thawed; offered = a.1 })

  pub parts-thawed : IsThawed s p.thawed 0
  parts-thawed = record { process = h.process; chosen = first.0; has = first.1 }

  pub bounds-known : {t : Shown} {answer : Result Bounds StoreFault}
      → ((m : Process) (a : Action) (value : List ℕ → ℤ) → HasAction m a s p.thawed 0 → HasNumbers s p.w value → BacksUp m a value s t answer)
      → IfOk answer (λ b. (t.knows b.lo ≡ true) × (t.knows b.hi ≡ true))
  bounds-known {t = t} {answer = answer} made = known answer (made h.process first.0 h.value first.1 h.parts.can.numbers).ok
    where
      known : (r : Result Bounds StoreFault) → IfOk r (λ b. AreBounds h.process first.0 h.value t b) → IfOk r (λ b. (t.knows b.lo ≡ true) × (t.knows b.hi ≡ true))
      known (Ok b) k = (k.low.knows, k.high.knows)
      known (Err e) k = tt
