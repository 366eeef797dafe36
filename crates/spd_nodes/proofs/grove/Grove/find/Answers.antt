use Rattle.std.proofs.Common.{◌∙◌, subst, sym, inl, inr}
use Rattle.spd_nodes.specs.Levels.{slots}
use Rattle.spd_nodes.specs.KnownTrees.{CanBeMade}
use Rattle.spd_nodes.specs.Grove.{GroveValue, FindsKey}
use Rattle.spd_nodes.proofs.GroveLaws.{key-shown}
use Rattle.spd_nodes.proofs.grove.Grove.find.Goals as goal
use Rattle.spd_nodes.proofs.grove.Grove.find.Goals.{in-Ok, in-Err}

pub returns-clause-finds : goal.returns-clause-finds
returns-clause-finds g c =
    let good = subst (λ (v : GroveValue). CanBeMade (slots v.sizes) v.seat.mind.knows c.args.key) (sym c.self.view_is) c.requires in
    subst (λ (v : GroveValue). FindsKey v (record { sizes = c.self.inside.layout.now; seat = c.find_or_make.new.seat }) c.args.key c.match-find_or_make.result) c.self.view_is
    (key-shown c.self.inside.layout.now c.self.inside.seat c.find_or_make.new.seat c.args.key c.self.invariant.layout c.find_or_make.ensures.before c.find_or_make.ensures.after c.self.invariant.fit good c.find_or_make.ensures.keeps c.match-find_or_make.result
    (elim c.match-find_or_make.branch [ in-Ok w ↦ inl (_, w.result-is, w.in-Ok.ensures.ok) | in-Err w ↦ inr (w.result-is, w.in-Err.ensures.full) ])).0

pub invariant_of-self : goal.invariant_of-self
invariant_of-self g c =
    let good = subst (λ (v : GroveValue). CanBeMade (slots v.sizes) v.seat.mind.knows c.args.key) (sym c.self.view_is) c.requires in
    record {
      own = c.find_or_make.ensures.keeps.table ∙ c.self.invariant.own;
      layout = c.self.invariant.layout;
      seat = c.find_or_make.ensures.after;
      fit = (key-shown c.self.inside.layout.now c.self.inside.seat c.find_or_make.new.seat c.args.key c.self.invariant.layout c.find_or_make.ensures.before c.find_or_make.ensures.after c.self.invariant.fit good c.find_or_make.ensures.keeps c.match-find_or_make.result
          (elim c.match-find_or_make.branch [ in-Ok w ↦ inl (_, w.result-is, w.in-Ok.ensures.ok) | in-Err w ↦ inr (w.result-is, w.in-Err.ensures.full) ])).1;
    }
