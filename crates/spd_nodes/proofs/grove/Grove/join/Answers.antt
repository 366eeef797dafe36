use Rattle.std.proofs.Common.{◌≡◌, ◌∙◌, sym, ap, subst}
use Rattle.spd_cons.specs.Values.{SeatValue}
use Rattle.spd_nodes.specs.Levels.{slots}
use Rattle.spd_nodes.specs.KnownTrees.{AllFitIn}
use Rattle.spd_nodes.specs.Grove.{GroveValue, Joins}
use Rattle.spd_nodes.proofs.GroveLaws.{sound-shown, fit-joined, joined-grove}
use Rattle.spd_nodes.proofs.grove.Grove.join.Goals as goal

same : (c : goal.After-join) → c.args.other.sizes ≡ c.self.inside.layout.now
same c = c.requires.sizes ∙ ap (λ (g : GroveValue). g.sizes) (sym c.self.view_is)

theirs : (c : goal.After-join) → AllFitIn (slots c.self.inside.layout.now) c.seat-seat.result.mind.knows
theirs c = subst (λ l. AllFitIn (slots l) c.seat-seat.result.mind.knows) (same c) c.seat-seat.ensures.fits

fits : (c : goal.After-join) → AllFitIn (slots c.self.inside.layout.now) c.join.new.seat.mind.knows
fits c = fit-joined _ c.self.inside.seat c.seat-seat.result c.join.new.seat c.join.ensures.before c.join.ensures.other c.join.ensures.after c.join.ensures.joins c.self.invariant.fit (theirs c)

pub invariant_of-self : goal.invariant_of-self
invariant_of-self c = record {
  own = ap (λ (s : SeatValue). s.table) c.join.ensures.joins.is ∙ c.self.invariant.own;
  layout = c.self.invariant.layout;
  seat = c.join.ensures.after;
  fit = fits c;
}

pub returns-clause-joins : goal.returns-clause-joins
returns-clause-joins c =
    let sizes = c.self.inside.layout.now in
    let new : GroveValue = record { sizes = sizes; seat = c.join.new.seat } in
    let other : GroveValue = record { sizes = sizes; seat = c.seat-seat.result } in
    subst (λ (g : GroveValue). Joins g c.args.other new) c.self.view_is
    (subst (λ (g : GroveValue). Joins (record { sizes = sizes; seat = c.self.inside.seat }) g new) (λ i. record { sizes = sym (same c) i; seat = c.seat-seat.ensures.seat i })
    (joined-grove sizes c.self.inside.seat c.seat-seat.result c.join.new.seat c.join.ensures.before c.join.ensures.other c.join.ensures.after c.join.ensures.joins))

pub returns-clause-sound : goal.returns-clause-sound
returns-clause-sound c = sound-shown _ c.join.new.seat c.self.invariant.layout c.join.ensures.after (fits c)
