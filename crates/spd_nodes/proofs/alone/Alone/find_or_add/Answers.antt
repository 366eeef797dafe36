use Rattle.std.proofs.Common.{subst, sym, refl, arith}
use Rattle.spd_nodes.specs.Store.{Held, KeyFits, FindsOrAdds}
use Rattle.spd_nodes.proofs.StoreLaws.{finds, adds, adds-none}
use Rattle.spd_nodes.proofs.alone.Alone.find_or_add.Goals as goal
use Rattle.spd_nodes.proofs.alone.Alone.find_or_add.Goals.{in-Ok, in-Err, in-Some, in-None}

pub returns-then-len-self : goal.returns-then-len-self
returns-then-len-self c =
    let fits : KeyFits _ c.args.key = subst (λ (v : Held). KeyFits v c.args.key) (sym c.self.view_is) c.requires.fits in
    subst (λ (v : Held). FindsOrAdds v v c.args.key c.match-find.result) c.self.view_is
    (finds _ c.self.invariant c.args.key fits (omega arith) c.find.result c.find.ensures c.match-find.result
    (elim c.match-find.branch [ in-Some w ↦ rw w.in-Some.is (record { 0 = w.in-Some.place }, refl, w.result-is) | in-None w ↦ rw w.in-None.is w.result-is ]))

pub returns : goal.returns
returns c =
    let fits : KeyFits _ c.args.key = subst (λ (v : Held). KeyFits v c.args.key) (sym c.self.view_is) c.requires.fits in
    let before : Held = record { sizes = c.self.inside.layout; keys = c.self.inside.keys; limit = c.self.inside.limit } in
    let after : Held = record { sizes = c.self.inside.layout; keys = c.find_or_add.new.self; limit = c.self.inside.limit } in
    subst (λ (v : Held). FindsOrAdds v after c.args.key c.match-find_or_add.result) c.self.view_is
    (elim c.match-find_or_add.branch [
      | in-Ok w ↦ rw w.result-is (adds before c.self.invariant c.args.key fits (omega arith) c.find_or_add.new.self (record { 0 = w.in-Ok.place }) w.in-Ok.ensures.ok).1
      | in-Err w ↦ rw (w.result-is, w.in-Err.ensures.err) (adds-none before c.self.invariant c.args.key (omega arith) w.in-Err.ensures.absent)
    ])

pub invariant_of-self : goal.invariant_of-self
invariant_of-self c =
    let fits : KeyFits _ c.args.key = subst (λ (v : Held). KeyFits v c.args.key) (sym c.self.view_is) c.requires.fits in
    elim c.match-find_or_add.branch [
      | in-Ok w ↦ (adds _ c.self.invariant c.args.key fits (omega arith) c.find_or_add.new.self (record { 0 = w.in-Ok.place }) w.in-Ok.ensures.ok).0
      | in-Err w ↦ rw w.in-Err.ensures.err c.self.invariant
    ]
