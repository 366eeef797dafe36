use Rattle.std.proofs.Common.{subst, sym, IfOk, IfErr, [], ◌∷◌}
use Rattle.spd_nodes.specs.Shown.{KnowsAs, MakesOnly, Faults}
use Rattle.spd_nodes.specs.KnownTrees.{shown_by}
use Rattle.spd_nodes.proofs.GroveLaws.{join-one, join-two, good-test}
use Rattle.spd_nodes.proofs.grove.GroveForest.test.Goals as goal

pub returns-then-yes-no-clause-ok : goal.returns-then-yes-no-clause-ok
returns-then-yes-no-clause-ok g c = record { knows = c.requires.no; tree = sym (join-one c.args.self.now.sizes c.args.self.now.seat c.facts.ensures.sound c.facts.ensures.seat c.facts.ensures.fit c.args.level.0 c.args.yes c.args.no c.requires.yes c.requires.no c.if-yes-no.true) }

pub find-requires : goal.find-requires
find-requires g c = good-test c.args.self.now.sizes c.args.self.now.seat c.facts.ensures.sound c.facts.ensures.seat c.facts.ensures.fit c.args.level.0 c.args.yes c.args.no c.requires.yes c.requires.no c.if-yes-no.false c.requires.level c.requires.fits

pub returns-clause-ok : goal.returns-clause-ok
returns-clause-ok g c =
    subst (λ u. IfOk c.find.result (λ r. KnowsAs (shown_by c.find.new.self.sizes c.find.new.self.seat) r u))
    (join-two c.args.self.now.sizes c.args.self.now.seat c.facts.ensures.sound c.facts.ensures.seat c.facts.ensures.fit c.args.level.0 c.args.yes c.args.no c.requires.yes c.requires.no c.if-yes-no.false (good-test c.args.self.now.sizes c.args.self.now.seat c.facts.ensures.sound c.facts.ensures.seat c.facts.ensures.fit c.args.level.0 c.args.yes c.args.no c.requires.yes c.requires.no c.if-yes-no.false c.requires.level c.requires.fits)) c.find.ensures.finds.made.ok

pub returns-clause-makes : goal.returns-clause-makes
returns-clause-makes g c =
    subst (λ u. MakesOnly (shown_by c.args.self.now.sizes c.args.self.now.seat) (shown_by c.find.new.self.sizes c.find.new.self.seat) (u ∷ []))
    (join-two c.args.self.now.sizes c.args.self.now.seat c.facts.ensures.sound c.facts.ensures.seat c.facts.ensures.fit c.args.level.0 c.args.yes c.args.no c.requires.yes c.requires.no c.if-yes-no.false (good-test c.args.self.now.sizes c.args.self.now.seat c.facts.ensures.sound c.facts.ensures.seat c.facts.ensures.fit c.args.level.0 c.args.yes c.args.no c.requires.yes c.requires.no c.if-yes-no.false c.requires.level c.requires.fits)) c.find.ensures.finds.made.makes

pub returns-clause-fault : goal.returns-clause-fault
returns-clause-fault g c =
    subst (λ u. IfErr c.find.result (λ e. Faults e (shown_by c.find.new.self.sizes c.find.new.self.seat) (u ∷ [])))
    (join-two c.args.self.now.sizes c.args.self.now.seat c.facts.ensures.sound c.facts.ensures.seat c.facts.ensures.fit c.args.level.0 c.args.yes c.args.no c.requires.yes c.requires.no c.if-yes-no.false (good-test c.args.self.now.sizes c.args.self.now.seat c.facts.ensures.sound c.facts.ensures.seat c.facts.ensures.fit c.args.level.0 c.args.yes c.args.no c.requires.yes c.requires.no c.if-yes-no.false c.requires.level c.requires.fits)) c.find.ensures.finds.made.fault
