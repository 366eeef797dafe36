use Rattle.std.proofs.Common.{subst, sym, IfOk, IfErr, [], ◌∷◌}
use Rattle.spd_nodes.specs.Shown.{KnowsAs, MakesOnly, Faults}
use Rattle.spd_nodes.specs.Store.{shown}
use Rattle.spd_nodes.proofs.StoreLaws.{join-one, join-two, fits-test}
use Rattle.spd_nodes.proofs.alone.AloneForest.test.Goals as goal

pub returns-then-yes-no-clause-ok : goal.returns-then-yes-no-clause-ok
returns-then-yes-no-clause-ok g c =
    record { knows = c.requires.no; tree = sym (join-one c.args.self.now c.layout.ensures.sound c.args.level.0 c.args.yes c.args.no c.requires.yes c.requires.no c.if-yes-no.true) }

pub find_or_add-requires : goal.find_or_add-requires
find_or_add-requires g c =
    record { fits = fits-test c.args.self.now c.layout.ensures.sound c.args.level.0 c.args.yes c.args.no c.requires.yes c.requires.no c.if-yes-no.false c.requires.level c.requires.fits }

pub returns-clause-ok : goal.returns-clause-ok
returns-clause-ok g c =
    subst (λ u. IfOk c.find_or_add.result (λ r. KnowsAs (shown c.find_or_add.new.self) r u))
    (join-two c.args.self.now c.layout.ensures.sound c.args.level.0 c.args.yes c.args.no c.requires.yes c.requires.no c.if-yes-no.false) c.find_or_add.ensures.made.ok

pub returns-clause-makes : goal.returns-clause-makes
returns-clause-makes g c =
    subst (λ u. MakesOnly (shown c.args.self.now) (shown c.find_or_add.new.self) (u ∷ []))
    (join-two c.args.self.now c.layout.ensures.sound c.args.level.0 c.args.yes c.args.no c.requires.yes c.requires.no c.if-yes-no.false) c.find_or_add.ensures.made.makes

pub returns-clause-fault : goal.returns-clause-fault
returns-clause-fault g c =
    subst (λ u. IfErr c.find_or_add.result (λ e. Faults e (shown c.find_or_add.new.self) (u ∷ [])))
    (join-two c.args.self.now c.layout.ensures.sound c.args.level.0 c.args.yes c.args.no c.requires.yes c.requires.no c.if-yes-no.false) c.find_or_add.ensures.made.fault
