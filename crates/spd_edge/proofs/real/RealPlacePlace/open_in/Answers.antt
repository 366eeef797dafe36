use Rattle.std.proofs.Common.{◌≡◌, ap, ◌∙◌, rules}
use Rattle.spd_edge.specs.declared.outside.Stage.TheVariants as Stage
use Rattle.spd_edge.specs.Direction.{staged}
use Rattle.spd_edge.specs.Real.{RealDirections, shown_by}
use Rattle.spd_edge.proofs.DirectionLemmas.{staged-stage, Opens-staged, FailsToOpen-staged, AfterOpen-failed, NoneFalls-opened, NoneFalls-failed}
use Rattle.spd_edge.proofs.real.RealPlacePlace.open_in.Goals as goal

pub settle-requires : goal.settle-requires
settle-requires g c = staged-stage (shown_by c.self.inside.inputs) (shown_by c.ask.new.self) c.args.name.now Stage.Unopened c.in_ok-ask.ensures.ok

pub returns-clause-inputs : goal.returns-clause-inputs
returns-clause-inputs g c =
    let asked : shown_by c.ask.new.self ≡ staged (shown_by c.args.self.now.inputs) c.args.name.now Stage.Unopened =
    c.in_ok-ask.ensures.ok ∙ ap (λ (place : RealDirections). staged (shown_by place.inputs) c.args.name.now Stage.Unopened) c.self.view_is in
    Opens-staged (shown_by c.args.self.now.inputs) (shown_by c.ask.new.self) (shown_by c.settle.new.self) c.args.name.now asked c.in_ok-stream.ensures.opened

pub returns-clause-never_falls : goal.returns-clause-never_falls
returns-clause-never_falls g c =
    let asked : shown_by c.ask.new.self ≡ staged (shown_by c.args.self.now.inputs) c.args.name.now Stage.Unopened =
    c.in_ok-ask.ensures.ok ∙ ap (λ (place : RealDirections). staged (shown_by place.inputs) c.args.name.now Stage.Unopened) c.self.view_is in
    NoneFalls-opened (shown_by c.args.self.now.inputs) (shown_by c.ask.new.self) (shown_by c.settle.new.self) c.args.name.now asked c.in_ok-stream.ensures.opened

pub returns-in_err-stream-clause-inputs : goal.returns-in_err-stream-clause-inputs
returns-in_err-stream-clause-inputs g c =
    let asked : shown_by c.ask.new.self ≡ staged (shown_by c.args.self.now.inputs) c.args.name.now Stage.Unopened =
    c.in_ok-ask.ensures.ok ∙ ap (λ (place : RealDirections). staged (shown_by place.inputs) c.args.name.now Stage.Unopened) c.self.view_is in
    AfterOpen-failed (shown_by c.args.self.now.inputs) (shown_by c.settle.new.self) c.args.name.now c.from_residual-in_err-stream.result (search rules)
    (FailsToOpen-staged (shown_by c.args.self.now.inputs) (shown_by c.ask.new.self) (shown_by c.settle.new.self) c.args.name.now asked c.in_err-stream.ensures.failed)

pub returns-in_err-stream-clause-never_falls : goal.returns-in_err-stream-clause-never_falls
returns-in_err-stream-clause-never_falls g c =
    let asked : shown_by c.ask.new.self ≡ staged (shown_by c.args.self.now.inputs) c.args.name.now Stage.Unopened =
    c.in_ok-ask.ensures.ok ∙ ap (λ (place : RealDirections). staged (shown_by place.inputs) c.args.name.now Stage.Unopened) c.self.view_is in
    NoneFalls-failed (shown_by c.args.self.now.inputs) (shown_by c.ask.new.self) (shown_by c.settle.new.self) c.args.name.now (λ _. c.ask.new.self.in_range) asked c.in_err-stream.ensures.failed
