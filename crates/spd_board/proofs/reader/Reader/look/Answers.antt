use Rattle.std.proofs.Common.{sym, ap, subst, ◌∙◌, inl}
use Rattle.std.specs.Prelude.{option_map}
use Rattle.std.specs.Arc.{arc_value}
use Rattle.spd_board.specs.Board.{GoesOn}
use Rattle.spd_board.specs.Ends.{Answers}
use Rattle.spd_board.specs.inner.Inside.{IsReading, seen_at}
use Rattle.spd_board.proofs.Lists.{reading-later, reading-newest, newest-later}
use Rattle.spd_board.proofs.reader.Reader.look.Goals as goal

pub invariant_of-self-in_default-share : goal.invariant_of-self-in_default-share
invariant_of-self-in_default-share g c =
    let nr = g.T.Numbered.nr in
    let there = sym c.take.ensures.value ∙ c.in-Some.is in
    let kept = subst (λ o. IsReading nr record { seen = seen_at (λ e. e.place.me.0.client.seen) o; last = arc_value c.self.inside.kept }) there c.self.invariant in
    let look = c.enter-end.ensures in
    reading-later nr _ _ _ kept look.goes_on (look.numbered kept.numbered)

pub invariant_of-self-in-Some-share : goal.invariant_of-self-in-Some-share
invariant_of-self-in-Some-share g c =
    let nr = g.T.Numbered.nr in
    let there = sym c.take.ensures.value ∙ c.in-Some.is in
    let kept = subst (λ o. IsReading nr record { seen = seen_at (λ e. e.place.me.0.client.seen) o; last = arc_value c.self.inside.kept }) there c.self.invariant in
    let look = c.enter-end.ensures in
    reading-newest nr _ _ (look.numbered kept.numbered) (look.newest (arc_value c.in-Some-share.share) (ap (option_map arc_value) c.in-Some-share.is))

pub returns-in-Some-share : goal.returns-in-Some-share
returns-in-Some-share g c =
    let nr = g.T.Numbered.nr in
    let there = sym c.take.ensures.value ∙ c.in-Some.is in
    let kept = subst (λ o. IsReading nr record { seen = seen_at (λ e. e.place.me.0.client.seen) o; last = arc_value c.self.inside.kept }) there c.self.invariant in
    let look = c.enter-end.ensures in
    let numbered = look.numbered kept.numbered in
    let newest = look.newest (arc_value c.in-Some-share.share) (ap (option_map arc_value) c.in-Some-share.is) in
    subst (λ v. Answers nr v record { seen = c.enter-end.result.0.place.me.0.client.seen; last = arc_value c.in-Some-share.share }) c.self.view_is record {
      goes_on = subst (λ o. GoesOn (seen_at (λ e. e.place.me.0.client.seen) o) c.enter-end.result.0.place.me.0.client.seen) (sym there) look.goes_on;
      numbered = numbered;
      newest = inl newest;
      published = (reading-newest nr _ _ numbered newest).published;
      no_older = newest-later nr _ _ _ _ kept look.goes_on numbered newest;
    }
