use Rattle.std.proofs.Common.{◌≡◌, ◌+◌, ◌++◌, [], ◌∷◌, fold, ap, sym, ◌∙◌}
use Rattle.std.specs.Arc.{arc_value}
use Rattle.left_right.specs.Sides.{view}
use Rattle.spd_board.proofs.Lists.{newest-number}
use Rattle.spd_board.proofs.Steps.{publishes}
use Rattle.spd_board.proofs.WriterLaws.{unless-err, call-says, after-published, after-whole}
use Rattle.spd_board.proofs.writer.publish_end.Goals as goal

pub publish_as-requires : goal.publish_as-requires
publish_as-requires g c next is =
    let nr = g.T.Numbered.nr in
    let end = c.append.new.self in
    let waits = unless-err _ c.append.result (sym c.is_err.ensures.value ∙ c.if-is_err.false) c.append.ensures.pending ∙ ap (λ l. l ++ c.args.item ∷ []) c.requires.none_waits in
    let value : arc_value next.item ≡ arc_value c.args.item = is ∙ ap (λ l. fold (λ x o. arc_value o) (arc_value end.desk.shown.value.item) l) waits in
    let before = ap (λ d. nr (arc_value d.shown.value.item)) c.append.ensures.desk in
    let whole = c.requires.whole in
    let count = newest-number nr _ _ whole.numbered whole.newest in
    publishes nr end.desk.place.id (view end.desk.place) end.desk.shown.value next (ap nr value ∙ c.requires.next ∙ sym count ∙ ap (λ n. n + 1) (sym before))

pub returns-clause-published : goal.returns-clause-published
returns-clause-published g c =
    let nr = g.T.Numbered.nr in
    let end = c.append.new.self in
    let old = c.args.end in
    let new = c.publish_as.result.0 in
    let waits = unless-err _ c.append.result (sym c.is_err.ensures.value ∙ c.if-is_err.false) c.append.ensures.pending ∙ ap (λ l. l ++ c.args.item ∷ []) c.requires.none_waits in
    let value = ap (λ l. fold (λ x o. arc_value o) (arc_value end.desk.shown.value.item) l) waits in
    let says = call-says nr _ _ c.publish_as.result.1 (view old.desk.place) (view end.desk.place) (view new.desk.place) old.desk.shown.value end.desk.shown.value new.desk.shown.value (arc_value c.args.item) _
    (ap (λ d. view d.place) c.append.ensures.desk) (ap (λ d. d.shown.value) c.append.ensures.desk) value c.publish_as.ensures.values c.publish_as.ensures.rule in
    after-published nr c.publish_as.result.1 (view old.desk.place) (view new.desk.place) old.desk.shown.value new.desk.shown.value (arc_value c.args.item) c.requires.whole says

pub returns-clause-whole : goal.returns-clause-whole
returns-clause-whole g c =
    let nr = g.T.Numbered.nr in
    let end = c.append.new.self in
    let old = c.args.end in
    let new = c.publish_as.result.0 in
    let waits = unless-err _ c.append.result (sym c.is_err.ensures.value ∙ c.if-is_err.false) c.append.ensures.pending ∙ ap (λ l. l ++ c.args.item ∷ []) c.requires.none_waits in
    let value = ap (λ l. fold (λ x o. arc_value o) (arc_value end.desk.shown.value.item) l) waits in
    let says = call-says nr _ _ c.publish_as.result.1 (view old.desk.place) (view end.desk.place) (view new.desk.place) old.desk.shown.value end.desk.shown.value new.desk.shown.value (arc_value c.args.item) _
    (ap (λ d. view d.place) c.append.ensures.desk) (ap (λ d. d.shown.value) c.append.ensures.desk) value c.publish_as.ensures.values c.publish_as.ensures.rule in
    after-whole nr c.publish_as.result.1 (view old.desk.place) (view new.desk.place) old.desk.shown.value new.desk.shown.value (arc_value c.args.item) c.requires.whole c.requires.next says
