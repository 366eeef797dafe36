use Rattle.std.proofs.Common.{◌≡◌, ◌∙◌, ◌+◌, ◌<◌, true, sym, ap, subst}
use Rattle.std.specs.List.{Contains}
use Rattle.spd_cons_core.specs.declared.key.Key.{Key}
use Rattle.spd_cons_core.specs.Seats.{is_known}
use Rattle.spd_cons.specs.declared.view.Size.{Size}
use Rattle.spd_cons.specs.Shown.{view_of}
use Rattle.spd_cons.specs.Values.{SeatValue, TableValue, IsSeatOf, known}
use Rattle.spd_cons.proofs.Facts.{rest_facts}
use Rattle.spd_cons.proofs.KnownWords.{known_below, known_as}
use Rattle.spd_cons.proofs.cons.Cons.read.Goals as goal

pub read_words-requires-clause-below : goal.read_words-requires-clause-below
read_words-requires-clause-below c =
    let size : (view_of c.seat.inside.active).size ≡ c.self.inside.words.size =
    ap (λ (v : SeatValue). v.table.size) c.seat.view_is ∙ (ap (λ (t : TableValue). t.size) c.requires.own ∙ ap (λ (t : TableValue). t.size) (sym c.self.view_is)) in
    subst (λ (z : Size). c.args.e.0 < z.limit + z.most) size
    (known_below _ _ c.seat.invariant.active.sees c.args.e (subst (λ (v : SeatValue). is_known v.mind.knows c.args.e ≡ true) (sym c.seat.view_is) c.requires.known))

pub returns-clause-key : goal.returns-clause-key
returns-clause-key c =
    let k = known_as _ _ c.seat.invariant.active.sees c.args.e (subst (λ (v : SeatValue). is_known v.mind.knows c.args.e ≡ true) (sym c.seat.view_is) c.requires.known) in
    let is = c.key_of.ensures k.0 k.2 (c.read_words.ensures.words k.0 k.1) in
    subst (λ (key : Key). Contains c.args.seat.now.mind.knows (known c.args.e key)) (sym is)
    (subst (λ (v : SeatValue). Contains v.mind.knows (known c.args.e k.0)) c.seat.view_is k.1)

pub returns-clause-sound : goal.returns-clause-sound
returns-clause-sound c = subst (λ (v : SeatValue). IsSeatOf v) c.seat.view_is (rest_facts _ c.seat.invariant)
