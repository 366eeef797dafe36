use Rattle.std.proofs.Common.{◌≡◌, ℕ, ◌+◌, List, [], length, replicate, None, Ok, refl, sym, ap, ◌∙◌, subst, arith}
use Rattle.std.specs.Prelude.{All, slice_set}
use Rattle.std.proofs.lemmas.List.Elements.{All-cons, All-nil}
use Rattle.std.proofs.lemmas.Bool.Decides.{Decides-eqb}
use Rattle.std.proofs.lemmas.List.{length-set, nil_from_length}
use Rattle.spd_query.specs.Lines.{words_of, with_words}
use Rattle.spd_query.specs.inner.Places.{Stands}
use Rattle.spd_query.proofs.GivenLaws.{in_order, order-step, order-end}
use Rattle.spd_query.proofs.read.state_in_order.Goals as goal

pub loop-number-init : goal.loop-number-init
loop-number-init c = record {
  room = refl;
  words = ap (with_words c.args.vars.now (replicate (length c.args.vars.now) None)) (sym c.without_blank-rest.ensures);
  stand = subst (All Stands) c.without_blank-rest.ensures;
}

pub loop-number-preserved : goal.loop-number-preserved
loop-number-preserved c =
    let vars = c.args.vars.now in
    let values = c.loop-number.values in
    let n = c.loop-number.number in
    let v = c.in_ok-value.value in
    record {
      room = length-set values n v ∙ c.loop-number.invariant.room;
      words = c.loop-number.invariant.words
          ∙ order-step vars values n v (omega (arith, c.loop-number-test.true)) (omega (arith, c.loop-number.invariant.room, c.requires.few, c.loop-number-test.true)) c.loop-number.rest.now c.in_ok-value.behind.now c.in_ok-value.ensures
          ∙ ap (with_words vars (in_order vars (slice_set values n v) (n + 1))) (sym c.without_blank-rest-in-loop-number.ensures);
      stand = λ others. (
          let pair = c.in_ok-value.ensures in
          let behind : All Stands (words_of c.in_ok-value.behind.now) = subst (All Stands) c.without_blank-rest-in-loop-number.ensures others in
          c.loop-number.invariant.stand (subst (All Stands) (sym pair.words) (All-cons Stands pair.word (words_of c.in_ok-value.behind.now) pair.stands behind)));
    }

pub returns-then-is_empty-clause-stands : goal.returns-then-is_empty-clause-stands
returns-then-is_empty-clause-stands c =
    let none : c.loop-number.rest.now ≡ [] = nil_from_length c.loop-number.rest.now ((Decides-eqb (length c.loop-number.rest.now) 0).0 (sym c.is_empty.ensures ∙ c.if-is_empty.true)) in
    c.loop-number.invariant.stand (subst (λ (rest : List ℕ). All Stands (words_of rest)) (sym none) (All-nil Stands))

pub returns-then-is_empty-clause-read : goal.returns-then-is_empty-clause-read
returns-then-is_empty-clause-read c =
    let vars = c.args.vars.now in
    let values = c.loop-number.values in
    let all : c.loop-number.number ≡ length vars = omega (arith, c.loop-number-test.false, c.loop-number.auto.number-end) in
    let none : c.loop-number.rest.now ≡ [] = nil_from_length c.loop-number.rest.now ((Decides-eqb (length c.loop-number.rest.now) 0).0 (sym c.is_empty.ensures ∙ c.if-is_empty.true)) in
    order-end vars values (words_of c.args.line.now)
    (c.loop-number.invariant.words ∙ (λ i. with_words vars (in_order vars values (all i)) (words_of (none i)))) ∙ ap Ok (sym c.of.ensures)
