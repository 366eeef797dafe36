use Rattle.std.proofs.Common.{◌≡◌, ◌∷◌, codes, ap, sym, ◌∙◌}
use Rattle.std.specs.Prelude.{bytes_eq}
use Rattle.std.proofs.lemmas.Bool.{not-false}
use Rattle.std.proofs.lemmas.Slice.Eq.{bytes_eq-Decides}
use Rattle.spd_query.specs.Lines.{words_of}
use Rattle.spd_query.proofs.GivenLaws.{line-in-order, option-fits}
use Rattle.spd_query.proofs.read.line_in_order.Goals as goal

pub returns-clause-read : goal.returns-clause-read
returns-clause-read c =
    let word = c.in_ok-word.word.now in
    let same = not-false (bytes_eq word c.as_slice.result.now) (sym c.ne.ensures ∙ c.if-ne.false) in
    let is : word ≡ codes "state" = (bytes_eq-Decides word c.as_slice.result.now).0 same ∙ c.as_slice.ensures in
    line-in-order c.args.vars.now c.args.line.now c.in_ok-word.rest.now c.requires.short
    (c.in_ok-word.ensures.words ∙ ap (λ l. l ∷ words_of c.in_ok-word.rest.now) is)
    c.state_in_order.result c.state_in_order.ensures.read c.state_in_order.ensures.stands

pub returns-clause-fits : goal.returns-clause-fits
returns-clause-fits c = option-fits c.args.vars.now (words_of c.in_ok-word.rest.now) c.state_in_order.result c.state_in_order.ensures.read
