use Rattle.std.proofs.Common.{◌≡◌, ◌∙◌, List, ℕ, false, true, ap, sym, subst}
use Rattle.std.specs.Prelude.{codes, bytes_eq}
use Rattle.spd_words.specs.Pieces.{Piece, is_option}
use Rattle.spd_words.specs.Inner.Judging.{judged, Judges}
use Rattle.spd_words.proofs.Judged.{judges_exit, value_word_goes, value_word_stops, option-word}
use Rattle.spd_words.proofs.said.Said.add_word.Goals as goal

pub returns-in_err-add_value-in-Value-clause-said : goal.returns-in_err-add_value-in-Value-clause-said
returns-in_err-add_value-in-Value-clause-said c =
    let words = c.args.words.now in
    let u = c.in_err-add_value-in-Value.field-0.0 in
    judges_exit _ c.add_value.new.self c.from_residual.result u c.from_residual.ensures.1
    (value_word_stops words c.args.verb c.args.expects c.args.at c.in-Value.key c.text_at-word.result.now _ c.args.self.now u
    c.in-Value.is c.text_at-word.ensures (c.in_err-add_value-in-Value.ensures words c.args.verb))

pub returns-in_ok-add_value-in-Value-clause-said : goal.returns-in_ok-add_value-in-Value-clause-said
returns-in_ok-add_value-in-Value-clause-said c =
    let words = c.args.words.now in
    value_word_goes words c.args.verb c.args.expects c.args.at c.in-Value.key c.text_at-word.result.now _ c.args.self.now c.add_value.new.self
    c.in-Value.is c.text_at-word.ensures (c.in_ok-add_value-in-Value.ensures words c.args.verb)

pub returns-else-eq-clause-said : goal.returns-else-eq-clause-said
returns-else-eq-clause-said c =
    let words = c.args.words.now in
    let word = c.text_at-word.result.now in
    let begins : is_option word ≡ true = sym c.is_option.ensures ∙ c.if-is_option.true in
    let more : bytes_eq word (codes "--") ≡ false = ap (λ (s : List ℕ). bytes_eq word s) (sym c.as_slice.ensures) ∙ sym c.eq.ensures ∙ c.if-eq.false in
    subst (λ (ps : List Piece). Judges (judged words c.args.verb ps c.args.self.now) c.add_option.result c.add_option.new.self)
    (option-word c.args.expects c.args.at word _ c.in-Anything.is c.text_at-word.ensures begins more) (c.add_option.ensures.said words)
