use Rattle.std.proofs.Common.{◌∙◌, ap, sym, []}
use Rattle.spd_words.specs.Pieces.{behind_option, behind_name}
use Rattle.spd_words.proofs.Judged.{judges_exit, alone_stops, alone_goes, joined_stops, value_stops, value_goes}
use Rattle.spd_words.proofs.said.Said.add_option.Goals as goal

pub returns-in_err-key-in-None-clause-said : goal.returns-in_err-key-in-None-clause-said
returns-in_err-key-in-None-clause-said c words =
    let at = c.args.at in let word = c.args.word.now in let said = c.args.self.now in
    let u = c.in_err-key-in-None.field-0.0 in
    judges_exit _ said c.from_residual.result u c.from_residual.ensures.1 (alone_stops words c.args.verb at word said u c.in-None.ensures (c.in_err-key-in-None.ensures words))

pub returns-in_err-key-in-Some-clause-said : goal.returns-in_err-key-in-Some-clause-said
returns-in_err-key-in-Some-clause-said c words =
    let at = c.args.at in let word = c.args.word.now in let said = c.args.self.now in
    let u = c.in_err-key-in-Some.field-0.0 in
    judges_exit _ said c.from_residual-in_err-key-in-Some.result u c.from_residual-in_err-key-in-Some.ensures.1
    (joined_stops words c.args.verb at word c.in-Some.name.now c.in-Some.text.now said u c.in-Some.ensures (c.in_err-key-in-Some.ensures words))

pub returns-in_err-add_value-in-Some-clause-said : goal.returns-in_err-add_value-in-Some-clause-said
returns-in_err-add_value-in-Some-clause-said c words =
    let at = c.args.at in let word = c.args.word.now in let said = c.args.self.now in
    let u = c.in_err-add_value-in-Some.field-0.0 in
    judges_exit _ c.add_value.new.self c.from_residual-in_err-add_value-in-Some.result u c.from_residual-in_err-add_value-in-Some.ensures.1
    (value_stops words c.args.verb at word c.in-Some.name.now c.in-Some.text.now said c.in_ok-key-in-Some.key u
    c.in-Some.ensures (c.in_ok-key-in-Some.ensures words) (c.in_err-add_value-in-Some.ensures words c.args.verb))

pub returns-in_ok-key-in-None-clause-said : goal.returns-in_ok-key-in-None-clause-said
returns-in_ok-key-in-None-clause-said c words =
    alone_goes words c.args.verb c.args.at c.args.word.now c.args.self.now c.in_ok-key-in-None.key c.in-None.ensures (c.in_ok-key-in-None.ensures words)

pub returns-in_ok-key-in-None-clause-next : goal.returns-in_ok-key-in-None-clause-next
returns-in_ok-key-in-None-clause-next c =
    sym (ap (behind_option c.args.word.now) c.in-None.ensures ∙ ap behind_name (c.in_ok-key-in-None.ensures []).0)

pub returns-in_ok-add_value-in-Some-clause-said : goal.returns-in_ok-add_value-in-Some-clause-said
returns-in_ok-add_value-in-Some-clause-said c words =
    value_goes words c.args.verb c.args.at c.args.word.now c.in-Some.name.now c.in-Some.text.now c.args.self.now c.add_value.new.self c.in_ok-key-in-Some.key
    c.in-Some.ensures (c.in_ok-key-in-Some.ensures words) (c.in_ok-add_value-in-Some.ensures words c.args.verb)
