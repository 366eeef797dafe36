use Rattle.std.proofs.Common.{◌≡◌, ◌∙◌, ap, sym, Err}
use Rattle.spd_syntax.specs.declared.refusal.Want.TheVariants as wants
use Rattle.spd_syntax.specs.declared.sections.ItemWord.TheVariants.{Cost, Other as ATable}
use Rattle.spd_syntax.specs.declared.unread.Unread.TheVariants.{Refused}
use Rattle.spd_syntax.specs.Positions.{item_word}
use Rattle.spd_syntax.specs.Words.{name_passes, text_of}
use Rattle.spd_syntax.proofs.Moves.{err_exit}
use Rattle.spd_syntax.proofs.FileMoves.{item_other, cost_parts, observe_left, table_stops, table_tree}
use Rattle.spd_syntax.proofs.reader.Reader.item.Goals as goal

pub returns-in_err-parts-in-Cost-clause-err : goal.returns-in_err-parts-in-Cost-clause-err
returns-in_err-parts-in-Cost-clause-err c =
    let file = c.args.self.now.file.now in
    let w = c.args.word in
    let u = c.in_err-parts-in-Cost.field-0.0 in
    let is : item_word (text_of file w) ≡ Cost = sym (c.in-Cost.ensures ∙ ap item_word c.text-text.ensures) in
    err_exit _ c.from_residual.result u c.from_residual.ensures.1 (λ a k word. cost_parts file k w a c.args.tokens.now u word is c.in_err-parts-in-Cost.ensures.err)

pub returns-in_ok-parts-in-Cost-clause-ok : goal.returns-in_ok-parts-in-Cost-clause-ok
returns-in_ok-parts-in-Cost-clause-ok c a word =
    (c.args.tokens.now, word, sym (c.in-Cost.ensures ∙ ap item_word c.text-text.ensures), c.in_ok-parts-in-Cost.ensures.ok)

pub returns-in-LeftOut-clause-err : goal.returns-in-LeftOut-clause-err
returns-in-LeftOut-clause-err c a k word = observe_left c.args.self.now.file.now k c.args.word a c.args.tokens.now word (sym (c.in-LeftOut.ensures ∙ ap item_word c.text-text.ensures))

pub returns-in_err-name_passes-in_default-clause-err : goal.returns-in_err-name_passes-in_default-clause-err
returns-in_err-name_passes-in_default-clause-err c =
    let file = c.args.self.now.file.now in
    let w = c.args.word in
    let f = c.in_err-name_passes-in_default.field-0.0 in
    let said : c.item_word.result ≡ item_word (text_of file w) = c.item_word.ensures ∙ ap item_word c.text-text.ensures in
    let is : item_word (text_of file w) ≡ ATable = item_other _ c.requires (λ e. c.in_default.not-Cost (said ∙ e)) (λ e. c.in_default.not-LeftOut (said ∙ e)) in
    let found : Err f ≡ name_passes wants.Name w.from (text_of file w) = c.in_err-name_passes-in_default.ensures ∙ ap (name_passes wants.Name w.from) c.text-text.ensures in
    err_exit _ c.from_residual-in_err-name_passes-in_default.result (Refused f) c.from_residual-in_err-name_passes-in_default.ensures.1 (λ a k word. table_stops file k w a c.args.tokens.now f word is found)

pub returns-in_err-tree-in_default-clause-err : goal.returns-in_err-tree-in_default-clause-err
returns-in_err-tree-in_default-clause-err c =
    let file = c.args.self.now.file.now in
    let w = c.args.word in
    let u = c.in_err-tree-in_default.field-0.0 in
    let said : c.item_word.result ≡ item_word (text_of file w) = c.item_word.ensures ∙ ap item_word c.text-text.ensures in
    let is : item_word (text_of file w) ≡ ATable = item_other _ c.requires (λ e. c.in_default.not-Cost (said ∙ e)) (λ e. c.in_default.not-LeftOut (said ∙ e)) in
    let passes = sym (c.in_ok-name_passes-in_default.ensures ∙ ap (name_passes wants.Name w.from) c.text-text.ensures) in
    err_exit _ c.from_residual-in_err-tree-in_default.result u c.from_residual-in_err-tree-in_default.ensures.1
    (λ a k word. table_tree file k w a c.args.tokens.now u (record { word = word; name = record { is = passes } }) is c.in_err-tree-in_default.ensures.err)
