use Rattle.std.proofs.Common.{◌≡◌, ◌∙◌, ap, sym, true, false}
use Rattle.std.specs.Prelude.{codes, bytes_eq}
use Rattle.spd_syntax.specs.Words.{text_of}
use Rattle.spd_syntax.proofs.FileMoves.{observations_left, other_word, no_other_word, section_stopped}
use Rattle.spd_syntax.proofs.reader.Reader.no_section.Goals as goal

pub returns-in_default : goal.returns-in_default
returns-in_default c k = section_stopped c.args.self.now.file.now k c.args.tokens.now c.expected-fault.result c.requires.some c.requires.word c.in_default.ensures c.expected-fault.ensures

pub returns-in_default-next_word : goal.returns-in_default-next_word
returns-in_default-next_word c k =
    no_other_word c.args.self.now.file.now k c.args.tokens.now c.in-Some.inside.now c.expected-fault.result c.in-Some.ensures c.in_default-next_word.ensures c.expected-fault.ensures

pub returns-then-says : goal.returns-then-says
returns-then-says c k =
    let file = c.args.self.now.file.now in
    let w = c.in-Some-next_word.word in
    let is : bytes_eq (text_of file w) (codes "observations") ≡ true = ap (λ t. bytes_eq t (codes "observations")) (sym c.text.ensures) ∙ sym c.says.ensures ∙ c.if-says.true in
    observations_left file k w c.args.tokens.now c.in-Some.inside.now c.in-Some-next_word.field-0-1.now c.in-Some.ensures c.in-Some-next_word.ensures is

pub returns : goal.returns
returns c k =
    let file = c.args.self.now.file.now in
    let w = c.in-Some-next_word.word in
    let is : bytes_eq (text_of file w) (codes "observations") ≡ false = ap (λ t. bytes_eq t (codes "observations")) (sym c.text.ensures) ∙ sym c.says.ensures ∙ c.if-says.false in
    other_word file k w c.args.tokens.now c.in-Some.inside.now c.in-Some-next_word.field-0-1.now c.expected-fault.result c.in-Some.ensures c.in-Some-next_word.ensures is c.expected-fault.ensures
