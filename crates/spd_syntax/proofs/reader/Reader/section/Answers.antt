use Rattle.std.proofs.Common.{◌≡◌, ◌∙◌, sym, ap, subst, refl, arith}
use Rattle.std.proofs.lemmas.Result.{IfOk-weaker, IfErr-weaker}
use Rattle.spd_syntax.specs.declared.sections.SectionWord.{SectionWord}
use Rattle.spd_syntax.specs.declared.sections.SectionWord.TheVariants.{LeftOut as LeftOutSection, Other as NoSection}
use Rattle.spd_syntax.specs.declared.refusal.Refusal.TheVariants.{LeftOut, Expected}
use Rattle.spd_syntax.specs.declared.refusal.Want.TheVariants as wants
use Rattle.spd_syntax.specs.Words.{text_of}
use Rattle.spd_syntax.specs.Positions.{section_word}
use Rattle.spd_syntax.specs.Files.{IsBody}
use Rattle.spd_syntax.proofs.Moves.{word_longer}
use Rattle.spd_syntax.proofs.FileMoves.{section_stops, body_fails}
use Rattle.spd_syntax.proofs.reader.Reader.section.Goals as goal

pub returns-in-LeftOut-clause-err : goal.returns-in-LeftOut-clause-err
returns-in-LeftOut-clause-err c =
    let w = c.in_ok-word.word in
    section_stops c.args.self.now.file.now c.args.counts w c.args.tokens.now c.in_ok-word.rest.now LeftOutSection (LeftOut w.from) c.in_ok-word.ensures.ok (sym (c.in-LeftOut.ensures ∙ ap section_word c.text.ensures)) refl

pub returns-in-Other-clause-err : goal.returns-in-Other-clause-err
returns-in-Other-clause-err c =
    let w = c.in_ok-word.word in
    section_stops c.args.self.now.file.now c.args.counts w c.args.tokens.now c.in_ok-word.rest.now NoSection (Expected w.from wants.Section) c.in_ok-word.ensures.ok (sym (c.in-Other.ensures ∙ ap section_word c.text.ensures)) refl

pub returns-in_default : goal.returns-in_default
returns-in_default c =
    let file = c.args.self.now.file.now in
    let w = c.in_ok-word.word in
    let kind = c.section_word.result in
    let a = c.args.tokens.now in
    let b = c.in_ok-word.rest.now in
    let is : section_word (text_of file w) ≡ kind = sym (c.section_word.ensures ∙ ap section_word c.text.ensures) in
    record {
      ok = IfOk-weaker c.body.result _ _
          (λ x body. record { b = b; word = w; first = c.in_ok-word.ensures.ok; body = subst (λ (k : SectionWord). IsBody file c.args.counts k w x.0 b x.1.now) (sym is) body }) c.body.ensures.ok;
      err = IfErr-weaker c.body.result _ _ (λ e fails. body_fails file c.args.counts w a b kind e c.in_ok-word.ensures.ok is c.in_default.not-LeftOut c.in_default.not-Other fails) c.body.ensures.err;
      shorter = IfOk-weaker c.body.result _ _ (λ x less. omega (arith, word_longer w a b c.in_ok-word.ensures.ok)) c.body.ensures.shorter;
    }
