use Rattle.std.proofs.Common.{◌≡◌, ◌∙◌, ◌++◌, ◌∷◌, ◌≤◌, [], List, length, sym, subst, arith}
use Rattle.std.proofs.lemmas.List.{nil_from_length}
use Rattle.spd_lex.specs.declared.token.Token.{Token}
use Rattle.spd_syntax.specs.declared.file.Counts.{Counts}
use Rattle.spd_syntax.specs.declared.file.Section.{Section}
use Rattle.spd_syntax.specs.Positions.{section}
use Rattle.spd_syntax.specs.Files.{AreSections}
use Rattle.spd_syntax.proofs.Moves.{same_exit, fails_after}
use Rattle.spd_syntax.proofs.FileMoves.{sections_move, sections_more, sections_lack, section_keeps}
use Rattle.spd_syntax.proofs.reader.Reader.sections.Goals as goal

pub returns-in_err-section-clause-err : goal.returns-in_err-section-clause-err
returns-in_err-section-clause-err c =
    let file = c.args.self.now.file.now in
    let u = c.in_err-section.field-0.0 in
    same_exit file (section c.args.counts ∷ []) c.args.tokens.now c.from_residual.result u c.from_residual.ensures.1
    (fails_after file (section c.args.counts ∷ []) (section c.loop-rest.seen ∷ []) c.args.tokens.now c.loop-rest.rest.now u
    (sections_move file c.args.counts c.loop-rest.seen c.loop-rest.sections c.args.tokens.now c.loop-rest.rest.now c.loop-rest.invariant.read) c.in_err-section.ensures.err)

pub loop-rest-preserved : goal.loop-rest-preserved
loop-rest-preserved c =
    let file = c.args.self.now.file.now in
    let s = c.in_ok-section.section in
    let a = c.args.tokens.now in
    let e = c.in_ok-section.after.now in
    let counts = c.after_section-seen.ensures in
    let keeps = section_keeps file c.loop-rest.seen s c.loop-rest.rest.now e c.in_ok-section.ensures.ok c.loop-rest.invariant.dds c.loop-rest.invariant.actions in
    record {
      read = subst (λ (ss : List Section). AreSections file c.args.counts ss c.after_section-seen.result a e) (sym c.in_ok-push.ensures.ok)
          (subst (λ (k : Counts). AreSections file c.args.counts (c.loop-rest.sections ++ s ∷ []) k a e) (sym counts)
          (sections_more file c.args.counts c.loop-rest.seen c.loop-rest.sections s a c.loop-rest.rest.now e c.loop-rest.invariant.read c.in_ok-section.ensures.ok));
      dds = subst (λ (k : Counts). k.dds ≤ 4096) (sym counts) keeps.0;
      actions = subst (λ (k : Counts). k.actions ≤ 64) (sym counts) keeps.1;
    }

pub returns-then-not-has_all-clause-err : goal.returns-then-not-has_all-clause-err
returns-then-not-has_all-clause-err c =
    let file = c.args.self.now.file.now in
    let none : length c.loop-rest.rest.now ≡ 0 = grind (arith, c.is_empty.ensures, c.loop-rest-test.false) in
    sections_lack file c.args.counts c.loop-rest.seen c.loop-rest.sections c.args.tokens.now c.loop-rest.rest.now c.expected.result c.loop-rest.invariant.read (nil_from_length c.loop-rest.rest.now none)
    (sym c.has_all.ensures ∙ c.if-not-has_all.true) c.expected.ensures

pub returns-clause-ok : goal.returns-clause-ok
returns-clause-ok c =
    let file = c.args.self.now.file.now in
    let none : length c.loop-rest.rest.now ≡ 0 = grind (arith, c.is_empty.ensures, c.loop-rest-test.false) in (
      c.loop-rest.seen,
      subst (λ (l : List Token). AreSections file c.args.counts c.loop-rest.sections c.loop-rest.seen c.args.tokens.now l) (nil_from_length c.loop-rest.rest.now none) c.loop-rest.invariant.read,
      sym c.has_all.ensures ∙ c.if-not-has_all.false,
    )
