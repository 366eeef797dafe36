use Rattle.std.proofs.Common.{true, false, sym, ap, ◌∙◌, arith, [], ◌++◌, append-nil, List}
use Rattle.spd_lex.specs.Lexing.{opened}
use Rattle.spd_lex.specs.declared.token.Token.{Token}
use Rattle.spd_lex.proofs.TokenLaws.{kept, kept_bad, after_first-length, none_left}
use Rattle.spd_lex.proofs.lexer.all_tokens.Goals as goal

pub returns-then-is_bad-clause-bad : goal.returns-then-is_bad-clause-bad
returns-then-is_bad-clause-bad c =
    let rest = c.loop-rest.rest.now in
    let all = kept_bad _ c.loop-rest.at c.loop-rest.comment c.in_comment-comment.result true c.shown-seen.result rest (omega arith) c.in_comment-comment.ensures c.shown-seen.ensures
    c.if-is_bad.ensures c.loop-rest.invariant.bad in
    sym all

pub loop-rest-preserved : goal.loop-rest-preserved
loop-rest-preserved c =
    let rest = c.loop-rest.rest.now in
    record {
      told = kept c.loop-rest.lexer.tokens.items c.take.new.self.tokens.items _ c.loop-rest.lexer.word c.take.new.self.word c.loop-rest.at c.loop-rest.comment
          c.in_comment-comment.result c.shown-seen.result rest (omega arith) c.in_comment-comment.ensures c.shown-seen.ensures c.loop-rest.invariant.told c.in_ok-take.ensures;
      bad = kept_bad _ c.loop-rest.at c.loop-rest.comment c.in_comment-comment.result false c.shown-seen.result rest (omega arith) c.in_comment-comment.ensures c.shown-seen.ensures
          c.if-is_bad.ensures c.loop-rest.invariant.bad;
      place = omega (arith, after_first-length rest (omega arith), c.loop-rest.invariant.place);
    }

pub returns-clause-found : goal.returns-clause-found
returns-clause-found c =
    let rest = c.loop-rest.rest.now in
    let ends = none_left c.loop-rest.at c.loop-rest.comment rest (omega arith) in (
      sym c.loop-rest.invariant.bad ∙ ends.1,
      sym (append-nil c.end_word.new.self.tokens.items) ∙ c.in_ok-end_word.ensures.told [] tt
          ∙ sym (ap (λ (ts : List Token). c.loop-rest.lexer.tokens.items ++ opened c.loop-rest.lexer.word c.loop-rest.at ts) ends.0) ∙ c.loop-rest.invariant.told,
    )
