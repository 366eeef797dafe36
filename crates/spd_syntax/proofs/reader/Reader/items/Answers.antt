use Rattle.std.proofs.Common.{◌∷◌, [], List, sym, subst, rules, arith}
use Rattle.spd_lex.specs.declared.token.Kind.TheVariants.{Word as WordKind}
use Rattle.spd_syntax.specs.declared.file.Item.{Item}
use Rattle.spd_syntax.specs.declared.refusal.Want.TheVariants as wants
use Rattle.spd_syntax.specs.declared.unread.Unread.TheVariants.{Refused}
use Rattle.spd_syntax.specs.Positions.{item}
use Rattle.spd_syntax.specs.Files.{Each, AnItem}
use Rattle.spd_syntax.proofs.Moves.{err_exit, faults_after, fails_after, misses, word_longer}
use Rattle.spd_syntax.proofs.FileMoves.{each_more, item_only, items_move}
use Rattle.spd_syntax.proofs.reader.Reader.items.Goals as goal

pub returns-in_err-word-clause-err : goal.returns-in_err-word-clause-err
returns-in_err-word-clause-err c =
    let file = c.args.self.now.file.now in
    let f = c.in_err-word.field-0.0 in
    err_exit _ c.from_residual.result (Refused f) c.from_residual.ensures.1
    (λ k. faults_after file (item k ∷ []) (item k ∷ []) c.args.tokens.now c.items.rest.now f (items_move file k c.items.items c.args.tokens.now c.items.rest.now c.items.invariant.read)
    (misses file (item k) WordKind wants.Name c.items.rest.now f (item_only k) c.in_err-word.ensures.err))

pub returns-in_err-item : goal.returns-in_err-item
returns-in_err-item c =
    let file = c.args.self.now.file.now in
    let u = c.in_err-item.field-0.0 in
    record {
      ok = search rules;
      err = err_exit _ c.from_residual-in_err-item.result u c.from_residual-in_err-item.ensures.1
          (λ k. fails_after file (item k ∷ []) (item k ∷ []) c.args.tokens.now c.items.rest.now u (items_move file k c.items.items c.args.tokens.now c.items.rest.now c.items.invariant.read)
          (c.in_err-item.ensures.err c.items.rest.now k c.in_ok-word.ensures.ok));
      shorter = search rules;
    }

pub items-preserved : goal.items-preserved
items-preserved c =
    let file = c.args.self.now.file.now in
    let next = c.in_ok-item.next.now in
    record {
      read = subst (λ (its : List Item). Each (AnItem file) its c.args.tokens.now next) (sym c.in_ok-push.ensures.ok)
          (each_more (AnItem file) c.items.items c.in_ok-item.item c.args.tokens.now c.items.rest.now next c.items.invariant.read (c.in_ok-item.ensures.ok c.items.rest.now c.in_ok-word.ensures.ok));
      left = omega (arith, word_longer c.in_ok-word.word c.items.rest.now c.in_ok-word.after.now c.in_ok-word.ensures.ok, c.in_ok-item.ensures.shorter, c.items.invariant.left);
    }
