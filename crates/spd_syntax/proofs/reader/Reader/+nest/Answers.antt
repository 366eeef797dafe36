use Rattle.std.proofs.Common.{◌≡◌, ◌∙◌, sym, ap, subst, arith, true, false, ◌∷◌, [], Ok, Err, refl, get_or, List, ℕ}
use Rattle.std.proofs.lemmas.Result.{IfOk-weaker, IfErr-weaker}
use Rattle.spd_lex.specs.declared.token.Token.{Token}
use Rattle.spd_lex.specs.declared.token.Kind.TheVariants.{Open, Word as WordKind}
use Rattle.spd_syntax.specs.declared.refusal.Refusal.TheVariants.{Expected, TooMany}
use Rattle.spd_syntax.specs.declared.refusal.What.TheVariants.{Nesting}
use Rattle.spd_syntax.specs.declared.refusal.Want.TheVariants as wants
use Rattle.spd_syntax.specs.Grammar.{HaveBranches, IsInside, IsValue}
use Rattle.spd_syntax.specs.Words.{value_passes, name_passes, is_number_word, is_primed, text_of, unmarked, front_of}
use Rattle.spd_syntax.specs.Numbers.{number_of}
use Rattle.spd_syntax.specs.Positions.{tree, inside, branch_value}
use Rattle.spd_syntax.specs.Reading.{here, behind_head, Faults}
use Rattle.spd_syntax.proofs.Moves.{misses, fails_after, refused_exit, same_exit, one_longer}
use Rattle.spd_syntax.proofs.TreeMoves.{tree_only, inside_only, value_only, opens, too_deep, have_more, is_choice, choice_branch, choice_ends, choice_empty, primed_some, number_stops, number_ends, head_stops, head_fails, value_stops, branch_tree, branch_ends}
use Rattle.spd_syntax.proofs.reader.Reader.+nest.Goals as goal

-- ---- branch

pub branch-returns-in_err-value-clause-err : goal.branch-returns-in_err-value-clause-err
branch-returns-in_err-value-clause-err t c =
    let file = c.args.self.now.file.now in
    refused_exit file (branch_value c.args.quantity c.args.n ∷ []) c.args.tokens.now c.from_residual.result c.in_err-value.field-0.0 c.from_residual.ensures.1
    (misses file (branch_value c.args.quantity c.args.n) WordKind wants.Value c.args.tokens.now c.in_err-value.field-0.0 (value_only c.args.quantity c.args.n) c.in_err-value.ensures.err)

pub branch-returns-in_err-value_passes-clause-err : goal.branch-returns-in_err-value_passes-clause-err
branch-returns-in_err-value_passes-clause-err t c =
    let file = c.args.self.now.file.now in
    let w = c.in_ok-value.value in
    let f = c.in_err-value_passes.field-0.0 in
    let found : Err f ≡ value_passes wants.Value w.from (text_of file w) = c.in_err-value_passes.ensures ∙ ap (value_passes wants.Value w.from) c.text.ensures in
    refused_exit file (branch_value c.args.quantity c.args.n ∷ []) c.args.tokens.now c.from_residual-in_err-value_passes.result f c.from_residual-in_err-value_passes.ensures.1
    (value_stops file c.args.quantity c.args.n w c.args.tokens.now c.in_ok-value.rest.now f c.in_ok-value.ensures.ok found)

pub branch-returns-in_err-tree-clause-err : goal.branch-returns-in_err-tree-clause-err
branch-returns-in_err-tree-clause-err t c =
    let file = c.args.self.now.file.now in
    let w = c.in_ok-value.value in
    let is : IsValue file w = record { is = sym (c.in_ok-value_passes.ensures ∙ ap (value_passes wants.Value w.from) c.text.ensures) } in
    same_exit file (branch_value c.args.quantity c.args.n ∷ []) c.args.tokens.now c.from_residual-in_err-tree.result c.in_err-tree.field-0.0 c.from_residual-in_err-tree.ensures.1
    (branch_tree file c.args.quantity c.args.n w c.args.tokens.now c.in_ok-value.rest.now c.in_err-tree.field-0.0 c.in_ok-value.ensures.ok is c.in_err-tree.ensures.err)

pub branch-returns-in_err-after-clause-err : goal.branch-returns-in_err-after-clause-err
branch-returns-in_err-after-clause-err t c =
    let file = c.args.self.now.file.now in
    let w = c.in_ok-value.value in
    let is : IsValue file w = record { is = sym (c.in_ok-value_passes.ensures ∙ ap (value_passes wants.Value w.from) c.text.ensures) } in
    refused_exit file (branch_value c.args.quantity c.args.n ∷ []) c.args.tokens.now c.from_residual-in_err-after.result c.in_err-after.field-0.0 c.from_residual-in_err-after.ensures.1
    (branch_ends file c.args.quantity c.args.n w c.in_ok-tree.tree c.args.tokens.now c.in_ok-value.rest.now c.in_ok-tree.rest.now c.in_err-after.field-0.0
    c.in_ok-value.ensures.ok is c.in_ok-tree.ensures.ok c.in_err-after.ensures.err)

-- ---- choice

pub choice-returns-in_err-branch-clause-err : goal.choice-returns-in_err-branch-clause-err
choice-returns-in_err-branch-clause-err t c =
    let file = c.args.self.now.file.now in
    same_exit file (behind_head c.args.quantity c.args.n c.args.primed ∷ []) c.args.tokens.now c.from_residual.result c.in_err-branch.field-0.0 c.from_residual.ensures.1
    (choice_branch file c.args.quantity c.args.n c.args.primed c.loop-inside.branches c.args.tokens.now c.loop-inside.rest.now c.in-Some.inside.now c.in_err-branch.field-0.0
    c.loop-inside.invariant.read c.in-Some.ensures c.in_err-branch.ensures.err)

pub choice-loop-inside-preserved : goal.choice-loop-inside-preserved
choice-loop-inside-preserved t c =
    let file = c.args.self.now.file.now in
    record {
      read = subst (λ bs. HaveBranches file c.args.quantity c.args.n bs c.args.tokens.now c.in_ok-branch.after.now) (sym c.in_ok-push.ensures.ok)
          (have_more file c.args.quantity c.args.n c.loop-inside.branches c.in_ok-branch.branch c.args.tokens.now c.loop-inside.rest.now c.in-Some.inside.now c.in_ok-branch.after.now
          c.loop-inside.invariant.read c.in-Some.ensures c.in_ok-branch.ensures.ok);
      left = omega (arith, one_longer Open c.loop-inside.rest.now c.in-Some.inside.now c.in-Some.ensures, c.in_ok-branch.ensures.shorter, c.loop-inside.invariant.left);
    }

pub choice-returns-then-is_empty-clause-err : goal.choice-returns-then-is_empty-clause-err
choice-returns-then-is_empty-clause-err t c =
    choice_empty c.args.self.now.file.now c.args.quantity c.args.n c.args.primed c.loop-inside.branches c.args.tokens.now c.loop-inside.rest.now c.expected.result
    (grind (arith, c.is_empty.ensures, c.as_slice.ensures, c.if-is_empty.true, c.branches-2.view_is)) c.loop-inside.invariant.read c.in_default.ensures
    c.requires.other (c.expected.ensures ∙ ap (λ want. Expected (here c.args.self.now.file.now c.loop-inside.rest.now) want) c.behind_name.ensures)

pub choice-returns-in_err-after-clause-err : goal.choice-returns-in_err-after-clause-err
choice-returns-in_err-after-clause-err t c =
    let file = c.args.self.now.file.now in
    refused_exit file (behind_head c.args.quantity c.args.n c.args.primed ∷ []) c.args.tokens.now c.from_residual-in_err-after.result c.in_err-after.field-0.0 c.from_residual-in_err-after.ensures.1
    (choice_ends file c.args.quantity c.args.n c.args.primed c.loop-inside.branches c.args.tokens.now c.loop-inside.rest.now c.in_err-after.field-0.0
    c.loop-inside.invariant.read (grind (arith, c.is_empty.ensures, c.as_slice.ensures, c.if-is_empty.false, c.branches-2.view_is)) c.in_default.ensures c.in_err-after.ensures.err)

-- ---- inside

pub inside-returns-in_err-word-clause-err : goal.inside-returns-in_err-word-clause-err
inside-returns-in_err-word-clause-err t c =
    let file = c.args.self.now.file.now in
    refused_exit file (inside c.args.quantity c.args.n ∷ []) c.args.tokens.now c.from_residual.result c.in_err-word.field-0.0 c.from_residual.ensures.1
    (misses file (inside c.args.quantity c.args.n) WordKind wants.Name c.args.tokens.now c.in_err-word.field-0.0 (inside_only c.args.quantity c.args.n) c.in_err-word.ensures.err)

pub inside-returns-in_err-units-clause-err : goal.inside-returns-in_err-units-clause-err
inside-returns-in_err-units-clause-err t c =
    let file = c.args.self.now.file.now in
    let w = c.in_ok-word.word in
    let f = c.in_err-units.field-0.0 in
    let is : is_number_word (text_of file w) ≡ true = ap is_number_word (sym c.text-text.ensures) ∙ sym c.is_number_word.ensures ∙ c.if-is_number_word.true in
    let found : Err f ≡ number_of c.args.quantity w.from (text_of file w) = c.in_err-units.ensures ∙ ap (number_of c.args.quantity w.from) c.text-text.ensures in
    refused_exit file (inside c.args.quantity c.args.n ∷ []) c.args.tokens.now c.from_residual-in_err-units.result f c.from_residual-in_err-units.ensures.1
    (number_stops file c.args.quantity c.args.n w c.args.tokens.now c.in_ok-word.rest.now f c.in_ok-word.ensures.ok is found)

pub inside-returns-in_err-rest-clause-err : goal.inside-returns-in_err-rest-clause-err
inside-returns-in_err-rest-clause-err t c =
    let file = c.args.self.now.file.now in
    let w = c.in_ok-word.word in
    let is : is_number_word (text_of file w) ≡ true = ap is_number_word (sym c.text-text.ensures) ∙ sym c.is_number_word.ensures ∙ c.if-is_number_word.true in
    let found : Ok c.in_ok-units.units ≡ number_of c.args.quantity w.from (text_of file w) = c.in_ok-units.ensures ∙ ap (number_of c.args.quantity w.from) c.text-text.ensures in
    refused_exit file (inside c.args.quantity c.args.n ∷ []) c.args.tokens.now c.from_residual-in_err-rest.result c.in_err-rest.field-0.0 c.from_residual-in_err-rest.ensures.1
    (number_ends file c.args.quantity c.args.n w c.in_ok-units.units c.args.tokens.now c.in_ok-word.rest.now c.in_err-rest.field-0.0 c.in_ok-word.ensures.ok is found c.in_err-rest.ensures.err)

pub inside-front_of-requires : goal.inside-front_of-requires
inside-front_of-requires t c = primed_some _ (sym c.is_primed.ensures ∙ c.if-is_primed.true)

pub inside-returns-in_err-name_passes-clause-err : goal.inside-returns-in_err-name_passes-clause-err
inside-returns-in_err-name_passes-clause-err t c =
    let file = c.args.self.now.file.now in
    let w = c.in_ok-word.word in
    let f = c.in_err-name_passes.field-0.0 in
    let apart : is_number_word (text_of file w) ≡ false = ap is_number_word (sym c.text-text.ensures) ∙ sym c.is_number_word.ensures ∙ c.if-is_number_word.false in
    let mark : is_primed (text_of file w) ≡ true = ap is_primed (sym c.text-text.ensures) ∙ sym c.is_primed.ensures ∙ c.if-is_primed.true in
    let found : Err f ≡ name_passes wants.Name w.from (front_of (text_of file w)) = c.in_err-name_passes.ensures ∙ ap (name_passes wants.Name w.from) (c.front_of.ensures ∙ ap front_of c.text-text.ensures) in
    refused_exit file (inside c.args.quantity c.args.n ∷ []) c.args.tokens.now c.from_residual-in_err-name_passes.result f c.from_residual-in_err-name_passes.ensures.1
    (head_stops file c.args.quantity c.args.n true w c.args.tokens.now c.in_ok-word.rest.now f c.in_ok-word.ensures.ok apart mark found)

pub inside-returns-then-is_primed-clause-ok : goal.inside-returns-then-is_primed-clause-ok
inside-returns-then-is_primed-clause-ok t c =
    let file = c.args.self.now.file.now in
    let w = c.in_ok-word.word in
    let apart : is_number_word (text_of file w) ≡ false = ap is_number_word (sym c.text-text.ensures) ∙ sym c.is_number_word.ensures ∙ c.if-is_number_word.false in
    let mark : is_primed (text_of file w) ≡ true = ap is_primed (sym c.text-text.ensures) ∙ sym c.is_primed.ensures ∙ c.if-is_primed.true in
    let ok : name_passes wants.Name w.from (front_of (text_of file w)) ≡ Ok tt = sym (c.in_ok-name_passes.ensures ∙ ap (name_passes wants.Name w.from) (c.front_of.ensures ∙ ap front_of c.text-text.ensures)) in
    IfOk-weaker c.choice.result _ _ (λ x h. subst (λ shape. IsInside file c.args.quantity c.args.n shape c.args.tokens.now x.1.now) (sym h.2)
    (is_choice file c.args.quantity c.args.n true w (unmarked true w) h.0 c.args.tokens.now c.in_ok-word.rest.now h.1 x.1.now c.in_ok-word.ensures.ok h.3 h.4 h.5
    (record { word = refl; no_number = apart; mark = mark; passes = ok }))) c.choice.ensures.ok

pub inside-returns-then-is_primed-clause-err : goal.inside-returns-then-is_primed-clause-err
inside-returns-then-is_primed-clause-err t c =
    let file = c.args.self.now.file.now in
    let w = c.in_ok-word.word in
    let apart : is_number_word (text_of file w) ≡ false = ap is_number_word (sym c.text-text.ensures) ∙ sym c.is_number_word.ensures ∙ c.if-is_number_word.false in
    let mark : is_primed (text_of file w) ≡ true = ap is_primed (sym c.text-text.ensures) ∙ sym c.is_primed.ensures ∙ c.if-is_primed.true in
    let ok : name_passes wants.Name w.from (front_of (text_of file w)) ≡ Ok tt = sym (c.in_ok-name_passes.ensures ∙ ap (name_passes wants.Name w.from) (c.front_of.ensures ∙ ap front_of c.text-text.ensures)) in
    IfErr-weaker c.choice.result _ _ (λ e fails. head_fails file c.args.quantity c.args.n true w c.args.tokens.now c.in_ok-word.rest.now e c.in_ok-word.ensures.ok
    (record { word = refl; no_number = apart; mark = mark; passes = ok }) fails) c.choice.ensures.err

pub inside-returns-in_err-name_passes-2-clause-err : goal.inside-returns-in_err-name_passes-2-clause-err
inside-returns-in_err-name_passes-2-clause-err t c =
    let file = c.args.self.now.file.now in
    let w = c.in_ok-word.word in
    let f = c.in_err-name_passes-2.field-0.0 in
    let apart : is_number_word (text_of file w) ≡ false = ap is_number_word (sym c.text-text.ensures) ∙ sym c.is_number_word.ensures ∙ c.if-is_number_word.false in
    let plain : is_primed (text_of file w) ≡ false = ap is_primed (sym c.text-text.ensures) ∙ sym c.is_primed.ensures ∙ c.if-is_primed.false in
    let found : Err f ≡ name_passes wants.Name w.from (text_of file w) = c.in_err-name_passes-2.ensures ∙ ap (name_passes wants.Name w.from) c.text-text.ensures in
    refused_exit file (inside c.args.quantity c.args.n ∷ []) c.args.tokens.now c.from_residual-in_err-name_passes-2.result f c.from_residual-in_err-name_passes-2.ensures.1
    (head_stops file c.args.quantity c.args.n false w c.args.tokens.now c.in_ok-word.rest.now f c.in_ok-word.ensures.ok apart plain found)

pub inside-returns-clause-ok : goal.inside-returns-clause-ok
inside-returns-clause-ok t c =
    let file = c.args.self.now.file.now in
    let w = c.in_ok-word.word in
    let apart : is_number_word (text_of file w) ≡ false = ap is_number_word (sym c.text-text.ensures) ∙ sym c.is_number_word.ensures ∙ c.if-is_number_word.false in
    let plain : is_primed (text_of file w) ≡ false = ap is_primed (sym c.text-text.ensures) ∙ sym c.is_primed.ensures ∙ c.if-is_primed.false in
    let ok : name_passes wants.Name w.from (text_of file w) ≡ Ok tt = sym (c.in_ok-name_passes-2.ensures ∙ ap (name_passes wants.Name w.from) c.text-text.ensures) in
    IfOk-weaker c.choice-2.result _ _ (λ x h. subst (λ shape. IsInside file c.args.quantity c.args.n shape c.args.tokens.now x.1.now) (sym h.2)
    (is_choice file c.args.quantity c.args.n false w (unmarked false w) h.0 c.args.tokens.now c.in_ok-word.rest.now h.1 x.1.now c.in_ok-word.ensures.ok h.3 h.4 h.5
    (record { word = refl; no_number = apart; mark = plain; passes = ok }))) c.choice-2.ensures.ok

pub inside-returns-clause-err : goal.inside-returns-clause-err
inside-returns-clause-err t c =
    let file = c.args.self.now.file.now in
    let w = c.in_ok-word.word in
    let apart : is_number_word (text_of file w) ≡ false = ap is_number_word (sym c.text-text.ensures) ∙ sym c.is_number_word.ensures ∙ c.if-is_number_word.false in
    let plain : is_primed (text_of file w) ≡ false = ap is_primed (sym c.text-text.ensures) ∙ sym c.is_primed.ensures ∙ c.if-is_primed.false in
    let ok : name_passes wants.Name w.from (text_of file w) ≡ Ok tt = sym (c.in_ok-name_passes-2.ensures ∙ ap (name_passes wants.Name w.from) c.text-text.ensures) in
    IfErr-weaker c.choice-2.result _ _ (λ e fails. head_fails file c.args.quantity c.args.n false w c.args.tokens.now c.in_ok-word.rest.now e c.in_ok-word.ensures.ok
    (record { word = refl; no_number = apart; mark = plain; passes = ok }) fails) c.choice-2.ensures.err

-- ---- tree

pub tree-returns-in_err-rest-clause-err : goal.tree-returns-in_err-rest-clause-err
tree-returns-in_err-rest-clause-err t c =
    let file = c.args.self.now.file.now in
    refused_exit file (tree c.args.quantity c.args.n ∷ []) c.args.tokens.now c.from_residual.result c.in_err-rest.field-0.0 c.from_residual.ensures.1
    (misses file (tree c.args.quantity c.args.n) Open wants.Open c.args.tokens.now c.in_err-rest.field-0.0 (tree_only c.args.quantity c.args.n) c.in_err-rest.ensures.err)

pub tree-returns-then-n-ge300-clause-err : goal.tree-returns-then-n-ge300-clause-err
tree-returns-then-n-ge300-clause-err t c =
    let file = c.args.self.now.file.now in
    let one = c.in_ok-rest.ensures.ok in
    let place : (get_or c.args.tokens.now 0 (record { kind = Open; from = 0; to = 0 })).from ≡ one.token.from =
    ap (λ (ts : List Token). (get_or {A = Token} ts 0 (record { kind = Open; from = 0; to = 0 })).from) one.first in
    subst (λ (at : ℕ). Faults file (tree c.args.quantity c.args.n ∷ []) c.args.tokens.now (TooMany at Nesting)) (sym place)
    (too_deep file c.args.quantity c.args.n c.args.tokens.now c.in_ok-rest.rest.now (omega arith) one)

pub tree-returns-clause-err : goal.tree-returns-clause-err
tree-returns-clause-err t c =
    let file = c.args.self.now.file.now in
    IfErr-weaker c.inside.result _ _ (λ e fails. fails_after file (tree c.args.quantity c.args.n ∷ []) (inside c.args.quantity c.args.n ∷ []) c.args.tokens.now c.in_ok-rest.rest.now e
    (opens file c.args.quantity c.args.n c.args.tokens.now c.in_ok-rest.rest.now (omega arith) c.in_ok-rest.ensures.ok) fails) c.inside.ensures.err
