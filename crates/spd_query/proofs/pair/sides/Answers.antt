use Rattle.std.proofs.Common.{◌≡◌, ◌+◌, ◌-◌, ◌<◌, ◌≤◌, ℕ, List, length, take, drop, Some, sym, ap, ◌∙◌, subst, arith}
use Rattle.std.specs.List.{position_or_len}
use Rattle.std.proofs.lemmas.List.{take_all, length-drop}
use Rattle.spd_query.specs.Lines.{is_equals}
use Rattle.spd_query.proofs.WordLaws.{sides-more, sides-both}
use Rattle.spd_query.proofs.pair.sides.Goals as goal

pub returns-then-equals_at-value : goal.returns-then-equals_at-value
returns-then-equals_at-value c =
    let word = c.args.word.now in
    let n = c.equals_at-at.result in
    let whole : take (length word - (n + 1)) (drop (n + 1) word) ≡ drop (n + 1) word = take_all _ _ (omega (arith, length-drop (n + 1) word)) in
    let more = subst (λ (k : ℕ). k < length (take (length word - (n + 1)) (drop (n + 1) word))) c.equals_at.ensures.first c.if-equals_at-value.true in
    sides-more word n c.equals_at-at.ensures.first (omega arith) (omega arith) (subst (λ (l : List ℕ). position_or_len is_equals l < length l) whole more)

pub returns : goal.returns
returns c =
    let word = c.args.word.now in
    let n = c.equals_at-at.result in
    let whole : take (length word - (n + 1)) (drop (n + 1) word) ≡ drop (n + 1) word = take_all _ _ (omega (arith, length-drop (n + 1) word)) in
    let none = subst (λ (k : ℕ). length (take (length word - (n + 1)) (drop (n + 1) word)) ≤ k) c.equals_at.ensures.first c.if-equals_at-value.false in
    sides-both word n c.equals_at-at.ensures.first (omega arith) (omega arith) (subst (λ (l : List ℕ). length l ≤ position_or_len is_equals l) whole none)
    ∙ ap (λ (l : List ℕ). Some (take n word, l)) (sym whole)
