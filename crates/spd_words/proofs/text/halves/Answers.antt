use Rattle.std.proofs.Common.{◌≡◌, ◌∙◌, ◌-◌, ◌+◌, ℕ, List, Some, Option, length, take, drop, ap, sym, arith, length-drop, take_all}
use Rattle.spd_words.specs.Pieces.{halves_at}
use Rattle.spd_words.proofs.text.halves.Goals as goal

pub returns-in-Some : goal.returns-in-Some
returns-in-Some c =
    let n = c.in-Some.equals in
    let word = c.args.word.now in
    let rest = drop (n + 1) word in
    let all : take (length word - (n + 1)) rest ≡ rest = take_all _ _ (omega (arith, length-drop (n + 1) word)) in
    ap (halves_at word) (sym c.equals_at.ensures.at ∙ c.in-Some.is) ∙ ap (λ (r : List ℕ). let s : Option (List ℕ × List ℕ) = Some (take n word, r) in s) (sym all)

pub returns-in-None : goal.returns-in-None
returns-in-None c = ap (halves_at c.args.word.now) (sym c.equals_at.ensures.at ∙ c.in-None.is)
