-- What the tokens at the front of a file leave, whatever stands behind them.
use Rattle.std.specs.Prelude.{ℕ, List, [], ◌∷◌, ◌++◌, Ok, Err}
use Rattle.spd_lex.specs.declared.token.Token.{Token}
use Rattle.spd_syntax.specs.Words.{text_of}
use Rattle.spd_syntax.specs.Positions.{Position, Step, takes}

abbrev pub next_step : (List Position → Step) → Step → Step
next_step next (Err e) = Err e
next_step next (Ok qs) = next qs

-- the positions that are next behind these tokens where those are next before them, or the first fault among the tokens
unfoldable pub behind_front : List ℕ → List Position → List Token → Step
behind_front file ps [] = Ok ps
behind_front file [] (t ∷ ts) = Ok []
behind_front file (p ∷ ps) (t ∷ ts) =
    next_step (λ qs. behind_front file (qs ++ ps) ts) (takes p t.kind t.from (text_of file (record { from = t.from; to = t.to })))
