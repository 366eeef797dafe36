-- The first fault of tokens: that of their front, or that of the others where the front has none.
use Rattle.std.proofs.Common.{◌≡◌, ℕ, List, [], ◌∷◌, ◌++◌, Option, Some, None, Ok, Err, refl, sym, ap, ◌∙◌}
use Rattle.spd_lex.specs.declared.token.Token.{Token}
use Rattle.spd_syntax.specs.declared.refusal.Refusal.{Refusal}
use Rattle.spd_syntax.specs.Words.{text_of}
use Rattle.spd_syntax.specs.Positions.{Position, Step, takes, fault_step, fault_from}
use Rattle.spd_syntax.specs.Fronts.{next_step, behind_front}

no_position : (file : List ℕ) (ts : List Token) → fault_from file [] ts ≡ None
unfolding fault_from
no_position file [] = refl
no_position file (t ∷ ts) = refl

steps_joined : (s : Step) (whole : List Position → Option Refusal) (front : List Position → Step) (behind : List Position → Option Refusal) → ((qs : List Position) → whole qs ≡ fault_step behind (front qs))
    → fault_step whole s ≡ fault_step behind (next_step front s)
steps_joined (Ok qs) whole front behind same = same qs
steps_joined (Err e) whole front behind same = refl

pub fault-front : (file : List ℕ) (front behind : List Token) (ps : List Position) → fault_from file ps (front ++ behind) ≡ fault_step (λ qs. fault_from file qs behind) (behind_front file ps front)
unfolding fault_from behind_front
fault-front file [] behind ps = refl
fault-front file (t ∷ ts) behind [] = sym (no_position file behind)
fault-front file (t ∷ ts) behind (p ∷ ps) =
    steps_joined (takes p t.kind t.from (text_of file (record { from = t.from; to = t.to }))) (λ qs. fault_from file (qs ++ ps) (ts ++ behind)) (λ qs. behind_front file (qs ++ ps) ts) (λ qs. fault_from file qs behind)
    (λ qs. fault-front file ts behind (qs ++ ps))

-- a fault among the tokens of a front stays the first one, whatever stands behind them
pub front_stays : (file : List ℕ) (front behind : List Token) (ps : List Position) (r : Refusal) → behind_front file ps front ≡ Err r → fault_from file ps (front ++ behind) ≡ Some r
front_stays file front behind ps r e = fault-front file front behind ps ∙ ap (fault_step (λ qs. fault_from file qs behind)) e
