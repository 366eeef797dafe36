-- Pieces that are written one after another.
use Rattle.std.proofs.Common.{◌≡◌, ℕ, zero, suc, ◌+◌, ◌<◌, List, [], ◌∷◌, ◌++◌, length, take, drop, get_or, Bor, Option, ap, sym, ◌∙◌, subst, arith, append_assoc, append-nil, add-one, refl}
use Rattle.std.specs.Prelude.{flat_map}
use Rattle.spd_edge.specs.Told.{Took, TookFront}
use Rattle.spd_edge.proofs.CallerLemmas.{Took-trans, TookFront-more, TookFront-longer}

-- the text of pieces, one after another
abbrev pub text_of_pieces : List (Bor (List ℕ)) → List ℕ
text_of_pieces pieces = flat_map (λ (piece : Bor (List ℕ)). piece.now) pieces

-- the text of all pieces: of the first k, of the next one, of the others
joined-split : (pieces : List (Bor (List ℕ))) (k : ℕ) (d : Bor (List ℕ)) → k < length pieces
    → text_of_pieces pieces ≡ text_of_pieces (take k pieces) ++ ((get_or pieces k d).now ++ text_of_pieces (drop (suc k) pieces))
joined-split [] k d h = absurd (omega arith)
joined-split (p ∷ ps) zero d h = refl
joined-split (p ∷ ps) (suc k) d h =
    ap (λ t. p.now ++ t) (joined-split ps k d (omega arith))
    ∙ sym (append_assoc p.now (text_of_pieces (take k ps)) ((get_or ps k d).now ++ text_of_pieces (drop (suc k) ps)))

joined-take_more : (pieces : List (Bor (List ℕ))) (k : ℕ) (d : Bor (List ℕ)) → k < length pieces
    → text_of_pieces (take (suc k) pieces) ≡ text_of_pieces (take k pieces) ++ (get_or pieces k d).now
joined-take_more [] k d h = absurd (omega arith)
joined-take_more (p ∷ ps) zero d h = simp append-nil refl
joined-take_more (p ∷ ps) (suc k) d h =
    ap (λ t. p.now ++ t) (joined-take_more ps k d (omega arith)) ∙ sym (append_assoc p.now (text_of_pieces (take k ps)) (get_or ps k d).now)

-- the first k pieces were written whole, and the next one
pub Took-more : (a b c : Option (List ℕ)) (pieces : List (Bor (List ℕ))) (k : ℕ) (d : Bor (List ℕ)) → k < length pieces
    → Took a (text_of_pieces (take k pieces)) b → Took b (get_or pieces k d).now c → Took a (text_of_pieces (take (k + 1) pieces)) c
Took-more a b c pieces k d h first next =
    subst (λ t. Took a t c) (sym (ap (λ (n : ℕ). text_of_pieces (take n pieces)) (add-one k) ∙ joined-take_more pieces k d h))
    (Took-trans a b c (text_of_pieces (take k pieces)) (get_or pieces k d).now first next)

-- the first k pieces were written whole, and of the next one the front
pub TookFront-after : (a b c : Option (List ℕ)) (pieces : List (Bor (List ℕ))) (k : ℕ) (d : Bor (List ℕ)) → k < length pieces
    → Took a (text_of_pieces (take k pieces)) b → TookFront b (get_or pieces k d).now c → TookFront a (text_of_pieces pieces) c
TookFront-after a b c pieces k d h first next =
    let others = text_of_pieces (drop (suc k) pieces) in
    subst (λ (t : List ℕ). TookFront a t c) (sym (joined-split pieces k d h))
    (TookFront-more a b c (text_of_pieces (take k pieces)) ((get_or pieces k d).now ++ others) first (TookFront-longer b c (get_or pieces k d).now others next))
