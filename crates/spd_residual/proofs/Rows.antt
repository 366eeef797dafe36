-- The residual and its place on the bounds of two actions at the two states of one variable.
use Rattle.std.proofs.Common.{◌≡◌, ℕ, ◌==◌, cond, List, [], ◌∷◌, length, refl, pos}
use Rattle.std.specs.Prelude.{slice_index}
use Rattle.spd_model.specs.declared.Side.TheVariants.{Above, Below}
use Rattle.spd_nodes.specs.declared.leaf.Leaf.TheVariants.{Num, Act}
use Rattle.spd_nodes.specs.States.{Function}
use Rattle.spd_residual.specs.Residual.{Gaps, gaps_between, residual_over, place_over, residual_functions}
use Rattle.spd_residual.specs.inner.Finding.{action_number}

abbrev two : List ℕ
two = 2 ∷ []

-- one number at the first state, another one at the second
abbrev at_states : ℕ → ℕ → Function
at_states x y s t = Num (cond (slice_index s 0 == 0) (pos x) (pos y))

-- the greatest lower bounds are 2 and 4, of the second and of the first action
abbrev lower : List Function
lower = at_states 1 4 ∷ at_states 2 3 ∷ []

-- the greatest upper bounds are 5 and 6, of the second action, and of both
abbrev upper : List Function
upper = at_states 4 6 ∷ at_states 5 6 ∷ []

-- the gaps above are 2 and 2, those below 1 and 0
abbrev twice : Gaps
twice = gaps_between (at_states 3 4) lower upper

twice-residual : residual_over two twice ≡ pos 2
twice-residual = refl

twice-place : place_over two twice (pos 2) ≡ record { state = 0 ∷ []; side = Above; action = 1 }
twice-place = refl

-- the gaps above are 0 and 2, those below 3 and 0
abbrev too_high : Gaps
too_high = gaps_between (at_states 5 4) lower upper

too_high-residual : residual_over two too_high ≡ pos 3
too_high-residual = refl

too_high-place : place_over two too_high (pos 3) ≡ record { state = 0 ∷ []; side = Below; action = 1 }
too_high-place = refl

-- the gaps above are 1 and 3, those below 2 and -1: the first of the two actions with the upper bound 6 is told
abbrev later : Gaps
later = gaps_between (at_states 4 3) lower upper

later-residual : residual_over two later ≡ pos 3
later-residual = refl

later-place : place_over two later (pos 3) ≡ record { state = 1 ∷ []; side = Above; action = 0 }
later-place = refl

-- both gaps are 1 at the second state, and none is greater: above is told
abbrev both : Gaps
both = gaps_between (at_states 5 5) (at_states 5 4 ∷ []) (at_states 5 6 ∷ [])

both-residual : residual_over two both ≡ pos 1
both-residual = refl

both-place : place_over two both (pos 1) ≡ record { state = 1 ∷ []; side = Above; action = 0 }
both-place = refl

-- where value and bounds are one, the residual is 0, above the first state
abbrev none : Gaps
none = gaps_between (at_states 5 6) (at_states 5 6 ∷ []) (at_states 5 6 ∷ [])

none-residual : residual_over two none ≡ pos 0
none-residual = refl

none-place : place_over two none (pos 0) ≡ record { state = 0 ∷ []; side = Above; action = 0 }
none-place = refl

-- the nodes of three functions are counted
functions : length (residual_functions twice) ≡ 3
functions = refl

act : action_number (Act 7) ≡ 7
act = refl
