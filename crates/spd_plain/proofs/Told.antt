-- What a result on tables tells is what the definitions tell of its turn.
use Rattle.std.proofs.Common.{◌≡◌, ◌==◌, ℕ, List, [], ◌∷◌, map, All, ℤ, ap, ◌∙◌, arith}
use Rattle.std.proofs.lemmas.List.{get_or-map}
use Rattle.std.proofs.lemmas.List.Elements.{All-head, All-tail}
use Rattle.spd_model.proofs.CallerLemmas.Diagrams.{reduced-agree}
use Rattle.spd_model.specs.Process.{Process}
use Rattle.spd_model.specs.States.{sizes, states, rank, IsState}
use Rattle.spd_model.specs.Backup.{policy_of}
use Rattle.spd_model.specs.Turns.{stop_value}
use Rattle.spd_model.specs.Reduced.{listed}
use Rattle.spd_model.specs.ResultText.{result_of}
use Rattle.spd_plain.specs.declared.solve.Plain.{Plain}
use Rattle.spd_plain.specs.Plain.{plain_of, told_of}
use Rattle.spd_model.proofs.CallerLemmas.StateOrder.{get_or-states, rank_below, length-states}

map_same : {X Y : Type 0} (f g : X → Y) (xs : List X) → All (λ x. f x ≡ g x) xs → map f xs ≡ map g xs
map_same f g [] h = λ i. []
map_same f g (x ∷ xs) h = λ i. All-head (λ x. f x ≡ g x) x xs h i ∷ map_same f g xs (All-tail (λ x. f x ≡ g x) x xs h) i

pub told_is : (m : Process) (turns : ℕ) (span : ℤ) (p : Plain) → p ≡ plain_of m turns span → told_of m p ≡ result_of m turns span
told_is m turns span p is =
    let policy = policy_of m (stop_value m turns span) in
    let agree = λ (s : List ℕ) (state : IsState (sizes m) s).
    get_or-map policy (states (sizes m)) (rank (sizes m) s) [] 0 (omega (arith, rank_below (sizes m) s state, length-states (sizes m))) ∙ ap policy (get_or-states (sizes m) s state) in
    ap (told_of m) is
    ∙ (λ i. record (told_of m (plain_of m turns span)) { policy = listed (λ a b. a == b) (reduced-agree (λ a b. a == b) 0 (sizes m) _ policy agree i) })
