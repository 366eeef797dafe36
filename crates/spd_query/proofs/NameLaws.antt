-- Variables and values by their names.
use Rattle.std.proofs.Common.{◌≡◌, ◌≢◌, ℕ, ◌<◌, true, Bool, List, [], length, map, Some, None, refl, sym, ap, ◌∙◌, arith}
use Rattle.std.specs.Prelude.{bytes_eq, cond, nat_lt, position}
use Rattle.std.specs.List.{position_or_len}
use Rattle.std.proofs.Math.ListN.{get_or}
use Rattle.std.proofs.lemmas.Slice.Eq.{bytes_eq-Decides}
use Rattle.std.proofs.lemmas.Bool.{lt-ltb}
use Rattle.std.proofs.lemmas.List.{get_or-map, length-map}
use Rattle.std.proofs.lemmas.List.Sums.{position_or_len_is}
use Rattle.spd_edge.proofs.CallerLemmas.{bytes_eq-other}
use Rattle.spd_model.specs.declared.process.Var.{Var}
use Rattle.spd_model.specs.Lawful.{AreDistinct}
use Rattle.spd_query.specs.Lines.{var_number, value_number}

-- an item whose name no earlier one has is the first one of this name
name-here : {X : Type 0} (name_of : X → List ℕ) (xs : List X) (name : List ℕ) (i : ℕ) (d : X) → i < length xs → name_of (get_or xs i d) ≡ name → ((k : ℕ) → k < i → name_of (get_or xs k d) ≢ name)
    → position (λ x. bytes_eq (name_of x) name) xs ≡ Some i
name-here {X} name_of xs name i d within is differ =
    let p : X → Bool = λ x. bytes_eq (name_of x) name in
    let here : p (get_or xs i d) ≡ true = (bytes_eq-Decides (name_of (get_or xs i d)) name).1 is in
    let first : position_or_len p xs ≡ i = position_or_len_is p xs i d (omega arith) (λ k below. bytes_eq-other (name_of (get_or xs k d)) name (differ k below)) (λ _. here) in
    ap (λ (k : ℕ). cond (nat_lt k (length xs)) (Some k) None) first ∙ ap (λ (b : Bool). cond b (Some i) None) (lt-ltb i (length xs) within)

-- a variable is the one of its name, where all names differ
pub var-here : (vars : List Var) (i : ℕ) (var : Var) → AreDistinct (map (λ (x : Var). x.name) vars) → i < length vars → var ≡ get_or vars i var → var_number vars var.name ≡ Some i
var-here vars i var distinct within is =
    name-here (λ (x : Var). x.name) vars var.name i var within (ap (λ (x : Var). x.name) (sym is))
    (λ k below e. distinct k i [] below (omega (arith, length-map vars (λ (x : Var). x.name)))
    (get_or-map (λ (x : Var). x.name) vars k var [] (omega arith) ∙ e ∙ ap (λ (x : Var). x.name) is ∙ sym (get_or-map (λ (x : Var). x.name) vars i var [] within)))

-- and so is a value
pub value-here : (values : List (List ℕ)) (i : ℕ) → AreDistinct values → i < length values → value_number values (get_or values i []) ≡ Some i
value-here values i distinct within = name-here (λ (v : List ℕ). v) values (get_or values i []) i [] within refl (λ k below e. distinct k i [] below within e)
