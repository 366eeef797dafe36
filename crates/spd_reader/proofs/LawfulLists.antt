-- Lists of faults without one, and lists that are searched.
use Rattle.std.proofs.Common.{◌≡◌, ◌≢◌, ℕ, ◌<◌, Bool, true, false, List, [], ◌∷◌, ◌++◌, length, get_or, Some, All, refl, sym}
use Rattle.std.specs.List.{list_any}
use Rattle.std.specs.Str.{bytes_eq}
use Rattle.std.proofs.lemmas.Bool.{or_parts, both_ways}
use Rattle.std.proofs.lemmas.List.Elements.{All-nil, All-cons}
use Rattle.std.proofs.lemmas.List.Quantifiers.{position-Some, all_pairs_push}
use Rattle.std.proofs.lemmas.Slice.Eq.{bytes_eq-Decides}
use Rattle.spd_model.specs.Lawful.{AreDistinct}
use Rattle.spd_syntax.specs.declared.refusal.Refusal.{Refusal}
use Rattle.spd_reader.specs.Faults.{when}
use Rattle.spd_reader.specs.Trees.{number_in, is_among}

-- no element of either part of a list without one
pub none-append : {X : Type 0} (xs ys : List X) → xs ++ ys ≡ [] → (xs ≡ []) × (ys ≡ [])
none-append [] ys h = (refl, h)
none-append (x ∷ xs) ys h = absurd (cc h)

pub none-three : {X : Type 0} (xs ys zs : List X) → xs ++ ys ++ zs ≡ [] → (xs ≡ []) × (ys ≡ []) × (zs ≡ [])
none-three xs ys zs h = let q = none-append (xs ++ ys) zs h in let p = none-append xs ys q.0 in (p.0, p.1, q.1)

pub none-when : (b : Bool) (r : Refusal) → when b r ≡ [] → b ≡ false
none-when true r h = absurd (cc h)
none-when false r h = refl

-- no element passes
pub none-passes : {X : Type 0} (p : X → Bool) (xs : List X) → list_any p xs ≡ false → All (λ x. p x ≡ false) xs
none-passes p [] h = All-nil (λ x. p x ≡ false)
none-passes p (x ∷ xs) h = let q = or_parts (p x) (list_any p xs) h in All-cons (λ x. p x ≡ false) x xs q.0 (none-passes p xs q.1)

-- the number of a name is below that of all names
pub number-below : (names : List (List ℕ)) (name : List ℕ) (v : ℕ) → number_in names name ≡ Some v → v < length names
number-below names name v h = (position-Some (bytes_eq name) names v [] h).0

-- a name that isn't among distinct ones makes distinct ones with them
pub distinct-push : (names : List (List ℕ)) (name : List ℕ) → AreDistinct names → is_among names name ≡ false → AreDistinct (names ++ name ∷ [])
distinct-push names name h none =
    all_pairs_push (λ x y. x ≢ y) names name h
    (λ k d near e. both_ways (bytes_eq name (get_or names k d)) (none-passes (bytes_eq name) names none k d near) ((bytes_eq-Decides name (get_or names k d)).1 (sym e)))
