-- The least of several lists of faults, one after the other.
use Rattle.std.proofs.Common.{◌≡◌, Bool, true, false, List, [], ◌∷◌, ◌++◌, Option, Some, None, refl, sym, ap, ◌∙◌}
use Rattle.spd_syntax.specs.declared.refusal.Refusal.{Refusal}
use Rattle.spd_reader.specs.Faults.{least, lesser, is_before, rank}
use Rattle.std.specs.Prelude.{if◌then◌else◌}

pub least_append : (found : Option Refusal) (rs qs : List Refusal) → least found (rs ++ qs) ≡ least (least found rs) qs
unfolding least
least_append found [] qs = refl
least_append found (r ∷ rs) qs = least_append (lesser found r) rs qs

pub least_none : (found : Option Refusal) → found ≡ least found []
unfolding least
least_none found = refl

pub least_one : (found : Option Refusal) (r : Refusal) → lesser found r ≡ least found (r ∷ [])
unfolding least
least_one found r = refl

pub least_two : (f g h : Option Refusal) (a b : List Refusal) → g ≡ least f a → h ≡ least g b → h ≡ least f (a ++ b)
least_two f g h a b p q = q ∙ ap (λ (x : Option Refusal). least x b) p ∙ sym (least_append f a b)

pub least_three : (f g h i : Option Refusal) (a b c : List Refusal) → g ≡ least f a → h ≡ least g b → i ≡ least h c → i ≡ least f (a ++ b ++ c)
least_three f g h i a b c p q r = least_two f h i (a ++ b) c (least_two f g h a b p q) r

pub least_four : (f g h i j : Option Refusal) (a b c d : List Refusal) → g ≡ least f a → h ≡ least g b → i ≡ least h c → j ≡ least i d → j ≡ least f (a ++ b ++ c ++ d)
least_four f g h i j a b c d p q r s = least_two f i j (a ++ b ++ c) d (least_three f g h i a b c p q r) s

-- a fault stays found
found_stays : (q : Refusal) (rs : List Refusal) → least (Some q) rs ≡ None → ⊥
unfolding least
found_stays q [] h = cc
found_stays q (r ∷ rs) h = elim (is_before (rank r) (rank q)) as (λ (b : Bool). least (if b then Some r else Some q) rs ≡ None → ⊥) [ true ↦ found_stays r rs | false ↦ found_stays q rs ] h

-- where none is the least, there is none
pub none_least : (rs : List Refusal) → least None rs ≡ None → rs ≡ []
unfolding least
none_least [] h = refl
none_least (r ∷ rs) h = absurd (found_stays r rs h)
