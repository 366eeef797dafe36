-- The first faults of some files, computed.
use Rattle.std.proofs.Common.{◌≡◌, ℕ, zero, suc, List, [], ◌∷◌, ◌++◌, Option, Some, None, Ok, refl}
use Rattle.std.specs.Prelude.{codes}
use Rattle.spd_scaled.specs.DecimalReading.{decimal_of, sign_at, digits_at, fraction_at, exponent_at, without_end_zeros, lowest_of, scaled_of}
use Rattle.spd_lex.specs.Tokens.{blanked, with_word, tokens_from, bad_from, tokens_of}
use Rattle.spd_syntax.specs.declared.file.Quantity.TheVariants.{Reward}
use Rattle.spd_syntax.specs.declared.refusal.Refusal.{Refusal}
use Rattle.spd_syntax.specs.declared.refusal.Refusal.TheVariants.{BadByte, Expected, Number, TooFine, TooLarge, Negative, TooMany, LeftOut}
use Rattle.spd_syntax.specs.declared.refusal.Want.TheVariants as wants
use Rattle.spd_syntax.specs.declared.refusal.What.TheVariants as whats
use Rattle.spd_syntax.specs.Words.{name_passes, value_passes, is_number_word, is_primed}
use Rattle.spd_syntax.specs.Numbers.{number_of}
use Rattle.spd_syntax.specs.Positions.{section_word, item_word, plus_step, fault_from, file_begins, inside, more_parts, section, with_reward, none_yet, one_variable, one_test}
use Rattle.spd_syntax.specs.Reading.{first_fault}
use Rattle.spd_syntax.specs.Fronts.{behind_front}

-- files, and the first fault of each
abbrev HaveFaults : List (List ℕ × Option Refusal) → Type 0
HaveFaults [] = Unit {0}
HaveFaults (row ∷ rows) = (first_fault row.0 ≡ row.1) × HaveFaults rows

-- where a token or the end of the file can't go on
wants_rows : HaveFaults (
    (codes "variables", Some (Expected 0 wants.Variables)) ∷
    (codes "(variable (x yes))", Some (Expected 1 wants.Variables)) ∷
    (codes "(variables x", Some (Expected 11 wants.Open)) ∷
    (codes "(variables (dd yes))", Some (Expected 12 wants.Name)) ∷
    (codes "(variables (x ))", Some (Expected 14 wants.Value)) ∷
    (codes "(variables (x yes a*b))", Some (Expected 18 wants.Close)) ∷
    (codes "(variables (x yes)]", Some (Expected 18 wants.Close)) ∷
    (codes "(variables (x yes no)) rewards (0)", Some (Expected 23 wants.Section)) ∷
    (codes "(variables (x yes no)) (reward)", Some (Expected 23 wants.Section)) ∷
    (codes "(variables (x yes no)) reward 0", Some (Expected 30 wants.Open)) ∷
    (codes "(variables (x yes no)) reward [(1)]", Some (Expected 31 wants.Plus)) ∷
    (codes "(variables (x yes no)) reward [+ ]", Some (Expected 33 wants.Open)) ∷
    (codes "(variables (x yes no)) reward [+ (1))", Some (Expected 36 wants.Close)) ∷
    (codes "(variables (x yes no)) reward (horizon)", Some (Expected 31 wants.Name)) ∷
    (codes "(variables (x yes no)) reward (x' )", Some (Expected 34 wants.Open)) ∷
    (codes "(variables (x yes no)) reward (x (yes (1)(no (0))))", Some (Expected 41 wants.Close)) ∷
    (codes "(variables (x yes no)) dd d (1) endd", Some (Expected 32 wants.EndDd)) ∷
    (codes "(variables (x yes no)) action a (x)", Some (Expected 32 wants.Name)) ∷
    (codes "(variables (x yes no)) discount", Some (Expected 31 wants.Number)) ∷
    (codes "(variables (x yes no)) action a endaction reward (0) discount 0", Some (Expected 63 wants.Section)) ∷
    [])
unfolding blanked tokens_from with_word bad_from fault_from name_passes value_passes is_number_word is_primed section_word item_word plus_step number_of decimal_of sign_at digits_at fraction_at exponent_at without_end_zeros lowest_of scaled_of
wants_rows = (refl, (refl, (refl, (refl, (refl, (refl, (refl, (refl, (refl, (refl, (refl, (refl, (refl, (refl, (refl, (refl, (refl, (refl, (refl, (refl, tt))))))))))))))))))))

-- numbers that their quantity doesn't take
numbers_rows : HaveFaults (
    (codes "(variables (x yes no)) reward (1.5.)", Some (Number 31)) ∷
    (codes "(variables (x yes no)) reward (1e-10)", Some (TooFine 31)) ∷
    (codes "(variables (x yes no)) reward (1000000000000000000.000000000001)", Some (TooFine 31)) ∷
    (codes "(variables (x yes no)) reward (1e19)", Some (TooLarge 31)) ∷
    (codes "(variables (x yes no)) dd d (-0.0000000000001)", Some (TooFine 29)) ∷
    (codes "(variables (x yes no)) action a x (-0.5)", Some (Negative 35)) ∷
    (codes "(variables (x yes no)) discount 1", Some (TooLarge 32)) ∷
    (codes "(variables (x yes no)) discount -1e31", Some (TooLarge 32)) ∷
    (codes "(variables (x yes no)) discount -0.5", Some (Negative 32)) ∷
    (codes "(variables (x yes no)) tolerance -1", Some (Negative 33)) ∷
    (codes "(variables (x yes no)) horizon two", Some (Number 31)) ∷
    (codes "(variables (x yes no)) horizon 0.5", Some (TooFine 31)) ∷
    (codes "(variables (x yes no)) horizon 1001", Some (TooLarge 31)) ∷
    (codes "(variables (x yes no)) horizon -1", Some (Negative 31)) ∷
    [])
unfolding blanked tokens_from with_word bad_from fault_from name_passes value_passes is_number_word is_primed section_word item_word plus_step number_of decimal_of sign_at digits_at fraction_at exponent_at without_end_zeros lowest_of scaled_of
numbers_rows = (refl, (refl, (refl, (refl, (refl, (refl, (refl, (refl, (refl, (refl, (refl, (refl, (refl, (refl, tt))))))))))))))

-- words of the SPUDD format that are left out
left_out_rows : HaveFaults (
    (codes "(variables (x yes no)) init", Some (LeftOut 23)) ∷
    (codes "(variables (x yes no)) unnormalized", Some (LeftOut 23)) ∷
    (codes "(variables (x yes no)) (observations)", Some (LeftOut 24)) ∷
    (codes "(variables (x yes no)) action a observe", Some (LeftOut 32)) ∷
    (codes "(variables (x yes no)) reward [* (1)]", Some (LeftOut 31)) ∷
    (codes "(variables (x yes no)) reward [max (1)]", Some (LeftOut 31)) ∷
    [])
unfolding blanked tokens_from with_word bad_from fault_from name_passes value_passes is_number_word is_primed section_word item_word plus_step number_of decimal_of sign_at digits_at fraction_at exponent_at without_end_zeros lowest_of scaled_of
left_out_rows = (refl, (refl, (refl, (refl, (refl, (refl, tt))))))

-- the first fault of several
order_rows : HaveFaults (
    (codes "(variables x) " ++ ((7 ∷ []) ++ (codes " " ++ 8 ∷ [])), Some (BadByte 14)) ∷
    (codes "(variables (x yes no)) discount 1 horizon 1001", Some (TooLarge 32)) ∷
    (codes "(variables (x yes no)) // (init" ++ ((10 ∷ []) ++ codes "init"), Some (LeftOut 32)) ∷
    (codes "(variables (4aaaaaaaaaaaaaaaaaaaaaaaaaaaaaaaaaaaaaaaaaaaaaaaaaaaaaaaaaaaaaaaa*", Some (Expected 12 wants.Name)) ∷
    (codes "(variables (aaaaaaaaaaaaaaaaaaaaaaaaaaaaaaaaaaaaaaaaaaaaaaaaaaaaaaaaaaaaaaaa*", Some (TooMany 12 whats.NameBytes)) ∷
    [])
unfolding blanked tokens_from with_word bad_from fault_from name_passes value_passes is_number_word is_primed section_word item_word plus_step number_of decimal_of sign_at digits_at fraction_at exponent_at without_end_zeros lowest_of scaled_of
order_rows = (refl, (refl, (refl, (refl, (refl, tt)))))

deep : ℕ → List ℕ
deep zero = codes "(0)"
deep (suc n) = codes "(x (yes " ++ deep n

-- the 301st tree inside one another
nested_row : first_fault (codes "(variables (x yes no)) reward " ++ deep 300) ≡ Some (TooMany 2430 whats.Nesting)
unfolding blanked tokens_from with_word bad_from fault_from name_passes value_passes is_number_word is_primed section_word item_word plus_step number_of decimal_of sign_at digits_at fraction_at exponent_at without_end_zeros lowest_of scaled_of deep
nested_row = refl

lawful_row : first_fault (codes "(variables (x yes no)) action stay x (x (yes (x' (yes (1)) (no (0)))) (no (x' (yes (0)) (no (1))))) endaction reward [+ (x (yes (1)) (no (0)))] discount 0.5 horizon 1000") ≡ None
unfolding blanked tokens_from with_word bad_from fault_from name_passes value_passes is_number_word is_primed section_word item_word plus_step number_of decimal_of sign_at digits_at fraction_at exponent_at without_end_zeros lowest_of scaled_of
lawful_row = refl

-- behind the `(` of a tree in a sum
front_row : behind_front (codes "(variables (x yes no)) reward [+ (") (file_begins ∷ []) (tokens_of (codes "(variables (x yes no)) reward [+ ("))
    ≡ Ok (inside Reward 0 ∷ more_parts ∷ section (with_reward (one_test (one_variable none_yet))) ∷ [])
unfolding blanked tokens_from with_word behind_front name_passes value_passes is_number_word is_primed section_word item_word plus_step number_of decimal_of sign_at digits_at fraction_at exponent_at without_end_zeros lowest_of scaled_of
front_row = refl
