-- The names of variables, values and actions.
use Rattle.std.specs.Prelude.{ℕ, Bool, false, not, ◌&&◌, ◌||◌, ◌==◌, nat_le, List, [], ◌∷◌, length, codes, bytes_eq}
use Rattle.std.specs.List.{list_any, list_all}
use Rattle.std.specs.Char.{is_ascii_alphabetic, is_ascii_alphanumeric}

-- the words of the grammar, which name no variable, action or decision diagram
abbrev pub reserved_words : List (List ℕ)
reserved_words =
    codes "variables" ∷ codes "dd" ∷ codes "enddd" ∷ codes "action" ∷ codes "endaction" ∷ codes "cost" ∷ codes "reward"
    ∷ codes "discount" ∷ codes "tolerance" ∷ codes "horizon" ∷ []

-- a letter or `_`, then letters, digits, `_` and `-`
abbrev pub has_name_form : List ℕ → Bool
has_name_form [] = false
has_name_form (c ∷ cs) = (is_ascii_alphabetic c || c == 95) && list_all (λ d. is_ascii_alphanumeric d || (d == 95 || d == 45)) cs

-- a name of a variable or an action: at most 64 bytes of this form, and none of the grammar's words
abbrev pub is_name : List ℕ → Bool
is_name word = has_name_form word && (nat_le (length word) 64 && not (list_any (bytes_eq word) reserved_words))

-- a letter, a digit or `_`, then letters, digits, `_`, `-` and `.`
abbrev pub has_value_form : List ℕ → Bool
has_value_form [] = false
has_value_form (c ∷ cs) =
    (is_ascii_alphanumeric c || c == 95) && list_all (λ d. is_ascii_alphanumeric d || (d == 95 || (d == 45 || d == 46))) cs

-- a name of a value: at most 64 bytes of this form
abbrev pub is_value_name : List ℕ → Bool
is_value_name word = has_value_form word && nat_le (length word) 64
