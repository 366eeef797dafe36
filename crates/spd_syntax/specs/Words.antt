-- Words of a file: their bytes, and which of them are names.
use Rattle.std.specs.Prelude.{ℕ, ◌-◌, ◌==◌, nat_lt, Bool, false, ◌&&◌, ◌||◌, not, if◌then◌else◌, List, [], ◌∷◌, length, take, drop, slice_index, Result, Ok, Err}
use Rattle.std.specs.List.{list_any}
use Rattle.std.specs.Char.{is_ascii_alphabetic, is_ascii_alphanumeric, is_ascii_digit}
use Rattle.std.specs.Str.{bytes_eq}
use Rattle.spd_model.specs.Names.{has_name_form, has_value_form, reserved_words}
use Rattle.spd_syntax.specs.declared.file.Word.{Word}
use Rattle.spd_syntax.specs.declared.refusal.Refusal.{Refusal}
use Rattle.spd_syntax.specs.declared.refusal.Refusal.TheVariants.{Expected, TooMany}
use Rattle.spd_syntax.specs.declared.refusal.Want.{Want}
use Rattle.spd_syntax.specs.declared.refusal.What.TheVariants.{NameBytes}

-- the bytes of a word
abbrev pub text_of : List ℕ → Word → List ℕ
text_of file w = take (w.to - w.from) (drop w.from file)

-- the first byte passes a test
abbrev pub begins : (ℕ → Bool) → List ℕ → Bool
begins test [] = false
begins test (c ∷ cs) = test c

abbrev pub is_reserved : List ℕ → Bool
is_reserved text = list_any (bytes_eq text) reserved_words

-- a word in a name's place: its first byte is judged first, then its length, then the form of the rest
abbrev pub passes : Want → (ℕ → Bool) → (List ℕ → Bool) → ℕ → List ℕ → Result (Unit {0}) Refusal
passes want first form at text =
    if not (begins first text) then Err (Expected at want)
    else (if nat_lt 64 (length text) then Err (TooMany at NameBytes)
    else (if form text then Ok tt else Err (Expected at want)))

abbrev pub begins_name : ℕ → Bool
begins_name c = is_ascii_alphabetic c || c == 95

abbrev pub begins_value : ℕ → Bool
begins_value c = is_ascii_alphanumeric c || c == 95

abbrev pub is_name_form : List ℕ → Bool
is_name_form text = has_name_form text && not (is_reserved text)

-- the name of a variable, a decision diagram or an action
unfoldable pub name_passes : Want → ℕ → List ℕ → Result (Unit {0}) Refusal
name_passes want = passes want begins_name is_name_form

-- the name of a value
unfoldable pub value_passes : Want → ℕ → List ℕ → Result (Unit {0}) Refusal
value_passes want = passes want begins_value has_value_form

-- where a tree's inside begins, a digit, a sign or a point begins a number
abbrev pub begins_number : ℕ → Bool
begins_number c = is_ascii_digit c || (c == 43 || (c == 45 || c == 46))

unfoldable pub is_number_word : List ℕ → Bool
is_number_word = begins begins_number

-- a mark `'` stands last
unfoldable pub is_primed : List ℕ → Bool
is_primed text = nat_lt 0 (length text) && slice_index text (length text - 1) == 39

-- the text without its last byte
abbrev pub front_of : List ℕ → List ℕ
front_of text = take (length text - 1) text

-- the word without its mark
abbrev pub unmarked : Bool → Word → Word
unmarked primed w = record { from = w.from; to = (if primed then w.to - 1 else w.to) }
