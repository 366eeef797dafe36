-- What a client's line asks for, or why it is refused.
use Rattle.std.specs.Prelude.{ℕ, Bool, true, false, not, ◌==◌, ◌&&◌, ◌||◌, nat_le, nat_lt, List, [], ◌∷◌, length, filter, position, replicate, slice_set, slice_get, codes, bytes_eq, is_none, Option, None, Some, Result, Ok, Err, option_map, if◌then◌else◌}
use Rattle.std.specs.List.{list_any, list_all, slice_split, before_first, after_first}
use Rattle.spd_model.specs.declared.process.Var.{Var}
use Rattle.spd_query.specs.declared.line.Query.{Query}
use Rattle.spd_query.specs.declared.line.Query.TheVariants.{State, Status}
use Rattle.spd_query.specs.declared.line.Reason.{Reason}

-- space, tab and CR part words
abbrev pub is_blank : ℕ → Bool
is_blank byte = byte == 32 || (byte == 9 || byte == 13)

-- tab, CR and 0x20 to 0x7E
abbrev pub may_stand : ℕ → Bool
may_stand byte = byte == 9 || (byte == 13 || (nat_le 32 byte && nat_le byte 126))

abbrev pub is_empty : List ℕ → Bool
is_empty [] = true
is_empty (byte ∷ bytes) = false

-- the words of a line
abbrev pub words_of : List ℕ → List (List ℕ)
words_of line = filter (λ word. not (is_empty word)) (slice_split is_blank line)

abbrev pub is_equals : ℕ → Bool
is_equals byte = byte == 61

-- what stands before and behind the one `=` of a word: none, where there isn't just one, or nothing stands on one side of it
abbrev pub sides_of : List ℕ → Option (List ℕ × List ℕ)
sides_of word =
    if not (is_empty (before_first is_equals word)) && (not (is_empty (after_first is_equals word)) && not (list_any is_equals (after_first is_equals word)))
    then Some (before_first is_equals word, after_first is_equals word) else None

-- the number of the variable of this name, and of a variable's value of this name
abbrev pub var_number : List Var → List ℕ → Option ℕ
var_number vars name = position (λ (var : Var). bytes_eq var.name name) vars

abbrev pub value_number : List (List ℕ) → List ℕ → Option ℕ
value_number values name = position (λ value. bytes_eq value name) values

-- the numbers of the variable and of its value that two sides of a word name
abbrev pub numbers_of : List Var → List ℕ × List ℕ → Option (ℕ × ℕ)
numbers_of vars sides = elim (var_number vars sides.0) [
  | None ↦ None
  | Some var ↦ elim (slice_get vars var) [ None ↦ None | Some found ↦ option_map (λ value. (var, value)) (value_number found.values sides.1) ]
]

-- what a word adds to the values that the words before it gave the variables, one entry for each variable
abbrev pub with_pair : List (Option ℕ) → ℕ × ℕ → Result (List (Option ℕ)) Reason
with_pair given pair = elim (slice_get given pair.0) [
  | None ↦ Err Reason.Unknown
  | Some before ↦ if is_none before then Ok (slice_set given pair.0 (Some pair.1)) else Err Reason.Twice
]

abbrev pub with_word : List Var → List (Option ℕ) → List ℕ → Result (List (Option ℕ)) Reason
with_word vars given word = elim (sides_of word) [
  | None ↦ Err Reason.Pair
  | Some sides ↦ elim (numbers_of vars sides) [ None ↦ Err Reason.Unknown | Some pair ↦ with_pair given pair ]
]

-- the same for words from the left: the first fault is told
abbrev pub with_words : List Var → List (Option ℕ) → List (List ℕ) → Result (List (Option ℕ)) Reason
with_words vars given [] = Ok given
with_words vars given (word ∷ words) = elim (with_word vars given word) [ Err reason ↦ Err reason | Ok now ↦ with_words vars now words ]

-- all values, where each variable was given one
abbrev pub gathered : List (Option ℕ) → Option (List ℕ)
gathered [] = Some []
gathered (None ∷ given) = None
gathered (Some value ∷ given) = option_map (λ state. value ∷ state) (gathered given)

-- the state that words name
abbrev pub state_of_words : List Var → List (List ℕ) → Result (List ℕ) Reason
state_of_words vars words = elim (with_words vars (replicate (length vars) None) words) [
  | Err reason ↦ Err reason
  | Ok given ↦ elim (gathered given) [ None ↦ Err Reason.Missing | Some state ↦ Ok state ]
]

abbrev pub asked : Result (List ℕ) Reason → Result Query Reason
asked (Err reason) = Err reason
asked (Ok state) = Ok (State state)

-- what words ask for: `state` and one `variable=value` for each variable, in any order, or `status`
abbrev pub query_of_words : List Var → List (List ℕ) → Result Query Reason
query_of_words vars [] = Err Reason.Word
query_of_words vars (word ∷ words) =
    if bytes_eq word (codes "state") then asked (state_of_words vars words)
    else (if bytes_eq word (codes "status") && nat_lt (length words) 1 then Ok Status else Err Reason.Word)

-- what a line asks for
abbrev pub query_of : List Var → List ℕ → Result Query Reason
query_of vars line =
    if nat_lt 4096 (length line) then Err Reason.Long
    else (if list_all may_stand line then query_of_words vars (words_of line) else Err Reason.Byte)
