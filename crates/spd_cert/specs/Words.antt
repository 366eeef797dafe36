-- What a word of a certificate says.
use Rattle.std.specs.Prelude.{ℕ, ◌+◌, ◌==◌, ◌&&◌, ◌||◌, not, nat_le, nat_lt, Bool, true, false, if◌then◌else◌, List, [], ◌∷◌, length, take, drop, count_by, position, codes, bytes_eq, Option, Some, None, option_map, Result, Ok, Err, ℤ, pos, negsuc, unsigned_abs}
use Rattle.std.specs.List.{list_all}
use Rattle.std.specs.Char.{is_ascii_digit}
use Rattle.std.specs.Str.Parse.{digits_value}
use Rattle.spd_scaled.specs.declared.decimal.Decimal.{Decimal}
use Rattle.spd_scaled.specs.DecimalReading.{decimal_of, scaled_of}
use Rattle.spd_model.specs.declared.process.Var.{Var}
use Rattle.spd_model.specs.declared.process.Action.{Action}
use Rattle.spd_model.specs.declared.Why.{Why}
use Rattle.spd_model.specs.declared.Why.TheVariants.{Done, Limit}
use Rattle.spd_model.specs.declared.Side.{Side}
use Rattle.spd_model.specs.declared.Side.TheVariants.{Above, Below}
use Rattle.hex.specs.declared.error.FromHexError.{FromHexError}
use Rattle.hex.specs.Hex.{encode_lower, decode_sized}
use Rattle.spd_model.specs.Process.{Process}
use Rattle.spd_model.specs.Reduced.{Node}
use Rattle.spd_model.specs.Turns.{value_limit}
use Rattle.spd_nodes.specs.declared.leaf.Leaf.{Leaf}
use Rattle.spd_nodes.specs.declared.leaf.Leaf.TheVariants.{Num, Act}
use Rattle.spd_cert.specs.declared.nodes.Part.{Part}
use Rattle.spd_cert.specs.declared.nodes.Part.TheVariants.{Value, Policy}

-- ---- whole numbers

-- digits without a leading zero, but for 0 itself
abbrev pub is_whole : List ℕ → Bool
is_whole [] = false
is_whole (c ∷ cs) = list_all is_ascii_digit (c ∷ cs) && (not (c == 48) || length cs == 0)

abbrev pub within : ℕ → ℕ → ℕ → Option ℕ
within low high n = if nat_le low n && nat_le n high then Some n else None

-- the whole number from low to high that a word writes, of at most ten digits
unfoldable pub whole_in : ℕ → ℕ → List ℕ → Option ℕ
whole_in low high word = if is_whole word && nat_le (length word) 10 then within low high (digits_value 10 word) else None

-- the number below n that digits write: with more than ten they write none
unfoldable pub number_below : ℕ → List ℕ → Option ℕ
number_below n word = if nat_le (length word) 10 && nat_lt (digits_value 10 word) n then Some (digits_value 10 word) else None

-- ---- numbers of units of 10^-9

abbrev pub units_from : Option Decimal → Option ℤ
units_from None = None
units_from (Some d) = elim (scaled_of 9 d) [ Ok x ↦ Some x | Err e ↦ None ]

-- the number of units of 10^-9 that a decimal writes
unfoldable pub units_of : List ℕ → Option ℤ
units_of word = units_from (decimal_of word)

abbrev pub not_negative : Option ℤ → Option ℤ
not_negative None = None
not_negative (Some (pos n)) = Some (pos n)
not_negative (Some (negsuc n)) = None

-- a residual or an error: 0 to 10^30 units
abbrev pub distance_of : List ℕ → Option ℤ
distance_of word = not_negative (units_of word)

abbrev pub no_more_than : ℕ → Option ℤ → Option ℤ
no_more_than limit None = None
no_more_than limit (Some x) = if nat_le (unsigned_abs x) limit then Some x else None

-- a leaf of a value
abbrev pub value_of : List ℕ → Option ℤ
value_of word = no_more_than value_limit (units_of word)

-- ---- names

-- the number of the variable of this name, of the action, and of a variable's value
abbrev pub var_number : List Var → List ℕ → Option ℕ
var_number vars name = position (λ (var : Var). bytes_eq var.name name) vars

abbrev pub action_number : List Action → List ℕ → Option ℕ
action_number actions name = position (λ (action : Action). bytes_eq action.name name) actions

abbrev pub value_number : List (List ℕ) → List ℕ → Option ℕ
value_number values name = position (λ value. bytes_eq value name) values

abbrev pub is_equals : ℕ → Bool
is_equals byte = byte == 61

-- exactly one `=` stands in a word
abbrev pub is_pair : List ℕ → Bool
is_pair word = count_by is_equals word == 1

abbrev pub pair_from : Var → List ℕ → Option ℕ → Option ℕ
pair_from var word None = None
pair_from var word (Some n) = if bytes_eq (take n word) var.name then value_number var.values (drop (n + 1) word) else None

-- the number of the variable's value whose name stands behind the first `=` of a word, where the variable's name stands before it
abbrev pub pair_value : Var → List ℕ → Option ℕ
pair_value var word = pair_from var word (position is_equals word)

-- ---- words of the grammar

abbrev pub version_of : List ℕ → Option ℕ
version_of word = if bytes_eq word (codes "1") then Some 1 else (if bytes_eq word (codes "2") then Some 2 else None)

abbrev pub why_of : List ℕ → Option Why
why_of word = if bytes_eq word (codes "done") then Some Done else (if bytes_eq word (codes "limit") then Some Limit else None)

abbrev pub side_of : List ℕ → Option Side
side_of word = if bytes_eq word (codes "above") then Some Above else (if bytes_eq word (codes "below") then Some Below else None)

-- the word before the nodes of a diagram
abbrev pub part_word : Part → List ℕ
part_word Value = codes "value"
part_word Policy = codes "policy"

-- ---- digests

abbrev pub same_digits : List ℕ → Result (List ℕ) FromHexError → Option (List ℕ)
same_digits word (Ok bytes) = if bytes_eq (encode_lower bytes) word then Some bytes else None
same_digits word (Err e) = None

-- the 32 bytes whose hexadecimal digits, in lower case, a word is
unfoldable pub digest_of : List ℕ → Option (List ℕ)
digest_of word = same_digits word (decode_sized word 32)

-- ---- nodes

-- the leaf that a word says: a number in a value, an action in a policy
abbrev pub leaf_of : Process → Part → List ℕ → Option Leaf
leaf_of m Value word = option_map Num (value_of word)
leaf_of m Policy word = option_map Act (action_number m.actions word)

-- a leaf, and a branch on a later variable, may be a kid of a branch on a variable
abbrev pub follows : ℕ → Node Leaf → Bool
follows var (Node.leaf x) = true
follows var (Node.branch own kids) = nat_lt var own
