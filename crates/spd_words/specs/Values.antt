-- The values of options and operands: which texts they are, their limits, and what they are where none is given.
use Rattle.std.specs.Prelude.{ℕ, ◌^◌, ◌&&◌, nat_le, Bool, if◌then◌else◌, List, length, Option, Some, None, is_some, unwrap_or, Result, Ok, Err, ℤ, pos, negsuc}
use Rattle.std.specs.List.{list_all}
use Rattle.std.specs.Char.{is_ascii_digit}
use Rattle.std.specs.Str.Parse.{digits_value}
use Rattle.spd_scaled.specs.declared.decimal.Decimal.{Decimal}
use Rattle.spd_scaled.specs.declared.decimal.Scale.{Scale}
use Rattle.spd_scaled.specs.DecimalReading.{decimal_of, scaled_of}
use Rattle.spd_model.specs.declared.options.Options.{Options}
use Rattle.spd_model.specs.Options.{default_options}
use Rattle.spd_words.specs.declared.verb.Key.{Key}
use Rattle.spd_words.specs.declared.verb.Key.TheVariants.{Workers, Nodes, Turns, Span, Memo, Steps, Rounds, Sweeps}
use Rattle.spd_words.specs.declared.given.Given.{Given}

-- ---- whole numbers

-- one to ten digits
abbrev pub is_number : List ℕ → Bool
is_number text = nat_le 1 (length text) && (nat_le (length text) 10 && list_all is_ascii_digit text)

abbrev pub within : ℕ → ℕ → ℕ → Option ℕ
within low high n = if nat_le low n && nat_le n high then Some n else None

-- the number from low to high that a text writes
unfoldable pub number_in : ℕ → ℕ → List ℕ → Option ℕ
number_in low high text = if is_number text then within low high (digits_value 10 text) else None

-- ---- spans

abbrev pub not_negative : Result ℤ Scale → Option ℤ
not_negative (Ok (pos n)) = Some (pos n)
not_negative (Ok (negsuc n)) = None
not_negative (Err e) = None

abbrev pub span_from : Option Decimal → Option ℤ
span_from None = None
span_from (Some d) = not_negative (scaled_of 9 d)

-- the number of units of 10^-9, not below zero and at most 10^30, that a decimal writes
unfoldable pub span_of : List ℕ → Option ℤ
span_of text = span_from (decimal_of text)

-- ---- options

-- the least and the greatest value of an option that is a whole number; a span has limits of its own
abbrev pub limits : Key → ℕ × ℕ
limits Workers = (1, 64)
limits Nodes = (16, 8388608)
limits Turns = (0, 1000000)
limits Span = (0, 10 ^ 30)
limits Memo = (1, 8388608)
limits Steps = (0, 1000)
limits Rounds = (0, 1000000)
limits Sweeps = (1, 1000)

-- the whole number that an option's text says, where it lies within the limits
abbrev pub number_of : Key → List ℕ → Option ℕ
number_of key text = number_in (limits key).0 (limits key).1 text

-- the text is a value of the option
abbrev pub is_value : Key → List ℕ → Bool
is_value Span text = is_some (span_of text)
is_value key text = is_some (number_of key text)

abbrev pub nothing_given : Given
nothing_given = record { workers = None; nodes = None; turns = None; span = None; memo = None; steps = None; rounds = None; sweeps = None }

-- with the value of one more option
abbrev pub with_value : Key → List ℕ → Given → Given
with_value Workers text given = record given { workers = number_of Workers text }
with_value Nodes text given = record given { nodes = number_of Nodes text }
with_value Turns text given = record given { turns = number_of Turns text }
with_value Span text given = record given { span = span_of text }
with_value Memo text given = record given { memo = number_of Memo text }
with_value Steps text given = record given { steps = number_of Steps text }
with_value Rounds text given = record given { rounds = number_of Rounds text }
with_value Sweeps text given = record given { sweeps = number_of Sweeps text }

-- the option was given
abbrev pub is_given : Key → Given → Bool
is_given Workers given = is_some given.workers
is_given Nodes given = is_some given.nodes
is_given Turns given = is_some given.turns
is_given Span given = is_some given.span
is_given Memo given = is_some given.memo
is_given Steps given = is_some given.steps
is_given Rounds given = is_some given.rounds
is_given Sweeps given = is_some given.sweeps

-- the options of a run, where those that aren't given are the default
abbrev pub options_of : Given → Options
options_of given = record {
  workers = unwrap_or given.workers default_options.workers;
  nodes = unwrap_or given.nodes default_options.nodes;
  turns = unwrap_or given.turns default_options.turns;
  span = unwrap_or given.span default_options.span;
  memo = unwrap_or given.memo default_options.memo;
}

-- how many sweeps a round makes
abbrev pub sweeps_of : Given → ℕ
sweeps_of given = unwrap_or given.sweeps 10
