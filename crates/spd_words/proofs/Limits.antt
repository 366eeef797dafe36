-- The values of options and sizes lie within their limits.
use Rattle.std.proofs.Common.{◌≡◌, ◌≤◌, ◌+◌, ◌*◌, ◌%◌, ◌/◌, ◌^◌, ℕ, zero, suc, Bool, true, false, cond, ◌&&◌, List, [], ◌∷◌, Option, Some, None, Result, Ok, Err, ℤ, pos, negsuc, refl, arith, lit≤}
use Rattle.std.proofs.lemmas.Bool.Decides.{nat_tests}
use Rattle.std.proofs.lemmas.Int.{ints}
use Rattle.std.specs.Prelude.{◌≤ℤ◌, nat_le, ◌==◌, IfSome, IfOk, unwrap_or}
use Rattle.std.specs.Str.Parse.{digits_value}
use Rattle.spd_scaled.specs.declared.decimal.Decimal.{Decimal}
use Rattle.spd_scaled.specs.declared.decimal.Scale.{Scale}
use Rattle.spd_scaled.specs.declared.decimal.Scale.TheVariants.{TooFine, TooLarge}
use Rattle.spd_scaled.specs.DecimalReading.{limited, units_from, signed_step, scaled_of, decimal_of}
use Rattle.spd_model.specs.Options.{AreOptions}
use Rattle.spd_words.specs.declared.given.Given.{Given}
use Rattle.spd_words.specs.declared.verb.Key.{Key}
use Rattle.spd_words.specs.declared.verb.Key.TheVariants.{Workers, Nodes, Turns, Span, Memo, Steps, Rounds, Sweeps}
use Rattle.spd_words.specs.Values.{is_number, within, number_in, not_negative, span_from, span_of, nothing_given, with_value, options_of, sweeps_of}
use Rattle.spd_words.specs.Pieces.{Piece, operand, option, value, no_value, end}
use Rattle.spd_words.specs.Standing.{given_after, given_in}

abbrev pub Between : ℕ → ℕ → ℕ → Type 0
Between low high n = (low ≤ n) × (n ≤ high)

within-between : (low high n : ℕ) (b : Bool) → (nat_le low n && nat_le n high) ≡ b → IfSome (cond b (Some n) None) (Between low high)
within-between low high n true e = let a : low ≤ n = grind (arith, nat_tests) in let b : n ≤ high = grind (arith, nat_tests) in (a, b)
within-between low high n false e = tt

number-if : (low high : ℕ) (text : List ℕ) (b : Bool) → IfSome (cond b (within low high (digits_value 10 text)) None) (Between low high)
number-if low high text true = within-between low high (digits_value 10 text) _ refl
number-if low high text false = tt

pub number_between : (low high : ℕ) (text : List ℕ) → IfSome (number_in low high text) (Between low high)
unfolding number_in
number_between low high text = number-if low high text (is_number text)

-- ---- spans

abbrev pub IsSpan : ℤ → Type 0
IsSpan span = (pos 0 ≤ℤ span) × (span ≤ℤ pos (10 ^ 30))

limited-if : (n : ℕ) (b : Bool) → nat_le n (10 ^ 30) ≡ b → (let r : Result ℕ Scale = cond b (Ok n) (Err TooLarge) in IfOk r (λ m. m ≤ 10 ^ 30))
limited-if n true e = let h : n ≤ 10 ^ 30 = grind (arith, nat_tests) in h
limited-if n false e = tt

limited-few : (n : ℕ) → IfOk (limited n) (λ m. m ≤ 10 ^ 30)
limited-few n = limited-if n _ refl

divided-if : (n : ℕ) (b : Bool) → (let r : Result ℕ Scale = cond b (limited n) (Err TooFine) in IfOk r (λ m. m ≤ 10 ^ 30))
divided-if n true = limited-few n
divided-if n false = tt

units-few : (places digits : ℕ) (z : ℤ) → IfOk (units_from places digits z) (λ m. m ≤ 10 ^ 30)
units-few places digits (pos p) = divided-if (digits * 10 ^ places / 10 ^ p) (digits * 10 ^ places % 10 ^ p == 0)
units-few places digits (negsuc p) = limited-few (digits * 10 ^ (places + suc p))

pos-span : (n : ℕ) → n ≤ 10 ^ 30 → IsSpan (pos n)
pos-span n h = grind (arith, ints)

sign-span : (negative : Bool) (r : Result ℕ Scale) → IfOk r (λ m. m ≤ 10 ^ 30) → IfSome (not_negative (signed_step negative r)) IsSpan
sign-span true (Ok zero) h = pos-span zero h
sign-span true (Ok (suc n)) h = tt
sign-span false (Ok n) h = pos-span n h
sign-span true (Err e) h = tt
sign-span false (Err e) h = tt

span-from : (d : Option Decimal) → IfSome (span_from d) IsSpan
unfolding scaled_of
span-from None = tt
span-from (Some d) = sign-span d.negative (units_from 9 d.digits d.places) (units-few 9 d.digits d.places)

pub span_between : (text : List ℕ) → IfSome (span_of text) IsSpan
unfolding span_of
span_between text = span-from (decimal_of text)

-- ---- options

pub record AreWithin (given : Given) : Type 0 where
  pub workers : IfSome given.workers (Between 1 64)
  pub nodes : IfSome given.nodes (Between 16 8388608)
  pub turns : IfSome given.turns (Between 0 1000000)
  pub span : IfSome given.span IsSpan
  pub memo : IfSome given.memo (Between 1 8388608)
  pub steps : IfSome given.steps (Between 0 1000)
  pub rounds : IfSome given.rounds (Between 0 1000000)
  pub sweeps : IfSome given.sweeps (Between 1 1000)

with_value-within : (key : Key) (text : List ℕ) (given : Given) → AreWithin given → AreWithin (with_value key text given)
with_value-within Workers text given h = record { workers = number_between 1 64 text; nodes = h.nodes; turns = h.turns; span = h.span; memo = h.memo; steps = h.steps; rounds = h.rounds; sweeps = h.sweeps }
with_value-within Nodes text given h = record { workers = h.workers; nodes = number_between 16 8388608 text; turns = h.turns; span = h.span; memo = h.memo; steps = h.steps; rounds = h.rounds; sweeps = h.sweeps }
with_value-within Turns text given h = record { workers = h.workers; nodes = h.nodes; turns = number_between 0 1000000 text; span = h.span; memo = h.memo; steps = h.steps; rounds = h.rounds; sweeps = h.sweeps }
with_value-within Span text given h = record { workers = h.workers; nodes = h.nodes; turns = h.turns; span = span_between text; memo = h.memo; steps = h.steps; rounds = h.rounds; sweeps = h.sweeps }
with_value-within Memo text given h = record { workers = h.workers; nodes = h.nodes; turns = h.turns; span = h.span; memo = number_between 1 8388608 text; steps = h.steps; rounds = h.rounds; sweeps = h.sweeps }
with_value-within Steps text given h = record { workers = h.workers; nodes = h.nodes; turns = h.turns; span = h.span; memo = h.memo; steps = number_between 0 1000 text; rounds = h.rounds; sweeps = h.sweeps }
with_value-within Rounds text given h = record { workers = h.workers; nodes = h.nodes; turns = h.turns; span = h.span; memo = h.memo; steps = h.steps; rounds = number_between 0 1000000 text; sweeps = h.sweeps }
with_value-within Sweeps text given h = record { workers = h.workers; nodes = h.nodes; turns = h.turns; span = h.span; memo = h.memo; steps = h.steps; rounds = h.rounds; sweeps = number_between 1 1000 text }

given_after-within : (given : Given) (ps : List Piece) → AreWithin given → AreWithin (given_after given ps)
given_after-within given [] h = h
given_after-within given (operand at ∷ ps) h = given_after-within given ps h
given_after-within given (option at key ∷ ps) h = given_after-within given ps h
given_after-within given (value at key text ∷ ps) h = given_after-within (with_value key text given) ps (with_value-within key text given h)
given_after-within given (no_value at ∷ ps) h = given_after-within given ps h
given_after-within given (end at ∷ ps) h = given_after-within given ps h

pub given_within : (ps : List Piece) → AreWithin (given_in ps)
given_within ps = given_after-within nothing_given ps (record { workers = tt; nodes = tt; turns = tt; span = tt; memo = tt; steps = tt; rounds = tt; sweeps = tt })

-- a value or its default
or_default : {T : Type 0} (P : T → Type 0) (o : Option T) (default : T) → IfSome o P → P default → P (unwrap_or o default)
or_default P None default h d = d
or_default P (Some x) default h d = h

pub options_within : (given : Given) → AreWithin given → AreOptions (options_of given)
options_within given h =
    let workers = or_default (Between 1 64) given.workers 1 h.workers (lit≤ tt, lit≤ tt) in
    let nodes = or_default (Between 16 8388608) given.nodes 262144 h.nodes (lit≤ tt, lit≤ tt) in
    let turns = or_default (Between 0 1000000) given.turns 10000 h.turns (lit≤ tt, lit≤ tt) in
    let span = or_default IsSpan given.span (pos 0) h.span (pos-span 0 (lit≤ tt)) in
    let memo = or_default (Between 1 8388608) given.memo 65536 h.memo (lit≤ tt, lit≤ tt) in
    record {
      least_workers = workers.0;
      most_workers = workers.1;
      least_nodes = nodes.0;
      most_nodes = nodes.1;
      most_turns = turns.1;
      least_span = span.0;
      most_span = span.1;
      least_memo = memo.0;
      most_memo = memo.1;
    }

pub sweeps_within : (given : Given) → AreWithin given → Between 1 1000 (sweeps_of given)
sweeps_within given h = or_default (Between 1 1000) given.sweeps 10 h.sweeps (lit≤ tt, lit≤ tt)

pub most_of : (o : Option ℕ) (low high : ℕ) → IfSome o (Between low high) → IfSome o (λ n. n ≤ high)
most_of None low high h = tt
most_of (Some n) low high h = h.1
