-- The grammar of the command's words: which command they are, or the first word that can't stand.
use Rattle.std.specs.Prelude.{ℕ, ◌≡◌, ◌≤◌, ◌⊎◌, List, [], ◌∷◌, drop, slice_index, Some, None, unwrap_or, IfSome}
use Rattle.spd_words.specs.declared.verb.Verb.{Verb}
use Rattle.spd_words.specs.declared.verb.Verb.TheVariants as verbs
use Rattle.spd_words.specs.declared.given.Given.{Given}
use Rattle.spd_words.specs.declared.command.Command.{Command}
use Rattle.spd_words.specs.declared.command.Command.TheVariants.{Solve, Ask, Check, Plain, Gen, Ring, Upgrade, Horizon, Evaluate, Bounded}
use Rattle.spd_words.specs.declared.command.Pair.{Pair}
use Rattle.spd_words.specs.declared.fault.WordsFault.{WordsFault}
use Rattle.spd_words.specs.declared.fault.WordsFault.TheVariants.{Usage}
use Rattle.spd_model.specs.Options.{AreOptions}
use Rattle.spd_words.specs.Verbs.{verb_named}
use Rattle.spd_words.specs.Values.{number_in, options_of, sweeps_of}
use Rattle.spd_words.specs.Pieces.{Piece, pieces_of}
use Rattle.spd_words.specs.Standing.{text_at, operands_in, given_in, AllStand, FirstFault}

-- the files of the clients, two for each
abbrev pub pairs_of : List ℕ → List Pair
pairs_of [] = []
pairs_of (queries ∷ []) = []
pairs_of (queries ∷ answers ∷ more) = record { queries = queries; answers = answers } ∷ pairs_of more

-- the number that the operand is
abbrev pub size_of : List (List ℕ) → List ℕ → ℕ
size_of words operands = unwrap_or (number_in 2 63 (text_at words (slice_index operands 0))) 0

-- the command of these operands and options
abbrev pub command_from : List (List ℕ) → Verb → List ℕ → Given → Command
command_from words verbs.Solve operands given = Solve (slice_index operands 0) (options_of given)
command_from words verbs.Ask operands given = Ask (slice_index operands 0) (pairs_of (drop 1 operands)) (options_of given)
command_from words verbs.Check operands given = Check (slice_index operands 0) (slice_index operands 1) (options_of given)
command_from words verbs.Plain operands given = Plain (slice_index operands 0) (options_of given)
command_from words verbs.Gen operands given = Gen (size_of words operands)
command_from words verbs.Ring operands given = Ring (size_of words operands) (options_of given)
command_from words verbs.Upgrade operands given = Upgrade (slice_index operands 0) (slice_index operands 1) (options_of given)
command_from words verbs.Horizon operands given = Horizon (slice_index operands 0) given.steps (options_of given)
command_from words verbs.Evaluate operands given =
    Evaluate (slice_index operands 0) (slice_index operands 1) given.rounds (sweeps_of given) (options_of given)
command_from words verbs.Bounded operands given = Bounded (slice_index operands 0) (slice_index operands 1) (options_of given)

-- the command of which these are the pieces
abbrev pub meaning : List (List ℕ) → Verb → List Piece → Command
meaning words verb pieces = command_from words verb (operands_in pieces) (given_in pieces)

-- The words are this command: the first is the command's word, each piece of those behind it can stand, and they say this.
abbrev pub IsCommand : List (List ℕ) → Command → Type 0
IsCommand [] command = ⊥
IsCommand (word ∷ behind) command =
    (verb : Verb) × (verb_named word ≡ Some verb) × AllStand (word ∷ behind) verb [] (pieces_of behind)
    × (command ≡ meaning (word ∷ behind) verb (pieces_of behind))

-- The words are no command: the first that can't stand has this number, or the words end too early, and this is their number.
abbrev pub IsUsage : List (List ℕ) → ℕ → Type 0
IsUsage [] at = at ≡ 0
IsUsage (word ∷ behind) at =
    ((verb_named word ≡ None) × (at ≡ 0))
    ⊎ ((verb : Verb) × (verb_named word ≡ Some verb) × FirstFault (word ∷ behind) verb (pieces_of behind) at)

-- what is told of words that are no command
abbrev pub IsFault : List (List ℕ) → WordsFault → Type 0
IsFault words (Usage word) = IsUsage words word

-- ---- what holds of every command

-- its numbers lie within their limits
abbrev pub IsWithinLimits : Command → Type 0
IsWithinLimits (Solve file options) = AreOptions options
IsWithinLimits (Ask file pairs options) = AreOptions options
IsWithinLimits (Check file cert options) = AreOptions options
IsWithinLimits (Plain file options) = AreOptions options
IsWithinLimits (Gen n) = (2 ≤ n) × (n ≤ 63)
IsWithinLimits (Ring n options) = (2 ≤ n) × (n ≤ 63) × AreOptions options
IsWithinLimits (Upgrade file cert options) = AreOptions options
IsWithinLimits (Horizon file steps options) = IfSome steps (λ n. n ≤ 1000) × AreOptions options
IsWithinLimits (Evaluate file cert rounds sweeps options) =
    IfSome rounds (λ n. n ≤ 1000000) × (1 ≤ sweeps) × (sweeps ≤ 1000) × AreOptions options
IsWithinLimits (Bounded file upper options) = AreOptions options
