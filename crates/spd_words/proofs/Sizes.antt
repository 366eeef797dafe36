-- The number of a ring's variables that a command says is from 2 to 63; and the commands' numbers lie within their limits.
use Rattle.std.proofs.Common.{◌≡◌, ℕ, true, false, ◌⊎◌, inl, inr, List, [], ◌∷◌, ◌++◌, length, Option, Some, None, refl, sym, ap, subst, arith}
use Rattle.std.proofs.lemmas.Bool.Decides.{nat_tests}
use Rattle.std.specs.Prelude.{IsTrue, is_some, unwrap_or, slice_index, ◌==◌, IfSome}
use Rattle.spd_words.specs.declared.verb.Verb.{Verb}
use Rattle.spd_words.specs.declared.verb.Verb.TheVariants.{Solve, Ask, Check, Plain, Gen, Ring, Upgrade, Horizon, Evaluate, Bounded}
use Rattle.spd_words.specs.declared.command.Command.{Command}
use Rattle.spd_words.specs.declared.expects.Expects.TheVariants.{Anything}
use Rattle.spd_words.specs.Verbs.{role_of, one_size}
use Rattle.spd_words.specs.Values.{number_in}
use Rattle.spd_words.specs.Pieces.{Piece, pieces_of}
use Rattle.spd_words.specs.Standing.{text_at, operands_in, fits, AllStand}
use Rattle.spd_words.specs.Commands.{size_of, meaning, IsCommand, IsWithinLimits}
use Rattle.spd_words.proofs.Operands.{all_operands, all_kept}
use Rattle.spd_words.proofs.Limits.{Between, number_between, given_within, options_within, sweeps_within, most_of}

-- ---- the first operand of `gen` and `ring` is a number

abbrev IsSized : List (List ℕ) → List ℕ → Type 0
IsSized words operands = (operands ≡ []) ⊎ IsTrue (is_some (number_in 2 63 (text_at words (slice_index operands 0))))

size_fits : (words : List (List ℕ)) (verb : Verb) (operands : List ℕ) (at : ℕ)
    → IsTrue (fits words verb operands (one_size (length operands)) (text_at words at)) → IsSized words (operands ++ at ∷ [])
size_fits words verb [] at h = inr h
size_fits words verb (o ∷ os) at h =
    let many : one_size (length (o ∷ os)) ≡ None = grind (arith, nat_tests) in
    let wrong : IsTrue (fits words verb (o ∷ os) None (text_at words at)) = subst (λ (r : _). IsTrue (fits words verb (o ∷ os) r (text_at words at))) many h in cc

all_sized : (words : List (List ℕ)) (verb : Verb) (ps : List Piece) → ((n : ℕ) → role_of verb n ≡ one_size n)
    → AllStand words verb [] ps → IsSized words (operands_in ps)
all_sized words verb ps sizes all =
    all_kept words verb (IsSized words)
    (λ operands at can h. size_fits words verb operands at (subst (λ (r : _). IsTrue (fits words verb operands r (text_at words at))) (sizes (length operands)) can)) [] ps all (inl refl)

some_within : (o : Option ℕ) → IfSome o (Between 2 63) → IsTrue (is_some o) → Between 2 63 (unwrap_or o 0)
some_within None h some = cc
some_within (Some n) h some = h

sized_within : (words : List (List ℕ)) (operands : List ℕ) → IsSized words operands → (length operands == 1) ≡ true → Between 2 63 (size_of words operands)
sized_within words operands (inl none) one =
    let wrong : (length operands == 1) ≡ false = ap (λ (ops : List ℕ). length ops == 1) none in cc
sized_within words operands (inr some) one = some_within (number_in 2 63 (text_at words (slice_index operands 0))) (number_between 2 63 _) some

-- ---- the limits of a command

meaning_within : (words : List (List ℕ)) (verb : Verb) (behind : List (List ℕ)) → AllStand words verb [] (pieces_of behind) → IsWithinLimits (meaning words verb (pieces_of behind))
meaning_within words Solve behind all = options_within _ (given_within (pieces_of behind))
meaning_within words Ask behind all = options_within _ (given_within (pieces_of behind))
meaning_within words Check behind all = options_within _ (given_within (pieces_of behind))
meaning_within words Plain behind all = options_within _ (given_within (pieces_of behind))
meaning_within words Gen behind all =
    sized_within words (operands_in (pieces_of behind)) (all_sized words Gen (pieces_of behind) (λ n. refl) all) (all_operands words Gen [] Anything 1 behind all)
meaning_within words Ring behind all =
    let size = sized_within words (operands_in (pieces_of behind)) (all_sized words Ring (pieces_of behind) (λ n. refl) all) (all_operands words Ring [] Anything 1 behind all) in
    (size.0, size.1, options_within _ (given_within (pieces_of behind)))
meaning_within words Upgrade behind all = options_within _ (given_within (pieces_of behind))
meaning_within words Horizon behind all =
    let given = given_within (pieces_of behind) in (most_of _ 0 1000 given.steps, options_within _ given)
meaning_within words Evaluate behind all =
    let given = given_within (pieces_of behind) in
    let sweeps = sweeps_within _ given in
    (most_of _ 0 1000000 given.rounds, sweeps.0, sweeps.1, options_within _ given)
meaning_within words Bounded behind all = options_within _ (given_within (pieces_of behind))

pub command_within : (words : List (List ℕ)) (command : Command) → IsCommand words command → IsWithinLimits command
command_within [] command is = absurd is
command_within (word ∷ behind) command is = subst IsWithinLimits (sym is.3) (meaning_within (word ∷ behind) is.0 behind is.2)
