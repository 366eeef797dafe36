-- The two files of a command have two names.
use Rattle.std.proofs.Common.{◌≡◌, ℕ, Bool, true, false, List, [], ◌∷◌, ◌++◌, length, not, Option, Some, refl, sym, subst}
use Rattle.std.proofs.lemmas.Slice.Eq.{bytes_eq-Decides}
use Rattle.std.proofs.lemmas.Bool.{and_parts}
use Rattle.std.specs.Prelude.{IsTrue, bytes_eq, slice_index, ◌==◌, ◌||◌, ◌&&◌}
use Rattle.spd_words.specs.declared.verb.Verb.{Verb}
use Rattle.spd_words.specs.declared.verb.Verb.TheVariants as verbs
use Rattle.spd_words.specs.declared.verb.Role.{Role}
use Rattle.spd_words.specs.declared.verb.Role.TheVariants.{Input}
use Rattle.spd_model.specs.declared.options.Options.{Options}
use Rattle.spd_words.specs.declared.command.Command.{Command}
use Rattle.spd_words.specs.declared.command.Command.TheVariants.{Check, Upgrade, Evaluate, Bounded}
use Rattle.spd_words.specs.Verbs.{role_of, is_role, two_inputs}
use Rattle.spd_words.specs.Pieces.{pieces_of}
use Rattle.spd_words.specs.declared.expects.Expects.TheVariants.{Anything}
use Rattle.spd_words.specs.Standing.{text_at, operands_in, fits, AllStand}
use Rattle.spd_words.specs.Commands.{meaning, IsCommand}
use Rattle.spd_words.proofs.Operands.{all_operands, all_kept}

-- the first two operands don't have the same name
abbrev AreApart : List (List ℕ) → List ℕ → Type 0
AreApart words [] = Unit {0}
AreApart words (a ∷ []) = Unit {0}
AreApart words (a ∷ b ∷ more) = text_at words a ≡ text_at words b → ⊥

not_repeated : (empty : Bool) (a b : List ℕ) → IsTrue (not empty && not (bytes_eq a b || false)) → a ≡ b → ⊥
not_repeated empty a b can same =
    let both : bytes_eq a b ≡ true = (bytes_eq-Decides a b).1 same in
    let parts = and_parts (not empty) (not (bytes_eq a b || false)) can in
    let wrong : not (true || false) ≡ true = subst (λ (t : Bool). not (t || false) ≡ true) both parts.1 in cc

-- a verb whose operands are two files
abbrev HasTwo : Verb → Type 0
HasTwo verb = (n : ℕ) → role_of verb n ≡ two_inputs n

apart_fits : (words : List (List ℕ)) (verb : Verb) → HasTwo verb → (operands : List ℕ) (at : ℕ)
    → IsTrue (fits words verb operands (role_of verb (length operands)) (text_at words at)) → AreApart words operands → AreApart words (operands ++ at ∷ [])
apart_fits words verb two [] at can h = tt
apart_fits words verb two (a ∷ []) at can h =
    let first = text_at words a in
    let text = text_at words at in
    let name : IsTrue (fits words verb (a ∷ []) (Some Input) text) = subst (λ (r : Option Role). IsTrue (fits words verb (a ∷ []) r text)) (two 1) can in
    not_repeated (length text == 0) first text
    (subst (λ (r : Option Role). IsTrue (not (length text == 0) && not ((is_role r Input && bytes_eq first text) || false))) (two 0) name)
apart_fits words verb two (a ∷ b ∷ more) at can h = h

apart : (words : List (List ℕ)) (operands : List ℕ) → AreApart words operands → IsTrue (length operands == 2)
    → text_at words (slice_index operands 0) ≡ text_at words (slice_index operands 1) → ⊥
apart words [] h all same = cc
apart words (a ∷ []) h all same = cc
apart words (a ∷ b ∷ more) h all same = h same

-- the two files of a command have two names
abbrev AreNamed : List (List ℕ) → Command → Type 0
AreNamed words (Check file cert options) = text_at words file ≡ text_at words cert → ⊥
AreNamed words (Upgrade file cert options) = text_at words file ≡ text_at words cert → ⊥
AreNamed words (Evaluate file cert rounds sweeps options) = text_at words file ≡ text_at words cert → ⊥
AreNamed words (Bounded file upper options) = text_at words file ≡ text_at words upper → ⊥
AreNamed words command = Unit {0}

two_named : (words : List (List ℕ)) (verb : Verb) (behind : List (List ℕ)) → HasTwo verb → AllStand words verb [] (pieces_of behind)
    → IsTrue (length (operands_in (pieces_of behind)) == 2)
    → text_at words (slice_index (operands_in (pieces_of behind)) 0) ≡ text_at words (slice_index (operands_in (pieces_of behind)) 1) → ⊥
two_named words verb behind two all count =
    apart words (operands_in (pieces_of behind)) (all_kept words verb (AreApart words) (apart_fits words verb two) [] (pieces_of behind) all tt) count

meaning_named : (words : List (List ℕ)) (verb : Verb) (behind : List (List ℕ)) → AllStand words verb [] (pieces_of behind) → AreNamed words (meaning words verb (pieces_of behind))
meaning_named words verbs.Check behind all = two_named words verbs.Check behind (λ n. refl) all (all_operands words verbs.Check [] Anything 1 behind all)
meaning_named words verbs.Upgrade behind all = two_named words verbs.Upgrade behind (λ n. refl) all (all_operands words verbs.Upgrade [] Anything 1 behind all)
meaning_named words verbs.Evaluate behind all = two_named words verbs.Evaluate behind (λ n. refl) all (all_operands words verbs.Evaluate [] Anything 1 behind all)
meaning_named words verbs.Bounded behind all = two_named words verbs.Bounded behind (λ n. refl) all (all_operands words verbs.Bounded [] Anything 1 behind all)
meaning_named words verbs.Solve behind all = tt
meaning_named words verbs.Ask behind all = tt
meaning_named words verbs.Plain behind all = tt
meaning_named words verbs.Gen behind all = tt
meaning_named words verbs.Ring behind all = tt
meaning_named words verbs.Horizon behind all = tt

command_named : (words : List (List ℕ)) (command : Command) → IsCommand words command → AreNamed words command
command_named [] command is = absurd is
command_named (word ∷ behind) command is = subst (AreNamed (word ∷ behind)) (sym is.3) (meaning_named (word ∷ behind) is.0 behind is.2)

pub check_names : (words : List (List ℕ)) (file cert : ℕ) (options : Options) → IsCommand words (Check file cert options)
    → text_at words file ≡ text_at words cert → ⊥
check_names words file cert options is = command_named words (Check file cert options) is

pub upgrade_names : (words : List (List ℕ)) (file cert : ℕ) (options : Options) → IsCommand words (Upgrade file cert options)
    → text_at words file ≡ text_at words cert → ⊥
upgrade_names words file cert options is = command_named words (Upgrade file cert options) is
