-- What a use of a decision diagram asks, read from its tree.
use Rattle.std.specs.Prelude.{ℕ, ◌+◌, ◌%◌, ◌==◌, min, max, ◌||◌, not, if◌then◌else◌, Bool, false, List, [], ◌∷◌, fold, Option, Some, None, ℤ, pos, int_lt, unsigned_abs}
use Rattle.std.specs.List.{list_any}
use Rattle.spd_model.specs.Trees.{Reading, Part, number, choice, missing}
use Rattle.spd_reader.specs.declared.facts.Facts.{Facts}
use Rattle.spd_reader.specs.declared.purpose.Purpose.{Purpose}
use Rattle.spd_reader.specs.declared.purpose.Purpose.TheVariants.{Diagram, Table, Reward}
use Rattle.spd_reader.specs.Trees.{may_prime, is_negative, is_fine}

abbrev pub lesser_var : Option ℕ → Option ℕ → Option ℕ
lesser_var None b = b
lesser_var (Some a) None = Some a
lesser_var (Some a) (Some b) = Some (min a b)

abbrev pub together : Facts → Facts → Facts
together a b = record { primed = lesser_var a.primed b.primed; negative = a.negative || b.negative; fine = a.fine || b.fine; nesting = max a.nesting b.nesting }

-- a nesting above 300 is told as 301
abbrev pub deeper : Facts → Facts
deeper f = record f { nesting = min 301 (f.nesting + 1) }

abbrev pub of_leaf : ℤ → Facts
of_leaf x = record { primed = None; negative = int_lt x (pos 0); fine = not (unsigned_abs x % 1000 == 0); nesting = 1 }

abbrev pub of_branch : ℕ → Bool → Facts
of_branch var primed = record { primed = (if primed then Some var else None); negative = false; fine = false; nesting = 0 }

abbrev pub no_facts : Facts
no_facts = record { primed = None; negative = false; fine = false; nesting = 0 }

abbrev pub facts : Reading Facts
facts = record { leaf = of_leaf; branch = λ var primed kids. deeper (fold together (of_branch var primed) kids); absent = no_facts }

-- ---- the same of what is written in it, and how deep it nests

abbrev pub primed_var : Part → Option ℕ
primed_var (number x) = None
primed_var (choice var primed kids) = if primed then Some var else None
primed_var missing = None

-- the least variable whose next value is tested
abbrev pub least_primed : List Part → Option ℕ
least_primed [] = None
least_primed (part ∷ parts) = lesser_var (primed_var part) (least_primed parts)

abbrev pub facts_of : List Part → ℕ → Facts
facts_of parts nesting = record { primed = least_primed parts; negative = list_any is_negative parts; fine = list_any is_fine parts; nesting = min 301 nesting }

abbrev pub primes_wrong_in : Purpose → Option ℕ → Bool
primes_wrong_in p None = false
primes_wrong_in p (Some var) = not (may_prime p var)

abbrev pub negative_wrong_in : Purpose → Bool → Bool
negative_wrong_in Diagram negative = false
negative_wrong_in (Table i) negative = negative
negative_wrong_in Reward negative = false

abbrev pub fine_wrong_in : Purpose → Bool → Bool
fine_wrong_in Diagram fine = false
fine_wrong_in (Table i) fine = false
fine_wrong_in Reward fine = fine
