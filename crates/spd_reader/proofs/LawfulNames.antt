-- Words that passed as names and as values are such names.
use Rattle.std.proofs.Common.{◌≡◌, ℕ, Bool, true, false, List, length, Result, Ok, Err, IsTrue, refl, arith}
use Rattle.std.specs.Prelude.{not, nat_lt, nat_le, if◌then◌else◌}
use Rattle.std.proofs.lemmas.Bool.{and_from, and_parts}
use Rattle.std.proofs.lemmas.Bool.Decides.{nat_tests}
use Rattle.spd_model.specs.Names.{has_name_form, is_name, has_value_form, is_value_name}
use Rattle.spd_syntax.specs.declared.refusal.Refusal.{Refusal}
use Rattle.spd_syntax.specs.declared.refusal.Refusal.TheVariants.{Expected, TooMany}
use Rattle.spd_syntax.specs.declared.refusal.Want.{Want}
use Rattle.spd_syntax.specs.declared.refusal.What.TheVariants.{NameBytes}
use Rattle.spd_syntax.specs.Words.{begins, passes, name_passes, value_passes, is_name_form, is_reserved}

-- what passed has at most 64 bytes and the form
record Passed (form : List ℕ → Bool) (text : List ℕ) : Type 0 where
  short : nat_lt 64 (length text) ≡ false
  formed : form text ≡ true

-- what a word in a name's place comes to, by what was found of it
abbrev judged : Want → ℕ → Bool → Bool → Bool → Result (Unit {0}) Refusal
judged want at a b c = if a then Err (Expected at want) else (if b then Err (TooMany at NameBytes) else (if c then Ok tt else Err (Expected at want)))

judged-tells : (want : Want) (at : ℕ) (a b c : Bool) → judged want at a b c ≡ Ok tt → (b ≡ false) × (c ≡ true)
judged-tells want at true b c h = absurd (cc h)
judged-tells want at false true c h = absurd (cc h)
judged-tells want at false false true h = (refl, refl)
judged-tells want at false false false h = absurd (cc h)

passes-tells : (want : Want) (first : ℕ → Bool) (form : List ℕ → Bool) (at : ℕ) (text : List ℕ) → passes want first form at text ≡ Ok tt → Passed form text
passes-tells want first form at text h =
    let q = judged-tells want at (not (begins first text)) (nat_lt 64 (length text)) (form text) h in
    record { short = q.0; formed = q.1 }

short-enough : (n : ℕ) → nat_lt 64 n ≡ false → nat_le n 64 ≡ true
short-enough n h = grind (arith, nat_tests)

pub name-passed : (want : Want) (at : ℕ) (text : List ℕ) → name_passes want at text ≡ Ok tt → IsTrue (is_name text)
unfolding name_passes
name-passed want at text h =
    let p = passes-tells want _ is_name_form at text h in
    let f = and_parts (has_name_form text) (not (is_reserved text)) p.formed in
    and_from (has_name_form text) _ f.0 (and_from (nat_le (length text) 64) _ (short-enough (length text) p.short) f.1)

pub value-passed : (want : Want) (at : ℕ) (text : List ℕ) → value_passes want at text ≡ Ok tt → IsTrue (is_value_name text)
unfolding value_passes
value-passed want at text h =
    let p = passes-tells want _ has_value_form at text h in
    and_from (has_value_form text) _ p.formed (short-enough (length text) p.short)
