-- What a word that stands for a number of a kind comes to is in that kind's range.
use Rattle.std.proofs.Common.{◌≡◌, ℕ, ◌*◌, ◌^◌, ◌≤◌, ◌%◌, Bool, true, false, List, Result, Ok, Err, Option, Some, None, refl, sym, ap, subst, ◌∙◌, arith, ℤ, pos, negsuc, neg_ℤ, ◌*ℤ◌, ◌≤ℤ◌}
use Rattle.std.specs.Prelude.{◌&&◌, ◌||◌, not, if◌then◌else◌, int_lt, unsigned_abs}
use Rattle.std.proofs.lemmas.Bool.{or_parts}
use Rattle.std.proofs.lemmas.Int.{ints}
use Rattle.spd_scaled.specs.declared.decimal.Decimal.{Decimal}
use Rattle.spd_scaled.specs.declared.decimal.Scale.{Scale}
use Rattle.spd_scaled.specs.declared.decimal.Scale.TheVariants as scales
use Rattle.spd_scaled.specs.DecimalReading.{decimal_of, scaled_of}
use Rattle.spd_scaled.proofs.CallerLemmas.Ring.{int_lt-false, *ℤ-one}
use Rattle.spd_scaled.proofs.CallerLemmas.Magnitude.{unsigned_abs-le}
use Rattle.spd_syntax.specs.declared.file.Quantity.{Quantity}
use Rattle.spd_syntax.specs.declared.file.Quantity.TheVariants.{Diagram, Table, Reward, Discount, Tolerance, Horizon}
use Rattle.spd_syntax.specs.declared.refusal.Refusal.{Refusal}
use Rattle.spd_syntax.specs.declared.refusal.Refusal.TheVariants.{TooLarge, Negative}
use Rattle.spd_syntax.specs.Numbers.{number_of, decimal_judged, units_judged, most_of, least_of, step_of, may_be_negative, places_of}

abbrev number : ℤ → Result ℤ Refusal → ℤ
number x (Ok y) = y
number x (Err e) = x

ok-same : (x y : ℤ) (r : Result ℤ Refusal) → r ≡ Ok x → r ≡ Ok y → x ≡ y
ok-same x y r h k = ap (number x) (sym h ∙ k)

-- a number in the range of its kind
record Judged (q : Quantity) (units : ℤ) : Type 0 where
  count : ℤ
  high : count ≤ℤ most_of q
  low : least_of q ≤ℤ count
  sign : (int_lt count (pos 0) && not (may_be_negative q)) ≡ false
  is : count *ℤ step_of q ≡ units

units-tell : (q : Quantity) (at : ℕ) (r : Result ℤ Scale) (units : ℤ) → units_judged q at r ≡ Ok units → Judged q units
units-tell q at (Err scales.TooFine) units h = absurd (cc h)
units-tell q at (Err scales.TooLarge) units h = absurd (cc h)
units-tell q at (Ok n) units h = go (int_lt (most_of q) n || int_lt n (least_of q)) (int_lt n (pos 0) && not (may_be_negative q)) refl refl h
  where
    go : (a b : Bool) → (int_lt (most_of q) n || int_lt n (least_of q)) ≡ a → (int_lt n (pos 0) && not (may_be_negative q)) ≡ b
        → (if a then Err (TooLarge at) else (if b then Err (Negative at) else Ok (n *ℤ step_of q))) ≡ Ok units → Judged q units
    go true b ea eb k = absurd (cc k)
    go false true ea eb k = absurd (cc k)
    go false false ea eb k =
        let p = or_parts (int_lt (most_of q) n) (int_lt n (least_of q)) ea in
        record { count = n; high = int_lt-false (most_of q) n p.0; low = int_lt-false n (least_of q) p.1; sign = eb; is = ok-same (n *ℤ step_of q) units (Ok (n *ℤ step_of q)) refl k }

decimal-tells : (q : Quantity) (at : ℕ) (o : Option Decimal) (units : ℤ) → decimal_judged q at o ≡ Ok units → Judged q units
decimal-tells q at None units h = absurd (cc h)
decimal-tells q at (Some d) units h = units-tell q at (scaled_of (places_of q) d) units h

number-tells : (q : Quantity) (at : ℕ) (text : List ℕ) (units : ℤ) → number_of q at text ≡ Ok units → Judged q units
unfolding number_of
number-tells q at text units h = decimal-tells q at (decimal_of text) units h

not-negative : (x : ℤ) → (int_lt x (pos 0) && true) ≡ false → pos 0 ≤ℤ x
not-negative x h = int_lt-false x (pos 0) (go (int_lt x (pos 0)) h)
  where
    go : (b : Bool) → (b && true) ≡ false → b ≡ false
    go true k = absurd (cc k)
    go false k = refl

within-abs : (n : ℕ) (x : ℤ) → neg_ℤ (pos n) ≤ℤ x → x ≤ℤ pos n → unsigned_abs x ≤ n
within-abs n x low high = unsigned_abs-le n x (record { low = low; high = high })

-- the amounts of decision diagrams, tables and rewards
pub diagram-number : (at : ℕ) (text : List ℕ) (units : ℤ) → number_of Diagram at text ≡ Ok units → unsigned_abs units ≤ 10 ^ 30
diagram-number at text units h =
    let j = number-tells Diagram at text units h in
    subst (λ x. unsigned_abs x ≤ 10 ^ 30) (sym (*ℤ-one j.count) ∙ j.is) (within-abs (10 ^ 30) j.count j.low j.high)

pub table-number : (at : ℕ) (text : List ℕ) (units : ℤ) → number_of Table at text ≡ Ok units → (unsigned_abs units ≤ 10 ^ 30) × (pos 0 ≤ℤ units)
table-number at text units h =
    let j = number-tells Table at text units h in
    let e : j.count ≡ units = sym (*ℤ-one j.count) ∙ j.is in (
      subst (λ x. unsigned_abs x ≤ 10 ^ 30) e (within-abs (10 ^ 30) j.count j.low j.high),
      subst (λ x. pos 0 ≤ℤ x) e (not-negative j.count j.sign),
    )

thousands : (x : ℤ) → unsigned_abs (x *ℤ pos 1000) ≡ unsigned_abs x * 1000
thousands (pos n) = refl
thousands (negsuc n) = omega (arith, ints)

times-rest : (n : ℕ) → (n * 1000) % 1000 ≡ 0
times-rest n = omega arith

below-thousand : (n : ℕ) → n ≤ 10 ^ 27 → n * 1000 ≤ 10 ^ 30
below-thousand n h = omega arith

pub reward-number : (at : ℕ) (text : List ℕ) (units : ℤ) → number_of Reward at text ≡ Ok units → (unsigned_abs units ≤ 10 ^ 30) × (unsigned_abs units % 1000 ≡ 0)
reward-number at text units h =
    let j = number-tells Reward at text units h in
    let e : unsigned_abs units ≡ unsigned_abs j.count * 1000 = ap unsigned_abs (sym j.is) ∙ thousands j.count in
    let b : unsigned_abs j.count ≤ 10 ^ 27 = within-abs (10 ^ 27) j.count j.low j.high in
    (subst (λ x. x ≤ 10 ^ 30) (sym e) (below-thousand (unsigned_abs j.count) b), ap (λ x. x % 1000) e ∙ times-rest (unsigned_abs j.count))

-- the settings
pub discount-number : (at : ℕ) (text : List ℕ) (units : ℤ) → number_of Discount at text ≡ Ok units → unsigned_abs units ≤ 999999
discount-number at text units h =
    let j = number-tells Discount at text units h in
    let e : j.count ≡ units = sym (*ℤ-one j.count) ∙ j.is in
    let z : pos 0 ≤ℤ j.count = not-negative j.count j.sign in
    let top : j.count ≤ℤ pos 999999 = j.high in
    subst (λ x. unsigned_abs x ≤ 999999) e (within-abs 999999 j.count (omega (arith, ints)) top)

pub tolerance-number : (at : ℕ) (text : List ℕ) (units : ℤ) → number_of Tolerance at text ≡ Ok units → (pos 0 ≤ℤ units) × (units ≤ℤ pos (10 ^ 30))
tolerance-number at text units h =
    let j = number-tells Tolerance at text units h in
    let e : j.count ≡ units = sym (*ℤ-one j.count) ∙ j.is in
    (subst (λ x. pos 0 ≤ℤ x) e (not-negative j.count j.sign), subst (λ x. x ≤ℤ pos (10 ^ 30)) e j.high)

pub horizon-number : (at : ℕ) (text : List ℕ) (units : ℤ) → number_of Horizon at text ≡ Ok units → unsigned_abs units ≤ 1000
horizon-number at text units h =
    let j = number-tells Horizon at text units h in
    let e : j.count ≡ units = sym (*ℤ-one j.count) ∙ j.is in
    let z : pos 0 ≤ℤ j.count = not-negative j.count j.sign in
    let top : j.count ≤ℤ pos 1000 = j.high in
    subst (λ x. unsigned_abs x ≤ 1000) e (within-abs 1000 j.count (omega (arith, ints)) top)
