-- Decimals as numbers of units: how large they are.
use Rattle.std.proofs.Common.{◌≡◌, ℕ, zero, suc, ◌+◌, ◌*◌, ◌/◌, ◌%◌, ◌^◌, ◌≤◌, Bool, true, false, cond, eqb, leb, List, Option, Some, None, Result, Ok, Err, ℤ, pos, negsuc, unsigned_abs, inl, refl, sym, ap, subst, ◌∙◌}
use Rattle.std.proofs.lemmas.Bool.{leb-true, le-leb}
use Rattle.spd_scaled.specs.declared.decimal.Decimal.{Decimal}
use Rattle.spd_scaled.specs.declared.decimal.Scale.{Scale}
use Rattle.spd_scaled.specs.declared.decimal.Scale.TheVariants.{TooFine, TooLarge}
use Rattle.spd_scaled.specs.Decimal.{with_sign}
use Rattle.spd_scaled.specs.DecimalReading.{decimal_of, limited, divided_by, units_from, signed_step, scaled_of}
use Rattle.spd_scaled.proofs.CallerLemmas.{decimal_of-every, units_from-AreUnits, read_back}
use Rattle.spd_scaled.proofs.CallerLemmas.Magnitude.{IsWithin-from_abs}
use Rattle.spd_model.specs.ResultText.{units}
use Rattle.spd_cert.specs.Words.{units_from as units_read, units_of}

limited_few : (k n : ℕ) → limited k ≡ Ok n → n ≤ 10 ^ 30
limited_few k n e = by (leb k (10 ^ 30)) refl e
  where
    by : (b : Bool) → leb k (10 ^ 30) ≡ b → cond b (Ok k) (Err TooLarge) ≡ Ok n → n ≤ 10 ^ 30
    by false t is = absurd cc
    by true t is = let same : k ≡ n = cc in subst (λ (i : ℕ). i ≤ 10 ^ 30) same (leb-true k (10 ^ 30) t)

divided_few : (k p n : ℕ) → divided_by k p ≡ Ok n → n ≤ 10 ^ 30
divided_few k p n e = by (eqb (k % 10 ^ p) 0) e
  where
    by : (b : Bool) → cond b (limited (k / 10 ^ p)) (Err TooFine) ≡ Ok n → n ≤ 10 ^ 30
    by false is = absurd cc
    by true is = limited_few (k / 10 ^ p) n is

units_few : (places digits : ℕ) (p : ℤ) (n : ℕ) → units_from places digits p ≡ Ok n → n ≤ 10 ^ 30
units_few places digits (pos p) n e = divided_few (digits * 10 ^ places) p n e
units_few places digits (negsuc p) n e = limited_few (digits * 10 ^ (places + suc p)) n e

signed_few : (negative : Bool) (n : ℕ) → n ≤ 10 ^ 30 → unsigned_abs (with_sign negative n) ≤ 10 ^ 30
signed_few false n h = h
signed_few true zero h = h
signed_few true (suc n) h = h

step_few : (negative : Bool) (r : Result ℕ Scale) (x : ℤ) → ((n : ℕ) → r ≡ Ok n → n ≤ 10 ^ 30) → signed_step negative r ≡ Ok x → unsigned_abs x ≤ 10 ^ 30
step_few negative (Err s) x few e = absurd cc
step_few negative (Ok n) x few e = let same : with_sign negative n ≡ x = cc in subst (λ (y : ℤ). unsigned_abs y ≤ 10 ^ 30) same (signed_few negative n (few n refl))

scaled_few : (d : Decimal) (x : ℤ) → scaled_of 9 d ≡ Ok x → unsigned_abs x ≤ 10 ^ 30
unfolding scaled_of
scaled_few d x e = step_few d.negative (units_from 9 d.digits d.places) x (units_few 9 d.digits d.places) e

-- a decimal of units is one of at most 10^30
pub units_are_few : (w : List ℕ) (x : ℤ) → units_of w ≡ Some x → unsigned_abs x ≤ 10 ^ 30
unfolding units_of
units_are_few w x e = by (decimal_of w) e
  where
    scaled : (d : Decimal) (r : Result ℤ Scale) → scaled_of 9 d ≡ r → elim r [ Ok y ↦ Some y | Err s ↦ None ] ≡ Some x → unsigned_abs x ≤ 10 ^ 30
    scaled d (Err s) is e = absurd cc
    scaled d (Ok y) is e = let same : y ≡ x = cc in scaled_few d x (is ∙ ap (λ (z : ℤ). Ok z) same)

    by : (o : Option Decimal) → units_read o ≡ Some x → unsigned_abs x ≤ 10 ^ 30
    by None e = absurd cc
    by (Some d) e = scaled d (scaled_of 9 d) refl e

-- the text of at most 10^30 units is read as that many
pub units_back : (n : ℤ) → unsigned_abs n ≤ 10 ^ 30 → units_of (units n) ≡ Some n
unfolding units_of scaled_of
units_back n few =
    let back = read_back 9 n (inl refl) (IsWithin-from_abs (10 ^ 30) n few) in
    let d = back.0 in
    let k = back.2.0 in
    let limits : limited k ≡ Ok k = ap (λ b. cond b (Ok k) (Err TooLarge)) (le-leb k (10 ^ 30) back.2.2) in
    let scaled : scaled_of 9 d ≡ Ok n = ap (signed_step d.negative) (units_from-AreUnits 9 k d.digits d.places back.2.1 ∙ limits) ∙ ap (λ (x : ℤ). Ok x) (sym back.2.3) in
    ap units_read (decimal_of-every (units n) d back.1) ∙ ap (λ (r : Result ℤ Scale). elim r [ Ok y ↦ Some y | Err s ↦ None ]) scaled
