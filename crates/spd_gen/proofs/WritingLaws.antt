-- Texts that are written one after another.
use Rattle.std.proofs.Common.{◌≡◌, ℕ, List, [], ◌++◌, Ok, Err, Result, refl, ◌∙◌, subst, sym, arith}
use Rattle.std.specs.Prelude.{IsErr}
use Rattle.spd_edge.proofs.CallerLemmas.{Took-trans, Took-nothing, TookFront-more, TookFront-longer}
use Rattle.spd_edge.specs.Told.{TookFront}
use Rattle.spd_gen.specs.inner.Pieces.{Shown, Writes}

-- nothing was written yet
pub writes-nothing : {T E : Type 0} (a : Shown) (x : T) → Writes {T = T} {E = E} a [] (Ok x) a
writes-nothing a x = record { all = Took-nothing a.taken; ok = refl; front = tt; failed = tt; never_falls = omega arith; named = refl }

-- a text behind another
pub writes-then : {S T E : Type 0} (a b c : Shown) (xs ys : List ℕ) (x : S) (r : Result T E) → Writes {T = S} {E = E} a xs (Ok x) b → Writes b ys r c → Writes a (xs ++ ys) r c
writes-then a b c xs ys x (Ok y) h k = record {
  all = Took-trans a.taken b.taken c.taken xs ys h.all k.all;
  ok = k.ok ∙ h.ok;
  front = tt;
  failed = tt;
  never_falls = omega (arith, h.never_falls, k.never_falls);
  named = k.named ∙ h.named;
}
writes-then a b c xs ys x (Err e) h k = record {
  all = tt;
  ok = tt;
  front = TookFront-more a.taken b.taken c.taken xs ys h.all k.front;
  failed = omega (arith, h.never_falls, k.failed);
  never_falls = omega (arith, h.never_falls, k.never_falls);
  named = k.named ∙ h.named;
}

-- the same text
pub writes-as : {T E : Type 0} (a b : Shown) (xs ys : List ℕ) (r : Result T E) → xs ≡ ys → Writes a xs r b → Writes a ys r b
writes-as a b xs ys r e h = subst (λ (l : List ℕ). Writes a l r b) e h

-- what is returned where a text failed, with more behind it
pub writes-exit : {S T E : Type 0} (a b : Shown) (xs whole more : List ℕ) (e : E) (r : Result T E) → IsErr r → whole ≡ xs ++ more → Writes {T = S} a xs (Err e) b → Writes a whole r b
writes-exit a b xs whole more e (Ok x) h same k = cc
writes-exit a b xs whole more e (Err f) h same k = record {
  all = tt;
  ok = tt;
  front = subst (λ (l : List ℕ). TookFront a.taken l b.taken) (sym same) (TookFront-longer a.taken b.taken xs more k.front);
  failed = k.failed;
  never_falls = k.never_falls;
  named = k.named;
}
