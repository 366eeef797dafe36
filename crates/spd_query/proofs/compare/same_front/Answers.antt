use Rattle.std.proofs.Common.{◌≡◌, ◌+◌, ◌<◌, ◌==◌, ℕ, Bool, ◌&&◌, List, length, take, get_or, Decides, sym, ap, ◌∙◌, subst, arith}
use Rattle.std.proofs.lemmas.Bool.{and_parts, and_from}
use Rattle.std.proofs.lemmas.Bool.Decides.{Decides-eqb}
use Rattle.std.proofs.lemmas.List.{take-take, take_more_same, get_or-take}
use Rattle.spd_query.proofs.compare.same_front.Goals as goal

-- the same first k bytes, and one more
one-more : (a b : List ℕ) (k : ℕ) (s : Bool) → k < length a → k < length b → Decides s (take k a ≡ take k b)
    → Decides (s && (get_or a k 0 == get_or b k 0)) (take (k + 1) a ≡ take (k + 1) b)
one-more a b k s in_a in_b told =
    let next : Bool = get_or a k 0 == get_or b k 0 in
    let within : k < k + 1 = omega arith in (
      λ e.
          let parts = and_parts s next e in
          take_more_same a b k 0 in_a in_b (told.0 parts.0) ((Decides-eqb (get_or a k 0) (get_or b k 0)).0 parts.1),
      λ same.
          and_from s next (told.1 (sym (take-take k (k + 1) a (omega arith)) ∙ ap (take k) same ∙ take-take k (k + 1) b (omega arith)))
          ((Decides-eqb (get_or a k 0) (get_or b k 0)).1 (sym (get_or-take (k + 1) a k 0 within) ∙ ap (λ (l : List ℕ). get_or l k 0) same ∙ get_or-take (k + 1) b k 0 within)),
    )

pub loop-k-preserved : goal.loop-k-preserved
loop-k-preserved g c =
    one-more c.args.a.now c.args.b.now c.loop-k.k c.loop-k.same (omega (arith, c.requires.in_a, c.loop-k-test.true)) (omega (arith, c.requires.in_b, c.loop-k-test.true)) c.loop-k.invariant

pub returns : goal.returns
returns g c =
    subst (λ (n : ℕ). Decides c.loop-k.same (take n c.args.a.now ≡ take n c.args.b.now)) (omega (arith, c.loop-k-test.false, c.loop-k.auto.k-end)) c.loop-k.invariant
