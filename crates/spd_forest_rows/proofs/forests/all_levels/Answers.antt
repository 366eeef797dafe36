use Rattle.std.proofs.Common.{◌≡◌, ℕ, ◌+◌, ◌-◌, ◌<◌, ◌≤◌, ◌≢◌, ◌==◌, ◌⊎◌, inl, inr, Bool, true, false, cond, List, [], ◌∷◌, refl, sym, ◌∙◌, subst, arith}
use Rattle.std.specs.Prelude.{pos, nat_lt}
use Rattle.std.proofs.lemmas.Bool.Decides.{nat_tests}
use Rattle.spd_cons_core.specs.declared.key.Entry.{Entry}
use Rattle.spd_nodes.specs.declared.leaf.Leaf.{Leaf}
use Rattle.spd_nodes.specs.declared.leaf.Leaf.TheVariants as L
use Rattle.spd_nodes.specs.Levels.{levels_of, slots, after, is_first}
use Rattle.spd_nodes.specs.Trees.{Tree, Ends, Tests, IsAt, IsFrom, CanTest, join}
use Rattle.spd_nodes.specs.Shown.{Shown, KnowsAs}
use Rattle.spd_nodes.proofs.CallerLemmas.{join-differ}
use Rattle.spd_forest_rows.proofs.forests.all_levels.Goals as goal

first-zero : (ds : List ℕ) → is_first ds 0 ≡ true
first-zero [] = refl
first-zero (d ∷ ds) = go (nat_lt 0 (d - 1)) (first-zero ds)
  where
    go : (b : Bool) → is_first ds 0 ≡ true → cond b (0 == 0) (is_first ds (0 - (d - 1))) ≡ true
    go true h = refl
    go false h = let e : 0 - (d - 1) ≡ 0 = omega arith in rw e h

-- the level after the last test of a slot is the first test of a slot
first-after : (ds : List ℕ) (l : ℕ) → l < levels_of ds → after ds l ≤ l + 1 → is_first ds (l + 1) ≡ true
first-after [] l h a = absurd (omega arith)
first-after (d ∷ ds) l h a = go (nat_lt l (d - 1)) refl (first-after ds)
  where
    go : (b : Bool) → nat_lt l (d - 1) ≡ b → ((k : ℕ) → k < levels_of ds → after ds k ≤ k + 1 → is_first ds (k + 1) ≡ true) → cond (nat_lt (l + 1) (d - 1)) (l + 1 == 0) (is_first ds ((l + 1) - (d - 1))) ≡ true
    go true e more =
        let q : d - 1 ≤ l + 1 = rw e at a in
        let f : nat_lt (l + 1) (d - 1) ≡ false = grind (arith, nat_tests) in
        let p : l < d - 1 = grind (arith, nat_tests) in
        let z : (l + 1) - (d - 1) ≡ 0 = omega arith in
        rw (f, z) (first-zero ds)
    go false e more =
        let q : (d - 1) + after ds (l - (d - 1)) ≤ l + 1 = rw e at a in
        let p : d - 1 ≤ l = grind (arith, nat_tests) in
        let f : nat_lt (l + 1) (d - 1) ≡ false = grind (arith, nat_tests) in
        let z : (l + 1) - (d - 1) ≡ (l - (d - 1)) + 1 = omega arith in
        rw (f, z) (more (l - (d - 1)) (omega arith) (omega arith))

-- the rest of a chain is the leaf 0 after the last level, or tests the next one
abbrev IsRest : List ℕ → ℕ → Tree → Type 0
IsRest ds l t = ((t ≡ Ends (L.Num (pos 0))) × (l ≡ levels_of ds)) ⊎ IsAt l t

rest-fits : (ds : List ℕ) (l : ℕ) (a : Leaf) (t : Tree) → l < levels_of ds → IsRest ds (l + 1) t → CanTest ds l (Ends a) t
rest-fits ds l a t h (inl e) = record { yes_fits = tt; no_fits = inl (subst (λ u. IsFrom ds 0 (after ds l) u) (sym e.0) tt) }
rest-fits ds l a (Ends b) h (inr e) = absurd e
rest-fits ds l a (Tests k y n) h (inr e) = go (two (l + 1) (after ds l))
  where
    two : (m n : ℕ) → (m < n) ⊎ (n ≤ m)
    two m n = grind arith

    go : (l + 1 < after ds l) ⊎ (after ds l ≤ l + 1) → CanTest ds l (Ends a) (Tests k y n)
    go (inl q) = record { yes_fits = tt; no_fits = inr (e, q) }
    go (inr q) = let z : k - 0 ≡ l + 1 = omega (arith, e) in record { yes_fits = tt; no_fits = inl (omega (arith, e), rw z (first-after ds l h q)) }

rest-differs : (ds : List ℕ) (l : ℕ) (t : Tree) → IsRest ds l t → Ends (L.Num (pos 1)) ≢ t
rest-differs ds l t (inl e) f = let g : Ends (L.Num (pos 1)) ≡ Ends (L.Num (pos 0)) = f ∙ e.0 in absurd (cc g)
rest-differs ds l (Ends b) (inr e) f = absurd e
rest-differs ds l (Tests k y n) (inr e) f = absurd (cc f)

rest-at : (s : Shown) (r : Entry) (ds : List ℕ) (l : ℕ) (t : Tree) → KnowsAs s r (join l (Ends (L.Num (pos 1))) t) → IsRest ds (l + 1) t → IsAt l (s.tree r)
rest-at s r ds l t k h = subst (λ u. IsAt l u) (sym (k.tree ∙ join-differ l (Ends (L.Num (pos 1))) t (rest-differs ds (l + 1) t h))) refl

rest-next : (ds : List ℕ) (levels done : ℕ) (t : Tree) → levels ≡ levels_of ds → done < levels
    → ((t ≡ Ends (L.Num (pos 0))) × (levels - done ≡ levels)) ⊎ IsAt (levels - done) t → IsRest ds ((levels - 1 - done) + 1) t
rest-next ds levels done t e h (inl p) = inl (p.0, omega (arith, p.1))
rest-next ds levels done t e h (inr p) = let l : levels - done ≡ (levels - 1 - done) + 1 = omega arith in inr (subst (λ n. IsAt n t) l p)

pub test-requires-clause-level : goal.test-requires-clause-level
test-requires-clause-level g c = omega (arith, c.loop-done.invariant.levels)

pub test-requires-clause-yes : goal.test-requires-clause-yes
test-requires-clause-yes g c = c.loop-done.invariant.one.knows

pub test-requires-clause-no : goal.test-requires-clause-no
test-requires-clause-no g c = c.loop-done.invariant.knows

pub test-requires-clause-fits : goal.test-requires-clause-fits
test-requires-clause-fits g c =
    let i = c.loop-done.invariant in
    let s = g.F.Forest.shows c.loop-done.forest in
    let within : c.args.levels - 1 - c.loop-done.done < levels_of (slots s.sizes) = omega (arith, i.levels) in
    rw i.one.tree (rest-fits (slots s.sizes) (c.args.levels - 1 - c.loop-done.done) (L.Num (pos 1)) (s.tree c.loop-done.rest) within
    (rest-next (slots s.sizes) c.args.levels c.loop-done.done (s.tree c.loop-done.rest) i.levels c.loop-done-test.true i.rest))

pub loop-done-preserved : goal.loop-done-preserved
loop-done-preserved g c =
    let i = c.loop-done.invariant in
    let s = g.F.Forest.shows c.loop-done.forest in
    let level : c.args.levels - 1 - c.loop-done.done ≡ c.args.levels - (c.loop-done.done + 1) = omega arith in
    let next = rest-next (slots s.sizes) c.args.levels c.loop-done.done (s.tree c.loop-done.rest) i.levels c.loop-done-test.true i.rest in
    record {
      sound = c.test.ensures.sound;
      levels = rw c.test.ensures.grows.sizes i.levels;
      one = record { knows = c.test.ensures.grows.knows c.in_ok-one.one i.one.knows; tree = c.test.ensures.grows.trees c.in_ok-one.one i.one.knows ∙ i.one.tree };
      knows = c.in_ok-rest-2.ensures.ok.knows;
      rest = inr (subst (λ n. IsAt n ((g.F.Forest.shows c.test.new.self).tree c.in_ok-rest-2.rest)) level
          (rest-at (g.F.Forest.shows c.test.new.self) c.in_ok-rest-2.rest (slots s.sizes) (c.args.levels - 1 - c.loop-done.done) (s.tree c.loop-done.rest) (rw i.one.tree at c.in_ok-rest-2.ensures.ok) next));
    }
