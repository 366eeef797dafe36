-- A branch of a variable is made of one kid after the other.
use Rattle.std.proofs.Common.{◌≡◌, ℕ, zero, suc, ◌+◌, ◌-◌, ◌*◌, ◌<◌, inl, inr, ◌==◌, Bool, true, false, cond, List, [], ◌∷◌, length, get_or, map, refl, sym, ◌∙◌, ap, subst, arith, Result, Ok, All}
use Rattle.std.specs.Prelude.{nat_lt}
use Rattle.std.proofs.lemmas.Bool.Decides.{Decides-eqb, nat_tests}
use Rattle.std.proofs.lemmas.List.{get_or-map, length-map}
use Rattle.std.proofs.lemmas.List.Elements.{All-get_or}
use Rattle.spd_cons_core.specs.declared.key.Entry.{Entry}
use Rattle.spd_nodes.specs.declared.leaf.Leaf.{Leaf}
use Rattle.spd_nodes.specs.declared.leaf.Leaf.TheVariants.{Act}
use Rattle.spd_nodes.specs.declared.forest.StoreFault.{StoreFault}
use Rattle.spd_nodes.specs.Levels.{slots, slot_of, IsSlot}
use Rattle.spd_nodes.specs.Trees.{IsNode, IsFrom, IsReduced}
use Rattle.spd_model.specs.States.{IsState}
use Rattle.spd_nodes.specs.States.{Function, point, test_tree, test_trees, Agree}
use Rattle.spd_nodes.specs.Shown.{Shown, IsSound, IsWhole, MakesAmong, MakesDiagram, meaning}
use Rattle.spd_nodes.proofs.CallerLemmas.{IsState-point, IsTreeFor, Within, among-agrees, among-then, diagram-agrees, makes_among-known, stands-for}
use Rattle.spd_restrict.specs.Chosen.{variable_value, function_at, chosen, chosen_from, chosen_below, branch_functions}
use Rattle.spd_restrict.specs.Replaced.{replaced_at, replaced, MayReplace}
use Rattle.spd_apply.proofs.CallerLemmas.{aligned-from}
use Rattle.spd_restrict.proofs.ReplacedLaws.{value_at-replaced, replaced-whole, whole-from}

-- the value of a point in a variable's slot is the variable's value
point-primed : (sizes s t : List ℕ) (var : ℕ) → IsState sizes s → IsState sizes t → var < length sizes → get_or (point s t) (2 * var + 0) 0 ≡ get_or t var 0
point-primed [] s t var p q h = absurd (omega arith)
point-primed (d ∷ ds) [] t var p q h = absurd p
point-primed (d ∷ ds) (x ∷ s) [] var p q h = absurd q
point-primed (d ∷ ds) (x ∷ s) (y ∷ t) zero p q h = refl
point-primed (d ∷ ds) (x ∷ s) (y ∷ t) (suc var) p q h =
    let e : 2 * suc var + 0 ≡ suc (suc (2 * var + 0)) = omega arith in
    rw e (point-primed ds s t var p.1 q.1 (omega arith))

point-plain : (sizes s t : List ℕ) (var : ℕ) → IsState sizes s → IsState sizes t → var < length sizes → get_or (point s t) (2 * var + 1) 0 ≡ get_or s var 0
point-plain [] s t var p q h = absurd (omega arith)
point-plain (d ∷ ds) [] t var p q h = absurd p
point-plain (d ∷ ds) (x ∷ s) [] var p q h = absurd q
point-plain (d ∷ ds) (x ∷ s) (y ∷ t) zero p q h = refl
point-plain (d ∷ ds) (x ∷ s) (y ∷ t) (suc var) p q h =
    let e : 2 * suc var + 1 ≡ suc (suc (2 * var + 1)) = omega arith in
    rw e (point-plain ds s t var p.1 q.1 (omega arith))

pub point-value : (sizes s t : List ℕ) (var : ℕ) (primed : Bool) → IsState sizes s → IsState sizes t → var < length sizes → get_or (point s t) (slot_of var primed) 0 ≡ variable_value var primed s t
point-value sizes s t var true p q h = point-primed sizes s t var p q h
point-value sizes s t var false p q h = point-plain sizes s t var p q h

-- a state's value of a variable is below the variable's number of values
in-state : (sizes s : List ℕ) (var : ℕ) → IsState sizes s → var < length sizes → get_or s var 0 < get_or sizes var 0
in-state [] s var p h = absurd (omega arith)
in-state (d ∷ ds) [] var p h = absurd p
in-state (d ∷ ds) (x ∷ s) zero p h = p.0
in-state (d ∷ ds) (x ∷ s) (suc var) p h = in-state ds s var p.1 (omega arith)

pub value-in : (sizes s t : List ℕ) (var : ℕ) (primed : Bool) → IsState sizes s → IsState sizes t → var < length sizes → variable_value var primed s t < get_or sizes var 0
value-in sizes s t var true p q h = in-state sizes t var q h
value-in sizes s t var false p q h = in-state sizes s var p h

-- what one diagram in another one's place is of whole entries
module _ (first end value var : ℕ) (primed : Bool) (s : Shown) (o : IsSound s) (f g : Entry) (kf : s.knows f ≡ true) (kg : s.knows g ≡ true) (wf : IsWhole s f) (wg : IsWhole s g)
    (h : var < length s.sizes) (is : IsSlot (slots s.sizes) (slot_of var primed) first end) (v : first + value < end) where
  abbrev ds : List ℕ
  ds = slots s.sizes

  pub may-replace : MayReplace first value s.sizes (s.tree f) (s.tree g)
  may-replace = record {
    slot = slot_of var primed;
    end = end;
    is_slot = is;
    value_in = v;
    aligned = aligned-from ds 0 (s.tree f) (s.tree g) (o.reduced f kf) (o.reduced g kg) wf wg;
    left = whole-from ds first 0 (s.tree f) wf;
    right = whole-from ds first 0 (s.tree g) wg;
  }

  -- what is made is the tree of one function at the value and of the other one elsewhere
  pub replace-tree : IsTreeFor s (replaced first value (s.tree f) (s.tree g)) (replaced_at var primed value (meaning s f) (meaning s g))
  replace-tree =
      let w : IsReduced ds 0 (replaced first value (s.tree f) (s.tree g)) × IsFrom ds 0 0 (replaced first value (s.tree f) (s.tree g)) =
      replaced-whole ds (slot_of var primed) first end is value v (s.tree f) (s.tree g) (o.reduced f kf) (o.reduced g kg) wf wg in
      record {
        reduced = w.0;
        whole = w.1;
        value = record {
          at = λ x y i j.
              value_at-replaced ds (slot_of var primed) first end is value (point x y) (IsState-point s.sizes x y i j) v (s.tree f) (s.tree g)
              ∙ ap (λ w. cond (w == value) (meaning s f x y) (meaning s g x y)) (point-value s.sizes x y var primed i j h);
        };
      }

-- a function of a branch is among them
pub chosen-within : (sizes : List ℕ) (var : ℕ) (primed : Bool) (fs : List Function) (value n : ℕ) → value < n → Within (test_tree sizes (chosen_from value var primed fs) ∷ []) (test_trees sizes (chosen_below n var primed fs))
chosen-within sizes var primed fs value zero h = absurd (omega arith)
chosen-within sizes var primed fs value (suc n) h = go (value == n) refl (chosen-within sizes var primed fs value n)
  where
    go : (b : Bool) → (value == n) ≡ b → (value < n → Within (test_tree sizes (chosen_from value var primed fs) ∷ []) (test_trees sizes (chosen_below n var primed fs)))
        → Within (test_tree sizes (chosen_from value var primed fs) ∷ []) (test_trees sizes (chosen_below (suc n) var primed fs))
    go true e i =
        let q : value ≡ n = (Decides-eqb value n).0 e in
        record { nodes = λ x m. elim m [ inl a ↦ inl (subst (λ v. IsNode x (test_tree sizes (chosen_from v var primed fs))) q a) | inr a ↦ absurd a ] }
    go false e i = record { nodes = λ x m. inr ((i (grind (arith, nat_tests))).nodes x m) }

-- one value after the other
next-pick : (w v : ℕ) (last : Leaf) (f : ℕ → Leaf) → cond (w == v) (f v) (cond (nat_lt w (v + 1)) last (f w)) ≡ cond (nat_lt w v) last (f w)
next-pick w v last f = go (w == v) refl
  where
    go : (b : Bool) → (w == v) ≡ b → cond b (f v) (cond (nat_lt w (v + 1)) last (f w)) ≡ cond (nat_lt w v) last (f w)
    go true e =
        let q : v ≡ w = sym ((Decides-eqb w v).0 e) in
        let a : nat_lt w v ≡ false = grind (arith, nat_tests) in
        rw a (ap f q)
    go false e = on (nat_lt w v) refl
      where
        on : (b : Bool) → nat_lt w v ≡ b → cond (nat_lt w (v + 1)) last (f w) ≡ cond b last (f w)
        on true q = let a : nat_lt w (v + 1) ≡ true = grind (arith, nat_tests) in rw a refl
        on false q = let a : nat_lt w (v + 1) ≡ false = grind (arith, nat_tests) in rw a refl

module _ (s : Shown) (o : IsSound s) (var : ℕ) (primed : Bool) (kids : List Entry) (known : All (λ k. s.knows k ≡ true) kids) (whole : All (λ k. IsWhole s k) kids)
    (h : var < length s.sizes) (count : length kids ≡ get_or s.sizes var 0) (d : Entry) where
  abbrev fs : List Function
  fs = map (meaning s) kids

  abbrev kid : ℕ → Entry
  kid i = get_or kids i d

  kid-function : (i : ℕ) → i < length kids → function_at fs i ≡ meaning s (kid i)
  kid-function i b = get_or-map (meaning s) kids i d (λ x y. Act 0) b

  kid-known : (i : ℕ) → i < length kids → s.knows (kid i) ≡ true
  kid-known i b = All-get_or (λ k. s.knows k ≡ true) kids i d b known

  kid-whole : (i : ℕ) → i < length kids → IsWhole s (kid i)
  kid-whole i b = All-get_or (λ k. IsWhole s k) kids i d b whole

  length-fs : length fs ≡ length kids
  length-fs = length-map kids (meaning s)

  -- the last kid is the branch from the last value on
  last-agree : (v : ℕ) → v + 1 ≡ length kids → Agree s.sizes (meaning s (kid v)) (chosen_from v var primed fs)
  last-agree v e = record { at = λ x y i j. go x y (value-in s.sizes x y var primed i j h) (nat_lt (variable_value var primed x y) v) refl }
    where
      last : length fs - 1 ≡ v
      last = omega (arith, length-fs)

      go : (x y : List ℕ) → variable_value var primed x y < get_or s.sizes var 0 → (b : Bool) → nat_lt (variable_value var primed x y) v ≡ b
          → meaning s (kid v) x y ≡ cond b (function_at fs (length fs - 1) x y) (function_at fs (variable_value var primed x y) x y)
      go x y i true q = ap (λ (f : Function). f x y) (sym (kid-function v (omega arith)) ∙ ap (function_at fs) (sym last))
      go x y i false q =
          let w : v ≡ variable_value var primed x y = grind (arith, nat_tests) in
          ap (λ (f : Function). f x y) (sym (kid-function v (omega arith)) ∙ ap (function_at fs) w)

  pub last-made : (v : ℕ) → v + 1 ≡ length kids → MakesAmong s s (chosen_from v var primed fs) (branch_functions var primed fs) (Ok (kid v))
  last-made v e = makes_among-known s o (kid v) (chosen_from v var primed fs) (branch_functions var primed fs) (stands-for s o (kid v) (chosen_from v var primed fs) (kid-known v (omega arith)) (kid-whole v (omega arith)) (last-agree v e))

  -- from the first value on it is the branch
  zero-agree : Agree s.sizes (chosen_from 0 var primed fs) (chosen var primed fs)
  zero-agree = record {
    at = λ x y i j.
        let a : nat_lt (variable_value var primed x y) 0 ≡ false = grind (arith, nat_tests) in
        rw a refl;
  }

  pub branch-made : (t : Shown) (r : Result Entry StoreFault) → MakesAmong s t (chosen_from 0 var primed fs) (branch_functions var primed fs) r → MakesAmong s t (chosen var primed fs) (branch_functions var primed fs) r
  branch-made t r m = among-agrees o zero-agree m

  -- a kid in the place of a branch from the next value on
  module _ (v : ℕ) (hv : v + 1 < length kids) (t : Shown) (rest : Entry) (made : MakesAmong s t (chosen_from (v + 1) var primed fs) (branch_functions var primed fs) (Ok rest)) where
    kid-tree : t.tree (kid v) ≡ s.tree (kid v)
    kid-tree = made.grows.trees (kid v) (kid-known v (omega arith))

    kid-meaning : meaning t (kid v) ≡ function_at fs v
    kid-meaning = rw (made.grows.sizes, kid-tree) (sym (kid-function v (omega arith)))

    step-agree : Agree t.sizes (replaced_at var primed v (meaning t (kid v)) (meaning t rest)) (chosen_from v var primed fs)
    step-agree = record {
      at = λ x y i j.
          ap (λ (f : Function). cond (variable_value var primed x y == v) (f x y) (meaning t rest x y)) kid-meaning
          ∙ ap (λ (a : Leaf). cond (variable_value var primed x y == v) (function_at fs v x y) a) (made.ok.value.at x y i j)
          ∙ next-pick (variable_value var primed x y) v (function_at fs (length fs - 1) x y) (λ n. function_at fs n x y);
    }

    pub step-made : (w : Shown) (r : Result Entry StoreFault) → MakesDiagram t w (replaced_at var primed v (meaning t (kid v)) (meaning t rest)) r → MakesAmong s w (chosen_from v var primed fs) (branch_functions var primed fs) r
    step-made w r m = among-then (chosen-within s.sizes var primed fs v (length fs) (omega (arith, length-fs))) made (diagram-agrees made.sound step-agree m)
