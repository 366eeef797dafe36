-- The verdict, by what a forest has of a certificate.
use Rattle.std.proofs.Common.{◌≡◌, ℕ, ◌+◌, ◌<◌, ◌||◌, Bool, true, false, not, cond, if◌then◌else◌, List, [], ◌∷◌, All, length, map, find, Option, Some, None, unwrap_or, ℤ, int_lt, refl, sym, ◌∙◌, ap, subst, arith}
use Rattle.std.specs.Prelude.{option_map, IfSome}
use Rattle.std.specs.List.{AllZip, position_or_len}
use Rattle.std.specs.Ordering.{int_eq}
use Rattle.std.proofs.lemmas.List.{length-map}
use Rattle.spd_cons_core.specs.declared.key.Entry.{Entry}
use Rattle.spd_model.specs.declared.process.Action.{Action}
use Rattle.spd_model.specs.declared.Side.TheVariants.{Above, Below}
use Rattle.spd_model.specs.Process.{Process}
use Rattle.spd_model.specs.Reduced.{Node}
use Rattle.spd_model.specs.States.{sizes, states, IsState}
use Rattle.spd_model.specs.Backup.{high_of, best_high, highest_of}
use Rattle.spd_model.specs.Turns.{Place}
use Rattle.spd_model.proofs.CallerLemmas.Finds.{All-find}
use Rattle.spd_model.proofs.CallerLemmas.Greatest.{greatest_reached}
use Rattle.spd_model.proofs.CallerLemmas.StateOrder.{All-states, length-IsState}
use Rattle.spd_nodes.specs.declared.leaf.Leaf.{Leaf}
use Rattle.spd_nodes.specs.declared.leaf.Leaf.TheVariants.{Num}
use Rattle.spd_nodes.specs.Shown.{Shown, IsSound, StandsFor, meaning}
use Rattle.spd_nodes.specs.Trees.{leaf_eq}
use Rattle.spd_frozen.specs.Told.{number_of}
use Rattle.spd_weigh.specs.declared.way.Way.TheVariants.{Up}
use Rattle.spd_backup.specs.declared.backing.Bounds.{Bounds}
use Rattle.spd_backup.specs.Expected.{bound}
use Rattle.spd_policy.proofs.CallerLemmas.{place-found}
use Rattle.spd_residual.specs.Residual.{first_upper}
use Rattle.spd_search.specs.declared.found.Found.{Found}
use Rattle.spd_search.specs.Found.{first_found}
use Rattle.spd_search.proofs.CallerLemmas.{found-is, found-state}
use Rattle.spd_check.specs.declared.first.Failure.{Failure}
use Rattle.spd_check.specs.declared.gaps.GapDiagrams.{GapDiagrams}
use Rattle.spd_check.specs.declared.verdict.Verdict.TheVariants.{Yes, No}
use Rattle.spd_check.specs.Certificates.{fails_above, fails_below, failure_at, first_failure, policy_by, verdict_of}
use Rattle.spd_check.specs.inner.Judging.{CanJudge, action_by, first_of_both, sided}

-- the leaves that a check looks for
abbrev pub over : ℤ → Leaf → Bool
over r leaf = int_lt r (number_of leaf)

-- what is found is a state
pub found-is-state : (s : Shown) (r : ℤ) (d : Entry) (found : Option Found) → found ≡ first_found s.sizes (over r) (meaning s d) → (x : Found) → found ≡ Some x → IsState s.sizes x.state
found-is-state s r d found e x is = (found-is s.sizes (over r) (meaning s d) x (sym e ∙ is)).state

some-all : {X : Type 0} {P : X → Type 0} (o : Option X) → ((x : X) → o ≡ Some x → P x) → IfSome o P
some-all None h = tt
some-all (Some x) h = h x refl

pub found-all : (s : Shown) (r : ℤ) (d : Entry) (found : Option Found) → found ≡ first_found s.sizes (over r) (meaning s d) → IfSome found (λ x. IsState s.sizes x.state)
found-all s r d found e = some-all found (λ x is. found-is-state s r d found e x is)

-- two states that are found have one length
pub found-long : (s : Shown) (r : ℤ) (d e : Entry) (found next : Option Found) → found ≡ first_found s.sizes (over r) (meaning s d) → next ≡ first_found s.sizes (over r) (meaning s e)
    → (a b : Found) → found ≡ Some a → next ≡ Some b → length a.state ≡ length b.state
found-long s r d e found next h k a b i j =
    length-IsState s.sizes a.state (found-is-state s r d found h a i) ∙ sym (length-IsState s.sizes b.state (found-is-state s r e next k b j))

-- ---- the first upper bound that is the greatest one

module _ (s : Shown) (m : Process) (w : List ℕ → ℤ) (x : List ℕ) (i : IsState s.sizes x) where
  first-number : (g : ℤ) (bounds : List Bounds) (actions : List Action) → AllZip (StandsFor s) (map (λ (b : Bounds). b.hi) bounds) (map (λ a. bound Up m a w) actions)
      → first_upper s bounds (Num g) x ≡ position_or_len (int_eq g) (map (λ a. high_of m w a x) actions)
  first-number g [] [] h = refl
  first-number g [] (a ∷ actions) h = absurd h
  first-number g (b ∷ bounds) [] h = absurd h
  first-number g (b ∷ bounds) (a ∷ actions) h =
      let own = h.0 in
      let rest = first-number g bounds actions h.1 in
      λ n. cond (not (leaf_eq (Num g) (own.value.at x x i i n))) (1 + rest n) 0

  highest-found : (bounds : List Bounds) (high : Entry) → 0 < length m.actions → AllZip (StandsFor s) (map (λ (b : Bounds). b.hi) bounds) (map (λ a. bound Up m a w) m.actions)
      → meaning s high x x ≡ Num (best_high m w x) → first_upper s bounds (meaning s high x x) x ≡ highest_of m w x
  highest-found bounds high some h is =
      let xs : List ℤ = map (λ a. high_of m w a x) m.actions in
      ap (λ l. first_upper s bounds l x) is ∙ first-number (best_high m w x) bounds m.actions h
      ∙ place-found (best_high m w x) xs (greatest_reached xs (omega (arith, some, length-map m.actions (λ a. high_of m w a x))))

-- ---- the verdict

unmapped-none : {X Y : Type 0} (k : X → Y) (o : Option X) → None ≡ option_map k o → o ≡ None
unmapped-none k None e = refl
unmapped-none k (Some x) e = absurd (cc e)

module _ (m : Process) (w : List ℕ → ℤ) (policy : List (Node Leaf)) (r : ℤ) (s : Shown) (o : IsSound s) (bounds : List Bounds) (high : Entry) (d : GapDiagrams)
    (can : CanJudge m w (policy_by policy) s bounds high d) where
  abbrev above : List ℕ → Bool
  above x = fails_above m w r x

  abbrev below : List ℕ → Bool
  below x = fails_below m w (policy_by policy) r x

  abbrev either : List ℕ → Bool
  either x = above x || below x

  positive : All (λ k. 0 < k) s.sizes
  positive = λ k e b. (o.layout.values k e b).0

  pub above-search : (found : Option Found) → found ≡ first_found s.sizes (over r) (meaning s d.above) → option_map (λ (x : Found). x.state) found ≡ find above (states s.sizes)
  above-search found e =
      ap (option_map (λ (x : Found). x.state)) e
      ∙ sym (found-state s.sizes (over r) (meaning s d.above) above positive (λ x t p q. ap (over r) (sym (can.gaps.above.value.at x t p q))))

  pub below-search : (found : Option Found) → found ≡ first_found s.sizes (over r) (meaning s d.below) → option_map (λ (x : Found). x.state) found ≡ find below (states s.sizes)
  below-search found e =
      ap (option_map (λ (x : Found). x.state)) e
      ∙ sym (found-state s.sizes (over r) (meaning s d.below) below positive (λ x t p q. ap (over r) (sym (can.gaps.below.value.at x t p q))))

  pub judged-yes : None ≡ first_of_both s.sizes above below → Yes ≡ verdict_of (first_failure m w (policy_by policy) r)
  judged-yes e =
      let none : find either (states (sizes m)) ≡ None = unmapped-none (sided above) (find either (states (sizes m))) (subst (λ z. None ≡ first_of_both z above below) can.layout e) in
      sym (ap (λ (z : Option (List ℕ)). verdict_of (option_map (failure_at m w (policy_by policy) r) z)) none)

  -- the verdict of a state, by whether it fails above there
  abbrev told : Bool → List ℕ → Place
  told b x = if b then record { state = x; side = Above; action = highest_of m w x } else record { state = x; side = Below; action = policy_by policy x }

  abbrev on_side : Bool → List ℕ → Failure
  on_side b x = if b then record { state = x; side = Above } else record { state = x; side = Below }

  side-told : (x : List ℕ) → IsState s.sizes x → (b : Bool) → No (on_side b x).state (on_side b x).side (action_by s bounds high policy (on_side b x)) ≡ verdict_of (Some (told b x))
  side-told x i true = ap (No x Above) (highest-found s m w x i bounds high can.can.law.some_actions can.all.high (can.highest.value.at x x i i))
  side-told x i false = refl

  pub judged-no : (f : Failure) → Some f ≡ first_of_both s.sizes above below → No f.state f.side (action_by s bounds high policy f) ≡ verdict_of (first_failure m w (policy_by policy) r)
  judged-no f e = go (find either (states s.sizes)) refl e
    where
      go : (z : Option (List ℕ)) → find either (states s.sizes) ≡ z → Some f ≡ option_map (sided above) z → No f.state f.side (action_by s bounds high policy f) ≡ verdict_of (first_failure m w (policy_by policy) r)
      go None is g = absurd (cc g)
      go (Some x) is g =
          let there : IsState s.sizes x = All-find (IsState s.sizes) either (states s.sizes) x (All-states (IsState s.sizes) s.sizes (λ y i. i)) is in
          let same : f ≡ sided above x = ap (λ (z : Option Failure). unwrap_or z f) g in
          let own : find either (states (sizes m)) ≡ Some x = subst (λ z. find either (states z) ≡ Some x) can.layout is in
          ap (λ (z : Failure). No z.state z.side (action_by s bounds high policy z)) same
          ∙ side-told x there (above x)
          ∙ sym (ap (λ (z : Option (List ℕ)). verdict_of (option_map (failure_at m w (policy_by policy) r) z)) own)
