-- Tables go on to hold what they hold while the forest grows.
use Rattle.std.proofs.Common.{◌≡◌, ℕ, ◌<◌, List, [], length, map, get_or, set, sym, ◌∙◌, subst, arith, inl, inr, Some, None, Ok, true, All}
use Rattle.std.specs.Prelude.{Option, IfSome, IsSomeAnd, Contains}
use Rattle.std.proofs.lemmas.Bool.{cases_eq}
use Rattle.std.proofs.lemmas.List.{length-set, get_or-set_same, get_or-set_other}
use Rattle.spd_cons_core.specs.declared.key.Entry.{Entry}
use Rattle.spd_memo.specs.Kept.{KeptAnswers}
use Rattle.spd_nodes.specs.Shown.{Shown, Grows, StandsFor, MakesDiagram, meaning}
use Rattle.spd_nodes.specs.States.{Function}
use Rattle.spd_apply.proofs.CallerLemmas.{answers-grow}
use Rattle.spd_gather.specs.Lists.{AreKnown}
use Rattle.spd_gather.proofs.CallerLemmas.{known-stay}
use Rattle.spd_restrict.specs.Primed.{primed}
use Rattle.spd_weigh.specs.declared.way.Way.{Way}
use Rattle.spd_weigh.specs.Weighing.{summed_out}
use Rattle.spd_weigh.proofs.CallerLemmas.{discounts-grow, sums-grow, sums-none}
use Rattle.spd_build.specs.Building.{HoldAdds}
use Rattle.spd_backup.specs.declared.tables.Tables.{Tables}
use Rattle.spd_backup.specs.declared.tables.WayTables.{WayTables}
use Rattle.spd_backup.specs.declared.tables.LastSum.{LastSum}
use Rattle.spd_backup.specs.declared.tables.SumTables.{SumTables}
use Rattle.spd_backup.specs.Keeping.{IsSumOf, IsSummed, HoldVariable, HoldEachSum, HoldWay, HoldAll, IsPrimed}
use Rattle.spd_nodes.proofs.CallerLemmas.{stands-grows, meaning-grows, meanings-grow}

-- a forest that grew shows the same sum of what it knew
sum-grows : (way : Way) (var : ℕ) (s t : Shown) (of : Entry) (ws : List Entry) (r : Entry) → Grows s t → s.knows of ≡ true → AreKnown s ws
    → StandsFor t r (summed_out way var (map (meaning s) ws) (meaning s of)) → StandsFor t r (summed_out way var (map (meaning t) ws) (meaning t of))
sum-grows way var s t of ws r g k ks h =
    let a = meaning-grows s t of g k in
    let b = meanings-grow s t ws g ks in
    subst (λ (p : List Function × Function). StandsFor t r (summed_out way var p.0 p.1)) (sym (λ i. (b i, a i))) h

pub summed-grows : (way : Way) (var : ℕ) (s t : Shown) (made : LastSum) → Grows s t → IsSummed way var s made → IsSummed way var t made
summed-grows way var s t made g h = record {
  known = g.knows made.of h.known;
  weights_known = known-stay s t made.weights.items g h.weights_known;
  stands = sum-grows way var s t made.of made.weights.items made.sum g h.known h.weights_known (stands-grows g h.stands);
}

pub last-sum-grows : (way : Way) (var : ℕ) (s t : Shown) (last : Option LastSum) → Grows s t → IfSome last (IsSummed way var s) → IfSome last (IsSummed way var t)
last-sum-grows way var s t None g h = tt
last-sum-grows way var s t (Some made) g h = summed-grows way var s t made g h

pub variable-grows : (way : Way) (var : ℕ) (s t : Shown) (tables : SumTables) → Grows s t → HoldVariable way var s tables → HoldVariable way var t tables
variable-grows way var s t tables g h = record { last = last-sum-grows way var s t tables.last g h.last; rows = sums-grow way var s t tables.rows g h.rows }

pub each-grow : (way : Way) (n : ℕ) (s t : Shown) (tables : List SumTables) → Grows s t → HoldEachSum way n s tables → HoldEachSum way n t tables
each-grow way n s t tables g h = record { count = h.count; each = λ var d b. variable-grows way var s t (get_or tables var d) g (h.each var d b) }

-- ---- a sum that is kept

-- what was summed out last, where it is this
pub last-stands : (way : Way) (var : ℕ) (s : Shown) (of : Entry) (ws : List Entry) (r : Entry) (last : Option LastSum) → IfSome last (IsSummed way var s) → IsSomeAnd last (IsSumOf of ws r)
    → StandsFor s r (summed_out way var (map (meaning s) ws) (meaning s of))
last-stands way var s of ws r None h k = absurd k
last-stands way var s of ws r (Some made) h k =
    let a = k.sum_is in
    let b = k.weights_are in
    let c = k.of_is in
    subst (λ (p : Entry × List Entry × Entry). StandsFor s p.0 (summed_out way var (map (meaning s) p.1) (meaning s p.2))) (λ i. (a i, b i, c i)) h.stands

-- what was summed out now
pub sum-kept : (way : Way) (var : ℕ) (s t : Shown) (of : Entry) (ws : List Entry) (r : Entry) (last : Option LastSum) → s.knows of ≡ true → AreKnown s ws
    → MakesDiagram s t (summed_out way var (map (meaning s) ws) (meaning s of)) (Ok r) → IfSome last (IsSumOf of ws r) → IfSome last (IsSummed way var t)
sum-kept way var s t of ws r None k ks h is = tt
sum-kept way var s t of ws r (Some made) k ks h is =
    let a = sym is.of_is in
    let b = sym is.weights_are in
    let c = sym is.sum_is in
    record {
      known = subst (λ (q : Entry). t.knows q ≡ true) a (h.grows.knows of k);
      weights_known = subst (AreKnown t) b (known-stay s t ws h.grows ks);
      stands = subst (λ (p : Entry × List Entry × Entry). StandsFor t p.0 (summed_out way var (map (meaning t) p.1) (meaning t p.2))) (λ i. (c i, b i, a i)) (sum-grows way var s t of ws r h.grows k ks h.ok);
    }

-- ---- all tables

pub way-grows : (way : Way) (n discount : ℕ) (s t : Shown) (tables : WayTables) → Grows s t → HoldWay way n discount s tables → HoldWay way n discount t tables
way-grows way n discount s t tables g h = record { sums = each-grow way n s t tables.sums.items g h.sums; discounts = discounts-grow way discount s t tables.discounts g h.discounts }

pub primed-grows : (s t : Shown) (f r : Entry) → Grows s t → IsPrimed s f r → IsPrimed t f r
primed-grows s t f r g h = record { known = g.knows f h.known; stands = subst (λ (q : Function). StandsFor t r (primed q)) (sym (meaning-grows s t f g h.known)) (stands-grows g h.stands) }

pub last-grows : (s t : Shown) (last : Option (Entry × Entry)) → Grows s t → IfSome last (λ p. IsPrimed s p.0 p.1) → IfSome last (λ p. IsPrimed t p.0 p.1)
last-grows s t None g h = tt
last-grows s t (Some p) g h = primed-grows s t p.0 p.1 g h

-- a diagram that was primed
pub primed-made : (s t : Shown) (f r : Entry) → s.knows f ≡ true → MakesDiagram s t (primed (meaning s f)) (Ok r) → IsPrimed t f r
primed-made s t f r k h = record { known = h.grows.knows f k; stands = subst (λ (q : Function). StandsFor t r (primed q)) (sym (meaning-grows s t f h.grows k)) h.ok }

pub all-grow : (n discount : ℕ) (s t : Shown) (tables : Tables) → Grows s t → HoldAll n discount s tables → HoldAll n discount t tables
all-grow n discount s t tables g h = record {
  next = last-grows s t tables.next g h.next;
  down = way-grows _ n discount s t tables.down g h.down;
  up = way-grows _ n discount s t tables.up g h.up;
  adds = answers-grow h.adds g;
}

-- the tables of one variable were used, while the forest grew
pub each-set : (way : Way) (n : ℕ) (s t : Shown) (tables : List SumTables) (var : ℕ) (own : SumTables) → Grows s t → HoldEachSum way n s tables → var < n → HoldVariable way var t own → HoldEachSum way n t (set tables var own)
each-set way n s t tables var own g h b k = record {
  count = length-set tables var own ∙ h.count;
  each = holds;
}
  where
    holds : (i : ℕ) (d : SumTables) → i < n → HoldVariable way i t (get_or (set tables var own) i d)
    holds i d c = elim (cases_eq i var) [
      | inl e ↦ subst (λ j. HoldVariable way j t (get_or (set tables var own) j d)) (sym e) (rw (get_or-set_same tables var own d (omega (arith, b, h.count))) k)
      | inr e ↦ rw (get_or-set_other tables var i own d e) (variable-grows way i s t (get_or tables i d) g (h.each i d c))
    ]

-- tables with no answer
abbrev pub AreEmpty : SumTables → Type 0
AreEmpty t = (t.last ≡ None) × (t.rows ≡ [])

pub each-none : (way : Way) (n : ℕ) (s : Shown) (tables : List SumTables) → length tables ≡ n → All AreEmpty tables → HoldEachSum way n s tables
each-none way n s tables e h = record { count = e; each = λ var d b. none var (get_or tables var d) (h var d (omega (arith, e, b))) }
  where
    none : (var : ℕ) (t : SumTables) → AreEmpty t → HoldVariable way var s t
    none var t k = record { last = subst (λ l. IfSome l (IsSummed way var s)) (sym k.0) tt; rows = sums-none way var s t.rows k.1 }

-- a memo with no sums
pub adds-none : (s : Shown) (k : KeptAnswers) (n : ℕ) → k ≡ record { pairs = []; capacity = n } → HoldAdds s k
adds-none s k n e = record { each = λ f g r m. absurd (let h = subst (λ (v : KeptAnswers). Contains v.pairs ((f, g), r)) e m in omega (arith, h.1)) }
