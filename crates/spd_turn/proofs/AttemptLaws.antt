-- A turn in a table of its own: what is made, and what is known afterwards.
use Rattle.std.proofs.Common.{◌≡◌, ℕ, ◌+◌, ◌<◌, ◌≤◌, ◌==◌, List, [], ◌++◌, length, refl, sym, ◌∙◌, ap, subst, ℤ, true, Result, Ok, Err, IfOk, IfErr, OnOk, arith, inl, inr}
use Rattle.std.specs.List.{list_any}
use Rattle.std.proofs.lemmas.Bool.{true≢false}
use Rattle.spd_cons_core.specs.declared.key.Entry.{Entry}
use Rattle.spd_cons_core.specs.Invariants.{shares}
use Rattle.spd_cons.specs.Values.{SeatValue, TableValue, IsSeatOf, first_seat}
use Rattle.spd_model.specs.Process.{Process}
use Rattle.spd_model.specs.States.{sizes}
use Rattle.spd_model.specs.Turns.{turn as table_of_turn}
use Rattle.spd_nodes.specs.declared.forest.StoreFault.{StoreFault}
use Rattle.spd_nodes.specs.declared.forest.StoreFault.TheVariants as F
use Rattle.spd_nodes.specs.Grove.{StandingValue, standing_of}
use Rattle.spd_nodes.specs.KnownTrees.{shown_by}
use Rattle.spd_nodes.specs.Made.{HasMade, MakesAll}
use Rattle.spd_nodes.specs.Shown.{Shown, FaultsAt, Faults}
use Rattle.spd_nodes.specs.States.{Function, test_trees}
use Rattle.spd_nodes.specs.Trees.{IsNodeOf}
use Rattle.spd_nodes.proofs.CallerLemmas.{Among, among-front, among-trans, grows-then, has-then, has-wider, stands-grows}
use Rattle.spd_backup.specs.declared.backing.Bounds.{Bounds}
use Rattle.spd_backup.specs.Expected.{IsMade}
use Rattle.spd_turn.specs.declared.ending.Finished.{Finished}
use Rattle.spd_turn.specs.declared.parts.TurnParts.{TurnParts}
use Rattle.spd_turn.specs.Attempts.{HoldsTurn, IsTooSmall, KnowsTurn, nodes_of_turn}
use Rattle.spd_turn.specs.Parts.{ArePartsOf, MakesParts, carried_functions}
use Rattle.spd_turn.specs.Turn.{CanFinish, count_nodes, finish_functions, greatest_low, turn_functions, value_of_turn}
use Rattle.spd_turn.specs.Waves.{AreBackedUp, all_backups}
use Rattle.spd_turn.proofs.BackupLaws.{count-actions}
use Rattle.spd_turn.proofs.CountLaws.{more-nodes, published-few}
use Rattle.spd_turn.proofs.TurnLaws.{among-backups, among-finish, backed-bounds}
use Rattle.spd_turn.proofs.WaveLaws.{backed-grow}

pub on-ok : {X E : Type 0} {A B : Type 0} (r : Result X E) → (A → B) → OnOk r A → OnOk r B
on-ok (Ok x) f h = f h
on-ok (Err e) f h = tt

-- what a result says of its answer, and of its fault
pub ok-of : {X E : Type 0} (P : X → Type 0) (r : Result X E) → IfOk r P → {x : X} → r ≡ Ok x → P x
ok-of P r h {x} e = subst (λ q. IfOk q P) e h

pub on-of : {X E P : Type 0} (r : Result X E) → OnOk r P → {x : X} → r ≡ Ok x → P
on-of {P = P} r h {x} e = subst (λ q. OnOk q P) e h

pub err-of : {X E : Type 0} (P : E → Type 0) (r : Result X E) → IfErr r P → {e : E} → r ≡ Err e → P e
err-of P r h {e} is = subst (λ q. IfErr q P) is h

-- a fault of a call that makes nodes of some functions tells of a full forest
full-of : {A : Type 0} (v : Shown) (fs : List Function) (r : Result A StoreFault) → IfErr r (λ e. FaultsAt e v fs) → (e : StoreFault) → r ≡ Err e → e ≡ F.Full → v.full ≡ true
full-of v fs r h e is full = let lacks = subst (λ (z : StoreFault). Faults z v (test_trees v.sizes fs)) full (err-of (λ e. FaultsAt e v fs) r h is) in lacks.full

module _ (m : Process) (span : ℤ) (k : ℕ) (s : Shown) (p : TurnParts) (parts : ArePartsOf m (value_of_turn m span k) s p) where
  abbrev value : List ℕ → ℤ
  value = value_of_turn m span k

  abbrev turned : List Function
  turned = turn_functions m span (table_of_turn m span k)

  module _ (t : Shown) (backed : HasMade s t (all_backups m value)) where
    pub backups-made : HasMade s t turned
    backups-made = has-wider (among-backups m span (table_of_turn m span k)) backed

    module _ (bs : List Bounds) (are : AreBackedUp m value t bs m.actions) where
      pub can-finish : CanFinish m span k t p.w bs
      can-finish = record { layout = backed.grows.sizes ∙ parts.can.thawed.layout; value = stands-grows backed.grows parts.stands; bounds = backed-bounds m value t bs are }

      module _ (u : Shown) (r : Result Finished StoreFault) (ended : MakesAll t u (finish_functions m span (table_of_turn m span k)) r) where
        pub turn-made : HasMade s u turned
        turn-made = has-then (among-finish m span (table_of_turn m span k)) backups-made ended.made

        pub turn-known : IsMade u (greatest_low m span k) → KnowsTurn m span k u
        turn-known low = record {
          value = record { ref = p.w; stands = stands-grows (grows-then backed.grows ended.made.grows) parts.stands };
          bounds = bs;
          backed = backed-grow m value t u bs m.actions ended.made.grows are;
          low = low;
        }

-- ---- the seat of a table

-- A table for a process: it has room for so many nodes, and a seat for each action beside the first one.
pub record IsTableFor (m : Process) (room : ℕ) (table : TableValue) : Type 0 where
  pub limit : table.size.limit ≡ room
  pub most : table.size.most ≡ length m.actions + 1

-- a seat from which no other one has been split off
record IsFirst (m : Process) (table : TableValue) (s : SeatValue) : Type 0 where
  own : s.table ≡ table
  stands : s.mind.stands ≡ 1
  splits : s.mind.splits ≡ length m.actions

first-is : (m : Process) (room : ℕ) (table : TableValue) (s : SeatValue) → IsTableFor m room table → s ≡ first_seat table → IsFirst m table s
first-is m room table s t e = record {
  own = ap (λ (z : SeatValue). z.table) e;
  stands = ap (λ (z : SeatValue). z.mind.stands) e;
  splits = ap (λ (z : SeatValue). z.mind.splits) e ∙ omega (arith, t.most);
}

first-stays : (m : Process) (table : TableValue) (sz : List ℕ) (s t : SeatValue) → standing_of (record { sizes = sz; seat = t }) ≡ standing_of (record { sizes = sz; seat = s }) → IsFirst m table s → IsFirst m table t
first-stays m table sz s t e h = record {
  own = ap (λ (z : StandingValue). z.table) e ∙ h.own;
  stands = ap (λ (z : StandingValue). z.stands) e ∙ h.stands;
  splits = ap (λ (z : StandingValue). z.splits) e ∙ h.splits;
}

among-self : (fs : List Function) → Among fs fs
among-self fs = record { nodes = λ sizes. record { nodes = λ x h. h } }

module _ (m : Process) (span : ℤ) (k room : ℕ) (sz : List ℕ) (layout : sz ≡ sizes m) (table : TableValue) (for : IsTableFor m room table) (first : SeatValue) (begins : first ≡ first_seat table) where
  abbrev own_value : List ℕ → ℤ
  own_value = value_of_turn m span k

  abbrev all : List Function
  all = turn_functions m span (table_of_turn m span k)

  none-first : first.mind.published ≡ []
  none-first = ap (λ (z : SeatValue). z.mind.published) begins

  -- what a seat published since the table was made
  only-turn : (s : SeatValue) → HasMade (shown_by sz first) (shown_by sz s) all → (r : Entry) → (shown_by sz s).published r ≡ true → IsNodeOf ((shown_by sz s).tree r) (test_trees sz all)
  only-turn s made r there = elim (made.makes.only r there) [
    | inl old ↦ absurd (true≢false (sym old ∙ ap (list_any (λ p. p.0 == r.0)) none-first))
    | inr new ↦ new
  ]

  small : (s : SeatValue) → HasMade (shown_by sz first) (shown_by sz s) all → IsSeatOf s → s.table ≡ table → shares s.mind ≡ table.size.most → s.mind.ended ≡ true → room < nodes_of_turn m span k
  small s made of own whole full =
      let past : s.table.size.limit < count_nodes sz all = more-nodes sz first s all made none-first of full (whole ∙ sym (ap (λ (z : TableValue). z.size.most) own)) in
      let limit : s.table.size.limit ≡ room = ap (λ (z : TableValue). z.size.limit) own ∙ for.limit in
      subst (λ n. n < nodes_of_turn m span k) limit (subst (λ z. s.table.size.limit < count_nodes z all) layout past)

  among-carried : Among (carried_functions m own_value) all
  among-carried = among-trans (among-front (carried_functions m own_value) (all_backups m own_value)) (among-front (carried_functions m own_value ++ all_backups m own_value) (finish_functions m span (table_of_turn m span k)))

  module _ (t : SeatValue) (standing : standing_of (record { sizes = sz; seat = t }) ≡ standing_of (record { sizes = sz; seat = first })) (of : IsSeatOf t) (r : Result TurnParts StoreFault) (made : MakesParts m own_value (shown_by sz first) (shown_by sz t) r) where
    begun : IsFirst m table t
    begun = first-stays m table sz first t standing (first-is m room table first for begins)

    begun-made : HasMade (shown_by sz first) (shown_by sz t) all
    begun-made = has-wider among-carried made.made.made

    pub parts-small : (e : StoreFault) → r ≡ Err e → IsTooSmall m span k room e
    parts-small F.Memory is = tt
    parts-small F.Full is =
        let full = full-of (shown_by sz t) (carried_functions m own_value) r made.made.fault F.Full is refl in
        small t begun-made of begun.own (omega (arith, begun.stands, begun.splits, for.most)) full

    module _ (p : TurnParts) (ok : r ≡ Ok p) where
      pub parts-ready : ArePartsOf m own_value (shown_by sz t) p
      parts-ready = ok-of (ArePartsOf m own_value (shown_by sz t)) r made.ok ok

      rewards-count : length p.thawed.rewards.items ≡ length m.actions
      rewards-count = count-actions m own_value (shown_by sz t) p.thawed p.w parts-ready.can

      pub parts-few : length p.thawed.rewards.items ≤ t.mind.splits
      parts-few = omega (arith, rewards-count, begun.splits)

      module _ (u : SeatValue) (of' : IsSeatOf u) (same : u.table ≡ t.table) (shared : shares u.mind ≡ shares t.mind) (turned : HasMade (shown_by sz t) (shown_by sz u) all) where
        turn-all : HasMade (shown_by sz first) (shown_by sz u) all
        turn-all = has-then (among-self all) begun-made turned

        pub turn-small : (q : Result Finished StoreFault) → IfErr q (λ e. e ≡ F.Full → u.mind.ended ≡ true) → (e : StoreFault) → q ≡ Err e → IsTooSmall m span k room e
        turn-small q full F.Memory is = tt
        turn-small q full F.Full is =
            small u turn-all of' (same ∙ begun.own) (omega (arith, shared, begun.stands, begun.splits, for.most)) (err-of (λ e. e ≡ F.Full → u.mind.ended ≡ true) q full is refl)

        pub turn-holds : u.mind.splits + length p.thawed.rewards.items ≡ t.mind.splits → KnowsTurn m span k (shown_by sz u) → HoldsTurn m span k table u
        turn-holds left knows = record {
          own = same ∙ begun.own;
          most = for.most;
          stands = omega (arith, left, shared, rewards-count, begun.stands, begun.splits);
          splits = omega (arith, left, rewards-count, begun.splits);
          knows = subst (λ z. KnowsTurn m span k (shown_by z u)) layout knows;
          only = subst (λ z. (r : Entry) → (shown_by z u).published r ≡ true → IsNodeOf ((shown_by z u).tree r) (test_trees z all)) layout (only-turn u turn-all);
          few = subst (λ z. length u.mind.published ≤ count_nodes z all) layout (published-few sz first u all turn-all none-first of');
        }
