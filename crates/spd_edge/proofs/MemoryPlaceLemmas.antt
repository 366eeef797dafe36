-- What opens and closes of a place in memory change, as a direction shows it.
use Rattle.std.proofs.Common.{◌≡◌, ℕ, ◌≤◌, List, Bool, true, false, ◌||◌, ◌&&◌, cond, Option, Some, IfSome, refl, sym, ap, subst, arith}
use Rattle.std.specs.Prelude.{is_none, option_map}
use Rattle.spd_edge.specs.declared.outside.Stage.{Stage}
use Rattle.spd_edge.specs.Counts.{AllInRange, NoneFalls, counted}
use Rattle.spd_edge.specs.Direction.{Closes, Direction, FailsToOpen, Opens}
use Rattle.spd_edge.specs.Memory.{Input, Output}
use Rattle.spd_edge.specs.Names.{updated}
use Rattle.spd_edge.specs.MemoryPlace.{AllPut, Shelf, closed_on, counting, opened_on, refused_on, shares_count}
use Rattle.spd_edge.proofs.CallerLemmas.{bytes_eq-same}
use Rattle.spd_edge.proofs.NamesLemmas.{bytes_eq-cases, updated-same, updated-other}

-- the bytes that each direction holds, by what was put there and what was closed
abbrev pub bytes_put : (List ℕ → Option Input) → (List ℕ → Option Input) → List ℕ → Option (List ℕ)
bytes_put put closed name = option_map (λ input. input.left) (put name)

abbrev pub bytes_closed : (List ℕ → Option Output) → (List ℕ → Option Output) → List ℕ → Option (List ℕ)
bytes_closed put closed name = option_map (λ output. output.taken) (closed name)

module _ {X : Type 0} where
  -- where a shelf keeps what was put there, each object still meets its condition
  pub AllPut-kept : (P : List ℕ → X → Type 0) (before now : Shelf X) → now.put ≡ before.put → AllPut P before → AllPut P now
  AllPut-kept P before now same all name = subst (λ (put : List ℕ → Option X). IfSome (put name) (P name)) (sym same) (all name)

  -- so does one that is put there
  pub AllPut-put : (P : List ℕ → X → Type 0) (before now : Shelf X) (name : List ℕ) (x : X) → now ≡ record before { put = updated before.put name (Some x) } → P name x
      → AllPut P before → AllPut P now
  AllPut-put P before now name x is here all other =
      let P_now : (List ℕ → Option X) → Type 0 = λ put. IfSome (put other) (P other) in
      subst P_now (sym (ap (λ (s : Shelf X). s.put) is))
      (bytes_eq-cases (λ b. IfSome (cond b (Some x) (before.put other)) (P other)) other name
      (λ same. subst (λ (q : List ℕ). P q x) (sym same) here)
      (λ _. all other))

  -- what was put under a name meets its condition
  pub AllPut-found : (P : List ℕ → X → Type 0) (shelf : Shelf X) (name : List ℕ) (x : X) → AllPut P shelf → Some x ≡ shelf.put name → P name x
  AllPut-found P shelf name x all is = subst (λ (o : Option X). IfSome o (P name)) (sym is) (all name)

  -- a direction by a shelf, which holds bytes by what was put and closed there
  module _ (bytes : (List ℕ → Option X) → (List ℕ → Option X) → List ℕ → Option (List ℕ)) where
    abbrev pub direction : Shelf X → Direction
    direction shelf = record { stage = shelf.stage; faults = shelf.faults; holds = bytes shelf.put shelf.closed }

    pub Opens-opened : (before now : Shelf X) (name : List ℕ) → now ≡ opened_on before name → Opens (direction before) (direction now) name
    Opens-opened before now name is =
        subst (λ (s : Shelf X). Opens (direction before) (direction s) name) (sym is)
        (record {
          opened = updated-same before.stage name (Some Stage.Open);
          other_stages = updated-other before.stage name (Some Stage.Open);
          faults = refl;
          holds = refl;
        })

    -- the count of the name itself
    counting-same : (shelf : Shelf X) (name : List ℕ) (more : ℕ) → (counting shelf name more).faults name ≡ counted (shelf.faults name) more
    counting-same shelf name more =
        ap (λ b. cond (b || (is_none (shelf.put name) && is_none (shelf.put name))) (counted (shelf.faults name) more) (shelf.faults name)) (bytes_eq-same name)

    pub FailsToOpen-refused : (before now : Shelf X) (name : List ℕ) → now ≡ refused_on before name → FailsToOpen (direction before) (direction now) name
    FailsToOpen-refused before now name is =
        subst (λ (s : Shelf X). FailsToOpen (direction before) (direction s) name) (sym is)
        (record {
          not_opened = updated-same before.stage name (Some Stage.Unopened);
          other_stages = updated-other before.stage name (Some Stage.Unopened);
          rose =
              let here = counting-same (record before { stage = updated before.stage name (Some Stage.Unopened) }) name 1 in
              omega (arith, here);
          holds = refl;
        })

    -- where no fault is more, no count changes
    counting-none : (shelf : Shelf X) (name : List ℕ) (more : ℕ) → AllInRange shelf.faults → more ≡ 0 → (counting shelf name more).faults ≡ shelf.faults
    counting-none shelf name more in_range none i other =
        let same : counted (shelf.faults other) more ≡ shelf.faults other = let bound = in_range other in omega (arith, bound, none) in
        let cases : (b : Bool) → cond b (counted (shelf.faults other) more) (shelf.faults other) ≡ shelf.faults other = λ b.
        elim b as (λ v. cond v (counted (shelf.faults other) more) (shelf.faults other) ≡ shelf.faults other) [ true ↦ same | false ↦ refl ] in
        cases (shares_count shelf name other) i

    pub Closes-closed : (before now : Shelf X) (name : List ℕ) (object : X) (faults : ℕ) → AllInRange before.faults → now ≡ closed_on before name object faults
        → Closes (direction before) (direction now) name faults
    Closes-closed before now name object faults in_range is =
        let marked : Shelf X = record before { closed = updated before.closed name (Some object); stage = updated before.stage name (Some Stage.Closed) } in
        subst (λ (s : Shelf X). Closes (direction before) (direction s) name faults) (sym is)
        (record {
          closed = updated-same before.stage name (Some Stage.Closed);
          other_stages = updated-other before.stage name (Some Stage.Closed);
          added = counting-same marked name faults;
          no_fault = counting-none marked name faults in_range;
        })

  -- no count falls where more faults are counted
  pub NoneFalls-counting : (before marked now : Shelf X) (name : List ℕ) (more : ℕ) → AllInRange before.faults → marked.faults ≡ before.faults → now ≡ counting marked name more
      → NoneFalls before.faults now.faults
  NoneFalls-counting before marked now name more in_range same is other =
      let here : marked.faults other ≡ before.faults other = ap (λ (f : List ℕ → ℕ). f other) same in
      let bound = in_range other in
      let P : Shelf X → Type 0 = λ s. before.faults other ≤ s.faults other in
      subst P (sym is)
      (elim (shares_count marked name other) as (λ b. before.faults other ≤ cond b (counted (marked.faults other) more) (marked.faults other)) [
        | true ↦ omega (arith, here, bound)
        | false ↦ omega (arith, here)
      ])
