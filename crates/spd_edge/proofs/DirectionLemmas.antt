-- What opens change in a direction.
use Rattle.std.proofs.Common.{◌≡◌, ℕ, List, Some, Result, Ok, Err, ap, ◌∙◌, arith}
use Rattle.spd_edge.specs.declared.outside.Stage.{Stage}
use Rattle.spd_edge.specs.declared.outside.Open.{Open}
use Rattle.spd_edge.specs.Counts.{AllInRange, NoneFalls, counted}
use Rattle.spd_edge.specs.Names.{SameButFor}
use Rattle.spd_edge.specs.Direction.{Direction, AfterOpen, FailsToOpen, Opens, staged}
use Rattle.spd_edge.proofs.NamesLemmas.{updated-same, updated-other}

-- the stage of the name that came to it
pub staged-stage : (before now : Direction) (name : List ℕ) (stage : Stage) → now ≡ staged before name stage → now.stage name ≡ Some stage
staged-stage before now name stage is = ap (λ (d : Direction). d.stage name) is ∙ updated-same before.stage name (Some stage)

-- the stages of the other names
pub staged-others : (before now : Direction) (name : List ℕ) (stage : Stage) → now ≡ staged before name stage → SameButFor before.stage now.stage name
staged-others before now name stage is other differ =
    ap (λ (d : Direction). d.stage other) is ∙ updated-other before.stage name (Some stage) other differ

-- a name that was asked for is opened
pub Opens-staged : (before asked now : Direction) (name : List ℕ) → asked ≡ staged before name Stage.Unopened → now ≡ staged asked name Stage.Open → Opens before now name
Opens-staged before asked now name first then_ = record {
  opened = staged-stage asked now name Stage.Open then_;
  other_stages = λ other differ. staged-others asked now name Stage.Open then_ other differ ∙ staged-others before asked name Stage.Unopened first other differ;
  faults = ap (λ (d : Direction). d.faults) then_ ∙ ap (λ (d : Direction). d.faults) first;
  holds = ap (λ (d : Direction). d.holds) then_ ∙ ap (λ (d : Direction). d.holds) first;
}

-- a name that was asked for isn't opened, and a fault of every name is counted
pub FailsToOpen-staged : (before asked now : Direction) (name : List ℕ) → asked ≡ staged before name Stage.Unopened
    → now ≡ record asked { faults = λ other. counted (asked.faults other) 1 } → FailsToOpen before now name
FailsToOpen-staged before asked now name first then_ = record {
  not_opened = ap (λ (d : Direction). d.stage name) then_ ∙ staged-stage before asked name Stage.Unopened first;
  other_stages = λ other differ. ap (λ (d : Direction). d.stage other) then_ ∙ staged-others before asked name Stage.Unopened first other differ;
  rose =
      let count : now.faults name ≡ counted (before.faults name) 1 =
      ap (λ (d : Direction). d.faults name) then_ ∙ ap (λ (d : Direction). counted (d.faults name) 1) first in
      omega (arith, count);
  holds = ap (λ (d : Direction). d.holds) then_ ∙ ap (λ (d : Direction). d.holds) first;
}

-- no count falls where a name was asked for and opened
pub NoneFalls-opened : (before asked now : Direction) (name : List ℕ) → asked ≡ staged before name Stage.Unopened → now ≡ staged asked name Stage.Open → NoneFalls before.faults now.faults
NoneFalls-opened before asked now name first then_ other =
    let same : now.faults other ≡ before.faults other = ap (λ (d : Direction). d.faults other) then_ ∙ ap (λ (d : Direction). d.faults other) first in
    omega (arith, same)

-- nor where it wasn't opened
pub NoneFalls-failed : (before asked now : Direction) (name : List ℕ) → AllInRange asked.faults → asked ≡ staged before name Stage.Unopened
    → now ≡ record asked { faults = λ other. counted (asked.faults other) 1 } → NoneFalls before.faults now.faults
NoneFalls-failed before asked now name in_range first then_ other =
    let bound = in_range other in
    let same : asked.faults other ≡ before.faults other = ap (λ (d : Direction). d.faults other) first in
    let more : now.faults other ≡ counted (asked.faults other) 1 = ap (λ (d : Direction). d.faults other) then_ in
    omega (arith, bound, same, more)

-- the answer of an open that failed
pub AfterOpen-failed : {X : Type 0} (before now : Direction) (name : List ℕ) (answer : Result X Open) → answer ≡ Err Open.Failed → FailsToOpen before now name
    → AfterOpen before now name answer
AfterOpen-failed before now name (Ok x) is fails = cc is
AfterOpen-failed before now name (Err Open.Failed) is fails = fails
AfterOpen-failed before now name (Err Open.Memory) is fails = cc is
