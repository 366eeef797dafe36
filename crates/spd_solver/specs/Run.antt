-- What a command answers: of the files that the place holds, of what the output took, and of the faults of the outside.
use Rattle.std.specs.Prelude.{ℕ, ◌≡◌, ◌⊎◌, List, Option, Some, None, IfSome}
use Rattle.spd_edge.specs.Counts.{Rose}
use Rattle.spd_edge.specs.Direction.{Direction}
use Rattle.spd_edge.specs.Told.{Took, TookFront}
use Rattle.spd_edge.specs.declared.outside.Stage.TheVariants as Stage
use Rattle.spd_model.specs.Process.{Process}
use Rattle.spd_model.specs.Chances.{IsValid}
use Rattle.spd_gen.specs.Ring.{ring_text}
use Rattle.spd_gen.specs.Process.{ring_process}
use Rattle.spd_solver.specs.declared.command.Way.TheVariants.{Diagrams}
use Rattle.spd_solver.specs.declared.status.Stage.TheVariants.{Building}
use Rattle.spd_solver.specs.declared.status.Status.{Status}
use Rattle.spd_solver.specs.declared.status.Status.TheVariants.{Done, OpenFault, ReadFault, TooLong, Refused, NodeLimit}
use Rattle.spd_solver.specs.Command.{Command, solving, generating, solving_ring, checking}
use Rattle.spd_solver.specs.Kind.{Kind, whole, cut, refusal, limited, outside, memory, usage}
use Rattle.spd_solver.specs.Solve.{IsFileOf, IsSolved, RefusesFile, PassesLimit, IsWithinLimits}
use Rattle.spd_solver.specs.Check.{IsChecked, RefusesCheck, PassesCheckLimit, AreAccepted}
use Rattle.spd_solver.specs.Ring.{IsRingSolved, RingPassesLimit}

-- the bytes that a place holds under each name, where it tells them
abbrev pub Held : Type 0
Held = List ℕ → Option (List ℕ)

-- ---- what each command means

-- the names that a command reads
abbrev pub Reads : Command → List ℕ → Type 0
Reads (solving way file options) name = name ≡ file
Reads (generating machines) name = ⊥
Reads (solving_ring machines options) name = ⊥
Reads (checking purpose file cert options) name = (name ≡ file) ⊎ (name ≡ cert)

-- The names of those files that a command has opened when it ends so: all that it reads, but a certificate behind a model file that is refused.
-- Of a file that is too long the status tells the name.
abbrev pub HasOpened : Command → Status → List ℕ → Type 0
HasOpened (checking purpose file cert options) (Refused why) name = name ≡ file
HasOpened (checking purpose file cert options) (TooLong long) name = (name ≡ file) ⊎ (name ≡ long)
HasOpened command status name = Reads command name

-- The commands that take memory. The others never want it.
abbrev pub TakesMemory : Command → Type 0
TakesMemory (solving way file options) = Unit {0}
TakesMemory (generating machines) = ⊥
TakesMemory (solving_ring machines options) = Unit {0}
TakesMemory (checking purpose file cert options) = Unit {0}

-- Bytes that were read from the file of this name: those that the place holds, where it tells them. Where it doesn't, as the system's
-- files don't, they are some bytes.
abbrev pub AreOf : Held → List ℕ → List ℕ → Type 0
AreOf held file bytes = IfSome (held file) (λ told. bytes ≡ told)

-- the place tells that it holds these bytes under a name
abbrev pub IsHeld : Held → List ℕ → List ℕ → Type 0
IsHeld held name bytes = held name ≡ Some bytes

-- A finished job, by its status and its text.
abbrev pub Ends : Command → Held → Status → List ℕ → Type 0
Ends (solving way file options) held status text = (bytes : List ℕ) × AreOf held file bytes × IsSolved bytes options status text
Ends (generating machines) held status text = (status ≡ Done) × (text ≡ ring_text machines)
Ends (solving_ring machines options) held status text = IsRingSolved machines options status text
Ends (checking purpose file cert options) held status text =
    (bytes : List ℕ) × (cert_bytes : List ℕ) × AreOf held file bytes × AreOf held cert cert_bytes × IsChecked purpose bytes cert_bytes status text

-- Why a command's files are refused.
abbrev pub Refuses : Command → Held → Status → Type 0
Refuses (solving way file options) held status = (bytes : List ℕ) × AreOf held file bytes × RefusesFile way file bytes status
Refuses (generating machines) held status = ⊥
Refuses (solving_ring machines options) held status = ⊥
Refuses (checking purpose file cert options) held status = RefusesCheck (AreOf held) file cert status

-- Why the node limit is told of a command's files.
abbrev pub Exceeds : Command → Held → Status → Type 0
Exceeds (solving way file options) held status = (bytes : List ℕ) × AreOf held file bytes × PassesLimit way bytes options status
Exceeds (generating machines) held status = ⊥
Exceeds (solving_ring machines options) held status = RingPassesLimit machines options status
Exceeds (checking purpose file cert options) held status =
    (bytes : List ℕ) × (cert_bytes : List ℕ) × AreOf held file bytes × AreOf held cert cert_bytes × PassesCheckLimit bytes cert_bytes options status

-- The place tells files of a command that are refused.
abbrev pub HoldsRefused : Command → Held → Status → Type 0
HoldsRefused (solving way file options) held status = (bytes : List ℕ) × IsHeld held file bytes × RefusesFile way file bytes status
HoldsRefused (generating machines) held status = ⊥
HoldsRefused (solving_ring machines options) held status = ⊥
HoldsRefused (checking purpose file cert options) held status = RefusesCheck (IsHeld held) file cert status

-- The place tells files of a command that are as they should be, of processes within the limits; where it reads none, its process is within
-- the limits.
abbrev pub HoldsAccepted : Command → Held → Type 0
HoldsAccepted (solving way file options) held =
    (bytes : List ℕ) × (m : Process) × IsHeld held file bytes × IsFileOf bytes m × IsValid m × IsWithinLimits way m options
HoldsAccepted (generating machines) held = Unit {0}
HoldsAccepted (solving_ring machines options) held = IsWithinLimits Diagrams (ring_process machines) options
HoldsAccepted (checking purpose file cert options) held =
    (bytes : List ℕ) × (cert_bytes : List ℕ) × IsHeld held file bytes × IsHeld held cert cert_bytes × AreAccepted bytes cert_bytes options

-- ---- what each kind of end means, whatever the command is

-- what is seen of the outside: the place's inputs, the bytes that the output took, where it tells them, and its count of faults
pub record Seen : Type 0 where
  pub inputs : Direction
  pub taken : Option (List ℕ)
  pub faults : ℕ

-- what is seen of a place and an output
abbrev pub seen : {P K : Type 0} → (P → Direction) → (K → Option (List ℕ)) → (K → ℕ) → P → K → Seen
seen inputs taken faults place out = record { inputs = inputs place; taken = taken out; faults = faults out }

-- Each file that a command has opened when it ends so was closed again, and the others that it reads weren't opened. No count of a name's
-- faults changed.
pub record ReadsCalmly (command : Command) (status : Status) (before now : Seen) : Type 0 where
  pub closed : (name : List ℕ) → HasOpened command status name → now.inputs.stage name ≡ Some Stage.Closed
  pub others : (name : List ℕ) → Reads command name → (HasOpened command status name → ⊥) → now.inputs.stage name ≡ None
  pub calm : now.inputs.faults ≡ before.inputs.faults

-- the output wasn't written to
abbrev pub IsUnwritten : Seen → Seen → Type 0
IsUnwritten before now = (now.taken ≡ before.taken) × (now.faults ≡ before.faults)

-- What a command had read before it opened the file of a name: before a certificate the model file, which was closed again and is that of a
-- process; and before a model file no certificate.
abbrev pub HadRead : Command → List ℕ → Seen → Seen → Type 0
HadRead (checking purpose file cert options) name before now =
    ((name ≡ file) × (now.inputs.stage cert ≡ None))
    ⊎ ((name ≡ cert) × (now.inputs.stage file ≡ Some Stage.Closed) × ((bytes : List ℕ) × (m : Process) × AreOf before.inputs.holds file bytes × IsFileOf bytes m))
HadRead command name before now = Reads command name

-- A file that couldn't be opened or read: its count rose. It is an open that failed where the file wasn't opened in this call, and a
-- read that failed where it was.
abbrev pub FailsToRead : Command → Status → Seen → Seen → Type 0
FailsToRead command (OpenFault name) before now =
    HadRead command name before now × Rose (before.inputs.faults name) (now.inputs.faults name) × (now.inputs.stage name ≡ Some Stage.Unopened)
FailsToRead command (ReadFault name) before now =
    HadRead command name before now × Rose (before.inputs.faults name) (now.inputs.faults name) × (now.inputs.stage name ≡ Some Stage.Closed)
FailsToRead command _ before now = ⊥

-- What an end of each kind means for a command. Whole: its files were read, and the output took the text of the finished job, and
-- nothing else. Cut: its files were read, a write failed, and the output took a front of that text. Otherwise nothing was written;
-- what is refused or passes the node limit was read and has its cause in the files, and a command that takes no memory doesn't want it.
abbrev pub Means : Kind → Command → Status → Seen → Seen → Type 0
Means whole command status before now =
    (text : List ℕ) × Ends command before.inputs.holds status text × Took before.taken text now.taken × (now.faults ≡ before.faults)
    × ReadsCalmly command status before now
Means cut command status before now =
    (text : List ℕ) × (finished : Status) × Ends command before.inputs.holds finished text × TookFront before.taken text now.taken
    × Rose before.faults now.faults × ReadsCalmly command status before now
Means refusal command status before now = Refuses command before.inputs.holds status × IsUnwritten before now × ReadsCalmly command status before now
Means limited command status before now = Exceeds command before.inputs.holds status × IsUnwritten before now × ReadsCalmly command status before now
Means outside command status before now = FailsToRead command status before now × IsUnwritten before now
Means memory command status before now = TakesMemory command × IsUnwritten before now
Means usage command status before now = ⊥

-- A command whose files are as they should be isn't refused and passes no limit: it is finished, unless the outside fails or memory runs
-- out.
abbrev pub Completes : Kind → Command → Held → Type 0
Completes refusal command held = HoldsAccepted command held → ⊥
Completes limited command held = HoldsAccepted command held → ⊥
Completes usage command held = ⊥
Completes _ command held = Unit {0}

-- A command whose files are refused ends with that refusal, unless the outside fails, memory runs out, or building has more nodes than
-- the options allow: which of two such causes is told is left open.
abbrev pub TellsRefusal : Kind → Command → Held → Status → Type 0
TellsRefusal outside command held status = Unit {0}
TellsRefusal memory command held status = Unit {0}
TellsRefusal limited command held (NodeLimit Building limit) = Unit {0}
TellsRefusal _ command held status = (refused : Status) → HoldsRefused command held refused → status ≡ refused
