-- How a command can end, whatever it does.
use Rattle.spd_solver.specs.declared.status.Status.{Status}
use Rattle.spd_solver.specs.declared.status.Status.TheVariants.{Done, Usage, OpenFault, ReadFault, TooLong, Refused, OtherModel, CertRefused, TooManyStates, Sum, Range, TurnLimit, NodeLimit, No, WriteFault, Memory}

pub data Kind : Type 0 where
  -- the job is finished, and its text was written whole
  whole : Kind
  -- the job was finished, and a write of its text failed
  cut : Kind
  -- what the files hold is refused
  refusal : Kind
  -- a stage has more nodes than the options allow
  limited : Kind
  -- a file couldn't be opened or read
  outside : Kind
  -- memory was wanted and not found
  memory : Kind
  -- the words are no command
  usage : Kind

abbrev pub kind_of : Status → Kind
kind_of Done = whole
kind_of (TurnLimit residual) = whole
kind_of No = whole
kind_of WriteFault = cut
kind_of (TooLong name) = refusal
kind_of (Refused fault) = refusal
kind_of (OtherModel found wanted) = refusal
kind_of (CertRefused fault) = refusal
kind_of (TooManyStates product) = refusal
kind_of (Sum action var state sum) = refusal
kind_of (Range action state value) = refusal
kind_of (NodeLimit stage limit) = limited
kind_of (OpenFault name) = outside
kind_of (ReadFault name) = outside
kind_of Memory = memory
kind_of (Usage word) = usage
