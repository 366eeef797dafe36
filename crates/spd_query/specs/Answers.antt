-- The line that answers a client's line.
use Rattle.std.specs.Prelude.{ℕ, List, [], ◌∷◌, codes, decimal, ℤ, Result, Ok, Err}
use Rattle.spd_model.specs.Process.{Process}
use Rattle.spd_model.specs.ResultText.{line, units, action_name}
use Rattle.spd_frozen.specs.Frozen.{leaf_at}
use Rattle.spd_frozen.specs.Told.{number_of, action_of}
use Rattle.spd_frozen.specs.declared.iterate.Iterate.{Iterate}
use Rattle.spd_query.specs.declared.line.Query.{Query}
use Rattle.spd_query.specs.declared.line.Query.TheVariants.{State, Status}
use Rattle.spd_query.specs.declared.line.Reason.{Reason}
use Rattle.spd_query.specs.declared.line.Reason.TheVariants.{Long, Byte, Word, Pair, Unknown, Twice, Missing}
use Rattle.spd_query.specs.Lines.{query_of}

-- what answers tell of a turn: its number, its value and its action at each state, its residual and its error
pub record Turn : Type 0 where
  pub number : ℕ
  pub value : List ℕ → ℤ
  pub action : List ℕ → ℕ
  pub residual : ℤ
  pub error : ℤ

-- the turn of an iterate
abbrev pub turn_of : Iterate → Turn
turn_of x = record {
  number = x.turn;
  value = λ s. number_of (leaf_at x.value s);
  action = λ s. action_of (leaf_at x.policy s);
  residual = x.residual.r;
  error = x.error;
}

abbrev pub reason_text : Reason → List ℕ
reason_text Long = codes "long"
reason_text Byte = codes "byte"
reason_text Word = codes "word"
reason_text Pair = codes "pair"
reason_text Unknown = codes "unknown"
reason_text Twice = codes "twice"
reason_text Missing = codes "missing"

abbrev pub answer_to : Process → Turn → Result Query Reason → List ℕ
answer_to m turn (Ok (State s)) =
    line (codes "turn" ∷ decimal turn.number ∷ codes "value" ∷ units (turn.value s) ∷ codes "action" ∷ action_name m (turn.action s) ∷ codes "error" ∷ units turn.error ∷ [])
answer_to m turn (Ok Status) = line (codes "turn" ∷ decimal turn.number ∷ codes "residual" ∷ units turn.residual ∷ codes "error" ∷ units turn.error ∷ [])
answer_to m turn (Err reason) = line (codes "refused" ∷ reason_text reason ∷ [])

-- the answer to a line, with its LF
abbrev pub answer_of : Process → Turn → List ℕ → List ℕ
answer_of m turn bytes = answer_to m turn (query_of m.vars bytes)
