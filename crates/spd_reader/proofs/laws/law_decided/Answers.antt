use Rattle.spd_reader.proofs.CallerLemmas.{decided, not_refused, one_model, one_refusal}
use Rattle.spd_reader.proofs.laws.law_decided.Goals as goal

pub returns : goal.returns
returns c = record { either = decided; never_both = not_refused; one_model = one_model; one_reason = one_refusal }
