use Rattle.spd_cons_core.proofs.Taken.{load_taken, claim_taken, store_taken, split_taken}
use Rattle.spd_cons_core.proofs.laws.events_are_taken.Goals as goal

pub returns-clause-load_bucket : goal.returns-clause-load_bucket
returns-clause-load_bucket c = load_taken

pub returns-clause-claim : goal.returns-clause-claim
returns-clause-claim c = claim_taken

pub returns-clause-store_content : goal.returns-clause-store_content
returns-clause-store_content c = store_taken

pub returns-clause-split : goal.returns-clause-split
returns-clause-split c = split_taken
