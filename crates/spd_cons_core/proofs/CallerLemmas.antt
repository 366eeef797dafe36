-- What the crates above cite of the machine's laws.
pub use Rattle.spd_cons_core.proofs.Fives.{five_of_key, five_of_entry, same_of_five}
pub use Rattle.spd_cons_core.proofs.Knowledge.{contains_cons, contains_cases, known_key, known_from, learned_known, learned_cases, learned_contains, joined_known, joined_cases, joined_contains, parts_more}
pub use Rattle.spd_cons_core.proofs.Bounds.{power_between, bucket_below, shares_below, claims_below, call_within}
pub use Rattle.spd_cons_core.proofs.Writes.{live_within}
pub use Rattle.spd_cons_core.proofs.Quiet.{keeps_same}
pub use Rattle.spd_cons_core.proofs.LoadsBucket.{load_bucket_keeps}
pub use Rattle.spd_cons_core.proofs.Claims.{claim_keeps}
pub use Rattle.spd_cons_core.proofs.StoresContent.{store_content_keeps}
pub use Rattle.spd_cons_core.proofs.Exchanges.{exchange_bucket_keeps}
pub use Rattle.spd_cons_core.proofs.LoadsContent.{load_content_keeps}
pub use Rattle.spd_cons_core.proofs.Splits.{split_keeps, nothing_contained}
pub use Rattle.spd_cons_core.proofs.Joins.{join_keeps}
pub use Rattle.spd_cons_core.proofs.Runs.{new_sized, new_sound}
pub use Rattle.spd_cons_core.proofs.Transitions.{goes_on}
pub use Rattle.spd_cons_core.proofs.Unknown.{key_unpublished, key_unknown}
pub use Rattle.spd_cons_core.proofs.Taken.{load_taken, claim_taken, store_taken, exchange_taken, content_taken, split_taken}
pub use Rattle.spd_cons_core.proofs.Consequences.{words_tell, same_key_tells, known_keys, known_entries, full_table, filled_above_limit, listed_at_most_once, total_alone}
