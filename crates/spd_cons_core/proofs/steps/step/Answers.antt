use Rattle.std.proofs.Common.{◌≡◌, ◌∙◌, sym, subst}
use Rattle.spd_cons_core.specs.Invariants.{Keeps}
use Rattle.spd_cons_core.specs.Views.{Machine}
use Rattle.spd_cons_core.specs.Events.{load_bucket, claim, store_content, exchange_bucket, load_content, split, join}
use Rattle.spd_cons_core.proofs.LoadsBucket.{taken_load_keeps}
use Rattle.spd_cons_core.proofs.Claims.{claim_keeps}
use Rattle.spd_cons_core.proofs.StoresContent.{store_content_keeps}
use Rattle.spd_cons_core.proofs.Exchanges.{exchange_bucket_keeps}
use Rattle.spd_cons_core.proofs.LoadsContent.{load_content_keeps}
use Rattle.spd_cons_core.proofs.Splits.{split_keeps}
use Rattle.spd_cons_core.proofs.Joins.{join_keeps}
use Rattle.spd_cons_core.proofs.steps.step.Goals.{in-LoadBucket, in-Claim, in-StoreContent, in-ExchangeBucket+in_ok-exchange_bucket-in-ExchangeBucket, in-LoadContent+in_ok-load_content-in-LoadContent, in-Split+in_ok-split-in-Split, in-Join+in_ok-join-in-Join}
use Rattle.spd_cons_core.proofs.steps.step.Goals as goal

-- the machine is the one after the event
along : (before d after : Machine) → after ≡ d → Keeps before d → Keeps before after
along before d after same keeps = subst (Keeps before) (sym same) keeps

pub returns-clause-keeps : goal.returns-clause-keeps
returns-clause-keeps c =
    let now : Machine = c.args.core in
    elim c.match-event.branch [
      | in-LoadBucket w ↦ along now (load_bucket now w.in-LoadBucket.seat w.in-LoadBucket.key) _ (w.core-is ∙ w.load_bucket.ensures.exact)
          (taken_load_keeps now w.in-LoadBucket.seat w.in-LoadBucket.key c.requires.sized c.requires.sound w.load_bucket.ensures.in_range)
      | in-Claim w ↦ along now (claim now w.in-Claim.seat) _ (w.core-is ∙ w.claim.ensures) (claim_keeps now w.in-Claim.seat c.requires.sized c.requires.sound)
      | in-StoreContent w ↦ along now (store_content now w.in-StoreContent.seat w.in-StoreContent.word) _ (w.core-is ∙ w.store_content.ensures)
          (store_content_keeps now w.in-StoreContent.seat w.in-StoreContent.word c.requires.sized c.requires.sound)
      | in-ExchangeBucket+in_ok-exchange_bucket-in-ExchangeBucket w ↦ along now (exchange_bucket now w.in-ExchangeBucket.seat) _ (w.core-is ∙ w.in_ok-exchange_bucket-in-ExchangeBucket.ensures)
          (exchange_bucket_keeps now w.in-ExchangeBucket.seat c.requires.sized c.requires.sound)
      | in-LoadContent+in_ok-load_content-in-LoadContent w ↦ along now (load_content now w.in-LoadContent.seat w.in-LoadContent.entry w.in-LoadContent.word) _ (w.core-is ∙ w.in_ok-load_content-in-LoadContent.ensures)
          (load_content_keeps now w.in-LoadContent.seat w.in-LoadContent.entry w.in-LoadContent.word c.requires.sized c.requires.sound)
      | in-Split+in_ok-split-in-Split w ↦ along now (split now w.in-Split.seat) _ (w.core-is ∙ w.in_ok-split-in-Split.ensures) (split_keeps now w.in-Split.seat c.requires.sized c.requires.sound)
      | in-Join+in_ok-join-in-Join w ↦ along now (join now w.in-Join.seat w.in-Join.other) _ (w.core-is ∙ w.in_ok-join-in-Join.ensures)
          (join_keeps now w.in-Join.seat w.in-Join.other c.requires.sized c.requires.sound)
    ]
