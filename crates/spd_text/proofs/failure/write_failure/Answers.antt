use Rattle.std.proofs.Common.{[], List, ℕ, sym, subst, append-nil}
use Rattle.spd_text.specs.Failure.{failure_line}
use Rattle.spd_text.specs.inner.Pieces.{shown, Writes}
use Rattle.spd_text.proofs.WritingLaws.{writes-then, writes-as, writes-exit, writes-whole, writes-part}
use Rattle.spd_text.proofs.failure.write_failure.Goals as goal

pub returns-in_err-put_failure : goal.returns-in_err-put_failure
returns-in_err-put_failure g c =
    let text = failure_line c.args.model.now (record { state = c.args.at.now; side = c.args.side; action = c.args.action }) in
    let before = shown g.K.Sink.taken g.K.Sink.faults g.K.Opened.name c.args.k.now in
    let now = shown g.K.Sink.taken g.K.Sink.faults g.K.Opened.name c.put_failure.new.k in
    let late = writes-exit before now c.new-waiting.result _ c.put_failure.new.waiting text text [] _ _ c.from_residual.ensures.0 (sym (append-nil text)) c.in_err-put_failure.ensures in
    let all = subst (λ (v : List ℕ). Writes before v text c.from_residual.result now c.put_failure.new.waiting) c.new-waiting.ensures late in
    record { text = writes-part before now text c.put_failure.new.waiting c.from_residual.result c.from_residual.ensures.0 all; count = all.count; named = all.named }

pub returns : goal.returns
returns g c =
    let text = failure_line c.args.model.now (record { state = c.args.at.now; side = c.args.side; action = c.args.action }) in
    let before = shown g.K.Sink.taken g.K.Sink.faults g.K.Opened.name c.args.k.now in
    let now = shown g.K.Sink.taken g.K.Sink.faults g.K.Opened.name c.flush.new.k in
    let late = writes-as before now c.new-waiting.result c.flush.new.self _ text c.flush.result (append-nil text) (writes-then _ _ _ _ _ _ text [] _ _ c.in_ok-put_failure.ensures c.flush.ensures.wrote) in
    let all = subst (λ (v : List ℕ). Writes before v text c.flush.result now c.flush.new.self) c.new-waiting.ensures late in
    record { text = writes-whole before now text c.flush.new.self c.flush.result c.flush.ensures.empty all; count = all.count; named = all.named }
