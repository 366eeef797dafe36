use Rattle.std.proofs.Common.{ℤ, sym, subst, FitsSigned, rules}
use Rattle.std.specs.Int.{w128}
use Rattle.std.proofs.lemmas.Int.{to_z-of_z}
use Rattle.spd_text.specs.Writing.{Wrote}
use Rattle.spd_solver.specs.declared.status.Status.TheVariants as Ends
use Rattle.spd_solver.specs.Message.{message_of}
use Rattle.spd_solver.proofs.message.write_message.Goals as goal

pub returns-in-ReadFault-clause-text : goal.returns-in-ReadFault-clause-text
returns-in-ReadFault-clause-text g c = rw (c.in-ReadFault.is, sym c.as_slice-in-ReadFault.ensures) c.write_pieces-in-ReadFault.ensures.text

pub returns-in-TooLong-clause-text : goal.returns-in-TooLong-clause-text
returns-in-TooLong-clause-text g c = rw (c.in-TooLong.is, sym c.as_slice-in-TooLong.ensures) c.write_pieces-in-TooLong.ensures.text

pub returns-in-Sum-clause-text : goal.returns-in-Sum-clause-text
returns-in-Sum-clause-text g c =
    let fits : FitsSigned w128 c.in-Sum.sum = search rules in
    let told = λ (z : ℤ). Wrote (g.K.Sink.taken c.args.k.now) (message_of (Ends.Sum c.in-Sum.action c.in-Sum.var c.in-Sum.state z)) c.write_sum.result (g.K.Sink.taken c.write_sum.new.k) in
    rw c.in-Sum.is (subst told (to_z-of_z w128 c.in-Sum.sum fits) c.write_sum.ensures.text)
