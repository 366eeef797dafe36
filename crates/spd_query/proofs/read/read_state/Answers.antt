use Rattle.std.proofs.Common.{None, sym, ◌∙◌}
use Rattle.std.proofs.lemmas.List.{take-replicate}
use Rattle.spd_query.specs.Lines.{words_of}
use Rattle.spd_query.proofs.GivenLaws.{state-refused, state-gathered, state-fits}
use Rattle.spd_query.proofs.read.read_state.Goals as goal

pub returns-in-Ok-clause-read : goal.returns-in-Ok-clause-read
returns-in-Ok-clause-read c =
    c.ok_or.ensures.value
    ∙ state-gathered c.args.vars.now (words_of c.args.line.now) _ (take-replicate _ 100 None c.requires.few) c.take_words.new.given c.gather.result c.in-Ok.ensures c.gather.ensures

pub returns-in-Err-clause-read : goal.returns-in-Err-clause-read
returns-in-Err-clause-read c = sym (state-refused c.args.vars.now (words_of c.args.line.now) _ (take-replicate _ 100 None c.requires.few) c.in-Err.reason c.in-Err.ensures)

pub returns-in-Ok-clause-fits : goal.returns-in-Ok-clause-fits
returns-in-Ok-clause-fits c =
    state-fits c.args.vars.now (words_of c.args.line.now) c.ok_or.result (c.ok_or.ensures.value
    ∙ state-gathered c.args.vars.now (words_of c.args.line.now) _ (take-replicate _ 100 None c.requires.few) c.take_words.new.given c.gather.result c.in-Ok.ensures c.gather.ensures)
