use Rattle.std.proofs.Common.{◌∙◌, ap}
use Rattle.spd_syntax.specs.declared.refusal.Refusal.TheVariants.{Twice}
use Rattle.spd_syntax.specs.Words.{text_of}
use Rattle.spd_reader.specs.Faults.{least, when}
use Rattle.spd_reader.specs.Trees.{is_among}
use Rattle.spd_reader.specs.Models.{action_names, action_faults}
use Rattle.spd_reader.specs.Scopes.{scope_of}
use Rattle.spd_reader.proofs.LeastLaws.{least_two}
use Rattle.spd_reader.proofs.said.Said.action.Goals as goal

pub returns-in_ok-push-clause-notes : goal.returns-in_ok-push-clause-notes
returns-in_ok-push-clause-notes c =
    let file = c.args.self.now.names.file.now in
    let names = action_names c.args.self.now.actions in
    let at = c.args.name.from in
    least_two c.args.found.now c.note_if.new.found c.action.new.found
    (when (is_among names (text_of file c.args.name)) (Twice at)) (action_faults file (scope_of c.args.self.now.names) c.args.items.now c.args.end)
    (c.note_if.ensures ∙ ap (λ twice. least c.args.found.now (when twice (Twice at)))
    (c.contains-twice.ensures ∙ ap (λ l. is_among l c.text-text.result.now) c.requires ∙ ap (is_among names) c.text-text.ensures))
    c.in_ok-action.ensures.notes

pub returns-else-not-twice-clause-notes : goal.returns-else-not-twice-clause-notes
returns-else-not-twice-clause-notes c =
    let file = c.args.self.now.names.file.now in
    let names = action_names c.args.self.now.actions in
    let at = c.args.name.from in
    least_two c.args.found.now c.note_if.new.found c.action.new.found
    (when (is_among names (text_of file c.args.name)) (Twice at)) (action_faults file (scope_of c.args.self.now.names) c.args.items.now c.args.end)
    (c.note_if.ensures ∙ ap (λ twice. least c.args.found.now (when twice (Twice at)))
    (c.contains-twice.ensures ∙ ap (λ l. is_among l c.text-text.result.now) c.requires ∙ ap (is_among names) c.text-text.ensures))
    c.in_ok-action.ensures.notes
