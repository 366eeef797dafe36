use Rattle.std.proofs.Common.{◌∙◌, ap, sym}
use Rattle.std.specs.Prelude.{nat_lt}
use Rattle.std.specs.List.{list_any}
use Rattle.spd_syntax.specs.declared.refusal.Refusal.TheVariants.{Unknown, Primed, Negative, TooFine, TooMany}
use Rattle.spd_syntax.specs.declared.refusal.What.TheVariants.{Nesting}
use Rattle.spd_reader.specs.Faults.{least, when}
use Rattle.spd_reader.specs.Trees.{use_faults, dd_parts, dd_nesting, primes_wrong, negative_wrong, fine_wrong}
use Rattle.spd_reader.specs.Facts.{primes_wrong_in, negative_wrong_in, fine_wrong_in}
use Rattle.spd_reader.specs.Scopes.{scope_of}
use Rattle.spd_reader.proofs.LeastLaws.{least_one, least_four}
use Rattle.spd_reader.proofs.FactLaws.{primes_asked, negative_asked, fine_asked, deep_asked}
use Rattle.spd_reader.proofs.names.Names.note_use.Goals as goal

pub returns-in-None : goal.returns-in-None
returns-in-None c =
    c.note.ensures ∙ least_one c.args.found.now (Unknown c.args.at)
    ∙ ap (λ dd. least c.args.found.now (use_faults (scope_of c.args.self.now) c.args.purpose c.args.depth c.args.at dd)) (sym c.in-None.is)

pub returns-in-Some : goal.returns-in-Some
returns-in-Some c =
    let s = scope_of c.args.self.now in
    let at = c.args.at in
    let parts = dd_parts s c.in-Some.dd in
    let primed = c.primes_wrong.ensures ∙ ap (λ f. primes_wrong_in c.args.purpose f.primed) c.facts_of-facts.ensures.told ∙ sym (primes_asked c.args.purpose parts) in
    let negative = c.negative_wrong.ensures ∙ ap (λ f. negative_wrong_in c.args.purpose f.negative) c.facts_of-facts.ensures.told ∙ sym (negative_asked c.args.purpose parts) in
    let fine = c.fine_wrong.ensures ∙ ap (λ f. fine_wrong_in c.args.purpose f.fine) c.facts_of-facts.ensures.told ∙ sym (fine_asked c.args.purpose parts) in
    let deep = ap (λ f. nat_lt c.args.depth f.nesting) c.facts_of-facts.ensures.told ∙ sym (deep_asked c.args.depth (dd_nesting s c.in-Some.dd) c.requires) in
    least_four c.args.found.now c.note_if.new.found c.note_if-in-Some.new.found c.note_if-in-Some-2.new.found c.note_if-in-Some-3.new.found
    (when (list_any (primes_wrong c.args.purpose) parts) (Primed at))
    (when (list_any (negative_wrong c.args.purpose) parts) (Negative at))
    (when (list_any (fine_wrong c.args.purpose) parts) (TooFine at))
    (when (nat_lt c.args.depth (dd_nesting s c.in-Some.dd)) (TooMany at Nesting))
    (c.note_if.ensures ∙ ap (λ b. least c.args.found.now (when b (Primed at))) primed)
    (c.note_if-in-Some.ensures ∙ ap (λ b. least c.note_if.new.found (when b (Negative at))) negative)
    (c.note_if-in-Some-2.ensures ∙ ap (λ b. least c.note_if-in-Some.new.found (when b (TooFine at))) fine)
    (c.note_if-in-Some-3.ensures ∙ ap (λ b. least c.note_if-in-Some-2.new.found (when b (TooMany at Nesting))) deep)
    ∙ ap (λ dd. least c.args.found.now (use_faults s c.args.purpose c.args.depth at dd)) (sym c.in-Some.is)
