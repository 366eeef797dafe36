use Rattle.std.proofs.Common.{◌≡◌, ◌∙◌, ap, sym, arith, ◌++◌, ◌∷◌, [], map}
use Rattle.std.proofs.lemmas.List.{map_push}
use Rattle.spd_model.specs.declared.process.Var.{Var}
use Rattle.spd_syntax.specs.declared.refusal.Refusal.TheVariants.{Twice}
use Rattle.spd_syntax.specs.Words.{text_of}
use Rattle.spd_reader.specs.Faults.{least, when}
use Rattle.spd_reader.specs.Trees.{is_among, var_names}
use Rattle.spd_reader.specs.Models.{with_variable}
use Rattle.spd_reader.proofs.VariableLaws.{variable_means, variable_notes, variables_noted, variable_again, variable_new, names_new}
use Rattle.spd_reader.proofs.variables.variables.Goals as goal
use Rattle.spd_reader.proofs.variables.variables.Goals.{then-not-twice+in_ok-declare+in_ok-push+in_ok-push-2, else-not-twice}

pub loop-declared-preserved : goal.loop-declared-preserved
loop-declared-preserved c =
    let file = c.args.file.now in
    let vs = c.args.variables.now in
    let i = c.loop-declared.declared-index in
    let v = c.declared-item.result in
    let vars = c.loop-declared.vars in
    let named = c.loop-declared.invariant.named in
    let text = c.text_of-name.ensures in
    let twice : c.contains-twice.result ≡ is_among (var_names vars) (text_of file v.name) =
    c.contains-twice.ensures ∙ ap (λ l. is_among l c.text_of-name.result.now) named ∙ ap (is_among (var_names vars)) text in
    let more : c.if-not-twice.vars ≡ with_variable file vars v =
    elim c.if-not-twice.branch [
      | then-not-twice+in_ok-declare+in_ok-push+in_ok-push-2 w ↦
          w.vars-is ∙ w.in_ok-push.ensures.ok ∙ ap (λ (x : Var). vars ++ x ∷ []) c.in_ok-var.ensures.means ∙ variable_new file vars v c.contains-twice.result twice w.if-not-twice.true
      | else-not-twice w ↦ w.vars-is ∙ variable_again file vars v c.contains-twice.result twice w.if-not-twice.false
    ] in
    record {
      named = elim c.if-not-twice.branch [
        | then-not-twice+in_ok-declare+in_ok-push+in_ok-push-2 w ↦
            w.var_index-is ∙ names_new file vars v c.contains-twice.result twice c.loop-declared.var_index w.declare.new.self c.text_of-name.result.now w.if-not-twice.true named text w.in_ok-declare.ensures
            ∙ sym (ap var_names (w.vars-is ∙ w.in_ok-push.ensures.ok ∙ ap (λ (x : Var). vars ++ x ∷ []) c.in_ok-var.ensures.means))
        | else-not-twice w ↦ w.var_index-is ∙ named ∙ sym (ap var_names w.vars-is)
      ];
      valued = elim c.if-not-twice.branch [
        | then-not-twice+in_ok-declare+in_ok-push+in_ok-push-2 w ↦
            ap (λ x. x.items) w.value_indexes-is ∙ w.in_ok-push-2.ensures.items ∙ ap (λ l. l ++ c.in_ok-var.values ∷ []) c.loop-declared.invariant.valued
            ∙ ap (λ y. map (λ (x : Var). x.values) vars ++ y ∷ []) c.in_ok-var.ensures.values
            ∙ sym (ap (map (λ (x : Var). x.values)) (w.vars-is ∙ w.in_ok-push.ensures.ok) ∙ map_push (λ (x : Var). x.values) vars c.in_ok-var.var)
        | else-not-twice w ↦ ap (λ x. x.items) w.value_indexes-is ∙ c.loop-declared.invariant.valued ∙ sym (ap (map (λ (x : Var). x.values)) w.vars-is)
      ];
      means = variable_means file vars c.if-not-twice.vars vs i v v c.loop-declared-test.true c.declared-item.is more _ c.loop-declared.invariant.means;
      notes = variable_notes file vars c.if-not-twice.vars vs i v v c.loop-declared-test.true c.declared-item.is more c.loop-declared.found c.note_if.new.found c.variable.new.found _
          (c.note_if.ensures ∙ ap (λ b. least c.loop-declared.found (when b (Twice v.name.from))) twice) c.in_ok-var.ensures.notes c.loop-declared.invariant.notes;
    }

pub returns-clause-notes : goal.returns-clause-notes
returns-clause-notes c =
    variables_noted c.args.file.now c.loop-declared.vars c.args.variables.now c.loop-declared.declared-index c.loop-declared.found _ (omega arith) c.loop-declared.invariant.notes
