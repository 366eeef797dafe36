use Rattle.std.proofs.Common.{◌≡◌, [], map, drop}
use Rattle.spd_model.specs.declared.process.Var.{Var}
use Rattle.spd_reader.specs.Faults.{least}
use Rattle.spd_reader.specs.Trees.{var_names}
use Rattle.spd_reader.specs.Models.{variables_of, variables_faults}
use Rattle.spd_reader.proofs.variables.variables.Given as goal

abbrev pub invariant-loop-declared : goal.invariant-loop-declared
invariant-loop-declared l =
    record {
      named : l.var_index ≡ var_names l.vars;
      valued : l.value_indexes.items ≡ map (λ (v : Var). v.values) l.vars;
      means : variables_of l.file l.vars (drop l.declared-index l.variables) ≡ variables_of l.file [] l.variables;
      notes : least l.found (variables_faults l.file l.vars (drop l.declared-index l.variables)) ≡ least l.fn.found (variables_faults l.file [] l.variables);
    }
