use Rattle.std.proofs.Common.{◌≡◌, ◌∙◌, ap, sym, subst, []}
use Rattle.spd_model.specs.Lawful.{IsLawful}
use Rattle.spd_reader.specs.Models.{faults_of, process_of}
use Rattle.spd_reader.specs.Reading.{names}
use Rattle.spd_reader.proofs.LeastLaws.{none_least}
use Rattle.spd_reader.proofs.Lawful.{lawful}
use Rattle.spd_reader.proofs.reader.read_model.Goals as goal

pub returns-in-Some-clause-refused : goal.returns-in-Some-clause-refused
returns-in-Some-clause-refused c = names c.in_ok-file.file c.in_ok-file.ensures.written (sym c.in_ok-said.ensures.notes ∙ c.in-Some.is)

pub into_model-requires : goal.into_model-requires
into_model-requires c =
    let named : faults_of c.args.bytes.now c.in_ok-file.file ≡ [] = none_least (faults_of c.args.bytes.now c.in_ok-file.file) (sym c.in_ok-said.ensures.notes ∙ c.in-None.is) in
    subst (λ s. IsLawful (process_of s)) (sym c.in_ok-said.ensures.means) (lawful c.args.bytes.now c.in_ok-file.file c.requires c.in_ok-file.ensures.written named)

pub returns-clause-read : goal.returns-clause-read
returns-clause-read c = record {
  text = c.in_ok-file.file;
  written = c.in_ok-file.ensures.written;
  named = none_least (faults_of c.args.bytes.now c.in_ok-file.file) (sym c.in_ok-said.ensures.notes ∙ c.in-None.is);
  means = c.in_ok-into_model-in-None.ensures ∙ ap process_of c.in_ok-said.ensures.means;
}
