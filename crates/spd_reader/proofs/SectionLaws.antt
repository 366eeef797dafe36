-- What sections say and the faults of their names, section by section.
use Rattle.std.proofs.Common.{◌≡◌, ℕ, ◌+◌, ◌<◌, ◌≤◌, List, ◌∷◌, length, get_or, drop, Option, None, sym, ap, ◌∙◌}
use Rattle.std.proofs.lemmas.List.{at_drop_more, at_drop_all}
use Rattle.spd_syntax.specs.declared.file.Section.{Section}
use Rattle.spd_syntax.specs.declared.refusal.Refusal.{Refusal}
use Rattle.spd_reader.specs.Faults.{least}
use Rattle.spd_model.specs.declared.process.Action.{Action}
use Rattle.spd_reader.specs.Trees.{Scope}
use Rattle.spd_reader.specs.Models.{Said, with_section, section_faults, sections_of, sections_faults}
use Rattle.spd_reader.proofs.LeastLaws.{least_two, least_none}

-- actions alone were said
abbrev pub begun : Scope → List Action → Said
begun s actions = record { scope = s; actions = actions; reward = None; discount = None; tolerance = None; horizon = None }

-- one section more
module _ (file : List ℕ) (said more : Said) (ss : List Section) (i : ℕ) (b d : Section) (within : i < length ss) (item : b ≡ get_or ss i d) (is : more ≡ with_section file said b) where
  pub section_means : (all : Said) → sections_of file said (drop i ss) ≡ all → sections_of file more (drop (i + 1) ss) ≡ all
  section_means all told =
      ap (λ (x : Said). sections_of file x (drop (i + 1) ss)) is ∙ ap (λ (x : Section). sections_of file said (x ∷ drop (i + 1) ss)) item
      ∙ sym (at_drop_more (λ (l : List Section). sections_of file said l) ss i d within) ∙ told

  pub section_notes : (found after all : Option Refusal) → after ≡ least found (section_faults file said b)
      → least found (sections_faults file said (drop i ss)) ≡ all → least after (sections_faults file more (drop (i + 1) ss)) ≡ all
  section_notes found after all noted told =
      least_two found after (least after (sections_faults file more (drop (i + 1) ss))) (section_faults file said b) (sections_faults file (with_section file said b) (drop (i + 1) ss))
      noted (ap (λ (x : Said). least after (sections_faults file x (drop (i + 1) ss))) is)
      ∙ ap (λ (x : Section). least found (sections_faults file said (x ∷ drop (i + 1) ss))) item
      ∙ sym (at_drop_more (λ (l : List Section). least found (sections_faults file said l)) ss i d within) ∙ told

pub sections_noted : (file : List ℕ) (said : Said) (found all : Option Refusal) (ss : List Section) (i : ℕ) → length ss ≤ i → least found (sections_faults file said (drop i ss)) ≡ all → found ≡ all
sections_noted file said found all ss i past told =
    least_none found ∙ sym (at_drop_all (λ (l : List Section). least found (sections_faults file said l)) ss i past) ∙ told
