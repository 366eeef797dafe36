use Rattle.std.proofs.Common.{◌≡◌, ap, sym, ◌∙◌, List, ℕ, None, Some, IsSome, refl, subst}
use Rattle.std.specs.Prelude.{option_map, position, slice_set}
use Rattle.std.specs.Str.{bytes_eq}
use Rattle.spd_edge.specs.declared.openings.Opening.{Opening}
use Rattle.spd_edge.specs.declared.outside.Stage.{Stage}
use Rattle.spd_edge.specs.Names.{updated}
use Rattle.spd_edge.specs.Openings.{stage_among}
use Rattle.spd_edge.proofs.NamesLemmas.{under, under-set, under-none, shown-updated}
use Rattle.spd_edge.proofs.openings.Openings.set.Goals as goal

abbrev label : Opening → List ℕ
label opening = opening.name.items

pub unreachable-requires : goal.unreachable-requires
unreachable-requires c =
    let name = c.args.name.now in
    let before = c.self.inside.openings.items in
    let place : position (λ opening. bytes_eq (label opening) name) before ≡ None =
    ap (position (λ opening. bytes_eq (label opening) name)) (sym c.deref.ensures.value) ∙ sym c.in-None.ensures in
    let none : stage_among c.args.self.now name ≡ None =
    ap (λ (openings : List Opening). stage_among openings name) (sym c.self.view_is)
    ∙ ap (option_map (λ each. each.stage)) (under-none label before name place) in
    let never : IsSome {T = Stage} None = subst IsSome none c.requires in cc never

pub returns : goal.returns
returns c =
    let name = c.args.name.now in
    let before = c.self.inside.openings.items in
    let old : Opening = c.index_mut-opening.result.now in
    let opening : Opening = record old { stage = c.args.stage } in
    let place : position (λ each. bytes_eq (label each) name) before ≡ Some c.in-Some.at =
    ap (position (λ each. bytes_eq (label each) name)) (sym c.deref.ensures.value) ∙ sym c.in-Some.ensures in
    shown-updated (λ each. each.stage) (under label before) (under label (slice_set before c.in-Some.at opening)) name opening
    (under-set label before name c.in-Some.at old opening place c.index_mut-opening.ensures.value refl)
    ∙ ap (λ (openings : List Opening). updated (stage_among openings) name (Some c.args.stage)) c.self.view_is
