use Rattle.std.proofs.Common.{ℕ, List, [], ◌∷◌, sym, subst, lit<}
use Rattle.spd_model.specs.States.{sizes, IsState}
use Rattle.spd_frozen.proofs.CallerLemmas.{fits-kids}
use Rattle.spd_client_rows.proofs.tables.a_table_gives_its_reduced_diagram.Goals as goal

pub at-requires : goal.at-requires
at-requires g c =
    let second : IsState (2 ∷ []) (1 ∷ []) = (lit< tt, tt) in
    let state : IsState (sizes c.in_ok-model.model) c.of.result =
    subst (λ (l : List ℕ). IsState l c.of.result) (sym c.in_ok-model.ensures) (subst (IsState (2 ∷ [])) (sym c.of.ensures) second) in
    fits-kids (sizes c.in_ok-model.model) c.of.result c.in_ok-frozen.frozen c.in_ok-frozen.ensures.fits state
