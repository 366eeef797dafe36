-- The line of the place: what is read is written so, and what is written so is read.
use Rattle.std.proofs.Common.{◌≡◌, ℕ, ◌<◌, Bool, true, false, cond, List, [], ◌∷◌, ◌++◌, length, map, codes, Option, Some, None, Result, Ok, refl, sym, ap, subst, ◌∙◌, append_assoc, append-nil}
use Rattle.std.specs.Prelude.{All, IsTrue, bytes_eq}
use Rattle.std.specs.List.{zip}
use Rattle.std.proofs.lemmas.List.Elements.{All-head, All-tail}
use Rattle.std.proofs.lemmas.Slice.Eq.{bytes_eq-Decides}
use Rattle.spd_model.specs.declared.process.Var.{Var}
use Rattle.spd_model.specs.declared.Side.{Side}
use Rattle.spd_model.specs.declared.Side.TheVariants.{Above, Below}
use Rattle.spd_model.specs.Names.{is_name}
use Rattle.spd_model.specs.Process.{Process}
use Rattle.spd_model.specs.States.{sizes, IsState}
use Rattle.spd_model.specs.Turns.{Place}
use Rattle.spd_model.specs.Lawful.{HasValues, IsLawful}
use Rattle.spd_model.specs.ResultText.{side_text, action_name, value_name, state_words, place_line}
use Rattle.spd_cert.specs.declared.ending.Kind.TheVariants.{Expected, Unknown}
use Rattle.spd_cert.specs.declared.ending.Stop.{Stop}
use Rattle.spd_cert.specs.Grammar.{IsWord}
use Rattle.spd_cert.specs.Words.{is_pair, pair_value, action_number, side_of}
use Rattle.spd_cert.specs.Reading.{◌>>=◌, stop, Word, word_at, goes_on, wanted, last, keyword, pair_at, state_at, place_at}
use Rattle.spd_cert.proofs.WordLaws.{bind_ok, ok_is, passed, wanted_ok, space_told, space_read, before_space, keyword_told, keyword_read, last_told, last_read}
use Rattle.spd_cert.proofs.NameLaws.{pair_word, pair_told, pair_read, pair_is_word, pair_is_pair, action_told, action_read, action_is_word}
use Rattle.spd_cert.proofs.LineLaws.{line_is, spaced, words_front}

-- ---- `variable=value`

pair_at_told : (var : Var) (bytes : List ℕ) (v : ℕ) (rest : List ℕ) → pair_at var bytes ≡ Ok (v, rest) → (v < length var.values) × (bytes ≡ pair_word var v ++ 32 ∷ rest)
unfolding pair_at
pair_at_told var bytes v rest e =
    let a = bind_ok (word_at bytes) (λ w. cond (is_pair w.text) (wanted w Unknown (pair_value var w.text) >>= λ u. goes_on w >>= λ r. Ok (u, r)) (stop Expected w.left)) (v, rest) e in
    let t = passed (is_pair a.0.text) (wanted a.0 Unknown (pair_value var a.0.text) >>= λ u. goes_on a.0 >>= λ r. Ok (u, r)) (record { kind = Expected; left = a.0.left }) (v, rest) a.2 in
    let b = bind_ok (wanted a.0 Unknown (pair_value var a.0.text)) (λ u. goes_on a.0 >>= λ r. Ok (u, r)) (v, rest) t.1 in
    let c = bind_ok (goes_on a.0) (λ r. Ok (b.0, r)) (v, rest) b.2 in
    let both = ok_is (b.0, c.0) (v, rest) c.2 in
    let parts = space_told bytes a.0 c.0 a.1 c.1 in
    let pair = pair_told var a.0.text b.0 (wanted_ok a.0 Unknown (pair_value var a.0.text) b.0 b.1) in
    subst (λ (x : ℕ × List ℕ). (x.0 < length var.values) × (bytes ≡ pair_word var x.0 ++ 32 ∷ x.1)) both
    (pair.0, parts.0 ∙ ap (λ (w : List ℕ). w ++ 32 ∷ c.0) pair.1)

pair_at_read : (var : Var) (v : ℕ) (rest : List ℕ) → IsTrue (is_name var.name) → HasValues var → v < length var.values → pair_at var (pair_word var v ++ 32 ∷ rest) ≡ Ok (v, rest)
unfolding pair_at
pair_at_read var v rest named has within =
    let w = before_space (pair_word var v) rest in
    ap (λ (r : Result Word Stop). r >>= λ x. cond (is_pair x.text) (wanted x Unknown (pair_value var x.text) >>= λ u. goes_on x >>= λ behind. Ok (u, behind)) (stop Expected x.left))
    (space_read (pair_word var v) rest (pair_is_word var named has v within))
    ∙ ap (λ b. cond b (wanted w Unknown (pair_value var (pair_word var v)) >>= λ u. Ok (u, rest)) (stop Expected w.left)) (pair_is_pair var named has v within)
    ∙ ap (λ (o : Option ℕ). wanted w Unknown o >>= λ u. Ok (u, rest)) (pair_read var named has v within)

-- ---- all variables

abbrev pub pairs : List Var → List ℕ → List (List ℕ)
pairs vars s = map (λ x. x.0.name ++ codes "=" ++ value_name x.0 x.1) (zip vars s)

abbrev pub sizes_of : List Var → List ℕ
sizes_of vars = map (λ (x : Var). length x.values) vars

pub record StateTold (vars : List Var) (front bytes s rest : List ℕ) : Type 0 where
  pub new : List ℕ
  pub whole : s ≡ front ++ new
  pub state : IsState (sizes_of vars) new
  pub parts : bytes ≡ spaced (pairs vars new) rest

pub state_told : (vars : List Var) (front bytes s rest : List ℕ) → state_at vars front bytes ≡ Ok (s, rest) → StateTold vars front bytes s rest
unfolding state_at
state_told [] front bytes s rest e =
    let both = ok_is (front, bytes) (s, rest) e in
    record { new = []; whole = sym (ap (λ (p : List ℕ × List ℕ). p.0) both) ∙ sym (append-nil front); state = tt; parts = ap (λ (p : List ℕ × List ℕ). p.1) both }
state_told (var ∷ vars) front bytes s rest e =
    let a = bind_ok (pair_at var bytes) (λ v. state_at vars (front ++ v.0 ∷ []) v.1) (s, rest) e in
    let one = pair_at_told var bytes a.0.0 a.0.1 a.1 in
    let more = state_told vars (front ++ a.0.0 ∷ []) a.0.1 s rest a.2 in
    record {
      new = a.0.0 ∷ more.new;
      whole = more.whole ∙ append_assoc front (a.0.0 ∷ []) more.new;
      state = (one.0, more.state);
      parts = one.1 ∙ ap (λ (t : List ℕ). pair_word var a.0.0 ++ 32 ∷ t) more.parts;
    }

pub state_read : (vars : List Var) (front s rest : List ℕ) → All (λ (x : Var). IsTrue (is_name x.name)) vars → All HasValues vars → IsState (sizes_of vars) s
    → state_at vars front (spaced (pairs vars s) rest) ≡ Ok (front ++ s, rest)
unfolding state_at
state_read [] front [] rest named has state = ap (λ (t : List ℕ). Ok (t, rest)) (sym (append-nil front))
state_read [] front (v ∷ s) rest named has state = absurd state
state_read (var ∷ vars) front [] rest named has state = absurd state
state_read (var ∷ vars) front (v ∷ s) rest named has state =
    ap (λ (r : Result (ℕ × List ℕ) Stop). r >>= λ x. state_at vars (front ++ x.0 ∷ []) x.1)
    (pair_at_read var v (spaced (pairs vars s) rest) (All-head (λ (x : Var). IsTrue (is_name x.name)) var vars named) (All-head HasValues var vars has) state.0)
    ∙ state_read vars (front ++ v ∷ []) s rest (All-tail (λ (x : Var). IsTrue (is_name x.name)) var vars named) (All-tail HasValues var vars has) state.1
    ∙ ap (λ (t : List ℕ). Ok (t, rest)) (append_assoc front (v ∷ []) s)

-- ---- the side

side_told : (w : List ℕ) (side : Side) → side_of w ≡ Some side → w ≡ side_text side
side_told w side e = by (bytes_eq w (codes "above")) refl e
  where
    second : (b : Bool) → bytes_eq w (codes "below") ≡ b → cond b (Some Below) None ≡ Some side → w ≡ side_text side
    second false t is = absurd cc
    second true t is =
        let which : Below ≡ side = cc in (bytes_eq-Decides w (codes "below")).0 t ∙ ap side_text which

    by : (b : Bool) → bytes_eq w (codes "above") ≡ b → cond b (Some Above) (cond (bytes_eq w (codes "below")) (Some Below) None) ≡ Some side → w ≡ side_text side
    by true t is =
        let which : Above ≡ side = cc in (bytes_eq-Decides w (codes "above")).0 t ∙ ap side_text which
    by false t is = second (bytes_eq w (codes "below")) refl is

side_is_word : (side : Side) → IsWord (side_text side)
side_is_word Above = refl
side_is_word Below = refl

side_read : (side : Side) → side_of (side_text side) ≡ Some side
side_read Above = refl
side_read Below = refl

-- ---- the line

pub record PlaceTold (m : Process) (bytes : List ℕ) (p : Place) (rest : List ℕ) : Type 0 where
  pub state : IsState (sizes m) p.state
  pub action : p.action < length m.actions
  pub parts : bytes ≡ place_line m p ++ rest

place_is : (m : Process) (p : Place) (rest : List ℕ)
    → codes "at" ++ 32 ∷ spaced (pairs m.vars p.state) (side_text p.side ++ 32 ∷ (action_name m p.action ++ 10 ∷ rest)) ≡ place_line m p ++ rest
place_is m p rest =
    sym (line_is ((codes "at" ∷ state_words m p.state) ++ side_text p.side ∷ action_name m p.action ∷ []) rest
    ∙ words_front (codes "at" ∷ state_words m p.state) (side_text p.side) (action_name m p.action ∷ []) rest)

pub place_told : (m : Process) (bytes : List ℕ) (p : Place) (rest : List ℕ) → place_at m bytes ≡ Ok (p, rest) → PlaceTold m bytes p rest
unfolding place_at
place_told m bytes p rest e =
    let a = bind_ok (keyword (codes "at") bytes)
    (λ x. state_at m.vars [] x >>= λ s. word_at s.1 >>= λ w. wanted w Expected (side_of w.text) >>= λ side. goes_on w >>= λ r. (word_at r >>= last Unknown (action_number m.actions)) >>= λ action. Ok (record { state = s.0; side = side; action = action.0 }, action.1))
    (p, rest) e in
    let b = bind_ok (state_at m.vars [] a.0)
    (λ s. word_at s.1 >>= λ w. wanted w Expected (side_of w.text) >>= λ side. goes_on w >>= λ r. (word_at r >>= last Unknown (action_number m.actions)) >>= λ action. Ok (record { state = s.0; side = side; action = action.0 }, action.1))
    (p, rest) a.2 in
    let c = bind_ok (word_at b.0.1)
    (λ w. wanted w Expected (side_of w.text) >>= λ side. goes_on w >>= λ r. (word_at r >>= last Unknown (action_number m.actions)) >>= λ action. Ok (record { state = b.0.0; side = side; action = action.0 }, action.1))
    (p, rest) b.2 in
    let d = bind_ok (wanted c.0 Expected (side_of c.0.text))
    (λ side. goes_on c.0 >>= λ r. (word_at r >>= last Unknown (action_number m.actions)) >>= λ action. Ok (record { state = b.0.0; side = side; action = action.0 }, action.1))
    (p, rest) c.2 in
    let f = bind_ok (goes_on c.0)
    (λ r. (word_at r >>= last Unknown (action_number m.actions)) >>= λ action. Ok (record { state = b.0.0; side = d.0; action = action.0 }, action.1))
    (p, rest) d.2 in
    let g = bind_ok (word_at f.0 >>= last Unknown (action_number m.actions)) (λ action. Ok (record { state = b.0.0; side = d.0; action = action.0 }, action.1)) (p, rest) f.2 in
    let read : Place = record { state = b.0.0; side = d.0; action = g.0.0 } in
    let both = ok_is (read, g.0.1) (p, rest) g.2 in
    let at = keyword_told (codes "at") bytes a.0 a.1 in
    let state = state_told m.vars [] a.0 b.0.0 b.0.1 b.1 in
    let word = space_told b.0.1 c.0 f.0 c.1 f.1 in
    let side = side_told c.0.text d.0 (wanted_ok c.0 Expected (side_of c.0.text) d.0 d.1) in
    let end = last_told Unknown (action_number m.actions) f.0 g.0.0 g.0.1 g.1 in
    let action = action_told m end.0 g.0.0 end.3 in
    let last_word : f.0 ≡ action_name m g.0.0 ++ 10 ∷ g.0.1 = end.1 ∙ ap (λ (w : List ℕ). w ++ 10 ∷ g.0.1) action.1 in
    let side_word : b.0.1 ≡ side_text d.0 ++ 32 ∷ (action_name m g.0.0 ++ 10 ∷ g.0.1) =
    word.0 ∙ (λ i. side i ++ 32 ∷ last_word i) in
    let states : a.0 ≡ spaced (pairs m.vars b.0.0) (side_text d.0 ++ 32 ∷ (action_name m g.0.0 ++ 10 ∷ g.0.1)) =
    state.parts ∙ (λ i. spaced (pairs m.vars (sym state.whole i)) (side_word i)) in
    subst (λ (x : Place × List ℕ). PlaceTold m bytes x.0 x.1) both (record {
      state = subst (λ (s : List ℕ). IsState (sizes m) s) (sym state.whole) state.state;
      action = action.0;
      parts = at ∙ ap (λ (t : List ℕ). codes "at" ++ 32 ∷ t) states ∙ place_is m read g.0.1;
    })

pub place_read : (m : Process) (p : Place) (rest : List ℕ) → IsLawful m → IsState (sizes m) p.state → p.action < length m.actions → place_at m (place_line m p ++ rest) ≡ Ok (p, rest)
unfolding place_at
place_read m p rest lawful state action =
    let end = action_name m p.action ++ 10 ∷ rest in
    let tail = side_text p.side ++ 32 ∷ end in
    ap (place_at m) (sym (place_is m p rest))
    ∙ rw (
      keyword_read (codes "at") (spaced (pairs m.vars p.state) tail) refl,
      state_read m.vars [] p.state tail lawful.vars_named lawful.values state,
      space_read (side_text p.side) end (side_is_word p.side),
      side_read p.side,
      last_read Unknown (action_number m.actions) (action_name m p.action) p.action rest (action_is_word m lawful p.action action) (action_read m lawful p.action action),
    ) refl
