-- A state in words, as a text grows by them.
use Rattle.std.proofs.Common.{◌≡◌, ℕ, zero, suc, ◌+◌, ◌<◌, ◌≤◌, List, [], ◌∷◌, ◌++◌, length, take, get_or, refl, ap, sym, ◌∙◌, arith, append_assoc, take_all}
use Rattle.std.specs.List.{join_with_byte, zip}
use Rattle.std.proofs.lemmas.List.{take_more, get_or-map, length-map, length-take-le}
use Rattle.std.proofs.lemmas.Slice.Zip.{get_or-zip, length-zip}
use Rattle.spd_model.specs.declared.process.Var.{Var}
use Rattle.spd_model.specs.Process.{Process}
use Rattle.spd_model.specs.ResultText.{state_words}
use Rattle.spd_solver.specs.Solve.{state_text}
use Rattle.spd_solver.specs.inner.Stages.{gap_before, state_word}

-- one more word
joined_more : (ws : List (List ℕ)) (w : List ℕ) → 0 < length ws → join_with_byte 32 (ws ++ w ∷ []) ≡ join_with_byte 32 ws ++ 32 ∷ w
joined_more [] w some = absurd (omega arith)
joined_more (v ∷ []) w some = refl
joined_more (v ∷ u ∷ ws) w some =
    ap (λ (t : List ℕ). v ++ (32 ∷ t)) (joined_more (u ∷ ws) w (omega arith)) ∙ sym (append_assoc v (32 ∷ join_with_byte 32 (u ∷ ws)) (32 ∷ w))

joined_next : (ws : List (List ℕ)) (i : ℕ) → i < length ws
    → join_with_byte 32 (take (i + 1) ws) ≡ (join_with_byte 32 (take i ws) ++ gap_before i) ++ get_or ws i []
joined_next ws zero within = ap (join_with_byte 32) (take_more ws 0 [] within)
joined_next ws (suc i) within =
    let some : 0 < length (take (suc i) ws) = omega (arith, length-take-le (suc i) ws (omega arith)) in
    ap (join_with_byte 32) (take_more ws (suc i) [] within) ∙ joined_more (take (suc i) ws) (get_or ws (suc i) []) some
    ∙ sym (append_assoc (join_with_byte 32 (take (suc i) ws)) (32 ∷ []) (get_or ws (suc i) []))

module _ (m : Process) (s : List ℕ) (vars : List Var) (all : vars ≡ m.vars) (same : length s ≡ length m.vars) where
  count : length (state_words m s) ≡ length vars
  count = length-map (zip m.vars s) (λ x. state_word x.0 x.1) ∙ omega (arith, length-zip m.vars s, ap length all)

  -- the words of the first variables, and one more
  pub next_word : (i v : ℕ) (var : Var) (before after : List ℕ) → i < length vars → var ≡ get_or vars i var → v ≡ get_or s i 0
      → before ≡ join_with_byte 32 (take i (state_words m s)) → after ≡ (before ++ gap_before i) ++ state_word var v
      → after ≡ join_with_byte 32 (take (i + 1) (state_words m s))
  next_word i v var before after within is value so_far then =
      let word = λ (x : Var × ℕ). state_word x.0 x.1 in
      let inside : i < length m.vars = omega (arith, ap length all) in
      let variable : get_or m.vars i var ≡ var = rw (← all) (sym is) in
      let here : get_or (state_words m s) i [] ≡ state_word var v =
      get_or-map word (zip m.vars s) i (var, 0) [] (omega (arith, length-zip m.vars s))
      ∙ rw (get_or-zip m.vars s i (var, 0) inside (omega (arith, same)), variable, value) refl in
      then ∙ ap (λ (t : List ℕ). (t ++ gap_before i) ++ state_word var v) so_far ∙ ap (λ (w : List ℕ). (join_with_byte 32 (take i (state_words m s)) ++ gap_before i) ++ w) (sym here) ∙ sym (joined_next (state_words m s) i (omega (arith, count)))

  pub all_words : (i : ℕ) (text : List ℕ) → length vars ≤ i → text ≡ join_with_byte 32 (take i (state_words m s)) → text ≡ state_text m s
  all_words i text past so_far = so_far ∙ ap (join_with_byte 32) (take_all i (state_words m s) (omega (arith, count)))
