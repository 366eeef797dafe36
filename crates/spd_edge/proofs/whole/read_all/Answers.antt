use Rattle.std.proofs.Common.{arith, ◌≡◌, ◌≢◌, ℕ, ◌+◌, ◌≤◌, ◌++◌, take, length, length-append, refl, Result, Ok, Err, IfErr}
use Rattle.std.proofs.lemmas.Grind.{common_steps}
use Rattle.std.proofs.lemmas.List.{length-take-le}
use Rattle.spd_edge.specs.Told.{GaveCount}
use Rattle.spd_edge.specs.declared.outside.ReadAll.{ReadAll}
use Rattle.spd_edge.specs.declared.outside.ReadAll.TheVariants.{TooLong}
use Rattle.spd_edge.proofs.CallerLemmas.{Gave-trans}
use Rattle.spd_edge.proofs.whole.read_all.Goals as goal

-- the byte past the limit is the last that was taken
pub returns-then-n-room-clause-too_long : goal.returns-then-n-room-clause-too_long
returns-then-n-room-clause-too_long g c =
    λ _.
    let before = c.loop-bytes.bytes in
    let n = c.in_ok-n.n in
    let chunk = c.read_at_most.new.chunk in
    let len : length before.items ≡ c.len.result = grind (arith, common_steps) in
    let more : length (take n chunk) ≡ n = length-take-le n chunk (grind (arith, common_steps)) in (
      before.items ++ take n chunk,
      Gave-trans _ _ _ _ _ c.loop-bytes.invariant.gave c.in_ok-n.ensures.gave,
      rw (length-append, more, len) (grind (arith, common_steps)),
    )

-- a fact of every error holds of the one that came
of_any : {A : Type 0} (P : ReadAll → Type 0) (r : Result A ReadAll) → ((e : ReadAll) → P e) → IfErr r P
of_any P (Ok _) each = tt
of_any P (Err e) each = each e

-- the bytes that were read when memory was wanted
pub returns-in_err-extend_from_slice-clause-other_errors :
    goal.returns-in_err-extend_from_slice-clause-other_errors
returns-in_err-extend_from_slice-clause-other_errors g c =
    let before = c.loop-bytes.bytes in
    let n = c.in_ok-n.n in
    let chunk = c.read_at_most.new.chunk in
    let len : length before.items ≡ c.len.result = grind (arith, common_steps) in
    let more : length (take n chunk) ≡ n = length-take-le n chunk (grind (arith, common_steps)) in
    let within : c.len.result + n ≤ c.args.limit = grind (arith, common_steps) in
    let gave : GaveCount (g.S.Source.left c.args.s.now) (c.len.result + n) (g.S.Source.left c.read_at_most.new.s) = (
      before.items ++ take n chunk,
      Gave-trans _ _ _ _ _ c.loop-bytes.invariant.gave c.in_ok-n.ensures.gave,
      rw (length-append, more, len) refl,
    ) in
    let P : ReadAll → Type 0 =
    λ e. e ≢ TooLong → (k : ℕ) × (k ≤ c.args.limit) × GaveCount (g.S.Source.left c.args.s.now) k (g.S.Source.left c.read_at_most.new.s) in
    of_any P _ (λ _ _. (c.len.result + n, within, gave))
