-- One direction of a place in memory, by name.
use Rattle.std.proofs.Common.{◌≡◌, ◌≢◌, ℕ, ◌^◌, ◌<◌, List, [], ◌∷◌, ◌++◌, Bool, true, false, ◌||◌, ◌&&◌, cond, Option, None, Some, All, refl, sym, ap, ◌∙◌, subst}
use Rattle.std.specs.Prelude.{position, option_map, slice_set, slice_index_or, slice_get, is_none}
use Rattle.std.specs.Option.{option_map_or}
use Rattle.std.specs.List.{position_or_len}
use Rattle.std.specs.Str.{bytes_eq}
use Rattle.std.proofs.Math.Bool.{or-true, or-false}
use Rattle.std.proofs.lemmas.Option.{slice_get_within, get_or_from_slice_get}
use Rattle.std.proofs.lemmas.List.Elements.{All-set}
use Rattle.std.proofs.lemmas.List.Folds.{find_at}
use Rattle.spd_edge.specs.declared.shelf.Put.{Put}
use Rattle.spd_edge.specs.declared.outside.Stage.{Stage}
use Rattle.spd_edge.specs.Counts.{AllInRange, counted}
use Rattle.spd_edge.specs.Names.{is_among, updated}
use Rattle.spd_edge.specs.MemoryPlace.{Kept, Shelf, put_among, shelf_of, shares_count, counting}
use Rattle.spd_edge.proofs.CallerLemmas.{bytes_eq-same, bytes_eq-other}
use Rattle.spd_edge.proofs.NamesLemmas.{bytes_eq-cases, updated-kept, under-set, under-push, under-found, under-none, option_map-None, shown-updated, shown_or-updated, is_among-push}

module _ {X : Type 0} where
  abbrev pub label : Put X → List ℕ
  label put = put.name.items

  -- what holds of each that was put holds of the one that is found
  found_holds : (P : Put X → Type 0) (puts : List (Put X)) (name : List ℕ) (put : Put X) → All P puts → put_among puts name ≡ Some put → P put
  found_holds P puts name put all found =
      let test : Put X → Bool = λ each. bytes_eq (label each) name in
      let at : slice_get puts (position_or_len test puts) ≡ Some put = sym (find_at test puts) ∙ found in
      subst P (get_or_from_slice_get puts (position_or_len test puts) put put at) (all (position_or_len test puts) put (slice_get_within puts (position_or_len test puts) put at))

  in_range : (kept : Kept X) → All (λ put. put.faults < 2 ^ 64) kept.puts → kept.faults < 2 ^ 64 → AllInRange (shelf_of kept).faults
  unfolding shelf_of
  in_range kept all shared name =
      elim (put_among kept.puts name) as (λ o. put_among kept.puts name ≡ o → option_map_or (λ put. put.faults) o kept.faults < 2 ^ 64) [
        | None ↦ λ _. shared
        | Some put ↦ λ found. found_holds (λ each. each.faults < 2 ^ 64) kept.puts name put all found
      ] refl

  -- a shelf where all that is shown of one name is anew
  abbrev pub renewed : Shelf X → List ℕ → Put X → Shelf X
  renewed shelf name put = record {
    put = updated shelf.put name (Some put.object);
    closed = updated shelf.closed name put.closed;
    stage = updated shelf.stage name put.stage;
    faults = updated shelf.faults name put.faults;
  }

  renewed-by : (kept now : Kept X) (name : List ℕ) (put : Put X) → now.refused ≡ kept.refused → now.faults ≡ kept.faults
      → put_among now.puts ≡ updated (put_among kept.puts) name (Some put) → shelf_of now ≡ renewed (shelf_of kept) name put
  unfolding shelf_of
  renewed-by kept now name put refused faults is =
      let others : shelf_of now ≡ shelf_of (record kept { puts = now.puts }) = λ i. shelf_of (record { puts = now.puts; refused = refused i; faults = faults i }) in
      let objects = shown-updated (λ each. each.object) (put_among kept.puts) (put_among now.puts) name put is in
      let closed = shown_or-updated (λ each. each.closed) (λ _. None) (put_among kept.puts) (put_among now.puts) name put is in
      let stages = shown_or-updated (λ each. each.stage) (λ other. cond (is_among kept.refused other) (Some Stage.Unopened) None) (put_among kept.puts) (put_among now.puts) name put is in
      let counts = shown_or-updated (λ each. each.faults) (λ _. kept.faults) (put_among kept.puts) (put_among now.puts) name put is in
      let all : shelf_of (record kept { puts = now.puts }) ≡ renewed (shelf_of kept) name put =
      λ i. record { put = objects i; closed = closed i; stage = stages i; faults = counts i } in
      others ∙ all

  -- nothing of a name is anew but its stage
  pub renewed-stage : (kept : Kept X) (name : List ℕ) (put : Put X) (stage : Option Stage) → put_among kept.puts name ≡ Some put
      → renewed (shelf_of kept) name (record put { stage = stage }) ≡ record (shelf_of kept) { stage = updated (shelf_of kept).stage name stage }
  unfolding shelf_of
  renewed-stage kept name put stage found =
      let shelf = shelf_of kept in
      let objects = updated-kept shelf.put name (Some put.object) (ap (option_map (λ each. each.object)) found) in
      let closed = updated-kept shelf.closed name put.closed (ap (λ o. option_map_or (λ each. each.closed) o None) found) in
      let counts = updated-kept shelf.faults name put.faults (ap (λ o. option_map_or (λ each. each.faults) o kept.faults) found) in
      λ i. record { put = objects i; closed = closed i; stage = updated shelf.stage name stage; faults = counts i }

  -- more faults of a name under which something was put are counted for it alone
  pub counting-put : (shelf : Shelf X) (name : List ℕ) (more : ℕ) (x : X) → shelf.put name ≡ Some x
      → counting shelf name more ≡ record shelf { faults = updated shelf.faults name (counted (shelf.faults name) more) }
  counting-put shelf name more x found =
      let count : (other : List ℕ) → cond (shares_count shelf name other) (counted (shelf.faults other) more) (shelf.faults other)
      ≡ updated shelf.faults name (counted (shelf.faults name) more) other =
      λ other. bytes_eq-cases
      (λ b. cond (b || (is_none (shelf.put name) && is_none (shelf.put other))) (counted (shelf.faults other) more) (shelf.faults other) ≡ cond b (counted (shelf.faults name) more) (shelf.faults other))
      other name
      (λ same. ap (λ q. counted (shelf.faults q) more) same)
      (λ _. ap (λ o. cond (is_none o && is_none (shelf.put other)) (counted (shelf.faults other) more) (shelf.faults other)) found) in
      λ i. record { put = shelf.put; closed = shelf.closed; stage = shelf.stage; faults = λ other. count other i }

  -- an object is closed under a name under which something was put
  pub renewed-closed : (kept : Kept X) (name : List ℕ) (put now : Put X) (object : X) (more : ℕ) → put_among kept.puts name ≡ Some put
      → now ≡ record put { closed = Some object; stage = Some Stage.Closed; faults = counted put.faults more }
      → renewed (shelf_of kept) name now
      ≡ counting (record (shelf_of kept) { closed = updated (shelf_of kept).closed name (Some object); stage = updated (shelf_of kept).stage name (Some Stage.Closed) }) name more
  unfolding shelf_of
  renewed-closed kept name put now object more found is =
      let shelf = shelf_of kept in
      let here : shelf.put name ≡ Some put.object = ap (option_map (λ each. each.object)) found in
      let objects = updated-kept shelf.put name (Some put.object) here in
      let count : counted put.faults more ≡ counted (shelf.faults name) more = ap (λ o. counted (option_map_or (λ each. each.faults) o kept.faults) more) (sym found) in
      let marked : Shelf X = record shelf { closed = updated shelf.closed name (Some object); stage = updated shelf.stage name (Some Stage.Closed) } in
      let all : renewed shelf name (record put { closed = Some object; stage = Some Stage.Closed; faults = counted put.faults more })
      ≡ record marked { faults = updated shelf.faults name (counted (shelf.faults name) more) } =
      λ i. record {
        put = objects i;
        closed = updated shelf.closed name (Some object);
        stage = updated shelf.stage name (Some Stage.Closed);
        faults = updated shelf.faults name (count i);
      } in
      ap (renewed shelf name) is ∙ all ∙ sym (counting-put marked name more put.object here)

  -- a name under which nothing was put is refused, and a fault is counted
  refused-by : (kept : Kept X) (name : List ℕ) → put_among kept.puts name ≡ None
      → shelf_of (record kept { refused = kept.refused ++ name ∷ []; faults = counted kept.faults 1 })
      ≡ counting (record (shelf_of kept) { stage = updated (shelf_of kept).stage name (Some Stage.Unopened) }) name 1
  unfolding shelf_of
  refused-by kept name none =
      let shelf = shelf_of kept in
      let now : Kept X = record kept { refused = kept.refused ++ name ∷ []; faults = counted kept.faults 1 } in
      let staged : (other : List ℕ) → (shelf_of now).stage other ≡ updated shelf.stage name (Some Stage.Unopened) other =
      λ other. bytes_eq-cases (λ b. (shelf_of now).stage other ≡ cond b (Some Stage.Unopened) (shelf.stage other)) other name
      (λ same.
      ap (λ o. option_map_or (λ each. each.stage) o (cond (is_among now.refused other) (Some Stage.Unopened) None)) (ap (put_among kept.puts) same ∙ none)
      ∙ ap (λ b. cond b (Some Stage.Unopened) None)
      (is_among-push kept.refused name other ∙ ap (λ q. is_among kept.refused other || bytes_eq name q) same ∙ ap (λ b. is_among kept.refused other || b) (bytes_eq-same name) ∙ or-true (is_among kept.refused other)))
      (λ differ.
      ap (λ b. option_map_or (λ each. each.stage) (put_among kept.puts other) (cond b (Some Stage.Unopened) None))
      (is_among-push kept.refused name other ∙ ap (λ b. is_among kept.refused other || b) (bytes_eq-other name other (λ same. differ (sym same))) ∙ or-false (is_among kept.refused other))) in
      let count : (other : List ℕ) → (shelf_of now).faults other
      ≡ cond (bytes_eq other name || (is_none (shelf.put name) && is_none (shelf.put other))) (counted (shelf.faults other) 1) (shelf.faults other) =
      λ other.
      let free : is_none (shelf.put name) ≡ true = ap (λ o. is_none (option_map (λ each. each.object) o)) none in
      rw free (elim (put_among kept.puts other) as (λ o. put_among kept.puts other ≡ o
      → option_map_or (λ each. each.faults) o (counted kept.faults 1)
      ≡ cond (bytes_eq other name || is_none (option_map (λ each. each.object) o)) (counted (option_map_or (λ each. each.faults) o kept.faults) 1) (option_map_or (λ each. each.faults) o kept.faults)) [
        | None ↦ λ _. ap (λ b. cond b (counted kept.faults 1) kept.faults) (sym (or-true (bytes_eq other name)))
        | Some put ↦ λ found.
            let differ : other ≢ name = λ same. let never : None ≡ Some put = sym none ∙ ap (put_among kept.puts) (sym same) ∙ found in cc never in
            ap (λ b. cond (b || false) (counted put.faults 1) put.faults) (sym (bytes_eq-other other name differ))
      ] refl) in
      λ i. record { put = shelf.put; closed = shelf.closed; stage = λ other. staged other i; faults = λ other. count other i }

  -- a name under which nothing is shown to be put has nothing put under it
  put-None : (kept : Kept X) (name : List ℕ) → (shelf_of kept).put name ≡ None → put_among kept.puts name ≡ None
  unfolding shelf_of
  put-None kept name none = option_map-None (λ put. put.object) (put_among kept.puts name) none

  -- a name under which nothing was put isn't open
  pub stranger-not_open : (kept : Kept X) (name : List ℕ) → put_among kept.puts name ≡ None → (shelf_of kept).stage name ≢ Some Stage.Open
  unfolding shelf_of
  stranger-not_open kept name none is =
      let never : (b : Bool) → cond b (Some Stage.Unopened) None ≢ Some Stage.Open = λ b. elim b as (λ v. cond v (Some Stage.Unopened) None ≢ Some Stage.Open) [ true ↦ λ e. cc e | false ↦ λ e. cc e ] in
      never (is_among kept.refused name) (ap (λ o. option_map_or (λ each. each.stage) o (cond (is_among kept.refused name) (Some Stage.Unopened) None)) (sym none) ∙ is)

  -- what stands at the first place of a name was put under it
  pub shelf-found : (kept held : Kept X) (name : List ℕ) (at : ℕ) (put : Put X) → kept ≡ held → position (λ each. bytes_eq (label each) name) kept.puts ≡ Some at
      → put ≡ slice_index_or kept.puts at put → put_among held.puts name ≡ Some put
  shelf-found kept held name at put same place there =
      ap (λ (h : Kept X). put_among h.puts name) (sym same) ∙ under-found label kept.puts name at put place there

  -- nothing was put under a name that has no place
  pub shelf-missing : (kept held : Kept X) (name : List ℕ) → kept ≡ held → position (λ each. bytes_eq (label each) name) kept.puts ≡ None → put_among held.puts name ≡ None
  shelf-missing kept held name same place = ap (λ (h : Kept X). put_among h.puts name) (sym same) ∙ under-none label kept.puts name place

  -- the count of each name is in range
  pub shelf-in_range : (kept held : Kept X) → kept ≡ held → All (λ put. put.faults < 2 ^ 64) kept.puts → kept.faults < 2 ^ 64 → AllInRange (shelf_of held).faults
  unfolding shelf_of
  shelf-in_range kept held same all shared = subst (λ (h : Kept X). AllInRange (shelf_of h).faults) same (in_range kept all shared)

  -- so is it where what was put under one name is written anew
  pub shelf-set-in_range : (kept : Kept X) (at : ℕ) (now : Put X) → All (λ put. put.faults < 2 ^ 64) kept.puts → kept.faults < 2 ^ 64 → now.faults < 2 ^ 64
      → AllInRange (shelf_of (record kept { puts = slice_set kept.puts at now })).faults
  unfolding shelf_of
  shelf-set-in_range kept at now all shared here =
      in_range (record kept { puts = slice_set kept.puts at now }) (All-set (λ put. put.faults < 2 ^ 64) kept.puts at now here all) shared

  -- and the count of what stands at the first place of a name
  pub put-in_range : (puts : List (Put X)) (name : List ℕ) (at : ℕ) (put : Put X) → All (λ each. each.faults < 2 ^ 64) puts → position (λ each. bytes_eq (label each) name) puts ≡ Some at
      → put ≡ slice_index_or puts at put → put.faults < 2 ^ 64
  put-in_range puts name at put all place there = found_holds (λ each. each.faults < 2 ^ 64) puts name put all (under-found label puts name at put place there)

  -- a name was refused
  pub shelf-refuse : (kept now held : Kept X) (name : List ℕ) → kept ≡ held → (shelf_of held).put name ≡ None
      → now.puts ≡ kept.puts → now.refused ≡ kept.refused ++ name ∷ [] → now.faults ≡ counted kept.faults 1
      → shelf_of now ≡ counting (record (shelf_of held) { stage = updated (shelf_of held).stage name (Some Stage.Unopened) }) name 1
  unfolding shelf_of
  shelf-refuse kept now held name same none puts refused faults =
      subst (λ (h : Kept X). (shelf_of h).put name ≡ None → shelf_of now ≡ counting (record (shelf_of h) { stage = updated (shelf_of h).stage name (Some Stage.Unopened) }) name 1) same
      (λ shown.
      let all : shelf_of now ≡ shelf_of (record kept { refused = kept.refused ++ name ∷ []; faults = counted kept.faults 1 }) =
      λ i. shelf_of (record { puts = puts i; refused = refused i; faults = faults i }) in
      all ∙ refused-by kept name (put-None kept name shown))
      none

  -- an object was put
  pub shelf-put : (kept now held : Kept X) (name : List ℕ) (put : Put X) → kept ≡ held → (shelf_of held).put name ≡ None → label put ≡ name
      → now.puts ≡ kept.puts ++ put ∷ [] → now.refused ≡ kept.refused → now.faults ≡ kept.faults
      → put.closed ≡ None → put.stage ≡ cond (is_among kept.refused name) (Some Stage.Unopened) None → put.faults ≡ kept.faults
      → shelf_of now ≡ record (shelf_of held) { put = updated (shelf_of held).put name (Some put.object) }
  unfolding shelf_of
  shelf-put kept now held name put same none named puts refused faults closed stage count =
      subst (λ (h : Kept X). (shelf_of h).put name ≡ None → shelf_of now ≡ record (shelf_of h) { put = updated (shelf_of h).put name (Some put.object) }) same
      (λ shown.
      let shelf = shelf_of kept in
      let stray = put-None kept name shown in
      let no_close = updated-kept shelf.closed name put.closed (ap (λ o. option_map_or (λ each. each.closed) o None) stray ∙ sym closed) in
      let same_stage = updated-kept shelf.stage name put.stage
      (ap (λ o. option_map_or (λ each. each.stage) o (cond (is_among kept.refused name) (Some Stage.Unopened) None)) stray ∙ sym stage) in
      let same_count = updated-kept shelf.faults name put.faults (ap (λ o. option_map_or (λ each. each.faults) o kept.faults) stray ∙ sym count) in
      let all : renewed shelf name put ≡ record shelf { put = updated shelf.put name (Some put.object) } =
      λ i. record { put = updated shelf.put name (Some put.object); closed = no_close i; stage = same_stage i; faults = same_count i } in
      renewed-by kept now name put refused faults (ap (λ (xs : List (Put X)). put_among xs) puts ∙ under-push label kept.puts name put stray named) ∙ all)
      none

  -- a name was marked as open
  pub shelf-open : (kept held : Kept X) (name : List ℕ) (at : ℕ) (put : Put X) → kept ≡ held → position (λ each. bytes_eq (label each) name) kept.puts ≡ Some at
      → put ≡ slice_index_or kept.puts at put
      → shelf_of (record kept { puts = slice_set kept.puts at (record put { stage = Some Stage.Open }) }) ≡ record (shelf_of held) { stage = updated (shelf_of held).stage name (Some Stage.Open) }
  unfolding shelf_of
  shelf-open kept held name at put same place there =
      let now : Put X = record put { stage = Some Stage.Open } in
      let marked : Kept X → Shelf X = λ h. record (shelf_of h) { stage = updated (shelf_of h).stage name (Some Stage.Open) } in
      renewed-by kept (record kept { puts = slice_set kept.puts at now }) name now refl refl (under-set label kept.puts name at put now place there refl)
      ∙ renewed-stage kept name put (Some Stage.Open) (under-found label kept.puts name at put place there)
      ∙ ap marked same

  -- an object was closed
  pub shelf-close : (kept held : Kept X) (name : List ℕ) (at : ℕ) (put : Put X) (object : X) (more count : ℕ) → kept ≡ held
      → position (λ each. bytes_eq (label each) name) kept.puts ≡ Some at → put ≡ slice_index_or kept.puts at put → count ≡ counted put.faults more
      → shelf_of (record kept { puts = slice_set kept.puts at (record put { closed = Some object; stage = Some Stage.Closed; faults = count }) })
      ≡ counting (record (shelf_of held) { closed = updated (shelf_of held).closed name (Some object); stage = updated (shelf_of held).stage name (Some Stage.Closed) }) name more
  unfolding shelf_of
  shelf-close kept held name at put object more count same place there is =
      let now : Put X = record put { closed = Some object; stage = Some Stage.Closed; faults = count } in
      let counts : now ≡ record put { closed = Some object; stage = Some Stage.Closed; faults = counted put.faults more } = λ i. record put { closed = Some object; stage = Some Stage.Closed; faults = is i } in
      let marked : Kept X → Shelf X = λ h.
      counting (record (shelf_of h) { closed = updated (shelf_of h).closed name (Some object); stage = updated (shelf_of h).stage name (Some Stage.Closed) }) name more in
      renewed-by kept (record kept { puts = slice_set kept.puts at now }) name now refl refl (under-set label kept.puts name at put now place there refl)
      ∙ renewed-closed kept name put now object more (under-found label kept.puts name at put place there) counts
      ∙ ap marked same
