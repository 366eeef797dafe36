-- Values by name, and look-ups by name in a list.
use Rattle.std.proofs.Common.{◌≡◌, ◌≢◌, ℕ, ◌<◌, List, [], ◌∷◌, ◌++◌, length, Bool, true, false, cond, ◌||◌, Option, None, Some, refl, sym, ap, ◌∙◌, arith}
use Rattle.std.specs.Prelude.{find, position, option_map, slice_set, slice_index_or, slice_get}
use Rattle.std.specs.Option.{option_map_or, option_or}
use Rattle.std.specs.List.{position_or_len}
use Rattle.std.specs.Str.{bytes_eq}
use Rattle.std.proofs.lemmas.Grind.{common_steps}
use Rattle.std.proofs.lemmas.Slice.Eq.{bytes_eq-Decides}
use Rattle.std.proofs.lemmas.Option.{slice_get-get_or, slice_get_past}
use Rattle.std.proofs.lemmas.List.Folds.{find-append, find-set, find_past, find_at, list_any-append}
use Rattle.std.proofs.Math.Bool.{or-false}
use Rattle.spd_edge.proofs.CallerLemmas.{bytes_eq-same, bytes_eq-other}
use Rattle.spd_edge.specs.Names.{is_among, updated, SameButFor}

-- whether or not a text is another
pub bytes_eq-cases : (P : Bool → Type 0) (name other : List ℕ) → (name ≡ other → P true) → (name ≢ other → P false) → P (bytes_eq name other)
bytes_eq-cases P name other same differ =
    elim (bytes_eq name other) as (λ b. bytes_eq name other ≡ b → P b) [
      | true ↦ λ is. same ((bytes_eq-Decides name other).0 is)
      | false ↦ λ is. differ (λ e. let never : true ≡ false = sym ((bytes_eq-Decides name other).1 e) ∙ is in cc never)
    ] refl

-- the value of the name that was updated
pub updated-same : {X : Type 0} (values : List ℕ → X) (name : List ℕ) (x : X) → updated values name x name ≡ x
updated-same values name x = ap (λ b. cond b x (values name)) (bytes_eq-same name)

-- the values of the other names
pub updated-other : {X : Type 0} (values : List ℕ → X) (name : List ℕ) (x : X) → SameButFor values (updated values name x) name
updated-other values name x other differ = ap (λ b. cond b x (values other)) (bytes_eq-other other name differ)

-- an update by the value that is there
pub updated-kept : {X : Type 0} (values : List ℕ → X) (name : List ℕ) (x : X) → values name ≡ x → updated values name x ≡ values
updated-kept values name x is i other =
    bytes_eq-cases (λ b. cond b x (values other) ≡ values other) other name (λ same. sym is ∙ ap values (sym same)) (λ _. refl) i

-- the names among which one was put last
pub is_among-push : (names : List (List ℕ)) (name : List ℕ) (other : List ℕ) → is_among (names ++ name ∷ []) other ≡ (is_among names other || bytes_eq name other)
is_among-push names name other =
    list_any-append (λ each. bytes_eq each other) names (name ∷ []) ∙ ap (λ b. is_among names other || b) (or-false (bytes_eq name other))

module _ {E : Type 0} (label : E → List ℕ) where
  -- the first element that stands under a name
  abbrev pub under : List E → List ℕ → Option E
  under elements name = find (λ element. bytes_eq (label element) name) elements

  -- what is found stands under the name
  found_label : (elements : List E) (name : List ℕ) (x : E) → under elements name ≡ Some x → label x ≡ name
  found_label [] name x found = cc found
  found_label (y ∷ ys) name x found =
      bytes_eq-cases (λ b. cond b (Some y) (under ys name) ≡ Some x → label x ≡ name) (label y) name
      (λ same is. let there : y ≡ x = cc is in ap label (sym there) ∙ same)
      (λ _ is. found_label ys name x is)
      found

  -- the first place of a name
  at_first : (elements : List E) (name : List ℕ) (at : ℕ) → position (λ element. bytes_eq (label element) name) elements ≡ Some at
      → (at ≡ position_or_len (λ element. bytes_eq (label element) name) elements) × (at < length elements)
  at_first elements name at is = (grind (arith, common_steps), grind (arith, common_steps))

  -- what stands at the first place of a name is found under it
  pub under-found : (elements : List E) (name : List ℕ) (at : ℕ) (x : E) → position (λ element. bytes_eq (label element) name) elements ≡ Some at
      → x ≡ slice_index_or elements at x → under elements name ≡ Some x
  under-found elements name at x is there =
      let first = at_first elements name at is in
      find_at (λ element. bytes_eq (label element) name) elements
      ∙ ap (slice_get elements) (sym first.0)
      ∙ slice_get-get_or elements at x first.1
      ∙ ap (λ element. Some element) (sym there)

  -- a name that has no place isn't found
  pub under-none : (elements : List E) (name : List ℕ) → position (λ element. bytes_eq (label element) name) elements ≡ None → under elements name ≡ None
  under-none elements name none =
      find_at (λ element. bytes_eq (label element) name) elements ∙ slice_get_past elements _ (grind (arith, common_steps))

  -- the first element of a name is written anew
  pub under-set : (elements : List E) (name : List ℕ) (at : ℕ) (x y : E) → position (λ element. bytes_eq (label element) name) elements ≡ Some at
      → x ≡ slice_index_or elements at x → label y ≡ label x → under (slice_set elements at y) ≡ updated (under elements) name (Some y)
  under-set elements name at x y is there same_label i other =
      let first = at_first elements name at is in
      let named : label x ≡ name = found_label elements name x (under-found elements name at x is there) in
      bytes_eq-cases (λ b. under (slice_set elements at y) other ≡ cond b (Some y) (under elements other)) other name
      (λ same.
      ap (under (slice_set elements at y)) same
      ∙ find-set (λ element. bytes_eq (label element) name) elements at y first.0 first.1
      ((bytes_eq-Decides (label y) name).1 (same_label ∙ named)))
      (λ differ.
      let fails : bytes_eq (label x) other ≡ false = bytes_eq-other (label x) other (λ same. differ (sym same ∙ named)) in
      find_past (λ element. bytes_eq (label element) other) elements at y x
      (ap (λ element. bytes_eq (label element) other) (sym there) ∙ fails)
      (ap (λ l. bytes_eq l other) same_label ∙ fails))
      i

  -- an element is put after the others, whose names are others
  pub under-push : (elements : List E) (name : List ℕ) (y : E) → under elements name ≡ None → label y ≡ name
      → under (elements ++ y ∷ []) ≡ updated (under elements) name (Some y)
  under-push elements name y none named i other =
      bytes_eq-cases (λ b. under (elements ++ y ∷ []) other ≡ cond b (Some y) (under elements other)) other name
      (λ same.
      find-append (λ element. bytes_eq (label element) other) elements (y ∷ [])
      ∙ ap (λ o. option_or o (under (y ∷ []) other)) (ap (under elements) same ∙ none)
      ∙ ap (λ b. cond b (Some y) None) ((bytes_eq-Decides (label y) other).1 (named ∙ sym same)))
      (λ differ.
      find-append (λ element. bytes_eq (label element) other) elements (y ∷ [])
      ∙ ap (λ b. option_or (under elements other) (cond b (Some y) None)) (bytes_eq-other (label y) other (λ same. differ (sym same ∙ named)))
      ∙ or_none (under elements other))
      i
    where
      or_none : (o : Option E) → option_or o None ≡ o
      or_none None = refl
      or_none (Some x) = refl

-- nothing is shown where nothing is there
pub option_map-None : {E X : Type 0} (shown : E → X) (o : Option E) → option_map shown o ≡ None → o ≡ None
option_map-None shown None is = refl
option_map-None shown (Some x) is = cc is

-- what is shown of each element, after an update
pub shown-updated : {E X : Type 0} (shown : E → X) (before now : List ℕ → Option E) (name : List ℕ) (y : E) → now ≡ updated before name (Some y)
    → (λ other. option_map shown (now other)) ≡ updated (λ other. option_map shown (before other)) name (Some (shown y))
shown-updated {E} {X} shown before now name y is =
    let all : (List ℕ → Option E) → List ℕ → Option X = λ elements other. option_map shown (elements other) in
    ap all is
    ∙ λ i other. elim (bytes_eq other name) as (λ b. option_map shown (cond b (Some y) (before other)) ≡ cond b (Some (shown y)) (option_map shown (before other))) [
      | true ↦ refl
      | false ↦ refl
    ] i

-- the same, where names without an element have values of their own
pub shown_or-updated : {E X : Type 0} (shown : E → X) (others : List ℕ → X) (before now : List ℕ → Option E) (name : List ℕ) (y : E) → now ≡ updated before name (Some y)
    → (λ other. option_map_or shown (now other) (others other)) ≡ updated (λ other. option_map_or shown (before other) (others other)) name (shown y)
shown_or-updated {E} {X} shown others before now name y is =
    let all : (List ℕ → Option E) → List ℕ → X = λ elements other. option_map_or shown (elements other) (others other) in
    ap all is
    ∙ λ i other. elim (bytes_eq other name) as (λ b. option_map_or shown (cond b (Some y) (before other)) (others other) ≡ cond b (shown y) (option_map_or shown (before other) (others other))) [
      | true ↦ refl
      | false ↦ refl
    ] i
