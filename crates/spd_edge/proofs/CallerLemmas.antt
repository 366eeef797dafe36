-- What callers' proofs cite of the outside: reads and writes one after the other, pieces of a text, and texts that are compared.
use Rattle.std.proofs.Common.{◌≡◌, ◌≢◌, ℕ, ◌+◌, ◌<◌, ◌≤◌, List, [], ◌∷◌, ◌++◌, length, take, get_or, Bor, true, false, Option, None, Some, refl, sym, ap, ◌∙◌, subst, arith, append_assoc, append-nil, length-append}
use Rattle.std.specs.Prelude.{option_map}
use Rattle.std.specs.Str.{bytes_eq}
use Rattle.std.proofs.lemmas.Grind.{flat_map-append}
use Rattle.std.proofs.lemmas.List.{take-append-le, take_more, take_all}
use Rattle.std.proofs.lemmas.Slice.Eq.{bytes_eq-Decides}
use Rattle.std.proofs.Math.Seq.{take-append-add}
use Rattle.spd_edge.specs.Pieces.{text_of_pieces}
use Rattle.spd_edge.specs.Told.{Gave, Took, TookFront}

-- what is read first and what is read next
pub Gave-trans : (a b c : Option (List ℕ)) (xs ys : List ℕ) → Gave a xs b → Gave b ys c → Gave a (xs ++ ys) c
Gave-trans a b None xs ys first next = first ∙ ap (λ o. option_map (λ left. xs ++ left) o) next
Gave-trans a b (Some left) xs ys first next =
    first ∙ ap (λ o. option_map (λ left'. xs ++ left') o) next ∙ ap (λ l. Some l) (sym (append_assoc xs ys left))

-- what is written first and what is written next
pub Took-trans : (a b c : Option (List ℕ)) (xs ys : List ℕ) → Took a xs b → Took b ys c → Took a (xs ++ ys) c
Took-trans None b c xs ys first next = next ∙ ap (λ o. option_map (λ taken. taken ++ ys) o) first
Took-trans (Some taken) b c xs ys first next =
    next ∙ ap (λ o. option_map (λ taken'. taken' ++ ys) o) first ∙ ap (λ l. Some l) (append_assoc taken xs ys)

-- a read that gives nothing
pub Gave-nothing : (a : Option (List ℕ)) → Gave a [] a
Gave-nothing None = refl
Gave-nothing (Some left) = refl

-- a write that takes nothing
pub Took-nothing : (a : Option (List ℕ)) → Took a [] a
Took-nothing None = refl
Took-nothing (Some taken) = ap (λ l. Some l) (sym (append-nil taken))

-- what is written first, and then the front of what comes next
pub TookFront-more : (a b c : Option (List ℕ)) (first others : List ℕ) → Took a first b → TookFront b others c → TookFront a (first ++ others) c
TookFront-more a b c first others whole front = (
  length first + front.0,
  rw length-append (omega (arith, front.1)),
  subst (λ (t : List ℕ). Took a t c) (sym (take-append-add first others front.0)) (Took-trans a b c first (take front.0 others) whole front.2),
)

-- the front of some bytes is the front of more bytes
pub TookFront-longer : (a c : Option (List ℕ)) (bytes others : List ℕ) → TookFront a bytes c → TookFront a (bytes ++ others) c
TookFront-longer a c bytes others front = (
  front.0,
  rw length-append (omega (arith, front.1)),
  subst (λ (t : List ℕ). Took a t c) (sym (take-append-le front.0 bytes others front.1)) front.2,
)

-- one piece more
pub pieces-more : (pieces : List (Bor (List ℕ))) (i : ℕ) (d : Bor (List ℕ)) → i < length pieces → text_of_pieces (take i pieces) ++ (get_or pieces i d).now ≡ text_of_pieces (take (i + 1) pieces)
pieces-more pieces i d h =
    sym (ap text_of_pieces (take_more pieces i d h) ∙ flat_map-append (λ (p : Bor (List ℕ)). p.now) (take i pieces) (get_or pieces i d ∷ [])
    ∙ ap (λ l. text_of_pieces (take i pieces) ++ l) (append-nil (get_or pieces i d).now))

-- all pieces
pub pieces-all : (pieces : List (Bor (List ℕ))) (i : ℕ) → length pieces ≤ i → text_of_pieces (take i pieces) ≡ text_of_pieces pieces
pieces-all pieces i h = ap text_of_pieces (take_all i pieces h)

-- a text is itself
pub bytes_eq-same : (name : List ℕ) → bytes_eq name name ≡ true
bytes_eq-same name = (bytes_eq-Decides name name).1 refl

-- a text isn't another
pub bytes_eq-other : (name other : List ℕ) → name ≢ other → bytes_eq name other ≡ false
bytes_eq-other name other differ =
    elim (bytes_eq name other) as (λ b. bytes_eq name other ≡ b → b ≡ false) [
      | true ↦ λ same. absurd (differ ((bytes_eq-Decides name other).0 same))
      | false ↦ λ _. refl
    ] refl
