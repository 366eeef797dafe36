-- The greatest over the actions, and what stands in the rows of a table.
use Rattle.std.proofs.Common.{◌≡◌, ◌∙◌, ℕ, ◌+◌, ◌<◌, ◌≤◌, List, [], ◌∷◌, ◌++◌, length, map, take, get_or, ℤ, refl, ap, sym, arith}
use Rattle.std.specs.Int.{int_max}
use Rattle.std.proofs.lemmas.List.{take_more, map_push, length-take, take_all}
use Rattle.std.proofs.Math.ListN.{length-map}
use Rattle.spd_model.specs.declared.Side.{Side}
use Rattle.spd_model.specs.declared.Side.TheVariants.{Above, Below}
use Rattle.spd_model.specs.Process.{Process}
use Rattle.spd_model.specs.Numbers.{greatest, first_place}
use Rattle.spd_model.specs.States.{sizes, states, state_count}
use Rattle.spd_model.specs.Chances.{reward_of}
use Rattle.spd_model.proofs.CallerLemmas.StateOrder.{get_or-table_of, length-table_of}
use Rattle.spd_model.proofs.CallerLemmas.Greatest.{greatest-push}
use Rattle.spd_plain.specs.declared.outlook.Outlook.{Outlook}
use Rattle.spd_plain.specs.inner.Outlooks.{outlook_of, outlooks_at, outlooks_of}
use Rattle.spd_plain.specs.inner.Sweeps.{bound_on, action_on}
use Rattle.spd_model.proofs.CallerLemmas.Lists.{map-map}

-- the greatest of one entry more
pub greatest_one_more : {X : Type 0} (f : X → ℤ) (xs : List X) (k : ℕ) (x : X) (best here most : ℤ) → 0 < k → k < length xs → x ≡ get_or xs k x → best ≡ greatest (map f (take k xs)) → here ≡ f x
    → most ≡ int_max best here → most ≡ greatest (map f (take (k + 1) xs))
greatest_one_more f xs k x best here most some near is so_far here_is most_is =
    most_is ∙ (λ i. int_max (so_far i) ((here_is ∙ ap f is) i))
    ∙ sym (ap (λ l. greatest (map f l)) (take_more xs k x near) ∙ ap greatest (map_push f (take k xs) (get_or xs k x))
    ∙ greatest-push (map f (take k xs)) (f (get_or xs k x)) (omega (arith, length-map (take k xs) f, length-take_near xs k near)))
  where
    length-take_near : {X : Type 0} (xs : List X) (k : ℕ) → k < length xs → length (take k xs) ≡ k
    length-take_near xs k near = length-take k xs ∙ omega arith

-- the first action with the greatest bound on a side
pub first_on : (side : Side) (m : Process) (w : List ℕ → ℤ) (s : List ℕ) → first_place (greatest (map (λ a. bound_on side m w a s) m.actions)) (map (λ a. bound_on side m w a s) m.actions)
    ≡ action_on side m w s
first_on Above m w s = refl
first_on Below m w s = refl

-- the row of a place
pub row_read : (m : Process) (rows : List (List Outlook)) (k : ℕ) (row : List Outlook) (s : List ℕ) → rows ≡ outlooks_of m → k < state_count (sizes m) → row ≡ get_or rows k row
    → s ≡ get_or (states (sizes m)) k [] → row ≡ outlooks_at m s
row_read m rows k row s are near is here =
    is ∙ ap (λ (l : List (List Outlook)). get_or l k row) are ∙ get_or-table_of (sizes m) (outlooks_at m) k row near ∙ ap (outlooks_at m) (sym here)

pub length-rows : (m : Process) (rows : List (List Outlook)) → rows ≡ outlooks_of m → length rows ≡ state_count (sizes m)
length-rows m rows are = ap length are ∙ length-table_of (sizes m) (outlooks_at m)

-- a table with one entry more
pub table_more : {A B X : Type 0} (g : A → B) (f : X → B) (xs : List X) (k : ℕ) (d : X) (entries more : List A) (a : A) → k < length xs
    → map g entries ≡ map f (take k xs) → more ≡ entries ++ a ∷ [] → g a ≡ f (get_or xs k d) → map g more ≡ map f (take (k + 1) xs)
table_more g f xs k d entries more a near so_far is here =
    ap (map g) is ∙ map_push g entries a ∙ (λ i. so_far i ++ here i ∷ []) ∙ sym (ap (map f) (take_more xs k d near) ∙ map_push f (take k xs) (get_or xs k d))

pub plain_more : {B X : Type 0} (f : X → B) (xs : List X) (k : ℕ) (d : X) (entries more : List B) (a : B) → k < length xs
    → entries ≡ map f (take k xs) → more ≡ entries ++ a ∷ [] → a ≡ f (get_or xs k d) → more ≡ map f (take (k + 1) xs)
plain_more f xs k d entries more a near so_far is here =
    is ∙ (λ i. so_far i ++ here i ∷ []) ∙ sym (ap (map f) (take_more xs k d near) ∙ map_push f (take k xs) (get_or xs k d))

pub table_done : {B X : Type 0} (f : X → B) (xs : List X) (k : ℕ) (entries : List B) → length xs ≤ k → entries ≡ map f (take k xs) → entries ≡ map f xs
table_done f xs k entries all so_far = so_far ∙ ap (map f) (take_all k xs all)

-- the rewards of a row
pub row_some : (m : Process) → 0 < length m.actions → (s : List ℕ) (row : List Outlook) → row ≡ outlooks_at m s → 0 < length row
row_some m some s row is = omega (arith, ap length is, length-map m.actions (outlook_of m s))

pub rewards_at : (m : Process) (s : List ℕ) (row : List Outlook) → row ≡ outlooks_at m s → greatest (map (λ (o : Outlook). o.reward) row) ≡ greatest (map (λ a. reward_of m a s) m.actions)
rewards_at m s row is = ap greatest (ap (map (λ (o : Outlook). o.reward)) is ∙ map-map (λ (o : Outlook). o.reward) (outlook_of m s) m.actions)
