-- What an index shows of its keys, which are borrowed.
use Rattle.std.proofs.Common.{◌≡◌, ℕ, Bool, true, false, cond, ◌+◌, List, [], ◌∷◌, ◌++◌, length, map, take, get_or, ◌<◌, Bor, Some, None, refl, ap, sym, ◌∙◌}
use Rattle.std.specs.Prelude.{position, nat_lt, ◌||◌, not}
use Rattle.std.specs.List.{list_any, prefix_len}
use Rattle.std.specs.Str.{bytes_eq}
use Rattle.std.proofs.lemmas.List.{map-append, length-map, map_push, take_more}
use Rattle.spd_reader.specs.Trees.{number_in, is_among, with_name}

abbrev pub shown : List (Bor (List ℕ)) → List (List ℕ)
shown keys = map (λ (k : Bor (List ℕ)). k.now) keys

abbrev pub reads : List ℕ → Bor (List ℕ) → Bool
reads name = λ (k : Bor (List ℕ)). bytes_eq name k.now

prefix_len-shown : (name : List ℕ) (keys : List (Bor (List ℕ))) → prefix_len (λ (x : List ℕ). not (bytes_eq name x)) (shown keys) ≡ prefix_len (λ (k : Bor (List ℕ)). not (reads name k)) keys
prefix_len-shown name [] = refl
prefix_len-shown name (k ∷ ks) = ap (λ (n : ℕ). cond (not (bytes_eq name k.now)) (1 + n) 0) (prefix_len-shown name ks)

pub number_in-shown : (name : List ℕ) (keys : List (Bor (List ℕ))) → number_in (shown keys) name ≡ position (reads name) keys
number_in-shown name keys =
    ap (λ (n : ℕ). cond (nat_lt n (length (shown keys))) (Some n) None) (prefix_len-shown name keys)
    ∙ ap (λ (m : ℕ). cond (nat_lt (prefix_len (λ (k : Bor (List ℕ)). not (reads name k)) keys) m) (Some (prefix_len (λ (k : Bor (List ℕ)). not (reads name k)) keys)) None) (length-map keys (λ (k : Bor (List ℕ)). k.now))

pub is_among-shown : (name : List ℕ) (keys : List (Bor (List ℕ))) → is_among (shown keys) name ≡ list_any (reads name) keys
is_among-shown name [] = refl
is_among-shown name (k ∷ ks) = ap (λ (b : Bool). bytes_eq name k.now || b) (is_among-shown name ks)

shown-cond : (b : Bool) (key : Bor (List ℕ)) (keys : List (Bor (List ℕ))) → cond b (shown keys) (shown keys ++ key.now ∷ []) ≡ shown (cond b keys (keys ++ key ∷ []))
shown-cond true key keys = refl
shown-cond false key keys = sym (map-append (λ (k : Bor (List ℕ)). k.now) keys (key ∷ []))

pub with_name-shown : (key : Bor (List ℕ)) (keys : List (Bor (List ℕ))) → with_name (shown keys) key.now ≡ shown (cond (list_any (reads key.now) keys) keys (keys ++ key ∷ []))
with_name-shown key keys =
    ap (λ (b : Bool). cond b (shown keys) (shown keys ++ key.now ∷ [])) (is_among-shown key.now keys) ∙ shown-cond (list_any (reads key.now) keys) key keys

pub shown_more : (keys : List (Bor (List ℕ))) (i : ℕ) (d : Bor (List ℕ)) (names more : List (List ℕ)) → i < length keys
    → more ≡ names ++ (get_or keys i d).now ∷ [] → names ≡ shown (take i keys) → more ≡ shown (take (i + 1) keys)
shown_more keys i d names more within one told =
    one ∙ ap (λ (l : List (List ℕ)). l ++ (get_or keys i d).now ∷ []) told ∙ sym (map_push (λ (k : Bor (List ℕ)). k.now) (take i keys) (get_or keys i d))
    ∙ ap shown (sym (take_more keys i d within))
