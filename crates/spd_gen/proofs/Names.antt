-- The names of a ring: which words they are, and which number each of them has.
use Rattle.std.proofs.Common.{◌≡◌, ℕ, zero, suc, ◌+◌, ◌-◌, ◌<◌, ◌≤◌, Bool, true, false, cond, List, [], ◌∷◌, ◌++◌, length, map, take, get_or, Some, None, Ok, refl, sym, ap, ◌∙◌, arith, codes, decimal}
use Rattle.std.specs.Prelude.{◌&&◌, not, nat_lt, slice_index_or, position}
use Rattle.std.specs.List.{prefix_len}
use Rattle.std.specs.Str.{bytes_eq}
use Rattle.std.proofs.Math.Seq.{take-append_seam}
use Rattle.std.proofs.lemmas.Bool.{and_parts}
use Rattle.std.proofs.lemmas.Bool.Decides.{nat_tests}
use Rattle.std.proofs.lemmas.List.{get_or-map, length-map, length-append}
use Rattle.std.proofs.lemmas.List.Elements.{All-cons, All-map}
use Rattle.std.proofs.lemmas.List.Folds.{list_any_none}
use Rattle.std.proofs.lemmas.Slice.Eq.{bytes_eq-Decides}
use Rattle.spd_edge.proofs.CallerLemmas.{bytes_eq-other}
use Rattle.spd_model.specs.declared.process.Var.{Var}
use Rattle.spd_model.specs.Numbers.{numbers_below}
use Rattle.spd_model.proofs.CallerLemmas.Lists.{length-numbers_below, get_or-numbers_below, All-numbers_below, map-map}
use Rattle.spd_syntax.specs.declared.refusal.Want.{Want}
use Rattle.spd_syntax.specs.Words.{begins, begins_name, is_name_form, name_passes, is_primed, front_of}
use Rattle.spd_reader.specs.Trees.{Scope, var_names, var_number, values_of, number_in, is_among}
use Rattle.spd_gen.specs.Ring.{machine, next}
use Rattle.spd_gen.specs.Process.{variable}
use Rattle.spd_gen.proofs.LawfulLaws.{all_below, below-all, spelled, decimal-spelled, machines-differ, reboots-differ, noop-differs}
use Rattle.spd_gen.proofs.Spots.{is_a_word}

abbrev pub reboot_name : ℕ → List ℕ
reboot_name i = codes "reboot" ++ decimal (i + 1)

-- ---- what holds of each name

-- a test that each of the first 63 numbers behind a word passes
pub numbered : (test : List ℕ → Bool) (i : ℕ) → i < 63 → all_below (λ k. test (spelled (k + 1))) 63 ≡ true → test (decimal (i + 1)) ≡ true
numbered test i h all = ap test (decimal-spelled (i + 1) (omega arith)) ∙ below-all (λ k. test (spelled (k + 1))) 63 all i h

pub machine-word : (i : ℕ) → i < 63 → is_a_word (machine i) ≡ true
unfolding all_below spelled
machine-word i h = numbered (λ t. is_a_word (codes "m" ++ t)) i h refl

pub next-word : (i : ℕ) → i < 63 → is_a_word (next i) ≡ true
unfolding all_below spelled
next-word i h = numbered (λ t. is_a_word (codes "m" ++ t ++ codes "'")) i h refl

pub reboot-word : (i : ℕ) → i < 63 → is_a_word (codes "reboot" ++ decimal (i + 1)) ≡ true
unfolding all_below spelled
reboot-word i h = numbered (λ t. is_a_word (codes "reboot" ++ t)) i h refl

-- a word that passes as a name
abbrev is_passing : List ℕ → Bool
is_passing text = begins begins_name text && (not (nat_lt 64 (length text)) && is_name_form text)

passing : (want : Want) (at : ℕ) (text : List ℕ) → is_passing text ≡ true → name_passes want at text ≡ Ok tt
unfolding name_passes
passing want at text h =
    let two = and_parts (begins begins_name text) (not (nat_lt 64 (length text)) && is_name_form text) h in
    let more = and_parts (not (nat_lt 64 (length text))) (is_name_form text) two.1 in
    let short : nat_lt 64 (length text) ≡ false = grind (arith, nat_tests) in
    rw (two.0, short, more.1) refl

pub machine-passes : (want : Want) (at i : ℕ) → i < 63 → name_passes want at (machine i) ≡ Ok tt
unfolding all_below spelled
machine-passes want at i h = passing want at (machine i) (numbered (λ t. is_passing (codes "m" ++ t)) i h refl)

pub reboot-passes : (want : Want) (at i : ℕ) → i < 63 → name_passes want at (codes "reboot" ++ decimal (i + 1)) ≡ Ok tt
unfolding all_below spelled
reboot-passes want at i h = passing want at (codes "reboot" ++ decimal (i + 1)) (numbered (λ t. is_passing (codes "reboot" ++ t)) i h refl)

pub machine-present : (i : ℕ) → i < 63 → is_primed (machine i) ≡ false
unfolding all_below spelled is_primed
machine-present i h = let off : not (is_primed (machine i)) ≡ true = numbered (λ t. not (is_primed (codes "m" ++ t))) i h refl in grind (arith, nat_tests)

pub next-primed : (i : ℕ) → i < 63 → is_primed (next i) ≡ true
unfolding all_below spelled is_primed
next-primed i h = numbered (λ t. is_primed (codes "m" ++ t ++ codes "'")) i h refl

pub front-next : (i : ℕ) → front_of (next i) ≡ machine i
front-next i =
    let size : length (next i) - 1 ≡ length (machine i) = omega (arith, length-append (machine i) (codes "'")) in
    ap (λ (k : ℕ). take k (next i)) size ∙ take-append_seam (machine i) (codes "'")

-- ---- which number each name has

prefix-at : {X : Type 0} (q : X → Bool) (xs : List X) (i : ℕ) (d : X) → i < length xs → q (get_or xs i d) ≡ false → ((k : ℕ) → k < i → q (get_or xs k d) ≡ true) → prefix_len q xs ≡ i
prefix-at q [] i d near stop pass = absurd (omega arith)
prefix-at q (x ∷ xs) zero d near stop pass = ap (λ (b : Bool). cond b (1 + prefix_len q xs) 0) stop
prefix-at q (x ∷ xs) (suc i) d near stop pass =
    let one : 1 + prefix_len q xs ≡ suc i = omega (arith, prefix-at q xs i d (omega arith) stop (λ k h. pass (suc k) (omega arith))) in
    ap (λ (b : Bool). cond b (1 + prefix_len q xs) 0) (pass 0 (omega arith)) ∙ one

position-at : {X : Type 0} (p : X → Bool) (xs : List X) (i : ℕ) (d : X) → i < length xs → p (get_or xs i d) ≡ true → ((k : ℕ) → k < i → p (get_or xs k d) ≡ false) → position p xs ≡ Some i
position-at p xs i d near stop pass =
    let first = prefix-at (λ x. not (p x)) xs i d near (ap not stop) (λ k h. ap not (pass k h)) in
    let inside : nat_lt i (length xs) ≡ true = grind (arith, nat_tests) in
    ap (λ (k : ℕ). cond (nat_lt k (length xs)) (Some k) None) first ∙ ap (λ (b : Bool). cond b (Some i) None) inside

name-at : (n i : ℕ) (d : List ℕ) → i < n → get_or (map machine (numbers_below n)) i d ≡ machine i
name-at n i d h = get_or-map machine (numbers_below n) i 0 d (omega (arith, length-numbers_below n)) ∙ ap machine (get_or-numbers_below n i h)

-- what is declared: the variables of a ring
abbrev pub declared : ℕ → Scope
declared n = record { vars = map variable (numbers_below n); dd_names = []; dds = [] }

names-are : (n : ℕ) → var_names (map variable (numbers_below n)) ≡ map machine (numbers_below n)
names-are n = map-map (λ (x : Var). x.name) variable (numbers_below n)

pub number-of : (n i : ℕ) → n ≤ 63 → i < n → var_number (declared n) (machine i) ≡ Some i
number-of n i few near =
    ap (λ (names : List (List ℕ)). number_in names (machine i)) (names-are n)
    ∙ position-at (bytes_eq (machine i)) (map machine (numbers_below n)) i [] (omega (arith, length-map (numbers_below n) machine, length-numbers_below n))
    (ap (bytes_eq (machine i)) (name-at n i [] near) ∙ (bytes_eq-Decides (machine i) (machine i)).1 refl)
    (λ k h. ap (bytes_eq (machine i)) (name-at n k [] (omega arith)) ∙ bytes_eq-other (machine i) (machine k) (λ e. machines-differ k i h (omega arith) (sym e)))

pub values-at : (n i : ℕ) → i < n → values_of (declared n) (Some i) ≡ codes "up" ∷ codes "down" ∷ []
values-at n i h =
    let all = map variable (numbers_below n) in
    let size : length (numbers_below n) ≡ n = length-numbers_below n in
    ap (λ (vs : List (List (List ℕ))). slice_index_or vs i []) (map-map (λ (x : Var). x.values) variable (numbers_below n))
    ∙ get_or-map (λ (k : ℕ). (variable k).values) (numbers_below n) i 0 [] (omega arith)

-- ---- names that aren't among others

pub machine-new : (n j : ℕ) → j < 63 → is_among (var_names (map variable (numbers_below j))) (machine j) ≡ false
machine-new n j h =
    ap (λ (names : List (List ℕ)). is_among names (machine j)) (names-are j)
    ∙ list_any_none (bytes_eq (machine j)) (map machine (numbers_below j))
    (All-map (λ name. bytes_eq (machine j) name ≡ false) machine (numbers_below j)
    (All-numbers_below (λ k. bytes_eq (machine j) (machine k) ≡ false) j (λ k near. bytes_eq-other (machine j) (machine k) (λ e. machines-differ k j near h (sym e)))))

-- the name of an action that reboots a machine isn't among those before it
pub reboot-new : (j : ℕ) → j < 63 → is_among (codes "noop" ∷ map reboot_name (numbers_below j)) (reboot_name j) ≡ false
reboot-new j h =
    list_any_none (bytes_eq (reboot_name j)) (codes "noop" ∷ map reboot_name (numbers_below j))
    (All-cons (λ name. bytes_eq (reboot_name j) name ≡ false) (codes "noop") (map reboot_name (numbers_below j)) (bytes_eq-other (reboot_name j) (codes "noop") (λ e. noop-differs j (sym e)))
    (All-map (λ name. bytes_eq (reboot_name j) name ≡ false) reboot_name (numbers_below j)
    (All-numbers_below (λ k. bytes_eq (reboot_name j) (reboot_name k) ≡ false) j (λ k near. bytes_eq-other (reboot_name j) (reboot_name k) (λ e. reboots-differ k j near h (sym e))))))
