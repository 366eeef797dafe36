-- What a use of a decision diagram asks, by what is written in it and how deep it nests.
use Rattle.std.proofs.Common.{◌≡◌, ℕ, zero, suc, ◌+◌, ◌<◌, ◌≤◌, Bool, true, false, List, [], ◌∷◌, ◌++◌, length, flat_map, fold, get_or, take, Option, Some, None, refl, sym, ap, ◌∙◌, subst, arith, append-nil, min, max, pos, length-append}
use Rattle.std.specs.Prelude.{◌||◌, not, nat_le, nat_lt, ◌==◌, ◌%◌, int_lt, unsigned_abs, if◌then◌else◌, ℤ, map}
use Rattle.std.specs.List.{list_any}
use Rattle.std.proofs.lemmas.List.{append_assoc, get_or-map, get_or_past, length-map, map_push, take_all}
use Rattle.std.proofs.lemmas.List.Folds.{list_any-append}
use Rattle.std.proofs.lemmas.Bool.Decides.{nat_tests}
use Rattle.spd_model.specs.declared.tree.Tree.{Tree, Leaf, Named, Branch, Branch', Row_of-Tree, end_of-Tree, more_of-Tree}
use Rattle.spd_model.specs.Trees.{Reading, Part, number, choice, missing, parts, nesting, read_tree, read_kids, read_diagrams}
use Rattle.spd_model.proofs.CallerLemmas.Trees.{length-read_diagrams, read_tree-Branch}
use Rattle.spd_reader.specs.declared.dd.Dd.{Dd}
use Rattle.spd_reader.specs.declared.facts.Facts.{Facts}
use Rattle.spd_reader.specs.declared.purpose.Purpose.{Purpose}
use Rattle.spd_reader.specs.declared.purpose.Purpose.TheVariants.{Diagram, Table, Reward}
use Rattle.spd_reader.specs.Trees.{primes_wrong, is_negative, is_fine, negative_wrong, fine_wrong}
use Rattle.spd_reader.specs.Facts.{facts, facts_of, no_facts, lesser_var, together, deeper, of_leaf, of_branch, primed_var, least_primed, primes_wrong_in, negative_wrong_in, fine_wrong_in}

lesser_none : (a : Option ℕ) → lesser_var a None ≡ a
lesser_none None = refl
lesser_none (Some a) = refl

lesser_assoc : (a b c : Option ℕ) → lesser_var (lesser_var a b) c ≡ lesser_var a (lesser_var b c)
lesser_assoc None b c = refl
lesser_assoc (Some a) None c = refl
lesser_assoc (Some a) (Some b) None = refl
lesser_assoc (Some a) (Some b) (Some c) = let e : min (min a b) c ≡ min a (min b c) = omega arith in ap (λ (n : ℕ). Some n) e

primed_append : (ps qs : List Part) → least_primed (ps ++ qs) ≡ lesser_var (least_primed ps) (least_primed qs)
primed_append [] qs = refl
primed_append (p ∷ ps) qs = ap (lesser_var (primed_var p)) (primed_append ps qs) ∙ sym (lesser_assoc (primed_var p) (least_primed ps) (least_primed qs))

-- two trees beside one another
beside : (ps qs : List Part) (m n : ℕ) → together (facts_of ps m) (facts_of qs n) ≡ facts_of (ps ++ qs) (max m n)
beside ps qs m n =
    let deep : max (min 301 m) (min 301 n) ≡ min 301 (max m n) = omega arith in
    λ i. record { primed = sym (primed_append ps qs) i; negative = sym (list_any-append is_negative ps qs) i; fine = sym (list_any-append is_fine ps qs) i; nesting = deep i }

of_number : (x : ℤ) → of_leaf x ≡ facts_of (number x ∷ []) 1
of_number x =
    let negative : int_lt x (pos 0) ≡ list_any is_negative (number x ∷ []) = grind arith in
    let fine : not (unsigned_abs x % 1000 == 0) ≡ list_any is_fine (number x ∷ []) = grind arith in
    λ i. record { primed = None; negative = negative i; fine = fine i; nesting = 1 }

of_choice : (var : ℕ) (primed : Bool) (kids : ℕ) → of_branch var primed ≡ facts_of (choice var primed kids ∷ []) 0
of_choice var primed kids = λ i. record { primed = sym (lesser_none (if primed then Some var else None)) i; negative = false; fine = false; nesting = 0 }

one_deeper : (ps : List Part) (n : ℕ) → deeper (facts_of ps n) ≡ facts_of ps (1 + n)
one_deeper ps n = let deep : min 301 (min 301 n + 1) ≡ min 301 (1 + n) = omega arith in λ i. record { primed = least_primed ps; negative = list_any is_negative ps; fine = list_any is_fine ps; nesting = deep i }

-- ---- trees

pub both : List (List Part) → List ℕ → List Facts
both [] ns = []
both (p ∷ ps) [] = []
both (p ∷ ps) (n ∷ ns) = facts_of p n ∷ both ps ns

both_at : (ps : List (List Part)) (ns : List ℕ) (d : ℕ) → length ps ≡ length ns → get_or (both ps ns) d no_facts ≡ facts_of (get_or ps d (missing ∷ [])) (get_or ns d 0)
unfolding both
both_at [] [] d h = refl
both_at [] (n ∷ ns) d h = absurd (omega arith)
both_at (p ∷ ps) [] d h = absurd (omega arith)
both_at (p ∷ ps) (n ∷ ns) zero h = refl
both_at (p ∷ ps) (n ∷ ns) (suc d) h = both_at ps ns d (omega arith)

pub both_of : (ps : List (List Part)) (ns : List ℕ) (d : ℕ) → length ps ≡ length ns → get_or (both ps ns) d no_facts ≡ facts_of (get_or ps d []) (get_or ns d 0)
unfolding both
both_of [] [] d h = refl
both_of [] (n ∷ ns) d h = absurd (omega arith)
both_of (p ∷ ps) [] d h = absurd (omega arith)
both_of (p ∷ ps) (n ∷ ns) zero h = refl
both_of (p ∷ ps) (n ∷ ns) (suc d) h = both_of ps ns d (omega arith)

both_append : (ps : List (List Part)) (ns : List ℕ) (p : List Part) (n : ℕ) → length ps ≡ length ns → both ps ns ++ facts_of p n ∷ [] ≡ both (ps ++ p ∷ []) (ns ++ n ∷ [])
unfolding both
both_append [] [] p n h = refl
both_append [] (m ∷ ns) p n h = absurd (omega arith)
both_append (q ∷ ps) [] p n h = absurd (omega arith)
both_append (q ∷ ps) (m ∷ ns) p n h = ap (λ (l : List Facts). facts_of q m ∷ l) (both_append ps ns p n (omega arith))

module _ (ps : List (List Part)) (ns : List ℕ) (even : length ps ≡ length ns) where
  mutual
    tree_facts : (tree : Tree) → read_tree facts (both ps ns) tree ≡ facts_of (read_tree parts ps tree) (read_tree nesting ns tree)
    tree_facts (Leaf x) = of_number x
    tree_facts (Named d) = both_at ps ns d even
    tree_facts (Branch' var primed shape kids) =
        ap (λ (f : Facts). deeper (fold together f (read_kids facts (both ps ns) kids))) (of_choice var primed (length (read_kids parts ps kids)))
        ∙ ap deeper (kids_facts (choice var primed (length (read_kids parts ps kids)) ∷ []) 0 kids)
        ∙ one_deeper (choice var primed (length (read_kids parts ps kids)) ∷ flat_map (λ (kid : List Part). kid) (read_kids parts ps kids)) (fold max 0 (read_kids nesting ns kids))

    kids_facts : (before : List Part) (n : ℕ) {k : _} (kids : Row_of-Tree k)
        → fold together (facts_of before n) (read_kids facts (both ps ns) kids) ≡ facts_of (before ++ flat_map (λ (kid : List Part). kid) (read_kids parts ps kids)) (fold max n (read_kids nesting ns kids))
    kids_facts before n end_of-Tree = ap (λ (l : List Part). facts_of l n) (sym (append-nil before))
    kids_facts before n (more_of-Tree kid kids) =
        ap (λ (f : Facts). fold together (together (facts_of before n) f) (read_kids facts (both ps ns) kids)) (tree_facts kid)
        ∙ ap (λ (f : Facts). fold together f (read_kids facts (both ps ns) kids)) (beside before (read_tree parts ps kid) n (read_tree nesting ns kid))
        ∙ kids_facts (before ++ read_tree parts ps kid) (max n (read_tree nesting ns kid)) kids
        ∙ ap (λ (l : List Part). facts_of l (fold max (max n (read_tree nesting ns kid)) (read_kids nesting ns kids)))
        (append_assoc before (read_tree parts ps kid) (flat_map (λ (kid : List Part). kid) (read_kids parts ps kids)))

diagrams_facts : (ps : List (List Part)) (ns : List ℕ) (dds : List Tree) → length ps ≡ length ns
    → read_diagrams facts (both ps ns) dds ≡ both (read_diagrams parts ps dds) (read_diagrams nesting ns dds)
diagrams_facts ps ns [] even = refl
diagrams_facts ps ns (dd ∷ dds) even =
    ap (λ (f : Facts). read_diagrams facts (both ps ns ++ f ∷ []) dds) (tree_facts ps ns even dd)
    ∙ ap (λ (fs : List Facts). read_diagrams facts fs dds) (both_append ps ns (read_tree parts ps dd) (read_tree nesting ns dd) even)
    ∙ diagrams_facts (ps ++ read_tree parts ps dd ∷ []) (ns ++ read_tree nesting ns dd ∷ []) dds
    (omega (arith, even, length-append ps (read_tree parts ps dd ∷ []), length-append ns (read_tree nesting ns dd ∷ [])))

-- the facts of a decision diagram are those of what is written in it
pub dd_facts : (dds : List Tree) (d : ℕ) → get_or (read_diagrams facts [] dds) d no_facts ≡ facts_of (get_or (read_diagrams parts [] dds) d []) (get_or (read_diagrams nesting [] dds) d 0)
unfolding both
dd_facts dds d =
    ap (λ (fs : List Facts). get_or fs d no_facts) (diagrams_facts [] [] dds refl)
    ∙ both_of (read_diagrams parts [] dds) (read_diagrams nesting [] dds) d (length-read_diagrams parts [] dds ∙ sym (length-read_diagrams nesting [] dds))

abbrev facts_in : List Dd → List Facts
facts_in dds = map (λ (x : Dd). x.facts) dds

abbrev trees_in : List Dd → List Tree
trees_in dds = map (λ (x : Dd). x.tree) dds

pub facts_there : (dds : List Dd) (d : ℕ) (x : Dd) → d < length dds → x ≡ get_or dds d x → facts_in dds ≡ read_diagrams facts [] (trees_in dds)
    → x.facts ≡ facts_of (get_or (read_diagrams parts [] (trees_in dds)) d []) (get_or (read_diagrams nesting [] (trees_in dds)) d 0)
facts_there dds d x within is known =
    ap (λ (y : Dd). y.facts) is ∙ sym (get_or-map (λ (y : Dd). y.facts) dds d x no_facts within) ∙ ap (λ (fs : List Facts). get_or fs d no_facts) known ∙ dd_facts (trees_in dds) d

pub facts_past : (dds : List Dd) (d : ℕ) → length dds ≤ d → facts_in dds ≡ read_diagrams facts [] (trees_in dds)
    → no_facts ≡ facts_of (get_or (read_diagrams parts [] (trees_in dds)) d []) (get_or (read_diagrams nesting [] (trees_in dds)) d 0)
facts_past dds d past known =
    sym (get_or_past (facts_in dds) d no_facts (omega (arith, past, length-map dds (λ (y : Dd). y.facts)))) ∙ ap (λ (fs : List Facts). get_or fs d no_facts) known ∙ dd_facts (trees_in dds) d

read_diagrams-append : {X : Type 0} (way : Reading X) (before : List X) (dds : List Tree) (dd : Tree)
    → read_diagrams way before (dds ++ dd ∷ []) ≡ read_diagrams way before dds ++ read_tree way (read_diagrams way before dds) dd ∷ []
read_diagrams-append way before [] dd = refl
read_diagrams-append way before (first ∷ dds) dd = read_diagrams-append way (before ++ read_tree way before first ∷ []) dds dd

-- one decision diagram more
known_more : (dds more : List Dd) (dd : Dd) → more ≡ dds ++ dd ∷ [] → dd.facts ≡ read_tree facts (facts_in dds) dd.tree
    → facts_in dds ≡ read_diagrams facts [] (trees_in dds) → facts_in more ≡ read_diagrams facts [] (trees_in more)
known_more dds more dd is read known =
    ap facts_in is ∙ map_push (λ (x : Dd). x.facts) dds dd
    ∙ ap (λ (f : Facts). facts_in dds ++ f ∷ []) (read ∙ ap (λ (fs : List Facts). read_tree facts fs dd.tree) known)
    ∙ ap (λ (fs : List Facts). fs ++ read_tree facts (read_diagrams facts [] (trees_in dds)) dd.tree ∷ []) known
    ∙ sym (read_diagrams-append facts [] (trees_in dds) dd.tree)
    ∙ ap (read_diagrams facts []) (sym (ap trees_in is ∙ map_push (λ (x : Dd). x.tree) dds dd))

-- the same where it was added as far as there was memory
pub known_after : (b : Bool) (dds more : List Dd) (dd : Dd) → more ≡ (if b then dds ++ dd ∷ [] else dds) → dd.facts ≡ read_tree facts (facts_in dds) dd.tree
    → facts_in dds ≡ read_diagrams facts [] (trees_in dds) → facts_in more ≡ read_diagrams facts [] (trees_in more)
known_after true dds more dd is read known = known_more dds more dd is read known
known_after false dds more dd is read known = subst (λ (l : List Dd). facts_in l ≡ read_diagrams facts [] (trees_in l)) (sym is) known

-- the facts of a choice, after those of its subtrees
pub branch_facts : (fs : List Facts) (tree : Tree) (var : ℕ) (primed : Bool) (kids items : List Tree) (first all : Facts) (i : ℕ) → tree ≡ Branch var primed kids → items ≡ kids → first ≡ of_branch var primed → length items ≤ i
    → all ≡ fold together first (map (read_tree facts fs) (take i items)) → deeper all ≡ read_tree facts fs tree
branch_facts fs tree var primed kids items first all i is same begun past told =
    ap deeper (told ∙ ap (λ (l : List Tree). fold together first (map (read_tree facts fs) l)) (take_all i items past ∙ same) ∙ ap (λ (f : Facts). fold together f (map (read_tree facts fs) kids)) begun)
    ∙ sym (read_tree-Branch facts fs var primed kids) ∙ ap (read_tree facts fs) (sym is)

-- ---- what a use asks

below_lesser : (i a b : ℕ) → (not (nat_le i a) || not (nat_le i b)) ≡ not (nat_le i (min a b))
below_lesser i a b = grind (arith, nat_tests)

wrong_lesser : (p : Purpose) (a b : Option ℕ) → (primes_wrong_in p a || primes_wrong_in p b) ≡ primes_wrong_in p (lesser_var a b)
wrong_lesser p None b = refl
wrong_lesser p (Some a) None = grind arith
wrong_lesser Diagram (Some a) (Some b) = refl
wrong_lesser (Table i) (Some a) (Some b) = below_lesser i a b
wrong_lesser Reward (Some a) (Some b) = refl

primed_part : (p : Purpose) (part : Part) → primes_wrong p part ≡ primes_wrong_in p (primed_var part)
primed_part p (number x) = refl
primed_part p (choice v true kids) = refl
primed_part p (choice v false kids) = refl
primed_part p missing = refl

pub primes_asked : (p : Purpose) (ps : List Part) → list_any (primes_wrong p) ps ≡ primes_wrong_in p (least_primed ps)
primes_asked p [] = refl
primes_asked p (part ∷ ps) =
    ap (λ (b : Bool). b || list_any (primes_wrong p) ps) (primed_part p part) ∙ ap (λ (b : Bool). primes_wrong_in p (primed_var part) || b) (primes_asked p ps)
    ∙ wrong_lesser p (primed_var part) (least_primed ps)

never : (ps : List Part) → list_any (λ (part : Part). false) ps ≡ false
never [] = refl
never (p ∷ ps) = never ps

pub negative_asked : (p : Purpose) (ps : List Part) → list_any (negative_wrong p) ps ≡ negative_wrong_in p (list_any is_negative ps)
negative_asked Diagram ps = never ps
negative_asked (Table i) ps = refl
negative_asked Reward ps = never ps

pub fine_asked : (p : Purpose) (ps : List Part) → list_any (fine_wrong p) ps ≡ fine_wrong_in p (list_any is_fine ps)
fine_asked Diagram ps = never ps
fine_asked (Table i) ps = never ps
fine_asked Reward ps = refl

pub deep_asked : (depth n : ℕ) → depth ≤ 300 → nat_lt depth n ≡ nat_lt depth (min 301 n)
deep_asked depth n few = grind (arith, nat_tests)
