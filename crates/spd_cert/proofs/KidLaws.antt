-- The kids of a branch: what is read is written so, and what is written so is read.
use Rattle.std.proofs.Common.{◌≡◌, ℕ, zero, suc, ◌<◌, ◌≤◌, ◌^◌, true, cond, List, [], ◌∷◌, ◌++◌, length, map, get_or, decimal, Option, Some, None, Result, Ok, Err, pos, refl, sym, ap, subst, ◌∙◌, arith, append_assoc}
use Rattle.std.specs.Prelude.{All, slice_get}
use Rattle.std.proofs.lemmas.Bool.{ltb-true, lt-ltb, ne_eqb}
use Rattle.std.proofs.lemmas.List.{length-map}
use Rattle.std.proofs.lemmas.List.Elements.{All-nil, All-cons, All-head, All-tail}
use Rattle.std.proofs.lemmas.Option.{slice_get-get_or}
use Rattle.spd_model.specs.Reduced.{Node}
use Rattle.spd_nodes.specs.declared.leaf.Leaf.{Leaf}
use Rattle.spd_nodes.specs.declared.leaf.Leaf.TheVariants.{Num}
use Rattle.spd_frozen.specs.Frozen.{IsAfter}
use Rattle.spd_cert.specs.declared.ending.Kind.TheVariants.{Number, Order}
use Rattle.spd_cert.specs.declared.ending.Stop.{Stop}
use Rattle.spd_cert.specs.declared.word.Ender.{Ender}
use Rattle.spd_cert.specs.declared.word.Ender.TheVariants.{Space, Line}
use Rattle.spd_cert.specs.Words.{is_whole, number_below, follows}
use Rattle.spd_cert.specs.Reading.{◌>>=◌, stop, Word, word_at, followed_by, refused, kid_from, kid_of, kid_at, kid_ender, kids_at}
use Rattle.spd_cert.proofs.WordLaws.{bind_ok, ok_is, passed, space_told, line_told, space_read, line_read, before_space, before_line}
use Rattle.spd_cert.proofs.NumberLaws.{below_told, below_read, decimal_is_whole, decimal_is_word}
use Rattle.spd_cert.proofs.LineLaws.{words_text}

abbrev pub no_node : Node Leaf
no_node = Node.leaf (Num (pos 0))

-- a node that may be the kid of a branch on a variable behind these nodes
abbrev pub IsKid : List (Node Leaf) → ℕ → ℕ → Type 0
IsKid nodes var k = (k < length nodes) × IsAfter var (slice_get nodes k)

after_from : (var : ℕ) (node : Node Leaf) → follows var node ≡ true → IsAfter var (Some node)
after_from var (Node.leaf x) e = tt
after_from var (Node.branch own kids) e = ltb-true var own e

after_to : (var : ℕ) (node : Node Leaf) → IsAfter var (Some node) → follows var node ≡ true
after_to var (Node.leaf x) h = refl
after_to var (Node.branch own kids) h = lt-ltb var own h

-- ---- one kid

kid_from_told : (nodes : List (Node Leaf)) (var left : ℕ) (o : Option ℕ) (k : ℕ) → kid_from nodes var left o ≡ Ok k → (o ≡ Some k) × (follows var (get_or nodes k no_node) ≡ true)
kid_from_told nodes var left None k e = absurd cc
kid_from_told nodes var left (Some j) k e =
    let t = passed (follows var (get_or nodes j no_node)) (Ok j) (record { kind = Order; left = left }) k e in
    let same = ok_is j k t.1 in
    (ap (λ i. Some i) same, subst (λ (i : ℕ). follows var (get_or nodes i no_node) ≡ true) same t.0)

kid_told : (nodes : List (Node Leaf)) (var : ℕ) (w : Word) (k : ℕ) → length nodes < 2 ^ 64 → kid_of nodes var w ≡ Ok k → (w.text ≡ decimal k) × IsKid nodes var k
unfolding kid_of
kid_told nodes var w k wide e =
    let t = passed (is_whole w.text) (kid_from nodes var w.left (number_below (length nodes) w.text)) (refused w Number) k e in
    let from = kid_from_told nodes var w.left (number_below (length nodes) w.text) k t.1 in
    let below = below_told (length nodes) w.text k wide t.0 from.0 in
    (below.0, (below.1, subst (λ (o : Option (Node Leaf)). IsAfter var o) (sym (slice_get-get_or nodes k no_node below.1)) (after_from var (get_or nodes k no_node) from.1)))

kid_read : (nodes : List (Node Leaf)) (var : ℕ) (w : Word) (k : ℕ) → length nodes ≤ 999999999 → w.text ≡ decimal k → IsKid nodes var k → kid_of nodes var w ≡ Ok k
unfolding kid_of
kid_read nodes var w k few is kid =
    let small : k < 10 ^ 10 = omega (arith, kid.0, few) in
    let whole : is_whole w.text ≡ true = ap is_whole is ∙ decimal_is_whole k (omega (arith, small)) in
    let number : number_below (length nodes) w.text ≡ Some k = ap (number_below (length nodes)) is ∙ below_read (length nodes) k kid.0 small in
    let after : follows var (get_or nodes k no_node) ≡ true =
    after_to var (get_or nodes k no_node) (subst (λ (o : Option (Node Leaf)). IsAfter var o) (slice_get-get_or nodes k no_node kid.0) kid.1) in
    ap (λ b. cond b (kid_from nodes var w.left (number_below (length nodes) w.text)) (Err (refused w Number))) whole
    ∙ ap (kid_from nodes var w.left) number
    ∙ ap (λ b. cond b (Ok k) (stop Order w.left)) after

-- the byte that ends a word
abbrev byte_of : Ender → ℕ
byte_of Space = 32
byte_of Line = 10

followed_told : (bytes : List ℕ) (ender : Ender) (w : Word) (rest : List ℕ) → word_at bytes ≡ Ok w → followed_by ender w ≡ Ok rest → bytes ≡ w.text ++ byte_of ender ∷ rest
followed_told bytes Space w rest e on = (space_told bytes w rest e on).0
followed_told bytes Line w rest e on = (line_told bytes w rest e on).0

kid_at_told : (nodes : List (Node Leaf)) (var : ℕ) (ender : Ender) (bytes : List ℕ) (k : ℕ) (rest : List ℕ) → length nodes < 2 ^ 64 → kid_at nodes var ender bytes ≡ Ok (k, rest)
    → (bytes ≡ decimal k ++ byte_of ender ∷ rest) × IsKid nodes var k
unfolding kid_at
kid_at_told nodes var ender bytes k rest wide e =
    let a = bind_ok (word_at bytes) (λ w. kid_of nodes var w >>= λ kid. followed_by ender w >>= λ r. Ok (kid, r)) (k, rest) e in
    let b = bind_ok (kid_of nodes var a.0) (λ kid. followed_by ender a.0 >>= λ r. Ok (kid, r)) (k, rest) a.2 in
    let c = bind_ok (followed_by ender a.0) (λ r. Ok (b.0, r)) (k, rest) b.2 in
    let both = ok_is (b.0, c.0) (k, rest) c.2 in
    let kid = kid_told nodes var a.0 b.0 wide b.1 in
    subst (λ (x : ℕ × List ℕ). (bytes ≡ decimal x.0 ++ byte_of ender ∷ x.1) × IsKid nodes var x.0) both
    (followed_told bytes ender a.0 c.0 a.1 c.1 ∙ ap (λ (t : List ℕ). t ++ byte_of ender ∷ c.0) kid.0, kid.1)

kid_at_read : (nodes : List (Node Leaf)) (var : ℕ) (ender : Ender) (k : ℕ) (rest : List ℕ) → length nodes ≤ 999999999 → IsKid nodes var k
    → kid_at nodes var ender (decimal k ++ byte_of ender ∷ rest) ≡ Ok (k, rest)
unfolding kid_at
kid_at_read nodes var Space k rest few kid =
    let word = decimal_is_word k (omega (arith, kid.0, few)) in
    rw (space_read (decimal k) rest word, kid_read nodes var (before_space (decimal k) rest) k few refl kid) refl
kid_at_read nodes var Line k rest few kid =
    let word = decimal_is_word k (omega (arith, kid.0, few)) in
    rw (line_read (decimal k) rest word, kid_read nodes var (before_line (decimal k) rest) k few refl kid) refl

-- ---- all kids

ender_more : (more : ℕ) → kid_ender (suc more) ≡ Space
ender_more more = ap (λ b. cond b Line Space) (ne_eqb (suc more) 0 (λ e. omega (arith, e)))

words_more : (w : List ℕ) (ws : List (List ℕ)) (rest : List ℕ) → 0 < length ws → words_text (w ∷ ws) rest ≡ w ++ 32 ∷ words_text ws rest
words_more w [] rest some = absurd (omega arith)
words_more w (v ∷ vs) rest some = refl

pub record KidsTold (nodes : List (Node Leaf)) (var : ℕ) (front bytes : List ℕ) (count : ℕ) (all rest : List ℕ) : Type 0 where
  pub new : List ℕ
  pub whole : all ≡ front ++ new
  pub long : length new ≡ count
  pub kids : All (IsKid nodes var) new
  pub parts : bytes ≡ words_text (map decimal new) rest

pub kids_told : (nodes : List (Node Leaf)) (var more : ℕ) (front bytes all rest : List ℕ) → length nodes < 2 ^ 64 → kids_at nodes var (suc more) front bytes ≡ Ok (all, rest)
    → KidsTold nodes var front bytes (suc more) all rest
unfolding kids_at
kids_told nodes var zero front bytes all rest wide e =
    let a = bind_ok (kid_at nodes var Line bytes) (λ kid. kids_at nodes var zero (front ++ kid.0 ∷ []) kid.1) (all, rest) e in
    let both = ok_is (front ++ a.0.0 ∷ [], a.0.1) (all, rest) a.2 in
    let one = kid_at_told nodes var Line bytes a.0.0 a.0.1 wide a.1 in
    record {
      new = a.0.0 ∷ [];
      whole = sym (ap (λ (p : List ℕ × List ℕ). p.0) both);
      long = refl;
      kids = All-cons (IsKid nodes var) a.0.0 [] one.1 (All-nil (IsKid nodes var));
      parts = one.0 ∙ ap (λ (p : List ℕ × List ℕ). decimal a.0.0 ++ 10 ∷ p.1) both;
    }
kids_told nodes var (suc more) front bytes all rest wide e =
    let a = bind_ok (kid_at nodes var (kid_ender (suc more)) bytes) (λ kid. kids_at nodes var (suc more) (front ++ kid.0 ∷ []) kid.1) (all, rest) e in
    let one = kid_at_told nodes var (kid_ender (suc more)) bytes a.0.0 a.0.1 wide a.1 in
    let others = kids_told nodes var more (front ++ a.0.0 ∷ []) a.0.1 all rest wide a.2 in
    let ender = ender_more more in
    record {
      new = a.0.0 ∷ others.new;
      whole = others.whole ∙ append_assoc front (a.0.0 ∷ []) others.new;
      long = ap (λ (n : ℕ). suc n) others.long;
      kids = All-cons (IsKid nodes var) a.0.0 others.new one.1 others.kids;
      parts = one.0 ∙ (λ i. decimal a.0.0 ++ byte_of (ender i) ∷ others.parts i)
          ∙ sym (words_more (decimal a.0.0) (map decimal others.new) rest (omega (arith, others.long, length-map others.new decimal)));
    }

pub kids_read : (nodes : List (Node Leaf)) (var : ℕ) (front : List ℕ) (k : ℕ) (kids rest : List ℕ) → length nodes ≤ 999999999 → All (IsKid nodes var) (k ∷ kids)
    → kids_at nodes var (suc (length kids)) front (words_text (map decimal (k ∷ kids)) rest) ≡ Ok (front ++ k ∷ kids, rest)
unfolding kids_at
kids_read nodes var front k [] rest few kids =
    ap (λ (r : Result (ℕ × List ℕ) Stop). r >>= λ kid. kids_at nodes var zero (front ++ kid.0 ∷ []) kid.1) (kid_at_read nodes var Line k rest few (All-head (IsKid nodes var) k [] kids))
kids_read nodes var front k (j ∷ js) rest few kids =
    let behind = words_text (map decimal (j ∷ js)) rest in
    let ender = ender_more (length js) in
    let one : kid_at nodes var (kid_ender (suc (length js))) (decimal k ++ 32 ∷ behind) ≡ Ok (k, behind) =
    ap (λ (d : Ender). kid_at nodes var d (decimal k ++ 32 ∷ behind)) ender ∙ kid_at_read nodes var Space k behind few (All-head (IsKid nodes var) k (j ∷ js) kids) in
    ap (λ (r : Result (ℕ × List ℕ) Stop). r >>= λ kid. kids_at nodes var (suc (length js)) (front ++ kid.0 ∷ []) kid.1) one
    ∙ kids_read nodes var (front ++ k ∷ []) j js rest few (All-tail (IsKid nodes var) k (j ∷ js) kids)
    ∙ ap (λ (t : List ℕ). Ok (t, rest)) (append_assoc front (k ∷ []) (j ∷ js))
