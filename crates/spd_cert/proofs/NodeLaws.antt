-- The lines of nodes: what is read is written so, and what is written so is read.
use Rattle.std.proofs.Common.{◌≡◌, ◌⊎◌, ℕ, zero, suc, ◌+◌, ◌<◌, ◌≤◌, ◌^◌, Bool, true, false, cond, leb, List, [], ◌∷◌, ◌++◌, length, map, get_or, codes, decimal, Option, Some, None, Result, Ok, ℤ, inl, inr, unsigned_abs, refl, sym, ap, subst, ◌∙◌, arith, append_assoc, append-nil, length-append}
use Rattle.std.specs.Prelude.{All, slice_get, slice_index, bytes_eq, option_map}
use Rattle.std.proofs.lemmas.Bool.{leb-true, le-leb, cases_lt}
use Rattle.std.proofs.lemmas.List.{get_or-map, length-map, get_or_append_left}
use Rattle.std.proofs.lemmas.List.Elements.{All-nil, All-head, All-tail, All-push, All-weaker}
use Rattle.std.proofs.lemmas.Option.{slice_get-get_or, slice_get_within}
use Rattle.std.proofs.lemmas.Slice.Eq.{bytes_eq-Decides}
use Rattle.spd_scaled.proofs.CallerLemmas.Magnitude.{IsWithin-from_abs, unsigned_abs-le}
use Rattle.spd_model.specs.declared.process.Var.{Var}
use Rattle.spd_model.specs.Process.{Process}
use Rattle.spd_model.specs.States.{sizes}
use Rattle.spd_model.specs.Reduced.{Node}
use Rattle.spd_model.specs.Turns.{value_limit}
use Rattle.spd_model.specs.Lawful.{IsLawful}
use Rattle.spd_model.specs.ResultText.{line, var_name, nodes_text}
use Rattle.spd_nodes.specs.declared.leaf.Leaf.{Leaf}
use Rattle.spd_nodes.specs.declared.leaf.Leaf.TheVariants.{Num, Pair, Act}
use Rattle.spd_frozen.specs.Frozen.{IsAfter, IsNodeAt, IsFrozen}
use Rattle.spd_frozen.specs.Fits.{FitsNode, FitsSizes, HasLeaf, HasLeaves, IsValue, IsChoice}
use Rattle.spd_cert.specs.declared.nodes.Part.{Part}
use Rattle.spd_cert.specs.declared.nodes.Part.TheVariants.{Value, Policy}
use Rattle.spd_cert.specs.declared.ending.Kind.TheVariants.{Expected, Unknown, Number}
use Rattle.spd_cert.specs.declared.ending.Stop.{Stop}
use Rattle.spd_cert.specs.Grammar.{IsWord, SaysLeaf, SaysNode, SayNodes}
use Rattle.spd_cert.specs.Words.{units_of, no_more_than, value_of, whole_in, var_number, action_number, leaf_of, part_word}
use Rattle.spd_cert.specs.Reading.{◌>>=◌, stop, Word, word_at, goes_on, wanted, keyword, field, last, field_at, leaf_kind, leaf_at, kids_at, branch_at, node_of, node_at, nodes_at, list_at}
use Rattle.spd_cert.proofs.WordLaws.{bind_ok, ok_is, wanted_ok, space_told, space_read, before_space, keyword_told, keyword_read, last_told, last_read, field_told, field_read}
use Rattle.spd_cert.proofs.NumberLaws.{whole_told, whole_read, decimal_is_word}
use Rattle.spd_cert.proofs.NameLaws.{entry_at, var_told, var_read, var_is_word, action_told, action_read, action_is_word}
use Rattle.spd_cert.proofs.LineLaws.{words_text, node_words, nodes_from, line_is, nodes_is}
use Rattle.spd_cert.proofs.KidLaws.{no_node, IsKid, kids_told, kids_read}

-- ---- leaves

-- a leaf that stands in a diagram of this kind
abbrev pub IsGood : Process → Part → Leaf → Type 0
IsGood m Value x = IsValue x
IsGood m Policy x = IsChoice (length m.actions) x

no_more_told : (limit : ℕ) (o : Option ℤ) (x : ℤ) → no_more_than limit o ≡ Some x → (o ≡ Some x) × (unsigned_abs x ≤ limit)
no_more_told limit None x e = absurd cc
no_more_told limit (Some y) x e = by (leb (unsigned_abs y) limit) refl e
  where
    by : (b : Bool) → leb (unsigned_abs y) limit ≡ b → cond b (Some y) None ≡ Some x → (Some y ≡ Some x) × (unsigned_abs x ≤ limit)
    by false t is = absurd cc
    by true t is =
        let same : y ≡ x = cc in (is, subst (λ (z : ℤ). unsigned_abs z ≤ limit) same (leb-true (unsigned_abs y) limit t))

num_told : (w : List ℕ) (o : Option ℤ) (x : Leaf) → IsWord w → value_of w ≡ o → option_map Num o ≡ Some x → (n : ℤ) × (x ≡ Num n) × (value_of w ≡ Some n)
num_told w None x word is e = absurd cc
num_told w (Some n) x word is e = let same : Num n ≡ x = cc in (n, sym same, is)

act_told : (o : Option ℕ) (x : Leaf) → option_map Act o ≡ Some x → (a : ℕ) × (x ≡ Act a) × (o ≡ Some a)
act_told None x e = absurd cc
act_told (Some a) x e = let same : Act a ≡ x = cc in (a, sym same, refl)

leaf_told : (m : Process) (p : Part) (w : List ℕ) (x : Leaf) → IsWord w → leaf_of m p w ≡ Some x → SaysLeaf m p w x × IsGood m p x
leaf_told m Value w x word e =
    let t = num_told w (value_of w) x word refl e in
    let limits = no_more_told value_limit (units_of w) t.0 t.2 in
    subst (λ (y : Leaf). SaysLeaf m Value w y × IsGood m Value y) (sym t.1) ((word, limits.0), IsWithin-from_abs value_limit t.0 limits.1)
leaf_told m Policy w x word e =
    let t = act_told (action_number m.actions w) x e in
    let action = action_told m w t.0 t.2 in
    subst (λ (y : Leaf). SaysLeaf m Policy w y × IsGood m Policy y) (sym t.1) (action.1, action.0)

leaf_read : (m : Process) (p : Part) (w : List ℕ) (x : Leaf) → IsLawful m → SaysLeaf m p w x → IsGood m p x → IsWord w × (leaf_of m p w ≡ Some x)
leaf_read m Value w (Num n) lawful says good =
    let fits : leb (unsigned_abs n) value_limit ≡ true = le-leb (unsigned_abs n) value_limit (unsigned_abs-le value_limit n good) in
    (says.0, ap (λ (o : Option ℤ). option_map Num (no_more_than value_limit o)) says.1 ∙ ap (λ b. option_map Num (cond b (Some n) None)) fits)
leaf_read m Value w (Pair y z) lawful says good = absurd says
leaf_read m Value w (Act a) lawful says good = absurd says
leaf_read m Policy w (Num n) lawful says good = absurd says
leaf_read m Policy w (Pair y z) lawful says good = absurd says
leaf_read m Policy w (Act a) lawful says good = (
  subst (λ (v : List ℕ). IsWord v) (sym says) (action_is_word m lawful a good),
  ap (λ (v : List ℕ). option_map Act (action_number m.actions v)) says ∙ ap (λ (o : Option ℕ). option_map Act o) (action_read m lawful a good),
)

-- ---- one node

-- the words of a node, without its number
abbrev name_of : Process → ℕ → List ℕ
name_of m = var_name m

abbrev pub words_of : Process → ℕ → Node (List ℕ) → List (List ℕ)
words_of m i node = node_words (λ (w : List ℕ). w) (var_name m) i node

pub record NodeTold (m : Process) (p : Part) (nodes : List (Node Leaf)) (bytes : List ℕ) (node : Node Leaf) (rest : List ℕ) : Type 0 where
  pub word : Node (List ℕ)
  pub says : SaysNode m p word node
  pub parts : bytes ≡ words_text (words_of m (length nodes) word) rest
  pub at : IsNodeAt nodes (length nodes) node
  pub fits : FitsNode (sizes m) node
  pub good : HasLeaf (IsGood m p) node

-- the number of a variable's values
size_is : (m : Process) (var : ℕ) → IsLawful m → var < length m.vars → (more : ℕ) × (slice_index (sizes m) var ≡ suc more)
size_is m var lawful within =
    let d = (entry_at m.vars var within).0 in
    let is : slice_index (sizes m) var ≡ length (get_or m.vars var d).values = get_or-map (λ (x : Var). length x.values) m.vars var d 0 within in
    let more = above (length (get_or m.vars var d).values) (lawful.values var d within).some in
    (more.0, is ∙ more.1)
  where
    above : (n : ℕ) → 0 < n → (k : ℕ) × (n ≡ suc k)
    above zero h = absurd (omega arith)
    above (suc k) h = (k, refl)

branch_told : (m : Process) (p : Part) (nodes : List (Node Leaf)) (bytes : List ℕ) (node : Node Leaf) (rest : List ℕ) → IsLawful m → length nodes < 2 ^ 64 → branch_at m nodes bytes ≡ Ok (node, rest)
    → NodeTold m p nodes (decimal (length nodes) ++ 32 ∷ (codes "branch" ++ 32 ∷ bytes)) node rest
unfolding branch_at
branch_told m p nodes bytes node rest lawful wide e =
    let a = bind_ok (word_at bytes)
    (λ w. wanted w Unknown (var_number m.vars w.text) >>= λ var. goes_on w >>= λ r. kids_at nodes var (slice_index (sizes m) var) [] r >>= λ kids. Ok (Node.branch var kids.0, kids.1)) (node, rest) e in
    let b = bind_ok (wanted a.0 Unknown (var_number m.vars a.0.text))
    (λ var. goes_on a.0 >>= λ r. kids_at nodes var (slice_index (sizes m) var) [] r >>= λ kids. Ok (Node.branch var kids.0, kids.1)) (node, rest) a.2 in
    let c = bind_ok (goes_on a.0) (λ r. kids_at nodes b.0 (slice_index (sizes m) b.0) [] r >>= λ kids. Ok (Node.branch b.0 kids.0, kids.1)) (node, rest) b.2 in
    let d = bind_ok (kids_at nodes b.0 (slice_index (sizes m) b.0) [] c.0) (λ kids. Ok (Node.branch b.0 kids.0, kids.1)) (node, rest) c.2 in
    let both = ok_is (Node.branch b.0 d.0.0, d.0.1) (node, rest) d.2 in
    let var = var_told m a.0.text b.0 (wanted_ok a.0 Unknown (var_number m.vars a.0.text) b.0 b.1) in
    let word = space_told bytes a.0 c.0 a.1 c.1 in
    let size = size_is m b.0 lawful var.0 in
    let kids = kids_told nodes b.0 size.0 [] c.0 d.0.0 d.0.1 wide (ap (λ (n : ℕ). kids_at nodes b.0 n [] c.0) (sym size.1) ∙ d.1) in
    let all : d.0.0 ≡ kids.new = kids.whole in
    let long : length d.0.0 ≡ slice_index (sizes m) b.0 = ap (λ (l : List ℕ). length l) all ∙ kids.long ∙ sym size.1 in
    let more : 0 < length d.0.0 = omega (arith, long, size.1) in
    let name : bytes ≡ var_name m b.0 ++ 32 ∷ words_text (map decimal d.0.0) d.0.1 =
    word.0 ∙ (λ i. var.1 i ++ 32 ∷ (kids.parts ∙ ap (λ (ks : List ℕ). words_text (map decimal ks) d.0.1) (sym all)) i) in
    subst (λ (x : Node Leaf × List ℕ). NodeTold m p nodes (decimal (length nodes) ++ 32 ∷ (codes "branch" ++ 32 ∷ bytes)) x.0 x.1) both (record {
      word = Node.branch b.0 d.0.0;
      says = (refl, refl);
      parts = ap (λ (t : List ℕ). decimal (length nodes) ++ 32 ∷ (codes "branch" ++ 32 ∷ t)) (name ∙ sym (name_first m b.0 d.0.0 d.0.1 more));
      at = (more, subst (λ (ks : List ℕ). All (IsKid nodes b.0) ks) (sym all) kids.kids);
      fits = (subst (λ (n : ℕ). b.0 < n) (sym (length-map m.vars (λ (x : Var). length x.values))) var.0, long);
      good = tt;
    })
  where
    name_first : (m : Process) (var : ℕ) (kids rest : List ℕ) → 0 < length kids → words_text (var_name m var ∷ map decimal kids) rest ≡ var_name m var ++ 32 ∷ words_text (map decimal kids) rest
    name_first m var [] rest some = absurd (omega arith)
    name_first m var (k ∷ ks) rest some = refl

branch_read : (m : Process) (nodes : List (Node Leaf)) (var : ℕ) (kids rest : List ℕ) → IsLawful m → length nodes ≤ 999999999 → FitsNode (sizes m) (Node.branch var kids) → IsNodeAt nodes (length nodes) (Node.branch var kids)
    → branch_at m nodes (words_text (var_name m var ∷ map decimal kids) rest) ≡ Ok (Node.branch var kids, rest)
unfolding branch_at
branch_read m nodes var [] rest lawful few fits at = absurd (omega (arith, at.0))
branch_read m nodes var (k ∷ ks) rest lawful few fits at =
    let within : var < length m.vars = subst (λ (n : ℕ). var < n) (length-map m.vars (λ (x : Var). length x.values)) fits.0 in
    let behind = words_text (map decimal (k ∷ ks)) rest in
    let kids : kids_at nodes var (slice_index (sizes m) var) [] behind ≡ Ok (k ∷ ks, rest) =
    ap (λ (n : ℕ). kids_at nodes var n [] behind) (sym fits.1) ∙ kids_read nodes var [] k ks rest few at.1 in
    ap (λ (r : Result Word Stop). r >>= λ w. wanted w Unknown (var_number m.vars w.text) >>= λ v. goes_on w >>= λ b. kids_at nodes v (slice_index (sizes m) v) [] b >>= λ read. Ok (Node.branch v read.0, read.1))
    (space_read (var_name m var) behind (var_is_word m lawful var within))
    ∙ ap (λ (o : Option ℕ). wanted (before_space (var_name m var) behind) Unknown o >>= λ v. kids_at nodes v (slice_index (sizes m) v) [] behind >>= λ read. Ok (Node.branch v read.0, read.1))
    (var_read m lawful var within)
    ∙ ap (λ (r : Result (List ℕ × List ℕ) Stop). r >>= λ read. Ok (Node.branch var read.0, read.1)) kids

leaf_at_told : (m : Process) (p : Part) (nodes : List (Node Leaf)) (bytes : List ℕ) (node : Node Leaf) (rest : List ℕ) → leaf_at m p bytes ≡ Ok (node, rest)
    → NodeTold m p nodes (decimal (length nodes) ++ 32 ∷ (codes "leaf" ++ 32 ∷ bytes)) node rest
unfolding leaf_at
leaf_at_told m p nodes bytes node rest e =
    let a = bind_ok (word_at bytes >>= last (leaf_kind p) (leaf_of m p)) (λ x. Ok (Node.leaf x.0, x.1)) (node, rest) e in
    let both = ok_is (Node.leaf a.0.0, a.0.1) (node, rest) a.2 in
    let end = last_told (leaf_kind p) (leaf_of m p) bytes a.0.0 a.0.1 a.1 in
    let says = leaf_told m p end.0 a.0.0 end.2 end.3 in
    subst (λ (x : Node Leaf × List ℕ). NodeTold m p nodes (decimal (length nodes) ++ 32 ∷ (codes "leaf" ++ 32 ∷ bytes)) x.0 x.1) both (record {
      word = Node.leaf end.0;
      says = says.0;
      parts = ap (λ (t : List ℕ). decimal (length nodes) ++ 32 ∷ (codes "leaf" ++ 32 ∷ t)) end.1;
      at = tt;
      fits = tt;
      good = says.1;
    })

pub node_told : (m : Process) (p : Part) (nodes : List (Node Leaf)) (bytes : List ℕ) (node : Node Leaf) (rest : List ℕ) → IsLawful m → length nodes < 2 ^ 64 → node_at m p nodes bytes ≡ Ok (node, rest)
    → NodeTold m p nodes bytes node rest
unfolding node_at
node_told m p nodes bytes node rest lawful wide e =
    let a = bind_ok (field (decimal (length nodes)) bytes) (node_of m p nodes) (node, rest) e in
    let b = bind_ok (keyword (decimal (length nodes)) bytes) word_at a.0 a.1 in
    let number = keyword_told (decimal (length nodes)) bytes b.0 b.1 in
    by b.0 number a.0 b.2 (bytes_eq a.0.text (codes "leaf")) refl a.2
  where
    second : (start : List ℕ) → bytes ≡ decimal (length nodes) ++ 32 ∷ start → (w : Word) → word_at start ≡ Ok w → (b : Bool) → bytes_eq w.text (codes "branch") ≡ b
        → cond b (goes_on w >>= branch_at m nodes) (stop Expected w.left) ≡ Ok (node, rest) → NodeTold m p nodes bytes node rest
    second start number w read false t is = absurd cc
    second start number w read true t is =
        let c = bind_ok (goes_on w) (branch_at m nodes) (node, rest) is in
        let told = space_told start w c.0 read c.1 in
        let text : w.text ≡ codes "branch" = (bytes_eq-Decides w.text (codes "branch")).0 t in
        subst (λ (t : List ℕ). NodeTold m p nodes t node rest) (sym (number ∙ ap (λ (t : List ℕ). decimal (length nodes) ++ 32 ∷ t) (told.0 ∙ ap (λ (t : List ℕ). t ++ 32 ∷ c.0) text)))
        (branch_told m p nodes c.0 node rest lawful wide c.2)

    by : (start : List ℕ) → bytes ≡ decimal (length nodes) ++ 32 ∷ start → (w : Word) → word_at start ≡ Ok w → (b : Bool) → bytes_eq w.text (codes "leaf") ≡ b
        → cond b (goes_on w >>= leaf_at m p) (cond (bytes_eq w.text (codes "branch")) (goes_on w >>= branch_at m nodes) (stop Expected w.left)) ≡ Ok (node, rest) → NodeTold m p nodes bytes node rest
    by start number w read true t is =
        let c = bind_ok (goes_on w) (leaf_at m p) (node, rest) is in
        let told = space_told start w c.0 read c.1 in
        let text : w.text ≡ codes "leaf" = (bytes_eq-Decides w.text (codes "leaf")).0 t in
        subst (λ (t : List ℕ). NodeTold m p nodes t node rest) (sym (number ∙ ap (λ (t : List ℕ). decimal (length nodes) ++ 32 ∷ t) (told.0 ∙ ap (λ (t : List ℕ). t ++ 32 ∷ c.0) text)))
        (leaf_at_told m p nodes c.0 node rest c.2)
    by start number w read false t is = second start number w read (bytes_eq w.text (codes "branch")) refl is

pub node_read : (m : Process) (p : Part) (nodes : List (Node Leaf)) (word : Node (List ℕ)) (node : Node Leaf) (rest : List ℕ) → IsLawful m → length nodes ≤ 999999999
    → SaysNode m p word node → IsNodeAt nodes (length nodes) node → FitsNode (sizes m) node → HasLeaf (IsGood m p) node
    → node_at m p nodes (words_text (words_of m (length nodes) word) rest) ≡ Ok (node, rest)
unfolding node_at leaf_at
node_read m p nodes (Node.leaf w) (Node.leaf x) rest lawful few says at fits good =
    let leaf = leaf_read m p w x lawful says good in
    let behind = w ++ 10 ∷ rest in
    ap (λ (r : Result (List ℕ) Stop). (r >>= word_at) >>= node_of m p nodes) (keyword_read (decimal (length nodes)) (codes "leaf" ++ 32 ∷ behind) (decimal_is_word (length nodes) (omega (arith, few))))
    ∙ ap (λ (r : Result Word Stop). r >>= node_of m p nodes) (space_read (codes "leaf") behind refl)
    ∙ ap (λ (r : Result (Leaf × List ℕ) Stop). r >>= λ y. Ok (Node.leaf y.0, y.1)) (last_read (leaf_kind p) (leaf_of m p) w x rest leaf.0 leaf.1)
node_read m p nodes (Node.leaf w) (Node.branch var kids) rest lawful few says at fits good = absurd says
node_read m p nodes (Node.branch v ks) (Node.leaf x) rest lawful few says at fits good = absurd says
node_read m p nodes (Node.branch v ks) (Node.branch var kids) rest lawful few says at fits good =
    let behind = words_text (var_name m var ∷ map decimal kids) rest in
    let same : words_text (words_of m (length nodes) (Node.branch v ks)) rest ≡ decimal (length nodes) ++ 32 ∷ (codes "branch" ++ 32 ∷ behind) =
    (λ i. words_text (words_of m (length nodes) (Node.branch (says.0 i) (says.1 i))) rest) in
    ap (λ (t : List ℕ). field (decimal (length nodes)) t >>= node_of m p nodes) same
    ∙ ap (λ (r : Result (List ℕ) Stop). (r >>= word_at) >>= node_of m p nodes) (keyword_read (decimal (length nodes)) (codes "branch" ++ 32 ∷ behind) (decimal_is_word (length nodes) (omega (arith, few))))
    ∙ ap (λ (r : Result Word Stop). r >>= node_of m p nodes) (space_read (codes "branch") behind refl)
    ∙ branch_read m nodes var kids rest lawful few fits at

-- ---- nodes that were read

-- each node stands behind its kids, fits the variables, and has a lawful leaf
pub record AreGood (m : Process) (p : Part) (nodes : List (Node Leaf)) : Type 0 where
  pub each : (i : ℕ) (node : Node Leaf) → slice_get nodes i ≡ Some node → IsNodeAt nodes i node
  pub fits : FitsSizes (sizes m) nodes
  pub good : HasLeaves (IsGood m p) nodes

-- a node keeps its place where more follow
kept : (nodes more : List (Node Leaf)) (i : ℕ) → i < length nodes → slice_get (nodes ++ more) i ≡ slice_get nodes i
kept nodes more i within =
    slice_get-get_or (nodes ++ more) i no_node (omega (arith, within, length-append nodes more)) ∙ ap (λ (n : Node Leaf). Some n) (get_or_append_left nodes more no_node i within)
    ∙ sym (slice_get-get_or nodes i no_node within)

-- the node behind others
node_behind : (front : List (Node Leaf)) (node : Node Leaf) (more : List (Node Leaf)) → slice_get (front ++ node ∷ more) (length front) ≡ Some node
node_behind [] node more = refl
node_behind (first ∷ front) node more = node_behind front node more

node_longer : (nodes more : List (Node Leaf)) (i : ℕ) (node : Node Leaf) → i ≤ length nodes → IsNodeAt nodes i node → IsNodeAt (nodes ++ more) i node
node_longer nodes more i (Node.leaf x) le at = tt
node_longer nodes more i (Node.branch var kids) le at = (
  at.0,
  All-weaker (λ k. (k < i) × IsAfter var (slice_get nodes k)) (λ k. (k < i) × IsAfter var (slice_get (nodes ++ more) k))
      (λ k h. (h.0, subst (λ (o : Option (Node Leaf)). IsAfter var o) (sym (kept nodes more k (omega (arith, h.0, le)))) h.1)) kids at.1,
)

good_none : (m : Process) (p : Part) → AreGood m p []
good_none m p = record { each = λ i node e. absurd cc; fits = All-nil (FitsNode (sizes m)); good = All-nil (HasLeaf (IsGood m p)) }

good_more : (m : Process) (p : Part) (nodes : List (Node Leaf)) (node : Node Leaf) → AreGood m p nodes → IsNodeAt nodes (length nodes) node → FitsNode (sizes m) node → HasLeaf (IsGood m p) node
    → AreGood m p (nodes ++ node ∷ [])
good_more m p nodes node so_far at fits good = record {
  each = λ i x e. by i x e (cases_lt i (length nodes));
  fits = All-push (FitsNode (sizes m)) nodes node so_far.fits fits;
  good = All-push (HasLeaf (IsGood m p)) nodes node so_far.good good;
}
  where
    by : (i : ℕ) (x : Node Leaf) → slice_get (nodes ++ node ∷ []) i ≡ Some x → (i < length nodes) ⊎ (length nodes ≤ i) → IsNodeAt (nodes ++ node ∷ []) i x
    by i x e (inl low) = node_longer nodes (node ∷ []) i x (omega (arith, low)) (so_far.each i x (sym (kept nodes (node ∷ []) i low) ∙ e))
    by i x e (inr high) =
        let inside = slice_get_within (nodes ++ node ∷ []) i x e in
        let last : i ≡ length nodes = omega (arith, inside, high, length-append nodes (node ∷ [])) in
        let is : Some node ≡ Some x = sym (node_behind nodes node []) ∙ ap (slice_get (nodes ++ node ∷ [])) (sym last) ∙ e in
        let same : node ≡ x = cc is in
        subst (λ (j : ℕ). IsNodeAt (nodes ++ node ∷ []) j x) (sym last) (subst (λ (y : Node Leaf). IsNodeAt (nodes ++ node ∷ []) (length nodes) y) same (node_longer nodes (node ∷ []) (length nodes) node (omega arith) at))

pub record NodesTold (m : Process) (p : Part) (front : List (Node Leaf)) (bytes : List ℕ) (count : ℕ) (all : List (Node Leaf)) (rest : List ℕ) : Type 0 where
  pub new : List (Node Leaf)
  pub words : List (Node (List ℕ))
  pub whole : all ≡ front ++ new
  pub long : length new ≡ count
  pub say : SayNodes m p words new
  pub parts : bytes ≡ nodes_from (λ (w : List ℕ). w) (var_name m) (length front) words rest
  pub good : AreGood m p all

pub nodes_told : (m : Process) (p : Part) (count : ℕ) (front : List (Node Leaf)) (bytes : List ℕ) (all : List (Node Leaf)) (rest : List ℕ) → IsLawful m → length front + count < 2 ^ 64 → AreGood m p front
    → nodes_at m p count front bytes ≡ Ok (all, rest) → NodesTold m p front bytes count all rest
unfolding nodes_at
nodes_told m p zero front bytes all rest lawful wide so_far e =
    let both = ok_is (front, bytes) (all, rest) e in
    let same : front ≡ all = ap (λ (x : List (Node Leaf) × List ℕ). x.0) both in
    record {
      new = [];
      words = [];
      whole = sym same ∙ sym (append-nil front);
      long = refl;
      say = tt;
      parts = ap (λ (x : List (Node Leaf) × List ℕ). x.1) both;
      good = subst (λ (x : List (Node Leaf)). AreGood m p x) same so_far;
    }
nodes_told m p (suc more) front bytes all rest lawful wide so_far e =
    let a = bind_ok (node_at m p front bytes) (λ node. nodes_at m p more (front ++ node.0 ∷ []) node.1) (all, rest) e in
    let one = node_told m p front bytes a.0.0 a.0.1 lawful (omega (arith, wide)) a.1 in
    let next : length (front ++ a.0.0 ∷ []) ≡ length front + 1 = length-append front (a.0.0 ∷ []) in
    let others = nodes_told m p more (front ++ a.0.0 ∷ []) a.0.1 all rest lawful (omega (arith, wide, next)) (good_more m p front a.0.0 so_far one.at one.fits one.good) a.2 in
    record {
      new = a.0.0 ∷ others.new;
      words = one.word ∷ others.words;
      whole = others.whole ∙ append_assoc front (a.0.0 ∷ []) others.new;
      long = ap (λ (n : ℕ). suc n) others.long;
      say = (one.says, others.say);
      parts = one.parts ∙ ap (λ (t : List ℕ). words_text (words_of m (length front) one.word) t) (others.parts ∙ ap (λ (i : ℕ). nodes_from (λ (w : List ℕ). w) (var_name m) i others.words rest) next);
      good = others.good;
    }

good_front : (m : Process) (p : Part) (front : List (Node Leaf)) (node : Node Leaf) (more : List (Node Leaf)) → AreGood m p (front ++ node ∷ more)
    → IsNodeAt front (length front) node × FitsNode (sizes m) node × HasLeaf (IsGood m p) node
good_front m p front node more good = (
  shorter node (good.each (length front) node (node_behind front node more)),
  at_seam (FitsNode (sizes m)) front node more good.fits,
  at_seam (HasLeaf (IsGood m p)) front node more good.good,
)
  where
    at_seam : {X : Type 0} (P : X → Type 0) (xs : List X) (x : X) (ys : List X) → All P (xs ++ x ∷ ys) → P x
    at_seam P [] x ys all = All-head P x ys all
    at_seam P (y ∷ xs) x ys all = at_seam P xs x ys (All-tail P y (xs ++ x ∷ ys) all)

    shorter : (n : Node Leaf) → IsNodeAt (front ++ node ∷ more) (length front) n → IsNodeAt front (length front) n
    shorter (Node.leaf x) at = tt
    shorter (Node.branch var kids) at = (
      at.0,
      All-weaker (λ k. (k < length front) × IsAfter var (slice_get (front ++ node ∷ more) k)) (λ k. (k < length front) × IsAfter var (slice_get front k))
          (λ k h. (h.0, subst (λ (o : Option (Node Leaf)). IsAfter var o) (kept front (node ∷ more) k h.0) h.1)) kids at.1,
    )

pub nodes_read : (m : Process) (p : Part) (front : List (Node Leaf)) (words : List (Node (List ℕ))) (nodes : List (Node Leaf)) (rest : List ℕ) → IsLawful m → length front + length nodes ≤ 999999999
    → SayNodes m p words nodes → AreGood m p (front ++ nodes)
    → nodes_at m p (length nodes) front (nodes_from (λ (w : List ℕ). w) (var_name m) (length front) words rest) ≡ Ok (front ++ nodes, rest)
unfolding nodes_at
nodes_read m p front [] [] rest lawful few say good = ap (λ (t : List (Node Leaf)). Ok (t, rest)) (sym (append-nil front))
nodes_read m p front [] (node ∷ nodes) rest lawful few say good = absurd say
nodes_read m p front (word ∷ words) [] rest lawful few say good = absurd say
nodes_read m p front (word ∷ words) (node ∷ nodes) rest lawful few say good =
    let at = good_front m p front node nodes good in
    let next : length (front ++ node ∷ []) ≡ length front + 1 = length-append front (node ∷ []) in
    let whole : (front ++ node ∷ []) ++ nodes ≡ front ++ node ∷ nodes = append_assoc front (node ∷ []) nodes in
    let behind = nodes_from (λ (w : List ℕ). w) (var_name m) (length front + 1) words rest in
    ap (λ (r : Result (Node Leaf × List ℕ) Stop). r >>= λ read. nodes_at m p (length nodes) (front ++ read.0 ∷ []) read.1)
    (node_read m p front word node behind lawful (omega (arith, few)) say.0 at.0 at.1 at.2)
    ∙ ap (λ (i : ℕ). nodes_at m p (length nodes) (front ++ node ∷ []) (nodes_from (λ (w : List ℕ). w) (var_name m) i words rest)) (sym next)
    ∙ nodes_read m p (front ++ node ∷ []) words nodes rest lawful (omega (arith, few, next)) say.1 (subst (λ (l : List (Node Leaf)). AreGood m p l) (sym whole) good)
    ∙ ap (λ (t : List (Node Leaf)). Ok (t, rest)) whole

-- ---- a diagram

pub record ListTold (m : Process) (p : Part) (bytes : List ℕ) (nodes : List (Node Leaf)) (rest : List ℕ) : Type 0 where
  pub words : List (Node (List ℕ))
  pub say : SayNodes m p words nodes
  pub parts : bytes ≡ nodes_text (λ (w : List ℕ). w) (var_name m) (part_word p) words ++ rest
  pub good : AreGood m p nodes
  pub some : 1 ≤ length nodes
  pub few : length nodes ≤ 999999999

say_long : (m : Process) (p : Part) (words : List (Node (List ℕ))) (nodes : List (Node Leaf)) → SayNodes m p words nodes → length words ≡ length nodes
say_long m p [] [] say = refl
say_long m p [] (node ∷ nodes) say = absurd say
say_long m p (word ∷ words) [] say = absurd say
say_long m p (word ∷ words) (node ∷ nodes) say = ap (λ (n : ℕ). suc n) (say_long m p words nodes say.1)

list_is : (m : Process) (p : Part) (words : List (Node (List ℕ))) (rest : List ℕ)
    → nodes_text (λ (w : List ℕ). w) (var_name m) (part_word p) words ++ rest ≡ part_word p ++ 32 ∷ (decimal (length words) ++ 10 ∷ nodes_from (λ (w : List ℕ). w) (var_name m) 0 words rest)
list_is m p words rest =
    append_assoc (line (part_word p ∷ decimal (length words) ∷ [])) _ rest
    ∙ ap (λ (t : List ℕ). line (part_word p ∷ decimal (length words) ∷ []) ++ t) (nodes_is (λ (w : List ℕ). w) (var_name m) 0 words rest)
    ∙ line_is (part_word p ∷ decimal (length words) ∷ []) (nodes_from (λ (w : List ℕ). w) (var_name m) 0 words rest)

pub list_told : (m : Process) (p : Part) (bytes : List ℕ) (nodes : List (Node Leaf)) (rest : List ℕ) → IsLawful m → list_at m p bytes ≡ Ok (nodes, rest) → ListTold m p bytes nodes rest
unfolding list_at
list_told m p bytes nodes rest lawful e =
    let a = bind_ok (field_at (part_word p) Number (whole_in 1 999999999) bytes) (λ count. nodes_at m p count.0 [] count.1) (nodes, rest) e in
    let count = field_told Number (whole_in 1 999999999) (part_word p) bytes a.0.0 a.0.1 a.1 in
    let number = whole_told 1 999999999 count.0 a.0.0 (omega arith) count.3 in
    let told = nodes_told m p a.0.0 [] a.0.1 nodes rest lawful (omega (arith, number.2)) (good_none m p) a.2 in
    let long : length nodes ≡ a.0.0 = ap (λ (l : List (Node Leaf)). length l) told.whole ∙ told.long in
    let same : decimal a.0.0 ≡ decimal (length told.words) = ap decimal (sym told.long ∙ sym (say_long m p told.words told.new told.say)) in
    record {
      words = told.words;
      say = subst (λ (l : List (Node Leaf)). SayNodes m p told.words l) (sym told.whole) told.say;
      parts = count.1 ∙ (λ i. part_word p ++ 32 ∷ ((number.0 ∙ same) i ++ 10 ∷ told.parts i)) ∙ sym (list_is m p told.words rest);
      good = told.good;
      some = omega (arith, long, number.1);
      few = omega (arith, long, number.2);
    }

part_is_word : (p : Part) → IsWord (part_word p)
part_is_word Value = refl
part_is_word Policy = refl

pub list_read : (m : Process) (p : Part) (words : List (Node (List ℕ))) (nodes : List (Node Leaf)) (rest : List ℕ) → IsLawful m → 1 ≤ length nodes → length nodes ≤ 999999999 → SayNodes m p words nodes → AreGood m p nodes
    → list_at m p (nodes_text (λ (w : List ℕ). w) (var_name m) (part_word p) words ++ rest) ≡ Ok (nodes, rest)
unfolding list_at
list_read m p words nodes rest lawful some few say good =
    let long = say_long m p words nodes say in
    let behind = nodes_from (λ (w : List ℕ). w) (var_name m) 0 words rest in
    let count : whole_in 1 999999999 (decimal (length words)) ≡ Some (length nodes) = ap (λ (n : ℕ). whole_in 1 999999999 (decimal n)) long ∙ whole_read 1 999999999 (length nodes) some few (omega arith) in
    ap (λ (t : List ℕ). field_at (part_word p) Number (whole_in 1 999999999) t >>= λ n. nodes_at m p n.0 [] n.1) (list_is m p words rest)
    ∙ ap (λ (r : Result (ℕ × List ℕ) Stop). r >>= λ n. nodes_at m p n.0 [] n.1)
    (field_read Number (whole_in 1 999999999) (part_word p) (decimal (length words)) (length nodes) behind (part_is_word p) (decimal_is_word (length words) (omega (arith, long, few))) count)
    ∙ nodes_read m p [] words nodes rest lawful (omega (arith, few)) say good

-- a diagram that was read is one
pub good_is_frozen : (m : Process) (p : Part) (nodes : List (Node Leaf)) → 1 ≤ length nodes → AreGood m p nodes → IsFrozen nodes
good_is_frozen m p nodes some good = record { some = some; each = good.each }

pub list_is_frozen : (m : Process) (p : Part) (bytes : List ℕ) (nodes : List (Node Leaf)) (rest : List ℕ) → IsLawful m → list_at m p bytes ≡ Ok (nodes, rest) → IsFrozen nodes
list_is_frozen m p bytes nodes rest lawful e = let told = list_told m p bytes nodes rest lawful e in good_is_frozen m p nodes told.some told.good
