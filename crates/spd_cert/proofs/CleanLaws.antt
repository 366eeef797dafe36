-- The text of a certificate has no byte but LF and 0x20 to 0x7E.
use Rattle.std.proofs.Common.{◌≡◌, ℕ, zero, suc, ◌+◌, ◌/◌, ◌%◌, ◌^◌, ◌<◌, ◌≤◌, Bool, true, false, cond, ltb, ◌||◌, not, List, [], ◌∷◌, ◌++◌, length, map, get_or, codes, decimal, Some, None, ℤ, pos, negsuc, unsigned_abs, refl, sym, ap, subst, ◌∙◌, arith}
use Rattle.std.specs.Prelude.{position, flat_map, slice_get, IsTrue, All, ◌==◌}
use Rattle.std.specs.List.{list_all, join_with_byte, enumerate_from, position_or_len}
use Rattle.std.specs.Char.{is_ascii_alphabetic, is_ascii_alphanumeric}
use Rattle.std.specs.Str.Parse.{AllDigits}
use Rattle.std.proofs.lemmas.Bool.{and_parts, and_from}
use Rattle.std.proofs.lemmas.Bool.Decides.{nat_tests}
use Rattle.std.proofs.lemmas.List.Folds.{list_all-append}
use Rattle.std.proofs.Math.Nat.{div-le_self}
use Rattle.std.proofs.lemmas.List.{length-map}
use Rattle.std.proofs.lemmas.List.Elements.{All-head, All-tail, All-weaker}
use Rattle.std.proofs.lemmas.Option.{slice_get-get_or}
use Rattle.std.proofs.lemmas.Fmt.{decimal_is_IsNumeral, decimal_is_IsNumeral_wide}
use Rattle.std.proofs.lemmas.Str.Parse.{digit_from_value}
use Rattle.hex.specs.Hex.{IsBytes, lower_digits, encode_with, encode_lower}
use Rattle.spd_scaled.specs.Units.{last_digits, sign_text}
use Rattle.spd_scaled.proofs.CallerLemmas.UnitsLaws.{AllDigits-last_digits}
use Rattle.spd_model.specs.declared.process.Var.{Var}
use Rattle.spd_model.specs.declared.process.Action.{Action}
use Rattle.spd_model.specs.declared.Side.{Side}
use Rattle.spd_model.specs.declared.Side.TheVariants.{Above, Below}
use Rattle.spd_model.specs.declared.Why.{Why}
use Rattle.spd_model.specs.declared.Why.TheVariants.{Done, Limit}
use Rattle.spd_model.specs.Names.{is_name, has_name_form, is_value_name, has_value_form}
use Rattle.spd_model.specs.Process.{Process}
use Rattle.spd_model.specs.Reduced.{Node}
use Rattle.spd_model.specs.States.{sizes, IsState}
use Rattle.spd_model.specs.Turns.{Place}
use Rattle.spd_model.specs.Lawful.{HasValues, IsLawful}
use Rattle.spd_model.specs.ResultText.{line, units, why_text, side_text, action_name, var_name, value_name, state_words, place_line, node_line, nodes_text}
use Rattle.spd_nodes.specs.declared.leaf.Leaf.{Leaf}
use Rattle.spd_frozen.specs.Fits.{FitsNode, FitsSizes, HasLeaf, HasLeaves}
use Rattle.spd_frozen.specs.Frozen.{IsAfter, IsFrozen}
use Rattle.spd_cert.specs.Reading.{is_bad}
use Rattle.spd_cert.proofs.NameLaws.{entry_at, name_at_is}
use Rattle.spd_cert.proofs.PlaceLaws.{pairs, sizes_of}

abbrev pub is_good : ℕ → Bool
is_good byte = not (is_bad byte)

abbrev pub IsClean : List ℕ → Type 0
IsClean bytes = list_all is_good bytes ≡ true

none_len : (bytes : List ℕ) → IsClean bytes → position_or_len is_bad bytes ≡ length bytes
none_len [] h = refl
none_len (c ∷ cs) h =
    let parts = and_parts (is_good c) (list_all is_good cs) h in
    ap (λ t. cond t (1 + position_or_len is_bad cs) 0) parts.0 ∙ omega (arith, none_len cs parts.1)

-- clean bytes have no bad one
pub none_bad : (bytes : List ℕ) → IsClean bytes → position is_bad bytes ≡ None
none_bad bytes h =
    let past : ltb (position_or_len is_bad bytes) (length bytes) ≡ false = grind (arith, nat_tests, none_len bytes h) in
    ap (λ b. cond b (Some (position_or_len is_bad bytes)) None) past

pub clean_append : (a b : List ℕ) → IsClean a → IsClean b → IsClean (a ++ b)
clean_append a b x y = list_all-append is_good a b ∙ and_from (list_all is_good a) (list_all is_good b) x y

-- ---- lines of clean words

abbrev pub AreClean : List (List ℕ) → Type 0
AreClean ws = list_all (λ w. list_all is_good w) ws ≡ true

joined_clean : (ws : List (List ℕ)) → AreClean ws → IsClean (join_with_byte 32 ws)
joined_clean [] h = refl
joined_clean (w ∷ []) h = (and_parts (list_all is_good w) true h).0
joined_clean (w ∷ v ∷ ws) h =
    let parts = and_parts (list_all is_good w) (list_all (λ x. list_all is_good x) (v ∷ ws)) h in
    clean_append w (32 ∷ join_with_byte 32 (v ∷ ws)) parts.0 (joined_clean (v ∷ ws) parts.1)

pub line_clean : (ws : List (List ℕ)) → AreClean ws → IsClean (line ws)
line_clean ws h = clean_append (join_with_byte 32 ws) (10 ∷ []) (joined_clean ws h) refl

pub words_clean : (w : List ℕ) (ws : List (List ℕ)) → IsClean w → AreClean ws → AreClean (w ∷ ws)
words_clean w ws a b = and_from (list_all is_good w) (list_all (λ x. list_all is_good x) ws) a b

-- ---- numbers

pub digits_clean : (ds : List ℕ) → AllDigits 10 ds → IsClean ds
digits_clean [] all = refl
digits_clean (c ∷ cs) all =
    let range = digit_from_value c all.0 in
    let low : 48 ≤ c = range.0 in
    let high : c ≤ 57 = range.1 in
    let good : is_good c ≡ true = grind (arith, nat_tests) in
    and_from (is_good c) (list_all is_good cs) good (digits_clean cs all.1)

pub decimal_clean : (n : ℕ) → n < 2 ^ 64 → IsClean (decimal n)
decimal_clean n small = digits_clean (decimal n) (decimal_is_IsNumeral n small).0.1

sign_clean : (n : ℤ) → IsClean (sign_text n)
sign_clean (pos n) = refl
sign_clean (negsuc n) = refl

-- ---- digests

-- the bytes of a list that has some
good_at : (xs : List ℕ) → IsClean xs → (i : ℕ) → i < length xs → is_good (get_or xs i 0) ≡ true
good_at [] h i within = absurd (omega (arith, within))
good_at (c ∷ cs) h zero within = (and_parts (is_good c) (list_all is_good cs) h).0
good_at (c ∷ cs) h (suc i) within = good_at cs (and_parts (is_good c) (list_all is_good cs) h).1 i (omega (arith, within))

pub digest_clean : (d : List ℕ) → IsBytes d → IsClean (encode_lower d)
unfolding encode_with
digest_clean [] bytes = refl
digest_clean (b ∷ bs) bytes =
    let small : b < 256 = bytes 0 in
    let high = good_at lower_digits refl (b / 16) (omega (arith, small)) in
    let low = good_at lower_digits refl (b % 16) (omega arith) in
    and_from (is_good (get_or lower_digits (b / 16) 0)) _ high (and_from (is_good (get_or lower_digits (b % 16) 0)) _ low (digest_clean bs (λ i. bytes (suc i))))

pub units_clean : (n : ℤ) → unsigned_abs n < 10 ^ 64 → IsClean (units n)
units_clean n few =
    let whole = unsigned_abs n / 10 ^ 9 in
    let less : whole < 10 ^ 64 = omega (arith, div-le_self (unsigned_abs n) (10 ^ 9)) in
    let last = last_digits 9 (unsigned_abs n) in
    clean_append (sign_text n ++ decimal whole ++ codes ".") last
    (clean_append (sign_text n ++ decimal whole) (codes ".") (clean_append (sign_text n) (decimal whole) (sign_clean n) (digits_clean (decimal whole) (decimal_is_IsNumeral_wide whole less).0.1)) refl)
    (digits_clean last (AllDigits-last_digits 9 (unsigned_abs n)))

-- ---- names

name_byte : (c : ℕ) → (is_ascii_alphanumeric c || (c == 95 || (c == 45 || c == 46))) ≡ true → is_good c ≡ true
name_byte c h = grind (arith, nat_tests)

plain_byte : (c : ℕ) → (is_ascii_alphanumeric c || (c == 95 || c == 45)) ≡ true → is_good c ≡ true
plain_byte c h = grind (arith, nat_tests)

first_byte : (c : ℕ) → (is_ascii_alphabetic c || c == 95) ≡ true → is_good c ≡ true
first_byte c h = grind (arith, nat_tests)

first_of_value : (c : ℕ) → (is_ascii_alphanumeric c || c == 95) ≡ true → is_good c ≡ true
first_of_value c h = grind (arith, nat_tests)

all_clean : (test : ℕ → Bool) → ((c : ℕ) → test c ≡ true → is_good c ≡ true) → (bytes : List ℕ) → list_all test bytes ≡ true → IsClean bytes
all_clean test good [] h = refl
all_clean test good (c ∷ cs) h =
    let parts = and_parts (test c) (list_all test cs) h in
    and_from (is_good c) (list_all is_good cs) (good c parts.0) (all_clean test good cs parts.1)

form_clean : (name : List ℕ) → has_name_form name ≡ true → IsClean name
form_clean [] h = absurd cc
form_clean (c ∷ cs) h =
    let parts = and_parts (is_ascii_alphabetic c || c == 95) (list_all (λ d. is_ascii_alphanumeric d || (d == 95 || d == 45)) cs) h in
    and_from (is_good c) (list_all is_good cs) (first_byte c parts.0) (all_clean (λ d. is_ascii_alphanumeric d || (d == 95 || d == 45)) plain_byte cs parts.1)

value_form_clean : (name : List ℕ) → has_value_form name ≡ true → IsClean name
value_form_clean [] h = absurd cc
value_form_clean (c ∷ cs) h =
    let parts = and_parts (is_ascii_alphanumeric c || c == 95) (list_all (λ d. is_ascii_alphanumeric d || (d == 95 || (d == 45 || d == 46))) cs) h in
    and_from (is_good c) (list_all is_good cs) (first_of_value c parts.0) (all_clean (λ d. is_ascii_alphanumeric d || (d == 95 || (d == 45 || d == 46))) name_byte cs parts.1)

name_clean : (name : List ℕ) → IsTrue (is_name name) → IsClean name
name_clean name h = form_clean name (and_parts (has_name_form name) _ h).0

value_clean : (name : List ℕ) → IsTrue (is_value_name name) → IsClean name
value_clean name h = value_form_clean name (and_parts (has_value_form name) _ h).0

module _ (m : Process) (lawful : IsLawful m) where
  pub var_clean : (i : ℕ) → i < length m.vars → IsClean (var_name m i)
  var_clean i within =
      let d = (entry_at m.vars i within).0 in
      subst IsClean (sym (name_at_is (λ (x : Var). x.name) m.vars i d within)) (name_clean (get_or m.vars i d).name (lawful.vars_named i d within))

  pub action_clean : (a : ℕ) → a < length m.actions → IsClean (action_name m a)
  action_clean a within =
      let d = (entry_at m.actions a within).0 in
      subst IsClean (sym (name_at_is (λ (x : Action). x.name) m.actions a d within)) (name_clean (get_or m.actions a d).name (lawful.actions a d within).named)

pair_clean : (var : Var) → IsTrue (is_name var.name) → HasValues var → (v : ℕ) → v < length var.values → IsClean (var.name ++ codes "=" ++ value_name var v)
pair_clean var named has v within =
    let value : IsClean (value_name var v) = subst IsClean (sym (name_at_is (λ (w : List ℕ). w) var.values v [] within)) (value_clean (get_or var.values v []) (has.named v [] within)) in
    clean_append (var.name ++ codes "=") (value_name var v) (clean_append var.name (codes "=") (name_clean var.name named) refl) value

pairs_clean : (vars : List Var) (s : List ℕ) → All (λ (x : Var). IsTrue (is_name x.name)) vars → All HasValues vars → IsState (sizes_of vars) s → AreClean (pairs vars s)
pairs_clean [] [] named has state = refl
pairs_clean [] (v ∷ s) named has state = absurd state
pairs_clean (var ∷ vars) [] named has state = absurd state
pairs_clean (var ∷ vars) (v ∷ s) named has state =
    words_clean (var.name ++ codes "=" ++ value_name var v) (pairs vars s)
    (pair_clean var (All-head (λ (x : Var). IsTrue (is_name x.name)) var vars named) (All-head HasValues var vars has) v state.0)
    (pairs_clean vars s (All-tail (λ (x : Var). IsTrue (is_name x.name)) var vars named) (All-tail HasValues var vars has) state.1)

words_append : (a b : List (List ℕ)) → AreClean a → AreClean b → AreClean (a ++ b)
words_append a b x y = list_all-append (λ w. list_all is_good w) a b ∙ and_from (list_all (λ w. list_all is_good w) a) (list_all (λ w. list_all is_good w) b) x y

-- ---- the lines

side_clean : (side : Side) → IsClean (side_text side)
side_clean Above = refl
side_clean Below = refl

pub why_clean : (why : Why) → IsClean (why_text why)
why_clean Done = refl
why_clean Limit = refl

pub place_clean : (m : Process) (p : Place) → IsLawful m → IsState (sizes m) p.state → p.action < length m.actions → IsClean (place_line m p)
place_clean m p lawful state within =
    let words = state_words m p.state in
    let end = side_text p.side ∷ action_name m p.action ∷ [] in
    line_clean ((codes "at" ∷ words) ++ end)
    (words_append (codes "at" ∷ words) end (words_clean (codes "at") words refl (pairs_clean m.vars p.state lawful.vars_named lawful.values state))
    (words_clean (side_text p.side) (action_name m p.action ∷ []) (side_clean p.side) (words_clean (action_name m p.action) [] (action_clean m lawful p.action within) refl)))

decimals_clean : (kids : List ℕ) → All (λ k. k < 2 ^ 64) kids → AreClean (map decimal kids)
decimals_clean [] h = refl
decimals_clean (k ∷ kids) h =
    words_clean (decimal k) (map decimal kids) (decimal_clean k (All-head (λ n. n < 2 ^ 64) k kids h)) (decimals_clean kids (All-tail (λ n. n < 2 ^ 64) k kids h))

module _ {X : Type 0} (text : X → List ℕ) (name : ℕ → List ℕ) where
  abbrev pub Prints : Node X → Type 0
  Prints (Node.leaf x) = IsClean (text x)
  Prints (Node.branch var kids) = IsClean (name var) × All (λ k. k < 2 ^ 64) kids

  node_clean : (i : ℕ) (node : Node X) → i < 2 ^ 64 → Prints node → IsClean (node_line text name i node)
  node_clean i (Node.leaf x) small h =
      line_clean (decimal i ∷ codes "leaf" ∷ text x ∷ [])
      (words_clean (decimal i) (codes "leaf" ∷ text x ∷ []) (decimal_clean i small) (words_clean (codes "leaf") (text x ∷ []) refl (words_clean (text x) [] h refl)))
  node_clean i (Node.branch var kids) small h =
      line_clean (decimal i ∷ codes "branch" ∷ name var ∷ map decimal kids)
      (words_clean (decimal i) (codes "branch" ∷ name var ∷ map decimal kids) (decimal_clean i small)
      (words_clean (codes "branch") (name var ∷ map decimal kids) refl (words_clean (name var) (map decimal kids) h.0 (decimals_clean kids h.1))))

  lines_clean : (i : ℕ) (nodes : List (Node X)) → i + length nodes ≤ 999999999 → All Prints nodes → IsClean (flat_map (λ n. node_line text name n.0 n.1) (enumerate_from i nodes))
  lines_clean i [] few h = refl
  lines_clean i (node ∷ nodes) few h =
      clean_append (node_line text name i node) (flat_map (λ n. node_line text name n.0 n.1) (enumerate_from (i + 1) nodes))
      (node_clean i node (omega (arith, few)) (All-head Prints node nodes h)) (lines_clean (i + 1) nodes (omega (arith, few)) (All-tail Prints node nodes h))

  pub nodes_clean : (word : List ℕ) (nodes : List (Node X)) → IsClean word → length nodes ≤ 999999999 → All Prints nodes → IsClean (nodes_text text name word nodes)
  nodes_clean word nodes clean few h =
      clean_append (line (word ∷ decimal (length nodes) ∷ [])) (flat_map (λ n. node_line text name n.0 n.1) (enumerate_from 0 nodes))
      (line_clean (word ∷ decimal (length nodes) ∷ []) (words_clean word (decimal (length nodes) ∷ []) clean (words_clean (decimal (length nodes)) [] (decimal_clean (length nodes) (omega (arith, few))) refl)))
      (lines_clean 0 nodes (omega (arith, few)) h)

-- the nodes of a diagram that fits a model
pub all_print : (m : Process) (lawful : IsLawful m) (Good : Leaf → Type 0) (text : Leaf → List ℕ) → ((x : Leaf) → Good x → IsClean (text x)) → (nodes : List (Node Leaf))
    → FitsSizes (sizes m) nodes → HasLeaves Good nodes → IsFrozen nodes → length nodes ≤ 999999999 → All (Prints text (var_name m)) nodes
all_print m lawful Good text clean nodes fits leaves frozen few i d within =
    by (get_or nodes i d) (slice_get-get_or nodes i d within) (fits i d within) (leaves i d within)
  where
    by : (node : Node Leaf) → slice_get nodes i ≡ Some node → FitsNode (sizes m) node → HasLeaf Good node → Prints text (var_name m) node
    by (Node.leaf x) at fit good = clean x good
    by (Node.branch var kids) at fit good = (
      var_clean m lawful var (omega (arith, fit.0, length-map m.vars (λ (x : Var). length x.values))),
      All-weaker (λ k. (k < i) × IsAfter var (slice_get nodes k)) (λ k. k < 2 ^ 64) (λ k h. omega (arith, h.0, within, few)) kids (frozen.each i (Node.branch var kids) at).1,
    )
