-- The text of a result is read as the certificate that tells the same.
use Rattle.std.proofs.Common.{◌≡◌, ℕ, ◌+◌, ◌/◌, ◌^◌, ◌<◌, ◌≤◌, List, [], ◌∷◌, ◌++◌, length, map, codes, decimal, Ok, ℤ, pos, negsuc, unsigned_abs, refl, sym, ap, subst, ◌∙◌, arith}
use Rattle.std.specs.Prelude.{flat_map}
use Rattle.std.specs.List.{enumerate_from}
use Rattle.std.proofs.Math.Nat.{div-le_self}
use Rattle.std.proofs.lemmas.Fmt.{decimal_is_IsNumeral_wide}
use Rattle.std.proofs.lemmas.Int.{ints}
use Rattle.std.proofs.lemmas.List.{length-map}
use Rattle.std.proofs.lemmas.List.Elements.{All-head, All-tail}
use Rattle.spd_scaled.specs.Scaled.{IsWithin}
use Rattle.spd_scaled.specs.Units.{last_digits, sign_text}
use Rattle.spd_scaled.proofs.CallerLemmas.Magnitude.{unsigned_abs-le}
use Rattle.spd_scaled.proofs.CallerLemmas.UnitsLaws.{AllDigits-last_digits}
use Rattle.spd_model.specs.declared.Why.{Why}
use Rattle.spd_model.specs.Lawful.{IsLawful}
use Rattle.spd_model.specs.Process.{Process}
use Rattle.spd_model.specs.Reduced.{Node}
use Rattle.spd_model.specs.Turns.{value_limit}
use Rattle.spd_model.specs.ResultText.{text_of, units, line, why_text, action_name, var_name, place_line, node_line, nodes_text}
use Rattle.spd_nodes.specs.declared.leaf.Leaf.{Leaf}
use Rattle.spd_nodes.specs.declared.leaf.Leaf.TheVariants.{Num, Pair, Act}
use Rattle.spd_frozen.specs.declared.iterate.Iterate.{Iterate}
use Rattle.spd_frozen.specs.Fits.{HasLeaf, HasLeaves, IsValue, IsChoice}
use Rattle.spd_frozen.specs.Told.{told, with_leaf, number_of, action_of}
use Rattle.hex.specs.Hex.{encode_lower}
use Rattle.spd_cert.specs.declared.nodes.Part.{Part}
use Rattle.spd_cert.specs.declared.nodes.Part.TheVariants.{Value, Policy}
use Rattle.spd_cert.specs.Certificates.{FitsModel, IsDistance, cert_of}
use Rattle.spd_cert.specs.Grammar.{IsWord, Says, SaysLeaf, SayNodes, Spelling, cert_text, IsWritten}
use Rattle.spd_cert.specs.Reading.{judged}
use Rattle.spd_cert.proofs.NameLaws.{word_append}
use Rattle.spd_cert.proofs.NumberLaws.{digits_are_word}
use Rattle.spd_cert.proofs.UnitLaws.{units_back}
use Rattle.spd_cert.proofs.CertLaws.{judged_read}
use Rattle.spd_cert.proofs.CleanLaws.{IsClean, none_bad, clean_append, line_clean, words_clean, decimal_clean, digest_clean, units_clean, action_clean, why_clean, place_clean, nodes_clean, all_print}

-- ---- the words of a result's text

abbrev value_word : Leaf → List ℕ
value_word x = units (number_of x)

abbrev choice_word : Process → Leaf → List ℕ
choice_word m x = action_name m (action_of x)

abbrev words_of : Process → Iterate → Spelling
words_of m x = record {
  residual = units x.residual.r;
  error = units x.error;
  value = map (with_leaf value_word) x.value;
  policy = map (with_leaf (choice_word m)) x.policy;
}

units_word : (n : ℤ) → unsigned_abs n ≤ 10 ^ 30 → IsWord (units n)
units_word n few =
    let whole = unsigned_abs n / 10 ^ 9 in
    let less : whole < 10 ^ 64 = omega (arith, few, div-le_self (unsigned_abs n) (10 ^ 9)) in
    let last = last_digits 9 (unsigned_abs n) in
    word_append (sign_text n ++ decimal whole ++ codes ".") last
    (word_append (sign_text n ++ decimal whole) (codes ".") (word_append (sign_text n) (decimal whole) (sign_word n) (digits_are_word (decimal whole) (decimal_is_IsNumeral_wide whole less).0.1)) refl)
    (digits_are_word last (AllDigits-last_digits 9 (unsigned_abs n)))
  where
    sign_word : (n : ℤ) → IsWord (sign_text n)
    sign_word (pos k) = refl
    sign_word (negsuc k) = refl

units_said : (n : ℤ) → unsigned_abs n ≤ 10 ^ 30 → Says (units n) n
units_said n few = (units_word n few, units_back n few)

distance_few : (x : ℤ) → IsDistance x → unsigned_abs x ≤ 10 ^ 30
distance_few x h = omega (arith, ints, h.0, h.1)

value_few : (x : ℤ) → IsWithin (pos value_limit) x → unsigned_abs x ≤ 10 ^ 30
value_few x h = omega (arith, unsigned_abs-le value_limit x h)

value_said : (m : Process) (x : Leaf) → IsValue x → SaysLeaf m Value (value_word x) x
value_said m (Num x) h = units_said x (value_few x h)
value_said m (Pair x y) h = absurd h
value_said m (Act a) h = absurd h

choice_said : (m : Process) (x : Leaf) → IsChoice (length m.actions) x → SaysLeaf m Policy (choice_word m x) x
choice_said m (Num x) h = absurd h
choice_said m (Pair x y) h = absurd h
choice_said m (Act a) h = refl

nodes_said : (m : Process) (p : Part) (Good : Leaf → Type 0) (word : Leaf → List ℕ) → ((x : Leaf) → Good x → SaysLeaf m p (word x) x) → (nodes : List (Node Leaf)) → HasLeaves Good nodes
    → SayNodes m p (map (with_leaf word) nodes) nodes
nodes_said m p Good word says [] h = tt
nodes_said m p Good word says (Node.leaf x ∷ nodes) h =
    (says x (All-head (HasLeaf Good) (Node.leaf x) nodes h), nodes_said m p Good word says nodes (All-tail (HasLeaf Good) (Node.leaf x) nodes h))
nodes_said m p Good word says (Node.branch var kids ∷ nodes) h =
    ((refl, refl), nodes_said m p Good word says nodes (All-tail (HasLeaf Good) (Node.branch var kids) nodes h))

-- ---- the lines of a diagram, whose leaves are written as they are

module _ {X Y : Type 0} (text : Y → List ℕ) (f : X → Y) (name : ℕ → List ℕ) where
  lines_same : (i : ℕ) (nodes : List (Node X)) → flat_map (λ n. node_line text name n.0 n.1) (enumerate_from i (map (with_leaf f) nodes)) ≡ flat_map (λ n. node_line (λ x. text (f x)) name n.0 n.1) (enumerate_from i nodes)
  lines_same i [] = refl
  lines_same i (Node.leaf x ∷ nodes) = ap (λ (t : List ℕ). node_line text name i (Node.leaf (f x)) ++ t) (lines_same (i + 1) nodes)
  lines_same i (Node.branch var kids ∷ nodes) = ap (λ (t : List ℕ). node_line text name i (Node.branch var kids) ++ t) (lines_same (i + 1) nodes)

  nodes_same : (word : List ℕ) (nodes : List (Node X)) → nodes_text text name word (map (with_leaf f) nodes) ≡ nodes_text (λ x. text (f x)) name word nodes
  nodes_same word nodes = (λ i. line (word ∷ decimal (length-map nodes (with_leaf f) i) ∷ []) ++ lines_same 0 nodes i)

-- ---- the whole text

module _ (m : Process) (lawful : IsLawful m) (digest : List ℕ) (why : Why) (x : Iterate) (fits : FitsModel m (cert_of digest why x)) where
  abbrev front : List ℕ
  front =
      line (codes "spd" ∷ codes "result" ∷ codes "2" ∷ [])
      ++ line (codes "model" ∷ encode_lower digest ∷ [])
      ++ line (codes "status" ∷ why_text why ∷ [])
      ++ line (codes "turn" ∷ decimal x.turn ∷ [])
      ++ line (codes "residual" ∷ units x.residual.r ∷ [])
      ++ place_line m (told x).place
      ++ line (codes "error" ∷ units x.error ∷ [])

  -- the text, where these are the lines of its value and its policy
  abbrev whole : List ℕ → List ℕ → List ℕ
  whole value policy = front ++ value ++ policy ++ line (codes "end" ∷ [])

  abbrev value_lines : List ℕ
  value_lines = nodes_text value_word (var_name m) (codes "value") x.value

  abbrev policy_lines : List ℕ
  policy_lines = nodes_text (choice_word m) (var_name m) (codes "policy") x.policy

  text_is : text_of digest m why (told x) ≡ whole value_lines policy_lines
  text_is = (λ i. whole (nodes_same units number_of (var_name m) (codes "value") x.value i) (nodes_same (action_name m) action_of (var_name m) (codes "policy") x.policy i))

  cert_is : cert_text m (cert_of digest why x) (words_of m x) ≡ whole value_lines policy_lines
  cert_is = (λ i. whole (nodes_same (λ w. w) value_word (var_name m) (codes "value") x.value i) (nodes_same (λ w. w) (choice_word m) (var_name m) (codes "policy") x.policy i))

  field_clean : (word value : List ℕ) → IsClean word → IsClean value → IsClean (line (word ∷ value ∷ []))
  field_clean word value a b = line_clean (word ∷ value ∷ []) (words_clean word (value ∷ []) a (words_clean value [] b refl))

  unit_line_clean : (word : List ℕ) (n : ℤ) → IsClean word → IsDistance n → IsClean (line (word ∷ units n ∷ []))
  unit_line_clean word n clean h = field_clean word (units n) clean (units_clean n (omega (arith, distance_few n h)))

  value_leaf_clean : (y : Leaf) → IsValue y → IsClean (value_word y)
  value_leaf_clean (Num y) h = units_clean y (omega (arith, value_few y h))
  value_leaf_clean (Pair y z) h = absurd h
  value_leaf_clean (Act a) h = absurd h

  choice_leaf_clean : (y : Leaf) → IsChoice (length m.actions) y → IsClean (choice_word m y)
  choice_leaf_clean (Num y) h = absurd h
  choice_leaf_clean (Pair y z) h = absurd h
  choice_leaf_clean (Act a) h = action_clean m lawful a h

  head_clean : IsClean (line (codes "spd" ∷ codes "result" ∷ codes "2" ∷ []) ++ line (codes "model" ∷ encode_lower digest ∷ []) ++ line (codes "status" ∷ why_text why ∷ []) ++ line (codes "turn" ∷ decimal x.turn ∷ []))
  head_clean =
      clean_append (line (codes "spd" ∷ codes "result" ∷ codes "2" ∷ []) ++ line (codes "model" ∷ encode_lower digest ∷ []) ++ line (codes "status" ∷ why_text why ∷ [])) (line (codes "turn" ∷ decimal x.turn ∷ []))
      (clean_append (line (codes "spd" ∷ codes "result" ∷ codes "2" ∷ []) ++ line (codes "model" ∷ encode_lower digest ∷ [])) (line (codes "status" ∷ why_text why ∷ []))
      (clean_append (line (codes "spd" ∷ codes "result" ∷ codes "2" ∷ [])) (line (codes "model" ∷ encode_lower digest ∷ [])) refl (field_clean (codes "model") (encode_lower digest) refl (digest_clean digest fits.version.2)))
      (field_clean (codes "status") (why_text why) refl (why_clean why)))
      (field_clean (codes "turn") (decimal x.turn) refl (decimal_clean x.turn (omega (arith, fits.range.turn))))

  abbrev head : List ℕ
  head = line (codes "spd" ∷ codes "result" ∷ codes "2" ∷ []) ++ line (codes "model" ∷ encode_lower digest ∷ []) ++ line (codes "status" ∷ why_text why ∷ []) ++ line (codes "turn" ∷ decimal x.turn ∷ [])

  abbrev residual_line : List ℕ
  residual_line = line (codes "residual" ∷ units x.residual.r ∷ [])

  abbrev error_line : List ℕ
  error_line = line (codes "error" ∷ units x.error ∷ [])

  front_clean : IsClean front
  front_clean =
      clean_append (head ++ residual_line ++ place_line m (told x).place) error_line
      (clean_append (head ++ residual_line) (place_line m (told x).place) (clean_append head residual_line head_clean (unit_line_clean (codes "residual") x.residual.r refl fits.range.residual))
      (place_clean m (told x).place lawful fits.iterate.state fits.iterate.action))
      (unit_line_clean (codes "error") x.error refl fits.range.error)

  value_clean : IsClean value_lines
  value_clean =
      nodes_clean value_word (var_name m) (codes "value") x.value refl fits.range.value_nodes
      (all_print m lawful IsValue value_word value_leaf_clean x.value fits.iterate.value fits.iterate.values fits.value fits.range.value_nodes)

  policy_clean : IsClean policy_lines
  policy_clean =
      nodes_clean (choice_word m) (var_name m) (codes "policy") x.policy refl fits.range.policy_nodes
      (all_print m lawful (IsChoice (length m.actions)) (choice_word m) choice_leaf_clean x.policy fits.iterate.policy fits.iterate.choices fits.policy fits.range.policy_nodes)

  text_clean : IsClean (text_of digest m why (told x))
  text_clean =
      subst IsClean (sym text_is)
      (clean_append (front ++ value_lines ++ policy_lines) (line (codes "end" ∷ [])) (clean_append (front ++ value_lines) policy_lines (clean_append front value_lines front_clean value_clean) policy_clean) refl)

  written : IsWritten m (text_of digest m why (told x)) (cert_of digest why x)
  written = record {
    fits = fits;
    words = words_of m x;
    say = record {
      residual = units_said x.residual.r (distance_few x.residual.r fits.range.residual);
      error = units_said x.error (distance_few x.error fits.range.error);
      value = nodes_said m Value IsValue value_word (value_said m) x.value fits.iterate.values;
      policy = nodes_said m Policy (IsChoice (length m.actions)) (choice_word m) (choice_said m) x.policy fits.iterate.choices;
    };
    spelled = text_is ∙ sym cert_is;
    clean = none_bad (text_of digest m why (told x)) text_clean;
  }

  pub read-back : judged m (text_of digest m why (told x)) ≡ Ok (cert_of digest why x)
  read-back = judged_read m (text_of digest m why (told x)) (cert_of digest why x) lawful written
