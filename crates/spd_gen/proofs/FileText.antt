-- The file of a ring is read as its process.
use Rattle.std.proofs.Common.{◌≡◌, ℕ, zero, suc, ◌+◌, ◌*◌, ◌<◌, ◌≤◌, Bool, true, false, cond, inl, List, [], ◌∷◌, ◌++◌, length, map, flat_map, Option, Some, None, pos, refl, sym, ap, ◌∙◌, subst, arith, append_assoc, codes, decimal}
use Rattle.std.specs.Prelude.{All, ◌==◌, ◌&&◌, not, nat_le, bytes_eq}
use Rattle.std.specs.List.{list_all}
use Rattle.std.proofs.Math.Nat.{mul-le-mul_right}
use Rattle.std.proofs.lemmas.Bool.{and_parts}
use Rattle.std.proofs.lemmas.Bool.Decides.{nat_tests}
use Rattle.std.proofs.lemmas.List.{length-append}
use Rattle.std.proofs.lemmas.List.Folds.{list_all-append}
use Rattle.spd_lex.specs.declared.token.Token.{Token}
use Rattle.spd_lex.specs.declared.token.Kind.TheVariants.{Open, Close}
use Rattle.spd_lex.specs.Tokens.{blanked, begins_slash, is_bad, bad_from, tokens_from, tokens_of}
use Rattle.spd_model.specs.Numbers.{numbers_below}
use Rattle.spd_model.specs.declared.process.Var.{Var}
use Rattle.spd_model.proofs.CallerLemmas.Lists.{length-numbers_below, All-numbers_below}
use Rattle.spd_syntax.specs.declared.file.File.{File}
use Rattle.spd_syntax.specs.declared.refusal.Refusal.{Refusal}
use Rattle.spd_syntax.specs.Files.{IsFile}
use Rattle.spd_syntax.specs.Positions.{has_all}
use Rattle.spd_reader.specs.Models.{Said, variables_of, sections_of, sections_faults, nothing_said, process_of, faults_of, model_of}
use Rattle.spd_reader.specs.Reading.{IsRead}
use Rattle.spd_gen.specs.Ring.{machine, next, left_of, is_rebooted, line, number_text, choice_text, chances_text, keep_text, fix_text, keep_line, fix_line, table_line, tables_text, noop_text, reboot_text, variable_text, part_text, ring_text}
use Rattle.spd_gen.specs.Process.{working, ring_process}
use Rattle.spd_gen.proofs.LawfulLaws.{all_below, spelled}
use Rattle.spd_gen.proofs.ValidLaws.{left-below}
use Rattle.spd_gen.proofs.Spots.{Spot, same-spot, blank, sign, said}
use Rattle.spd_gen.proofs.Names.{numbered}
use Rattle.spd_gen.proofs.VariableTexts.{numbers_from, numbers-are, counts, variables-read}
use Rattle.spd_gen.proofs.SectionTexts.{counted, saying, actions_of, ReadsSections, noop-reads, reboots-read, reward-reads, discount-reads, tolerance-reads, end-reads}

-- ---- bytes: none begins a comment, none may not stand in a file

is_clean : ℕ → Bool
is_clean byte = not (byte == 47) && not (is_bad byte)

-- a text of clean bytes, of at most so many
record IsPlain (most : ℕ) (text : List ℕ) : Type 0 where
  clean : list_all is_clean text ≡ true
  short : length text ≤ most

blanked-same : (file : List ℕ) → list_all is_clean file ≡ true → blanked false file ≡ file
unfolding blanked is_clean
blanked-same [] h = refl
blanked-same (byte ∷ bytes) h =
    let two = and_parts (is_clean byte) (list_all is_clean bytes) h in
    let own = and_parts (not (byte == 47)) (not (is_bad byte)) two.0 in
    let other : (byte == 47) ≡ false = grind (arith, nat_tests) in
    ap (λ (b : Bool). cond (b && begins_slash bytes) 32 byte ∷ blanked (b && begins_slash bytes) bytes) other ∙ ap (λ (l : List ℕ). byte ∷ l) (blanked-same bytes two.1)

none-bad : (at : ℕ) (file : List ℕ) → list_all is_clean file ≡ true → bad_from at file ≡ None
unfolding bad_from is_clean
none-bad at [] h = refl
none-bad at (byte ∷ bytes) h =
    let two = and_parts (is_clean byte) (list_all is_clean bytes) h in
    let own = and_parts (not (byte == 47)) (not (is_bad byte)) two.0 in
    let good : is_bad byte ≡ false = grind (arith, nat_tests) in
    ap (λ (b : Bool). cond b (Some at) (bad_from (at + 1) bytes)) good ∙ none-bad (at + 1) bytes two.1

plain-append : (a b : ℕ) (xs ys : List ℕ) → IsPlain a xs → IsPlain b ys → IsPlain (a + b) (xs ++ ys)
plain-append a b xs ys p q = record {
  clean = list_all-append is_clean xs ys ∙ ap (λ (c : Bool). c && list_all is_clean ys) p.clean ∙ q.clean;
  short = omega (arith, length-append xs ys, p.short, q.short);
}

plain-more : (a b : ℕ) (xs : List ℕ) → a ≤ b → IsPlain a xs → IsPlain b xs
plain-more a b xs h p = let short = p.short in record { clean = p.clean; short = omega arith }

plain-each : (f : ℕ → List ℕ) (m : ℕ) (xs : List ℕ) → All (λ i. IsPlain m (f i)) xs → IsPlain (length xs * m) (flat_map f xs)
plain-each f m [] h = record { clean = refl; short = omega arith }
plain-each f m (x ∷ xs) h =
    let rest = plain-each f m xs (λ k d near. h (suc k) d (omega arith)) in
    let all = plain-append m (length xs * m) (f x) (flat_map f xs) (h 0 x (omega arith)) rest in
    plain-more (m + length xs * m) (suc (length xs) * m) (f x ++ flat_map f xs) (grind arith) all

digits-plain : (i : ℕ) → i < 63 → IsPlain 2 (decimal (i + 1))
unfolding all_below spelled is_clean
digits-plain i h =
    let few : nat_le (length (decimal (i + 1))) 2 ≡ true = numbered (λ t. nat_le (length t) 2) i h refl in
    record { clean = numbered (λ t. list_all is_clean t) i h refl; short = grind (arith, nat_tests) }

machine-plain : (i : ℕ) → i < 63 → IsPlain 3 (machine i)
unfolding is_clean
machine-plain i h = plain-append 1 2 (codes "m") (decimal (i + 1)) (record { clean = refl; short = omega arith }) (digits-plain i h)

next-plain : (i : ℕ) → i < 63 → IsPlain 4 (next i)
unfolding is_clean
next-plain i h = plain-append 3 1 (machine i) (codes "'") (machine-plain i h) (record { clean = refl; short = omega arith })

choice-plain : (a b c : ℕ) (name up down : List ℕ) → IsPlain a name → IsPlain b up → IsPlain c down → IsPlain (a + b + c + 16) (choice_text name up down)
unfolding is_clean
choice-plain a b c name up down p q r =
    let opened = plain-append 1 a (codes "(") name (record { clean = refl; short = omega arith }) p in
    let first = plain-append (1 + a) 5 (codes "(" ++ name) (codes " (up ") opened (record { clean = refl; short = omega arith }) in
    let second = plain-append (1 + a + 5) b ((codes "(" ++ name) ++ codes " (up ") up first q in
    let third = plain-append (1 + a + 5 + b) 8 (((codes "(" ++ name) ++ codes " (up ") ++ up) (codes ") (down ") second (record { clean = refl; short = omega arith }) in
    let fourth = plain-append (1 + a + 5 + b + 8) c ((((codes "(" ++ name) ++ codes " (up ") ++ up) ++ codes ") (down ") down third r in
    let fifth = plain-append (1 + a + 5 + b + 8 + c) 2 (((((codes "(" ++ name) ++ codes " (up ") ++ up) ++ codes ") (down ") ++ down) (codes "))") fourth (record { clean = refl; short = omega arith }) in
    plain-more (1 + a + 5 + b + 8 + c + 2) (a + b + c + 16) (choice_text name up down) (omega arith) fifth

chances-plain : (i : ℕ) (up down : List ℕ) → i < 63 → IsPlain 5 (number_text up) → IsPlain 5 (number_text down) → IsPlain 30 (chances_text i up down)
chances-plain i up down h p q = choice-plain 4 5 5 (next i) (number_text up) (number_text down) (next-plain i h) p q

line-plain : (a b : ℕ) (name text : List ℕ) → IsPlain a name → IsPlain b text → IsPlain (a + 1 + b + 1) (line (name ++ codes " " ++ text))
unfolding is_clean
line-plain a b name text p q =
    let first = plain-append a 1 name (codes " ") p (record { clean = refl; short = omega arith }) in
    plain-append (a + 1 + b) 1 (name ++ codes " " ++ text) (10 ∷ []) (plain-append (a + 1) b (name ++ codes " ") text first q) (record { clean = refl; short = omega arith })

keep-plain : (n i : ℕ) → n ≤ 63 → i < n → IsPlain 133 (keep_line n i)
unfolding keep_line is_clean
keep-plain n i few near =
    let up = chances-plain i (codes "0.9") (codes "0.1") (omega arith) (record { clean = refl; short = omega arith }) (record { clean = refl; short = omega arith }) in
    let down = chances-plain i (codes "0.6") (codes "0.4") (omega arith) (record { clean = refl; short = omega arith }) (record { clean = refl; short = omega arith }) in
    let broken = chances-plain i (codes "0.1") (codes "0.9") (omega arith) (record { clean = refl; short = omega arith }) (record { clean = refl; short = omega arith }) in
    let left : left_of n i < 63 = omega (arith, left-below n i near) in
    let beside = choice-plain 3 30 30 (machine (left_of n i)) (chances_text i (codes "0.9") (codes "0.1")) (chances_text i (codes "0.6") (codes "0.4")) (machine-plain (left_of n i) left) up down in
    let whole = choice-plain 3 79 30 (machine i) (choice_text (machine (left_of n i)) (chances_text i (codes "0.9") (codes "0.1")) (chances_text i (codes "0.6") (codes "0.4"))) (chances_text i (codes "0.1") (codes "0.9"))
    (machine-plain i (omega arith)) beside broken in
    line-plain 3 128 (machine i) (keep_text n i) (machine-plain i (omega arith)) whole

fix-plain : (i : ℕ) → i < 63 → IsPlain 133 (fix_line i)
unfolding fix_line is_clean
fix-plain i h =
    let text = chances-plain i (codes "1") (codes "0") h (record { clean = refl; short = omega arith }) (record { clean = refl; short = omega arith }) in
    plain-more 35 133 (fix_line i) (omega arith) (line-plain 3 30 (machine i) (fix_text i) (machine-plain i h) text)

either-plain : (n i : ℕ) (b : Bool) → n ≤ 63 → i < n → IsPlain 133 (cond b (fix_line i) (keep_line n i))
either-plain n i true few near = fix-plain i (omega arith)
either-plain n i false few near = keep-plain n i few near

-- ---- a part for each machine

each-plain : (n m most : ℕ) (f : ℕ → List ℕ) → n ≤ 63 → 63 * m ≤ most → ((i : ℕ) → i < n → IsPlain m (f i)) → IsPlain most (flat_map f (numbers_below n))
each-plain n m most f few enough each =
    let all = plain-each f m (numbers_below n) (All-numbers_below (λ i. IsPlain m (f i)) n each) in
    let size : length (numbers_below n) ≤ 63 = omega (arith, length-numbers_below n) in
    plain-more (length (numbers_below n) * m) most (flat_map f (numbers_below n)) (let scaled = mul-le-mul_right m size in omega arith) all

tables-plain : (n : ℕ) (r : Option ℕ) → n ≤ 63 → IsPlain 8379 (tables_text n r)
tables-plain n r few = each-plain n 133 8379 (table_line n r) few (omega arith) (λ i near. either-plain n i (is_rebooted r i) few near)

noop-plain : (n : ℕ) → n ≤ 63 → IsPlain 8500 (noop_text n)
unfolding is_clean
noop-plain n few =
    let first = plain-append 12 8379 (line (codes "action noop")) (tables_text n None) (record { clean = refl; short = omega arith }) (tables-plain n None few) in
    plain-more 8401 8500 (noop_text n) (omega arith) (plain-append 8391 10 (line (codes "action noop") ++ tables_text n None) (line (codes "endaction")) first (record { clean = refl; short = omega arith }))

reboot-plain : (n i : ℕ) → n ≤ 63 → i < n → IsPlain 8500 (reboot_text n i)
unfolding is_clean
reboot-plain n i few near =
    let name = plain-append 13 2 (codes "action reboot") (decimal (i + 1)) (record { clean = refl; short = omega arith }) (digits-plain i (omega arith)) in
    let head = plain-append 15 1 (codes "action reboot" ++ decimal (i + 1)) (10 ∷ []) name (record { clean = refl; short = omega arith }) in
    let first = plain-append 16 8379 (line (codes "action reboot" ++ decimal (i + 1))) (tables_text n (Some i)) head (tables-plain n (Some i) few) in
    let costs = plain-append 8395 12 (line (codes "action reboot" ++ decimal (i + 1)) ++ tables_text n (Some i)) (line (codes "cost (0.75)")) first (record { clean = refl; short = omega arith }) in
    plain-more 8417 8500 (reboot_text n i) (omega arith)
    (plain-append 8407 10 (line (codes "action reboot" ++ decimal (i + 1)) ++ tables_text n (Some i) ++ line (codes "cost (0.75)")) (line (codes "endaction")) costs (record { clean = refl; short = omega arith }))

variable-plain : (i : ℕ) → i < 63 → IsPlain 20 (variable_text i)
unfolding is_clean
variable-plain i h =
    let first = plain-append 2 3 (codes " (") (machine i) (record { clean = refl; short = omega arith }) (machine-plain i h) in
    plain-more 14 20 (variable_text i) (omega arith) (plain-append 5 9 (codes " (" ++ machine i) (codes " up down)") first (record { clean = refl; short = omega arith }))

part-plain : (i : ℕ) → i < 63 → IsPlain 30 (part_text i)
unfolding is_clean
part-plain i h =
    let tree = choice-plain 3 3 3 (machine i) (number_text (codes "1")) (number_text (codes "0")) (machine-plain i h) (record { clean = refl; short = omega arith }) (record { clean = refl; short = omega arith }) in
    plain-more 26 30 (part_text i) (omega arith) (plain-append 1 25 (codes " ") (choice_text (machine i) (number_text (codes "1")) (number_text (codes "0"))) (record { clean = refl; short = omega arith }) tree)

-- ---- the file, flat

abbrev flat_text : ℕ → List ℕ
flat_text n =
    codes "(variables" ++ (flat_map variable_text (numbers_below n) ++ (codes ")" ++ 10 ∷ (noop_text n ++ (flat_map (reboot_text n) (numbers_below n)
    ++ (codes "reward [+" ++ (flat_map part_text (numbers_below n) ++ (codes "]" ++ 10 ∷ (codes "discount 0.95" ++ 10 ∷ (codes "tolerance 0.1" ++ 10 ∷ [])))))))))

flat-is : (n : ℕ) → ring_text n ≡ flat_text n
unfolding ring_text
flat-is n =
    regroup (codes "(variables") (flat_map variable_text (numbers_below n)) (codes ")") (10 ∷ []) (noop_text n) (flat_map (reboot_text n) (numbers_below n)) (codes "reward [+")
    (flat_map part_text (numbers_below n)) (codes "]") (codes "discount 0.95" ++ 10 ∷ []) (codes "tolerance 0.1" ++ 10 ∷ [])
  where
    regroup : (v vars c m noops reboots r parts b d t : List ℕ)
        → (((((((v ++ vars) ++ c) ++ m) ++ noops) ++ reboots) ++ (((r ++ parts) ++ b) ++ m)) ++ d) ++ t
        ≡ v ++ (vars ++ (c ++ (m ++ (noops ++ (reboots ++ (r ++ (parts ++ (b ++ (m ++ (d ++ t))))))))))
    regroup v vars c m noops reboots r parts b d t = simp append_assoc

flat-plain : (n : ℕ) → n ≤ 63 → IsPlain 1000000 (flat_text n)
unfolding is_clean
flat-plain n few =
    let V = flat_map variable_text (numbers_below n) in
    let R = flat_map (reboot_text n) (numbers_below n) in
    let P = flat_map part_text (numbers_below n) in
    let vars = each-plain n 20 1260 variable_text few (omega arith) (λ i near. variable-plain i (omega arith)) in
    let reboots = each-plain n 8500 535500 (reboot_text n) few (omega arith) (λ i near. reboot-plain n i few near) in
    let parts = each-plain n 30 1890 part_text few (omega arith) (λ i near. part-plain i (omega arith)) in
    let settings = codes "]" ++ 10 ∷ (codes "discount 0.95" ++ 10 ∷ (codes "tolerance 0.1" ++ 10 ∷ [])) in
    let a = plain-append 1890 30 P settings parts (record { clean = refl; short = omega arith }) in
    let b = plain-append 9 1920 (codes "reward [+") (P ++ settings) (record { clean = refl; short = omega arith }) a in
    let d = plain-append 535500 1929 R (codes "reward [+" ++ (P ++ settings)) reboots b in
    let e = plain-append 8500 537429 (noop_text n) (R ++ (codes "reward [+" ++ (P ++ settings))) (noop-plain n few) d in
    let f = plain-append 2 545929 (codes ")" ++ 10 ∷ []) (noop_text n ++ (R ++ (codes "reward [+" ++ (P ++ settings)))) (record { clean = refl; short = omega arith }) e in
    let g = plain-append 1260 545931 V (codes ")" ++ 10 ∷ (noop_text n ++ (R ++ (codes "reward [+" ++ (P ++ settings))))) vars f in
    let h = plain-append 10 547191 (codes "(variables") (V ++ (codes ")" ++ 10 ∷ (noop_text n ++ (R ++ (codes "reward [+" ++ (P ++ settings)))))) (record { clean = refl; short = omega arith }) g in
    plain-more 547201 1000000 (flat_text n) (omega arith) h

pub ring-short : (n : ℕ) → n ≤ 63 → length (ring_text n) ≤ 4194304
ring-short n few = let plain = flat-plain n few in let short = plain.short in omega (arith, ap length (flat-is n))

-- ---- the file is read

first-variable : (m : ℕ) → 0 < m → (rest : List ℕ) × (flat_map variable_text (numbers_from 0 m) ≡ 32 ∷ rest)
first-variable zero some = absurd (omega arith)
first-variable (suc m) some = (_, refl)

-- what the sections of a ring's file say
abbrev all-said : ℕ → Said
all-said n = saying n (actions_of n n) (Some (map working (numbers_below n))) (Some (pos 950000)) (Some (pos 100000000))

module _ (file : List ℕ) (n : ℕ) (some : 0 < n) (few : n ≤ 63) where
  sections-read : (ts : List Token) → Spot file ts (noop_text n ++ (flat_map (reboot_text n) (numbers_below n) ++ (codes "reward [+" ++ (flat_map part_text (numbers_below n)
      ++ (codes "]" ++ 10 ∷ (codes "discount 0.95" ++ 10 ∷ (codes "tolerance 0.1" ++ 10 ∷ []))))))) → ReadsSections file n few (counted n 0 false false false) (saying n [] None None None) ts (all-said n)
  sections-read ts s =
      let tolerance = codes "tolerance 0.1" ++ 10 ∷ [] in
      let discount = codes "discount 0.95" ++ 10 ∷ tolerance in
      let reward = codes "reward [+" ++ (flat_map part_text (numbers_below n) ++ (codes "]" ++ 10 ∷ discount)) in
      let has : has_all (counted n (n + 1) true true true) ≡ true = grind (arith, nat_tests) in
      let parts = Some (map working (numbers_below n)) in
      noop-reads file n few (flat_map (reboot_text n) (numbers_below n) ++ reward) (all-said n)
      (λ a at. reboots-read file n few reward (all-said n)
      (λ b bt. reward-reads file n few some discount (all-said n)
      (λ d dt. discount-reads file n few (n + 1) (actions_of n n) parts tolerance (all-said n)
      (λ e et. tolerance-reads file n few (n + 1) (actions_of n n) parts (Some (pos 950000)) [] (all-said n)
      (λ z zt. end-reads file n few (counted n (n + 1) true true true) has (all-said n) z zt) e et) d dt) b bt)
      0 n (omega arith) a (same-spot file a (flat_map (reboot_text n) (numbers_below n) ++ reward) (flat_map (reboot_text n) (numbers_from 0 n) ++ reward)
      (ap (λ (all : List ℕ). flat_map (reboot_text n) all ++ reward) (numbers-are n)) at)) ts s

  record ReadsFile (ts : List Token) : Type 0 where
    text : File
    is : IsFile file text ts
    named : faults_of file text ≡ []
    means : model_of file text ≡ process_of (all-said n)

  file-reads : (ts : List Token) → Spot file ts (flat_text n) → ReadsFile ts
  file-reads ts s =
      let sections = noop_text n ++ (flat_map (reboot_text n) (numbers_below n) ++ (codes "reward [+" ++ (flat_map part_text (numbers_below n)
      ++ (codes "]" ++ 10 ∷ (codes "discount 0.95" ++ 10 ∷ (codes "tolerance 0.1" ++ 10 ∷ [])))))) in
      let end = codes ")" ++ 10 ∷ sections in
      let vars = flat_map variable_text (numbers_from 0 n) in
      let first = first-variable n some in
      let front : vars ++ end ≡ 32 ∷ (first.0 ++ end) = ap (λ (l : List ℕ). l ++ end) first.1 in
      let t = same-spot file ts (flat_text n) (codes "(variables" ++ 32 ∷ (first.0 ++ end))
      (ap (λ (all : List ℕ). codes "(variables" ++ (flat_map variable_text all ++ end)) (numbers-are n) ∙ ap (λ (l : List ℕ). codes "(variables" ++ l) front) s in
      let a = sign file Open ts 40 (codes "variables" ++ 32 ∷ (first.0 ++ end)) refl refl t in
      let word = said file (codes "variables") a.next 32 (first.0 ++ end) refl (inl refl) a.spot in
      let x = variables-read file n few 0 n (omega arith) some word.next end (same-spot file word.next (32 ∷ (first.0 ++ end)) (vars ++ end) (sym front) word.spot) in
      let z = sign file Close x.next 41 (10 ∷ sections) refl refl x.spot in
      let y = sections-read z.next (blank file z.next 10 sections refl z.spot) in
      record {
        text = record { variables = x.vs; sections = y.ss };
        is = record {
          a = a.next;
          b = word.next;
          d = x.next;
          e = z.next;
          word = word.word;
          counts = counts n;
          opens = a.one;
          key = record { word = word.stands; says = record { is = ap (λ (l : List ℕ). bytes_eq l (codes "variables")) word.says } };
          some = omega (arith, x.some);
          variables = x.are;
          closes = z.one;
          all = y.all;
          sections = y.are;
          has_all = y.has;
        };
        named = ap (λ (fs : List Refusal). fs ++ sections_faults file (nothing_said (variables_of file [] x.vs)) y.ss) x.named
            ∙ ap (λ (vs : List Var). sections_faults file (nothing_said vs) y.ss) x.means ∙ y.named;
        means = ap (λ (vs : List Var). process_of (sections_of file (nothing_said vs) y.ss)) x.means ∙ ap process_of y.means;
      }

ring-said : (n : ℕ) → process_of (all-said n) ≡ ring_process n
unfolding ring_process
ring-said n = refl

flat-reads : (n : ℕ) → 0 < n → n ≤ 63 → IsRead (flat_text n) (ring_process n)
flat-reads n some few =
    let file = flat_text n in
    let plain = flat-plain n few in
    let same = blanked-same file plain.clean in
    let x = file-reads file n some few (tokens_of file) (record { at = 0; left = refl; tokens = ap (tokens_from 0) same }) in
    record {
      text = x.text;
      written = record { clean = ap (bad_from 0) same ∙ none-bad 0 file plain.clean; is = x.is };
      named = x.named;
      means = sym (x.means ∙ ring-said n);
    }

pub ring-reads : (n : ℕ) → 2 ≤ n → n ≤ 63 → IsRead (ring_text n) (ring_process n)
ring-reads n many few = subst (λ (file : List ℕ). IsRead file (ring_process n)) (sym (flat-is n)) (flat-reads n (omega arith) few)
