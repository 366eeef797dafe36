-- The variables of a ring's file, as they are written, are read as those of its process.
use Rattle.std.proofs.Common.{◌≡◌, ℕ, zero, suc, ◌+◌, ◌<◌, ◌≤◌, Bool, false, cond, inl, inr, List, [], ◌∷◌, ◌++◌, length, map, flat_map, refl, sym, ap, ◌∙◌, subst, arith, append_assoc, append-nil, codes}
use Rattle.std.proofs.lemmas.List.{map-append}
use Rattle.spd_lex.specs.declared.token.Token.{Token}
use Rattle.spd_lex.specs.declared.token.Kind.TheVariants.{Open, Close}
use Rattle.spd_model.specs.declared.process.Var.{Var}
use Rattle.spd_model.specs.Numbers.{numbers_below}
use Rattle.spd_syntax.specs.declared.file.Variable.{Variable}
use Rattle.spd_syntax.specs.declared.file.Counts.{Counts}
use Rattle.spd_syntax.specs.declared.refusal.Refusal.{Refusal}
use Rattle.spd_syntax.specs.declared.refusal.Refusal.TheVariants as refusals
use Rattle.spd_syntax.specs.declared.refusal.Want.TheVariants as wants
use Rattle.spd_syntax.specs.Files.{AVariable, AreVariables, after_variable}
use Rattle.spd_syntax.specs.Grammar.{One}
use Rattle.spd_syntax.specs.Words.{text_of, name_passes, value_passes}
use Rattle.spd_reader.specs.Faults.{when}
use Rattle.spd_reader.specs.Trees.{is_among, with_name, var_names}
use Rattle.spd_reader.specs.Models.{value_faults, var_of, with_variable, variables_of, variables_faults}
use Rattle.spd_gen.specs.Ring.{machine, variable_text}
use Rattle.spd_gen.specs.Process.{variable}
use Rattle.spd_gen.proofs.Spots.{Spot, same-spot, blank, sign, said}
use Rattle.spd_gen.proofs.Names.{machine-word, machine-passes, machine-new}

-- so many numbers from j on
abbrev pub numbers_from : ℕ → ℕ → List ℕ
numbers_from j zero = []
numbers_from j (suc more) = j ∷ numbers_from (j + 1) more

all-numbers : (j more : ℕ) → numbers_below j ++ numbers_from j more ≡ numbers_below (j + more)
all-numbers j zero = let same : j ≡ j + 0 = omega arith in append-nil (numbers_below j) ∙ ap numbers_below same
all-numbers j (suc more) =
    let one : suc j ≡ j + 1 = omega arith in
    let same : j + 1 + more ≡ j + suc more = omega arith in
    sym (append_assoc (numbers_below j) (j ∷ []) (numbers_from (j + 1) more))
    ∙ ap (λ (k : ℕ). numbers_below k ++ numbers_from (j + 1) more) one
    ∙ all-numbers (j + 1) more
    ∙ ap numbers_below same

pub numbers-are : (n : ℕ) → numbers_below n ≡ numbers_from 0 n
numbers-are n = let same : 0 + n ≡ n = omega arith in sym (all-numbers 0 n ∙ ap numbers_below same)

-- the numbers below one more
pub one-more : (j : ℕ) → numbers_below j ++ j ∷ [] ≡ numbers_below (j + 1)
one-more j = let one : suc j ≡ j + 1 = omega arith in ap numbers_below one

-- what stands before the variable of machine j
abbrev pub counts : ℕ → Counts
counts j = record { vars = j; tests = j; dds = 0; actions = 0; reward = false; discount = false; stop = false }

module _ (file : List ℕ) (n : ℕ) (few : n ≤ 63) where
  -- from these tokens on the variable of machine j is written
  record ReadsVariable (j : ℕ) (ts : List Token) (bs : List ℕ) : Type 0 where
    b : List Token
    next : List Token
    v : Variable
    opens : One Open ts b
    is : AVariable file (counts j) v b next
    counts : after_variable (counts j) v ≡ counts (j + 1)
    means : var_of file v ≡ variable j
    named : text_of file v.name ≡ machine j
    faults : value_faults file [] v.values ≡ []
    spot : Spot file next bs

  variable-reads : (j : ℕ) → j < n → (ts : List Token) (bs : List ℕ) → Spot file ts (variable_text j ++ bs) → ReadsVariable j ts bs
  unfolding value_passes
  variable-reads j near ts bs s =
      let a = sign file Open ts 40 (machine j ++ (codes " up down)" ++ bs)) refl refl
      (blank file ts 32 (40 ∷ (machine j ++ (codes " up down)" ++ bs))) refl
      (same-spot file ts (variable_text j ++ bs) (32 ∷ 40 ∷ (machine j ++ (codes " up down)" ++ bs))) (ap (λ (l : List ℕ). 32 ∷ 40 ∷ l) (append_assoc (machine j) (codes " up down)") bs)) s)) in
      let name = said file (machine j) a.next 32 (codes "up down)" ++ bs) (machine-word j (omega arith)) (inl refl) a.spot in
      let up = said file (codes "up") name.next 32 (codes "down)" ++ bs) refl (inl refl) (blank file name.next 32 (codes "up down)" ++ bs) refl name.spot) in
      let down = said file (codes "down") up.next 41 bs refl (inr refl) (blank file up.next 32 (codes "down)" ++ bs) refl up.spot) in
      let z = sign file Close down.next 41 bs refl refl down.spot in
      record {
        b = a.next;
        next = z.next;
        v = record { name = name.word; values = up.word ∷ down.word ∷ [] };
        opens = a.one;
        is = record {
          b = name.next;
          name = record { word = name.stands; name = record { is = ap (name_passes wants.Name name.word.from) name.says ∙ machine-passes wants.Name name.word.from j (omega arith) } };
          few = omega arith;
          values = record {
            b = down.next;
            each = (
              up.next,
              record { word = up.stands; value = record { is = ap (value_passes wants.Value up.word.from) up.says } },
              (down.next, record { word = down.stands; value = record { is = ap (value_passes wants.Value down.word.from) down.says } }, refl),
            );
            close = z.one;
            some = omega arith;
            few = omega arith;
            few_tests = omega arith;
          };
        };
        counts = refl;
        means = (λ k. record { name = name.says k; values = with_name (with_name [] (up.says k)) (down.says k) });
        named = name.says;
        faults = (λ k. when (is_among [] (up.says k)) (refusals.Twice up.word.from) ++ (when (is_among (with_name [] (up.says k)) (down.says k)) (refusals.Twice down.word.from) ++ []));
        spot = z.spot;
      }

  -- from these tokens on the variables of machine j and of those behind it are written
  pub record ReadsVariables (j : ℕ) (ts : List Token) (bs : List ℕ) : Type 0 where
    pub next : List Token
    pub vs : List Variable
    pub some : 0 < length vs + j
    pub are : AreVariables file (counts j) vs (counts n) ts next
    pub means : variables_of file (map variable (numbers_below j)) vs ≡ map variable (numbers_below n)
    pub named : variables_faults file (map variable (numbers_below j)) vs ≡ []
    pub spot : Spot file next bs

  pub variables-read : (j more : ℕ) → j + more ≡ n → 0 < n → (ts : List Token) (bs : List ℕ) → Spot file ts (flat_map variable_text (numbers_from j more) ++ bs) → ReadsVariables j ts bs
  variables-read j zero all many ts bs s =
      let same : j ≡ n = omega arith in
      record {
        next = ts;
        vs = [];
        some = omega arith;
        are = (ap counts same, refl);
        means = ap (λ (k : ℕ). map variable (numbers_below k)) same;
        named = refl;
        spot = s;
      }
  variables-read j (suc more) all many ts bs s =
      let behind = flat_map variable_text (numbers_from (j + 1) more) ++ bs in
      let x = variable-reads j (omega arith) ts behind (same-spot file ts (flat_map variable_text (numbers_from j (suc more)) ++ bs) (variable_text j ++ behind)
      (append_assoc (variable_text j) (flat_map variable_text (numbers_from (j + 1) more)) bs) s) in
      let rest = variables-read (j + 1) more (omega arith) many x.next bs x.spot in
      let old = map variable (numbers_below j) in
      let new : is_among (var_names old) (text_of file x.v.name) ≡ false = ap (is_among (var_names old)) x.named ∙ machine-new n j (omega arith) in
      let grown : with_variable file old x.v ≡ map variable (numbers_below (j + 1)) =
      ap (λ (b : Bool). cond b old (old ++ var_of file x.v ∷ [])) new ∙ ap (λ (v : Var). old ++ v ∷ []) x.means
      ∙ sym (map-append variable (numbers_below j) (j ∷ [])) ∙ ap (map variable) (one-more j) in
      record {
        next = rest.next;
        vs = x.v ∷ rest.vs;
        some = omega arith;
        are = (x.b, x.next, x.opens, x.is, subst (λ (c : Counts). AreVariables file c rest.vs (counts n) x.next rest.next) (sym x.counts) rest.are);
        means = ap (λ (vars : List Var). variables_of file vars rest.vs) grown ∙ rest.means;
        named = ap (λ (b : Bool). when b (refusals.Twice x.v.name.from) ++ value_faults file [] x.v.values ++ variables_faults file (with_variable file old x.v) rest.vs) new
            ∙ ap (λ (fs : List Refusal). fs ++ variables_faults file (with_variable file old x.v) rest.vs) x.faults
            ∙ ap (λ (vars : List Var). variables_faults file vars rest.vs) grown ∙ rest.named;
        spot = rest.spot;
      }
