-- How tokens move the first fault: from what is next before them to what is next behind them.
use Rattle.std.proofs.Common.{◌≡◌, ℕ, ◌+◌, List, [], ◌∷◌, ◌++◌, length, Some, Ok, Err, Result, refl, sym, ap, subst, ◌∙◌, arith, append_assoc}
use Rattle.std.specs.Prelude.{IfErr, IsErrAnd}
use Rattle.spd_lex.specs.declared.token.Token.{Token}
use Rattle.spd_lex.specs.declared.token.Kind.{Kind}
use Rattle.spd_lex.specs.declared.token.Kind.TheVariants.{Open, Close, OpenSum, CloseSum, Word as WordKind}
use Rattle.spd_syntax.specs.declared.file.Word.{Word}
use Rattle.spd_syntax.specs.declared.refusal.Refusal.{Refusal}
use Rattle.spd_syntax.specs.declared.refusal.Refusal.TheVariants.{Expected}
use Rattle.spd_syntax.specs.declared.refusal.Want.{Want}
use Rattle.spd_syntax.specs.declared.unread.Unread.{Unread}
use Rattle.spd_syntax.specs.declared.unread.Unread.TheVariants.{Refused, Memory}
use Rattle.spd_syntax.specs.Words.{text_of}
use Rattle.spd_syntax.specs.Positions.{Position, takes, fault_step, fault_from, end_fault, ◌then◌}
use Rattle.spd_syntax.specs.Grammar.{One, AWord}
use Rattle.spd_syntax.specs.Reading.{Faults, Fails, Only, here, Lacks, Misses}

-- The tokens between a and b let the file go on: where these positions were next, those are.
pub record Moves (file : List ℕ) (ps : List Position) (a : List Token) (qs : List Position) (b : List Token) : Type 0 where
  pub is : (behind : List Position) → fault_from file (ps ++ behind) a ≡ fault_from file (qs ++ behind) b

pub stay : (file : List ℕ) (ps : List Position) (a b : List Token) → a ≡ b → Moves file ps a ps b
stay file ps a b e = record { is = λ behind. ap (λ (l : List Token). fault_from file (ps ++ behind) l) e }

pub then_moves : (file : List ℕ) (ps qs rs : List Position) (a b c : List Token) → Moves file ps a qs b → Moves file qs b rs c → Moves file ps a rs c
then_moves file ps qs rs a b c first second = record { is = λ behind. first.is behind ∙ second.is behind }

pub moves_more : (file : List ℕ) (more ps qs : List Position) (a b : List Token) → Moves file ps a qs b → Moves file (ps ++ more) a (qs ++ more) b
moves_more file more ps qs a b moves = record {
  is = λ behind. ap (λ (l : List Position). fault_from file l a) (append_assoc ps more behind) ∙ moves.is (more ++ behind) ∙ ap (λ (l : List Position). fault_from file l b) (sym (append_assoc qs more behind));
}

pub faults_more : (file : List ℕ) (more ps : List Position) (a : List Token) (f : Refusal) → Faults file ps a f → Faults file (ps ++ more) a f
faults_more file more ps a f faults = record { is = λ behind. ap (λ (l : List Position). fault_from file l a) (append_assoc ps more behind) ∙ faults.is (more ++ behind) }

pub fails_more : (file : List ℕ) (more ps : List Position) (a : List Token) (e : Unread) → Fails file ps a e → Fails file (ps ++ more) a e
fails_more file more ps a (Refused f) fails = faults_more file more ps a f fails
fails_more file more ps a Memory fails = tt

pub faults_after : (file : List ℕ) (ps qs : List Position) (a b : List Token) (f : Refusal) → Moves file ps a qs b → Faults file qs b f → Faults file ps a f
faults_after file ps qs a b f moves faults = record { is = λ behind. moves.is behind ∙ faults.is behind }

pub fails_after : (file : List ℕ) (ps qs : List Position) (a b : List Token) (e : Unread) → Moves file ps a qs b → Fails file qs b e → Fails file ps a e
fails_after file ps qs a b (Refused f) moves fails = faults_after file ps qs a b f moves fails
fails_after file ps qs a b Memory moves fails = tt

-- ---- one token

pub goes : (file : List ℕ) (p : Position) (qs : List Position) (kind : Kind) (a b : List Token) → One kind a b → ((at : ℕ) (text : List ℕ) → takes p kind at text ≡ Ok qs) → Moves file (p ∷ []) a qs b
unfolding fault_from
goes file p qs kind a b one h = record {
  is = λ behind.
      let w : Word = record { from = one.token.from; to = one.token.to } in
      ap (λ (l : List Token). fault_from file (p ∷ behind) l) one.first
      ∙ ap (fault_step (λ rs. fault_from file (rs ++ behind) b)) (ap (λ (k : Kind). takes p k one.token.from (text_of file w)) one.kind ∙ h one.token.from (text_of file w));
}

-- what is next behind a token may depend on its place
pub goes_at : (file : List ℕ) (p : Position) (qs : ℕ → List Position) (kind : Kind) (a b : List Token) (one : One kind a b) → ((at : ℕ) (text : List ℕ) → takes p kind at text ≡ Ok (qs at)) → Moves file (p ∷ []) a (qs one.token.from) b
unfolding fault_from
goes_at file p qs kind a b one h = record {
  is = λ behind.
      let w : Word = record { from = one.token.from; to = one.token.to } in
      ap (λ (l : List Token). fault_from file (p ∷ behind) l) one.first
      ∙ ap (fault_step (λ rs. fault_from file (rs ++ behind) b)) (ap (λ (k : Kind). takes p k one.token.from (text_of file w)) one.kind ∙ h one.token.from (text_of file w));
}

pub goes_word : (file : List ℕ) (p : Position) (qs : List Position) (w : Word) (a b : List Token) → AWord w a b → takes p WordKind w.from (text_of file w) ≡ Ok qs → Moves file (p ∷ []) a qs b
unfolding fault_from
goes_word file p qs w a b word h = record {
  is = λ behind.
      ap (λ (l : List Token). fault_from file (p ∷ behind) l) word.first ∙ ap (fault_step (λ rs. fault_from file (rs ++ behind) b)) h;
}

pub stops_word : (file : List ℕ) (p : Position) (w : Word) (a b : List Token) (f : Refusal) → AWord w a b → takes p WordKind w.from (text_of file w) ≡ Err f → Faults file (p ∷ []) a f
unfolding fault_from
stops_word file p w a b f word h = record {
  is = λ behind.
      ap (λ (l : List Token). fault_from file (p ∷ behind) l) word.first ∙ ap (fault_step (λ rs. fault_from file (rs ++ behind) b)) h;
}

pub stops_one : (file : List ℕ) (p : Position) (kind : Kind) (a b : List Token) (f : ℕ → Refusal) (one : One kind a b) → ((at : ℕ) (text : List ℕ) → takes p kind at text ≡ Err (f at)) → Faults file (p ∷ []) a (f one.token.from)
unfolding fault_from
stops_one file p kind a b f one h = record {
  is = λ behind.
      let w : Word = record { from = one.token.from; to = one.token.to } in
      ap (λ (l : List Token). fault_from file (p ∷ behind) l) one.first
      ∙ ap (fault_step (λ rs. fault_from file (rs ++ behind) b)) (ap (λ (k : Kind). takes p k one.token.from (text_of file w)) one.kind ∙ h one.token.from (text_of file w));
}

-- ---- the only kind of token with which a position goes on

-- no token of this kind goes on at this position
abbrev pub Stops : Position → Want → Kind → Type 0
Stops p want k = (at : ℕ) (text : List ℕ) → takes p k at text ≡ Err (Expected at want)

-- nor does the end of the file
abbrev pub Ends : Position → Want → Type 0
Ends p want = (end : ℕ) (ps : List Position) → end_fault end (p ∷ ps) ≡ Some (Expected end want)

pub only_word : (p : Position) (want : Want) → Stops p want Open → Stops p want Close → Stops p want OpenSum → Stops p want CloseSum → Ends p want → Only p WordKind want
only_word p want opens closes opens_sum closes_sum ends = record { others = other; at_end = ends }
  where
    other : (k : Kind) (at : ℕ) (text : List ℕ) → (k ≡ WordKind → ⊥) → takes p k at text ≡ Err (Expected at want)
    other WordKind at text differs = absurd (differs refl)
    other Open at text differs = opens at text
    other Close at text differs = closes at text
    other OpenSum at text differs = opens_sum at text
    other CloseSum at text differs = closes_sum at text

pub only_open : (p : Position) (want : Want) → Stops p want Close → Stops p want OpenSum → Stops p want CloseSum → Stops p want WordKind → Ends p want → Only p Open want
only_open p want closes opens_sum closes_sum word ends = record { others = other; at_end = ends }
  where
    other : (k : Kind) (at : ℕ) (text : List ℕ) → (k ≡ Open → ⊥) → takes p k at text ≡ Err (Expected at want)
    other Open at text differs = absurd (differs refl)
    other Close at text differs = closes at text
    other OpenSum at text differs = opens_sum at text
    other CloseSum at text differs = closes_sum at text
    other WordKind at text differs = word at text

pub only_close : (p : Position) (want : Want) → Stops p want Open → Stops p want OpenSum → Stops p want CloseSum → Stops p want WordKind → Ends p want → Only p Close want
only_close p want opens opens_sum closes_sum word ends = record { others = other; at_end = ends }
  where
    other : (k : Kind) (at : ℕ) (text : List ℕ) → (k ≡ Close → ⊥) → takes p k at text ≡ Err (Expected at want)
    other Close at text differs = absurd (differs refl)
    other Open at text differs = opens at text
    other OpenSum at text differs = opens_sum at text
    other CloseSum at text differs = closes_sum at text
    other WordKind at text differs = word at text

stopped : (file : List ℕ) (p : Position) (behind : List Position) (kind : Kind) (want : Want) (ts : List Token) → Only p kind want → Lacks kind ts
    → fault_from file (p ∷ behind) ts ≡ Some (Expected (here file ts) want)
unfolding fault_from
stopped file p behind kind want [] only lacks = only.at_end (length file) behind
stopped file p behind kind want (t ∷ ts) only lacks =
    ap (fault_step (λ rs. fault_from file (rs ++ behind) ts)) (only.others t.kind t.from (text_of file (record { from = t.from; to = t.to })) lacks)

pub misses : (file : List ℕ) (p : Position) (kind : Kind) (want : Want) (ts : List Token) (f : Refusal) → Only p kind want → Misses file kind want ts f → Faults file (p ∷ []) ts f
misses file p kind want ts f only m = record { is = λ behind. stopped file p behind kind want ts only m.lacks ∙ ap (λ (r : Refusal). Some r) (sym m.fault) }

-- ---- judgements

pub then_ok : {A : Type 0} (judged : Result A Refusal) (x : A) (qs : List Position) → judged ≡ Ok x → (judged then Ok qs) ≡ Ok qs
then_ok judged x qs e = ap (λ r. r then Ok qs) e

pub then_err : {A B : Type 0} (judged : Result A Refusal) (next : Result B Refusal) (f : Refusal) → judged ≡ Err f → (judged then next) ≡ Err f
then_err judged next f e = ap (λ r. r then next) e

-- one token less
pub one_longer : (kind : Kind) (a b : List Token) → One kind a b → length a ≡ length b + 1
one_longer kind a b one = ap length one.first ∙ omega arith

pub word_longer : (w : Word) (a b : List Token) → AWord w a b → length a ≡ length b + 1
word_longer w a b word = ap length word.first ∙ omega arith

-- ---- exits: what is answered where a call's fault is passed on

pub refused_exit : {X : Type 0} (file : List ℕ) (ps : List Position) (ts : List Token) (r : Result X Unread) (f : Refusal) → IsErrAnd r (λ (e : Unread). e ≡ Refused f) → Faults file ps ts f → IfErr r (Fails file ps ts)
refused_exit file ps ts (Ok x) f is faults = tt
refused_exit file ps ts (Err e) f is faults = subst (Fails file ps ts) (sym is) faults

pub same_exit : {X : Type 0} (file : List ℕ) (ps : List Position) (ts : List Token) (r : Result X Unread) (u : Unread) → IsErrAnd r (λ (e : Unread). e ≡ u) → Fails file ps ts u → IfErr r (Fails file ps ts)
same_exit file ps ts (Ok x) u is fails = tt
same_exit file ps ts (Err e) u is fails = subst (Fails file ps ts) (sym is) fails

pub err_exit : {X E : Type 0} (P : E → Type 0) (r : Result X E) (e : E) → IsErrAnd r (λ (x : E). x ≡ e) → P e → IfErr r P
err_exit P (Ok x) e is p = tt
err_exit P (Err x) e is p = subst P (sym is) p
