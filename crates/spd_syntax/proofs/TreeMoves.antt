-- What tokens do at the positions of a tree.
use Rattle.std.proofs.Common.{◌≡◌, ℕ, ◌+◌, ◌<◌, ◌≤◌, Bool, true, false, cond, List, [], ◌∷◌, ◌++◌, length, Some, Ok, Err, refl, sym, ap, subst, ◌∙◌, arith}
use Rattle.std.specs.Prelude.{nat_lt, ℤ}
use Rattle.spd_lex.specs.declared.token.Token.{Token}
use Rattle.spd_lex.specs.declared.token.Kind.{Kind}
use Rattle.spd_lex.specs.declared.token.Kind.TheVariants.{Open, Close, Word as WordKind}
use Rattle.spd_syntax.specs.declared.file.Word.{Word}
use Rattle.spd_syntax.specs.declared.file.Quantity.{Quantity}
use Rattle.spd_syntax.specs.declared.file.Branch.{Branch}
use Rattle.spd_syntax.specs.declared.file.Shape.{Shape, Number, Use, Choice, Choice', Row_of-Branch, end_of-Branch, more_of-Branch, items-the_row-Branch, items_hidden-the_row-Branch-0}
use Rattle.spd_syntax.specs.declared.file.Shape.TheBlock.{hidden-the_row-Branch-0}
use Rattle.spd_syntax.specs.declared.refusal.Refusal.{Refusal}
use Rattle.spd_syntax.specs.declared.refusal.Refusal.TheVariants.{Expected, TooMany}
use Rattle.spd_syntax.specs.declared.refusal.Want.TheVariants as wants
use Rattle.spd_syntax.specs.declared.refusal.What.TheVariants as whats
use Rattle.spd_syntax.specs.declared.unread.Unread.{Unread}
use Rattle.spd_syntax.specs.Numbers.{number_of}
use Rattle.spd_syntax.specs.Words.{text_of, name_passes, value_passes, is_number_word, is_primed, front_of, unmarked}
use Rattle.spd_syntax.specs.Positions.{tree, inside, after_number, after_primed, branch_value, branch_end, more_branches, takes, fault_step, fault_from, ◌then◌, inside_step}
use Rattle.spd_syntax.specs.Grammar.{One, AWord, IsValue, IsHead, IsTree, IsInside, IsSome, AreBranches, IsBranch, HaveBranches}
use Rattle.spd_syntax.specs.Reading.{Faults, Fails, Only, here, Lacks, Misses, behind_head}
use Rattle.spd_syntax.proofs.Moves.{Moves, stay, then_moves, moves_more, fails_more, faults_more, faults_after, fails_after, goes, goes_word, stops_word, stops_one, only_word, only_open, only_close, misses, then_ok, then_err}

-- ---- with which kind of token a position goes on

pub tree_only : (q : Quantity) (n : ℕ) → Only (tree q n) Open wants.Open
tree_only q n = only_open (tree q n) wants.Open (λ at text. refl) (λ at text. refl) (λ at text. refl) (λ at text. refl) (λ end ps. refl)

pub inside_only : (q : Quantity) (n : ℕ) → Only (inside q n) WordKind wants.Name
inside_only q n = only_word (inside q n) wants.Name (λ at text. refl) (λ at text. refl) (λ at text. refl) (λ at text. refl) (λ end ps. refl)

pub value_only : (q : Quantity) (n : ℕ) → Only (branch_value q n) WordKind wants.Value
value_only q n = only_word (branch_value q n) wants.Value (λ at text. refl) (λ at text. refl) (λ at text. refl) (λ at text. refl) (λ end ps. refl)

pub number_only : Only after_number Close wants.Close
number_only = only_close after_number wants.Close (λ at text. refl) (λ at text. refl) (λ at text. refl) (λ at text. refl) (λ end ps. refl)

pub end_only : Only branch_end Close wants.Close
end_only = only_close branch_end wants.Close (λ at text. refl) (λ at text. refl) (λ at text. refl) (λ at text. refl) (λ end ps. refl)

primed_only : (q : Quantity) (n : ℕ) → Only (after_primed q n) Open wants.Open
primed_only q n = only_open (after_primed q n) wants.Open (λ at text. refl) (λ at text. refl) (λ at text. refl) (λ at text. refl) (λ end ps. refl)

-- ---- single steps

below : (n : ℕ) → n < 300 → nat_lt n 300 ≡ true
below n h = grind arith

above : (n : ℕ) → 300 ≤ n → nat_lt n 300 ≡ false
above n h = grind arith

pub opens : (file : List ℕ) (q : Quantity) (n : ℕ) (a b : List Token) → n < 300 → One Open a b → Moves file (tree q n ∷ []) a (inside q n ∷ []) b
opens file q n a b h one = goes file (tree q n) (inside q n ∷ []) Open a b one (λ at text. ap (λ t. cond t (Ok (inside q n ∷ [])) (Err (TooMany at whats.Nesting))) (below n h))

pub too_deep : (file : List ℕ) (q : Quantity) (n : ℕ) (a b : List Token) → 300 ≤ n → (one : One Open a b) → Faults file (tree q n ∷ []) a (TooMany one.token.from whats.Nesting)
too_deep file q n a b h one = stops_one file (tree q n) Open a b (λ at. TooMany at whats.Nesting) one (λ at text. ap (λ t. cond t (Ok (inside q n ∷ [])) (Err (TooMany at whats.Nesting))) (above n h))

number_step : (q : Quantity) (n at : ℕ) (text : List ℕ) → is_number_word text ≡ true → inside_step q n at text ≡ (number_of q at text then Ok (after_number ∷ []))
number_step q n at text is = rw is refl

pub head_step : (q : Quantity) (n at : ℕ) (text : List ℕ) (primed : Bool) → is_number_word text ≡ false → is_primed text ≡ primed
    → inside_step q n at text ≡ (name_passes wants.Name at (cond primed (front_of text) text) then Ok (behind_head q n primed ∷ []))
head_step q n at text true apart mark = rw (apart, mark) refl
head_step q n at text false apart mark = rw (apart, mark) refl

pub number_goes : (file : List ℕ) (q : Quantity) (n : ℕ) (w : Word) (units : ℤ) (a b : List Token) → AWord w a b → is_number_word (text_of file w) ≡ true → number_of q w.from (text_of file w) ≡ Ok units
    → Moves file (inside q n ∷ []) a (after_number ∷ []) b
number_goes file q n w units a b word is ok =
    goes_word file (inside q n) (after_number ∷ []) w a b word (number_step q n w.from (text_of file w) is ∙ then_ok (number_of q w.from (text_of file w)) units (after_number ∷ []) ok)

pub head_goes : (file : List ℕ) (q : Quantity) (n : ℕ) (primed : Bool) (head w : Word) (a b : List Token) → AWord head a b → IsHead file primed head w
    → Moves file (inside q n ∷ []) a (behind_head q n primed ∷ []) b
head_goes file q n primed head w a b word is =
    goes_word file (inside q n) (behind_head q n primed ∷ []) head a b word
    (head_step q n head.from (text_of file head) primed is.no_number is.mark ∙ then_ok (name_passes wants.Name head.from (cond primed (front_of (text_of file head)) (text_of file head))) tt (behind_head q n primed ∷ []) is.passes)

pub value_goes : (file : List ℕ) (q : Quantity) (n : ℕ) (w : Word) (a b : List Token) → AWord w a b → IsValue file w
    → Moves file (branch_value q n ∷ []) a (tree q (n + 1) ∷ branch_end ∷ more_branches q n ∷ []) b
value_goes file q n w a b word is =
    goes_word file (branch_value q n) (tree q (n + 1) ∷ branch_end ∷ more_branches q n ∷ []) w a b word (then_ok (value_passes wants.Value w.from (text_of file w)) tt (tree q (n + 1) ∷ branch_end ∷ more_branches q n ∷ []) is.is)

pub more_opens : (file : List ℕ) (q : Quantity) (n : ℕ) (a b : List Token) → One Open a b → Moves file (more_branches q n ∷ []) a (branch_value q n ∷ []) b
more_opens file q n a b one = goes file (more_branches q n) (branch_value q n ∷ []) Open a b one (λ at text. refl)

pub more_closes : (file : List ℕ) (q : Quantity) (n : ℕ) (a b : List Token) → One Close a b → Moves file (more_branches q n ∷ []) a [] b
more_closes file q n a b one = goes file (more_branches q n) [] Close a b one (λ at text. refl)

pub head_opens : (file : List ℕ) (q : Quantity) (n : ℕ) (primed : Bool) (a b : List Token) → One Open a b → Moves file (behind_head q n primed ∷ []) a (branch_value q n ∷ []) b
head_opens file q n true a b one = goes file (after_primed q n) (branch_value q n ∷ []) Open a b one (λ at text. refl)
head_opens file q n false a b one = more_opens file q n a b one

-- ---- a whole tree lets the file go on

pub first_opens : (file : List ℕ) (q : Quantity) (n : ℕ) {k : _} (row : Row_of-Branch k) (a e : List Token) → IsSome row → AreBranches file q n row a e → (b : List Token) × One Open a b
first_opens file q n end_of-Branch a e some bs = absurd some
first_opens file q n (more_of-Branch w kid row) a e some bs = (bs.0, bs.5)

-- where a branch follows, it makes no difference whether the name is primed
head_same : (file : List ℕ) (q : Quantity) (n : ℕ) (primed : Bool) (a b : List Token) → One Open a b → Moves file (behind_head q n primed ∷ []) a (more_branches q n ∷ []) a
head_same file q n primed a b one = record { is = λ behind. (head_opens file q n primed a b one).is behind ∙ sym ((more_opens file q n a b one).is behind) }

mutual
  pub inside_moves : (file : List ℕ) (q : Quantity) (n : ℕ) (shape : Shape) (a e : List Token) → IsInside file q n shape a e → Moves file (inside q n ∷ []) a [] e
  inside_moves file q n (Number w units) a e is =
      then_moves file _ (after_number ∷ []) _ a is.0 e (number_goes file q n w units a is.0 is.1 is.3 is.4.is) (goes file after_number [] Close is.0 e is.2 (λ at text. refl))
  inside_moves file q n (Use w) a e is = then_moves file _ (more_branches q n ∷ []) _ a is.0 e (head_goes file q n false w w a is.0 is.1 is.3) (more_closes file q n is.0 e is.2)
  inside_moves file q n (Choice' w primed shape row) a e is =
      let first = first_opens file q n row is.0 is.1 is.6 is.4 in
      then_moves file _ (behind_head q n primed ∷ []) _ a is.0 e (head_goes file q n primed is.2 w a is.0 is.3 is.7)
      (then_moves file _ (more_branches q n ∷ []) _ is.0 is.0 e (head_same file q n primed is.0 first.0 first.1)
      (then_moves file _ (more_branches q n ∷ []) _ is.0 is.1 e (branches_move file q n row is.0 is.1 is.4) (more_closes file q n is.1 e is.5)))

  pub branches_move : (file : List ℕ) (q : Quantity) (n : ℕ) {k : _} (row : Row_of-Branch k) (a e : List Token) → AreBranches file q n row a e → Moves file (more_branches q n ∷ []) a (more_branches q n ∷ []) e
  branches_move file q n end_of-Branch a e bs = stay file (more_branches q n ∷ []) a e bs
  branches_move file q n (more_of-Branch w kid row) a e bs =
      let rest = branch_end ∷ more_branches q n ∷ [] in
      then_moves file _ (branch_value q n ∷ []) _ a bs.0 e (more_opens file q n a bs.0 bs.5)
      (then_moves file _ (tree q (n + 1) ∷ rest) _ bs.0 bs.1 e (value_goes file q n w bs.0 bs.1 bs.6 bs.7)
      (then_moves file _ (inside q (n + 1) ∷ rest) _ bs.1 bs.2 e (moves_more file rest _ _ bs.1 bs.2 (opens file q (n + 1) bs.1 bs.2 bs.8 bs.9))
      (then_moves file _ rest _ bs.2 bs.3 e (moves_more file rest _ _ bs.2 bs.3 (inside_moves file q (n + 1) kid bs.2 bs.3 bs.10))
      (then_moves file _ (more_branches q n ∷ []) _ bs.3 bs.4 e (moves_more file (more_branches q n ∷ []) _ _ bs.3 bs.4 (goes file branch_end [] Close bs.3 bs.4 bs.11 (λ at text. refl)))
      (branches_move file q n row bs.4 e bs.12)))))

pub tree_moves : (file : List ℕ) (q : Quantity) (n : ℕ) (shape : Shape) (a e : List Token) → IsTree file q n shape a e → Moves file (tree q n ∷ []) a [] e
tree_moves file q n shape a e is = then_moves file _ (inside q n ∷ []) _ a is.b e (opens file q n a is.b is.shallow is.opens) (inside_moves file q n shape is.b e is.inside)

pub branch_moves : (file : List ℕ) (q : Quantity) (n : ℕ) (branch : Branch) (a e : List Token) → IsBranch file q n branch a e → Moves file (branch_value q n ∷ []) a (more_branches q n ∷ []) e
branch_moves file q n branch a e is =
    let rest = branch_end ∷ more_branches q n ∷ [] in
    then_moves file _ (tree q (n + 1) ∷ rest) _ a is.b e (value_goes file q n branch.value a is.b is.word is.value)
    (then_moves file _ rest _ is.b is.c e (moves_more file rest _ _ is.b is.c (tree_moves file q (n + 1) branch.tree is.b is.c is.tree))
    (moves_more file (more_branches q n ∷ []) _ _ is.c e (goes file branch_end [] Close is.c e is.close (λ at text. refl))))

-- ---- trees by the list of their branches

pub have_more : (file : List ℕ) (q : Quantity) (n : ℕ) (bs : List Branch) (br : Branch) (a e b m : List Token) → HaveBranches file q n bs a e → One Open e b → IsBranch file q n br b m → HaveBranches file q n (bs ++ br ∷ []) a m
have_more file q n [] br a e b m h one is = (b, m, record { token = one.token; kind = one.kind; first = h ∙ one.first }, is, refl)
have_more file q n (x ∷ bs) br a e b m h one is = (h.0, h.1, h.2, h.3, have_more file q n bs br h.1 e b m h.4 one is)

are_from_have : (file : List ℕ) (q : Quantity) (n : ℕ) {k : _} (row : Row_of-Branch k) (a e : List Token) → HaveBranches file q n (items-the_row-Branch k row) a e → AreBranches file q n row a e
are_from_have file q n end_of-Branch a e h = h
are_from_have file q n (more_of-Branch w kid row) a e h =
    (h.0, h.3.b, h.3.tree.b, h.3.c, h.1, h.2, h.3.word, h.3.value, h.3.tree.shallow, h.3.tree.opens, h.3.tree.inside, h.3.close, are_from_have file q n row h.1 e h.4)

some_from_length : {k : _} (row : Row_of-Branch k) → 0 < length (items-the_row-Branch k row) → IsSome row
some_from_length end_of-Branch h = absurd (omega arith)
some_from_length (more_of-Branch w kid row) h = tt

pub is_choice : (file : List ℕ) (q : Quantity) (n : ℕ) (primed : Bool) (head w : Word) (bs : List Branch) (a b c e : List Token) → AWord head a b → HaveBranches file q n bs b c → One Close c e → 0 < length bs
    → IsHead file primed head w → IsInside file q n (Choice w primed bs) a e
is_choice file q n primed head w bs a b c e word have close some is =
    let row = hidden-the_row-Branch-0 bs in (
      b,
      c,
      head,
      word,
      are_from_have file q n row b c (subst (λ xs. HaveBranches file q n xs b c) (sym (items_hidden-the_row-Branch-0 bs)) have),
      close,
      some_from_length row (subst (λ xs. 0 < length xs) (sym (items_hidden-the_row-Branch-0 bs)) some),
      is,
    )

have_moves : (file : List ℕ) (q : Quantity) (n : ℕ) (bs : List Branch) (a e : List Token) → HaveBranches file q n bs a e → Moves file (more_branches q n ∷ []) a (more_branches q n ∷ []) e
have_moves file q n [] a e h = stay file (more_branches q n ∷ []) a e h
have_moves file q n (b ∷ bs) a e h =
    then_moves file _ (branch_value q n ∷ []) _ a h.0 e (more_opens file q n a h.0 h.2)
    (then_moves file _ (more_branches q n ∷ []) _ h.0 h.1 e (branch_moves file q n b h.0 h.1 h.3) (have_moves file q n bs h.1 e h.4))

-- from the name of a choice to behind its branches, of which there are some
head_have : (file : List ℕ) (q : Quantity) (n : ℕ) (primed : Bool) (bs : List Branch) (a e : List Token) → HaveBranches file q n bs a e → 0 < length bs → Moves file (behind_head q n primed ∷ []) a (more_branches q n ∷ []) e
head_have file q n primed [] a e h some = absurd (omega arith)
head_have file q n primed (b ∷ bs) a e h some =
    then_moves file _ (more_branches q n ∷ []) _ a a e (head_same file q n primed a h.0 h.2) (have_moves file q n (b ∷ bs) a e h)

-- and into the next one
head_next : (file : List ℕ) (q : Quantity) (n : ℕ) (primed : Bool) (bs : List Branch) (a e b : List Token) → HaveBranches file q n bs a e → One Open e b → Moves file (behind_head q n primed ∷ []) a (branch_value q n ∷ []) b
head_next file q n primed [] a e b h one = then_moves file _ (behind_head q n primed ∷ []) _ a e b (stay file (behind_head q n primed ∷ []) a e h) (head_opens file q n primed e b one)
head_next file q n primed (x ∷ bs) a e b h one = then_moves file _ (more_branches q n ∷ []) _ a e b (head_have file q n primed (x ∷ bs) a e h (omega arith)) (more_opens file q n e b one)

-- ---- faults

-- neither a branch nor the end of a tree
more_stopped : (file : List ℕ) (q : Quantity) (n : ℕ) (ts : List Token) (f : Refusal) → Lacks Open ts → Lacks Close ts → f ≡ Expected (here file ts) wants.Close → Faults file (more_branches q n ∷ []) ts f
unfolding fault_from
more_stopped file q n [] f lo lc is = record { is = λ behind. ap (λ (r : Refusal). Some r) (sym is) }
more_stopped file q n (t ∷ ts) f lo lc is = record {
  is = λ behind.
      ap (fault_step (λ rs. fault_from file (rs ++ behind) ts)) (other t.kind lo lc t.from (text_of file (record { from = t.from; to = t.to }))) ∙ ap (λ (r : Refusal). Some r) (sym is);
}
  where
    other : (k : Kind) → (k ≡ Open → ⊥) → (k ≡ Close → ⊥) → (at : ℕ) (text : List ℕ) → takes (more_branches q n) k at text ≡ Err (Expected at wants.Close)
    other Open lo lc at text = absurd (lo refl)
    other Close lo lc at text = absurd (lc refl)
    other k lo lc at text = refl

pub choice_branch : (file : List ℕ) (q : Quantity) (n : ℕ) (primed : Bool) (bs : List Branch) (a e b : List Token) (u : Unread) → HaveBranches file q n bs a e → One Open e b
    → Fails file (branch_value q n ∷ []) b u → Fails file (behind_head q n primed ∷ []) a u
choice_branch file q n primed bs a e b u h one fails = fails_after file _ (branch_value q n ∷ []) a b u (head_next file q n primed bs a e b h one) fails

pub choice_ends : (file : List ℕ) (q : Quantity) (n : ℕ) (primed : Bool) (bs : List Branch) (a e : List Token) (f : Refusal) → HaveBranches file q n bs a e → 0 < length bs → Lacks Open e
    → Misses file Close wants.Close e f → Faults file (behind_head q n primed ∷ []) a f
choice_ends file q n primed bs a e f h some lacks m = faults_after file _ (more_branches q n ∷ []) a e f (head_have file q n primed bs a e h some) (more_stopped file q n e f lacks m.lacks m.fault)

pub choice_empty : (file : List ℕ) (q : Quantity) (n : ℕ) (primed : Bool) (bs : List Branch) (a e : List Token) (f : Refusal) → length bs ≡ 0 → HaveBranches file q n bs a e → Lacks Open e
    → (primed ≡ false → Lacks Close a) → f ≡ Expected (here file e) (cond primed wants.Open wants.Close) → Faults file (behind_head q n primed ∷ []) a f
choice_empty file q n primed (b ∷ bs) a e f none h lacks other is = absurd (omega arith)
choice_empty file q n true [] a e f none h lacks other is =
    faults_after file _ (after_primed q n ∷ []) a e f (stay file (after_primed q n ∷ []) a e h) (misses file (after_primed q n) Open wants.Open e f (primed_only q n) (record { lacks = lacks; fault = is }))
choice_empty file q n false [] a e f none h lacks other is =
    faults_after file _ (more_branches q n ∷ []) a e f (stay file (more_branches q n ∷ []) a e h) (more_stopped file q n e f lacks (subst (Lacks Close) h (other refl)) is)

-- ---- words that are refused

pub primed_some : (text : List ℕ) → is_primed text ≡ true → 0 < length text
unfolding is_primed
primed_some [] mark = absurd (cc)
primed_some (c ∷ cs) mark = omega arith

pub number_stops : (file : List ℕ) (q : Quantity) (n : ℕ) (w : Word) (a b : List Token) (f : Refusal) → AWord w a b → is_number_word (text_of file w) ≡ true → Err f ≡ number_of q w.from (text_of file w) → Faults file (inside q n ∷ []) a f
number_stops file q n w a b f word is found =
    stops_word file (inside q n) w a b f word (number_step q n w.from (text_of file w) is ∙ then_err (number_of q w.from (text_of file w)) (Ok (after_number ∷ [])) f (sym found))

pub number_ends : (file : List ℕ) (q : Quantity) (n : ℕ) (w : Word) (units : ℤ) (a b : List Token) (f : Refusal) → AWord w a b → is_number_word (text_of file w) ≡ true → Ok units ≡ number_of q w.from (text_of file w)
    → Misses file Close wants.Close b f → Faults file (inside q n ∷ []) a f
number_ends file q n w units a b f word is found m =
    faults_after file _ (after_number ∷ []) a b f (number_goes file q n w units a b word is (sym found)) (misses file after_number Close wants.Close b f number_only m)

pub head_stops : (file : List ℕ) (q : Quantity) (n : ℕ) (primed : Bool) (w : Word) (a b : List Token) (f : Refusal) → AWord w a b → is_number_word (text_of file w) ≡ false → is_primed (text_of file w) ≡ primed
    → Err f ≡ name_passes wants.Name w.from (cond primed (front_of (text_of file w)) (text_of file w)) → Faults file (inside q n ∷ []) a f
head_stops file q n primed w a b f word apart mark found =
    stops_word file (inside q n) w a b f word
    (head_step q n w.from (text_of file w) primed apart mark ∙ then_err (name_passes wants.Name w.from (cond primed (front_of (text_of file w)) (text_of file w))) (Ok (behind_head q n primed ∷ [])) f (sym found))

pub head_fails : (file : List ℕ) (q : Quantity) (n : ℕ) (primed : Bool) (w : Word) (a b : List Token) (u : Unread) → AWord w a b → IsHead file primed w (unmarked primed w)
    → Fails file (behind_head q n primed ∷ []) b u → Fails file (inside q n ∷ []) a u
head_fails file q n primed w a b u word is fails = fails_after file _ (behind_head q n primed ∷ []) a b u (head_goes file q n primed w (unmarked primed w) a b word is) fails

pub value_stops : (file : List ℕ) (q : Quantity) (n : ℕ) (w : Word) (a b : List Token) (f : Refusal) → AWord w a b → Err f ≡ value_passes wants.Value w.from (text_of file w) → Faults file (branch_value q n ∷ []) a f
value_stops file q n w a b f word found =
    stops_word file (branch_value q n) w a b f word (then_err (value_passes wants.Value w.from (text_of file w)) (Ok (tree q (n + 1) ∷ branch_end ∷ more_branches q n ∷ [])) f (sym found))

pub branch_tree : (file : List ℕ) (q : Quantity) (n : ℕ) (w : Word) (a b : List Token) (u : Unread) → AWord w a b → IsValue file w → Fails file (tree q (n + 1) ∷ []) b u → Fails file (branch_value q n ∷ []) a u
branch_tree file q n w a b u word is fails =
    fails_after file _ (tree q (n + 1) ∷ branch_end ∷ more_branches q n ∷ []) a b u (value_goes file q n w a b word is) (fails_more file (branch_end ∷ more_branches q n ∷ []) (tree q (n + 1) ∷ []) b u fails)

pub branch_ends : (file : List ℕ) (q : Quantity) (n : ℕ) (w : Word) (shape : Shape) (a b c : List Token) (f : Refusal) → AWord w a b → IsValue file w → IsTree file q (n + 1) shape b c
    → Misses file Close wants.Close c f → Faults file (branch_value q n ∷ []) a f
branch_ends file q n w shape a b c f word is tree_is m =
    let rest = branch_end ∷ more_branches q n ∷ [] in
    faults_after file _ rest a c f
    (then_moves file _ (tree q (n + 1) ∷ rest) _ a b c (value_goes file q n w a b word is) (moves_more file rest _ _ b c (tree_moves file q (n + 1) shape b c tree_is)))
    (faults_more file (more_branches q n ∷ []) (branch_end ∷ []) c f (misses file branch_end Close wants.Close c f end_only m))
