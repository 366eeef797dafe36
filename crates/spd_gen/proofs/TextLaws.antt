-- The text of a ring from its pieces.
use Rattle.std.proofs.Common.{◌≡◌, ℕ, zero, suc, ◌-◌, ◌+◌, ◌≤◌, List, [], ◌∷◌, ◌++◌, flat_map, take, drop, Bor, refl, ap, sym, ◌∙◌, arith, append_assoc, append-nil, codes, decimal}
use Rattle.std.proofs.lemmas.List.{take-append-drop}
use Rattle.std.proofs.lemmas.Grind.{flat_map-append}
use Rattle.spd_model.specs.Numbers.{numbers_below}
use Rattle.spd_gen.specs.Ring.{left_of, variable_text, part_text, keep_line, fix_line, ring_text, noop_text, reboot_text, line}
use Rattle.spd_edge.specs.Pieces.{text_of_pieces}
use Rattle.spd_gen.specs.inner.Lines.{keep_of, fix_of, whole_text}

-- the pieces up to one, and those behind them
pub pieces-split : (pieces : List (Bor (List ℕ))) (i : ℕ) → text_of_pieces pieces ≡ text_of_pieces (take i pieces) ++ text_of_pieces (drop i pieces)
pieces-split pieces i = ap text_of_pieces (sym (take-append-drop i pieces)) ∙ flat_map-append (λ (p : Bor (List ℕ)). p.now) (take i pieces) (drop i pieces)

abbrev pub no_piece : Bor (List ℕ)
no_piece = record { ref_ptr = (0, 0); now = [] }

-- ---- what is written of each number below n

module _ (f : ℕ → List ℕ) where
  each-suc : (i : ℕ) → flat_map f (numbers_below i) ++ f i ≡ flat_map f (numbers_below (suc i))
  each-suc i = ap (λ (l : List ℕ). flat_map f (numbers_below i) ++ l) (sym (append-nil (f i))) ∙ sym (flat_map-append f (numbers_below i) (i ∷ []))

  pub each-same : (i j : ℕ) → i ≡ j → flat_map f (numbers_below i) ≡ flat_map f (numbers_below j)
  each-same i j e = ap (λ (k : ℕ). flat_map f (numbers_below k)) e

  -- one number more
  pub each-more : (i : ℕ) → flat_map f (numbers_below i) ++ f i ≡ flat_map f (numbers_below (i + 1))
  each-more i = each-suc i ∙ each-same (suc i) (i + 1) (omega arith)

  split-more : (i more n : ℕ) → n ≡ i + more → (rest : List ℕ) × (flat_map f (numbers_below n) ≡ flat_map f (numbers_below i) ++ rest)
  split-more i zero n e = ([], each-same n i (omega arith) ∙ sym (append-nil (flat_map f (numbers_below i))))
  split-more i (suc more) n e =
      let before = split-more i more (i + more) refl in (
        before.0 ++ f (i + more),
        each-same n (suc (i + more)) (omega arith) ∙ sym (each-suc (i + more)) ∙ ap (λ (l : List ℕ). l ++ f (i + more)) before.1
            ∙ append_assoc (flat_map f (numbers_below i)) before.0 (f (i + more)),
      )

  -- the numbers up to i, and those behind them
  pub each-split : (i n : ℕ) → i ≤ n → (rest : List ℕ) × (flat_map f (numbers_below n) ≡ flat_map f (numbers_below i) ++ rest)
  each-split i n h = split-more i (n - i) n (omega arith)

-- ---- lines

-- a tree for where a machine is up and where it is down, from what stands before, between and behind its parts
abbrev choice : List ℕ → List ℕ → List ℕ → List ℕ → List ℕ → List ℕ → List ℕ → List ℕ
choice before up down behind name x y = (((((before ++ name) ++ up) ++ x) ++ down) ++ y) ++ behind

-- the line of a machine from its pieces
pub keep-is : (own left : List ℕ)
    → codes "m" ++ (own ++ (codes " (m" ++ (own ++ (codes " (up (m" ++ (left ++ (codes " (up (m" ++ (own ++ (codes "' (up (0.9)) (down (0.1)))) (down (m"
    ++ (own ++ (codes "' (up (0.6)) (down (0.4)))))) (down (m" ++ (own ++ ((codes "' (up (0.1)) (down (0.9)))))" ++ 10 ∷ []) ++ []))))))))))))
    ≡ keep_of own left
unfolding keep_of
keep-is own left =
    regroup-keep own left (codes "m") (codes " ") (codes "(") (codes " (up ") (codes ") (down ") (codes "))") (codes "'") (codes "(0.9)") (codes "(0.1)") (codes "(0.6)") (codes "(0.4)") (10 ∷ [])
  where
    regroup-keep : (own left m s o u d e q x y z w n : List ℕ)
        → m ++ (own ++ ((s ++ (o ++ m)) ++ (own ++ ((u ++ (o ++ m)) ++ (left ++ ((u ++ (o ++ m)) ++ (own ++ ((q ++ (u ++ (x ++ (d ++ (y ++ (e ++ (d ++ (o ++ m))))))))
        ++ (own ++ ((q ++ (u ++ (z ++ (d ++ (w ++ (e ++ (e ++ (d ++ (o ++ m))))))))) ++ (own ++ ((q ++ (u ++ (y ++ (d ++ (x ++ (e ++ (e ++ n))))))) ++ []))))))))))))
        ≡ (((m ++ own) ++ s) ++ choice o u d e (m ++ own) (choice o u d e (m ++ left) (choice o u d e ((m ++ own) ++ q) x y) (choice o u d e ((m ++ own) ++ q) z w)) (choice o u d e ((m ++ own) ++ q) y x)) ++ n
    regroup-keep own left m s o u d e q x y z w n = simp (append_assoc, append-nil)

pub fix-is : (own : List ℕ) → codes "m" ++ (own ++ (codes " (m" ++ (own ++ ((codes "' (up (1)) (down (0)))" ++ 10 ∷ []) ++ [])))) ≡ fix_of own
unfolding fix_of
fix-is own = regroup-fix own (codes "m") (codes " ") (codes "(") (codes " (up ") (codes ") (down ") (codes "))") (codes "'") (codes "(1)") (codes "(0)") (10 ∷ [])
  where
    regroup-fix : (own m s o u d e q x y n : List ℕ)
        → m ++ (own ++ ((s ++ (o ++ m)) ++ (own ++ ((q ++ (u ++ (x ++ (d ++ (y ++ (e ++ n)))))) ++ [])))) ≡ (((m ++ own) ++ s) ++ choice o u d e ((m ++ own) ++ q) x y) ++ n
    regroup-fix own m s o u d e q x y n = simp (append_assoc, append-nil)

pub keep_of-machine : (n i : ℕ) → keep_of (decimal (i + 1)) (decimal (left_of n i + 1)) ≡ keep_line n i
unfolding keep_of keep_line
keep_of-machine n i = refl

pub fix_of-machine : (i : ℕ) → fix_of (decimal (i + 1)) ≡ fix_line i
unfolding fix_of fix_line
fix_of-machine i = refl

pub variable-is : (i : ℕ) (digits : List ℕ) → digits ≡ decimal (i + 1) → codes " (m" ++ (digits ++ (codes " up down)" ++ [])) ≡ variable_text i
variable-is i digits e = ap (λ (t : List ℕ). codes " (m" ++ (t ++ codes " up down)")) e

pub part-is : (i : ℕ) (digits : List ℕ) → digits ≡ decimal (i + 1) → codes " (m" ++ (digits ++ (codes " (up (1)) (down (0)))" ++ [])) ≡ part_text i
part-is i digits e = ap (λ (t : List ℕ). codes " (m" ++ (t ++ codes " (up (1)) (down (0)))")) e ∙ part (decimal (i + 1))
  where
    part : (own : List ℕ) → codes " (m" ++ (own ++ codes " (up (1)) (down (0)))")
        ≡ codes " " ++ (((((codes "(" ++ (codes "m" ++ own)) ++ codes " (up ") ++ codes "(1)") ++ codes ") (down ") ++ codes "(0)") ++ codes "))"
    part own = simp (append_assoc, append-nil)

pub reboot-is : (i : ℕ) (digits : List ℕ) → digits ≡ decimal (i + 1) → codes "action reboot" ++ (digits ++ ((10 ∷ []) ++ [])) ≡ line (codes "action reboot" ++ decimal (i + 1))
reboot-is i digits e = ap (λ (t : List ℕ). codes "action reboot" ++ (t ++ 10 ∷ [])) e

-- ---- the whole text

pub whole-is : (n : ℕ) → whole_text n ≡ ring_text n
unfolding ring_text
whole-is n =
    regroup-whole (codes "(variables") (flat_map variable_text (numbers_below n)) (codes ")") (10 ∷ []) (noop_text n) (flat_map (reboot_text n) (numbers_below n)) (codes "reward [+")
    (flat_map part_text (numbers_below n)) (codes "]") (line (codes "discount 0.95")) (line (codes "tolerance 0.1"))
  where
    regroup-whole : (v vars c n noop reboots r parts b d t : List ℕ)
        → (((((v ++ vars) ++ (c ++ n)) ++ noop) ++ reboots) ++ ((r ++ parts) ++ (b ++ n))) ++ (d ++ t)
        ≡ (((((((v ++ vars) ++ c) ++ n) ++ noop) ++ reboots) ++ (((r ++ parts) ++ b) ++ n)) ++ d) ++ t
    regroup-whole v vars c n noop reboots r parts b d t = simp append_assoc
