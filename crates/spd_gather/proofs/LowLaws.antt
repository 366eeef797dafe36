-- The lowest level that some entries test first.
use Rattle.std.proofs.Common.{All, ◌≡◌, ℕ, inl, inr, true, List, [], ◌∷◌, ◌++◌}
use Rattle.std.proofs.lemmas.List.Elements.{All-head, All-tail, All-nil, All-cons}
use Rattle.spd_cons_core.specs.declared.key.Entry.{Entry}
use Rattle.spd_nodes.specs.Levels.{slots}
use Rattle.spd_nodes.specs.Trees.{Tree, Ends, Tests, IsAt, IsReduced}
use Rattle.spd_nodes.specs.Shown.{Shown, IsSound}
use Rattle.spd_apply.specs.Halves.{IsNotBefore, IsLeaf}
use Rattle.spd_gather.specs.Down.{Each}
use Rattle.spd_gather.specs.Lists.{trees_of, AreKnown}
use Rattle.spd_gather.specs.Meeting.{OneAt}

pub each-push : (P : Tree → Type 0) (s : Shown) (ks : List Entry) (r : Entry) → Each P (trees_of s ks) → P (s.tree r) → Each P (trees_of s (ks ++ r ∷ []))
each-push P s [] r h p = (p, tt)
each-push P s (k ∷ ks) r h p = (h.0, each-push P s ks r h.1 p)

pub one-push : (l : ℕ) (s : Shown) (ks : List Entry) (r : Entry) → OneAt l (trees_of s ks) → OneAt l (trees_of s (ks ++ r ∷ []))
one-push l s [] r h = absurd h
one-push l s (k ∷ ks) r (inl h) = inl h
one-push l s (k ∷ ks) r (inr h) = inr (one-push l s ks r h)

pub one-last : (l : ℕ) (s : Shown) (ks : List Entry) (r : Entry) → IsAt l (s.tree r) → OneAt l (trees_of s (ks ++ r ∷ []))
one-last l s [] r h = inl h
one-last l s (k ∷ ks) r h = inr (one-last l s ks r h)

pub leaf-before : (l : ℕ) (t : Tree) → IsLeaf t → IsNotBefore l t
leaf-before l (Ends a) h = tt
leaf-before l (Tests k y n) h = absurd h

-- between entries and their trees
pub each-of : (P : Tree → Type 0) (s : Shown) (ks : List Entry) → All (λ r. P (s.tree r)) ks → Each P (trees_of s ks)
each-of P s [] h = tt
each-of P s (k ∷ ks) h = (All-head (λ r. P (s.tree r)) k ks h, each-of P s ks (All-tail (λ r. P (s.tree r)) k ks h))

pub all-of : (P : Tree → Type 0) (s : Shown) (ks : List Entry) → Each P (trees_of s ks) → All (λ r. P (s.tree r)) ks
all-of P s [] h = All-nil (λ r. P (s.tree r))
all-of P s (k ∷ ks) h = All-cons (λ r. P (s.tree r)) k ks h.0 (all-of P s ks h.1)

pub reduced-all : (s : Shown) → IsSound s → (ks : List Entry) → AreKnown s ks → Each (IsReduced (slots s.sizes) 0) (trees_of s ks)
reduced-all s o [] h = tt
reduced-all s o (k ∷ ks) h = (o.reduced k (All-head (λ r. s.knows r ≡ true) k ks h), reduced-all s o ks (All-tail (λ r. s.knows r ≡ true) k ks h))
