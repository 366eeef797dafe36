-- The words of an entry that a seat knows.
use Rattle.std.proofs.Common.{◌≡◌, ℕ, ◌+◌, ◌<◌, true, [], ◌∷◌, get_or, sym, ap, ◌∙◌, subst, arith}
use Rattle.std.specs.List.{Contains}
use Rattle.spd_cons_core.specs.declared.key.Entry.{Entry}
use Rattle.spd_cons_core.specs.declared.key.Key.{Key}
use Rattle.spd_cons_core.specs.declared.key.Key.TheVariants.{Test, Num, Pair, Act}
use Rattle.spd_cons_core.specs.declared.mind.Known.{Known}
use Rattle.spd_cons_core.specs.Views.{Seat}
use Rattle.spd_cons_core.specs.Spelling.{words_of, IsKey}
use Rattle.spd_cons_core.specs.Seats.{is_known}
use Rattle.spd_cons_core.specs.Invariants.{IsKnown}
use Rattle.spd_cons_core.proofs.CallerLemmas.{known_key}
use Rattle.spd_cons.specs.declared.view.Size.{Size}
use Rattle.spd_cons.specs.Values.{IsSeated, known}

-- what a seat knows is known to it in a machine
known_there : (size : Size) (mind : Seat) (m : IsSeated size mind) (k : Known) → Contains mind.knows k → IsKnown m.machine mind k
known_there size mind m k at =
    subst (λ (z : Seat). IsKnown m.machine z k) m.there
    ((m.sound.seats m.seat (ap (λ (z : Seat). z.live) m.there ∙ m.live)).known k (subst (λ (z : Seat). Contains z.knows k) (sym m.there) at))

-- an entry that is known is one of the entries
pub known_below : (size : Size) (mind : Seat) → IsSeated size mind → (e : Entry) → is_known mind.knows e ≡ true → e.0 < size.limit + size.most
known_below size mind m e known =
    let k = known_key mind.knows e known in
    let is = known_there size mind m (record { entry = e; key = k.0 }) k.1 in
    let below = (m.sound.only_claimed is.published.0 e.0 is.published.1).below_end in
    let limit = m.limit in
    let most = m.most in
    omega arith

-- the key with which an entry is known, which is in range
pub known_as : (size : Size) (mind : Seat) → IsSeated size mind → (e : Entry) → is_known mind.knows e ≡ true → (key : Key) × Contains mind.knows (known e key) × IsKey key
known_as size mind m e is =
    let k = known_key mind.knows e is in
    (k.0, k.1, (known_there size mind m (known e k.0) k.1).in_range)

-- five words that are a key's one by one
pub five_words : (key : Key) (a b c d e : ℕ) → a ≡ get_or (words_of key) 0 0 → b ≡ get_or (words_of key) 1 0 → c ≡ get_or (words_of key) 2 0 → d ≡ get_or (words_of key) 3 0 → e ≡ get_or (words_of key) 4 0
    → a ∷ b ∷ c ∷ d ∷ e ∷ [] ≡ words_of key
five_words (Test l y n) a b c d e p q r s t = λ i. p i ∷ q i ∷ r i ∷ s i ∷ t i ∷ []
five_words (Num m) a b c d e p q r s t = λ i. p i ∷ q i ∷ r i ∷ s i ∷ t i ∷ []
five_words (Pair m n) a b c d e p q r s t = λ i. p i ∷ q i ∷ r i ∷ s i ∷ t i ∷ []
five_words (Act m) a b c d e p q r s t = λ i. p i ∷ q i ∷ r i ∷ s i ∷ t i ∷ []
