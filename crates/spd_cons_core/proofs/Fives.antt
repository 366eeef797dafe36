-- An entry and a key have five words, and two lists of five words are equal where their first five are.
use Rattle.std.proofs.Common.{◌≡◌, ℕ, ◌<◌, List, [], length, take, refl, sym, ◌∙◌, arith}
use Rattle.std.proofs.lemmas.List.{take_all}
use Rattle.std.proofs.lemmas.List.Elements.{All-get_or}
use Rattle.spd_cons_core.specs.declared.key.Key.{Key}
use Rattle.spd_cons_core.specs.declared.key.Key.TheVariants.{Test, Num, Pair, Act}
use Rattle.spd_cons_core.specs.Views.{Machine}
use Rattle.spd_cons_core.specs.Spelling.{words_of}
use Rattle.spd_cons_core.specs.Seats.{entry_words}
use Rattle.spd_cons_core.specs.Invariants.{IsSized, IsClaimed}

pub five_of_key : (key : Key) → length (words_of key) ≡ 5
five_of_key (Test level on_yes on_no) = refl
five_of_key (Num n) = refl
five_of_key (Pair m n) = refl
five_of_key (Act action) = refl

pub claimed_within : (c : Machine) → IsSized c → (e : ℕ) → IsClaimed c e → e < length c.entries
claimed_within c sized e claimed = let low = claimed.below_end in let n = sized.entries in omega arith

pub five_of_entry : (c : Machine) → IsSized c → (e : ℕ) → IsClaimed c e → length (entry_words c e) ≡ 5
five_of_entry c sized e claimed = All-get_or (λ words. length words ≡ 5) c.entries e [] (claimed_within c sized e claimed) sized.five_words

pub same_of_five : (xs ys : List ℕ) → length xs ≡ 5 → length ys ≡ 5 → take 5 xs ≡ take 5 ys → xs ≡ ys
same_of_five xs ys five five' same = sym (take_all 5 xs (omega arith)) ∙ (same ∙ take_all 5 ys (omega arith))
