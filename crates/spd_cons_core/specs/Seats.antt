-- Parts of a machine, by their numbers, and what a seat knows.
use Rattle.std.specs.Prelude.{◌≡◌, ℕ, ◌+◌, Bool, true, false, ◌&&◌, ◌==◌, if◌then◌else◌, List, [], ◌∷◌, ◌++◌, length, slice_index, slice_index_or, slice_set, None}
use Rattle.std.specs.List.{list_any}
use Rattle.std.specs.Ordering.{int_eq}
use Rattle.spd_cons_core.specs.declared.key.Entry.{Entry}
use Rattle.spd_cons_core.specs.declared.key.Key.{Key}
use Rattle.spd_cons_core.specs.declared.key.Key.TheVariants.{Test, Num, Pair, Act}
use Rattle.spd_cons_core.specs.declared.mind.Known.{Known}
use Rattle.spd_cons_core.specs.declared.mind.Last.TheVariants.{Nothing}
use Rattle.spd_cons_core.specs.Views.{Seat, Machine}

-- a seat that isn't live any more: it was joined into another one
abbrev pub spent : Seat
spent = record {
  live = false;
  knows = [];
  published = [];
  spare = None;
  unpublished = 0;
  stands = 0;
  splits = 0;
  ended = false;
  call = None;
  last = Nothing;
}

-- the seat of this number, and a spent one where there is none
abbrev pub seat_at : Machine → ℕ → Seat
seat_at c i = slice_index_or c.seats i spent

-- the machine with another seat in the place of this number
abbrev pub with_seat : Machine → ℕ → Seat → Machine
with_seat c i seat = record c { seats = slice_set c.seats i seat }

-- how many buckets there are
abbrev pub bucket_count : Machine → ℕ
bucket_count c = length c.buckets

-- what stands in a bucket: 0, or one more than the entry that it names
abbrev pub bucket : Machine → ℕ → ℕ
bucket c k = slice_index c.buckets k

-- the bucket k names the entry e, which is then published
abbrev pub Names : Machine → ℕ → ℕ → Type 0
Names c k e = bucket c k ≡ e + 1

-- the five words of an entry
abbrev pub entry_words : Machine → ℕ → List ℕ
entry_words c e = slice_index_or c.entries e []

-- the entry of this number
abbrev pub entry : ℕ → Entry
entry e = record { 0 = e }

-- whether two keys are equal
abbrev pub same_key : Key → Key → Bool
same_key (Test level on_yes on_no) (Test level' on_yes' on_no') = (level == level') && ((on_yes.0 == on_yes'.0) && (on_no.0 == on_no'.0))
same_key (Num n) (Num n') = int_eq n n'
same_key (Pair m n) (Pair m' n') = int_eq m m' && int_eq n n'
same_key (Act action) (Act action') = action == action'
same_key _ _ = false

-- whether an entry is among those that are known
abbrev pub is_known : List Known → Entry → Bool
is_known knows e = list_any (λ k. k.entry.0 == e.0) knows

-- whether the entries in a key are among those that are known
abbrev pub parts_known : List Known → Key → Bool
parts_known knows (Test level on_yes on_no) = is_known knows on_yes && is_known knows on_no
parts_known knows (Num n) = true
parts_known knows (Pair m n) = true
parts_known knows (Act action) = true

-- one more entry is known; one that was known already changes nothing
abbrev pub learned : List Known → Known → List Known
learned knows k = if is_known knows k.entry then knows else knows ++ k ∷ []
