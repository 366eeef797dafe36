-- A search for a key, between its steps.
use Rattle.std.specs.Prelude.{◌≡◌, ℕ, ◌+◌, ◌<◌, ◌≢◌, ◌⊎◌, Bool, true, false, cond, List, [], ◌∷◌, ◌++◌, Option, Some, None, is_none, ◌&&◌, ◌≤◌, ◌-◌, nat_lt}
use Rattle.std.specs.List.{Contains}
use Rattle.spd_cons_core.specs.declared.key.Entry.{Entry}
use Rattle.spd_cons_core.specs.declared.key.Key.{Key}
use Rattle.spd_cons_core.specs.declared.mind.Known.{Known}
use Rattle.spd_cons_core.specs.declared.mind.Call.{Call}
use Rattle.spd_cons_core.specs.Seats.{learned}
use Rattle.spd_cons_core.specs.Spelling.{words_of, first_bucket}
use Rattle.spd_cons_core.specs.Events.{can_load_bucket, call_for, next_bucket}
use Rattle.spd_cons.specs.declared.view.Size.{Size}
use Rattle.spd_cons.specs.declared.view.View.{View}
use Rattle.spd_cons.specs.declared.search.Search.{Search}
use Rattle.spd_cons.specs.declared.search.Probe.{Probe}
use Rattle.spd_cons.specs.declared.search.Probe.TheVariants.{Got, Full, Other}

abbrev pub stored_of : Search → ℕ
stored_of s = cond s.stored 5 0

abbrev pub call_at : Search → ℕ → Option Entry → ℕ → Bool → ℕ → Call
call_at s at found right empty stored = record { key = s.key; at = at; found = found; right = right; empty = empty; stored = stored }

-- what no step of a search changes
pub record Held : Type 0 where
  pub size : Size
  pub heard : List Known
  pub knows : List Known
  pub published : List Entry
  pub stands : ℕ
  pub splits : ℕ
  pub ended : Bool

abbrev pub held : View → Held
held v = record { size = v.size; heard = v.heard; knows = v.mind.knows; published = v.mind.published; stands = v.mind.stands; splits = v.mind.splits; ended = v.mind.ended }

-- the search is about to look into a bucket
pub record IsReady (s : Search) (at : ℕ) (v : View) : Type 0 where
  pub can : can_load_bucket s.key v.mind ≡ true
  pub call : call_for v.size.count s.key v.mind ≡ call_at s at None 0 false (stored_of s)

-- the search has found an entry in its bucket, and so many words of it were right
pub record IsComparing (s : Search) (e : Entry) (right : ℕ) (v : View) : Type 0 where
  pub call : v.mind.call ≡ Some (call_at s s.at (Some e) right false (stored_of s))

-- the search stands at an empty bucket, and so many words are stored in the spare
pub record IsEmpty (s : Search) (stored : ℕ) (v : View) : Type 0 where
  pub call : v.mind.call ≡ Some (call_at s s.at None 0 true stored)

-- the key is known as this entry, and nothing else was learned
pub record Knows (s : Search) (e : Entry) (v w : View) : Type 0 where
  pub knows : w.mind.knows ≡ learned v.mind.knows (record { entry = e; key = s.key })
  pub has : Contains w.mind.knows (record { entry = e; key = s.key })
  pub rests : w.mind.call ≡ None
  pub others : held w ≡ record (held v) { knows = w.mind.knows; published = w.mind.published }

-- the search goes on at the next bucket, which isn't its start; a spare isn't lost
pub record GoesOn (count : ℕ) (s : Search) (v w : View) : Type 0 where
  pub ready : IsReady s (next_bucket count s.at) w
  pub held : held w ≡ held v
  pub far : next_bucket count s.at ≢ first_bucket (words_of s.key) count
  pub spare : w.mind.spare ≡ None → v.mind.spare ≡ None

pub record Compares (count : ℕ) (s : Search) (e : Entry) (v w : View) (right : Bool) : Type 0 where
  pub same : right ≡ true → Knows s e v w
  pub published : right ≡ true → w.mind.published ≡ v.mind.published
  pub other : right ≡ false → GoesOn count s v w

-- the claims have ended, and the key isn't known
pub record Lost (s : Search) (v w : View) : Type 0 where
  pub held : held w ≡ record (held v) { ended = true }
  pub rests : w.mind.call ≡ None
  pub unknown : (k : Known) → Contains v.mind.knows k → k.key ≢ s.key

-- a look into the search's bucket, which found this number
pub record LooksInto (end : ℕ) (s : Search) (v w : View) (found : ℕ) : Type 0 where
  pub held : held w ≡ held v
  pub spare : w.mind.spare ≡ v.mind.spare
  pub full : found ≢ 0 → (found ≤ end) × IsComparing s (record { 0 = found - 1 }) 0 w
  pub unknown : found ≡ 0 → (k : Known) → Contains v.mind.knows k → k.key ≢ s.key
  pub lost : found ≡ 0 → (is_none v.mind.spare && v.mind.ended) ≡ true → w.mind.call ≡ None
  pub empty : found ≡ 0 → (is_none v.mind.spare && v.mind.ended) ≡ false → IsEmpty s (stored_of s) w

-- the spare was put into the search's bucket, which was empty; or another seat's entry was found there
pub record Publishes (end : ℕ) (s : Search) (e : Entry) (v w : View) (found : ℕ) : Type 0 where
  pub won : found ≡ 0 → Knows s e v w
  pub listed : found ≡ 0 → (w.mind.published ≡ v.mind.published ++ e ∷ []) × (w.mind.spare ≡ None)
  pub lost : found ≢ 0 → (found ≤ end) × IsComparing s (record { 0 = found - 1 }) 0 w
  pub held : found ≢ 0 → (held w ≡ held v) × (w.mind.spare ≡ v.mind.spare)

-- a claim that found this number
pub record Claimed (end : ℕ) (s : Search) (v w : View) (old : ℕ) : Type 0 where
  pub room : old < end → (w.mind.spare ≡ Some (record { 0 = old })) × IsEmpty s (stored_of s) w × (held w ≡ held v)
  pub past : end ≤ old → (held w ≡ record (held v) { ended = true }) × (w.mind.call ≡ None) × (w.mind.spare ≡ v.mind.spare)

-- the seat has a spare of its own, and stands at the empty bucket as before
pub record HasSpare (end : ℕ) (s : Search) (stored : ℕ) (e : Entry) (v w : View) : Type 0 where
  pub spare : w.mind.spare ≡ Some e
  pub at : IsEmpty s stored w
  pub held : held w ≡ held v
  pub below : e.0 < end

-- the claims have ended
pub record Ends (v w : View) : Type 0 where
  pub held : held w ≡ record (held v) { ended = true }
  pub rests : w.mind.call ≡ None

abbrev pub IsUnknown : Key → View → Type 0
IsUnknown key v = (k : Known) → Contains v.mind.knows k → k.key ≢ key

-- the search is as before, but the key may stand in the spare now
pub record IsSame (s t : Search) : Type 0 where
  pub key : t.key ≡ s.key
  pub at : t.at ≡ s.at

-- what one bucket showed: the key's entry; that the claims have ended, where the seat has no spare; or another key's entry
abbrev pub Probes : ℕ → Search → Search → View → View → Probe → Type 0
Probes count s t v w (Got e) = Knows s e v w × ((w.mind.published ≡ v.mind.published) ⊎ (w.mind.published ≡ v.mind.published ++ e ∷ []))
Probes count s t v w Full = Ends v w × IsUnknown s.key v × (v.mind.spare ≡ None)
Probes count s t v w Other = GoesOn count t v w

-- what the search stands at where its bucket was empty
pub record StandsAt (s : Search) (v : View) : Type 0 where
  pub lost : (is_none v.mind.spare && v.mind.ended) ≡ true → v.mind.call ≡ None
  pub empty : (is_none v.mind.spare && v.mind.ended) ≡ false → IsEmpty s (stored_of s) v

-- how many buckets a search has passed
abbrev pub distance : ℕ → ℕ → ℕ → ℕ
distance count start at = cond (nat_lt at start) ((at + count) - start) (at - start)
