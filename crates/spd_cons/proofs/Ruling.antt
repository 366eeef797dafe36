-- A step of the running table that is an event of its machine keeps the rule.
use Rattle.std.proofs.Common.{◌≡◌, ◌≢◌, ℕ, true, List, set, get_or, refl, sym, ap, ◌∙◌, subst, ⊎_elim, arith, length-set}
use Rattle.std.specs.List.{Contains}
use lib.ListN.{get_elem?}
use mathlib.Core.Option.{some}
use Rattle.atomic_table.specs.Table.{Me, Allows, keeps}
use Rattle.atomic_table.proofs.Lists.{at_set, set_here}
use Rattle.spd_cons_core.specs.declared.mind.Known.{Known}
use Rattle.spd_cons_core.specs.declared.event.Event.{Event}
use Rattle.spd_cons_core.specs.Views.{Seat, Machine}
use Rattle.spd_cons_core.specs.Events.{step}
use Rattle.spd_cons_core.specs.Invariants.{Keeps, Stays}
use Rattle.spd_cons.specs.declared.view.Size.{Size}
use Rattle.spd_cons.specs.declared.view.View.{View}
use Rattle.spd_cons.specs.Ruled.{Running, machine_of, HasKey, IsView, IsRuled}
use Rattle.spd_cons.specs.Told.{Sees, Takes}
use Rattle.spd_cons.proofs.Places.{bucket_length, inside}
use Rattle.spd_cons.proofs.Machines.{written, seat_is}

pub has_key : (c d : Machine) → Stays c d → (k : Known) → HasKey c k → HasKey d k
has_key c d stays k has =
    let at = has.published in
    let names = at.1 in
    record {
      published = (at.0, stays.buckets at.0 (λ zero. omega arith) ∙ at.1);
      words = stays.words at.0 k.entry.0 at.1 ∙ has.words;
      in_range = has.in_range;
    }

pub moved_view : (k : Size) (c d : Machine) → Stays c d → (v : View) → IsView k c v → IsView k d v
moved_view k c d stays v was = record { size = was.size; heard = λ x at. has_key c d stays x (was.heard x at) }

pub views_after : (k : Size) (views : List View) (c d : Machine) (id : ℕ) (w : View) → Stays c d → (w.mind.live ≡ true → IsView k d w) → ((i : ℕ) (v : View) → get_elem? views i ≡ some v → v.mind.live ≡ true → IsView k c v)
    → (i : ℕ) (v : View) → get_elem? (set views id w) i ≡ some v → v.mind.live ≡ true → IsView k d v
views_after k views c d id w stays mine all i v at = ⊎_elim
    (λ (t : (i ≡ id) × (w ≡ v)). subst (λ u. u.mind.live ≡ true → IsView k d u) t.1 mine)
    (λ (t : (i ≢ id) × (get_elem? views i ≡ some v)) live. moved_view k c d stays v (all i v t.1 live))
    (at_set views id i w v at)

pub ruled_after : (k : Size) (s : Running) (i x id : ℕ) (w : View) (d : Machine) → IsRuled k s → machine_of k (written s i x id w) ≡ d → Keeps (machine_of k s) d → w.size ≡ k → ((y : Known) → Contains w.heard y → HasKey (machine_of k s) y)
    → IsRuled k (written s i x id w)
ruled_after k s i x id w d r same law size heard =
    let c : Machine = machine_of k s in
    let c' : Machine = machine_of k (written s i x id w) in
    let law' : Keeps c c' = subst (Keeps c) (sym same) law in
    record {
      width = length-set s.words i x ∙ r.width;
      views = views_after k s.views c c' id w law'.stays (λ _. record { size = size; heard = λ y at. has_key c c' law'.stays y (heard y at) }) r.views;
      sized = law'.sized;
      sound = law'.sound;
    }

pub sees : (k : Size) (s : Running) (id : ℕ) (v : View) → IsRuled k s → get_elem? s.views id ≡ some v → v.mind.live ≡ true → Sees v
sees k s id v r at live =
    let size = (r.views id v at live).size in
    let wide = r.width in
    record {
      machine = machine_of k s;
      seat = id;
      sized = r.sized;
      sound = r.sound;
      limit = ap (λ (z : Size). z.limit) (sym size);
      most = ap (λ (z : Size). z.most) (sym size);
      count = bucket_length s.words k.count (omega arith) ∙ ap (λ (z : Size). z.count) (sym size);
      there = seat_is k s id v at;
      live = live;
    }

-- the machine of a step is the machine after an event, which keeps the invariant
pub record Fits (k : Size) (id i : ℕ) (v : View) (f told : ℕ → ℕ) (event : ℕ → Event) (word : Machine → ℕ) (next : ℕ → Seat) (s : Running) : Type 0 where
  pub read : told (get_or s.words i 0) ≡ word (machine_of k s)
  pub same : machine_of k (written s i (f (get_or s.words i 0)) id (record v { mind = next (told (get_or s.words i 0)) })) ≡ step (machine_of k s) (event id)
  pub law : Keeps (machine_of k s) (step (machine_of k s) (event id))

pub allowed : (k : Size) (slots id i : ℕ) (me : Me (Unit {0}) View) (f told : ℕ → ℕ) (event : ℕ → Event) (word : Machine → ℕ) (next : ℕ → Seat) → me.0.mind.live ≡ true → ((n : ℕ) → (next n).live ≡ true)
    → ((s : Running) → IsRuled k s → get_elem? s.views id ≡ some me.0 → Fits k id i me.0 f told event word next s)
    → Allows (IsRuled k) slots id me i f (λ found m'. Takes event word next me.0 (told found) m'.0 × (m'.1 ≡ me.1))
unfolding sees
allowed k slots id i me f told event word next live alive fits s r homes at small =
    let old : ℕ = get_or s.words i 0 in
    let mine = r.views id me.0 at live in
    let w : View = record me.0 { mind = next (told old) } in
    let h = fits s r at in
    let after : IsRuled k (written s i (f old) id w) = ruled_after k s i (f old) id w (step (machine_of k s) (event id)) r h.same h.law mine.size mine.heard in
    let here : get_elem? (set s.views id w) id ≡ some w = set_here s.views id w (inside s.views id me.0 at) in (
      w,
      keeps,
      tt,
      after,
      (
        record {
          was = sees k s id me.0 r at live;
          is = sees k (written s i (f old) id w) id w after here (alive (told old));
          moved = h.same;
          same = refl;
          read = h.read;
          now = refl;
        },
        refl,
      ),
    )
