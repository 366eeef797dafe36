-- Jobs that were dealt, and what their joined seats show.
use Rattle.std.proofs.Common.{◌≡◌, ℕ, zero, suc, ◌+◌, ◌<◌, ◌≤◌, List, [], ◌∷◌, ◌++◌, length, map, get_or, take, refl, sym, ap, ◌∙◌, subst, arith, Option, Some, None, Ok, Err, Result, IfOk, All, true, ℤ, slice_get}
use Rattle.std.proofs.lemmas.List.{length-map, length-append, take_more, take_all}
use Rattle.std.proofs.lemmas.List.Elements.{All-nil, All-cons, All-head, All-tail, All-push}
use Rattle.std.proofs.lemmas.Option.{slice_get-get_or, slice_get_within}
use Rattle.spd_cons.specs.Values.{TableValue}
use Rattle.spd_cons_core.specs.declared.key.Entry.{Entry}
use Rattle.spd_model.specs.declared.process.Action.{Action}
use Rattle.spd_model.specs.Process.{Process}
use Rattle.spd_nodes.specs.declared.forest.StoreFault.{StoreFault}
use Rattle.spd_nodes.specs.declared.forest.StoreFault.TheVariants as F
use Rattle.spd_nodes.specs.Grove.{GroveValue, KeepsTrees, Joins, shown_of, standing_of, StandingValue}
use Rattle.spd_nodes.specs.Made.{HasMade}
use Rattle.spd_nodes.specs.Shown.{Shown, IsSound, Grows}
use Rattle.spd_nodes.specs.States.{Function, test_trees}
use Rattle.spd_nodes.specs.Trees.{IsNodeOf}
use Rattle.spd_nodes.proofs.CallerLemmas.{Among, among-flat, grows-then, has-none, has-then, stand-length, stands-grows}
use Rattle.spd_build.specs.Functions.{reward}
use Rattle.spd_backup.specs.declared.backing.Bounds.{Bounds}
use Rattle.spd_backup.specs.declared.tables.Tables.{Tables}
use Rattle.spd_backup.specs.declared.thawed.Thawed.{Thawed}
use Rattle.spd_backup.specs.Expected.{AreBounds, backup_functions}
use Rattle.spd_backup.specs.Thawing.{IsThawedOf}
use Rattle.spd_turn.specs.Jobs.{CanBackUp, IsBackupReady, HoldFor, JobValue, IsReadyJob, RunsBackup, job_shown}
use Rattle.spd_turn.specs.Waves.{all_backups, AreBackedUp, EachFrom, IsDealt, IsJobOf, HasBackedUp, HasRun, HaveRun, Gathered, first_fault, fault_of, with_bounds}
use Rattle.spd_turn.proofs.SplitLaws.{can-keeps, hold-keeps, grows-keeps}
use Rattle.spd_turn.proofs.JobLaws.{dealt-ran}

-- ---- the actions of a process

pub rewards-count : {m : Process} {s : Shown} {x : Thawed} → IsThawedOf m s x → length x.rewards.items ≡ length m.actions
rewards-count {m = m} {s = s} {x = x} h = stand-length s x.rewards.items (map (reward m) m.actions) h.rewards ∙ length-map m.actions (reward m)

pub few-actions : {s : Shown} {x : Thawed} {w : Entry} → IsBackupReady s x w → length x.rewards.items ≤ 64
few-actions r = subst (λ n. n ≤ 64) (sym (rewards-count r.can.thawed)) r.can.thawed.law.few_actions

pub some-action : (actions : List Action) (k : ℕ) → k < length actions → (a : Action) × (slice_get actions k ≡ Some a)
some-action [] k b = absurd (omega arith)
some-action (a ∷ actions) k b = (get_or (a ∷ actions) k a, slice_get-get_or (a ∷ actions) k a b)

-- a forest that shows the same trees is ready too
pub ready-keeps : {s t : Shown} {x : Thawed} {w : Entry} → KeepsTrees s t → IsBackupReady s x w → IsBackupReady t x w
ready-keeps {s = s} {t = t} {x = x} {w = w} k r = record { process = r.process; value = r.value; can = can-keeps s t k r.process r.value x w r.can }

-- a job that may be run
pub new-job : (s : Shown) (x : Thawed) (w : Entry) (k : ℕ) (own : GroveValue) (tables : Tables) (o : Result Bounds StoreFault) → IsBackupReady s x w → KeepsTrees s (shown_of own) → k < length x.rewards.items → HoldFor x s tables
    → IsReadyJob (record { grove = own; thawed = x; w = w; action = k; tables = tables; outcome = o })
new-job s x w k own tables o r keeps b h =
    let a = some-action r.process.actions k (subst (λ n. k < n) (rewards-count r.can.thawed) b) in
    record {
      process = r.process;
      value = r.value;
      chosen = a.0;
      can = can-keeps s (shown_of own) keeps r.process r.value x w r.can;
      offered = a.1;
      tables = hold-keeps s (shown_of own) keeps x tables h;
    }

-- ---- lists of jobs, by their places

pub each-push : {A : Type 0} (P : ℕ → A → Type 0) (n : ℕ) (xs : List A) (y : A) → EachFrom P n xs → P (n + length xs) y → EachFrom P n (xs ++ y ∷ [])
each-push P n [] y h k = (subst (λ i. P i y) (let e : n + 0 ≡ n = omega arith in e) k, tt)
each-push P n (x ∷ xs) y h k = (h.0, each-push P (suc n) xs y h.1 (subst (λ i. P i y) (let e : n + suc (length xs) ≡ suc n + length xs = omega arith in e) k))

each-front : {A : Type 0} (P : ℕ → A → Type 0) (n : ℕ) (xs : List A) (y : A) → EachFrom P n (xs ++ y ∷ []) → EachFrom P n xs
each-front P n [] y h = tt
each-front P n (x ∷ xs) y h = (h.0, each-front P (suc n) xs y h.1)

each-last : {A : Type 0} (P : ℕ → A → Type 0) (n : ℕ) (xs : List A) (y : A) → EachFrom P n (xs ++ y ∷ []) → P (n + length xs) y
each-last P n [] y h = subst (λ i. P i y) (let e : n ≡ n + 0 = omega arith in e) h.0
each-last P n (x ∷ xs) y h = subst (λ i. P i y) (let e : suc n + length xs ≡ n + suc (length xs) = omega arith in e) (each-last P (suc n) xs y h.1)

pub each-all : {A : Type 0} (P : ℕ → A → Type 0) (Q : A → Type 0) → ((i : ℕ) (x : A) → P i x → Q x) → (n : ℕ) (xs : List A) → EachFrom P n xs → All Q xs
each-all P Q f n [] h = All-nil Q
each-all P Q f n (x ∷ xs) h = All-cons Q x xs (f n x h.0) (each-all P Q f (suc n) xs h.1)

-- each job was dealt, and then run
pub all-ran : (table : TableValue) (s : Shown) (x : Thawed) (w : Entry) (n : ℕ) (js ks : List JobValue) → length ks ≡ length js
    → ((i : ℕ) (d : JobValue) → i < length js → RunsBackup (get_or js i d) (get_or ks i d)) → EachFrom (IsDealt table s x w) n js → EachFrom (HasRun table s x w) n ks
all-ran table s x w n [] [] e r h = tt
all-ran table s x w n [] (k ∷ ks) e r h = absurd (omega (arith, e))
all-ran table s x w n (j ∷ js) [] e r h = absurd (omega (arith, e))
all-ran table s x w n (j ∷ js) (k ∷ ks) e r h = (
  dealt-ran table s x w n j k h.0 (r 0 j (omega arith)),
  all-ran table s x w (suc n) js ks (omega (arith, e)) (λ i d b. r (suc i) d (omega (arith, b))) h.1,
)

-- ---- bounds in a forest that grew

bounds-grow : (m : Process) (a : Action) (value : List ℕ → ℤ) (s t : Shown) (b : Bounds) → Grows s t → AreBounds m a value s b → AreBounds m a value t b
bounds-grow m a value s t b g h = record {
  low = stands-grows g h.low;
  high = stands-grows g h.high;
  low_expected = record { each = λ i k. let e = h.low_expected.each i k in record { ref = e.ref; stands = stands-grows g e.stands } };
  high_expected = record { each = λ i k. let e = h.high_expected.each i k in record { ref = e.ref; stands = stands-grows g e.stands } };
}

pub backed-grow : (m : Process) (value : List ℕ → ℤ) (s t : Shown) (bs : List Bounds) (actions : List Action) → Grows s t → AreBackedUp m value s bs actions → AreBackedUp m value t bs actions
backed-grow m value s t [] [] g h = tt
backed-grow m value s t [] (a ∷ actions) g h = absurd h
backed-grow m value s t (b ∷ bs) [] g h = absurd h
backed-grow m value s t (b ∷ bs) (a ∷ actions) g h = (bounds-grow m a value s t b g h.0, backed-grow m value s t bs actions g h.1)

pub backed-push : (m : Process) (value : List ℕ → ℤ) (s : Shown) (bs : List Bounds) (actions : List Action) (b : Bounds) (a : Action) → AreBackedUp m value s bs actions → AreBounds m a value s b → AreBackedUp m value s (bs ++ b ∷ []) (actions ++ a ∷ [])
backed-push m value s [] [] b a h k = (k, tt)
backed-push m value s [] (c ∷ actions) b a h k = absurd h
backed-push m value s (d ∷ bs) [] b a h k = absurd h
backed-push m value s (d ∷ bs) (c ∷ actions) b a h k = (h.0, backed-push m value s bs actions b a h.1 k)

-- ---- lists with one more member

all-front : {X : Type 0} (P : X → Type 0) (xs : List X) (y : X) → All P (xs ++ y ∷ []) → All P xs
all-front P [] y h = All-nil P
all-front P (x ∷ xs) y h = All-cons P x xs (All-head P x (xs ++ y ∷ []) h) (all-front P xs y (All-tail P x (xs ++ y ∷ []) h))

all-last : {X : Type 0} (P : X → Type 0) (xs : List X) (y : X) → All P (xs ++ y ∷ []) → P y
all-last P [] y h = All-head P y [] h
all-last P (x ∷ xs) y h = all-last P xs y (All-tail P x (xs ++ y ∷ []) h)

hold-all : (x : Thawed) (s t : Shown) (tables : List Tables) → Grows s t → All (HoldFor x s) tables → All (HoldFor x t) tables
hold-all x s t [] g h = All-nil (HoldFor x t)
hold-all x s t (u ∷ us) g h = All-cons (HoldFor x t) u us (hold-keeps s t (grows-keeps g) x u (All-head (HoldFor x s) u us h)) (hold-all x s t us g (All-tail (HoldFor x s) u us h))

-- ---- one more outcome

fault-push : (f : Option StoreFault) (js : List JobValue) (j : JobValue) → fault_of f (js ++ j ∷ []) ≡ first_fault (fault_of f js) j.outcome
fault-push f [] j = refl
fault-push f (k ∷ js) j = fault-push (first_fault f k.outcome) js j

with-count : (bs : List Bounds) (o : Result Bounds StoreFault) → length (with_bounds bs o) ≤ length bs + 1
with-count bs (Ok b) = omega (arith, length-append bs (b ∷ []))
with-count bs (Err e) = omega arith

module _ (m : Process) (a : Action) (value : List ℕ → ℤ) (own s t : Shown) (n : ℕ) (bs : List Bounds) (first : Grows s t) (second : Grows own t) where
  ok-more : (f : Option StoreFault) (o : Result Bounds StoreFault) → slice_get m.actions n ≡ Some a → IfOk o (λ b. AreBounds m a value own b) → (f ≡ None → AreBackedUp m value s bs (take n m.actions))
      → first_fault f o ≡ None → AreBackedUp m value t (with_bounds bs o) (take (n + 1) m.actions)
  ok-more (Some e) o offered h before none = absurd (cc none)
  ok-more None (Err e) offered h before none = absurd (cc none)
  ok-more None (Ok b) offered h before none =
      let near : n < length m.actions = slice_get_within m.actions n a offered in
      let here : Some (get_or m.actions n a) ≡ Some a = sym (slice_get-get_or m.actions n a near) ∙ offered in
      let same : get_or m.actions n a ≡ a = cc here in
      let more : take (n + 1) m.actions ≡ take n m.actions ++ a ∷ [] = take_more m.actions n a near ∙ ap (λ c. take n m.actions ++ c ∷ []) same in
      subst (AreBackedUp m value t (bs ++ b ∷ [])) (sym more)
      (backed-push m value t bs (take n m.actions) b a (backed-grow m value s t bs (take n m.actions) first (before refl)) (bounds-grow m a value own t b second h))

  full-more : (f : Option StoreFault) (o : Result Bounds StoreFault) → (f ≡ Some F.Full → s.full ≡ true) → (o ≡ Err F.Full → own.full ≡ true) → first_fault f o ≡ Some F.Full → t.full ≡ true
  full-more (Some e) o before h is = first.full (before is)
  full-more None (Ok b) before h is = absurd (cc is)
  full-more None (Err e) before h is = let same : e ≡ F.Full = cc is in second.full (h (ap Err same))

-- ---- joining

-- the seats that one stands for which took another one over
abbrev joined : StandingValue → StandingValue → StandingValue
joined a b = record { table = a.table; stands = a.stands + b.stands; splits = a.splits + b.splits }

abbrev pub stand : TableValue → ℕ → ℕ → StandingValue
stand table stands splits = record { table = table; stands = stands; splits = splits }

module _ (g : GroveValue) (lanes0 : List Tables) (bounds0 : List Bounds) (ys : List JobValue) (g1 : GroveValue) (lanes : List Tables) (bounds : List Bounds) (fault : Option StoreFault) (j : JobValue) (g2 : GroveValue)
    (before : Gathered g lanes0 bounds0 ys g1 lanes bounds fault) (place : IsJobOf g.seat.table g.sizes j) (joins : Joins g1 j.grove g2) (sound : IsSound (shown_of g2)) (sizes : g2.sizes ≡ g1.sizes)
    (held : HoldFor j.thawed (job_shown j) j.tables) where
  longer : length (ys ++ j ∷ []) ≡ length ys + 1
  longer = length-append ys (j ∷ [])

  standing-more : standing_of g2 ≡ stand g.seat.table (g.seat.mind.stands + length (ys ++ j ∷ [])) g.seat.mind.splits
  standing-more =
      let both : joined (standing_of g1) (standing_of j.grove) ≡ joined (stand g.seat.table (g.seat.mind.stands + length ys) g.seat.mind.splits) (stand g.seat.table 1 0) = λ i. joined (before.standing i) (place.own i) in
      let a : g.seat.mind.stands + length ys + 1 ≡ g.seat.mind.stands + length (ys ++ j ∷ []) = omega (arith, longer) in
      let b : g.seat.mind.splits + 0 ≡ g.seat.mind.splits = omega arith in
      joins.standing ∙ both ∙ (λ i. stand g.seat.table (a i) (b i))

  hold-more : (x : Thawed) → All (HoldFor x (shown_of g)) lanes0 → All (λ (k : JobValue). k.thawed ≡ x) (ys ++ j ∷ []) → All (HoldFor x (shown_of g2)) (lanes ++ j.tables ∷ [])
  hold-more x h own =
      let front = before.hold x h (all-front (λ (k : JobValue). k.thawed ≡ x) ys j own) in
      let last : j.thawed ≡ x = all-last (λ (k : JobValue). k.thawed ≡ x) ys j own in
      let mine : HoldFor x (job_shown j) j.tables = subst (λ (z : Thawed). HoldFor z (job_shown j) j.tables) last held in
      All-push (HoldFor x (shown_of g2)) lanes j.tables (hold-all x (shown_of g1) (shown_of g2) lanes joins.first front) (hold-keeps (job_shown j) (shown_of g2) (grows-keeps joins.second) x j.tables mine)

  have-more : (m : Process) (value : List ℕ → ℤ) (start : Shown) (x : Thawed) (w : Entry) (first : ℕ) → EachFrom (HasRun g.seat.table (shown_of g) x w) first (ys ++ j ∷ []) → CanBackUp m value (shown_of g) x w
      → first + length (ys ++ j ∷ []) ≤ length m.actions → HaveRun m value start first (shown_of g) bounds0 None → HaveRun m value start (first + length (ys ++ j ∷ [])) (shown_of g2) (with_bounds bounds j.outcome) (first_fault fault j.outcome)
  have-more m value start x w first each can within run =
      let P : ℕ → JobValue → Type 0 = HasRun g.seat.table (shown_of g) x w in
      let n : ℕ = first + length ys in
      let near : n < length m.actions = omega (arith, within, longer) in
      let known = before.have m value start x w first (each-front P first ys j each) can (omega (arith, near)) run in
      let own = each-last P first ys j each in
      let some = some-action m.actions n near in
      let backed : HasBackedUp m some.0 value j = own.backed m some.0 value can some.1 in
      let fs : List Function = backup_functions m some.0 value in
      let near-sizes : j.grove.sizes ≡ g1.sizes = place.sizes_are ∙ sym before.sizes_are in
      let made : HasMade (shown_of g1) (shown_of g2) fs = record {
        sound = sound;
        grows = joins.first;
        makes = joins.makes (test_trees g1.sizes fs) (λ r p. subst (λ (z : List ℕ). IsNodeOf ((job_shown j).tree r) (test_trees z fs)) near-sizes (backed.makes r p));
      } in
      let among : Among fs (all_backups m value) = subst (λ (a : Action). Among (backup_functions m a value) (all_backups m value)) (same-action m.actions n some.0 some.1) (among-flat (λ a. backup_functions m a value) m.actions n some.0 near) in
      subst (λ k. HaveRun m value start k (shown_of g2) (with_bounds bounds j.outcome) (first_fault fault j.outcome)) (let e : n + 1 ≡ first + length (ys ++ j ∷ []) = omega (arith, longer) in e)
      (record {
        made = has-then among known.made made;
        ok = ok-more m some.0 value (job_shown j) (shown_of g1) (shown_of g2) n bounds joins.first joins.second fault j.outcome some.1 backed.ok known.ok;
        is_full = full-more m some.0 value (job_shown j) (shown_of g1) (shown_of g2) n bounds joins.first joins.second fault j.outcome known.is_full backed.full;
      })
    where
      same-action : (actions : List Action) (k : ℕ) (a : Action) → slice_get actions k ≡ Some a → get_or actions k a ≡ a
      same-action actions k a e =
          let here : Some (get_or actions k a) ≡ Some a = sym (slice_get-get_or actions k a (slice_get_within actions k a e)) ∙ e in
          cc here

  pub gathered-more : Gathered g lanes0 bounds0 (ys ++ j ∷ []) g2 (lanes ++ j.tables ∷ []) (with_bounds bounds j.outcome) (first_fault fault j.outcome)
  gathered-more = record {
    sizes_are = sizes ∙ before.sizes_are;
    standing = standing-more;
    grows = grows-then before.grows joins.first;
    fault_is = ap (λ f. first_fault f j.outcome) before.fault_is ∙ sym (fault-push None ys j);
    lanes_count = omega (arith, length-append lanes (j.tables ∷ []), before.lanes_count, longer);
    bounds_count = omega (arith, with-count bounds j.outcome, before.bounds_count, longer);
    hold = hold-more;
    have = have-more;
  }

-- ---- a wave

taken : {X : Type 0} (n : ℕ) (xs zs : List X) → length xs ≡ n → take n (xs ++ zs) ≡ xs
taken zero [] zs e = refl
taken zero (x ∷ xs) zs e = absurd (omega (arith, e))
taken (suc n) [] zs e = absurd (omega (arith, e))
taken (suc n) (x ∷ xs) zs e = ap (λ l. x ∷ l) (taken n xs zs (omega (arith, e)))

-- the seat that others were split off is one of the same table
pub table-kept : (g old : GroveValue) (n : ℕ) → standing_of g ≡ stand old.seat.table old.seat.mind.stands n → g.seat.table ≡ old.seat.table
table-kept g old n e = ap (λ (z : StandingValue). z.table) e

-- jobs were dealt, and run in their places
module _ (table : TableValue) (s : Shown) (x : Thawed) (w : Entry) (first : ℕ) (items js ks zs : List JobValue) (n : ℕ) (same : js ≡ items) (long : n ≡ length items) (longs : length ks ≡ length js)
    (runs : (i : ℕ) (d : JobValue) → i < length js → RunsBackup (get_or js i d) (get_or ks i d)) (dealt : EachFrom (IsDealt table s x w) first items) where
  are-jobs : take n (ks ++ zs) ≡ ks
  are-jobs = taken n ks zs (longs ∙ ap length same ∙ sym long)

  pub wave-ran : EachFrom (HasRun table s x w) first (take n (ks ++ zs))
  wave-ran = subst (EachFrom (HasRun table s x w) first) (sym are-jobs) (all-ran table s x w first js ks longs runs (subst (EachFrom (IsDealt table s x w) first) (sym same) dealt))

  pub wave-length : length (take n (ks ++ zs)) ≡ length items
  wave-length = ap length are-jobs ∙ longs ∙ ap length same

pub wave-jobs : (table : TableValue) (s : Shown) (x : Thawed) (w : Entry) (first : ℕ) (js : List JobValue) (t : TableValue) (sizes : List ℕ) → t ≡ table → sizes ≡ s.sizes → EachFrom (HasRun table s x w) first js → All (IsJobOf t sizes) js
wave-jobs table s x w first js t sizes a b h =
    each-all (HasRun table s x w) (IsJobOf t sizes) (λ i j r. subst (λ (p : TableValue × List ℕ). IsJobOf p.0 p.1 j) (sym (λ i. (a i, b i))) r.place) first js h

pub wave-thawed : (table : TableValue) (s : Shown) (x : Thawed) (w : Entry) (first : ℕ) (js : List JobValue) → EachFrom (HasRun table s x w) first js → All (λ (j : JobValue). j.thawed ≡ x) js
wave-thawed table s x w first js h = each-all (HasRun table s x w) (λ (j : JobValue). j.thawed ≡ x) (λ i j r. r.thawed_is) first js h

-- the seat that jobs were split off shows the same, and their actions are backed up after they were joined
pub wave-have : (old g g' : GroveValue) (lanes lanes' : List Tables) (bounds bounds' : List Bounds) (js : List JobValue) (fault f : Option StoreFault) (x : Thawed) (w : Entry) (first n : ℕ) → Gathered g lanes bounds js g' lanes' bounds' f → g.seat.table ≡ old.seat.table
    → shown_of g ≡ shown_of old → length js ≡ n → fault ≡ f → first + n ≤ length x.rewards.items → EachFrom (HasRun old.seat.table (shown_of old) x w) first js → (m : Process) (value : List ℕ → ℤ) (start : Shown) → CanBackUp m value (shown_of old) x w
    → HaveRun m value start first (shown_of old) bounds None → HaveRun m value start (first + n) (shown_of g') bounds' fault
wave-have old g g' lanes lanes' bounds bounds' js fault f x w first n h table shows long same within each m value start can run =
    let t = sym table in
    let s = sym shows in
    let ran = h.have m value start x w first (subst (λ (p : TableValue × Shown). EachFrom (HasRun p.0 p.1 x w) first js) (λ i. (t i, s i)) each) (subst (λ (z : Shown). CanBackUp m value z x w) s can)
    (omega (arith, within, long, rewards-count can.thawed)) (subst (λ (z : Shown). HaveRun m value start first z bounds None) s run) in
    subst (λ (p : ℕ × Option StoreFault). HaveRun m value start (first + p.0) (shown_of g') bounds' p.1) (λ i. (long i, sym same i)) ran

-- no action is backed up yet
pub have-none : (m : Process) (value : List ℕ → ℤ) (s : Shown) (bounds : List Bounds) → IsSound s → bounds ≡ [] → HaveRun m value s 0 s bounds None
have-none m value s bounds sound e = record {
  made = has-none s sound (all_backups m value);
  ok = λ k. subst (λ (bs : List Bounds). AreBackedUp m value s bs (take 0 m.actions)) (sym e) tt;
  is_full = λ k. absurd (cc k);
}

-- a wave after the actions before it
pub have-wave : (old s t : Shown) (x : Thawed) (w : Entry) (first n : ℕ) (bounds bounds' : List Bounds) (f : Option StoreFault) → Grows old s
    → ((m : Process) (value : List ℕ → ℤ) (start : Shown) → CanBackUp m value s x w → HaveRun m value start first s bounds None → HaveRun m value start (first + n) t bounds' f)
    → ((m : Process) (value : List ℕ → ℤ) → CanBackUp m value old x w → HaveRun m value old first s bounds None)
    → (m : Process) (value : List ℕ → ℤ) → CanBackUp m value old x w → HaveRun m value old (first + n) t bounds' f
have-wave old s t x w first n bounds bounds' f g wave before m value can = wave m value old (can-keeps old s (grows-keeps g) m value x w can) (before m value can)

-- all actions are backed up
pub have-all : (m : Process) (value : List ℕ → ℤ) (old s : Shown) (x : Thawed) (w : Entry) (n : ℕ) (bounds : List Bounds) → CanBackUp m value old x w → length x.rewards.items ≤ n → HaveRun m value old n s bounds None → AreBackedUp m value s bounds m.actions
have-all m value old s x w n bounds can all h = subst (AreBackedUp m value s bounds) (take_all n m.actions (omega (arith, all, rewards-count can.thawed))) (h.ok refl)
