-- What a seat shows as a forest, and how that grows.
use Rattle.std.proofs.Common.{◌≡◌, ◌≢◌, ◌⊎◌, ℕ, zero, suc, ◌+◌, ◌<◌, true, false, ◌||◌, eqb, List, [], ◌∷◌, ◌++◌, Result, Ok, Err, refl, sym, ap, ◌∙◌, subst, inl, inr, ⊎_elim, arith}
use Rattle.std.specs.List.{Contains, list_any}
use Rattle.std.proofs.lemmas.Bool.{and_parts, and_from, eqb-true, or_cases, or_left, or_right, true≢false}
use Rattle.std.proofs.lemmas.List.Folds.{list_any-append}
use Rattle.spd_cons_core.specs.declared.key.Entry.{Entry}
use Rattle.spd_cons_core.specs.declared.key.Key.{Key}
use Rattle.spd_cons_core.specs.declared.key.Key.TheVariants as K
use Rattle.spd_cons_core.specs.declared.mind.Known.{Known}
use Rattle.spd_cons_core.specs.Seats.{is_known, parts_known}
use Rattle.spd_cons_core.proofs.CallerLemmas.{known_from, contains_cons, learned_cases, learned_contains}
use Rattle.spd_nodes.specs.Levels.{levels_of, after, slots}
use Rattle.spd_nodes.specs.Limits.{IsLayout}
use Rattle.spd_nodes.specs.Trees.{Tree, Ends, Tests, IsNode, IsNodeOf, Itself, join, CanTest}
use Rattle.spd_nodes.specs.Store.{key_view, leaf_key}
use Rattle.spd_nodes.specs.Shown.{IsSound, Grows, MakesOnly, LacksOne, KnowsAs, IsViewOf}
use Rattle.spd_nodes.proofs.TreeLaws.{join-same, join-differ}
use Rattle.spd_cons.specs.Values.{SeatValue, IsSeatOf, Keeps, known, Finds, Lacks, Joins as SeatsJoin}
use Rattle.spd_nodes.specs.Grove.{standing_of, FindsKey, Joins}
use Rattle.spd_nodes.specs.declared.leaf.Leaf.{Leaf}
use Rattle.spd_nodes.specs.declared.leaf.Leaf.TheVariants as L
use Rattle.spd_nodes.specs.declared.forest.StoreFault.{StoreFault}
use Rattle.spd_nodes.specs.declared.forest.StoreFault.TheVariants as F
use Rattle.spd_nodes.specs.KnownTrees.{key_of, key_tree, known_tree, KeyFrom, KeyAt, FitsIn, AllFitIn, CanBeMade, shown_by}
use Rattle.spd_nodes.proofs.KnownTreeLaws.{Agrees, key_of-contains, key_of-is, tree-test, once, reduced, unknown-tree, past-from, level-at}

pub agrees : (s : SeatValue) → IsSeatOf s → Agrees s.mind.knows
agrees s is = record { keys = is.keys; entries = is.entries; parts = is.parts }

listed-at : (xs : List Entry) (r : Entry) → list_any (λ p. eqb p.0 r.0) xs ≡ true → Contains xs r
listed-at [] r is = absurd (true≢false (sym is))
listed-at (x ∷ xs) r is = ⊎_elim
    (λ (here : eqb x.0 r.0 ≡ true). (0, omega arith, ap (λ (n : ℕ). let z : Entry = record { 0 = n } in z) (eqb-true x.0 r.0 here)))
    (λ (later : list_any (λ p. eqb p.0 r.0) xs ≡ true). contains_cons x xs r (listed-at xs r later))
    (or_cases (eqb x.0 r.0) (list_any (λ p. eqb p.0 r.0) xs) is)

listed-cases : (xs : List Entry) (x r : Entry) → list_any (λ p. eqb p.0 r.0) (xs ++ x ∷ []) ≡ true → (list_any (λ p. eqb p.0 r.0) xs ≡ true) ⊎ (x ≡ r)
listed-cases [] x r is = ⊎_elim
    (λ (here : eqb x.0 r.0 ≡ true). inr (ap (λ (n : ℕ). let z : Entry = record { 0 = n } in z) (eqb-true x.0 r.0 here)))
    (λ (later : false ≡ true). absurd (true≢false (sym later)))
    (or_cases (eqb x.0 r.0) false is)
listed-cases (y ∷ ys) x r is = ⊎_elim
    (λ (here : eqb y.0 r.0 ≡ true). inl (or_left (eqb y.0 r.0) (list_any (λ p. eqb p.0 r.0) ys) here))
    (λ (later : list_any (λ p. eqb p.0 r.0) (ys ++ x ∷ []) ≡ true). ⊎_elim
    (λ (old : list_any (λ p. eqb p.0 r.0) ys ≡ true). inl (or_right (eqb y.0 r.0) (list_any (λ p. eqb p.0 r.0) ys) old))
    (λ (new : x ≡ r). inr new)
    (listed-cases ys x r later))
    (or_cases (eqb y.0 r.0) (list_any (λ p. eqb p.0 r.0) (ys ++ x ∷ [])) is)

listed-front : (xs ys : List Entry) (r : Entry) → list_any (λ p. eqb p.0 r.0) xs ≡ true → list_any (λ p. eqb p.0 r.0) (xs ++ ys) ≡ true
listed-front [] ys r is = absurd (true≢false (sym is))
listed-front (x ∷ xs) ys r is = ⊎_elim
    (λ (here : eqb x.0 r.0 ≡ true). or_left (eqb x.0 r.0) (list_any (λ p. eqb p.0 r.0) (xs ++ ys)) here)
    (λ (later : list_any (λ p. eqb p.0 r.0) xs ≡ true). or_right (eqb x.0 r.0) (list_any (λ p. eqb p.0 r.0) (xs ++ ys)) (listed-front xs ys r later))
    (or_cases (eqb x.0 r.0) (list_any (λ p. eqb p.0 r.0) xs) is)

-- a seat whose keys fit the layout shows a sound forest
pub sound-shown : (sizes : List ℕ) (s : SeatValue) → IsLayout sizes → IsSeatOf s → AllFitIn (slots sizes) s.mind.knows → IsSound (shown_by sizes s)
sound-shown sizes s layout is fit = record {
  layout = layout;
  reduced = reduced (slots sizes) s.mind.knows (agrees s is) fit;
  once = once (slots sizes) s.mind.knows (agrees s is) fit;
  listed = λ r listed. is.listed r (listed-at s.mind.published r listed);
}

-- more is known, and all that was known as before
pub record Extends (old new : List Known) : Type 0 where
  pub knows : (e : Entry) → is_known old e ≡ true → is_known new e ≡ true
  pub keys : (e : Entry) → is_known old e ≡ true → key_of new e ≡ key_of old e

pub extends-subset : (old new : List Known) → Agrees new → ((k : Known) → Contains old k → Contains new k) → Extends old new
extends-subset old new a sub =
    let in' : (e : Entry) → is_known old e ≡ true → Contains new (record { entry = e; key = key_of old e }) = λ e is. sub (record { entry = e; key = key_of old e }) (key_of-contains old e is) in
    record {
      knows = λ e is. known_from new (record { entry = e; key = key_of old e }) (in' e is);
      keys = λ e is. key_of-is new a (record { entry = e; key = key_of old e }) (in' e is);
    }

pub tree-more : (old new : List Known) → Agrees old → Extends old new → (n : ℕ) (key : Key) → parts_known old key ≡ true → key_tree n new key ≡ key_tree n old key
tree-more old new a x zero key is = refl
tree-more old new a x (suc n) (K.Test l y q) is =
    let both = and_parts (is_known old y) (is_known old q) is in
    let below : (e : Entry) → is_known old e ≡ true → key_tree n new (key_of new e) ≡ key_tree n old (key_of old e) =
    λ e k. ap (key_tree n new) (x.keys e k) ∙ tree-more old new a x n (key_of old e) (a.parts (record { entry = e; key = key_of old e }) (key_of-contains old e k)) in
    let b = below y both.0 in
    let c = below q both.1 in
    λ j. Tests l (b j) (c j)
tree-more old new a x (suc n) (K.Num z) is = refl
tree-more old new a x (suc n) (K.Pair z w) is = refl
tree-more old new a x (suc n) (K.Act z) is = refl

pub tree-kept : (ds : List ℕ) (old new : List Known) → Agrees old → Extends old new → (e : Entry) → is_known old e ≡ true → known_tree ds new e ≡ known_tree ds old e
tree-kept ds old new a x e k =
    ap (key_tree (suc (levels_of ds)) new) (x.keys e k) ∙ tree-more old new a x (suc (levels_of ds)) (key_of old e) (a.parts (record { entry = e; key = key_of old e }) (key_of-contains old e k))

-- a key that fits goes on to fit
pub fits-more : (ds : List ℕ) (old new : List Known) → Extends old new → (key : Key) → parts_known old key ≡ true → FitsIn ds old key → FitsIn ds new key
fits-more ds old new x (K.Test l y q) is f =
    let both = and_parts (is_known old y) (is_known old q) is in (
      f.0,
      f.1,
      subst (KeyFrom ds (after ds l)) (sym (x.keys y both.0)) f.2,
      subst (λ k. KeyFrom ds (after ds l) k ⊎ (KeyAt (l + 1) k × (l + 1 < after ds l))) (sym (x.keys q both.1)) f.3,
    )
fits-more ds old new x (K.Num z) is f = tt
fits-more ds old new x (K.Pair z w) is f = tt
fits-more ds old new x (K.Act z) is f = tt

module _ (sizes : List ℕ) (old new : SeatValue) (is : IsSeatOf old) (is' : IsSeatOf new) (fit : AllFitIn (slots sizes) old.mind.knows) (key : Key) (good : CanBeMade (slots sizes) old.mind.knows key) where
  module _ (e : Entry) (found : Finds old new key e) where
    subset : (k : Known) → Contains old.mind.knows k → Contains new.mind.knows k
    subset k at = subst (λ l. Contains l k) (sym found.knows) (learned_contains old.mind.knows (known e key) k at)

    extends : Extends old.mind.knows new.mind.knows
    extends = extends-subset old.mind.knows new.mind.knows (agrees new is') subset

    pub fit-found : AllFitIn (slots sizes) new.mind.knows
    fit-found = record {
      all = λ k at. ⊎_elim
          (λ (was : Contains old.mind.knows k). fits-more (slots sizes) old.mind.knows new.mind.knows extends k.key (is.parts k was) (fit.all k was))
          (λ (same : known e key ≡ k). subst (λ (z : Known). FitsIn (slots sizes) new.mind.knows z.key) same (fits-more (slots sizes) old.mind.knows new.mind.knows extends key good.parts good.fits))
          (learned_cases old.mind.knows (known e key) k (subst (λ l. Contains l k) found.knows at));
    }

    pub grows-found : Grows (shown_by sizes old) (shown_by sizes new)
    grows-found = record {
      sizes = refl;
      knows = extends.knows;
      trees = tree-kept (slots sizes) old.mind.knows new.mind.knows (agrees old is) extends;
      published = λ r listed. ⊎_elim
          (λ (same : new.mind.published ≡ old.mind.published). ap (λ l. list_any (λ p. eqb p.0 r.0) l) same ∙ listed)
          (λ (more : new.mind.published ≡ old.mind.published ++ e ∷ []). ap (λ l. list_any (λ p. eqb p.0 r.0) l) more ∙ listed-front old.mind.published (e ∷ []) r listed)
          found.published;
      full = λ full. found.ended ∙ full;
    }

    tree-found : known_tree (slots sizes) new.mind.knows e ≡ key_tree (suc (levels_of (slots sizes))) old.mind.knows key
    tree-found = ap (key_tree (suc (levels_of (slots sizes))) new.mind.knows) (key_of-is new.mind.knows (agrees new is') (known e key) found.has)
        ∙ tree-more old.mind.knows new.mind.knows (agrees old is) extends (suc (levels_of (slots sizes))) key good.parts

    pub knows-found : KnowsAs (shown_by sizes new) e (key_tree (suc (levels_of (slots sizes))) old.mind.knows key)
    knows-found = record { knows = known_from new.mind.knows (known e key) found.has; tree = tree-found }

    pub makes-found : MakesOnly (shown_by sizes old) (shown_by sizes new) (key_tree (suc (levels_of (slots sizes))) old.mind.knows key ∷ [])
    makes-found = record {
      only = λ r listed. ⊎_elim
          (λ (same : new.mind.published ≡ old.mind.published). inl (ap (λ l. list_any (λ p. eqb p.0 r.0) l) (sym same) ∙ listed))
          (λ (more : new.mind.published ≡ old.mind.published ++ e ∷ []). ⊎_elim
          (λ (was : list_any (λ p. eqb p.0 r.0) old.mind.published ≡ true). inl was)
          (λ (same : e ≡ r). inr (inl (subst (λ t. IsNode t (key_tree (suc (levels_of (slots sizes))) old.mind.knows key)) (sym (ap (known_tree (slots sizes) new.mind.knows) (sym same) ∙ tree-found)) Itself)))
          (listed-cases old.mind.published e r (ap (λ l. list_any (λ p. eqb p.0 r.0) l) (sym more) ∙ listed)))
          found.published;
    }

  pub lacks-full : Lacks old new key → LacksOne (shown_by sizes new) (key_tree (suc (levels_of (slots sizes))) old.mind.knows key ∷ [])
  lacks-full lacks = record {
    full = lacks.ended;
    node = key_tree (suc (levels_of (slots sizes))) old.mind.knows key;
    is_node = inl Itself;
    unknown = subst (λ l. (r : Entry) → is_known l r ≡ true → known_tree (slots sizes) l r ≢ key_tree (suc (levels_of (slots sizes))) old.mind.knows key) (sym lacks.knows)
        (unknown-tree (slots sizes) old.mind.knows (agrees old is) fit key good lacks.unknown);
  }

pub grows-full : (sizes : List ℕ) (old new : SeatValue) (key : Key) → Lacks old new key → Grows (shown_by sizes old) (shown_by sizes new)
grows-full sizes old new key lacks = record {
  sizes = refl;
  knows = λ r k. ap (λ l. is_known l r) lacks.knows ∙ k;
  trees = λ r k. ap (λ l. known_tree (slots sizes) l r) lacks.knows;
  published = λ r k. ap (λ l. list_any (λ p. eqb p.0 r.0) l) lacks.published ∙ k;
  full = λ _. lacks.ended;
}

pub makes-full : (sizes : List ℕ) (old new : SeatValue) (key : Key) (ts : List Tree) → Lacks old new key → MakesOnly (shown_by sizes old) (shown_by sizes new) ts
makes-full sizes old new key ts lacks = record { only = λ r k. inl (ap (λ l. list_any (λ p. eqb p.0 r.0) l) (sym lacks.published) ∙ k) }

pub fit-full : (ds : List ℕ) (old new : SeatValue) (key : Key) → Lacks old new key → AllFitIn ds old.mind.knows → AllFitIn ds new.mind.knows
fit-full ds old new key lacks fit = subst (AllFitIn ds) (sym lacks.knows) fit

-- a join

module _ (sizes : List ℕ) (old other new : SeatValue) (is : IsSeatOf old) (is-other : IsSeatOf other) (is-new : IsSeatOf new) (joins : SeatsJoin old other new) where
  extends-first : Extends old.mind.knows new.mind.knows
  extends-first = extends-subset old.mind.knows new.mind.knows (agrees new is-new) joins.first

  extends-second : Extends other.mind.knows new.mind.knows
  extends-second = extends-subset other.mind.knows new.mind.knows (agrees new is-new) joins.second

  lists : (r : Entry) → (shown_by sizes new).published r ≡ ((shown_by sizes old).published r || (shown_by sizes other).published r)
  lists r = ap (λ (s : SeatValue). list_any (λ p. eqb p.0 r.0) s.mind.published) joins.is ∙ list_any-append (λ (p : Entry). eqb p.0 r.0) old.mind.published other.mind.published

  ended : new.mind.ended ≡ (old.mind.ended || other.mind.ended)
  ended = ap (λ (s : SeatValue). s.mind.ended) joins.is

  -- it shows all that the first one showed, and the second one
  pub joined-first : Grows (shown_by sizes old) (shown_by sizes new)
  joined-first = record {
    sizes = refl;
    knows = extends-first.knows;
    trees = tree-kept (slots sizes) old.mind.knows new.mind.knows (agrees old is) extends-first;
    published = λ r k. lists r ∙ or_left _ _ k;
    full = λ k. ended ∙ or_left _ _ k;
  }

  pub joined-second : Grows (shown_by sizes other) (shown_by sizes new)
  joined-second = record {
    sizes = refl;
    knows = extends-second.knows;
    trees = tree-kept (slots sizes) other.mind.knows new.mind.knows (agrees other is-other) extends-second;
    published = λ r k. lists r ∙ or_right _ _ k;
    full = λ k. ended ∙ or_right _ _ k;
  }

  -- what the second one published is all that is new
  pub joined-makes : (ts : List Tree) → ((r : Entry) → (shown_by sizes other).published r ≡ true → IsNodeOf ((shown_by sizes other).tree r) ts) → MakesOnly (shown_by sizes old) (shown_by sizes new) ts
  joined-makes ts nodes = record {
    only = λ r p. ⊎_elim
        (λ (a : (shown_by sizes old).published r ≡ true). inl a)
        (λ (b : (shown_by sizes other).published r ≡ true). inr (subst (λ t. IsNodeOf t ts) (sym (joined-second.trees r (is-other.listed r (listed-at other.mind.published r b)))) (nodes r b)))
        (or_cases ((shown_by sizes old).published r) ((shown_by sizes other).published r) (sym (lists r) ∙ p));
  }

  pub fit-joined : AllFitIn (slots sizes) old.mind.knows → AllFitIn (slots sizes) other.mind.knows → AllFitIn (slots sizes) new.mind.knows
  fit-joined fit fit' = record {
    all = λ k at. ⊎_elim
        (λ (was : Contains old.mind.knows k). fits-more (slots sizes) old.mind.knows new.mind.knows extends-first k.key (is.parts k was) (fit.all k was))
        (λ (was : Contains other.mind.knows k). fits-more (slots sizes) other.mind.knows new.mind.knows extends-second k.key (is-other.parts k was) (fit'.all k was))
        (joins.only k at);
  }

  pub joined-grove : Joins (record { sizes = sizes; seat = old }) (record { sizes = sizes; seat = other }) (record { sizes = sizes; seat = new })
  joined-grove = record {
    first = joined-first;
    second = joined-second;
    makes = joined-makes;
    standing = ap (λ (s : SeatValue). standing_of (record { sizes = sizes; seat = s })) joins.is;
  }

-- a test

module _ (sizes : List ℕ) (s : SeatValue) (o : IsSound (shown_by sizes s)) (is : IsSeatOf s) (fit : AllFitIn (slots sizes) s.mind.knows) (l : ℕ) (y n : Entry) (ky : is_known s.mind.knows y ≡ true) (kn : is_known s.mind.knows n ≡ true) where
  abbrev ds : List ℕ
  ds = slots sizes

  abbrev at : Entry → Tree
  at r = known_tree ds s.mind.knows r

  pub join-one : y.0 ≡ n.0 → join l (at y) (at n) ≡ at n
  join-one e =
      let same : y ≡ n = ap (λ (k : ℕ). let z : Entry = record { 0 = k } in z) e in
      ap (λ r. join l (at r) (at n)) same ∙ join-same l (at n)

  pub good-test : y.0 ≢ n.0 → l < levels_of ds → CanTest ds l (at y) (at n) → CanBeMade ds s.mind.knows (K.Test l y n)
  good-test d q c = record {
    fits = (
      q,
      d,
      past-from ds s.mind.knows (agrees s is) fit (levels_of ds) (after ds l) (key_of s.mind.knows y) c.yes_fits,
      elim c.no_fits [
        | inl p ↦ inl (past-from ds s.mind.knows (agrees s is) fit (levels_of ds) (after ds l) (key_of s.mind.knows n) p)
        | inr p ↦ inr (level-at ds s.mind.knows (agrees s is) fit (levels_of ds) (l + 1) (key_of s.mind.knows n) p.0, p.1)
      ],
    );
    parts = and_from (is_known s.mind.knows y) (is_known s.mind.knows n) ky kn;
  }

  pub join-two : y.0 ≢ n.0 → CanBeMade ds s.mind.knows (K.Test l y n) → key_tree (suc (levels_of ds)) s.mind.knows (K.Test l y n) ≡ join l (at y) (at n)
  join-two d g = tree-test ds s.mind.knows (agrees s is) fit l y n g ∙ sym (join-differ l (at y) (at n) (λ e. d (ap (λ (r : Entry). r.0) (o.once y n ky kn e))))

-- a view

pub view-shown : (sizes : List ℕ) (s : SeatValue) → IsSeatOf s → AllFitIn (slots sizes) s.mind.knows → (r : Entry) (key : Key) → Contains s.mind.knows (known r key) → IsViewOf (shown_by sizes s) r (key_view key)
view-shown sizes s is fit r key at = by_key key (fit.all (known r key) at) (is.parts (known r key) at) (key_of-is s.mind.knows (agrees s is) (known r key) at)
  where
    by_key : (key : Key) → FitsIn (slots sizes) s.mind.knows key → parts_known s.mind.knows key ≡ true → key_of s.mind.knows r ≡ key → IsViewOf (shown_by sizes s) r (key_view key)
    by_key (K.Test l y n) f p e =
        let both = and_parts (is_known s.mind.knows y) (is_known s.mind.knows n) p in
        let whole = tree-test (slots sizes) s.mind.knows (agrees s is) fit l y n (record { fits = f; parts = p }) in
        (ap (key_tree (suc (levels_of (slots sizes))) s.mind.knows) e ∙ whole, both.0, both.1)
    by_key (K.Num a) f p e = ap (key_tree (suc (levels_of (slots sizes))) s.mind.knows) e
    by_key (K.Pair a b) f p e = ap (key_tree (suc (levels_of (slots sizes))) s.mind.knows) e
    by_key (K.Act a) f p e = ap (key_tree (suc (levels_of (slots sizes))) s.mind.knows) e

pub key-shown : (sizes : List ℕ) (old new : SeatValue) (key : Key) → IsLayout sizes → IsSeatOf old → IsSeatOf new → AllFitIn (slots sizes) old.mind.knows → CanBeMade (slots sizes) old.mind.knows key → Keeps old new
    → (r : Result Entry StoreFault) → ((e : Entry) × (r ≡ Ok e) × Finds old new key e) ⊎ ((r ≡ Err F.Full) × Lacks old new key)
    → FindsKey (record { sizes = sizes; seat = old }) (record { sizes = sizes; seat = new }) key r × AllFitIn (slots sizes) new.mind.knows
key-shown sizes old new key layout is is' fit good keeps r (inl (e, same, found)) =
    let fit' = fit-found sizes old new is is' fit key good e found in (
      subst (FindsKey (record { sizes = sizes; seat = old }) (record { sizes = sizes; seat = new }) key) (sym same) (record {
        made = record {
          sound = sound-shown sizes new layout is' fit';
          grows = grows-found sizes old new is is' fit key good e found;
          ok = knows-found sizes old new is is' fit key good e found;
          makes = makes-found sizes old new is is' fit key good e found;
          fault = tt;
        };
        full = tt;
        keeps = λ i. record { table = keeps.table i; stands = keeps.stands i; splits = keeps.splits i };
      }),
      fit',
    )
key-shown sizes old new key layout is is' fit good keeps r (inr (same, lacks)) =
    let fit' = fit-full (slots sizes) old new key lacks fit in (
      subst (FindsKey (record { sizes = sizes; seat = old }) (record { sizes = sizes; seat = new }) key) (sym same) (record {
        made = record {
          sound = sound-shown sizes new layout is' fit';
          grows = grows-full sizes old new key lacks;
          ok = tt;
          makes = makes-full sizes old new key _ lacks;
          fault = lacks-full sizes old new is is' fit key good lacks;
        };
        full = refl;
        keeps = λ i. record { table = keeps.table i; stands = keeps.stands i; splits = keeps.splits i };
      }),
      fit',
    )

pub leaf-good : (ds : List ℕ) (knows : List Known) (leaf : Leaf) → CanBeMade ds knows (leaf_key leaf)
leaf-good ds knows (L.Num a) = record { fits = tt; parts = refl }
leaf-good ds knows (L.Pair a b) = record { fits = tt; parts = refl }
leaf-good ds knows (L.Act a) = record { fits = tt; parts = refl }

pub leaf-tree : (n : ℕ) (knows : List Known) (leaf : Leaf) → key_tree (suc n) knows (leaf_key leaf) ≡ Ends leaf
leaf-tree n knows (L.Num a) = refl
leaf-tree n knows (L.Pair a b) = refl
leaf-tree n knows (L.Act a) = refl
