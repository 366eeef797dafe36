-- Weights that are made one after another, with the test of their sums.
use Rattle.std.proofs.Common.{◌≡◌, ℕ, ◌+◌, ◌<◌, ◌≤◌, List, [], ◌∷◌, ◌++◌, length, flat_map, take, take_all, get_or, not, refl, ap, sym, ◌∙◌, subst, append_assoc, append-nil, arith, Ok, Err, Some, None}
use Rattle.std.specs.List.{AllZip, enumerate_from}
use Rattle.std.specs.Ordering.{int_eq}
use Rattle.std.proofs.lemmas.List.{take_more}
use Rattle.std.proofs.lemmas.Grind.{get_or_default_zero}
use Rattle.std.proofs.lemmas.List.Concat.{flat_map-append}
use Rattle.std.proofs.lemmas.List.FromFn.{get_or-enumerate_from}
use Rattle.spd_cons_core.specs.declared.key.Entry.{Entry}
use Rattle.spd_model.specs.Chances.{Sum, one}
use Rattle.spd_model.specs.Numbers.{numbers_below}
use Rattle.spd_model.proofs.CallerLemmas.Finds.{find_none_more, find_here}
use Rattle.spd_model.proofs.CallerLemmas.Lists.{get_or-numbers_below, length-numbers_below}
use Rattle.spd_nodes.specs.declared.forest.StoreFault.{StoreFault}
use Rattle.spd_nodes.specs.declared.forest.StoreFault.TheVariants as Store
use Rattle.spd_nodes.specs.Shown.{Shown, IsSound, FaultsAt, Grows, StandsFor}
use Rattle.spd_nodes.specs.States.{Function}
use Rattle.spd_nodes.proofs.CallerLemmas.{Among, among-flat, fault-wider, has-none, has-then, stand-grow, stand-push}
use Rattle.spd_build.specs.declared.built.BuildFault.{BuildFault}
use Rattle.spd_build.specs.declared.built.BuildFault.TheVariants as Fault
use Rattle.spd_build.specs.Building.{build_fault}
use Rattle.spd_build.specs.Tables.{CauseIn, MakesWeights, StandAfter, WeighsFirst, first_wrong}

-- ---- entries after others

pub after-none : (s : Shown) (refs : List Entry) → StandAfter s s refs refs []
after-none s refs = record { each = λ before h. subst (AllZip (StandsFor s) refs) (sym (append-nil before)) h }

pub after-grow : {s t u : Shown} {refs more : List Entry} {fs : List Function} → StandAfter s t refs more fs → Grows t u → StandAfter s u refs more fs
after-grow {more = more} {fs = fs} h g = record { each = λ before stand. stand-grow g more (before ++ fs) (h.each before stand) }

pub after-push : {s t u : Shown} {refs more next : List Entry} {fs : List Function} (r : Entry) (f : Function) → StandAfter s t refs more fs → Grows t u → StandsFor u r f
    → next ≡ more ++ r ∷ [] → StandAfter s u refs next (fs ++ f ∷ [])
after-push {s = s} {t = t} {u = u} {refs = refs} {more = more} {next = next} {fs = fs} r f h g stands is = record {
  each = λ before stand.
      let all : AllZip (StandsFor u) (more ++ r ∷ []) ((before ++ fs) ++ f ∷ []) = stand-push u more (before ++ fs) r f (stand-grow g more (before ++ fs) (h.each before stand)) stands in
      subst (λ (l : List Entry). AllZip (StandsFor u) l (before ++ (fs ++ f ∷ []))) (sym is)
      (subst (AllZip (StandsFor u) (more ++ r ∷ [])) (append_assoc before fs (f ∷ [])) all);
}

pub after-then : {s t u : Shown} {refs more next : List Entry} {fs gs : List Function} → StandAfter s t refs more fs → StandAfter t u more next gs → StandAfter s u refs next (fs ++ gs)
after-then {u = u} {next = next} {fs = fs} {gs = gs} h k = record {
  each = λ before stand. subst (AllZip (StandsFor u) next) (append_assoc before fs gs) (k.each (before ++ fs) (h.each before stand));
}

-- ---- faults of the forest

pub forest-cause : (of : List Sum) (nodes : List Function) (t : Shown) (e : StoreFault) → FaultsAt e t nodes → CauseIn of nodes t (build_fault e)
forest-cause of nodes t Store.Full h = h
forest-cause of nodes t Store.Memory h = tt

-- ---- entries of lists of numbers

pub numbered : (n i : ℕ) → i < n → i ≡ get_or (numbers_below n) i i
numbered n i near = sym (get_or_default_zero (numbers_below n) i i (omega (arith, length-numbers_below n)) ∙ get_or-numbers_below n i near)

pub enumerated : {X : Type 0} (xs : List X) (k : ℕ) (x : X) → k < length xs → x ≡ get_or xs k x → (k, x) ≡ get_or (enumerate_from 0 xs) k (k, x)
enumerated xs k x near is =
    let at : k ≡ 0 + k = omega arith in
    (λ n. (at n, is n)) ∙ sym (get_or-enumerate_from 0 xs k (k, x) near)

pub flat-enumerate : {X Y : Type 0} (f : X → List Y) (k : ℕ) (xs : List X) → flat_map (λ (p : ℕ × X). f p.1) (enumerate_from k xs) ≡ flat_map f xs
flat-enumerate f k [] = refl
flat-enumerate f k (x ∷ xs) = ap (λ l. f x ++ l) (flat-enumerate f (k + 1) xs)

-- ---- table after table

module _ {X : Type 0} (sums : X → List Sum) (nodes weights : X → List Function) (xs : List X) where
  pub weighs-none : (s : Shown) → IsSound s → (refs : List Entry) → WeighsFirst sums nodes weights xs 0 s s refs refs
  weighs-none s o refs = record { made = has-none s o (flat_map nodes xs); stand = after-none s refs; sums = refl }

  pub weighs-all : {A : Type 0} (s t : Shown) (refs more : List Entry) (i : ℕ) → length xs ≤ i → WeighsFirst sums nodes weights xs i s t refs more
      → (v : A) → MakesWeights {A = A} (flat_map sums xs) (flat_map nodes xs) (flat_map weights xs) s t refs more (Ok v)
  weighs-all s t refs more i past h v = record {
    made = h.made;
    stand = subst (λ (l : List X). StandAfter s t refs more (flat_map weights l)) (take_all i xs past) h.stand;
    sums = subst (λ (l : List X). first_wrong (flat_map sums l) ≡ None) (take_all i xs past) h.sums;
    fault = tt;
  }

  module _ (i : ℕ) (x : X) (near : i < length xs) (is : x ≡ get_or xs i x) (s t u : Shown) (refs more : List Entry) (h : WeighsFirst sums nodes weights xs i s t refs more) where
    among : Among (nodes x) (flat_map nodes xs)
    among = subst (λ (y : X). Among (nodes y) (flat_map nodes xs)) (sym is) (among-flat nodes xs i x near)

    joined : flat_map weights (take i xs) ++ weights x ≡ flat_map weights (take (i + 1) xs)
    joined =
        ap (λ (y : X). flat_map weights (take i xs) ++ weights y) is
        ∙ ap (λ (l : List Function). flat_map weights (take i xs) ++ l) (sym (append-nil (weights (get_or xs i x))))
        ∙ sym (flat_map-append weights (take i xs) (get_or xs i x ∷ []))
        ∙ ap (flat_map weights) (sym (take_more xs i x near))

    pub weighs-more : {A : Type 0} (next : List Entry) (v : A) → MakesWeights {A = A} (sums x) (nodes x) (weights x) t u more next (Ok v)
        → WeighsFirst sums nodes weights xs (i + 1) s u refs next
    weighs-more next v m = record {
      made = has-then among h.made m.made;
      stand = subst (StandAfter s u refs next) joined (after-then h.stand m.stand);
      sums = find_none_more (λ (y : Sum). not (int_eq y.sum one)) sums xs i x near h.sums (subst (λ (y : X). first_wrong (sums y) ≡ None) is m.sums);
    }

    cause : (e : BuildFault) → CauseIn (sums x) (nodes x) u e → CauseIn (flat_map sums xs) (flat_map nodes xs) u e
    cause (Fault.Sum action var state sum) c =
        let first : Sum = record { action = action; var = var; state = state; sum = sum } in
        find_here (λ (y : Sum). not (int_eq y.sum one)) sums xs i x near h.sums first (subst (λ (y : X). first_wrong (sums y) ≡ Some first) is c)
    cause (Fault.Range action state value) c = absurd c
    cause Fault.Full c = fault-wider Store.Full u among c
    cause Fault.Memory c = tt

    pub weighs-failed : {A B : Type 0} (next last : List Entry) (e : BuildFault) → MakesWeights {A = A} (sums x) (nodes x) (weights x) t u more next (Err e)
        → MakesWeights {A = B} (flat_map sums xs) (flat_map nodes xs) (flat_map weights xs) s u refs last (Err e)
    weighs-failed next last e m = record { made = has-then among h.made m.made; stand = tt; sums = tt; fault = cause e m.fault }
