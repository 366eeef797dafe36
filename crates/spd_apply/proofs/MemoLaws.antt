-- A memo that holds only answers goes on to hold only answers.
use Rattle.std.proofs.Common.{◌≡◌, inl, inr, Some, sym, subst}
use Rattle.std.specs.Prelude.{Contains}
use Rattle.spd_cons_core.specs.declared.key.Entry.{Entry}
use Rattle.spd_nodes.specs.Shown.{Shown, Grows}
use Rattle.spd_memo.specs.Kept.{KeptAnswers, answer_in, promoted_in, put_in}
use Rattle.spd_memo.proofs.CallerLemmas.{Contains-answer, Contains-promoted_in, Contains-put}
use Rattle.spd_apply.specs.Rules.{Making, IsAnswer, HoldsAnswers}

pub answers-found : {making : Making} {s : Shown} {k : KeptAnswers} → HoldsAnswers making s k → (f g r : Entry) → answer_in k.pairs f g ≡ Some r → IsAnswer making s f g r
answers-found {k = k} h f g r e = h.each f g r (Contains-answer k.pairs f g r e)

pub answers-grow : {making : Making} {s t : Shown} {k : KeptAnswers} → HoldsAnswers making s k → Grows s t → HoldsAnswers making t k
answers-grow h w = record {
  each = λ f g r m. let a : IsAnswer _ _ f g r = h.each f g r m in record {
    left = w.knows f a.left;
    right = w.knows g a.right;
    answer = w.knows r a.answer;
    is = rw (w.trees r a.answer, w.trees f a.left, w.trees g a.right) a.is;
  };
}

pub answers-get : {making : Making} {s : Shown} {k n : KeptAnswers} (f g : Entry) → HoldsAnswers making s k → n.pairs ≡ promoted_in k.pairs f g → HoldsAnswers making s n
answers-get {k = k} f g h e = record { each = λ x y r m. h.each x y r (Contains-promoted_in k.pairs f g ((x, y), r) (rw e at m)) }

pub answers-put : {making : Making} {s : Shown} {k n : KeptAnswers} {f g r : Entry} → HoldsAnswers making s k → IsAnswer making s f g r → n ≡ put_in k f g r → HoldsAnswers making s n
answers-put {making = making} {s = s} {k = k} {n = n} {f = f} {g = g} {r = r} h a e = record {
  each = λ x y q m.
      elim (Contains-put k f g r ((x, y), q) (subst (λ (v : KeptAnswers). Contains v.pairs ((x, y), q)) e m)) [
        | inl b ↦ h.each x y q b
        | inr b ↦ subst (λ (z : (Entry × Entry) × Entry). IsAnswer making s z.0.0 z.0.1 z.1) (sym b) a
      ];
}

pub ruleset answer_laws = (answers-found, answers-grow, answers-get, answers-put)
