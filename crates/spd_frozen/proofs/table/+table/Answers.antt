use Rattle.std.proofs.Common.{◌≡◌, ◌<◌, ◌+◌, ◌*◌, true≢false, ℕ, List, [], ◌∷◌, ap, sym, ◌∙◌, subst, arith, length, map, get_or}
use Rattle.std.specs.Prelude.{All}
use Rattle.std.proofs.lemmas.List.{length-map, get_or_default}
use Rattle.std.proofs.lemmas.List.Elements.{All-head, All-tail}
use Rattle.std.proofs.lemmas.Result.{IfOk-weaker}
use Rattle.spd_model.proofs.CallerLemmas.Lists.{length-numbers_below}
use Rattle.spd_model.specs.declared.process.Var.{Var}
use Rattle.spd_model.specs.Numbers.{numbers_below}
use Rattle.spd_model.specs.Reduced.{Diagram, Node, subtrees_of, reduced_from, with_node, nodes_after, node_number}
use Rattle.spd_model.specs.States.{state_count}
use Rattle.spd_nodes.specs.Trees.{leaf_eq}
use Rattle.spd_nodes.specs.declared.leaf.Leaf.{Leaf}
use Rattle.spd_frozen.specs.Frozen.{diagrams, diagram_of, entry_at}
use Rattle.spd_frozen.specs.inner.Unique.{IsClosed, subdiagram, sizes_of}
use Rattle.spd_frozen.proofs.Places.{D}
use Rattle.spd_frozen.proofs.Completion.{nodes_after_all-is}
use Rattle.spd_frozen.proofs.Reading.{length-diagrams_after}
use Rattle.spd_frozen.proofs.TableLaws.{length-part, part-is, kids-more, chooses, choice-is}
use Rattle.spd_frozen.proofs.table.+table.Goals as goal

-- all numbers of a list are its first one
abbrev AllFirst : List ℕ → Type 0
AllFirst numbers = All (λ k. k ≡ get_or numbers 0 0) numbers

pub kids-root-requires : goal.kids-root-requires
kids-root-requires t c =
    let r = c.requires in
    let i = c.loop-value.invariant in (
      omega arith,
      (
        omega (arith, r.number),
        (
          r.values,
          (
            length-part c.args.leaves.now c.loop-value.value c.args.size _ (state_count (sizes_of c.args.rest.now)) c.loop-value-test.true i.block r.entries,
            subst IsClosed (sym i.nodes) ((nodes_after_all-is (diagrams c.args.table.now) (subtrees_of (map (subdiagram c.args.var c.args.size (sizes_of c.args.rest.now) c.args.leaves.now) (numbers_below c.loop-value.value)))).closed r.closed),
          ),
        ),
      ),
    )

pub kids-loop-value-preserved : goal.kids-loop-value-preserved
kids-loop-value-preserved t c =
    let i = c.loop-value.invariant in
    let h = c.in_ok-root.ensures in
    let more = kids-more (subdiagram c.args.var c.args.size (sizes_of c.args.rest.now) c.args.leaves.now) c.loop-value.value (diagrams c.args.table.now) (diagrams c.loop-value.table)
    (diagrams c.root.new.table) c.loop-value.kids.items c.in_ok-root.field-0 _ i.nodes i.numbers
    (part-is c.args.var c.args.size (sizes_of c.args.rest.now) c.args.leaves.now c.loop-value.value _ i.block) h.0 h.1 in
    record { block = i.block; nodes = more.0; numbers = c.in_ok-push.ensures.items ∙ more.1 }

pub root-kids-requires : goal.root-kids-requires
root-kids-requires t c =
    let r = c.requires in
    let e = c.in-Some.ensures.cases.0 in
    let P : Var → Type 0 = λ (x : Var). 0 < length x.values in
    let values : All P (c.in-Some.first.now ∷ c.in-Some.rest.now) = subst (All P) e r.values in
    let some : 0 < length c.in-Some.first.now.values = All-head P c.in-Some.first.now c.in-Some.rest.now values in
    let long : length c.args.vars.now ≡ length c.in-Some.rest.now + 1 = sym c.in-Some.ensures.cases.1 in (
      omega (arith, long),
      (
        omega (arith, long, r.number),
        (
          omega (arith, some, c.len.ensures),
          (
            All-tail P c.in-Some.first.now c.in-Some.rest.now values,
            (
              r.entries ∙ ap (λ (vs : List Var). state_count (sizes_of vs)) e ∙ ap (λ (n : ℕ). n * state_count (sizes_of c.in-Some.rest.now)) (sym c.len.ensures),
              r.closed,
            ),
          ),
        ),
      ),
    )

pub root-are_equal-requires : goal.root-are_equal-requires
root-are_equal-requires t c =
    let first = c.in-Some.first.now in
    let rest = c.in-Some.rest.now in
    let P : Var → Type 0 = λ (x : Var). 0 < length x.values in
    let some : 0 < length first.values = All-head P first rest (subst (All P) c.in-Some.ensures.cases.0 c.requires.values) in
    let sub : ℕ → D = subdiagram c.args.var c.len.result (sizes_of rest) c.args.leaves.now in
    let h = c.in_ok-kids-in-Some.ensures in
    let ch = chooses c.args.var (diagrams c.args.table.now) (diagrams c.kids.new.table) c.in_ok-kids-in-Some.kids.items (map sub (numbers_below c.len.result)) c.requires.closed h.0 h.1
    (omega (arith, length-map (numbers_below c.len.result) sub, length-numbers_below c.len.result, some, c.len.ensures)) in
    omega (arith, ch.some, ap length c.deref.ensures.value)

pub root-index-requires : goal.root-index-requires
root-index-requires t c =
    let first = c.in-Some.first.now in
    let rest = c.in-Some.rest.now in
    let P : Var → Type 0 = λ (x : Var). 0 < length x.values in
    let some : 0 < length first.values = All-head P first rest (subst (All P) c.in-Some.ensures.cases.0 c.requires.values) in
    let sub : ℕ → D = subdiagram c.args.var c.len.result (sizes_of rest) c.args.leaves.now in
    let h = c.in_ok-kids-in-Some.ensures in
    let ch = chooses c.args.var (diagrams c.args.table.now) (diagrams c.kids.new.table) c.in_ok-kids-in-Some.kids.items (map sub (numbers_below c.len.result)) c.requires.closed h.0 h.1
    (omega (arith, length-map (numbers_below c.len.result) sub, length-numbers_below c.len.result, some, c.len.ensures)) in
    omega (arith, ch.some)

pub root-branch-table-requires : goal.root-branch-table-requires
root-branch-table-requires t c =
    let first = c.in-Some.first.now in
    let rest = c.in-Some.rest.now in
    let P : Var → Type 0 = λ (x : Var). 0 < length x.values in
    let some : 0 < length first.values = All-head P first rest (subst (All P) c.in-Some.ensures.cases.0 c.requires.values) in
    let sub : ℕ → D = subdiagram c.args.var c.len.result (sizes_of rest) c.args.leaves.now in
    let h = c.in_ok-kids-in-Some.ensures in
    let ch = chooses c.args.var (diagrams c.args.table.now) (diagrams c.kids.new.table) c.in_ok-kids-in-Some.kids.items (map sub (numbers_below c.len.result)) c.requires.closed h.0 h.1
    (omega (arith, length-map (numbers_below c.len.result) sub, length-numbers_below c.len.result, some, c.len.ensures)) in
    subst (λ (n : ℕ). All (λ k. k < n) c.in_ok-kids-in-Some.kids.items) (length-diagrams_after [] c.kids.new.table ∙ omega arith) ch.below

pub root-returns-then-are_equal : goal.root-returns-then-are_equal
root-returns-then-are_equal t c =
    let first = c.in-Some.first.now in
    let rest = c.in-Some.rest.now in
    let P : Var → Type 0 = λ (x : Var). 0 < length x.values in
    let some : 0 < length first.values = All-head P first rest (subst (All P) c.in-Some.ensures.cases.0 c.requires.values) in
    let sub : ℕ → D = subdiagram c.args.var c.len.result (sizes_of rest) c.args.leaves.now in
    let h = c.in_ok-kids-in-Some.ensures in
    let ch = chooses c.args.var (diagrams c.args.table.now) (diagrams c.kids.new.table) c.in_ok-kids-in-Some.kids.items (map sub (numbers_below c.len.result)) c.requires.closed h.0 h.1
    (omega (arith, length-map (numbers_below c.len.result) sub, length-numbers_below c.len.result, some, c.len.ensures)) in
    let whole = choice-is c.args.var c.args.vars.now first rest c.len.result c.args.leaves.now c.in-Some.ensures.cases.0 c.len.ensures in
    let all : AllFirst c.in_ok-kids-in-Some.kids.items = subst AllFirst c.deref.ensures.value (c.are_equal.ensures.0 c.if-are_equal.true) in
    let same = ch.equal all in (
      same.0 ∙ ap (nodes_after leaf_eq (diagrams c.args.table.now)) (sym whole),
      c.index.ensures ∙ get_or_default c.in_ok-kids-in-Some.kids.items 0 c.index.result.now 0 ch.some ∙ same.1 ∙ ap (node_number leaf_eq (diagrams c.kids.new.table)) (sym whole),
    )

pub root-returns-else-are_equal : goal.root-returns-else-are_equal
root-returns-else-are_equal t c =
    let first = c.in-Some.first.now in
    let rest = c.in-Some.rest.now in
    let P : Var → Type 0 = λ (x : Var). 0 < length x.values in
    let some : 0 < length first.values = All-head P first rest (subst (All P) c.in-Some.ensures.cases.0 c.requires.values) in
    let sub : ℕ → D = subdiagram c.args.var c.len.result (sizes_of rest) c.args.leaves.now in
    let h = c.in_ok-kids-in-Some.ensures in
    let ch = chooses c.args.var (diagrams c.args.table.now) (diagrams c.kids.new.table) c.in_ok-kids-in-Some.kids.items (map sub (numbers_below c.len.result)) c.requires.closed h.0 h.1
    (omega (arith, length-map (numbers_below c.len.result) sub, length-numbers_below c.len.result, some, c.len.ensures)) in
    let whole = choice-is c.args.var c.args.vars.now first rest c.len.result c.args.leaves.now c.in-Some.ensures.cases.0 c.len.ensures in
    let branched = ch.differ (λ all. true≢false (sym (c.are_equal.ensures.1 (subst AllFirst (sym c.deref.ensures.value) all)) ∙ c.if-are_equal.false)) in
    let old = diagrams c.args.table.now in
    let mid = diagrams c.kids.new.table in
    let new = diagrams c.branch-table.new.self in
    let ds = map sub (numbers_below c.len.result) in
    let node : Node Leaf = Node.branch c.args.var c.in_ok-kids-in-Some.kids.items in
    let is : diagram_of mid node ≡ reduced_from leaf_eq c.args.var (sizes_of c.args.vars.now) (entry_at (sizes_of c.args.vars.now) c.args.leaves.now) = ch.read ∙ sym branched ∙ sym whole in
    IfOk-weaker c.branch-table.result (λ n. (new ≡ with_node leaf_eq mid (diagram_of mid node)) × (n ≡ node_number leaf_eq new (diagram_of mid node)))
    (λ n. (new ≡ nodes_after leaf_eq old (reduced_from leaf_eq c.args.var (sizes_of c.args.vars.now) (entry_at (sizes_of c.args.vars.now) c.args.leaves.now)))
    × (n ≡ node_number leaf_eq new (reduced_from leaf_eq c.args.var (sizes_of c.args.vars.now) (entry_at (sizes_of c.args.vars.now) c.args.leaves.now))))
    (λ n p. (
      p.0 ∙ ap (with_node leaf_eq mid) ch.read ∙ ap (λ (l : List D). with_node leaf_eq l (Diagram.branch c.args.var (subtrees_of ds))) h.0
          ∙ ap (nodes_after leaf_eq old) (sym branched ∙ sym whole),
      p.1 ∙ ap (node_number leaf_eq new) is,
    ))
    c.branch-table.ensures
