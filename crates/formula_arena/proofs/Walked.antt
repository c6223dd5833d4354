-- What the steps of a walk lead to.
use Rattle.std.proofs.Common.{◌≡◌, ◌∙◌, ℕ, ◌+◌, ◌≤◌, ◌<◌, List, [], ◌∷◌, ◌++◌, length, length-append, map, reverse, drop, Some, Result, Ok, Err, OnOk, refl, sym, ap, subst, arith}
use Rattle.std.proofs.lemmas.List.{append-nil, append_assoc, length-map, length-reverse, map-append, reverse-append, length_push}
use Rattle.std.proofs.lemmas.List.Elements.{All-head, All-pop, All-push, All-tail, All-weaker}
use Rattle.mt_model.specs.Form.{Form, True, False, Prop, Not, And, Or, Implies, Until, Since, Eventually, Always, Once, Historically}
use Rattle.formula_arena.specs.declared.fault.ArenaFault.{ArenaFault}
use Rattle.formula_arena.specs.declared.walk.Task.{Task}
use Rattle.formula_arena.specs.Cores.{core_of}
use Rattle.formula_arena.specs.Growth.{IsGrown, with_subtrees, with_tree}
use Rattle.formula_arena.specs.Nodes.{Extends, IsAt, tree_at}
use Rattle.formula_arena.specs.Subtrees.{subtrees_of}
use Rattle.formula_arena.specs.Walks.{AreHeld, IsMade, IsTaken, Join, Leads, Leaf, Negation, Step, Whole, operands, step_in, steps_in, steps_of, tree_by, trees_after_step, waiting_after, waiting_in, work, work_of}
use Rattle.formula_arena.proofs.Grown.{node_at}
use Rattle.formula_arena.proofs.GrowthLemmas.{longer_with_subtrees, longer_with_tree}
use Rattle.formula_arena.proofs.TreeLists.{at-old}

-- the last node that waits
pub waiting-push : (trees : List Form) (nodes : List ℕ) (node : ℕ) → waiting_in trees (nodes ++ node ∷ []) ≡ tree_at trees node ∷ waiting_in trees nodes
waiting-push trees nodes node = ap reverse (map-append (tree_at trees) nodes (node ∷ [])) ∙ reverse-append (map (tree_at trees) nodes) (tree_at trees node ∷ [])

trees_kept : (old more : List Form) (nodes : List ℕ) → AreHeld old nodes → map (tree_at (old ++ more)) nodes ≡ map (tree_at old) nodes
trees_kept old more [] held = refl
trees_kept old more (node ∷ nodes) held =
    λ i. at-old old more node (All-head (λ id. id < length old) node nodes held) i ∷ trees_kept old more nodes (All-tail (λ id. id < length old) node nodes held) i

-- nodes that wait have their trees as more of them are held
pub waiting-kept : (old new : List Form) (nodes : List ℕ) → Extends old new → AreHeld old nodes → waiting_in new nodes ≡ waiting_in old nodes
waiting-kept old new nodes kept held = ap (λ l. waiting_in l nodes) kept.1 ∙ ap reverse (trees_kept old kept.0 nodes held)

pub held-kept : (old new : List Form) (nodes : List ℕ) → Extends old new → AreHeld old nodes → AreHeld new nodes
held-kept old new nodes kept held = All-weaker (λ id. id < length old) (λ id. id < length new) (λ id within. omega (arith, ap length kept.1, length-append old kept.0)) nodes held

-- a tree that was added waits
pub made : {old new : List Form} {f : Form} {r : Result ℕ ArenaFault} {node : ℕ} (nodes more : List ℕ)
    → IsGrown old (with_tree old f) f r new → r ≡ Ok node → AreHeld old nodes → more ≡ nodes ++ node ∷ [] → IsMade old f (waiting_in old nodes) (Ok tt) new more
made {old} {new} {f} {r} {node} nodes more grown was held pushed =
    let at : IsAt new node f = node_at grown was in
    record {
      held = subst (AreHeld new) (sym pushed) (All-push (λ id. id < length new) nodes node (held-kept old new nodes grown.kept held) at.0);
      waits = ap (waiting_in new) pushed ∙ waiting-push new nodes node ∙ (λ i. at.1 i ∷ waiting-kept old new nodes grown.kept held i);
      trees = subst (λ s. OnOk s (new ≡ with_tree old f)) was grown.nodes;
      too_many = λ e. absurd (cc);
      kept = grown.kept;
    }

longer_by : (step : Step) (trees waiting : List Form) → length trees ≤ length (trees_after_step step trees waiting)
longer_by (Whole f) trees waiting = longer_with_subtrees trees f
longer_by (Leaf f) trees waiting = longer_with_tree trees f
longer_by Negation trees waiting = longer_with_tree trees (tree_by Negation waiting)
longer_by (Join op) trees waiting = longer_with_tree trees (tree_by (Join op) waiting)

-- no step makes the trees fewer
leads-longer : (steps : List Step) (trees waiting grown : List Form) (f : Form) → Leads steps trees waiting grown f → length trees ≤ length grown
leads-longer [] trees waiting grown f leads = omega (arith, ap length leads.0)
leads-longer (step ∷ steps) trees waiting grown f leads =
    omega (arith, longer_by step trees waiting, leads-longer steps (trees_after_step step trees waiting) (waiting_after step waiting) grown f leads.1)

on_ok : {T E P : Type 0} (r : Result T E) → P → OnOk r P
on_ok (Ok v) p = p
on_ok (Err e) p = tt

less_by : (step : Step) (steps : List Step) → work_of step ≡ 1 → work steps < work (step ∷ steps)
less_by step steps one = let e : work_of step + work steps ≡ 1 + work steps = ap (λ n. n + work steps) one in subst (λ n. work steps < n) (sym e) (omega arith)

-- a step that adds one tree
pub taken : (step : Step) (steps : List Step) {old waiting new : List Form} {nodes : List ℕ} {r : Result (Unit {0}) ArenaFault}
    → ((trees : List Form) → trees_after_step step trees waiting ≡ with_tree trees (tree_by step waiting)) → work_of step ≡ 1
    → IsMade old (tree_by step waiting) (drop (operands step) waiting) r new nodes → IsTaken (step ∷ steps) old waiting r steps new nodes
taken step steps {old} {waiting} {new} {nodes} {r} adds one left = record {
  held = left.held;
  leads = leads_on r left.trees left.waits;
  less = on_ok r (less_by step steps one);
  too_many = λ grown f leads e. let more = left.too_many e in omega (arith, ap length (adds old), leads-longer steps (trees_after_step step old waiting) (waiting_after step waiting) grown f leads.1);
  kept = left.kept;
}
  where
    leads_on : (s : Result (Unit {0}) ArenaFault) → OnOk s (new ≡ with_tree old (tree_by step waiting)) → OnOk s (waiting_in new nodes ≡ waiting_after step waiting)
        → (grown : List Form) (f : Form) → Leads (step ∷ steps) old waiting grown f → OnOk s (Leads steps new (waiting_in new nodes) grown f)
    leads_on (Ok u) trees waits grown f leads =
        subst (λ l. Leads steps l (waiting_in new nodes) grown f) (adds old ∙ sym trees) (subst (λ w. Leads steps (trees_after_step step old waiting) w grown f) (sym waits) leads.1)
    leads_on (Err e) trees waits grown f leads = tt

-- the same of a task
pub taken_task : {task shape : Task} (steps : List Step) {old waiting new : List Form} {nodes : List ℕ} {r : Result (Unit {0}) ArenaFault} → task ≡ shape
    → ((trees : List Form) → trees_after_step (step_in shape) trees waiting ≡ with_tree trees (tree_by (step_in shape) waiting)) → work_of (step_in shape) ≡ 1
    → IsMade old (tree_by (step_in shape) waiting) (drop (operands (step_in shape)) waiting) r new nodes → IsTaken (step_in task ∷ steps) old waiting r steps new nodes
taken_task {task} {shape} steps {old} {waiting} {new} {nodes} {r} is adds one left =
    subst (λ t. IsTaken (step_in t ∷ steps) old waiting r steps new nodes) (sym is) (taken (step_in shape) steps adds one left)

-- what a tree's core comes to leads where the tree leads
pub leads_within : (f : Form) (steps : List Step) (trees waiting grown : List Form) (g : Form) → Leads (Whole (core_of f) ∷ steps) trees waiting grown g
    → Leads (steps_of f ++ steps) trees waiting grown g
leads_within True steps trees waiting grown g leads = (omega arith, leads.1)
leads_within False steps trees waiting grown g leads = (omega arith, (omega arith, leads.1))
leads_within (Prop host name) steps trees waiting grown g leads = (omega arith, leads.1)
leads_within (Not f) steps trees waiting grown g leads = (omega arith, (omega arith, leads.1))
leads_within (And f h) steps trees waiting grown g leads = (omega arith, (omega arith, (omega arith, leads.1)))
leads_within (Or f h) steps trees waiting grown g leads = (omega arith, (omega arith, (omega arith, (omega arith, (omega arith, (omega arith, leads.1))))))
leads_within (Implies f h) steps trees waiting grown g leads = (omega arith, (omega arith, (omega arith, (omega arith, (omega arith, leads.1)))))
leads_within (Until I f h) steps trees waiting grown g leads = (omega arith, (omega arith, (omega arith, leads.1)))
leads_within (Since I f h) steps trees waiting grown g leads = (omega arith, (omega arith, (omega arith, leads.1)))
leads_within (Eventually I f) steps trees waiting grown g leads = (omega arith, (omega arith, (omega arith, leads.1)))
leads_within (Once I f) steps trees waiting grown g leads = (omega arith, (omega arith, (omega arith, leads.1)))
leads_within (Always I f) steps trees waiting grown g leads = (omega arith, (omega arith, (omega arith, (omega arith, (omega arith, leads.1)))))
leads_within (Historically I f) steps trees waiting grown g leads = (omega arith, (omega arith, (omega arith, (omega arith, (omega arith, leads.1)))))

after_two : (fs gs : List Form) (h : Form) → length (fs ++ gs ++ h ∷ []) ≡ length fs + length gs + 1
after_two fs gs h = omega (arith, length-append (fs ++ gs) (h ∷ []), length-append fs gs)

-- and has less work
pub work_within : (f : Form) (steps : List Step) → work (steps_of f ++ steps) < work (Whole (core_of f) ∷ steps)
work_within True steps = omega arith
work_within False steps = omega arith
work_within (Prop host name) steps = omega arith
work_within (Not f) steps = omega (arith, length_push (subtrees_of (core_of f)) (Not (core_of f)))
work_within (And f g) steps = omega (arith, after_two (subtrees_of (core_of f)) (subtrees_of (core_of g)) (And (core_of f) (core_of g)))
work_within (Or f g) steps =
    let not_f = Not (core_of f) in
    let not_g = Not (core_of g) in
    omega (
      arith,
      length_push (subtrees_of (core_of f)) not_f,
      length_push (subtrees_of (core_of g)) not_g,
      after_two (subtrees_of not_f) (subtrees_of not_g)
          (And not_f not_g),
      length_push (subtrees_of (And not_f not_g)) (core_of (Or f g)),
    )
work_within (Implies f g) steps =
    let not_g = Not (core_of g) in
    omega (
      arith,
      length_push (subtrees_of (core_of g)) not_g,
      after_two (subtrees_of (core_of f)) (subtrees_of not_g) (And (core_of f) not_g),
      length_push
          (subtrees_of (And (core_of f) not_g)) (core_of (Implies f g)),
    )
work_within (Until I f g) steps = omega (arith, after_two (subtrees_of (core_of f)) (subtrees_of (core_of g)) (Until I (core_of f) (core_of g)))
work_within (Since I f g) steps = omega (arith, after_two (subtrees_of (core_of f)) (subtrees_of (core_of g)) (Since I (core_of f) (core_of g)))
work_within (Eventually I f) steps = omega (arith, after_two (subtrees_of True) (subtrees_of (core_of f)) (Until I True (core_of f)))
work_within (Once I f) steps = omega (arith, after_two (subtrees_of True) (subtrees_of (core_of f)) (Since I True (core_of f)))
work_within (Always I f) steps =
    let not_f = Not (core_of f) in
    omega (
      arith,
      length_push (subtrees_of (core_of f)) not_f,
      after_two (subtrees_of True) (subtrees_of not_f) (Until I True not_f),
      length_push
          (subtrees_of (Until I True not_f)) (core_of (Always I f)),
    )
work_within (Historically I f) steps =
    let not_f = Not (core_of f) in
    omega (
      arith,
      length_push (subtrees_of (core_of f)) not_f,
      after_two (subtrees_of True) (subtrees_of not_f) (Since I True not_f),
      length_push
          (subtrees_of (Since I True not_f)) (core_of (Historically I f)),
    )

-- a walk from trees that are held, over a formula of core f: where the steps that are left lead
pub record IsWalk (old : List Form) (f : Form) (steps : List Step) (trees : List Form) (nodes : List ℕ) : Type 0 where
  pub held : AreHeld trees nodes
  pub leads : Leads steps trees (waiting_in trees nodes) (with_subtrees old f) f
  pub kept : Extends old trees

-- the task that stands last is the first step
pub next-step : {tasks : List Task} (left : List Task) (task : Task) → tasks ≡ left ++ task ∷ [] → steps_in tasks ≡ step_in task ∷ steps_in left
next-step left task last = ap steps_in last ∙ ap (map step_in) (reverse-append left (task ∷ []))

begins : (old : List Form) (f : Form) → IsWalk old f (Whole f ∷ []) old []
begins old f = record { held = λ k d within. absurd (omega arith); leads = (omega arith, (refl, refl)); kept = ([], sym (append-nil old)) }

-- a walk whose one task is the tree
pub begun : {old : List Form} {f : Form} {tasks : List Task} {nodes : List ℕ} (before : List Task) (task : Task) → before ≡ [] → tasks ≡ before ++ task ∷ [] → step_in task ≡ Whole f → nodes ≡ []
    → IsWalk old f (steps_in tasks) old nodes
begun {old} {f} {tasks} {nodes} before task none pushed is nobody =
    let first : steps_in tasks ≡ Whole f ∷ [] = next-step before task pushed ∙ (λ i. is i ∷ steps_in (none i)) in
    subst (IsWalk old f (steps_in tasks) old) (sym nobody) (subst (λ s. IsWalk old f s old []) (sym first) (begins old f))

-- the nodes that wait are enough for the next step
pub next-operands : {old trees : List Form} {f : Form} {steps : List Step} {nodes : List ℕ} (step : Step) (left : List Step) → IsWalk old f steps trees nodes → steps ≡ step ∷ left
    → operands step ≤ length nodes
next-operands {old} {trees} {f} {steps} {nodes} step left walk is =
    let leads : Leads (step ∷ left) trees (waiting_in trees nodes) (with_subtrees old f) f = subst (λ s. Leads s trees (waiting_in trees nodes) (with_subtrees old f) f) is walk.leads in
    omega (arith, leads.0, length-reverse (map (tree_at trees) nodes), length-map nodes (tree_at trees))

-- a walk after a step
pub walked : {old trees new : List Form} {f : Form} {steps after : List Step} {nodes more : List ℕ} {u : Unit {0}} (step : Step) (left : List Step)
    → IsWalk old f steps trees nodes → steps ≡ step ∷ left
    → IsTaken (step ∷ left) trees (waiting_in trees nodes) (Ok u) after new more → IsWalk old f after new more
walked {old} {trees} {f = f} {nodes = nodes} step left walk is taken = record {
  held = taken.held;
  leads = taken.leads (with_subtrees old f) f (subst (λ s. Leads s trees (waiting_in trees nodes) (with_subtrees old f) f) is walk.leads);
  kept = (walk.kept.0 ++ taken.kept.0, taken.kept.1 ∙ ap (λ l. l ++ taken.kept.0) walk.kept.1 ∙ append_assoc old walk.kept.0 taken.kept.0);
}

-- where no step is left, a node waits
pub one-waits : {old trees : List Form} {f : Form} {steps : List Step} {nodes : List ℕ} → IsWalk old f steps trees nodes → steps ≡ [] → 0 < length nodes
one-waits {old} {trees} {f} {steps} {nodes} walk none =
    let leads : Leads [] trees (waiting_in trees nodes) (with_subtrees old f) f = subst (λ s. Leads s trees (waiting_in trees nodes) (with_subtrees old f) f) none walk.leads in
    omega (arith, ap length leads.1, length-reverse (map (tree_at trees) nodes), length-map nodes (tree_at trees))

-- a tree that gives way to what its core comes to
pub expanded : (task : Task) (f : Form) (steps left : List Step) (old : List Form) (nodes : List ℕ) → step_in task ≡ Whole (core_of f) → left ≡ steps_of f ++ steps → AreHeld old nodes
    → IsTaken (step_in task ∷ steps) old (waiting_in old nodes) (Ok tt) left old nodes
expanded task f steps left old nodes is e held =
    subst (λ s. IsTaken (s ∷ steps) old (waiting_in old nodes) (Ok tt) left old nodes) (sym is)
    (subst (λ l. IsTaken (Whole (core_of f) ∷ steps) old (waiting_in old nodes) (Ok tt) l old nodes) (sym e) record {
      held = held;
      leads = λ grown g leads. leads_within f steps old (waiting_in old nodes) grown g leads;
      less = work_within f steps;
      too_many = λ grown g leads many. absurd (cc);
      kept = ([], sym (append-nil old));
    })

-- where no step is left, the tree of the last node is the one that was walked over
pub finished : {old trees : List Form} {f : Form} {steps : List Step} {nodes : List ℕ} (rest : List ℕ) (node : ℕ) → IsWalk old f steps trees nodes → steps ≡ [] → nodes ≡ rest ++ node ∷ []
    → IsGrown old (with_subtrees old f) f (Ok node) trees
finished {old} {trees} {f} {steps} {nodes} rest node walk none last =
    let leads : Leads [] trees (waiting_in trees nodes) (with_subtrees old f) f = subst (λ s. Leads s trees (waiting_in trees nodes) (with_subtrees old f) f) none walk.leads in
    let only : tree_at trees node ∷ waiting_in trees rest ≡ f ∷ [] = sym (waiting-push trees rest node) ∙ ap (waiting_in trees) (sym last) ∙ leads.1 in
    record {
      at = ((All-pop (λ id. id < length trees) nodes rest (Some node) last walk.held).1, ap (λ l. tree_at l 0) only);
      nodes = leads.0;
      too_many = λ e. absurd (cc);
      kept = walk.kept;
    }
