-- A tree and its specification settle alike, and make the same steps and runs.
use Rattle.std.proofs.Common.{◌≡◌, ℕ, List, [], ◌∷◌, length, take, Option, Some, None, refl, sym, ◌∙◌, ap, subst}
use Rattle.std.specs.Prelude.{slice_get}
use Rattle.spec_model.specs.declared.config.Config.{Config}
use Rattle.spec_model.specs.declared.config.Task.{Task}
use Rattle.spec_model.specs.declared.config.Task.TheVariants.{Do, Forget}
use Rattle.spec_model.specs.declared.event.ServerEvent.{ServerEvent}
use Rattle.spec_model.specs.declared.tree.Stmt.{Stmt}
use Rattle.spec_model.specs.Config.{first_config, idle_config}
use Rattle.spec_model.specs.Run.{RunsTo, Settles, Step, Steps, passes, settled}
use Rattle.spec_model.specs.Step.{after_event, after_silent_work, after_silent_work_at}
use Rattle.spec_rules.specs.declared.names.Known.{Known}
use Rattle.spec_rules.specs.Bad.{declares_register, declares_table}
use Rattle.itree_data.specs.declared.node.Node.TheVariants as nodes
use Rattle.itree_data.specs.Fields.{Fields}
use Rattle.itree_data.specs.Laws.{KeepsNames, KeepsPlaces, KeepsRuns, KeepsState}
use Rattle.itree_data.specs.Marks.{IsMarked, Mark, entered, ready, marked_of}
use Rattle.itree_data.specs.Run.{TreeRunsTo, TreeSettles, TreeStep, TreeSteps, passes as tree_passes, settled as tree_settled}
use Rattle.itree_data.specs.Standing.{Standing, first_standing, place_of, scope_at, within_scope}
use Rattle.itree_data.specs.Step.{after_event as after_tree_event, after_silent_work as after_tree_work}
use Rattle.itree_data.proofs.Follows.{Follows, Leads, Meets, passed_of, unbegun}
use Rattle.itree_data.proofs.Matching.{IsReady, events_meet, forgets, stands_at, work_meets}
use Rattle.itree_data.proofs.Places.{names_of, values_of}
use Rattle.itree_data.proofs.Stored.{Stores, declared_names, known_names, take_again}
use Rattle.itree_data.proofs.Updates.{Distinct}

same_some : {A : Type 0} {x y : A} → Some x ≡ Some y → x ≡ y
same_some e = cc

-- a statement is first to do
record IsDoing (todo : List Task) : Type 0 where
  stmt : Stmt
  passed : ℕ
  rest : List Task
  is : todo ≡ Do stmt passed ∷ rest

is_ready : (todo : List Task) → IsDoing todo → IsReady todo
is_ready [] doing = tt
is_ready (Forget count ∷ rest) doing = let wrong = doing.is in absurd (cc)
is_ready (Do stmt passed ∷ rest) doing = tt

module _ (tree : Fields) (marks : List (Option Mark)) (marked : IsMarked tree.spec.decls (marked_of tree marks)) (shape : tree.shape ≡ tree.spec.shape)
    (rd : Distinct (declared_names declares_register tree.spec.decls)) (td : Distinct (declared_names declares_table tree.spec.decls))
    (first : ℕ) (back : slice_get tree.nodes 0 ≡ Some (nodes.Back first)) (body_leads : Leads tree marks [] (entered [] tree.spec.body []) first)
    (opens : Follows tree marks (first_config tree.spec) (first_standing tree)) where
  meets_none : (o : Option Config) (p : Option Standing) → Meets tree marks o p → o ≡ None → p ≡ None
  meets_none None None meets e = refl
  meets_none None (Some t) meets e = absurd meets
  meets_none (Some c) p meets e = absurd (cc)

  none_meets : (o : Option Config) (p : Option Standing) → Meets tree marks o p → p ≡ None → o ≡ None
  none_meets None p meets e = refl
  none_meets (Some c) None meets e = absurd meets
  none_meets (Some c) (Some t) meets e = absurd (cc)

  meets_some : (o : Option Config) (p : Option Standing) (c : Config) → Meets tree marks o p → o ≡ Some c → (t : Standing) × (p ≡ Some t) × Follows tree marks c t
  meets_some None p c meets e = absurd (cc)
  meets_some (Some d) None c meets e = absurd meets
  meets_some (Some d) (Some t) c meets e = let same : d ≡ c = cc in (t, refl, subst (λ c. Follows tree marks c t) same meets)

  some_meets : (o : Option Config) (p : Option Standing) (t : Standing) → Meets tree marks o p → p ≡ Some t → (c : Config) × (o ≡ Some c) × Follows tree marks c t
  some_meets o None t meets e = absurd (cc)
  some_meets None (Some u) t meets e = absurd meets
  some_meets (Some c) (Some u) t meets e = let same : u ≡ t = cc in (c, refl, subst (λ t. Follows tree marks c t) same meets)

  -- Both have done all silent work, and the tree has the locals in scope alone.
  record Rests (c : Config) (t : Standing) : Type 0 where
    follows : Follows tree marks c t
    doing : IsDoing c.todo
    locals : t.locals ≡ values_of c.locals

  doing_at : (c : Config) (todo : List Task) → c.todo ≡ todo → after_silent_work_at tree.spec c todo ≡ None → IsDoing c.todo
  doing_at c [] is none = absurd (cc)
  doing_at c (Forget count ∷ rest) is none = absurd (cc)
  doing_at c (Do stmt passed ∷ rest) is none = record { stmt = stmt; passed = passed; rest = rest; is = is }

  scope_here : (number : ℕ) (scope : List Known) (todo : List Task) → IsDoing todo → Leads tree marks scope (unbegun todo) number → scope_at tree number ≡ length scope
  scope_here number scope todo doing leads =
      let there = subst (λ todo. Leads tree marks scope (unbegun todo) number) doing.is leads in
      let stands = stands_at tree marks marked shape rd td first back body_leads number scope doing.stmt doing.rest there in
      let here : slice_get tree.scopes number ≡ Some (length scope) = stands.scope in rw here refl

  rests : (c : Config) (t : Standing) → Follows tree marks c t → IsDoing c.todo → Rests c (within_scope tree t)
  rests c t follows doing =
      let scope = scope_here t.node follows.scope c.todo doing follows.leads in
      let kept : take (scope_at tree t.node) t.locals ≡ values_of c.locals = ap (λ n. take n t.locals) scope ∙ follows.stores.locals.values in
      let all = take_again (length follows.scope) t.locals in
      record {
        follows = record {
          scope = follows.scope;
          stores = record {
            locals = record {
              names = follows.stores.locals.names;
              values = ap (λ n. take (length follows.scope) (take n t.locals)) scope ∙ all ∙ follows.stores.locals.values;
            };
            register_names = follows.stores.register_names;
            registers = follows.stores.registers;
            table_names = follows.stores.table_names;
            tables = follows.stores.tables;
            taken = follows.stores.taken;
            sent = follows.stores.sent;
          };
          leads = follows.leads;
          compared = follows.compared;
        };
        doing = doing;
        locals = kept;
      }

  -- A piece of silent work of the specification is one of the tree, or none where a block ends.
  record Passes (t : Standing) (d : Config) : Type 0 where
    after : Standing
    leads_on : (u : Standing) → TreeSettles tree after u → TreeSettles tree t u
    follows : Follows tree marks d after

  work_passes : (c : Config) (t : Standing) (d : Config) (todo : List Task) → c.todo ≡ todo → Follows tree marks c t → after_silent_work_at tree.spec c todo ≡ Some d → Passes t d
  work_passes c t d (Forget count ∷ rest) is follows gave =
      let same : record c { todo = rest; locals = take count c.locals } ≡ d = cc in
      let next = forgets tree marks marked shape rd td first back body_leads c t count rest is follows in
      record { after = t; leads_on = λ u settles. settles; follows = subst (λ d. Follows tree marks d t) same next }
  work_passes c t d [] is follows gave =
      let meets = work_meets tree marks marked shape rd td first back body_leads c t follows (subst IsReady (sym is) tt) in
      let next = meets_some (after_silent_work tree.spec c) (after_tree_work tree t) d meets (ap (after_silent_work_at tree.spec c) is ∙ gave) in
      record { after = next.0; leads_on = λ u settles. tree_passes next.1 settles; follows = next.2 }
  work_passes c t d (Do stmt passed ∷ rest) is follows gave =
      let meets = work_meets tree marks marked shape rd td first back body_leads c t follows (subst IsReady (sym is) tt) in
      let next = meets_some (after_silent_work tree.spec c) (after_tree_work tree t) d meets (ap (after_silent_work_at tree.spec c) is ∙ gave) in
      record { after = next.0; leads_on = λ u settles. tree_passes next.1 settles; follows = next.2 }

  -- Where the specification settles, the tree does.
  settles_too : (c d : Config) (t : Standing) → Settles tree.spec c d → Follows tree marks c t → (u : Standing) × TreeSettles tree t u × Rests d u
  settles_too c _ t (settled none) follows =
      let doing = doing_at c c.todo refl none in
      let meets = work_meets tree marks marked shape rd td first back body_leads c t follows (is_ready c.todo doing) in
      let tree_none = meets_none (after_silent_work tree.spec c) (after_tree_work tree t) meets none in
      (within_scope tree t, tree_settled tree_none, rests c t follows doing)
  settles_too c e t (passes gave more) follows =
      let next = work_passes c t _ c.todo refl follows gave in
      let rest = settles_too _ e next.after more next.follows in (rest.0, next.leads_on rest.0 rest.1, rest.2)

  -- the specification behind the ends of blocks that stand first
  record Skips (c : Config) (t : Standing) : Type 0 where
    after : Config
    leads_on : (d : Config) → Settles tree.spec after d → Settles tree.spec c d
    follows : Follows tree marks after t
    ready : IsReady after.todo

  skips : (todo : List Task) (c : Config) (t : Standing) → c.todo ≡ todo → Follows tree marks c t → Skips c t
  skips [] c t is follows = record { after = c; leads_on = λ d settles. settles; follows = follows; ready = subst IsReady (sym is) tt }
  skips (Do stmt passed ∷ rest) c t is follows = record { after = c; leads_on = λ d settles. settles; follows = follows; ready = subst IsReady (sym is) tt }
  skips (Forget count ∷ rest) c t is follows =
      let forgot : Config = record c { todo = rest; locals = take count c.locals } in
      let next = skips rest forgot t refl (forgets tree marks marked shape rd td first back body_leads c t count rest is follows) in
      let gave : after_silent_work tree.spec c ≡ Some forgot = ap (after_silent_work_at tree.spec c) is in
      record { after = next.after; leads_on = λ d settles. passes gave (next.leads_on d settles); follows = next.follows; ready = next.ready }

  -- Where the tree settles, the specification does.
  tree_settles_too : (t u : Standing) (c : Config) → TreeSettles tree t u → Follows tree marks c t → (d : Config) × Settles tree.spec c d × Rests d u
  tree_settles_too t _ c (tree_settled none) follows =
      let skip = skips c.todo c t refl follows in
      let meets = work_meets tree marks marked shape rd td first back body_leads skip.after t skip.follows skip.ready in
      let spec_none = none_meets (after_silent_work tree.spec skip.after) (after_tree_work tree t) meets none in
      let doing = doing_at skip.after skip.after.todo refl spec_none in
      (skip.after, skip.leads_on skip.after (settled spec_none), rests skip.after t skip.follows doing)
  tree_settles_too t v c (tree_passes gave more) follows =
      let skip = skips c.todo c t refl follows in
      let meets = work_meets tree marks marked shape rd td first back body_leads skip.after t skip.follows skip.ready in
      let next = some_meets (after_silent_work tree.spec skip.after) (after_tree_work tree t) _ meets gave in
      let rest = tree_settles_too _ v next.0 more next.2 in
      (rest.0, skip.leads_on rest.0 (passes next.1 rest.1), rest.2)

  step_too : (c d : Config) (t : Standing) (event : ServerEvent) → Rests c t → Step tree.spec c event d → (u : Standing) × TreeStep tree t event u × Rests d u
  step_too c d t event resting (middle, gave, settles) =
      let meets = events_meet tree marks marked shape rd td first back body_leads c t resting.follows (is_ready c.todo resting.doing) event in
      let next = meets_some (after_event tree.spec c event) (after_tree_event tree t event) middle meets gave in
      let rest = settles_too middle d next.0 settles next.2 in (rest.0, (next.0, next.1, rest.1), rest.2)

  tree_step_too : (t u : Standing) (c : Config) (event : ServerEvent) → Rests c t → TreeStep tree t event u → (d : Config) × Step tree.spec c event d × Rests d u
  tree_step_too t u c event resting (middle, gave, settles) =
      let meets = events_meet tree marks marked shape rd td first back body_leads c t resting.follows (is_ready c.todo resting.doing) event in
      let next = some_meets (after_event tree.spec c event) (after_tree_event tree t event) middle meets gave in
      let rest = tree_settles_too middle u next.0 settles next.2 in (rest.0, (next.0, next.1, rest.1), rest.2)

  steps_too : (events : List ServerEvent) (c d : Config) (t : Standing) → Rests c t → Steps tree.spec c events d → (u : Standing) × TreeSteps tree t events u × Rests d u
  steps_too [] c d t resting same = (t, refl, subst (λ d. Rests d t) same resting)
  steps_too (event ∷ events) c d t resting (middle, step, steps) =
      let one = step_too c middle t event resting step in
      let rest = steps_too events middle d one.0 one.2 steps in (rest.0, (one.0, one.1, rest.1), rest.2)

  tree_steps_too : (events : List ServerEvent) (t u : Standing) (c : Config) → Rests c t → TreeSteps tree t events u → (d : Config) × Steps tree.spec c events d × Rests d u
  tree_steps_too [] t u c resting same = (c, refl, subst (λ u. Rests c u) same resting)
  tree_steps_too (event ∷ events) t u c resting (middle, step, steps) =
      let one = tree_step_too t middle c event resting step in
      let rest = tree_steps_too events middle u one.0 one.2 steps in (rest.0, (one.0, one.1, rest.1), rest.2)

  runs_too : (events : List ServerEvent) (c : Config) → RunsTo tree.spec events c → (t : Standing) × TreeRunsTo tree events t × Rests c t
  runs_too events c (opening, settles, steps) =
      let begun = settles_too (first_config tree.spec) opening (first_standing tree) settles opens in
      let rest = steps_too events opening c begun.0 begun.2 steps in (rest.0, (begun.0, begun.1, rest.1), rest.2)

  tree_runs_too : (events : List ServerEvent) (t : Standing) → TreeRunsTo tree events t → (c : Config) × RunsTo tree.spec events c × Rests c t
  tree_runs_too events t (opening, settles, steps) =
      let begun = tree_settles_too (first_standing tree) opening (first_config tree.spec) settles opens in
      let rest = tree_steps_too events opening t begun.0 begun.2 steps in (rest.0, (begun.0, begun.1, rest.1), rest.2)

  -- A tree settles in one way.
  one_rest : (t u v : Standing) → TreeSettles tree t u → TreeSettles tree t v → u ≡ v
  one_rest t _ _ (tree_settled none) (tree_settled other) = refl
  one_rest t _ v (tree_settled none) (tree_passes gave more) = absurd (let wrong = sym none ∙ gave in cc)
  one_rest t u _ (tree_passes gave more) (tree_settled none) = absurd (let wrong = sym none ∙ gave in cc)
  one_rest t u v (tree_passes gave more) (tree_passes other other_more) =
      let both = sym other ∙ gave in let same = same_some both in one_rest _ u v more (subst (λ w. TreeSettles tree w v) same other_more)

  one_step : (t u v : Standing) (event : ServerEvent) → TreeStep tree t event u → TreeStep tree t event v → u ≡ v
  one_step t u v event (middle, gave, settles) (other, other_gave, other_settles) =
      let both = sym other_gave ∙ gave in let same = same_some both in one_rest middle u v settles (subst (λ w. TreeSettles tree w v) same other_settles)

  one_end : (events : List ServerEvent) (t u v : Standing) → TreeSteps tree t events u → TreeSteps tree t events v → u ≡ v
  one_end [] t u v same other = sym same ∙ other
  one_end (event ∷ events) t u v (middle, step, steps) (other, other_step, other_steps) =
      let same = one_step t other middle event other_step step in one_end events middle u v steps (subst (λ w. TreeSteps tree w events v) same other_steps)

  one_run : (events : List ServerEvent) (t u : Standing) → TreeRunsTo tree events t → TreeRunsTo tree events u → t ≡ u
  one_run events t u (opening, settles, steps) (other, other_settles, other_steps) =
      let same = one_rest (first_standing tree) other opening other_settles settles in
      one_end events opening t u steps (subst (λ w. TreeSteps tree w events u) same other_steps)

  -- The tree makes the runs of its specification.
  pub keeps_runs : KeepsRuns tree
  keeps_runs events = (
    λ run. let too = tree_runs_too events run.0 run.1 in (too.0, too.1),
    λ run. let too = runs_too events run.0 run.1 in (too.0, too.1),
  )

  rests_at_end : (events : List ServerEvent) (c : Config) (t : Standing) → RunsTo tree.spec events c → TreeRunsTo tree events t → Rests c t
  rests_at_end events c t run tree_run =
      let too = runs_too events c run in subst (λ t. Rests c t) (one_run events too.0 t too.1 tree_run) too.2

  pub keeps_state : KeepsState tree
  keeps_state events c t run tree_run =
      let resting = rests_at_end events c t run tree_run in
      record {
        registers = resting.follows.stores.registers;
        tables = resting.follows.stores.tables;
        locals = resting.locals;
        taken = resting.follows.stores.taken;
        sent = resting.follows.stores.sent;
      }

  -- what stands first to do where a tree rests is the mark of its node
  mark_here : (c : Config) (t : Standing) (resting : Rests c t)
      → slice_get marks t.node ≡ Some (Some (record { scope = resting.follows.scope; todo = Do resting.doing.stmt 0 ∷ resting.doing.rest }))
  mark_here c t resting = resting.follows.leads.marked ∙ ap (λ todo. Some (Some (ready resting.follows.scope (unbegun todo)))) resting.doing.is

  compared_here : (c : Config) (t : Standing) (resting : Rests c t) → t.compared ≡ resting.doing.passed
  compared_here c t resting = resting.follows.compared ∙ ap passed_of resting.doing.is

  same_place : (c d : Config) (t u : Standing) → Rests c t → Rests d u → place_of t ≡ place_of u → c.todo ≡ d.todo
  same_place c d t u here there same =
      let node : t.node ≡ u.node = ap (λ (place : ℕ × ℕ). place.0) same in
      let passed : here.doing.passed ≡ there.doing.passed = sym (compared_here c t here) ∙ ap (λ (place : ℕ × ℕ). place.1) same ∙ compared_here d u there in
      let both = sym (mark_here c t here) ∙ ap (slice_get marks) node ∙ mark_here d u there in
      let mark = same_some (same_some both) in
      let todo : Do here.doing.stmt 0 ∷ here.doing.rest ≡ Do there.doing.stmt 0 ∷ there.doing.rest = ap (λ (mark : Mark). mark.todo) mark in
      let stmt : here.doing.stmt ≡ there.doing.stmt = cc in
      let rest : here.doing.rest ≡ there.doing.rest = cc in
      here.doing.is ∙ ap (λ stmt. Do stmt here.doing.passed ∷ here.doing.rest) stmt ∙ ap (λ n. Do there.doing.stmt n ∷ here.doing.rest) passed
      ∙ ap (λ rest. Do there.doing.stmt there.doing.passed ∷ rest) rest ∙ sym there.doing.is

  -- A statement that is to do has one node.
  abbrev pub HasOneNode : Type 0
  HasOneNode = (number other : ℕ) (mark other_mark : Mark) (stmt : Stmt) (rest : List Task) → slice_get marks number ≡ Some (Some mark) → slice_get marks other ≡ Some (Some other_mark)
      → mark.todo ≡ Do stmt 0 ∷ rest → other_mark.todo ≡ Do stmt 0 ∷ rest → number ≡ other

  same_todo : HasOneNode → (c d : Config) (t u : Standing) → Rests c t → Rests d u → c.todo ≡ d.todo → place_of t ≡ place_of u
  same_todo one c d t u here there same =
      let tasks : Do here.doing.stmt here.doing.passed ∷ here.doing.rest ≡ Do there.doing.stmt there.doing.passed ∷ there.doing.rest = sym here.doing.is ∙ same ∙ there.doing.is in
      let stmt : here.doing.stmt ≡ there.doing.stmt = cc in
      let passed : here.doing.passed ≡ there.doing.passed = cc in
      let rest : here.doing.rest ≡ there.doing.rest = cc in
      let todo : Do there.doing.stmt 0 ∷ there.doing.rest ≡ Do here.doing.stmt 0 ∷ here.doing.rest
      = ap (λ stmt. Do stmt 0 ∷ there.doing.rest) (sym stmt) ∙ ap (λ rest. Do here.doing.stmt 0 ∷ rest) (sym rest) in
      let node : t.node ≡ u.node = one t.node u.node _ _ here.doing.stmt here.doing.rest (mark_here c t here) (mark_here d u there) refl todo in
      let compared : t.compared ≡ u.compared = compared_here c t here ∙ passed ∙ sym (compared_here d u there) in
      ap (λ n. (n, t.compared)) node ∙ ap (λ n. (u.node, n)) compared

  pub keeps_places : HasOneNode → KeepsPlaces tree
  keeps_places one events others c d t u run other tree_run tree_other =
      let here = rests_at_end events c t run tree_run in let there = rests_at_end others d u other tree_other in
      (same_todo one c d t u here there, same_place c d t u here there)

  same_names : (c d : Config) (t u : Standing) → Rests c t → Rests d u → place_of t ≡ place_of u → names_of c.locals ≡ names_of d.locals
  same_names c d t u here there same =
      let node : t.node ≡ u.node = ap (λ (place : ℕ × ℕ). place.0) same in
      let both = sym (mark_here c t here) ∙ ap (slice_get marks) node ∙ mark_here d u there in
      let scope = ap (λ (mark : Mark). mark.scope) (same_some (same_some both)) in
      here.follows.stores.locals.names ∙ ap known_names scope ∙ sym there.follows.stores.locals.names

  pub keeps_names : Stores tree.spec.decls [] (idle_config tree.spec) (first_standing tree) → KeepsNames tree
  keeps_names stored = record {
    locals = λ events others c d t u run other tree_run tree_other same.
        same_names c d t u (rests_at_end events c t run tree_run) (rests_at_end others d u other tree_other) same;
    registers = λ events c run. (let resting = (runs_too events c run).2 in resting.follows.stores.register_names ∙ sym stored.register_names);
    tables = λ events c run. (let resting = (runs_too events c run).2 in resting.follows.stores.table_names ∙ sym stored.table_names);
  }
