-- The blocks of a statement are sound as it is, and their nodes make it.
use Rattle.std.proofs.Common.{◌≡◌, ℕ, suc, ◌+◌, ◌-◌, ◌<◌, ◌≤◌, List, [], ◌∷◌, ◌++◌, length, get_or, map, take, drop, Some, None, refl, sym, ◌∙◌, ap, subst, arith, append_assoc, append-nil}
use Rattle.std.specs.Prelude.{reverse, slice_get}
use Rattle.std.proofs.lemmas.List.{drop_more, reverse-append, take-append-drop}
use Rattle.spec_model.specs.declared.tree.Block.{Block}
use Rattle.spec_model.specs.declared.tree.Case.{Case, out-Case}
use Rattle.spec_model.specs.declared.tree.Chan.{Chan}
use Rattle.spec_model.specs.declared.tree.Cond.{Cond}
use Rattle.spec_model.specs.declared.tree.Decl.{Decl}
use Rattle.spec_model.specs.declared.tree.Expr.{Expr}
use Rattle.spec_model.specs.declared.tree.Kind.TheOpen.{Recv, If, Either, Assume, Lookup}
use Rattle.spec_model.specs.declared.tree.Stmt.{Stmt}
use Rattle.spec_model.specs.Config.{StmtKind, kind_of, stmts_of}
use Rattle.spec_rules.specs.declared.names.Known.{Known}
use Rattle.spec_rules.specs.declared.names.ValueType.TheVariants.{Text}
use Rattle.spec_rules.specs.Names.{local, names_of_chan, names_of_pattern}
use Rattle.spec_rules.specs.Place.{Inner, bound_behind, without_names}
use Rattle.itree_data.specs.declared.node.TakeCase.{TakeCase}
use Rattle.itree_data.specs.declared.nodes.Nodes.{Nodes}
use Rattle.itree_data.specs.Leaves.{PutsCond, PutsFinding, PutsTaking}
use Rattle.itree_data.specs.Making.{AreArmsSound, AreCasesSound, AreSound, IsAllSound, MakesArms, MakesBlock, MakesCases, MakesStmt, MakesStmts, PutsKind}
use Rattle.itree_data.specs.Marks.{LeadsTo}
use Rattle.itree_data.specs.Resolve.{slotted}
use Rattle.itree_data.specs.Scope.{bound_by}
use Rattle.itree_data.proofs.Composing.{arms_step, block_makes, cases_step, if_makes, lookup_makes, recv_makes, stmts_step}
use Rattle.itree_data.proofs.Scopes.{bound_append, take_next}
use Rattle.itree_data.proofs.TextPlaces.{places_in_block}

drop_at : {A : Type 0} (xs : List A) (i : ℕ) (x : A) → i < length xs → x ≡ get_or xs i x → drop i xs ≡ x ∷ drop (i + 1) xs
drop_at xs i x within is = drop_more xs i x within ∙ ap (λ y. y ∷ drop (i + 1) xs) (sym is)

last_first : {A : Type 0} (xs : List A) (x : A) → x ∷ reverse xs ≡ reverse (xs ++ x ∷ [])
last_first xs x = sym (reverse-append xs (x ∷ []))

module _ (decls : List Decl) where
  -- The blocks of a statement are sound, by their numbers.
  abbrev AreInnersSound : List Known → List Inner → Type 0
  AreInnersSound scope inners = (number : ℕ) (inner : Inner) → slice_get inners number ≡ Some inner → AreSound decls (scope ++ inner.bound) (stmts_of inner.block)

  abbrev case_inner : Chan → Case → Inner
  case_inner chan case = record { bound = names_of_chan chan ++ names_of_pattern (out-Case case).items; block = (out-Case case).block }

  each_arm : (scope : List Known) (arms : List Block) → AreInnersSound scope (map without_names arms) → AreArmsSound decls scope arms
  each_arm scope [] sound = tt
  each_arm scope (arm ∷ arms) sound = (
    subst (λ scope. AreSound decls scope (stmts_of arm)) (append-nil scope) (sound 0 (without_names arm) refl),
    each_arm scope arms (λ number inner is. sound (suc number) inner is),
  )

  each_case : (scope : List Known) (chan : Chan) (cases : List Case) (last : Inner) → AreInnersSound scope (map (case_inner chan) cases ++ last ∷ [])
      → AreCasesSound decls (scope ++ names_of_chan chan) cases
  each_case scope chan [] last sound = tt
  each_case scope chan (case ∷ cases) last sound = (
    subst (λ scope. AreSound decls scope (stmts_of (out-Case case).block)) (sym (append_assoc scope (names_of_chan chan) (names_of_pattern (out-Case case).items))) (sound 0 (case_inner chan case) refl),
    each_case scope chan cases last (λ number inner is. sound (suc number) inner is),
  )

  last_case : (scope : List Known) (chan : Chan) (cases : List Case) (last : Inner) → AreInnersSound scope (map (case_inner chan) cases ++ last ∷ [])
      → AreSound decls (scope ++ last.bound) (stmts_of last.block)
  last_case scope chan [] last sound = sound 0 last refl
  last_case scope chan (case ∷ cases) last sound = last_case scope chan cases last (λ number inner is. sound (suc number) inner is)

  of_kind : (scope : List Known) (stmt : Stmt) (kind : StmtKind) → kind_of stmt ≡ kind → IsAllSound decls scope (kind_of stmt) → IsAllSound decls scope kind
  of_kind scope stmt kind is sound = subst (IsAllSound decls scope) is sound

  pub sound_arms : (scope : List Known) (stmt : Stmt) (arms : List Block) → kind_of stmt ≡ Either arms → IsAllSound decls scope (kind_of stmt) → AreArmsSound decls scope arms
  sound_arms scope stmt arms is sound = each_arm scope arms (of_kind scope stmt (Either arms) is sound).inside

  pub sound_cases : (scope named : List Known) (stmt : Stmt) (chan : Chan) (cases : List Case) (other : List ℕ) (block : Block) → kind_of stmt ≡ Recv chan cases other block
      → named ≡ scope ++ names_of_chan chan → IsAllSound decls scope (kind_of stmt) → AreCasesSound decls named cases
  sound_cases scope named stmt chan cases other block is named_is sound =
      subst (λ named. AreCasesSound decls named cases) (sym named_is)
      (each_case scope chan cases (record { bound = names_of_chan chan ++ local other Text ∷ []; block = block }) (of_kind scope stmt (Recv chan cases other block) is sound).inside)

  pub sound_rest : (scope inner : List Known) (stmt : Stmt) (chan : Chan) (cases : List Case) (other : List ℕ) (block : Block) → kind_of stmt ≡ Recv chan cases other block
      → inner ≡ scope ++ (names_of_chan chan ++ local other Text ∷ []) → IsAllSound decls scope (kind_of stmt) → AreSound decls inner (stmts_of block)
  sound_rest scope inner stmt chan cases other block is inner_is sound =
      subst (λ inner. AreSound decls inner (stmts_of block)) (sym inner_is)
      (last_case scope chan cases (record { bound = names_of_chan chan ++ local other Text ∷ []; block = block }) (of_kind scope stmt (Recv chan cases other block) is sound).inside)

  pub sound_holds : (scope : List Known) (stmt : Stmt) (cond : Cond) (holds fails : Block) → kind_of stmt ≡ If cond holds fails → IsAllSound decls scope (kind_of stmt) → AreSound decls scope (stmts_of holds)
  sound_holds scope stmt cond holds fails is sound =
      subst (λ scope. AreSound decls scope (stmts_of holds)) (append-nil scope) ((of_kind scope stmt (If cond holds fails) is sound).inside 0 (without_names holds) refl)

  pub sound_fails : (scope : List Known) (stmt : Stmt) (cond : Cond) (holds fails : Block) → kind_of stmt ≡ If cond holds fails → IsAllSound decls scope (kind_of stmt) → AreSound decls scope (stmts_of fails)
  sound_fails scope stmt cond holds fails is sound =
      subst (λ scope. AreSound decls scope (stmts_of fails)) (append-nil scope) ((of_kind scope stmt (If cond holds fails) is sound).inside 1 (without_names fails) refl)

  pub sound_found : (scope inner : List Known) (stmt : Stmt) (name : List ℕ) (key : Expr) (bound : List ℕ) (found absent : Block) → kind_of stmt ≡ Lookup name key bound found absent
      → inner ≡ scope ++ local bound Text ∷ [] → IsAllSound decls scope (kind_of stmt) → AreSound decls inner (stmts_of found)
  sound_found scope inner stmt name key bound found absent is inner_is sound =
      subst (λ inner. AreSound decls inner (stmts_of found)) (sym inner_is)
      ((of_kind scope stmt (Lookup name key bound found absent) is sound).inside 0 (record { bound = local bound Text ∷ []; block = found }) refl)

  pub sound_absent : (scope : List Known) (stmt : Stmt) (name : List ℕ) (key : Expr) (bound : List ℕ) (found absent : Block) → kind_of stmt ≡ Lookup name key bound found absent
      → IsAllSound decls scope (kind_of stmt) → AreSound decls scope (stmts_of absent)
  sound_absent scope stmt name key bound found absent is sound =
      subst (λ scope. AreSound decls scope (stmts_of absent)) (append-nil scope) ((of_kind scope stmt (Lookup name key bound found absent) is sound).inside 1 (without_names absent) refl)

  -- The nodes of a block, from those of its statements.
  block_of : (scope names inner : List Known) (block : Block) (next : ℕ) (old new : Nodes) (first : ℕ) → inner ≡ scope ++ names
      → MakesStmts decls inner (stmts_of block) next old new first → MakesBlock decls scope names block next old new first
  block_of scope names inner block next old new first is makes =
      block_makes decls scope names block next old new first (places_in_block block) (subst (λ inner. MakesStmts decls inner (stmts_of block) next old new first) is makes)

  plain_block : (scope : List Known) (block : Block) (next : ℕ) (old new : Nodes) (first : ℕ) → MakesStmts decls scope (stmts_of block) next old new first → MakesBlock decls scope [] block next old new first
  plain_block scope block next old new first makes = block_of scope [] scope block next old new first (sym (append-nil scope)) makes

  pub makes_if : (scope : List Known) (stmt : Stmt) (cond : Cond) (holds fails : Block) (next on_true on_false : ℕ) (old middle last new : Nodes) (first : ℕ) → kind_of stmt ≡ If cond holds fails
      → MakesStmts decls scope (stmts_of fails) next old middle on_false → MakesStmts decls scope (stmts_of holds) next middle last on_true
      → PutsCond decls scope cond on_true (Some on_false) last new first → MakesStmt decls scope stmt next old new first
  makes_if scope stmt cond holds fails next on_true on_false old middle last new first is makes_fails makes_holds puts =
      if_makes decls scope stmt cond holds fails puts.left puts.right next on_true on_false old middle last new first is puts.left_is puts.right_is
      (plain_block scope fails next old middle on_false makes_fails) (plain_block scope holds next middle last on_true makes_holds) puts.put

  pub assume_puts : (scope : List Known) (cond : Cond) (next : ℕ) (old new : Nodes) (first : ℕ) → PutsCond decls scope cond next None old new first → PutsKind decls scope (Assume cond) next old new first
  assume_puts scope cond next old new first puts = record {
    node = _;
    put = puts.put;
    does = λ m rest leads. (
      next,
      record { left = puts.left; right = puts.right; is = refl; left_is = puts.left_is; right_is = puts.right_is },
      subst (λ scope. LeadsTo m.marks scope rest next) (append-nil scope) leads,
    );
  }

  pub makes_recv : (scope named inner : List Known) (stmt : Stmt) (chan : Chan) (cases : List Case) (other : List ℕ) (block : Block) (taken : List TakeCase) (next inside : ℕ)
      (old middle last new : Nodes) (first : ℕ) → kind_of stmt ≡ Recv chan cases other block → named ≡ scope ++ names_of_chan chan
      → inner ≡ scope ++ (names_of_chan chan ++ local other Text ∷ []) → MakesStmts decls inner (stmts_of block) next old middle inside
      → MakesCases decls scope named cases next middle last taken → PutsTaking decls scope chan taken inside last new first → MakesStmt decls scope stmt next old new first
  makes_recv scope named inner stmt chan cases other block taken next inside old middle last new first is named_is inner_is makes_block makes_cases puts =
      recv_makes decls scope stmt chan cases other block puts.from puts.conn taken next inside old middle last new first is puts.chan_is
      (block_of scope (names_of_chan chan ++ local other Text ∷ []) inner block next old middle inside inner_is makes_block)
      (subst (λ named. MakesCases decls scope named cases next middle last taken) named_is makes_cases) puts.put

  pub makes_lookup : (scope inner : List Known) (stmt : Stmt) (name : List ℕ) (key : Expr) (bound : List ℕ) (found absent : Block) (next inside otherwise : ℕ) (old middle last new : Nodes) (first : ℕ)
      → kind_of stmt ≡ Lookup name key bound found absent → inner ≡ scope ++ local bound Text ∷ [] → MakesStmts decls scope (stmts_of absent) next old middle otherwise
      → MakesStmts decls inner (stmts_of found) next middle last inside → PutsFinding decls scope name key inside otherwise last new first → MakesStmt decls scope stmt next old new first
  makes_lookup scope inner stmt name key bound found absent next inside otherwise old middle last new first is inner_is makes_absent makes_found puts =
      lookup_makes decls scope stmt name key bound found absent puts.table puts.key_val next inside otherwise puts.holds old middle last puts.last new first is puts.table_is puts.key_is
      (plain_block scope absent next old middle otherwise makes_absent) (block_of scope (local bound Text ∷ []) inner found next middle last inside inner_is makes_found) puts.put_bind puts.put

  -- One more statement is made, before those that are.
  stmts_before : (scope inner : List Known) (stmts : List Stmt) (next then : ℕ) (old middle new : Nodes) (first i : ℕ) (stmt : Stmt) → i < length stmts → stmt ≡ get_or stmts i stmt
      → inner ≡ scope ++ bound_by (take i stmts) → MakesStmts decls (scope ++ bound_by (take (i + 1) stmts)) (drop (i + 1) stmts) next old middle then
      → MakesStmt decls inner stmt then middle new first → MakesStmts decls (scope ++ bound_by (take i stmts)) (drop i stmts) next old new first
  stmts_before scope inner stmts next then old middle new first i stmt within is inner_is later now =
      let known = scope ++ bound_by (take i stmts) in
      let known_next : scope ++ bound_by (take (i + 1) stmts) ≡ known ++ bound_behind (kind_of stmt)
      = ap (λ names. scope ++ names) (ap bound_by (take_next stmts i stmt within is) ∙ bound_append (take i stmts) (stmt ∷ [])
      ∙ ap (λ more. bound_by (take i stmts) ++ more) (append-nil (bound_behind (kind_of stmt)))) ∙ sym (append_assoc scope (bound_by (take i stmts)) (bound_behind (kind_of stmt))) in
      let later_here = subst (λ names. MakesStmts decls names (drop (i + 1) stmts) next old middle then) known_next later in
      let now_here = subst (λ inner. MakesStmt decls inner stmt then middle new first) inner_is now in
      subst (λ xs. MakesStmts decls known xs next old new first) (sym (drop_at stmts i stmt within is))
      (stmts_step decls known stmt (drop (i + 1) stmts) next then old middle new first later_here now_here)

  pub stmts_next : (scope inner : List Known) (stmts : List Stmt) (next then : ℕ) (old middle new : Nodes) (first left : ℕ) (stmt : Stmt) → 0 < left → left ≤ length stmts → stmt ≡ get_or stmts (left - 1) stmt
      → inner ≡ scope ++ bound_by (take (left - 1) stmts) → MakesStmts decls (scope ++ bound_by (take left stmts)) (drop left stmts) next old middle then
      → MakesStmt decls inner stmt then middle new first → MakesStmts decls (scope ++ bound_by (take (left - 1) stmts)) (drop (left - 1) stmts) next old new first
  stmts_next scope inner stmts next then old middle new first left stmt some within is inner_is later now =
      let before : left ≡ left - 1 + 1 = omega (arith, some) in
      stmts_before scope inner stmts next then old middle new first (left - 1) stmt (omega (arith, some, within)) is inner_is
      (subst (λ n. MakesStmts decls (scope ++ bound_by (take n stmts)) (drop n stmts) next old middle then) before later) now

  -- One more arm is made, before those that are.
  arms_before : (scope : List Known) (arms : List Block) (targets : List ℕ) (next target : ℕ) (old middle new : Nodes) (i : ℕ) (arm : Block) → i < length arms → arm ≡ get_or arms i arm
      → MakesArms decls scope (drop (i + 1) arms) next old middle (reverse targets) → MakesStmts decls scope (stmts_of arm) next middle new target
      → MakesArms decls scope (drop i arms) next old new (reverse (targets ++ target ∷ []))
  arms_before scope arms targets next target old middle new i arm within is later now =
      subst (λ targets. MakesArms decls scope (drop i arms) next old new targets) (last_first targets target)
      (subst (λ xs. MakesArms decls scope xs next old new (target ∷ reverse targets)) (sym (drop_at arms i arm within is))
      (arms_step decls scope arm (drop (i + 1) arms) (reverse targets) next target old middle new later (plain_block scope arm next middle new target now)))

  pub arms_next : (scope : List Known) (arms : List Block) (targets : List ℕ) (next target : ℕ) (old middle new : Nodes) (left : ℕ) (arm : Block) → 0 < left → left ≤ length arms → arm ≡ get_or arms (left - 1) arm
      → MakesArms decls scope (drop left arms) next old middle (reverse targets) → MakesStmts decls scope (stmts_of arm) next middle new target
      → MakesArms decls scope (drop (left - 1) arms) next old new (reverse (targets ++ target ∷ []))
  arms_next scope arms targets next target old middle new left arm some within is later now =
      let before : left ≡ left - 1 + 1 = omega (arith, some) in
      arms_before scope arms targets next target old middle new (left - 1) arm (omega (arith, some, within)) is
      (subst (λ n. MakesArms decls scope (drop n arms) next old middle (reverse targets)) before later) now

  -- One more case is made, before those that are.
  cases_before : (scope names : List Known) (cases : List Case) (taken : List TakeCase) (next : ℕ) (old middle new : Nodes) (i : ℕ) (case : Case) (one : TakeCase) → i < length cases
      → case ≡ get_or cases i case → one.items ≡ slotted (length (scope ++ names)) (out-Case case).items
      → MakesCases decls (scope) (scope ++ names) (drop (i + 1) cases) next old middle (reverse taken)
      → MakesStmts decls ((scope ++ names) ++ names_of_pattern (out-Case case).items) (stmts_of (out-Case case).block) next middle new one.next
      → MakesCases decls scope (scope ++ names) (drop i cases) next old new (reverse (taken ++ one ∷ []))
  cases_before scope names cases taken next old middle new i case one within is items later now =
      subst (λ taken. MakesCases decls scope (scope ++ names) (drop i cases) next old new taken) (last_first taken one)
      (subst (λ xs. MakesCases decls scope (scope ++ names) xs next old new (one ∷ reverse taken)) (sym (drop_at cases i case within is))
      (cases_step decls scope names case (drop (i + 1) cases) one (reverse taken) next old middle new items later
      (block_of scope (names ++ names_of_pattern (out-Case case).items) ((scope ++ names) ++ names_of_pattern (out-Case case).items) (out-Case case).block next middle new one.next
      (append_assoc scope names (names_of_pattern (out-Case case).items)) now)))

  pub cases_next : (scope named inner : List Known) (cases : List Case) (taken : List TakeCase) (next : ℕ) (old middle new : Nodes) (left : ℕ) (case : Case) (one : TakeCase) → 0 < left
      → left ≤ length cases → case ≡ get_or cases (left - 1) case → take (length scope) named ≡ scope → inner ≡ named ++ names_of_pattern (out-Case case).items
      → one.items ≡ slotted (length named) (out-Case case).items → MakesCases decls scope named (drop left cases) next old middle (reverse taken)
      → MakesStmts decls inner (stmts_of (out-Case case).block) next middle new one.next
      → MakesCases decls scope named (drop (left - 1) cases) next old new (reverse (taken ++ one ∷ []))
  cases_next scope named inner cases taken next old middle new left case one some within is begins inner_is items later now =
      let before : left ≡ left - 1 + 1 = omega (arith, some) in
      let names = drop (length scope) named in
      let whole : named ≡ scope ++ names = sym (take-append-drop (length scope) named) ∙ ap (λ front. front ++ names) begins in
      let later_here = subst (λ n. MakesCases decls scope named (drop n cases) next old middle (reverse taken)) before later in
      let inner_whole = inner_is ∙ ap (λ named. named ++ names_of_pattern (out-Case case).items) whole in
      subst (λ named. MakesCases decls scope named (drop (left - 1) cases) next old new (reverse (taken ++ one ∷ []))) (sym whole)
      (cases_before scope names cases taken next old middle new (left - 1) case one (omega (arith, some, within)) is
      (items ∙ ap (λ named. slotted (length named) (out-Case case).items) whole)
      (subst (λ named. MakesCases decls scope named (drop (left - 1 + 1) cases) next old middle (reverse taken)) whole later_here)
      (subst (λ inner. MakesStmts decls inner (stmts_of (out-Case case).block) next middle new one.next) inner_whole now))
