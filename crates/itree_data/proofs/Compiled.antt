-- A compiled tree is a tree of its specification.
use Rattle.std.proofs.Common.{◌≡◌, ℕ, inl, inr, List, [], ◌∷◌, length, map, replicate, filter, filter_map, Option, Some, None, refl, ◌∙◌, ap, subst, arith}
use Rattle.std.specs.Prelude.{slice_get}
use Rattle.std.proofs.lemmas.Bool.{cases_order}
use Rattle.spec_model.specs.declared.config.Pair.{Pair}
use Rattle.spec_model.specs.declared.config.Task.{Task}
use Rattle.spec_model.specs.declared.config.Task.TheVariants.{Do}
use Rattle.spec_model.specs.declared.event.Shape.{Shape}
use Rattle.spec_model.specs.declared.tree.Block.{Block}
use Rattle.spec_model.specs.declared.tree.Decl.{Decl}
use Rattle.spec_model.specs.declared.tree.First.{First}
use Rattle.spec_model.specs.declared.tree.First.TheVariants as firsts
use Rattle.spec_model.specs.declared.tree.Stmt.{Stmt}
use Rattle.spec_model.specs.Config.{after_start, first_config, first_value, idle_config, register_of, table_of}
use Rattle.spec_rules.specs.Accepted.{IsAccepted}
use Rattle.spec_rules.specs.Bad.{declares_register, declares_table}
use Rattle.itree_data.specs.Fields.{Fields}
use Rattle.itree_data.specs.Laws.{IsTreeOf}
use Rattle.itree_data.specs.Marks.{IsCompiled, LeadsTo, Mark, opening_todo}
use Rattle.itree_data.specs.Standing.{first_standing}
use Rattle.itree_data.proofs.Declared.{declared_distinct}
use Rattle.itree_data.proofs.Follows.{Follows, goes_in_plain, goes_on}
use Rattle.itree_data.proofs.Places.{names_of, values_of}
use Rattle.itree_data.proofs.Settling.{keeps_names, keeps_places, keeps_runs, keeps_state}
use Rattle.itree_data.proofs.Stored.{Stores, declared_names, pairs_of, table_names}
use Rattle.itree_data.proofs.Updates.{Distinct}

-- the registers and tables of the opening, one declaration after the other
register_step : (decl : Decl) (decls : List Decl) (first : First) → decl.first ≡ first
    → names_of (filter_map register_of decls) ≡ declared_names declares_register decls → names_of (filter_map register_of (decl ∷ decls)) ≡ declared_names declares_register (decl ∷ decls)
register_step decl decls (firsts.Text text) is later = rw (is, later) refl
register_step decl decls (firsts.Num number) is later = rw (is, later) refl
register_step decl decls (firsts.Conn conn) is later = rw (is, later) refl
register_step decl decls firsts.Table is later = rw (is, later) refl

opening_registers : (decls : List Decl) → names_of (filter_map register_of decls) ≡ declared_names declares_register decls
opening_registers [] = refl
opening_registers (decl ∷ decls) = register_step decl decls decl.first refl (opening_registers decls)

table_step : (decl : Decl) (decls : List Decl) (first : First) → decl.first ≡ first
    → table_names (filter_map table_of decls) ≡ declared_names declares_table decls → table_names (filter_map table_of (decl ∷ decls)) ≡ declared_names declares_table (decl ∷ decls)
table_step decl decls (firsts.Text text) is later = rw (is, later) refl
table_step decl decls (firsts.Num number) is later = rw (is, later) refl
table_step decl decls (firsts.Conn conn) is later = rw (is, later) refl
table_step decl decls firsts.Table is later = rw (is, later) refl

opening_tables : (decls : List Decl) → table_names (filter_map table_of decls) ≡ declared_names declares_table decls
opening_tables [] = refl
opening_tables (decl ∷ decls) = table_step decl decls decl.first refl (opening_tables decls)

abbrev firsts_of : List Decl → List First
firsts_of decls = map (λ (decl : Decl). decl.first) (filter declares_register decls)

value_step : (decl : Decl) (decls : List Decl) (first : First) → decl.first ≡ first
    → filter_map first_value (firsts_of decls) ≡ values_of (filter_map register_of decls) → filter_map first_value (firsts_of (decl ∷ decls)) ≡ values_of (filter_map register_of (decl ∷ decls))
value_step decl decls (firsts.Text text) is later = rw (is, later) refl
value_step decl decls (firsts.Num number) is later = rw (is, later) refl
value_step decl decls (firsts.Conn conn) is later = rw (is, later) refl
value_step decl decls firsts.Table is later = rw (is, later) refl

opening_values : (decls : List Decl) → filter_map first_value (firsts_of decls) ≡ values_of (filter_map register_of decls)
opening_values [] = refl
opening_values (decl ∷ decls) = value_step decl decls decl.first refl (opening_values decls)

abbrev no_pairs : ℕ → List (List Pair)
no_pairs count = replicate count []

pairs_step : (decl : Decl) (decls : List Decl) (first : First) → decl.first ≡ first
    → no_pairs (length (filter declares_table decls)) ≡ pairs_of (filter_map table_of decls) → no_pairs (length (filter declares_table (decl ∷ decls))) ≡ pairs_of (filter_map table_of (decl ∷ decls))
pairs_step decl decls (firsts.Text text) is later = rw (is, later) refl
pairs_step decl decls (firsts.Num number) is later = rw (is, later) refl
pairs_step decl decls (firsts.Conn conn) is later = rw (is, later) refl
pairs_step decl decls firsts.Table is later = rw (is) (ap (λ more. [] ∷ more) later)

opening_pairs : (decls : List Decl) → no_pairs (length (filter declares_table decls)) ≡ pairs_of (filter_map table_of decls)
opening_pairs [] = refl
opening_pairs (decl ∷ decls) = pairs_step decl decls decl.first refl (opening_pairs decls)

module _ (tree : Fields) (accepted : IsAccepted tree.spec) (compiled : IsCompiled tree) where
  opening_stored : Stores tree.spec.decls [] (idle_config tree.spec) (first_standing tree)
  opening_stored = record {
    locals = record { names = refl; values = refl };
    register_names = opening_registers tree.spec.decls;
    registers = ap (filter_map first_value) compiled.registers ∙ opening_values tree.spec.decls;
    table_names = opening_tables tree.spec.decls;
    tables = ap no_pairs compiled.tables ∙ opening_pairs tree.spec.decls;
    taken = ap (λ (s : Shape). let lists : List (List (List ℕ)) = replicate s.conns [] in lists) compiled.shape;
    sent = ap (λ (s : Shape). let lists : List (List (List (List ℕ))) = replicate s.conns [] in lists) compiled.shape;
  }

  opens_with : (start : Option Block) → tree.spec.start ≡ start → Follows tree compiled.marks (after_start (idle_config tree.spec) start) (first_standing tree)
  opens_with None is =
      goes_on tree compiled.marks compiled.marked [] (idle_config tree.spec) (first_standing tree) opening_stored
      (subst (λ start. LeadsTo compiled.marks [] (opening_todo start) tree.root) is compiled.root_leads) refl
  opens_with (Some start) is =
      goes_in_plain tree compiled.marks compiled.marked [] (idle_config tree.spec) (first_standing tree) [] start tree.root opening_stored
      (subst (λ start. LeadsTo compiled.marks [] (opening_todo start) tree.root) is compiled.root_leads)

  opens : Follows tree compiled.marks (first_config tree.spec) (first_standing tree)
  opens = opens_with tree.spec.start refl

  one_node : (number other : ℕ) (mark other_mark : Mark) (stmt : Stmt) (rest : List Task) → slice_get compiled.marks number ≡ Some (Some mark) → slice_get compiled.marks other ≡ Some (Some other_mark)
      → mark.todo ≡ Do stmt 0 ∷ rest → other_mark.todo ≡ Do stmt 0 ∷ rest → number ≡ other
  one_node number other mark other_mark stmt rest is other_is todo other_todo =
      elim (cases_order number other) [
        | inl same ↦ same
        | inr apart ↦ elim apart [
          | inl less ↦ (let falls = compiled.falls.falls number other mark other_mark stmt stmt rest rest less is other_is todo other_todo in absurd (omega arith))
          | inr more ↦ (let falls = compiled.falls.falls other number other_mark mark stmt stmt rest rest more other_is is other_todo todo in absurd (omega arith))
        ]
      ]

  rd : Distinct (declared_names declares_register tree.spec.decls)
  rd = declared_distinct tree.spec accepted declares_register

  td : Distinct (declared_names declares_table tree.spec.decls)
  td = declared_distinct tree.spec accepted declares_table

  pub is_tree : IsTreeOf tree
  is_tree = record {
    runs = keeps_runs tree compiled.marks compiled.marked compiled.shape rd td compiled.first compiled.back compiled.body_leads opens;
    state = keeps_state tree compiled.marks compiled.marked compiled.shape rd td compiled.first compiled.back compiled.body_leads opens;
    places = keeps_places tree compiled.marks compiled.marked compiled.shape rd td compiled.first compiled.back compiled.body_leads opens one_node;
    names = keeps_names tree compiled.marks compiled.marked compiled.shape rd td compiled.first compiled.back compiled.body_leads opens opening_stored;
  }
