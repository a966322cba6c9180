-- Where two runs leave the same in the tree they leave the same in the specification, and the other way round.
use Rattle.std.proofs.Common.{◌≡◌, ℕ, List, [], ◌∷◌, length, map, refl, sym, ◌∙◌, ap}
use Rattle.spec_model.specs.declared.config.Binding.{Binding}
use Rattle.spec_model.specs.declared.config.Config.{Config}
use Rattle.spec_model.specs.declared.config.Pair.{Pair}
use Rattle.spec_model.specs.declared.config.Table.{Table}
use Rattle.spec_model.specs.declared.config.Task.{Task}
use Rattle.spec_model.specs.declared.config.Value.{Value}
use Rattle.spec_model.specs.declared.event.ClientEvent.{ClientEvent}
use Rattle.spec_model.specs.declared.event.ServerEvent.{ServerEvent}
use Rattle.spec_model.specs.Remainder.{Remainder, remainder_of, unreceived}
use Rattle.spec_model.specs.Run.{RunsTo}
use Rattle.itree_data.specs.Laws.{Mirrors}
use Rattle.itree_data.specs.Marks.{IsTree}
use Rattle.itree_data.specs.Run.{TreeRunsTo}
use Rattle.itree_data.specs.Standing.{Standing, place_of}
use Rattle.itree_data.proofs.Places.{names_of, values_of}
use Rattle.dual_tree.specs.Dual.{DualFields, tree_of}
use Rattle.hypothesis.specs.Left.{Left, left_of}
use Rattle.hypothesis.proofs.Shown.{EndAlike, LeaveSame, same_left}

-- Lists are equal where all that their items hold is.
same_by_halves : {X Y Z : Type 0} (f : X → Y) (g : X → Z) → ((x y : X) → f x ≡ f y → g x ≡ g y → x ≡ y)
    → (xs ys : List X) → map f xs ≡ map f ys → map g xs ≡ map g ys → xs ≡ ys
same_by_halves f g one [] [] firsts seconds = refl
same_by_halves f g one [] (y ∷ ys) firsts seconds = absurd (cc)
same_by_halves f g one (x ∷ xs) [] firsts seconds = absurd (cc)
same_by_halves f g one (x ∷ xs) (y ∷ ys) firsts seconds =
    let first : f x ≡ f y = cc in
    let second : g x ≡ g y = cc in
    let later_firsts : map f xs ≡ map f ys = cc in
    let later_seconds : map g xs ≡ map g ys = cc in
    ap (λ item. item ∷ xs) (one x y first second) ∙ ap (λ rest. y ∷ rest) (same_by_halves f g one xs ys later_firsts later_seconds)

abbrev binding_of : List ℕ → Value → Binding
binding_of name value = record { name = name; value = value }

abbrev table_of : List ℕ → List Pair → Table
table_of name pairs = record { name = name; pairs = pairs }

same_bindings : (bound others : List Binding) → names_of bound ≡ names_of others → values_of bound ≡ values_of others → bound ≡ others
same_bindings bound others names values =
    same_by_halves (λ (b : Binding). b.name) (λ (b : Binding). b.value)
    (λ b other name value. ap (λ name. binding_of name b.value) name ∙ ap (λ value. binding_of other.name value) value) bound others names values

abbrev table_names : List Table → List (List ℕ)
table_names tables = map (λ (table : Table). table.name) tables

abbrev pairs_of : List Table → List (List Pair)
pairs_of tables = map (λ (table : Table). table.pairs) tables

same_tables : (tables others : List Table) → table_names tables ≡ table_names others → pairs_of tables ≡ pairs_of others → tables ≡ others
same_tables tables others names pairs =
    same_by_halves (λ (table : Table). table.name) (λ (table : Table). table.pairs)
    (λ table other name pairs. ap (λ name. table_of name table.pairs) name ∙ ap (λ pairs. table_of other.name pairs) pairs) tables others names pairs

abbrev remainder_with : List Task → List Binding → List Table → List Binding → List ℕ → List (List (List (List ℕ))) → Remainder
remainder_with todo registers tables locals taken pending =
    record { todo = todo; registers = registers; tables = tables; locals = locals; taken = taken; pending = pending }

same_fields : (todo todo' : List Task) (registers registers' : List Binding) (tables tables' : List Table) (locals locals' : List Binding) (taken taken' : List ℕ)
    (pending pending' : List (List (List (List ℕ)))) → todo ≡ todo' → registers ≡ registers' → tables ≡ tables' → locals ≡ locals' → taken ≡ taken' → pending ≡ pending'
    → remainder_with todo registers tables locals taken pending ≡ remainder_with todo' registers' tables' locals' taken' pending'
same_fields todo todo' registers registers' tables tables' locals locals' taken taken' pending pending' a b c d e f = cc

pub same_remainders : (l m : Remainder) → l.todo ≡ m.todo → l.registers ≡ m.registers → l.tables ≡ m.tables → l.locals ≡ m.locals → l.taken ≡ m.taken
    → l.pending ≡ m.pending → l ≡ m
same_remainders l m = same_fields l.todo m.todo l.registers m.registers l.tables m.tables l.locals m.locals l.taken m.taken l.pending m.pending

module _ (dual : DualFields) (is_tree : IsTree (tree_of dual)) (exchange : List ClientEvent) (events others : List ServerEvent) (c d : Config)
    (run : RunsTo dual.spec events c) (other_run : RunsTo dual.spec others d) where
  -- Where the tree stands at one place the same statements are to do, and the other way round; there the same names are bound.
  module _ (t u : Standing) (ends : TreeRunsTo (tree_of dual) events t) (other_ends : TreeRunsTo (tree_of dual) others u) where
    mirrors : Mirrors c t
    mirrors = is_tree.laws.state events c t run ends

    other_mirrors : Mirrors d u
    other_mirrors = is_tree.laws.state others d u other_run other_ends

    remainder_from_left : LeaveSame exchange t u → remainder_of exchange c ≡ remainder_of exchange d
    remainder_from_left same =
        let names = is_tree.laws.names in
        let place : place_of t ≡ place_of u
        = ap (λ (left : Left). (left.node, left.compared)) same in
        let todo = (is_tree.laws.places events others c d t u run other_run ends other_ends).1 place in
        let registers = same_bindings c.registers d.registers (names.registers events c run ∙ sym (names.registers others d other_run))
        (sym mirrors.registers ∙ ap (λ (left : Left). left.registers) same ∙ other_mirrors.registers) in
        let tables = same_tables c.tables d.tables (names.tables events c run ∙ sym (names.tables others d other_run))
        (sym mirrors.tables ∙ ap (λ (left : Left). left.tables) same ∙ other_mirrors.tables) in
        let locals = same_bindings c.locals d.locals (names.locals events others c d t u run other_run ends other_ends place)
        (sym mirrors.locals ∙ ap (λ (left : Left). left.locals) same ∙ other_mirrors.locals) in
        let taken : map length c.taken ≡ map length d.taken
        = ap (map length) (sym mirrors.taken) ∙ ap (λ (left : Left). left.taken) same ∙ ap (map length) other_mirrors.taken in
        let pending : unreceived exchange 0 c.sent ≡ unreceived exchange 0 d.sent
        = ap (unreceived exchange 0) (sym mirrors.sent) ∙ ap (λ (left : Left). left.pending) same ∙ ap (unreceived exchange 0) other_mirrors.sent in
        same_remainders (remainder_of exchange c) (remainder_of exchange d) todo registers tables locals taken pending

    left_from_remainder : remainder_of exchange c ≡ remainder_of exchange d → LeaveSame exchange t u
    left_from_remainder same =
        let place : place_of t ≡ place_of u
        = (is_tree.laws.places events others c d t u run other_run ends other_ends).0 (ap (λ (left : Remainder). left.todo) same) in
        let registers : t.registers ≡ u.registers = mirrors.registers ∙ ap (λ (left : Remainder). values_of left.registers) same ∙ sym other_mirrors.registers in
        let tables : t.tables ≡ u.tables = mirrors.tables ∙ ap (λ (left : Remainder). pairs_of left.tables) same ∙ sym other_mirrors.tables in
        let locals : t.locals ≡ u.locals = mirrors.locals ∙ ap (λ (left : Remainder). values_of left.locals) same ∙ sym other_mirrors.locals in
        let taken : map length t.taken ≡ map length u.taken
        = ap (map length) mirrors.taken ∙ ap (λ (left : Remainder). left.taken) same ∙ ap (map length) (sym other_mirrors.taken) in
        let pending : unreceived exchange 0 t.sent ≡ unreceived exchange 0 u.sent
        = ap (unreceived exchange 0) mirrors.sent ∙ ap (λ (left : Remainder). left.pending) same ∙ ap (unreceived exchange 0) (sym other_mirrors.sent) in
        same_left (left_of exchange t) (left_of exchange u) (ap (λ (place : ℕ × ℕ). place.0) place) (ap (λ (place : ℕ × ℕ). place.1) place) registers tables locals
        taken pending

  pub same_remainder : EndAlike dual exchange events others → remainder_of exchange c ≡ remainder_of exchange d
  same_remainder alike = remainder_from_left alike.end alike.other_end alike.ends alike.other_ends alike.same

  pub alike_from_remainder : remainder_of exchange c ≡ remainder_of exchange d → EndAlike dual exchange events others
  alike_from_remainder same =
      let here = (is_tree.laws.runs events).1 (c, run) in
      let there = (is_tree.laws.runs others).1 (d, other_run) in
      record { end = here.0; other_end = there.0; ends = here.1; other_ends = there.1; same = left_from_remainder here.0 there.0 here.1 there.1 same }
