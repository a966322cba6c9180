-- What the names in statements stand for.
use Rattle.std.specs.Prelude.{ℕ, ◌+◌, List, [], ◌∷◌, filter, Option, Some, None, option_map, bytes_eq}
use Rattle.std.specs.List.{position}
use Rattle.std.specs.Option.{option_or}
use Rattle.spec_model.specs.declared.tree.Decl.{Decl}
use Rattle.spec_model.specs.declared.tree.Expr.{Expr}
use Rattle.spec_model.specs.declared.tree.Expr.TheVariants as written
use Rattle.spec_model.specs.declared.tree.Item.{Item}
use Rattle.spec_model.specs.declared.tree.Item.TheVariants as items
use Rattle.spec_model.specs.declared.tree.Sign.{Sign}
use Rattle.spec_model.specs.Value.{◌>>=◌}
use Rattle.spec_rules.specs.declared.names.Known.{Known}
use Rattle.spec_rules.specs.Bad.{declares_register, declares_table}
use Rattle.itree_data.specs.declared.node.Slotted.{Slotted}
use Rattle.itree_data.specs.declared.node.Slotted.TheVariants.{Lit, Hole}
use Rattle.itree_data.specs.declared.node.Val.{Val}
use Rattle.itree_data.specs.declared.node.Val.TheVariants.{Text, Num, Conn, Register, Local}

-- the slot of the local of that name
abbrev pub slot_named : List Known → List ℕ → Option ℕ
slot_named scope name = position (λ (known : Known). bytes_eq known.name name) scope

-- the number of the register of that name
abbrev pub register_named : List Decl → List ℕ → Option ℕ
register_named decls name = position (λ (decl : Decl). bytes_eq decl.name name) (filter declares_register decls)

-- the number of the table of that name
abbrev pub table_named : List Decl → List ℕ → Option ℕ
table_named decls name = position (λ (decl : Decl). bytes_eq decl.name name) (filter declares_table decls)

-- what a name stands for: a local, or else a register
abbrev pub name_resolved : List Decl → List Known → List ℕ → Option Val
name_resolved decls scope name = option_or (option_map Local (slot_named scope name)) (option_map Register (register_named decls name))

abbrev pub resolved : List Decl → List Known → Expr → Option Val
resolved decls scope (written.Text text) = Some (Text text)
resolved decls scope (written.Num number) = Some (Num number)
resolved decls scope (written.Name name) = name_resolved decls scope name

-- what a written value stands for where a connection is asked for
abbrev pub resolved_conn : List Decl → List Known → Expr → Option Val
resolved_conn decls scope (written.Num number) = Some (Conn number)
resolved_conn decls scope e = resolved decls scope e

abbrev pub all_resolved : List Decl → List Known → List Expr → Option (List Val)
all_resolved decls scope [] = Some []
all_resolved decls scope (e ∷ es) = do
  val ← resolved decls scope e
  vals ← all_resolved decls scope es
  Some (val ∷ vals)

abbrev pub tail_resolved : List Decl → List Known → Option (Sign × Expr) → Option (Option (Sign × Val))
tail_resolved decls scope None = Some None
tail_resolved decls scope (Some tail) = option_map (λ val. Some (tail.0, val)) (resolved decls scope tail.1)

-- a pattern whose holes bind the slots from this one on
abbrev pub slotted : ℕ → List Item → List Slotted
slotted slot [] = []
slotted slot (items.Lit text ∷ more) = Lit text ∷ slotted slot more
slotted slot (items.Hole name kind ∷ more) = Hole slot kind ∷ slotted (slot + 1) more
