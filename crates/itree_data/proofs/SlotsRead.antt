-- The slots that the nodes of statements read are in scope.
use Rattle.std.proofs.Common.{◌≡◌, ℕ, List, [], ◌∷◌, length, Option, Some, None, option_map, refl, sym, subst}
use Rattle.std.specs.List.{AllByRecursion}
use Rattle.std.specs.Option.{option_or}
use Rattle.std.specs.Prelude.{bytes_eq}
use Rattle.spec_model.specs.declared.config.Task.{Task}
use Rattle.spec_model.specs.declared.tree.Chan.{Chan}
use Rattle.spec_model.specs.declared.tree.Chan.TheVariants as chans
use Rattle.spec_model.specs.declared.tree.Decl.{Decl}
use Rattle.spec_model.specs.declared.tree.Expr.{Expr}
use Rattle.spec_model.specs.declared.tree.Expr.TheVariants as written
use Rattle.spec_model.specs.declared.tree.Kind.TheOpen.{Recv, Send, Pick, Assign, If, Either, Assume, Put as PutPair, Lookup, Delete}
use Rattle.spec_model.specs.declared.tree.Sign.{Sign}
use Rattle.spec_model.specs.Config.{StmtKind}
use Rattle.spec_model.proofs.Partial.{bind_gave, map_gave}
use Rattle.spec_rules.specs.declared.names.Known.{Known}
use Rattle.itree_data.specs.declared.node.Node.{Node}
use Rattle.itree_data.specs.declared.node.Val.{Val}
use Rattle.itree_data.specs.declared.node.Val.TheVariants as vals
use Rattle.itree_data.specs.Marks.{ChanIs, DoesKind, Marked}
use Rattle.itree_data.specs.Resolve.{all_resolved, register_named, resolved, resolved_conn, slot_named, tail_resolved}
use Rattle.itree_data.specs.Slots.{IsFromBelow, IsReadBelow, IsTailBelow, ReadsBelow}
use Rattle.itree_data.proofs.Places.{position_is}

module _ (decls : List Decl) (scope : List Known) where
  by_register : (val : Val) (o : Option ℕ) → option_map vals.Register o ≡ Some val → IsReadBelow (length scope) val
  by_register val (Some register) e = let same : vals.Register register ≡ val = cc in subst (IsReadBelow (length scope)) same tt
  by_register val None e = absurd (cc)

  by_slot : (name : List ℕ) (val : Val) (o : Option ℕ) → slot_named scope name ≡ o
      → option_or (option_map vals.Local o) (option_map vals.Register (register_named decls name)) ≡ Some val → IsReadBelow (length scope) val
  by_slot name val (Some slot) is e =
      let same : vals.Local slot ≡ val = cc in
      subst (IsReadBelow (length scope)) same ((position_is (λ (known : Known). bytes_eq known.name name) scope slot is).1)
  by_slot name val None is e = by_register val (register_named decls name) e

  pub read_below : (e : Expr) (val : Val) → resolved decls scope e ≡ Some val → IsReadBelow (length scope) val
  read_below (written.Text text) val is = let same : vals.Text text ≡ val = cc in subst (IsReadBelow (length scope)) same tt
  read_below (written.Num number) val is = let same : vals.Num number ≡ val = cc in subst (IsReadBelow (length scope)) same tt
  read_below (written.Name name) val is = by_slot name val (slot_named scope name) refl is

  conn_below : (e : Expr) (val : Val) → resolved_conn decls scope e ≡ Some val → IsReadBelow (length scope) val
  conn_below (written.Text text) val is = read_below (written.Text text) val is
  conn_below (written.Num number) val is = let same : vals.Conn number ≡ val = cc in subst (IsReadBelow (length scope)) same tt
  conn_below (written.Name name) val is = read_below (written.Name name) val is

  parts_below : (es : List Expr) (parts : List Val) → all_resolved decls scope es ≡ Some parts → AllByRecursion (IsReadBelow (length scope)) parts
  parts_below [] parts is = let same : [] ≡ parts = cc in subst (AllByRecursion (IsReadBelow (length scope))) same tt
  parts_below (e ∷ es) parts is =
      let first = bind_gave (resolved decls scope e) _ parts is in
      let rest = bind_gave (all_resolved decls scope es) _ parts first.2 in
      let same : first.0 ∷ rest.0 ≡ parts = cc in
      subst (AllByRecursion (IsReadBelow (length scope))) same (read_below e first.0 first.1, parts_below es rest.0 rest.1)

  tail_below : (tail : Option (Sign × Expr)) (val : Option (Sign × Val)) → tail_resolved decls scope tail ≡ Some val → IsTailBelow (length scope) val
  tail_below None val is = let same : None ≡ val = cc in subst (IsTailBelow (length scope)) same tt
  tail_below (Some tail) val is =
      let right = map_gave (λ (right : Val). let one : Option (Sign × Val) = Some (tail.0, right) in one) (resolved decls scope tail.1) val is in
      subst (IsTailBelow (length scope)) right.2 (read_below tail.1 right.0 right.1)

  from_below : (chan : Chan) (from : Option Val) (conn : Option ℕ) → ChanIs decls scope chan from conn → IsFromBelow (length scope) from
  from_below (chans.Bind name) from conn is = subst (IsFromBelow (length scope)) (sym is.0) tt
  from_below (chans.From named) from conn (val, is, from_is, none) = subst (IsFromBelow (length scope)) (sym from_is) (conn_below named val is)

  module _ (m : Marked) where
    reads_as : (node one : Node) → node ≡ one → ReadsBelow (length scope) one → ReadsBelow (length scope) node
    reads_as node one is reads = subst (ReadsBelow (length scope)) (sym is) reads

    pub kind_reads : (rest : List Task) (kind : StmtKind) (node : Node) → DoesKind decls m scope rest kind node → ReadsBelow (length scope) node
    kind_reads rest (Recv chan cases other block) node does = reads_as node _ does.is (from_below chan does.from does.conn does.chan_is)
    kind_reads rest (Send named parts) node does = reads_as node _ does.is (conn_below named does.conn does.conn_is, parts_below parts does.vals does.vals_are)
    kind_reads rest (Pick name len alphabet) node (next, is, leads) = reads_as node _ is tt
    kind_reads rest (Assign name left tail) node does = reads_as node _ does.is (read_below left does.val does.val_is, tail_below tail does.tail_val does.tail_is)
    kind_reads rest (If cond holds fails) node (on_true, on_false, asks, leads, other_leads) =
        reads_as node _ asks.is (read_below cond.left asks.left asks.left_is, read_below cond.right asks.right asks.right_is)
    kind_reads rest (Either arms) node (targets, is, lead) = reads_as node _ is tt
    kind_reads rest (Assume cond) node (next, asks, leads) = reads_as node _ asks.is (read_below cond.left asks.left asks.left_is, read_below cond.right asks.right asks.right_is)
    kind_reads rest (PutPair name key value) node (table, key_val, val, missing, next, asks, add_is, key_is, val_is, leads) =
        reads_as node _ asks.is (read_below key asks.key_val asks.key_is)
    kind_reads rest (Lookup name key bound found absent) node (table, first, otherwise, asks, leads, other_leads) = reads_as node _ asks.is (read_below key asks.key_val asks.key_is)
    kind_reads rest (Delete name key) node (table, next, asks, leads) = reads_as node _ asks.is (read_below key asks.key_val asks.key_is)
