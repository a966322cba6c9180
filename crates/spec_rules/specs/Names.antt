-- Names: which are known, what they mean, and what a place asks of them.
use Rattle.std.specs.Prelude.{ℕ, Bool, true, false, not, ◌&&◌, ◌||◌, List, [], ◌∷◌, ◌++◌, map, filter_map, find, Option, Some, None, is_some, option_map, bytes_eq}
use Rattle.std.specs.List.{list_any, list_all}
use Rattle.spec_model.specs.declared.tree.Chan.{Chan}
use Rattle.spec_model.specs.declared.tree.Chan.TheVariants.{Bind, From}
use Rattle.spec_model.specs.declared.tree.Cond.{Cond}
use Rattle.spec_model.specs.declared.tree.Decl.{Decl}
use Rattle.spec_model.specs.declared.tree.Expr.{Expr}
use Rattle.spec_model.specs.declared.tree.Expr.TheVariants as written
use Rattle.spec_model.specs.declared.tree.First.{First}
use Rattle.spec_model.specs.declared.tree.First.TheVariants as firsts
use Rattle.spec_model.specs.declared.tree.HoleKind.{HoleKind}
use Rattle.spec_model.specs.declared.tree.HoleKind.TheVariants as holes
use Rattle.spec_model.specs.declared.tree.Item.{Item}
use Rattle.spec_model.specs.declared.tree.Item.TheVariants.{Lit, Hole}
use Rattle.spec_model.specs.declared.tree.Kind.TheOpen.{Recv, Send, Pick, Assign, If, Either, Assume, Put, Lookup, Delete}
use Rattle.spec_model.specs.declared.tree.Op.{Op}
use Rattle.spec_model.specs.declared.tree.Op.TheVariants.{Less}
use Rattle.spec_model.specs.declared.tree.Sign.{Sign}
use Rattle.spec_model.specs.Config.{StmtKind}
use Rattle.spec_rules.specs.declared.names.Known.{Known}
use Rattle.spec_rules.specs.declared.names.Meaning.{Meaning}
use Rattle.spec_rules.specs.declared.names.Meaning.TheVariants.{Register, Local, Table}
use Rattle.spec_rules.specs.declared.names.ValueType.{ValueType}
use Rattle.spec_rules.specs.declared.names.ValueType.TheVariants.{Text, Number, Conn}

-- what a declaration makes of its name
abbrev pub meaning_declared : First → Meaning
meaning_declared (firsts.Text text) = Register Text
meaning_declared (firsts.Num number) = Register Number
meaning_declared (firsts.Conn conn) = Register Conn
meaning_declared firsts.Table = Table

-- the names that declarations make known
abbrev pub names_declared : List Decl → List Known
names_declared decls = map (λ (decl : Decl). record { name = decl.name; meaning = meaning_declared decl.first }) decls

abbrev pub local : List ℕ → ValueType → Known
local name type = record { name = name; meaning = Local type }

abbrev pub hole_type : HoleKind → ValueType
hole_type holes.Word = Text
hole_type holes.Num = Number
hole_type holes.Rest = Text

abbrev pub name_of_item : Item → Option Known
name_of_item (Lit text) = None
name_of_item (Hole name kind) = Some (local name (hole_type kind))

-- the names of a pattern's holes
abbrev pub names_of_pattern : List Item → List Known
names_of_pattern items = filter_map name_of_item items

-- the name that a `recv` gives to the connection
abbrev pub names_of_chan : Chan → List Known
names_of_chan (Bind name) = local name Conn ∷ []
names_of_chan (From conn) = []

-- what a name means, if it is known
abbrev pub meaning_of : List Known → List ℕ → Option Meaning
meaning_of known name = option_map (λ (one : Known). one.meaning) (find (λ (one : Known). bytes_eq one.name name) known)

abbrev pub is_known : List Known → List ℕ → Bool
is_known known name = is_some (meaning_of known name)

-- whether one of these names is known already, or stands twice among them
abbrev pub binds_known : List Known → List Known → Bool
binds_known known [] = false
binds_known known (one ∷ more) = is_known known one.name || binds_known (known ++ one ∷ []) more

abbrev pub values_of_cond : Cond → List Expr
values_of_cond cond = cond.left ∷ cond.right ∷ []

abbrev pub values_of_tail : Option (Sign × Expr) → List Expr
values_of_tail None = []
values_of_tail (Some tail) = tail.1 ∷ []

-- the written values of a statement, without those of the statements in it
abbrev pub values_of : StmtKind → List Expr
values_of (Recv (Bind name) cases other block) = []
values_of (Recv (From conn) cases other block) = conn ∷ []
values_of (Send conn parts) = conn ∷ parts
values_of (Pick name len alphabet) = []
values_of (Assign name left tail) = left ∷ values_of_tail tail
values_of (If cond holds fails) = values_of_cond cond
values_of (Either arms) = []
values_of (Assume cond) = values_of_cond cond
values_of (Put table key value) = key ∷ value ∷ []
values_of (Lookup table key name found missing) = key ∷ []
values_of (Delete table key) = key ∷ []

-- the register or table that a statement names
abbrev pub target_of : StmtKind → List (List ℕ)
target_of (Assign name left tail) = name ∷ []
target_of (Put table key value) = table ∷ []
target_of (Lookup table key name found missing) = table ∷ []
target_of (Delete table key) = table ∷ []
target_of _ = []

abbrev pub name_in : Expr → Option (List ℕ)
name_in (written.Name name) = Some name
name_in _ = None

-- the names that a statement uses
abbrev pub names_used : StmtKind → List (List ℕ)
names_used kind = target_of kind ++ filter_map name_in (values_of kind)

-- whether a statement uses a name that is not known
abbrev pub uses_unknown : List Known → StmtKind → Bool
uses_unknown known kind = list_any (λ name. not (is_known known name)) (names_used kind)

abbrev pub is_type : ValueType → ValueType → Bool
is_type Text Text = true
is_type Number Number = true
is_type Conn Conn = true
is_type _ _ = false

-- Whether what a name means is a value of this type. Of a name that is not known, no type is asked.
abbrev pub may_mean : ValueType → Option Meaning → Bool
may_mean type None = true
may_mean type (Some (Register other)) = is_type type other
may_mean type (Some (Local other)) = is_type type other
may_mean type (Some Table) = false

-- Whether a written value may be of this type. A written number is a number or a connection, as its place asks.
abbrev pub may_be : List Known → ValueType → Expr → Bool
may_be known type (written.Text text) = is_type type Text
may_be known type (written.Num number) = not (is_type type Text)
may_be known type (written.Name name) = may_mean type (meaning_of known name)

abbrev pub may_mean_table : Option Meaning → Bool
may_mean_table None = true
may_mean_table (Some Table) = true
may_mean_table (Some _) = false

-- The sides of a comparison are of one type, and those of `<` are numbers.
abbrev pub may_compare : List Known → Cond → Bool
may_compare known cond = compares cond.op
  where
    both : ValueType → Bool
    both type = may_be known type cond.left && may_be known type cond.right

    compares : Op → Bool
    compares Less = both Number
    compares _ = both Text || both Number || both Conn

-- A value is assigned to a register of its type, and a sum or difference of numbers to a register of numbers.
abbrev pub may_assign : List Known → Option Meaning → Expr → Option (Sign × Expr) → Bool
may_assign known None left tail = true
may_assign known (Some (Register type)) left None = may_be known type left
may_assign known (Some (Register type)) left (Some tail) =
    is_type type Number && may_be known Number left && may_be known Number tail.1
may_assign known (Some _) left tail = false

-- whether the names and written values of a statement are of the types that their places ask for
abbrev pub is_well_typed : List Known → StmtKind → Bool
is_well_typed known (Recv (Bind name) cases other block) = true
is_well_typed known (Recv (From conn) cases other block) = may_be known Conn conn
is_well_typed known (Send conn parts) =
    may_be known Conn conn && list_all (λ part. may_be known Text part || may_be known Number part) parts
is_well_typed known (Pick name len alphabet) = true
is_well_typed known (Assign name left tail) = may_assign known (meaning_of known name) left tail
is_well_typed known (If cond holds fails) = may_compare known cond
is_well_typed known (Either arms) = true
is_well_typed known (Assume cond) = may_compare known cond
is_well_typed known (Put table key value) =
    may_mean_table (meaning_of known table) && may_be known Text key && may_be known Text value
is_well_typed known (Lookup table key name found missing) = may_mean_table (meaning_of known table) && may_be known Text key
is_well_typed known (Delete table key) = may_mean_table (meaning_of known table) && may_be known Text key

abbrev pub means_conn : Option Meaning → Bool
means_conn (Some (Register Conn)) = true
means_conn (Some (Local Conn)) = true
means_conn _ = false

abbrev pub names_conn : List Known → Expr → Bool
names_conn known (written.Name name) = means_conn (meaning_of known name)
names_conn known _ = false

abbrev pub conns_compared : List Known → Cond → List Expr
conns_compared known cond = if_conns (names_conn known cond.left || names_conn known cond.right)
  where
    if_conns : Bool → List Expr
    if_conns true = values_of_cond cond
    if_conns false = []

abbrev pub conns_assigned : Option Meaning → Expr → List Expr
conns_assigned (Some (Register Conn)) left = left ∷ []
conns_assigned _ left = []

-- The written values of a statement that stand for connections: where a connection is asked for, where the other side of a
-- condition is one, and where the register that is set is one.
abbrev pub conns_of : List Known → StmtKind → List Expr
conns_of known (Recv (From conn) cases other block) = conn ∷ []
conns_of known (Send conn parts) = conn ∷ []
conns_of known (Assign name left None) = conns_assigned (meaning_of known name) left
conns_of known (If cond holds fails) = conns_compared known cond
conns_of known (Assume cond) = conns_compared known cond
conns_of known _ = []
