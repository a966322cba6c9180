-- The nodes of a whole specification.
use Rattle.std.proofs.Common.{◌≡◌, ℕ, zero, suc, ◌⊎◌, inl, inr, ◌<◌, ◌≤◌, Bool, true, false, List, [], ◌∷◌, ◌++◌, length, filter, Option, Some, None, refl, sym, ◌∙◌, ap, subst, arith, append-nil}
use Rattle.std.specs.Prelude.{slice_get}
use Rattle.std.proofs.Math.ListN.{set}
use Rattle.std.proofs.lemmas.List.{length-set}
use Rattle.std.specs.List.{AllByRecursion}
use Rattle.spec_model.specs.declared.event.Shape.{Shape}
use Rattle.spec_model.specs.declared.tree.First.{First}
use Rattle.spec_model.specs.declared.config.Task.{Task}
use Rattle.spec_model.specs.declared.config.Task.TheVariants.{Do}
use Rattle.spec_model.specs.declared.tree.Block.{Block}
use Rattle.spec_model.specs.declared.tree.Decl.{Decl}
use Rattle.spec_model.specs.declared.tree.Spec.{Spec}
use Rattle.spec_model.specs.declared.tree.Stmt.{Stmt}
use Rattle.spec_model.specs.Config.{kind_of, stmts_of}
use Rattle.spec_rules.specs.declared.fault.Fault.TheVariants as faults
use Rattle.spec_rules.specs.Accepted.{IsAccepted}
use Rattle.spec_rules.specs.Bad.{declares_table, places_in, places_in_start}
use Rattle.spec_rules.specs.Names.{names_declared}
use Rattle.spec_rules.specs.Place.{Place, StandsIn, StandsInLoop, StandsInStart}
use Rattle.itree_data.specs.declared.node.Change.{Change}
use Rattle.itree_data.specs.declared.node.Node.{Node}
use Rattle.itree_data.specs.declared.node.Node.TheVariants as nodes
use Rattle.itree_data.specs.declared.nodes.Nodes.{Nodes}
use Rattle.itree_data.specs.Fields.{Fields, first_values}
use Rattle.itree_data.specs.Making.{AreInOrder, AreNodesOf, AreSound, IsBegun, IsSound, IsStartSound, Made, MakesStart, MakesStmts, with_marks}
use Rattle.itree_data.specs.Marks.{GoesDown, IsCompiled, IsMarked, IsTree, LeadsTo, Mark, entered, opening_todo}
use Rattle.itree_data.specs.Slots.{BindsBelow, ReadsBelow}
use Rattle.itree_data.proofs.Compiled.{is_tree}
use Rattle.itree_data.proofs.Composing.{block_makes, leads_more}
use Rattle.itree_data.proofs.Making.{Extends, ascends_split, stands_still}
use Rattle.itree_data.proofs.TextPlaces.{places_in_block}

is_false : (b : Bool) → (b ≡ true → ⊥) → b ≡ false
is_false true denied = absurd (denied refl)
is_false false denied = refl

-- A statement of an accepted specification is sound.
sound_place : (spec : Spec) → IsAccepted spec → (place : Place) → StandsInStart spec place ⊎ StandsInLoop spec place → IsSound place.known (kind_of place.stmt)
sound_place spec accepted place stands = record {
  named = is_false _ (λ bad. accepted.none_bad faults.UnknownName place.stmt.at (record { place = place; stands = stands; passes = bad; here = refl }));
  typed = is_false _ (λ bad. accepted.none_bad faults.WrongType place.stmt.at (record { place = place; stands = stands; passes = bad; here = refl }));
  long = is_false _ (λ bad. accepted.none_bad faults.PickLength place.stmt.at (record { place = place; stands = stands; passes = bad; here = refl }));
}

pub body_sound : (spec : Spec) → IsAccepted spec → AreSound spec.decls [] (stmts_of spec.body)
body_sound spec accepted = record {
  behind = [];
  each = λ place stands. sound_place spec accepted place (inr (subst (λ known. StandsIn known (stmts_of spec.body) [] place) (append-nil (names_declared spec.decls)) stands));
  locals = tt;
}

start_sound_as : (spec : Spec) (start : Option Block) → spec.start ≡ start → IsAccepted spec → IsStartSound spec.decls start
start_sound_as spec None is accepted = tt
start_sound_as spec (Some start) is accepted = record {
  behind = [];
  each = λ place stands. sound_place spec accepted place (inl (record {
    start = start;
    is = is;
    stands = subst (λ known. StandsIn known (stmts_of start) [] place) (append-nil (names_declared spec.decls)) stands;
  }));
  locals = tt;
}

pub start_sound : (spec : Spec) → IsAccepted spec → IsStartSound spec.decls spec.start
start_sound spec accepted = start_sound_as spec spec.start refl accepted

-- the mark of node 0
abbrev nothing_left : Mark
nothing_left = record { scope = []; todo = [] }

no_second : (number : ℕ) (mark : Option Mark) → 0 < number → slice_get (Some nothing_left ∷ []) number ≡ Some mark → ⊥
no_second zero mark positive is = omega (arith, positive)
no_second (suc number) mark positive is = cc

nothing_first : (number : ℕ) (mark : Mark) (stmt : Stmt) (rest : List Task) → slice_get (Some nothing_left ∷ []) number ≡ Some (Some mark) → mark.todo ≡ Do stmt 0 ∷ rest → ⊥
nothing_first zero mark stmt rest is todo = let same : nothing_left ≡ mark = cc in let none : [] ≡ Do stmt 0 ∷ rest = ap (λ (mark : Mark). mark.todo) same ∙ todo in cc
nothing_first (suc number) mark stmt rest is todo = cc

begun_down : (number : ℕ) (node : Node) → slice_get (nodes.Back 0 ∷ []) number ≡ Some node → GoesDown number node
begun_down zero node is = let same : nodes.Back 0 ≡ node = cc in subst (GoesDown 0) same refl
begun_down (suc number) node is = absurd (cc)

begun_reads : (number count : ℕ) (node : Node) → slice_get (nodes.Back 0 ∷ []) number ≡ Some node → ReadsBelow count node
begun_reads zero count node is = let same : nodes.Back 0 ≡ node = cc in subst (ReadsBelow count) same tt
begun_reads (suc number) count node is = absurd (cc)

begun_made : (decls : List Decl) (begun : Nodes) (most : ℕ) → IsBegun begun → Made decls begun (Some nothing_left ∷ []) most
begun_made decls begun most is = record {
  marked = record {
    scopes_long = ap length is.scope ∙ sym (ap length is.node);
    marks_long = sym (ap length is.node);
    zero = refl;
    each = λ number mark positive there. absurd (no_second number (Some mark) positive there);
  };
  falls = record {
    falls = λ number other mark other_mark stmt other_stmt rest other_rest less there other_there todo other_todo. absurd (nothing_first number mark stmt rest there todo);
    above = λ number mark stmt rest there todo. absurd (nothing_first number mark stmt rest there todo);
  };
  zero_node = ap (λ all. slice_get all 0) is.node;
  zero_scope = ap (λ all. slice_get all 0) is.scope;
  down = λ number node there. begun_down number node (subst (λ all. slice_get all number ≡ Some node) is.node there);
  reads = λ number count node there counted. begun_reads number count node (subst (λ all. slice_get all number ≡ Some node) is.node there);
}

-- All nodes are made, but node 0 does not lead to the loop yet.
pub record AreOpen (spec : Spec) (made : Nodes) (first root : ℕ) : Type 0 where
  pub marks : List (Option Mark)
  pub made_so_far : Made spec.decls made marks 0
  pub body_leads : LeadsTo marks [] (entered [] spec.body []) first
  pub root_leads : LeadsTo marks [] (opening_todo spec.start) root

module _ (spec : Spec) (begun middle : Nodes) (first : ℕ) where
  open_as : (start : Option Block) (made : Nodes) (root : ℕ) → spec.start ≡ start → AreInOrder (places_in_start start ++ places_in spec.body) → IsBegun begun
      → MakesStmts spec.decls [] (stmts_of spec.body) 0 begun middle first → MakesStart spec.decls start middle made root → AreOpen spec made first root
  open_as None made root is order begins makes_body (same, at_zero) =
      let body = block_makes spec.decls [] [] spec.body 0 begun middle first (places_in_block spec.body) makes_body
      (Some nothing_left ∷ []) [] 0 order.most order.up (begun_made spec.decls begun order.most begins) (record { marked = refl }) in
      record {
        marks = Some nothing_left ∷ body.more;
        made_so_far = subst (λ made. Made spec.decls made (Some nothing_left ∷ body.more) 0) (sym same) body.made;
        body_leads = body.leads;
        root_leads = subst (λ start. LeadsTo (Some nothing_left ∷ body.more) [] (opening_todo start) root) (sym is) (record { marked = ap (λ n. slice_get (Some nothing_left ∷ body.more) n) at_zero });
      }
  open_as (Some start) made root is order begins makes_body makes_start =
      let parts = ascends_split 0 (places_in start) (places_in spec.body) order.most order.up in
      let body = block_makes spec.decls [] [] spec.body 0 begun middle first (places_in_block spec.body) makes_body
      (Some nothing_left ∷ []) [] parts.0 order.most parts.2 (begun_made spec.decls begun order.most begins) (record { marked = refl }) in
      let opening = block_makes spec.decls [] [] start 0 middle made root (places_in_block start) makes_start
      (Some nothing_left ∷ body.more) [] 0 parts.0 parts.1 body.made (record { marked = refl }) in
      record {
        marks = (Some nothing_left ∷ body.more) ++ opening.more;
        made_so_far = opening.made;
        body_leads = leads_more (Some nothing_left ∷ body.more) opening.more [] (entered [] spec.body []) first body.leads;
        root_leads = subst (λ start. LeadsTo ((Some nothing_left ∷ body.more) ++ opening.more) [] (opening_todo start) root) (sym is) opening.leads;
      }

  pub all_open : (made : Nodes) (root : ℕ) → AreInOrder (places_in_start spec.start ++ places_in spec.body) → IsBegun begun
      → MakesStmts spec.decls [] (stmts_of spec.body) 0 begun middle first → MakesStart spec.decls spec.start middle made root → AreOpen spec made first root
  all_open made root order begins makes_body makes_start = open_as spec.start made root refl order begins makes_body makes_start

get_set : (all : List Node) (node : Node) (number : ℕ) → 0 < number → slice_get (set all 0 node) number ≡ slice_get all number
get_set [] node number positive = refl
get_set (one ∷ all) node zero positive = absurd (omega (arith, positive))
get_set (one ∷ all) node (suc number) positive = refl

set_first : (all : List Node) (node one : Node) → slice_get all 0 ≡ Some one → slice_get (set all 0 node) 0 ≡ Some node
set_first [] node one is = absurd (cc)
set_first (other ∷ all) node one is = refl

pub has_first : (all : List Node) (one : Node) → slice_get all 0 ≡ Some one → 0 < length all
has_first [] one is = absurd (cc)
has_first (other ∷ all) one is = omega arith

-- Node 0 leads to the loop.
pub closed : (spec : Spec) (made new : Nodes) (first root : ℕ) → AreOpen spec made first root → new.nodes.items ≡ set made.nodes.items 0 (nodes.Back first) → new.scopes.items ≡ made.scopes.items
    → AreNodesOf spec new root
closed spec made new first root prepared nodes_are scopes_are =
    let marked = prepared.made_so_far.marked in
    let back = nodes.Back first in
    let other : (number : ℕ) → 0 < number → slice_get new.nodes.items number ≡ slice_get made.nodes.items number
    = λ number positive. ap (λ all. slice_get all number) nodes_are ∙ get_set made.nodes.items back number positive in
    let long : length new.nodes.items ≡ length made.nodes.items = ap length nodes_are ∙ length-set made.nodes.items 0 back in
    let extends : Extends (with_marks made prepared.marks) (with_marks new prepared.marks) = record {
      marks = λ number mark is. is;
      stores = λ number what next is. stores_still other number what next is prepared.made_so_far.zero_node;
    } in
    record {
      marks = prepared.marks;
      marked = record {
        scopes_long = ap length scopes_are ∙ marked.scopes_long ∙ sym long;
        marks_long = marked.marks_long ∙ sym long;
        zero = marked.zero;
        each = λ number mark positive is. (let stands = marked.each number mark positive is in
            stands_still spec.decls (with_marks made prepared.marks) (with_marks new prepared.marks) extends number mark stands (other number positive ∙ stands.there)
            (ap (λ all. slice_get all number) scopes_are ∙ stands.scope));
      };
      falls = prepared.made_so_far.falls;
      first = first;
      back = ap (λ all. slice_get all 0) nodes_are ∙ set_first made.nodes.items back (nodes.Back 0) prepared.made_so_far.zero_node;
      zero_scope = ap (λ all. slice_get all 0) scopes_are ∙ prepared.made_so_far.zero_scope;
      down = closed_down other (ap (λ all. slice_get all 0) nodes_are ∙ set_first made.nodes.items back (nodes.Back 0) prepared.made_so_far.zero_node) prepared.made_so_far.down;
      reads = λ number count node is counted.
          closed_reads other (ap (λ all. slice_get all 0) nodes_are ∙ set_first made.nodes.items back (nodes.Back 0) prepared.made_so_far.zero_node) number count node is
          (λ old. prepared.made_so_far.reads number count node old (sym (ap (λ all. slice_get all number) scopes_are) ∙ counted));
      body_leads = prepared.body_leads;
      root_leads = prepared.root_leads;
    }
  where
    closed_down : ((number : ℕ) → 0 < number → slice_get new.nodes.items number ≡ slice_get made.nodes.items number) → slice_get new.nodes.items 0 ≡ Some (nodes.Back first)
        → ((number : ℕ) (node : Node) → slice_get made.nodes.items number ≡ Some node → GoesDown number node)
        → (number : ℕ) (node : Node) → slice_get new.nodes.items number ≡ Some node → GoesDown number node
    closed_down other is_back down zero node is = let same : Some (nodes.Back first) ≡ Some node = sym is_back ∙ is in let one : nodes.Back first ≡ node = cc in subst (GoesDown 0) one refl
    closed_down other is_back down (suc number) node is = down (suc number) node (sym (other (suc number) (omega arith)) ∙ is)

    closed_reads : ((number : ℕ) → 0 < number → slice_get new.nodes.items number ≡ slice_get made.nodes.items number) → slice_get new.nodes.items 0 ≡ Some (nodes.Back first)
        → (number count : ℕ) (node : Node) → slice_get new.nodes.items number ≡ Some node → (slice_get made.nodes.items number ≡ Some node → ReadsBelow count node) → ReadsBelow count node
    closed_reads other is_back zero count node is old = let same : Some (nodes.Back first) ≡ Some node = sym is_back ∙ is in let one : nodes.Back first ≡ node = cc in subst (ReadsBelow count) one tt
    closed_reads other is_back (suc number) count node is old = old (sym (other (suc number) (omega arith)) ∙ is)

    stores_still : ((number : ℕ) → 0 < number → slice_get new.nodes.items number ≡ slice_get made.nodes.items number) → (number : ℕ) (what : Change) (next : ℕ)
        → slice_get made.nodes.items number ≡ Some (nodes.Store what next) → slice_get made.nodes.items 0 ≡ Some (nodes.Back 0) → slice_get new.nodes.items number ≡ Some (nodes.Store what next)
    stores_still other zero what next is is_back = absurd (let wrong : Some (nodes.Back 0) ≡ Some (nodes.Store what next) = sym is_back ∙ is in cc)
    stores_still other (suc number) what next is is_back = other (suc number) (omega arith) ∙ is

-- The fields of a tree, of nodes that stand for its specification.
pub is_tree_of : (spec : Spec) (made : Nodes) (root slots tables : ℕ) (shape : Shape) (registers : List First) (table : List Node) (scopes : List ℕ)
    → table ≡ made.nodes.items → scopes ≡ made.scopes.items → shape ≡ spec.shape → registers ≡ first_values spec.decls → tables ≡ length (filter declares_table spec.decls)
    → AllByRecursion (λ count. count ≤ slots) scopes → AllByRecursion (BindsBelow slots) table → IsAccepted spec → AreNodesOf spec made root
    → IsTree (record { shape = shape; registers = registers; tables = tables; slots = slots; nodes = table; scopes = scopes; root = root; spec = spec })
is_tree_of spec made root slots tables shape registers table scopes table_is scopes_are shape_is registers_are tables_are within bound accepted stand =
    let fields : Fields = record { shape = shape; registers = registers; tables = tables; slots = slots; nodes = table; scopes = scopes; root = root; spec = spec } in
    let marked : IsMarked spec.decls (record { nodes = table; scopes = scopes; marks = stand.marks })
    = subst (λ table. IsMarked spec.decls (record { nodes = table; scopes = scopes; marks = stand.marks })) (sym table_is)
    (subst (λ scopes. IsMarked spec.decls (record { nodes = made.nodes.items; scopes = scopes; marks = stand.marks })) (sym scopes_are) stand.marked) in
    let compiled : IsCompiled fields = record {
      shape = shape_is;
      registers = registers_are;
      tables = tables_are;
      marks = stand.marks;
      marked = marked;
      falls = stand.falls;
      first = stand.first;
      back = ap (λ all. slice_get all 0) table_is ∙ stand.back;
      zero_scope = ap (λ all. slice_get all 0) scopes_are ∙ stand.zero_scope;
      down = λ number node is. stand.down number node (sym (ap (λ all. slice_get all number) table_is) ∙ is);
      reads = λ number count node is counted. stand.reads number count node (sym (ap (λ all. slice_get all number) table_is) ∙ is) (sym (ap (λ all. slice_get all number) scopes_are) ∙ counted);
      in_scope = within;
      bound = bound;
      body_leads = stand.body_leads;
      root_leads = stand.root_leads;
    } in
    record { compiled = compiled; laws = is_tree fields accepted compiled }
