-- Slots that are below a number are below a greater one.
use Rattle.std.proofs.Common.{◌≡◌, ℕ, zero, suc, ◌+◌, ◌<◌, ◌≤◌, List, [], ◌∷◌, length, get_or, take, Option, Some, None, arith, subst}
use Rattle.std.specs.List.{AllByRecursion}
use Rattle.itree_data.specs.declared.node.Change.TheVariants as changes
use Rattle.itree_data.specs.declared.node.Node.{Node}
use Rattle.itree_data.specs.declared.node.Node.TheVariants as nodes
use Rattle.itree_data.specs.declared.node.Slotted.{Slotted}
use Rattle.itree_data.specs.declared.node.Slotted.TheVariants.{Lit, Hole}
use Rattle.itree_data.specs.declared.node.TakeCase.{TakeCase}
use Rattle.itree_data.specs.Slots.{BindsBelow, IsCaseBelow, IsConnBelow, IsPartBelow}

pub all_weaker : {A : Type 0} (P Q : A → Type 0) → ((x : A) → P x → Q x) → (xs : List A) → AllByRecursion P xs → AllByRecursion Q xs
all_weaker P Q weaker [] none = tt
all_weaker P Q weaker (x ∷ xs) (first, rest) = (weaker x first, all_weaker P Q weaker xs rest)

-- What holds of the first ones and of the next one.
pub all_next : {A : Type 0} (P : A → Type 0) (xs : List A) (i : ℕ) (x : A) → i < length xs → x ≡ get_or xs i x → AllByRecursion P (take i xs) → P x → AllByRecursion P (take (i + 1) xs)
all_next P [] i x within is before here = absurd (omega arith)
all_next P (y ∷ xs) zero x within is before here = (subst P is here, tt)
all_next P (y ∷ xs) (suc i) x within is before here =
    let next : suc i + 1 ≡ suc (i + 1) = omega arith in rw next (before.0, all_next P xs i x (omega arith) is before.1 here)

module _ (count more : ℕ) (lower : count ≤ more) where
  part_more : (part : Slotted) → IsPartBelow count part → IsPartBelow more part
  part_more (Lit text) below = tt
  part_more (Hole slot kind) below = omega arith

  pub parts_more : (parts : List Slotted) → AllByRecursion (IsPartBelow count) parts → AllByRecursion (IsPartBelow more) parts
  parts_more = all_weaker (IsPartBelow count) (IsPartBelow more) part_more

  pub cases_more : (cases : List TakeCase) → AllByRecursion (IsCaseBelow count) cases → AllByRecursion (IsCaseBelow more) cases
  cases_more = all_weaker (IsCaseBelow count) (IsCaseBelow more) (λ case. parts_more case.items)

  pub conn_more : (conn : Option ℕ) → IsConnBelow count conn → IsConnBelow more conn
  conn_more None below = tt
  conn_more (Some slot) below = omega arith

  pub node_more : (node : Node) → BindsBelow count node → BindsBelow more node
  node_more (nodes.Take from conn cases other next) below = (conn_more conn below.0, cases_more cases below.1, let last = below.2 in omega arith)
  node_more (nodes.Choose slot len alphabet next) below = omega arith
  node_more (nodes.Store (changes.Bind slot table) next) below = omega arith
  node_more (nodes.Store (changes.Assign register left tail) next) below = tt
  node_more (nodes.Store (changes.Renew table value) next) below = tt
  node_more (nodes.Store (changes.Add table key value) next) below = tt
  node_more (nodes.Store (changes.Remove table) next) below = tt
  node_more (nodes.Send conn parts next) below = tt
  node_more (nodes.Branch test holds fails) below = tt
  node_more (nodes.Fork arms) below = tt
  node_more (nodes.Back next) below = tt

  pub nodes_more : (all : List Node) → AllByRecursion (BindsBelow count) all → AllByRecursion (BindsBelow more) all
  nodes_more = all_weaker (BindsBelow count) (BindsBelow more) node_more
