-- Statements without blocks, behind which the server goes straight on.
use Rattle.std.proofs.Common.{◌≡◌, ℕ, Bool, true, false, ◌⊎◌, inl, inr, List, [], ◌∷◌, Option, refl, ◌∙◌, ap, subst}
use Rattle.spec_model.specs.declared.tree.Alphabet.{Alphabet}
use Rattle.spec_model.specs.declared.tree.Cond.{Cond}
use Rattle.spec_model.specs.declared.tree.Expr.{Expr}
use Rattle.spec_model.specs.declared.tree.Kind.{out-Kind}
use Rattle.spec_model.specs.declared.tree.Kind.TheVariants as kinds
use Rattle.spec_model.specs.declared.tree.Sign.{Sign}
use Rattle.spec_model.specs.declared.tree.Stmt.{Stmt}
use Rattle.spec_model.specs.Config.{StmtKind, kind_of}
use Rattle.spec_rules.specs.Path.{compares, is_recv, ways_on}
use Rattle.spec_paths.specs.declared.ahead.Ahead.{Ahead}
use Rattle.spec_paths.specs.Ahead.{IsAhead}
use Rattle.spec_paths.proofs.CrowdedPlaces.{blocks_in}
use Rattle.spec_paths.proofs.KindsSeen.{out-Assign, out-Assume, out-Delete, out-Pick, out-Put, out-Send}
use Rattle.spec_paths.proofs.PathsAhead.{ahead_straight, weighed}

pub record GoesStraight (stmt : Stmt) (comparing : Bool) : Type 0 where
  pub kind : StmtKind
  pub is : kind_of stmt ≡ kind
  pub no_recv : is_recv kind ≡ false
  pub comparison : compares kind ≡ comparing
  pub ways : ways_on kind ≡ [] ∷ []
  pub no_blocks : blocks_in kind ≡ []

-- a `send`, a pick or an assignment
pub silent_straight : (stmt : Stmt)
    → ((conn : Expr) × (parts : List Expr) × (stmt.kind ≡ kinds.Send conn parts))
    ⊎ (((name : List ℕ) × (len : ℕ) × (alphabet : Alphabet) × (stmt.kind ≡ kinds.Pick name len alphabet))
    ⊎ ((name : List ℕ) × (left : Expr) × (tail : Option (Sign × Expr)) × (stmt.kind ≡ kinds.Assign name left tail)))
    → GoesStraight stmt false
silent_straight stmt (inl (conn, parts, is)) =
    record { kind = _; is = ap out-Kind is ∙ out-Send conn parts; no_recv = refl; comparison = refl; ways = refl; no_blocks = refl }
silent_straight stmt (inr (inl (name, len, alphabet, is))) =
    record { kind = _; is = ap out-Kind is ∙ out-Pick name len alphabet; no_recv = refl; comparison = refl; ways = refl; no_blocks = refl }
silent_straight stmt (inr (inr (name, left, tail, is))) =
    record { kind = _; is = ap out-Kind is ∙ out-Assign name left tail; no_recv = refl; comparison = refl; ways = refl; no_blocks = refl }

-- a `where`, a `put` or a `del`
pub comparing_straight : (stmt : Stmt)
    → ((cond : Cond) × (stmt.kind ≡ kinds.Assume cond))
    ⊎ (((table : List ℕ) × (key : Expr) × (value : Expr) × (stmt.kind ≡ kinds.Put table key value))
    ⊎ ((table : List ℕ) × (key : Expr) × (stmt.kind ≡ kinds.Delete table key)))
    → GoesStraight stmt true
comparing_straight stmt (inl (cond, is)) =
    record { kind = _; is = ap out-Kind is ∙ out-Assume cond; no_recv = refl; comparison = refl; ways = refl; no_blocks = refl }
comparing_straight stmt (inr (inl (table, key, value, is))) =
    record { kind = _; is = ap out-Kind is ∙ out-Put table key value; no_recv = refl; comparison = refl; ways = refl; no_blocks = refl }
comparing_straight stmt (inr (inr (table, key, is))) =
    record { kind = _; is = ap out-Kind is ∙ out-Delete table key; no_recv = refl; comparison = refl; ways = refl; no_blocks = refl }

pub ahead_of_straight : (stmt : Stmt) (comparing : Bool) (stmts behind : List Stmt) (later_ahead : Ahead) → GoesStraight stmt comparing → IsAhead stmts behind later_ahead
    → IsAhead (stmt ∷ stmts) behind (record { most = weighed comparing later_ahead.most; crowded = later_ahead.crowded })
ahead_of_straight stmt comparing stmts behind later_ahead straight is =
    subst (λ test. IsAhead (stmt ∷ stmts) behind (record { most = weighed test later_ahead.most; crowded = later_ahead.crowded })) straight.comparison
    (ahead_straight stmt straight.kind stmts behind later_ahead straight.is straight.no_recv straight.ways straight.no_blocks is)
