-- In an accepted specification names stand for values.
use Rattle.std.proofs.Common.{◌≡◌, ℕ, zero, suc, ◌⊎◌, inl, inr, Bool, true, false, not, ◌||◌, List, [], ◌∷◌, ◌++◌, map, take, filter, Option, Some, None, option_map, refl, sym, ◌∙◌, ap, subst, append_assoc, append-nil}
use Rattle.std.specs.Prelude.{slice_get, bytes_eq, find, is_some, filter_map, IsSome}
use Rattle.std.specs.List.{AllByRecursion, list_any, position}
use Rattle.std.proofs.lemmas.List.Folds.{find_at}
use Rattle.std.proofs.lemmas.Option.{slice_get_past}
use Rattle.spec_model.specs.declared.tree.Block.{Block}
use Rattle.spec_model.specs.declared.tree.Case.{Case, out-Case}
use Rattle.spec_model.specs.declared.tree.Chan.{Chan}
use Rattle.spec_model.specs.declared.tree.Chan.TheVariants.{Bind, From}
use Rattle.spec_model.specs.declared.tree.Decl.{Decl}
use Rattle.spec_model.specs.declared.tree.Item.{Item}
use Rattle.spec_model.specs.declared.tree.Item.TheVariants.{Lit, Hole}
use Rattle.spec_model.specs.declared.tree.First.{First}
use Rattle.spec_model.specs.declared.tree.First.TheVariants as firsts
use Rattle.spec_model.specs.declared.tree.Expr.{Expr}
use Rattle.spec_model.specs.declared.tree.Expr.TheVariants as written
use Rattle.spec_model.specs.declared.tree.Kind.TheOpen.{Recv, Send, Pick, Assign, If, Either, Assume, Put, Lookup, Delete}
use Rattle.spec_model.specs.declared.tree.Stmt.{Stmt}
use Rattle.spec_model.specs.Config.{StmtKind, kind_of, stmts_of}
use Rattle.spec_rules.specs.declared.names.Known.{Known}
use Rattle.spec_rules.specs.declared.names.ValueType.{ValueType}
use Rattle.spec_rules.specs.declared.names.ValueType.TheVariants.{Text}
use Rattle.spec_rules.specs.Bad.{declares_register}
use Rattle.spec_rules.specs.Names.{is_known, is_well_typed, local, may_be, may_mean, meaning_declared, meaning_of, name_in, names_declared, names_of_chan, names_of_pattern, target_of, values_of}
use Rattle.spec_rules.specs.Place.{Inner, StandsIn, blocks_of, bound_behind, first, inside, later, without_names}
use Rattle.itree_data.specs.Making.{AreSound, IsAllSound, IsLocal, IsSound}
use Rattle.itree_data.specs.Resolve.{name_resolved, register_named, resolved, slot_named}
use Rattle.itree_data.proofs.Places.{position_none}
use Rattle.itree_data.specs.Scope.{bound_by}

bound_local : (kind : StmtKind) → AllByRecursion (λ (known : Known). IsLocal known.meaning) (bound_behind kind)
bound_local (Recv chan cases other block) = tt
bound_local (Send named parts) = tt
bound_local (Pick name len alphabet) = (tt, tt)
bound_local (Assign name left tail) = tt
bound_local (If condition holds fails) = tt
bound_local (Either arms) = tt
bound_local (Assume condition) = tt
bound_local (Put name key value) = tt
bound_local (Lookup name key bound found absent) = tt
bound_local (Delete name key) = tt

pub all_local : (scope more : List Known) → AllByRecursion (λ (known : Known). IsLocal known.meaning) scope → AllByRecursion (λ (known : Known). IsLocal known.meaning) more
    → AllByRecursion (λ (known : Known). IsLocal known.meaning) (scope ++ more)
all_local [] more locals others = others
all_local (known ∷ scope) more locals others = (locals.0, all_local scope more locals.1 others)

-- The statements behind the first are sound.
sound_later : (decls : List Decl) (scope : List Known) (stmt : Stmt) (stmts : List Stmt) → AreSound decls scope (stmt ∷ stmts) → AreSound decls (scope ++ bound_behind (kind_of stmt)) stmts
sound_later decls scope stmt stmts sound = record {
  behind = sound.behind;
  each = λ place stands. sound.each place (later (subst (λ known. StandsIn known stmts sound.behind place) (sym (append_assoc (names_declared decls) scope (bound_behind (kind_of stmt)))) stands));
  locals = all_local scope (bound_behind (kind_of stmt)) sound.locals (bound_local (kind_of stmt));
}

-- The first statement is sound.
sound_first : (decls : List Decl) (scope : List Known) (stmt : Stmt) (stmts : List Stmt) → ((number : ℕ) (inner : Inner) → slice_get (blocks_of (kind_of stmt)) number ≡ Some inner
    → AllByRecursion (λ (known : Known). IsLocal known.meaning) inner.bound) → AreSound decls scope (stmt ∷ stmts) → IsAllSound decls scope (kind_of stmt)
sound_first decls scope stmt stmts bound_locals sound = record {
  here = sound.each (record { known = names_declared decls ++ scope; stmt = stmt; behind = stmts ++ sound.behind }) (first (names_declared decls ++ scope) stmt stmts sound.behind);
  inside = λ number inner is. record {
    behind = stmts ++ sound.behind;
    each = λ place stands. sound.each place (inside number inner is
        (subst (λ known. StandsIn known (stmts_of inner.block) (stmts ++ sound.behind) place) (sym (append_assoc (names_declared decls) scope inner.bound)) stands));
    locals = all_local scope inner.bound sound.locals (bound_locals number inner is);
  };
  locals = sound.locals;
}

-- what a declaration or a local of that name means
pub found_before : (scope : List Known) (name : List ℕ) → slot_named scope name ≡ None → find (λ (known : Known). bytes_eq known.name name) scope ≡ None
found_before scope name none =
    find_at (λ (known : Known). bytes_eq known.name name) scope ∙ slice_get_past scope _ (position_none (λ (known : Known). bytes_eq known.name name) scope none)

pub not_declared : (which : Decl → Bool) (decls : List Decl) (name : List ℕ) → position (λ (decl : Decl). bytes_eq decl.name name) (filter which decls) ≡ None
    → find (λ (decl : Decl). bytes_eq decl.name name) (filter which decls) ≡ None
not_declared which decls name none =
    find_at (λ (decl : Decl). bytes_eq decl.name name) (filter which decls)
    ∙ slice_get_past (filter which decls) _ (position_none (λ (decl : Decl). bytes_eq decl.name name) (filter which decls) none)

-- A declaration of that name which is not among those asked for decides what the name means, or a local does.
pub record MeansOther (which : Decl → Bool) (decls : List Decl) (scope : List Known) (name : List ℕ) : Type 0 where
  pub meaning : (meaning_of (names_declared decls ++ scope) name ≡ meaning_of scope name)
      ⊎ ((decl : Decl) × (which decl ≡ false) × (meaning_of (names_declared decls ++ scope) name ≡ Some (meaning_declared decl.first)))

means_step : (which : Decl → Bool) (decl : Decl) (decls : List Decl) (scope : List Known) (name : List ℕ) (named wanted : Bool) → bytes_eq decl.name name ≡ named → which decl ≡ wanted
    → find (λ (decl : Decl). bytes_eq decl.name name) (filter which (decl ∷ decls)) ≡ None
    → (find (λ (decl : Decl). bytes_eq decl.name name) (filter which decls) ≡ None → MeansOther which decls scope name) → MeansOther which (decl ∷ decls) scope name
means_step which decl decls scope name true true named wanted none beyond = absurd (let wrong = rw (wanted, named) at none in cc)
means_step which decl decls scope name true false named wanted none beyond = record { meaning = inr (decl, wanted, rw named refl) }
means_step which decl decls scope name false true named wanted none beyond =
    let rest = rw (wanted, named) at none in let means = beyond rest in
    record { meaning = rw named means.meaning }
means_step which decl decls scope name false false named wanted none beyond =
    let rest = rw wanted at none in let means = beyond rest in
    record { meaning = rw named means.meaning }

pub means_other : (which : Decl → Bool) (decls : List Decl) (scope : List Known) (name : List ℕ) → find (λ (decl : Decl). bytes_eq decl.name name) (filter which decls) ≡ None
    → MeansOther which decls scope name
means_other which [] scope name none = record { meaning = inl refl }
means_other which (decl ∷ decls) scope name none =
    means_step which decl decls scope name (bytes_eq decl.name name) (which decl) refl refl none (means_other which decls scope name)

pub no_register : (decl : Decl) (first : First) → decl.first ≡ first → declares_register decl ≡ false → decl.first ≡ firsts.Table
no_register decl (firsts.Text text) is none = absurd (let wrong = rw is at none in cc)
no_register decl (firsts.Num number) is none = absurd (let wrong = rw is at none in cc)
no_register decl (firsts.Conn conn) is none = absurd (let wrong = rw is at none in cc)
no_register decl firsts.Table is none = is

-- A name that is known, and may mean a value of a type, stands for a value.
name_stands : (decls : List Decl) (scope : List Known) (name : List ℕ) (type : ValueType) → is_known (names_declared decls ++ scope) name ≡ true
    → may_mean type (meaning_of (names_declared decls ++ scope) name) ≡ true → (slot register : Option ℕ) → slot_named scope name ≡ slot → register_named decls name ≡ register
    → IsSome (name_resolved decls scope name)
name_stands decls scope name type known means (Some slot) register slot_is register_is = rw slot_is refl
name_stands decls scope name type known means None (Some register) slot_is register_is = rw (slot_is, register_is) refl
name_stands decls scope name type known means None None slot_is register_is =
    let local_none = found_before scope name slot_is in
    let other = means_other declares_register decls scope name (not_declared declares_register decls name register_is) in
    absurd (elim other.meaning [
      | inl same ↦ (let none : meaning_of (names_declared decls ++ scope) name ≡ None = same ∙ ap (option_map (λ (one : Known). one.meaning)) local_none in
          let wrong : true ≡ false = sym known ∙ ap is_some none in cc)
      | inr declared ↦ (let table = no_register declared.0 declared.0.first refl declared.1 in
          let wrong : true ≡ false = sym means ∙ ap (may_mean type) (declared.2 ∙ ap (λ first. Some (meaning_declared first)) table) in cc)
    ])

abbrev pub IsKnownIn : List Known → Expr → Type 0
IsKnownIn known (written.Name name) = is_known known name ≡ true
IsKnownIn known _ = Unit {0}

-- A written value that is known, and may be of a type, stands for a value.
pub value_stands : (decls : List Decl) (scope : List Known) (e : Expr) (type : ValueType) → IsKnownIn (names_declared decls ++ scope) e → may_be (names_declared decls ++ scope) type e ≡ true
    → IsSome (resolved decls scope e)
value_stands decls scope (written.Text text) type known means = refl
value_stands decls scope (written.Num number) type known means = refl
value_stands decls scope (written.Name name) type known means = name_stands decls scope name type known means (slot_named scope name) (register_named decls name) refl refl

neither : (a b : Bool) → (a || b) ≡ false → (a ≡ false) × (b ≡ false)
neither true b e = absurd (cc)
neither false b e = (refl, e)

truly : (b : Bool) → not b ≡ false → b ≡ true
truly true e = refl
truly false e = absurd (cc)

any_split : {A : Type 0} (p : A → Bool) (xs ys : List A) → list_any p (xs ++ ys) ≡ false → (list_any p xs ≡ false) × (list_any p ys ≡ false)
any_split p [] ys none = (refl, none)
any_split p (x ∷ xs) ys none =
    let first = neither (p x) (list_any p (xs ++ ys)) none in let later = any_split p xs ys first.1 in (rw (first.0, later.0) refl, later.1)

all_known : (known : List Known) (es : List Expr) → list_any (λ name. not (is_known known name)) (filter_map name_in es) ≡ false → AllByRecursion (IsKnownIn known) es
all_known known [] none = tt
all_known known (written.Text text ∷ es) none = (tt, all_known known es none)
all_known known (written.Num number ∷ es) none = (tt, all_known known es none)
all_known known (written.Name name ∷ es) none =
    let first = neither (not (is_known known name)) (list_any (λ name. not (is_known known name)) (filter_map name_in es)) none in
    (truly (is_known known name) first.0, all_known known es first.1)

-- The written values of a statement are known.
pub values_known : (known : List Known) (kind : StmtKind) → IsSound known kind → AllByRecursion (IsKnownIn known) (values_of kind)
values_known known kind sound = all_known known (values_of kind) (any_split (λ name. not (is_known known name)) (target_of kind) (filter_map name_in (values_of kind)) sound.named).1

pub well_typed : (known : List Known) (kind : StmtKind) → IsSound known kind → is_well_typed known kind ≡ true
well_typed known kind sound = truly (is_well_typed known kind) sound.typed

-- The register or table that a statement names is known.
pub target_known : (known : List Known) (kind : StmtKind) (name : List ℕ) → IsSound known kind → target_of kind ≡ name ∷ [] → is_known known name ≡ true
target_known known kind name sound is =
    let none = (any_split (λ name. not (is_known known name)) (target_of kind) (filter_map name_in (values_of kind)) sound.named).0 in
    let here = ap (list_any (λ name. not (is_known known name))) (sym is) ∙ none in
    truly (is_known known name) (neither (not (is_known known name)) false here).0

pattern_local : (items : List Item) → AllByRecursion (λ (known : Known). IsLocal known.meaning) (names_of_pattern items)
pattern_local [] = tt
pattern_local (Lit text ∷ items) = pattern_local items
pattern_local (Hole name kind ∷ items) = (tt, pattern_local items)

chan_local : (chan : Chan) → AllByRecursion (λ (known : Known). IsLocal known.meaning) (names_of_chan chan)
chan_local (Bind name) = (tt, tt)
chan_local (From named) = tt

cases_local : (chan : Chan) (cases : List Case) (other : List ℕ) (block : Block) (number : ℕ) (inner : Inner) → slice_get (blocks_of (Recv chan cases other block)) number ≡ Some inner
    → AllByRecursion (λ (known : Known). IsLocal known.meaning) inner.bound
cases_local chan [] other block zero inner is =
    let same : record { bound = names_of_chan chan ++ local other Text ∷ []; block = block } ≡ inner = cc in
    subst (λ (inner : Inner). AllByRecursion (λ (known : Known). IsLocal known.meaning) inner.bound) same (all_local (names_of_chan chan) (local other Text ∷ []) (chan_local chan) (tt, tt))
cases_local chan [] other block (suc number) inner is = absurd (cc)
cases_local chan (case ∷ cases) other block zero inner is =
    let same : record { bound = names_of_chan chan ++ names_of_pattern (out-Case case).items; block = (out-Case case).block } ≡ inner = cc in
    subst (λ (inner : Inner). AllByRecursion (λ (known : Known). IsLocal known.meaning) inner.bound) same
    (all_local (names_of_chan chan) (names_of_pattern (out-Case case).items) (chan_local chan) (pattern_local (out-Case case).items))
cases_local chan (case ∷ cases) other block (suc number) inner is = cases_local chan cases other block number inner is

arms_local : (arms : List Block) (number : ℕ) (inner : Inner) → slice_get (map without_names arms) number ≡ Some inner → AllByRecursion (λ (known : Known). IsLocal known.meaning) inner.bound
arms_local [] number inner is = absurd (cc)
arms_local (arm ∷ arms) zero inner is =
    let same : without_names arm ≡ inner = cc in subst (λ (inner : Inner). AllByRecursion (λ (known : Known). IsLocal known.meaning) inner.bound) same tt
arms_local (arm ∷ arms) (suc number) inner is = arms_local arms number inner is

-- What a statement binds in a block is a local.
pub blocks_local : (kind : StmtKind) (number : ℕ) (inner : Inner) → slice_get (blocks_of kind) number ≡ Some inner → AllByRecursion (λ (known : Known). IsLocal known.meaning) inner.bound
blocks_local (Recv chan cases other block) number inner is = cases_local chan cases other block number inner is
blocks_local (If condition holds fails) number inner is = arms_local (holds ∷ fails ∷ []) number inner is
blocks_local (Either arms) number inner is = arms_local arms number inner is
blocks_local (Lookup name key bound found absent) zero inner is =
    let same : record { bound = local bound Text ∷ []; block = found } ≡ inner = cc in
    subst (λ (inner : Inner). AllByRecursion (λ (known : Known). IsLocal known.meaning) inner.bound) same (tt, tt)
blocks_local (Lookup name key bound found absent) (suc number) inner is = arms_local (absent ∷ []) number inner is
blocks_local (Send named parts) number inner is = absurd (cc)
blocks_local (Pick name len alphabet) number inner is = absurd (cc)
blocks_local (Assign name left tail) number inner is = absurd (cc)
blocks_local (Assume condition) number inner is = absurd (cc)
blocks_local (Put name key value) number inner is = absurd (cc)
blocks_local (Delete name key) number inner is = absurd (cc)

-- The statement of that number is sound, with the names bound before it.
pub sound_at : (decls : List Decl) (scope : List Known) (stmts : List Stmt) (number : ℕ) (stmt : Stmt) → AreSound decls scope stmts → slice_get stmts number ≡ Some stmt
    → IsAllSound decls (scope ++ bound_by (take number stmts)) (kind_of stmt)
sound_at decls scope [] number stmt sound is = absurd (cc)
sound_at decls scope (one ∷ stmts) zero stmt sound is =
    let same : one ≡ stmt = cc in
    subst (λ (s : Stmt). IsAllSound decls (scope ++ []) (kind_of s)) same
    (rw append-nil (sound_first decls scope one stmts (blocks_local (kind_of one)) sound))
sound_at decls scope (one ∷ stmts) (suc number) stmt sound is =
    let more = sound_at decls (scope ++ bound_behind (kind_of one)) stmts number stmt (sound_later decls scope one stmts sound) is in
    subst (λ names. IsAllSound decls names (kind_of stmt)) (append_assoc scope (bound_behind (kind_of one)) (bound_by (take number stmts))) more
