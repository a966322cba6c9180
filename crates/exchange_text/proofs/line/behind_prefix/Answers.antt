use Rattle.std.proofs.Common.{◌≡◌, ◌≢◌, ℕ, List, ◌++◌, Option, Some, None}
use Rattle.std.specs.Option.{IfNone, IfSome, MatchOption}
use Rattle.std.proofs.lemmas.Bool.Decides.{Decides-eqb}
use Rattle.std.proofs.lemmas.Slice.Eq.{strip_prefix_is}
use Rattle.exchange_text.proofs.line.behind_prefix.Goals as goal

some_side : {A : Type 0} (N : Type 0) (P : A → Type 0) (found : Option A) → MatchOption found N P → IfSome found P
some_side N P None is = tt
some_side N P (Some x) is = is

none_side : {A : Type 0} (N : Type 0) (P : A → Type 0) (found : Option A) → MatchOption found N P → IfNone found N
none_side N P None is = is
none_side N P (Some x) is = tt

pub returns-clause-some : goal.returns-clause-some
returns-clause-some c =
    some_side ((rest : List ℕ) → c.args.bytes.now ≢ c.args.prefix.now ++ rest) (λ behind. c.args.bytes.now ≡ c.args.prefix.now ++ behind.now) c.strip_prefix.result
    (strip_prefix_is Decides-eqb c.args.bytes.now c.args.prefix.now c.strip_prefix.result c.strip_prefix.ensures.cases)

pub returns-clause-none : goal.returns-clause-none
returns-clause-none c =
    none_side ((rest : List ℕ) → c.args.bytes.now ≢ c.args.prefix.now ++ rest) (λ behind. c.args.bytes.now ≡ c.args.prefix.now ++ behind.now) c.strip_prefix.result
    (strip_prefix_is Decides-eqb c.args.bytes.now c.args.prefix.now c.strip_prefix.result c.strip_prefix.ensures.cases)
