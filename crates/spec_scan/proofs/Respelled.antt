-- Tokens of a tree that stand in a text at other places spell a tree there.
use Rattle.std.proofs.Common.{◌≡◌, ℕ, Bool, List, [], ◌∷◌, length, map, Option, Some, None, option_and_then, refl, ap, ◌∙◌, subst, append-nil, arith}
use Rattle.spec_model.specs.declared.token.Placed.{Placed}
use Rattle.spec_model.specs.declared.token.Token.{Token}
use Rattle.spec_model.specs.declared.tree.Block.{Block}
use Rattle.spec_model.specs.declared.tree.Spec.{Spec}
use Rattle.spec_model.specs.Grammar.{Fits, pieces_of_spec}
use Rattle.spec_model.specs.Spelling.{Spelled, Spells, is_left_out}
use Rattle.spec_scan.specs.declared.goal.Goal.{Goal}
use Rattle.spec_scan.specs.declared.goal.Goal.TheVariants as goals
use Rattle.spec_scan.specs.Table.{class_of, shift, shifts}
use Rattle.spec_scan.proofs.Back.{rest_of}
use Rattle.spec_scan.proofs.Fill.{spec_fill}
use Rattle.spec_scan.proofs.Limits.{spelled_rising}
use Rattle.spec_scan.proofs.Rest.{Rest}

abbrev pub tokens_alone : List Placed → List Token
tokens_alone placed = map (λ (p : Placed). p.token) placed

-- the table looks at no place
shifts_same : (one other : List Placed) (below : List Goal) → tokens_alone one ≡ tokens_alone other → shifts one below ≡ shifts other below
shifts_same [] [] below same = refl
shifts_same [] (p ∷ other) below same = absurd cc
shifts_same (p ∷ one) [] below same = absurd cc
shifts_same (p ∷ one) (q ∷ other) below same =
    let first : p.token ≡ q.token = cc in
    let rest : tokens_alone one ≡ tokens_alone other = cc in
    ap (λ token. option_and_then (shifts one) (shift below (class_of token))) first ∙ go (shift below (class_of q.token)) (λ next. shifts_same one other next rest)
  where
    go : (found : Option (List Goal)) → ((next : List Goal) → shifts one next ≡ shifts other next)
        → option_and_then (shifts one) found ≡ option_and_then (shifts other) found
    go None later = refl
    go (Some next) later = later next

-- Where the tokens of a text run through the table, it spells a tree by them.
pub spelled_tree : (text : List ℕ) (placed : List Placed) → Spelled 0 text placed → shifts placed (goals.Spec ∷ []) ≡ Some []
    → (spec : Spec) × (h : Spells text spec) × (h.tokens ≡ placed)
spelled_tree text placed spelled runs =
    let rising = spelled_rising spelled (length text) (omega arith) in
    let none : Rest (length text) [] [] = record { vals = tt; fits = tt; from = tt } in
    let whole = rest_of placed (goals.Spec ∷ []) 0 (length text) [] runs rising none in
    let fits : Fits (pieces_of_spec is_left_out whole.vals.0) placed =
    subst (λ ts. Fits (pieces_of_spec is_left_out whole.vals.0) ts) (append-nil placed) whole.fits in
    (whole.vals.0, record { tokens = placed; spelled = spelled; fits = fits }, refl)

-- Tokens that fit a tree, whichever `else` is left out, spell a tree in every text that spells them.
pub respelled : (left_out : ℕ → Block → Bool) (spec : Spec) (ts : List Placed) → Fits (pieces_of_spec left_out spec) ts
    → (text : List ℕ) (placed : List Placed) → Spelled 0 text placed → tokens_alone placed ≡ tokens_alone ts
    → (tree : Spec) × (h : Spells text tree) × (h.tokens ≡ placed)
respelled left_out spec ts fits text placed spelled same =
    spelled_tree text placed spelled (shifts_same placed ts (goals.Spec ∷ []) same ∙ (spec_fill left_out spec).run ts fits)
