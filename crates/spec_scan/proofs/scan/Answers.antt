use Rattle.std.proofs.Common.{◌≡◌, ℕ, List, Result, Ok, Err, MatchResult, IfOk, IfErr, refl, sym, ◌∙◌}
use Rattle.spec_model.specs.declared.token.Placed.{Placed}
use Rattle.spec_model.specs.declared.tree.Spec.{Spec}
use Rattle.spec_model.specs.Spelling.{greatest_open, IsRefusedAt, IsWithinBraces, Spells}
use Rattle.spec_scan.specs.declared.refusal.ScanRefusal.{ScanRefusal}
use Rattle.spec_scan.specs.declared.refusal.ScanRefusal.TheVariants.{Syntax, Memory}
use Rattle.spec_scan.specs.Scan.{first_state, scan}
use Rattle.spec_scan.specs.Scanned.{HasTokens, IsRefusal, IsRefusalOf, UnlessMemory}
use Rattle.spec_scan.proofs.Law.{accepted, refused, taken_whole}
use Rattle.spec_scan.proofs.OnePlace.{refusal_found}
use Rattle.spec_scan.proofs.scan.Goals as goal

module _ {V : Type 0} (items : V → List Placed) (text : List ℕ) where
  -- what the reading answers
  abbrev Known : Result V ScanRefusal → Type 0
  Known result = MatchResult result (λ placed. scan greatest_open text 0 first_state ≡ Ok (items placed)) (λ refusal. IsRefusalOf (scan greatest_open text 0 first_state) refusal)

  found : (result : Result V ScanRefusal) → Known result → IfOk result (λ placed. HasTokens text (items placed))
  found (Ok placed) is = accepted text (items placed) is
  found (Err refusal) is = tt

  only : (result : Result V ScanRefusal) → Known result → (spec : Spec) → (h : Spells text spec) → IsWithinBraces 0 h.tokens
      → MatchResult result (λ placed. items placed ≡ h.tokens) (λ refusal. refusal ≡ Memory)
  only (Ok placed) is spec h within = let same : Ok (items placed) ≡ Ok h.tokens = sym is ∙ taken_whole text spec h within in cc
  only (Err (Syntax place)) is spec h within = absurd (let other : Err place ≡ Ok h.tokens = sym is
      ∙ taken_whole text spec h within in cc)
  only (Err Memory) is spec h within = refl

  is_refused : (result : Result V ScanRefusal) → Known result → IfErr result (λ refusal. IsRefusal text refusal)
  is_refused (Ok placed) is = tt
  is_refused (Err (Syntax place)) is = refused text place is
  is_refused (Err Memory) is = tt

  only_refused : (result : Result V ScanRefusal) → Known result → (place : ℕ) → IsRefusedAt text place
      → MatchResult result (λ placed. ⊥) (λ refusal. UnlessMemory refusal (refusal ≡ Syntax place))
  only_refused (Ok placed) is place one = let other : Ok (items placed) ≡ Err place = sym is ∙ refusal_found text place one in cc
  only_refused (Err (Syntax other)) is place one = let same : Err other ≡ Err place = sym is ∙ refusal_found text place one in cc
  only_refused (Err Memory) is place one = tt

pub returns-clause-found : goal.returns-clause-found
returns-clause-found c = found (λ placed. placed.items) c.args.text.now c.read.result c.read.ensures

pub returns-clause-only : goal.returns-clause-only
returns-clause-only c = only (λ placed. placed.items) c.args.text.now c.read.result c.read.ensures

pub returns-clause-refused : goal.returns-clause-refused
returns-clause-refused c = is_refused (λ placed. placed.items) c.args.text.now c.read.result c.read.ensures

pub returns-clause-only_refused : goal.returns-clause-only_refused
returns-clause-only_refused c = only_refused (λ placed. placed.items) c.args.text.now c.read.result c.read.ensures
