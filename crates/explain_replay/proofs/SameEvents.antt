-- Client events are compared exactly.
use Rattle.std.proofs.Common.{◌≡◌, ◌≢◌, ℕ, Bool, true, false, ◌&&◌, eqb, List, Some, slice_get, refl, sym, ◌∙◌, ap}
use Rattle.std.specs.Bool.{Decides, OnFalse, OnTrue}
use Rattle.std.specs.Cmp.Lexicographic.{pointwise}
use Rattle.std.proofs.lemmas.Bool.{false≢true}
use Rattle.std.proofs.lemmas.Bool.Decides.{Decides-eqb}
use Rattle.std.proofs.lemmas.Slice.Eq.{slice_eq-Decides}
use Rattle.spec_model.specs.declared.event.ClientEvent.{ClientEvent}
use Rattle.spec_model.specs.declared.event.ClientEvent.TheVariants.{Sends, Receives, Garbles}
use Rattle.spec_model.specs.contracts.event.ClientEventPartialEq.TheImpl.{ghosts}
use Rattle.spec_model.proofs.Partial.{both_passed}

same_text : (text other : List ℕ) → Decides (pointwise eqb text other) (text ≡ other)
same_text text other = slice_eq-Decides Decides-eqb text other _ refl

same_parts : (conn other : ℕ) (message text : List ℕ) → (eqb conn other && pointwise eqb message text) ≡ true → (conn ≡ other) × (message ≡ text)
same_parts conn other message text passes =
    let both = both_passed (eqb conn other) (pointwise eqb message text) passes in
    ((Decides-eqb conn other).0 both.0, (same_text message text).0 both.1)

parts_pass : (conn other : ℕ) (message text : List ℕ) → conn ≡ other → message ≡ text → (eqb conn other && pointwise eqb message text) ≡ true
parts_pass conn other message text conns texts = rw ((Decides-eqb conn other).1 conns, (same_text message text).1 texts) refl

pub same_event : (event other : ClientEvent) → Decides (ghosts.eq event other) (event ≡ other)
same_event (Sends conn message) (Sends other text) = (
  λ passes. let same = same_parts conn other message text passes in ap (λ k. Sends k message) same.0 ∙ ap (Sends other) same.1,
  λ same. parts_pass conn other message text (cc same) (cc same),
)
same_event (Receives conn message) (Receives other text) = (
  λ passes. let same = same_parts conn other message text passes in ap (λ k. Receives k message) same.0 ∙ ap (Receives other) same.1,
  λ same. parts_pass conn other message text (cc same) (cc same),
)
same_event (Garbles conn) (Garbles other) = (λ passes. ap Garbles ((Decides-eqb conn other).0 passes), λ same. (Decides-eqb conn other).1 (cc same))
same_event (Sends conn message) (Receives other text) = (λ passes. absurd (false≢true passes), λ same. absurd (cc same))
same_event (Sends conn message) (Garbles other) = (λ passes. absurd (false≢true passes), λ same. absurd (cc same))
same_event (Receives conn message) (Sends other text) = (λ passes. absurd (false≢true passes), λ same. absurd (cc same))
same_event (Receives conn message) (Garbles other) = (λ passes. absurd (false≢true passes), λ same. absurd (cc same))
same_event (Garbles conn) (Sends other text) = (λ passes. absurd (false≢true passes), λ same. absurd (cc same))
same_event (Garbles conn) (Receives other text) = (λ passes. absurd (false≢true passes), λ same. absurd (cc same))

-- where an event stands that is compared with another one, the other one stands there just where they are equal
module _ (exchange : List ClientEvent) (number : ℕ) (seen event : ClientEvent) (there : slice_get exchange number ≡ Some seen) where
  pub stands_if : (equal : Bool) → equal ≡ ghosts.eq seen event → OnTrue equal (slice_get exchange number ≡ Some event)
  stands_if true is = there ∙ ap Some ((same_event seen event).0 (sym is))
  stands_if false is = tt

  pub stands_only_if : (equal : Bool) → equal ≡ ghosts.eq seen event → OnFalse equal (slice_get exchange number ≢ Some event)
  stands_only_if true is = tt
  stands_only_if false is = λ stands.
      let same : Some seen ≡ Some event = sym there ∙ stands in false≢true (is ∙ (same_event seen event).1 (cc same))
