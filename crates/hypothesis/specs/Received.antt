-- What a receipt tells of a hypothesis.
use Rattle.std.specs.Prelude.{◌≡◌, ℕ, ◌<◌, List, [], ◌∷◌, ◌++◌, length}
use Rattle.spec_model.specs.declared.event.ClientEvent.{ClientEvent}
use Rattle.spec_model.specs.declared.event.ClientEvent.TheVariants as clients
use Rattle.spec_model.specs.declared.event.Mark.{Mark}
use Rattle.spec_model.specs.Alike.{SkeletonExplains}
use Rattle.spec_model.specs.Skeleton.{sends_in}
use Rattle.spec_model.specs.World.{client_receipts}
use Rattle.dual_tree.specs.Dual.{DualFields}
use Rattle.hypothesis.specs.declared.hypothesis.Hypothesis.{Hypothesis}
use Rattle.hypothesis.specs.declared.received.Received.{Received}
use Rattle.hypothesis.specs.declared.received.Received.TheVariants.{Yes, No, Nothing}
use Rattle.hypothesis.specs.Stands.{StandsFor}

abbrev pub with_receipt : List ClientEvent → ℕ → List ℕ → List ClientEvent
with_receipt exchange conn message = exchange ++ clients.Receives conn message ∷ []

-- Of a hypothesis that stands for a skeleton: the skeleton explains the receipt too, and the new hypothesis stands for it with the
-- receipt; or the skeleton sends more on the connection than was received, and does not explain the receipt; or it sends as much
-- there as was received.
abbrev pub Tells : DualFields → List ClientEvent → List Mark → ℕ → List ℕ → Hypothesis → Hypothesis → Received → Type 0
Tells dual exchange skeleton conn message old new Yes =
    StandsFor dual (with_receipt exchange conn message) skeleton new × (new.step ≡ old.step) × (new.mark ≡ old.mark)
Tells dual exchange skeleton conn message old new No =
    (new ≡ old) × (length (client_receipts conn exchange) < sends_in conn skeleton)
    × ¬ SkeletonExplains dual.spec (with_receipt exchange conn message) skeleton
Tells dual exchange skeleton conn message old new Nothing =
    (new ≡ old) × (sends_in conn skeleton ≡ length (client_receipts conn exchange))
