-- Flow of a link: what passed through it, by the messages that passed. That each way is one stream of bytes is RFC 9293's.
use Rattle.std.specs.Prelude.{◌≡◌, ℕ, List, ◌++◌, Option, IfSome}
use Rattle.spec_model.specs.declared.event.Framing.{Framing}
use Rattle.spec_model.specs.Message.{frames_of}
use Rattle.spec_model.specs.World.{IsPrefixOf}

-- Where a link tells, what it sent is a prefix of the frames of the messages up, and what it got is the frames of the
-- messages down, followed by a rest of this kind.
pub record Flows (framing : Framing) (sent got : Option (List ℕ)) (ups downs : List (List ℕ)) (IsRest : List ℕ → Type 0) : Type 0 where
  pub up : IfSome sent (λ bytes. IsPrefixOf bytes (frames_of framing ups))
  pub down : IfSome got (λ bytes. (rest : List ℕ) × (bytes ≡ frames_of framing downs ++ rest) × IsRest rest)
