-- What a dialer tells.
use Rattle.std.specs.Prelude.{◌≡◌, ◌⊎◌, List, [], ◌∷◌, ◌++◌, Option, option_map, Result, Ok, Err}
use Rattle.dt_ports.specs.declared.count.Failed.{Failed}
use Rattle.dt_ports.specs.declared.dialer.Request.{Request}

-- what is told, with this request at its end
abbrev pub requests_with : Request → Option (List Request) → Option (List Request)
requests_with request told = option_map (λ before. before ++ request ∷ []) told

-- A request is told at the end. That of a call that failed may be missing.
abbrev pub KeepsRequest : {A : Type 0} →
    Request → Result A Failed → Option (List Request) → Option (List Request) → Type 0
KeepsRequest request (Ok value) old new = new ≡ requests_with request old
KeepsRequest request (Err failed) old new = (new ≡ old) ⊎ (new ≡ requests_with request old)
