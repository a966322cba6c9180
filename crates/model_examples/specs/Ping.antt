-- The server that answers a ping as it likes, and refuses everything else.
use Rattle.std.specs.Prelude.{ℕ, List, [], ◌∷◌}
use Rattle.spec_model.specs.declared.event.Framing.TheVariants.{Line}
use Rattle.spec_model.specs.declared.tree.Spec.{Spec}
use Rattle.model_examples.specs.Writing.{lines, server, no_start, recv, case_, literal, either, send, name, text}

abbrev pub ping_text : List ℕ
ping_text = lines (
    "frame line 64"
    ∷ "conns 1"
    ∷ "loop {"
    ∷ "  recv c {"
    ∷ "    case \"ping\" {"
    ∷ "      either {"
    ∷ "        send c \"pong\""
    ∷ "      } or {"
    ∷ "        send c \"busy\""
    ∷ "      }"
    ∷ "    }"
    ∷ "    other m {"
    ∷ "      send c \"err\""
    ∷ "    }"
    ∷ "  }"
    ∷ "}"
    ∷ [])

abbrev pub ping : Spec
ping =
    let say_pong = send (name "c") (text "pong" ∷ []) ∷ [] in
    let say_busy = send (name "c") (text "busy" ∷ []) ∷ [] in
    let refuse = send (name "c") (text "err" ∷ []) ∷ [] in
    let cases = case_ (literal "ping" ∷ []) (either (say_pong ∷ say_busy ∷ []) ∷ []) ∷ [] in
    server Line 64 1 [] no_start (recv "c" cases "m" refuse ∷ [])
