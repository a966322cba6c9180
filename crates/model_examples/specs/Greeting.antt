-- The server that greets its client unasked, and then answers each message by the message itself.
use Rattle.std.specs.Prelude.{ℕ, List, [], ◌∷◌}
use Rattle.spec_model.specs.declared.event.Framing.TheVariants.{Line}
use Rattle.spec_model.specs.declared.tree.Spec.{Spec}
use Rattle.model_examples.specs.Writing.{lines, server, start, recv, send, name, number, text}

abbrev pub greeting_text : List ℕ
greeting_text = lines (
    "frame line 64"
    ∷ "conns 1"
    ∷ "start {"
    ∷ "  send 0 \"hi\""
    ∷ "}"
    ∷ "loop {"
    ∷ "  recv c {"
    ∷ "    other m {"
    ∷ "      send c m"
    ∷ "    }"
    ∷ "  }"
    ∷ "}"
    ∷ [])

abbrev pub greeting : Spec
greeting =
    let greet = send (number 0) (text "hi" ∷ []) ∷ [] in
    let reply = send (name "c") (name "m" ∷ []) ∷ [] in
    server Line 64 1 [] (start greet) (recv "c" [] "m" reply ∷ [])
