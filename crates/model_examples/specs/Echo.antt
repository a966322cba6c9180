-- The echo server: it answers each message by the message itself.
use Rattle.std.specs.Prelude.{ℕ, List, [], ◌∷◌}
use Rattle.spec_model.specs.declared.event.Framing.TheVariants.{Line}
use Rattle.spec_model.specs.declared.tree.Spec.{Spec}
use Rattle.model_examples.specs.Writing.{lines, server, no_start, recv, send, name}

abbrev pub echo_text : List ℕ
echo_text = lines (
    "frame line 64"
    ∷ "conns 2"
    ∷ "loop {"
    ∷ "  recv c {"
    ∷ "    other m {"
    ∷ "      send c m"
    ∷ "    }"
    ∷ "  }"
    ∷ "}"
    ∷ [])

abbrev pub echo : Spec
echo =
    let reply = send (name "c") (name "m" ∷ []) ∷ [] in
    server Line 64 2 [] no_start (recv "c" [] "m" reply ∷ [])
