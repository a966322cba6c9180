-- The server of tokens: it gives out tokens of its own choice, and tells whether a text is the last one that it gave out.
use Rattle.std.specs.Prelude.{ℕ, List, [], ◌∷◌, codes}
use Rattle.spec_model.specs.declared.event.Framing.TheVariants.{Line}
use Rattle.spec_model.specs.declared.tree.Alphabet.TheVariants.{Hex}
use Rattle.spec_model.specs.declared.tree.Spec.{Spec}
use Rattle.model_examples.specs.Writing.{lines, server, text_register, no_start, recv, case_, literal, word, pick, set, send, if_, same, name, text}

abbrev pub tokens_text : List ℕ
tokens_text = lines (
    "frame line 64"
    ∷ "conns 2"
    ∷ "text last = \"none\""
    ∷ "loop {"
    ∷ "  recv c {"
    ∷ "    case \"new\" {"
    ∷ "      pick t 6 hex"
    ∷ "      set last t"
    ∷ "      send c \"id \" t"
    ∷ "    }"
    ∷ "    case \"is \" k:word {"
    ∷ "      if k == last {"
    ∷ "        send c \"yes\""
    ∷ "      } else {"
    ∷ "        send c \"no\""
    ∷ "      }"
    ∷ "    }"
    ∷ "    other m {"
    ∷ "      send c \"err\""
    ∷ "    }"
    ∷ "  }"
    ∷ "}"
    ∷ [])

abbrev pub tokens : Spec
tokens =
    let give_out = pick "t" 6 Hex ∷ set "last" (name "t") ∷ send (name "c") (text "id " ∷ name "t" ∷ []) ∷ [] in
    let say_yes = send (name "c") (text "yes" ∷ []) ∷ [] in
    let say_no = send (name "c") (text "no" ∷ []) ∷ [] in
    let compare = if_ (same (name "k") (name "last")) say_yes say_no ∷ [] in
    let refuse = send (name "c") (text "err" ∷ []) ∷ [] in
    let cases = case_ (literal "new" ∷ []) give_out ∷ case_ (literal "is " ∷ word "k" ∷ []) compare ∷ [] in
    server Line 64 2 (text_register "last" (codes "none") ∷ []) no_start (recv "c" cases "m" refuse ∷ [])
