-- The store: it keeps a value for each key, and may refuse other messages in one of two ways.
use Rattle.std.specs.Prelude.{ℕ, List, [], ◌∷◌}
use Rattle.spec_model.specs.declared.event.Framing.TheVariants.{Line}
use Rattle.spec_model.specs.declared.tree.Spec.{Spec}
use Rattle.spec_model.specs.declared.tree.Stmt.{Stmt}
use Rattle.model_examples.specs.Writing.{lines, server, table, no_start, recv, case_, literal, word, rest, put, get, del, either, send, name, text}

abbrev pub store_text : List ℕ
store_text = lines (
    "frame line 256"
    ∷ "conns 4"
    ∷ "table kv"
    ∷ "loop {"
    ∷ "  recv c {"
    ∷ "    case \"SET \" k:word \" \" v:rest {"
    ∷ "      put kv k v"
    ∷ "      send c \"OK\""
    ∷ "    }"
    ∷ "    case \"GET \" k:word {"
    ∷ "      get kv k v {"
    ∷ "        send c \"VALUE \" v"
    ∷ "      } else {"
    ∷ "        send c \"NONE\""
    ∷ "      }"
    ∷ "    }"
    ∷ "    case \"DEL \" k:word {"
    ∷ "      del kv k"
    ∷ "      send c \"OK\""
    ∷ "    }"
    ∷ "    other m {"
    ∷ "      either {"
    ∷ "        send c \"ERROR\""
    ∷ "      } or {"
    ∷ "        send c \"ERR \" m"
    ∷ "      }"
    ∷ "    }"
    ∷ "  }"
    ∷ "}"
    ∷ [])

-- its look-up for a reader
abbrev pub get_value : Stmt
get_value =
    let tell = send (name "c") (text "VALUE " ∷ name "v" ∷ []) ∷ [] in
    let say_none = send (name "c") (text "NONE" ∷ []) ∷ [] in
    get "kv" (name "k") "v" tell say_none

abbrev pub store : Spec
store =
    let say_ok = send (name "c") (text "OK" ∷ []) in
    let say_error = send (name "c") (text "ERROR" ∷ []) ∷ [] in
    let repeat = send (name "c") (text "ERR " ∷ name "m" ∷ []) ∷ [] in
    let set_key = case_ (literal "SET " ∷ word "k" ∷ literal " " ∷ rest "v" ∷ []) (put "kv" (name "k") (name "v") ∷ say_ok ∷ []) in
    let get_key = case_ (literal "GET " ∷ word "k" ∷ []) (get_value ∷ []) in
    let delete_key = case_ (literal "DEL " ∷ word "k" ∷ []) (del "kv" (name "k") ∷ say_ok ∷ []) in
    let refuse = either (say_error ∷ repeat ∷ []) ∷ [] in
    server Line 256 4 (table "kv" ∷ []) no_start (recv "c" (set_key ∷ get_key ∷ delete_key ∷ []) "m" refuse ∷ [])
