-- A specification in which every kind of declaration, statement, item, condition and value stands. It serves no other end.
use Rattle.std.specs.Prelude.{ℕ, List, [], ◌∷◌, ◌++◌, codes}
use Rattle.spec_model.specs.declared.event.Framing.TheVariants.{Len16}
use Rattle.spec_model.specs.declared.tree.Alphabet.TheVariants.{Hex, Alnum, Any}
use Rattle.spec_model.specs.declared.tree.Spec.{Spec}
use Rattle.model_examples.specs.Writing.{lines, server, text_register, num_register, conn_register, table, start, recv, recv_from, case_, literal, word, num, rest, pick, set, set_sum, set_difference, if_, either, where_, put, get, del, send, same, other, less, name, number, text}

abbrev pub every_kind_text : List ℕ
every_kind_text = lines (
    "frame len16 300"
    ∷ "conns 3"
    ∷ "text greeting = \"a\\\"b\\\\c\\x0a\\xff\""
    ∷ "num count = 18446744073709551615"
    ∷ "conn last = 0"
    ∷ "table names"
    ∷ "start {"
    ∷ "  pick key 32 any"
    ∷ "  pick tag 6 alnum"
    ∷ "  where 1 < 2"
    ∷ "  send 0 greeting key"
    ∷ "}"
    ∷ "loop {"
    ∷ "  recv c {"
    ∷ "    case \"add \" n:num \",\" more:rest {"
    ∷ "      set count count + n"
    ∷ "      set count count - 1"
    ∷ "      if count < 10 {"
    ∷ "        send c count"
    ∷ "      } else {"
    ∷ "        set count 0"
    ∷ "      }"
    ∷ "    }"
    ∷ "    case k:word {"
    ∷ "      get names k v {"
    ∷ "        del names k"
    ∷ "      } else {"
    ∷ "        put names k \"new\""
    ∷ "      }"
    ∷ "      get names k v {"
    ∷ "        send last \"VALUE \" v"
    ∷ "      }"
    ∷ "    }"
    ∷ "    other m {"
    ∷ "      recv from last {"
    ∷ "        other again {"
    ∷ "        }"
    ∷ "      }"
    ∷ "      where m != \"stop now\""
    ∷ "      if m == greeting {"
    ∷ "      }"
    ∷ "      either {"
    ∷ "        pick t 8 hex"
    ∷ "        set greeting t"
    ∷ "      } or {"
    ∷ "        set last c"
    ∷ "      } or {"
    ∷ "        send 2 \"done\""
    ∷ "      }"
    ∷ "    }"
    ∷ "  }"
    ∷ "}"
    ∷ [])

-- the first value of its register `greeting`: among its bytes are a quote, a backslash, LF and 255
abbrev pub greeting_bytes : List ℕ
greeting_bytes = codes "a\"b\\c" ++ 10 ∷ 255 ∷ []

abbrev pub every_kind : Spec
every_kind =
    let registers = text_register "greeting" greeting_bytes ∷ num_register "count" 18446744073709551615 ∷ conn_register "last" 0 ∷ [] in
    let picks = pick "key" 32 Any ∷ pick "tag" 6 Alnum ∷ [] in
    let compare_constants = where_ (less (number 1) (number 2)) in
    let greet = send (number 0) (name "greeting" ∷ name "key" ∷ []) in
    let tell_count = send (name "c") (name "count" ∷ []) ∷ [] in
    let clear_count = set "count" (number 0) ∷ [] in
    let add_number = set_sum "count" (name "count") (name "n") in
    let take_one_off = set_difference "count" (name "count") (number 1) in
    let compare_count = if_ (less (name "count") (number 10)) tell_count clear_count in
    let add = case_ (literal "add " ∷ num "n" ∷ literal "," ∷ rest "more" ∷ []) (add_number ∷ take_one_off ∷ compare_count ∷ []) in
    let remove_or_enter = get "names" (name "k") "v" (del "names" (name "k") ∷ []) (put "names" (name "k") (text "new") ∷ []) in
    let tell_value = get "names" (name "k") "v" (send (name "last") (text "VALUE " ∷ name "v" ∷ []) ∷ []) [] in
    let look_up = case_ (word "k" ∷ []) (remove_or_enter ∷ tell_value ∷ []) in
    let take_another = recv_from (name "last") [] "again" [] in
    let go_on_unless_stopped = where_ (other (name "m") (text "stop now")) in
    let compare_idly = if_ (same (name "m") (name "greeting")) [] [] in
    let pick_greeting = pick "t" 8 Hex ∷ set "greeting" (name "t") ∷ [] in
    let keep_conn = set "last" (name "c") ∷ [] in
    let say_done = send (number 2) (text "done" ∷ []) ∷ [] in
    let choose = either (pick_greeting ∷ keep_conn ∷ say_done ∷ []) in
    let otherwise = take_another ∷ go_on_unless_stopped ∷ compare_idly ∷ choose ∷ [] in
    server Len16 300 3 (registers ++ table "names" ∷ []) (start (picks ++ compare_constants ∷ greet ∷ [])) (
    recv "c" (add ∷ look_up ∷ []) "m" otherwise ∷ [])
