-- One step more keeps the sends and awaits of each connection paced.
use Rattle.std.proofs.Common.{◌≡◌, ◌≢◌, ℕ, ◌+◌, ◌<◌, ◌⊎◌, inl, inr, Bool, true, false, not, ◌&&◌, ◌||◌, ◌==◌, if◌then◌else◌, List, [], ◌∷◌, ◌++◌, refl, sym, ◌∙◌, ap, subst, arith}
use Rattle.std.specs.Prelude.{fold}
use Rattle.std.proofs.lemmas.Bool.{cases_eq}
use Rattle.std.proofs.lemmas.Bool.Decides.{nat_tests}
use Rattle.std.proofs.lemmas.List.{append-nil}
use Rattle.std.proofs.lemmas.List.Sums.{sum_by-cons}
use Rattle.exchange_text.specs.declared.action.Action.{Action}
use Rattle.exchange_text.specs.declared.action.Action.TheVariants.{Send, Await}
use Rattle.exchange_text.specs.declared.action.Part.{Part}
use Rattle.script_gen.specs.Generator.{await_behind, ends_in_send, is_send, sends_on, sent_behind}
use Rattle.script_gen.specs.Paced.{ArePaced, IsPaced, own_actions}

abbrev Actions : Type 0
Actions = List (ℕ × Action)

-- how many messages are sent by these actions of a connection, how many of the sends stand together at the end, and whether one does
abbrev sends : List Action → ℕ
sends [] = 0
sends (Send parts ∷ own) = 1 + sends own
sends (Await count ∷ own) = sends own

abbrev together_behind : ℕ → List Action → ℕ
together_behind together [] = together
together_behind together (Send parts ∷ own) = together_behind (together + 1) own
together_behind together (Await count ∷ own) = together_behind 0 own

abbrev ends : Bool → List Action → Bool
ends before [] = before
ends before (action ∷ own) = ends (is_send action) own

own-append : (conn : ℕ) (front back : Actions) → own_actions conn (front ++ back) ≡ own_actions conn front ++ own_actions conn back
own-append conn [] back = refl
own-append conn (action ∷ front) back = by_test (action.0 == conn) (own-append conn front back)
  where
    by_test : (test : Bool) → own_actions conn (front ++ back) ≡ own_actions conn front ++ own_actions conn back
        → (if test then action.1 ∷ own_actions conn (front ++ back) else own_actions conn (front ++ back))
        ≡ (if test then action.1 ∷ own_actions conn front else own_actions conn front) ++ own_actions conn back
    by_test true later = ap (λ own. action.1 ∷ own) later
    by_test false later = later

counted : (test : Bool) (action : Action) (own : List Action) (count : ℕ) → sends own ≡ count
    → sends (if test then action ∷ own else own) ≡ (if test && is_send action then 1 else 0) + count
counted true (Send parts) own count is = omega (arith, is)
counted true (Await awaited) own count is = omega (arith, is)
counted false action own count is = omega (arith, is)

sends-own : (conn : ℕ) (actions : Actions) → sends (own_actions conn actions) ≡ sends_on conn actions
sends-own conn [] = refl
sends-own conn (action ∷ actions) =
    counted (action.0 == conn) action.1 (own_actions conn actions) (sends_on conn actions) (sends-own conn actions)
    ∙ sym (sum_by-cons (λ (action : ℕ × Action). if (action.0 == conn) && is_send action.1 then 1 else 0) action actions)

ends-own : (conn : ℕ) (before : Bool) (actions : Actions)
    → fold (λ before (action : ℕ × Action). if action.0 == conn then is_send action.1 else before) before actions ≡ ends before (own_actions conn actions)
ends-own conn before [] = refl
ends-own conn before (action ∷ actions) =
    ends-own conn (if action.0 == conn then is_send action.1 else before) actions ∙ by_test (action.0 == conn) (own_actions conn actions)
  where
    by_test : (test : Bool) (own : List Action) → ends (if test then is_send action.1 else before) own ≡ ends before (if test then action.1 ∷ own else own)
    by_test true own = refl
    by_test false own = refl

none_together : (before : Bool) (together : ℕ) (own : List Action) → (before ≡ false → together ≡ 0) → ends before own ≡ false → together_behind together own ≡ 0
none_together before together [] none last = none last
none_together before together (Send parts ∷ own) none last = none_together true (together + 1) own (λ not_so. absurd (cc)) last
none_together before together (Await count ∷ own) none last = none_together false 0 own (λ so. refl) last

end_within : (sent together : ℕ) (own : List Action) → IsPaced sent together own → together_behind together own < 2
end_within sent together [] paced = paced
end_within sent together (Send parts ∷ own) paced = end_within (sent + 1) (together + 1) own paced.1
end_within sent together (Await count ∷ own) paced = end_within sent 0 own paced.2

paced-append : (sent together : ℕ) (own more : List Action) → IsPaced sent together own → IsPaced (sent + sends own) (together_behind together own) more
    → IsPaced sent together (own ++ more)
paced-append sent together [] more paced later = subst (λ sent. IsPaced sent together more) (omega arith) later
paced-append sent together (Send parts ∷ own) more paced later =
    (paced.0, paced-append (sent + 1) (together + 1) own more paced.1 (subst (λ sent. IsPaced sent (together_behind (together + 1) own) more) (omega arith) later))
paced-append sent together (Await count ∷ own) more paced later = (paced.0, paced.1, paced-append sent 0 own more paced.2 later)

-- one send more of the connection
sent_own : (own : List Action) (parts : List Part) (pauses : Bool) → IsPaced 0 0 own
    → IsPaced 0 0 (own ++ Send parts ∷ (if pauses || ends false own then Await (sends own + 1) ∷ [] else []))
sent_own own parts pauses paced = paced-append 0 0 own _ paced (by_end pauses (ends false own) refl)
  where
    end : together_behind 0 own < 2
    end = end_within 0 0 own paced

    by_end : (pauses last : Bool) → ends false own ≡ last
        → IsPaced (0 + sends own) (together_behind 0 own) (Send parts ∷ (if pauses || last then Await (sends own + 1) ∷ [] else []))
    by_end true last is = (end, (omega arith, omega arith, omega arith))
    by_end false true is = (end, (omega arith, omega arith, omega arith))
    by_end false false is = let none = none_together false 0 own (λ so. refl) is in (end, omega (arith, none))

own_same : (conn count : ℕ) (parts : List Part) (test : Bool) → own_actions conn ((conn, Send parts) ∷ (if test then (conn, Await count) ∷ [] else []))
    ≡ Send parts ∷ (if test then Await count ∷ [] else [])
own_same conn count parts true = let same : (conn == conn) ≡ true = grind (arith, nat_tests) in rw same refl
own_same conn count parts false = let same : (conn == conn) ≡ true = grind (arith, nat_tests) in rw same refl

own_other : (conn other count : ℕ) (parts : List Part) (test : Bool) → other ≢ conn
    → own_actions other ((conn, Send parts) ∷ (if test then (conn, Await count) ∷ [] else [])) ≡ []
own_other conn other count parts true differs = let apart : (conn == other) ≡ false = grind (arith, nat_tests) in rw apart refl
own_other conn other count parts false differs = let apart : (conn == other) ≡ false = grind (arith, nat_tests) in rw apart refl

pub sent_paced : (conn : ℕ) (before : Actions) (parts : List Part) (pause : ℕ) → ArePaced before → ArePaced (sent_behind before conn parts pause)
sent_paced conn before parts pause paced = λ other. by_conn other (cases_eq other conn)
  where
    awaited : Bool
    awaited = not (pause == 0) || ends_in_send conn before

    more : Actions
    more = (conn, Send parts) ∷ await_behind pause conn before

    by_conn : (other : ℕ) → (other ≡ conn) ⊎ (other ≢ conn) → IsPaced 0 0 (own_actions other (before ++ more))
    by_conn other (inl same) =
        subst (λ conn. IsPaced 0 0 (own_actions conn (before ++ more))) (sym same)
        (subst (IsPaced 0 0) (sym (own-append conn before more ∙ ap (λ own. own_actions conn before ++ own) (own_same conn (sends_on conn before + 1) parts awaited)))
        (rw (← sends-own conn before, ends-own conn false before) (sent_own (own_actions conn before) parts (not (pause == 0)) (paced conn))))
    by_conn other (inr differs) =
        subst (IsPaced 0 0)
        (sym (own-append other before more ∙ ap (λ own. own_actions other before ++ own) (own_other conn other (sends_on conn before + 1) parts awaited differs) ∙ append-nil (own_actions other before)))
        (paced other)
