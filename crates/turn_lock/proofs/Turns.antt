-- Taking and leaving a turn keeps the lock's rule.
use Rattle.std.proofs.Common.{◌≡◌, ◌≢◌, ℕ, ◌+◌, ◌*◌, ◌%◌, eqb, List, [], ◌∷◌, ◌++◌, length, get_or, set, refl, sym, ap, ◌∙◌, subst, arith, length-append, Some, None, Option}
use Rattle.std.specs.Prelude.{All}
use Rattle.std.specs.Option.{ForSome}
use Rattle.std.proofs.lemmas.Option.{same_Some}
use Rattle.std.proofs.lemmas.List.{append_cancel_left}
use Rattle.std.proofs.lemmas.List.Elements.{All-set, All-weaker}
use mathlib.Core.Option.{some, none}
use mathlib.Core.Option as maybe
use lib.ListN.{get_elem?}
use lib.Seq.{set-get_or}
use prog.Atomic.{either}
use Rattle.atomic_table.specs.Table.{State, Me, step, Act, keeps, takes, gives, Valid, carried_after, stepped, Allows}
use Rattle.atomic_table.proofs.Lists.{set_again, set_here, exchanged}
use Rattle.turn_lock.specs.declared.view.View.{View}
use Rattle.turn_lock.specs.declared.view.Role.TheVariants.{Spent}
use Rattle.turn_lock.specs.Places.{BeginsWith}
use Rattle.turn_lock.specs.Views.{if_holder, longer, holders, having_found, having_added, having_left, having_compared}
use Rattle.turn_lock.specs.Rule.{ShowsTurn, HasFound, HasSeen, Knows, IsBlankIfSpent, StandsFor, HasValue, Rule}
use Rattle.turn_lock.specs.Steps.{left, compared, TakesTurn, tried, added}
use Rattle.turn_lock.proofs.Sums.{All-at, sum_by-set_at, at-le-sum_by, All-set_only}
use Rattle.turn_lock.proofs.Spelling.{begins_itself, begins-append, longer_begins}
use Rattle.turn_lock.proofs.Counting.{counts_stay}
use Rattle.turn_lock.proofs.Sharing.{shared_stays, shared_grows}

-- of a seat that holds no turn anything may be said of the list that it found
found_nothing : {E : Type 0} (found : Option (List E)) (P : List E → Type 0) → if_holder found ≡ 0 → ForSome found P
found_nothing None P idle list e = absurd (cc)
found_nothing (Some other) P idle list e = absurd (omega arith)

module _ {E F : Type 0} where
  abbrev holder : View E F → ℕ
  holder v = if_holder v.found

  -- how many seats hold the turn once one seat found something else
  pub holders-set : (views : List (View E F)) (id : ℕ) (v w : View E F) → get_elem? views id ≡ some v
      → holders (set views id w) + holder v ≡ holders views + holder w
  holders-set views id v w at = sum_by-set_at holder views id v w at

  -- what the word says, and what it says after a step
  word_is : (history : List E) (words : List ℕ) (views : List (View E F)) → ShowsTurn history words views
      → get_or words 0 0 ≡ 2 * length history + holders views
  word_is history words views turn = ap (λ (l : List ℕ). get_or l 0 0) turn.word

  word_set : (history : List E) (words : List ℕ) (views : List (View E F)) → ShowsTurn history words views → (new says : ℕ) → new ≡ says
      → set words 0 new ≡ says ∷ []
  word_set history words views turn new says same = subst (λ (l : List ℕ). set l 0 new ≡ says ∷ []) (sym turn.word) (ap (λ (x : ℕ). x ∷ []) same)

  -- the seat that holds the turn is the only one, and found the history
  holds_alone : (history : List E) (words : List ℕ) (views : List (View E F)) (id : ℕ) (v : View E F) (list : List E) → ShowsTurn history words views
      → All (HasFound history) views
      → get_elem? views id ≡ some v → v.found ≡ Some list → (holders views ≡ 1) × (holder v ≡ 1) × (list ≡ history)
  holds_alone history words views id v list turn found at held =
      let mine : holder v ≡ 1 = ap if_holder held in
      let one = turn.one_holder in
      let part = at-le-sum_by holder views id v at in
      (omega arith, mine, All-at (HasFound history) views id v at found list held)

module _ {V E F : Type 0} (entries : V → List E) (fixed : V → F) (part : F) where
  abbrev St : Type 0
  St = State (Option V) (View E F)

  abbrev Sat : Type 0
  Sat = Me (Option V) (View E F)

  abbrev Holds : St → Type 0
  Holds = Rule entries fixed part

  -- a seat changes only what it has seen and found, and the history stays
  reseated : (s : St) (r : Holds s) (id : ℕ) (v : View E F) (front : List E) (found : Option (List E)) (words : List ℕ) (homes : List (maybe.Option (Option V)))
      → get_elem? s.views id ≡ some v → v.role ≢ Spent → BeginsWith r.history front
      → ShowsTurn r.history words (set s.views id record v { front = front; found = found })
      → HasValue entries fixed part r.history homes (set s.views id record v { front = front; found = found })
      → Holds record { words = words; homes = homes; views = set s.views id record v { front = front; found = found } }
  reseated s r id v front found words homes at alive seen turn value =
      let w : View E F = record v { front = front; found = found } in
      record {
        history = r.history;
        shared = shared_stays r.history s.views id v w at refl refl r.shared;
        turn = turn;
        value = value;
        seen = All-set (HasSeen r.history) s.views id w (seen, (All-at (HasSeen r.history) s.views id v at r.seen).1) r.seen;
        spent = All-set IsBlankIfSpent s.views id w (λ is. absurd (alive is)) r.spent;
        counted = counts_stay s.views id v w at refl refl refl r.counted;
        told = All-set (Knows part) s.views id w (All-at (Knows part) s.views id v at r.told) r.told;
      }

  -- nothing changes
  unmoved : (s : St) (r : Holds s) (id : ℕ) (v : View E F) → get_elem? s.views id ≡ some v
      → Holds record { words = set s.words 0 (get_or s.words 0 0); homes = s.homes; views = set s.views id v }
  unmoved s r id v at =
      let words = set-get_or s.words 0 0 in
      let views = set_again s.views id v at in
      subst (λ (t : List ℕ × List (View E F)). Holds record { words = t.0; homes = s.homes; views = t.1 }) (λ i. (sym words i, sym views i)) r

  -- where the word is even, the turn is taken
  takes_even : (s : St) (r : Holds s) (id : ℕ) (m : Sat) (old : ℕ) → m.0.role ≢ Spent → m.0.found ≡ None → old % 2 ≡ 0
      → get_elem? s.views id ≡ some m.0 → get_or s.words 0 0 ≡ old
      → (w : View E F) × (a : Act (Option V)) × Valid s.homes m.1 a × Holds (stepped s 0 (old + 1) id m.1 w a) × TakesTurn entries fixed m old (w, carried_after m.1 a)
  takes_even s r id m old alive idle even at hit =
      let v : View E F = m.0 in
      let w : View E F = having_found v r.history in
      let is = word_is r.history s.words s.views r.turn in
      let one = r.turn.one_holder in
      let free : holders s.views ≡ 0 = omega arith in
      let home = r.value.home free in
      let seen = (All-at (HasSeen r.history) s.views id v at r.seen).0 in
      let mine : holder v ≡ 0 = ap if_holder idle in
      let count = holders-set s.views id v w at in
      let held : holders (set s.views id w) ≡ 1 = omega arith in
      let odd = word_set r.history s.words s.views r.turn (old + 1) (2 * length r.history + holders (set s.views id w)) (omega arith) in
      let found = All-set (HasFound r.history) s.views id w (λ list e. same_Some list r.history (sym e)) r.value.found in
      let known = All-at (Knows part) s.views id v at r.told alive in (
        w,
        takes 0 (Some home.0),
        home.1,
        reseated s r id v v.front (Some r.history) (set s.words 0 (old + 1)) (set s.homes 0 none) at alive seen
            record { word = odd; one_holder = omega arith }
            record { home = λ none-holds. absurd (omega arith); found = found },
        (r.history, home.0, refl, (omega arith), seen, home.2.0, known ∙ ap (λ (x : F). Some x) (sym home.2.1)),
      )

  abbrev Goes : St → ℕ → Sat → (ℕ → Sat → Type 0) → ℕ → Type 0
  Goes s id m then n = (w : View E F) × (a : Act (Option V)) × Valid s.homes m.1 a × Holds (stepped s 0 n id m.1 w a) × then (get_or s.words 0 0) (w, carried_after m.1 a)

  -- a try takes the turn where it finds the even word that it looks for, and else changes nothing
  pub takes_turn : (slots id : ℕ) (m : Sat) (old new : ℕ) (said : maybe.Option (Option V)) → m.0.role ≢ Spent → m.0.found ≡ None → old % 2 ≡ 0
      → new ≡ old + 1
      → Allows Holds slots id m 0 (λ n. either (eqb n old) new n) (tried entries fixed (step slots 0 old new said) m)
  takes_turn slots id m old new said alive idle even next s r wide at small =
      let told = tried entries fixed (step slots 0 old new said) m in
      let won : get_or s.words 0 0 ≡ old → Goes s id m told new = λ hit.
      let t = takes_even s r id m old alive idle even at hit in
      let kept = subst (λ (n : ℕ). Holds (stepped s 0 n id m.1 t.0 t.1)) (sym next) t.3 in
      let mine = subst (λ (n : ℕ). TakesTurn entries fixed m n (t.0, carried_after m.1 t.1)) (sym hit) t.4 in
      (t.0, t.1, t.2, kept, ((λ _. mine), (λ miss. absurd (miss hit)))) in
      let lost : get_or s.words 0 0 ≢ old → Goes s id m told (get_or s.words 0 0) =
      λ miss. (m.0, keeps, tt, unmoved s r id m.0 at, ((λ hit. absurd (miss hit)), (λ _. refl))) in
      exchanged (get_or s.words 0 0) old new (Goes s id m told) won lost

  -- the value is at home once the seat that has it gives it back
  gives_home : (homes : List (maybe.Option (Option V))) (value : V) → length homes ≡ 1
      → get_elem? (set homes 0 (some (Some value))) 0 ≡ some (some (Some value))
  gives_home homes value wide = set_here homes 0 (some (Some value)) (omega arith)

  leaves_at : (slots id : ℕ) (v : View E F) (list : List E) (value : V) (new : ℕ) → slots ≡ 1 → v.role ≢ Spent → v.found ≡ Some list
      → StandsFor entries fixed list part value → new ≡ 2 * length list
      → Allows Holds slots id (v, (0, Some value) ∷ []) 0 (λ _. new) (λ _. left (step slots 0 new 0 none) (v, (0, Some value) ∷ []) new)
  leaves_at slots id v list value new one alive held stands word s r wide at small =
      let w : View E F = having_left v list in
      let alone = holds_alone r.history s.words s.views id v list r.turn r.value.found at held in
      let same : list ≡ r.history = alone.2 in
      let lengths : length list ≡ length r.history = ap length same in
      let count = holders-set s.views id v w at in
      let free : holders (set s.views id w) ≡ 0 = omega (arith, alone.0, alone.1) in
      let even = word_set r.history s.words s.views r.turn new (2 * length r.history + holders (set s.views id w)) (omega arith) in
      let found = All-set (HasFound r.history) s.views id w (found_nothing None (λ l. l ≡ r.history) refl) r.value.found in (
        w,
        gives,
        tt,
        reseated s r id v list None (set s.words 0 new) (set s.homes 0 (some (Some value))) at alive
            (subst (λ (l : List E). BeginsWith r.history l) (sym same) (begins_itself r.history))
            record { word = even; one_holder = omega arith }
            record { home = λ _. (value, gives_home s.homes value (wide ∙ one), (stands.0 ∙ same, stands.1)); found = found },
        λ list' e. ap (λ (l : List E). (having_left v l, [])) (same_Some list list' (sym held ∙ e)),
      )

  -- the turn is given back with the list that was found
  pub leaves : (slots id : ℕ) (m : Sat) (list : List E) (value : V) (new : ℕ) → slots ≡ 1 → m.0.role ≢ Spent → m.0.found ≡ Some list
      → m.1 ≡ (0, Some value) ∷ [] → StandsFor entries fixed list part value → new ≡ 2 * length list
      → Allows Holds slots id m 0 (λ _. new) (λ _. left (step slots 0 new 0 none) m new)
  leaves slots id m list value new one alive held slot stands word =
      subst (λ (c : List (ℕ × Option V)). Allows Holds slots id (m.0, c) 0 (λ _. new) (λ _. left (step slots 0 new 0 none) (m.0, c) new)) (sym slot)
      (leaves_at slots id m.0 list value new one alive held stands word)

  first_slot : List (ℕ × Option V) → Option V
  first_slot [] = None
  first_slot (x ∷ xs) = x.1

  -- the list and the entry are those of the value
  same_added : (v : View E F) (list list' : List E) (e e' : E) (value value' : V) → v.found ≡ Some list → v.found ≡ Some list'
      → ◌≡◌ {A = List (ℕ × Option V)} ((0, Some value) ∷ []) ((0, Some value') ∷ [])
      → entries value ≡ list ++ e ∷ [] → entries value' ≡ list' ++ e' ∷ [] → having_added v list e ≡ having_added v list' e'
  unfolding first_slot
  same_added v list list' e e' value value' held held' slot stands stands' =
      let lists : list ≡ list' = same_Some list list' (sym held ∙ held') in
      let values : value ≡ value' = same_Some value value' (ap first_slot slot) in
      let ends : list ++ e ∷ [] ≡ list ++ e' ∷ [] = sym stands ∙ (ap entries values ∙ (stands' ∙ ap (λ (l : List E). l ++ e' ∷ []) (sym lists))) in
      let last = append_cancel_left list (e ∷ []) (e' ∷ []) ends in
      let entry : e ≡ e' = cc in
      λ i. having_added v (lists i) (entry i)

  -- the rule once the seat that holds the turn has added an entry to the history
  history_grows : (s : St) (r : Holds s) (id : ℕ) (v : View E F) (e : E) (value : V) (new : ℕ) → length s.homes ≡ 1 → v.role ≢ Spent
      → v.found ≡ Some r.history → StandsFor entries fixed (r.history ++ e ∷ []) part value
      → new ≡ 2 * length r.history + 2 → get_elem? s.views id ≡ some v
      → Holds record { words = set s.words 0 new; homes = set s.homes 0 (some (Some value)); views = set s.views id (having_added v r.history e) }
  history_grows s r id v e value new wide alive held stands word at =
      let w : View E F = having_added v r.history e in
      let longer-history : List E = r.history ++ e ∷ [] in
      let long = length-append r.history (e ∷ []) in
      let alone = holds_alone r.history s.words s.views id v r.history r.turn r.value.found at held in
      let count = holders-set s.views id v w at in
      let free : holders (set s.views id w) ≡ 0 = omega (arith, alone.0, alone.1) in
      let even = word_set r.history s.words s.views r.turn new (2 * length longer-history + holders (set s.views id w)) (omega arith) in
      let idle : (u : View E F) → holder u ≡ 0 → Unit {0} → HasFound longer-history u = λ u none-found _. found_nothing u.found (λ l. l ≡ longer-history) none-found in
      let found = All-set_only holder (λ _. Unit {0}) (HasFound longer-history) idle s.views id v w at (omega (arith, alone.0, alone.1)) (λ _ _ _. tt) (idle w refl tt) in
      let see : (u : View E F) → HasSeen r.history u → HasSeen longer-history u =
      λ u h. (begins-append r.history u.front (e ∷ []) h.0, begins-append r.history u.met (e ∷ []) h.1) in
      let seen = All-weaker (HasSeen r.history) (HasSeen longer-history) see s.views r.seen in
      record {
        history = longer-history;
        shared = shared_grows r.history s.views id v e at r.shared;
        turn = record { word = even; one_holder = omega arith };
        value = record { home = λ _. (value, gives_home s.homes value wide, stands); found = found };
        seen = All-set (HasSeen longer-history) s.views id w (begins_itself longer-history, (All-at (HasSeen longer-history) s.views id v at seen).1) seen;
        spent = All-set IsBlankIfSpent s.views id w (λ is. absurd (alive is)) r.spent;
        counted = counts_stay s.views id v w at refl refl refl r.counted;
        told = All-set (Knows part) s.views id w (All-at (Knows part) s.views id v at r.told) r.told;
      }

  adds_at : (slots id : ℕ) (v : View E F) (list : List E) (e : E) (value : V) (new : ℕ) → slots ≡ 1 → v.role ≢ Spent → v.found ≡ Some list
      → StandsFor entries fixed (list ++ e ∷ []) part value → new ≡ 2 * length list + 2
      → Allows Holds slots id (v, (0, Some value) ∷ []) 0 (λ _. new) (λ _. added entries fixed (step slots 0 new 0 none) (v, (0, Some value) ∷ []) new)
  adds_at slots id v list e value new one alive held stands word s r wide at small =
      let same : list ≡ r.history = (holds_alone r.history s.words s.views id v list r.turn r.value.found at held).2 in
      let found = held ∙ ap (λ (l : List E). Some l) same in
      let grown : StandsFor entries fixed (r.history ++ e ∷ []) part value = (stands.0 ∙ ap (λ (l : List E). l ++ e ∷ []) same, stands.1) in (
        having_added v r.history e,
        gives,
        tt,
        history_grows s r id v e value new (wide ∙ one) alive found grown (word ∙ ap (λ (l : List E). 2 * length l + 2) same) at,
        λ list' e' value' held' slot' stands'. ap (λ (u : View E F). (u, [])) (same_added v r.history list' e e' value value' found held' slot' grown.0 stands'),
      )

  -- the turn is given back with one entry more
  pub adds : (slots id : ℕ) (m : Sat) (list : List E) (e : E) (value : V) (new : ℕ) → slots ≡ 1 → m.0.role ≢ Spent → m.0.found ≡ Some list
      → m.1 ≡ (0, Some value) ∷ [] → StandsFor entries fixed (list ++ e ∷ []) part value → new ≡ 2 * length list + 2
      → Allows Holds slots id m 0 (λ _. new) (λ _. added entries fixed (step slots 0 new 0 none) m new)
  adds slots id m list e value new one alive held slot stands word =
      subst (λ (c : List (ℕ × Option V)). Allows Holds slots id (m.0, c) 0 (λ _. new) (λ _. added entries fixed (step slots 0 new 0 none) (m.0, c) new)) (sym slot)
      (adds_at slots id m.0 list e value new one alive held stands word)

  -- a load after which the seat's front is the longer of two
  pub compares : (slots id : ℕ) (m : Sat) → m.0.role ≢ Spent → Allows Holds slots id m 0 (λ n. n) (λ n. compared (step slots 0 0 0 none) m n)
  compares slots id m alive s r wide at small =
      let v : View E F = m.0 in
      let w : View E F = having_compared v in
      let seen = All-at (HasSeen r.history) s.views id v at r.seen in
      let front = longer_begins r.history v.front v.met seen.0 seen.1 in
      let count = holders-set s.views id v w at in
      let stay : holders (set s.views id w) ≡ holders s.views = omega arith in
      let is = word_is r.history s.words s.views r.turn in
      let still = word_set r.history s.words s.views r.turn (get_or s.words 0 0) (2 * length r.history + holders (set s.views id w)) (omega arith) in
      let found = All-set (HasFound r.history) s.views id w (All-at (HasFound r.history) s.views id v at r.value.found) r.value.found in (
        w,
        keeps,
        tt,
        reseated s r id v (longer v.front v.met) v.found (set s.words 0 (get_or s.words 0 0)) s.homes at alive front.0
            record { word = still; one_holder = omega (arith, r.turn.one_holder) }
            record { home = λ none-holds. r.value.home (omega arith); found = found },
        (refl, front.1, front.2),
      )
