-- Skeletons: runs without pick values and message contents, and their order.
use Rattle.std.specs.Prelude.{◌≡◌, ℕ, ◌<◌, ◌⊎◌, true, false, nat_eq, List, ◌∷◌, map, filter, filter_map, length, Bool, Option, Some, None}
use Rattle.spec_model.specs.declared.event.Mark.{Mark}
use Rattle.spec_model.specs.declared.event.Mark.TheVariants.{Take, Arm, Test, Pick, Send}
use Rattle.spec_model.specs.declared.event.ServerEvent.{ServerEvent}
use Rattle.spec_model.specs.declared.event.ServerEvent.TheVariants as servers

abbrev pub mark_of : ServerEvent → Mark
mark_of (servers.Take conn message) = Take conn
mark_of (servers.Arm arm) = Arm arm
mark_of (servers.Test outcome) = Test outcome
mark_of (servers.Pick text) = Pick
mark_of (servers.Send conn message) = Send conn

abbrev pub skeleton_of : List ServerEvent → List Mark
skeleton_of events = map mark_of events

-- the texts that a run picks, in order
abbrev pub picked_text : ServerEvent → Option (List ℕ)
picked_text (servers.Pick text) = Some text
picked_text _ = None

abbrev pub picks_of : List ServerEvent → List (List ℕ)
picks_of events = filter_map picked_text events

-- how many messages a skeleton sends on a connection, and how many tests it makes
abbrev pub is_send_on : ℕ → Mark → Bool
is_send_on conn (Send other) = nat_eq other conn
is_send_on conn _ = false

abbrev pub sends_in : ℕ → List Mark → ℕ
sends_in conn skeleton = length (filter (is_send_on conn) skeleton)

abbrev pub is_test : Mark → Bool
is_test (Test outcome) = true
is_test _ = false

abbrev pub tests_in : List Mark → ℕ
tests_in skeleton = length (filter is_test skeleton)

-- Takes are ordered by connection, arms by number, and true stands before false. No other two marks are ordered: where the skeletons
-- of two runs that explain one exchange differ first, they differ in such marks.
abbrev pub ComesBefore : Mark → Mark → Type 0
ComesBefore (Take conn) (Take other) = conn < other
ComesBefore (Arm arm) (Arm other) = arm < other
ComesBefore (Test true) (Test false) = Unit {0}
ComesBefore _ _ = ⊥

-- Two skeletons are ordered at their first difference.
abbrev pub Precedes : List Mark → List Mark → Type 0
Precedes (mark ∷ marks) (other ∷ others) = ComesBefore mark other ⊎ ((mark ≡ other) × Precedes marks others)
Precedes _ _ = ⊥
