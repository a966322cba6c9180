-- What is bound by a statement is bound to the next slots.
use Rattle.std.proofs.Common.{◌≡◌, ℕ, ◌+◌, ◌≤◌, List, [], ◌∷◌, ◌++◌, length, map, take, drop, Option, Some, None, refl, sym, ◌∙◌, ap, subst, arith, append_assoc, append-nil, length-append}
use Rattle.std.proofs.lemmas.List.{length-map, map-append, take_all}
use Rattle.spec_model.specs.declared.config.Binding.{Binding}
use Rattle.spec_model.specs.declared.config.Value.{Value}
use Rattle.spec_model.specs.declared.tree.HoleKind.{HoleKind}
use Rattle.spec_model.specs.declared.tree.Item.{Item}
use Rattle.spec_model.specs.declared.tree.Item.TheVariants.{Lit, Hole}
use Rattle.spec_model.specs.Pattern.{bindings_of, hole_binding, hole_value, item_takes, pieces_of}
use Rattle.spec_model.specs.Value.{◌>>=◌}
use Rattle.spec_model.proofs.Partial.{bind_gave}
use Rattle.spec_rules.specs.declared.names.Known.{Known}
use Rattle.spec_rules.specs.Names.{hole_type, local, names_of_pattern}
use Rattle.itree_data.specs.declared.node.Slotted.TheVariants.{Lit as Lit', Hole as Hole'}
use Rattle.itree_data.specs.Resolve.{slotted}
use Rattle.itree_data.specs.Standing.{with_local}
use Rattle.itree_data.specs.Step.{item_of, with_holes}
use Rattle.itree_data.proofs.Places.{names_of, values_of}
use Rattle.itree_data.proofs.Stored.{InScope, known_names}

same_length : (scope : List Known) (bound : List Binding) → names_of bound ≡ known_names scope → length bound ≡ length scope
same_length [] [] e = refl
same_length [] (b ∷ bound) e = absurd (cc)
same_length (known ∷ scope) [] e = absurd (cc)
same_length (known ∷ scope) (b ∷ bound) e =
    let later : names_of bound ≡ known_names scope = cc in let same = same_length scope bound later in omega (arith, same)

pub bound_length : (scope : List Known) (bound : List Binding) (locals : List Value) → InScope scope bound locals → length bound ≡ length scope
bound_length scope bound locals inside = same_length scope bound inside.names

-- One name more is bound to the next slot.
pub bound_next : (scope : List Known) (bound : List Binding) (locals : List Value) (one : Binding) (known : Known) → InScope scope bound locals
    → one.name ≡ known.name → InScope (scope ++ known ∷ []) (bound ++ one ∷ []) (with_local locals (length scope) one.value)
bound_next scope bound locals one known inside same =
    let long = bound_length scope bound locals inside in
    let values : take (length scope) locals ++ one.value ∷ [] ≡ values_of (bound ++ one ∷ [])
    = ap (λ xs. xs ++ one.value ∷ []) inside.values ∙ sym (map-append (λ (b : Binding). b.value) bound (one ∷ [])) in
    let enough : length (values_of (bound ++ one ∷ [])) ≤ length (scope ++ known ∷ [])
    = omega (arith, long, length-map (bound ++ one ∷ []) (λ (b : Binding). b.value), length-append bound (one ∷ []), length-append scope (known ∷ [])) in
    record {
      names = map-append (λ (b : Binding). b.name) bound (one ∷ []) ∙ ap (λ xs. xs ++ one.name ∷ []) inside.names
          ∙ ap (λ n. known_names scope ++ n ∷ []) same ∙ sym (map-append (λ (k : Known). k.name) scope (known ∷ []));
      values = ap (take (length (scope ++ known ∷ []))) values ∙ take_all (length (scope ++ known ∷ [])) (values_of (bound ++ one ∷ [])) enough;
    }

pub bind_same : {A B : Type 0} (o : Option A) (f g : A → Option B) → ((x : A) → f x ≡ g x) → (o >>= f) ≡ (o >>= g)
bind_same None f g same = refl
bind_same (Some x) f g same = same x

-- the slots of holes play no part in what they take
pub slotted_pieces : (items : List Item) (slot : ℕ) (bytes : List ℕ) → pieces_of (map item_of (slotted slot items)) bytes ≡ pieces_of items bytes
slotted_pieces [] slot bytes = refl
slotted_pieces (Lit text ∷ items) slot bytes =
    bind_same (item_takes (Lit text) bytes) _ _
    (λ piece. ap (λ o. o >>= (λ pieces. let all : Option (List (List ℕ)) = Some (piece ∷ pieces) in all)) (slotted_pieces items slot (drop (length piece) bytes)))
slotted_pieces (Hole name kind ∷ items) slot bytes =
    bind_same (item_takes (Hole name kind) bytes) _ _
    (λ piece. ap (λ o. o >>= (λ pieces. let all : Option (List (List ℕ)) = Some (piece ∷ pieces) in all)) (slotted_pieces items (slot + 1) (drop (length piece) bytes)))

hole_step : (name : List ℕ) (kind : HoleKind) (items : List Item) (piece : List ℕ) (more : List (List ℕ)) (scope : List Known) (bound : List Binding) (locals : List Value)
    (slot : ℕ) → slot ≡ length (scope ++ local name (hole_type kind) ∷ [])
    → InScope ((scope ++ local name (hole_type kind) ∷ []) ++ names_of_pattern items) ((bound ++ hole_binding name kind piece ∷ []) ++ bindings_of items more)
    (with_holes (with_local locals (length scope) (hole_value kind piece)) (slotted (length (scope ++ local name (hole_type kind) ∷ [])) items) more)
    → InScope (scope ++ local name (hole_type kind) ∷ names_of_pattern items) (bound ++ hole_binding name kind piece ∷ bindings_of items more)
    (with_holes (with_local locals (length scope) (hole_value kind piece)) (slotted slot items) more)
hole_step name kind items piece more scope bound locals slot slot_is inside =
    rw (
      slot_is,
      ← append_assoc scope (local name (hole_type kind) ∷ []) (names_of_pattern items),
      ← append_assoc bound (hole_binding name kind piece ∷ []) (bindings_of items more),
    ) inside

-- The holes of a pattern that fits are bound to the next slots.
pub holes_bound : (items : List Item) (bytes : List ℕ) (pieces : List (List ℕ)) → pieces_of items bytes ≡ Some pieces
    → (scope : List Known) (bound : List Binding) (locals : List Value) → InScope scope bound locals
    → InScope (scope ++ names_of_pattern items) (bound ++ bindings_of items pieces) (with_holes locals (slotted (length scope) items) pieces)
holes_bound [] bytes pieces fits scope bound locals inside = rw (append-nil scope, append-nil bound) inside
holes_bound (Lit text ∷ items) bytes pieces fits scope bound locals inside =
    let piece = bind_gave (item_takes (Lit text) bytes) _ pieces fits in
    let more = bind_gave (pieces_of items (drop (length piece.0) bytes)) _ pieces piece.2 in
    let same : piece.0 ∷ more.0 ≡ pieces = cc in
    subst (λ ps. InScope (scope ++ names_of_pattern items) (bound ++ bindings_of (Lit text ∷ items) ps) (with_holes locals (Lit' text ∷ slotted (length scope) items) ps))
    same (holes_bound items (drop (length piece.0) bytes) more.0 more.1 scope bound locals inside)
holes_bound (Hole name kind ∷ items) bytes pieces fits scope bound locals inside =
    let piece = bind_gave (item_takes (Hole name kind) bytes) _ pieces fits in
    let more = bind_gave (pieces_of items (drop (length piece.0) bytes)) _ pieces piece.2 in
    let same : piece.0 ∷ more.0 ≡ pieces = cc in
    let one = hole_binding name kind piece.0 in
    let known = local name (hole_type kind) in
    let next = bound_next scope bound locals one known inside refl in
    let rest = holes_bound items (drop (length piece.0) bytes) more.0 more.1 (scope ++ known ∷ []) (bound ++ one ∷ []) (with_local locals (length scope) one.value) next in
    let long : length scope + 1 ≡ length (scope ++ known ∷ []) = omega (arith, length-append scope (known ∷ [])) in
    subst (λ ps. InScope (scope ++ known ∷ names_of_pattern items) (bound ++ bindings_of (Hole name kind ∷ items) ps) (with_holes locals (Hole' (length scope) kind ∷ slotted (length scope + 1) items) ps))
    same (hole_step name kind items piece.0 more.0 scope bound locals (length scope + 1) long rest)
