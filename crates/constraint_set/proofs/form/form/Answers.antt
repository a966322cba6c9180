use Rattle.std.proofs.Common.{◌≡◌, ◌++◌, List, [], ℕ, filter_map, flat_map, map, sym, ◌∙◌, ap, subst}
use Rattle.std.proofs.lemmas.List.Concat.{flat_map-append}
use Rattle.constraint_set.specs.Form.{difference_key, packed, root_key}
use Rattle.constraint_set.specs.Known.{IsIn}
use Rattle.constraint_set.proofs.form.form.Goals as goal

-- one list after the other, from nothing
joined : (out middle first : List ℕ) (written keys put : List (List ℕ)) → out ≡ middle ++ flat_map packed put → put ≡ keys → middle ≡ first ++ flat_map packed written → first ≡ []
    → out ≡ flat_map packed (written ++ keys)
joined out middle first written keys put out_is put_is middle_is none =
    out_is ∙ ap (λ list. middle ++ flat_map packed list) put_is ∙ ap (λ front. front ++ flat_map packed keys) (middle_is ∙ ap (λ list. list ++ flat_map packed written) none)
    ∙ sym (flat_map-append packed written keys)

pub returns : goal.returns
returns c =
    let keys : List (List ℕ) = c.in_ok-keys.keys.items in
    let written = map (root_key c.args.symbols.now c.args.roots.now) c.args.roots.now in
    let from : c.in_ok-difference_keys.field-0.items ≡ filter_map (difference_key c.args.framing c.args.symbols.now c.args.roots.now) c.args.differences.now = c.in_ok-difference_keys.ensures in
    let is : c.put_keys.new.out.items ≡ flat_map packed (written ++ keys) =
    joined _ _ _ written keys _ c.in_ok-put_keys.ensures c.deref-2.ensures.value c.in_ok-put_roots.ensures c.new-out.ensures.items in
    record {
      keys = keys;
      sorted = c.in_ok-keys.ensures.sorted;
      all = λ key key_in. c.in_ok-keys.ensures.all key (subst (λ list. IsIn key list) (sym from) key_in);
      only = λ key key_in. subst (λ list. IsIn key list) from (c.in_ok-keys.ensures.only key key_in);
      is = is;
    }
