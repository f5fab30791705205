use Rattle.std.proofs.Common.{◌≡◌, ◌-◌, ◌++◌, ◌∷◌, [], suc, List, ℕ, get_or, set, replicate, sym, ap, ◌∙◌}
use Rattle.std.proofs.lemmas.Option.{same_Some, slice_get-get_or}
use Rattle.port_orders.proofs.TableLemmas.{one_empty}
use Rattle.port_orders.proofs.index.reach.Goals as goal

pub returns-clause-grown : goal.returns-clause-grown
returns-clause-grown c =
    let tables = c.args.tables.now.items in
    let at = c.args.at in
    let less = c.args.place - c.len-len.result in
    let one : c.append.new.self ≡ replicate {A = List ℕ} (suc less) [] =
    c.in_ok-append.ensures.all ∙ ap (λ (z : List (List ℕ)). z ++ c.in_ok-new.field-0) c.in_ok-more.ensures ∙ ap (λ (z : List (List ℕ)). replicate less [] ++ z) c.in_ok-new.ensures ∙ one_empty less in
    (suc less, ap (set tables at) (c.in_ok-append-2.ensures.all ∙ ap (λ (z : List (List ℕ)). z ++ c.append.new.self) (c.index_mut.ensures.value ∙ same_Some (get_or tables at c.index_mut.result.now) (get_or tables at []) (sym (slice_get-get_or tables at c.index_mut.result.now c.requires) ∙ slice_get-get_or tables at [] c.requires)) ∙ ap (λ (z : List (List ℕ)). get_or tables at [] ++ z) one))
