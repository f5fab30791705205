use Rattle.std.proofs.Common.{◌≡◌, ℕ, List, Some, None, refl, sym, ap, ◌∙◌}
use Rattle.doc_tables.specs.Places.{found_in, scoped}
use Rattle.doc_tables.proofs.TableLemmas.{table_back, table_put}
use Rattle.doc_tables.proofs.ScopeLemmas.{pair_each}
use Rattle.doc_tables.proofs.scopes.ScopedPlaces.put.Goals as goal

pub returns-in_ok-insert : goal.returns-in_ok-insert
returns-in_ok-insert c = λ wanted same table.
    let old = c.args.self.now in
    let key : ℕ × List ℕ = (c.in-Some.scope, c.in-Some.name.now) in
    let is : wanted c.args.node ≡ Some key = sym same ∙ ap scoped c.in-Some.is in
    let held : found_in old key ≡ Some c.in-Some-2.first = sym c.in_ok-first.ensures.old ∙ c.in-Some-2.is in
    table_back wanted c.args.node c.in-Some-2.first (found_in old) (found_in (record { first = c.insert.new.self })) (found_in (record { first = c.insert-in-Some-2.new.self })) key is held
    (pair_each key (c.in-Some.scope, c.in-Some.name) c.args.node old.first c.insert.new.self c.in_ok-first.ensures.updates refl refl)
    (pair_each key (c.in-Some.scope, c.in-Some.name) c.in-Some-2.first c.insert.new.self c.insert-in-Some-2.new.self c.in_ok-insert.ensures.updates refl refl) table

pub returns-in_default-2 : goal.returns-in_default-2
returns-in_default-2 c = λ wanted same table.
    let old = c.args.self.now in
    let key : ℕ × List ℕ = (c.in-Some.scope, c.in-Some.name.now) in
    let is : wanted c.args.node ≡ Some key = sym same ∙ ap scoped c.in-Some.is in
    let free : found_in old key ≡ None = sym c.in_ok-first.ensures.old ∙ c.in_default-2.is in
    table_put wanted c.args.node (found_in old) (found_in (record { first = c.insert.new.self })) key is free
    (pair_each key (c.in-Some.scope, c.in-Some.name) c.args.node old.first c.insert.new.self c.in_ok-first.ensures.updates refl refl) table
