use Rattle.std.proofs.Common.{◌≡◌, Some, sym, ap, ◌∙◌, arith}
use Rattle.std.specs.Option.{option_copied}
use Rattle.std.proofs.lemmas.Map.Text.{text_keys}
use Rattle.doc_tables.specs.Places.{found_name}
use Rattle.doc_tables.proofs.TableLemmas.{table_entry, name_kept}
use Rattle.doc_tables.proofs.names.NamePlaces.put.Goals as goal

pub returns : goal.returns
returns c = λ key same table.
    let old = c.args.self.now in
    let name = c.in-Some.name.now in
    let is : key c.args.node ≡ Some name = sym same ∙ ap option_copied c.in-Some.is in
    table_entry key c.args.node (found_name old) _ name is (grind (arith, text_keys)) (name_kept name (found_name old) _ (λ x e. grind (arith, text_keys))) table
