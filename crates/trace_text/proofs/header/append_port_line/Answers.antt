use Rattle.std.proofs.Common.{List, ℕ, ◌∷◌, ◌++◌, ap, codes, decimal, take, ◌∙◌}
use Rattle.sim_base.specs.Escape.{escaped}
use Rattle.system_model.specs.Text.{component_name, port_fields}
use Rattle.trace_text.specs.Lines.{ended}
use Rattle.trace_text.proofs.RestLemmas.{port_put}
use Rattle.trace_text.proofs.header.append_port_line.Goals as goal

pub returns-clause-text : goal.returns-clause-text
returns-clause-text c =
    let prefix = take c.args.at c.args.out.now in
    let number = decimal c.args.number in
    let kind = c.as_bytes.result.now in
    let component = escaped (component_name c.args.components.now c.args.port.now.component.0) in
    let name = escaped c.as_str.result.now in
    let more = λ (piece text : List ℕ). text ++ piece in
    c.append.ensures.text ∙ ap (more (codes "\n"))
    (c.append_name-at.ensures.text ∙ ap (more name)
    (c.append-at-5.ensures.text ∙ ap (more (codes " "))
    (c.append_component_name-at.ensures.text ∙ ap (more component)
    (c.append-at-4.ensures.text ∙ ap (more (codes " "))
    (c.append-at-3.ensures.text ∙ ap (more kind)
    (c.append-at-2.ensures.text ∙ ap (more (codes " "))
    (c.append_number-at.ensures.text ∙ ap (more number) c.append-at.ensures.text)))))))
    ∙ port_put prefix number kind component name
    ∙ ap (λ (k : List ℕ). prefix ++ ended (codes "port " ++ (number ++ (32 ∷ (k ++ (32 ∷ (component ++ (32 ∷ name)))))))) (c.as_bytes.ensures.value ∙ c.type_name.ensures)
    ∙ ap (λ (n : List ℕ). prefix ++ ended (port_fields c.args.number c.args.port.now.kind (escaped (component_name c.args.components.now c.args.port.now.component.0)) (escaped n))) c.as_str.ensures
