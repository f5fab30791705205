-- The text that a run writes is that of the trace that it tells.
use Rattle.std.proofs.Common.{arith, ◌≡◌, ◌≢◌, refl, sym, ap, subst, ◌∙◌, ℕ, ◌+◌, ◌<◌, ℤ, suc, List, [], ◌∷◌, ◌++◌, map, length, drop, slice_get, Bool, true, false, cond, Option, Some, None, All}
use Rattle.std.specs.List.{AllByRecursion, flat_map, filter_map, cons_option}
use Rattle.std.specs.Option.{option_map, option_map_or}
use Rattle.std.proofs.lemmas.List.{append_assoc, map-append, length-map}
use Rattle.value_types.specs.declared.values.PortType.{PortType}
use Rattle.value_types.specs.declared.shape.Variable.{Variable}
use Rattle.value_types.specs.Shape.{is_port}
use Rattle.system_model.specs.declared.system.Component.{Component}
use Rattle.system_model.specs.declared.system.Port.{Port}
use Rattle.system_model.specs.declared.system.System.{System}
use Rattle.system_model.specs.declared.plan.Plan.{Plan}
use Rattle.system_model.specs.declared.plan.EndKind.{EndKind}
use Rattle.system_model.specs.Text as text
use Rattle.system_model.specs.Ports.{Label, label_of, label_at, labels_from}
use Rattle.system_model.specs.Shapes.{HasNames, IsSoundShape}
use Rattle.system_model.specs.Sound.{IsSound}
use Rattle.trace_reading.specs.Lines.{line_text}
use Rattle.trace_reading.specs.Form.{IsNamed, IsTextOf, instant_lines, told_values_from, lines_of_ports, lines_of}
use Rattle.trace_reading.specs.Written.{port_told, ports_told, trace_told, IsWritable}
use Rattle.trace_reading.proofs.ListLemmas.{one_suc}

-- ---- the text, line by line

ports_same : (components : List Component) (k : ℕ) (ports : List Port) → text.port_lines_from components k ports ≡ lines_of_ports k (map (port_told components) ports)
ports_same components k [] = refl
ports_same components k (p ∷ ports) = ap (λ (lines : List (List ℕ)). text.port_line components k p ∷ lines) (ports_same components (k + 1) ports)

values_same : (k : ℕ) (values : List (Option ℤ)) → text.value_lines_from k values ≡ map line_text (told_values_from k values)
values_same k [] = refl
values_same k (None ∷ values) = values_same (k + 1) values
values_same k (Some value ∷ values) = ap (λ (lines : List (List ℕ)). text.value_line k value ∷ lines) (values_same (k + 1) values)

text_append : (xs ys : List (List ℕ)) → text.lines_text (xs ++ ys) ≡ text.lines_text xs ++ text.lines_text ys
text_append [] ys = refl
text_append (x ∷ xs) ys = ap (λ (zs : List ℕ). x ++ (10 ∷ zs)) (text_append xs ys) ∙ sym (append_assoc x (10 ∷ text.lines_text xs) (text.lines_text ys))

instants_same : (is : List text.Instant) → text.instants_text is ≡ text.lines_text (map line_text (flat_map instant_lines is))
instants_same [] = refl
instants_same (i ∷ is) =
    let values = told_values_from 0 i.values in
    let later = map line_text (flat_map instant_lines is) in
    ap (λ (xs : List ℕ). text.instant_text i.t i.n i.values ++ xs) (instants_same is)
    ∙ ap (λ (lines : List (List ℕ)). text.lines_text (text.at_line i.t i.n ∷ lines) ++ text.lines_text later) (values_same 0 i.values)
    ∙ sym (text_append (text.at_line i.t i.n ∷ map line_text values) later)
    ∙ ap (λ (lines : List (List ℕ)). text.lines_text (text.at_line i.t i.n ∷ lines)) (sym (map-append line_text values (flat_map instant_lines is)))

text_same : (system : System) (plan : Plan) (instants : List text.Instant) (kind : EndKind) (point : ℕ) → text.trace_text system plan instants kind point ≡ text.lines_text (lines_of (trace_told system plan instants kind point))
text_same system plan instants kind point =
    let header = text.header_line plan.resolution plan.start plan.stop in
    let body = map line_text (flat_map instant_lines instants) in
    let last = text.end_line kind point ∷ [] in
    let told = lines_of_ports 0 (ports_told system) in
    ap (λ (lines : List (List ℕ)). text.lines_text (header ∷ lines) ++ (text.instants_text instants ++ text.lines_text last)) (ports_same system.components 0 system.ports)
    ∙ ap (λ (xs : List ℕ). text.lines_text (header ∷ told) ++ (xs ++ text.lines_text last)) (instants_same instants)
    ∙ ap (λ (xs : List ℕ). text.lines_text (header ∷ told) ++ xs) (sym (text_append body last))
    ∙ sym (text_append (header ∷ told) (body ++ last))

-- ---- the names of a sound system

all_each : {A : Type 0} (P : A → Type 0) (xs : List A) → All P xs → AllByRecursion P xs
all_each P [] all = tt
all_each P (x ∷ xs) all = (all 0 x (omega arith), all_each P xs (λ k d low. all (suc k) d (omega (arith, low))))

some_bytes : (xs : List ℕ) → 0 < length xs → xs ≢ []
some_bytes xs some e = omega (arith, some, ap (λ (ys : List ℕ). length ys) e)

record HasBoth (components : List Component) (l : Label) : Type 0 where
  variable : l.name ≢ []
  component : text.component_name components l.component ≢ []

label_named : (components : List Component) (i : ℕ) (c : Component) (v : Variable) (port : Bool) (kind : Option PortType) → slice_get components i ≡ Some c → 0 < length c.name → 0 < length v.name →
    (l : Label) → cond port (option_map (λ (kind : PortType). record { component = i; name = v.name; kind = kind; reference = v.reference }) kind) None ≡ Some l → HasBoth components l
label_named components i c v true (Some kind) at named some l is =
    let name : v.name ≡ l.name = cc is in
    let number : i ≡ l.component = cc is in
    let there : text.component_name components l.component ≡ c.name = ap (λ (n : ℕ). text.component_name components n) (sym number) ∙ ap (λ (o : Option Component). option_map_or (λ (d : Component). d.name) o []) at in
    record { variable = λ e. some_bytes v.name some (name ∙ e); component = λ e. some_bytes c.name named (sym there ∙ e) }
label_named components i c v true None at named some l is = absurd (cc is)
label_named components i c v false kind at named some l is = absurd (cc is)

put_label : (components : List Component) (o : Option Label) (later : List Label) → ((l : Label) → o ≡ Some l → HasBoth components l) → AllByRecursion (HasBoth components) later → AllByRecursion (HasBoth components) (cons_option o later)
put_label components None later each all = all
put_label components (Some l) later each all = (each l refl, all)

labels_named : (components : List Component) (i : ℕ) (c : Component) (variables : List Variable) → slice_get components i ≡ Some c → 0 < length c.name → AllByRecursion HasNames variables → AllByRecursion (HasBoth components) (filter_map (label_at i) variables)
labels_named components i c [] at named all = tt
labels_named components i c (v ∷ variables) at named all =
    put_label components (label_at i v) (filter_map (label_at i) variables) (label_named components i c v (is_port v) v.kind at named all.0.0) (labels_named components i c variables at named all.1)

both_all : (components : List Component) (xs ys : List Label) → AllByRecursion (HasBoth components) xs → AllByRecursion (HasBoth components) ys → AllByRecursion (HasBoth components) (xs ++ ys)
both_all components [] ys ax ay = ay
both_all components (x ∷ xs) ys ax ay = (ax.0, both_all components xs ys ax.1 ay)

all_labels : (components : List Component) (i : ℕ) (cs : List Component) → drop i components ≡ cs → AllByRecursion (λ (c : Component). 0 < length c.name) cs → AllByRecursion (λ (c : Component). IsSoundShape c.shape) cs → AllByRecursion (HasBoth components) (labels_from i cs)
all_labels components i [] left named shapes = tt
all_labels components i (c ∷ cs) left named shapes =
    let at = one_suc components cs i c left in
    both_all components (filter_map (label_at i) c.shape.variables) (labels_from (suc i) cs)
    (labels_named components i c c.shape.variables at.1 named.0 (all_each HasNames c.shape.variables shapes.0.variables.named))
    (all_labels components (suc i) cs at.0 named.1 shapes.1)

ports_named : (components : List Component) (ports : List Port) → AllByRecursion (HasBoth components) (map label_of ports) → AllByRecursion IsNamed (map (port_told components) ports)
ports_named components [] all = tt
ports_named components (p ∷ ports) all = (record { component = all.0.component; variable = all.0.variable }, ports_named components ports all.1)

told_named : (system : System) → IsSound system → AllByRecursion IsNamed (ports_told system)
told_named system sound =
    let named = all_each (λ (c : Component). 0 < length c.name) system.components sound.components.named in
    let shapes = all_each (λ (c : Component). IsSoundShape c.shape) system.components sound.components.shapes in
    let P : List Label → Type 0 = λ ls. AllByRecursion (HasBoth system.components) ls in
    ports_named system.components system.ports (subst P (sym sound.ports.numbered) (all_labels system.components 0 system.components refl named shapes))

-- the text of a run is in form
pub written : (system : System) (plan : Plan) (instants : List text.Instant) (kind : EndKind) (point : ℕ) → IsWritable system plan instants point → IsTextOf (text.trace_text system plan instants kind point) (trace_told system plan instants kind point)
written system plan instants kind point w = record {
  form = record {
    range = w.range;
    few = omega (arith, w.sound.ports.few, length-map system.ports (port_told system.components));
    named = told_named system w.sound;
    instants = instants;
    each = w.each;
    lines = refl;
    point = w.low;
  };
  text = text_same system plan instants kind point;
}
