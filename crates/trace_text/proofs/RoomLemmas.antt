-- Each text of a trace of a system fits into the system's room.
use Rattle.std.proofs.Common.{◌≡◌, ℕ, suc, ◌+◌, ◌*◌, ◌^◌, ◌<◌, ◌≤◌, ℤ, pos, negsuc, FitsSigned, List, [], ◌∷◌, length, sum_by, Option, Some, None, decimal, append_assoc, length-append, sym, ap, ◌∙◌, subst, arith}
use Rattle.std.specs.Fmt.{signed_decimal}
use Rattle.std.specs.Int.{w128}
use Rattle.std.proofs.lemmas.Fmt.{length-decimal-le, length-decimal-le_wide}
use Rattle.std.proofs.lemmas.Grind.{common_steps}
use Rattle.sim_base.specs.Escape.{escaped, escaped_byte}
use Rattle.value_types.specs.declared.values.PortType.{PortType}
use Rattle.value_types.specs.declared.values.PortType.TheVariants.{Int8, UInt8, Int16, UInt16, Int32, UInt32, Int64, UInt64, Boolean, Enumeration, Clock}
use Rattle.system_model.specs.declared.system.Component.{Component}
use Rattle.system_model.specs.declared.system.Port.{Port}
use Rattle.system_model.specs.declared.system.System.{System}
use Rattle.system_model.specs.declared.plan.EndKind.{EndKind}
use Rattle.system_model.specs.declared.plan.EndKind.TheVariants.{Stop, Asked, Limit, Fixed, Range, Fault}
use Rattle.system_model.specs.Text.{at_line, component_name, end_text, header_line, lines_text, port_line, port_lines_from, type_name, value_line, value_lines_from}
use Rattle.trace_text.specs.Lines.{ended}
use Rattle.trace_text.specs.Room.{port_room, room_of, IsCount, AreValues, HoldsEach}

-- a part of a sum, which a word holds, and the rest make the whole
pub record SumsUp (part rest whole : ℕ) : Type 0 where
  pub whole_is : part + rest ≡ whole
  pub fits : IsCount part

-- a part of a sum and the rest make the whole
pub record PartOf (part rest whole : ℕ) : Type 0 where
  pub whole_is : part + rest ≡ whole

-- ---- fields

pub length-decimal : (n : ℕ) → n < 2 ^ 64 → length (decimal n) ≤ 20
length-decimal n small = length-decimal-le 20 n (omega arith) (omega arith) small

pub length-signed_decimal : (value : ℤ) → FitsSigned w128 value → length (signed_decimal value) ≤ 40
length-signed_decimal (pos n) small = let fits = small.sfits in omega (arith, length-decimal-le_wide 39 n (omega arith) (omega arith) (omega arith))
length-signed_decimal (negsuc n) small = let fits = small.sfits in omega (arith, length-decimal-le_wide 39 (suc n) (omega arith) (omega arith) (omega arith))

pub length-escaped_byte : (byte : ℕ) → length (escaped_byte byte) ≤ 3
length-escaped_byte byte = grind (arith, common_steps)

pub length-escaped : (name : List ℕ) → length (escaped name) ≤ 3 * length name
length-escaped [] = grind (arith, common_steps)
length-escaped (byte ∷ name) = grind (arith, common_steps, length-escaped name, length-escaped_byte byte)

pub length-type_name : (kind : PortType) → length (type_name kind) ≤ 16
length-type_name Int8 = omega arith
length-type_name UInt8 = omega arith
length-type_name Int16 = omega arith
length-type_name UInt16 = omega arith
length-type_name Int32 = omega arith
length-type_name UInt32 = omega arith
length-type_name Int64 = omega arith
length-type_name UInt64 = omega arith
length-type_name Boolean = omega arith
length-type_name Enumeration = omega arith
length-type_name Clock = omega arith

-- ---- lines

pub length-port_line : (components : List Component) (k : ℕ) (port : Port) → k < 2 ^ 64 → length (ended (port_line components k port)) ≤ port_room components port
length-port_line components k port small =
    let number = length-decimal k small in
    let kind = length-type_name port.kind in
    let component = length-escaped (component_name components port.component.0) in
    let name = length-escaped port.name in
    grind (arith, common_steps)

pub length-value_line : (k : ℕ) (value : ℤ) → k < 2 ^ 64 → FitsSigned w128 value → length (ended (value_line k value)) ≤ 64
length-value_line k value small fits =
    let number = length-decimal k small in
    let text = length-signed_decimal value fits in
    grind (arith, common_steps)

-- a line stands before the others
pub length-lines : (line : List ℕ) (lines : List (List ℕ)) → length (lines_text (line ∷ lines)) ≡ length (ended line) + length (lines_text lines)
length-lines line lines = ap (λ (text : List ℕ). length text) (sym (append_assoc line (10 ∷ []) (lines_text lines))) ∙ length-append (ended line) (lines_text lines)

-- where a line and the others have room, they have both
lines_fit : (line : List ℕ) (lines : List (List ℕ)) (a b : ℕ) → length (ended line) ≤ a → length (lines_text lines) ≤ b → length (lines_text (line ∷ lines)) ≤ a + b
lines_fit line lines a b one others = omega (arith, length-lines line lines, one, others)

-- ---- texts

pub length-header_line : (resolution start stop : ℕ) → IsCount resolution → IsCount start → IsCount stop → length (ended (header_line resolution start stop)) ≤ 128
length-header_line resolution start stop is_resolution is_start is_stop =
    let first = length-decimal resolution is_resolution in
    let second = length-decimal start is_start in
    let third = length-decimal stop is_stop in
    grind (arith, common_steps)

pub length-at_line : (t n : ℕ) → IsCount t → IsCount n → length (ended (at_line t n)) ≤ 128
length-at_line t n is_t is_n =
    let first = length-decimal t is_t in
    let second = length-decimal n is_n in
    grind (arith, common_steps)

pub length-end_text : (kind : EndKind) (t : ℕ) → IsCount t → length (end_text kind t) ≤ 128
length-end_text Stop t is_t = let number = length-decimal t is_t in grind (arith, common_steps)
length-end_text Asked t is_t = let number = length-decimal t is_t in grind (arith, common_steps)
length-end_text Limit t is_t = let number = length-decimal t is_t in grind (arith, common_steps)
length-end_text Fixed t is_t = let number = length-decimal t is_t in grind (arith, common_steps)
length-end_text Range t is_t = let number = length-decimal t is_t in grind (arith, common_steps)
length-end_text Fault t is_t = let number = length-decimal t is_t in grind (arith, common_steps)

-- each port has room for a line
pub room_each : (components : List Component) (ports : List Port) → 64 * length ports ≤ sum_by (port_room components) ports
room_each components [] = grind (arith, common_steps)
room_each components (port ∷ ports) = grind (arith, common_steps, room_each components ports)

pub length-port_lines_from : (components : List Component) (k : ℕ) (ports : List Port) → k + length ports ≤ 2 ^ 64 → length (lines_text (port_lines_from components k ports)) ≤ sum_by (port_room components) ports
length-port_lines_from components k [] few = grind (arith, common_steps)
length-port_lines_from components k (port ∷ ports) few =
    let total : sum_by (port_room components) (port ∷ ports) ≡ port_room components port + sum_by (port_room components) ports = grind (arith, common_steps) in
    subst (λ (room : ℕ). length (lines_text (port_lines_from components k (port ∷ ports))) ≤ room) (sym total)
    (lines_fit (port_line components k port) (port_lines_from components (k + 1) ports) (port_room components port) (sum_by (port_room components) ports)
    (length-port_line components k port (omega arith)) (length-port_lines_from components (k + 1) ports (omega arith)))

pub length-value_lines_from : (k : ℕ) (values : List (Option ℤ)) → k + length values ≤ 2 ^ 64 → AreValues values → length (lines_text (value_lines_from k values)) ≤ 64 * length values
length-value_lines_from k [] few fit = grind (arith, common_steps)
length-value_lines_from k (None ∷ values) few fit =
    let lines = length-value_lines_from (k + 1) values (omega arith) (λ at value within. fit (suc at) value (omega arith)) in
    grind (arith, common_steps)
length-value_lines_from k (Some value ∷ values) few fit =
    let line = length-value_line k value (omega arith) (fit 0 None (omega arith)) in
    let lines = length-value_lines_from (k + 1) values (omega arith) (λ at value within. fit (suc at) value (omega arith)) in
    omega (arith, length-lines (value_line k value) (value_lines_from (k + 1) values))

pub room_holds : (system : System) (room : ℕ) → room ≡ room_of system → IsCount room → HoldsEach system room
room_holds system room is small =
    let each = room_each system.components system.ports in
    record {
      header = λ resolution start stop is_resolution is_start is_stop.
          let first = length-header_line resolution start stop is_resolution is_start is_stop in
          let lines = length-port_lines_from system.components 0 system.ports (omega arith) in
          omega (arith, length-lines (header_line resolution start stop) (port_lines_from system.components 0 system.ports));
      instant = λ t n values is_t is_n fit few.
          let first = length-at_line t n is_t is_n in
          let lines = length-value_lines_from 0 values (omega arith) fit in
          omega (arith, length-lines (at_line t n) (value_lines_from 0 values));
      end = λ kind t is_t. let text = length-end_text kind t is_t in omega arith;
    }
