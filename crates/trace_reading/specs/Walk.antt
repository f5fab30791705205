-- The lines after the ports, one after another: where each may stand.
use Rattle.std.specs.Prelude.{◌≡◌, ◌&&◌, ◌==◌, ℕ, ◌+◌, ◌^◌, ◌<◌, nat_lt, nat_le, ℤ, Bool, true, false, List, [], ◌∷◌, ◌++◌, Option, Some, None, map, length, take, count_by, if◌then◌else◌}
use Rattle.std.specs.List.{slice_get, slice_index}
use Rattle.std.specs.Option.{option_map_or, option_and_then}
use Rattle.value_types.specs.declared.values.PortType.{PortType}
use Rattle.value_types.specs.declared.values.PortType.TheVariants.{Clock}
use Rattle.value_types.specs.Values.{is_fitting}
use Rattle.system_model.specs.declared.plan.EndKind.{EndKind}
use Rattle.trace_reading.specs.declared.trace.TraceLine.{TraceLine}
use Rattle.trace_reading.specs.declared.trace.TraceLine.TheVariants.{At, Value}
use Rattle.trace_reading.specs.declared.item.Item.{Item}
use Rattle.trace_reading.specs.declared.item.Item.TheVariants.{Row, End}
use Rattle.trace_reading.specs.declared.item.Place.{Place}
use Rattle.trace_reading.specs.declared.item.Place.TheVariants.{Between, Within, Ended}
use Rattle.trace_reading.specs.Lines.{Lacks, line_text, IsShort}
use Rattle.system_model.specs.Text.{end_line, lines_text}

-- ---- what a line tells

abbrev pub item_line : Item → List ℕ
item_line (Row line) = line_text line
item_line (End kind t) = end_line kind t

-- its numbers are of 64 bits
abbrev pub IsShortLine : TraceLine → Type 0
IsShortLine (At t n) = (t < 2 ^ 64) × (n < 2 ^ 64)
IsShortLine (Value port value) = (port < 2 ^ 64) × IsShort value

abbrev pub IsShortItem : Item → Type 0
IsShortItem (Row line) = IsShortLine line
IsShortItem (End kind t) = t < 2 ^ 64

-- the lines of the instants, and the end line
abbrev pub items_of : List TraceLine → EndKind → ℕ → List Item
items_of lines kind point = map (λ (line : TraceLine). Row line) lines ++ (End kind point ∷ [])

-- ---- where it may stand

abbrev pub is_clock : PortType → Bool
is_clock Clock = true
is_clock kind = false

-- the number of Clocks among the first k ports
abbrev pub clocks_before : List PortType → ℕ → ℕ
clocks_before kinds k = count_by is_clock (take k kinds)

-- that number for each k up to the number of ports
pub record IsClockTable (kinds : List PortType) (table : List ℕ) : Type 0 where
  pub size : length table ≡ length kinds + 1
  pub each : (k : ℕ) → k < length kinds + 1 → slice_index table k ≡ clocks_before kinds k

-- an instant may end here: none of the ports still to come is a Clock
abbrev pub is_closed : List PortType → Place → Bool
is_closed kinds Between = true
is_closed kinds (Within next) = clocks_before kinds next == clocks_before kinds (length kinds)
is_closed kinds (Ended kind t) = false

-- it is a port's number, and the value fits the port's type
abbrev pub fits_at : List PortType → ℕ → ℤ → Bool
fits_at kinds port value =
    option_map_or (λ (kind : PortType). is_fitting kind value) (slice_get kinds port) false

-- the port is this one or a later one, its value fits, and no Clock is passed over
abbrev pub is_next : List PortType → ℕ → ℕ → ℤ → Bool
is_next kinds next port value =
    nat_le next port && (fits_at kinds port value && clocks_before kinds next ==
    clocks_before kinds port)

-- an instant's point and its number there are within their limits
abbrev pub is_start : ℕ → ℕ → Bool
is_start t n = nat_le t (2 ^ 62) && nat_lt n 10000

-- where the reading stands after the line; none where the line may not stand there
abbrev pub place_after : List PortType → Place → Item → Option Place
place_after kinds place (Row (At t n)) =
    if is_closed kinds place && is_start t n then Some (Within 0) else None
place_after kinds place (End kind t) =
    if is_closed kinds place && nat_le t (2 ^ 62) then Some (Ended kind t) else None
place_after kinds Between (Row (Value port value)) = None
place_after kinds (Within next) (Row (Value port value)) =
    if is_next kinds next port value then Some (Within (port + 1)) else None
place_after kinds (Ended kind t) (Row (Value port value)) = None

abbrev pub walk : List PortType → Place → List Item → Option Place
walk kinds place [] = Some place
walk kinds place (item ∷ items) =
    option_and_then (λ (p : Place). walk kinds p items) (place_after kinds place item)

-- ---- what the reading has done so far

-- the rows so far, and the end line where it came
abbrev pub items_in : List TraceLine → Place → List Item
items_in lines Between = map (λ (line : TraceLine). Row line) lines
items_in lines (Within next) = map (λ (line : TraceLine). Row line) lines
items_in lines (Ended kind t) = items_of lines kind t

-- the rows with one more, which isn't the end
abbrev pub rows_with : List TraceLine → Item → List TraceLine
rows_with lines (Row line) = lines ++ (line ∷ [])
rows_with lines (End kind t) = lines

-- ---- the first line that may not stand where it does

-- after the lines of the items: a line that no item has which may stand there; or no line feed more, where no end line came or bytes are left
pub data WrongAfter (kinds : List PortType) (place : Place) (after : List ℕ) : Type 0 where
  NoItem : (line rest : List ℕ) → after ≡ line ++ (10 ∷ rest) → Lacks 10 line →
      ((item : Item) → IsShortItem item → line ≡ item_line item →
      place_after kinds place item ≡ None) → WrongAfter kinds place after
  NoEnd : Lacks 10 after → ((kind : EndKind) (t : ℕ) → place ≡ Ended kind t → after ≡ [] → ⊥) →
      WrongAfter kinds place after

pub record IsFirstFaultOf (kinds : List PortType) (bytes : List ℕ) (n : ℕ) : Type 0 where
  pub before : List Item
  pub after : List ℕ
  pub place : Place
  pub parts : bytes ≡ lines_text (map item_line before) ++ after
  pub good : walk kinds Between before ≡ Some place
  pub number : n ≡ length before + 1
  pub wrong : WrongAfter kinds place after

-- the text is that of these lines and this end, each where it may stand
pub record IsRows (kinds : List PortType) (text : List ℕ) (lines : List TraceLine) (kind : EndKind)
    (point : ℕ) : Type 0 where
  pub parts : text ≡ lines_text (map item_line (items_of lines kind point))
  pub good : walk kinds Between (items_of lines kind point) ≡ Some (Ended kind point)
