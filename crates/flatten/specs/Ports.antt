-- The ports that variables are, by the numbers of the variables, and what feeds them.
use Rattle.std.specs.Prelude.{◌≡◌, ◌↔◌, ℕ, suc, ◌+◌, true, List, [], ◌∷◌, ◌++◌, length, take, count_by, Option, Some, None, slice_get, if◌then◌else◌}
use Rattle.std.specs.List.{AllZip, filter_map}
use Rattle.std.specs.Option.{option_map_or}
use Rattle.std.specs.Ordering.{nat_cmp}
use Rattle.std.specs.BTreeMap.{BTreeMap, get}
use Rattle.sim_base.specs.declared.numbers.PortId.{PortId}
use Rattle.value_types.specs.declared.shape.Variable.{Variable}
use Rattle.value_types.specs.declared.shape.Shape.{Shape}
use Rattle.value_types.specs.Shape.{is_port}
use Rattle.system_model.specs.declared.system.Feed.{Feed}
use Rattle.system_model.specs.declared.system.Port.{Port}
use Rattle.system_model.specs.Ports.{Label, label_at}
use Rattle.system_model.specs.Sound.{IsRole}
use Rattle.ssd_tree.specs.declared.tree.SystemTree.{SystemTree}
use Rattle.flatten.specs.declared.ports.PortTable.{PortTable}
use Rattle.flatten.specs.Points.{Point, OfComponent}
use Rattle.flatten.specs.Paths.{Feeds}
use Rattle.flatten.specs.Flat.{IsSourceWith}
use Rattle.flatten.specs.Indexed.{all_variables, begin_of}

-- the number of a port is that of the ports before it
abbrev pub port_number : List Shape → ℕ → Variable → Option PortId
port_number shapes n x =
    if is_port x then Some (record { 0 = count_by is_port (take n (all_variables shapes)) })
    else None

pub record ArePortNumbers (shapes : List Shape) (numbers : List (Option PortId)) : Type 0 where
  pub len : length numbers ≡ length (all_variables shapes)
  pub each : (n : ℕ) (x : Variable) → slice_get (all_variables shapes) n ≡ Some x →
      slice_get numbers n ≡ Some (port_number shapes n x)

-- the variable with this number is this point
pub record IsNumberOf (shapes : List Shape) (n : ℕ) (p : Point) : Type 0 where
  pub component : ℕ
  pub place : ℕ
  pub shape : Shape
  pub variable : Variable
  pub of : slice_get shapes component ≡ Some shape
  pub at : slice_get shape.variables place ≡ Some variable
  pub number : n ≡ begin_of shapes component + place
  pub point : p ≡ OfComponent component variable.reference

-- what a table has under a number
abbrev pub at_number : {X : Type 0} → BTreeMap ℕ X → ℕ → Option X
at_number table n = get nat_cmp table n

-- for each input just the port of the output that feeds it, with the changes of the path
pub record AreFeeds (t : SystemTree) (shapes : List Shape) (numbers : List (Option PortId))
    (feeds : ℕ → Option Feed) : Type 0 where
  pub each : (m n : ℕ) (p q : Point) (f : Feed) → IsNumberOf shapes m p →
      IsNumberOf shapes n q → slice_get numbers m ≡ Some (Some f.from) →
      (feeds n ≡ Some f) ↔ Feeds t shapes p f.changes q
  pub none : (n : ℕ) (f : Feed) → feeds n ≡ Some f → (m : ℕ) ×
      (slice_get numbers m ≡ Some (Some f.from))

pub record IsPortTable (t : SystemTree) (shapes : List Shape) (table : PortTable) : Type 0 where
  pub numbers : ArePortNumbers shapes table.numbers.items
  pub feeds : AreFeeds t shapes table.numbers.items (at_number table.feeds)

-- ---- ports

-- the port is that of the component's variable with this reference
pub record IsPortUnder (shapes : List Shape) (component reference : ℕ) (p : PortId) : Type 0 where
  pub shape : Shape
  pub place : ℕ
  pub variable : Variable
  pub of : slice_get shapes component ≡ Some shape
  pub at : slice_get shape.variables place ≡ Some variable
  pub under : variable.reference ≡ reference
  pub is : port_number shapes (begin_of shapes component + place) variable ≡ Some p

-- the port is the variable at this place of its component, with the role, the source and the Clocks that the variable has
pub record IsPortOf (shapes : List Shape) (table : PortTable) (component place : ℕ)
    (port : Port) : Type 0 where
  pub shape : Shape
  pub variable : Variable
  pub feed : Option Feed
  pub number : port.component.0 ≡ component
  pub of : slice_get shapes component ≡ Some shape
  pub at : slice_get shape.variables place ≡ Some variable
  pub is : is_port variable ≡ true
  pub name : port.name ≡ variable.name
  pub kind : variable.kind ≡ Some port.kind
  pub reference : port.reference ≡ variable.reference
  pub role : IsRole shape variable port.role
  pub fed : at_number table.feeds (begin_of shapes component + place) ≡ feed
  pub source : IsSourceWith shape variable feed port.role
  pub clocks : AllZip (IsPortUnder shapes component) variable.clocks port.clocks

-- a port of one of these components
abbrev pub IsMade : List Shape → PortTable → Port → Type 0
IsMade shapes table port = (place : ℕ) × IsPortOf shapes table port.component.0 place port

-- what names the ports of these components; their numbers go on from i
abbrev pub labels_in : ℕ → List Shape → List Label
labels_in i [] = []
labels_in i (s ∷ ss) = filter_map (label_at i) s.variables ++ labels_in (suc i) ss

-- those of one component
abbrev pub labels_at : List Shape → ℕ → List Label
labels_at shapes component =
    option_map_or (λ (s : Shape). filter_map (label_at component) s.variables)
    (slice_get shapes component) []
