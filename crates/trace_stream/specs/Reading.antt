-- What was read of a trace's text, line by line, and what is left of it.
use Rattle.std.specs.Prelude.{◌≡◌, ◌≢◌, ℕ, ◌+◌, ◌-◌, ◌^◌, min, ℤ, List, [], ◌∷◌, ◌++◌, Option, Some, None, map, length, replicate}
use Rattle.std.specs.List.{AllByRecursion}
use Rattle.system_model.specs.declared.plan.EndKind.{EndKind}
use Rattle.trace_reading.specs.declared.trace.Header.{Header}
use Rattle.trace_reading.specs.declared.trace.TracePort.{TracePort}
use Rattle.trace_reading.specs.declared.trace.TraceLine.{TraceLine}
use Rattle.trace_reading.specs.declared.trace.TraceLine.TheVariants.{At, Value}
use Rattle.trace_reading.specs.declared.item.Item.{Item}
use Rattle.trace_reading.specs.declared.item.Item.TheVariants.{Row, End}
use Rattle.trace_reading.specs.declared.item.Place.{Place}
use Rattle.trace_reading.specs.declared.item.Place.TheVariants.{Between, Within, Ended}
use Rattle.trace_reading.specs.Faults.{IsFirstFault}
use Rattle.trace_reading.specs.Form.{IsNamed, IsRange, kinds_of, lines_of_ports, told_values_from}
use Rattle.system_model.specs.Text.{header_line, lines_text}
use Rattle.trace_reading.specs.Parts.{StandBefore}
use Rattle.trace_reading.specs.Walk.{item_line, walk}
use Rattle.trace_stream.specs.declared.steps.Ahead.{Ahead}
use Rattle.trace_stream.specs.declared.steps.Ahead.TheVariants.{Begin, Finish}
use Rattle.trace_stream.specs.Cut.{next_number, IsCut}

-- ---- the line that was read ahead

abbrev pub item_ahead : Ahead → Item
item_ahead (Begin t n) = Row (At t n)
item_ahead (Finish kind t) = End kind t

abbrev pub place_ahead : Ahead → Place
place_ahead (Begin t n) = Within 0
place_ahead (Finish kind t) = Ended kind t

abbrev pub end_ahead : Ahead → Option (EndKind × ℕ)
end_ahead (Begin t n) = None
end_ahead (Finish kind t) = Some (kind, t)

-- after the last line nothing is left
abbrev pub IsLast : Ahead → List ℕ → Type 0
IsLast (Begin t n) rest = Unit {0}
IsLast (Finish kind t) rest = rest ≡ []

-- the run hasn't ended
abbrev pub IsOpen : Place → Type 0
IsOpen place = (kind : EndKind) (t : ℕ) → place ≢ Ended kind t

-- ---- faults

-- the number is that of the first line that is out of form, or the last one of 64 bits where that is less
pub record IsFaultAt (bytes : List ℕ) (n : ℕ) : Type 0 where
  pub line : ℕ
  pub fault : IsFirstFault bytes line
  pub number : n ≡ min line (2 ^ 64 - 1)

-- no line ahead: a value's line, or one that ends the trace with bytes after it
abbrev pub IsWrongAhead : Item → ℕ → ℕ → Option (List ℕ) → Type 0
IsWrongAhead (Row (At t n)) line number left = ⊥
IsWrongAhead (Row (Value port value)) line number left = Unit {0}
IsWrongAhead (End kind t) line number left =
    (line ≡ next_number number) × ((rest : List ℕ) → left ≡ Some rest → rest ≢ [])

-- ---- what was read

-- the header, and these ports, which may go on
pub record HasPorts (bytes : List ℕ) (header : Header) (ports : List TracePort)
    (left : Option (List ℕ)) (number : ℕ) : Type 0 where
  pub range : IsRange header.resolution header.start header.stop
  pub after : List ℕ
  pub first : bytes ≡ header_line header.resolution header.start header.stop ++ (10 ∷ after)
  pub rest : List ℕ
  pub parts : after ≡ lines_text (lines_of_ports 0 ports) ++ rest
  pub named : AllByRecursion IsNamed ports
  pub left_is : left ≡ Some rest
  pub count : number ≡ min (1 + length ports) (2 ^ 64 - 1)

-- the header, all ports, and these lines after them, each where it may stand
pub record HasRead (bytes : List ℕ) (header : Header) (ports : List TracePort) (items : List Item)
    (place : Place) (left : Option (List ℕ)) (number : ℕ) : Type 0 where
  pub range : IsRange header.resolution header.start header.stop
  pub after : List ℕ
  pub first : bytes ≡ header_line header.resolution header.start header.stop ++ (10 ∷ after)
  pub body : List ℕ
  pub ports_there : StandBefore after ports body
  pub rest : List ℕ
  pub parts : body ≡ lines_text (map item_line items) ++ rest
  pub good : walk (kinds_of ports) Between items ≡ Some place
  pub left_is : left ≡ Some rest
  pub count : number ≡ min (1 + length ports + length items) (2 ^ 64 - 1)

-- the header and all ports, and one line more, which isn't looked at
pub record IsAfterPorts (bytes : List ℕ) (header : Header) (ports : List TracePort)
    (line : List ℕ) (left : Option (List ℕ)) (number : ℕ) : Type 0 where
  pub body : List ℕ
  pub before : ℕ
  pub read : HasRead bytes header ports [] Between (Some body) before
  pub cut : IsCut body line left
  pub count : number ≡ next_number before

-- within an instant: the values of the first ports, and after them none
pub record IsWithin (bytes : List ℕ) (header : Header) (ports : List TracePort) (before : List Item)
    (values : List (Option ℤ)) (place : Place) (left : Option (List ℕ)) (number : ℕ) : Type 0 where
  pub prefix : List (Option ℤ)
  pub empty : ℕ
  pub values_are : values ≡ prefix ++ replicate empty None
  pub at : place ≡ Within (length prefix)
  pub read : HasRead bytes header ports
      (before ++ map (λ (line : TraceLine). Row line) (told_values_from 0 prefix)) place left number

-- somewhere within an instant
pub record IsReading (bytes : List ℕ) (header : Header) (ports : List TracePort) (place : Place)
    (left : Option (List ℕ)) (number : ℕ) : Type 0 where
  pub items : List Item
  pub next : ℕ
  pub at : place ≡ Within next
  pub read : HasRead bytes header ports items place left number
