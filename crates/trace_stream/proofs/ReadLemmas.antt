-- What a read of a stream does to what was read of the text.
use Rattle.std.proofs.Common.{◌≡◌, refl, sym, ap, subst, ◌∙◌, ℕ, ◌+◌, ℤ, List, [], ◌∷◌, ◌++◌, Option, Some, None, replicate}
use Rattle.system_model.specs.declared.plan.EndKind.{EndKind}
use Rattle.trace_reading.specs.declared.trace.Header.{Header}
use Rattle.trace_reading.specs.declared.trace.TracePort.{TracePort}
use Rattle.trace_reading.specs.declared.trace.TraceLine.TheVariants.{At, Value}
use Rattle.trace_reading.specs.declared.item.Item.{Item}
use Rattle.trace_reading.specs.declared.item.Item.TheVariants.{Row, End}
use Rattle.trace_reading.specs.declared.item.Place.{Place}
use Rattle.trace_reading.specs.declared.item.Place.TheVariants.{Between, Ended}
use Rattle.trace_reading.specs.Form.{kinds_of}
use Rattle.trace_reading.specs.Walk.{place_after}
use Rattle.trace_stream.specs.declared.steps.Ahead.{Ahead}
use Rattle.trace_stream.specs.declared.steps.Ahead.TheVariants.{Begin, Finish}
use Rattle.trace_stream.specs.Cut.{next_number}
use Rattle.trace_stream.specs.Reading.{item_ahead, place_ahead, HasRead, IsFaultAt, IsOpen, IsReading, IsWithin, IsWrongAhead}
use Rattle.trace_stream.proofs.StreamLemmas.{read_same, rest_fault}
use Rattle.trace_stream.proofs.ValueLemmas.{ahead_place, no_value_first, value_step, within_start}

begun : (bytes : List ℕ) (header : Header) (ports : List TracePort) (before : List Item) (ahead : Ahead) (t n : ℕ) (place : Place) (left : Option (List ℕ)) (number : ℕ) → HasRead bytes header ports (before ++ (item_ahead ahead ∷ [])) (place_ahead ahead) left number → place ≡ place_ahead ahead → ahead ≡ Begin t n → HasRead bytes header ports (before ++ (Row (At t n) ∷ [])) place left number
begun bytes header ports before ahead t n place left number read places is =
    read_same bytes header ports (before ++ (item_ahead ahead ∷ [])) (before ++ (Row (At t n) ∷ [])) (place_ahead ahead) place left left number number read
    (ap (λ (a : Ahead). before ++ (item_ahead a ∷ [])) is) (sym places) refl refl

pub start_within : (bytes : List ℕ) (header : Header) (ports : List TracePort) (before : List Item) (ahead : Ahead) (t n : ℕ) (place : Place) (left : Option (List ℕ)) (number : ℕ) (values : List (Option ℤ)) (m : ℕ) → HasRead bytes header ports (before ++ (item_ahead ahead ∷ [])) (place_ahead ahead) left number → place ≡ place_ahead ahead → ahead ≡ Begin t n → values ≡ replicate m None → IsWithin bytes header ports (before ++ (Row (At t n) ∷ [])) values place left number
start_within bytes header ports before ahead t n place left number values m read places is none =
    within_start bytes header ports (before ++ (Row (At t n) ∷ [])) values m place left number (begun bytes header ports before ahead t n place left number read places is) (places ∙ ap place_ahead is) none

pub start_reading : (bytes : List ℕ) (header : Header) (ports : List TracePort) (before : List Item) (ahead : Ahead) (t n : ℕ) (place : Place) (left : Option (List ℕ)) (number : ℕ) → HasRead bytes header ports (before ++ (item_ahead ahead ∷ [])) (place_ahead ahead) left number → place ≡ place_ahead ahead → ahead ≡ Begin t n → IsReading bytes header ports place left number
start_reading bytes header ports before ahead t n place left number read places is =
    record { items = before ++ (Row (At t n) ∷ []); next = 0; at = places ∙ ap place_ahead is; read = begun bytes header ports before ahead t n place left number read places is }

pub reading_more : (bytes : List ℕ) (header : Header) (ports : List TracePort) (port : ℕ) (v : ℤ) (place next : Place) (old new : Option (List ℕ)) (number number2 : ℕ) → IsReading bytes header ports place old number → place_after (kinds_of ports) place (Row (Value port v)) ≡ Some next → ((items : List Item) → HasRead bytes header ports items place old number → HasRead bytes header ports (items ++ (Row (Value port v) ∷ [])) next new number2) → IsReading bytes header ports next new number2
reading_more bytes header ports port v place next old new number number2 reading step reads =
    let here = ap (λ (p : Place). place_after (kinds_of ports) p (Row (Value port v))) (sym reading.at) ∙ step in
    let goes = value_step (kinds_of ports) reading.next port v next here in
    record { items = reading.items ++ (Row (Value port v) ∷ []); next = port + 1; at = goes.at; read = reads reading.items reading.read }

pub reading_fault : (bytes : List ℕ) (header : Header) (ports : List TracePort) (place : Place) (left : Option (List ℕ)) (number n : ℕ) → IsReading bytes header ports place left number → ((items : List Item) → HasRead bytes header ports items place left number → IsOpen place → IsFaultAt bytes n) → IsFaultAt bytes n
reading_fault bytes header ports place left number n reading fault =
    fault reading.items reading.read (λ kind t e. let at = reading.at in absurd (cc (at, e)))

pub finish_fault : (bytes : List ℕ) (header : Header) (ports : List TracePort) (items : List Item) (place next : Place) (item : Item) (kind : EndKind) (t : ℕ) (left : Option (List ℕ)) (number n : ℕ) → HasRead bytes header ports items next left number → place_after (kinds_of ports) place item ≡ Some next → item ≡ End kind t → n ≡ next_number number → ((rest : List ℕ) → left ≡ Some rest → rest ≡ [] → ⊥) → IsFaultAt bytes n
finish_fault bytes header ports items place next item kind t left number n read step is numbers some =
    let at : next ≡ Ended kind t = ahead_place (kinds_of ports) place (Finish kind t) next (ap (λ (i : Item). place_after (kinds_of ports) place i) (sym is) ∙ step) in
    let P : Place → Type 0 = λ p. HasRead bytes header ports items p left number in
    let Q : ℕ → Type 0 = λ k. IsFaultAt bytes k in
    subst Q (sym numbers) (rest_fault bytes header ports items kind t left number (subst P at read) some)

pub ahead_fault : (bytes : List ℕ) (header : Header) (ports : List TracePort) (item : Item) (next : Place) (left : Option (List ℕ)) (number n : ℕ) → HasRead bytes header ports (item ∷ []) next left number → place_after (kinds_of ports) Between item ≡ Some next → IsWrongAhead item n number left → IsFaultAt bytes n
ahead_fault bytes header ports (Row (At t k)) next left number n read step wrong = absurd wrong
ahead_fault bytes header ports (Row (Value port v)) next left number n read step wrong = absurd (no_value_first (kinds_of ports) port v next step)
ahead_fault bytes header ports (End kind t) next left number n read step wrong =
    finish_fault bytes header ports (End kind t ∷ []) Between next (End kind t) kind t left number n read step refl wrong.0 wrong.1
