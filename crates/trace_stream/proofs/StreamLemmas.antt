-- One line more of a trace's text, and the first that is out of form.
use Rattle.std.proofs.Common.{arith, ◌≡◌, refl, sym, ap, subst, ◌∙◌, ℕ, ◌+◌, ◌-◌, ◌^◌, ◌<◌, min, List, [], ◌∷◌, ◌++◌, length, Option, Some, None, ◌==◌, cond, Bool, true, false}
use Rattle.std.specs.Option.{option_to_list}
use Rattle.std.specs.Io.BufRead.{take_through, drop_through}
use Rattle.std.proofs.lemmas.List.{append-nil, length-append}
use Rattle.std.proofs.lemmas.Bool.{eq-eqb, eqb-true}
use Rattle.value_types.specs.declared.values.PortType.{PortType}
use Rattle.system_model.specs.declared.plan.EndKind.{EndKind}
use Rattle.trace_reading.specs.declared.trace.Header.{Header}
use Rattle.trace_reading.specs.declared.trace.TracePort.{TracePort}
use Rattle.trace_reading.specs.declared.trace.TraceLine.TheVariants.{At, Value}
use Rattle.trace_reading.specs.declared.item.Item.{Item}
use Rattle.trace_reading.specs.declared.item.Item.TheVariants.{Row, End}
use Rattle.trace_reading.specs.declared.item.Place.{Place}
use Rattle.trace_reading.specs.declared.item.Place.TheVariants.{Between, Ended}
use Rattle.trace_reading.specs.Form.{IsNamed, IsRange, kinds_of}
use Rattle.trace_reading.specs.Lines.{Lacks, line_of_port}
use Rattle.system_model.specs.Text.{header_line}
use Rattle.trace_reading.specs.Walk.{item_line, place_after, IsShortItem, IsFirstFaultOf, WrongAfter}
use Rattle.trace_reading.specs.Walk.WrongAfter.{NoItem, NoEnd}
use Rattle.trace_reading.proofs.CallerLemmas.{unsome, one_cut, is_header_line, is_port_line, lacks_not, more_ports, more_named, more_text, more_walk, header_fault, line_fault, Read}
use Rattle.trace_stream.specs.Cut.{next_number, IsCut, HasNoLine, TakesLine}
use Rattle.trace_stream.specs.Reading.{HasPorts, HasRead, IsAfterPorts, IsFaultAt, IsOpen}

-- ---- cutting a line off

pub data CutOrNot (bytes : List ℕ) : Type 0 where
  Whole : Lacks 10 bytes → take_through 10 bytes ≡ bytes → CutOrNot bytes
  Cut : (line : List ℕ) → Lacks 10 line → take_through 10 bytes ≡ line ++ (10 ∷ []) → bytes ≡ line ++ (10 ∷ drop_through 10 bytes) → CutOrNot bytes

one_byte : (test : Bool) (b : ℕ) (bytes : List ℕ) → (b == 10) ≡ test → CutOrNot bytes → CutOrNot (b ∷ bytes)
one_byte true b bytes is later =
    let ten = eqb-true b 10 is in
    Cut [] tt
    (ap (λ (t : Bool). cond t (b ∷ []) (b ∷ take_through 10 bytes)) is ∙ ap (λ (c : ℕ). c ∷ []) ten)
    (ap (λ (c : ℕ). c ∷ bytes) ten ∙ ap (λ (t : Bool). 10 ∷ cond t bytes (drop_through 10 bytes)) (sym is))
one_byte false b bytes is (Whole free same) =
    Whole ((λ ten. let yes = eq-eqb b 10 ten in absurd (cc (yes, is))), free)
    (ap (λ (t : Bool). cond t (b ∷ []) (b ∷ take_through 10 bytes)) is ∙ ap (λ (xs : List ℕ). b ∷ xs) same)
one_byte false b bytes is (Cut line free taken parts) =
    Cut (b ∷ line) ((λ ten. let yes = eq-eqb b 10 ten in absurd (cc (yes, is))), free)
    (ap (λ (t : Bool). cond t (b ∷ []) (b ∷ take_through 10 bytes)) is ∙ ap (λ (xs : List ℕ). b ∷ xs) taken)
    (ap (λ (xs : List ℕ). b ∷ xs) parts ∙ ap (λ (t : Bool). b ∷ (line ++ (10 ∷ cond t bytes (drop_through 10 bytes)))) (sym is))

pub cut_or_not : (bytes : List ℕ) → CutOrNot bytes
cut_or_not [] = Whole tt refl
cut_or_not (b ∷ bytes) = one_byte (b == 10) b bytes refl (cut_or_not bytes)

same_prefix : (xs ys : List ℕ) → xs ++ (10 ∷ []) ≡ ys ++ (10 ∷ []) → Lacks 10 ys → xs ≡ ys
same_prefix [] [] e free = refl
same_prefix [] (y ∷ ys) e free = absurd (free.0 (cc e))
same_prefix (x ∷ []) [] e free = absurd (cc e)
same_prefix (x ∷ (z ∷ xs)) [] e free = absurd (cc e)
same_prefix (x ∷ xs) (y ∷ ys) e free =
    let heads : x ≡ y = cc e in
    let tails : xs ++ (10 ∷ []) ≡ ys ++ (10 ∷ []) = cc e in
    let later = same_prefix xs ys tails free.1 in
    cc (heads, later)

-- the bytes through the first line feed, without their last one
pub line_cut : (bytes line : List ℕ) (left : Option (List ℕ)) → take_through 10 bytes ≡ line ++ (10 ∷ []) → left ≡ Some (drop_through 10 bytes) → IsCut bytes line left
line_cut bytes line left taken is =
    elim (cut_or_not bytes) [
      | Whole free same ↦
          let P : List ℕ → Type 0 = λ xs. Lacks 10 xs in
          absurd (lacks_not 10 line [] (subst P (sym same ∙ taken) free))
      | Cut other free whole parts ↦
          let one = same_prefix line other (sym taken ∙ whole) free in
          let P : List ℕ → Type 0 = λ xs. Lacks 10 xs in
          record {
            rest = drop_through 10 bytes;
            left_is = is;
            parts = parts ∙ ap (λ (xs : List ℕ). xs ++ (10 ∷ drop_through 10 bytes)) (sym one);
            free = subst P (sym one) free;
          }
    ]

last_same : (xs ys : List ℕ) (a : ℕ) → xs ++ (a ∷ []) ≡ ys ++ (10 ∷ []) → a ≡ 10
last_same [] [] a e = cc e
last_same [] (y ∷ []) a e = absurd (cc e)
last_same [] (y ∷ (z ∷ ys)) a e = absurd (cc e)
last_same (x ∷ []) [] a e = absurd (cc e)
last_same (x ∷ (z ∷ xs)) [] a e = absurd (cc e)
last_same (x ∷ xs) (y ∷ ys) a e = let tails : xs ++ (a ∷ []) ≡ ys ++ (10 ∷ []) = cc e in last_same xs ys a tails

not_nothing : (xs : List ℕ) → [] ≡ xs ++ (10 ∷ []) → ⊥
not_nothing [] e = cc e
not_nothing (x ∷ xs) e = cc e

-- they don't end in a line feed
pub no_line : (bytes line : List ℕ) (last : ℕ) → take_through 10 bytes ≡ line ++ (last ∷ []) → (last ≡ 10 → ⊥) → Lacks 10 bytes
no_line bytes line last taken other =
    elim (cut_or_not bytes) [
      | Whole free same ↦ free
      | Cut prefix free whole parts ↦ absurd (other (last_same line prefix last (sym taken ∙ whole)))
    ]

-- none was there
pub nothing_there : (bytes : List ℕ) → take_through 10 bytes ≡ [] → Lacks 10 bytes
nothing_there bytes none =
    elim (cut_or_not bytes) [
      | Whole free same ↦ free
      | Cut prefix free whole parts ↦ absurd (not_nothing prefix (sym none ∙ whole))
    ]

empty_is : (line : List ℕ) → length line ≡ 0 → line ≡ []
empty_is [] e = refl
empty_is (b ∷ line) e = absurd (omega (arith, e))

-- the last byte, where there is one, is no line feed
pub lacks_by : (bytes line : List ℕ) (last : Option ℕ) → take_through 10 bytes ≡ line ++ option_to_list last → (last ≡ None → length line ≡ 0) → (last ≡ Some 10 → ⊥) → Lacks 10 bytes
lacks_by bytes line None taken empty other = nothing_there bytes (taken ∙ append-nil line ∙ empty_is line (empty refl))
lacks_by bytes line (Some b) taken empty other = no_line bytes line b taken (λ ten. other (ap (λ (x : ℕ). Some x) ten))

-- ---- numbers

pub next_count : (number lines : ℕ) → number ≡ min lines (2 ^ 64 - 1) → next_number number ≡ min (lines + 1) (2 ^ 64 - 1)
next_count number lines is = omega (arith, is)

-- ---- ports

pub port_read : (bytes : List ℕ) (header : Header) (ports more : List TracePort) (port : TracePort) (line : List ℕ) (old new : Option (List ℕ)) (number : ℕ) → HasPorts bytes header ports old number → TakesLine old new line → line ≡ line_of_port (length ports) port → IsNamed port → more ≡ ports ++ (port ∷ []) → HasPorts bytes header more new (next_number number)
port_read bytes header ports more port line old new number read takes is named pushed =
    let cut = takes read.rest read.left_is in
    let size : length more ≡ length ports + 1 = omega (arith, ap (λ (ps : List TracePort). length ps) pushed, length-append ports (port ∷ [])) in
    record {
      range = read.range;
      after = read.after;
      first = read.first;
      rest = cut.rest;
      parts = more_ports read.after read.rest cut.rest ports more port read.parts (cut.parts ∙ ap (λ (xs : List ℕ). xs ++ (10 ∷ cut.rest)) is) pushed;
      named = more_named ports more port read.named named pushed;
      left_is = cut.left_is;
      count = next_count number (1 + length ports) read.count ∙ ap (λ (k : ℕ). min k (2 ^ 64 - 1)) (let up : 1 + length ports + 1 ≡ 1 + length more = omega (arith, size) in up);
    }

-- the ports go no further than a text that begins with no line of a next port
ports_end : (bytes : List ℕ) (header : Header) (ports : List TracePort) (left : Option (List ℕ)) (number : ℕ) (read : HasPorts bytes header ports left number) → length ports < 2 ^ 64 → ((port : TracePort) (more : List ℕ) → IsNamed port → read.rest ≡ line_of_port (length ports) port ++ (10 ∷ more) → ⊥) → HasRead bytes header ports [] Between (Some read.rest) number
ports_end bytes header ports left number read few last = record {
  range = read.range;
  after = read.after;
  first = read.first;
  body = read.rest;
  ports_there = record { parts = read.parts; named = read.named; few = few; last = last };
  rest = read.rest;
  parts = refl;
  good = refl;
  left_is = refl;
  count = read.count ∙ ap (λ (k : ℕ). min k (2 ^ 64 - 1)) (let same : 1 + length ports ≡ 1 + length ports + 0 = omega arith in same);
}

pub after_ports : (bytes : List ℕ) (header : Header) (ports : List TracePort) (line : List ℕ) (old new : Option (List ℕ)) (number : ℕ) → length ports < 2 ^ 64 → HasPorts bytes header ports old number → TakesLine old new line → ((port : TracePort) → IsNamed port → line ≡ line_of_port (length ports) port → ⊥) → IsAfterPorts bytes header ports line new (next_number number)
after_ports bytes header ports line old new number few read takes none =
    let cut = takes read.rest read.left_is in
    record {
      body = read.rest;
      before = number;
      read = ports_end bytes header ports old number read few (λ port more named e.
          let same = one_cut 10 line (line_of_port (length ports) port) cut.rest more cut.free (is_port_line (length ports) port few) (sym cut.parts ∙ e) in
          none port named same.0);
      cut = cut;
      count = refl;
    }

-- ---- lines after the ports

pub line_read : (bytes : List ℕ) (header : Header) (ports : List TracePort) (items : List Item) (place next : Place) (old new : Option (List ℕ)) (number : ℕ) (line : List ℕ) (item : Item) → HasRead bytes header ports items place old number → TakesLine old new line → line ≡ item_line item → place_after (kinds_of ports) place item ≡ Some next → HasRead bytes header ports (items ++ (item ∷ [])) next new (next_number number)
line_read bytes header ports items place next old new number line item read takes is step =
    let cut = takes read.rest read.left_is in
    let size : 1 + length ports + length items + 1 ≡ 1 + length ports + length (items ++ (item ∷ [])) = omega (arith, length-append items (item ∷ [])) in
    record {
      range = read.range;
      after = read.after;
      first = read.first;
      body = read.body;
      ports_there = read.ports_there;
      rest = cut.rest;
      parts = more_text read.body read.rest line cut.rest items (items ++ (item ∷ [])) item read.parts cut.parts is refl;
      good = more_walk (kinds_of ports) items (items ++ (item ∷ [])) item place next read.good step refl;
      left_is = cut.left_is;
      count = next_count number (1 + length ports + length items) read.count ∙ ap (λ (k : ℕ). min k (2 ^ 64 - 1)) size;
    }

-- ---- faults

as_read : (bytes : List ℕ) (header : Header) (ports : List TracePort) (items : List Item) (place : Place) (left : Option (List ℕ)) (number : ℕ) (read : HasRead bytes header ports items place left number) → Read bytes header.resolution header.start header.stop ports read.body
as_read bytes header ports items place left number read =
    record { range = read.range; after_header = read.after; header = read.first; ports_there = read.ports_there }

wrong_fault : (bytes : List ℕ) (header : Header) (ports : List TracePort) (items : List Item) (place : Place) (left : Option (List ℕ)) (number : ℕ) (read : HasRead bytes header ports items place left number) → WrongAfter (kinds_of ports) place read.rest → IsFaultAt bytes (next_number number)
wrong_fault bytes header ports items place left number read wrong =
    let first : IsFirstFaultOf (kinds_of ports) read.body (length items + 1) = record { before = items; after = read.rest; place = place; parts = read.parts; good = read.good; number = refl; wrong = wrong } in
    let size : 1 + length ports + length items + 1 ≡ 1 + length ports + (length items + 1) = omega arith in
    record {
      line = 1 + length ports + (length items + 1);
      fault = line_fault bytes header.resolution header.start header.stop ports read.body (length items + 1) (as_read bytes header ports items place left number read) first;
      number = next_count number (1 + length ports + length items) read.count ∙ ap (λ (k : ℕ). min k (2 ^ 64 - 1)) size;
    }

pub item_fault : (bytes : List ℕ) (header : Header) (ports : List TracePort) (items : List Item) (place : Place) (old new : Option (List ℕ)) (number : ℕ) (line : List ℕ) → HasRead bytes header ports items place old number → TakesLine old new line → ((item : Item) → IsShortItem item → line ≡ item_line item → place_after (kinds_of ports) place item ≡ None) → IsFaultAt bytes (next_number number)
item_fault bytes header ports items place old new number line read takes none =
    let cut = takes read.rest read.left_is in
    wrong_fault bytes header ports items place old number read (NoItem line cut.rest cut.parts cut.free none)

pub end_fault : (bytes : List ℕ) (header : Header) (ports : List TracePort) (items : List Item) (place : Place) (left : Option (List ℕ)) (number : ℕ) → HasRead bytes header ports items place left number → HasNoLine left → IsOpen place → IsFaultAt bytes (next_number number)
end_fault bytes header ports items place left number read none open_there =
    wrong_fault bytes header ports items place left number read (NoEnd (none read.rest read.left_is) (λ kind t at empty. open_there kind t at))

none_fits : (kinds : List PortType) (kind : EndKind) (t : ℕ) (item : Item) → place_after kinds (Ended kind t) item ≡ None
none_fits kinds kind t (Row (At u n)) = refl
none_fits kinds kind t (Row (Value port value)) = refl
none_fits kinds kind t (End k u) = refl

-- what is left after the end line
pub rest_fault : (bytes : List ℕ) (header : Header) (ports : List TracePort) (items : List Item) (kind : EndKind) (t : ℕ) (left : Option (List ℕ)) (number : ℕ) → HasRead bytes header ports items (Ended kind t) left number → ((rest : List ℕ) → left ≡ Some rest → rest ≡ [] → ⊥) → IsFaultAt bytes (next_number number)
rest_fault bytes header ports items kind t left number read some =
    wrong_fault bytes header ports items (Ended kind t) left number read (elim (cut_or_not read.rest) [
      | Whole free same ↦ NoEnd free (λ k u at empty. some read.rest read.left_is empty)
      | Cut line free taken parts ↦ NoItem line (drop_through 10 read.rest) parts free (λ item short e. none_fits (kinds_of ports) kind t item)
    ])

pub ports_fault : (bytes : List ℕ) (header : Header) (ports : List TracePort) (left : Option (List ℕ)) (number : ℕ) → length ports < 2 ^ 64 → HasPorts bytes header ports left number → HasNoLine left → IsFaultAt bytes (next_number number)
ports_fault bytes header ports left number few read none =
    let P : List ℕ → Type 0 = λ xs. Lacks 10 xs in
    let free = none read.rest read.left_is in
    end_fault bytes header ports [] Between (Some read.rest) number
    (ports_end bytes header ports left number read few (λ port more named e. lacks_not 10 (line_of_port (length ports) port) more (subst P e free)))
    (λ rest is. subst P (unsome read.rest rest is) free)
    (λ kind t at. absurd (cc at))

-- ---- the header

pub no_header : (bytes : List ℕ) → ((resolution start stop : ℕ) (rest : List ℕ) → IsRange resolution start stop → bytes ≡ header_line resolution start stop ++ (10 ∷ rest) → ⊥) → IsFaultAt bytes 1
no_header bytes none = record { line = 1; fault = header_fault bytes none; number = omega arith }

pub header_missing : (bytes : List ℕ) (left : Option (List ℕ)) → left ≡ Some bytes → HasNoLine left → IsFaultAt bytes 1
header_missing bytes left is none = no_header bytes (λ resolution start stop rest range e.
    let P : List ℕ → Type 0 = λ xs. Lacks 10 xs in
    lacks_not 10 (header_line resolution start stop) rest (subst P e (none bytes is)))

pub header_wrong : (bytes line : List ℕ) (old new : Option (List ℕ)) → old ≡ Some bytes → TakesLine old new line → ((resolution start stop : ℕ) → IsRange resolution start stop → line ≡ header_line resolution start stop → ⊥) → IsFaultAt bytes 1
header_wrong bytes line old new is takes none = no_header bytes (λ resolution start stop rest range e.
    let cut = takes bytes is in
    let same = one_cut 10 line (header_line resolution start stop) cut.rest rest cut.free (is_header_line resolution start stop range) (sym cut.parts ∙ e) in
    none resolution start stop range same.0)

pub header_read : (bytes line : List ℕ) (header : Header) (old new : Option (List ℕ)) (number : ℕ) → old ≡ Some bytes → TakesLine old new line → line ≡ header_line header.resolution header.start header.stop → IsRange header.resolution header.start header.stop → number ≡ 0 → HasPorts bytes header [] new (next_number number)
header_read bytes line header old new number is takes line_is range zero =
    let cut = takes bytes is in
    record {
      range = range;
      after = cut.rest;
      first = cut.parts ∙ ap (λ (xs : List ℕ). xs ++ (10 ∷ cut.rest)) line_is;
      rest = cut.rest;
      parts = refl;
      named = tt;
      left_is = cut.left_is;
      count = omega (arith, zero);
    }

-- the same lines, with what is left and the number told otherwise
pub read_same : (bytes : List ℕ) (header : Header) (ports : List TracePort) (items more : List Item) (place next : Place) (old new : Option (List ℕ)) (number same : ℕ) → HasRead bytes header ports items place old number → items ≡ more → place ≡ next → old ≡ new → number ≡ same → HasRead bytes header ports more next new same
read_same bytes header ports items more place next old new number same read items_are places lefts numbers =
    let P : List Item → Type 0 = λ is. HasRead bytes header ports is next new same in
    let Q : Place → Type 0 = λ p. HasRead bytes header ports items p new same in
    let R : Option (List ℕ) → Type 0 = λ l. HasRead bytes header ports items place l same in
    let S : ℕ → Type 0 = λ k. HasRead bytes header ports items place old k in
    subst P items_are (subst Q places (subst R lefts (subst S numbers read)))

-- the fault of a first line, after the ports
pub first_fault : (bytes : List ℕ) (header : Header) (ports : List TracePort) (line : List ℕ) (left : Option (List ℕ)) (number : ℕ) → IsAfterPorts bytes header ports line left number → ((item : Item) → IsShortItem item → line ≡ item_line item → place_after (kinds_of ports) Between item ≡ None) → IsFaultAt bytes number
first_fault bytes header ports line left number at none =
    let P : ℕ → Type 0 = λ k. IsFaultAt bytes k in
    let takes : TakesLine (Some at.body) left line = λ body is.
    let Q : List ℕ → Type 0 = λ b. IsCut b line left in
    subst Q (unsome at.body body is) at.cut in
    subst P (sym at.count) (item_fault bytes header ports [] Between (Some at.body) left at.before line at.read takes none)

-- the first line, after the ports
pub first_read : (bytes : List ℕ) (header : Header) (ports : List TracePort) (line : List ℕ) (left : Option (List ℕ)) (number : ℕ) (item : Item) (next : Place) → IsAfterPorts bytes header ports line left number → line ≡ item_line item → place_after (kinds_of ports) Between item ≡ Some next → HasRead bytes header ports (item ∷ []) next left number
first_read bytes header ports line left number item next at is step =
    let P : ℕ → Type 0 = λ k. HasRead bytes header ports (item ∷ []) next left k in
    let takes : TakesLine (Some at.body) left line = λ body same.
    let Q : List ℕ → Type 0 = λ b. IsCut b line left in
    subst Q (unsome at.body body same) at.cut in
    subst P (sym at.count) (line_read bytes header ports [] Between next (Some at.body) left at.before line item at.read takes is step)
