-- Whole texts: a text is that of one trace, and none begins with the lines up to the first fault.
use Rattle.std.proofs.Common.{arith, ◌≡◌, refl, sym, ap, subst, ◌∙◌, ℕ, ◌+◌, ◌^◌, ◌<◌, ◌≤◌, List, [], ◌∷◌, ◌++◌, map, length, decimal, suc, Some, None, ◌⊎◌, inl, inr}
use Rattle.std.specs.List.{AllByRecursion, flat_map}
use Rattle.std.proofs.lemmas.List.{append_assoc, map-append, length-map, length-append}
use Rattle.std.proofs.lemmas.Bool.{cases_eq}
use Rattle.std.proofs.lemmas.Fmt.{decimal_injective}
use Rattle.value_types.specs.declared.values.PortType.{PortType}
use Rattle.system_model.specs.declared.plan.EndKind.{EndKind}
use Rattle.system_model.specs.declared.plan.EndKind.TheVariants.{Stop}
use Rattle.trace_reading.specs.declared.trace.Trace.{Trace}
use Rattle.trace_reading.specs.declared.trace.TracePort.{TracePort}
use Rattle.trace_reading.specs.declared.trace.TraceLine.{TraceLine}
use Rattle.trace_reading.specs.declared.item.Item.{Item}
use Rattle.trace_reading.specs.declared.item.Place.{Place}
use Rattle.trace_reading.specs.declared.item.Place.TheVariants.{Between, Ended}
use Rattle.trace_reading.specs.Lines.{Lacks, line_of_port, line_text}
use Rattle.system_model.specs.Text.{header_line, end_line, lines_text}
use Rattle.trace_reading.specs.Form.{IsRange, IsNamed, IsTrace, IsTextOf, kinds_of, lines_of, lines_of_ports, instant_lines}
use Rattle.trace_reading.specs.Faults.{Begins, IsFirstFault, Wrong}
use Rattle.trace_reading.specs.Faults.Wrong.{NoText, Unended}
use Rattle.trace_reading.specs.Parts.{StandBefore}
use Rattle.trace_reading.specs.Walk.{walk, place_after, item_line, items_of, IsShortItem, IsFirstFaultOf, IsRows, WrongAfter}
use Rattle.trace_reading.specs.Walk.WrongAfter.{NoItem, NoEnd}
use Rattle.trace_reading.proofs.ListLemmas.{heads, tails, unsome}
use Rattle.trace_reading.proofs.LineLemmas.{lacks_decimal, one_cut}
use Rattle.trace_reading.proofs.BodyLemmas.{complete, sound, body_items_are}
use Rattle.trace_reading.proofs.FaultLemmas.{stuck, stepped, same_items}
use Rattle.trace_reading.proofs.ShortLemmas.{short_item}
use Rattle.trace_reading.proofs.BeginLemmas.{goes_on}
use Rattle.trace_reading.proofs.TextLemmas.{is_header_line, are_port_lines, are_lines, all_append, lines_prefix, one_list, ends_there}
use Rattle.trace_reading.proofs.PortLemmas.{one_port, no_port}

-- ---- lines after the ports

pub lines_items : (lines : List TraceLine) (kind : EndKind) (point : ℕ) → map line_text lines ++ (end_line kind point ∷ []) ≡ map item_line (items_of lines kind point)
lines_items [] kind point = refl
lines_items (line ∷ lines) kind point = ap (λ (ls : List (List ℕ)). line_text line ∷ ls) (lines_items lines kind point)

-- what was walked is short
pub shorts : (kinds : List PortType) → length kinds < 2 ^ 64 → (place end : Place) (items : List Item) → walk kinds place items ≡ Some end → AllByRecursion IsShortItem items
shorts kinds few place end [] w = tt
shorts kinds few place end (i ∷ is) w =
    let s = stepped kinds (place_after kinds place i) is end w in
    (short_item kinds few place s.next i s.step, shorts kinds few s.next end is s.rest)

few_kinds : (ports : List TracePort) → length ports < 2 ^ 64 → length (kinds_of ports) < 2 ^ 64
few_kinds ports few = omega (arith, few, length-map ports (λ (p : TracePort). p.kind))

-- a trace's lines are walked to the end
pub walked : (t : Trace) → IsTrace t → walk (kinds_of t.ports) Between (items_of t.lines t.kind t.point) ≡ Some (Ended t.kind t.point)
walked t form =
    ap (λ (lines : List TraceLine). walk (kinds_of t.ports) Between (items_of lines t.kind t.point)) form.lines
    ∙ complete (kinds_of t.ports) form.instants t.kind t.point (record { each = form.each; low = form.point })

-- ---- the same ports

not_line : (item : Item) (is : List Item) (k : ℕ) (p : TracePort) (ls : List (List ℕ)) → AllByRecursion IsShortItem (item ∷ is) → map item_line (item ∷ is) ≡ line_of_port k p ∷ ls → ⊥
not_line item is k p ls short e = no_port item k p short.0 (heads (item_line item) (line_of_port k p) (map item_line is) ls e)

no_line : (items : List Item) (k : ℕ) (p : TracePort) (ls : List (List ℕ)) → AllByRecursion IsShortItem items → map item_line items ≡ line_of_port k p ∷ ls → ⊥
no_line [] k p ls short e = cc e
no_line (item ∷ is) k p ls short e = not_line item is k p ls short e

pub same_parts : (k : ℕ) (ps qs : List TracePort) (ms bs : List Item) → k + length ps < 2 ^ 64 → AllByRecursion IsShortItem ms → AllByRecursion IsShortItem bs → lines_of_ports k ps ++ map item_line ms ≡ lines_of_ports k qs ++ map item_line bs → (ps ≡ qs) × (map item_line ms ≡ map item_line bs)
same_parts k [] [] ms bs few sa sb e = (refl, e)
same_parts k [] (q ∷ qs) ms bs few sa sb e = absurd (no_line ms k q (lines_of_ports (k + 1) qs ++ map item_line bs) sa e)
same_parts k (p ∷ ps) [] ms bs few sa sb e = absurd (no_line bs k p (lines_of_ports (k + 1) ps ++ map item_line ms) sb (sym e))
same_parts k (p ∷ ps) (q ∷ qs) ms bs few sa sb e =
    let first = one_port k p q (omega (arith, few)) (heads (line_of_port k p) (line_of_port k q) (lines_of_ports (k + 1) ps ++ map item_line ms) (lines_of_ports (k + 1) qs ++ map item_line bs) e) in
    let later = same_parts (k + 1) ps qs ms bs (omega (arith, few)) sa sb (tails (line_of_port k p) (line_of_port k q) (lines_of_ports (k + 1) ps ++ map item_line ms) (lines_of_ports (k + 1) qs ++ map item_line bs) e) in
    let others = later.0 in
    (cc (first, others), later.1)

-- the same, where a line follows that is no line of the next port
pub same_prefix : (k m : ℕ) (ps qs : List TracePort) (ms bs : List Item) (line : List ℕ) (more : List (List ℕ)) → k + length qs ≡ m → m < 2 ^ 64 → AllByRecursion IsNamed ps → ((port : TracePort) → IsNamed port → bs ≡ [] → line ≡ line_of_port m port → ⊥) → AllByRecursion IsShortItem ms → AllByRecursion IsShortItem bs → lines_of_ports k ps ++ map item_line ms ≡ lines_of_ports k qs ++ (map item_line bs ++ (line ∷ more)) → (ps ≡ qs) × (map item_line ms ≡ map item_line bs ++ (line ∷ more))
same_prefix k m [] [] ms bs line more at few named last sa sb e = (refl, e)
same_prefix k m [] (q ∷ qs) ms bs line more at few named last sa sb e = absurd (no_line ms k q (lines_of_ports (k + 1) qs ++ (map item_line bs ++ (line ∷ more))) sa e)
same_prefix k m (p ∷ ps) [] ms [] line more at few named last sa sb e =
    let number : k ≡ m = omega (arith, at) in
    absurd (last p named.0 refl (sym (heads (line_of_port k p) line (lines_of_ports (k + 1) ps ++ map item_line ms) more e) ∙ ap (λ (j : ℕ). line_of_port j p) number))
same_prefix k m (p ∷ ps) [] ms (b ∷ bs) line more at few named last sa sb e =
    absurd (no_port b k p sb.0 (sym (heads (line_of_port k p) (item_line b) (lines_of_ports (k + 1) ps ++ map item_line ms) (map item_line bs ++ (line ∷ more)) e)))
same_prefix k m (p ∷ ps) (q ∷ qs) ms bs line more at few named last sa sb e =
    let first = one_port k p q (omega (arith, at, few)) (heads (line_of_port k p) (line_of_port k q) (lines_of_ports (k + 1) ps ++ map item_line ms) (lines_of_ports (k + 1) qs ++ (map item_line bs ++ (line ∷ more))) e) in
    let later = same_prefix (k + 1) m ps qs ms bs line more (omega (arith, at)) few named.1 last sa sb (tails (line_of_port k p) (line_of_port k q) (lines_of_ports (k + 1) ps ++ map item_line ms) (lines_of_ports (k + 1) qs ++ (map item_line bs ++ (line ∷ more))) e) in
    let others = later.0 in
    (cc (first, others), later.1)

-- ---- one trace

pub record SameHeader (r s e r2 s2 e2 : ℕ) : Type 0 where
  pub resolution : r ≡ r2
  pub start : s ≡ s2
  pub stop : e ≡ e2

after_word : (xs ys : List ℕ) → 116 ∷ 114 ∷ 97 ∷ 99 ∷ 101 ∷ 32 ∷ 49 ∷ 32 ∷ xs ≡ 116 ∷ 114 ∷ 97 ∷ 99 ∷ 101 ∷ 32 ∷ 49 ∷ 32 ∷ ys → xs ≡ ys
after_word xs ys e = cc e

digits : (n : ℕ) → n ≤ 2 ^ 62 → Lacks 32 (decimal n)
digits n low = lacks_decimal 32 n (omega arith) (omega (arith, low))

one_header : (r s e r2 s2 e2 : ℕ) → IsRange r s e → IsRange r2 s2 e2 → header_line r s e ≡ header_line r2 s2 e2 → SameHeader r s e r2 s2 e2
one_header r s e r2 s2 e2 f g same =
    let rest = after_word (decimal r ++ (32 ∷ (decimal s ++ (32 ∷ decimal e)))) (decimal r2 ++ (32 ∷ (decimal s2 ++ (32 ∷ decimal e2)))) same in
    let first = one_cut 32 (decimal r) (decimal r2) (decimal s ++ (32 ∷ decimal e)) (decimal s2 ++ (32 ∷ decimal e2)) (digits r f.within) (digits r2 g.within) rest in
    let second = one_cut 32 (decimal s) (decimal s2) (decimal e) (decimal e2) (digits s (omega (arith, f.order, f.end))) (digits s2 (omega (arith, g.order, g.end))) first.1 in
    record {
      resolution = decimal_injective r r2 (omega (arith, f.within)) (omega (arith, g.within)) first.0;
      start = decimal_injective s s2 (omega (arith, f.order, f.end)) (omega (arith, g.order, g.end)) second.0;
      stop = decimal_injective e e2 (omega (arith, f.end)) (omega (arith, g.end)) second.1;
    }

pub record SameRows (xs : List TraceLine) (k : EndKind) (p : ℕ) (ys : List TraceLine) (l : EndKind) (q : ℕ) : Type 0 where
  pub lines : xs ≡ ys
  pub kind : k ≡ l
  pub point : p ≡ q

one_rows : (xs : List TraceLine) (k : EndKind) (p : ℕ) (ys : List TraceLine) (l : EndKind) (q : ℕ) → items_of xs k p ≡ items_of ys l q → SameRows xs k p ys l q
one_rows [] k p [] l q e = record { lines = refl; kind = cc e; point = cc e }
one_rows [] k p (y ∷ ys) l q e = absurd (cc e)
one_rows (x ∷ xs) k p [] l q e = absurd (cc e)
one_rows (x ∷ xs) k p (y ∷ ys) l q e =
    let rest : items_of xs k p ≡ items_of ys l q = cc e in
    let later = one_rows xs k p ys l q rest in
    let first : x ≡ y = cc e in
    let others = later.lines in
    record { lines = cc (first, others); kind = later.kind; point = later.point }

abbrev trace_of : ℕ → ℕ → ℕ → List TracePort → List TraceLine → EndKind → ℕ → Trace
trace_of r s e ps xs k p = record { resolution = r; start = s; stop = e; ports = ps; lines = xs; kind = k; point = p }

same_trace : (r s e r2 s2 e2 : ℕ) (ps qs : List TracePort) (xs ys : List TraceLine) (k l : EndKind) (p q : ℕ) → r ≡ r2 → s ≡ s2 → e ≡ e2 → ps ≡ qs → xs ≡ ys → k ≡ l → p ≡ q → trace_of r s e ps xs k p ≡ trace_of r2 s2 e2 qs ys l q
same_trace r s e r2 s2 e2 ps qs xs ys k l p q er es ee eps exs ek ep =
    ap (λ (z : ℕ). trace_of z s e ps xs k p) er
    ∙ ap (λ (z : ℕ). trace_of r2 z e ps xs k p) es
    ∙ ap (λ (z : ℕ). trace_of r2 s2 z ps xs k p) ee
    ∙ ap (λ (z : List TracePort). trace_of r2 s2 e2 z xs k p) eps
    ∙ ap (λ (z : List TraceLine). trace_of r2 s2 e2 qs z k p) exs
    ∙ ap (λ (z : EndKind). trace_of r2 s2 e2 qs ys z p) ek
    ∙ ap (λ (z : ℕ). trace_of r2 s2 e2 qs ys l z) ep

-- the parts of a trace's lines after the header
abbrev pub tail_lines : Trace → List (List ℕ)
tail_lines t = lines_of_ports 0 t.ports ++ map item_line (items_of t.lines t.kind t.point)

pub lines_are : (t : Trace) → lines_of t ≡ header_line t.resolution t.start t.stop ∷ tail_lines t
lines_are t = ap (λ (ls : List (List ℕ)). header_line t.resolution t.start t.stop ∷ (lines_of_ports 0 t.ports ++ ls)) (lines_items t.lines t.kind t.point)

pub one_trace_of : (t u : Trace) → IsTrace t → IsTrace u → lines_of t ≡ lines_of u → t ≡ u
one_trace_of t u f g e =
    let same : header_line t.resolution t.start t.stop ∷ tail_lines t ≡ header_line u.resolution u.start u.stop ∷ tail_lines u = sym (lines_are t) ∙ e ∙ lines_are u in
    let header = one_header t.resolution t.start t.stop u.resolution u.start u.stop f.range g.range (heads (header_line t.resolution t.start t.stop) (header_line u.resolution u.start u.stop) (tail_lines t) (tail_lines u) same) in
    let few = few_kinds t.ports f.few in
    let parts = same_parts 0 t.ports u.ports (items_of t.lines t.kind t.point) (items_of u.lines u.kind u.point) (omega (arith, f.few)) (shorts (kinds_of t.ports) few Between (Ended t.kind t.point) (items_of t.lines t.kind t.point) (walked t f)) (shorts (kinds_of u.ports) (few_kinds u.ports g.few) Between (Ended u.kind u.point) (items_of u.lines u.kind u.point) (walked u g)) (tails (header_line t.resolution t.start t.stop) (header_line u.resolution u.start u.stop) (tail_lines t) (tail_lines u) same) in
    let u_walked = ap (λ (ports : List TracePort). walk (kinds_of ports) Between (items_of u.lines u.kind u.point)) parts.0 ∙ walked u g in
    let items = same_items (items_of t.lines t.kind t.point) (items_of u.lines u.kind u.point) (kinds_of t.ports) Between (Ended t.kind t.point) (Ended u.kind u.point) (short_item (kinds_of t.ports) few) (walked t f) u_walked parts.1 in
    let rows = one_rows t.lines t.kind t.point u.lines u.kind u.point items in
    same_trace t.resolution t.start t.stop u.resolution u.start u.stop t.ports u.ports t.lines u.lines t.kind u.kind t.point u.point header.resolution header.start header.stop parts.0 rows.lines rows.kind rows.point

-- none of a trace's lines has a line feed
pub lines_free : (t : Trace) → IsTrace t → AllByRecursion (Lacks 10) (lines_of t)
lines_free t form =
    let P : List (List ℕ) → Type 0 = λ ls. AllByRecursion (Lacks 10) ls in
    subst P (sym (lines_are t)) (
      is_header_line t.resolution t.start t.stop form.range,
      all_append (lines_of_ports 0 t.ports) (map item_line (items_of t.lines t.kind t.point)) (are_port_lines 0 t.ports (omega (arith, form.few)))
          (are_lines (kinds_of t.ports) (few_kinds t.ports form.few) Between (Ended t.kind t.point) (items_of t.lines t.kind t.point) (walked t form)),
    )

-- a text is that of one trace
pub one_trace : (bytes : List ℕ) (t u : Trace) → IsTextOf bytes t → IsTextOf bytes u → t ≡ u
one_trace bytes t u f g = one_trace_of t u f.form g.form (one_list (lines_of t) (lines_of u) (lines_free t f.form) (lines_free u g.form) (sym f.text ∙ g.text))

-- ---- a fault

prefix_free : (before more : List (List ℕ)) → AllByRecursion (Lacks 10) (before ++ more) → AllByRecursion (Lacks 10) before
prefix_free [] more all = tt
prefix_free (b ∷ bs) more all = (all.0, prefix_free bs more all.1)

pub begins_free : (lines : List (List ℕ)) → Begins lines → AllByRecursion (Lacks 10) lines
begins_free lines b =
    let P : List (List ℕ) → Type 0 = λ ls. AllByRecursion (Lacks 10) ls in
    prefix_free lines b.more (subst P b.parts (lines_free b.trace b.form))

wrong_text : (bytes : List ℕ) (before : List (List ℕ)) (after : List ℕ) (t : Trace) → bytes ≡ lines_text before ++ after → Begins before → Wrong before after → IsTextOf bytes t → ⊥
wrong_text bytes before after t parts good (NoText line rest cut free none) text =
    let prefix = lines_prefix (lines_of t) before line rest (lines_free t text.form) (begins_free before good) free (sym text.text ∙ parts ∙ ap (λ (xs : List ℕ). lines_text before ++ xs) cut) in
    none (record { trace = t; form = text.form; more = prefix.more; parts = prefix.parts ∙ sym (append_assoc before (line ∷ []) prefix.more) })
wrong_text bytes before after t parts good (Unended free none) text =
    none t (record { form = text.form; text = sym parts ∙ text.text })

-- where a text has a first fault it is no trace's
pub fault_no_text : (bytes : List ℕ) (n : ℕ) (t : Trace) → IsFirstFault bytes n → IsTextOf bytes t → ⊥
fault_no_text bytes n t fault text = wrong_text bytes fault.before fault.after t fault.parts fault.good fault.wrong text

-- ---- the fault of the header

abbrev smallest : Trace
smallest = record { resolution = 1; start = 0; stop = 0; ports = []; lines = []; kind = Stop; point = 0 }

smallest_form : IsTrace smallest
smallest_form = record {
  range = record { above = omega arith; within = omega arith; order = omega arith; end = omega arith };
  few = omega arith;
  named = tt;
  instants = [];
  each = tt;
  lines = refl;
  point = omega arith;
}

nothing_begins : Begins []
nothing_begins = record { trace = smallest; form = smallest_form; more = lines_of smallest; parts = refl }

-- a first line, or none
pub record Cut (bytes : List ℕ) : Type 0 where
  pub line : List ℕ
  pub rest : List ℕ
  pub parts : bytes ≡ line ++ (10 ∷ rest)
  pub free : Lacks 10 line

first_cut : (b : ℕ) (bytes : List ℕ) → (Lacks 10 bytes) ⊎ Cut bytes → (Lacks 10 (b ∷ bytes)) ⊎ Cut (b ∷ bytes)
first_cut b bytes later =
    elim (cases_eq b 10) [
      | inl is ↦ inr (record { line = []; rest = bytes; parts = ap (λ (c : ℕ). c ∷ bytes) is; free = tt })
      | inr other ↦ elim later [
        | inl free ↦ inl (other, free)
        | inr cut ↦ inr (record { line = b ∷ cut.line; rest = cut.rest; parts = ap (λ (xs : List ℕ). b ∷ xs) cut.parts; free = (other, cut.free) })
      ]
    ]

pub cut_of : (bytes : List ℕ) → (Lacks 10 bytes) ⊎ Cut bytes
cut_of [] = inl tt
cut_of (b ∷ bytes) = first_cut b bytes (cut_of bytes)

no_header : (bytes : List ℕ) (t : Trace) → ((resolution start stop : ℕ) (rest : List ℕ) → IsRange resolution start stop → bytes ≡ header_line resolution start stop ++ (10 ∷ rest) → ⊥) → IsTextOf bytes t → ⊥
no_header bytes t none text = none t.resolution t.start t.stop (lines_text (lines_of_ports 0 t.ports ++ (map line_text t.lines ++ (end_line t.kind t.point ∷ [])))) text.form.range text.text

wrong_header : (bytes : List ℕ) → ((resolution start stop : ℕ) (rest : List ℕ) → IsRange resolution start stop → bytes ≡ header_line resolution start stop ++ (10 ∷ rest) → ⊥) → (Lacks 10 bytes) ⊎ Cut bytes → Wrong [] bytes
wrong_header bytes none (inl free) = Unended free (λ t text. no_header bytes t none text)
wrong_header bytes none (inr cut) = NoText cut.line cut.rest cut.parts cut.free (λ b.
    let is : header_line b.trace.resolution b.trace.start b.trace.stop ≡ cut.line = heads (header_line b.trace.resolution b.trace.start b.trace.stop) cut.line (lines_of_ports 0 b.trace.ports ++ (map line_text b.trace.lines ++ (end_line b.trace.kind b.trace.point ∷ []))) b.more b.parts in
    none b.trace.resolution b.trace.start b.trace.stop cut.rest b.form.range (cut.parts ∙ ap (λ (xs : List ℕ). xs ++ (10 ∷ cut.rest)) (sym is)))

pub header_fault : (bytes : List ℕ) → ((resolution start stop : ℕ) (rest : List ℕ) → IsRange resolution start stop → bytes ≡ header_line resolution start stop ++ (10 ∷ rest) → ⊥) → IsFirstFault bytes 1
header_fault bytes none = record { before = []; after = bytes; parts = refl; good = nothing_begins; number = refl; wrong = wrong_header bytes none (cut_of bytes) }

append_nil : (xs : List ℕ) → xs ++ [] ≡ xs
append_nil [] = refl
append_nil (x ∷ xs) = ap (λ (ys : List ℕ). x ∷ ys) (append_nil xs)

-- ---- what was read, and the fault of a line after the header

-- the parts that were read, one after the other
pub record Read (bytes : List ℕ) (r s e : ℕ) (ports : List TracePort) (rest : List ℕ) : Type 0 where
  pub range : IsRange r s e
  pub after_header : List ℕ
  pub header : bytes ≡ header_line r s e ++ (10 ∷ after_header)
  pub ports_there : StandBefore after_header ports rest

text_append : (ms bs : List (List ℕ)) → lines_text (ms ++ bs) ≡ lines_text ms ++ lines_text bs
text_append [] bs = refl
text_append (a ∷ ms) bs = ap (λ (xs : List ℕ). a ++ (10 ∷ xs)) (text_append ms bs) ∙ sym (append_assoc a (10 ∷ lines_text ms) (lines_text bs))

text_after : (bytes : List ℕ) (r s e : ℕ) (ports : List TracePort) (rest after : List ℕ) (items : List Item) → Read bytes r s e ports rest → rest ≡ lines_text (map item_line items) ++ after → bytes ≡ lines_text (header_line r s e ∷ (lines_of_ports 0 ports ++ map item_line items)) ++ after
text_after bytes r s e ports rest after items read parts =
    read.header
    ∙ ap (λ (xs : List ℕ). header_line r s e ++ (10 ∷ xs)) (
    read.ports_there.parts
    ∙ ap (λ (xs : List ℕ). lines_text (lines_of_ports 0 ports) ++ xs) parts
    ∙ sym (append_assoc (lines_text (lines_of_ports 0 ports)) (lines_text (map item_line items)) after)
    ∙ ap (λ (xs : List ℕ). xs ++ after) (sym (text_append (lines_of_ports 0 ports) (map item_line items))))
    ∙ sym (append_assoc (header_line r s e) (10 ∷ lines_text (lines_of_ports 0 ports ++ map item_line items)) after)

-- the trace that was read
pub whole_text : (bytes : List ℕ) (r s e : ℕ) (ports : List TracePort) (rest : List ℕ) (lines : List TraceLine) (kind : EndKind) (point : ℕ) → Read bytes r s e ports rest → IsRows (kinds_of ports) rest lines kind point →
    IsTextOf bytes (record { resolution = r; start = s; stop = e; ports = ports; lines = lines; kind = kind; point = point })
whole_text bytes r s e ports rest lines kind point read rows =
    let body = sound (kinds_of ports) kind point (items_of lines kind point) rows.good in
    let same = one_rows lines kind point (flat_map instant_lines body.instants) kind point (body.lines ∙ body_items_are body.instants kind point) in
    let t : Trace = record { resolution = r; start = s; stop = e; ports = ports; lines = lines; kind = kind; point = point } in
    record {
      form = record { range = read.range; few = read.ports_there.few; named = read.ports_there.named; instants = body.instants; each = body.form.each; lines = same.lines; point = body.form.low };
      text = text_after bytes r s e ports rest [] (items_of lines kind point) read (rows.parts ∙ sym (append_nil (lines_text (map item_line (items_of lines kind point)))))
          ∙ append_nil (lines_text (header_line r s e ∷ (lines_of_ports 0 ports ++ map item_line (items_of lines kind point))))
          ∙ ap lines_text (sym (lines_are t));
    }

-- what was walked begins a trace
begins_read : (r s e : ℕ) (ports : List TracePort) (before : List Item) (place : Place) → IsRange r s e → AllByRecursion IsNamed ports → length ports < 2 ^ 64 → walk (kinds_of ports) Between before ≡ Some place → Begins (header_line r s e ∷ (lines_of_ports 0 ports ++ map item_line before))
begins_read r s e ports before place range named few good =
    let on = goes_on (kinds_of ports) before place good in
    let body = sound (kinds_of ports) on.kind on.point (before ++ on.more) on.good in
    let lines = flat_map instant_lines body.instants in
    let t : Trace = record { resolution = r; start = s; stop = e; ports = ports; lines = lines; kind = on.kind; point = on.point } in
    let items : items_of lines on.kind on.point ≡ before ++ on.more = sym (body.lines ∙ body_items_are body.instants on.kind on.point) in
    record {
      trace = t;
      form = record { range = range; few = few; named = named; instants = body.instants; each = body.form.each; lines = refl; point = body.form.low };
      more = map item_line on.more;
      parts = lines_are t ∙ ap (λ (ls : List (List ℕ)). header_line r s e ∷ ls) (
          ap (λ (is : List Item). lines_of_ports 0 ports ++ map item_line is) items
          ∙ ap (λ (ls : List (List ℕ)). lines_of_ports 0 ports ++ ls) (map-append item_line before on.more)
          ∙ sym (append_assoc (lines_of_ports 0 ports) (map item_line before) (map item_line on.more)));
    }

-- no trace begins with the lines up to the fault
no_more : (r s e : ℕ) (ports : List TracePort) (before : List Item) (place : Place) (line : List ℕ) → length ports < 2 ^ 64 → walk (kinds_of ports) Between before ≡ Some place → ((port : TracePort) → IsNamed port → before ≡ [] → line ≡ line_of_port (length ports) port → ⊥) → ((item : Item) → IsShortItem item → line ≡ item_line item → place_after (kinds_of ports) place item ≡ None) → Begins ((header_line r s e ∷ (lines_of_ports 0 ports ++ map item_line before)) ++ (line ∷ [])) → ⊥
no_more r s e ports before place line few good last wrong b =
    let t = b.trace in
    let form = b.form in
    let start = lines_of_ports 0 ports in
    let middle = map item_line before in
    let regroup : ((start ++ middle) ++ (line ∷ [])) ++ b.more ≡ start ++ (middle ++ (line ∷ b.more)) =
    append_assoc (start ++ middle) (line ∷ []) b.more ∙ append_assoc start middle (line ∷ b.more) in
    let same : header_line t.resolution t.start t.stop ∷ tail_lines t ≡ header_line r s e ∷ (start ++ (middle ++ (line ∷ b.more))) =
    sym (lines_are t) ∙ b.parts ∙ ap (λ (ls : List (List ℕ)). header_line r s e ∷ ls) regroup in
    let tail = tails (header_line t.resolution t.start t.stop) (header_line r s e) (tail_lines t) (start ++ (middle ++ (line ∷ b.more))) same in
    let all = items_of t.lines t.kind t.point in
    let all_short = shorts (kinds_of t.ports) (few_kinds t.ports form.few) Between (Ended t.kind t.point) all (walked t form) in
    let before_short = shorts (kinds_of ports) (few_kinds ports few) Between place before good in
    let prefix = same_prefix 0 (length ports) t.ports ports all before line b.more (omega arith) few form.named last all_short before_short tail in
    let all_walked = ap (λ (ps : List TracePort). walk (kinds_of ps) Between all) (sym prefix.0) ∙ walked t form in
    stuck (kinds_of ports) Between place (Ended t.kind t.point) before all line b.more (short_item (kinds_of ports) (few_kinds ports few)) good wrong all_walked prefix.1

-- the lines before the fault are no whole text
no_end : (r s e : ℕ) (ports : List TracePort) (before : List Item) (place : Place) (t : Trace) → length ports < 2 ^ 64 → walk (kinds_of ports) Between before ≡ Some place → IsTrace t → lines_of t ≡ header_line r s e ∷ (lines_of_ports 0 ports ++ map item_line before) → place ≡ Ended t.kind t.point
no_end r s e ports before place t few good form same =
    let all = items_of t.lines t.kind t.point in
    let tail = tails (header_line t.resolution t.start t.stop) (header_line r s e) (tail_lines t) (lines_of_ports 0 ports ++ map item_line before) (sym (lines_are t) ∙ same) in
    let all_short = shorts (kinds_of t.ports) (few_kinds t.ports form.few) Between (Ended t.kind t.point) all (walked t form) in
    let before_short = shorts (kinds_of ports) (few_kinds ports few) Between place before good in
    let parts = same_parts 0 t.ports ports all before (omega (arith, form.few)) all_short before_short tail in
    let all_walked = ap (λ (ps : List TracePort). walk (kinds_of ps) Between all) (sym parts.0) ∙ walked t form in
    let items = same_items all before (kinds_of ports) Between (Ended t.kind t.point) place (short_item (kinds_of ports) (few_kinds ports few)) all_walked good parts.1 in
    unsome place (Ended t.kind t.point) (sym good ∙ ap (λ (is : List Item). walk (kinds_of ports) Between is) (sym items) ∙ all_walked)

length_port_lines : (k : ℕ) (ports : List TracePort) → length (lines_of_ports k ports) ≡ length ports
length_port_lines k [] = refl
length_port_lines k (p ∷ ports) = ap suc (length_port_lines (k + 1) ports)

wrong_line : (bytes : List ℕ) (r s e : ℕ) (ports : List TracePort) (rest : List ℕ) (before : List Item) (after : List ℕ) (place : Place) → Read bytes r s e ports rest → rest ≡ lines_text (map item_line before) ++ after → walk (kinds_of ports) Between before ≡ Some place → Begins (header_line r s e ∷ (lines_of_ports 0 ports ++ map item_line before)) → WrongAfter (kinds_of ports) place after → Wrong (header_line r s e ∷ (lines_of_ports 0 ports ++ map item_line before)) after
wrong_line bytes r s e ports rest before after place read parts good start (NoItem line more cut free none) =
    NoText line more cut free (no_more r s e ports before place line read.ports_there.few good
    (λ port named empty is. read.ports_there.last port more named
    (parts ∙ ap (λ (is : List Item). lines_text (map item_line is) ++ after) empty ∙ cut ∙ ap (λ (xs : List ℕ). xs ++ (10 ∷ more)) is))
    none)
wrong_line bytes r s e ports rest before after place read parts good start (NoEnd free none) =
    Unended free (λ t text.
    let there = ends_there (lines_of t) (header_line r s e ∷ (lines_of_ports 0 ports ++ map item_line before)) after (lines_free t text.form) (begins_free (header_line r s e ∷ (lines_of_ports 0 ports ++ map item_line before)) start) free (sym text.text) in
    none t.kind t.point (no_end r s e ports before place t read.ports_there.few good text.form there.0) there.1)

-- the fault of a line after the ports
pub line_fault : (bytes : List ℕ) (r s e : ℕ) (ports : List TracePort) (rest : List ℕ) (n : ℕ) → Read bytes r s e ports rest → IsFirstFaultOf (kinds_of ports) rest n → IsFirstFault bytes (1 + length ports + n)
line_fault bytes r s e ports rest n read fault =
    let start = begins_read r s e ports fault.before fault.place read.range read.ports_there.named read.ports_there.few fault.good in
    let sizes = length-append (lines_of_ports 0 ports) (map item_line fault.before) in
    record {
      before = header_line r s e ∷ (lines_of_ports 0 ports ++ map item_line fault.before);
      after = fault.after;
      parts = text_after bytes r s e ports rest fault.after fault.before read fault.parts;
      good = start;
      number = omega (arith, fault.number, sizes, length_port_lines 0 ports, length-map fault.before item_line);
      wrong = wrong_line bytes r s e ports rest fault.before fault.after fault.place read fault.parts fault.good start fault.wrong;
    }

no_longer : (lines : List (List ℕ)) → length lines ≤ length (lines_text lines)
no_longer [] = omega arith
no_longer (line ∷ lines) = omega (arith, length-append line (10 ∷ lines_text lines), no_longer lines)

-- a fault's number is at most one more than the bytes
pub fault_small : (bytes : List ℕ) (n : ℕ) → IsFirstFault bytes n → n ≤ length bytes + 1
fault_small bytes n fault =
    omega (arith, fault.number, no_longer fault.before, ap (λ (xs : List ℕ). length xs) fault.parts, length-append (lines_text fault.before) fault.after)
