-- The table of the numbers of Clocks, and the ports' lines as they are read.
use Rattle.std.proofs.Common.{arith, ◌≡◌, refl, sym, ap, ◌∙◌, ℕ, ◌+◌, ◌<◌, ◌≤◌, ℤ, suc, List, [], ◌∷◌, ◌++◌, length, cond, Bool, true, false, Option, Some, None, get_or, slice_get, nat_le, ◌&&◌, ◌==◌, inl, inr}
use Rattle.std.specs.List.{AllByRecursion}
use Rattle.std.specs.Option.{option_map, option_map_or}
use Rattle.std.proofs.Math.ListN.{get_or-append}
use Rattle.std.proofs.Math.Seq.{get_or-append_seam}
use Rattle.std.proofs.lemmas.List.{length-map, length-append, drop_all}
use Rattle.std.proofs.lemmas.Option.{slice_get-map, slice_get_read, slice_get_within}
use Rattle.std.proofs.lemmas.Bool.{cases_lt, eq-eqb}
use Rattle.value_types.specs.declared.values.PortType.{PortType}
use Rattle.value_types.specs.Values.{is_fitting}
use Rattle.trace_reading.specs.declared.trace.TracePort.{TracePort}
use Rattle.trace_reading.specs.Form.{IsNamed, kinds_of, lines_of_ports}
use Rattle.trace_reading.specs.Lines.{line_of_port}
use Rattle.system_model.specs.Text.{lines_text}
use Rattle.trace_reading.specs.Walk.{is_clock, clocks_before, fits_at, is_next, IsClockTable}
use Rattle.trace_reading.proofs.ClockLemmas.{past_other, past_clock}
use Rattle.trace_reading.proofs.WalkLemmas.{text_push}
use Rattle.trace_reading.proofs.BodyLemmas.{none_left}
use Rattle.trace_reading.proofs.ListLemmas.{parts}
use Rattle.trace_reading.proofs.FitLemmas.{fitting_at}

-- ---- ports

ports_push : (k : ℕ) (ports : List TracePort) (p : TracePort) → lines_of_ports k (ports ++ (p ∷ [])) ≡ lines_of_ports k ports ++ (line_of_port (k + length ports) p ∷ [])
ports_push k [] p = let same : k ≡ k + 0 = omega arith in ap (λ (n : ℕ). line_of_port n p ∷ []) same
ports_push k (q ∷ ports) p =
    let up : (k + 1) + length ports ≡ k + suc (length ports) = omega arith in
    ap (λ (ls : List (List ℕ)). line_of_port k q ∷ ls) (ports_push (k + 1) ports p ∙ ap (λ (n : ℕ). lines_of_ports (k + 1) ports ++ (line_of_port n p ∷ [])) up)

pub more_ports : (text rest after : List ℕ) (ports more : List TracePort) (p : TracePort) → text ≡ lines_text (lines_of_ports 0 ports) ++ rest → rest ≡ line_of_port (length ports) p ++ (10 ∷ after) → more ≡ ports ++ (p ∷ []) → text ≡ lines_text (lines_of_ports 0 more) ++ after
more_ports text rest after ports more p parts cut pushed =
    let number : length ports ≡ 0 + length ports = omega arith in
    parts
    ∙ ap (λ (xs : List ℕ). lines_text (lines_of_ports 0 ports) ++ xs) cut
    ∙ sym (text_push (lines_of_ports 0 ports) (line_of_port (length ports) p) after)
    ∙ ap (λ (n : ℕ). lines_text (lines_of_ports 0 ports ++ (line_of_port n p ∷ [])) ++ after) number
    ∙ ap (λ (ls : List (List ℕ)). lines_text ls ++ after) (sym (ports_push 0 ports p))
    ∙ ap (λ (ps : List TracePort). lines_text (lines_of_ports 0 ps) ++ after) (sym pushed)

named_push : (ports : List TracePort) (p : TracePort) → AllByRecursion IsNamed ports → IsNamed p → AllByRecursion IsNamed (ports ++ (p ∷ []))
named_push [] p all named = (named, tt)
named_push (q ∷ ports) p all named = (all.0, named_push ports p all.1 named)

pub more_named : (ports more : List TracePort) (p : TracePort) → AllByRecursion IsNamed ports → IsNamed p → more ≡ ports ++ (p ∷ []) → AllByRecursion IsNamed more
more_named ports more p all named pushed = rw pushed (named_push ports p all named)

-- ---- the table

pub kind_there : (ports : List TracePort) (i : ℕ) (p : TracePort) → slice_get ports i ≡ Some p → slice_get (kinds_of ports) i ≡ Some p.kind
kind_there ports i p at = slice_get-map (λ (q : TracePort). q.kind) ports i ∙ ap (λ (o : Option TracePort). option_map (λ (q : TracePort). q.kind) o) at

counted : (test : Bool) (kinds : List PortType) (i : ℕ) (kind : PortType) → is_clock kind ≡ test → slice_get kinds i ≡ Some kind → clocks_before kinds i + cond test 1 0 ≡ clocks_before kinds (i + 1)
counted true kinds i kind is at = sym (past_clock kinds i kind at is)
counted false kinds i kind is at = let same : clocks_before kinds i + 0 ≡ clocks_before kinds i = omega arith in same ∙ sym (past_other kinds i kind at is)

pub count_next : (ports : List TracePort) (i : ℕ) (p : TracePort) → i < length ports → p ≡ get_or ports i p → clocks_before (kinds_of ports) i + cond (is_clock p.kind) 1 0 ≡ clocks_before (kinds_of ports) (i + 1)
count_next ports i p low is = counted (is_clock p.kind) (kinds_of ports) i p.kind refl (kind_there ports i p (slice_get_read ports (length ports) i p refl low is))

pub table_push : (table more : List ℕ) (count i : ℕ) (kinds : List PortType) → more ≡ table ++ (count ∷ []) → length table ≡ i → ((k : ℕ) → k < i → get_or table k 0 ≡ clocks_before kinds k) → count ≡ clocks_before kinds i → (k : ℕ) → k < i + 1 → get_or more k 0 ≡ clocks_before kinds k
table_push table more count i kinds pushed size each now k low =
    elim (cases_lt k i) [
      | inl less ↦
          let within : k < length table = omega (arith, size, less) in
          ap (λ (xs : List ℕ). get_or xs k 0) pushed ∙ get_or-append table (count ∷ []) 0 k within ∙ each k less
      | inr past ↦
          let is : k ≡ length table = omega (arith, size, past, low) in
          let last : length table ≡ k = sym is in
          ap (λ (xs : List ℕ). get_or xs k 0) pushed ∙ ap (λ (n : ℕ). get_or (table ++ (count ∷ [])) n 0) is ∙ get_or-append_seam table count [] 0 ∙ now ∙ ap (λ (n : ℕ). clocks_before kinds n) (sym size ∙ last)
    ]

pub whole_table : (ports : List TracePort) (table : List ℕ) → length table ≡ length ports + 1 → ((k : ℕ) → k < length ports + 1 → get_or table k 0 ≡ clocks_before (kinds_of ports) k) → IsClockTable (kinds_of ports) table
whole_table ports table size each =
    let same = length-map ports (λ (p : TracePort). p.kind) in
    record { size = omega (arith, size, same); each = λ k low. each k (omega (arith, low, same)) }

-- ---- places

pub past_all : (kinds : List PortType) (k : ℕ) → length kinds ≤ k → clocks_before kinds k ≡ clocks_before kinds (length kinds)
past_all kinds k past = none_left kinds k (drop_all k kinds past)

pub closed_past : (ports : List TracePort) (k : ℕ) → length ports ≤ k → (clocks_before (kinds_of ports) k == clocks_before (kinds_of ports) (length (kinds_of ports))) ≡ true
closed_past ports k past =
    eq-eqb (clocks_before (kinds_of ports) k) (clocks_before (kinds_of ports) (length (kinds_of ports)))
    (past_all (kinds_of ports) k (omega (arith, past, length-map ports (λ (p : TracePort). p.kind))))

pub fits_there : (ports : List TracePort) (k : ℕ) (value : ℤ) (p : TracePort) → slice_get ports k ≡ Some p → fits_at (kinds_of ports) k value ≡ is_fitting p.kind value
fits_there ports k value p at = ap (λ (o : Option PortType). option_map_or (λ (kind : PortType). is_fitting kind value) o false) (kind_there ports k p at)

pub fits_nowhere : (ports : List TracePort) (k : ℕ) (value : ℤ) → slice_get ports k ≡ None → fits_at (kinds_of ports) k value ≡ false
fits_nowhere ports k value none =
    ap (λ (o : Option PortType). option_map_or (λ (kind : PortType). is_fitting kind value) o false)
    (slice_get-map (λ (q : TracePort). q.kind) ports k ∙ ap (λ (o : Option TracePort). option_map (λ (q : TracePort). q.kind) o) none)

pub next_within : (ports : List TracePort) (next port : ℕ) (value : ℤ) → is_next (kinds_of ports) next port value ≡ true → port < length ports
next_within ports next port value test =
    let kinds = kinds_of ports in
    let first = parts (nat_le next port) (fits_at kinds port value && clocks_before kinds next == clocks_before kinds port) test in
    let second = parts (fits_at kinds port value) (clocks_before kinds next == clocks_before kinds port) first.1 in
    let there = fitting_at kinds port value (slice_get kinds port) refl second.0 in
    omega (arith, slice_get_within kinds port there.kind there.at, length-map ports (λ (p : TracePort). p.kind))

pub size_push : (table more : List ℕ) (count i : ℕ) → more ≡ table ++ (count ∷ []) → length table ≡ i → length more ≡ i + 1
size_push table more count i pushed size = omega (arith, ap (λ (xs : List ℕ). length xs) pushed, length-append table (count ∷ []), size)

pub small_count : (b : Bool) → cond b 1 0 ≤ 1
small_count true = omega arith
small_count false = omega arith
