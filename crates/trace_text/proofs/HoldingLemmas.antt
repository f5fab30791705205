-- The header of a trace grows line by line.
use Rattle.std.proofs.Common.{◌≡◌, ◌⊎◌, ℕ, zero, suc, ◌+◌, ◌<◌, ◌≤◌, inl, inr, List, [], ◌∷◌, length, take, get_or, refl, sym, ap, ◌∙◌, subst, arith}
use Rattle.std.proofs.lemmas.Bool.{cases_lt}
use Rattle.std.proofs.lemmas.List.{take_all}
use Rattle.std.proofs.lemmas.Option.{same_Some, slice_get_read, slice_get_within}
use Rattle.std.specs.List.{slice_get}
use Rattle.system_model.specs.declared.plan.Plan.{Plan}
use Rattle.system_model.specs.declared.system.Component.{Component}
use Rattle.system_model.specs.declared.system.Port.{Port}
use Rattle.system_model.specs.declared.system.System.{System}
use Rattle.system_model.specs.Text.{header_line, header_text, lines_text, port_line, port_lines_from}
use Rattle.trace_text.specs.Lines.{ended}
use Rattle.trace_text.specs.Holding.{PassesAt, PassesWith, header_up_to, held_header_max}
use Rattle.trace_text.proofs.RoomLemmas.{length-lines}

-- with one port more stands its line
lines_more : (components : List Component) (k n : ℕ) (ports : List Port) (port : Port) → n < length ports → port ≡ get_or ports n port →
    length (lines_text (port_lines_from components k (take (suc n) ports))) ≡ length (lines_text (port_lines_from components k (take n ports))) + length (ended (port_line components (k + n) port))
lines_more components k n [] port within is = absurd (omega arith)
lines_more components k zero (p ∷ ports) port within is =
    let at : k ≡ k + 0 = omega arith in
    let line = length-lines (port_line components k p) [] in
    let first : port ≡ p = is in
    subst (λ (q : Port). length (lines_text (port_lines_from components k (take 1 (p ∷ ports)))) ≡ 0 + length (ended (port_line components (k + 0) q))) (sym first)
    (subst (λ (m : ℕ). length (lines_text (port_lines_from components k (take 1 (p ∷ ports)))) ≡ 0 + length (ended (port_line components m p))) at (omega (arith, line)))
lines_more components k (suc n) (p ∷ ports) port within is =
    let at : (k + 1) + n ≡ k + suc n = omega arith in
    let more = length-lines (port_line components k p) (port_lines_from components (k + 1) (take (suc n) ports)) in
    let less = length-lines (port_line components k p) (port_lines_from components (k + 1) (take n ports)) in
    let rest = lines_more components (k + 1) n ports port (omega arith) is in
    subst (λ (m : ℕ). length (lines_text (port_lines_from components k (take (suc (suc n)) (p ∷ ports)))) ≡ length (lines_text (port_lines_from components k (take (suc n) (p ∷ ports)))) + length (ended (port_line components m port))) at
    (omega (arith, more, less, rest))

-- so the header with one port more has its line more
pub header_more : (components : List Component) (ports : List Port) (plan : Plan) (n : ℕ) (port : Port) → n < length ports → port ≡ get_or ports n port →
    length (header_up_to components ports plan (n + 1)) ≡ length (header_up_to components ports plan n) + length (ended (port_line components n port))
header_more components ports plan n port within is =
    let next : n + 1 ≡ suc n = omega arith in
    let first = header_line plan.resolution plan.start plan.stop in
    let more = length-lines first (port_lines_from components 0 (take (suc n) ports)) in
    let less = length-lines first (port_lines_from components 0 (take n ports)) in
    let same : 0 + n ≡ n = omega arith in
    let lines = subst (λ (m : ℕ). length (lines_text (port_lines_from components 0 (take (suc n) ports))) ≡ length (lines_text (port_lines_from components 0 (take n ports))) + length (ended (port_line components m port))) same
    (lines_more components 0 n ports port within is) in
    subst (λ (m : ℕ). length (header_up_to components ports plan m) ≡ length (header_up_to components ports plan n) + length (ended (port_line components n port))) (sym next)
    (omega (arith, more, less, lines))

-- without a port it is the first line
pub header_first : (components : List Component) (ports : List Port) (plan : Plan) →
    length (header_up_to components ports plan 0) ≡ length (ended (header_line plan.resolution plan.start plan.stop))
header_first components ports plan = let line = length-lines (header_line plan.resolution plan.start plan.stop) [] in omega (arith, line)

-- fewer ports have no more lines
lines_fewer : (components : List Component) (k n m : ℕ) (ports : List Port) → n ≤ m →
    length (lines_text (port_lines_from components k (take n ports))) ≤ length (lines_text (port_lines_from components k (take m ports)))
lines_fewer components k zero m ports le = omega arith
lines_fewer components k (suc n) zero ports le = absurd (omega (arith, le))
lines_fewer components k (suc n) (suc m) [] le = omega arith
lines_fewer components k (suc n) (suc m) (p ∷ ports) le =
    let less = length-lines (port_line components k p) (port_lines_from components (k + 1) (take n ports)) in
    let more = length-lines (port_line components k p) (port_lines_from components (k + 1) (take m ports)) in
    let rest = lines_fewer components (k + 1) n m ports (omega (arith, le)) in
    omega (arith, less, more, rest)

pub header_fewer : (components : List Component) (ports : List Port) (plan : Plan) (n m : ℕ) → n ≤ m →
    length (header_up_to components ports plan n) ≤ length (header_up_to components ports plan m)
header_fewer components ports plan n m le =
    let first = header_line plan.resolution plan.start plan.stop in
    let less = length-lines first (port_lines_from components 0 (take n ports)) in
    let more = length-lines first (port_lines_from components 0 (take m ports)) in
    let lines = lines_fewer components 0 n m ports le in
    omega (arith, less, more, lines)

-- it has more than there is room for, for the first time, at one port
pub passes_once : (components : List Component) (ports : List Port) (plan : Plan) (k j : ℕ) → PassesAt components ports plan k → PassesAt components ports plan j → k ≡ j
passes_once components ports plan k j one other = by (cases_lt k j)
  where
    by : (k < j) ⊎ (j ≤ k) → k ≡ j
    by (inl l) =
        let fewer = header_fewer components ports plan (k + 1) j (omega (arith, l)) in
        let after = one.after in
        let before = other.before in
        absurd (omega (arith, fewer, after, before))
    by (inr g) = here (cases_lt j k)
      where
        here : (j < k) ⊎ (k ≤ j) → k ≡ j
        here (inl l) =
            let fewer = header_fewer components ports plan (j + 1) k (omega (arith, l)) in
            let after = other.after in
            let before = one.before in
            absurd (omega (arith, fewer, after, before))
        here (inr h) = omega (arith, g, h)

-- nowhere where the header with these ports has no more
pub passes_nowhere : (components : List Component) (ports : List Port) (plan : Plan) (n k : ℕ) → length (header_up_to components ports plan n) ≤ held_header_max → k < n → PassesAt components ports plan k → ⊥
passes_nowhere components ports plan n k fits within passes =
    let fewer = header_fewer components ports plan (k + 1) n (omega (arith, within)) in
    let after = passes.after in
    omega (arith, fewer, after, fits)

-- ---- what was found

-- at this port it has more for the first time
pub passes_here : (components : List Component) (ports : List Port) (plan : Plan) (k : ℕ) (port : Port) → k < length ports → port ≡ get_or ports k port →
    length (header_up_to components ports plan k) ≤ held_header_max → held_header_max < length (header_up_to components ports plan k) + length (ended (port_line components k port)) → PassesWith components ports plan port.component.0
passes_here components ports plan k port within is before after =
    let more = header_more components ports plan k port within is in
    (k, (port, slice_get_read ports (length ports) k port refl within is, refl, record { before = before; after = omega (arith, more, after) }))

-- and at no other
pub passes_alone : (components : List Component) (ports : List Port) (plan : Plan) (k : ℕ) (port : Port) → k < length ports → port ≡ get_or ports k port →
    length (header_up_to components ports plan k) ≤ held_header_max → held_header_max < length (header_up_to components ports plan k) + length (ended (port_line components k port)) → (i : ℕ) → PassesWith components ports plan i → port.component.0 ≡ i
unfolding passes_here
passes_alone components ports plan k port within is before after i other =
    let here = passes_here components ports plan k port within is before after in
    let same : k ≡ other.0 = passes_once components ports plan k other.0 here.1.3 other.1.3 in
    let port_is : port ≡ other.1.0 = same_Some port other.1.0 (sym here.1.1 ∙ ap (slice_get ports) same ∙ other.1.1) in
    ap (λ (p : Port). p.component.0) port_is ∙ other.1.2

-- with no port it has more
pub passes_none : (components : List Component) (ports : List Port) (plan : Plan) (n : ℕ) → length ports ≤ n → length (header_up_to components ports plan n) ≤ held_header_max → (i : ℕ) → PassesWith components ports plan i → ⊥
passes_none components ports plan n all fits i other =
    let within = slice_get_within ports other.0 other.1.0 other.1.1 in
    passes_nowhere components ports plan n other.0 fits (omega (arith, within, all)) other.1.3

-- and then the whole has no more
pub whole_fits : (system : System) (components : List Component) (ports : List Port) (plan : Plan) (n : ℕ) → components ≡ system.components → ports ≡ system.ports → length ports ≤ n → length (header_up_to components ports plan n) ≤ held_header_max →
    length (header_text system plan.resolution plan.start plan.stop) ≤ held_header_max
whole_fits system components ports plan n components_are ports_are all fits =
    subst (λ (xs : List Port). length (lines_text (header_line plan.resolution plan.start plan.stop ∷ port_lines_from system.components 0 xs)) ≤ held_header_max) ports_are
    (subst (λ (cs : List Component). length (lines_text (header_line plan.resolution plan.start plan.stop ∷ port_lines_from cs 0 ports)) ≤ held_header_max) components_are
    (subst (λ (xs : List Port). length (lines_text (header_line plan.resolution plan.start plan.stop ∷ port_lines_from components 0 xs)) ≤ held_header_max) (take_all n ports all) fits))

-- the parts of a system that were lent are those of the system
pub of_system : (system : System) (components : List Component) (ports : List Port) (plan : Plan) (i : ℕ) → components ≡ system.components → ports ≡ system.ports → PassesWith components ports plan i → PassesWith system.components system.ports plan i
of_system system components ports plan i components_are ports_are passes =
    subst (λ (xs : List Port). PassesWith system.components xs plan i) ports_are (subst (λ (cs : List Component). PassesWith cs ports plan i) components_are passes)

pub of_lent : (system : System) (components : List Component) (ports : List Port) (plan : Plan) (i : ℕ) → components ≡ system.components → ports ≡ system.ports → PassesWith system.components system.ports plan i → PassesWith components ports plan i
of_lent system components ports plan i components_are ports_are passes =
    subst (λ (xs : List Port). PassesWith components xs plan i) (sym ports_are) (subst (λ (cs : List Component). PassesWith cs system.ports plan i) (sym components_are) passes)
