-- What holds of the traces that runs have (FMI 3.0, 2.1.5: super-dense time; 2.2.8: Clocks; SSP 1.0: connections).
use Rattle.std.specs.Prelude.{◌≡◌, ℕ, ◌<◌, ◌≤◌, List, [], ◌∷◌, ◌++◌, length, map}
use Rattle.std.specs.List.{concat}
use Rattle.system_model.specs.declared.plan.EndKind.{EndKind}
use Rattle.system_model.specs.declared.plan.Plan.{Plan}
use Rattle.system_model.specs.declared.system.System.{System}
use Rattle.system_model.specs.Sound.{IsSound}
use Rattle.system_model.specs.Text.{Instant, end_text, header_text, instant_text, trace_text}
use Rattle.run_model.specs.Behaved.{WellBehaved}
use Rattle.run_model.specs.Run.{Run}
use Rattle.run_model.specs.Trace.{IsTrace}
use Rattle.trace_reading.specs.declared.trace.Trace.{Trace}
use Rattle.trace_reading.specs.Faults.{IsFirstFault}
use Rattle.trace_reading.specs.Form.{IsRange, IsTextOf}
use Rattle.trace_reading.specs.Written.{IsWritable, trace_told}
use Rattle.trace_check.specs.Rules.{KeepsRules}

-- ---- runs

-- a range within the limits of a trace's form, and at each point an instant at least and 10,000 at most
pub record IsLimited (plan : Plan) : Type 0 where
  pub range : IsRange plan.resolution plan.start plan.stop
  pub some : 0 < plan.limit
  pub few : plan.limit ≤ 10000

-- a run of a sound system with a machine for each component, under a plan within its limits, whose FMUs behave well
pub record RunsWell (r : Run) : Type 0 where
  pub sound : IsSound r.system
  pub count : length r.machines ≡ length r.system.components
  pub plan : IsLimited r.plan
  pub behaved : WellBehaved r

-- these are the instants and the end of such a run
pub record IsTraceOf (r : Run) (is : List Instant) (kind : EndKind) (end : ℕ) : Type 0 where
  pub well : RunsWell r
  pub trace : IsTrace r is kind end

-- ---- laws

-- a piece for the header, one for each instant and one for the end line are the text together
abbrev pub IsTextInPieces : Type 0
IsTextInPieces = (system : System) (plan : Plan) (is : List Instant) (kind : EndKind) (end : ℕ) →
    concat ((header_text system plan.resolution plan.start plan.stop ∷
    map (λ (i : Instant). instant_text i.t i.n i.values) is) ++ end_text kind end ∷ [])
    ≡ trace_text system plan is kind end

-- the text of the run is that of the trace that it tells
abbrev pub IsToldInForm : Type 0
IsToldInForm =
    (r : Run) (is : List Instant) (kind : EndKind) (end : ℕ) → IsTraceOf r is kind end →
    IsWritable r.system r.plan is end

-- no line of this trace breaks a rule
abbrev pub KeepsItsRules : Type 0
KeepsItsRules =
    (r : Run) (is : List Instant) (kind : EndKind) (end : ℕ) → IsTraceOf r is kind end →
    KeepsRules r.system (trace_told r.system r.plan is kind end)

-- the rules are about components and ports alone
abbrev pub IsOfParts : Type 0
IsOfParts =
    (one other : System) (t : Trace) → one.components ≡ other.components → one.ports ≡ other.ports →
    KeepsRules one t → KeepsRules other t

-- no line of the run's text is out of form
abbrev pub HasNoFault : Type 0
HasNoFault = (r : Run) (is : List Instant) (kind : EndKind) (end : ℕ) → IsTraceOf r is kind end →
    (bytes : List ℕ) → bytes ≡ trace_text r.system r.plan is kind end → (n : ℕ) →
    IsFirstFault bytes n → ⊥

-- what is read from the text of the run keeps the rules of each system with the same components and ports
abbrev pub IsReadByRules : Type 0
IsReadByRules = (r : Run) (is : List Instant) (kind : EndKind) (end : ℕ) → IsTraceOf r is kind end →
    (bytes : List ℕ) → bytes ≡ trace_text r.system r.plan is kind end →
    (t : Trace) → IsTextOf bytes t →
    (other : System) → r.system.components ≡ other.components →
    r.system.ports ≡ other.ports → KeepsRules other t
