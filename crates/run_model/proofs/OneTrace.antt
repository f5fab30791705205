-- A sound system, machines of its shapes and a plan have one trace at most.
use Rattle.std.proofs.Common.{◌≡◌, ℕ, ℤ, Bool, true, false, List, [], ◌∷◌, sym, ap, ◌∙◌, subst}
use Rattle.std.specs.Prelude.{Option}
use Rattle.system_model.specs.declared.plan.EndKind.{EndKind}
use Rattle.system_model.specs.Text.{Instant}
use Rattle.run_model.specs.Run.{Run, Situation}
use Rattle.run_model.specs.Equations.{Solves}
use Rattle.std.specs.List.{list_any}
use Rattle.run_model.specs.Initial.{beginning, is_bad_initially}
use Rattle.run_model.specs.AfterInstant.{Following, OutOfRange, Ended, AtLimit, Again, Done, following}
use Rattle.run_model.specs.Stepping.{Next, Ends, EndsBefore, GoesOn, Departs, AtStop, WhereAsked, WhereFixed, ByStep}
use Rattle.run_model.specs.Trace.{Leads, LeadsBy, Continues, Last, Unwritten, Further, IsTrace, Fails, Runs, instant_of}
use Rattle.system_model.specs.Sound.{IsSound}
use Rattle.run_model.specs.Machines.{AreMachines, AreStates}
use Rattle.system_model.proofs.CallerLemmas.{true_false}
use Rattle.run_model.proofs.Unique.{solves_same}
use Rattle.run_model.proofs.Initially.{solves_initially_same}
use Rattle.run_model.proofs.States.{states_beginning, states_updated, states_stepped}
use Rattle.run_model.proofs.StepsOnce.{departs_same}

leads_by_same : (f : Following) (r : Run) (s : Situation) (V : List (Option ℤ)) (x y : Next) → LeadsBy f r s V x → LeadsBy f r s V y → x ≡ y
leads_by_same OutOfRange r s V x y a b = a ∙ sym b
leads_by_same Ended r s V x y a b = a ∙ sym b
leads_by_same AtLimit r s V x y a b = a ∙ sym b
leads_by_same Again r s V x y a b = a ∙ sym b
leads_by_same Done r s V x y a b = departs_same a b

-- an instant leads to one thing
pub leads_same : (r : Run) (s : Situation) (V : List (Option ℤ)) (x y : Next) → Leads r s V x → Leads r s V y → x ≡ y
leads_same r s V x y a b = leads_by_same (following r s V) r s V x y a b

abbrev pub situation_of : Next → Situation → Situation
situation_of (Ends kind point) d = d
situation_of (EndsBefore kind point) d = d
situation_of (GoesOn s) d = s

abbrev kind_of : Next → EndKind → EndKind
kind_of (Ends kind point) d = kind
kind_of (EndsBefore kind point) d = kind
kind_of (GoesOn s) d = d

abbrev point_of : Next → ℕ → ℕ
point_of (Ends kind point) d = point
point_of (EndsBefore kind point) d = point
point_of (GoesOn s) d = d

abbrev pub ends_or_goes : Next → Bool
ends_or_goes (Ends kind point) = true
ends_or_goes (EndsBefore kind point) = true
ends_or_goes (GoesOn s) = false

abbrev pub is_written : Next → Bool
is_written (Ends kind point) = true
is_written (EndsBefore kind point) = false
is_written (GoesOn s) = true

abbrev IsReady : Run → Next → Type 0
IsReady r (Ends kind point) = Unit {0}
IsReady r (EndsBefore kind point) = Unit {0}
IsReady r (GoesOn s) = AreStates r false s.states

departs_ready : {r : Run} {s : Situation} {next : Next} → AreMachines r → AreStates r false s.states → Departs r s next → IsReady r next
departs_ready {r} {s} {next} machines fit (AtStop x at a) = subst (IsReady r) (sym a) tt
departs_ready {r} {s} {next} machines fit (WhereAsked x k p step asks a) = subst (IsReady r) (sym a) tt
departs_ready {r} {s} {next} machines fit (WhereFixed x i e lacks a) = subst (IsReady r) (sym a) tt
departs_ready {r} {s} {next} machines fit (ByStep x k p step asks a) = subst (IsReady r) (sym a) (states_stepped r machines s k p fit)

leads_by_ready : (f : Following) (r : Run) (s : Situation) (V : List (Option ℤ)) (next : Next) → AreMachines r → AreStates r false s.states → LeadsBy f r s V next → IsReady r next
leads_by_ready OutOfRange r s V next machines fit a = subst (IsReady r) (sym a) tt
leads_by_ready Ended r s V next machines fit a = subst (IsReady r) (sym a) tt
leads_by_ready AtLimit r s V next machines fit a = subst (IsReady r) (sym a) tt
leads_by_ready Again r s V next machines fit a = subst (IsReady r) (sym a) (states_updated r machines s V fit)
leads_by_ready Done r s V next machines fit a = departs_ready machines (states_updated r machines s V fit) a

-- where an instant leads to, the states fit
pub leads_ready : (r : Run) (s : Situation) (V : List (Option ℤ)) (next : Situation) → AreMachines r → AreStates r false s.states → Leads r s V (GoesOn next) → AreStates r false next.states
leads_ready r s V next machines fit a = leads_by_ready (following r s V) r s V (GoesOn next) machines fit a

abbrev SameEnd : List Instant → List Instant → EndKind → EndKind → ℕ → ℕ → Type 0
SameEnd is js k l p q = (is ≡ js) × (k ≡ l) × (p ≡ q)

-- two accounts of what follows in one situation are equal
outcome : {r : Run} {s z : Situation} {V W : List (Option ℤ)} {x y : Next} → IsSound r.system → AreMachines r → AreStates r false s.states → Solves r s V → Solves r z W → Leads r s V x → Leads r z W y → s ≡ z →
    (V ≡ W) × (x ≡ y)
outcome {r} {s} {z} {V} {W} {x} {y} sound machines fit v w leads leads2 e =
    let same : V ≡ W = solves_same r sound machines s fit V W v (subst (λ (u : Situation). Solves r u W) (sym e) w) in
    (same, leads_same r s V x y leads (subst (λ (u : Situation). Leads r u V y) (sym e) (subst (λ U. Leads r z U y) (sym same) leads2)))

continues_same : {r : Run} {s z : Situation} {is js : List Instant} {k l : EndKind} {p q : ℕ} → IsSound r.system → AreMachines r → AreStates r false s.states →
    Continues r s is k p → Continues r z js l q → s ≡ z → SameEnd is js k l p q
continues_same {r} sound machines fit (Last s V is k p v leads i) (Last z W js l q w leads2 j) e =
    let o = outcome sound machines fit v w leads leads2 e in
    (i ∙ ap (λ x. instant_of s x ∷ []) o.0 ∙ ap (λ (u : Situation). instant_of u W ∷ []) e ∙ sym j, ap (λ n. kind_of n k) o.1, ap (λ n. point_of n p) o.1)
continues_same {r} sound machines fit (Last s V is k p v leads i) (Further z W js l q next rest w leads2 j more) e =
    absurd (true_false (ap ends_or_goes (outcome sound machines fit v w leads leads2 e).1))
continues_same {r} sound machines fit (Last s V is k p v leads i) (Unwritten z W js l q w leads2 j) e =
    absurd (true_false (ap is_written (outcome sound machines fit v w leads leads2 e).1))
continues_same {r} sound machines fit (Unwritten s V is k p v leads i) (Last z W js l q w leads2 j) e =
    absurd (true_false (sym (ap is_written (outcome sound machines fit v w leads leads2 e).1)))
continues_same {r} sound machines fit (Unwritten s V is k p v leads i) (Unwritten z W js l q w leads2 j) e =
    let o = outcome sound machines fit v w leads leads2 e in
    (i ∙ sym j, ap (λ n. kind_of n k) o.1, ap (λ n. point_of n p) o.1)
continues_same {r} sound machines fit (Unwritten s V is k p v leads i) (Further z W js l q next rest w leads2 j more) e =
    absurd (true_false (ap ends_or_goes (outcome sound machines fit v w leads leads2 e).1))
continues_same {r} sound machines fit (Further s V is k p next rest v leads i more) (Unwritten z W js l q w leads2 j) e =
    absurd (true_false (sym (ap ends_or_goes (outcome sound machines fit v w leads leads2 e).1)))
continues_same {r} sound machines fit (Further s V is k p next rest v leads i more) (Last z W js l q w leads2 j) e =
    absurd (true_false (sym (ap ends_or_goes (outcome sound machines fit v w leads leads2 e).1)))
continues_same {r} sound machines fit (Further s V is k p next rest v leads i more) (Further z W js l q next2 rest2 w leads2 j more2) e =
    let o = outcome sound machines fit v w leads leads2 e in
    let on : SameEnd rest rest2 k l p q = continues_same sound machines (leads_ready r s V next machines fit leads) more more2 (ap (λ n. situation_of n next) o.1) in
    (i ∙ ap (λ x. instant_of s x ∷ rest) o.0 ∙ ap (λ (u : Situation). instant_of u W ∷ rest) e ∙ ap (λ x. instant_of z W ∷ x) on.0 ∙ sym j, on.1, on.2)

pub trace_same : (r : Run) → IsSound r.system → AreMachines r → (is js : List Instant) (k l : EndKind) (p q : ℕ) → IsTrace r is k p → IsTrace r js l q → SameEnd is js k l p q
trace_same r sound machines is js k l p q (Fails w solved bad none kind end) (Fails z solved2 bad2 none2 kind2 end2) =
    (none ∙ sym none2, kind ∙ sym kind2, end ∙ sym end2)
trace_same r sound machines is js k l p q (Fails w solved bad none kind end) (Runs z solved2 good y) =
    absurd (true_false (sym bad ∙ ap (λ (W : List (Option ℤ)). list_any (is_bad_initially r.system W) r.system.ports) (solves_initially_same r sound machines w z solved solved2) ∙ good))
trace_same r sound machines is js k l p q (Runs w solved good x) (Fails z solved2 bad none kind end) =
    absurd (true_false (sym bad ∙ ap (λ (W : List (Option ℤ)). list_any (is_bad_initially r.system W) r.system.ports) (solves_initially_same r sound machines z w solved2 solved) ∙ good))
trace_same r sound machines is js k l p q (Runs w solved good x) (Runs z solved2 good2 y) =
    let same : w ≡ z = solves_initially_same r sound machines w z solved solved2 in
    continues_same sound machines (states_beginning r machines w) x y (ap (beginning r) same)
