-- In Initialization Mode each call of the walk is permitted, and each value is one of its port's type.
use Rattle.std.proofs.Common.{◌≡◌, ℕ, ◌<◌, ℤ, Bool, true, false, List, [], ◌∷◌, Option, Some, None, refl, sym, ap, ◌∙◌, subst, arith, length, get_or}
use Rattle.std.specs.Prelude.{All, IfSome, IsSomeAnd, ◌&&◌, ◌==◌, if◌then◌else◌, option_map, slice_get}
use Rattle.std.specs.List.{AllZip}
use Rattle.std.specs.Option.{option_map_or}
use Rattle.std.proofs.lemmas.Bool.{eqb-true}
use Rattle.std.proofs.lemmas.List.{get_or_default, length-set}
use Rattle.std.proofs.lemmas.List.Elements.{All-append, All-cons, All-head, All-nil, All-tail}
use Rattle.std.proofs.lemmas.Option.{same_Some, get_or_from_slice_get, slice_get-map}
use Rattle.value_types.specs.Shape.{is_at, is_clock_type, is_input, is_unclocked as has_no_clocks, variable_at}
use Rattle.value_types.specs.Values.{Fits}
use Rattle.value_types.specs.declared.shape.Causality.TheVariants as V
use Rattle.value_types.specs.declared.shape.Shape.{Shape}
use Rattle.value_types.specs.declared.shape.Variable.{Variable}
use Rattle.value_types.specs.declared.values.PortType.{PortType}
use Rattle.value_types.specs.declared.values.PortType.TheVariants as T
use Rattle.fmi_calls.specs.declared.call.Call.{Call}
use Rattle.fmi_calls.specs.declared.call.Call.TheVariants as C
use Rattle.fmi_calls.specs.declared.call.Grade.TheVariants as G
use Rattle.fmi_calls.specs.declared.call.Reply.{Reply}
use Rattle.fmi_calls.specs.declared.phase.InstanceState.{InstanceState}
use Rattle.fmi_calls.specs.declared.phase.Phase.{Phase}
use Rattle.fmi_calls.specs.Next.{counted, entered}
use Rattle.fmi_calls.specs.Permission.{IsReadable, IsWritable, Permitted, can_be_read, can_be_set, is_value_type}
use Rattle.fmi_calls.specs.Worth.{grade_of}
use Rattle.fmu_peer.specs.declared.peer.Exchange.{Exchange}
use Rattle.fmu_peer.specs.CloseAll.{Instance}
use Rattle.fmu_peer.specs.Talk.{IsGood}
use Rattle.fmu_peer.specs.View.{Fixed, View}
use Rattle.system_model.specs.declared.system.Component.{Component}
use Rattle.system_model.specs.declared.system.Role.{Role}
use Rattle.system_model.specs.declared.system.Role.TheVariants.{Input, Output}
use Rattle.system_model.specs.declared.system.Port.{Port}
use Rattle.system_model.specs.declared.system.System.{System}
use Rattle.system_model.specs.Needs.{is_unclocked, is_unclocked_at}
use Rattle.system_model.specs.Ports.{is_clock_role, is_output_role, source_of}
use Rattle.system_model.specs.Sound.{IsSound}
use Rattle.system_model.proofs.CallerLemmas.{Placed, clock_type_of, is_input_of, is_output_of, kind_of_clock, place_of, source_at, within_of_clock}
use Rattle.system_model.specs.Values.{value}
use Rattle.run_model.specs.Equations.{fed}
use Rattle.run_model.specs.Initial.{is_read}
use Rattle.run_model.specs.Machines.{AreFitting}
use Rattle.run_model.proofs.CallerLemmas.{both, fed_fits, reply_fits, read_unclocked, unclocked_at-is}
use Rattle.slot_calls.specs.Log.{Sent, Talks, Told, part}
use Rattle.slot_calls.specs.Slots.{reads_or_sets}
use Rattle.slot_calls.specs.Stage.{IsGoodOf, shapes, shapes_of}
use Rattle.slot_calls.proofs.CallerLemmas.{map_at, shape_of, led}
use Rattle.event_iteration.specs.Initialization.{IsInInitialization, asks_initially, initially, is_set_from_feed, seen, takes_initially}
use Rattle.event_iteration.specs.Turns.{IsPaired, MayAsk, Walked, Begun, Went, sent_of}
use Rattle.event_iteration.proofs.Clockless.{unclocked_parts}
use Rattle.event_iteration.proofs.Walking.{by_number, next_beside, next_here}
use Rattle.event_iteration.proofs.Fmus.{part_all}

-- ---- types

-- the value of its source fits an input Clock
pub clock_fed_fits : (system : System) → IsSound system → (values : List (Option ℤ)) → AreFitting system values → (p q : ℕ) (port : Port) → slice_get system.ports p ≡ Some port → is_clock_role port.role ≡ true → source_of port.role ≡ Some q → IfSome (value values q) (Fits port.kind)
clock_fed_fits system sound values fits p q port is clock from =
    let source = source_at system sound p q port is from in
    weaken source.source.kind (within_of_clock source.by source.source port source.feed (kind_of_clock system p port (place_of system sound p port is) clock)) (value values q) (fits q source.source source.is)
  where
    weaken : (kind : PortType) → ((x : ℤ) → Fits kind x → Fits port.kind x) → (o : Option ℤ) → IfSome o (Fits kind) → IfSome o (Fits port.kind)
    weaken kind within None h = tt
    weaken kind within (Some x) h = within x h

if_fits : (b : Bool) (kind : PortType) (o : Option ℤ) → IfSome o (Fits kind) → IfSome (if b then o else None) (Fits kind)
if_fits true kind o h = h
if_fits false kind o h = tt

pub seen_fits : (port : Port) (reply : Option Reply) → IfSome (seen port reply) (Fits port.kind)
seen_fits port None = tt
seen_fits port (Some reply) = reply_fits port.kind reply

pub taken_fits : (system : System) → IsSound system → (values : List (Option ℤ)) → AreFitting system values → (p : ℕ) (port : Port) → slice_get system.ports p ≡ Some port → (role : Role) → port.role ≡ role → (reply : Option Reply) →
    IfSome (takes_initially role system.ports port values reply) (Fits port.kind)
taken_fits system sound values fits p port is (Input (Some feed)) same reply =
    if_fits (is_set_from_feed system.ports port feed) port.kind (fed port.kind feed values) (fed_fits port.kind feed values)
taken_fits system sound values fits p port is Output same reply = seen_fits port reply
taken_fits system sound values fits p port is role same reply = tt

-- ---- the calls are Gets and Sets, and good

abbrev pub IsQuiet : System → Sent → Type 0
IsQuiet system s = (reads_or_sets s.exchange.call ≡ true) × IsGoodOf (shapes_of system) s

-- after each turn of the walk
pub record Keeps (system : System) (values : List (Option ℤ)) (log : List Sent) : Type 0 where
  pub places : length values ≡ length system.ports
  pub fits : AreFitting system values
  pub quiet : All (IsQuiet system) log

option_set : (port : Port) (o : Option ℤ) (call : Call) → option_map (λ x. C.Set port.kind port.reference x) o ≡ Some call → reads_or_sets call ≡ true
option_set port None call h = absurd (cc)
option_set port (Some x) call h = ap reads_or_sets (sym (same_Some _ _ h))

if_some : {X : Type 0} (b : Bool) (o : Option X) (x : X) → (if b then o else None) ≡ Some x → (b ≡ true) × (o ≡ Some x)
if_some true o x h = (refl, h)
if_some false o x h = absurd (cc)

pub asks_quietly : (role : Role) (ports : List Port) (read : Bool) (port : Port) (values : List (Option ℤ)) (call : Call) → asks_initially role ports read port values ≡ Some call → reads_or_sets call ≡ true
asks_quietly (Input (Some feed)) ports read port values call h = option_set port (fed port.kind feed values) call (if_some (is_set_from_feed ports port feed) _ call h).1
asks_quietly Output ports read port values call h = ap reads_or_sets (sym (same_Some _ _ (if_some read (Some (C.Get port.kind port.reference)) call h).1))
asks_quietly role ports read port values call h = absurd (cc)

-- the shape at a component
pub shape_of_component : (system : System) (i : ℕ) (c : Component) → slice_get system.components i ≡ Some c → (d : Shape) → c.shape ≡ get_or (shapes_of system) i d
shape_of_component system i c of d =
    sym (get_or_from_slice_get (shapes_of system) i c.shape d (slice_get-map (λ (x : Component). x.shape) system.components i ∙ ap (option_map (λ (x : Component). x.shape)) of))

pub sent_quiet : (system : System) (i : ℕ) (c : Component) → slice_get system.components i ≡ Some c → (call : Option Call) (reply : Option Reply) → ((k : Call) → call ≡ Some k → reads_or_sets k ≡ true) → IsPaired c.shape call reply → All (IsQuiet system) (sent_of i call reply)
sent_quiet system i c of None reply quiet paired = All-nil (IsQuiet system)
sent_quiet system i c of (Some call) None quiet paired = absurd paired
sent_quiet system i c of (Some call) (Some reply) quiet paired =
    All-cons (IsQuiet system) _ [] (quiet call refl, (λ d. subst (λ (s : Shape). grade_of s call reply ≡ G.Good) (shape_of_component system i c of d) paired)) (All-nil (IsQuiet system))

-- all along the walk
pub keeps : (system : System) → IsSound system → (before : List (Option ℤ)) → length before ≡ length system.ports → AreFitting system before → (taken : List ℕ) (values : List (Option ℤ)) (log : List Sent) → Walked system (initially system) before taken values log → Keeps system values log
keeps system sound before len fits _ _ _ (Begun taken values log t v l) = record {
  places = ap length v ∙ len;
  fits = subst (AreFitting system) (sym v) fits;
  quiet = subst (All (IsQuiet system)) (sym l) (All-nil (IsQuiet system));
}
keeps system sound before len fits _ _ _ (Went taken pre p reply values next log prefix sent t l walked turn) =
    let was = keeps system sound before len fits pre values prefix walked in
    record {
      places = ap length turn.next_is ∙ length-set values p _ ∙ was.places;
      fits = λ q port is. by_number q p
          (λ same. subst (λ o. IfSome o (Fits port.kind)) (sym (ap (value next) same ∙ next_here turn was.places))
          (let here : turn.port ≡ port = same_Some _ _ (sym turn.is ∙ ap (slice_get system.ports) (sym same) ∙ is) in
          subst (λ (x : Port). IfSome ((initially system).takes p turn.port values (value values p) reply) (Fits x.kind)) here
          (taken_fits system sound values was.fits p turn.port turn.is turn.port.role refl reply)))
          (λ other. subst (λ o. IfSome o (Fits port.kind)) (sym (next_beside turn q other)) (was.fits q port is));
      quiet = subst (All (IsQuiet system)) (sym l) (All-append (IsQuiet system) prefix sent was.quiet
          (subst (All (IsQuiet system)) (sym turn.sent_is) (sent_quiet system turn.port.component.0 turn.component turn.of _ reply
          (λ call asks. asks_quietly turn.port.role system.ports (is_read system.ports p) turn.port values call asks) turn.paired)));
    }

-- ---- the FMUs stay in Initialization Mode

stays : (call : Call) → reads_or_sets call ≡ true → (shape : Shape) (phase : Phase) (reply : Reply) → (entered shape phase call reply).state ≡ phase.state
stays (C.Get kind reference) h shape phase reply = refl
stays (C.Set kind reference value) h shape phase reply = refl
stays (C.GetClock reference) h shape phase reply = refl
stays (C.SetClock reference) h shape phase reply = refl
stays (C.GetInterval reference) h shape phase reply = refl
stays (C.GetShift reference) h shape phase reply = refl
stays call h shape phase reply = absurd (cc)

abbrev pub IsQuietOf : Shape → Exchange → Type 0
IsQuietOf shape e = (reads_or_sets e.call ≡ true) × IsGood shape e

-- what no call of a kind changes of a phase, the calls of this kind that were answered well leave
pub phase_kept : {X : Type 0} (aspect : Phase → X) (Kind : Call → Type 0) (shape : Shape) → ((phase : Phase) (call : Call) → aspect (counted phase call) ≡ aspect phase) → ((call : Call) → Kind call → (phase : Phase) (reply : Reply) → aspect (entered shape phase call reply) ≡ aspect phase) →
    (v w : View) (es : List Exchange) → v.fixed.shape ≡ shape → Talks v es w → All (λ (e : Exchange). Kind e.call × IsGood shape e) es → aspect w.phase ≡ aspect v.phase
phase_kept aspect Kind shape counts enters v w [] is t all = ap (λ (x : View). aspect x.phase) t
phase_kept aspect Kind shape counts enters v w (e ∷ es) is (mid, may, asked, rest) all =
    let head = All-head (λ (e : Exchange). Kind e.call × IsGood shape e) e es all in
    let one = led v mid e (mid, may, asked, refl) (subst (λ (s : Shape). IsGood s e) (sym is) head.1) in
    let phase : mid.phase ≡ entered shape (counted v.phase e.call) e.call one.reply = one.phase ∙ ap (λ (s : Shape). entered s (counted v.phase e.call) e.call one.reply) is in
    phase_kept aspect Kind shape counts enters mid w es (ap (λ (f : Fixed). f.shape) asked.fixed ∙ is) rest (All-tail (λ (e : Exchange). Kind e.call × IsGood shape e) e es all)
    ∙ ap aspect phase ∙ enters e.call head.0 (counted v.phase e.call) one.reply ∙ counts v.phase e.call

pub quiet_part : (system : System) (i : ℕ) (d : Shape) (log : List Sent) → All (IsQuiet system) log → All (IsQuietOf (get_or (shapes_of system) i d)) (part i log)
quiet_part system i d log all = part_all (IsQuietOf (get_or (shapes_of system) i d)) i log (λ k x w here. let own = all k x w in (own.0, subst (λ n. IsGood (get_or (shapes_of system) n d) (get_or log k x).exchange) here (own.1 d)))

-- an instance after such a log
pub still : (system : System) (olds news : List Instance) (log : List Sent) → Told log olds news → shapes olds ≡ shapes_of system → All (IsQuiet system) log → All (λ (x : Instance). IsInInitialization x.view) olds → All (λ (x : Instance). IsInInitialization x.view) news
still system olds news log told same quiet initializing = λ k d within.
    let w : k < length olds = (let e = told.len in omega (arith, e, within)) in
    let x = get_or olds k d in
    let shape : x.view.fixed.shape ≡ get_or (shapes_of system) k x.view.fixed.shape =
    map_at shape_of olds k x x.view.fixed.shape w (get_or_default olds k d x w) ∙ ap (λ (ss : List Shape). get_or ss k x.view.fixed.shape) same in
    phase_kept (λ (p : Phase). p.state) (λ (c : Call). reads_or_sets c ≡ true) x.view.fixed.shape (λ p c. refl) (λ c h p y. stays c h x.view.fixed.shape p y) x.view (get_or news k d).view (part k log) refl (told.each k d w).talks
    (subst (λ (s : Shape). All (IsQuietOf s) (part k log)) (sym shape) (quiet_part system k x.view.fixed.shape log quiet))
    ∙ initializing k d w

-- ---- permission

pub value_type : (kind : PortType) → is_clock_type (Some kind) ≡ false → is_value_type kind ≡ true
value_type T.Clock h = absurd (cc)
value_type kind h = refl

no_references : {X Y : Type 0} (R : X → Y → Type 0) (xs : List X) (ys : List Y) → AllZip R xs ys → (length ys == 0) ≡ true → (length xs == 0) ≡ true
no_references R [] ys zip h = refl
no_references R (x ∷ xs) [] zip h = absurd zip
no_references R (x ∷ xs) (y ∷ ys) zip h = absurd (let e : length (y ∷ ys) ≡ 0 = eqb-true (length (y ∷ ys)) 0 h in omega (arith, e))

-- a port's variable, by the shape of its FMU
module _ (system : System) (sound : IsSound system) (p : ℕ) (port : Port) (is : slice_get system.ports p ≡ Some port) (c : Component) (of : slice_get system.components port.component.0 ≡ Some c) (shape : Shape) (same : shape ≡ c.shape) where
  abbrev pub placed : Placed system p port
  placed = place_of system sound p port is

  pub under : variable_at shape.variables port.reference ≡ Some placed.variable
  under = ap (λ (s : Shape). variable_at s.variables port.reference) (same ∙ ap (λ (x : Component). x.shape) (same_Some _ _ (sym of ∙ placed.is.of))) ∙ placed.is.there

  pub at_under : (test : Variable → Bool) → test placed.variable ≡ true → is_at test shape.variables port.reference ≡ true
  at_under test h = ap (λ o. option_map_or test o false) under ∙ h

  pub no_clocks_there : (length port.clocks == 0) ≡ true → has_no_clocks placed.variable ≡ true
  no_clocks_there none = no_references _ placed.variable.clocks port.clocks (sound.ports.clocks p port placed.component placed.variable placed.is) none

  pub without_clocks : (length port.clocks == 0) ≡ true → is_at has_no_clocks shape.variables port.reference ≡ true
  without_clocks none = at_under has_no_clocks (no_clocks_there none)

  pub input_there : is_output_role port.role ≡ false → is_at (λ (x : Variable). is_input x.causality) shape.variables port.reference ≡ true
  input_there input = at_under (λ (x : Variable). is_input x.causality) (ap is_input (is_input_of system p port placed input))

  module _ (no_clock : is_clock_role port.role ≡ false) where
    value_kind : is_value_type port.kind ≡ true
    value_kind = value_type port.kind (clock_type_of system p port placed ∙ no_clock)

    pub readable : is_output_role port.role ≡ true → IsReadable shape port.kind port.reference
    readable out = (value_kind, subst (λ (o : Option Variable). IsSomeAnd o (λ (x : Variable). (x.kind ≡ Some port.kind) × (x.causality ≡ V.Output))) (sym under) (placed.kind, is_output_of system p port placed out))

    pub writable : IsWritable shape port.kind port.reference
    writable = (value_kind, subst (λ (o : Option Variable). IsSomeAnd o (λ (y : Variable). y.kind ≡ Some port.kind)) (sym under) placed.kind)

-- in Initialization Mode
module _ (system : System) (sound : IsSound system) (p : ℕ) (port : Port) (is : slice_get system.ports p ≡ Some port) (unclocked : is_unclocked port ≡ true) (v : View) (initializing : IsInInitialization v)
    (c : Component) (of : slice_get system.components port.component.0 ≡ Some c) (shape : v.fixed.shape ≡ c.shape) where
  no_clocks : is_at has_no_clocks v.fixed.shape.variables port.reference ≡ true
  no_clocks = without_clocks system sound p port is c of v.fixed.shape shape (unclocked_parts port unclocked).1

  may_read : is_output_role port.role ≡ true → Permitted v.fixed.shape v.phase (C.Get port.kind port.reference)
  may_read out = (
    ap (λ (s : InstanceState). can_be_read s v.fixed.shape v.phase.marks v.phase.active port.reference) initializing ∙ no_clocks,
    readable system sound p port is c of v.fixed.shape shape (unclocked_parts port unclocked).0 out,
  )

  may_write : is_output_role port.role ≡ false → (x : ℤ) → Fits port.kind x → Permitted v.fixed.shape v.phase (C.Set port.kind port.reference x)
  may_write input x fits = (
    ap (λ (s : InstanceState). can_be_set s v.fixed.shape v.phase.marks v.phase.active port.reference) initializing
        ∙ ap (λ b. b && is_at has_no_clocks v.fixed.shape.variables port.reference) (input_there system sound p port is c of v.fixed.shape shape input) ∙ no_clocks,
    writable system sound p port is c of v.fixed.shape shape (unclocked_parts port unclocked).0,
    fits,
  )

-- the call of a turn
module _ (system : System) (sound : IsSound system) (values : List (Option ℤ)) (fits : AreFitting system values) (p : ℕ) (port : Port) (is : slice_get system.ports p ≡ Some port) (v : View) (initializing : IsInInitialization v)
    (c : Component) (of : slice_get system.components port.component.0 ≡ Some c) (shape : v.fixed.shape ≡ c.shape) where
  may_set : (feed : _) → port.role ≡ Input (Some feed) → (b : Bool) → is_set_from_feed system.ports port feed ≡ b → (o : Option ℤ) → fed port.kind feed values ≡ o →
      MayAsk (if b then option_map (λ x. C.Set port.kind port.reference x) o else None) v
  may_set feed same true set None from = tt
  may_set feed same true set (Some x) from = (
    may_write system sound p port is (both (is_unclocked port) (is_unclocked_at system.ports feed.from.0) set).0 v initializing c of shape (ap is_output_role same) x
        (subst (λ o. IfSome o (Fits port.kind)) from (fed_fits port.kind feed values)),
    refl,
  )
  may_set feed same false set o from = tt

  may_get : port.role ≡ Output → (b : Bool) → is_read system.ports p ≡ b → MayAsk (if b then Some (C.Get port.kind port.reference) else None) v
  may_get same true read =
      (may_read system sound p port is (sym (unclocked_at-is system.ports p port is) ∙ read_unclocked system.ports system.ports p read) v initializing c of shape (ap is_output_role same), refl)
  may_get same false read = tt

  pub may_ask : (role : Role) → port.role ≡ role → MayAsk (asks_initially role system.ports (is_read system.ports p) port values) v
  may_ask (Input (Some feed)) same = may_set feed same (is_set_from_feed system.ports port feed) refl (fed port.kind feed values) refl
  may_ask Output same = may_get same (is_read system.ports p) refl
  may_ask role same = tt
