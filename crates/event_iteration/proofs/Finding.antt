-- Over machines the walk of Initialization Mode finds the solution, and writes it.
use Rattle.std.proofs.Common.{◌≡◌, ℕ, ◌<◌, ℤ, Bool, true, false, List, [], ◌∷◌, ◌++◌, Option, Some, None, Ok, Contains, refl, sym, ap, ap₂, ◌∙◌, subst, append-nil, length, get_or}
use Rattle.std.specs.Prelude.{All, if◌then◌else◌, option_map}
use Rattle.std.specs.List.{slice_get}
use Rattle.std.proofs.lemmas.List.{ext_get_or, length-map}
use Rattle.std.proofs.lemmas.List.Elements.{All-append, All-nil, Contains-append_left, Contains-push}
use Rattle.fmi_calls.specs.declared.call.Call.{Call}
use Rattle.fmi_calls.specs.declared.call.Call.TheVariants as C
use Rattle.fmi_calls.specs.declared.call.Reply.{Reply}
use Rattle.fmu_peer.specs.declared.peer.Exchange.{Exchange}
use Rattle.fmu_peer.specs.CloseAll.{Instance}
use Rattle.fmu_peer.specs.Machine.{Machine, MachineState}
use Rattle.system_model.specs.declared.system.Component.{Component}
use Rattle.system_model.specs.declared.system.Role.{Role}
use Rattle.system_model.specs.declared.system.Role.TheVariants.{Input, Output, ClockInput, ClockOutput, TimeClock}
use Rattle.system_model.specs.declared.system.Port.{Port}
use Rattle.system_model.specs.declared.system.System.{System}
use Rattle.system_model.specs.Needs.{InitiallyByFeed, NeedsInitially, is_unclocked, is_unclocked_at}
use Rattle.system_model.specs.Ports.{is_output_role, port_numbers, source_of}
use Rattle.system_model.specs.Sound.{IsSound}
use Rattle.system_model.proofs.CallerLemmas.{true_false}
use Rattle.run_model.specs.Run.{IsFmu, Run, at_fmu}
use Rattle.system_model.specs.Values.{value}
use Rattle.run_model.specs.Inputs.{state_with, state_written, written_at_port, written_by}
use Rattle.run_model.specs.Equations.{fed, shown, value_in}
use Rattle.run_model.specs.Initial.{SolvesInitially, initial_value, initialized, initializing, is_read}
use Rattle.run_model.specs.Machines.{AreMachines}
use Rattle.run_model.specs.Walk.{only_at, write_if}
use Rattle.run_model.proofs.CallerLemmas.{both, fed_same, written_at-is, none_outside, unclocked_at-is, written_none, solvable_initially, all_at_last_initially, keeps_beside, looks_initially, nothing_at_first, writes_at_port, none_in, push_cases}
use Rattle.slot_calls.specs.Log.{Sent, Told, part}
use Rattle.slot_calls.specs.Replies.{AreReplies, RepliesBy, state_by}
use Rattle.slot_calls.specs.Stage.{shapes_of}
use Rattle.slot_calls.proofs.CallerLemmas.{replies_back}
use Rattle.event_iteration.specs.Initialization.{asks_initially, initially, is_set_from_feed, no_values, seen, takes_initially}
use Rattle.event_iteration.specs.Machines.{AreAt, SolvesForMachines}
use Rattle.event_iteration.specs.Turns.{IsPaired, Turn, Walked}
use Rattle.event_iteration.proofs.Clockless.{present_unclocked}
use Rattle.event_iteration.proofs.Fmus.{get_stays, part_more, set_writes, state_more, after_if, are_replies, at_fmu-is, each_same, exchanges_of, got, none_reply}
use Rattle.event_iteration.proofs.Permits.{IsQuiet, asks_quietly, quiet_part, sent_quiet}
use Rattle.event_iteration.proofs.Stages.{fmu_of, initializing_all, replies_first, told_on}
use Rattle.event_iteration.proofs.Walking.{Here, along, next_beside, next_here, none_at, AreAbout}

-- ---- turns are about what a port needs

if_same : {X : Type 0} (b : Bool) (x y : Option X) → (b ≡ true → x ≡ y) → (if b then x else None) ≡ (if b then y else None)
if_same true x y h = h refl
if_same false x y h = refl

module _ (system : System) (p : ℕ) (port : Port) (V W : List (Option ℤ)) (is : slice_get system.ports p ≡ Some port) (alike : (q : ℕ) → NeedsInitially system p q → value V q ≡ value W q) where
  fed_alike : (feed : _) → port.role ≡ Input (Some feed) → is_set_from_feed system.ports port feed ≡ true → fed port.kind feed V ≡ fed port.kind feed W
  fed_alike feed same set =
      let parts = both (is_unclocked port) (is_unclocked_at system.ports feed.from.0) set in
      fed_same port.kind feed V W (alike feed.from.0 (InitiallyByFeed (unclocked_at-is system.ports p port is ∙ parts.0) parts.1 port is (ap source_of same)))

  asks_alike : (role : Role) → port.role ≡ role → (read : Bool) → asks_initially role system.ports read port V ≡ asks_initially role system.ports read port W
  asks_alike (Input (Some feed)) same read =
      if_same (is_set_from_feed system.ports port feed) _ _ (λ set. ap (λ o. option_map (λ x. C.Set port.kind port.reference x) o) (fed_alike feed same set))
  asks_alike role same read = refl

  takes_alike : (role : Role) → port.role ≡ role → (reply : Option Reply) → takes_initially role system.ports port V reply ≡ takes_initially role system.ports port W reply
  takes_alike (Input (Some feed)) same reply = if_same (is_set_from_feed system.ports port feed) _ _ (fed_alike feed same)
  takes_alike role same reply = refl

pub about_initially : (system : System) → AreAbout (NeedsInitially system) system (initially system)
about_initially system = record {
  asks_same = λ p port c V W is h. asks_alike system p port V W is h port.role refl _;
  takes_same = λ p port V W last reply is h. takes_alike system p port V W is h port.role refl reply;
}

-- ---- the midst of Initialization Mode

module _ (r : Run) (sound : IsSound r.system) (machines : AreMachines r) (W : List (Option ℤ)) (solves : SolvesInitially r W) where
  abbrev pub at_port : ℕ → Option ℤ
  at_port = written_at_port r.system.ports W

  -- the state once these ports were taken
  abbrev pub midst : List ℕ → ℕ → Machine → MachineState → MachineState
  midst taken i m s = state_written r.system.ports (only_at taken at_port) i m s

  -- values and states are the solution's as far as the walk has come
  pub record Midst (taken : List ℕ) (values : List (Option ℤ)) (log : List Sent) : Type 0 where
    pub quiet : All (IsQuiet r.system) log
    pub taken_values : (q : ℕ) → Contains taken q → value values q ≡ value W q
    pub left : (q : ℕ) → (Contains taken q → ⊥) → value values q ≡ None
    pub states : (i : ℕ) (c : Component) (m : Machine) (s : MachineState) → IsFmu r (initializing r) i c m s → state_by m s (part i log) ≡ midst taken i m s

  module _ (pre : List ℕ) (p : ℕ) (reply : Option Reply) (values next : List (Option ℤ)) (prefix sent : List Sent) (here : Here (NeedsInitially r.system) pre p) (len : length values ≡ length r.system.ports)
      (was : Midst pre values prefix) (turn : Turn r.system (initially r.system) p reply values next sent) (replies : AreReplies r (initializing r) (prefix ++ sent)) where
    abbrev port : Port
    port = turn.port

    abbrev call : Option Call
    call = (initially r.system).asks p port turn.component values

    -- the source of an input that is set has its value
    fed_here : (feed : _) → port.role ≡ Input (Some feed) → is_set_from_feed r.system.ports port feed ≡ true → fed port.kind feed values ≡ fed port.kind feed W
    fed_here feed same set = fed_alike r.system p port values W turn.is (λ q n. was.taken_values q (here.needed q n)) feed same set

    equation : (role : Role) → port.role ≡ role → value W p ≡ initial_value role r W p port
    equation role same = solves.equations p port turn.is ∙ ap (λ x. initial_value x r W p port) same

    -- an output that was read showed what it shows with all values written
    module _ (same : port.role ≡ Output) (read : is_read r.system.ports p ≡ true) where
      abbrev get : Call
      get = C.Get port.kind port.reference

      mine : (m : Machine) × (s : MachineState) × IsFmu r (initializing r) port.component.0 turn.component m s
      mine = fmu_of r (initializing r) (initializing_all r machines) port.component.0 turn.component turn.of

      call_is : call ≡ Some get
      call_is = ap (λ x. asks_initially x r.system.ports (is_read r.system.ports p) port values) same ∙ ap (λ b. if b then Some get else None) read

      shown_reply : (o : Option Reply) → reply ≡ o → IsPaired turn.component.shape (Some get) o → seen port o ≡ shown mine.0 (state_with r.system.ports W port.component.0 mine.0 mine.1) port
      shown_reply None is paired = absurd paired
      shown_reply (Some x) is paired =
          let own : RepliesBy mine.0 mine.1 (part port.component.0 prefix ++ exchanges_of call reply) = subst (RepliesBy mine.0 mine.1) (part_more turn prefix) (replies port.component.0 turn.component mine.0 mine.1 mine.2) in
          let after = replies_back mine.0 (get_or (shapes_of r.system) port.component.0 turn.component.shape) mine.1 (part port.component.0 prefix) (exchanges_of call reply)
          (λ k d w. (quiet_part r.system port.component.0 turn.component.shape prefix was.quiet k d w).1) own in
          let state : state_by mine.0 mine.1 (part port.component.0 prefix) ≡ midst pre port.component.0 mine.0 mine.1 = was.states port.component.0 turn.component mine.0 mine.1 mine.2 in
          let one : RepliesBy mine.0 (midst pre port.component.0 mine.0 mine.1) (record { call = get; result = Ok x } ∷ []) =
          subst (λ z. RepliesBy mine.0 z (record { call = get; result = Ok x } ∷ [])) state
          (subst (λ (es : List Exchange). RepliesBy mine.0 (state_by mine.0 mine.1 (part port.component.0 prefix)) es) (ap₂ exchanges_of call_is is) after) in
          ap (value_in port.kind) (one.0 ∙ looks_initially r sound machines p port turn.is (ap is_output_role same) read W solves pre here.needed turn.component mine.0 mine.1 mine.2 get refl)

    -- the value that the port takes is the solution's
    value_here : (role : Role) → port.role ≡ role → takes_initially role r.system.ports port values reply ≡ initial_value role r W p port
    value_here (Input (Some feed)) same = if_same (is_set_from_feed r.system.ports port feed) _ _ (fed_here feed same)
    value_here Output same = by (is_read r.system.ports p) refl
      where
        by : (b : Bool) → is_read r.system.ports p ≡ b →
            seen port reply ≡ (if b then at_fmu r (initializing r) port.component.0 (λ c m s. shown m (state_with r.system.ports W port.component.0 m s) port) else None)
        by true read =
            shown_reply same read reply refl (subst (λ o. IsPaired turn.component.shape o reply) (call_is same read) turn.paired)
            ∙ sym (at_fmu-is r (initializing r) port.component.0 turn.component (mine same read).0 (mine same read).1 (λ c m s. shown m (state_with r.system.ports W port.component.0 m s) port) (mine same read).2)
        by false read =
            let none : call ≡ None = ap (λ x. asks_initially x r.system.ports (is_read r.system.ports p) port values) same ∙ ap (λ b. if b then Some (C.Get port.kind port.reference) else None) read in
            ap (seen port) (none_reply turn.component.shape reply (subst (λ o. IsPaired turn.component.shape o reply) none turn.paired))
    value_here role same = refl

    next_is_W : value next p ≡ value W p
    next_is_W = next_here turn len ∙ value_here port.role refl ∙ sym (equation port.role refl)

    -- and its call writes what is written at it
    sets_here : (feed : _) → port.role ≡ Input (Some feed) → (b : Bool) → is_set_from_feed r.system.ports port feed ≡ b → (m : Machine) (x : MachineState) →
        after_if m x (if b then option_map (λ v. C.Set port.kind port.reference v) (fed port.kind feed values) else None) ≡ write_if m port.reference x (written_by (Input (Some feed)) port W (value W p))
    sets_here feed same true set m x =
        let present = present_unclocked port W (both (is_unclocked port) (is_unclocked_at r.system.ports feed.from.0) set).0 in
        let value_is : value W p ≡ fed port.kind feed W = equation (Input (Some feed)) same ∙ ap (λ b. if b then fed port.kind feed W else None) set in
        ap (λ o. after_if m x (option_map (λ v. C.Set port.kind port.reference v) o)) (fed_here feed same set ∙ sym value_is)
        ∙ set_writes m x port (value W p) ∙ sym (ap (λ b. write_if m port.reference x (if b then value W p else None)) present)
    sets_here feed same false set m x =
        let none : value W p ≡ None = equation (Input (Some feed)) same ∙ ap (λ b. if b then fed port.kind feed W else None) set in
        sym (ap (write_if m port.reference x) (ap (written_by (Input (Some feed)) port W) none ∙ written_none (Input (Some feed)) port W))

    nothing_writes : (role : Role) → port.role ≡ role → initial_value role r W p port ≡ None → (m : Machine) (x : MachineState) → x ≡ write_if m port.reference x (written_by role port W (value W p))
    nothing_writes role same none m x = sym (ap (write_if m port.reference x) (ap (written_by role port W) (equation role same ∙ none) ∙ written_none role port W))

    call_writes : (role : Role) → port.role ≡ role → (m : Machine) (x : MachineState) → after_if m x (asks_initially role r.system.ports (is_read r.system.ports p) port values) ≡ write_if m port.reference x (written_by role port W (value W p))
    call_writes (Input None) same m x = refl
    call_writes (Input (Some feed)) same m x = sets_here feed same (is_set_from_feed r.system.ports port feed) refl m x
    call_writes Output same m x = get_stays m x port (is_read r.system.ports p)
    call_writes (ClockInput feed) same m x = nothing_writes (ClockInput feed) same refl m x
    call_writes ClockOutput same m x = nothing_writes ClockOutput same refl m x
    call_writes (TimeClock timing) same m x = nothing_writes (TimeClock timing) same refl m x

    written_on : (m : Machine) (s : MachineState) → after_if m (midst pre port.component.0 m s) call ≡ midst (pre ++ p ∷ []) port.component.0 m s
    written_on m s =
        call_writes port.role refl m (midst pre port.component.0 m s)
        ∙ ap (write_if m port.reference (midst pre port.component.0 m s)) (sym (written_at-is r.system.ports W p port turn.is))
        ∙ writes_at_port r.system sound p port turn.is pre here.fresh at_port m s

    midst_more : Midst (pre ++ p ∷ []) next (prefix ++ sent)
    midst_more = record {
      quiet = All-append (IsQuiet r.system) prefix sent was.quiet
          (subst (All (IsQuiet r.system)) (sym turn.sent_is) (sent_quiet r.system port.component.0 turn.component turn.of call reply (λ k asks. asks_quietly port.role r.system.ports (is_read r.system.ports p) port values k asks) turn.paired));
      taken_values = λ q m. push_cases pre p q m
          (λ old. next_beside turn q (λ same. here.fresh (subst (Contains pre) same old)) ∙ was.taken_values q old)
          (λ same. subst (λ x. value next x ≡ value W x) same next_is_W);
      left = λ q m. next_beside turn q (λ same. m (subst (Contains (pre ++ p ∷ [])) (sym same) (Contains-push pre p))) ∙ was.left q (λ old. m (Contains-append_left pre (p ∷ []) q old));
      states = λ i c m s fmu. state_more turn prefix m s (λ k d. midst pre k m s) (λ k d. midst (pre ++ p ∷ []) k m s) (written_on m s) (λ k d other. keeps_beside r.system p port turn.is pre at_port k other m s) i c fmu.component
          (was.states i c m s fmu);
    }

  -- all along the walk
  pub midst_along : (taken rest : List ℕ) (values : List (Option ℤ)) (log : List Sent) → port_numbers r.system.initial_order ≡ taken ++ rest → Walked r.system (initially r.system) (no_values r.system) taken values log → AreReplies r (initializing r) log →
      (length values ≡ length r.system.ports) × Midst taken values log
  midst_along taken rest values log is walked replies =
      let all = along (λ q. is_unclocked_at r.system.ports q ≡ true) (NeedsInitially r.system) r.system (initially r.system) (no_values r.system) (port_numbers r.system.initial_order) sound.initial_order (length-map r.system.ports (λ (x : Port). None))
      (λ t v l. AreReplies r (initializing r) l → Midst t v l)
      (λ none. record {
        quiet = All-nil (IsQuiet r.system);
        taken_values = λ q m. absurd (none_in q m);
        left = λ q m. none_at r.system.ports q;
        states = λ i c m s fmu. sym (nothing_at_first r.system at_port i m s);
      })
      (λ pre p reply v next prefix sent here len was turn h. midst_more pre p reply v next prefix sent here len (was (replies_first r (initializing r) prefix sent h)) turn h)
      taken rest values log is walked in
      (all.0, all.1 replies)

  -- at the end
  module _ (values : List (Option ℤ)) (log : List Sent) (walked : Walked r.system (initially r.system) (no_values r.system) (port_numbers r.system.initial_order) values log) (replies : AreReplies r (initializing r) log) where
    end : (length values ≡ length r.system.ports) × Midst (port_numbers r.system.initial_order) values log
    end = midst_along (port_numbers r.system.initial_order) [] values log (sym (append-nil (port_numbers r.system.initial_order))) walked replies

    pub values_are : values ≡ W
    values_are = ext_get_or None values W (end.0 ∙ sym solves.places) (λ p lt. by p lt (is_unclocked_at r.system.ports p) refl)
      where
        by : (p : ℕ) → p < length values → (b : Bool) → is_unclocked_at r.system.ports p ≡ b → value values p ≡ value W p
        by p lt true u = end.1.taken_values p (sound.initial_order.each p u)
        by p lt false u =
            let x = got r.system.ports p (subst (λ n. p < n) end.0 lt) in
            end.1.left p (λ m. true_false (sym (sound.initial_order.only p m) ∙ u)) ∙ sym (none_outside r W solves p x.0 x.1 (sym (unclocked_at-is r.system.ports p x.0 x.1) ∙ u))

    pub state_is : (i : ℕ) (c : Component) (m : Machine) (s : MachineState) → IsFmu r (initializing r) i c m s → state_by m s (part i log) ≡ state_with r.system.ports W i m s
    state_is i c m s fmu = end.1.states i c m s fmu ∙ all_at_last_initially r sound W solves i m s

    pub quiet_is : All (IsQuiet r.system) log
    quiet_is = end.1.quiet

-- the walk over a system finds the solution
pub solves_for_machines : (system : System) → IsSound system → (olds news : List Instance) (values : List (Option ℤ)) (log : List Sent) → Told log olds news →
    Walked system (initially system) (no_values system) (port_numbers system.initial_order) values log → SolvesForMachines system values olds news
solves_for_machines system sound olds news values log told walked r same machines at =
    let sound_own = subst IsSound (sym same) sound in
    let own = subst (λ (x : System). Walked x (initially x) (no_values x) (port_numbers x.initial_order) values log) (sym same) walked in
    let here : List MachineState = initializing r in
    let W = solvable_initially r sound_own machines in
    let replies = are_replies r here olds news at log told in
    let is = values_are r sound_own machines W.0 W.1 values log own replies in
    let states = each_same r here (λ i c m s. state_by m s (part i log)) (λ i c m s. state_with r.system.ports W.0 i m s) (state_is r sound_own machines W.0 W.1 values log own replies) in (
      subst (SolvesInitially r) (sym is) W.1,
      subst (λ (ss : List MachineState). AreAt r ss news) (states ∙ ap (initialized r) (sym is)) (told_on r here olds news at log told (λ k d w. (quiet_is r sound_own machines W.0 W.1 values log own replies k d w).1)),
    )
