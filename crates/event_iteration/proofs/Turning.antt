-- What a walk leaves behind: a log of calls of the ports that were taken, values of their ports' types, and instances in the same mode.
use Rattle.std.proofs.Common.{◌≡◌, ◌⊎◌, inl, inr, ℕ, ◌<◌, ℤ, true, List, [], ◌∷◌, ◌++◌, Option, Some, None, Contains, refl, sym, ap, ◌∙◌, subst, arith, length, get_or}
use Rattle.std.specs.Prelude.{All, IfSome, slice_get}
use Rattle.std.proofs.lemmas.List.{get_or_default, length-set}
use Rattle.std.proofs.lemmas.List.Elements.{All-append, All-cons, All-nil, Contains-append_left, Contains-push}
use Rattle.std.proofs.lemmas.Option.{get_or_from_slice_get, same_Some, slice_get_within}
use Rattle.value_types.specs.declared.shape.Shape.{Shape}
use Rattle.value_types.specs.Values.{Fits}
use Rattle.fmi_calls.specs.declared.call.Call.{Call}
use Rattle.fmi_calls.specs.declared.call.Call.TheVariants as C
use Rattle.fmi_calls.specs.declared.call.Reply.{Reply}
use Rattle.fmi_calls.specs.Permission.{is_marked}
use Rattle.fmu_peer.specs.declared.peer.Exchange.{Exchange}
use Rattle.fmu_peer.specs.CloseAll.{Instance}
use Rattle.fmu_peer.specs.Talk as T
use Rattle.system_model.specs.declared.system.Component.{Component}
use Rattle.system_model.specs.declared.system.Port.{Port}
use Rattle.system_model.specs.declared.system.System.{System}
use Rattle.system_model.specs.Sound.{IsSound}
use Rattle.system_model.proofs.CallerLemmas.{own}
use Rattle.system_model.specs.Values.{value}
use Rattle.run_model.specs.Machines.{AreFitting}
use Rattle.slot_calls.specs.Log.{Sent, Talks, Told, part}
use Rattle.slot_calls.specs.Slots.{reads_or_sets}
use Rattle.slot_calls.specs.Stage.{IsGoodOf, shapes, shapes_of}
use Rattle.slot_calls.proofs.CallerLemmas.{map_at, shape_of, shapes_same}
use Rattle.event_iteration.specs.Turns.{Begun, IsPaired, Rules, Turn, Walked, Went, sent_of}
use Rattle.event_iteration.proofs.Marks.{ByClock, ByGet, BySet, IsClockCall, IsGet, Passes, gets_leave, passes_beside}
use Rattle.event_iteration.proofs.Permits.{IsQuietOf, shape_of_component}
use Rattle.event_iteration.proofs.Walking.{by_number, next_beside, next_here}
use Rattle.event_iteration.proofs.Fmus.{part_all}

-- ---- the calls of a walk

-- the call reads the port, or sets it
abbrev pub Gets : Port → Call → Type 0
Gets port call = call ≡ C.Get port.kind port.reference

abbrev pub Sets : Port → Call → Type 0
Sets port call = (x : ℤ) × (call ≡ C.Set port.kind port.reference x)

-- the call asks or sets the port, which is a Clock
abbrev pub Ticks : Port → Call → Type 0
Ticks port call = IsClockCall port.reference call

-- the call is of one of these sorts
abbrev pub Touches : Port → Call → Type 0
Touches port call = Gets port call ⊎ (Sets port call ⊎ Ticks port call)

-- each call by the rules is of this sort, by its port and its component
abbrev pub AsksBy : (Component → Port → Call → Type 0) → System → Rules → Type 0
AsksBy Sort system rules =
    (p : ℕ) (port : Port) (c : Component) (values : List (Option ℤ)) (call : Call) → slice_get system.ports p ≡ Some port → slice_get system.components port.component.0 ≡ Some c → rules.asks p port c values ≡ Some call → Sort c port call

-- a call of this sort to a port that was taken, which was answered well
pub record IsCallOf (Sort : Component → Port → Call → Type 0) (system : System) (taken : List ℕ) (s : Sent) : Type 0 where
  pub number : ℕ
  pub port : Port
  pub component : Component
  pub among : Contains taken number
  pub is : slice_get system.ports number ≡ Some port
  pub of : slice_get system.components port.component.0 ≡ Some component
  pub sent_to : s.component ≡ port.component.0
  pub sort : Sort component port s.exchange.call
  pub good : T.IsGood component.shape s.exchange

module _ (Sort : Component → Port → Call → Type 0) (system : System) where
  sent_call : (taken : List ℕ) (p : ℕ) (port : Port) (c : Component) → Contains taken p → slice_get system.ports p ≡ Some port → slice_get system.components port.component.0 ≡ Some c →
      (call : Option Call) (reply : Option Reply) → ((k : Call) → call ≡ Some k → Sort c port k) → IsPaired c.shape call reply → All (IsCallOf Sort system taken) (sent_of port.component.0 call reply)
  sent_call taken p port c among is of None reply sort paired = All-nil (IsCallOf Sort system taken)
  sent_call taken p port c among is of (Some call) None sort paired = absurd paired
  sent_call taken p port c among is of (Some call) (Some reply) sort paired =
      All-cons (IsCallOf Sort system taken) _ [] (record { number = p; port = port; component = c; among = among; is = is; of = of; sent_to = refl; sort = sort call refl; good = paired }) (All-nil (IsCallOf Sort system taken))

  still_calls : (pre : List ℕ) (p : ℕ) (log : List Sent) → All (IsCallOf Sort system pre) log → All (IsCallOf Sort system (pre ++ p ∷ [])) log
  still_calls pre p log all = λ k d w.
      let s = all k d w in
      record { number = s.number; port = s.port; component = s.component; among = Contains-append_left pre (p ∷ []) s.number s.among; is = s.is; of = s.of; sent_to = s.sent_to; sort = s.sort; good = s.good }

  module _ (rules : Rules) (by : AsksBy Sort system rules) where
    pub calls_more : (pre : List ℕ) (p : ℕ) (reply : Option Reply) (values next : List (Option ℤ)) (prefix sent : List Sent) → All (IsCallOf Sort system pre) prefix → Turn system rules p reply values next sent → All (IsCallOf Sort system (pre ++ p ∷ [])) (prefix ++ sent)
    calls_more pre p reply values next prefix sent all turn =
        All-append (IsCallOf Sort system (pre ++ p ∷ [])) prefix sent (still_calls pre p prefix all)
        (subst (All (IsCallOf Sort system (pre ++ p ∷ []))) (sym turn.sent_is)
        (sent_call (pre ++ p ∷ []) p turn.port turn.component (Contains-push pre p) turn.is turn.of _ reply (λ call asks. by p turn.port turn.component values call turn.is turn.of asks) turn.paired))

    -- all along a walk
    pub calls_of : (before : List (Option ℤ)) (taken : List ℕ) (values : List (Option ℤ)) (log : List Sent) → Walked system rules before taken values log → All (IsCallOf Sort system taken) log
    calls_of before _ _ _ (Begun taken values log t v l) = subst (All (IsCallOf Sort system taken)) (sym l) (All-nil (IsCallOf Sort system taken))
    calls_of before _ _ _ (Went taken pre p reply values next log prefix sent t l walked turn) =
        subst (λ ts. All (IsCallOf Sort system ts) log) (sym t) (subst (All (IsCallOf Sort system (pre ++ p ∷ []))) (sym l)
        (calls_more pre p reply values next prefix sent (calls_of before pre values prefix walked) turn))

  -- they were answered well
  pub good_of : (taken : List ℕ) (s : Sent) → IsCallOf Sort system taken s → (i : ℕ) (d : Shape) → s.component ≡ i → T.IsGood (get_or (shapes_of system) i d) s.exchange
  good_of taken s call i d here =
      subst (λ (x : Shape). T.IsGood x s.exchange) (shape_of_component system call.port.component.0 call.component call.of d ∙ ap (λ n. get_or (shapes_of system) n d) (sym call.sent_to ∙ here)) call.good

  pub all_good : (taken : List ℕ) (log : List Sent) → All (IsCallOf Sort system taken) log → All (IsGoodOf (shapes_of system)) log
  all_good taken log all = λ k d w. λ x. good_of taken _ (all k d w) _ x refl

pub touches_quietly : (port : Port) (call : Call) → Touches port call → reads_or_sets call ≡ true
touches_quietly port call (inl get) = ap reads_or_sets get
touches_quietly port call (inr (inl (x, set))) = ap reads_or_sets set
touches_quietly port call (inr (inr (inl clock))) = ap reads_or_sets clock
touches_quietly port call (inr (inr (inr clock))) = ap reads_or_sets clock

-- ---- values

-- the value that a port takes fits it, by values that fit
abbrev pub TakesFitting : System → Rules → Type 0
TakesFitting system rules = (p : ℕ) (port : Port) (values : List (Option ℤ)) (last : Option ℤ) (reply : Option Reply) → slice_get system.ports p ≡ Some port → AreFitting system values → IfSome last (Fits port.kind) →
    IfSome (rules.takes p port values last reply) (Fits port.kind)

pub fits_along : (system : System) (rules : Rules) → TakesFitting system rules → (before : List (Option ℤ)) → length before ≡ length system.ports → AreFitting system before →
    (taken : List ℕ) (values : List (Option ℤ)) (log : List Sent) → Walked system rules before taken values log → (length values ≡ length system.ports) × AreFitting system values
fits_along system rules fitting before len fits _ _ _ (Begun taken values log t v l) = (ap length v ∙ len, subst (AreFitting system) (sym v) fits)
fits_along system rules fitting before len fits _ _ _ (Went taken pre p reply values next log prefix sent t l walked turn) =
    let was = fits_along system rules fitting before len fits pre values prefix walked in (
      ap length turn.next_is ∙ length-set values p _ ∙ was.0,
      λ q port is. by_number q p
          (λ same. subst (λ o. IfSome o (Fits port.kind)) (sym (ap (value next) same ∙ next_here turn was.0))
          (let here : turn.port ≡ port = same_Some _ _ (sym turn.is ∙ ap (slice_get system.ports) (sym same) ∙ is) in
          subst (λ (x : Port). IfSome (rules.takes p turn.port values (value values p) reply) (Fits x.kind)) here
          (fitting p turn.port values (value values p) reply turn.is was.1 (was.1 p turn.port turn.is))))
          (λ other. subst (λ o. IfSome o (Fits port.kind)) (sym (next_beside turn q other)) (was.1 q port is)),
    )

-- ---- instances

-- an instance after a log, and what it was before
module _ (system : System) (olds mids : List Instance) (log : List Sent) (told : Told log olds mids) (same : shapes olds ≡ shapes_of system) (i : ℕ) (c : Component) (of : slice_get system.components i ≡ Some c) (x : Instance)
    (there : slice_get mids i ≡ Some x) where
  in_mids : i < length mids
  in_mids = slice_get_within mids i x there

  in_olds : i < length olds
  in_olds = let e = told.len in let w = in_mids in omega (arith, e, w)

  abbrev pub was : Instance
  was = get_or olds i x

  there_is : x ≡ get_or mids i x
  there_is = sym (get_or_from_slice_get mids i x x there)

  pub shape_here : x.view.fixed.shape ≡ c.shape
  shape_here =
      map_at shape_of mids i x c.shape in_mids there_is ∙ ap (λ (ss : List Shape). get_or ss i c.shape) (shapes_same log olds mids told ∙ same)
      ∙ sym (shape_of_component system i c of c.shape)

  pub shape_was : (get_or olds i x).view.fixed.shape ≡ c.shape
  shape_was =
      map_at shape_of olds i (get_or olds i x) c.shape in_olds (get_or_default olds i x (get_or olds i x) in_olds) ∙ ap (λ (ss : List Shape). get_or ss i c.shape) same
      ∙ sym (shape_of_component system i c of c.shape)

  pub talks_here : Talks (get_or olds i x).view (part i log) x.view
  talks_here = subst (λ (y : Instance). Talks (get_or olds i x).view (part i log) y.view) (sym there_is) (told.each i x in_olds).talks

  pub all_was : (P : Instance → Type 0) → All P olds → P (get_or olds i x)
  all_was P all = all i x in_olds

-- the calls of ports that were taken
module _ (Sort : Component → Port → Call → Type 0) (system : System) (sound : IsSound system) (taken : List ℕ) (log : List Sent) (calls : All (IsCallOf Sort system taken) log) (olds mids : List Instance) (told : Told log olds mids)
    (same : shapes olds ≡ shapes_of system) (i : ℕ) (c : Component) (of : slice_get system.components i ≡ Some c) (x : Instance) (there : slice_get mids i ≡ Some x) where
  good_for : (s : Sent) → IsCallOf Sort system taken s → s.component ≡ i → T.IsGood c.shape s.exchange
  good_for s call here = subst (λ (y : Shape). T.IsGood y s.exchange) (sym (shape_of_component system i c of c.shape)) (good_of Sort system taken s call i c.shape here)

  -- pass by a port that wasn't
  pub after : ((d : Component) (port : Port) (call : Call) → Sort d port call → Touches port call) → (p : ℕ) (port : Port) → slice_get system.ports p ≡ Some port → port.component.0 ≡ i → (Contains taken p → ⊥) →
      (x.view.phase.state ≡ (get_or olds i x).view.phase.state) × (is_marked c.shape x.view.phase.marks port.reference ≡ is_marked c.shape (get_or olds i x).view.phase.marks port.reference)
  after sort p port is at fresh =
      passes_beside c.shape port.reference (get_or olds i x).view x.view (part i log) (shape_was system olds mids log told same i c of x there) (talks_here system olds mids log told same i c of x there)
      (part_all (λ (e : Exchange). Passes port.reference e.call × T.IsGood c.shape e) i log
      (λ k y w here. let call = calls k y w in (passes (get_or log k y) call here (sort call.component call.port _ call.sort), good_for _ call here)))
    where
      other_than : (s : Sent) (call : IsCallOf Sort system taken s) → s.component ≡ i → port.reference ≡ call.port.reference → ⊥
      other_than s call here e = fresh (subst (Contains taken) (own system sound call.number p call.port port call.is is (sym call.sent_to ∙ here ∙ sym at) (sym e)) call.among)

      passes : (s : Sent) (call : IsCallOf Sort system taken s) → s.component ≡ i → Touches call.port s.exchange.call → Passes port.reference s.exchange.call
      passes s call here (inl get) = ByGet (call.port.kind, call.port.reference, get)
      passes s call here (inr (inl (v, set))) = BySet call.port.kind call.port.reference v set (other_than s call here)
      passes s call here (inr (inr clock)) = ByClock call.port.reference clock (other_than s call here)

  -- they read or set, and were answered well
  pub quiet_after : ((d : Component) (port : Port) (call : Call) → Sort d port call → Touches port call) → All (IsQuietOf c.shape) (part i log)
  quiet_after sort =
      part_all (IsQuietOf c.shape) i log (λ k y w here. let call = calls k y w in (touches_quietly call.port _ (sort call.component call.port _ call.sort), good_for _ call here))

  -- where it was read alone, its marks stay
  pub read_alone : ((d : Component) (port : Port) (call : Call) → Sort d port call → d.shape ≡ c.shape → Gets port call) → x.view.phase.marks ≡ (get_or olds i x).view.phase.marks
  read_alone sort =
      gets_leave c.shape (get_or olds i x).view x.view (part i log) (shape_was system olds mids log told same i c of x there) (talks_here system olds mids log told same i c of x there)
      (part_all (λ (e : Exchange). IsGet e.call × T.IsGood c.shape e) i log
      (λ k y w here.
      let call = calls k y w in
      let its : call.component ≡ c = same_Some _ _ (sym call.of ∙ ap (slice_get system.components) (sym call.sent_to ∙ here) ∙ of) in
      ((call.port.kind, call.port.reference, sort call.component call.port _ call.sort (ap (λ (d : Component). d.shape) its)), good_for _ call here)))
