-- The logs of told machines: parts one after the other, calls that change no machine, and one call to each or to some.
use Rattle.std.proofs.Common.{◌≡◌, ℕ, suc, ◌+◌, ◌<◌, ◌==◌, ℤ, Bool, true, false, List, [], ◌∷◌, ◌++◌, Option, Some, None, Result, Ok, refl, sym, ap, ap₂, ◌∙◌, subst, arith, length, get_or, map}
use Rattle.std.specs.Prelude.{All, MatchResult, ◌&&◌, ◌||◌, if◌then◌else◌}
use Rattle.std.specs.List.{list_any, slice_get}
use Rattle.std.proofs.lemmas.Bool.{eqb-true}
use Rattle.std.proofs.lemmas.List.{length-map}
use Rattle.std.proofs.lemmas.List.Elements.{All-cons, All-head, All-nil, All-tail}
use Rattle.std.proofs.lemmas.Option.{slice_get_within}
use Rattle.value_types.specs.declared.shape.Shape.{Shape}
use Rattle.fmi_calls.specs.declared.call.Call.{Call}
use Rattle.fmi_calls.specs.declared.call.Call.TheVariants as C
use Rattle.fmi_calls.specs.declared.call.Reply.{Reply}
use Rattle.fmi_calls.specs.declared.call.Grade.TheVariants as G
use Rattle.fmi_calls.specs.Worth.{grade_of}
use Rattle.fmu_peer.specs.declared.peer.Exchange.{Exchange}
use Rattle.fmu_peer.specs.declared.peer.PeerFault.{PeerFault}
use Rattle.fmu_peer.specs.CloseAll.{Instance}
use Rattle.fmu_peer.specs.Machine.{Machine, MachineState, after}
use Rattle.fmu_peer.specs.Mode.{instantiate_of}
use Rattle.fmu_peer.specs.Talk as T
use Rattle.system_model.specs.declared.system.Component.{Component}
use Rattle.run_model.specs.AfterInstant.{event_after, updated, written}
use Rattle.run_model.specs.Behaved.{IsAnsweredWell}
use Rattle.run_model.specs.Initial as I
use Rattle.run_model.specs.Inputs.{state_with}
use Rattle.run_model.specs.Machines.{AreMachines, IsSituation}
use Rattle.run_model.specs.Run.{IsFmu, Run, Situation, each, each_from}
use Rattle.run_model.proofs.CallerLemmas.{fmu_before}
use Rattle.slot_calls.specs.Log.{ComponentCall, Sent, Told, component_call, component_calls, part}
use Rattle.slot_calls.specs.Replies.{AreReplies, RepliesBy, state_by, states_by}
use Rattle.slot_calls.specs.Stage.{IsAnswered, IsGoodOf, has_events, shapes_of, to_those, to_those_from}
use Rattle.slot_calls.proofs.CallerLemmas.{part_append, PartIs, first_same, none_before, part_asked, part_unasked, rest_same, same, skips, takes, replied_good, replies_back, replies_prefix, state_by_append}
use Rattle.event_iteration.specs.Machines.{AreAt}
use Rattle.event_iteration.specs.Updates.{event_by, events_told, first_event, other_answers}
use Rattle.event_iteration.proofs.Fmus.{each_many, each_same, got, told_at, good_in_part, part_all}
use Rattle.event_iteration.proofs.Permits.{shape_of_component}

-- what is given for what was given
pub each_each : {X : Type 0} (f : ℕ → Component → Machine → MachineState → MachineState) (g : ℕ → Component → Machine → MachineState → X) (k : ℕ) (cs : List Component) (ms : List Machine) (ss : List MachineState) →
    each_from g k cs ms (each_from f k cs ms ss) ≡ each_from (λ i c m s. g i c m (f i c m s)) k cs ms ss
each_each f g k (c ∷ cs) (m ∷ ms) (s ∷ ss) = ap (λ xs. g k c m (f k c m s) ∷ xs) (each_each f g (suc k) cs ms ss)
each_each f g k cs ms ss = refl

each_own : (k : ℕ) (cs : List Component) (ms : List Machine) (ss : List MachineState) → length ms ≡ length cs → length ss ≡ length cs → each_from (λ i c m z. z) k cs ms ss ≡ ss
each_own k [] ms [] a b = refl
each_own k [] ms (s ∷ ss) a b = absurd (omega (arith, b))
each_own k (c ∷ cs) [] ss a b = absurd (omega (arith, a))
each_own k (c ∷ cs) (m ∷ ms) [] a b = absurd (omega (arith, b))
each_own k (c ∷ cs) (m ∷ ms) (s ∷ ss) a b = ap (λ xs. s ∷ xs) (each_own (suc k) cs ms ss (omega (arith, a)) (omega (arith, b)))

-- the call changes no machine
abbrev pub Reads : Call → Type 0
Reads call = (m : Machine) (z : MachineState) → after m z call ≡ z

abbrev pub IsRead : Sent → Type 0
IsRead s = Reads s.exchange.call

pub reads_part : (i : ℕ) (m : Machine) (z : MachineState) (log : List Sent) → All IsRead log → state_by m z (part i log) ≡ z
reads_part i m z log read = stays (part i log) (part_all ReadsIn i log (λ k d w here. read k d w)) where
  ReadsIn : Exchange → Type 0
  ReadsIn e = Reads e.call

  stays : (es : List Exchange) → All ReadsIn es → state_by m z es ≡ z
  stays [] reads = refl
  stays (e ∷ es) reads = ap (λ (y : MachineState). state_by m y es) (All-head ReadsIn e es reads m z) ∙ stays es (All-tail ReadsIn e es reads)

-- a machine and a state for each component
pub record AreAll (r : Run) (ss : List MachineState) : Type 0 where
  pub machines : length r.machines ≡ length r.system.components
  pub states : length ss ≡ length r.system.components

module _ (r : Run) (ss : List MachineState) (all : AreAll r ss) where
  pub all_on : (f : ℕ → Component → Machine → MachineState → MachineState) → AreAll r (each r ss f)
  all_on f = record { machines = all.machines; states = each_many r ss f all.machines all.states }

  -- the FMU of a component
  pub fmu_of : (i : ℕ) (c : Component) → slice_get r.system.components i ≡ Some c → (m : Machine) × (s : MachineState) × IsFmu r ss i c m s
  fmu_of i c of =
      let within = slice_get_within r.system.components i c of in
      let m = got r.machines i (let e = all.machines in omega (arith, e, within)) in
      let s = got ss i (let e = all.states in omega (arith, e, within)) in
      (m.0, s.0, record { component = of; machine = m.1; state = s.1 })

-- of a run they are there at each time
module _ (r : Run) (machines : AreMachines r) where
  pub first_all : AreAll r (I.first_states r)
  first_all = record { machines = machines.count; states = length-map r.machines (λ (m : Machine). m.first) ∙ machines.count }

  pub made_all : AreAll r (I.instantiated r)
  made_all = all_on r (I.first_states r) first_all (λ i c m s. after m s (instantiate_of r.plan.link c.shape))

  pub configured_all : AreAll r (I.configured r)
  configured_all = all_on r (I.instantiated r) made_all (λ i c m s. I.with_bound m (I.bound_values r i) s)

  pub initializing_all : AreAll r (I.initializing r)
  initializing_all = all_on r (I.configured r) configured_all (λ i c m s. after m s (I.enter_initialization r))

  pub initialized_all : (W : List (Option ℤ)) → AreAll r (I.initialized r W)
  initialized_all W = all_on r (I.initializing r) initializing_all (λ i c m s. state_with r.system.ports W i m s)

  module _ (s : Situation) (situation : IsSituation r s) where
    pub states_all : AreAll r s.states
    states_all = record { machines = machines.count; states = situation.states }

    pub written_all : (V : List (Option ℤ)) → AreAll r (written r s V)
    written_all V = all_on r s.states states_all (λ i c m z. if c.shape.has_event_mode then state_with r.system.ports V i m z else z)

    pub updated_all : (V : List (Option ℤ)) → AreAll r (updated r s V).states
    updated_all V = all_on r (written r s V) (written_all V) (λ i c m z. if c.shape.has_event_mode then after m z C.Update else z)

module _ (r : Run) (ss : List MachineState) where
  abbrev Good : Sent → Type 0
  Good = IsGoodOf (shapes_of r.system)

  -- ---- one part after the other

  pub states_on : (a b : List Sent) → states_by r ss (a ++ b) ≡ states_by r (states_by r ss a) b
  states_on a b =
      each_same r ss (λ i c m s. state_by m s (part i (a ++ b))) (λ i c m s. state_by m (state_by m s (part i a)) (part i b))
      (λ i c m s fmu. ap (state_by m s) (part_append i a b) ∙ state_by_append m s (part i a) (part i b))
      ∙ sym (each_each (λ i c m s. state_by m s (part i a)) (λ i c m s. state_by m s (part i b)) 0 r.system.components r.machines ss)

  pub replies_first : (a b : List Sent) → AreReplies r ss (a ++ b) → AreReplies r ss a
  replies_first a b h i c m s fmu = replies_prefix m s (part i a) (part i b) (subst (RepliesBy m s) (part_append i a b) (h i c m s fmu))

  pub replies_then : (a b : List Sent) → All Good a → AreReplies r ss (a ++ b) → AreReplies r (states_by r ss a) b
  replies_then a b good h i c m z fmu =
      let old = fmu_before r ss (λ j d n s. state_by n s (part j a)) i c m z fmu in
      subst (λ (x : MachineState). RepliesBy m x (part i b)) (sym old.is)
      (replies_back m (get_or (shapes_of r.system) i c.shape) old.before (part i a) (part i b) (good_in_part (shapes_of r.system) a good i c.shape)
      (subst (RepliesBy m old.before) (part_append i a b) (h i c m old.before old.fmu)))

  -- after good answers each is told in the state after them
  pub told_on : (olds news : List Instance) → AreAt r ss olds → (log : List Sent) → Told log olds news → All Good log → AreAt r (states_by r ss log) news
  told_on olds news at log told good i c m z fmu =
      let old = fmu_before r ss (λ j d n s. state_by n s (part j log)) i c m z fmu in
      let beyond = told_at r ss olds news at log told good i c m old.before old.fmu in
      (beyond.instance, beyond.is, beyond.machine, beyond.state ∙ ap Some (sym old.is))

  -- ---- calls that are answered by machines in these very states

  -- the answer is the machine's in its state
  abbrev pub IsShown : Sent → Type 0
  IsShown s = (c : Component) (m : Machine) (z : MachineState) → IsFmu r ss s.component c m z → s.exchange.result ≡ Ok (m.look z s.exchange.call)

  shown_first : (s : Sent) (log : List Sent) → Good s → AreReplies r ss (s ∷ log) → IsShown s
  shown_first s log good replies c m z fmu =
      let i = s.component in
      (replied_good m (get_or (shapes_of r.system) i c.shape) z s.exchange (part i log) (good c.shape)
      (subst (RepliesBy m z) (takes (i == i) s.exchange (part i log) (same i i refl)) (replies i c m z fmu))).0

  pub reads_shown : (log : List Sent) → All IsRead log → All Good log → AreReplies r ss log → All IsShown log
  reads_shown [] read good replies = All-nil IsShown
  reads_shown (s ∷ log) read good replies =
      let one = All-head Good s log good in
      All-cons IsShown s log (shown_first s log one replies) (reads_shown log (All-tail IsRead s log read) (All-tail Good s log good) (λ i c m z fmu. rest i c m z (replies i c m z fmu) (s.component == i) refl))
    where
      rest : (i : ℕ) (c : Component) (m : Machine) (z : MachineState) → RepliesBy m z (part i (s ∷ log)) → (b : Bool) → (s.component == i) ≡ b → RepliesBy m z (part i log)
      rest i c m z h true at =
          subst (λ (y : MachineState). RepliesBy m y (part i log)) (All-head IsRead s log read m z)
          (replied_good m (get_or (shapes_of r.system) s.component c.shape) z s.exchange (part i log) (All-head Good s log good c.shape) (subst (RepliesBy m z) (takes (s.component == i) s.exchange (part i log) at) h)).1
      rest i c m z h false at = subst (RepliesBy m z) (skips (s.component == i) s.exchange (part i log) at) h

  pub reads_stay : AreAll r ss → (log : List Sent) → All IsRead log → states_by r ss log ≡ ss
  reads_stay all log read =
      each_same r ss (λ i c m z. state_by m z (part i log)) (λ i c m z. z) (λ i c m z fmu. reads_part i m z log read)
      ∙ each_own 0 r.system.components r.machines ss all.machines all.states

-- ---- one call to some

module _ (r : Run) (ss : List MachineState) (test : Shape → Bool) (call : Shape → Call) where
  abbrev ask : ℕ → Shape → ComponentCall
  ask k t = record { component = k; call = call t }

  -- each is asked once, and so answers in the state before
  stage_shown : (k : ℕ) (todo : List Shape) (log : List Sent) → component_calls log ≡ to_those_from k test call todo → All (IsGoodOf (shapes_of r.system)) log → AreReplies r ss log → All (IsShown r ss) log
  stage_shown k [] [] is good replies = All-nil (IsShown r ss)
  stage_shown k [] (s ∷ log) is good replies = absurd (cc)
  stage_shown k (t ∷ todo) log is good replies = by (test t) log is good replies (λ rest e more own. stage_shown (k + 1) todo rest e more own) where
    by : (b : Bool) (some : List Sent) → component_calls some ≡ (if b then ask k t ∷ to_those_from (k + 1) test call todo else to_those_from (k + 1) test call todo) → All (IsGoodOf (shapes_of r.system)) some → AreReplies r ss some →
        ((rest : List Sent) → component_calls rest ≡ to_those_from (k + 1) test call todo → All (IsGoodOf (shapes_of r.system)) rest → AreReplies r ss rest → All (IsShown r ss) rest) → All (IsShown r ss) some
    by false some e all own on = on some e all own
    by true [] e all own on = absurd (cc)
    by true (s ∷ some) e all own on =
        let at : s.component ≡ k = ap (λ (a : ComponentCall). a.component) (first_same (component_call s) (ask k t) (component_calls some) (to_those_from (k + 1) test call todo) e) in
        let rest = rest_same (component_call s) (ask k t) (component_calls some) (to_those_from (k + 1) test call todo) e in
        All-cons (IsShown r ss) s some (shown_first r ss s some (All-head (IsGoodOf (shapes_of r.system)) s some all) own)
        (on some rest (All-tail (IsGoodOf (shapes_of r.system)) s some all)
        (λ i c m z fmu. others i m z (own i c m z fmu) (λ here. none_before test call (k + 1) i todo some rest (omega (arith, at, here))) (s.component == i) refl))
      where
        others : (i : ℕ) (m : Machine) (z : MachineState) → RepliesBy m z (part i (s ∷ some)) → (s.component ≡ i → part i some ≡ []) → (b : Bool) → (s.component == i) ≡ b → RepliesBy m z (part i some)
        others i m z h none true own_part = subst (RepliesBy m z) (sym (none (eqb-true s.component i own_part))) tt
        others i m z h none false own_part = subst (RepliesBy m z) (skips (s.component == i) s.exchange (part i some) own_part) h

  module _ (log : List Sent) (answered : IsAnswered (shapes_of r.system) (to_those test call (shapes_of r.system)) log) where
    module _ (i : ℕ) (c : Component) (of : slice_get r.system.components i ≡ Some c) where
      in_shapes : i < length (shapes_of r.system)
      in_shapes = let m = length-map r.system.components (λ (x : Component). x.shape) in let w = slice_get_within r.system.components i c of in omega (arith, m, w)

      tested : (b : Bool) → test c.shape ≡ b → test (get_or (shapes_of r.system) i c.shape) ≡ b
      tested b e = ap test (sym (shape_of_component r.system i c of c.shape)) ∙ e

      one_call : test c.shape ≡ true → PartIs (shapes_of r.system) i (call c.shape) log
      one_call e =
          subst (λ (s : Shape). PartIs (shapes_of r.system) i (call s) log) (sym (shape_of_component r.system i c of c.shape)) (part_asked (shapes_of r.system) test call log answered i c.shape in_shapes (tested true e))

      pub stage_state : (m : Machine) (z : MachineState) → state_by m z (part i log) ≡ (if test c.shape then after m z (call c.shape) else z)
      stage_state m z = by (test c.shape) refl where
        by : (b : Bool) → test c.shape ≡ b → state_by m z (part i log) ≡ (if b then after m z (call c.shape) else z)
        by true e = let one = one_call e in ap (state_by m z) one.is ∙ ap (after m z) one.call_is
        by false e = ap (state_by m z) (part_unasked (shapes_of r.system) test call log answered i c.shape in_shapes (tested false e))

    -- each that was asked has changed
    pub stage_states : states_by r ss log ≡ each r ss (λ i c m z. if test c.shape then after m z (call c.shape) else z)
    stage_states = each_same r ss (λ i c m z. state_by m z (part i log)) (λ i c m z. if test c.shape then after m z (call c.shape) else z) (λ i c m z fmu. stage_state i c fmu.component m z)

    module _ (replies : AreReplies r ss log) where
      -- and answered well
      pub stage_well : (i : ℕ) (c : Component) (m : Machine) (z : MachineState) → IsFmu r ss i c m z → test c.shape ≡ true → IsAnsweredWell c.shape m z (call c.shape)
      stage_well i c m z fmu e =
          let one = one_call i c fmu.component e in
          let shape_is = shape_of_component r.system i c fmu.component c.shape in
          let good : T.IsGood c.shape one.exchange = subst (λ (x : Shape). T.IsGood x one.exchange) (sym shape_is) (one.good c.shape) in
          let told = replied_good m c.shape z one.exchange [] good (subst (RepliesBy m z) one.is (replies i c m z fmu)) in
          well one.exchange (call c.shape) one.call_is (told.0 ∙ ap (λ (k : Call). Ok (m.look z k)) one.call_is) good
        where
          well : (x : Exchange) (k : Call) → x.call ≡ k → x.result ≡ Ok (m.look z k) → T.IsGood c.shape x → IsAnsweredWell c.shape m z k
          well x k call_is result_is good =
              subst (λ (y : Call). grade_of c.shape y (m.look z k) ≡ G.Good) call_is
              (subst (λ (y : Result Reply PeerFault). MatchResult y (λ reply. grade_of c.shape x.call reply ≡ G.Good) (λ fault. ⊥)) result_is good)

      -- an answer passes a test where a machine's does
      module _ (all : AreAll r ss) (says : Result Reply PeerFault → Bool) where
        abbrev passes : ℕ → Component → Machine → MachineState → Bool
        passes i c m z = test c.shape && says (Ok (m.look z (call c.shape)))

        abbrev later : ℕ → List Component → List ComponentCall
        later n cs = to_those_from n test call (map (λ (c : Component). c.shape) cs)

        any_from : (k : ℕ) (cs : List Component) (ms : List Machine) (zs : List MachineState) (some : List Sent) → component_calls some ≡ to_those_from k test call (map (λ (c : Component). c.shape) cs) → All (IsShown r ss) some →
            length ms ≡ length cs → length zs ≡ length cs → ((i : ℕ) (c : Component) (m : Machine) (z : MachineState) → slice_get cs i ≡ Some c → slice_get ms i ≡ Some m → slice_get zs i ≡ Some z → IsFmu r ss (k + i) c m z) →
            list_any (λ (s : Sent). says s.exchange.result) some ≡ list_any (λ b. b) (each_from passes k cs ms zs)
        any_from k [] ms zs [] is shown few many h = refl
        any_from k [] ms zs (x ∷ some) is shown few many h = absurd (cc)
        any_from k (c ∷ cs) [] zs some is shown few many h = absurd (omega (arith, few))
        any_from k (c ∷ cs) (m ∷ ms) [] some is shown few many h = absurd (omega (arith, many))
        any_from k (c ∷ cs) (m ∷ ms) (z ∷ zs) some is shown few many h =
            by (test c.shape) some (is ∙ ap (λ (n : ℕ). if test c.shape then ask k c.shape ∷ later n cs else later n cs) next) shown
            (λ rest e own. any_from (suc k) cs ms zs rest e own (omega (arith, few)) (omega (arith, many))
            (λ i d n y at_d at_n at_y. let place : k + suc i ≡ suc k + i = omega arith in subst (λ (j : ℕ). IsFmu r ss j d n y) place (h (suc i) d n y at_d at_n at_y)))
          where
            next : k + 1 ≡ suc k
            next = omega arith

            here : (s : Sent) → s.component ≡ k → s.exchange.call ≡ call c.shape → IsShown r ss s → s.exchange.result ≡ Ok (m.look z (call c.shape))
            here s at call_is own =
                let place : k + 0 ≡ s.component = omega (arith, at) in
                own c m z (subst (λ (j : ℕ). IsFmu r ss j c m z) place (h 0 c m z refl refl refl)) ∙ ap (λ (x : Call). Ok (m.look z x)) call_is

            by : (b : Bool) (some : List Sent) → component_calls some ≡ (if b then ask k c.shape ∷ later (suc k) cs else later (suc k) cs) → All (IsShown r ss) some →
                ((rest : List Sent) → component_calls rest ≡ later (suc k) cs → All (IsShown r ss) rest → list_any (λ (s : Sent). says s.exchange.result) rest ≡ list_any (λ x. x) (each_from passes (suc k) cs ms zs)) →
                list_any (λ (s : Sent). says s.exchange.result) some ≡ ((b && says (Ok (m.look z (call c.shape)))) || list_any (λ x. x) (each_from passes (suc k) cs ms zs))
            by false some e own on = on some e own
            by true [] e own on = absurd (cc)
            by true (s ∷ some) e own on =
                let first = first_same (component_call s) (ask k c.shape) (component_calls some) (later (suc k) cs) e in
                ap₂ (λ (a b : Bool). a || b)
                (ap says (here s (ap (λ (a : ComponentCall). a.component) first) (ap (λ (a : ComponentCall). a.call) first) (All-head (IsShown r ss) s some own)))
                (on some (rest_same (component_call s) (ask k c.shape) (component_calls some) (later (suc k) cs) e) (All-tail (IsShown r ss) s some own))

        pub stage_any : list_any (λ (s : Sent). says s.exchange.result) log ≡ list_any (λ b. b) (each r ss passes)
        stage_any =
            any_from 0 r.system.components r.machines ss log answered.calls_are (stage_shown 0 (shapes_of r.system) log answered.calls_are answered.good replies) all.machines all.states
            (λ i c m z at_c at_m at_z. let place : i ≡ 0 + i = omega arith in subst (λ (j : ℕ). IsFmu r ss j c m z) place (record { component = at_c; machine = at_m; state = at_z }))

      -- the event times that the answers ask for are those that the machines' answers do
      module _ (all : AreAll r ss) (events : (shape : Shape) → test shape ≡ has_events shape) (updates : (shape : Shape) → call shape ≡ C.Update) (t : ℕ) where
        abbrev wanted : ℕ → Component → Machine → MachineState → Option ℕ
        wanted i c m z = if c.shape.has_event_mode then event_after t (m.look z C.Update) else None

        abbrev after_it : ℕ → List Component → List ComponentCall
        after_it n cs = to_those_from n test call (map (λ (c : Component). c.shape) cs)

        abbrev told_of : List Component → List Sent → List (Option ℕ)
        told_of cs some = events_told t (map (λ (c : Component). c.shape) cs) some

        events_from : (k : ℕ) (cs : List Component) (ms : List Machine) (zs : List MachineState) (some : List Sent) → component_calls some ≡ after_it k cs → All (IsShown r ss) some →
            length ms ≡ length cs → length zs ≡ length cs → ((i : ℕ) (c : Component) (m : Machine) (z : MachineState) → slice_get cs i ≡ Some c → slice_get ms i ≡ Some m → slice_get zs i ≡ Some z → IsFmu r ss (k + i) c m z) →
            told_of cs some ≡ each_from wanted k cs ms zs
        events_from k [] ms zs some is shown few many h = refl
        events_from k (c ∷ cs) [] zs some is shown few many h = absurd (omega (arith, few))
        events_from k (c ∷ cs) (m ∷ ms) [] some is shown few many h = absurd (omega (arith, many))
        events_from k (c ∷ cs) (m ∷ ms) (z ∷ zs) some is shown few many h =
            by (has_events c.shape) some (is ∙ ap (λ (b : Bool). if b then ask k c.shape ∷ after_it (k + 1) cs else after_it (k + 1) cs) (events c.shape) ∙ ap (λ (n : ℕ). if has_events c.shape then ask k c.shape ∷ after_it n cs else after_it n cs) next) shown
            (λ rest e own. events_from (suc k) cs ms zs rest e own (omega (arith, few)) (omega (arith, many))
            (λ i d n y at_d at_n at_y. let place : k + suc i ≡ suc k + i = omega arith in subst (λ (j : ℕ). IsFmu r ss j d n y) place (h (suc i) d n y at_d at_n at_y)))
          where
            next : k + 1 ≡ suc k
            next = omega arith

            here : (s : Sent) → s.component ≡ k → s.exchange.call ≡ call c.shape → IsShown r ss s → s.exchange.result ≡ Ok (m.look z C.Update)
            here s at call_is own =
                let place : k + 0 ≡ s.component = omega (arith, at) in
                own c m z (subst (λ (j : ℕ). IsFmu r ss j c m z) place (h 0 c m z refl refl refl)) ∙ ap (λ (x : Call). Ok (m.look z x)) (call_is ∙ updates c.shape)

            by : (b : Bool) (some : List Sent) → component_calls some ≡ (if b then ask k c.shape ∷ after_it (suc k) cs else after_it (suc k) cs) → All (IsShown r ss) some →
                ((rest : List Sent) → component_calls rest ≡ after_it (suc k) cs → All (IsShown r ss) rest → told_of cs rest ≡ each_from wanted (suc k) cs ms zs) →
                (if b then first_event t some ∷ told_of cs (other_answers some) else None ∷ told_of cs some) ≡ (if b then event_after t (m.look z C.Update) else None) ∷ each_from wanted (suc k) cs ms zs
            by false some e own on = ap (λ (es : List (Option ℕ)). None ∷ es) (on some e own)
            by true [] e own on = absurd (cc)
            by true (s ∷ some) e own on =
                let first = first_same (component_call s) (ask k c.shape) (component_calls some) (after_it (suc k) cs) e in
                ap₂ (λ (x : Option ℕ) (es : List (Option ℕ)). x ∷ es)
                (ap (event_by t) (here s (ap (λ (a : ComponentCall). a.component) first) (ap (λ (a : ComponentCall). a.call) first) (All-head (IsShown r ss) s some own)))
                (on some (rest_same (component_call s) (ask k c.shape) (component_calls some) (after_it (suc k) cs) e) (All-tail (IsShown r ss) s some own))

        pub stage_events : events_told t (shapes_of r.system) log ≡ each r ss wanted
        stage_events =
            events_from 0 r.system.components r.machines ss log answered.calls_are (stage_shown 0 (shapes_of r.system) log answered.calls_are answered.good replies) all.machines all.states
            (λ i c m z at_c at_m at_z. let place : i ≡ 0 + i = omega arith in subst (λ (j : ℕ). IsFmu r ss j c m z) place (record { component = at_c; machine = at_m; state = at_z }))
