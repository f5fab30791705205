-- A chain of exchanges with one instance, and how its calls leave it: after a run so that it can be closed, and after its closing not made, gone or lost, or keeping a state.
use Rattle.std.proofs.Common.{◌≡◌, ℕ, ◌≤◌, inl, inr, true, false, List, [], ◌∷◌, ◌++◌, Option, Some, None, Result, Ok, Err, refl, sym, ap, ◌∙◌, subst, append_assoc, arith, ◌⊎◌, Bool, ap₂}
use Rattle.std.specs.Prelude.{◌||◌, All, IfSome, MatchResult, if◌then◌else◌}
use Rattle.std.specs.List.{list_any}
use Rattle.std.specs.Result.{is_err, result_ok}
use Rattle.std.proofs.lemmas.Bool.{both_ways}
use Rattle.std.proofs.lemmas.List.{append-nil}
use Rattle.std.proofs.lemmas.List.Elements.{All-nil, All-cons, All-head, All-tail}
use Rattle.sim_base.specs.Causes.{HasCause, Rose}
use Rattle.fmi_calls.specs.declared.call.Call.{Call}
use Rattle.fmi_calls.specs.declared.call.Reply.{Reply}
use Rattle.fmi_calls.specs.declared.phase.Phase.{Phase}
use Rattle.fmu_peer.specs.declared.peer.Exchange.{Exchange}
use Rattle.fmu_peer.specs.declared.peer.PeerFault.{PeerFault}
use Rattle.fmu_peer.specs.Close.{SendsInTurn}
use Rattle.fmu_peer.specs.Talk.{LegalFrom, phase_from, Closed, EndsFreed, EndsKeeping, IsGood, Legal, StartsBadly, next_by, phase_after, calls_in}
use Rattle.fmu_peer.specs.View.{View, Fixed, talked}
use Rattle.step_master.specs.Histories.{ComeInTurn, Counts, is_unanswered, Freed, IsPeerHistory, IsOver, Keeping, PeerHistory, LostHere, Unasked, shape_in, talk_in}
use Rattle.slot_calls.specs.Log.{Talks, Has}
use Rattle.value_types.specs.declared.shape.Shape.{Shape}
use Rattle.fmi_calls.specs.declared.call.BadStatus.{BadStatus}
use Rattle.fmi_calls.specs.declared.call.Grade.{Grade}
use Rattle.fmi_calls.specs.declared.phase.InstanceState.{InstanceState}
use Rattle.fmi_calls.specs.Kinds.{bad_status_of}
use Rattle.fmi_calls.specs.Next.{counted, fresh, graded, next_of, restored_state, state_after_bad, entered}
use Rattle.fmi_calls.specs.Permission.{Permitted, can_go_back, can_be_freed, can_be_read, can_be_set, can_be_ticked, has_interval, has_shift, is_input_clock, is_output_clock, is_running}
use Rattle.fmi_calls.specs.Worth.{grade_of, is_valid}
use Rattle.fmu_peer.proofs.CallerLemmas.{phase_from-append}
use Rattle.fmi_calls.specs.declared.call.Kind.{Kind}
use Rattle.fmi_calls.specs.KindFacts.{IsRunCall, same_kind}
use Rattle.fmu_peer.specs.CloseAll.{Instance, IsLeft, Stands}
use Rattle.fmu_peer.specs.Mode.{is_over}
use Rattle.slot_calls.specs.SavedStates.{IsGivenUp, if_good, saved_after, saved_by}
use Rattle.slot_calls.proofs.CallerLemmas.{talks_fixed}
use Rattle.course_laws.specs.Laws.{GoesWith}
use Rattle.fmi_calls.specs.declared.call.BadStatus.TheVariants as B
use Rattle.fmi_calls.specs.declared.call.Call.TheVariants as C
use Rattle.fmi_calls.specs.declared.call.Grade.TheVariants as G
use Rattle.fmi_calls.specs.declared.call.Kind.TheVariants as K
use Rattle.fmi_calls.specs.declared.call.Reply.TheVariants as R
use Rattle.fmi_calls.specs.declared.phase.InstanceState.TheVariants as P

-- ---- phase and permission

pub talks_phase : (v : View) (es : List Exchange) (w : View) → Talks v es w → w.phase ≡ phase_from v.fixed.shape v.phase es
talks_phase v [] w t = ap (λ (x : View). x.phase) t
talks_phase v (e ∷ es) w (mid, may, asked, rest) =
    talks_phase mid es w rest ∙ ap (λ (f : Fixed). phase_from f.shape mid.phase es) asked.fixed ∙ ap (λ (p : Phase). phase_from v.fixed.shape p es) asked.phase

pub talks_legal : (v : View) (es : List Exchange) (w : View) → Talks v es w → LegalFrom v.fixed.shape v.phase es
talks_legal v [] w t = tt
talks_legal v (e ∷ es) w (mid, may, asked, rest) = (
  may,
  subst (λ (p : Phase). LegalFrom v.fixed.shape p es) asked.phase (subst (λ (f : Fixed). LegalFrom f.shape mid.phase es) asked.fixed (talks_legal mid es w rest)),
)

-- ---- the told talk

abbrev more_told : Option (List Exchange) → List Exchange → Option (List Exchange)
more_told None es = None
more_told (Some old) es = Some (old ++ es)

told_then : (o : Option (List Exchange)) (e : Exchange) (es : List Exchange) → more_told (talked o e.call e.result) es ≡ more_told o (e ∷ es)
told_then None e es = refl
told_then (Some old) e es = ap Some (append_assoc old (e ∷ []) es)

told_same : (o : Option (List Exchange)) → o ≡ more_told o []
told_same None = refl
told_same (Some old) = ap Some (sym (append-nil old))

-- a told talk grows by the exchanges
talk_grows : (v : View) (es : List Exchange) (w : View) → Talks v es w → w.talk ≡ more_told v.talk es
talk_grows v [] w t = ap (λ (x : View). x.talk) t ∙ told_same v.talk
talk_grows v (e ∷ es) w (mid, may, asked, rest) = talk_grows mid es w rest ∙ ap (λ (o : Option (List Exchange)). more_told o es) asked.talk ∙ told_then v.talk e es

told_first : (o : Option (List Exchange)) (es : List Exchange) → IfSome o (λ l. l ≡ []) → IfSome (more_told o es) (λ l. l ≡ es)
told_first None es h = tt
told_first (Some old) es h = ap (λ (l : List Exchange). l ++ es) h

-- from its first exchange on a told talk has these
pub talk_is : (v : View) (es : List Exchange) (w : View) → IfSome v.talk (λ l. l ≡ []) → Talks v es w → IfSome w.talk (λ l. l ≡ es)
talk_is v es w none t = subst (λ (o : Option (List Exchange)). IfSome o (λ l. l ≡ es)) (sym (talk_grows v es w t)) (told_first v.talk es none)

-- ---- the count of faults

count_on : (a b c : ℕ) (r : Result Reply PeerFault) (es : List Exchange) → HasCause a b r → Counts b c es →
    (a ≤ c) × (((is_err r || list_any is_unanswered es) ≡ false → c ≡ a) × ((is_err r || list_any is_unanswered es) ≡ true → Rose a c))
count_on a b c (Ok reply) es cause more = (
  (let x = cause.later in let y = more.later in omega (arith, x, y)),
  ((λ none. more.quiet none ∙ cause.quiet), (λ some. subst (λ (n : ℕ). Rose n c) cause.quiet (more.rose some))),
)
count_on a b c (Err fault) es cause more = (
  (let x = cause.later in let y = more.later in omega (arith, x, y)),
  ((λ none. absurd (cc)), (λ some. let x = cause.rose in let y = more.later in omega (arith, x, y))),
)

pub counts_of : (v : View) (es : List Exchange) (w : View) → Talks v es w → Counts v.faults w.faults es
counts_of v [] w t =
    let same : w.faults ≡ v.faults = ap (λ (x : View). x.faults) t in
    record { later = omega (arith, same); quiet = λ none. same; rose = λ some. absurd (cc) }
counts_of v (e ∷ es) w (mid, may, asked, rest) =
    let all = count_on v.faults mid.faults w.faults e.result es asked.cause (counts_of mid es w rest) in
    record { later = all.0; quiet = all.1.0; rose = all.1.1 }

-- ---- calls that are sent in turn

pub turn_talks : (cs : List Call) (v : View) (es : List Exchange) (w : View) → SendsInTurn cs v es w → Talks v es w
turn_talks [] v es w (none, same) = subst (λ (l : List Exchange). Talks v l w) (sym none) same
turn_talks (c ∷ cs) v es w (inl (may, (result, rest, mid, is, asked, more))) = subst (λ (l : List Exchange). Talks v l w) (sym is) (mid, may, asked, turn_talks cs mid rest w more)
turn_talks (c ∷ cs) v es w (inr (never, more)) = turn_talks cs v es w more

-- by the phases they come in turn
pub turn_comes : (cs : List Call) (v : View) (es : List Exchange) (w : View) → SendsInTurn cs v es w → ComeInTurn v.fixed.shape v.phase cs es
turn_comes [] v es w (none, same) = none
turn_comes (c ∷ cs) v es w (inl (may, (result, rest, mid, is, asked, more))) = inl (
  may,
  (
    result,
    rest,
    is,
    subst (λ (p : Phase). ComeInTurn v.fixed.shape p cs rest) asked.phase (subst (λ (f : Fixed). ComeInTurn f.shape mid.phase cs rest) asked.fixed (turn_comes cs mid rest w more)),
  ),
)
turn_comes (c ∷ cs) v es w (inr (never, more)) = inr (never, turn_comes cs v es w more)

-- what holds of the calls holds of those that were sent
pub turn_all : (P : Call → Type 0) (cs : List Call) (v : View) (es : List Exchange) (w : View) → All P cs → SendsInTurn cs v es w → All P (calls_in es)
turn_all P [] v es w all (none, same) = subst (λ (l : List Exchange). All P (calls_in l)) (sym none) (All-nil P)
turn_all P (c ∷ cs) v es w all (inl (may, (result, rest, mid, is, asked, more))) =
    subst (λ (l : List Exchange). All P (calls_in l)) (sym is) (All-cons P c (calls_in rest) (All-head P c cs all) (turn_all P cs mid rest w (All-tail P c cs all) more))
turn_all P (c ∷ cs) v es w all (inr (never, more)) = turn_all P cs v es w (All-tail P c cs all) more

-- gone, or lost
abbrev IsEnded : InstanceState → Type 0
IsEnded state = (state ≡ P.Gone) ⊎ (state ≡ P.Lost)

-- ---- no call is permitted of an instance that is gone or lost, and of one that isn't made none but the one that makes it

abbrev IsUnmade : InstanceState → Type 0
IsUnmade state = (state ≡ P.Fresh) ⊎ IsEnded state

unpassed : (test : InstanceState → Bool) (state : InstanceState) → IsUnmade state → test P.Fresh ≡ false → test P.Gone ≡ false → test P.Lost ≡ false → test state ≡ true → ⊥
unpassed test state (inl fresh) a b c h = absurd (let k : true ≡ false = sym h ∙ ap test fresh ∙ a in cc)
unpassed test state (inr (inl gone)) a b c h = absurd (let k : true ≡ false = sym h ∙ ap test gone ∙ b in cc)
unpassed test state (inr (inr lost)) a b c h = absurd (let k : true ≡ false = sym h ∙ ap test lost ∙ c in cc)

-- it stands in no other state
elsewhere : (state wanted : InstanceState) → IsUnmade state → state ≡ wanted → (P.Fresh ≡ wanted → ⊥) → (P.Gone ≡ wanted → ⊥) → (P.Lost ≡ wanted → ⊥) → ⊥
elsewhere state wanted (inl fresh) is a b c = a (sym fresh ∙ is)
elsewhere state wanted (inr (inl gone)) is a b c = b (sym gone ∙ is)
elsewhere state wanted (inr (inr lost)) is a b c = c (sym lost ∙ is)

makes : (shape : Shape) (phase : Phase) (call : Call) → IsUnmade phase.state → Permitted shape phase call → (event_mode early_return batches : Bool) × (call ≡ C.Instantiate event_mode early_return batches)
makes shape phase (C.Instantiate event_mode early_return batches) un p = (event_mode, early_return, batches, refl)
makes shape phase (C.EnterInitialization start stop) un p = absurd (elsewhere phase.state P.Instantiated un p.0 (λ e. cc) (λ e. cc) (λ e. cc))
makes shape phase C.ExitInitialization un p = absurd (elsewhere phase.state P.Initialization un p (λ e. cc) (λ e. cc) (λ e. cc))
makes shape phase (C.Get kind reference) un p = absurd (unpassed (λ s. can_be_read s shape phase.marks phase.active reference) phase.state un refl refl refl p.0)
makes shape phase (C.Set kind reference value) un p = absurd (unpassed (λ s. can_be_set s shape phase.marks phase.active reference) phase.state un refl refl refl p.0)
makes shape phase C.Terminate un p = absurd (unpassed is_running phase.state un refl refl refl p.0)
makes shape phase C.FreeInstance un p = absurd (unpassed (λ s. can_be_freed s phase.slot.is_full) phase.state un refl refl refl p)
makes shape phase C.EnterStep un p = absurd (elsewhere phase.state P.Event un p.0 (λ e. cc) (λ e. cc) (λ e. cc))
makes shape phase C.Update un p = absurd (elsewhere phase.state P.Event un p (λ e. cc) (λ e. cc) (λ e. cc))
makes shape phase (C.GetClock reference) un p = absurd (unpassed (λ s. can_be_ticked is_output_clock s shape phase.marks reference) phase.state un refl refl refl p)
makes shape phase (C.SetClock reference) un p = absurd (unpassed (λ s. can_be_ticked is_input_clock s shape phase.marks reference) phase.state un refl refl refl p)
makes shape phase (C.GetInterval reference) un p = absurd (unpassed (λ s. has_interval s shape phase.active reference) phase.state un refl refl refl p)
makes shape phase (C.GetShift reference) un p = absurd (unpassed (λ s. has_shift s shape reference) phase.state un refl refl refl p)
makes shape phase C.Restore un p = absurd (unpassed can_go_back phase.state un refl refl refl p.0)
makes shape phase C.Free un p = absurd (unpassed can_go_back phase.state un refl refl refl p.0)
makes shape phase (C.Deserialize length point stop) un p = absurd (elsewhere phase.state P.Instantiated un p.0 (λ e. cc) (λ e. cc) (λ e. cc))
makes shape phase call un p = absurd (elsewhere phase.state P.Step un p.0 (λ e. cc) (λ e. cc) (λ e. cc))

pub only_start : (shape : Shape) (call : Call) → Permitted shape (fresh shape) call → (event_mode early_return batches : Bool) × (call ≡ C.Instantiate event_mode early_return batches)
only_start shape call p = makes shape (fresh shape) call (inl refl) p

none_permitted : (shape : Shape) (phase : Phase) (call : Call) → IsEnded phase.state → Permitted shape phase call → ⊥
none_permitted shape phase call ended p = by (makes shape phase call (inr ended) p) ended where
  by : ((event_mode early_return batches : Bool) × (call ≡ C.Instantiate event_mode early_return batches)) → IsEnded phase.state → ⊥
  by (event_mode, early_return, batches, is) (inl gone) = absurd (let e : P.Gone ≡ P.Fresh = sym gone ∙ (subst (Permitted shape phase) is p).0 in cc)
  by (event_mode, early_return, batches, is) (inr lost) = absurd (let e : P.Lost ≡ P.Fresh = sym lost ∙ (subst (Permitted shape phase) is p).0 in cc)

none_after : (shape : Shape) (phase : Phase) (es : List Exchange) → IsEnded phase.state → LegalFrom shape phase es → es ≡ []
none_after shape phase [] ended legal = refl
none_after shape phase (e ∷ es) ended legal = absurd (none_permitted shape phase e.call ended legal.0)

-- ---- an Instantiate that isn't good

bad_start : (shape : Shape) (phase : Phase) (a b d : Bool) (reply : Reply) (g : Grade) → (g ≡ G.Good → ⊥) → IsEnded (graded shape phase (C.Instantiate a b d) reply g).state
bad_start shape phase a b d reply G.Good bad = absurd (bad refl)
bad_start shape phase a b d reply G.Misreply bad = inl refl
bad_start shape phase a b d reply G.Refused bad = by (bad_status_of reply) refl
  where
    by : (status : BadStatus) → bad_status_of reply ≡ status → IsEnded (graded shape phase (C.Instantiate a b d) reply G.Refused).state
    by B.Fatal is = inr (ap (λ (s : BadStatus). state_after_bad phase.state (C.Instantiate a b d) s) is)
    by status is = inl (ap (λ (s : BadStatus). state_after_bad phase.state (C.Instantiate a b d) s) is)

-- the phase after it
start_ended : (shape : Shape) (phase : Phase) (a b d : Bool) (e : Exchange) → e.call ≡ C.Instantiate a b d → (IsGood shape e → ⊥) → IsEnded (next_by shape phase e).state
start_ended shape phase a b d e is bad =
    subst (λ (c : Call). IsEnded (next_of shape phase c (result_ok e.result)).state) (sym is) (by e.result (subst (λ (c : Call). MatchResult e.result (λ reply. grade_of shape c reply ≡ G.Good) (λ fault. ⊥) → ⊥) is bad))
  where
    by : (r : Result Reply PeerFault) → (MatchResult r (λ reply. grade_of shape (C.Instantiate a b d) reply ≡ G.Good) (λ fault. ⊥) → ⊥) → IsEnded (next_of shape phase (C.Instantiate a b d) (result_ok r)).state
    by (Err fault) h = inr refl
    by (Ok reply) h = bad_start shape (counted phase (C.Instantiate a b d)) a b d reply (grade_of shape (C.Instantiate a b d) reply) h

-- ---- an instance that was freed

freed_graded : (shape : Shape) (phase : Phase) (reply : Reply) (g : Grade) → (graded shape phase C.FreeInstance reply g).state ≡ P.Gone
freed_graded shape phase reply G.Good = refl
freed_graded shape phase reply g = refl

freed_ended : (shape : Shape) (phase : Phase) (e : Exchange) → e.call ≡ C.FreeInstance → IsEnded (next_by shape phase e).state
freed_ended shape phase e is = subst (λ (c : Call). IsEnded (next_of shape phase c (result_ok e.result)).state) (sym is) (by e.result)
  where
    by : (r : Result Reply PeerFault) → IsEnded (next_of shape phase C.FreeInstance (result_ok r)).state
    by (Err fault) = inr refl
    by (Ok reply) = inl (freed_graded shape (counted phase C.FreeInstance) reply (grade_of shape C.FreeInstance reply))

-- ---- a state that is kept

kept_full : (shape : Shape) (phase : Phase) (e : Exchange) → e.call ≡ C.Free → e.result ≡ Ok (R.Refused K.Free B.Discard) → Permitted shape phase e.call → (next_by shape phase e).slot.is_full ≡ true
kept_full shape phase e is result may =
    let full : phase.slot.is_full ≡ true = (subst (Permitted shape phase) is may).2 in
    ap (λ (c : Call). (next_of shape phase c (result_ok e.result)).slot.is_full) is
    ∙ ap (λ (r : Result Reply PeerFault). (next_of shape phase C.Free (result_ok r)).slot.is_full) result ∙ full

legal_last : (shape : Shape) (phase : Phase) (prefix : List Exchange) (last : Exchange) → LegalFrom shape phase (prefix ++ last ∷ []) → Permitted shape (phase_from shape phase prefix) last.call
legal_last shape phase [] last legal = legal.0
legal_last shape phase (e ∷ prefix) last legal = legal_last shape (next_by shape phase e) prefix last legal.1

-- ---- the whole

module _ (history : PeerHistory) (is : IsPeerHistory history) where
  ended_over : (talk : List Exchange) → talk_in history ≡ talk → IsEnded (phase_after (shape_in history) talk).state → IsOver history
  ended_over talk same (inl gone) = Freed (ap (λ (p : Phase). p.state) (is.phase ∙ ap (phase_after (shape_in history)) same) ∙ gone)
  ended_over talk same (inr lost) = LostHere (ap (λ (p : Phase). p.state) (is.phase ∙ ap (phase_after (shape_in history)) same) ∙ lost)

  badly_over : StartsBadly (shape_in history) (talk_in history) → IsOver history
  badly_over s =
      let shape = shape_in history in
      let legal : LegalFrom shape (fresh shape) (s.first ∷ s.rest) = subst (Legal shape) s.is is.legal in
      let start = only_start shape s.first.call legal.0 in
      let ended : IsEnded (next_by shape (fresh shape) s.first).state = start_ended shape (fresh shape) start.0 start.1 start.2 s.first start.3 s.bad in
      let none : s.rest ≡ [] = none_after shape (next_by shape (fresh shape) s.first) s.rest ended legal.1 in
      ended_over (s.first ∷ []) (s.is ∙ ap (λ (es : List Exchange). s.first ∷ es) none) ended

  freed_over : EndsFreed (shape_in history) (fresh (shape_in history)) (talk_in history) → IsOver history
  freed_over f =
      let shape = shape_in history in
      ended_over (f.prefix ++ f.last ∷ []) f.is
      (subst (λ (p : Phase). IsEnded p.state) (sym (phase_from-append shape (fresh shape) f.prefix f.last)) (freed_ended shape (phase_from shape (fresh shape) f.prefix) f.last f.frees))

  keeping_over : EndsKeeping (talk_in history) → IsOver history
  keeping_over k =
      let shape = shape_in history in
      let may = legal_last shape (fresh shape) k.prefix k.last (subst (Legal shape) k.is is.legal) in
      Keeping (ap (λ (p : Phase). p.slot.is_full) (is.phase ∙ ap (phase_after shape) k.is ∙ phase_from-append shape (fresh shape) k.prefix k.last)
      ∙ kept_full shape (phase_from shape (fresh shape) k.prefix) k.last k.frees k.discarded may) k

  pub closed_over : Closed (shape_in history) (talk_in history) → IsOver history
  closed_over (inl none) = Unasked (ap (λ (p : Phase). p.state) (is.phase ∙ ap (phase_after (shape_in history)) none))
  closed_over (inr (inl badly)) = badly_over badly
  closed_over (inr (inr (inl lost))) = LostHere (ap (λ (p : Phase). p.state) is.phase ∙ lost)
  closed_over (inr (inr (inr (inl freed)))) = freed_over freed
  closed_over (inr (inr (inr (inr keeping)))) = keeping_over keeping

-- ---- an instance that can be closed stays one

abbrev IsStanding : InstanceState → Type 0
IsStanding s = (s ≡ P.Lost) ⊎ (can_be_freed s false ≡ true)

-- in Step Mode, or before Initialization Mode where the run is resumed
abbrev IsPlaceToFree : Bool → InstanceState → Type 0
IsPlaceToFree resumed s = (s ≡ P.Step) ⊎ ((s ≡ P.Instantiated) × (resumed ≡ true))

place_back : (resumed : Bool) (s : InstanceState) → IsPlaceToFree resumed s → can_go_back s ≡ true
place_back resumed s (inl at) = ap can_go_back at
place_back resumed s (inr at) = ap can_go_back at.0

-- a Restore leads into Step Mode
back_state : (s : InstanceState) → can_go_back s ≡ true → restored_state s ≡ P.Step
back_state P.Instantiated is = refl
back_state P.Step is = refl
back_state s is = absurd (cc)

never_over : (s : InstanceState) → can_go_back s ≡ true → is_over s ≡ true → ⊥
never_over P.Instantiated is over = cc
never_over P.Step is over = cc
never_over s is over = absurd (cc)

-- a state that it keeps may be freed, or it is dead or lost
abbrev IsKept : Bool → Shape → InstanceState → Bool → Type 0
IsKept resumed shape s saved = (is_over s ≡ true) ⊎ ((saved ≡ true) × IsPlaceToFree resumed s × (shape.can_save_state ≡ true))

record IsClosable (resumed : Bool) (shape : Shape) (p : Phase) (saved : Bool) : Type 0 where
  state : IsStanding p.state
  kept : p.slot.is_full ≡ true → IsKept resumed shape p.state saved

-- a call of the run after the first
abbrev IsMid : Call → Type 0
IsMid (C.Instantiate event_mode early_return batches) = ⊥
IsMid C.Terminate = ⊥
IsMid C.FreeInstance = ⊥
IsMid call = Unit {0}

mid_of : (shape : Shape) (p : Phase) (call : Call) → IsRunCall call → Permitted shape p call → IsStanding p.state → IsMid call
mid_of shape p (C.Instantiate event_mode early_return batches) r may h = elim (subst IsStanding may.0 h) [ inl lost ↦ absurd (cc) | inr freed ↦ absurd (cc) ]
mid_of shape p C.Terminate r may h = absurd (cc)
mid_of shape p C.FreeInstance r may h = absurd (cc)
mid_of shape p call r may h = tt

-- a bad answer to it leads where one to any other does
after_mid : (s : InstanceState) (call : Call) (status : BadStatus) → IsMid call → state_after_bad s call status ≡ state_after_bad s C.Save status
after_mid s (C.Instantiate event_mode early_return batches) status m = absurd m
after_mid s C.FreeInstance status m = absurd m
after_mid s call status m = refl

-- a Free that is refused with Discard has one reply
free_or_not : (call : Call) → (call ≡ C.Free) ⊎ (call ≡ C.Free → ⊥)
free_or_not C.Free = inl refl
free_or_not call = inr (λ e. absurd (cc))

never_refused : (b : Bool) → (if b then G.Good else G.Misreply) ≡ G.Refused → ⊥
never_refused true e = absurd (cc)
never_refused false e = absurd (cc)

free_kind : (kind : Kind) → same_kind kind K.Free ≡ true → kind ≡ K.Free
free_kind K.Free e = refl
free_kind kind e = absurd (cc)

when_refused : (b : Bool) → (if b then G.Refused else G.Misreply) ≡ G.Refused → b ≡ true
when_refused true e = refl
when_refused false e = absurd (cc)

discarded : (shape : Shape) (reply : Reply) → grade_of shape C.Free reply ≡ G.Refused → bad_status_of reply ≡ B.Discard → reply ≡ R.Refused K.Free B.Discard
discarded shape (R.Done is_warning content) grade status = absurd (never_refused (is_valid shape C.Free content) grade)
discarded shape (R.Refused kind status) grade is = ap₂ R.Refused (free_kind kind (when_refused (same_kind kind K.Free) grade)) is

module _ (resumed : Bool) (shape : Shape) (can : shape.can_serialize_state ≡ true → shape.can_save_state ≡ true) (p : Phase) (saved : Bool) (h : IsClosable resumed shape p saved) where
  -- in another state than Step Mode it keeps none
  none_in : (s : InstanceState) → p.state ≡ s → is_over s ≡ false → (IsPlaceToFree resumed s → ⊥) → p.slot.is_full ≡ true → ⊥
  none_in s at living other full = elim (h.kept full) [ inl over ↦ both_ways _ living (ap is_over (sym at) ∙ over) | inr kept ↦ other (subst (IsPlaceToFree resumed) at kept.1) ]

  no_place : (s : InstanceState) → (s ≡ P.Step → ⊥) → (s ≡ P.Instantiated → resumed ≡ true → ⊥) → IsPlaceToFree resumed s → ⊥
  no_place s step made (inl at) = step at
  no_place s step made (inr at) = made at.0 at.1

  good_closable : (call : Call) (reply : Reply) → grade_of shape call reply ≡ G.Good → IsMid call → GoesWith resumed call → Permitted shape p call → IsClosable resumed shape (entered shape (counted p call) call reply) (saved_by shape call (Ok reply) saved)
  good_closable (C.Instantiate event_mode early_return batches) reply good m goes may = absurd m
  good_closable (C.EnterInitialization start stop) reply good m goes may =
      record { state = inr refl; kept = λ full. absurd (none_in P.Instantiated may.0 refl (no_place P.Instantiated (λ e. cc) (λ e is. both_ways _ goes is)) full) }
  good_closable C.ExitInitialization reply good m goes may =
      record { state = inr (running_freed shape.has_event_mode); kept = λ full. absurd (none_in P.Initialization may refl (no_place P.Initialization (λ e. cc) (λ e is. cc)) full) } where
        running_freed : (b : Bool) → can_be_freed (if b then P.Event else P.Step) false ≡ true
        running_freed true = refl
        running_freed false = refl
  good_closable C.EnterEvent reply good m goes may = record { state = inr refl; kept = λ full. absurd (both_ways _ may.2 full) }
  good_closable C.EnterStep reply good m goes may = record { state = inr refl; kept = λ full. absurd (none_in P.Event may.0 refl (no_place P.Event (λ e. cc) (λ e is. cc)) full) }
  good_closable C.Save reply good m goes may = record { state = h.state; kept = λ full. inr (ap (λ (g : Grade). if_good g saved) good, inl may.0, may.1) }
  good_closable C.Restore reply good m goes may = record {
    state = inr (ap (λ (s : InstanceState). can_be_freed s false) (back_state p.state may.0));
    kept = λ full. elim (h.kept may.2) [
      | inl over ↦ absurd (never_over p.state may.0 over)
      | inr kept ↦ inr (kept.0, inl (back_state p.state may.0), may.1)
    ];
  }
  good_closable (C.Deserialize length point stop) reply good m goes may = record { state = h.state; kept = λ full. inr (ap (λ (g : Grade). if_good g saved) good, inr (may.0, goes), can may.1) }
  good_closable C.Free reply good m goes may = record { state = h.state; kept = λ full. absurd (cc) }
  good_closable C.Terminate reply good m goes may = absurd m
  good_closable C.FreeInstance reply good m goes may = absurd m
  good_closable call reply good m goes may = record { state = h.state; kept = h.kept }

  -- or it was given up by a Free
  abbrev After : Call → Result Reply PeerFault → Type 0
  After call result = IsClosable resumed shape (next_of shape p call (result_ok result)) (saved_by shape call result saved)
      ⊎ (IsGivenUp (record { call = call; result = result }) × IsStanding (next_of shape p call (result_ok result)).state)

  module _ (call : Call) (m : IsMid call) where
    unsaved : (call : Call) (reply : Reply) → grade_of shape call reply ≡ G.Refused → (call ≡ C.Free → ⊥) → saved_by shape call (Ok reply) saved ≡ saved
    unsaved C.Save reply refused other = ap (λ (g : Grade). if_good g saved) refused
    unsaved C.Free reply g other = absurd (other refl)
    unsaved (C.Deserialize length point stop) reply refused other = ap (λ (g : Grade). if_good g saved) refused
    unsaved call reply g other = refl

    dead : (q : Phase) (other : Bool) → q.state ≡ P.Dead → IsClosable resumed shape q other
    dead q other at = record { state = inr (ap (λ (s : InstanceState). can_be_freed s false) at); kept = λ full. inl (ap is_over at) }

    lost : (q : Phase) (other : Bool) → q.state ≡ P.Lost → IsClosable resumed shape q other
    lost q other at = record { state = inl at; kept = λ full. inl (ap is_over at) }

    refused : (reply : Reply) (status : BadStatus) → bad_status_of reply ≡ status → grade_of shape call reply ≡ G.Refused →
        IsClosable resumed shape (graded shape (counted p call) call reply G.Refused) (saved_by shape call (Ok reply) saved)
        ⊎ (IsGivenUp (record { call = call; result = Ok reply }) × IsStanding (graded shape (counted p call) call reply G.Refused).state)
    refused reply B.Error is g = inl (dead _ _ (ap (state_after_bad p.state call) is ∙ after_mid p.state call B.Error m))
    refused reply B.Fatal is g = inl (lost _ _ (ap (state_after_bad p.state call) is ∙ after_mid p.state call B.Fatal m))
    refused reply B.Discard is g =
        let at : state_after_bad p.state call (bad_status_of reply) ≡ p.state = ap (state_after_bad p.state call) is ∙ after_mid p.state call B.Discard m in
        let standing : IsStanding (state_after_bad p.state call (bad_status_of reply)) = subst IsStanding (sym at) h.state in
        elim (free_or_not call) [
          | inl free ↦ inr (
            record {
              frees = free;
              discarded = ap Ok (discarded shape reply (ap (λ (c : Call). grade_of shape c reply) (sym free) ∙ g) is);
            },
            standing,
          )
          | inr other ↦ inl (record {
            state = standing;
            kept = λ full. subst (λ (s : InstanceState). IsKept resumed shape s (saved_by shape call (Ok reply) saved)) (sym at) (subst (IsKept resumed shape p.state) (sym (unsaved call reply g other)) (h.kept full));
          })
        ]

    by_grade : (reply : Reply) (g : Grade) → grade_of shape call reply ≡ g → GoesWith resumed call → Permitted shape p call →
        IsClosable resumed shape (graded shape (counted p call) call reply g) (saved_by shape call (Ok reply) saved)
        ⊎ (IsGivenUp (record { call = call; result = Ok reply }) × IsStanding (graded shape (counted p call) call reply g).state)
    by_grade reply G.Good is goes may = inl (good_closable call reply is m goes may)
    by_grade reply G.Refused is goes may = refused reply (bad_status_of reply) refl is
    by_grade reply G.Misreply is goes may = inl (dead _ _ (after_mid p.state call B.Error m))

    next_closable : (result : Result Reply PeerFault) → GoesWith resumed call → Permitted shape p call → After call result
    next_closable (Err fault) goes may = inl (lost _ _ refl)
    next_closable (Ok reply) goes may = by_grade reply (grade_of shape call reply) refl goes may

-- ---- after a list of exchanges

-- so it stands there
record Left (resumed : Bool) (shape : Shape) (p : Phase) (saved : Bool) (talk : List Exchange) : Type 0 where
  state : IsStanding p.state
  kept : p.slot.is_full ≡ true → IsKept resumed shape p.state saved ⊎ ((saved ≡ false) × EndsKeeping talk)

-- nothing follows a state that was given up
abbrev IsLastGivenUp : List Exchange → Type 0
IsLastGivenUp es = (prefix rest : List Exchange) (e : Exchange) → es ≡ prefix ++ e ∷ rest → IsGivenUp e → rest ≡ []

last_later : (e : Exchange) (es : List Exchange) → IsLastGivenUp (e ∷ es) → IsLastGivenUp es
last_later e es last prefix rest x is = last (e ∷ prefix) rest x (ap (λ (l : List Exchange). e ∷ l) is)

abbrev LeavesSo : Bool → Shape → List Exchange → Phase → Bool → Type 0
LeavesSo resumed shape talk p saved = (talk ≡ []) ⊎ (StartsBadly shape talk ⊎ Left resumed shape p saved talk)

module _ (resumed : Bool) (shape : Shape) (can : shape.can_serialize_state ≡ true → shape.can_save_state ≡ true) where
  one_more : (p : Phase) (saved : Bool) (e : Exchange) (es : List Exchange) → Left resumed shape p saved es → Left resumed shape p saved (e ∷ es)
  one_more p saved e es l = record { state = l.state; kept = λ full. by (l.kept full) } where
    by : IsKept resumed shape p.state saved ⊎ ((saved ≡ false) × EndsKeeping es) → IsKept resumed shape p.state saved ⊎ ((saved ≡ false) × EndsKeeping (e ∷ es))
    by (inl kept) = inl kept
    by (inr (none, k)) = inr (none, record { prefix = e ∷ k.prefix; last = k.last; is = ap (λ (l : List Exchange). e ∷ l) k.is; frees = k.frees; discarded = k.discarded })

  given_up : (q : Phase) (saved : Bool) (e : Exchange) → IsGivenUp e → IsStanding q.state → Left resumed shape q (saved_by shape e.call e.result saved) (e ∷ [])
  given_up q saved e g standing = record {
    state = standing;
    kept = λ full. inr (
      ap (λ (c : Call). saved_by shape c e.result saved) g.frees,
      record { prefix = []; last = e; is = refl; frees = g.frees; discarded = g.discarded },
    );
  }

  left_from : (p : Phase) (saved : Bool) (es : List Exchange) → LegalFrom shape p es → All IsRunCall (calls_in es) → All (GoesWith resumed) (calls_in es) → IsLastGivenUp es → IsClosable resumed shape p saved → Left resumed shape (phase_from shape p es) (saved_after shape saved es) es
  left_from p saved [] legal runs goes last h = record { state = h.state; kept = λ full. inl (h.kept full) }
  left_from p saved (e ∷ es) legal runs goes last h =
      let m = mid_of shape p e.call (All-head IsRunCall e.call (calls_in es) runs) legal.0 h.state in
      let next = next_by shape p e in
      let held = saved_by shape e.call e.result saved in
      elim (next_closable resumed shape can p saved h e.call m e.result (All-head (GoesWith resumed) e.call (calls_in es) goes) legal.0) [
        | inl closable ↦ one_more _ _ e es (left_from next held es legal.1 (All-tail IsRunCall e.call (calls_in es) runs) (All-tail (GoesWith resumed) e.call (calls_in es) goes) (last_later e es last) closable)
        | inr given ↦ subst (λ (l : List Exchange). Left resumed shape (phase_from shape next l) (saved_after shape held l) (e ∷ l)) (sym (last [] es e refl given.0)) (given_up next saved e given.0 given.1)
      ]

  good_or_not : (g : Grade) → (g ≡ G.Good) ⊎ (g ≡ G.Good → ⊥)
  good_or_not G.Good = inl refl
  good_or_not g = inr (λ h. absurd (cc))

  -- an Instantiate that is good makes it
  made : (a b d : Bool) (result : Result Reply PeerFault) → (IsClosable resumed shape (next_of shape (fresh shape) (C.Instantiate a b d) (result_ok result)) false)
      ⊎ (IsGood shape (record { call = C.Instantiate a b d; result = result }) → ⊥)
  made a b d (Err fault) = inr (λ h. h)
  made a b d (Ok reply) = elim (good_or_not (grade_of shape (C.Instantiate a b d) reply)) [
    | inl good ↦ inl (subst (λ (g : Grade). IsClosable resumed shape (graded shape (counted (fresh shape) (C.Instantiate a b d)) (C.Instantiate a b d) reply g) false) (sym good) (record { state = inr refl; kept = λ full. absurd (cc) }))
    | inr bad ↦ inr bad
  ]

  leaves : (es : List Exchange) → LegalFrom shape (fresh shape) es → All IsRunCall (calls_in es) → All (GoesWith resumed) (calls_in es) → IsLastGivenUp es → LeavesSo resumed shape es (phase_from shape (fresh shape) es) (saved_after shape false es)
  leaves [] legal runs goes last = inl refl
  leaves (e ∷ es) legal runs goes last = inr (by e.call (only_start shape e.call legal.0) refl) where
    by : (call : Call) → ((a : Bool) × (b : Bool) × (d : Bool) × (call ≡ C.Instantiate a b d)) → e.call ≡ call → StartsBadly shape (e ∷ es) ⊎ Left resumed shape (phase_from shape (fresh shape) (e ∷ es)) (saved_after shape false (e ∷ es)) (e ∷ es)
    by call (a, b, d, is) same =
        let start : e.call ≡ C.Instantiate a b d = same ∙ is in
        elim (made a b d e.result) [
          | inl closable ↦ inr (one_more _ _ e es (left_from (next_by shape (fresh shape) e) (saved_by shape e.call e.result false) es legal.1 (All-tail IsRunCall e.call (calls_in es) runs) (All-tail (GoesWith resumed) e.call (calls_in es) goes) (last_later e es last)
              (subst (λ (c : Call). IsClosable resumed shape (next_of shape (fresh shape) c (result_ok e.result)) (saved_by shape c e.result false)) (sym start) closable)))
          | inr bad ↦ inl (record { first = e; rest = es; is = refl; bad = subst (λ (c : Call). IsGood shape (record { call = c; result = e.result }) → ⊥) (sym start) bad })
        ]

-- an instance that was new stands so after calls of a run
pub leaves_one : (resumed : Bool) (x : Instance) (es : List Exchange) (y : Instance) → x.view.phase ≡ fresh x.view.fixed.shape → x.has_saved ≡ false → Has x es y → (x.view.fixed.shape.can_serialize_state ≡ true → x.view.fixed.shape.can_save_state ≡ true) → All IsRunCall (calls_in es) → All (GoesWith resumed) (calls_in es) → IsLastGivenUp es → IsLeft y es
leaves_one resumed x es y new none h can runs goes last =
    let shape_is : y.view.fixed.shape ≡ x.view.fixed.shape = ap (λ (f : Fixed). f.shape) (talks_fixed x.view es y.view h.talks) in
    let phase_is : y.view.phase ≡ phase_from x.view.fixed.shape (fresh x.view.fixed.shape) es = talks_phase x.view es y.view h.talks ∙ ap (λ (p : Phase). phase_from x.view.fixed.shape p es) new in
    let saved_is : y.has_saved ≡ saved_after x.view.fixed.shape false es = h.saved ∙ ap (λ (b : Bool). saved_after x.view.fixed.shape b es) none in
    let legal = subst (λ (p : Phase). LegalFrom x.view.fixed.shape p es) new (talks_legal x.view es y.view h.talks) in
    let all : LeavesSo resumed y.view.fixed.shape es y.view.phase y.has_saved =
    subst (λ (s : Shape). LeavesSo resumed s es y.view.phase y.has_saved) (sym shape_is)
    (subst (λ (p : Phase). LeavesSo resumed x.view.fixed.shape es p y.has_saved) (sym phase_is) (subst (LeavesSo resumed x.view.fixed.shape es (phase_from x.view.fixed.shape (fresh x.view.fixed.shape) es)) (sym saved_is) (leaves resumed x.view.fixed.shape can es legal runs goes last))) in
    record { leads = phase_is ∙ ap (λ (s : Shape). phase_from s (fresh s) es) (sym shape_is); stands = by all }
  where
    kept : Left resumed y.view.fixed.shape y.view.phase y.has_saved es → Stands y es
    kept l = record {
      alive = l.state;
      kept = λ full. elim (l.kept full) [
        | inl (inl over) ↦ inl over
        | inl (inr held) ↦ inr (inl (held.0, (place_back resumed y.view.phase.state held.1, held.2, full)))
        | inr given ↦ inr (inr given)
      ];
    }

    by : LeavesSo resumed y.view.fixed.shape es y.view.phase y.has_saved → (es ≡ []) ⊎ (StartsBadly y.view.fixed.shape es ⊎ Stands y es)
    by (inl none) = inl none
    by (inr (inl bad)) = inr (inl bad)
    by (inr (inr l)) = inr (inr (kept l))
