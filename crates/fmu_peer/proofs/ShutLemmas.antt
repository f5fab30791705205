-- As a run leaves it, an instance is closed by what the closing sends.
use Rattle.std.proofs.Common.{◌≡◌, ◌⊎◌, inl, inr, Bool, true, false, List, [], ◌∷◌, ◌++◌, Result, Ok, Err, refl, sym, ap, ◌∙◌, subst, append_assoc}
use Rattle.std.specs.Prelude.{IsTrue, if◌then◌else◌, not}
use Rattle.std.proofs.lemmas.List.{append-nil}
use Rattle.value_types.specs.declared.shape.Shape.{Shape}
use Rattle.fmi_calls.specs.declared.call.Call.{Call}
use Rattle.fmi_calls.specs.declared.call.Call.TheVariants as C
use Rattle.fmi_calls.specs.declared.call.Kind.{Kind}
use Rattle.fmi_calls.specs.declared.call.Kind.TheVariants as K
use Rattle.fmi_calls.specs.declared.call.Reply.{Reply}
use Rattle.fmi_calls.specs.declared.call.Reply.TheVariants as R
use Rattle.fmi_calls.specs.declared.call.BadStatus.{BadStatus}
use Rattle.fmi_calls.specs.declared.call.BadStatus.TheVariants.{Discard, Error, Fatal}
use Rattle.fmi_calls.specs.declared.call.Grade.{Grade}
use Rattle.fmi_calls.specs.declared.call.Grade.TheVariants as G
use Rattle.fmi_calls.specs.declared.phase.Phase.{Phase}
use Rattle.fmi_calls.specs.declared.phase.InstanceState.{InstanceState}
use Rattle.fmi_calls.specs.declared.phase.InstanceState.TheVariants as P
use Rattle.fmi_calls.specs.KindFacts.{same_kind}
use Rattle.fmi_calls.specs.Permission.{Permitted, can_be_freed, is_running, can_go_back}
use Rattle.fmi_calls.specs.Worth.{grade_of, is_valid}
use Rattle.fmi_calls.specs.Next.{fresh, graded, counted, state_after_bad}
use Rattle.fmi_calls.specs.Kinds.{bad_status_of}
use Rattle.fmi_calls.proofs.CallerLemmas.{same_kind-is}
use Rattle.fmu_peer.specs.declared.peer.Exchange.{Exchange}
use Rattle.fmu_peer.specs.declared.peer.PeerFault.{PeerFault}
use Rattle.fmu_peer.specs.Close.{SendsInTurn, closing_calls}
use Rattle.fmu_peer.specs.CloseAll.{Instance, IsLeft, Stands}
use Rattle.fmu_peer.specs.Mode.{is_over}
use Rattle.fmu_peer.specs.Talk.{Closed, IsShut, EndsKeeping, phase_from, next_by}
use Rattle.fmu_peer.specs.View.{View, Asked, Fixed}
use Rattle.fmu_peer.proofs.TalkLemmas.{phase_from-append}

-- ---- what can be freed

never_is : (b : Bool) → (IsTrue b → ⊥) → b ≡ false
never_is true never = absurd (never refl)
never_is false never = refl

freeable : (s : InstanceState) (full : Bool) → can_be_freed s false ≡ true → (full ≡ false) ⊎ (is_over s ≡ true) → can_be_freed s full ≡ true
freeable s full may (inl empty) = ap (can_be_freed s) empty ∙ may
freeable P.Dead full may (inr over) = refl
freeable P.Lost full may (inr over) = may
freeable P.Fresh full may (inr over) = absurd (cc)
freeable P.Instantiated full may (inr over) = absurd (cc)
freeable P.Initialization full may (inr over) = absurd (cc)
freeable P.Event full may (inr over) = absurd (cc)
freeable P.Step full may (inr over) = absurd (cc)
freeable P.Terminated full may (inr over) = absurd (cc)
freeable P.Gone full may (inr over) = absurd (cc)

-- after Initialization Mode an instance can be freed where it keeps no state
freed_running : (s : InstanceState) (full : Bool) → is_running s ≡ true → can_be_freed s full ≡ not full
freed_running P.Event full at = refl
freed_running P.Step full at = refl
freed_running P.Fresh full at = absurd (cc)
freed_running P.Instantiated full at = absurd (cc)
freed_running P.Initialization full at = absurd (cc)
freed_running P.Terminated full at = absurd (cc)
freed_running P.Dead full at = absurd (cc)
freed_running P.Lost full at = absurd (cc)
freed_running P.Gone full at = absurd (cc)

empty_if_not : (full : Bool) → not full ≡ true → full ≡ false
empty_if_not true may = absurd (cc)
empty_if_not false may = refl

-- freed there, the instance keeps no state
empty_at_step : (s : InstanceState) (full : Bool) → is_running s ≡ true → can_be_freed s full ≡ true → full ≡ false
empty_at_step s full at may = empty_if_not full (sym (freed_running s full at) ∙ may)

-- ---- after Terminate

step_is_freeable : (s : InstanceState) (full : Bool) → is_running s ≡ true → full ≡ false → can_be_freed s full ≡ true
step_is_freeable s full at empty = freed_running s full at ∙ ap not empty

stuck_refused : (status : BadStatus) (p : Phase) → is_running p.state ≡ true → p.slot.is_full ≡ false → can_be_freed (state_after_bad p.state C.Terminate status) p.slot.is_full ≡ false →
    state_after_bad p.state C.Terminate status ≡ P.Lost
stuck_refused Discard p at empty stuck = let free : can_be_freed p.state p.slot.is_full ≡ true = step_is_freeable p.state p.slot.is_full at empty in absurd (cc)
stuck_refused Error p at empty stuck = absurd (cc)
stuck_refused Fatal p at empty stuck = refl

stuck_after : (shape : Shape) (p : Phase) (reply : Reply) (g : Grade) → is_running p.state ≡ true → p.slot.is_full ≡ false →
    can_be_freed (graded shape p C.Terminate reply g).state (graded shape p C.Terminate reply g).slot.is_full ≡ false →
    (graded shape p C.Terminate reply g).state ≡ P.Lost
stuck_after shape p reply G.Good at empty stuck = let free : not p.slot.is_full ≡ true = subst (λ (b : Bool). not b ≡ true) (sym empty) refl in absurd (cc)
stuck_after shape p reply G.Refused at empty stuck = stuck_refused (bad_status_of reply) p at empty stuck
stuck_after shape p reply G.Misreply at empty stuck = absurd (cc)

-- after Terminate an instance that can't be freed is lost
pub stuck_is_lost : (u mid : View) (result : Result Reply PeerFault) → Asked u C.Terminate result mid → is_running u.phase.state ≡ true → u.phase.slot.is_full ≡ false →
    can_be_freed mid.phase.state mid.phase.slot.is_full ≡ false → mid.phase.state ≡ P.Lost
stuck_is_lost u mid (Ok reply) a at empty stuck =
    ap (λ (p : Phase). p.state) a.phase
    ∙ stuck_after u.fixed.shape (counted u.phase C.Terminate) reply (grade_of u.fixed.shape C.Terminate reply) at empty
    (subst (λ (p : Phase). can_be_freed p.state p.slot.is_full ≡ false) a.phase stuck)
stuck_is_lost u mid (Err fault) a at empty stuck = ap (λ (p : Phase). p.state) a.phase

-- ---- talks that are shut

freed_last : (shape : Shape) (p : Phase) (talk : List Exchange) (e : Exchange) → e.call ≡ C.FreeInstance → (is_running (phase_from shape p talk).state ≡ true → ⊥) → IsShut shape p (talk ++ e ∷ [])
freed_last shape p talk e call never = inr (inl (record { prefix = talk; last = e; is = refl; frees = call; terminated = λ at. absurd (never at) }))

freed_terminated : (shape : Shape) (p : Phase) (talk : List Exchange) (t e : Exchange) → t.call ≡ C.Terminate → e.call ≡ C.FreeInstance → IsShut shape p (talk ++ t ∷ e ∷ [])
freed_terminated shape p talk t e first second = inr (inl (record {
  prefix = talk ++ t ∷ [];
  last = e;
  is = sym (append_assoc talk (t ∷ []) (e ∷ []));
  frees = second;
  terminated = λ at. (talk, t, refl, first);
}))

-- an exchange more leads to the phase after it
leads_on : (u mid : View) (c : Call) (r : Result Reply PeerFault) (p : Phase) (talk : List Exchange) → u.phase ≡ phase_from u.fixed.shape p talk → Asked u c r mid →
    mid.phase ≡ phase_from u.fixed.shape p (talk ++ record { call = c; result = r } ∷ [])
leads_on u mid c r p talk leads a =
    a.phase ∙ ap (λ (q : Phase). next_by u.fixed.shape q (record { call = c; result = r })) leads ∙ sym (phase_from-append u.fixed.shape p talk (record { call = c; result = r }))

-- ---- Terminate and FreeInstance

after_terminate : (u mid w : View) (r : Result Reply PeerFault) (rest : List Exchange) (p : Phase) (talk : List Exchange) → u.phase ≡ phase_from u.fixed.shape p talk →
    Permitted u.fixed.shape u.phase C.Terminate → Asked u C.Terminate r mid → SendsInTurn (C.FreeInstance ∷ []) mid rest w → IsShut u.fixed.shape p (talk ++ record { call = C.Terminate; result = r } ∷ rest)
after_terminate u mid w r rest p talk leads may asked (inl (free, (s, more, last, is, second, (none, same)))) =
    subst (λ (es : List Exchange). IsShut u.fixed.shape p (talk ++ record { call = C.Terminate; result = r } ∷ es))
    (sym (is ∙ ap (λ (es : List Exchange). record { call = C.FreeInstance; result = s } ∷ es) none))
    (freed_terminated u.fixed.shape p talk (record { call = C.Terminate; result = r }) (record { call = C.FreeInstance; result = s }) refl refl)
after_terminate u mid w r rest p talk leads may asked (inr (never, (none, same))) =
    subst (λ (es : List Exchange). IsShut u.fixed.shape p (talk ++ record { call = C.Terminate; result = r } ∷ es)) (sym none)
    (inl (ap (λ (q : Phase). q.state) (sym (leads_on u mid C.Terminate r p talk leads asked))
    ∙ stuck_is_lost u mid r asked may.0 may.1 (never_is (can_be_freed mid.phase.state mid.phase.slot.is_full) never)))

free_last : (u w : View) (sent : List Exchange) (p : Phase) (talk : List Exchange) → (is_running (phase_from u.fixed.shape p talk).state ≡ true → ⊥) →
    ((can_be_freed u.phase.state u.phase.slot.is_full ≡ true → ⊥) → IsShut u.fixed.shape p talk) → SendsInTurn (C.FreeInstance ∷ []) u sent w → IsShut u.fixed.shape p (talk ++ sent)
free_last u w sent p talk no_step stuck (inl (may, (r, more, last, is, asked, (none, same)))) =
    subst (λ (es : List Exchange). IsShut u.fixed.shape p (talk ++ es)) (sym (is ∙ ap (λ (es : List Exchange). record { call = C.FreeInstance; result = r } ∷ es) none))
    (freed_last u.fixed.shape p talk (record { call = C.FreeInstance; result = r }) refl no_step)
free_last u w sent p talk no_step stuck (inr (never, (none, same))) =
    subst (IsShut u.fixed.shape p) (sym (ap (λ (es : List Exchange). talk ++ es) none ∙ append-nil talk)) (stuck never)

lost_if_stuck : (u : View) → (u.phase.state ≡ P.Lost) ⊎ (can_be_freed u.phase.state false ≡ true) → (u.phase.slot.is_full ≡ false) ⊎ (is_over u.phase.state ≡ true) →
    (can_be_freed u.phase.state u.phase.slot.is_full ≡ true → ⊥) → u.phase.state ≡ P.Lost
lost_if_stuck u (inl lost) free never = lost
lost_if_stuck u (inr may) free never = absurd (never (freeable u.phase.state u.phase.slot.is_full may free))

never_over : (s : InstanceState) → is_running s ≡ true → is_over s ≡ true → ⊥
never_over P.Fresh at over = cc
never_over P.Instantiated at over = cc
never_over P.Initialization at over = cc
never_over P.Event at over = cc
never_over P.Step at over = cc
never_over P.Terminated at over = cc
never_over P.Dead at over = cc
never_over P.Lost at over = cc
never_over P.Gone at over = cc

not_at_step : (u : View) → (u.phase.slot.is_full ≡ false) ⊎ (is_over u.phase.state ≡ true) → (Permitted u.fixed.shape u.phase C.Terminate → ⊥) → is_running u.phase.state ≡ true → ⊥
not_at_step u (inl empty) never at = never (at, empty)
not_at_step u (inr over) never at = absurd (never_over u.phase.state at over)

end_shut : (u w : View) (sent : List Exchange) (p : Phase) (talk : List Exchange) → u.phase ≡ phase_from u.fixed.shape p talk →
    (u.phase.state ≡ P.Lost) ⊎ (can_be_freed u.phase.state false ≡ true) → (u.phase.slot.is_full ≡ false) ⊎ (is_over u.phase.state ≡ true) →
    SendsInTurn (closing_calls false) u sent w → IsShut u.fixed.shape p (talk ++ sent)
end_shut u w sent p talk leads alive free (inl (may, (r, rest, mid, is, asked, more))) =
    subst (λ (es : List Exchange). IsShut u.fixed.shape p (talk ++ es)) (sym is) (after_terminate u mid w r rest p talk leads may asked more)
end_shut u w sent p talk leads alive free (inr (never, more)) =
    let state : u.phase.state ≡ (phase_from u.fixed.shape p talk).state = ap (λ (q : Phase). q.state) leads in
    free_last u w sent p talk (λ at. not_at_step u free never (ap is_running state ∙ at))
    (λ stuck. inl (sym state ∙ lost_if_stuck u alive free stuck)) more

-- a talk that ends with a Free that was answered Discard
keeps_shut : (u w : View) (sent : List Exchange) (p : Phase) (talk : List Exchange) → u.phase ≡ phase_from u.fixed.shape p talk → u.phase.slot.is_full ≡ true → EndsKeeping talk →
    SendsInTurn (closing_calls false) u sent w → IsShut u.fixed.shape p (talk ++ sent)
keeps_shut u w sent p talk leads full keeping (inl (may, more)) = absurd (let wrong : true ≡ false = sym full ∙ may.1 in cc)
keeps_shut u w sent p talk leads full keeping (inr (never, inl (may, (r, rest, last, is, asked, (none, same))))) =
    subst (λ (es : List Exchange). IsShut u.fixed.shape p (talk ++ es)) (sym (is ∙ ap (λ (es : List Exchange). record { call = C.FreeInstance; result = r } ∷ es) none))
    (freed_last u.fixed.shape p talk (record { call = C.FreeInstance; result = r }) refl (λ at.
    let empty : u.phase.slot.is_full ≡ false = empty_at_step u.phase.state u.phase.slot.is_full (ap (λ (q : Phase). is_running q.state) leads ∙ at) may in
    let wrong : true ≡ false = sym full ∙ empty in absurd (cc)))
keeps_shut u w sent p talk leads full keeping (inr (never, inr (stuck, (none, same)))) =
    subst (IsShut u.fixed.shape p) (sym (ap (λ (es : List Exchange). talk ++ es) none ∙ append-nil talk)) (inr (inr keeping))

-- ---- Free

if_not_refused : (b : Bool) → (if b then G.Good else G.Misreply) ≡ G.Refused → ⊥
if_not_refused true e = cc
if_not_refused false e = cc

was_refused : (b : Bool) → (if b then G.Refused else G.Misreply) ≡ G.Refused → b ≡ true
was_refused true e = refl
was_refused false e = absurd (cc)

kind_free : (shape : Shape) (kind : Kind) (status : BadStatus) → grade_of shape C.Free (R.Refused kind status) ≡ G.Refused → kind ≡ K.Free
kind_free shape kind status e = same_kind-is kind K.Free (was_refused (same_kind kind K.Free) e)

discard_of : (shape : Shape) (reply : Reply) → grade_of shape C.Free reply ≡ G.Refused → bad_status_of reply ≡ Discard → reply ≡ R.Refused K.Free Discard
discard_of shape (R.Done is_warning content) e d = absurd (if_not_refused (is_valid shape C.Free content) e)
discard_of shape (R.Refused kind status) e d = ap (λ (k : Kind). R.Refused k status) (kind_free shape kind status e) ∙ ap (R.Refused K.Free) d

-- after Free the state isn't kept, or it was answered Discard
pub data AfterFree (q : Phase) (r : Result Reply PeerFault) : Type 0 where
  Freed : (q.slot.is_full ≡ false) ⊎ (is_over q.state ≡ true) → (q.state ≡ P.Lost) ⊎ (can_be_freed q.state false ≡ true) → AfterFree q r
  Kept : q.slot.is_full ≡ true → r ≡ Ok (R.Refused K.Free Discard) → AfterFree q r

after_refused : (shape : Shape) (p : Phase) (reply : Reply) (status : BadStatus) → bad_status_of reply ≡ status → grade_of shape C.Free reply ≡ G.Refused → p.slot.is_full ≡ true →
    AfterFree (record p { state = state_after_bad p.state C.Free status }) (Ok reply)
after_refused shape p reply Discard d e full = Kept full (ap Ok (discard_of shape reply e d))
after_refused shape p reply Error d e full = Freed (inr refl) (inr refl)
after_refused shape p reply Fatal d e full = Freed (inr refl) (inl refl)

-- where a state may be gone back to, the instance may be freed without it
goes_freed : (state : InstanceState) → can_go_back state ≡ true → can_be_freed state false ≡ true
goes_freed P.Fresh at = absurd (cc)
goes_freed P.Instantiated at = refl
goes_freed P.Initialization at = absurd (cc)
goes_freed P.Event at = absurd (cc)
goes_freed P.Step at = refl
goes_freed P.Terminated at = absurd (cc)
goes_freed P.Dead at = absurd (cc)
goes_freed P.Lost at = absurd (cc)
goes_freed P.Gone at = absurd (cc)

after_graded : (shape : Shape) (p : Phase) (reply : Reply) (g : Grade) → grade_of shape C.Free reply ≡ g → can_go_back p.state ≡ true → p.slot.is_full ≡ true → AfterFree (graded shape p C.Free reply g) (Ok reply)
after_graded shape p reply G.Good e at full = Freed (inl refl) (inr (goes_freed p.state at))
after_graded shape p reply G.Refused e at full = after_refused shape p reply (bad_status_of reply) refl e full
after_graded shape p reply G.Misreply e at full = Freed (inr refl) (inr refl)

after_free : (u mid : View) (r : Result Reply PeerFault) → Permitted u.fixed.shape u.phase C.Free → Asked u C.Free r mid → AfterFree mid.phase r
after_free u mid (Ok reply) may a =
    subst (λ (q : Phase). AfterFree q (Ok reply)) (sym a.phase)
    (after_graded u.fixed.shape (counted u.phase C.Free) reply (grade_of u.fixed.shape C.Free reply) refl may.0 may.2)
after_free u mid (Err fault) may a =
    subst (λ (q : Phase). AfterFree q (Err fault)) (sym a.phase) (Freed (inr refl) (inl refl))

rest_after_free : (u mid w : View) (r : Result Reply PeerFault) (rest : List Exchange) (p : Phase) (talk : List Exchange) → mid.fixed.shape ≡ u.fixed.shape →
    mid.phase ≡ phase_from u.fixed.shape p (talk ++ record { call = C.Free; result = r } ∷ []) → AfterFree mid.phase r → SendsInTurn (closing_calls false) mid rest w →
    IsShut u.fixed.shape p (talk ++ record { call = C.Free; result = r } ∷ rest)
rest_after_free u mid w r rest p talk same leads (Freed free alive) more =
    subst (IsShut u.fixed.shape p) (append_assoc talk (record { call = C.Free; result = r } ∷ []) rest)
    (subst (λ (s : Shape). IsShut s p ((talk ++ record { call = C.Free; result = r } ∷ []) ++ rest)) same
    (end_shut mid w rest p (talk ++ record { call = C.Free; result = r } ∷ [])
    (leads ∙ ap (λ (s : Shape). phase_from s p (talk ++ record { call = C.Free; result = r } ∷ [])) (sym same)) alive free more))
rest_after_free u mid w r rest p talk same leads (Kept full discarded) more =
    subst (IsShut u.fixed.shape p) (append_assoc talk (record { call = C.Free; result = r } ∷ []) rest)
    (subst (λ (s : Shape). IsShut s p ((talk ++ record { call = C.Free; result = r } ∷ []) ++ rest)) same
    (keeps_shut mid w rest p (talk ++ record { call = C.Free; result = r } ∷ [])
    (leads ∙ ap (λ (s : Shape). phase_from s p (talk ++ record { call = C.Free; result = r } ∷ [])) (sym same)) full
    (record { prefix = talk; last = record { call = C.Free; result = r }; is = refl; frees = refl; discarded = discarded }) more))

-- ---- an instance that was made

module _ (i : Instance) (w : View) (sent : List Exchange) (p : Phase) (talk : List Exchange) (leads : i.view.phase ≡ phase_from i.view.fixed.shape p talk) (h : Stands i talk) where
  shut_unheld : (full : Bool) → i.view.phase.slot.is_full ≡ full → i.has_saved ≡ false → SendsInTurn (closing_calls false) i.view sent w → IsShut i.view.fixed.shape p (talk ++ sent)
  shut_unheld false e saved more = end_shut i.view w sent p talk leads h.alive (inl e) more
  shut_unheld true e saved more = elim (h.kept e) [
    | inl over ↦ end_shut i.view w sent p talk leads h.alive (inr over) more
    | inr (inl held) ↦ absurd (let wrong : false ≡ true = sym saved ∙ held.0 in cc)
    | inr (inr keeping) ↦ keeps_shut i.view w sent p talk leads e keeping.1 more
  ]

  shut_held : (full : Bool) → i.view.phase.slot.is_full ≡ full → i.has_saved ≡ true → SendsInTurn (closing_calls true) i.view sent w → IsShut i.view.fixed.shape p (talk ++ sent)
  shut_held full e saved (inl (may, (r, rest, mid, is, asked, more))) =
      subst (λ (es : List Exchange). IsShut i.view.fixed.shape p (talk ++ es)) (sym is)
      (rest_after_free i.view mid w r rest p talk (ap (λ (f : Fixed). f.shape) asked.fixed) (leads_on i.view mid C.Free r p talk leads asked) (after_free i.view mid r may asked) more)
  shut_held false e saved (inr (never, more)) = end_shut i.view w sent p talk leads h.alive (inl e) more
  shut_held true e saved (inr (never, more)) = elim (h.kept e) [
    | inl over ↦ end_shut i.view w sent p talk leads h.alive (inr over) more
    | inr (inl held) ↦ absurd (never held.1)
    | inr (inr keeping) ↦ absurd (let wrong : true ≡ false = sym saved ∙ keeping.0 in cc)
  ]

  shut : (saved : Bool) → i.has_saved ≡ saved → SendsInTurn (closing_calls saved) i.view sent w → IsShut i.view.fixed.shape p (talk ++ sent)
  shut true e more = shut_held i.view.phase.slot.is_full refl e more
  shut false e more = shut_unheld i.view.phase.slot.is_full refl e more

-- ---- one that wasn't called

fresh_ends_none : (v w : View) (sent : List Exchange) → v.phase.state ≡ P.Fresh → SendsInTurn (closing_calls false) v sent w → sent ≡ []
fresh_ends_none v w sent is (inl (may, more)) = absurd (let wrong : is_running P.Fresh ≡ true = ap is_running (sym is) ∙ may.0 in cc)
fresh_ends_none v w sent is (inr (never, inl (may, more))) =
    absurd (let wrong : can_be_freed P.Fresh v.phase.slot.is_full ≡ true = subst (λ (s : InstanceState). can_be_freed s v.phase.slot.is_full ≡ true) is may in cc)
fresh_ends_none v w sent is (inr (never, inr (stuck, (none, same)))) = none

fresh_sends_none : (v w : View) (sent : List Exchange) (saved : Bool) → v.phase.state ≡ P.Fresh → SendsInTurn (closing_calls saved) v sent w → sent ≡ []
fresh_sends_none v w sent true is (inl (may, more)) = absurd (let wrong : can_go_back P.Fresh ≡ true = ap can_go_back (sym is) ∙ may.0 in cc)
fresh_sends_none v w sent true is (inr (never, more)) = fresh_ends_none v w sent is more
fresh_sends_none v w sent false is more = fresh_ends_none v w sent is more

-- as a run leaves it, an instance is closed by the calls of the closing
pub closed_by : (i : Instance) (w : View) (sent : List Exchange) (talk : List Exchange) → IsLeft i talk → SendsInTurn (closing_calls i.has_saved) i.view sent w → Closed i.view.fixed.shape (talk ++ sent)
closed_by i w sent talk left more = elim left.stands [
  | inl none ↦ inl (ap (λ (es : List Exchange). es ++ sent) none ∙ fresh_sends_none i.view w sent i.has_saved
      (ap (λ (q : Phase). q.state) (left.leads ∙ ap (phase_from i.view.fixed.shape (fresh i.view.fixed.shape)) none)) more)
  | inr (inl bad) ↦ inr (inl (record { first = bad.first; rest = bad.rest ++ sent; is = ap (λ (es : List Exchange). es ++ sent) bad.is; bad = bad.bad }))
  | inr (inr stands) ↦ inr (inr (shut i w sent (fresh i.view.fixed.shape) talk left.leads stands i.has_saved refl more))
]
