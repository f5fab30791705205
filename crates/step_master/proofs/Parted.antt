-- Whose a call is, by the talks of all, is told by its place: it stands in the run or in the closing.
use Rattle.std.proofs.Common.{◌≡◌, inl, inr, Bool, true, false, List, [], ◌∷◌, ◌++◌, Option, refl, sym, ap, ◌∙◌, subst}
use Rattle.std.specs.Prelude.{All, if◌then◌else◌}
use Rattle.std.proofs.lemmas.List.{append-nil}
use Rattle.std.proofs.lemmas.List.Elements.{All-cons, All-head, All-nil, All-tail}
use Rattle.value_types.specs.declared.shape.Shape.{Shape}
use Rattle.fmi_calls.specs.declared.call.Call.{Call}
use Rattle.fmi_calls.specs.declared.call.Call.TheVariants as C
use Rattle.fmi_calls.specs.KindFacts.{IsRunCall}
use Rattle.fmu_peer.specs.declared.peer.Exchange.{Exchange}
use Rattle.fmu_peer.specs.Close.{SendsInTurn, closing_calls}
use Rattle.fmu_peer.specs.View.{View}
use Rattle.slot_calls.specs.SavedStates.{IsEnding, IsOfClosing, IsParted, LeavesState, Talk, last_step, saved_after, step_or}
use Rattle.slot_calls.proofs.CallerLemmas.{first_same, rest_same}
use Rattle.fmu_peer.specs.Talk.{calls_in}
use Rattle.step_master.proofs.Leaving.{turn_all}
use Rattle.step_master.proofs.FreshLemmas.{all_under}

-- ---- what a closing sends

-- a Free first, where a state is still held, and calls that end the instance
pub data Closes (saved : Bool) (sent : List Exchange) : Type 0 where
  Plainly : All IsEnding (calls_in sent) → Closes saved sent
  Freeing : saved ≡ true → (e : Exchange) (rest : List Exchange) → sent ≡ e ∷ rest → e.call ≡ C.Free → All IsEnding (calls_in rest) → Closes saved sent

all_ending : (P : Call → Type 0) → P C.Terminate → P C.FreeInstance → All P (closing_calls false)
all_ending P terminate free = All-cons P C.Terminate (C.FreeInstance ∷ []) terminate (All-cons P C.FreeInstance [] free (All-nil P))

pub all_closing : (P : Call → Type 0) (spared saved : Bool) → (saved ≡ true → P C.Free) → P C.Terminate → P C.FreeInstance → All P (if spared then [] else closing_calls saved)
all_closing P true saved frees terminate free = All-nil P
all_closing P false true frees terminate free = All-cons P C.Free (closing_calls false) (frees refl) (all_ending P terminate free)
all_closing P false false frees terminate free = all_ending P terminate free

pub turn_closes : (spared saved : Bool) (v : View) (sent : List Exchange) (w : View) → SendsInTurn (if spared then [] else closing_calls saved) v sent w → Closes saved sent
turn_closes true saved v sent w turn = Plainly (turn_all IsEnding [] v sent w (All-nil IsEnding) turn)
turn_closes false false v sent w turn = Plainly (turn_all IsEnding (closing_calls false) v sent w (all_ending IsEnding tt tt) turn)
turn_closes false true v sent w (inl (may, (result, rest, mid, is, asked, more))) =
    Freeing refl (record { call = C.Free; result = result }) rest is refl (turn_all IsEnding (closing_calls false) mid rest w (all_ending IsEnding tt tt) more)
turn_closes false true v sent w (inr (never, more)) = Plainly (turn_all IsEnding (closing_calls false) v sent w (all_ending IsEnding tt tt) more)

-- ---- whose each is

module _ (talks : List Talk) (shape : Shape) where
  ending_of_closing : (prefix : List Exchange) (call : Call) (rest : List Exchange) → IsEnding call → IsOfClosing talks shape prefix call rest
  ending_of_closing prefix C.Free rest ends = absurd ends
  ending_of_closing prefix call rest ends = ends

  not_free : (prefix : List Exchange) (call : Call) (rest : List Exchange) → IsRunCall call → (call ≡ C.Free → IsOfClosing talks shape prefix C.Free rest → ⊥) → IsOfClosing talks shape prefix call rest → ⊥
  not_free prefix C.Free rest run h o = h refl o
  not_free prefix C.Terminate rest run h o = absurd (cc)
  not_free prefix C.FreeInstance rest run h o = absurd (cc)
  not_free prefix call rest run h o = o

none_ends : (call : Call) → IsRunCall call → IsEnding call → ⊥
none_ends C.Terminate run ends = absurd (cc)
none_ends C.FreeInstance run ends = absurd (cc)
none_ends call run ends = ends

-- what holds of the calls of a talk holds of one of them, and of those after it
all_after : (P : Call → Type 0) (prefix rest : List Exchange) (e : Exchange) (all : List Exchange) → all ≡ prefix ++ e ∷ rest → All P (calls_in all) → All P (e.call ∷ calls_in rest)
all_after P [] rest e all is rs = subst (λ (l : List Exchange). All P (calls_in l)) is rs
all_after P (x ∷ prefix) rest e all is rs = all_after P prefix rest e (prefix ++ e ∷ rest) refl (All-tail P x.call (calls_in (prefix ++ e ∷ rest)) (subst (λ (l : List Exchange). All P (calls_in l)) is rs))

module _ (talks : List Talk) (shape : Shape) (run closing : List Exchange) (runs : All IsRunCall (calls_in run)) (leaves : LeavesState talks shape run) where
  of_run : (prefix rest : List Exchange) (e : Exchange) → run ≡ prefix ++ e ∷ rest → IsOfClosing talks shape prefix e.call (rest ++ closing) → ⊥
  of_run prefix rest e is = not_free talks shape prefix e.call (rest ++ closing) (All-head IsRunCall e.call (calls_in rest) here) (free rest refl) where
    here : All IsRunCall (e.call ∷ calls_in rest)
    here = all_after IsRunCall prefix rest e run is runs

    free : (more : List Exchange) → more ≡ rest → e.call ≡ C.Free → IsOfClosing talks shape prefix C.Free (rest ++ closing) → ⊥
    free [] none frees o =
        elim (leaves.freed prefix e (is ∙ ap (λ (l : List Exchange). prefix ++ e ∷ l) (sym none)) frees) [
          | inl served ↦ absurd (let same : true ≡ false = sym served ∙ o.1 in cc)
          | inr met ↦ elim o.2 [
            | inl apart ↦ apart met.0
            | inr unstepped ↦ absurd (let same : true ≡ false = sym met.1 ∙ unstepped in cc)
          ]
        ]
    free (x ∷ more) some frees o =
        none_ends x.call (All-head IsRunCall x.call (calls_in more) (All-tail IsRunCall e.call (calls_in (x ∷ more)) (subst (λ (l : List Exchange). All IsRunCall (e.call ∷ calls_in l)) (sym some) here)))
        (All-head (λ (y : Exchange). IsEnding y.call) x (more ++ closing) (subst (λ (l : List Exchange). All (λ (y : Exchange). IsEnding y.call) (l ++ closing)) (sym some) o.0))

  ending_at : (prefix rest : List Exchange) (e : Exchange) (all : List Exchange) → all ≡ prefix ++ e ∷ rest → All IsEnding (calls_in all) → IsEnding e.call
  ending_at prefix rest e all is es = All-head IsEnding e.call (calls_in rest) (all_after IsEnding prefix rest e all is es)

  of_closing : Closes (saved_after shape false run) closing → (prefix rest : List Exchange) (e : Exchange) → closing ≡ prefix ++ e ∷ rest → IsOfClosing talks shape (run ++ prefix) e.call rest
  of_closing (Plainly all) prefix rest e is = ending_of_closing talks shape (run ++ prefix) e.call rest (ending_at prefix rest e closing is all)
  of_closing (Freeing held f more sent frees all) [] rest e is =
      let same : f ∷ more ≡ e ∷ rest = sym sent ∙ is in
      subst (λ (l : List Exchange). IsOfClosing talks shape l e.call rest) (sym (append-nil run))
      (subst (λ (c : Call). IsOfClosing talks shape run c rest) (sym frees ∙ ap (λ (x : Exchange). x.call) (first_same f e more rest same))
      (all_under (λ (x : Exchange). x.call) IsEnding rest (calls_in rest) refl (subst (λ (l : List Exchange). All IsEnding (calls_in l)) (rest_same f e more rest same) all), (leaves.held held).0, (leaves.held held).1))
  of_closing (Freeing held f more sent frees all) (x ∷ prefix) rest e is =
      ending_of_closing talks shape (run ++ x ∷ prefix) e.call rest (ending_at prefix rest e more (rest_same f x more (prefix ++ e ∷ rest) (sym sent ∙ is)) all)

  -- each call of the run is the run's, and each of the closing the closing's
  pub is_parted : Closes (saved_after shape false run) closing → IsParted talks shape run closing
  is_parted closes = record { of_run = of_run; of_closing = of_closing closes }

-- ---- the steps of a talk are those of its run

no_step : (call : Call) → IsEnding call → (e : Exchange) (o : Option Exchange) → e.call ≡ call → last_step o (e ∷ []) ≡ o
no_step C.Terminate ends e o is = ap (λ (c : Call). step_or e c o) is
no_step C.FreeInstance ends e o is = ap (λ (c : Call). step_or e c o) is
no_step call ends e o is = absurd ends

ending_steps : (es : List Exchange) (o : Option Exchange) → All IsEnding (calls_in es) → last_step o es ≡ o
ending_steps [] o all = refl
ending_steps (e ∷ es) o all =
    ap (λ (p : Option Exchange). last_step p es) (no_step e.call (All-head IsEnding e.call (calls_in es) all) e o refl) ∙ ending_steps es o (All-tail IsEnding e.call (calls_in es) all)

pub closing_steps : (saved : Bool) (es : List Exchange) (o : Option Exchange) → Closes saved es → last_step o es ≡ o
closing_steps saved es o (Plainly all) = ending_steps es o all
closing_steps saved es o (Freeing held e rest is frees all) =
    ap (last_step o) is ∙ ap (λ (c : Call). last_step (step_or e c o) rest) frees ∙ ending_steps rest o all
