-- Where the exchanges of a told machine leave it, and what a resumed one was led back to.
use Rattle.std.proofs.Common.{◌≡◌, ℕ, List, [], ◌∷◌, Option, Some, None, Result, Ok, Err, sym, ap, ◌∙◌, subst, length}
use Rattle.std.specs.Prelude.{MatchResult}
use Rattle.std.proofs.lemmas.List.Elements.{All-head, All-tail}
use Rattle.fmi_calls.specs.declared.call.Call.{Call}
use Rattle.fmi_calls.specs.declared.call.Call.TheVariants as C
use Rattle.fmi_calls.specs.declared.call.Grade.TheVariants as G
use Rattle.fmi_calls.specs.declared.call.Reply.{Reply}
use Rattle.fmi_calls.specs.Worth.{grade_of}
use Rattle.fmu_peer.specs.declared.peer.Exchange.{Exchange}
use Rattle.fmu_peer.specs.declared.peer.PeerFault.{PeerFault}
use Rattle.fmu_peer.specs.Machine.{Machine, MachineState, SavedMachine, after, kept}
use Rattle.fmu_peer.specs.Talk as T
use Rattle.fmu_peer.specs.View.{AnswersAs, Asked, Fixed, TakesIn, View}
use Rattle.slot_calls.specs.Keeping.{WasRestored}
use Rattle.slot_calls.specs.Log.{Talks}
use Rattle.slot_calls.specs.Replies.{state_by}

module _ (m : Machine) where
  -- a view tells the machine in this state
  pub record Tells (v : View) (s : MachineState) : Type 0 where
    pub machine : v.fixed.machine ≡ Some m
    pub state : v.state ≡ Some s

  -- after a call with a reply
  pub told_after : (v w : View) (call : Call) (reply : Reply) (s : MachineState) → Asked v call (Ok reply) w → Tells v s → Tells w (after m s call)
  told_after v w call reply s asked t =
      let here : AnswersAs (Some m) (Some s) call (Ok reply) w.state =
      subst (λ (o : Option MachineState). AnswersAs (Some m) o call (Ok reply) w.state) t.state (subst (λ (o : Option Machine). AnswersAs o v.state call (Ok reply) w.state) t.machine asked.state) in
      record { machine = ap (λ (f : Fixed). f.machine) asked.fixed ∙ t.machine; state = here.1 }

  told_good : (v w : View) (e : Exchange) (s : MachineState) (r : Result Reply PeerFault) → Asked v e.call r w → MatchResult r (λ reply. grade_of v.fixed.shape e.call reply ≡ G.Good) (λ fault. ⊥) → Tells v s → Tells w (after m s e.call)
  told_good v w e s (Ok reply) asked good t = told_after v w e.call reply s asked t
  told_good v w e s (Err fault) asked good t = absurd good

  -- after good exchanges
  pub told_after_all : (v : View) (es : List Exchange) (w : View) (s : MachineState) → Talks v es w → T.AllGood v.fixed.shape es → Tells v s → Tells w (state_by m s es)
  told_after_all v [] w s same good t = subst (λ (x : View). Tells x s) (sym same) t
  told_after_all v (e ∷ es) w s (mid, may, asked, rest) good t =
      told_after_all mid es w (after m s e.call) rest
      (subst (λ (f : Fixed). T.AllGood f.shape es) (sym asked.fixed) (All-tail (T.IsGood v.fixed.shape) e es good))
      (told_good v mid e s e.result asked (All-head (T.IsGood v.fixed.shape) e es good) t)

  -- led back to what bytes are read back as
  pub told_back : (point stop : ℕ) (bytes : List ℕ) (v w : View) (s u : MachineState) → WasRestored point stop bytes v w → u.slot ≡ None → m.packing.unpack bytes ≡ Some (kept u) → Tells v s → Tells w u
  told_back point stop bytes v w s u back empty read t =
      let call : Call = C.Deserialize (length bytes) point stop in
      let here : TakesIn (Some m) (Some s) call bytes (Ok back.in_reply) back.taken.state =
      subst (λ (o : Option MachineState). TakesIn (Some m) o call bytes (Ok back.in_reply) back.taken.state) t.state
      (subst (λ (o : Option Machine). TakesIn o v.state call bytes (Ok back.in_reply) back.taken.state) t.machine back.deserialized.asked.state) in
      let taken : Tells back.taken (record s { slot = Some (kept u) }) = record {
        machine = ap (λ (f : Fixed). f.machine) back.deserialized.asked.fixed ∙ t.machine;
        state = here.1 ∙ ap (λ (o : Option SavedMachine). Some (record s { slot = o })) read;
      } in
      let restored = told_after back.taken back.back C.Restore back.back_reply (record s { slot = Some (kept u) }) back.restored.asked taken in
      let freed = told_after back.back w C.Free back.free_reply (after m (record s { slot = Some (kept u) }) C.Restore) back.freed.asked restored in
      record { machine = freed.machine; state = freed.state ∙ ap (λ (o : Option SavedMachine). Some (record u { slot = o })) (sym empty) }
