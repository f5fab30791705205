-- What is asked of a peer, but for its machine.
use Rattle.std.proofs.Common.{◌≡◌, ℕ, List, None, Result, refl, ap}
use Rattle.fmi_calls.specs.declared.call.Call.{Call}
use Rattle.fmi_calls.specs.declared.call.Reply.{Reply}
use Rattle.fmu_peer.specs.Answer.{Answered, AnsweredWith, Failed, FailedWith, Fails, FailsWith}
use Rattle.fmu_peer.specs.declared.ended.Why.{Why}
use Rattle.fmu_peer.specs.declared.ended.Why.TheVariants as W
use Rattle.fmu_peer.specs.declared.peer.PeerFault.{PeerFault}
use Rattle.fmu_peer.specs.View.{Asked, AskedWith, Fixed, View, without_machine}

fixed_without : (old new : View) → new.fixed ≡ old.fixed → (without_machine new).fixed ≡ (without_machine old).fixed
fixed_without old new fixed = ap (λ (f : Fixed). record f { machine = None }) fixed

module _ (old new : View) (call : Call) where
  pub asked_without : (result : Result Reply PeerFault) → Asked old call result new → Asked (without_machine old) call result (without_machine new)
  asked_without result a = record { fixed = fixed_without old new a.fixed; phase = a.phase; talk = a.talk; state = refl; cause = a.cause }

  -- so far a Deserialize is a call like any
  pub asked_with_without : (bytes : List ℕ) (result : Result Reply PeerFault) → AskedWith old call bytes result new → Asked (without_machine old) call result (without_machine new)
  asked_with_without bytes result a = record { fixed = fixed_without old new a.fixed; phase = a.phase; talk = a.talk; state = refl; cause = a.cause }

  pub answered_without : (reply : Reply) → Answered old call reply new → Answered (without_machine old) call reply (without_machine new)
  answered_without reply a = record { asked = asked_without _ a.asked; good = a.good; quiet = a.quiet; talk_good = a.talk_good }

  pub answered_with_without : (bytes : List ℕ) (reply : Reply) → AnsweredWith old call bytes reply new → Answered (without_machine old) call reply (without_machine new)
  answered_with_without bytes reply a = record { asked = asked_with_without bytes _ a.asked; good = a.good; quiet = a.quiet; talk_good = a.talk_good }

  pub failed_without : (why : Why) → Failed old call why new → Failed (without_machine old) call why (without_machine new)
  failed_without why f = record { fails = by why f.fails; fixed = fixed_without old new f.fixed; later = f.later; rose = f.rose; quiet = f.quiet; bad = f.bad } where
    by : (why : Why) → Fails old call why new → Fails (without_machine old) call why (without_machine new)
    by (W.Refused c status) f = (f.0, f.1, f.2, f.3, asked_without _ f.4)
    by (W.Misreply c reply) f = (f.0, f.1, asked_without _ f.2)
    by (W.Link c fault) f = (f.0, asked_without _ f.1)

  pub failed_with_without : (bytes : List ℕ) (why : Why) → FailedWith old call bytes why new → Failed (without_machine old) call why (without_machine new)
  failed_with_without bytes why f = record { fails = by why f.fails; fixed = fixed_without old new f.fixed; later = f.later; rose = f.rose; quiet = f.quiet; bad = f.bad } where
    by : (why : Why) → FailsWith old call bytes why new → Fails (without_machine old) call why (without_machine new)
    by (W.Refused c status) f = (f.0, f.1, f.2, f.3, asked_with_without bytes _ f.4)
    by (W.Misreply c reply) f = (f.0, f.1, asked_with_without bytes _ f.2)
    by (W.Link c fault) f = (f.0, asked_with_without bytes _ f.1)
