-- What an answer is worth, by its exchange.
use Rattle.std.proofs.Common.{◌≡◌, ℕ, List, Result, Ok, Err, sym, ap, ap₂, ◌∙◌, subst}
use Rattle.std.specs.Prelude.{IfOk, IfErr}
use Rattle.value_types.specs.declared.shape.Shape.{Shape}
use Rattle.fmi_calls.specs.declared.call.Call.{Call}
use Rattle.fmi_calls.specs.declared.call.Reply.{Reply}
use Rattle.fmi_calls.specs.Worth.{grade_of}
use Rattle.fmu_peer.specs.Answer.{Answered, AnsweredWith, Failed, FailedWith, Fails, FailsWith, IsGoodReply, IsWhy}
use Rattle.fmu_peer.specs.declared.ended.Why.{Why}
use Rattle.fmu_peer.specs.declared.ended.Why.TheVariants as W
use Rattle.fmu_peer.specs.declared.peer.PeerFault.{PeerFault}
use Rattle.fmu_peer.specs.View.{Asked, AskedWith, Fixed, IsFollowedBy, Serializes, View, without_machine}
use Rattle.fmu_peer.proofs.TalkLemmas.{answered_good, failed_bad}
use Rattle.fmu_peer.proofs.WithoutMachine.{asked_with_without}

module _ (old new : View) (call : Call) (answer : Result Reply PeerFault) (asked : Asked old call answer new) where
  asked_so : (result : Result Reply PeerFault) → answer ≡ result → Asked old call result new
  asked_so result is = subst (λ (r : Result Reply PeerFault). Asked old call r new) is asked

  pub good_answered : (reply : Reply) → IsGoodReply old.fixed.shape call answer reply → Answered old call reply new
  good_answered reply g =
      let here : Asked old call (Ok reply) new = asked_so (Ok reply) g.is in
      record { asked = here; good = g.good; quiet = here.cause.quiet; talk_good = answered_good old new call reply here g.good }

  pub why_failed : (why : Why) → IsWhy old.fixed.shape why (record { call = call; result = answer }) → Failed old call why new
  why_failed (W.Refused c status) bad =
      let here : Asked old call (Ok bad.0) new = asked_so (Ok bad.0) bad.2 in
      record {
        fails = (bad.0, sym bad.1, bad.3, ap (λ (d : Call). grade_of old.fixed.shape d bad.0) bad.1 ∙ bad.4, here);
        fixed = asked.fixed;
        later = asked.cause.later;
        rose = λ link. absurd link;
        quiet = λ no. here.cause.quiet;
        bad = failed_bad old new call answer (W.Refused c status) asked bad;
      }
  why_failed (W.Misreply c reply) bad =
      let here : Asked old call (Ok reply) new = asked_so (Ok reply) bad.1 in
      record {
        fails = (sym bad.0, ap (λ (d : Call). grade_of old.fixed.shape d reply) bad.0 ∙ bad.2, here);
        fixed = asked.fixed;
        later = asked.cause.later;
        rose = λ link. absurd link;
        quiet = λ no. here.cause.quiet;
        bad = failed_bad old new call answer (W.Misreply c reply) asked bad;
      }
  why_failed (W.Link c fault) bad =
      let here : Asked old call (Err fault) new = asked_so (Err fault) bad.1 in
      record {
        fails = (sym bad.0, here);
        fixed = asked.fixed;
        later = asked.cause.later;
        rose = λ link. here.cause.rose;
        quiet = λ no. absurd (no tt);
        bad = failed_bad old new call answer (W.Link c fault) asked bad;
      }

  -- the shape that the peer tells after the call
  module _ (shape : Shape) (shape_is : shape ≡ new.fixed.shape) where
    same_shape : shape ≡ old.fixed.shape
    same_shape = shape_is ∙ ap (λ (f : Fixed). f.shape) asked.fixed

    good_here : (reply : Reply) → IsGoodReply shape call answer reply → IsGoodReply old.fixed.shape call answer reply
    good_here reply g = subst (λ (s : Shape). IsGoodReply s call answer reply) same_shape g

    why_here : (why : Why) → IsWhy shape why (record { call = call; result = answer }) → IsWhy old.fixed.shape why (record { call = call; result = answer })
    why_here why bad = subst (λ (s : Shape). IsWhy s why (record { call = call; result = answer })) same_shape bad

    pub judged_good : (result : Result Reply Why) → IfOk result (λ reply. IsGoodReply shape call answer reply) → IfOk result (λ reply. Answered old call reply new)
    judged_good (Ok reply) g = good_answered reply (good_here reply g)
    judged_good (Err why) g = tt

    pub judged_bad : (result : Result Reply Why) → IfErr result (λ why. IsWhy shape why (record { call = call; result = answer })) → IfErr result (λ why. Failed old call why new)
    judged_bad (Ok reply) bad = tt
    judged_bad (Err why) bad = why_failed why (why_here why bad)

    pub judged_followed : (bytes : List ℕ) → Serializes old answer bytes → (result : Result Reply Why) → IfOk result (λ reply. IsGoodReply shape call answer reply) → IfOk result (λ reply. IsFollowedBy old reply bytes)
    judged_followed bytes follows (Ok reply) g = subst (λ (r : Result Reply PeerFault). Serializes old r bytes) g.is follows
    judged_followed bytes follows (Err why) g = tt

-- a Deserialize with its bytes: but for the machine it is a call like any
module _ (old new : View) (call : Call) (bytes : List ℕ) (answer : Result Reply PeerFault) (asked : AskedWith old call bytes answer new) (shape : Shape) (shape_is : shape ≡ new.fixed.shape) where
  with_so : (result : Result Reply PeerFault) → answer ≡ result → AskedWith old call bytes result new
  with_so result is = subst (λ (r : Result Reply PeerFault). AskedWith old call bytes r new) is asked

  abbrev so_far : Asked (without_machine old) call answer (without_machine new)
  so_far = asked_with_without old new call bytes answer asked

  pub judged_good_with : (result : Result Reply Why) → IfOk result (λ reply. IsGoodReply shape call answer reply) → IfOk result (λ reply. AnsweredWith old call bytes reply new)
  judged_good_with (Ok reply) g =
      let plain = judged_good (without_machine old) (without_machine new) call answer so_far shape shape_is (Ok reply) g in
      record { asked = with_so (Ok reply) g.is; good = plain.good; quiet = plain.quiet; talk_good = plain.talk_good }
  judged_good_with (Err why) g = tt

  pub judged_bad_with : (result : Result Reply Why) → IfErr result (λ why. IsWhy shape why (record { call = call; result = answer })) → IfErr result (λ why. FailedWith old call bytes why new)
  judged_bad_with (Ok reply) bad = tt
  judged_bad_with (Err why) bad =
      let plain = judged_bad (without_machine old) (without_machine new) call answer so_far shape shape_is (Err why) bad in
      record { fails = by why bad plain.fails; fixed = asked.fixed; later = plain.later; rose = plain.rose; quiet = plain.quiet; bad = plain.bad }
    where
      by : (why : Why) → IsWhy shape why (record { call = call; result = answer }) → Fails (without_machine old) call why (without_machine new) → FailsWith old call bytes why new
      by (W.Refused c status) bad f = (bad.0, sym bad.1, bad.3, ap₂ (λ (s : Shape) (d : Call). grade_of s d bad.0) (sym (shape_is ∙ ap (λ (x : Fixed). x.shape) asked.fixed)) bad.1 ∙ bad.4, with_so (Ok bad.0) bad.2)
      by (W.Misreply c reply) bad f = (f.0, f.1, with_so (Ok reply) bad.1)
      by (W.Link c fault) bad f = (f.0, with_so (Err fault) bad.1)
