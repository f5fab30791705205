-- What 24 bytes say.
use Rattle.std.proofs.Common.{◌≡◌, ℕ, ◌⊎◌, inl, inr, List, length, take, sym, ap, ◌∙◌, subst, arith}
use Rattle.std.proofs.lemmas.Grind.{common_steps}
use Rattle.std.proofs.lemmas.List.{take_all}
use Rattle.fmi_calls.specs.declared.call.Reply.{Reply}
use Rattle.link_frames.specs.Reply.{IsReplyFrame, head_of_reply}
use Rattle.exact_parts.specs.Taking.{Gets, Takes}
use Rattle.exact_parts.specs.declared.taken.Taken.{Taken}
use Rattle.exact_parts.specs.declared.taken.Taken.TheVariants.{Got, NeedMore, Bad}
use Rattle.link_frames.proofs.CallerLemmas.{head_length}
use Rattle.fmu_link.specs.Exchange.{IsNoReply}

-- a reply frame has 24 bytes
pub reply_length : (reply : Reply) (bytes : List ℕ) → IsReplyFrame reply bytes → length bytes ≡ 24
reply_length reply bytes h = ap length h.spelled ∙ head_length (head_of_reply reply)

-- a reply at the start of 24 bytes is all of them
pub whole_reply : (reply : Reply) (bytes : List ℕ) (size : ℕ) → length bytes ≡ 24 → Gets IsReplyFrame bytes reply size → IsReplyFrame reply bytes
whole_reply reply bytes size whole h =
    let count = reply_length reply (take size bytes) h.spelled in
    let all : take size bytes ≡ bytes = take_all size bytes (grind (arith, common_steps, count, whole)) in
    subst (IsReplyFrame reply) all h.spelled

-- where no reply was taken, 24 bytes are no reply
pub no_reply : (bytes : List ℕ) (taken : Taken Reply) → length bytes ≡ 24 → ((other : Taken Reply) → Takes IsReplyFrame bytes other → taken ≡ other) →
    (taken ≡ NeedMore) ⊎ ((at : ℕ) × (taken ≡ Bad at)) → IsNoReply bytes
no_reply bytes taken whole only none reply h =
    let all : take 24 bytes ≡ bytes = take_all 24 bytes (omega (arith, whole)) in
    let got : taken ≡ Got reply 24 = only (Got reply 24) (record { within = omega (arith, whole); spelled = subst (IsReplyFrame reply) (sym all) h }) in
    elim none [ inl e ↦ cc | inr e ↦ let f = e.1 in cc ]
