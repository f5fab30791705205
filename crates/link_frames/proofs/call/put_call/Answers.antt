use Rattle.std.proofs.Common.{◌≡◌, ◌+◌, ℕ, drop, length, subst, ◌∙◌, arith}
use Rattle.exact_parts.proofs.CallerLemmas.{drop_later}
use Rattle.link_frames.proofs.call.put_call.Goals as goal

pub returns-clause-rest : goal.returns-clause-rest
returns-clause-rest c =
    let n = length c.as_bytes-name.result.now in
    let t = length c.as_bytes-token.result.now in
    let len : 0 + length c.spell-head.result ≡ 24 = omega arith in
    let one : drop 24 c.put_at.new.out ≡ drop 24 c.args.out.now = subst (λ (k : ℕ). drop k c.put_at.new.out ≡ drop k c.args.out.now) len c.put_at.ensures.rest in
    let two : drop (24 + n) c.put_at-2.new.out ≡ drop (24 + n) c.put_at.new.out = c.put_at-2.ensures.rest in
    c.put_at-3.ensures.rest ∙ drop_later _ _ (24 + n) (24 + n + t) (omega arith) two ∙ drop_later _ _ 24 (24 + n + t) (omega arith) one
