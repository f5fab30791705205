use Rattle.std.proofs.Common.{◌≡◌, ◌∙◌, inl, inr, length, ap, refl, sym, arith, vec_len}
use Rattle.std.specs.Prelude.{Err}
use Rattle.fmu_peer.specs.declared.peer.PeerFault.{PeerFault}
use Rattle.fmu_link.specs.Exchange.{LineView}
use Rattle.fmu_link.proofs.StateLemmas.{heard, none_after}
use Rattle.fmu_link.proofs.piped.state_after.Goals as goal

pub returns-then-count-eq0-clause-noted : goal.returns-then-count-eq0-clause-noted
returns-then-count-eq0-clause-noted g c = inl (none_after _ c.args.answer _ (sym c.count_after-count.ensures ∙ c.if-count-eq0.true) c.requires.empty)

pub returns-in-Ok-receive-clause-noted : goal.returns-in-Ok-receive-clause-noted
returns-in-Ok-receive-clause-noted g c =
    let old : LineView = record { wire = g.W.Wire.view c.args.wire.now; bad_replies = c.args.bad_replies.now } in
    let new : LineView = record { wire = g.W.Wire.view c.receive.new.self; bad_replies = c.args.bad_replies.now } in
    let size : vec_len c.resize.new.self ≡ c.count_after-count.result = c.in-Ok.ensures.len in
    let room : length c.receive.new.into ≡ vec_len c.resize.new.self = c.receive.auto.into ∙ c.as_mut_slice.ensures.len in
    inl (heard old new c.args.answer c.resize.new.self.len c.receive.new.into c.resize.new.self.items (size ∙ c.count_after-count.ensures) room c.in-Ok-receive.ensures.noted refl)

pub returns-in-Err-receive-clause-noted : goal.returns-in-Err-receive-clause-noted
returns-in-Err-receive-clause-noted g c =
    inr (record {
      some = omega (arith, c.if-count-eq0.false, c.count_after-count.ensures);
      fault = c.in-Err-receive.fault;
      is = ap (λ (f : PeerFault). Err f) c.cut_by.ensures.fault;
      room = c.receive.new.into;
      awaited = c.receive.auto.into ∙ c.as_mut_slice.ensures.len ∙ c.in-Ok.ensures.len ∙ c.count_after-count.ensures;
      broke = c.in-Err-receive.ensures.noted;
      counted = c.cut_by.ensures.counted;
    })
