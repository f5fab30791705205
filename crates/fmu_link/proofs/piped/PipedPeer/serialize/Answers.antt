use Rattle.std.proofs.Common.{ap, refl, ◌∙◌, Option}
use Rattle.fmi_calls.specs.Next.{next_of}
use Rattle.fmi_calls.specs.declared.call.Call.TheVariants as C
use Rattle.fmi_calls.specs.declared.call.Reply.{Reply}
use Rattle.fmu_link.proofs.StateLemmas.{followed, state_caused}
use Rattle.fmu_link.proofs.piped.PipedPeer.serialize.Goals as goal

pub returns-clause-asked : goal.returns-clause-asked
returns-clause-asked g c = record {
  fixed = refl;
  phase = c.next_phase.ensures.next ∙ ap (λ (r : Option Reply). next_of c.args.self.now.instance.shape c.args.self.now.instance.phase C.Serialize r) c.reply_of.ensures;
  talk = refl;
  state = refl;
  cause = state_caused _ _ _ _ _ c.state_over-answer.ensures.noted;
}

pub returns-clause-bytes : goal.returns-clause-bytes
returns-clause-bytes g c = followed (g.W.Wire.view c.args.self.now.wire) c.args.self.now.instance _ _ _ _ _ c.state_over-answer.ensures.noted
