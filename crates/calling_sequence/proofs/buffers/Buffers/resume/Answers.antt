use Rattle.std.proofs.Common.{◌≡◌, ℤ, Bool, List, Option, ap, ap₂, arith, false, length, refl, subst, sym, ◌∙◌}
use Rattle.std.proofs.lemmas.List.{length-replicate}
use Rattle.trace_text.specs.Room.{HoldsEach}
use Rattle.system_checkpoint.specs.Spelling.{IsWord}
use Rattle.calling_sequence.specs.Holding.{values_by}
use Rattle.calling_sequence.specs.Ready.{AreResumed, KnowParticipants}
use Rattle.calling_sequence.specs.declared.buffers.Buffers.{Buffers}
use Rattle.calling_sequence.proofs.Resumed.{by_len}
use Rattle.calling_sequence.proofs.ResumedStands.{resumed}
use Rattle.calling_sequence.proofs.buffers.Buffers.resume.Goals as goal

pub values_of-requires : goal.values_of-requires
values_of-requires c = ap length c.as_slice-2.ensures ∙ by_len IsWord c.args.experiment.now.system.ports c.args.held.now.words c.requires.can.words ∙ sym (ap length c.as_slice.ensures)

pub returns : goal.returns
returns c =
    let e = c.args.experiment.now in
    let own = c.in_ok-vec.field-0.ok.0 in
    let made = c.in_ok-vec.ensures.len in
    let len : length c.in_ok-vec.field-0.items ≡ c.in-Some.bytes = omega (arith, own, made) in
    let holds = subst (HoldsEach e.system) (sym len) c.in-Some.ensures.holds in
    let made : List Bool → List (Option ℤ) → Buffers = λ pending values. record { reads = c.in_ok-of.field-0; participants = c.in_ok-of-2.field-0; pending = pending; schedule = c.in_ok-schedule_of.field-0; values = values; text = c.in_ok-vec.field-0; instants = 0 } in
    let pending = c.await_unfed.new.pending in
    let values = c.in_ok-values.values in
    let know : KnowParticipants e.system (made pending values) = record { participants = c.in_ok-of-2.ensures; room = c.await_unfed.ensures.places ∙ ap length c.in_ok-pending.ensures ∙ length-replicate c.len.result false ∙ c.len.ensures } in
    subst (λ (ps : List Bool). AreResumed e c.args.held.now (made ps c.values.inside.all.items)) (sym c.pending.view_is)
    (subst (λ (vs : List (Option ℤ)). AreResumed e c.args.held.now (made pending vs)) (sym c.values.view_is)
    (resumed e c.args.held.now (made pending values) c.requires.sound c.requires.can c.requires.plan_of know c.await_unfed.ensures.awaited (c.in_ok-values.ensures ∙ ap₂ values_by c.as_slice.ensures c.as_slice-2.ensures) c.in_ok-schedule_of.ensures holds refl))
