use Rattle.std.proofs.Common.{subst, ◌∙◌, arith}
use Rattle.exact_parts.specs.Each.{Each}
use Rattle.exact_parts.specs.Taking.{Takes}
use Rattle.exact_parts.specs.declared.taken.Taken.TheVariants.{Got}
use Rattle.system_checkpoint.specs.Whole.{StateOf}
use Rattle.system_checkpoint.proofs.ListLemmas.{all_bad, all_more, all_then, state_of_single}
use Rattle.system_checkpoint.proofs.PartLemmas.{ends_within, taken_after}
use Rattle.system_checkpoint.proofs.WholeLemmas.{after_states, states_leads}
use Rattle.system_checkpoint.proofs.whole.take_from_states.Goals as goal

pub after-whole-requires : goal.after-whole-requires
after-whole-requires c =
    let got = ends_within (Each StateOf c.as_slice.result.now) c.args.bytes.now (Got c.in-Got.value c.in-Got.length) (subst (λ t. Takes (Each StateOf c.as_slice.result.now) c.args.bytes.now t) c.in-Got.is c.in_ok-taken.ensures) in
    let rest = ends_within _ c.as_slice-in-Got.result.now c.in_ok-rest-in-Got.rest c.in_ok-rest-in-Got.ensures in
    let all = c.after.ensures.small in
    let later = c.as_slice-in-Got.type_inv.1 in
    omega (arith, got, rest, all, later)

pub returns-in_ok-rest-in-Got : goal.returns-in_ok-rest-in-Got
returns-in_ok-rest-in-Got c =
    all_then StateOf state_of_single c.args.system.now.components _ c.as_slice.ensures (after_states c.args.system.now c.args.held) c.args.bytes.now c.in-Got.value c.in-Got.length c.in_ok-rest-in-Got.rest c.after-whole.result (subst (λ t. Takes (Each StateOf c.as_slice.result.now) c.args.bytes.now t) c.in-Got.is c.in_ok-taken.ensures)
    (taken_after (after_states c.args.system.now c.args.held c.in-Got.value) c.args.bytes.now c.as_slice-in-Got.result.now c.in-Got.length c.in_ok-rest-in-Got.rest (c.as_slice-in-Got.ensures ∙ c.in_ok-after-in-Got.ensures.rest) c.in_ok-rest-in-Got.ensures) c.after-whole.ensures

pub returns-in-NeedMore : goal.returns-in-NeedMore
returns-in-NeedMore c = all_more StateOf state_of_single c.args.system.now.components _ c.as_slice.ensures (after_states c.args.system.now c.args.held) c.args.bytes.now (states_leads c.args.system.now c.args.held (record { before = c.requires.before; near = c.requires.near })) (subst (λ t. Takes (Each StateOf c.as_slice.result.now) c.args.bytes.now t) c.in-NeedMore.is c.in_ok-taken.ensures)

pub returns-in-Bad : goal.returns-in-Bad
returns-in-Bad c = all_bad StateOf state_of_single c.args.system.now.components _ c.as_slice.ensures (after_states c.args.system.now c.args.held) c.args.bytes.now (states_leads c.args.system.now c.args.held (record { before = c.requires.before; near = c.requires.near })) c.in-Bad.at (subst (λ t. Takes (Each StateOf c.as_slice.result.now) c.args.bytes.now t) c.in-Bad.is c.in_ok-taken.ensures)
