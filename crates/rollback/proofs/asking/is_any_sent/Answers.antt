use Rattle.std.proofs.Common.{◌≡◌, false, ap, refl, sym, subst, ◌∙◌}
use Rattle.std.specs.List.{list_any}
use Rattle.rollback.specs.declared.places.Who.{Who}
use Rattle.rollback.specs.declared.places.Who.TheVariants as W
use Rattle.rollback.specs.Places.{is_sent, stand_in}
use Rattle.rollback.proofs.Sending.{none_meant}
use Rattle.rollback.proofs.asking.is_any_sent.Goals as goal

pub returns-in-Saved-eq0 : goal.returns-in-Saved-eq0
returns-in-Saved-eq0 g c =
    let here = c.in-Saved-eq0 in
    sym (subst (λ (who : Who). list_any (λ s. is_sent who c.args.turn (stand_in g.L.Peer.view s)) c.args.slots.now ≡ false)
    (sym (here.is ∙ ap W.Saved (sym here.early-is ∙ here.early-test))) (none_meant g.L.Peer.view 0 refl c.args.turn c.args.slots.now))

pub returns-in-Saved-eq1 : goal.returns-in-Saved-eq1
returns-in-Saved-eq1 g c =
    let here = c.in-Saved-eq1 in
    sym (subst (λ (who : Who). list_any (λ s. is_sent who c.args.turn (stand_in g.L.Peer.view s)) c.args.slots.now ≡ false)
    (sym (here.is ∙ ap W.Saved (sym here.early-is ∙ here.early-test))) (none_meant g.L.Peer.view 1 refl c.args.turn c.args.slots.now))
