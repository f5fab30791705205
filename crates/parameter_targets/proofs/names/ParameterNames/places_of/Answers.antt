use Rattle.std.proofs.Common.{◌+◌, ◌<◌, length, map, Some, sym, ap, ◌∙◌, subst, arith}
use Rattle.std.proofs.lemmas.List.{length-map}
use Rattle.std.proofs.lemmas.Option.{slice_get-get_or}
use Rattle.parameter_targets.specs.Chains.{FindsFrom, text_at}
use Rattle.parameter_targets.specs.Tables.{AreWalked, text_of}
use Rattle.parameter_targets.proofs.ChainLemmas.{left, left_smaller}
use Rattle.parameter_targets.proofs.NameLemmas.{walked_all, walked_more}
use Rattle.parameter_targets.proofs.names.ParameterNames.places_of.Goals as goal

pub loop-next-preserved : goal.loop-next-preserved
loop-next-preserved c =
    let entries = c.args.self.now.entries.items in
    let name = c.args.name.now in
    let at = c.in-Some.at in
    let w = subst (AreWalked entries name c.loop-next.places.items) c.in-Some.is c.loop-next.invariant in
    let f = subst (FindsFrom (map text_of entries) (at + 1) (text_at (map text_of entries) at)) (sym c.next-next.ensures) (c.requires.goes_on at (omega arith) w.finds.1) in
    let within : at < length entries = let l = w.finds.1 in omega (arith, l, length-map entries text_of) in
    walked_more entries name c.loop-next.places.items c.push.new.self.items at c.index.result.now c.next-next.result (slice_get-get_or entries at c.index.result.now within ∙ ap Some (sym c.index.ensures)) c.in_ok-push.ensures.items w f

pub loop-next-smaller : goal.loop-next-smaller
loop-next-smaller c =
    let entries = c.args.self.now.entries.items in
    let name = c.args.name.now in
    let at = c.in-Some.at in
    let w = subst (AreWalked entries name c.loop-next.places.items) c.in-Some.is c.loop-next.invariant in
    let f = subst (FindsFrom (map text_of entries) (at + 1) (text_at (map text_of entries) at)) (sym c.next-next.ensures) (c.requires.goes_on at (omega arith) w.finds.1) in
    subst (λ n. left n c.next-next.result < left n c.loop-next.next) (length-map entries text_of) (left_smaller (map text_of entries) at (text_at (map text_of entries) at) c.loop-next.next c.next-next.result c.in-Some.is w.finds.1 f)

pub returns : goal.returns
returns c = walked_all c.args.self.now.entries.items c.args.name.now c.loop-next.places.items (subst (AreWalked c.args.self.now.entries.items c.args.name.now c.loop-next.places.items) c.in_default.is c.loop-next.invariant)
