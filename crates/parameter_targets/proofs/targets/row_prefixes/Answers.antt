use Rattle.std.proofs.Common.{get_or, refl, subst, rules}
use Rattle.std.specs.List.{Contains}
use Rattle.std.proofs.lemmas.List.Elements.{Contains-get_or}
use Rattle.parameter_targets.proofs.ListLemmas.{read_at}
use Rattle.parameter_targets.proofs.TargetLemmas.{texts_more}
use Rattle.parameter_targets.proofs.targets.row_prefixes.Goals as goal

pub index-requires : goal.index-requires
index-requires c =
    let row = c.row-at-items.result.now in
    let at = get_or row c.loop-at.at-index 0 in
    let within = c.requires.rows.within c.args.system at (subst (λ z. Contains z at) c.row-at-items.ensures (Contains-get_or row c.loop-at.at-index 0 c.loop-at-test.true)) in
    search rules

pub loop-at-preserved : goal.loop-at-preserved
loop-at-preserved c =
    let paths = c.args.paths.now in
    let row = c.row-at-items.result.now in
    let i = c.loop-at.at-index in
    let at = get_or row i 0 in
    let within = c.requires.rows.within c.args.system at (subst (λ z. Contains z at) c.row-at-items.ensures (Contains-get_or row i 0 c.loop-at-test.true)) in
    texts_more paths row i c.loop-at.texts.items c.push.new.self.items _ c.index.result.now c.loop-at-test.true c.in_ok-push.ensures.items c.as_bytes.ensures.value
    (read_at paths.all.items paths.all.items at c.index.result.now refl within c.index.ensures) c.loop-at.invariant
