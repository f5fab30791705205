use Rattle.std.proofs.Common.{◌≡◌, ◌∷◌, [], ◌++◌, length, get_or, set, ap, ◌∙◌, rules}
use Rattle.parameter_targets.proofs.RowLemmas.{rows_more, tells_more}
use Rattle.parameter_targets.proofs.paths.Paths.put.Goals as goal

pub returns-clause-rows : goal.returns-clause-rows
returns-clause-rows c =
    let old = c.args.self.now in
    let n : c.len-at.result ≡ length old.all.items = search rules in
    let below = c.in_ok-push-2.ensures.pushed ∙ ap (λ n. set old.below c.args.system (get_or old.below c.args.system [] ++ n ∷ [])) n in
    rows_more old _ c.args.system _ c.in_ok-push.ensures.items below c.requires.within (length old.below) c.requires.rows

pub returns-clause-told : goal.returns-clause-told
returns-clause-told c =
    let old = c.args.self.now in
    let n : c.len-at.result ≡ length old.all.items = search rules in
    let below = c.in_ok-push-2.ensures.pushed ∙ ap (λ n. set old.below c.args.system (get_or old.below c.args.system [] ++ n ∷ [])) n in
    tells_more old _ c.args.system _ c.in_ok-push.ensures.items below c.requires.within (length old.below) c.requires.rows
