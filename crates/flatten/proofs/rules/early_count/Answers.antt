use Rattle.std.proofs.Common.{◌∙◌, rules, tests}
use Rattle.std.proofs.lemmas.Iterator.{YieldsList-from_slice}
use Rattle.std.proofs.lemmas.Iterator.Consumers.{YieldsList-at, YieldsList-from_filter, count_from_yields_List}
use Rattle.std.proofs.lemmas.List.Sums.{length-filter}
use Rattle.flatten.proofs.UnsavedLemmas.{is_early}
use Rattle.flatten.proofs.rules.early_count.Goals as goal

pub returns : goal.returns
returns c =
    count_from_yields_List _ _ c.count.ensures.ran (YieldsList-from_filter _ is_early (YieldsList-at c.filter.ensures.source (YieldsList-from_slice c.args.shapes.now c.iter.ensures.rest)) c.filter.ensures.closure (λ x b q k. search (rules, tests)))
    ∙ length-filter is_early c.args.shapes.now
