use Rattle.std.proofs.Common.{◌∙◌, Bool, rules, tests}
use Rattle.std.specs.Prelude.{is_some}
use Rattle.std.proofs.lemmas.Iterator.{YieldsList-from_slice}
use Rattle.std.proofs.lemmas.Iterator.Consumers.{YieldsList-at, YieldsList-from_filter, count_from_yields_List}
use Rattle.std.proofs.lemmas.List.Sums.{length-filter}
use Rattle.system_model.specs.Ports.{source_of}
use Rattle.system_model.specs.declared.system.Port.{Port}
use Rattle.run_program.proofs.message.count_feeds.Goals as goal

abbrev is_fed : Port → Bool
is_fed port = is_some (source_of port.role)

pub returns : goal.returns
returns c =
    count_from_yields_List _ _ c.count.ensures.ran (YieldsList-from_filter _ is_fed (YieldsList-at c.filter.ensures.source (YieldsList-from_slice c.args.ports.now c.iter.ensures.rest)) c.filter.ensures.closure (λ x b q k. search (rules, tests)))
    ∙ length-filter is_fed c.args.ports.now
