use Rattle.std.proofs.Common.{subst}
use Rattle.std.proofs.lemmas.Result.{IfOk-weaker}
use Rattle.name_prefixes.specs.Prefixes.{ArePrefixes, ArePrefixesAmong, texts}
use Rattle.name_prefixes.proofs.SortLemmas.{prefixes_from}
use Rattle.name_prefixes.proofs.prefixes.Prefixes.prefixes.Goals as goal

pub returns : goal.returns
returns c =
    IfOk-weaker c.prefixes_of.result _ _ (λ places among.
    subst (λ paths. ArePrefixes paths c.args.name.now places.items) c.self.view_is
    (prefixes_from (texts c.self.inside.paths.items) c.self.inside.sorted.items c.args.name.now places.items c.self.invariant.is
    (subst (λ sorted. ArePrefixesAmong sorted c.args.name.now places.items) c.deref.ensures.value among))) c.prefixes_of.ensures
