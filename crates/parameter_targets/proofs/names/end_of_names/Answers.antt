use Rattle.std.proofs.Common.{◌≡◌, ◌<◌, ◌+◌, ℕ, List, length, get_or, take, sym, ap, ◌∙◌, subst, arith}
use Rattle.std.proofs.lemmas.Option.{slice_get_within}
use Rattle.parameter_targets.specs.Tables.{IsNamed}
use Rattle.parameter_targets.proofs.NameLemmas.{IsCalledBy, called_all, one_more, puts_alias, puts_as, puts_own}
use Rattle.parameter_targets.proofs.names.end_of_names.Goals as goal

pub loop-alias-init : goal.loop-alias-init
loop-alias-init c =
    let entries = c.args.entries.now in
    let next = c.args.next in
    let e = c.is_entry.ensures c.if-not-is_entry.false in
    let within = slice_get_within entries next e.0 e.1 in
    record {
      within = omega (arith, within);
      puts = puts_own (take next entries) (take (next + 1) entries) e.0 c.args.place c.args.variable.now (one_more entries next e.0 e.1) e.3 (e.2 ∙ c.as_str.ensures);
    }

pub loop-alias-preserved : goal.loop-alias-preserved
loop-alias-preserved c =
    let entries = c.args.entries.now in
    let next = c.args.next in
    let end = c.loop-alias.end in
    let i = c.loop-alias.alias-index in
    let alias = c.alias-item.result in
    let e = c.is_entry-in-loop-alias.ensures c.if-not-is_entry-2.false in
    let inside = slice_get_within entries end e.0 e.1 in
    let within = subst (λ (z : List (List ℕ)). i < length z) c.as_slice-alias-items.ensures c.loop-alias-test.true in
    let is = subst (λ (z : List (List ℕ)). alias ≡ get_or z i alias) c.as_slice-alias-items.ensures c.alias-item.is in
    record {
      within = omega (arith, inside);
      puts = puts_alias (take next entries) (take end entries) (take (end + 1) entries) e.0 c.args.place i c.args.variable.now alias (one_more entries end e.0 e.1) e.3 (e.2 ∙ c.as_str-in-loop-alias.ensures) within is c.loop-alias.invariant.puts;
    }

pub returns-clause-names : goal.returns-clause-names
returns-clause-names c =
    let v = c.args.variable.now in
    let i = c.loop-alias.alias-index in
    let len = ap length c.as_slice-alias-items.ensures in
    puts_as (take c.args.next c.args.entries.now) (take c.loop-alias.end c.args.entries.now) c.args.place (IsCalledBy v (take i v.aliases)) (IsNamed v)
    (λ name. called_all v i name (omega (arith, len)) (sym c.is_parameter.ensures ∙ c.if-not-is_parameter.false) (sym c.is_some.ensures ∙ c.if-not-is_some.false)) c.loop-alias.invariant.puts
