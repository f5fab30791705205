use Rattle.std.proofs.Common.{◌≡◌, List, length, Some, sym, ap, ◌∙◌, subst}
use Rattle.std.specs.List.{slice_get}
use Rattle.value_types.specs.declared.shape.Variable.{Variable}
use Rattle.parameter_targets.specs.declared.names.ParameterNames.{ParameterNames}
use Rattle.parameter_targets.specs.Tables.{AreEntries, AreNames}
use Rattle.parameter_targets.proofs.SharedLemmas.{found_names, kept, last, named_more}
use Rattle.parameter_targets.proofs.shared.SharedNames.place.Goals as goal

pub returns-in-Some-clause-more : goal.returns-in-Some-clause-more
returns-in-Some-clause-more c = λ shapes was.
    let self = c.args.self.now in
    let tables = self.tables.items in
    let of = self.of.items in
    let shape = c.args.shape.now in
    let at = c.in-Some.at in
    let f = c.in-Some.ensures in
    let entries = subst (λ (z : List Variable). AreEntries z f.1.entries.items) c.as_slice.ensures f.4 in
    named_more shapes tables tables of shape at f.1 (λ k x e. e) f.3 (found_names shapes tables of f.0 at f.1 shape.variables f.2 f.3 entries was) was

pub returns-in_ok-push-in-None-clause-more : goal.returns-in_ok-push-in-None-clause-more
returns-in_ok-push-in-None-clause-more c = λ shapes was.
    let self = c.args.self.now in
    let tables = self.tables.items in
    let now = c.push.new.self.items in
    let shape = c.args.shape.now in
    let names = c.in_ok-names-in-None.names in
    let at = c.len-at.result in
    let pushed = c.in_ok-push-in-None.ensures.items in
    named_more shapes tables now self.of.items shape at names (λ k x e. subst (λ (z : List ParameterNames). slice_get z k ≡ Some x) (sym pushed) (kept tables names k x e))
    (ap (slice_get now) (c.len-at.ensures ∙ self.tables.ok.0) ∙ subst (λ (z : List ParameterNames). slice_get z (length tables) ≡ Some names) (sym pushed) (last tables names))
    (subst (λ (z : List Variable). AreNames z names) c.as_slice-in-None.ensures c.in_ok-names-in-None.ensures) was
