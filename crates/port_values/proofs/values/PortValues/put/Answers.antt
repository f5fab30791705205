use Rattle.std.proofs.Common.{◌<◌, List, ℤ, Option, ap, length, length-set, subst, sym, ◌∙◌}
use Rattle.std.specs.Prelude.{is_some, slice_set}
use Rattle.std.proofs.lemmas.Bool.{true≢false}
use Rattle.port_values.specs.declared.values.PortValues.TheInside.{Inside}
use Rattle.port_values.specs.Valued.{KnowsValued}
use Rattle.port_values.proofs.ValuedLemmas.{valued_same}
use Rattle.port_values.proofs.values.PortValues.put.Goals as goal
use Rattle.port_values.proofs.values.PortValues.put.Goals.{then-not-are_alike, else-not-are_alike}

pub invariant_of-self : goal.invariant_of-self
invariant_of-self c = elim c.if-not-are_alike.branch [
  | then-not-are_alike w ↦
      subst (λ (v : Inside). KnowsValued (slice_set v.all.items c.args.port c.args.value) v.there.items v.count v.is_stale) (sym w.self-inside-is)
      (record { room = c.self.invariant.room ∙ sym (length-set c.self.inside.all.items c.args.port c.args.value); within = c.self.invariant.within; known = λ fresh. absurd (true≢false fresh) })
  | else-not-are_alike w ↦
      subst (λ (v : Inside). KnowsValued (slice_set v.all.items c.args.port c.args.value) v.there.items v.count v.is_stale) (sym w.self-inside-is)
      (record { room = c.self.invariant.room ∙ sym (length-set c.self.inside.all.items c.args.port c.args.value); within = c.self.invariant.within; known = λ fresh. c.self.invariant.known fresh ∙ sym (valued_same c.self.inside.all.items c.args.port c.args.value c.index.result.now (subst (λ (l : List (Option ℤ)). c.args.port < length l) (sym c.self.view_is) c.requires) (c.are_alike.ensures w.if-not-are_alike.false ∙ ap is_some c.index.ensures)) })
]
