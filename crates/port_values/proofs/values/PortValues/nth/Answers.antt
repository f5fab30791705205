use Rattle.std.proofs.Common.{◌≡◌, List, ℕ, ap, sym, subst, take, ◌∙◌}
use Rattle.std.proofs.lemmas.List.{with_items_is}
use Rattle.port_values.specs.declared.values.PortValues.TheInside.{Inside}
use Rattle.port_values.specs.Valued.{valued_ports}
use Rattle.port_values.proofs.values.PortValues.nth.Goals as goal
use Rattle.port_values.proofs.values.PortValues.nth.Goals.{then-self, else-self}

pub entry-requires : goal.entry-requires
entry-requires c =
    let P : Inside → Type 0 = λ v. take v.count v.there.items ≡ valued_ports v.all.items in
    let noted : P c.if-self.self-inside = elim c.if-self.branch as (λ b. P c.if-self.self-inside) [
      | then-self w ↦ subst P (sym w.self-inside-is) (ap (λ (l : List ℕ). take w.note-self-inside.result l) (with_items_is c.self.inside.there w.note-self-inside.new.there (w.note-self-inside.ensures.room ∙ w.as_mut_slice.ensures.len)) ∙ w.note-self-inside.ensures.noted ∙ ap valued_ports w.as_slice.ensures.value)
      | else-self w ↦ subst P (sym w.self-inside-is) (c.self.invariant.known w.if-self.false)
    ] in
    ap (take c.if-self.self-inside.count) c.deref.ensures.value ∙ noted ∙ ap valued_ports (sym c.as_slice-2.ensures.value)
