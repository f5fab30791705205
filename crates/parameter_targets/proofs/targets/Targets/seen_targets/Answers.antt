use Rattle.std.proofs.Common.{◌≡◌, ◌↔◌, ◌⊎◌, List, [], Result, Ok, Err, sym, subst, inl, inr, arith}
use Rattle.std.specs.Result.{IfOk}
use Rattle.std.specs.List.{Contains}
use Rattle.std.specs.declared.alloc.AllocError.{AllocError}
use Rattle.std.specs.declared.alloc.Global.{Global}
use Rattle.std.specs.declared.vec.Vec.{Vec}
use Rattle.parameter_targets.specs.declared.target.Target.{Target}
use Rattle.parameter_targets.specs.Scopes.{Sees}
use Rattle.parameter_targets.proofs.TargetLemmas.{sees_below, sees_own}
use Rattle.parameter_targets.proofs.targets.Targets.seen_targets.Goals as goal

seen_system : (r : Result (Vec Target Global) AllocError) (P Q : Target → Type 0) → ((t : Target) → P t ↔ Q t) → IfOk r (λ (v : Vec Target Global). (t : Target) → Contains v.items t ↔ P t) → IfOk r (λ (v : Vec Target Global). (t : Target) → Contains v.items t ↔ Q t)
seen_system (Ok v) P Q each told = λ t. (λ c. (each t).0 ((told t).0 c), λ q. (told t).1 ((each t).1 q))
seen_system (Err e) P Q each told = tt

pub returns-in-System : goal.returns-in-System
returns-in-System c =
    let self = c.args.self.now in
    subst (λ o. IfOk c.seen_below.result (λ (v : Vec Target Global). (t : Target) → Contains v.items t ↔ Sees self.tree.now self.shapes.now o c.args.name.now t)) (sym c.in-System.is)
    (seen_system c.seen_below.result _ _ (λ t. sees_below self c.in-System.system c.args.name.now t c.requires.targets.tree) c.seen_below.ensures)

pub returns-in_ok-put_named-in-Component : goal.returns-in_ok-put_named-in-Component
returns-in_ok-put_named-in-Component c = λ target.
    let self = c.args.self.now in
    let own = sees_own self.tree.now self.shapes.now c.in-Component.component c.args.name.now target in
    let told = c.in_ok-put_named-in-Component.ensures target in
    subst (λ o. Contains c.put_named.new.seen.items target ↔ Sees self.tree.now self.shapes.now o c.args.name.now target) (sym c.in-Component.is)
    (λ i. own.0 (after c.new-seen.result.items target _ c.new-seen.ensures.items (told.0 i)), λ s. told.1 (inr (own.1 s)))
  where
    after : (xs : List Target) (t : Target) (P : Type 0) → xs ≡ [] → Contains xs t ⊎ P → P
    after xs t P e (inl i) = absurd (let n = (subst (λ (z : List Target). Contains z t) e i).1 in omega (arith, n))
    after xs t P e (inr p) = p
