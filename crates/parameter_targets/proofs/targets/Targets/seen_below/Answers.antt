use Rattle.std.proofs.Common.{◌≡◌, ◌+◌, ◌∷◌, ◌++◌, ℕ, List, length, get_or, take, sym, ap, subst, refl, arith, rules}
use Rattle.std.specs.List.{Contains}
use Rattle.std.proofs.lemmas.List.Elements.{Contains-get_or}
use Rattle.std.specs.Option.{IfNone}
use Rattle.std.specs.declared.alloc.Global.{Global}
use Rattle.std.specs.declared.vec.Vec.{Vec}
use Rattle.parameter_targets.specs.declared.target.Target.{Target}
use Rattle.parameter_targets.proofs.ListLemmas.{read_at}
use Rattle.parameter_targets.proofs.TargetLemmas.{SeesBy, path_component, sees_by_all, sees_by_next, sees_by_other}
use Rattle.parameter_targets.proofs.targets.Targets.seen_below.Goals as goal
use Rattle.parameter_targets.proofs.targets.Targets.seen_below.Goals.{in-Some+in_ok-put_named, in_default}

pub index-path-requires : goal.index-path-requires
index-path-requires c =
    let self = c.args.self.now in
    let ats = c.deref-at-items.result.now in
    let i = c.loop-at.at-index in
    let at = get_or ats i 0 in
    let near = c.in_ok-ats.ensures in
    let in_row = near.only at (subst (λ z. Contains z at) c.deref-at-items.ensures.value (Contains-get_or ats i 0 c.loop-at-test.true)) in
    let within = c.requires.targets.paths.rows.within c.args.system at in_row in
    search rules

pub put_named-requires-clause-within : goal.put_named-requires-clause-within
put_named-requires-clause-within c =
    let self = c.args.self.now in
    let ats = c.deref-at-items.result.now in
    let i = c.loop-at.at-index in
    let at = get_or ats i 0 in
    let near = c.in_ok-ats.ensures in
    let in_row = near.only at (subst (λ z. Contains z at) c.deref-at-items.ensures.value (Contains-get_or ats i 0 c.loop-at-test.true)) in
    path_component self c.args.system at c.index-path.result.now c.requires.targets in_row c.index-path.ensures

pub loop-at-preserved : goal.loop-at-preserved
loop-at-preserved c =
    let self = c.args.self.now in
    let name = c.args.name.now in
    let ats = c.deref-at-items.result.now in
    let i = c.loop-at.at-index in
    let at = get_or ats i 0 in
    let near = c.in_ok-ats.ensures in
    let in_row = near.only at (subst (λ z. Contains z at) c.deref-at-items.ensures.value (Contains-get_or ats i 0 c.loop-at-test.true)) in
    let is = read_at self.paths.all.items self.paths.all.items at c.index-path.result.now refl (c.requires.targets.paths.rows.within c.args.system at in_row) c.index-path.ensures in
    elim c.match-after.branch [
      | in-Some+in_ok-put_named w ↦ subst (λ (z : Vec Target Global). SeesBy self name (take (i + 1) ats) z.items) (sym w.seen-is)
          (sees_by_next self name ats i 0 c.loop-at.seen.items w.put_named.new.seen.items c.index-path.result.now w.in-Some.own.now c.loop-at-test.true is w.in-Some.ensures.found w.in_ok-put_named.ensures c.loop-at.invariant)
      | in_default w ↦ subst (λ (z : Vec Target Global). SeesBy self name (take (i + 1) ats) z.items) (sym w.seen-is)
          (sees_by_other self name ats i 0 c.loop-at.seen.items c.index-path.result.now c.loop-at-test.true is (subst (λ o. IfNone o ((rest : List ℕ) → name ≡ c.index-path.result.now.text.now ++ 46 ∷ rest → ⊥)) w.in_default.is c.after.ensures.none) c.loop-at.invariant)
    ]

pub returns : goal.returns
returns c =
    let self = c.args.self.now in
    let past = ap length c.deref-at-items.ensures.value in
    sees_by_all self c.args.system c.args.name.now c.in_ok-ats.ats.items c.loop-at.at-index c.loop-at.seen.items c.requires.targets c.in_ok-ats.ensures (let l = c.loop-at-test.false in omega (arith, l, past))
    (subst (λ z. SeesBy self c.args.name.now (take c.loop-at.at-index z) c.loop-at.seen.items) c.deref-at-items.ensures.value c.loop-at.invariant)
